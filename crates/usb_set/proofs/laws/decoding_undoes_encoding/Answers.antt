use Rattle.usb_set.proofs.ReadBack.{front_open, reads_back}
use Rattle.usb_set.proofs.laws.decoding_undoes_encoding.Goals as goal

pub returns-clause-waits : goal.returns-clause-waits
returns-clause-waits c = front_open

pub returns-clause-reads : goal.returns-clause-reads
returns-clause-reads c = reads_back
