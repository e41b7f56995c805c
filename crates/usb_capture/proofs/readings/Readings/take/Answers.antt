use Rattle.usb_capture.proofs.ReadingLemmas.{read_more}
use Rattle.usb_capture.proofs.readings.Readings.take.Goals as goal

pub returns-clause-ok : goal.returns-clause-ok
returns-clause-ok c = read_more c.keep.result c.args.transfer c.args.self.now c.keep.new.self c.keep.ensures.ok
