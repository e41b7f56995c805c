use Rattle.std.proofs.Common.{sym, ◌∙◌}
use Rattle.usb_listing.proofs.LawLemmas.{one_file}
use Rattle.usb_listing.proofs.reader_laws.one_file.Goals as goal

pub returns-clause-read : goal.returns-clause-read
returns-clause-read c = one_file

pub returns-clause-listed : goal.returns-clause-listed
returns-clause-listed c = λ f s t x y. x.lines ∙ sym y.lines
