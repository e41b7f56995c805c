use Rattle.usb_listing.specs.Comments.{uncommented}
use Rattle.usb_listing.proofs.comment_laws.one_file.Goals as goal

pub returns-clause-read : goal.returns-clause-read
returns-clause-read c = λ text. c.one_file.ensures.read (uncommented text)

pub returns-clause-listed : goal.returns-clause-listed
returns-clause-listed c = λ f s t. c.one_file.ensures.listed f (uncommented s) (uncommented t)
