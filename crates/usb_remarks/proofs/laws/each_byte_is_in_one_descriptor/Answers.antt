use Rattle.usb_remarks.proofs.Spans.{once_by}
use Rattle.usb_remarks.proofs.rest.Inputs.{whole_has_no_rest}
use Rattle.usb_remarks.proofs.laws.each_byte_is_in_one_descriptor.Goals as goal

pub returns-clause-bytes : goal.returns-clause-bytes
returns-clause-bytes c = once_by

pub returns-clause-inputs : goal.returns-clause-inputs
returns-clause-inputs c = whole_has_no_rest
