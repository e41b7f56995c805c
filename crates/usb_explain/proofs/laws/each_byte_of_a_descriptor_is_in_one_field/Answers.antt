use Rattle.usb_explain.proofs.FieldsCover.{fields_have_all_bytes}
use Rattle.usb_explain.proofs.laws.each_byte_of_a_descriptor_is_in_one_field.Goals as goal

pub returns : goal.returns
returns c = fields_have_all_bytes
