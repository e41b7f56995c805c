use Rattle.usb_explain.proofs.Fragments.{fragment_once}
use Rattle.usb_explain.proofs.laws.each_byte_of_a_fragment_is_in_one_descriptor.Goals as goal

pub returns : goal.returns
returns c = fragment_once
