use Rattle.usb_hex.proofs.Apart.{apart}
use Rattle.usb_hex.proofs.laws.hexadecimal_text_is_no_descriptor.Goals as goal

pub returns : goal.returns
returns c = apart
