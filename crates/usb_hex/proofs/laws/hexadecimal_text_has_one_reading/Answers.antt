use Rattle.usb_hex.proofs.OneReading.{one_reading}
use Rattle.usb_hex.proofs.laws.hexadecimal_text_has_one_reading.Goals as goal

pub returns : goal.returns
returns c = one_reading
