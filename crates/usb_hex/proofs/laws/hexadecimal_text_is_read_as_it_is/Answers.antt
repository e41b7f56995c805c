use Rattle.std.proofs.Common.{inl}
use Rattle.usb_hex.proofs.laws.hexadecimal_text_is_read_as_it_is.Goals as goal

pub returns : goal.returns
returns c = λ text bytes hex. inl hex
