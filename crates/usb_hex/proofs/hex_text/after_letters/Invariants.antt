use Rattle.std.proofs.Common.{◌≡◌, length}
use Rattle.usb_hex.specs.HexText.{is_digit_letter}
use Rattle.usb_hex.specs.Columns.{after_all}
use Rattle.usb_hex.proofs.hex_text.after_letters.Given as goal

abbrev pub invariant-loop-rest : goal.invariant-loop-rest
invariant-loop-rest l = after_all is_digit_letter l.rest ≡ after_all is_digit_letter l.text

abbrev pub decreases-loop-rest : goal.decreases-loop-rest
decreases-loop-rest l = length l.rest
