use Rattle.std.proofs.Common.{◌≡◌, arith, true, slice_index}
use Rattle.hex.specs.Hex.{is_hex_digit}
use Rattle.usb_hex.proofs.DigitItems.{digit_first}
use Rattle.usb_hex.proofs.hex_text.line_item.Goals as goal

pub returns-in-len1-up-clause-is : goal.returns-in-len1-up-clause-is
returns-in-len1-up-clause-is c =
    let is : is_hex_digit (slice_index c.args.text.now 0) ≡ true = cc in
    rw (digit_first c.args.form c.args.count c.args.text.now (omega arith) is) c.mark_or_byte.ensures.is
