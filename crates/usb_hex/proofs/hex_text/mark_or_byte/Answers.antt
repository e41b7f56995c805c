use Rattle.std.proofs.Common.{sym, ◌∙◌, refl, arith}
use Rattle.usb_hex.proofs.DigitItems.{byte_first, mark_first, none_first}
use Rattle.usb_hex.proofs.hex_text.mark_or_byte.Goals as goal

pub returns-in_default-clause-is : goal.returns-in_default-clause-is
returns-in_default-clause-is c = none_first c.args.form c.args.c c.args.text.now (omega arith)

pub returns-in-Some-clause-is : goal.returns-in-Some-clause-is
returns-in-Some-clause-is c =
    let h = byte_first c.args.form c.args.c c.args.text.now c.in-Some.field-0 (omega arith) (sym c.in-Some.ensures) in
    h ∙ rw (sym c.if-is_too_long.ensures) refl

pub returns-in-Some-2-clause-is : goal.returns-in-Some-2-clause-is
returns-in-Some-2-clause-is c =
    let h = byte_first c.args.form c.args.c c.args.text.now c.in-Some.field-0 (omega arith) (sym c.in-Some.ensures) in
    h ∙ rw (sym c.if-is_too_long.ensures) refl

pub returns-in-None-clause-is : goal.returns-in-None-clause-is
returns-in-None-clause-is c =
    mark_first c.args.form c.args.c c.args.text.now (omega arith) (sym c.in-None.ensures) ∙ rw (sym c.if-marks_byte.ensures) refl

pub returns-in-None-2-clause-is : goal.returns-in-None-2-clause-is
returns-in-None-2-clause-is c =
    mark_first c.args.form c.args.c c.args.text.now (omega arith) (sym c.in-None.ensures) ∙ rw (sym c.if-marks_byte.ensures) refl
