use Rattle.std.proofs.Common.{subst}
use Rattle.usb_hex.specs.Hexadecimal.{HexRefused}
use Rattle.usb_hex.specs.declared.hex_text.HexFault.{HexFault}
use Rattle.usb_tool.proofs.Hexadecimal.{no_text, text_refused}
use Rattle.usb_tool.proofs.explanation.explain_text.Goals as goal

pub returns-then-explanation-clause-err : goal.returns-then-explanation-clause-err
returns-then-explanation-clause-err g c =
    let text = c.in-Err-Text in
    text_refused c.args.explanation.loose c.args.explanation.hex c.args.explanation.manner c.args.bytes.now (g.W.Write.contents c.args.w.now) text.line text.column text.found c.if-explanation.true
    (no_text c.args.bytes.now text.line text.column text.found
    (subst (λ (fault : HexFault). HexRefused c.args.bytes.now fault) text.field-0-is text.ensures.err))
