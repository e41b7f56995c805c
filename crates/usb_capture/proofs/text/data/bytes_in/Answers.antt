use Rattle.std.proofs.Common.{sym, ◌∙◌, arith}
use Rattle.usb_capture.proofs.WordLemmas.{bytes_none}
use Rattle.usb_capture.proofs.text.data.bytes_in.Goals as goal

pub returns-in_err-bytes : goal.returns-in_err-bytes
returns-in_err-bytes c =
    c.from_residual.ensures ∙ sym (bytes_none c.args.count c.loop-number.number c.args.text.now (omega arith) (sym c.byte_in.ensures ∙ c.in_err-bytes.was))
