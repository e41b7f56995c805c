use Rattle.std.proofs.Common.{inr, sym, ◌∙◌, ap, arith}
use Rattle.std.proofs.lemmas.Result.{err_from_is_err_and}
use Rattle.usb_capture.specs.Files.{frame_list}
use Rattle.usb_capture.proofs.Parts.{ended, refused, still_open}
use Rattle.usb_capture.proofs.reader.CaptureReader.end_part.Goals as goal

pub returns-then-self-whole-clause-ok : goal.returns-then-self-whole-clause-ok
returns-then-self-whole-clause-ok c = still_open c.args.self.now (omega (arith, c.if-self-whole.true, c.whole.ensures))

pub returns-in_err-content-clause-refused : goal.returns-in_err-content-clause-refused
returns-in_err-content-clause-refused c =
    let p = err_from_is_err_and c.from_residual.result c.from_residual.ensures.1 in
    rw (p.1, p.2) (λ all frames kept. inr (refused c.args.self.now _ (omega (arith, c.if-self-whole.false, c.whole.ensures)) (sym c.in_err-content.was ∙ c.content.ensures) all frames kept))

pub returns-clause-ok : goal.returns-clause-ok
returns-clause-ok c all frames kept =
    ended c.args.self.now c.clear.new.self c.in_ok-content.content _ (omega (arith, c.if-self-whole.false, c.whole.ensures))
    (sym c.in_ok-content.was ∙ c.content.ensures)
    (c.in_ok-frame.ensures ∙ ap (frame_list c.in_ok-content.content) c.deref.ensures.value)
    (c.clear.ensures.state ∙ c.in_ok-go_on.ensures.state)
    c.clear.ensures.held c.clear.ensures.last c.clear.ensures.count
    (omega (arith, c.clear.ensures.place, c.go_on.ensures.count, c.go_on.ensures.place))
    all frames kept
