use Rattle.std.proofs.Common.{◌++◌, refl, sym, subst}
use Rattle.usb_capture_lines.specs.RecordingTellers.{Halts, tell_fault_of}
use Rattle.usb_capture_lines.specs.declared.recording_teller.RecordingTeller.{RecordingTeller}
use Rattle.usb_capture_lines.proofs.RecordingLemmas.{halts}
use Rattle.usb_capture_lines.proofs.recording_teller.RecordingTeller.take_front.Goals as goal

pub returns-in-Ok-tell-clause-ok : goal.returns-in-Ok-tell-clause-ok
returns-in-Ok-tell-clause-ok g c s first bytes held report = (
  λ some. c.in-Ok.ensures.goes_on bytes report.frames report.read some,
  record {
    frames = _;
    read = c.in-Ok.ensures.ok bytes report.frames report.read;
    going = c.in-Ok.ensures.going;
    report = c.in-Ok-tell.ensures s first report.frames held report.report;
  },
)

pub returns-in-Err-clause-err : goal.returns-in-Err-clause-err
returns-in-Err-clause-err g c s first bytes held report =
    let fault = c.in-Err.ensures.refused bytes report.frames report.read report.going in
    let all = bytes ++ c.args.piece.now in
    let new : RecordingTeller = record { reader = c.feed.new.self; teller = c.args.self.now.teller } in
    let holds = g.W.Write.contents c.args.w.now in
    subst (Halts s first all new held holds) (sym c.fault_at.ensures)
    (subst (λ at. Halts s first all new held holds (tell_fault_of c.in-Err.why at)) (sym c.place.ensures)
    (halts s first bytes c.args.piece.now c.in-Err.why c.feed.new.self.place c.args.self.now new held holds report refl fault))
