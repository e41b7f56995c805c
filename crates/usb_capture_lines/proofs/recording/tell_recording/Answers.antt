use Rattle.std.proofs.Common.{[], subst}
use Rattle.std.proofs.lemmas.Result.{IfOk-weaker}
use Rattle.usb_capture_lines.specs.RecordingRuns.{ReadsByte}
use Rattle.usb_capture_lines.proofs.RunLemmas.{after_one, err_weaker, kept_is_nothing, nothing_is_reported, reads_nothing, stops_writing}
use Rattle.usb_capture_lines.proofs.recording.tell_recording.Goals as goal

pub returns-in-Ok-Some-clause-ok : goal.returns-in-Ok-Some-clause-ok
returns-in-Ok-Some-clause-ok g c =
    let read = subst (ReadsByte _ _) c.in-Ok-Some.field-0-is c.in-Ok-Some.ensures.ok in
    IfOk-weaker c.tell_rest.result _ _ (λ found report. (report.0, after_one c.in-Ok-Some.first _ _ _ _ read report.1)) c.tell_rest.ensures.ok

pub returns-in-Ok-Some-clause-err : goal.returns-in-Ok-Some-clause-err
returns-in-Ok-Some-clause-err g c =
    let read = subst (ReadsByte _ _) c.in-Ok-Some.field-0-is c.in-Ok-Some.ensures.ok in
    err_weaker c.tell_rest.result (λ fault stopped. after_one c.in-Ok-Some.first _ _ _ _ read stopped) c.tell_rest.ensures.err

pub returns-in-Ok-None-clause-ok : goal.returns-in-Ok-None-clause-ok
returns-in-Ok-None-clause-ok g c =
    let held = g.W.Write.contents c.args.w.now in
    let read = subst (ReadsByte _ _) c.in-Ok-None.field-0-is c.in-Ok-None.ensures.ok in
    IfOk-weaker c.end.result _ _ (λ found ends. (read.1, reads_nothing [] _ _ _ read.0 (ends c.args.selection 0 [] held (c.new.ensures held)))) c.end.ensures.ok

pub returns-in-Ok-None-clause-err : goal.returns-in-Ok-None-clause-err
returns-in-Ok-None-clause-err g c =
    let read = subst (ReadsByte _ _) c.in-Ok-None.field-0-is c.in-Ok-None.ensures.ok in
    err_weaker c.end.result (λ fault failed. reads_nothing [] _ _ _ read.0 (stops_writing c.args.selection [] _ _ fault failed)) c.end.ensures.err

pub returns-in-Err-clause-err : goal.returns-in-Err-clause-err
returns-in-Err-clause-err g c =
    reads_nothing [] _ _ _ (kept_is_nothing _ _ c.in-Err.ensures.err) (nothing_is_reported c.args.selection (g.W.Write.contents c.args.w.now))
