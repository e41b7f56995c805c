use Rattle.std.proofs.Common.{[], None, subst}
use Rattle.std.proofs.lemmas.Result.{IfOk-weaker}
use Rattle.usb_capture_lines.specs.RecordingRuns.{ReadsByte}
use Rattle.usb_capture_lines.proofs.RunLemmas.{err_weaker, reads_nothing}
use Rattle.usb_capture_lines.proofs.recording.read_device.Goals as goal

pub returns-in-Ok-None-clause-ok : goal.returns-in-Ok-None-clause-ok
returns-in-Ok-None-clause-ok g c =
    let read = subst (ReadsByte _ _) c.in-Ok-None.field-0-is c.in-Ok-None.ensures.ok in
    IfOk-weaker c.file_of.result _ _ (λ file made. reads_nothing [] _ _ _ read.0 (made _ _ [] _ _ (c.new.ensures None))) c.file_of.ensures.ok

pub returns-in-Ok-None-clause-err : goal.returns-in-Ok-None-clause-err
returns-in-Ok-None-clause-err g c =
    let read = subst (ReadsByte _ _) c.in-Ok-None.field-0-is c.in-Ok-None.ensures.ok in
    err_weaker c.file_of.result (λ fault none. reads_nothing [] _ _ _ read.0 (none _ _ [] _ _ _ (c.new.ensures None) read.1)) c.file_of.ensures.err
