use Rattle.std.proofs.Common.{[], ◌∷◌, subst, sym}
use Rattle.std.proofs.lemmas.Result.{on_ok_weaker}
use Rattle.std.proofs.KnownBytes.{Consumes-nil}
use Rattle.usb_capture_lines.specs.RecordingRuns.{PoursInVain}
use Rattle.usb_capture_lines.proofs.RunLemmas.{err_weaker, reads_nothing, stops_by}
use Rattle.usb_capture_lines.proofs.recording.read_recording.Goals as goal

pub returns-in-Ok-clause-ok : goal.returns-in-Ok-clause-ok
returns-in-Ok-clause-ok g c =
    on_ok_weaker c.read_rest.result (λ pours s held report. pours s c.args.first (c.args.first ∷ []) held (c.in-Ok.ensures.ok s c.args.first [] held report)) c.read_rest.ensures.ok

pub returns-in-Ok-clause-err : goal.returns-in-Ok-clause-err
returns-in-Ok-clause-err g c =
    err_weaker c.read_rest.result (λ fault pours s held report. pours s c.args.first (c.args.first ∷ []) held (c.in-Ok.ensures.ok s c.args.first [] held report)) c.read_rest.ensures.err

pub returns-in-Err-clause-err : goal.returns-in-Err-clause-err
returns-in-Err-clause-err g c s held report =
    subst (PoursInVain s c.args.first (c.args.first ∷ []) _ _ _ held _) (sym c.recording_fault_of.ensures)
    (reads_nothing _ _ _ _ (Consumes-nil _) (stops_by s c.args.first _ _ held _ c.in-Err.fault (c.in-Err.ensures.err s c.args.first [] held report)))
