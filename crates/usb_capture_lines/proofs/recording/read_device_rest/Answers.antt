use Rattle.std.proofs.Common.{◌∷◌}
use Rattle.std.proofs.lemmas.Result.{IfOk-weaker}
use Rattle.usb_capture_lines.proofs.RunLemmas.{err_weaker, none_stopped}
use Rattle.usb_capture_lines.proofs.recording.read_device_rest.Goals as goal

pub returns-in-Ok-clause-ok : goal.returns-in-Ok-clause-ok
returns-in-Ok-clause-ok g c =
    let pours = c.in-Ok.ensures.ok _ _ (c.new-recording.ensures _) in
    IfOk-weaker c.file_of.result _ _ (λ file made. record { bytes = pours.bytes; read = pours.read; all = made _ _ (c.args.first ∷ pours.bytes) _ _ pours.all }) c.file_of.ensures.ok

pub returns-in-Ok-clause-err : goal.returns-in-Ok-clause-err
returns-in-Ok-clause-err g c =
    let pours = c.in-Ok.ensures.ok _ _ (c.new-recording.ensures _) in
    err_weaker c.file_of.result (λ fault none. record { bytes = pours.bytes; read = pours.read; all = none _ _ (c.args.first ∷ pours.bytes) _ _ _ pours.all c.in-Ok.ensures.ended }) c.file_of.ensures.err

pub returns-clause-err : goal.returns-clause-err
returns-clause-err g c =
    let pours = c.in-Err.ensures.err _ _ (c.new-recording.ensures _) in
    record { bytes = pours.bytes; read = pours.read; all = none_stopped c.args.device _ c.args.first _ _ _ _ (g.R.Read.remaining c.read_recording.new.r) c.in-Err.stop pours.all }
