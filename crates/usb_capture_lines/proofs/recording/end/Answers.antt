use Rattle.usb_capture_lines.proofs.RunLemmas.{whole_kept}
use Rattle.usb_capture_lines.proofs.recording.end.Goals as goal

pub returns-in_ok-flush-in-Ok-clause-ok : goal.returns-in_ok-flush-in-Ok-clause-ok
returns-in_ok-flush-in-Ok-clause-ok g c s first bytes held report =
    whole_kept s first bytes held _ _ c.in-Ok.found (c.in-Ok.ensures s first bytes held report) c.flush.ensures.kept
