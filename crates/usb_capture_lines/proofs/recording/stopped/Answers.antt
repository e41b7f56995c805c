use Rattle.std.proofs.Common.{subst}
use Rattle.usb_capture_lines.specs.RecordingRuns.{Stops, first_byte}
use Rattle.usb_capture_lines.proofs.RunLemmas.{reported_so_far}
use Rattle.usb_capture_lines.proofs.recording.stopped.Goals as goal

pub returns-in-Read : goal.returns-in-Read
returns-in-Read g c s bytes held report =
    reported_so_far s bytes c.args.recording.now held _ (subst (Stops s (first_byte bytes) bytes c.args.recording.now held _) c.in-Read.is report)

pub returns-in-TooLarge : goal.returns-in-TooLarge
returns-in-TooLarge g c s bytes held report =
    reported_so_far s bytes c.args.recording.now held _ (subst (Stops s (first_byte bytes) bytes c.args.recording.now held _) c.in-TooLarge.is report)
