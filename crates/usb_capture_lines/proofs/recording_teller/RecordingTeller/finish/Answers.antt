use Rattle.usb_capture_lines.proofs.RecordingLemmas.{reported_whole}
use Rattle.usb_capture_lines.proofs.recording_teller.RecordingTeller.finish.Goals as goal

pub returns : goal.returns
returns g c s first bytes held report =
    reported_whole s first bytes c.args.self.now held _ _ c.place.result c.pending.result c.finds_any.result report c.place.ensures (c.pending.ensures bytes report.frames report.read) c.finds_any.ensures c.in_ok-finish.ensures
