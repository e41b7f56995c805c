use Rattle.std.proofs.Common.{inl, refl}
use Rattle.usb_capture_lines.proofs.RunLemmas.{broken_kept}
use Rattle.usb_capture_lines.proofs.recording.end_at.Goals as goal

pub returns-in-Ok-flush : goal.returns-in-Ok-flush
returns-in-Ok-flush g c s first bytes held report =
    inl (refl, broken_kept s first bytes c.args.why c.args.at held _ _ (c.in-Ok.ensures s first bytes c.args.why held report) c.flush.ensures.kept)
