use Rattle.std.proofs.Common.{ℕ, List}
use Rattle.usb_text.specs.Output.{Held}
use Rattle.usb_capture_lines.specs.RecordingTellers.{HasReported}
use Rattle.usb_capture_lines.specs.RecordingRuns.{Pours}
use Rattle.usb_capture_lines.specs.declared.selection.Selection.{Selection}
use Rattle.usb_capture_lines.proofs.recording.read_rest.Given as goal

abbrev pub invariant-loop : goal.invariant-loop
invariant-loop g l =
    (s : Selection) (first : ℕ) (before : List ℕ) (held : Held) → HasReported s first before l.fn.recording held (g.W.Write.contents l.fn.w)
    → Pours s first before (g.R.Read.remaining l.fn.r) (g.R.Read.remaining l.r) l.recording held (g.W.Write.contents l.w)
