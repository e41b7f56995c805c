use Rattle.std.proofs.Common.{ℕ, List}
use Rattle.usb_text.specs.Output.{Held}
use Rattle.usb_capture_lines.specs.RecordingTellers.{HasReported}
use Rattle.usb_capture_lines.specs.declared.selection.Selection.{Selection}
use Rattle.usb_capture_lines.proofs.RecordingLemmas.{TakesPiece}
use Rattle.usb_capture_lines.proofs.recording_teller.RecordingTeller.take.Given as goal

abbrev pub invariant-loop : goal.invariant-loop
invariant-loop g l =
    (s : Selection) (first : ℕ) (bytes : List ℕ) (held : Held) → HasReported s first bytes l.fn.self held (g.W.Write.contents l.fn.w)
    → TakesPiece s first bytes l.piece l.rest l.counter l.self held (g.W.Write.contents l.w)
