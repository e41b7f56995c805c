use Rattle.std.proofs.Common.{◌≡◌, drop, length}
use Rattle.usb_capture.specs.Findings.{lists_language}
use Rattle.usb_capture.proofs.named_strings.has_language.Given as goal

abbrev pub invariant-loop-rest : goal.invariant-loop-rest
invariant-loop-rest l = lists_language l.fn.language l.rest ≡ lists_language l.fn.language (drop 2 l.fn.list)

abbrev pub decreases-loop-rest : goal.decreases-loop-rest
decreases-loop-rest l = length l.rest
