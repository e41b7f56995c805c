use Rattle.std.proofs.Common.{◌≡◌}
use Rattle.usb_capture.specs.Words.{after_parts}
use Rattle.usb_capture.proofs.text.words.after_parts.Given as goal

abbrev pub invariant-loop-number : goal.invariant-loop-number
invariant-loop-number l = l.rest ≡ after_parts l.fn.byte l._number l.fn.text
