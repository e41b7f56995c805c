use Rattle.std.proofs.Common.{length}
use Rattle.usb_text.proofs.WrittenLines.{BegunBehind}
use Rattle.usb_text.proofs.lines.ended_lines.Given as goal

abbrev pub invariant-loop-rest : goal.invariant-loop-rest
invariant-loop-rest l = BegunBehind l.bytes l.rest

abbrev pub decreases-loop-rest : goal.decreases-loop-rest
decreases-loop-rest l = length l.rest
