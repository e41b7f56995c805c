use Rattle.std.proofs.Common.{length}
use Rattle.usb_text.proofs.Pages.{WritesFrom}
use Rattle.usb_text.proofs.output.write_all.Given as goal

abbrev pub invariant-loop-rest : goal.invariant-loop-rest
invariant-loop-rest g l = WritesFrom (g.W.Write.contents l.initial.w) (g.W.Write.contents l.w) l.bytes l.rest

abbrev pub decreases-loop-rest : goal.decreases-loop-rest
decreases-loop-rest g l = length l.rest
