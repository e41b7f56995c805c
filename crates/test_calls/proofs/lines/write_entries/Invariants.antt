use Rattle.usb_text.specs.Written.{PutsLines, written}
use Rattle.test_calls.proofs.lines.write_entries.Given as goal

abbrev pub invariant-loop-i : goal.invariant-loop-i
invariant-loop-i g l = PutsLines (g.W.Write.contents l.initial.w) (g.W.Write.contents l.w) (written l.initial.lines) (written l.lines) l.i
