use Rattle.std.proofs.Common.{◌≡◌, map, drop}
use Rattle.usb_text.specs.Shown.{Number, showing_all}
use Rattle.test_calls.proofs.lines.put_numbers.Given as goal

abbrev pub invariant-loop-n : goal.invariant-loop-n
invariant-loop-n g l = showing_all g.P.Page.showing (map Number (drop l.n-index l.numbers)) (g.P.Page.seen l.page) ≡ showing_all g.P.Page.showing (map Number l.numbers) (g.P.Page.seen l.initial.page)
