use Rattle.std.proofs.Common.{take}
use Rattle.std.specs.List.{flat_map}
use Rattle.usb_text.specs.inside.Pages.{Puts}
use Rattle.usb_listing.proofs.listing.list_all.Given as goal

abbrev pub invariant-loop-item : goal.invariant-loop-item
invariant-loop-item g l = Puts (g.W.Write.contents l.initial.w) (g.W.Write.contents l.w) l.initial.page l.page
    (flat_map g.T.Listed.lines (take l.item-index l.items))
