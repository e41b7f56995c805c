use Rattle.std.proofs.Common.{◌≡◌, map, take}
use Rattle.usb_listing.specs.inside.Thinning.{naming, without}
use Rattle.usb_listing.proofs.thinning.naming_others.Given as goal

abbrev pub invariant-loop-index : goal.invariant-loop-index
invariant-loop-index l = l.settings.items ≡ map naming (without (take l.index-index l.all) l.others)
