use Rattle.std.proofs.Common.{◌≡◌, drop}
use Rattle.std.specs.List.{flat_map}
use Rattle.usb_set.specs.Owners.{association_in}
use Rattle.usb_file_data.proofs.association.has_association.Given as goal

abbrev pub invariant-loop-extra : goal.invariant-loop-extra
invariant-loop-extra l = flat_map association_in (drop l.extra-index l.extras) ≡ flat_map association_in l.extras
