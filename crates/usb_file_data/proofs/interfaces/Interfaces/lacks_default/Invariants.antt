use Rattle.std.proofs.Common.{◌≡◌, ℕ, ◌<◌, [], map, get_or, true}
use Rattle.usb_fields.specs.Marks.{is_marked}
use Rattle.usb_file_data.proofs.interfaces.Interfaces.lacks_default.Given as goal

abbrev pub invariant-loop-interface : goal.invariant-loop-interface
invariant-loop-interface l = (k : ℕ) → k < l.interface-index → is_marked (get_or (map (λ i. i.alternates) l.interface-items) k []) 0 ≡ true
