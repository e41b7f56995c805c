-- What is kept at first.
use Rattle.std.proofs.Common.{◌≡◌, ℕ, List, [], length, ap, arith, inl}
use Rattle.usb_find.specs.declared.kept.Kept.{Kept}
use Rattle.usb_find.specs.inside.Bounds.{IsKept}

pub fresh : (b : List ℕ) (k : Kept) → k.ways.items ≡ [] → k.walked ≡ 0 → IsKept b k
fresh b k e w =
    let none : length k.ways.items ≡ 0 = ap length e in
    record { ways = λ i s le below. absurd (omega (arith, none, below)); count = inl none; walked = omega (arith, w) }
