-- Places in an image.
use Rattle.std.proofs.Common.{◌≡◌, ℕ, zero, suc, ◌+◌, ◌≤◌, List, [], ◌∷◌, length, take, drop, min, refl, ap, sym, ◌∙◌, arith, Some}
use Rattle.std.specs.Prelude.{option_and_then}
use Rattle.std.proofs.lemmas.List.{drop-drop, drop_min}
use Rattle.usb_device.specs.declared.piece.Place.{Place}
use Rattle.usb_device.specs.Images.{find_in, pieces_of, string_in}
use Rattle.usb_device.specs.inside.Places.{bytes_at, IsPlace}

-- part of a part is part of the whole
pub part_of_part : (n start count : ℕ) (b : List ℕ) → start + count ≤ length (take n b) → take count (drop start (take n b)) ≡ take count (drop start b)
part_of_part n start zero b within = refl
part_of_part zero start (suc count) b within = absurd (let no : ⊥ = omega (arith, within) in no)
part_of_part (suc n) start (suc count) [] within = refl
part_of_part (suc n) zero (suc count) (x ∷ b) within = ap (λ rest. x ∷ rest) (part_of_part n zero count b (omega (arith, within)))
part_of_part (suc n) (suc start) (suc count) (x ∷ b) within = part_of_part n start (suc count) b (omega (arith, within))

pub part_at : (b : List ℕ) (s p : Place) → IsPlace (bytes_at b s) p → bytes_at (bytes_at b s) p ≡ bytes_at b (record { start = s.start + p.start; count = p.count })
part_at b s p within = part_of_part s.count p.start p.count (drop s.start b) within ∙ ap (take p.count) (drop-drop p.start s.start b)

-- a string in the part of its language
pub string_there : (b : List ℕ) (s p : Place) (index language : ℕ) → IsPlace (bytes_at b s) p → Some (bytes_at b s) ≡ find_in (pieces_of b) 128 0 language →
    Some (bytes_at (bytes_at b s) p) ≡ string_in index (bytes_at b s) →
    Some (bytes_at b (record { start = s.start + p.start; count = p.count })) ≡ option_and_then (string_in index) (find_in (pieces_of b) 128 0 language)
string_there b s p index language within strings found =
    ap (λ x. Some x) (sym (part_at b s p within)) ∙ found ∙ ap (option_and_then (string_in index)) strings

-- a string among those of its language, behind their table
pub from_place : (n s t : ℕ) (b : List ℕ) → take n (drop (min (2 + s + t) (length b)) b) ≡ take n (drop t (drop s (drop 2 b)))
from_place n s t b = ap (take n) (drop_min (2 + s + t) b ∙ sym (ap (drop t) (drop-drop s 2 b) ∙ drop-drop t (2 + s) b))
