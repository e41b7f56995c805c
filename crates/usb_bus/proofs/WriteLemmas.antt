-- The packets of a write are the first bytes of its data.
use Rattle.std.proofs.Common.{◌≡◌, ℕ, zero, suc, ◌+◌, ◌-◌, ◌*◌, ◌/◌, ◌<◌, List, [], ◌∷◌, ◌++◌, length, take, drop, refl, ap, sym, ◌∙◌, arith, length-take, length-drop, zero-add}
use Rattle.std.specs.Prelude.{min}
use Rattle.std.proofs.lemmas.Nat.{div-mul-add}
use Rattle.usb_fields.specs.Packets.{toggle_of}
use Rattle.usb_device.specs.Step.{awaited}

-- the first bytes in two parts
pub take_parts : (a b : ℕ) (xs : List ℕ) → take (a + b) xs ≡ take a xs ++ take b (drop a xs)
take_parts zero b xs = ap (λ n. take n xs) (zero-add b)
take_parts (suc a) zero [] = (let e : suc a + 0 ≡ suc a = omega arith in rw e refl)
take_parts (suc a) (suc b) [] = (let e : suc a + suc b ≡ suc (a + suc b) = omega arith in rw e refl)
take_parts (suc a) b (x ∷ xs) = (let e : suc a + b ≡ suc (a + b) = omega arith in rw e (ap (λ y. x ∷ y) (take_parts a b xs)))

-- as many as there are
take_count : (n : ℕ) (xs : List ℕ) → take (length (take n xs)) xs ≡ take n xs
take_count zero xs = refl
take_count (suc n) [] = refl
take_count (suc n) (x ∷ xs) = ap (λ y. x ∷ y) (take_count n xs)

-- the toggle that is awaited after whole packets
pub awaited_whole : (size k came : ℕ) → 0 < size → came ≡ k * size → awaited size came ≡ toggle_of k
awaited_whole size k came pos e =
    ap (λ n. toggle_of ((n + (size - 1)) / size)) e ∙ ap toggle_of (div-mul-add k size (size - 1) (omega arith))

module _ (size k : ℕ) (all came : List ℕ) (came_is : came ≡ take (k * size) all) (whole : length came ≡ k * size) where
  abbrev pub packet : List ℕ
  packet = take size (drop (k * size) all)

  -- with the next packet too they are the first bytes
  pub first_bytes : came ++ packet ≡ take (k * size + length packet) all
  first_bytes =
      ap (λ x. x ++ packet) came_is ∙ ap (λ x. take (k * size) all ++ x) (sym (take_count size (drop (k * size) all)))
      ∙ sym (take_parts (k * size) (length packet) all)

  pub packet_size : length packet ≡ min size (length all - k * size)
  packet_size = length-take size (drop (k * size) all) ∙ ap (λ x. min size x) (length-drop (k * size) all)
