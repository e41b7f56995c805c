-- A hexadecimal text has one reading.
use Rattle.std.proofs.Common.{◌≡◌, ℕ, ◌+◌, ◌<◌, ◌++◌, ◌⊎◌, List, [], length, Option, Some, None, refl, sym, ap, subst, ◌∙◌, inl, inr, arith}
use Rattle.usb_hex.specs.HexItems.{Item}
use Rattle.usb_hex.specs.HexText.{Reads, bytes_of, ends, goes_on}
use Rattle.usb_hex.specs.declared.hex_text.Form.{Form}
use Rattle.usb_hex.specs.declared.hex_text.HexFault.{HexFault}
use Rattle.usb_hex.specs.Hexadecimal.{FaultyAsIs, HasOneReading, HexAsIs}

abbrev byte_in : Item → Option ℕ
byte_in None = None
byte_in (Some p) = p.0

abbrev left_in : Item → List ℕ
left_in None = []
left_in (Some p) = p.1

once : {form : Form} {count : ℕ} {text a b l m : List ℕ} → Reads form count text a l → Reads form count text b m → (a ≡ b) × (l ≡ m)
once (ends e) (ends f) = (refl, refl)
once (ends e) (goes_on f q) = cc
once (goes_on e p) (ends f) = cc
once {form = form} {count = count} (goes_on {rest = r} {bytes = xs} {byte = x} e p) (goes_on {rest = s} {bytes = ys} {left = m} {byte = y} f q) =
    let is = sym e ∙ f in
    let byte : x ≡ y = ap byte_in is in
    let tail : r ≡ s = ap left_in is in
    let here = subst (λ (t : List ℕ). Reads form (count + length (bytes_of y)) t ys m) (sym tail) q in
    let there = subst (λ (b : Option ℕ). Reads form (count + length (bytes_of b)) r ys m) (sym byte) here in
    let later = once p there in
    (ap (λ (b : Option ℕ). bytes_of b ++ xs) byte ∙ ap (λ (l : List ℕ). bytes_of y ++ l) later.0, later.1)

-- a text is not both hexadecimal as it is and wrong so
not_both : (text bytes : List ℕ) (fault : HexFault) → HexAsIs text bytes → FaultyAsIs text fault → ⊥
not_both text bytes fault hex faulty = by faulty.wrong
  where
    same : (bytes ≡ faulty.bytes) × ([] ≡ faulty.left)
    same = once hex.read faulty.read

    by : (0 < length faulty.left) ⊎ (faulty.bytes ≡ []) → ⊥
    by (inl left) = (let none = ap (λ (l : List ℕ). length l) same.1 in omega (arith, left, none))
    by (inr none) = (let some = hex.some in let is = ap (λ (l : List ℕ). length l) (same.0 ∙ none) in omega (arith, some, is))

pub one_reading : HasOneReading
one_reading text bytes others (inl a) (inl b) = (once a.read b.read).0
one_reading text bytes others (inl a) (inr b) = absurd (not_both text bytes b.fault a b.first)
one_reading text bytes others (inr a) (inl b) = absurd (not_both text others a.fault b a.first)
one_reading text bytes others (inr a) (inr b) = (once a.is.read b.is.read).0
