-- Laws of the bytes of a list of units.
use Rattle.std.proofs.Common.{◌≡◌, ℕ, ◌+◌, ◌*◌, ◌/◌, ◌%◌, ◌<◌, ◌≤◌, List, [], ◌∷◌, ◌++◌, length, take, slice_index, slice_set, get_or, None, refl, ap, sym, ◌∙◌, append_assoc, arith}
use Rattle.std.proofs.lemmas.List.{length-set, take_more, take_more_set}
use Rattle.std.proofs.lemmas.List.Concat.{flat_map-append}
use Rattle.std.proofs.lemmas.Bool.Decides.{nat_tests}
use Rattle.std.proofs.lemmas.Grind.{common_steps}
use Rattle.std.specs.List.{flat_map}
use Rattle.usb_fields.specs.Bytes.{AreBytes, little_endian}
use Rattle.usb_fields.specs.Units.{units_bytes, unit_fault}

pub length-flat_map : (u : List ℕ) → length (flat_map little_endian u) ≡ 2 * length u
length-flat_map [] = refl
length-flat_map (n ∷ u) = let rest = length-flat_map u in omega arith

-- the bytes of units have no fault
pub unit_fault-units_bytes : (u : List ℕ) → unit_fault (units_bytes u) ≡ None
unit_fault-units_bytes u =
    let long : length (units_bytes u) ≡ 2 + 2 * length u = omega (arith, length-flat_map u) in
    grind (arith, nat_tests, common_steps)

same_words : (u v : List ℕ) → flat_map little_endian u ≡ flat_map little_endian v → u ≡ v
same_words [] [] same = refl
same_words [] (m ∷ v) same = cc
same_words (n ∷ u) [] same = cc
same_words (n ∷ u) (m ∷ v) same =
    let low : n % 256 ≡ m % 256 = cc in
    let high : n / 256 ≡ m / 256 = cc in
    let first : n ≡ m = omega arith in
    let more : flat_map little_endian u ≡ flat_map little_endian v = cc in
    let rest = same_words u v more in
    cc

-- units with the same bytes are the same
pub same_units : (u v : List ℕ) → units_bytes u ≡ units_bytes v → u ≡ v
same_units u v same = same_words u v cc

-- the units whose bytes these are, two by two
abbrev units_in : List ℕ → List ℕ
units_in [] = []
units_in (low ∷ []) = []
units_in (low ∷ high ∷ b) = (low + 256 * high) ∷ units_in b

-- bytes of even number are written again as they were read
written_units : (b : List ℕ) → AreBytes b → length b % 2 ≡ 0 → (flat_map little_endian (units_in b) ≡ b) × (2 * length (units_in b) ≡ length b)
written_units [] bytes even = (refl, refl)
written_units (low ∷ []) bytes even = absurd (omega arith)
written_units (low ∷ high ∷ b) bytes even =
    let first : low < 256 = bytes.0 in
    let second : high < 256 = bytes.1.0 in
    let written_low : (low + 256 * high) % 256 ≡ low = omega arith in
    let written_high : (low + 256 * high) / 256 ≡ high = omega arith in
    let rest = written_units b bytes.1.1 (omega arith) in
    let more = rest.0 in
    (cc, omega (arith, rest.1))

-- the list has the length, the bLength and the bDescriptorType of a list of units
record IsUnits (b : List ℕ) : Type 0 where
  two : 2 ≤ length b
  size_byte : get_or b 0 0 ≡ length b
  kind_byte : get_or b 1 0 ≡ 3
  even : length b % 2 ≡ 0

is_units : (b : List ℕ) → unit_fault b ≡ None → IsUnits b
is_units b none =
    record {
      two = grind (arith, nat_tests);
      size_byte = grind (arith, nat_tests);
      kind_byte = grind (arith, nat_tests);
      even = grind (arith, nat_tests);
    }

-- bytes without a fault are those of some units
pub legal_units : (b : List ℕ) → AreBytes b → unit_fault b ≡ None → (u : List ℕ) × (length u ≤ 126) × (units_bytes u ≡ b)
legal_units b bytes none = legal b bytes (is_units b none)
  where
    legal : (b : List ℕ) → AreBytes b → IsUnits b → (u : List ℕ) × (length u ≤ 126) × (units_bytes u ≡ b)
    legal [] bytes is = absurd (omega (arith, is.two))
    legal (size ∷ []) bytes is = absurd (omega (arith, is.two))
    legal (size ∷ kind ∷ b) bytes is =
        let small : size < 256 = bytes.0 in
        let units = written_units b bytes.1.1 (omega (arith, is.even)) in
        let same = units.0 in
        let long : 2 * length (units_in b) ≡ length b = units.1 in
        let counted : size ≡ 2 + 2 * length (units_in b) = omega (arith, is.size_byte) in
        let kinded : kind ≡ 3 = is.kind_byte in
        (units_in b, omega arith, cc)

-- one unit more is written
pub unit_written : (u bytes : List ℕ) (i low high : ℕ) → i < length u → 2 * i + 1 < length bytes → low ∷ high ∷ [] ≡ little_endian (slice_index u i)
    → take (2 * i) bytes ≡ flat_map little_endian (take i u)
    → take (2 * (i + 1)) (slice_set (slice_set bytes (2 * i) low) (2 * i + 1) high) ≡ flat_map little_endian (take (i + 1) u)
unit_written u bytes i low high lt fits is inv =
    let two : 2 * (i + 1) ≡ 2 * i + 1 + 1 = omega arith in
    let n = length-set bytes (2 * i) low in
    let second = take_more_set (slice_set bytes (2 * i) low) (2 * i + 1) high (omega (arith, n, fits)) in
    let first = take_more_set bytes (2 * i) low (omega (arith, fits)) in
    let more = take_more u i 0 lt in
    rw (two, second, first, inv, more)
    (append_assoc (flat_map little_endian (take i u)) (low ∷ []) (high ∷ [])
    ∙ ap (λ (xs : List ℕ). flat_map little_endian (take i u) ++ xs) is
    ∙ sym (flat_map-append little_endian (take i u) (slice_index u i ∷ [])))
