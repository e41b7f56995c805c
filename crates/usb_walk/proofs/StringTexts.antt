-- The strings behind a list of languages, each at its place.
use Rattle.std.proofs.Common.{◌≡◌, ◌≤◌, ◌<◌, inl, inr, ℕ, zero, suc, ◌+◌, ◌-◌, ◌*◌, ◌/◌, ◌%◌, ◌==◌, nat_lt, List, [], ◌∷◌, true, false, get_or, slice_index, length, map, drop, refl, sym, ap, ap₂, ◌∙◌, arith, length-append}
use Rattle.std.specs.Prelude.{zip}
use Rattle.std.specs.List.{flat_map}
use Rattle.std.proofs.Math.ListN.{get_or-append}
use Rattle.std.proofs.Math.Nat.{div-eq-sub-div, div-eq_of_lt, mod-eq-sub-mod, mod-eq_of_lt}
use Rattle.std.proofs.Math.Seq.{drop-cons}
use Rattle.std.proofs.lemmas.Bool.{cases_lt, cond-false, cond-true}
use Rattle.std.proofs.lemmas.Bool.Decides.{nat_tests}
use Rattle.std.proofs.lemmas.List.{get_or-append_right, get_or-map, length-map}
use Rattle.usb_fields.specs.Bytes.{little_endian, little_endian_at}
use Rattle.usb_fields.specs.Units.{units_bytes}
use Rattle.usb_walk.specs.Trees.{text_descriptor}
use Rattle.usb_walk.specs.declared.string_place.StringPlace.{StringPlace}
use Rattle.usb_walk.specs.NamedStrings.{indices_in, language_in, no_string, string_among}
use Rattle.usb_walk.specs.WalkedStrings.{in_language, indexed, string_places}
use Rattle.usb_walk.proofs.StringItems.{strings_from}

-- ---- the languages of a list

unit_at : (u : List ℕ) (n : ℕ) → n < length u → slice_index (flat_map little_endian u) (2 * n) + 256 * slice_index (flat_map little_endian u) (2 * n + 1) ≡ slice_index u n
unit_at [] n below = absurd (omega (arith, below))
unit_at (x ∷ u) zero below = omega arith
unit_at (x ∷ u) (suc n) below =
    let one : 2 * suc n ≡ suc (suc (2 * n)) = omega arith in
    let two : 2 * suc n + 1 ≡ suc (suc (2 * n + 1)) = omega arith in
    let bytes = flat_map little_endian (x ∷ u) in
    ap₂ (λ low high. low + 256 * high) (ap (λ k. slice_index bytes k) one) (ap (λ k. slice_index bytes k) two) ∙ unit_at u n (omega (arith, below))

language_is : (languages : List ℕ) (n : ℕ) → n < length languages → length languages ≤ 126 → language_in (units_bytes languages) n ≡ slice_index languages n
language_is languages n below few =
    let b = units_bytes languages in
    let small : nat_lt n 126 ≡ true = grind (arith, nat_tests) in
    let one : 2 + 2 * n ≡ suc (suc (2 * n)) = omega arith in
    let two : 2 + 2 * n + 1 ≡ suc (suc (2 * n + 1)) = omega arith in
    cond-true (nat_lt n 126) (little_endian_at b (2 + 2 * n)) 0 small
    ∙ ap₂ (λ low high. low + 256 * high) (ap (λ k. slice_index b k) one) (ap (λ k. slice_index b k) two)
    ∙ unit_at languages n below

-- ---- the places of strings

-- the place by its number
abbrev pub place_at : List ℕ → List ℕ → ℕ → StringPlace
place_at indices languages k = record { index = slice_index indices (k % length indices); language = slice_index languages (k / length indices) }

-- a place of these numbers
abbrev place_of : ℕ → ℕ → StringPlace
place_of index language = record { index = index; language = language }

pub count_places : (indices languages : List ℕ) → length (string_places indices languages) ≡ length languages * length indices
count_places indices [] = omega arith
count_places indices (l ∷ ls) =
    let rest = count_places indices ls in
    let sum = length-append (map (in_language l) indices) (string_places indices ls) in
    let own = length-map indices (in_language l) in
    omega (arith, rest, sum, own)

pub places_are : (indices languages : List ℕ) (k : ℕ) → 0 < length indices → k < length languages * length indices
    → get_or (string_places indices languages) k no_string ≡ place_at indices languages k
places_are indices [] k some below = absurd (omega (arith, below))
places_are indices (l ∷ ls) k some below =
    let n = length indices in
    let own = map (in_language l) indices in
    let rest = string_places indices ls in
    let many : length own ≡ n = length-map indices (in_language l) in
    elim (cases_lt k n) [
      | inl first ↦
          get_or-append own rest no_string k (omega (arith, first, many))
          ∙ get_or-map (in_language l) indices k 0 no_string first
          ∙ ap₂ place_of (ap (λ k. slice_index indices k) (sym (mod-eq_of_lt first))) (ap (λ k. slice_index (l ∷ ls) k) (sym (div-eq_of_lt first)))
      | inr later ↦
          let row : k / n ≡ suc ((k - n) / n) = div-eq-sub-div some later ∙ omega arith in
          get_or-append_right own rest n k no_string many later
          ∙ places_are indices ls (k - n) some (omega (arith, below, later))
          ∙ ap₂ place_of (ap (λ k. slice_index indices k) (sym (mod-eq-sub-mod later))) (ap (λ k. slice_index (l ∷ ls) k) (sym row))
    ]

pub among_is : (indices languages : List ℕ) (k : ℕ) → 0 < length indices → k / length indices < length languages → length languages ≤ 126
    → string_among indices (units_bytes languages) k ≡ place_at indices languages k
among_is indices languages k some below few =
    let n = length indices in
    let not_none : (n == 0) ≡ false = grind (arith, nat_tests) in
    let language = language_in (units_bytes languages) (k / n) in
    cond-false (n == 0) no_string (place_of (slice_index indices (k % n)) language) not_none
    ∙ ap (place_of (slice_index indices (k % n))) (language_is languages (k / n) below few)

-- ---- string by string

pub zip_none : {A B : Type 0} (xs : List A) → ◌≡◌ {A = List (A × B)} (zip xs []) []
zip_none [] = refl
zip_none (x ∷ xs) = refl

pub texts_by : (words list : List ℕ) (places : List StringPlace) (k : ℕ) (texts : List (List ℕ))
    → ((j : ℕ) → j < length places → string_among (indices_in words) list j ≡ get_or places j no_string) → k + length texts ≤ length places
    → strings_from words list k (map text_descriptor texts) ≡ map indexed (zip (drop k places) texts)
texts_by words list places k [] are room = ap (λ l. map indexed l) (sym (zip_none (drop k places)))
texts_by words list places k (t ∷ ts) are room =
    let below : k < length places = omega (arith, room) in
    let next : k + 1 ≡ suc k = omega arith in
    let here = drop-cons places k no_string below in
    ap₂ (λ place rest. indexed (place, t) ∷ rest) (are k below)
    (ap (λ n. strings_from words list n (map text_descriptor ts)) next ∙ texts_by words list places (suc k) ts are (omega (arith, room)))
    ∙ ap (λ places. map indexed (zip places (t ∷ ts))) (sym here)
