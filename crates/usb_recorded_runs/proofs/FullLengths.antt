-- A descriptor's bytes say how many they are (USB 2.0, 9.5 and 9.6), and so do its first ones.
use Rattle.std.proofs.Common.{◌≡◌, ◌⊎◌, inl, inr, ◌<◌, ◌==◌, ◌&&◌, ◌||◌, nat_lt, ℕ, zero, suc, Bool, true, false, if◌then◌else◌, List, [], ◌∷◌, ◌++◌, length, refl, sym, ◌∙◌, ap, arith, length-append}
use Rattle.std.specs.Prelude.{Option, Some, None, slice_index, unwrap_or}
use Rattle.std.specs.Option.{option_map}
use Rattle.std.proofs.lemmas.Bool.Decides.{nat_tests}
use Rattle.std.proofs.lemmas.List.{append-nil, get_or_append_left}
use Rattle.usb_fields.specs.Bytes.{little_endian_at}
use Rattle.usb_fields.specs.Device.{device_bytes, qualifier_bytes}
use Rattle.usb_fields.specs.Units.{units_bytes}
use Rattle.usb_fields.proofs.UnitLemmas.{length-flat_map}
use Rattle.usb_set.specs.declared.tree.Configuration.{Configuration}
use Rattle.usb_set.specs.Layout.{set_bytes, set_length}
use Rattle.usb_set.proofs.Sets.{length-set_bytes}
use Rattle.usb_file_data.specs.declared.file.DescriptorFile.{DescriptorFile}
use Rattle.usb_file_data.specs.declared.file.Other.{Other}
use Rattle.usb_file_data.specs.declared.file.Strings.{Strings}
use Rattle.usb_file_data.specs.File.{named_indices, units_at, whole_set}
use Rattle.usb_device.specs.Descriptors.{descriptor, device_of, other_set_at, qualifier_of, set_at, string_at}
use Rattle.usb_capture.specs.Readings.{full_length, is_whole, last_of_length}
use Rattle.usb_recorded_runs.proofs.SizeLemmas.{IsFront}

-- how many bytes a descriptor has by its bLength, and by its wTotalLength
abbrev SaysLength : Option (List ℕ) → Type 0
SaysLength None = Unit {0}
SaysLength (Some b) = slice_index b 0 ≡ length b

-- all of a set, which has at least nine
record SaysTotal (b : List ℕ) : Type 0 where
  total : little_endian_at b 2 ≡ length b
  some : 8 < length b

abbrev SaysTotals : Option (List ℕ) → Type 0
SaysTotals None = Unit {0}
SaysTotals (Some b) = SaysTotal b

set_says : (c : Configuration) → SaysTotal (whole_set c)
unfolding whole_set
set_says c =
    let same : length (set_bytes c (set_length c)) ≡ set_length c = length-set_bytes c (set_length c) 0 in
    let joined : little_endian_at (set_bytes c (set_length c)) 2 ≡ set_length c = omega arith in
    record { total = joined ∙ sym same; some = omega arith }

sets_say : (sets : List Configuration) (index : ℕ) → SaysTotals (set_at sets index)
sets_say [] zero = tt
sets_say [] (suc index) = tt
sets_say (c ∷ cs) zero = set_says c
sets_say (c ∷ cs) (suc index) = sets_say cs index

units_say : (u : List ℕ) → slice_index (units_bytes u) 0 ≡ length (units_bytes u)
units_say u = omega (arith, length-flat_map u)

maybe_units_say : (o : Option (List ℕ)) → SaysLength (option_map units_bytes o)
maybe_units_say None = tt
maybe_units_say (Some u) = units_say u

string_says : (strings : Option Strings) (named : List ℕ) (index language : ℕ) → SaysLength (string_at strings named index language)
string_says None named index language = tt
string_says (Some s) named index language = of (index == 0)
  where
    of : (first : Bool) → SaysLength (if first then Some (units_bytes s.languages) else option_map units_bytes (units_at s named index language))
    of true = units_say s.languages
    of false = maybe_units_say (units_at s named index language)

device_says : (f : DescriptorFile) (first : Bool) → SaysLength (if first then Some (device_bytes f.device) else None)
device_says f true = refl
device_says f false = tt

qualifier_says : (other : Option Other) (index : ℕ) → SaysLength (qualifier_of other index)
qualifier_says None index = tt
qualifier_says (Some o) index = of (index == 0)
  where
    of : (first : Bool) → SaysLength (if first then Some (qualifier_bytes o.qualifier) else None)
    of true = refl
    of false = tt

other_says : (other : Option Other) (index : ℕ) → SaysTotals (other_set_at other index)
other_says None index = tt
other_says (Some o) index = sets_say o.sets index

-- by the type
abbrev SaysBy : Bool → Option (List ℕ) → Type 0
SaysBy true o = SaysTotals o
SaysBy false o = SaysLength o

abbrev Says : ℕ → Option (List ℕ) → Type 0
Says kind o = SaysBy ((kind == 2) || (kind == 7)) o

says_so : (f : DescriptorFile) (kind index language : ℕ) → Says kind (descriptor f kind index language)
says_so f kind index language = of (kind == 1) (kind == 2) (kind == 3) (kind == 6) (kind == 7) refl refl refl refl refl
  where
    apart : (m n : ℕ) → (m == n) ≡ false → (kind == m) ≡ true → (kind == n) ≡ true → ⊥
    apart m n other e g = grind (arith, nat_tests)

    not_both : {A : Type 0} (m n : ℕ) → (m == n) ≡ false → (kind == m) ≡ true → (kind == n) ≡ true → A
    not_both m n other e g = absurd (apart m n other e g)

    of : (one two three six seven : Bool) → (kind == 1) ≡ one → (kind == 2) ≡ two → (kind == 3) ≡ three → (kind == 6) ≡ six → (kind == 7) ≡ seven
        → SaysBy (two || seven) (if one then device_of f index else if two then set_at f.sets index else if three then string_at f.strings (named_indices f) index language
        else if six then qualifier_of f.other index else if seven then other_set_at f.other index else None)
    of true true three six seven a b c d e = not_both 1 2 refl a b
    of true false three six true a b c d e = not_both 1 7 refl a e
    of true false three six false a b c d e = device_says f (index == 0)
    of false true three six seven a b c d e = sets_say f.sets index
    of false false true six true a b c d e = not_both 3 7 refl c e
    of false false true six false a b c d e = string_says f.strings (named_indices f) index language
    of false false false true true a b c d e = not_both 6 7 refl d e
    of false false false true false a b c d e = qualifier_says f.other index
    of false false false false true a b c d e = other_says f.other index
    of false false false false false a b c d e = tt

record WholeParts (some type all : Bool) : Type 0 where
  has_some : some ≡ true
  has_all : all ≡ true

whole_parts : (some type all : Bool) → (some && type && all) ≡ true → WholeParts some type all
whole_parts true true true e = record { has_some = refl; has_all = refl }
whole_parts some type all e = absurd (let w : ⊥ = cc in w)

more_than_one : (set : Bool) (n : ℕ) → nat_lt (if set then 3 else 1) n ≡ true → 1 < n
more_than_one true n e = grind (arith, nat_tests)
more_than_one false n e = grind (arith, nat_tests)

same_number : (m n : ℕ) → (m == n) ≡ true → m ≡ n
same_number m n e = grind (arith, nat_tests)

-- A front that has all its bytes, of at least eight where it may be a part, is the whole.
all_there : (kind : ℕ) (b front rest : List ℕ) → Says kind (Some b) → front ++ rest ≡ b → is_whole kind front ≡ true → 7 < length front → front ≡ b
all_there kind b front rest is joins whole long = sym (ap (λ r. front ++ r) (none rest no_more) ∙ append-nil front) ∙ joins
  where
    at : (i : ℕ) → i < length front → slice_index front i ≡ slice_index b i
    at i low = sym (get_or_append_left front rest 0 i low) ∙ ap (λ z. slice_index z i) joins

    of : (set : Bool) → SaysBy set (Some b) → length front ≡ (if set then little_endian_at front 2 else slice_index front 0) → length front ≡ length b
    of true says e = omega (arith, says.total, e, at 2 (omega (arith, long)), at 3 (omega (arith, long)))
    of false says e = omega (arith, says, e, at 0 (omega (arith, long)))

    parts : WholeParts (nat_lt (last_of_length kind) (length front)) (slice_index front 1 == kind) (length front == full_length kind front)
    parts = whole_parts (nat_lt (last_of_length kind) (length front)) (slice_index front 1 == kind) (length front == full_length kind front) whole

    no_more : length rest ≡ 0
    no_more = omega (arith, length-append front rest, ap length joins, of ((kind == 2) || (kind == 7)) is (same_number (length front) (full_length kind front) parts.has_all))

    none : (xs : List ℕ) → length xs ≡ 0 → xs ≡ []
    none [] e = refl
    none (x ∷ xs) e = absurd (let w : ⊥ = omega (arith, e) in w)

-- A front of a descriptor that has its full length is that descriptor, where one of fewer than eight bytes is empty or the whole.
pub whole_front : (f : DescriptorFile) (kind index language : ℕ) (front : List ℕ) → IsFront front (unwrap_or (descriptor f kind index language) [])
    → (length front < 8 → (length front ≡ 0) ⊎ (front ≡ unwrap_or (descriptor f kind index language) [])) → is_whole kind front ≡ true → descriptor f kind index language ≡ Some front
whole_front f kind index language front is few whole = of (descriptor f kind index language) is few (says_so f kind index language)
  where
    some : 1 < length front
    some = more_than_one ((kind == 2) || (kind == 7)) (length front) (whole_parts (nat_lt (last_of_length kind) (length front)) (slice_index front 1 == kind) (length front == full_length kind front) whole).has_some

    less_or_not : (n : ℕ) → (n < 8) ⊎ (7 < n)
    less_or_not n = by (nat_lt n 8) refl
      where
        by : (less : Bool) → nat_lt n 8 ≡ less → (n < 8) ⊎ (7 < n)
        by true e = inl (let w : n < 8 = grind (arith, nat_tests) in w)
        by false e = inr (let w : 7 < n = grind (arith, nat_tests) in w)

    of : (o : Option (List ℕ)) → IsFront front (unwrap_or o []) → (length front < 8 → (length front ≡ 0) ⊎ (front ≡ unwrap_or o [])) → Says kind o → o ≡ Some front
    of None is few says = absurd (let w : ⊥ = omega (arith, some, ap length is.1, length-append front is.0) in w)
    of (Some b) is few says = by (less_or_not (length front))
      where
        short : (length front ≡ 0) ⊎ (front ≡ b) → Some b ≡ Some front
        short (inl none) = absurd (let w : ⊥ = omega (arith, some, none) in w)
        short (inr same) = ap Some (sym same)

        by : (length front < 8) ⊎ (7 < length front) → Some b ≡ Some front
        by (inl less) = short (few less)
        by (inr long) = ap Some (sym (all_there kind b front is.0 says is.1 whole long))
