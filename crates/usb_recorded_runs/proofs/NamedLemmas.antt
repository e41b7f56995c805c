-- No string that a recorded device has named is refused.
use Rattle.std.proofs.Common.{◌≡◌, ◌≢◌, ◌⊎◌, inl, inr, ◌<◌, ◌≤◌, ◌+◌, ◌*◌, ◌-◌, ◌/◌, ◌%◌, ◌==◌, ◌&&◌, ◌||◌, nat_lt, ℕ, zero, suc, Bool, true, false, not, cond, if◌then◌else◌, List, [], ◌∷◌, ◌++◌, length, drop, get_or, refl, sym, ◌∙◌, ap, subst, arith}
use Rattle.std.specs.Prelude.{Option, Some, None, filter, option_and_then, position, slice_get, slice_index, unwrap_or}
use Rattle.std.specs.List.{AllByRecursion, flat_map, list_any, position_or_len, range_with_len}
use Rattle.std.specs.Option.{option_map}
use Rattle.std.proofs.lemmas.Bool.{and_parts, cond-true, eq-eqb, eqb-false, eqb-true, false_from_ne_true, lt-ltb, ltb-true, not-false, or_cases, or_left, or_parts, or_right}
use Rattle.std.proofs.lemmas.List.Folds.{list_any-append, list_any_at}
use Rattle.std.proofs.lemmas.List.FromFn.{get_or-range_with_len, length-range_with_len}
use Rattle.std.proofs.lemmas.Map.Views.{any-filter_same}
use Rattle.std.proofs.lemmas.Option.{slice_get-get_or}
use Rattle.usb_fields.specs.declared.device.DeviceDescriptor.{DeviceDescriptor}
use Rattle.usb_fields.specs.Bytes.{AreBytes, little_endian}
use Rattle.usb_fields.specs.Device.{device_bytes, device_fields, qualifier_bytes, qualifier_fields}
use Rattle.usb_fields.specs.Fields.{fields_bytes}
use Rattle.usb_fields.specs.Units.{units_bytes}
use Rattle.usb_fields.proofs.UnitLemmas.{length-flat_map}
use Rattle.usb_set.specs.declared.tree.Configuration.{Configuration}
use Rattle.usb_set.specs.declared.fault.EncodeFault.TheVariants as encoding
use Rattle.usb_set.specs.Layout.{has_long_descriptor, has_typed_raw, set_descriptors, set_length}
use Rattle.usb_set.proofs.Items.{two_bytes}
use Rattle.usb_file_data.specs.declared.file.DescriptorFile.{DescriptorFile}
use Rattle.usb_file_data.specs.declared.file.Other.{Other}
use Rattle.usb_file_data.specs.declared.file.Strings.{Strings}
use Rattle.usb_file_data.specs.File.{are_wrong_strings, device_string_indices, has_no_layout, has_wrong_count, has_wrong_kind, has_wrong_layout, named_among, named_indices, other_sets, set_string_indices, string_indices, string_place, units_at, whole_set}
use Rattle.usb_file_data.proofs.WholeSets.{no_some}
use Rattle.usb_device.specs.Accepted.{has_wrong_sets, has_wrong_strings, repeats_language}
use Rattle.usb_device.specs.Descriptors.{descriptor, other_set_at, qualifier_of, set_at, string_at}
use Rattle.usb_device.proofs.AcceptedLemmas.{texts_as_many}
use Rattle.usb_capture.specs.declared.asked.Asked.{Asked}
use Rattle.usb_capture.specs.declared.control_transfer.ControlTransfer.{ControlTransfer}
use Rattle.usb_capture.specs.declared.finding.Finding.TheVariants.{RefusesNamed}
use Rattle.usb_capture.specs.Findings.{asked_of, beside, device_names, has_language, is_named, is_named_string, lists_language, names, names_any, refuses_descriptor, said}
use Rattle.usb_recorded_runs.specs.Findings.{IsTransferFreeAfter}
use Rattle.usb_recorded_runs.proofs.AnswerLemmas.{described_by}
use Rattle.usb_recorded_runs.proofs.TransferBytes.{HasBytes, said_bytes}
use Rattle.usb_recorded_runs.proofs.EndedLemmas.{IsEnded}
use Rattle.usb_recorded_runs.proofs.NamedFronts.{byte_or_none, named_front, plain_named, same_byte, set_named}
use Rattle.usb_recorded_runs.proofs.RefusalLemmas.{KnowsFronts, all_both, all_of, refused_lacks, unsaid_right}
use Rattle.usb_recorded_runs.proofs.SizeLemmas.{IsFront, IsSound}
use Rattle.usb_recorded_runs.proofs.TransferLemmas.{by_kind, descriptor_of, free_by, said_front}

-- ---- a string that is named is there

first_below : (test : ℕ → Bool) (xs : List ℕ) → list_any test xs ≡ true → position_or_len test xs < length xs
first_below test [] e = absurd (let w : ⊥ = cc in w)
first_below test (x ∷ xs) e = of (test x) e (first_below test xs)
  where
    of : (here : Bool) → (here || list_any test xs) ≡ true → (list_any test xs ≡ true → position_or_len test xs < length xs)
        → cond (not here) (1 + position_or_len test xs) 0 < length (x ∷ xs)
    of true e later = omega arith
    of false e later = omega (arith, later e)

-- the place of what passes a test
placed : (test : ℕ → Bool) (xs : List ℕ) → list_any test xs ≡ true → (i : ℕ) × (position test xs ≡ Some i) × (i < length xs)
placed test xs e =
    let below = first_below test xs e in
    (position_or_len test xs, cond-true (nat_lt (position_or_len test xs) (length xs)) _ _ (lt-ltb (position_or_len test xs) (length xs) below), below)

cell_within : (r n l c : ℕ) → r < l → c < n → r * n + c < l * n
cell_within r n zero c low inside = absurd (let w : ⊥ = omega (arith, low) in w)
cell_within zero n (suc l) c low inside = let more : suc l * n ≡ n + l * n = grind arith in omega (arith, more, inside)
cell_within (suc r) n (suc l) c low inside =
    let later = cell_within r n l c (omega (arith, low)) inside in
    let more : suc l * n ≡ n + l * n = grind arith in
    let sum : suc r * n + c ≡ n + (r * n + c) = grind arith in
    omega (arith, later, more, sum)

string_there : (s : Strings) (named : List ℕ) (index language : ℕ) → length s.texts ≡ length s.languages * length named
    → list_any (λ n. n == index) named ≡ true
    → list_any (λ l. l == language) s.languages ≡ true → string_at (Some s) named index language ≡ None → ⊥
string_there s named index language many has_place has_row none = of (index == 0) none
  where
    row : (i : ℕ) × (position (λ l. l == language) s.languages ≡ Some i) × (i < length s.languages)
    row = placed (λ l. l == language) s.languages has_row

    column : (i : ℕ) × (position (λ n. n == index) named ≡ Some i) × (i < length named)
    column = placed (λ n. n == index) named has_place

    place : ℕ
    place = row.0 * length named + column.0

    place_is : string_place s named index language ≡ Some place
    place_is =
        ap (option_and_then (λ row. option_map (λ column. row * length named + column) (position (λ n. n == index) named))) row.1
        ∙ ap (option_map (λ column. row.0 * length named + column)) column.1

    units : units_at s named index language ≡ Some (get_or s.texts place [])
    units =
        ap (option_and_then (slice_get s.texts)) place_is
        ∙ slice_get-get_or s.texts place [] (omega (arith, many, cell_within row.0 (length named) (length s.languages) column.0 row.2 column.2))

    of : (first : Bool) → (if first then Some (units_bytes s.languages) else option_map units_bytes (units_at s named index language)) ≡ None → ⊥
    of true e = cc
    of false e = let w : Some (units_bytes (get_or s.texts place [])) ≡ None = sym (ap (option_map units_bytes) units) ∙ e in cc

in_range : (most n : ℕ) → 0 < n → n ≤ most → list_any (λ m. m == n) (range_with_len 1 most) ≡ true
in_range most n some few =
    list_any_at (λ m. m == n) (range_with_len 1 most) (n - 1) 0 (omega (arith, length-range_with_len 1 most, some, few))
    (eq-eqb (get_or (range_with_len 1 most) (n - 1) 0) n (omega (arith, get_or-range_with_len 1 most (n - 1) 0 (omega (arith, some, few)), some)))

kept_in_range : (most : ℕ) (indices : List ℕ) (n : ℕ) → 0 < n → n ≤ most → list_any (λ i. i == n) indices ≡ true
    → list_any (λ m. m == n) (filter (λ m. list_any (λ i. i == m) indices) (range_with_len 1 most)) ≡ true
kept_in_range most indices n some few is =
    any-filter_same (λ m. m == n) (λ m. list_any (λ i. i == m) indices) true
    (λ m e. subst (λ k. list_any (λ i. i == k) indices ≡ true) (sym (eqb-true m n e)) is) (range_with_len 1 most)
    ∙ in_range most n some few

named_there : (indices : List ℕ) (n : ℕ) → 0 < n → n ≤ 255 → list_any (λ i. i == n) indices ≡ true → list_any (λ m. m == n) (named_among indices) ≡ true
unfolding named_among
named_there indices n some few is = kept_in_range 255 indices n some few is

some_in : (test : ℕ → Bool) (xs : List ℕ) → list_any test xs ≡ true → length xs ≡ 0 → ⊥
some_in test [] e none = cc
some_in test (x ∷ xs) e none = omega (arith, none)

no_strings : (count : ℕ) → are_wrong_strings count None ≡ false → count ≡ 0
no_strings count right = eqb-true count 0 (not-false (count == 0) right)

-- Where a string is named there are strings.
strings_there : (f : DescriptorFile) (n : ℕ) → has_wrong_strings f ≡ false → list_any (λ m. m == n) (named_indices f) ≡ true → f.strings ≡ None → ⊥
unfolding has_wrong_strings
strings_there f n right named none =
    let own = (or_parts (are_wrong_strings (length (named_indices f)) f.strings) (repeats_language f.strings) right).0 in
    some_in (λ m. m == n) (named_indices f) named
    (no_strings (length (named_indices f)) (subst (λ o. are_wrong_strings (length (named_indices f)) o ≡ false) none own))

-- ---- the languages of a list

listed : (language : ℕ) (front rest u : List ℕ) → front ++ rest ≡ flat_map little_endian u → lists_language language front ≡ true
    → list_any (λ l. l == language) u ≡ true
listed language [] rest u is e = absurd (let w : ⊥ = cc in w)
listed language (low ∷ []) rest u is e = absurd (let w : ⊥ = cc in w)
listed language (low ∷ high ∷ front) rest [] is e = absurd (let w : ⊥ = omega (arith, ap length is) in w)
listed language (low ∷ high ∷ front) rest (l ∷ u) is e =
    of (or_cases (low + 256 * high == language) (lists_language language front) e) (λ later. listed language front rest u (ap (drop 2) is) later)
  where
    low_is : low ≡ l % 256
    low_is = ap (λ b. slice_index b 0) is

    high_is : high ≡ l / 256
    high_is = ap (λ b. slice_index b 1) is

    of : ((low + 256 * high == language) ≡ true) ⊎ (lists_language language front ≡ true)
        → (lists_language language front ≡ true → list_any (λ l. l == language) u ≡ true)
        → list_any (λ l. l == language) (l ∷ u) ≡ true
    of (inl here) there =
        or_left (l == language) (list_any (λ l. l == language) u)
        (eq-eqb l language (omega (arith, eqb-true (low + 256 * high) language here, low_is, high_is, two_bytes l)))
    of (inr later) there = or_right (l == language) (list_any (λ l. l == language) u) (there later)

language_listed : (language : ℕ) (front u : List ℕ) → IsFront front (units_bytes u) → has_language language front ≡ true
    → list_any (λ l. l == language) u ≡ true
language_listed language [] u is e = absurd (let w : ⊥ = cc in w)
language_listed language (x ∷ []) u is e = absurd (let w : ⊥ = cc in w)
language_listed language (x ∷ y ∷ front) u is e = listed language front is.0 u (ap (drop 2) is.1) e

-- ---- the strings that a device names

three : (a b c p q r : Bool) → (a ≡ true → p ≡ true) → (b ≡ true → q ≡ true) → (c ≡ true → r ≡ true) → (a || b || c) ≡ true → (p || (q || (r || false))) ≡ true
three a b c true q r pa pb pc e = refl
three a b c false true r pa pb pc e = refl
three a b c false false true pa pb pc e = refl
three true b c false false false pa pb pc e = pa refl
three false true c false false false pa pb pc e = pb refl
three false false true false false false pa pb pc e = pc refl
three false false false false false false pa pb pc e = e

module _ (n : ℕ) (some : 0 < n) where
  device_named : (d : DeviceDescriptor) (front : List ℕ) → IsFront front (device_bytes d) → device_names n front ≡ true
      → list_any (λ i. i == n) (device_string_indices d) ≡ true
  device_named d front is e =
      three (slice_index front 14 == n) (slice_index front 15 == n) (slice_index front 16 == n) (d.maker_text == n) (d.product_text == n) (d.serial_text == n)
      (same_byte (slice_index front 14) d.maker_text n some (byte_or_none front (device_bytes d) 14 is))
      (same_byte (slice_index front 15) d.product_text n some (byte_or_none front (device_bytes d) 15 is))
      (same_byte (slice_index front 16) d.serial_text n some (byte_or_none front (device_bytes d) 16 is)) e

  none_named : (front : List ℕ) → IsFront front [] → names n front ≡ true → ⊥
  none_named front is e = let w : false ≡ true = named_front n some [] front is e in cc

  units_named : (u front : List ℕ) → IsFront front (units_bytes u) → names n front ≡ true → ⊥
  units_named u front is e =
      plain_named n some 3 (flat_map little_endian u) front refl
      (subst (λ m. IsFront front ((2 + m) ∷ 3 ∷ flat_map little_endian u)) (sym (length-flat_map u)) is) e

  typed_right : (c : Configuration) → has_no_layout c ≡ false → has_typed_raw c ≡ false
  typed_right c right =
      let long = no_some (has_long_descriptor c) encoding.Tail _ right in
      (no_some (has_typed_raw c) encoding.RawKind _ long.1).0

  whole_named : (c : Configuration) (front : List ℕ) → has_no_layout c ≡ false → IsFront front (whole_set c) → names n front ≡ true
      → list_any (λ i. i == n) (set_string_indices c) ≡ true
  unfolding whole_set
  whole_named c front right is e =
      sym (set_named n some c (set_length c) (typed_right c right)) ∙ named_front n some (set_descriptors c (set_length c)) front is e

  sets_named : (sets : List Configuration) (index : ℕ) (front : List ℕ) → list_any has_no_layout sets ≡ false → IsFront front (unwrap_or (set_at sets index) [])
      → names n front ≡ true → list_any (λ i. i == n) (flat_map set_string_indices sets) ≡ true
  sets_named [] index front right is e = absurd (none_named front is e)
  sets_named (c ∷ cs) zero front right is e =
      list_any-append (λ i. i == n) (set_string_indices c) (flat_map set_string_indices cs)
      ∙ or_left (list_any (λ i. i == n) (set_string_indices c)) (list_any (λ i. i == n) (flat_map set_string_indices cs))
      (whole_named c front (or_parts (has_no_layout c) (list_any has_no_layout cs) right).0 is e)
  sets_named (c ∷ cs) (suc index) front right is e =
      list_any-append (λ i. i == n) (set_string_indices c) (flat_map set_string_indices cs)
      ∙ or_right (list_any (λ i. i == n) (set_string_indices c)) (list_any (λ i. i == n) (flat_map set_string_indices cs))
      (sets_named cs index front (or_parts (has_no_layout c) (list_any has_no_layout cs) right).1 is e)

  module _ (f : DescriptorFile) (right : has_wrong_layout f ≡ false) where
    abbrev IsNamed : Type 0
    IsNamed = list_any (λ i. i == n) (string_indices f) ≡ true

    abbrev own : List ℕ
    own = device_string_indices f.device

    abbrev first : List ℕ
    first = flat_map set_string_indices f.sets

    abbrev second : List ℕ
    second = flat_map set_string_indices (other_sets f.other)

    of_device : list_any (λ i. i == n) own ≡ true → IsNamed
    of_device e = list_any-append (λ i. i == n) own (first ++ second) ∙ or_left (list_any (λ i. i == n) own) (list_any (λ i. i == n) (first ++ second)) e

    of_sets : (list_any (λ i. i == n) first || list_any (λ i. i == n) second) ≡ true → IsNamed
    of_sets e =
        list_any-append (λ i. i == n) own (first ++ second)
        ∙ or_right (list_any (λ i. i == n) own) (list_any (λ i. i == n) (first ++ second)) (list_any-append (λ i. i == n) first second ∙ e)

    layouts : (list_any has_no_layout f.sets ≡ false) × (list_any has_no_layout (other_sets f.other) ≡ false)
    layouts = or_parts (list_any has_no_layout f.sets) (list_any has_no_layout (other_sets f.other)) right

    -- what the first bytes of a descriptor name
    abbrev Names : ℕ → Option (List ℕ) → Type 0
    Names kind o = (front : List ℕ) → IsFront front (unwrap_or o []) → names n front ≡ true → IsNamed

    nothing_names : (kind : ℕ) → Names kind None
    nothing_names kind front is e = absurd (none_named front is e)

    device_names_it : (first : Bool) → Names 1 (if first then Some (device_bytes f.device) else None)
    device_names_it true front is e = absurd (plain_named n some 1 (fields_bytes device_fields f.device) front refl is e)
    device_names_it false front is e = absurd (none_named front is e)

    units_name : (o : Option (List ℕ)) → Names 3 (option_map units_bytes o)
    units_name None front is e = absurd (none_named front is e)
    units_name (Some u) front is e = absurd (units_named u front is e)

    string_names : (strings : Option Strings) (index language : ℕ) → Names 3 (string_at strings (named_indices f) index language)
    string_names None index language = nothing_names 3
    string_names (Some s) index language = of (index == 0)
      where
        of : (zeroth : Bool) → Names 3 (if zeroth then Some (units_bytes s.languages) else option_map units_bytes (units_at s (named_indices f) index language))
        of true = units_name (Some s.languages)
        of false = units_name (units_at s (named_indices f) index language)

    qualifier_names : (other : Option Other) (index : ℕ) → Names 6 (qualifier_of other index)
    qualifier_names None index = nothing_names 6
    qualifier_names (Some other) index = of (index == 0)
      where
        of : (zeroth : Bool) → Names 6 (if zeroth then Some (qualifier_bytes other.qualifier) else None)
        of true front is e = absurd (plain_named n some 6 (fields_bytes qualifier_fields other.qualifier) front refl is e)
        of false front is e = nothing_names 6 front is e

    set_names : (index : ℕ) → Names 2 (set_at f.sets index)
    set_names index front is e =
        of_sets (or_left (list_any (λ i. i == n) first) (list_any (λ i. i == n) second) (sets_named f.sets index front layouts.0 is e))

    other_names : (other : Option Other) (index : ℕ) → f.other ≡ other → Names 7 (other_set_at other index)
    other_names None index same front is e = nothing_names 7 front is e
    other_names (Some other) index same front is e =
        of_sets (or_right (list_any (λ i. i == n) first) (list_any (λ i. i == n) second)
        (subst (λ o. list_any (λ i. i == n) (flat_map set_string_indices (other_sets o)) ≡ true) (sym same)
        (sets_named other.sets index front (subst (λ o. list_any has_no_layout (other_sets o) ≡ false) same layouts.1) is e)))

    descriptor_names : (kind index language : ℕ) → Names kind (descriptor f kind index language)
    descriptor_names kind index language =
        by_kind Names f index language (device_names_it (index == 0)) (set_names index) (string_names f.strings index language) (qualifier_names f.other index)
        (other_names f.other index refl) nothing_names kind

    any_of : (p : ℕ → Bool) (xs : List ℕ) → ((x : ℕ) → p x ≡ true → IsNamed) → list_any p xs ≡ true → IsNamed
    any_of p [] each e = absurd (let w : ⊥ = cc in w)
    any_of p (x ∷ xs) each e = of (or_cases (p x) (list_any p xs) e) (any_of p xs each)
      where
        of : (p x ≡ true) ⊎ (list_any p xs ≡ true) → (list_any p xs ≡ true → IsNamed) → IsNamed
        of (inl here) there = each x here
        of (inr later) there = there later

    -- What a device or one of its configurations was seen to name, it names.
    named_by : (known : Asked → List ℕ) (asked : Asked) → KnowsFronts f known → is_named known asked n ≡ true → IsNamed
    named_by known asked knows e =
        of (or_cases (device_names n (known (beside asked 256)))
        (list_any (λ i. names n (known (beside asked (512 + i)))) (range_with_len 0 (slice_index (known (beside asked 256)) 17))) e)
      where
        of : (device_names n (known (beside asked 256)) ≡ true)
            ⊎ (list_any (λ i. names n (known (beside asked (512 + i)))) (range_with_len 0 (slice_index (known (beside asked 256)) 17)) ≡ true) → IsNamed
        of (inl e) = of_device (device_named f.device (known (beside asked 256)) (knows (beside asked 256)) e)
        of (inr e) =
            any_of (λ i. names n (known (beside asked (512 + i)))) (range_with_len 0 (slice_index (known (beside asked 256)) 17)) (λ i here.
            descriptor_names ((512 + i) / 256) ((512 + i) % 256) 0 (known (beside asked (512 + i))) (knows (beside asked (512 + i))) here) e

-- ---- refusals of them

layouts_right : (f : DescriptorFile) → has_wrong_sets f ≡ false → has_wrong_layout f ≡ false
unfolding has_wrong_sets
layouts_right f right = (or_parts (has_wrong_count f || has_wrong_kind f) (has_wrong_layout f) right).1

byte_small : (b : List ℕ) (i : ℕ) → AreBytes b → slice_index b i ≤ 255
byte_small [] zero each = omega arith
byte_small [] (suc i) each = omega arith
byte_small (x ∷ b) zero each = let low : x < 256 = each.0 in omega (arith, low)
byte_small (x ∷ b) (suc i) each = byte_small b i each.1

-- a device descriptor that names any string names one of this index
record NamesOne (front : List ℕ) : Type 0 where
  at : ℕ
  some : 0 < slice_index front at
  named : device_names (slice_index front at) front ≡ true

names_one : (front : List ℕ) → names_any front ≡ true → NamesOne front
names_one front e = of (or_cases (nat_lt 0 (slice_index front 14) || nat_lt 0 (slice_index front 15)) (nat_lt 0 (slice_index front 16)) e)
  where
    own : (k : ℕ) → (k == k) ≡ true
    own k = eq-eqb k k refl

    early : (nat_lt 0 (slice_index front 14) ≡ true) ⊎ (nat_lt 0 (slice_index front 15) ≡ true) → NamesOne front
    early (inl e) = record {
      at = 14;
      some = ltb-true 0 (slice_index front 14) e;
      named = let n = slice_index front 14 in or_left _ (slice_index front 16 == n) (or_left (n == n) (slice_index front 15 == n) (own n));
    }
    early (inr e) = record {
      at = 15;
      some = ltb-true 0 (slice_index front 15) e;
      named = let n = slice_index front 15 in or_left _ (slice_index front 16 == n) (or_right (slice_index front 14 == n) (n == n) (own n));
    }

    of : ((nat_lt 0 (slice_index front 14) || nat_lt 0 (slice_index front 15)) ≡ true) ⊎ (nat_lt 0 (slice_index front 16) ≡ true) → NamesOne front
    of (inl e) = early (or_cases (nat_lt 0 (slice_index front 14)) (nat_lt 0 (slice_index front 15)) e)
    of (inr e) = record {
      at = 16;
      some = ltb-true 0 (slice_index front 16) e;
      named = let n = slice_index front 16 in or_right _ (n == n) (own n);
    }

module _ (f : DescriptorFile) (sets : has_wrong_sets f ≡ false) (strings : has_wrong_strings f ≡ false) (known : Asked → List ℕ)
    (knows : KnowsFronts f known) (asked : Asked) (bytes : AreBytes (known (beside asked 256))) (none : descriptor_of f asked ≡ None) where
  abbrev index : ℕ
  index = asked.value % 256

  -- the language list
  some_languages : asked.value ≡ 768 → names_any (known (beside asked 256)) ≡ true → ⊥
  some_languages is e = by f.strings refl (subst (λ v. descriptor f (v / 256) (v % 256) asked.index ≡ None) is none)
    where
      one : NamesOne (known (beside asked 256))
      one = names_one (known (beside asked 256)) e

      n : ℕ
      n = slice_index (known (beside asked 256)) one.at

      named : list_any (λ m. m == n) (named_indices f) ≡ true
      named =
          named_there (string_indices f) n one.some (byte_small (known (beside asked 256)) one.at bytes)
          (of_device n one.some f (layouts_right f sets) (device_named n one.some f.device (known (beside asked 256)) (knows (beside asked 256)) one.named))

      by : (o : Option Strings) → f.strings ≡ o → string_at o (named_indices f) 0 asked.index ≡ None → ⊥
      by None same lacks = strings_there f n strings named same
      by (Some s) same lacks = cc

  -- and a string
  some_string : 0 < index → asked.value / 256 ≡ 3 → has_language asked.index (known (beside asked 768)) ≡ true → is_named known asked index ≡ true → ⊥
  some_string some kind has is = by f.strings refl (subst (λ k. descriptor f k index asked.index ≡ None) kind none)
    where
      small : index ≤ 255
      small = omega arith

      named : list_any (λ m. m == index) (named_indices f) ≡ true
      named = named_there (string_indices f) index some small (named_by index some f (layouts_right f sets) known asked knows is)

      by : (o : Option Strings) → f.strings ≡ o → string_at o (named_indices f) index asked.index ≡ None → ⊥
      by None same lacks = strings_there f index strings named same
      by (Some s) same lacks =
          string_there s (named_indices f) index asked.index (texts_as_many f s same strings) named
          (language_listed asked.index (known (beside asked 768)) s.languages
          (subst (λ o. IsFront (known (beside asked 768)) (unwrap_or (string_at o (named_indices f) 0 0) [])) same (knows (beside asked 768))) has) lacks

  not_named : is_named_string known asked ≡ false
  unfolding is_named_string
  not_named = of (asked.value == 768) refl
    where
      apart : (v : ℕ) → v ≢ 768 → v / 256 ≡ 3 → 0 < v % 256
      apart v other kind = omega (arith, other, kind)

      of : (languages : Bool) → (asked.value == 768) ≡ languages
          → (if languages then asked.index == 0 && names_any (known (beside asked 256))
          else asked.value / 256 == 3 && has_language asked.index (known (beside asked 768)) && is_named known asked index) ≡ false
      of true e = false_from_ne_true (asked.index == 0 && names_any (known (beside asked 256))) (λ h.
          some_languages (eqb-true asked.value 768 e) (and_parts (asked.index == 0) (names_any (known (beside asked 256))) h).1)
      of false e = false_from_ne_true (asked.value / 256 == 3 && has_language asked.index (known (beside asked 768)) && is_named known asked index) (λ h.
          let parts = and_parts (asked.value / 256 == 3 && has_language asked.index (known (beside asked 768))) (is_named known asked index) h in
          let first = and_parts (asked.value / 256 == 3) (has_language asked.index (known (beside asked 768))) parts.0 in
          let kind = eqb-true (asked.value / 256) 3 first.0 in
          some_string (apart asked.value (eqb-false asked.value 768 e) kind) kind first.1 parts.1)

pub none_refuses_named : (size : ℕ) (f : DescriptorFile) (ts : List ControlTransfer) → has_wrong_sets f ≡ false → has_wrong_strings f ≡ false
    → AllByRecursion (IsSound size (described_by f)) ts → AllByRecursion (IsEnded f) ts → AllByRecursion HasBytes ts → IsTransferFreeAfter RefusesNamed [] ts
none_refuses_named size f ts sets strings each ended bytes =
    free_by RefusesNamed (λ t. (IsSound size (described_by f) t × IsEnded f t) × HasBytes t) (λ t earlier is before.
    let known : Asked → List ℕ = λ asked. said asked earlier in
    unsaid_right (refuses_descriptor t) (length (known (asked_of t)) == 0) (is_named_string known (asked_of t)) (λ e.
    not_named f sets strings known (λ asked. said_front size f asked earlier (all_of earlier (λ u is. is.0.0) before)) (asked_of t)
    (said_bytes (beside (asked_of t) 256) earlier (all_of earlier (λ u is. is.1) before)) (refused_lacks f t is.0.1 e)))
    [] ts tt (all_both (λ t. IsSound size (described_by f) t × IsEnded f t) HasBytes ts
    (all_both (IsSound size (described_by f)) (IsEnded f) ts each ended) bytes)
