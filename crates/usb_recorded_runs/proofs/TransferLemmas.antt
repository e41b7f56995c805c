-- What is never found in the control transfers of a run.
use Rattle.std.proofs.Common.{◌≡◌, ◌≤◌, ◌<◌, ◌==◌, ◌&&◌, ◌||◌, ◌/◌, ◌%◌, nat_lt, ℕ, zero, suc, Bool, true, false, not, if◌then◌else◌, List, [], ◌∷◌, ◌++◌, length, drop, refl, sym, ◌∙◌, ap, subst, arith}
use Rattle.std.specs.Prelude.{Option, Some, None, slice_index, unwrap_or}
use Rattle.std.specs.List.{AllByRecursion, list_any}
use Rattle.std.specs.Option.{option_map}
use Rattle.std.proofs.lemmas.Bool.{eqb-true}
use Rattle.std.proofs.lemmas.Bool.Decides.{nat_tests}
use Rattle.std.proofs.lemmas.List.{append-nil, get_or_append_left}
use Rattle.usb_fields.specs.declared.device.DeviceDescriptor.{DeviceDescriptor}
use Rattle.usb_fields.specs.declared.setup.Setup.{Setup}
use Rattle.usb_fields.specs.Device.{device_bytes, qualifier_bytes}
use Rattle.usb_fields.specs.Units.{units_bytes}
use Rattle.usb_set.specs.declared.tree.Configuration.{Configuration}
use Rattle.usb_set.specs.declared.tree.SetKind.{SetKind}
use Rattle.usb_set.specs.declared.tree.SetKind.TheVariants as kinds
use Rattle.usb_set.specs.Descriptors.{type_number}
use Rattle.usb_file_data.specs.declared.file.DescriptorFile.{DescriptorFile}
use Rattle.usb_file_data.specs.declared.file.Other.{Other}
use Rattle.usb_file_data.specs.declared.file.Strings.{Strings}
use Rattle.usb_file_data.specs.File.{has_wrong_count, has_wrong_kind, has_wrong_layout, is_other_kind, named_indices, other_sets, units_at, whole_set}
use Rattle.usb_device.specs.Accepted.{has_wrong_sets}
use Rattle.usb_device.specs.Descriptors.{descriptor, device_of, other_set_at, qualifier_of, set_at, string_at}
use Rattle.usb_capture.specs.declared.asked.Asked.{Asked}
use Rattle.usb_capture.specs.declared.control_transfer.ControlTransfer.{ControlTransfer}
use Rattle.usb_capture.specs.declared.finding.Finding.{Finding}
use Rattle.usb_capture.specs.declared.finding.Finding.TheVariants.{MoreThanAsked, OtherBytes, OtherType, RefusesStatus}
use Rattle.usb_capture.specs.Findings.{asked_of, brings_descriptor, differ, gives, has_other_type, holds, is_answered, is_same, is_stall, is_standard_type, may_change, reads_status, said}
use Rattle.usb_capture.specs.Readings.{is_done, reads_descriptor}
use Rattle.usb_capture.specs.TransferFindings.{is_found}
use Rattle.usb_recorded_runs.specs.Findings.{IsTransferFreeAfter}
use Rattle.usb_recorded_runs.proofs.AnswerLemmas.{described_by}
use Rattle.usb_recorded_runs.proofs.SizeLemmas.{IsFront, IsSound}

no_more : (answered : Bool) (m n : ℕ) → (answered ≡ true → n ≤ m) → (answered && nat_lt m n) ≡ false
no_more false m n few = refl
no_more true m n few = let within : n ≤ m = few refl in grind (arith, nat_tests)

no_status : (stall status device : Bool) → (stall ≡ true → status ≡ false) → (stall && status && device) ≡ false
no_status false status device other = refl
no_status true false device other = refl
no_status true true device other = absurd (let e : true ≡ false = other refl in let w : ⊥ = cc in w)

-- what is found in none, where this holds of each, and of those before it
pub free_by : (finding : Finding) (P : ControlTransfer → Type 0)
    → ((t : ControlTransfer) (earlier : List ControlTransfer) → P t → AllByRecursion P earlier → is_found finding earlier t ≡ false)
    → (earlier ts : List ControlTransfer) → AllByRecursion P earlier → AllByRecursion P ts → IsTransferFreeAfter finding earlier ts
free_by finding P free earlier [] before each = tt
free_by finding P free earlier (t ∷ ts) before each = (free t earlier each.0 before, free_by finding P free (t ∷ earlier) ts (each.0, before) each.1)

pub none_more : (size : ℕ) (described : Setup → List ℕ) (ts : List ControlTransfer) → AllByRecursion (IsSound size described) ts → IsTransferFreeAfter MoreThanAsked [] ts
none_more size described ts each = free_by MoreThanAsked (IsSound size described) (λ t earlier is before. no_more (is_answered t.ending) t.setup.length t.length is.few) [] ts tt each

pub none_refuses_status : (size : ℕ) (described : Setup → List ℕ) (ts : List ControlTransfer) → AllByRecursion (IsSound size described) ts → IsTransferFreeAfter RefusesStatus [] ts
none_refuses_status size described ts each =
    free_by RefusesStatus (IsSound size described) (λ t earlier is before. no_status (is_stall t.ending) (reads_status t.setup) (nat_lt 0 t.device) is.asked) [] ts tt each

-- ---- what a device said of a descriptor

same_heads : (x y : ℕ) (xs ys : List ℕ) → x ∷ xs ≡ y ∷ ys → (x ≡ y) × (xs ≡ ys)
same_heads x y xs ys e = ((let w : x ≡ y = cc in w), (let w : xs ≡ ys = cc in w))

-- Of each byte the last that was said is the descriptor's.
pub front_over : (xs ys all : List ℕ) → IsFront xs all → IsFront ys all → IsFront (xs ++ drop (length xs) ys) all
front_over [] ys all first second = second
front_over (x ∷ xs) [] all first second = (first.0, ap (λ b. b ++ first.0) (append-nil (x ∷ xs)) ∙ first.1)
front_over (x ∷ xs) (y ∷ ys) [] first second = absurd (let e : x ∷ (xs ++ first.0) ≡ [] = first.1 in let w : ⊥ = cc in w)
front_over (x ∷ xs) (y ∷ ys) (z ∷ zs) first second =
    let a = same_heads x z (xs ++ first.0) zs first.1 in
    let b = same_heads y z (ys ++ second.0) zs second.1 in
    let later = front_over xs ys zs (first.0, a.1) (second.0, b.1) in
    (later.0, ap (λ n. n ∷ ((xs ++ drop (length xs) ys) ++ later.0)) a.0 ∙ ap (λ ns. z ∷ ns) later.1)

own_number : (n : ℕ) → not (n == n) ≡ false
own_number n = grind (arith, nat_tests)

pub fronts_agree : (xs ys all : List ℕ) → IsFront xs all → IsFront ys all → differ xs ys ≡ false
fronts_agree [] ys all first second = refl
fronts_agree (x ∷ xs) [] all first second = refl
fronts_agree (x ∷ xs) (y ∷ ys) [] first second = absurd (let e : x ∷ (xs ++ first.0) ≡ [] = first.1 in let w : ⊥ = cc in w)
fronts_agree (x ∷ xs) (y ∷ ys) (z ∷ zs) first second =
    let a = same_heads x z (xs ++ first.0) zs first.1 in
    let b = same_heads y z (ys ++ second.0) zs second.1 in
    ap (λ n. not (x == n) || differ xs ys) (b.0 ∙ sym a.0)
    ∙ ap (λ c. c || differ xs ys) (own_number x)
    ∙ fronts_agree xs ys zs (first.0, a.1) (second.0, b.1)

pub record GivesParts (reads done kept some type : Bool) : Type 0 where
  pub is_read : reads ≡ true
  pub is_ended : done ≡ true
  pub is_kept : kept ≡ true
  pub has_some : some ≡ true
  pub of_type : type ≡ true

gives_parts : (reads done kept some type : Bool) → (reads && done && kept && some && type) ≡ true → GivesParts reads done kept some type
gives_parts true true true true true e = record { is_read = refl; is_ended = refl; is_kept = refl; has_some = refl; of_type = refl }
gives_parts reads done kept some type e = absurd (let w : ⊥ = cc in w)

parts_given : (t : ControlTransfer) → gives t ≡ true
    → GivesParts (reads_descriptor t.setup) (is_done t.ending) (not t.is_cut) (nat_lt 1 (length t.data)) (slice_index t.data 1 == t.setup.value / 256)
parts_given t e = gives_parts (reads_descriptor t.setup) (is_done t.ending) (not t.is_cut) (nat_lt 1 (length t.data)) (slice_index t.data 1 == t.setup.value / 256) e

pub parts_brought : (t : ControlTransfer) → brings_descriptor t ≡ true
    → GivesParts (reads_descriptor t.setup) (is_done t.ending) (not t.is_cut) (is_standard_type (t.setup.value / 256)) (nat_lt 1 (length t.data))
parts_brought t e = gives_parts (reads_descriptor t.setup) (is_done t.ending) (not t.is_cut) (is_standard_type (t.setup.value / 256)) (nat_lt 1 (length t.data)) e

-- the descriptor that is asked for
abbrev pub descriptor_of : DescriptorFile → Asked → Option (List ℕ)
descriptor_of f asked = descriptor f (asked.value / 256) (asked.value % 256) asked.index

module _ (size : ℕ) (f : DescriptorFile) where
  abbrev is_of : Asked → List ℕ
  is_of asked = unwrap_or (descriptor_of f asked) []

  record SameAsked (bus device value index : Bool) : Type 0 where
    of_value : value ≡ true
    of_index : index ≡ true

  same_parts : (bus device value index : Bool) → (bus && device && value && index) ≡ true → SameAsked bus device value index
  same_parts true true true true e = record { of_value = refl; of_index = refl }
  same_parts bus device value index e = absurd (let w : ⊥ = cc in w)

  same_number : (m n : ℕ) → (m == n) ≡ true → m ≡ n
  same_number m n e = grind (arith, nat_tests)

  pub same_descriptor : (a b : Asked) → is_same a b ≡ true → is_of a ≡ is_of b
  same_descriptor a b e =
      let parts = same_parts (a.bus == b.bus) (a.device == b.device) (a.value == b.value) (a.index == b.index) e in
      ap (λ v. unwrap_or (descriptor f (v / 256) (v % 256) a.index) []) (same_number a.value b.value parts.of_value)
      ∙ ap (λ i. unwrap_or (descriptor f (b.value / 256) (b.value % 256) i) []) (same_number a.index b.index parts.of_index)

  both_parts : (a b : Bool) → (a && b) ≡ true → (a ≡ true) × (b ≡ true)
  both_parts true true e = (refl, refl)
  both_parts a b e = absurd (let w : ⊥ = cc in w)

  pub said_front : (asked : Asked) (earlier : List ControlTransfer) → AllByRecursion (IsSound size (described_by f)) earlier
      → IsFront (said asked earlier) (unwrap_or (descriptor_of f asked) [])
  said_front asked [] each = (is_of asked, refl)
  said_front asked (t ∷ earlier) each = of (may_change t asked) (gives t && is_same (asked_of t) asked) refl (said_front asked earlier each.1)
    where
      of : (changed given : Bool) → (gives t && is_same (asked_of t) asked) ≡ given → IsFront (said asked earlier) (is_of asked)
          → IsFront (if changed then [] else (if given then t.data ++ drop (length t.data) (said asked earlier) else said asked earlier)) (is_of asked)
      of true given e before = (is_of asked, refl)
      of false false e before = before
      of false true e before =
          let parts = both_parts (gives t) (is_same (asked_of t) asked) e in
          front_over t.data (said asked earlier) (is_of asked)
          (subst (IsFront t.data) (same_descriptor (asked_of t) asked parts.1)
          (let given = parts_given t parts.0 in each.0.front given.is_read given.is_ended given.is_kept)) before

  said_same : (t : ControlTransfer) (earlier : List ControlTransfer) → IsSound size (described_by f) t → AllByRecursion (IsSound size (described_by f)) earlier
      → holds OtherBytes (λ asked. said asked earlier) t ≡ false
  said_same t earlier is each = of (gives t) refl
    where
      of : (given : Bool) → gives t ≡ given → (given && differ t.data (said (asked_of t) earlier)) ≡ false
      of false e = refl
      of true e =
          let given = parts_given t e in
          fronts_agree t.data (said (asked_of t) earlier) (is_of (asked_of t)) (is.front given.is_read given.is_ended given.is_kept) (said_front (asked_of t) earlier each)

  pub none_changes : (ts : List ControlTransfer) → AllByRecursion (IsSound size (described_by f)) ts → IsTransferFreeAfter OtherBytes [] ts
  none_changes ts each = free_by OtherBytes (IsSound size (described_by f)) said_same [] ts tt each

-- ---- the type of a descriptor

-- A descriptor, if there is one, has this type in its second byte.
abbrev pub TypeIs : ℕ → Option (List ℕ) → Type 0
TypeIs kind None = Unit {0}
TypeIs kind (Some b) = slice_index b 1 ≡ kind

type_of_set : (c : Configuration) → slice_index (whole_set c) 1 ≡ type_number c.kind
unfolding whole_set
type_of_set c = refl

own_kind : (kind : SetKind) (c : Configuration) → is_other_kind kind c ≡ false → type_number c.kind ≡ type_number kind
own_kind kind c e = of (type_number c.kind) (type_number kind) e
  where
    of : (m n : ℕ) → not (m == n) ≡ false → m ≡ n
    of m n e = grind (arith, nat_tests)

or_parts : (a b : Bool) → (a || b) ≡ false → (a ≡ false) × (b ≡ false)
or_parts false false e = (refl, refl)
or_parts a b e = absurd (let w : ⊥ = cc in w)

sets_type : (kind : SetKind) (sets : List Configuration) (index : ℕ) → list_any (is_other_kind kind) sets ≡ false → TypeIs (type_number kind) (set_at sets index)
sets_type kind [] zero none = tt
sets_type kind [] (suc index) none = tt
sets_type kind (c ∷ cs) zero none = type_of_set c ∙ own_kind kind c (or_parts (is_other_kind kind c) (list_any (is_other_kind kind) cs) none).0
sets_type kind (c ∷ cs) (suc index) none = sets_type kind cs index (or_parts (is_other_kind kind c) (list_any (is_other_kind kind) cs) none).1

device_type : (d : DeviceDescriptor) (first : Bool) → TypeIs 1 (if first then Some (device_bytes d) else None)
device_type d true = refl
device_type d false = tt

units_type : (o : Option (List ℕ)) → TypeIs 3 (option_map units_bytes o)
units_type None = tt
units_type (Some u) = refl

string_type : (strings : Option Strings) (named : List ℕ) (index language : ℕ) → TypeIs 3 (string_at strings named index language)
string_type None named index language = tt
string_type (Some s) named index language = of (index == 0)
  where
    of : (first : Bool) → TypeIs 3 (if first then Some (units_bytes s.languages) else option_map units_bytes (units_at s named index language))
    of true = refl
    of false = units_type (units_at s named index language)

qualifier_type : (other : Option Other) (index : ℕ) → TypeIs 6 (qualifier_of other index)
qualifier_type None index = tt
qualifier_type (Some other) index = of (index == 0)
  where
    of : (first : Bool) → TypeIs 6 (if first then Some (qualifier_bytes other.qualifier) else None)
    of true = refl
    of false = tt

other_type : (other : Option Other) (index : ℕ) → list_any (is_other_kind kinds.OtherSpeed) (other_sets other) ≡ false → TypeIs 7 (other_set_at other index)
other_type None index none = tt
other_type (Some other) index none = sets_type kinds.OtherSpeed other.sets index none

-- what holds of each descriptor, by its type
pub by_kind : (P : ℕ → Option (List ℕ) → Type 0) (f : DescriptorFile) (index language : ℕ) → P 1 (device_of f index) → P 2 (set_at f.sets index)
    → P 3 (string_at f.strings (named_indices f) index language) → P 6 (qualifier_of f.other index) → P 7 (other_set_at f.other index) → ((kind : ℕ) → P kind None)
    → (kind : ℕ) → P kind (descriptor f kind index language)
by_kind P f index language device set string qualifier other none kind = of (kind == 1) (kind == 2) (kind == 3) (kind == 6) (kind == 7) refl refl refl refl refl
  where
    of : (one two three six seven : Bool) → (kind == 1) ≡ one → (kind == 2) ≡ two → (kind == 3) ≡ three → (kind == 6) ≡ six → (kind == 7) ≡ seven
        → P kind (if one then device_of f index
        else if two then set_at f.sets index
        else if three then string_at f.strings (named_indices f) index language
        else if six then qualifier_of f.other index
        else if seven then other_set_at f.other index
        else None)
    of true two three six seven a b c d e = subst (λ k. P k (device_of f index)) (sym (eqb-true kind 1 a)) device
    of false true three six seven a b c d e = subst (λ k. P k (set_at f.sets index)) (sym (eqb-true kind 2 b)) set
    of false false true six seven a b c d e = subst (λ k. P k (string_at f.strings (named_indices f) index language)) (sym (eqb-true kind 3 c)) string
    of false false false true seven a b c d e = subst (λ k. P k (qualifier_of f.other index)) (sym (eqb-true kind 6 d)) qualifier
    of false false false false true a b c d e = subst (λ k. P k (other_set_at f.other index)) (sym (eqb-true kind 7 e)) other
    of false false false false false a b c d e = none kind

-- each descriptor of accepted ones has the type that it is asked for by
pub descriptor_type : (f : DescriptorFile) (kind index language : ℕ) → has_wrong_kind f ≡ false → TypeIs kind (descriptor f kind index language)
descriptor_type f kind index language right =
    let own = or_parts (list_any (is_other_kind kinds.Configuration) f.sets) (list_any (is_other_kind kinds.OtherSpeed) (other_sets f.other)) right in
    by_kind TypeIs f index language (device_type f.device (index == 0)) (sets_type kinds.Configuration f.sets index own.0) (string_type f.strings (named_indices f) index language)
    (qualifier_type f.other index) (other_type f.other index own.1) (λ k. tt) kind

pub less_so : (n : ℕ) → nat_lt 1 n ≡ true → 1 < n
less_so n e = grind (arith, nat_tests)

pub front_at : (front all : List ℕ) (i : ℕ) → IsFront front all → i < length front → slice_index front i ≡ slice_index all i
front_at front all i is low = sym (get_or_append_left front is.0 0 i low) ∙ ap (λ b. slice_index b i) is.1

pub front_type : (kind : ℕ) (o : Option (List ℕ)) (bytes : List ℕ) → TypeIs kind o → IsFront bytes (unwrap_or o []) → 1 < length bytes → slice_index bytes 1 ≡ kind
front_type kind None [] is front some = absurd (let w : ⊥ = omega (arith, some) in w)
front_type kind None (x ∷ bytes) is front some = absurd (let e : x ∷ (bytes ++ front.0) ≡ [] = front.1 in let w : ⊥ = cc in w)
front_type kind (Some b) bytes is front some = front_at bytes b 1 front some ∙ is

not_other : (brings : Bool) (type kind : ℕ) → (brings ≡ true → type ≡ kind) → (brings && not (type == kind)) ≡ false
not_other false type kind is = refl
not_other true type kind is = let same : type ≡ kind = is refl in grind (arith, nat_tests)

type_right : (size : ℕ) (f : DescriptorFile) (t : ControlTransfer) → has_wrong_kind f ≡ false → IsSound size (described_by f) t → has_other_type t ≡ false
type_right size f t right is = not_other (brings_descriptor t) (slice_index t.data 1) (t.setup.value / 256) (λ e.
    let parts = parts_brought t e in
    front_type (t.setup.value / 256) (descriptor f (t.setup.value / 256) (t.setup.value % 256) t.setup.index) t.data
    (descriptor_type f (t.setup.value / 256) (t.setup.value % 256) t.setup.index right) (is.front parts.is_read parts.is_ended parts.is_kept) (less_so (length t.data) parts.of_type))

pub accepted_kinds : (f : DescriptorFile) → has_wrong_sets f ≡ false → has_wrong_kind f ≡ false
unfolding has_wrong_sets
accepted_kinds f e = (or_parts (has_wrong_count f) (has_wrong_kind f) (or_parts (has_wrong_count f || has_wrong_kind f) (has_wrong_layout f) e).0).1

pub none_of_other_type : (size : ℕ) (f : DescriptorFile) (ts : List ControlTransfer) → has_wrong_sets f ≡ false → AllByRecursion (IsSound size (described_by f)) ts
    → IsTransferFreeAfter OtherType [] ts
none_of_other_type size f ts right each = free_by OtherType (IsSound size (described_by f)) (λ t earlier is before. type_right size f t (accepted_kinds f right) is) [] ts tt each
