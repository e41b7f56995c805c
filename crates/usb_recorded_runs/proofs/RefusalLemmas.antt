-- Which descriptors no device refuses in a recorded enumeration.
use Rattle.std.proofs.Common.{◌≡◌, ◌⊎◌, inl, inr, ◌<◌, ◌≤◌, ◌==◌, ◌&&◌, ◌||◌, ◌/◌, ◌%◌, nat_lt, ℕ, zero, suc, Bool, true, false, not, if◌then◌else◌, List, [], ◌∷◌, length, refl, sym, ◌∙◌, ap, subst, arith, length-append}
use Rattle.std.specs.Prelude.{Option, Some, None, slice_index, unwrap_or}
use Rattle.std.specs.List.{AllByRecursion}
use Rattle.std.proofs.lemmas.Bool.{and_parts, cases_lt, eqb-true, false_from_ne_true, ltb-true, not-false, or_cases, or_parts}
use Rattle.std.proofs.lemmas.Bool.Decides.{nat_tests}
use Rattle.std.proofs.lemmas.List.{get_or_past}
use Rattle.usb_fields.specs.declared.setup.Setup.{Setup}
use Rattle.usb_set.specs.declared.tree.Configuration.{Configuration}
use Rattle.usb_file_data.specs.declared.file.DescriptorFile.{DescriptorFile}
use Rattle.usb_file_data.specs.declared.file.Other.{Other}
use Rattle.usb_file_data.specs.File.{has_wrong_count, has_wrong_kind, has_wrong_layout, is_other_miscounted}
use Rattle.usb_file_data.specs.Findings.{findings}
use Rattle.usb_file_data.proofs.Sorting.{FirstIsRight, first_right}
use Rattle.usb_device.specs.Accepted.{has_wrong_sets}
use Rattle.usb_device.specs.Descriptors.{descriptor, other_set_at, qualifier_of, set_at}
use Rattle.usb_device.specs.declared.state.State.{State}
use Rattle.usb_device.specs.Requests.{Bytes, Done, Refused, answer, gives}
use Rattle.usb_capture.specs.declared.asked.Asked.{Asked}
use Rattle.usb_capture.specs.declared.control_transfer.ControlTransfer.{ControlTransfer}
use Rattle.usb_capture.specs.declared.ending.Ending.{Ending}
use Rattle.usb_capture.specs.declared.ending.Ending.TheVariants as endings
use Rattle.usb_capture.specs.declared.finding.Finding.{Finding}
use Rattle.usb_capture.specs.declared.finding.Finding.TheVariants.{RefusesCounted, RefusesGiven, RefusesRequired}
use Rattle.usb_capture.specs.Findings.{asked_of, beside, holds, is_counted, is_required, is_stall, refuses_descriptor, said}
use Rattle.usb_capture.specs.Readings.{reads_descriptor}
use Rattle.usb_capture.specs.TransferFindings.{is_found}
use Rattle.usb_recorded_runs.specs.Findings.{IsTransferFreeAfter}
use Rattle.usb_recorded_runs.proofs.AnswerLemmas.{asked_so, described_by, table_gives}
use Rattle.usb_recorded_runs.proofs.EndedLemmas.{IsEnded}
use Rattle.usb_recorded_runs.proofs.SizeLemmas.{IsFront, IsSound}
use Rattle.usb_recorded_runs.proofs.TransferLemmas.{descriptor_of, free_by, front_at, said_front}

-- ---- a device refuses what it has not

module _ (f : DescriptorFile) (s : State) where
  given_so : (size : ℕ) (all : List ℕ) (none : Bool) → (if none then Done s else Bytes all) ≡ Refused → ⊥
  given_so size all true e = cc
  given_so size all false e = cc

  gives_none : (value index size : ℕ) (o : Option (List ℕ)) → gives s (asked_so f s value index size) o ≡ Refused → o ≡ None
  gives_none value index size None e = refl
  gives_none value index size (Some all) e = absurd (given_so size _ (size == 0) e)

  lacks : (q : Setup) → reads_descriptor q ≡ true → answer f s q ≡ Refused → descriptor f (q.value / 256) (q.value % 256) q.index ≡ None
  lacks q read refused =
      let parts = and_parts (q.request_type == 128) (q.request == 6) read in
      let type = eqb-true q.request_type 128 parts.0 in
      let request = eqb-true q.request 6 parts.1 in
      let same : q ≡ asked_so f s q.value q.index q.length =
      (λ i. record { request_type = type i; request = request i; value = q.value; index = q.index; length = q.length }) in
      gives_none q.value q.index q.length (descriptor f (q.value / 256) (q.value % 256) q.index)
      (sym (table_gives f s q.value q.index q.length) ∙ ap (answer f s) (sym same) ∙ refused)

is_stalled : (ending : Ending) → is_stall ending ≡ true → ending ≡ endings.Stall
is_stalled endings.Stall e = refl
is_stalled endings.Unseen e = absurd (let w : ⊥ = cc in w)
is_stalled endings.Done e = absurd (let w : ⊥ = cc in w)
is_stalled (endings.Failed status) e = absurd (let w : ⊥ = cc in w)
is_stalled (endings.Refused status) e = absurd (let w : ⊥ = cc in w)

-- A descriptor that is refused is one that the device has not.
pub refused_lacks : (f : DescriptorFile) (t : ControlTransfer) → IsEnded f t → refuses_descriptor t ≡ true → descriptor_of f (asked_of t) ≡ None
refused_lacks f t ended e =
    let parts = and_parts (reads_descriptor t.setup) (is_stall t.ending) e in
    let refusal = ended.refused (is_stalled t.ending parts.1) in
    lacks f refusal.0 t.setup parts.0 refusal.1

-- ---- what was said before

-- Who knows of each descriptor its first bytes.
abbrev pub KnowsFronts : DescriptorFile → (Asked → List ℕ) → Type 0
KnowsFronts f known = (asked : Asked) → IsFront (known asked) (unwrap_or (descriptor_of f asked) [])

pub all_of : {P Q : ControlTransfer → Type 0} (ts : List ControlTransfer) → ((t : ControlTransfer) → P t → Q t) → AllByRecursion P ts → AllByRecursion Q ts
all_of [] of each = tt
all_of (t ∷ ts) of each = (of t each.0, all_of ts of each.1)

pub all_both : (P Q : ControlTransfer → Type 0) (ts : List ControlTransfer) → AllByRecursion P ts → AllByRecursion Q ts → AllByRecursion (λ t. P t × Q t) ts
all_both P Q [] first second = tt
all_both P Q (t ∷ ts) first second = ((first.0, second.0), all_both P Q ts first.1 second.1)

-- what is found in no transfer, by those who know the first bytes of descriptors
pub free_after : (finding : Finding) (size : ℕ) (f : DescriptorFile)
    → ((earlier : List ControlTransfer) (t : ControlTransfer) → is_found finding earlier t ≡ holds finding (λ asked. said asked earlier) t)
    → ((t : ControlTransfer) (known : Asked → List ℕ) → IsSound size (described_by f) t → IsEnded f t → KnowsFronts f known → holds finding known t ≡ false)
    → (ts : List ControlTransfer) → AllByRecursion (IsSound size (described_by f)) ts → AllByRecursion (IsEnded f) ts → IsTransferFreeAfter finding [] ts
free_after finding size f same free ts each ended =
    free_by finding (λ t. IsSound size (described_by f) t × IsEnded f t) (λ t earlier is before.
    same earlier t ∙ free t (λ asked. said asked earlier) is.0 is.1 (λ asked. said_front size f asked earlier (all_of earlier (λ t is. is.0) before)))
    [] ts tt (all_both (IsSound size (described_by f)) (IsEnded f) ts each ended)

pub none_in_front : (front : List ℕ) → IsFront front [] → length front ≡ 0
none_in_front front is = omega (arith, length-append front is.0, ap length is.1)

-- Each byte is that of the descriptor, or is not there.
pub front_below : (front all : List ℕ) (i : ℕ) → IsFront front all → slice_index front i ≤ slice_index all i
front_below front all i is = of (cases_lt i (length front))
  where
    of : (i < length front) ⊎ (length front ≤ i) → slice_index front i ≤ slice_index all i
    of (inl low) = omega (arith, front_at front all i is low)
    of (inr past) = omega (arith, get_or_past front i 0 past)

-- ---- refusals of what was said, and of what each device has

nothing_given : (refuses : Bool) (n : ℕ) → (refuses ≡ true → n ≡ 0) → (refuses && not (n == 0)) ≡ false
nothing_given false n none = refl
nothing_given true n none = let zero : n ≡ 0 = none refl in grind (arith, nat_tests)

given_right : (f : DescriptorFile) (t : ControlTransfer) (known : Asked → List ℕ) → IsEnded f t → KnowsFronts f known → holds RefusesGiven known t ≡ false
given_right f t known ended knows = nothing_given (refuses_descriptor t) (length (known (asked_of t))) (λ e.
    none_in_front (known (asked_of t)) (subst (λ o. IsFront (known (asked_of t)) (unwrap_or o [])) (refused_lacks f t ended e) (knows (asked_of t))))

pub none_refuses_given : (size : ℕ) (f : DescriptorFile) (ts : List ControlTransfer) → AllByRecursion (IsSound size (described_by f)) ts
    → AllByRecursion (IsEnded f) ts → IsTransferFreeAfter RefusesGiven [] ts
none_refuses_given size f ts each ended =
    free_after RefusesGiven size f (λ earlier t. refl) (λ t known is ends knows. given_right f t known ends knows) ts each ended

-- A refusal of a descriptor of which nothing was said is none of these, if the device has them all.
pub unsaid_right : (refuses unsaid has : Bool) → (refuses ≡ true → has ≡ false) → ((refuses && unsaid) && has) ≡ false
unsaid_right false unsaid has none = refl
unsaid_right true false has none = refl
unsaid_right true true has none = none refl

some_device : (f : DescriptorFile) (value index : ℕ) → value ≡ 256 → descriptor f (value / 256) (value % 256) index ≡ None → ⊥
some_device f value index is none = let e : descriptor f 1 0 index ≡ None = subst (λ v. descriptor f (v / 256) (v % 256) index ≡ None) is none in cc

some_first : (sets : List Configuration) → FirstIsRight sets → set_at sets 0 ≡ None → ⊥
some_first [] right none = right
some_first (c ∷ cs) right none = cc

some_set : (f : DescriptorFile) (value index : ℕ) → findings f ≡ [] → value ≡ 512 → descriptor f (value / 256) (value % 256) index ≡ None → ⊥
some_set f value index right is none = some_first f.sets (first_right f right) (subst (λ v. descriptor f (v / 256) (v % 256) index ≡ None) is none)

not_required : (f : DescriptorFile) (asked : Asked) → findings f ≡ [] → descriptor_of f asked ≡ None → is_required asked ≡ false
not_required f asked right none = false_from_ne_true (is_required asked) (λ e.
    of (or_cases (asked.value == 256) (asked.value == 512) (and_parts (asked.value == 256 || asked.value == 512) (asked.index == 0) e).0))
  where
    of : ((asked.value == 256) ≡ true) ⊎ ((asked.value == 512) ≡ true) → ⊥
    of (inl device) = some_device f asked.value asked.index (eqb-true asked.value 256 device) none
    of (inr set) = some_set f asked.value asked.index right (eqb-true asked.value 512 set) none

pub none_refuses_required : (size : ℕ) (f : DescriptorFile) (ts : List ControlTransfer) → findings f ≡ [] → AllByRecursion (IsSound size (described_by f)) ts
    → AllByRecursion (IsEnded f) ts → IsTransferFreeAfter RefusesRequired [] ts
none_refuses_required size f ts right each ended = free_after RefusesRequired size f (λ earlier t. refl) (λ t known is ends knows.
    unsaid_right (refuses_descriptor t) (length (known (asked_of t)) == 0) (is_required (asked_of t)) (λ e.
    not_required f (asked_of t) right (refused_lacks f t ends e))) ts each ended

-- ---- refusals of what was counted

past_sets : (sets : List Configuration) (i : ℕ) → set_at sets i ≡ None → length sets ≤ i
past_sets [] i none = omega arith
past_sets (c ∷ cs) zero none = absurd (let w : ⊥ = cc in w)
past_sets (c ∷ cs) (suc i) none = omega (arith, past_sets cs i none)

own_count : (f : DescriptorFile) → has_wrong_count f ≡ false → length f.sets ≡ f.device.configurations
own_count f right =
    let test = (or_parts (not (length f.sets == f.device.configurations)) (is_other_miscounted f.other) right).0 in
    eqb-true (length f.sets) f.device.configurations (not-false (length f.sets == f.device.configurations) test)

past_others : (other : Option Other) (i : ℕ) → is_other_miscounted other ≡ false → other_set_at other i ≡ None
    → slice_index (unwrap_or (qualifier_of other 0) []) 8 ≤ i
past_others None i right none = omega arith
past_others (Some o) i right none =
    omega (arith, eqb-true (length o.sets) o.qualifier.configurations (not-false (length o.sets == o.qualifier.configurations) right), past_sets o.sets i none)

counted_parts : (a b c : Bool) → (a && b && c) ≡ true → (a ≡ true) × (c ≡ true)
counted_parts true true true e = (refl, refl)
counted_parts a b c e = absurd (let w : ⊥ = cc in w)

module _ (f : DescriptorFile) (known : Asked → List ℕ) (right : has_wrong_count f ≡ false) (knows : KnowsFronts f known) (asked : Asked)
    (none : descriptor_of f asked ≡ None) where
  abbrev n : ℕ
  n = asked.value % 256

  no_set : (asked.value / 256 == 2) ≡ true → nat_lt n (slice_index (known (beside asked 256)) 17) ≡ true → ⊥
  no_set kind below =
      let absent : set_at f.sets n ≡ None = subst (λ k. descriptor f k n asked.index ≡ None) (eqb-true (asked.value / 256) 2 kind) none in
      let few : slice_index (known (beside asked 256)) 17 ≤ f.device.configurations = front_below (known (beside asked 256)) _ 17 (knows (beside asked 256)) in
      omega (arith, few, own_count f right, past_sets f.sets n absent, ltb-true n (slice_index (known (beside asked 256)) 17) below)

  no_other : (asked.value / 256 == 7) ≡ true → nat_lt n (slice_index (known (beside asked 1536)) 8) ≡ true → ⊥
  no_other kind below =
      let absent : other_set_at f.other n ≡ None = subst (λ k. descriptor f k n asked.index ≡ None) (eqb-true (asked.value / 256) 7 kind) none in
      let few : slice_index (known (beside asked 1536)) 8 ≤ slice_index (unwrap_or (qualifier_of f.other 0) []) 8 =
      front_below (known (beside asked 1536)) _ 8 (knows (beside asked 1536)) in
      let counts = (or_parts (not (length f.sets == f.device.configurations)) (is_other_miscounted f.other) right).1 in
      omega (arith, few, past_others f.other n counts absent, ltb-true n (slice_index (known (beside asked 1536)) 8) below)

  not_counted : is_counted known asked ≡ false
  not_counted = false_from_ne_true (is_counted known asked) (λ e.
      of (or_cases (asked.value / 256 == 2 && nat_lt 0 n && nat_lt n (slice_index (known (beside asked 256)) 17))
      (asked.value / 256 == 7 && nat_lt n (slice_index (known (beside asked 1536)) 8))
      (and_parts (asked.index == 0) _ e).1))
    where
      of : ((asked.value / 256 == 2 && nat_lt 0 n && nat_lt n (slice_index (known (beside asked 256)) 17)) ≡ true)
          ⊎ ((asked.value / 256 == 7 && nat_lt n (slice_index (known (beside asked 1536)) 8)) ≡ true) → ⊥
      of (inl e) =
          let parts = counted_parts (asked.value / 256 == 2) (nat_lt 0 n) (nat_lt n (slice_index (known (beside asked 256)) 17)) e in
          no_set parts.0 parts.1
      of (inr e) = let parts = and_parts (asked.value / 256 == 7) (nat_lt n (slice_index (known (beside asked 1536)) 8)) e in no_other parts.0 parts.1

counts_right : (f : DescriptorFile) → has_wrong_sets f ≡ false → has_wrong_count f ≡ false
unfolding has_wrong_sets
counts_right f right = (or_parts (has_wrong_count f) (has_wrong_kind f) (or_parts (has_wrong_count f || has_wrong_kind f) (has_wrong_layout f) right).0).0

pub none_refuses_counted : (size : ℕ) (f : DescriptorFile) (ts : List ControlTransfer) → has_wrong_sets f ≡ false
    → AllByRecursion (IsSound size (described_by f)) ts
    → AllByRecursion (IsEnded f) ts → IsTransferFreeAfter RefusesCounted [] ts
none_refuses_counted size f ts right each ended = free_after RefusesCounted size f (λ earlier t. refl) (λ t known is ends knows.
    unsaid_right (refuses_descriptor t) (length (known (asked_of t)) == 0) (is_counted known (asked_of t)) (λ e.
    not_counted f known (counts_right f right) knows (asked_of t) (refused_lacks f t ends e))) ts each ended
