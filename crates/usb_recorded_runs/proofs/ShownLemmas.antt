-- What is found in no transfer that shows a device's answer, and in no conversation of such transfers.
use Rattle.std.proofs.Common.{◌≡◌, ◌⊎◌, inl, inr, ◌<◌, ◌≤◌, ◌+◌, ◌*◌, ◌==◌, ◌&&◌, ◌||◌, ◌/◌, ◌%◌, nat_lt, nat_le, ℕ, zero, suc, Bool, true, false, not, if◌then◌else◌, List, [], ◌∷◌, ◌++◌, length, take, drop, map, refl, sym, ◌∙◌, ap, subst, arith, length-append}
use Rattle.std.specs.Prelude.{Option, Some, None, slice_get, slice_index, slice_set, fold, get_or, unwrap_or}
use Rattle.std.specs.List.{AllByRecursion, list_all, list_any, range_with_len}
use Rattle.std.specs.Option.{option_map}
use Rattle.std.proofs.lemmas.Bool.{and_parts, cases_lt, eq-eqb, eqb-true, false_from_ne_true, ltb-true, not-false, or_cases, or_parts, true_from_ne_false}
use Rattle.std.proofs.lemmas.Bool.Decides.{nat_tests}
use Rattle.std.proofs.lemmas.List.{get_or_append_left, get_or_past, take-append-drop}
use Rattle.std.proofs.lemmas.List.Folds.{list_all_at, list_any_at}
use Rattle.std.proofs.lemmas.List.FromFn.{get_or-range_with_len, length-range_with_len}
use Rattle.std.proofs.Math.Bool.{or-true}
use Rattle.usb_fields.specs.Bytes.{AreBytes}
use Rattle.usb_fields.specs.Device.{device_bytes}
use Rattle.usb_fields.specs.declared.setup.Class.{Class}
use Rattle.usb_fields.specs.declared.setup.Class.TheVariants as classes
use Rattle.usb_fields.specs.declared.setup.Direction.{Direction}
use Rattle.usb_fields.specs.declared.setup.Direction.TheVariants as directions
use Rattle.usb_fields.specs.declared.setup.Recipient.{Recipient}
use Rattle.usb_fields.specs.declared.setup.Recipient.TheVariants.{Device, Interface, Endpoint, Other, Reserved}
use Rattle.usb_fields.specs.declared.setup.Setup.{Setup}
use Rattle.usb_fields.specs.Setup.{class_of, direction_of, recipient_of}
use Rattle.usb_set.specs.declared.tree.Configuration.{Configuration}
use Rattle.usb_file_data.specs.declared.file.DescriptorFile.{DescriptorFile}
use Rattle.usb_file_data.specs.File.{file_bytes, has_wrong_count, has_wrong_kind, has_wrong_layout, is_other_miscounted, whole_set}
use Rattle.usb_device.specs.Accepted.{has_wrong_sets}
use Rattle.usb_device.specs.declared.state.State.{State}
use Rattle.usb_device.specs.Descriptors.{descriptor, set_at}
use Rattle.usb_device.specs.Offers.{offer_of, set_offer}
use Rattle.usb_device.specs.Requests.{Outcome, Bytes, Done, Refused, Takes, answer, answer_of, bytes_in, changed_halts, does, feature_of, gives, has_value, interface_addresses, is_device, is_interface, names_alternate, names_endpoint, names_endpoint_zero, one_if, row, selected_settings, set_configuration, set_interface, shown_attributes, status_of, status_of_endpoint, tells, when}
use Rattle.usb_device.specs.States as states
use Rattle.usb_device.specs.States.{first_alternates, halt_of, has_address, is_configured, without_halt}
use Rattle.usb_device.specs.Step.{carried_out}
use Rattle.usb_bus.specs.Beside.{IsTable}
use Rattle.usb_bus.specs.Converse.{AskedView, state_after}
use Rattle.usb_capture.specs.declared.asked.Asked.{Asked}
use Rattle.usb_capture.specs.declared.control_transfer.ControlTransfer.{ControlTransfer}
use Rattle.usb_capture.specs.declared.ending.Ending.{Ending}
use Rattle.usb_capture.specs.declared.ending.Ending.TheVariants as endings
use Rattle.usb_capture.specs.declared.finding.Finding.{Finding}
use Rattle.usb_capture.specs.declared.finding.Finding.TheVariants.{GivesUncounted, MoreThanAsked, OtherBytes, OtherConfiguration, OtherType, RefusesAddress, RefusesConfiguration, RefusesStatus, TakesConfiguration}
use Rattle.usb_capture.specs.Findings as findings
use Rattle.usb_capture.specs.Findings.{all_are_known, asked_of, beside, brings_descriptor, configuration, configuration_count, differ, gives_address, holds, is_answered, is_configuration_value, is_no_value, is_stall, is_same, is_standard_type, is_uncounted, may_change, reads_configuration, reads_status, said, sets_configuration, tells_no_value}
use Rattle.usb_capture.specs.Readings.{is_done, reads_descriptor}
use Rattle.usb_capture.specs.TransferFindings.{is_found}
use Rattle.usb_recorded_runs.specs.Answers.{IsAnswered, IsOfDevice, Shows, descriptor_of, never_found}
use Rattle.usb_recorded_runs.specs.Findings.{IsTransferFreeAfter}
use Rattle.usb_recorded_runs.proofs.AnswerLemmas.{any_reported, described_by}
use Rattle.usb_recorded_runs.proofs.SizeLemmas.{IsFront, IsNoneOrAll, IsSound}
use Rattle.usb_recorded_runs.proofs.TransferLemmas.{front_over, fronts_agree, none_of_other_type, same_descriptor}

-- ---- what is shown

-- A STALL is a refusal,
pub stalls_refused : (o : Outcome) (t : ControlTransfer) → Shows o t → is_stall t.ending ≡ true → o ≡ Refused
stalls_refused (Bytes bytes) t shown e = absurd (let w : false ≡ true = sym (ap is_stall shown.0) ∙ e in let v : ⊥ = cc in v)
stalls_refused (Done next) t shown e = absurd (let w : false ≡ true = sym (ap is_stall shown.0) ∙ e in let v : ⊥ = cc in v)
stalls_refused Refused t shown e = refl
stalls_refused (Takes judge) t shown e = absurd shown

-- and what is done is none.
done_taken : (o : Outcome) (t : ControlTransfer) → Shows o t → is_done t.ending ≡ true → o ≡ Refused → ⊥
done_taken (Bytes bytes) t shown e refused = cc
done_taken (Done next) t shown e refused = cc
done_taken Refused t shown e refused = let w : false ≡ true = sym (ap is_done shown.0) ∙ e in cc
done_taken (Takes judge) t shown e refused = shown

never_both : (ending : Ending) → is_done ending ≡ true → is_stall ending ≡ true → ⊥
never_both endings.Unseen done stall = cc
never_both endings.Done done stall = cc
never_both endings.Stall done stall = cc
never_both (endings.Failed status) done stall = cc
never_both (endings.Refused status) done stall = cc

uncut : (cut : Bool) → not cut ≡ true → cut ≡ false
uncut false e = refl
uncut true e = absurd (let w : ⊥ = cc in w)

-- ---- tests of several parts

record GivenParts (read done kept some type : Bool) : Type 0 where
  is_read : read ≡ true
  is_over : done ≡ true
  is_kept : kept ≡ true
  has_some : some ≡ true

given_parts : (read done kept some type : Bool) → (read && done && kept && some && type) ≡ true → GivenParts read done kept some type
given_parts true true true true true e = record { is_read = refl; is_over = refl; is_kept = refl; has_some = refl }
given_parts read done kept some type e = absurd (let w : ⊥ = cc in w)

parts_given : (t : ControlTransfer) → findings.gives t ≡ true
    → GivenParts (reads_descriptor t.setup) (is_done t.ending) (not t.is_cut) (nat_lt 1 (length t.data)) (slice_index t.data 1 == t.setup.value / 256)
parts_given t e =
    given_parts (reads_descriptor t.setup) (is_done t.ending) (not t.is_cut) (nat_lt 1 (length t.data)) (slice_index t.data 1 == t.setup.value / 256) e

record FourParts (a b c d : Bool) : Type 0 where
  first : a ≡ true
  second : b ≡ true
  third : c ≡ true
  fourth : d ≡ true

three_parts : (a b c : Bool) → (a && b && c) ≡ true → (a ≡ true) × (b ≡ true) × (c ≡ true)
three_parts true true true e = (refl, refl, refl)
three_parts a b c e = absurd (let w : ⊥ = cc in w)

four_parts : (a b c d : Bool) → (a && b && c && d) ≡ true → FourParts a b c d
four_parts true true true true e = record { first = refl; second = refl; third = refl; fourth = refl }
four_parts a b c d e = absurd (let w : ⊥ = cc in w)

-- tests of bmRequestType, bRequest, wValue, wIndex and wLength of a request
pub record RequestParts (type request value index size : Bool) : Type 0 where
  pub of_type : type ≡ true
  pub of_request : request ≡ true
  pub of_value : value ≡ true
  pub of_index : index ≡ true
  pub of_size : size ≡ true

pub request_parts : (type request value index size : Bool) → ((type && request) && value && index && size) ≡ true → RequestParts type request value index size
request_parts true true true true true e = record { of_type = refl; of_request = refl; of_value = refl; of_index = refl; of_size = refl }
request_parts type request value index size e = absurd (let w : ⊥ = cc in w)

-- the same in one row
read_parts : (type request value index size : Bool) → (type && request && value && index && size) ≡ true → RequestParts type request value index size
read_parts true true true true true e = record { of_type = refl; of_request = refl; of_value = refl; of_index = refl; of_size = refl }
read_parts type request value index size e = absurd (let w : ⊥ = cc in w)

last_part : (a b c d e : Bool) → (a && b && c && d && e) ≡ true → e ≡ true
last_part true true true true true e = refl
last_part a b c d e all = absurd (let w : ⊥ = cc in w)

at_most : (m n : ℕ) → nat_le m n ≡ true → m ≤ n
at_most m n e = grind (arith, nat_tests)

-- a device whose address isn't 0 has one
addressed : (m n : ℕ) → m ≡ n → nat_lt 0 m ≡ true → not (n == 0) ≡ true
addressed m n same some = grind (arith, nat_tests)

-- ---- numbers from 0 on

-- one of them for which a test holds
record IsIn (p : ℕ → Bool) (a n : ℕ) : Type 0 where
  place : ℕ
  below : place < a + n
  passes : p place ≡ true

any_in : (p : ℕ → Bool) (a n : ℕ) → list_any p (range_with_len a n) ≡ true → IsIn p a n
any_in p a zero e = absurd (let w : ⊥ = cc in w)
any_in p a (suc n) e = of (or_cases (p a) (list_any p (range_with_len (a + 1) n)) e) (any_in p (a + 1) n)
  where
    of : (p a ≡ true) ⊎ (list_any p (range_with_len (a + 1) n) ≡ true) → (list_any p (range_with_len (a + 1) n) ≡ true → IsIn p (a + 1) n)
        → IsIn p a (suc n)
    of (inl own) later = record { place = a; below = omega arith; passes = own }
    of (inr more) later = let h = later more in record { place = h.place; below = omega (arith, h.below); passes = h.passes }

number_at : (n i : ℕ) → i < n → get_or (range_with_len 0 n) i 0 ≡ i
number_at n i low = omega (arith, get_or-range_with_len 0 n i 0 low)

some_of : (p : ℕ → Bool) (n i : ℕ) → i < n → p i ≡ true → list_any p (range_with_len 0 n) ≡ true
some_of p n i low e = list_any_at p (range_with_len 0 n) i 0 (omega (arith, length-range_with_len 0 n, low)) (ap p (number_at n i low) ∙ e)

each_of : (p : ℕ → Bool) (n i : ℕ) → list_all p (range_with_len 0 n) ≡ true → i < n → p i ≡ true
each_of p n i all low = true_from_ne_false (p i) (λ e.
    let none : list_all p (range_with_len 0 n) ≡ false =
    list_all_at p (range_with_len 0 n) i 0 (omega (arith, length-range_with_len 0 n, low)) (ap p (number_at n i low) ∙ e) in
    let w : true ≡ false = sym all ∙ none in
    cc)

-- ---- fronts of descriptors

front_at : (front all : List ℕ) (i : ℕ) → IsFront front all → i < length front → slice_index front i ≡ slice_index all i
front_at front all i is low = sym (get_or_append_left front is.0 0 i low) ∙ ap (λ b. slice_index b i) is.1

nothing_in : (front : List ℕ) → IsFront front [] → length front ≡ 0
nothing_in front is = omega (arith, length-append front is.0, ap length is.1)

byte_at : (b : List ℕ) (i : ℕ) → AreBytes b → slice_index b i < 256
byte_at [] zero each = omega arith
byte_at [] (suc i) each = omega arith
byte_at (x ∷ b) zero each = each.0
byte_at (x ∷ b) (suc i) each = byte_at b i each.1

-- ---- sets and their values

set_value : (c : Configuration) → slice_index (whole_set c) 5 ≡ c.value
unfolding whole_set
set_value c = refl

-- a set of this value
record HasSet (sets : List Configuration) (value : ℕ) : Type 0 where
  place : ℕ
  set : Configuration
  there : slice_get sets place ≡ Some set
  below : place < length sets
  is : set.value ≡ value

offers_value : (sets : List Configuration) (place value : ℕ) (set : Configuration) → slice_get sets place ≡ Some set → set.value ≡ value
    → list_any (has_value value) (map set_offer sets) ≡ true
offers_value [] place value set there is = absurd (let w : ⊥ = cc in w)
offers_value (c ∷ cs) zero value set there is =
    let same : c ≡ set = cc in
    let own : (c.value == value) ≡ true = eq-eqb c.value value (ap (λ x. x.value) same ∙ is) in
    ap (λ b. b || list_any (has_value value) (map set_offer cs)) own
offers_value (c ∷ cs) (suc place) value set there is = ap (λ b. (c.value == value) || b) (offers_value cs place value set there is) ∙ or-true (c.value == value)

has_set : (sets : List Configuration) (value : ℕ) → list_any (has_value value) (map set_offer sets) ≡ true → HasSet sets value
has_set [] value e = absurd (let w : ⊥ = cc in w)
has_set (c ∷ cs) value e = of (or_cases (c.value == value) (list_any (has_value value) (map set_offer cs)) e) (has_set cs value)
  where
    of : ((c.value == value) ≡ true) ⊎ (list_any (has_value value) (map set_offer cs) ≡ true)
        → (list_any (has_value value) (map set_offer cs) ≡ true → HasSet cs value) → HasSet (c ∷ cs) value
    of (inl own) later = record { place = zero; set = c; there = refl; below = omega arith; is = eqb-true c.value value own }
    of (inr more) later = let h = later more in record { place = suc h.place; set = h.set; there = h.there; below = omega (arith, h.below); is = h.is }

-- the value that the first bytes of a set say
set_in_front : (o : Option Configuration) (front : List ℕ) → IsFront front (unwrap_or (option_map whole_set o) []) → 5 < length front
    → (c : Configuration) × (o ≡ Some c) × (slice_index front 5 ≡ c.value)
set_in_front None front is long = absurd (let w : ⊥ = omega (arith, long, nothing_in front is) in w)
set_in_front (Some c) front is long = (c, refl, front_at front (whole_set c) 5 is long ∙ set_value c)

none_past : (sets : List Configuration) (i : ℕ) → length sets ≤ i → set_at sets i ≡ None
none_past [] zero past = refl
none_past [] (suc i) past = refl
none_past (c ∷ cs) zero past = absurd (let w : ⊥ = omega (arith, past) in w)
none_past (c ∷ cs) (suc i) past = none_past cs i (omega (arith, past))

-- accepted descriptors have as many sets as the device says
right_count : (f : DescriptorFile) → has_wrong_sets f ≡ false → length f.sets ≡ f.device.configurations
unfolding has_wrong_sets
right_count f right =
    let counts = (or_parts (has_wrong_count f) (has_wrong_kind f) (or_parts (has_wrong_count f || has_wrong_kind f) (has_wrong_layout f) right).0).0 in
    let test = (or_parts (not (length f.sets == f.device.configurations)) (is_other_miscounted f.other) counts).0 in
    eqb-true (length f.sets) f.device.configurations (not-false (length f.sets == f.device.configurations) test)

-- 0 and the values of the sets
abbrev is_own_value : DescriptorFile → ℕ → Bool
is_own_value f value = value == 0 || list_any (has_value value) (map set_offer f.sets)

some_value : (f : DescriptorFile) (value : ℕ) → list_any (has_value value) (map set_offer f.sets) ≡ true → is_own_value f value ≡ true
some_value f value some = ap (λ b. value == 0 || b) some ∙ or-true (value == 0)

zero_value : (f : DescriptorFile) (value : ℕ) → (value == 0) ≡ true → is_own_value f value ≡ true
zero_value f value none = ap (λ b. b || list_any (has_value value) (map set_offer f.sets)) none

-- ---- the rows of the table

module _ (f : DescriptorFile) (s : State) where
  -- a request with these fields
  abbrev pub asked_so : ℕ → ℕ → ℕ → ℕ → ℕ → Setup
  asked_so type request value index size = record { request_type = type; request = request; value = value; index = index; length = size }

  pub asks_so : (q : Setup) (type request index size : ℕ) → (q.request_type == type) ≡ true → (q.request == request) ≡ true → (q.index == index) ≡ true
      → (q.length == size) ≡ true → q ≡ asked_so type request q.value index size
  asks_so q type request index size a b c d =
      let same_type : q.request_type ≡ type = eqb-true q.request_type type a in
      let same_request : q.request ≡ request = eqb-true q.request request b in
      let same_index : q.index ≡ index = eqb-true q.index index c in
      let same_size : q.length ≡ size = eqb-true q.length size d in
      (λ i. record { request_type = same_type i; request = same_request i; value = q.value; index = same_index i; length = same_size i })

  -- SET_ADDRESS of a device that has none
  taken_so : (has selected below : Bool) (o : Outcome) → has ≡ false → below ≡ true → when (not (has && selected) && below && true) o ≡ o
  taken_so false selected true o e d = refl
  taken_so has selected below o e d = absurd (let w : ⊥ = cc in w)

  pub address_taken : (value : ℕ) → has_address s ≡ false → nat_lt value 128 ≡ true → answer f s (asked_so 0 5 value 0 0) ≡ Done (record s { address = value })
  unfolding answer answer_of
  address_taken value none below = taken_so (has_address s) (not (s.selected == 0)) (nat_lt value 128) (Done (record s { address = value })) none below

  -- GET_STATUS of a device that has an address
  status_so : (has : Bool) (b : List ℕ) → has ≡ true → when (has && true) (Bytes b) ≡ Refused → ⊥
  status_so true b e refused = cc
  status_so false b e refused = cc

  status_told : has_address s ≡ true → answer f s (asked_so 128 0 0 0 2) ≡ Refused → ⊥
  unfolding answer answer_of
  status_told has refused = status_so (has_address s) ((shown_attributes (offer_of f) s / 64 % 2 + 2 * one_if s.wakeup) ∷ 0 ∷ []) has refused

  -- SET_CONFIGURATION
  set_so : (has below own : Bool) (o : Outcome) → has ≡ true → below ≡ true → own ≡ true → when (has && true && below && own) o ≡ o
  set_so true true true o a b c = refl
  set_so has below own o a b c = absurd (let w : ⊥ = cc in w)

  own_so : (has below own : Bool) (o : Outcome) → (when (has && true && below && own) o ≡ Refused → ⊥) → own ≡ true
  own_so true true true o taken = refl
  own_so true true false o taken = absurd (taken refl)
  own_so true false own o taken = absurd (taken refl)
  own_so false below own o taken = absurd (taken refl)

  abbrev configured_with : ℕ → State
  configured_with value = record s { selected = value; alternates = first_alternates; halts = 0 }

  configuration_taken : (value : ℕ) → has_address s ≡ true → nat_lt value 256 ≡ true → is_own_value f value ≡ true
      → answer f s (asked_so 0 9 value 0 0) ≡ Done (configured_with value)
  unfolding answer answer_of
  configuration_taken value has below own = set_so (has_address s) (nat_lt value 256) (is_own_value f value) (Done (configured_with value)) has below own

  taken_value : (value : ℕ) → (answer f s (asked_so 0 9 value 0 0) ≡ Refused → ⊥) → is_own_value f value ≡ true
  unfolding answer answer_of
  taken_value value taken = own_so (has_address s) (nat_lt value 256) (is_own_value f value) (Done (configured_with value)) taken

  -- GET_CONFIGURATION
  told_so : (has : Bool) (o : Outcome) → has ≡ true → when (has && true && true) o ≡ o
  told_so true o e = refl
  told_so false o e = absurd (let w : ⊥ = cc in w)

  configuration_told : has_address s ≡ true → answer f s (asked_so 128 8 0 0 1) ≡ Bytes (s.selected ∷ [])
  unfolding answer answer_of
  configuration_told has = told_so (has_address s) (Bytes (s.selected ∷ [])) has

-- ---- the configuration of a device

-- A device has none, or a set of its own.
module _ (f : DescriptorFile) (s : State) (q : Setup) (own : is_own_value f s.selected ≡ true) where
  abbrev Leads : Outcome → Type 0
  Leads (Bytes bytes) = Unit {0}
  Leads (Done next) = is_own_value f next.selected ≡ true
  Leads Refused = Unit {0}
  Leads (Takes judge) = Unit {0}

  if_leads : (c : Bool) (a b : Outcome) → Leads a → Leads b → Leads (if c then a else b)
  if_leads true a b x y = x
  if_leads false a b x y = y

  when_own : (c : Bool) (a : Outcome) → (c ≡ true → Leads a) → Leads (when c a)
  when_own true a x = x refl
  when_own false a x = tt

  when_leads : (c : Bool) (a : Outcome) → Leads a → Leads (when c a)
  when_leads c a x = when_own c a (λ e. x)

  bytes_lead : (d : Direction) (b : List ℕ) → Leads (bytes_in d b)
  bytes_lead directions.In b = tt
  bytes_lead directions.Out b = tt

  gives_leads : (o : Option (List ℕ)) → Leads (gives s q o)
  gives_leads None = tt
  gives_leads (Some b) =
      if_leads (q.length == 0) (Done s) (bytes_in (direction_of q.request_type) (take q.length b)) own (bytes_lead (direction_of q.request_type) (take q.length b))

  tells_leads : (b : List ℕ) → Leads (tells q b)
  tells_leads b = when_leads (q.length == length b) (bytes_in (direction_of q.request_type) b) (bytes_lead (direction_of q.request_type) b)

  does_leads : (next : State) → is_own_value f next.selected ≡ true → Leads (does q next)
  does_leads next e = when_leads (q.length == 0) (Done next) e

  status_endpoint_leads : Leads (status_of_endpoint (offer_of f) s q)
  status_endpoint_leads =
      if_leads (names_endpoint_zero q.index) (when (has_address s) (tells q (0 ∷ 0 ∷ [])))
      (when (is_configured s && names_endpoint (offer_of f) s q.index) (tells q (halt_of s.halts q.index ∷ 0 ∷ [])))
      (when_leads (has_address s) (tells q (0 ∷ 0 ∷ [])) (tells_leads (0 ∷ 0 ∷ [])))
      (when_leads (is_configured s && names_endpoint (offer_of f) s q.index) (tells q (halt_of s.halts q.index ∷ 0 ∷ []))
      (tells_leads (halt_of s.halts q.index ∷ 0 ∷ [])))

  status_leads : (r : Recipient) → Leads (status_of r (offer_of f) s q)
  status_leads Device = when_leads _ _ (tells_leads ((shown_attributes (offer_of f) s / 64 % 2 + 2 * one_if s.wakeup) ∷ 0 ∷ []))
  status_leads Interface = when_leads _ _ (tells_leads (0 ∷ 0 ∷ []))
  status_leads Endpoint = status_endpoint_leads
  status_leads Other = tt
  status_leads Reserved = tt

  feature_leads : (on : Bool) (r : Recipient) → Leads (feature_of r on (offer_of f) s q)
  feature_leads on Device = when_leads _ _ (does_leads (record s { wakeup = on }) own)
  feature_leads on Interface = tt
  feature_leads on Endpoint = when_leads _ _ (does_leads (record s { halts = changed_halts on s.halts q.index }) own)
  feature_leads on Other = tt
  feature_leads on Reserved = tt

  configuration_leads : Leads (set_configuration (offer_of f) s q)
  configuration_leads =
      when_own
      (is_device (recipient_of q.request_type) && has_address s && (q.index == 0) && nat_lt q.value 256 && is_own_value f q.value)
      (does q (configured_with f s q.value))
      (λ e. does_leads (configured_with f s q.value)
      (last_part (is_device (recipient_of q.request_type)) (has_address s) (q.index == 0) (nat_lt q.value 256) (is_own_value f q.value) e))

  interface_leads : Leads (set_interface (offer_of f) s q)
  interface_leads =
      let next : State = record s {
        alternates = slice_set s.alternates q.index q.value;
        halts = fold without_halt s.halts (interface_addresses (selected_settings (offer_of f) s) q.index);
      } in
      when_leads (is_interface (recipient_of q.request_type) && is_configured s && names_alternate (offer_of f) s q.index q.value) (does q next) (does_leads next own)

  row_leads : Leads (row (offer_of f) s q)
  row_leads =
      if_leads (q.request == 0) _ _ (when_leads (q.value == 0) _ (status_leads (recipient_of q.request_type)))
      (if_leads (q.request == 1) _ _ (feature_leads false (recipient_of q.request_type))
      (if_leads (q.request == 3) _ _ (feature_leads true (recipient_of q.request_type))
      (if_leads (q.request == 5) _ _
      (when_leads (is_device (recipient_of q.request_type) && not (is_configured s) && nat_lt q.value 128 && (q.index == 0))
      (does q (record s { address = q.value })) (does_leads (record s { address = q.value }) own))
      (if_leads (q.request == 6) _ _
      (when_leads (is_device (recipient_of q.request_type)) _ (gives_leads (descriptor f (q.value / 256) (q.value % 256) q.index)))
      (if_leads (q.request == 8) _ _ (when_leads _ _ (tells_leads (s.selected ∷ [])))
      (if_leads (q.request == 9) _ _ configuration_leads
      (if_leads (q.request == 10) _ _ (when_leads _ _ (tells_leads (slice_index s.alternates q.index ∷ [])))
      (if_leads (q.request == 11) _ _ interface_leads tt))))))))

  answer_of_leads : (c : Class) → Leads (answer_of c (offer_of f) s q)
  unfolding answer_of
  answer_of_leads classes.Standard = row_leads
  answer_of_leads classes.Class = tt
  answer_of_leads classes.Vendor = tt
  answer_of_leads classes.Reserved = tt

  answer_leads : Leads (answer f s q)
  unfolding answer
  answer_leads = answer_of_leads (class_of q.request_type)

  next_own : (o : Outcome) → Leads o → is_own_value f (carried_out s o).selected ≡ true
  next_own (Bytes bytes) leads = own
  next_own (Done next) leads = leads
  next_own Refused leads = own
  next_own (Takes judge) leads = own

still_own : (f : DescriptorFile) (requests : List AskedView) (s : State) → is_own_value f s.selected ≡ true
    → is_own_value f (state_after (answer f) s requests).selected ≡ true
still_own f [] s own = own
still_own f (a ∷ requests) s own =
    still_own f requests (carried_out s (answer f s a.setup)) (next_own f s a.setup own (answer f s a.setup) (answer_leads f s a.setup own))

always_own : (f : DescriptorFile) (requests : List AskedView) → is_own_value f (state_after (answer f) states.zero requests).selected ≡ true
always_own f requests = still_own f requests states.zero refl

-- ---- the findings

-- what came of a descriptor
given_data : (f : DescriptorFile) (s : State) (t : ControlTransfer) → Shows (answer f s t.setup) t → reads_descriptor t.setup ≡ true → is_done t.ending ≡ true
    → not t.is_cut ≡ true → (t.data ≡ []) ⊎ (t.data ≡ take t.setup.length (described_by f t.setup))
given_data f s t shown read done kept = of (answer f s t.setup) refl shown
  where
    of : (o : Outcome) → answer f s t.setup ≡ o → Shows o t → (t.data ≡ []) ⊎ (t.data ≡ take t.setup.length (described_by f t.setup))
    of (Bytes bytes) e shown =
        let parts = and_parts (t.setup.request_type == 128) (t.setup.request == 6) read in
        inr (shown.2 (uncut t.is_cut kept)
        ∙ any_reported f s t.setup bytes (eqb-true t.setup.request_type 128 parts.0) (eqb-true t.setup.request 6 parts.1) e)
    of (Done next) e shown = inl shown.2
    of Refused e shown = absurd (done_taken Refused t shown done refl)
    of (Takes judge) e shown = absurd shown

given_front : (f : DescriptorFile) (s : State) (t : ControlTransfer) → Shows (answer f s t.setup) t → reads_descriptor t.setup ≡ true → is_done t.ending ≡ true
    → not t.is_cut ≡ true → IsFront t.data (described_by f t.setup)
given_front f s t shown read done kept = of (given_data f s t shown read done kept)
  where
    of : (t.data ≡ []) ⊎ (t.data ≡ take t.setup.length (described_by f t.setup)) → IsFront t.data (described_by f t.setup)
    of (inl none) = (described_by f t.setup, ap (λ b. b ++ described_by f t.setup) none)
    of (inr cut) =
        let rest = drop t.setup.length (described_by f t.setup) in
        (rest, ap (λ b. b ++ rest) cut ∙ take-append-drop t.setup.length (described_by f t.setup))

given_all : (f : DescriptorFile) (s : State) (t : ControlTransfer) (size : ℕ) → Shows (answer f s t.setup) t → reads_descriptor t.setup ≡ true → is_done t.ending ≡ true
    → not t.is_cut ≡ true → IsNoneOrAll size (described_by f) t.setup t.data
given_all f s t size shown read done kept eight few = of (given_data f s t shown read done kept)
  where
    of : (t.data ≡ []) ⊎ (t.data ≡ take t.setup.length (described_by f t.setup))
        → (length t.data ≡ 0) ⊎ (t.data ≡ take t.setup.length (described_by f t.setup))
    of (inl none) = inl (ap length none)
    of (inr all) = inr all

module _ (f : DescriptorFile) (s : State) (known : Asked → List ℕ) (t : ControlTransfer) (is : IsAnswered f s known t) where
  -- no more bytes than were asked for
  shown_few : IsTable (answer f) → t.length ≤ t.setup.length
  shown_few table = of (answer f s t.setup) refl is.shown
    where
      of : (o : Outcome) → answer f s t.setup ≡ o → Shows o t → t.length ≤ t.setup.length
      of (Bytes bytes) e shown = omega (arith, shown.1, table.fits s t.setup bytes e)
      of (Done next) e shown = omega (arith, shown.1)
      of Refused e shown = omega (arith, shown.1)
      of (Takes judge) e shown = absurd shown

  -- what other lemmas ask of a transfer, for any packet size that it says
  sound_if_done : IsTable (answer f) → is_done t.ending ≡ true → IsSound (slice_index t.data 7) (described_by f) t
  sound_if_done table done = record {
    front = given_front f s t is.shown;
    short = given_all f s t (slice_index t.data 7) is.shown;
    says = λ e. refl;
    few = λ e. shown_few table;
    asked = λ stall. absurd (never_both t.ending done stall);
  }

  -- what was said of the sets
  device_front : IsFront (known (beside (asked_of t) 256)) (device_bytes f.device)
  device_front = is.said (beside (asked_of t) 256) refl refl

  count_is : (configuration_count known (asked_of t) ≡ 0) ⊎ (configuration_count known (asked_of t) ≡ f.device.configurations)
  count_is = of (cases_lt 17 (length (known (beside (asked_of t) 256))))
    where
      of : (17 < length (known (beside (asked_of t) 256))) ⊎ (length (known (beside (asked_of t) 256)) ≤ 17)
          → (configuration_count known (asked_of t) ≡ 0) ⊎ (configuration_count known (asked_of t) ≡ f.device.configurations)
      of (inl long) = inr (front_at (known (beside (asked_of t) 256)) (device_bytes f.device) 17 device_front long)
      of (inr short) = inl (get_or_past (known (beside (asked_of t) 256)) 17 0 short)

  own_count : nat_lt 0 (configuration_count known (asked_of t)) ≡ true → configuration_count known (asked_of t) ≡ f.device.configurations
  own_count some = of count_is
    where
      of : (configuration_count known (asked_of t) ≡ 0) ⊎ (configuration_count known (asked_of t) ≡ f.device.configurations)
          → configuration_count known (asked_of t) ≡ f.device.configurations
      of (inl none) = absurd (let w : ⊥ = omega (arith, none, ltb-true 0 (configuration_count known (asked_of t)) some) in w)
      of (inr same) = same

  count_low : configuration_count known (asked_of t) ≤ f.device.configurations
  count_low = of count_is
    where
      of : (configuration_count known (asked_of t) ≡ 0) ⊎ (configuration_count known (asked_of t) ≡ f.device.configurations)
          → configuration_count known (asked_of t) ≤ f.device.configurations
      of (inl none) = omega (arith, none)
      of (inr same) = omega (arith, same)

  few_sets : AreBytes (file_bytes f) → f.device.configurations < 256
  few_sets bytes = byte_at (file_bytes f) 17 bytes

  set_front : (i : ℕ) → i < 256 → IsFront (configuration known (asked_of t) i) (unwrap_or (set_at f.sets i) [])
  set_front i low =
      let kind : (512 + i) / 256 ≡ 2 = omega (arith, low) in
      let index : (512 + i) % 256 ≡ i = omega (arith, low) in
      subst (λ n. IsFront (configuration known (asked_of t) i) (unwrap_or (set_at f.sets n) [])) index
      (subst (λ k. IsFront (configuration known (asked_of t) i) (unwrap_or (descriptor f k ((512 + i) % 256) 0) [])) kind
      (is.said (beside (asked_of t) (512 + i)) refl refl))

  -- a value that was said is one of the device's
  known_value : AreBytes (file_bytes f) → (value : ℕ) → is_configuration_value known (asked_of t) value ≡ true → is_own_value f value ≡ true
  known_value bytes value e =
      let h = any_in (λ i. slice_index (configuration known (asked_of t) i) 5 == value) 0 (configuration_count known (asked_of t)) e in
      let low : h.place < 256 = omega (arith, h.below, count_low, few_sets bytes) in
      let said : slice_index (configuration known (asked_of t) h.place) 5 ≡ value =
      eqb-true (slice_index (configuration known (asked_of t) h.place) 5) value h.passes in
      of h.place said (set_front h.place low) (cases_lt 5 (length (configuration known (asked_of t) h.place)))
    where
      of : (i : ℕ) → slice_index (configuration known (asked_of t) i) 5 ≡ value → IsFront (configuration known (asked_of t) i) (unwrap_or (set_at f.sets i) [])
          → (5 < length (configuration known (asked_of t) i)) ⊎ (length (configuration known (asked_of t) i) ≤ 5) → is_own_value f value ≡ true
      of i said front (inl long) =
          let c = set_in_front (slice_get f.sets i) (configuration known (asked_of t) i) front long in
          some_value f value (offers_value f.sets i value c.0 c.1 (sym c.2 ∙ said))
      of i said front (inr short) = zero_value f value (eq-eqb value 0 (sym said ∙ get_or_past (configuration known (asked_of t) i) 5 0 short))

  -- and one of the device's was said, where all were
  no_other_value : AreBytes (file_bytes f) → has_wrong_sets f ≡ false → (value : ℕ) → is_own_value f value ≡ true
      → is_no_value known (asked_of t) value ≡ false
  no_other_value bytes right value own = false_from_ne_true (is_no_value known (asked_of t) value) (λ e.
      let parts = three_parts (not (value == 0)) (all_are_known known (asked_of t)) (not (is_configuration_value known (asked_of t) value)) e in
      let all = and_parts (nat_lt 0 (configuration_count known (asked_of t)))
      (list_all (λ i. nat_lt 5 (length (configuration known (asked_of t) i))) (range_with_len 0 (configuration_count known (asked_of t)))) parts.1 in
      of parts.0 parts.2 all.1 (own_count all.0) (or_cases (value == 0) (list_any (has_value value) (map set_offer f.sets)) own))
    where
      of : not (value == 0) ≡ true → not (is_configuration_value known (asked_of t) value) ≡ true
          → list_all (λ i. nat_lt 5 (length (configuration known (asked_of t) i))) (range_with_len 0 (configuration_count known (asked_of t))) ≡ true
          → configuration_count known (asked_of t) ≡ f.device.configurations
          → ((value == 0) ≡ true) ⊎ (list_any (has_value value) (map set_offer f.sets) ≡ true) → ⊥
      of some other all count (inl none) = let w : not true ≡ true = ap not (sym none) ∙ some in cc
      of some other all count (inr has) =
          let h = has_set f.sets value has in
          let below : h.place < configuration_count known (asked_of t) = omega (arith, h.below, count, right_count f right) in
          let low : h.place < 256 = omega (arith, below, count, few_sets bytes) in
          let long : 5 < length (configuration known (asked_of t) h.place) =
          ltb-true 5 (length (configuration known (asked_of t) h.place))
          (each_of (λ i. nat_lt 5 (length (configuration known (asked_of t) i))) (configuration_count known (asked_of t)) h.place all below) in
          let front : IsFront (configuration known (asked_of t) h.place) (whole_set h.set) =
          subst (λ o. IsFront (configuration known (asked_of t) h.place) (unwrap_or (option_map whole_set o) [])) h.there (set_front h.place low) in
          let said : slice_index (configuration known (asked_of t) h.place) 5 ≡ value =
          front_at (configuration known (asked_of t) h.place) (whole_set h.set) 5 front long ∙ set_value h.set ∙ h.is in
          let found : is_configuration_value known (asked_of t) value ≡ true =
          some_of (λ i. slice_index (configuration known (asked_of t) i) 5 == value) (configuration_count known (asked_of t)) h.place below
          (eq-eqb (slice_index (configuration known (asked_of t) h.place) 5) value said) in
          let w : not true ≡ true = ap not (sym found) ∙ other in
          cc

  no_more_given : IsTable (answer f) → holds MoreThanAsked known t ≡ false
  no_more_given table = false_from_ne_true (holds MoreThanAsked known t) (λ e.
      omega (arith, shown_few table, ltb-true t.setup.length t.length (and_parts (is_answered t.ending) (nat_lt t.setup.length t.length) e).1))

  no_other_type : IsTable (answer f) → has_wrong_sets f ≡ false → holds OtherType known t ≡ false
  no_other_type table right = false_from_ne_true (holds OtherType known t) (λ e.
      let brings = (and_parts (brings_descriptor t) (not (slice_index t.data 1 == t.setup.value / 256)) e).0 in
      let given = given_parts (reads_descriptor t.setup) (is_done t.ending) (not t.is_cut) (is_standard_type (t.setup.value / 256)) (nat_lt 1 (length t.data)) brings in
      let none = none_of_other_type (slice_index t.data 7) f (t ∷ []) right (sound_if_done table given.is_over, tt) in
      let w : true ≡ false = sym e ∙ none.0 in
      cc)

  no_other_bytes : holds OtherBytes known t ≡ false
  no_other_bytes = false_from_ne_true (holds OtherBytes known t) (λ e.
      let both = and_parts (findings.gives t) (differ t.data (known (asked_of t))) e in
      let given = parts_given t both.0 in
      let front = given_front f s t is.shown given.is_read given.is_over given.is_kept in
      let w : true ≡ false = sym both.1 ∙ fronts_agree t.data (known (asked_of t)) (described_by f t.setup) front (is.said (asked_of t) refl refl) in
      cc)

  no_status_refused : holds RefusesStatus known t ≡ false
  no_status_refused = false_from_ne_true (holds RefusesStatus known t) (λ e.
      let q = t.setup in
      let parts = three_parts (is_stall t.ending) (reads_status q) (nat_lt 0 t.device) e in
      let asks = read_parts (q.request_type == 128) (q.request == 0) (q.value == 0) (q.index == 0) (q.length == 2) parts.1 in
      let same : q ≡ asked_so f s 128 0 0 0 2 =
      asks_so f s q 128 0 0 2 asks.of_type asks.of_request asks.of_index asks.of_size ∙ ap (λ v. asked_so f s 128 0 v 0 2) (eqb-true q.value 0 asks.of_value) in
      status_told f s (addressed t.device s.address is.address parts.2) (ap (answer f s) (sym same) ∙ stalls_refused (answer f s q) t is.shown parts.0))

  no_address_refused : holds RefusesAddress known t ≡ false
  no_address_refused = false_from_ne_true (holds RefusesAddress known t) (λ e.
      let parts = three_parts (is_stall t.ending) (gives_address t.setup) (t.device == 0) e in
      let q = t.setup in
      let asks = request_parts (q.request_type == 0) (q.request == 5) (nat_lt q.value 128) (q.index == 0) (q.length == 0) parts.1 in
      let none : has_address s ≡ false = ap (λ n. not (n == 0)) (sym is.address) ∙ ap not parts.2 in
      let refused = stalls_refused (answer f s q) t is.shown parts.0 in
      let done : answer f s q ≡ Done (record s { address = q.value }) =
      ap (answer f s) (asks_so f s q 0 5 0 0 asks.of_type asks.of_request asks.of_index asks.of_size) ∙ address_taken f s q.value none asks.of_value in
      let same = sym refused ∙ done in
      cc)

  no_configuration_refused : AreBytes (file_bytes f) → holds RefusesConfiguration known t ≡ false
  no_configuration_refused bytes = false_from_ne_true (holds RefusesConfiguration known t) (λ e.
      let q = t.setup in
      let parts = four_parts (is_stall t.ending) (sets_configuration q) (nat_lt 0 t.device) (q.value == 0 || is_configuration_value known (asked_of t) q.value) e in
      let asks = request_parts (q.request_type == 0) (q.request == 9) (nat_lt q.value 256) (q.index == 0) (q.length == 0) parts.second in
      let refused = stalls_refused (answer f s q) t is.shown parts.first in
      let done : answer f s q ≡ Done (configured_with f s q.value) =
      ap (answer f s) (asks_so f s q 0 9 0 0 asks.of_type asks.of_request asks.of_index asks.of_size)
      ∙ configuration_taken f s q.value (addressed t.device s.address is.address parts.third) asks.of_value
      (of q.value (or_cases (q.value == 0) (is_configuration_value known (asked_of t) q.value) parts.fourth)) in
      let same = sym refused ∙ done in
      cc)
    where
      of : (value : ℕ) → ((value == 0) ≡ true) ⊎ (is_configuration_value known (asked_of t) value ≡ true) → is_own_value f value ≡ true
      of value (inl none) = zero_value f value none
      of value (inr some) = known_value bytes value some

  no_other_taken : AreBytes (file_bytes f) → has_wrong_sets f ≡ false → holds TakesConfiguration known t ≡ false
  no_other_taken bytes right = false_from_ne_true (holds TakesConfiguration known t) (λ e.
      let q = t.setup in
      let parts = four_parts (is_done t.ending) (sets_configuration q) (nat_lt 0 t.device) (is_no_value known (asked_of t) q.value) e in
      let asks = request_parts (q.request_type == 0) (q.request == 9) (nat_lt q.value 256) (q.index == 0) (q.length == 0) parts.second in
      let own = taken_value f s q.value (λ r.
      done_taken (answer f s q) t is.shown parts.first (ap (answer f s) (asks_so f s q 0 9 0 0 asks.of_type asks.of_request asks.of_index asks.of_size) ∙ r)) in
      let w : true ≡ false = sym parts.fourth ∙ no_other_value bytes right q.value own in
      cc)

  no_other_told : AreBytes (file_bytes f) → has_wrong_sets f ≡ false → is_own_value f s.selected ≡ true → holds OtherConfiguration known t ≡ false
  no_other_told bytes right own = false_from_ne_true (holds OtherConfiguration known t) (λ e.
      let q = t.setup in
      let parts = three_parts (reads_configuration q) (nat_lt 0 t.device) (is_stall t.ending || tells_no_value known t) e in
      let asks = read_parts (q.request_type == 128) (q.request == 8) (q.value == 0) (q.index == 0) (q.length == 1) parts.0 in
      let told : answer f s q ≡ Bytes (s.selected ∷ []) =
      ap (answer f s) (asks_so f s q 128 8 0 1 asks.of_type asks.of_request asks.of_index asks.of_size)
      ∙ ap (λ v. answer f s (asked_so f s 128 8 v 0 1)) (eqb-true q.value 0 asks.of_value)
      ∙ configuration_told f s (addressed t.device s.address is.address parts.1) in
      of told (or_cases (is_stall t.ending) (tells_no_value known t) parts.2))
    where
      of : answer f s t.setup ≡ Bytes (s.selected ∷ []) → (is_stall t.ending ≡ true) ⊎ (tells_no_value known t ≡ true) → ⊥
      of told (inl stall) = let same = sym (stalls_refused (answer f s t.setup) t is.shown stall) ∙ told in cc
      of told (inr tells) =
          let parts = four_parts (is_done t.ending) (not t.is_cut) (length t.data == 1) (is_no_value known (asked_of t) (slice_index t.data 0)) tells in
          let shown : Shows (Bytes (s.selected ∷ [])) t = subst (λ o. Shows o t) told is.shown in
          let same : slice_index t.data 0 ≡ s.selected = ap (λ b. slice_index b 0) (shown.2 (uncut t.is_cut parts.second)) in
          let w : true ≡ false = sym parts.fourth ∙ ap (is_no_value known (asked_of t)) same ∙ no_other_value bytes right s.selected own in
          cc

  no_uncounted_given : has_wrong_sets f ≡ false → holds GivesUncounted known t ≡ false
  no_uncounted_given right = false_from_ne_true (holds GivesUncounted known t) (λ e.
      let both = and_parts (findings.gives t) (is_uncounted known (asked_of t)) e in
      let given = parts_given t both.0 in
      let parts = four_parts (t.setup.index == 0) (t.setup.value / 256 == 2) (nat_lt 0 (configuration_count known (asked_of t)))
      (nat_le (configuration_count known (asked_of t)) (t.setup.value % 256)) both.1 in
      let past : length f.sets ≤ t.setup.value % 256 =
      omega (arith, right_count f right, own_count parts.third, at_most (configuration_count known (asked_of t)) (t.setup.value % 256) parts.fourth) in
      let none : descriptor f (t.setup.value / 256) (t.setup.value % 256) t.setup.index ≡ None =
      ap (λ k. descriptor f k (t.setup.value % 256) t.setup.index) (eqb-true (t.setup.value / 256) 2 parts.second) ∙ none_past f.sets (t.setup.value % 256) past in
      let front : IsFront t.data [] = subst (λ o. IsFront t.data (unwrap_or o [])) none (given_front f s t is.shown given.is_read given.is_over given.is_kept) in
      omega (arith, nothing_in t.data front, ltb-true 1 (length t.data) given.has_some))

pub no_answer : (f : DescriptorFile) (requests : List AskedView) (known : Asked → List ℕ) (t : ControlTransfer) → IsTable (answer f) → has_wrong_sets f ≡ false
    → AreBytes (file_bytes f) → IsAnswered f (state_after (answer f) states.zero requests) known t
    → AllByRecursion (λ finding. holds finding known t ≡ false) never_found
no_answer f requests known t table right bytes is =
    let s = state_after (answer f) states.zero requests in (
      no_more_given f s known t is table,
      (
        no_other_type f s known t is table right,
        (
          no_other_bytes f s known t is,
          (
            no_status_refused f s known t is,
            (
              no_address_refused f s known t is,
              (
                no_configuration_refused f s known t is bytes,
                (
                  no_other_taken f s known t is bytes right,
                  (no_other_told f s known t is bytes right (always_own f requests), (no_uncounted_given f s known t is right, tt)),
                ),
              ),
            ),
          ),
        ),
      ),
    )

-- ---- conversations

-- What such transfers say of a descriptor are its first bytes.
pub said_before : (f : DescriptorFile) (asked : Asked) (earlier : List ControlTransfer) → AllByRecursion (IsOfDevice f) earlier
    → IsFront (said asked earlier) (descriptor_of f asked)
said_before f asked [] each = (descriptor_of f asked, refl)
said_before f asked (t ∷ earlier) each = of (may_change t asked) (findings.gives t && is_same (asked_of t) asked) refl (said_before f asked earlier each.1)
  where
    of : (changed given : Bool) → (findings.gives t && is_same (asked_of t) asked) ≡ given → IsFront (said asked earlier) (descriptor_of f asked)
        → IsFront (if changed then [] else (if given then t.data ++ drop (length t.data) (said asked earlier) else said asked earlier)) (descriptor_of f asked)
    of true given e before = (descriptor_of f asked, refl)
    of false false e before = before
    of false true e before =
        let parts = and_parts (findings.gives t) (is_same (asked_of t) asked) e in
        let given = parts_given t parts.0 in
        let s = state_after (answer f) states.zero each.0.requests in
        front_over t.data (said asked earlier) (descriptor_of f asked)
        (subst (IsFront t.data) (same_descriptor 0 f (asked_of t) asked parts.1) (given_front f s t each.0.shown given.is_read given.is_over given.is_kept)) before

-- what is found in none, where this holds of each, and of those before it
free_by : (finding : Finding) (P : ControlTransfer → Type 0)
    → ((t : ControlTransfer) (earlier : List ControlTransfer) → P t → AllByRecursion P earlier → is_found finding earlier t ≡ false)
    → (earlier ts : List ControlTransfer) → AllByRecursion P earlier → AllByRecursion P ts → IsTransferFreeAfter finding earlier ts
free_by finding P free earlier [] before each = tt
free_by finding P free earlier (t ∷ ts) before each = (free t earlier each.0 before, free_by finding P free (t ∷ earlier) ts (each.0, before) each.1)

module _ (f : DescriptorFile) (table : IsTable (answer f)) (right : has_wrong_sets f ≡ false) (bytes : AreBytes (file_bytes f)) where
  next_answer : (t : ControlTransfer) (earlier : List ControlTransfer) → IsOfDevice f t → AllByRecursion (IsOfDevice f) earlier
      → AllByRecursion (λ finding. holds finding (λ asked. said asked earlier) t ≡ false) never_found
  next_answer t earlier is before =
      let answered : IsAnswered f (state_after (answer f) states.zero is.requests) (λ asked. said asked earlier) t =
      record { address = is.address; shown = is.shown; said = λ asked bus device. said_before f asked earlier before } in
      no_answer f is.requests (λ asked. said asked earlier) t table right bytes answered

  -- each of these findings, where each transfer has none of them
  each_free : (some : List Finding)
      → ((t : ControlTransfer) (earlier : List ControlTransfer) → IsOfDevice f t → AllByRecursion (IsOfDevice f) earlier
      → AllByRecursion (λ finding. is_found finding earlier t ≡ false) some)
      → (ts : List ControlTransfer) → AllByRecursion (IsOfDevice f) ts → AllByRecursion (λ finding. IsTransferFreeAfter finding [] ts) some
  each_free [] free ts each = tt
  each_free (finding ∷ more) free ts each = (
    free_by finding (IsOfDevice f) (λ t earlier is before. (free t earlier is before).0) [] ts tt each,
    each_free more (λ t earlier is before. (free t earlier is before).1) ts each,
  )

  pub no_conversation : (ts : List ControlTransfer) → AllByRecursion (IsOfDevice f) ts → AllByRecursion (λ finding. IsTransferFreeAfter finding [] ts) never_found
  no_conversation ts each = each_free never_found next_answer ts each
