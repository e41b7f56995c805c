-- How long each descriptor says that it is.
use Rattle.std.proofs.Common.{◌≡◌, ◌<◌, ◌≤◌, ◌==◌, ◌&&◌, ◌||◌, ◌/◌, ◌%◌, min, nat_lt, ℕ, zero, suc, Bool, true, false, not, if◌then◌else◌, List, [], ◌∷◌, length, refl, sym, ◌∙◌, ap, arith}
use Rattle.std.specs.Prelude.{Option, Some, None, slice_index, unwrap_or}
use Rattle.std.specs.List.{AllByRecursion}
use Rattle.std.specs.Option.{option_map}
use Rattle.std.proofs.lemmas.Bool.{eq-eqb, ltb-false}
use Rattle.usb_fields.specs.Bytes.{little_endian_at}
use Rattle.usb_fields.specs.Device.{device_bytes, qualifier_bytes}
use Rattle.usb_fields.specs.Units.{units_bytes}
use Rattle.usb_set.specs.declared.tree.Configuration.{Configuration}
use Rattle.usb_set.specs.Layout.{set_length}
use Rattle.usb_set.proofs.Items.{two_bytes}
use Rattle.usb_set.proofs.Sets.{length-set_bytes}
use Rattle.usb_file_data.specs.declared.file.DescriptorFile.{DescriptorFile}
use Rattle.usb_file_data.specs.declared.file.Other.{Other}
use Rattle.usb_file_data.specs.declared.file.Strings.{Strings}
use Rattle.usb_file_data.specs.File.{named_indices, units_at, whole_set}
use Rattle.usb_file_data.proofs.Units.{length-units_bytes}
use Rattle.usb_device.specs.Descriptors.{descriptor, other_set_at, qualifier_of, set_at, string_at}
use Rattle.usb_capture.specs.declared.control_transfer.ControlTransfer.{ControlTransfer}
use Rattle.usb_capture.specs.declared.ending.Ending.{Ending}
use Rattle.usb_capture.specs.declared.ending.Ending.TheVariants as endings
use Rattle.usb_capture.specs.declared.finding.Finding.TheVariants.{OtherLength}
use Rattle.usb_capture.specs.Findings.{asked_of, brings_descriptor, has_other_length, is_first_packet, length_bytes}
use Rattle.usb_capture.specs.Readings.{full_length, is_done}
use Rattle.usb_recorded_runs.specs.Findings.{IsTransferFreeAfter}
use Rattle.usb_recorded_runs.proofs.AnswerLemmas.{described_by}
use Rattle.usb_recorded_runs.proofs.EndedLemmas.{IsEnded}
use Rattle.usb_recorded_runs.proofs.RefusalLemmas.{free_after, none_in_front}
use Rattle.usb_recorded_runs.proofs.SizeLemmas.{IsFront, IsSound}
use Rattle.usb_recorded_runs.proofs.TransferLemmas.{by_kind, descriptor_of, front_at, less_so, parts_brought}

-- A descriptor, if there is one, says how long it is.
abbrev LengthIs : ℕ → Option (List ℕ) → Type 0
LengthIs kind None = Unit {0}
LengthIs kind (Some b) = full_length kind b ≡ length b

set_total : (c : Configuration) → little_endian_at (whole_set c) 2 ≡ length (whole_set c)
unfolding whole_set
set_total c =
    let low : slice_index (whole_set c) 2 ≡ set_length c % 256 = refl in
    let high : slice_index (whole_set c) 3 ≡ set_length c / 256 = refl in
    omega (arith, low, high, two_bytes (set_length c), length-set_bytes c (set_length c) 0)

set_says : (sets : List Configuration) (index : ℕ) → LengthIs 2 (set_at sets index)
set_says [] index = tt
set_says (c ∷ cs) zero = set_total c
set_says (c ∷ cs) (suc index) = set_says cs index

device_says : (f : DescriptorFile) (first : Bool) → LengthIs 1 (if first then Some (device_bytes f.device) else None)
device_says f true = refl
device_says f false = tt

units_say : (o : Option (List ℕ)) → LengthIs 3 (option_map units_bytes o)
units_say None = tt
units_say (Some u) = sym (length-units_bytes u)

string_says : (strings : Option Strings) (named : List ℕ) (index language : ℕ) → LengthIs 3 (string_at strings named index language)
string_says None named index language = tt
string_says (Some s) named index language = of (index == 0)
  where
    of : (first : Bool) → LengthIs 3 (if first then Some (units_bytes s.languages) else option_map units_bytes (units_at s named index language))
    of true = sym (length-units_bytes s.languages)
    of false = units_say (units_at s named index language)

qualifier_says : (other : Option Other) (index : ℕ) → LengthIs 6 (qualifier_of other index)
qualifier_says None index = tt
qualifier_says (Some other) index = of (index == 0)
  where
    of : (first : Bool) → LengthIs 6 (if first then Some (qualifier_bytes other.qualifier) else None)
    of true = refl
    of false = tt

other_says : (other : Option Other) (index : ℕ) → LengthIs 7 (other_set_at other index)
other_says None index = tt
other_says (Some other) index = set_says other.sets index

descriptor_says : (f : DescriptorFile) (kind index language : ℕ) → LengthIs kind (descriptor f kind index language)
descriptor_says f kind index language =
    by_kind LengthIs f index language (device_says f (index == 0)) (set_says f.sets index)
    (string_says f.strings (named_indices f) index language) (qualifier_says f.other index)
    (other_says f.other index) (λ k. tt) kind

-- Its first bytes say so too, if they are enough.
full_front : (kind : ℕ) (front all : List ℕ) → IsFront front all → nat_lt (length front) (length_bytes kind) ≡ false
    → full_length kind front ≡ full_length kind all
full_front kind front all is long = of (kind == 2 || kind == 7) (ltb-false (length front) (length_bytes kind) long)
  where
    of : (totals : Bool) → (if totals then 4 else 1) ≤ length front
        → (if totals then little_endian_at front 2 else slice_index front 0) ≡ (if totals then little_endian_at all 2 else slice_index all 0)
    of true long = omega (arith, front_at front all 2 is (omega (arith, long)), front_at front all 3 is (omega (arith, long)))
    of false long = front_at front all 0 is long

front_says : (kind : ℕ) (o : Option (List ℕ)) (front : List ℕ) → LengthIs kind o → IsFront front (unwrap_or o []) → 1 < length front
    → nat_lt (length front) (length_bytes kind) ≡ false → full_length kind front ≡ length (unwrap_or o [])
front_says kind None front says is some long = absurd (let w : ⊥ = omega (arith, some, none_in_front front is) in w)
front_says kind (Some b) front says is some long = full_front kind front b is long ∙ says

has_ended : (ending : Ending) → is_done ending ≡ true → ending ≡ endings.Done
has_ended endings.Done e = refl
has_ended endings.Unseen e = absurd (let w : ⊥ = cc in w)
has_ended endings.Stall e = absurd (let w : ⊥ = cc in w)
has_ended (endings.Failed status) e = absurd (let w : ⊥ = cc in w)
has_ended (endings.Refused status) e = absurd (let w : ⊥ = cc in w)

no_other_length : (brings type short same first : Bool) → (brings ≡ true → short ≡ false → same ≡ true)
    → (brings && type && not short && not same && not first) ≡ false
no_other_length true true false same first is = let e : same ≡ true = is refl refl in cc
no_other_length false type short same first is = refl
no_other_length true false short same first is = refl
no_other_length true true true same first is = refl

length_right : (size : ℕ) (f : DescriptorFile) (t : ControlTransfer) → IsSound size (described_by f) t → IsEnded f t → has_other_length t ≡ false
length_right size f t is ended =
    let kind = t.setup.value / 256 in
    no_other_length (brings_descriptor t) (slice_index t.data 1 == kind) (nat_lt (length t.data) (length_bytes kind))
    (t.length == min t.setup.length (full_length kind t.data))
    (is_first_packet kind t) (λ e long.
    let parts = parts_brought t e in
    let front = is.front parts.is_read parts.is_ended parts.is_kept in
    let said = front_says kind (descriptor_of f (asked_of t)) t.data
    (descriptor_says f kind (t.setup.value % 256) t.setup.index) front (less_so (length t.data) parts.of_type) long in
    eq-eqb t.length (min t.setup.length (full_length kind t.data))
    (ended.whole (has_ended t.ending parts.is_ended) parts.is_read ∙ ap (λ n. min t.setup.length n) (sym said)))

pub none_of_other_length : (size : ℕ) (f : DescriptorFile) (ts : List ControlTransfer) → AllByRecursion (IsSound size (described_by f)) ts
    → AllByRecursion (IsEnded f) ts → IsTransferFreeAfter OtherLength [] ts
none_of_other_length size f ts each ended =
    free_after OtherLength size f (λ earlier t. refl) (λ t known is ends knows. length_right size f t is ends) ts each ended
