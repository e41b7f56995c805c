-- Prefixes of the same bytes lie on one path, which grows part by part.
use Rattle.std.proofs.Common.{◌≡◌, ℕ, zero, suc, ltb, ◌+◌, ◌*◌, ◌<◌, ◌≤◌, false, ◌==◌, List, [], ◌∷◌, ◌++◌, length, Option, Some, None, refl, ap, sym, subst, ◌∙◌, arith, append_assoc}
use Rattle.std.specs.List.{list_any}
use Rattle.std.proofs.lemmas.List.{append-nil}
use Rattle.std.proofs.lemmas.Bool.{lt-ltb, ne_eqb, or_parts, cond-true, cond-false}
use Rattle.usb_fields.specs.declared.device.DeviceDescriptor.{DeviceDescriptor}
use Rattle.usb_fields.specs.Device.{device_bytes, qualifier_bytes}
use Rattle.usb_fields.specs.Units.{units_bytes}
use Rattle.usb_set.specs.declared.tree.SetKind.TheVariants as kinds
use Rattle.usb_set.specs.declared.tree.Configuration.{Configuration}
use Rattle.usb_file_data.specs.declared.file.DescriptorFile.{DescriptorFile}
use Rattle.usb_file_data.specs.declared.file.Other.{Other}
use Rattle.usb_file_data.specs.declared.file.Strings.{Strings}
use Rattle.usb_file_data.specs.declared.fault.FileWhy.{FileWhy}
use Rattle.usb_file_data.specs.File.{named_indices, other_sets, whole_set, sets_bytes, other_bytes, each_string_bytes, strings_bytes, file_bytes, is_other_kind, has_no_layout, is_long_string}
use Rattle.usb_fields.specs.Bytes.{AreBytes}
use Rattle.usb_file_data.proofs.Lists.{bytes_before, bytes_behind, length-push}
use Rattle.usb_file.specs.inside.Reading.{PartLaws, next_string, next_part}
use Rattle.usb_file_data.proofs.WholeSets.{set_layout}
use Rattle.usb_file.proofs.Due.{due_main, due_other, due_qualifier, due_strings}
use Rattle.usb_file.proofs.Unique.{PartIs, IsSet, one_part, part_or_fault, append_same}
use Rattle.usb_file_data.specs.Front.{StringsFollow, IsInOrder, IsFront, Splits, AllSets, with_set, with_strings}
use Rattle.usb_file_data.specs.FileFaults.{the_languages, a_string, the_end, PartFaulty}

-- ---- steps

-- the bytes left begin with the next part, which makes of the first file so far the second
pub record Step (f : DescriptorFile) (r : List ℕ) (g : DescriptorFile) (s : List ℕ) : Type 0 where
  pub part : List ℕ
  pub is : PartIs (next_part f r) f g part
  pub parts : r ≡ part ++ s

pub record Through (P : DescriptorFile → List ℕ → Type 0) (f : DescriptorFile) (r : List ℕ) : Type 0 where
  pub next : DescriptorFile
  pub left : List ℕ
  pub step : Step f r next left
  pub onward : P next left

abbrev pub Path : ℕ → DescriptorFile → List ℕ → DescriptorFile → List ℕ → Type 0
Path zero f r g s = (f ≡ g) × (r ≡ s)
Path (suc n) f r g s = Through (λ h t. Path n h t g s) f r

pub record Reaches (f : DescriptorFile) (r : List ℕ) (g : DescriptorFile) (s : List ℕ) : Type 0 where
  pub count : ℕ
  pub path : Path count f r g s

pub here : (f : DescriptorFile) (r : List ℕ) → Reaches f r f r
here f r = record { count = zero; path = (refl, refl) }

step_on : (f : DescriptorFile) (r : List ℕ) (h : DescriptorFile) (t : List ℕ) (g : DescriptorFile) (s : List ℕ) → Step f r h t → Reaches h t g s → Reaches f r g s
step_on f r h t g s step rest = record { count = suc rest.count; path = record { next = h; left = t; step = step; onward = rest.path } }

-- no further part follows
abbrev pub IsStuck : DescriptorFile → List ℕ → Type 0
IsStuck f r = (g : DescriptorFile) (s : List ℕ) → Step f r g s → ⊥

one_step : (laws : PartLaws) (f : DescriptorFile) (r : List ℕ) (g : DescriptorFile) (s : List ℕ) (h : DescriptorFile) (t : List ℕ) → Step f r g s → Step f r h t → (g ≡ h) × (s ≡ t)
one_step laws f r g s h t x y = one_part laws (next_part f r) f g h x.part y.part s t x.is y.is (sym x.parts ∙ y.parts)

stuck_along : (f g : DescriptorFile) (r s : List ℕ) → f ≡ g → r ≡ s → IsStuck g s → IsStuck f r
stuck_along f g r s e k stuck = subst (λ x. IsStuck x r) (sym e) (subst (λ x. IsStuck g x) (sym k) stuck)

pub meet : (laws : PartLaws) (n m : ℕ) (f : DescriptorFile) (r : List ℕ) (g : DescriptorFile) (s : List ℕ) (h : DescriptorFile) (t : List ℕ)
    → Path n f r g s → Path m f r h t → IsStuck g s → IsStuck h t → (g ≡ h) × (s ≡ t)
meet laws zero zero f r g s h t x y i j = (sym x.0 ∙ y.0, sym x.1 ∙ y.1)
meet laws zero (suc m) f r g s h t x y i j = absurd (stuck_along f g r s x.0 x.1 i y.next y.left y.step)
meet laws (suc n) zero f r g s h t x y i j = absurd (stuck_along f h r t y.0 y.1 j x.next x.left x.step)
meet laws (suc n) (suc m) f r g s h t x y i j =
    let one = one_step laws f r x.next x.left y.next y.left x.step y.step in
    let onward = subst (λ z. Path m z x.left h t) (sym one.0) (subst (λ z. Path m y.next z h t) (sym one.1) y.onward) in
    meet laws n m x.next x.left g s h t x.onward onward i j

-- ---- sets on the path

steps_main : (ss : List Configuration) (f : DescriptorFile) (tail : List ℕ) (g : DescriptorFile) (s : List ℕ) → f.other ≡ None → f.strings ≡ None
    → length f.sets + length ss ≤ f.device.configurations → list_any (is_other_kind kinds.Configuration) ss ≡ false → list_any has_no_layout ss ≡ false
    → AreBytes (sets_bytes ss ++ tail) → Reaches (record f { sets = f.sets ++ ss }) tail g s → Reaches f (sets_bytes ss ++ tail) g s
steps_main [] f tail g s no_other no_strings room ks ls fits onward = subst (λ x. Reaches (record f { sets = x }) tail g s) (append-nil f.sets) onward
steps_main (c ∷ ss) f tail g s no_other no_strings room ks ls fits onward =
    let kk = or_parts (is_other_kind kinds.Configuration c) (list_any (is_other_kind kinds.Configuration) ss) ks in
    let ll = or_parts (has_no_layout c) (list_any has_no_layout ss) ls in
    let regroup : sets_bytes (c ∷ ss) ++ tail ≡ whole_set c ++ (sets_bytes ss ++ tail) = append_assoc (whole_set c) (sets_bytes ss) tail in
    let bytes = subst AreBytes regroup fits in
    let below : length f.sets < f.device.configurations = omega arith in
    let is : IsSet kinds.Configuration f (with_set kinds.Configuration c f) (whole_set c) =
    record { set = c; layout = set_layout c ll.0 (bytes_before (whole_set c) (sets_bytes ss ++ tail) bytes); kind_is = kk.0; next = refl } in
    let step : Step f (sets_bytes (c ∷ ss) ++ tail) (with_set kinds.Configuration c f) (sets_bytes ss ++ tail) = record {
      part = whole_set c;
      is = subst (λ d. PartIs d f (with_set kinds.Configuration c f) (whole_set c)) (sym (due_main f (sets_bytes (c ∷ ss) ++ tail) below)) is;
      parts = regroup;
    } in
    let again = subst (λ x. Reaches (record f { sets = x }) tail g s) (sym (append_assoc f.sets (c ∷ []) ss)) onward in
    step_on f (sets_bytes (c ∷ ss) ++ tail) (with_set kinds.Configuration c f) (sets_bytes ss ++ tail) g s step
    (steps_main ss (with_set kinds.Configuration c f) tail g s no_other no_strings (omega (arith, length-push f.sets c)) kk.1 ll.1 (bytes_behind (whole_set c) (sets_bytes ss ++ tail) bytes) again)

-- the file so far with the other speed
abbrev with_other : Other → DescriptorFile → DescriptorFile
with_other o f = record f { other = Some o }

steps_other : (ss : List Configuration) (f : DescriptorFile) (o : Other) (tail : List ℕ) (g : DescriptorFile) (s : List ℕ) → length f.sets ≡ f.device.configurations
    → length o.sets + length ss ≤ o.qualifier.configurations → list_any (is_other_kind kinds.OtherSpeed) ss ≡ false → list_any has_no_layout ss ≡ false
    → AreBytes (sets_bytes ss ++ tail) → Reaches (with_other (record o { sets = o.sets ++ ss }) f) tail g s → Reaches (with_other o f) (sets_bytes ss ++ tail) g s
steps_other [] f o tail g s full room ks ls fits onward = subst (λ x. Reaches (with_other (record o { sets = x }) f) tail g s) (append-nil o.sets) onward
steps_other (c ∷ ss) f o tail g s full room ks ls fits onward =
    let kk = or_parts (is_other_kind kinds.OtherSpeed c) (list_any (is_other_kind kinds.OtherSpeed) ss) ks in
    let ll = or_parts (has_no_layout c) (list_any has_no_layout ss) ls in
    let regroup : sets_bytes (c ∷ ss) ++ tail ≡ whole_set c ++ (sets_bytes ss ++ tail) = append_assoc (whole_set c) (sets_bytes ss) tail in
    let bytes = subst AreBytes regroup fits in
    let below : length o.sets < o.qualifier.configurations = omega arith in
    let more = record o { sets = o.sets ++ c ∷ [] } in
    let is : IsSet kinds.OtherSpeed (with_other o f) (with_other more f) (whole_set c) =
    record { set = c; layout = set_layout c ll.0 (bytes_before (whole_set c) (sets_bytes ss ++ tail) bytes); kind_is = kk.0; next = refl } in
    let step : Step (with_other o f) (sets_bytes (c ∷ ss) ++ tail) (with_other more f) (sets_bytes ss ++ tail) = record {
      part = whole_set c;
      is = subst (λ d. PartIs d (with_other o f) (with_other more f) (whole_set c)) (sym (due_other (with_other o f) (sets_bytes (c ∷ ss) ++ tail) o full refl below)) is;
      parts = regroup;
    } in
    let again = subst (λ x. Reaches (with_other (record o { sets = x }) f) tail g s) (sym (append_assoc o.sets (c ∷ []) ss)) onward in
    step_on (with_other o f) (sets_bytes (c ∷ ss) ++ tail) (with_other more f) (sets_bytes ss ++ tail) g s step
    (steps_other ss f more tail g s full (omega (arith, length-push o.sets c)) kk.1 ll.1 (bytes_behind (whole_set c) (sets_bytes ss ++ tail) bytes) again)

-- ---- strings on the path

pub all_again : (f : DescriptorFile) (x : Strings) (o : Option Other) → AllSets f o → AllSets (with_strings x f) o
all_again f x None h = h
all_again f x (Some o) h = h

steps_texts : (us : List (List ℕ)) (f : DescriptorFile) (x : Strings) (tail : List ℕ) (g : DescriptorFile) (s : List ℕ) → AllSets f f.other
    → length x.texts + length us ≤ length x.languages * length (named_indices f) → list_any is_long_string us ≡ false
    → Reaches (with_strings (record x { texts = x.texts ++ us }) f) tail g s → Reaches (with_strings x f) (each_string_bytes us ++ tail) g s
steps_texts [] f x tail g s all room short onward = subst (λ y. Reaches (with_strings (record x { texts = y }) f) tail g s) (append-nil x.texts) onward
steps_texts (u ∷ us) f x tail g s all room short onward =
    let ss = or_parts (is_long_string u) (list_any is_long_string us) short in
    let regroup : each_string_bytes (u ∷ us) ++ tail ≡ units_bytes u ++ (each_string_bytes us ++ tail) = append_assoc (units_bytes u) (each_string_bytes us) tail in
    let below : length x.texts < length x.languages * length (named_indices f) = omega arith in
    let more = record x { texts = x.texts ++ u ∷ [] } in
    let is : PartIs a_string (with_strings x f) (with_strings more f) (units_bytes u) =
    record { units = u; bytes = refl; enough = omega arith; short = ss.0; next = refl } in
    let turn : next_part (with_strings x f) (each_string_bytes (u ∷ us) ++ tail) ≡ a_string =
    due_strings (with_strings x f) (each_string_bytes (u ∷ us) ++ tail) (all_again f x f.other all) (λ _ e. cc)
    ∙ cond-true (ltb (length x.texts) (length x.languages * length (named_indices f))) _ _ (lt-ltb _ _ below) in
    let step : Step (with_strings x f) (each_string_bytes (u ∷ us) ++ tail) (with_strings more f) (each_string_bytes us ++ tail) = record {
      part = units_bytes u;
      is = subst (λ d. PartIs d (with_strings x f) (with_strings more f) (units_bytes u)) (sym turn) is;
      parts = regroup;
    } in
    let again = subst (λ y. Reaches (with_strings (record x { texts = y }) f) tail g s) (sym (append_assoc x.texts (u ∷ []) us)) onward in
    step_on (with_strings x f) (each_string_bytes (u ∷ us) ++ tail) (with_strings more f) (each_string_bytes us ++ tail) g s step
    (steps_texts us f more tail g s all (omega (arith, length-push x.texts u)) ss.1 again)

strings_path : (f : DescriptorFile) (x : Strings) (rest : List ℕ) → AllSets f f.other → f.strings ≡ None → StringsFollow (length (named_indices f)) x
    → Reaches f (strings_bytes (Some x) ++ rest) (with_strings x f) rest
strings_path f x rest all no_strings follow =
    let bare : Strings = record { languages = x.languages; texts = [] } in
    let long = or_parts (is_long_string x.languages) (list_any is_long_string x.texts) follow.short in
    let spoken = follow.spoken in
    let few = follow.few in
    let named = follow.named in
    let is : PartIs the_languages f (with_strings bare f) (units_bytes x.languages) =
    record { units = x.languages; bytes = refl; enough = omega arith; short = long.0; next = refl } in
    let turn : next_part f (strings_bytes (Some x) ++ rest) ≡ the_languages =
    due_strings f (strings_bytes (Some x) ++ rest) all (λ _ _. refl) ∙ ap (next_string (length (named_indices f))) no_strings
    ∙ cond-false (length (named_indices f) == 0) _ _ (ne_eqb (length (named_indices f)) 0 (λ e. absurd (omega arith))) in
    let step : Step f (strings_bytes (Some x) ++ rest) (with_strings bare f) (each_string_bytes x.texts ++ rest) = record {
      part = units_bytes x.languages;
      is = subst (λ d. PartIs d f (with_strings bare f) (units_bytes x.languages)) (sym turn) is;
      parts = append_assoc (units_bytes x.languages) (each_string_bytes x.texts) rest;
    } in
    step_on f (strings_bytes (Some x) ++ rest) (with_strings bare f) (each_string_bytes x.texts ++ rest) (with_strings x f) rest step
    (steps_texts x.texts f bare rest (with_strings x f) rest all (omega arith) long.1 (here (with_strings x f) rest))

-- ---- the path of a prefix

-- a file by its parts
abbrev made : DeviceDescriptor → List Configuration → Option Other → Option Strings → DescriptorFile
made d ss o s = record { device = d; sets = ss; other = o; strings = s }

-- only the device descriptor is there
abbrev pub begun : DeviceDescriptor → DescriptorFile
begun d = made d [] None None

-- what is after the device descriptor
abbrev pub behind : DescriptorFile → List ℕ → List ℕ
behind f rest = sets_bytes f.sets ++ (other_bytes f.other ++ (strings_bytes f.strings ++ rest))

-- from the main sets on
from_main : (d : DeviceDescriptor) (ss : List Configuration) (o : Option Other) (s : Option Strings) (rest : List ℕ) → IsFront (made d ss o s)
    → AreBytes (other_bytes o ++ (strings_bytes s ++ rest)) → Reaches (made d ss None None) (other_bytes o ++ (strings_bytes s ++ rest)) (made d ss o s) rest
from_main d ss None None rest front fits = here (made d ss None None) rest
from_main d ss None (Some x) rest front fits = strings_path (made d ss None None) x rest front.order.0 refl front.order.1
from_main d ss (Some o) s rest front fits =
    let ks = or_parts (list_any (is_other_kind kinds.Configuration) ss) (list_any (is_other_kind kinds.OtherSpeed) o.sets) front.kinds in
    let ls = or_parts (list_any has_no_layout ss) (list_any has_no_layout o.sets) front.layouts in
    let bare : Other = record { qualifier = o.qualifier; sets = [] } in
    let f = made d ss None None in
    let full : length ss ≡ d.configurations = full_of s front.order in
    let bytes = bytes_behind (qualifier_bytes o.qualifier) (sets_bytes o.sets ++ (strings_bytes s ++ rest)) (subst AreBytes (append_assoc (qualifier_bytes o.qualifier) (sets_bytes o.sets) (strings_bytes s ++ rest)) fits) in
    let step : Step f (other_bytes (Some o) ++ (strings_bytes s ++ rest)) (with_other bare f) (sets_bytes o.sets ++ (strings_bytes s ++ rest)) = record {
      part = qualifier_bytes o.qualifier;
      is = subst (λ d. PartIs d f (with_other bare f) (qualifier_bytes o.qualifier)) (sym (due_qualifier f (other_bytes (Some o) ++ (strings_bytes s ++ rest)) full refl refl refl))
          (record { qualifier = o.qualifier; bytes = refl; next = refl });
      parts = append_assoc (qualifier_bytes o.qualifier) (sets_bytes o.sets) (strings_bytes s ++ rest);
    } in
    step_on f (other_bytes (Some o) ++ (strings_bytes s ++ rest)) (with_other bare f) (sets_bytes o.sets ++ (strings_bytes s ++ rest)) (made d ss (Some o) s) rest step
    (steps_other o.sets f bare (strings_bytes s ++ rest) (made d ss (Some o) s) rest full (few_of s front.order) ks.1 ls.1 bytes (from_other s front.order))
  where
    full_of : (s : Option Strings) → IsInOrder (made d ss (Some o) s) (Some o) s → length ss ≡ d.configurations
    full_of None h = h.0
    full_of (Some x) h = h.0

    few_of : (s : Option Strings) → IsInOrder (made d ss (Some o) s) (Some o) s → 0 + length o.sets ≤ o.qualifier.configurations
    few_of None h = omega (arith, h.1)
    few_of (Some x) h = omega (arith, h.1)

    from_other : (s : Option Strings) → IsInOrder (made d ss (Some o) s) (Some o) s → Reaches (made d ss (Some o) None) (strings_bytes s ++ rest) (made d ss (Some o) s) rest
    from_other None h = here (made d ss (Some o) None) rest
    from_other (Some x) h = strings_path (made d ss (Some o) None) x rest (h.0, h.1) refl h.2

few_sets : (f : DescriptorFile) (o : Option Other) (s : Option Strings) → IsInOrder f o s → length f.sets ≤ f.device.configurations
few_sets f None None h = h
few_sets f None (Some x) h = omega (arith, h.0)
few_sets f (Some o) None h = omega (arith, h.0)
few_sets f (Some o) (Some x) h = omega (arith, h.0)

pub front_path : (f : DescriptorFile) (rest : List ℕ) → IsFront f → AreBytes (behind f rest) → Reaches (begun f.device) (behind f rest) f rest
front_path f rest front fits =
    let ks = or_parts (list_any (is_other_kind kinds.Configuration) f.sets) (list_any (is_other_kind kinds.OtherSpeed) (other_sets f.other)) front.kinds in
    let ls = or_parts (list_any has_no_layout f.sets) (list_any has_no_layout (other_sets f.other)) front.layouts in
    let tail = other_bytes f.other ++ (strings_bytes f.strings ++ rest) in
    let few = few_sets f f.other f.strings front.order in
    steps_main f.sets (begun f.device) tail f rest refl refl (omega arith) ks.0 ls.0 fits
    (from_main f.device f.sets f.other f.strings rest front (bytes_behind (sets_bytes f.sets) tail fits))

-- ---- two prefixes

pub device_first : (f : DescriptorFile) (rest : List ℕ) → file_bytes f ++ rest ≡ device_bytes f.device ++ behind f rest
device_first f rest = regroup (device_bytes f.device) (sets_bytes f.sets) (other_bytes f.other) (strings_bytes f.strings) rest
  where
    regroup : (d s o t r : List ℕ) → d ++ s ++ o ++ t ++ r ≡ d ++ (s ++ (o ++ (t ++ r)))
    regroup d s o t r = simp append_assoc

pub two_fronts : (laws : PartLaws) (b : List ℕ) (f g : DescriptorFile) (r s : List ℕ) → AreBytes b → Splits b f r → Splits b g s → IsStuck f r → IsStuck g s → (f ≡ g) × (r ≡ s)
two_fronts laws b f g r s fits x y i j =
    let of_f : b ≡ device_bytes f.device ++ behind f r = x.parts ∙ device_first f r in
    let of_g : b ≡ device_bytes g.device ++ behind g s = y.parts ∙ device_first g s in
    let same = append_same (device_bytes f.device) (device_bytes g.device) (behind f r) (behind g s) refl (sym of_f ∙ of_g) in
    let device = laws.one_device f.device g.device same.0 in
    let path_f = front_path f r x.is_front (bytes_behind (device_bytes f.device) (behind f r) (subst AreBytes of_f fits)) in
    let path_g = front_path g s y.is_front (bytes_behind (device_bytes g.device) (behind g s) (subst AreBytes of_g fits)) in
    let path = subst (λ d. Reaches (begun d) (behind f r) g s) (sym device) (subst (λ t. Reaches (begun g.device) t g s) (sym same.1) path_g) in
    meet laws path_f.count path.count (begun f.device) (behind f r) f r g s path_f.path path.path i j

pub stuck_by_fault : (laws : PartLaws) (f : DescriptorFile) (r : List ℕ) (place : ℕ) (why : FileWhy) → PartFaulty (next_part f r) r place why → IsStuck f r
stuck_by_fault laws f r place why h g s step =
    part_or_fault laws (next_part f r) f g step.part s place why step.is (subst (λ z. PartFaulty (next_part f r) z place why) step.parts h)

pub stuck_at_end : (f : DescriptorFile) (r : List ℕ) → next_part f r ≡ the_end → IsStuck f r
stuck_at_end f r is g s step = subst (λ d. PartIs d f g step.part) is step.is
