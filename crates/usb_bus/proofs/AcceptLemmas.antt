-- What is known of accepted descriptions.
use Rattle.std.proofs.Common.{◌≡◌, ℕ, ◌*◌, ◌≤◌, ◌==◌, ◌||◌, not, Bool, true, false, List, [], ◌∷◌, length, Option, Some, None, refl, arith, subst}
use Rattle.std.specs.List.{list_any}
use Rattle.std.proofs.lemmas.Bool.Decides.{nat_tests}
use Rattle.usb_fields.specs.declared.packet.Speed.{Speed}
use Rattle.usb_fields.specs.declared.packet.Speed.TheVariants.{Low, Full, High}
use Rattle.usb_set.specs.declared.tree.SetKind.{SetKind}
use Rattle.usb_set.specs.declared.tree.SetKind.TheVariants as kinds
use Rattle.usb_set.specs.declared.tree.Configuration.{Configuration}
use Rattle.usb_file_data.specs.declared.file.DescriptorFile.{DescriptorFile}
use Rattle.usb_file_data.specs.declared.file.Other.{Other}
use Rattle.usb_file_data.specs.declared.file.Strings.{Strings}
use Rattle.usb_file_data.specs.File.{has_no_layout, is_other_kind, has_wrong_count, has_wrong_kind, has_wrong_layout, is_other_miscounted, are_wrong_strings, is_long_string, has_long_string, named_indices, other_sets}
use Rattle.usb_file_data.specs.Findings.{findings}
use Rattle.usb_file_data.proofs.Sorting.{FirstIsRight, device_right, first_right}
use Rattle.usb_device.specs.Accepted.{Accepted, has_wrong_sets, has_wrong_strings, repeats_language}
use Rattle.usb_host.specs.Read.{packet_fits, may_have_second}
use Rattle.usb_host.specs.Order.{first_value, other_declared}

or_left : (a b : Bool) → (a || b) ≡ false → a ≡ false
or_left false b none = refl
or_left true b none = cc

or_right : (a b : Bool) → (a || b) ≡ false → b ≡ false
or_right false b none = none
or_right true b none = cc

-- the sets: their counts, kinds and layouts
pub count_is : (f : DescriptorFile) → has_wrong_sets f ≡ false → length f.sets ≡ f.device.configurations
unfolding has_wrong_sets
count_is f right =
    let test : not (length f.sets == f.device.configurations) ≡ false = or_left _ _ (or_left _ _ (or_left _ _ right)) in
    grind (arith, nat_tests)

other_count : (o : Option Other) → is_other_miscounted o ≡ false → length (other_sets o) ≡ other_declared o
other_count None right = refl
other_count (Some o) right = grind (arith, nat_tests)

pub other_count_is : (f : DescriptorFile) → has_wrong_sets f ≡ false → length (other_sets f.other) ≡ other_declared f.other
unfolding has_wrong_sets
other_count_is f right =
    other_count f.other (or_right (not (length f.sets == f.device.configurations)) _ (or_left (has_wrong_count f) (has_wrong_kind f) (or_left _ _ right)))

-- whether each set has a layout and is of this kind
abbrev pub AreSound : SetKind → List Configuration → Type 0
AreSound kind [] = Unit {0}
AreSound kind (c ∷ cs) = (is_other_kind kind c ≡ false) × (has_no_layout c ≡ false) × AreSound kind cs

are_sound : (kind : SetKind) (cs : List Configuration) → list_any (is_other_kind kind) cs ≡ false → list_any has_no_layout cs ≡ false → AreSound kind cs
are_sound kind [] ks ls = tt
are_sound kind (c ∷ cs) ks ls =
    (or_left _ _ ks, or_left _ _ ls, are_sound kind cs (or_right (is_other_kind kind c) _ ks) (or_right (has_no_layout c) _ ls))

pub sets_sound : (f : DescriptorFile) → has_wrong_sets f ≡ false → AreSound kinds.Configuration f.sets
unfolding has_wrong_sets
sets_sound f right =
    are_sound kinds.Configuration f.sets
    (or_left _ _ (or_right (has_wrong_count f) (has_wrong_kind f) (or_left _ _ right)))
    (or_left _ _ (or_right (has_wrong_count f || has_wrong_kind f) (has_wrong_layout f) right))

pub other_sets_sound : (f : DescriptorFile) → has_wrong_sets f ≡ false → AreSound kinds.OtherSpeed (other_sets f.other)
unfolding has_wrong_sets
other_sets_sound f right =
    are_sound kinds.OtherSpeed (other_sets f.other)
    (or_right (list_any (is_other_kind kinds.Configuration) f.sets) _ (or_right (has_wrong_count f) (has_wrong_kind f) (or_left _ _ right)))
    (or_right (list_any has_no_layout f.sets) _ (or_right (has_wrong_count f || has_wrong_kind f) (has_wrong_layout f) right))

-- the rule that an enumeration rests on: the first set's value
first_some : (cs : List Configuration) → FirstIsRight cs → (first_value cs == 0) ≡ false
first_some [] right = elim right [ ]
first_some (c ∷ cs) right = or_left _ _ right

pub value_some : (f : DescriptorFile) → findings f ≡ [] → (first_value f.sets == 0) ≡ false
value_some f none = first_some f.sets (first_right f none)

pub packet_right : (f : DescriptorFile) (speed : Speed) → Accepted f speed → packet_fits speed f.device.packet ≡ true
packet_right f Low a = grind (arith, nat_tests, a.speed)
packet_right f Full a = (let d = device_right f a.rules in grind (arith, nat_tests))
packet_right f High a = grind (arith, nat_tests, a.speed)

pub at_least_8 : (speed : Speed) (p : ℕ) → packet_fits speed p ≡ true → 8 ≤ p
at_least_8 Low p e = grind (arith, nat_tests)
at_least_8 Full p e = grind (arith, nat_tests)
at_least_8 High p e = grind (arith, nat_tests)

-- a second speed is there only where a host asks for one
pub other_asked : (f : DescriptorFile) (speed : Speed) (o : Other) → Accepted f speed → f.other ≡ Some o → may_have_second speed f.device ≡ true
other_asked f Low o a e = (let s = a.speed in absurd (grind (arith, nat_tests, e)))
other_asked f Full o a e = (let s = a.speed in grind (arith, nat_tests, e))
other_asked f High o a e = (let s = a.speed in grind (arith, nat_tests, e))

-- the strings
pub record AreStrings (named : List ℕ) (s : Strings) : Type 0 where
  pub some_named : (length named == 0) ≡ false
  pub some_language : (length s.languages == 0) ≡ false
  pub few : length s.languages ≤ 126
  pub short : list_any is_long_string s.texts ≡ false
  pub count : length s.texts ≡ length s.languages * length named

are_strings : (named : List ℕ) (s : Strings) → are_wrong_strings (length named) (Some s) ≡ false → AreStrings named s
are_strings named s right =
    let counted : not (length s.texts == length s.languages * length named) ≡ false = or_right _ _ right in
    let before = or_left _ (not (length s.texts == length s.languages * length named)) right in
    let long : has_long_string (Some s) ≡ false = or_right _ _ before in
    let empty = or_left _ (has_long_string (Some s)) before in
    let languages_short : is_long_string s.languages ≡ false = or_left _ _ long in
    record {
      some_named = or_left (length named == 0) (length s.languages == 0) empty;
      some_language = or_right (length named == 0) (length s.languages == 0) empty;
      few = grind (arith, nat_tests);
      short = or_right (is_long_string s.languages) _ long;
      count = grind (arith, nat_tests);
    }

pub strings_right : (f : DescriptorFile) (s : Strings) → has_wrong_strings f ≡ false → f.strings ≡ Some s → AreStrings (named_indices f) s
unfolding has_wrong_strings
strings_right f s right is =
    are_strings (named_indices f) s (subst (λ x. are_wrong_strings (length (named_indices f)) x ≡ false) is (or_left _ (repeats_language f.strings) right))

pub languages_apart : (f : DescriptorFile) (s : Strings) → has_wrong_strings f ≡ false → f.strings ≡ Some s → repeats_language (Some s) ≡ false
unfolding has_wrong_strings
languages_apart f s right is = subst (λ x. repeats_language x ≡ false) is (or_right (are_wrong_strings (length (named_indices f)) f.strings) _ right)

none_named : (named : List ℕ) → are_wrong_strings (length named) None ≡ false → (length named == 0) ≡ true
none_named named right = grind (arith, nat_tests)

pub no_strings_right : (f : DescriptorFile) → has_wrong_strings f ≡ false → f.strings ≡ None → (length (named_indices f) == 0) ≡ true
unfolding has_wrong_strings
no_strings_right f right is =
    none_named (named_indices f) (subst (λ x. are_wrong_strings (length (named_indices f)) x ≡ false) is (or_left _ (repeats_language f.strings) right))
