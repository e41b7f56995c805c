-- What is known of accepted descriptors.
use Rattle.std.proofs.Common.{◌≡◌, ℕ, ◌*◌, ◌<◌, ◌==◌, Bool, true, false, not, ◌||◌, List, [], ◌∷◌, length, slice_get, Option, Some, None, refl, arith}
use Rattle.std.proofs.lemmas.Bool.Decides.{nat_tests}
use Rattle.usb_file_data.specs.declared.file.DescriptorFile.{DescriptorFile}
use Rattle.usb_file_data.specs.declared.file.Strings.{Strings}
use Rattle.usb_file_data.specs.File.{has_long_string, are_wrong_strings, named_indices}
use Rattle.usb_file_data.specs.Findings.{findings}
use Rattle.usb_file_data.proofs.Sorting.{device_right}
use Rattle.usb_device.specs.Accepted.{has_wrong_strings, repeats_language}

-- where no rule is broken, packets of endpoint zero have at least one byte
pub packet_some : (f : DescriptorFile) → findings f ≡ [] → 0 < f.device.packet
packet_some f none =
    let device = device_right f none in
    grind (arith, nat_tests)

or_left : (a b : Bool) → (a || b) ≡ false → a ≡ false
or_left false b none = refl
or_left true b none = cc

or_right : (a b : Bool) → (a || b) ≡ false → b ≡ false
or_right false b none = none
or_right true b none = cc

-- accepted strings have bytes
short_strings : (count : ℕ) (strings : Option Strings) → are_wrong_strings count strings ≡ false → has_long_string strings ≡ false
short_strings count None right = refl
short_strings count (Some s) right = or_right _ _ (or_left _ (not (length s.texts == length s.languages * count)) right)

pub strings_have_bytes : (f : DescriptorFile) → has_wrong_strings f ≡ false → has_long_string f.strings ≡ false
unfolding has_wrong_strings
strings_have_bytes f right =
    short_strings (length (named_indices f)) f.strings (or_left _ (repeats_language f.strings) right)

-- and are as many as they have to be
as_many : (count : ℕ) (s : Strings) → are_wrong_strings count (Some s) ≡ false → length s.texts ≡ length s.languages * count
as_many count s right =
    let test : not (length s.texts == length s.languages * count) ≡ false =
    or_right ((count == 0) || (length s.languages == 0) || has_long_string (Some s)) _ right in
    grind (arith, nat_tests)

pub texts_as_many : (f : DescriptorFile) (s : Strings) → f.strings ≡ Some s → has_wrong_strings f ≡ false → length s.texts ≡ length s.languages * length (named_indices f)
unfolding has_wrong_strings
texts_as_many f s is right =
    as_many (length (named_indices f)) s (rw is at (or_left _ (repeats_language f.strings) right))

-- a list without a first element is empty
pub none_first : {X : Type 0} (xs : List X) → slice_get xs 0 ≡ None → xs ≡ []
none_first [] none = refl
none_first (x ∷ xs) none = cc
