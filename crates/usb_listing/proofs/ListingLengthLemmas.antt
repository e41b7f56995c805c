-- How long the listing of a file can be.
use Rattle.std.proofs.Common.{◌≡◌, ℕ, ◌+◌, ◌*◌, ◌≤◌, Bool, true, false, cond, List, [], ◌∷◌, ◌++◌, length, map, codes, drop, Option, Some, None, refl, ap, arith, length-append}
use Rattle.std.specs.List.{flat_map, list_any}
use Rattle.std.proofs.Math.Nat.{mul-le-mul_right}
use Rattle.std.proofs.lemmas.Bool.{ltb-false, or_parts}
use Rattle.std.proofs.lemmas.List.Folds.{flat_map-map}
use Rattle.hex.specs.Hex.{encode_lower, encode_with, lower_digits}
use Rattle.hex.proofs.HexLemmas.{length-encode_with}
use Rattle.usb_fields.specs.Fields.{size_of}
use Rattle.usb_fields.specs.declared.device.DeviceDescriptor.{DeviceDescriptor}
use Rattle.usb_fields.specs.declared.qualifier.Qualifier.{Qualifier}
use Rattle.usb_set.specs.declared.tree.SetKind.{SetKind}
use Rattle.usb_set.specs.declared.tree.SetKind.TheVariants as kinds
use Rattle.usb_set.specs.declared.extra.Extra.{Extra}
use Rattle.usb_set.specs.declared.extra.Extra.TheVariants as extras
use Rattle.usb_set.specs.declared.tree.Endpoint.{Endpoint}
use Rattle.usb_set.specs.declared.tree.Setting.{Setting}
use Rattle.usb_set.specs.declared.tree.Configuration.{Configuration}
use Rattle.usb_set.specs.Descriptors.{descriptor_bytes, endpoint_descriptor, extra_descriptor, interface_descriptor, configuration_descriptor}
use Rattle.usb_set.specs.Layout.{set_length}
use Rattle.usb_set.specs.inside.Trees.{extra_bytes, endpoint_bytes, setting_bytes}
use Rattle.usb_set.proofs.Trees.{set_bytes_is}
use Rattle.usb_file_data.specs.declared.file.DescriptorFile.{DescriptorFile}
use Rattle.usb_file_data.specs.declared.file.Other.{Other}
use Rattle.usb_file_data.specs.declared.file.Strings.{Strings}
use Rattle.usb_file_data.specs.File.{named_among, other_sets, string_indices, File, whole_set, has_no_layout, is_long_string, are_wrong_strings}
use Rattle.usb_listing.specs.Table.{written_field}
use Rattle.usb_text.specs.Characters.{is_plain, two_bytes, written_unit}
use Rattle.usb_listing.specs.Listing.{extra_line, endpoint_line, endpoint_lines, interface_line, row_of_extra, setting_lines, configuration_line, set_lines, languages_line, string_line, strings_lines, device_line, qualifier_line, other_lines, file_lines}
use Rattle.usb_file_data.proofs.WholeSets.{whole_length}
use Rattle.usb_file_data.proofs.Longest.{few_sets, few_strings}

-- ---- lists of texts

-- where each text has at most this many characters
each_at_most : {A : Type 0} (f : A → List ℕ) (most : ℕ) → ((x : A) → length (f x) ≤ most) → (xs : List A) → length (flat_map f xs) ≤ length xs * most
each_at_most f most each [] = omega arith
each_at_most f most each (x ∷ xs) = omega (arith, each x, each_at_most f most each xs, length-append (f x) (flat_map f xs))

-- where each text has at most five characters for each byte
five_for_each : {A : Type 0} (f g : A → List ℕ) → ((x : A) → length (f x) ≤ 5 * length (g x)) → (xs : List A) → length (flat_map f xs) ≤ 5 * length (flat_map g xs)
five_for_each f g each [] = omega arith
five_for_each f g each (x ∷ xs) =
    omega (arith, each x, five_for_each f g each xs, length-append (f x) (flat_map f xs), length-append (g x) (flat_map g xs))

-- ---- a set has at most five characters for each byte

-- a field has a space and two digits for each byte, or a dash
field_length : (bytes : List ℕ) → length (written_field bytes) ≤ 2 + 2 * length bytes
field_length [] = omega arith
field_length (b ∷ rest) = omega (arith, length-encode_with lower_digits (b ∷ rest))

-- the last field of a line, and its line feed
end_length : (tail : List ℕ) → length ((written_field tail ++ []) ++ codes "\n") ≤ 3 + 2 * length tail
end_length tail = omega (arith, field_length tail, length-append (written_field tail ++ []) (codes "\n"), length-append (written_field tail) [])

extra_length : (x : Extra) → length (extra_line x) ≤ 5 * length (extra_bytes x)
unfolding extra_line encode_with
extra_length (extras.Raw r) = omega (arith, end_length r.body)
extra_length x = omega (arith, end_length (drop (size_of (row_of_extra x).widths) (extra_descriptor x).body))

endpoint_line_length : (e : Endpoint) → length (endpoint_line e) ≤ 5 * length (descriptor_bytes (endpoint_descriptor e))
unfolding endpoint_line encode_with
endpoint_line_length e = omega (arith, end_length e.tail)

endpoint_length : (e : Endpoint) → length (endpoint_lines e) ≤ 5 * length (endpoint_bytes e)
endpoint_length e =
    omega (
      arith,
      endpoint_line_length e,
      five_for_each extra_line extra_bytes extra_length e.extras,
      length-append (endpoint_line e) (flat_map extra_line e.extras),
      length-append (descriptor_bytes (endpoint_descriptor e)) (flat_map extra_bytes e.extras),
    )

interface_line_length : (s : Setting) → length (interface_line s) ≤ 5 * length (descriptor_bytes (interface_descriptor s))
unfolding interface_line encode_with
interface_line_length s = omega (arith, end_length s.tail)

setting_length : (s : Setting) → length (setting_lines s) ≤ 5 * length (setting_bytes s)
setting_length s =
    omega (
      arith,
      interface_line_length s,
      five_for_each extra_line extra_bytes extra_length s.extras,
      five_for_each endpoint_lines endpoint_bytes endpoint_length s.endpoints,
      length-append (interface_line s ++ flat_map extra_line s.extras) (flat_map endpoint_lines s.endpoints),
      length-append (interface_line s) (flat_map extra_line s.extras),
      length-append (descriptor_bytes (interface_descriptor s) ++ flat_map extra_bytes s.extras) (flat_map endpoint_bytes s.endpoints),
      length-append (descriptor_bytes (interface_descriptor s)) (flat_map extra_bytes s.extras),
    )

configuration_line_length : (c : Configuration) (total : ℕ) (kind : SetKind) → c.kind ≡ kind → length (configuration_line c) ≤ 5 * length (descriptor_bytes (configuration_descriptor c total))
unfolding configuration_line encode_with
configuration_line_length c total kinds.Configuration e = rw e (omega (arith, end_length c.tail))
configuration_line_length c total kinds.OtherSpeed e = rw e (omega (arith, end_length c.tail))

set_lines_length : (c : Configuration) → length (set_lines c) ≤ 5 * length (whole_set c)
unfolding whole_set
set_lines_length c =
    let head = descriptor_bytes (configuration_descriptor c (set_length c)) in
    omega (
      arith,
      ap length (set_bytes_is c (set_length c)),
      configuration_line_length c (set_length c) c.kind refl,
      five_for_each extra_line extra_bytes extra_length c.extras,
      five_for_each setting_lines setting_bytes setting_length c.settings,
      length-append (configuration_line c ++ flat_map extra_line c.extras) (flat_map setting_lines c.settings),
      length-append (configuration_line c) (flat_map extra_line c.extras),
      length-append (head ++ flat_map extra_bytes c.extras) (flat_map setting_bytes c.settings),
      length-append head (flat_map extra_bytes c.extras),
    )

-- a set with a layout has at most 65,535 bytes
sets_lines_length : (ss : List Configuration) → list_any has_no_layout ss ≡ false → length (flat_map set_lines ss) ≤ length ss * 327675
sets_lines_length [] h = omega arith
sets_lines_length (c ∷ ss) h =
    let both = or_parts (has_no_layout c) (list_any has_no_layout ss) h in
    omega (arith, set_lines_length c, whole_length c both.0, sets_lines_length ss both.1, length-append (set_lines c) (flat_map set_lines ss))

-- 255 sets of one speed
speed_length : (ss : List Configuration) → list_any has_no_layout ss ≡ false → length ss ≤ 255 → length (flat_map set_lines ss) ≤ 83557125
speed_length ss h few =
    let most : length ss * 327675 ≤ 255 * 327675 = mul-le-mul_right 327675 few in
    omega (arith, most, sets_lines_length ss h)

-- ---- the lines of fixed widths

device_length : (d : DeviceDescriptor) → length (device_line d) ≤ 51
unfolding device_line encode_with
device_length d = omega arith

qualifier_length : (q : Qualifier) → length (qualifier_line q) ≤ 33
unfolding qualifier_line encode_with
qualifier_length q = omega arith

other_lines_length : (o : Option Other) → list_any has_no_layout (other_sets o) ≡ false → length (other_sets o) ≤ 255 → length (other_lines o) ≤ 33 + 83557125
other_lines_length None h few = omega arith
other_lines_length (Some o) h few =
    omega (arith, qualifier_length o.qualifier, speed_length o.sets h few, length-append (qualifier_line o.qualifier) (flat_map set_lines o.sets))

-- ---- strings

-- a unit is a character, or a backslash and four digits
unit_length : (u : ℕ) → length (written_unit u) ≤ 5
unfolding written_unit encode_with
unit_length u = cases (is_plain u)
  where
    cases : (plain : Bool) → length (cond plain (u ∷ []) (92 ∷ encode_lower (two_bytes u))) ≤ 5
    cases true = omega arith
    cases false = omega arith

string_length : (units : List ℕ) → length (string_line units) ≤ 10 + length units * 5
unfolding string_line
string_length units =
    omega (arith, each_at_most written_unit 5 unit_length units, length-append (flat_map written_unit units) (codes "\"\n"))

texts_length : (us : List (List ℕ)) → list_any is_long_string us ≡ false → length (flat_map string_line us) ≤ length us * 640
texts_length [] h = omega arith
texts_length (u ∷ us) h =
    let both = or_parts (is_long_string u) (list_any is_long_string us) h in
    let few : length u ≤ 126 = ltb-false 126 (length u) both.0 in
    omega (arith, few, string_length u, texts_length us both.1, length-append (string_line u) (flat_map string_line us))

-- a code is a space and four digits
code_length : (u : ℕ) → length (written_field (two_bytes u)) ≤ 5
unfolding encode_with
code_length u = omega arith

languages_length : (languages : List ℕ) → length (languages_line languages) ≤ 10 + length languages * 5
unfolding languages_line
languages_length languages =
    omega (
      arith,
      ap length (flat_map-map written_field two_bytes languages),
      each_at_most (λ u. written_field (two_bytes u)) 5 code_length languages,
      length-append (flat_map written_field (map two_bytes languages)) (codes "\n"),
    )

strings_lines_length : (indices : List ℕ) (s : Option Strings) → are_wrong_strings (length (named_among indices)) s ≡ false → length (strings_lines s) ≤ 640 + 20563200
strings_lines_length indices None h = omega arith
strings_lines_length indices (Some s) h =
    let few = few_strings indices s h in
    let texts : length s.texts * 640 ≤ 32130 * 640 = mul-le-mul_right 640 few.texts in
    omega (
      arith,
      texts,
      few.languages,
      languages_length s.languages,
      texts_length s.texts few.short,
      length-append (languages_line s.languages) (flat_map string_line s.texts),
    )

-- ---- the file

-- the lines of fixed widths, 510 sets with five characters for each byte, and 32,130 strings of 640
pub lines_at_most : (f : DescriptorFile) (b : List ℕ) → File f b → length (file_lines f) ≤ 187678174
lines_at_most f b h =
    let few = few_sets f b h in
    let layouts = or_parts (list_any has_no_layout f.sets) (list_any has_no_layout (other_sets f.other)) h.layouts in
    let before = device_line f.device ++ flat_map set_lines f.sets in
    omega (
      arith,
      device_length f.device,
      speed_length f.sets layouts.0 few.main,
      other_lines_length f.other layouts.1 few.other,
      strings_lines_length (string_indices f) f.strings h.texts,
      length-append (device_line f.device) (flat_map set_lines f.sets),
      length-append before (other_lines f.other),
      length-append (before ++ other_lines f.other) (strings_lines f.strings),
    )
