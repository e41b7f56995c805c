-- How long a file can be.
use Rattle.std.proofs.Common.{◌≡◌, ℕ, ◌+◌, ◌*◌, ◌<◌, ◌≤◌, Bool, false, ◌==◌, not, List, [], ◌∷◌, ◌++◌, length, Option, Some, None, refl, ap, subst, arith, length-append}
use Rattle.std.specs.Prelude.{filter}
use Rattle.std.specs.List.{list_any, range_with_len}
use Rattle.std.proofs.Math.Nat.{mul-le-mul_right}
use Rattle.std.proofs.lemmas.Bool.{ltb-false, or_parts}
use Rattle.std.proofs.lemmas.List.Filters.{length-filter_both}
use Rattle.std.proofs.lemmas.List.FromFn.{length-range_with_len}
use Rattle.usb_fields.specs.Bytes.{AreBytes}
use Rattle.usb_fields.proofs.ByteLemmas.{byte_at}
use Rattle.usb_fields.specs.Device.{device_bytes, qualifier_bytes}
use Rattle.usb_fields.specs.Units.{units_bytes}
use Rattle.usb_set.specs.declared.tree.Configuration.{Configuration}
use Rattle.usb_file_data.specs.declared.file.DescriptorFile.{DescriptorFile}
use Rattle.usb_file_data.specs.declared.file.Other.{Other}
use Rattle.usb_file_data.specs.declared.file.Strings.{Strings}
use Rattle.usb_file_data.specs.File.{named_among, other_sets, string_indices, File, whole_set, sets_bytes, other_bytes, each_string_bytes, strings_bytes, has_no_layout, is_long_string, are_wrong_strings}
use Rattle.usb_file_data.specs.Front.{AllSets}
use Rattle.usb_file_data.proofs.Lists.{bytes_before, bytes_behind}
use Rattle.usb_file_data.proofs.Units.{length-units_bytes}
use Rattle.usb_file_data.proofs.WholeSets.{whole_length}
use Rattle.usb_file_data.proofs.Counts.{all_sets, all_strings}

-- ---- lists of parts

sets_length : (ss : List Configuration) → list_any has_no_layout ss ≡ false → length (sets_bytes ss) ≤ length ss * 65535
sets_length [] h = omega arith
sets_length (c ∷ ss) h =
    let both = or_parts (has_no_layout c) (list_any has_no_layout ss) h in
    omega (arith, whole_length c both.0, sets_length ss both.1, length-append (whole_set c) (sets_bytes ss))

each_string_length : (us : List (List ℕ)) → list_any is_long_string us ≡ false → length (each_string_bytes us) ≤ length us * 254
each_string_length [] h = omega arith
each_string_length (u ∷ us) h =
    let both = or_parts (is_long_string u) (list_any is_long_string us) h in
    let few : length u ≤ 126 = ltb-false 126 (length u) both.0 in
    omega (arith, few, length-units_bytes u, each_string_length us both.1, length-append (units_bytes u) (each_string_bytes us))

filter_length : (p : ℕ → Bool) (xs : List ℕ) → length (filter p xs) ≤ length xs
filter_length p xs = omega (arith, length-filter_both p (λ x. not (p x)) (λ x. refl) xs)

pub named_length : (indices : List ℕ) → length (named_among indices) ≤ 255
unfolding named_among
named_length indices =
    let most = filter_length (λ n. list_any (λ index. index == n) indices) (range_with_len 1 255) in
    omega (arith, most, length-range_with_len 1 255)

-- ---- counts

pub set_count : (f : DescriptorFile) (o : Option Other) → AllSets f o → length f.sets ≡ f.device.configurations
set_count f None h = h
set_count f (Some o) h = h.0

other_count : (f : DescriptorFile) (o : Option Other) → AllSets f o → AreBytes (other_bytes o) → length (other_sets o) ≤ 255
other_count f None all bytes = omega arith
other_count f (Some o) all bytes =
    let count : o.qualifier.configurations < 256 = byte_at (qualifier_bytes o.qualifier) 8 (bytes_before (qualifier_bytes o.qualifier) (sets_bytes o.sets) bytes) (omega arith) in
    omega (arith, all.1)

-- a file has at most 255 sets of either speed
pub record FewSets (f : DescriptorFile) : Type 0 where
  pub main : length f.sets ≤ 255
  pub other : length (other_sets f.other) ≤ 255

pub few_sets : (f : DescriptorFile) (b : List ℕ) → File f b → FewSets f
few_sets f b h =
    let all = all_sets f h.counts in
    let before = device_bytes f.device ++ sets_bytes f.sets in
    let with_other = bytes_before (before ++ other_bytes f.other) (strings_bytes f.strings) (subst AreBytes h.bytes h.fits) in
    let main = bytes_before before (other_bytes f.other) with_other in
    let count : f.device.configurations < 256 = byte_at (device_bytes f.device) 17 (bytes_before (device_bytes f.device) (sets_bytes f.sets) main) (omega arith) in
    record {
      main = omega (arith, set_count f f.other all);
      other = other_count f f.other all (bytes_behind before (other_bytes f.other) with_other);
    }

-- at most 126 languages, and in each a string for at most 255 indices, none of them over 126 units
pub record FewStrings (s : Strings) : Type 0 where
  pub languages : length s.languages ≤ 126
  pub texts : length s.texts ≤ 32130
  pub short : list_any is_long_string s.texts ≡ false

pub few_strings : (indices : List ℕ) (s : Strings) → are_wrong_strings (length (named_among indices)) (Some s) ≡ false → FewStrings s
few_strings indices s h =
    let count = length (named_among indices) in
    let few = named_length indices in
    let all = all_strings count s h in
    let short = or_parts (is_long_string s.languages) (list_any is_long_string s.texts) all.follow.short in
    let languages : length s.languages ≤ 126 = ltb-false 126 (length s.languages) short.0 in
    let by_languages : length s.languages * count ≤ 126 * count = mul-le-mul_right count languages in
    record { languages = languages; texts = omega (arith, all.whole); short = short.1 }

-- ---- parts

other_length : (o : Option Other) → list_any has_no_layout (other_sets o) ≡ false → length (other_sets o) ≤ 255 → length (other_bytes o) ≤ 10 + 255 * 65535
other_length None h few = omega arith
other_length (Some o) h few =
    let most : length o.sets * 65535 ≤ 255 * 65535 = mul-le-mul_right 65535 few in
    omega (arith, most, sets_length o.sets h, length-append (qualifier_bytes o.qualifier) (sets_bytes o.sets))

strings_length : (indices : List ℕ) (s : Option Strings) → are_wrong_strings (length (named_among indices)) s ≡ false → length (strings_bytes s) ≤ 254 + 126 * 255 * 254
strings_length indices None h = omega arith
strings_length indices (Some s) h =
    let few = few_strings indices s h in
    let texts : length s.texts * 254 ≤ 32130 * 254 = mul-le-mul_right 254 few.texts in
    omega (arith, texts, few.languages, each_string_length s.texts few.short, length-units_bytes s.languages, length-append (units_bytes s.languages) (each_string_bytes s.texts))

-- ---- the file

pub at_most : (f : DescriptorFile) (b : List ℕ) → File f b → length b ≤ 41584152
at_most f b h =
    let few = few_sets f b h in
    let layouts = or_parts (list_any has_no_layout f.sets) (list_any has_no_layout (other_sets f.other)) h.layouts in
    let before = device_bytes f.device ++ sets_bytes f.sets in
    let sets : length f.sets * 65535 ≤ 255 * 65535 = mul-le-mul_right 65535 few.main in
    omega (
      arith,
      ap length h.bytes,
      sets_length f.sets layouts.0,
      other_length f.other layouts.1 few.other,
      strings_length (string_indices f) f.strings h.texts,
      length-append (device_bytes f.device) (sets_bytes f.sets),
      length-append before (other_bytes f.other),
      length-append (before ++ other_bytes f.other) (strings_bytes f.strings),
    )
