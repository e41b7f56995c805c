-- The counts of a file that has bytes: its sets and its strings.
use Rattle.std.proofs.Common.{◌≡◌, ℕ, ◌*◌, ◌<◌, inl, inr, false, not, ◌||◌, ◌==◌, length, Option, Some, None, arith}
use Rattle.std.proofs.lemmas.Bool.{eqb-true, eqb-false, not-false, or_parts, cases_eq}
use Rattle.usb_file_data.specs.declared.file.DescriptorFile.{DescriptorFile}
use Rattle.usb_file_data.specs.declared.file.Other.{Other}
use Rattle.usb_file_data.specs.declared.file.Strings.{Strings}
use Rattle.usb_file_data.specs.File.{has_long_string, has_wrong_count, are_wrong_strings, is_other_miscounted}
use Rattle.usb_file_data.specs.Front.{AllSets, StringsFollow}

same_by_test : (n m : ℕ) → not (n == m) ≡ false → n ≡ m
same_by_test n m h = eqb-true n m (not-false (n == m) h)

some_by_test : (n : ℕ) → (n == 0) ≡ false → 0 < n
some_by_test n h = elim (cases_eq n 0) [ inl e ↦ absurd (eqb-false n 0 h e) | inr e ↦ omega arith ]

-- all sets are there where the counts are right
pub all_sets : (f : DescriptorFile) → has_wrong_count f ≡ false → AllSets f f.other
all_sets f h = cases f.other (or_parts (not (length f.sets == f.device.configurations)) (is_other_miscounted f.other) h)
  where
    cases : (o : Option Other) → (not (length f.sets == f.device.configurations) ≡ false) × (is_other_miscounted o ≡ false) → AllSets f o
    cases None h = same_by_test _ _ h.0
    cases (Some o) h = (same_by_test _ _ h.0, same_by_test _ _ h.1)

-- strings that are those of this many named indices
pub record AllStrings (count : ℕ) (s : Strings) : Type 0 where
  pub follow : StringsFollow count s
  pub whole : length s.texts ≡ length s.languages * count

pub all_strings : (count : ℕ) (s : Strings) → are_wrong_strings count (Some s) ≡ false → AllStrings count s
all_strings count s h =
    let x = or_parts ((count == 0) || (length s.languages == 0) || has_long_string (Some s)) (not (length s.texts == length s.languages * count)) h in
    let y = or_parts ((count == 0) || (length s.languages == 0)) (has_long_string (Some s)) x.0 in
    let z = or_parts (count == 0) (length s.languages == 0) y.0 in
    let whole = same_by_test (length s.texts) (length s.languages * count) x.1 in
    record {
      follow = record { named = some_by_test count z.0; spoken = some_by_test (length s.languages) z.1; few = omega arith; short = y.1 };
      whole = whole;
    }
