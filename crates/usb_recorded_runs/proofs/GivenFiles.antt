-- A recording that has each descriptor of a file gives the file.
use Rattle.std.proofs.Common.{◌≡◌, ◌==◌, ◌||◌, ◌<◌, ◌≤◌, ◌+◌, ◌*◌, ◌%◌, ℕ, zero, suc, Bool, true, false, not, if◌then◌else◌, List, [], ◌∷◌, ◌++◌, length, map, drop, append_assoc, refl, sym, ◌∙◌, ap, ap₂, subst, arith}
use Rattle.std.specs.Prelude.{Option, Some, None, IsSome, unwrap_or, option_and_then, slice_index}
use Rattle.std.specs.List.{AllByRecursion, find, flat_map, range_with_len}
use Rattle.std.specs.Option.{option_map}
use Rattle.std.proofs.lemmas.Bool.Decides.{nat_tests}
use Rattle.std.proofs.lemmas.Nat.{div-mul-add, mod-mul-add, mul-add-lt}
use Rattle.std.proofs.Math.Nat.{mul_comm}
use Rattle.usb_fields.specs.Bytes.{AreBytes}
use Rattle.usb_fields.specs.Device.{device_bytes, qualifier_bytes}
use Rattle.usb_fields.specs.Units.{units_bytes}
use Rattle.usb_file_data.specs.declared.file.DescriptorFile.{DescriptorFile}
use Rattle.usb_file_data.specs.declared.file.Other.{Other}
use Rattle.usb_file_data.specs.declared.file.Strings.{Strings}
use Rattle.usb_file_data.specs.File.{are_wrong_strings, file_bytes, named_indices, other_bytes, sets_bytes}
use Rattle.usb_host.specs.Order.{index_due, language_due}
use Rattle.usb_device.specs.Accepted.{has_wrong_sets, has_wrong_strings, repeats_language}
use Rattle.usb_device.specs.Descriptors.{qualifier_of, string_at}
use Rattle.usb_capture.specs.declared.asked.Asked.{Asked}
use Rattle.usb_capture.specs.declared.control_transfer.ControlTransfer.{ControlTransfer}
use Rattle.usb_capture.specs.DeviceFiles as made
use Rattle.usb_capture.specs.DeviceFiles.{IsDescriptor, codes_in, configurations, data_of, dump_parts, named_by, other_parts, part, parts, string_bytes, string_parts, strings_in}
use Rattle.usb_capture.specs.Findings.{asked_of, beside, is_same}
use Rattle.usb_recorded_runs.specs.Files.{GivesDump, has_qualifier}
use Rattle.usb_recorded_runs.proofs.DescribedFiles.{IsIndex, Reads, codes_back, dump_is, front_file, indices_small, layouts_right, other_count, other_if, other_is, own_count, part_is, some_same, string_asked}
use Rattle.usb_recorded_runs.proofs.KeptParts.{Has}
use Rattle.usb_recorded_runs.proofs.NamedParts.{front_bytes, named_same}
use Rattle.usb_recorded_runs.proofs.PlaceParts.{HasFile, HasOther, HasStrings, HasTexts}
use Rattle.usb_recorded_runs.proofs.RunLemmas.{all_append}

at_drop_index : (j : ℕ) (xs : List ℕ) (n : ℕ) (rest : List ℕ) → drop j xs ≡ n ∷ rest → (j < length xs) × (slice_index xs j ≡ n)
at_drop_index zero [] n rest e = absurd (let w : ⊥ = cc in w)
at_drop_index zero (x ∷ xs) n rest e = (omega arith, (let w : x ≡ n = cc in w))
at_drop_index (suc j) [] n rest e = absurd (let w : ⊥ = cc in w)
at_drop_index (suc j) (x ∷ xs) n rest e = let later = at_drop_index j xs n rest e in (omega (arith, later.0), later.1)

drop_more : (j : ℕ) (xs : List ℕ) (n : ℕ) (rest : List ℕ) → drop j xs ≡ n ∷ rest → drop (j + 1) xs ≡ rest
drop_more j xs n rest e = (let same : suc j ≡ j + 1 = omega arith in ap (λ k. drop k xs) (sym same)) ∙ of j xs e
  where
    of : (j : ℕ) (xs : List ℕ) → drop j xs ≡ n ∷ rest → drop (suc j) xs ≡ rest
    of zero [] e = absurd (let w : ⊥ = cc in w)
    of zero (x ∷ xs) e = (let w : xs ≡ rest = cc in w)
    of (suc j) [] e = absurd (let w : ⊥ = cc in w)
    of (suc j) (x ∷ xs) e = of j xs e

none_some : {B : Type 0} → false ≡ true → B
none_some is = absurd (let w : ⊥ = cc in w)

module _ (K : List ControlTransfer) where
  part_some : (asked : Asked) → Has K asked → IsSome (part K asked)
  part_some asked has = of (find (λ t. is_same (asked_of t) asked) K) has
    where
      of : (o : Option ControlTransfer) → IsSome o → IsSome (option_map data_of o)
      of (Some t) is = refl
      of None is = none_some is

  parts_some : (list : List Asked) → AllByRecursion (Has K) list → IsSome (parts K list)
  parts_some [] each = refl
  parts_some (x ∷ xs) each = of (part K x) (parts K xs) (part_some x each.0) (parts_some xs each.1)
    where
      of : (o p : Option (List ℕ)) → IsSome o → IsSome p → IsSome (option_and_then (λ b. option_map (λ rest. b ++ rest) p) o)
      of (Some b) (Some c) p q = refl
      of None o p q = none_some p
      of (Some b) None p q = none_some q

  all_in : (device : Asked) (base from count : ℕ) → ((i : ℕ) → i < from + count → Has K (beside device (base + i))) → AllByRecursion (Has K) (map (λ i. beside device (base + i)) (range_with_len from count))
  all_in device base from zero has = tt
  all_in device base from (suc count) has = (has from (omega arith), all_in device base (from + 1) count (λ i less. has i (omega (arith, less))))

  module _ (f : DescriptorFile) (each : AllByRecursion (Reads f) K) (size : 8 ≤ f.device.packet) (fits : AreBytes (file_bytes f)) (right : has_wrong_sets f ≡ false) (texts_right : has_wrong_strings f ≡ false)
      (address : ℕ) where
    abbrev device : Asked
    device = record { bus = 0; device = address; value = 256; index = 0 }

    abbrev d : List ℕ
    d = device_bytes f.device

    -- ---- strings

    module _ (s : Strings) (named : List ℕ) (texts : HasTexts f address K named s) (count : length s.texts ≡ length s.languages * length named) where
      one_text : (r c l n : ℕ) → (r < length s.languages) × (slice_index s.languages r ≡ l) → (c < length named) × (slice_index named c ≡ n) → n < 256 → Has K (string_asked K f each size device l n)
      one_text r c l n row column small =
          let k = r * length named + c in
          let below : k < length s.texts = subst (λ m. k < m) (mul_comm (length named) (length s.languages) ∙ sym count) (mul-add-lt r (length named) c (length s.languages) row.0 column.0) in
          let index : index_due named k ≡ n = ap (λ j. slice_index named j) (mod-mul-add r (length named) c column.0) ∙ column.1 in
          let language : language_due s.languages named k ≡ l = ap (λ j. slice_index s.languages j) (div-mul-add r (length named) c column.0) ∙ row.1 in
          let value : 768 + index_due named k ≡ 768 + n % 256 = omega (arith, index, small) in
          subst (λ v. Has K (record { bus = 0; device = address; value = v; index = l })) value
          (subst (λ i. Has K (record { bus = 0; device = address; value = 768 + index_due named k; index = i })) language (texts.texts k below))

      columns : (r l c : ℕ) (ns : List ℕ) → (r < length s.languages) × (slice_index s.languages r ≡ l) → drop c named ≡ ns → AllByRecursion (IsIndex K f each size) ns
          → AllByRecursion (Has K) (map (string_asked K f each size device l) ns)
      columns r l c [] row is small = tt
      columns r l c (n ∷ ns) row is small = (one_text r c l n row (at_drop_index c named n ns is) small.0.1, columns r l (c + 1) ns row (drop_more c named n ns is) small.1)

      rows : (r : ℕ) (ls : List ℕ) → drop r s.languages ≡ ls → AllByRecursion (IsIndex K f each size) named → AllByRecursion (Has K) (flat_map (strings_in device named) ls)
      rows r [] is small = tt
      rows r (l ∷ ls) is small =
          all_append (Has K) (strings_in device named l) (flat_map (strings_in device named) ls) (columns r l 0 named (at_drop_index r s.languages l ls is) refl small)
          (rows (r + 1) ls (drop_more r s.languages l ls is) small)

    or_left : (x y : Bool) → (x || y) ≡ false → x ≡ false
    or_left false y e = refl
    or_left true y e = absurd (let w : ⊥ = cc in w)

    or_right : (x y : Bool) → (x || y) ≡ false → y ≡ false
    or_right false y e = e
    or_right true y e = absurd (let w : ⊥ = cc in w)

    own_strings : are_wrong_strings (length (named_indices f)) f.strings ≡ false
    unfolding has_wrong_strings
    own_strings = or_left (are_wrong_strings (length (named_indices f)) f.strings) (repeats_language f.strings) texts_right

    counted : (m n : ℕ) → not (m == n) ≡ false → m ≡ n
    counted m n e = grind (arith, nat_tests)

    strings_some : (sets : List ℕ) → named_by sets ≡ named_indices f → AllByRecursion (IsIndex K f each size) (named_indices f) → HasStrings f address K (named_indices f) f.strings → IsSome (string_bytes K device sets)
    strings_some sets same small has =
        subst (λ named. IsSome (parts K (string_parts device named (unwrap_or (part K (beside device 768)) [])))) (sym same) (of (named_indices f) f.strings refl refl)
      where
        of : (named : List ℕ) (o : Option Strings) → named_indices f ≡ named → f.strings ≡ o → IsSome (parts K (string_parts device named (unwrap_or (part K (beside device 768)) [])))
        of [] o at is = refl
        of (n ∷ named) None at is =
            absurd (let e : not (length (n ∷ named) == 0) ≡ false = subst (λ x. are_wrong_strings (length x) None ≡ false) at (subst (λ x. are_wrong_strings (length (named_indices f)) x ≡ false) is own_strings) in
            let w : ⊥ = some (length named) e in w)
          where
            some : (m : ℕ) → not (suc m == 0) ≡ false → ⊥
            some m e = grind (arith, nat_tests)
        of (n ∷ named) (Some s) at is = parts_some (beside device 768 ∷ flat_map (strings_in device (n ∷ named)) (codes_in (drop 2 (unwrap_or (part K (beside device 768)) [])))) (texts.list, rest)
          where
            all : List ℕ
            all = n ∷ named

            texts : HasTexts f address K all s
            texts = subst (λ x. HasTexts f address K x s) at (subst (HasStrings f address K (named_indices f)) is has)

            count : length s.texts ≡ length s.languages * length all
            count =
                counted (length s.texts) (length s.languages * length all)
                (or_right ((length all == 0) || (length s.languages == 0) || _) (not (length s.texts == length s.languages * length all))
                (subst (λ x. are_wrong_strings (length x) (Some s) ≡ false) at (subst (λ x. are_wrong_strings (length (named_indices f)) x ≡ false) is own_strings)))

            list_is : (o : Option (List ℕ)) → part K (beside device 768) ≡ o → IsSome o → unwrap_or o [] ≡ units_bytes s.languages
            list_is None e some = none_some some
            list_is (Some l) e some = some_same K f each size (units_bytes s.languages) l (sym (ap (λ x. string_at x (named_indices f) 0 0) is) ∙ part_is K f each size (beside device 768) l e)

            codes : codes_in (drop 2 (unwrap_or (part K (beside device 768)) [])) ≡ s.languages
            codes = ap (λ l. codes_in (drop 2 l)) (list_is (part K (beside device 768)) refl (part_some (beside device 768) texts.list)) ∙ codes_back K f each size s.languages

            rest : AllByRecursion (Has K) (flat_map (strings_in device all) (codes_in (drop 2 (unwrap_or (part K (beside device 768)) []))))
            rest = subst (λ ls. AllByRecursion (Has K) (flat_map (strings_in device all) ls)) (sym codes) (rows s all texts count 0 s.languages refl (subst (AllByRecursion (IsIndex K f each size)) at small))

    -- ---- the file

    module _ (first : Has K (beside device 256)) (sets : (i : ℕ) → i < length f.sets → Has K (beside device (512 + i))) where
      descriptor_is : IsDescriptor K device d
      descriptor_is = (of (part K (beside device 256)) refl (part_some (beside device 256) first), refl)
        where
          of : (o : Option (List ℕ)) → part K (beside device 256) ≡ o → IsSome o → o ≡ Some d
          of None e some = none_some some
          of (Some x) e some = ap Some (some_same K f each size d x (part_is K f each size (beside device 256) x e))

      dump_some : IsSome (parts K (dump_parts device d))
      dump_some =
          parts_some (beside device 256 ∷ configurations device 512 f.device.configurations)
          (first, all_in device 512 0 f.device.configurations (λ i less. sets i (omega (arith, less, own_count K f each size fits right))))

      -- the dump
      pub dump_there : GivesDump K device (device_bytes f.device ++ sets_bytes f.sets)
      dump_there = (d, descriptor_is, of (parts K (dump_parts device d)) refl dump_some)
        where
          of : (o : Option (List ℕ)) → parts K (dump_parts device d) ≡ o → IsSome o → o ≡ Some (device_bytes f.device ++ sets_bytes f.sets)
          of None e some = none_some some
          of (Some x) e some = ap Some (dump_is K f each size fits right device d descriptor_is x e)

    module _ (has : HasFile f address K f) (strings : HasStrings f address K (named_indices f) f.strings) where
      pub descriptor_there : IsDescriptor K device d
      descriptor_there = descriptor_is has.device has.sets

      other_some : IsSome (parts K (other_parts device (part K (beside device 1536))))
      other_some = of (part K (beside device 1536)) refl
        where
          of : (q : Option (List ℕ)) → part K (beside device 1536) ≡ q → IsSome (parts K (other_parts device q))
          of None e = refl
          of (Some q) e = by f.other refl (part_is K f each size (beside device 1536) q e)
            where
              by : (o : Option Other) → f.other ≡ o → qualifier_of f.other 0 ≡ Some q → IsSome (parts K (other_parts device (Some q)))
              by None at there = absurd (let e : None ≡ Some q = sym (ap (λ o. qualifier_of o 0) at) ∙ there in let w : ⊥ = cc in w)
              by (Some o) at there =
                  let whole : q ≡ qualifier_bytes o.qualifier = some_same K f each size (qualifier_bytes o.qualifier) q (sym (ap (λ o. qualifier_of o 0) at) ∙ there) in
                  let count : slice_index q 8 ≡ length o.sets = ap (λ x. slice_index x 8) whole ∙ sym (other_count K f each size fits right o at) in
                  let come : HasOther f address K (Some o) = subst (HasOther f address K) at has.other in
                  subst (λ n. IsSome (parts K (beside device 1536 ∷ configurations device 1792 n))) (sym count)
                  (parts_some (beside device 1536 ∷ configurations device 1792 (length o.sets)) (come.0, all_in device 1792 0 (length o.sets) (λ i less. come.1 i (omega (arith, less)))))

      -- the qualifier came, if there is one
      pub other_there : other_if K f each size fits right device d descriptor_there (has_qualifier K device) ≡ f.other
      other_there = of f.other refl
        where
          chosen : (c : Bool) (o : Option Other) → c ≡ true → (if c then o else None) ≡ o
          chosen true o e = refl
          chosen false o e = absurd (let w : ⊥ = cc in w)

          none_left : (c : Bool) (o : Option Other) → o ≡ None → (if c then o else None) ≡ o
          none_left true o e = refl
          none_left false o e = sym e

          of : (o : Option Other) → f.other ≡ o → (if has_qualifier K device then f.other else None) ≡ f.other
          of None at = none_left (has_qualifier K device) f.other at
          of (Some o) at = let come : HasOther f address K (Some o) = subst (HasOther f address K) at has.other in chosen (has_qualifier K device) f.other (part_some (beside device 1536) come.0)

      abbrev without : Option Other → DescriptorFile
      without o = record { device = f.device; sets = f.sets; other = o; strings = None }

      names_are : (x y : List ℕ) → parts K (dump_parts device d) ≡ Some x → parts K (other_parts device (part K (beside device 1536))) ≡ Some y → named_by (x ++ y) ≡ named_indices f
      names_are x y is so =
          let g = front_file K f each size fits right device d descriptor_there in
          let joined : x ++ y ≡ front_bytes g =
          ap₂ ◌++◌ (dump_is K f each size fits right device d descriptor_there x is) (other_is K f each size fits right device d descriptor_there y so)
          ∙ append_assoc (device_bytes f.device) (sets_bytes f.sets) (other_bytes g.other) in
          ap named_by joined ∙ named_same g (layouts_right K f each size fits right device d descriptor_there) ∙ ap (λ o. named_indices (without o)) other_there

      pub file_there : IsSome (made.file_bytes K device d)
      file_there = of (parts K (dump_parts device d)) (parts K (other_parts device (part K (beside device 1536)))) refl refl (dump_some has.device has.sets) other_some
        where
          of : (x y : Option (List ℕ)) → parts K (dump_parts device d) ≡ x → parts K (other_parts device (part K (beside device 1536))) ≡ y → IsSome x → IsSome y
              → IsSome (option_and_then (λ sets. option_map (λ strings. sets ++ strings) (string_bytes K device sets)) (option_and_then (λ main. option_map (λ other. main ++ other) y) x))
          of None y is so p q = none_some p
          of (Some x) None is so p q = none_some q
          of (Some x) (Some y) is so p q = by (string_bytes K device (x ++ y)) (strings_some (x ++ y) (names_are x y is so) (indices_small K f each size fits right device d descriptor_there f) strings)
            where
              by : (z : Option (List ℕ)) → IsSome z → IsSome (option_map (λ strings. (x ++ y) ++ strings) z)
              by (Some z) some = refl
              by None some = none_some some
