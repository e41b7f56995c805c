-- The file that is made of a dump has bytes.
use Rattle.std.proofs.Common.{◌≡◌, ℕ, zero, suc, ◌+◌, ◌*◌, ◌%◌, ◌^◌, ◌<◌, ◌≤◌, ◌==◌, not, Bool, true, false, cond, List, [], ◌∷◌, ◌++◌, map, filter, Option, length, refl, ap, sym, subst, length-append, arith, codes, lit<}
use Rattle.std.specs.List.{AllByRecursion, flat_map, list_any, range_with_len}
use Rattle.std.specs.Fmt.{decimal}
use Rattle.std.proofs.lemmas.Bool.{eq-eqb, le-ltb, ne_eqb, or_from}
use Rattle.std.proofs.lemmas.Fmt.{decimal_by_steps, length-decimal-le}
use Rattle.usb_fields.specs.Bytes.{AreBytes, little_endian}
use Rattle.usb_fields.specs.Device.{device_bytes}
use Rattle.usb_fields.specs.Units.{units_bytes}
use Rattle.usb_set.specs.declared.tree.SetKind.TheVariants as kinds
use Rattle.usb_file_data.specs.declared.file.DescriptorFile.{DescriptorFile}
use Rattle.usb_file_data.specs.declared.file.Other.{Other}
use Rattle.usb_file_data.specs.File.{File, each_string_bytes, file_bytes, has_no_layout, is_long_string, is_other_kind, is_other_miscounted, other_bytes, sets_bytes, named_among, named_indices, other_sets, string_indices}
use Rattle.usb_file.specs.Completed.{completed, index_text}
use Rattle.usb_file_data.specs.Inputs.{Dump}

-- ---- the indices that are named

abbrev Below : ℕ → List ℕ → Type 0
Below m xs = AllByRecursion (λ x. x < m) xs

range_below : (p : ℕ → Bool) (a n m : ℕ) → a + n ≤ m → Below m (filter p (range_with_len a n))
range_below p a zero m le = tt
range_below p a (suc n) m le = cases (p a) (range_below p (a + 1) n m (omega (arith, le)))
  where
    cases : (b : Bool) → Below m (filter p (range_with_len (a + 1) n)) → Below m (cond b (a ∷ filter p (range_with_len (a + 1) n)) (filter p (range_with_len (a + 1) n)))
    cases true h = (omega (arith, le), h)
    cases false h = h

named_below : (indices : List ℕ) → Below 256 (named_among indices)
unfolding named_among
named_below indices = range_below (λ n. list_any (λ index. index == n) indices) 1 255 256 (omega arith)

-- ---- their texts

below_more : (m : ℕ) (xs ys : List ℕ) → Below m xs → Below m ys → Below m (xs ++ ys)
below_more m [] ys hx hy = hy
below_more m (x ∷ xs) ys hx hy = (hx.0, below_more m xs ys hx.1 hy)

digits_below : (n : ℕ) → n < 2 ^ 64 → Below 256 (decimal n)
digits_below n lt = decimal_by_steps (λ k ds. Below 256 ds) (λ k small. (omega (arith, small), tt)) (λ k ds big h. below_more 256 ds ((48 + k % 10) ∷ []) h (omega arith, tt)) n lt

text_below : (n : ℕ) → n < 256 → Below 256 (index_text n)
text_below n lt = below_more 256 (codes "string ") (decimal n) (lit< tt, (lit< tt, (lit< tt, (lit< tt, (lit< tt, (lit< tt, (lit< tt, tt))))))) (digits_below n (omega (arith, lt)))

text_short : (n : ℕ) → n < 256 → length (index_text n) ≤ 10
text_short n lt =
    let few = length-decimal-le 3 n (omega arith) (omega (arith, lt)) (omega (arith, lt)) in
    let all = length-append (codes "string ") (decimal n) in
    omega (arith, few, all)

-- ---- their bytes

little_fits : (us : List ℕ) → Below 256 us → AreBytes (flat_map little_endian us)
little_fits [] h = tt
little_fits (u ∷ us) h = let lt = h.0 in (omega arith, (omega (arith, lt), little_fits us h.1))

units_fit : (us : List ℕ) → length us ≤ 126 → Below 256 us → AreBytes (units_bytes us)
units_fit us few h = (omega (arith, few), (lit< tt, little_fits us h))

texts_fit : (indices : List ℕ) → Below 256 indices → AreBytes (each_string_bytes (map index_text indices))
texts_fit [] h = tt
texts_fit (n ∷ indices) h =
    let short = text_short n h.0 in
    below_more 256 (units_bytes (index_text n)) (each_string_bytes (map index_text indices)) (units_fit (index_text n) (omega (arith, short)) (text_below n h.0)) (texts_fit indices h.1)

none_long : (indices : List ℕ) → Below 256 indices → list_any is_long_string (map index_text indices) ≡ false
none_long [] h = refl
none_long (n ∷ indices) h =
    let short = text_short n h.0 in
    or_from (is_long_string (index_text n)) (list_any is_long_string (map index_text indices)) (le-ltb 126 (length (index_text n)) (omega (arith, short))) (none_long indices h.1)

length-texts : (indices : List ℕ) → length (map index_text indices) ≡ length indices
length-texts [] = refl
length-texts (n ∷ indices) = ap suc (length-texts indices)

-- ---- the file

pub completed_file : (f : DescriptorFile) (b : List ℕ) → Dump f b → File (completed f) (file_bytes (completed f))
completed_file f b d =
    let indices = named_indices f in
    let below = named_below (string_indices f) in
    let english : AreBytes (units_bytes (1033 ∷ [])) = (lit< tt, (lit< tt, (lit< tt, (lit< tt, tt)))) in
    let strings = units_bytes (1033 ∷ []) ++ each_string_bytes (map index_text indices) in
    let bytes : AreBytes (device_bytes f.device ++ sets_bytes f.sets ++ [] ++ strings) =
    below_more 256 (device_bytes f.device ++ sets_bytes f.sets ++ []) strings
    (below_more 256 (device_bytes f.device ++ sets_bytes f.sets) [] (subst AreBytes d.bytes d.fits) tt)
    (below_more 256 (units_bytes (1033 ∷ [])) (each_string_bytes (map index_text indices)) english (texts_fit indices below)) in
    let named = d.named in
    let count = length-texts indices in
    record {
      bytes = refl;
      fits = subst (λ (o : Option Other). AreBytes (device_bytes f.device ++ sets_bytes f.sets ++ other_bytes o ++ strings)) (sym d.no_other) bytes;
      counts = or_from _ _ (ap not (eq-eqb (length f.sets) f.device.configurations d.counts)) (ap is_other_miscounted d.no_other);
      kinds = or_from _ _ d.kinds (ap (λ (o : Option Other). list_any (is_other_kind kinds.OtherSpeed) (other_sets o)) d.no_other);
      layouts = or_from _ _ d.layouts (ap (λ (o : Option Other). list_any has_no_layout (other_sets o)) d.no_other);
      texts =
          or_from _ _
          (or_from _ _ (or_from _ _ (ne_eqb (length indices) 0 (λ e. omega (arith, named, e))) refl) (none_long indices below))
          (ap not (eq-eqb (length (map index_text indices)) (1 * length indices) (omega (arith, count))));
    }
