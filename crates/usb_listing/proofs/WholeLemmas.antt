-- A file so far that is whole has bytes, and a file with bytes is a file so far and whole.
use Rattle.std.proofs.Common.{◌≡◌, ◌≢◌, ℕ, ◌+◌, ◌*◌, ◌<◌, ◌≤◌, ◌==◌, ◌||◌, ◌&&◌, not, eqb, ltb, Bool, true, false, cond, List, [], ◌∷◌, ◌++◌, map, Option, Some, None, is_none, length, refl, ap, sym, subst, ◌∙◌, arith}
use Rattle.std.specs.List.{flat_map, list_any}
use Rattle.std.proofs.lemmas.Bool.{eqb-false, eqb-true, le-ltb, ltb-false, ne_eqb, or_from, or_parts}
use Rattle.usb_fields.specs.Bytes.{AreBytes}
use Rattle.usb_fields.specs.Fields.{fields_bytes, widths, size_of}
use Rattle.usb_fields.specs.Device.{device_bytes, device_fields, qualifier_bytes, qualifier_fields}
use Rattle.usb_fields.specs.Units.{units_bytes}
use Rattle.usb_set.specs.declared.tree.SetKind.{SetKind}
use Rattle.usb_set.specs.declared.tree.SetKind.TheVariants as kinds
use Rattle.usb_set.specs.declared.tree.Configuration.{Configuration}
use Rattle.usb_set.specs.Descriptors.{Descriptor, configuration_descriptor, configuration_fields, descriptor_bytes}
use Rattle.usb_set.specs.Layout.{set_length, has_long_descriptor, has_typed_raw, is_long, is_typed, later_descriptors, set_bytes, set_descriptors}
use Rattle.usb_set.specs.Faults.{is_interface, least_length}
use Rattle.usb_set.specs.declared.fault.EncodeFault.TheVariants as encoding
use Rattle.usb_set.proofs.Layouts.{AllFine, Fine, fine_items}
use Rattle.usb_file_data.specs.declared.file.DescriptorFile.{DescriptorFile}
use Rattle.usb_file_data.specs.declared.file.Other.{Other}
use Rattle.usb_file_data.specs.declared.file.Strings.{Strings}
use Rattle.usb_file_data.specs.declared.refusal.WriteFault.TheVariants as writes
use Rattle.usb_file_data.specs.File.{File, are_wrong_strings, each_string_bytes, file_bytes, has_long_string, has_no_layout, has_wrong_count, has_wrong_kind, has_wrong_layout, is_other_miscounted, other_bytes, sets_bytes, strings_bytes, whole_set, named_indices, other_sets}
use Rattle.usb_file_data.specs.Front.{IsInOrder, StringsFollow}
use Rattle.usb_file_data.proofs.Lists.{bytes_before, bytes_behind}
use Rattle.usb_file_data.proofs.WholeSets.{no_some}
use Rattle.usb_listing.specs.declared.word.Word.{Word}
use Rattle.usb_listing.specs.declared.word.ExtraWord.{ExtraWord}
use Rattle.usb_listing.specs.declared.word.ExtraWord.TheVariants as extra
use Rattle.usb_listing.specs.Table.{extra_word}
use Rattle.usb_listing.specs.declared.word.Word.TheVariants as words
use Rattle.usb_listing.specs.Says.{IsItem, fields, string}
use Rattle.usb_listing.specs.Order.{is_over, other_items, set_item, set_items, strings_items}
use Rattle.usb_listing.specs.Listings.{IsBegun, is_whole}
use Rattle.usb_listing.specs.inside.Drafts.{strings_total}
use Rattle.usb_listing.specs.inside.Walking.{has_all_strings}
use Rattle.usb_listing.proofs.PartLemmas.{All, all_append, all_split}
use Rattle.usb_fields.proofs.ByteParts.{bytes_append}
use Rattle.usb_listing.proofs.SetLemmas.{no_word, raw_word, word_kind}

-- ---- a set of which each descriptor is one that a line can say

descriptors_fit : (ds : List Descriptor) → All (map set_item ds) → AreBytes (flat_map descriptor_bytes ds)
descriptors_fit [] h = tt
descriptors_fit (d ∷ ds) h = bytes_append (descriptor_bytes d) (flat_map descriptor_bytes ds) h.0.0 (descriptors_fit ds h.1)

none_long : (ds : List Descriptor) → All (map set_item ds) → list_any is_long ds ≡ false
none_long [] h = refl
none_long (d ∷ ds) h = or_from (is_long d) (list_any is_long ds) (le-ltb 253 (length d.body) (let n = h.0.0.0 in omega (arith, n))) (none_long ds h.1)

set_fits : (c : Configuration) → All (set_items c) → (total : ℕ) → total < 65536 → AreBytes (set_bytes c total)
set_fits c h total lt =
    let first = h.0.0 in
    bytes_append (descriptor_bytes (configuration_descriptor c total)) (flat_map descriptor_bytes (later_descriptors c))
    (first.0, (first.1.0, (omega arith, (omega arith, first.1.1.1.1)))) (descriptors_fit (later_descriptors c) h.1)

allowed : (long typed over : Bool) (c : Configuration) → has_long_descriptor c ≡ long → has_typed_raw c ≡ typed → ltb 65535 (set_length c) ≡ over
    → long ≡ false → typed ≡ false → over ≡ false → has_no_layout c ≡ false
allowed long typed over c el et eo fl ft fo = rw (el ∙ fl, et ∙ ft, eo ∙ fo) refl

-- what is so of sets of which each is
record Sets (cs : List Configuration) : Type 0 where
  pub fit : AreBytes (sets_bytes cs)
  pub allowed : list_any has_no_layout cs ≡ false

sets_whole : (cs : List Configuration) → All (flat_map set_items cs) → list_any has_typed_raw cs ≡ false → list_any is_over cs ≡ false → Sets cs
unfolding whole_set
sets_whole [] h raws over = record { fit = tt; allowed = refl }
sets_whole (c ∷ cs) h raws over =
    let p = all_split (set_items c) (flat_map set_items cs) h in
    let r = or_parts (has_typed_raw c) (list_any has_typed_raw cs) raws in
    let q = or_parts (is_over c) (list_any is_over cs) over in
    let few = ltb-false 65535 (set_length c) q.0 in
    let more = sets_whole cs p.1 r.1 q.1 in
    record {
      fit = bytes_append (set_bytes c (set_length c)) (sets_bytes cs) (set_fits c p.0 (set_length c) (omega (arith, few))) more.fit;
      allowed = or_from (has_no_layout c) (list_any has_no_layout cs) (allowed _ _ _ c refl refl refl (none_long (set_descriptors c 0) p.0) r.0 q.0) more.allowed;
    }

units_fit : (us : List (List ℕ)) → All (map string us) → AreBytes (each_string_bytes us)
units_fit [] h = tt
units_fit (u ∷ us) h = bytes_append (units_bytes u) (each_string_bytes us) h.0 (units_fit us h.1)

strings_fit : (s : Option Strings) → All (strings_items s) → AreBytes (strings_bytes s)
strings_fit None h = tt
strings_fit (Some s) h = bytes_append (units_bytes s.languages) (each_string_bytes s.texts) h.0.0 (units_fit s.texts h.1)

-- what is so of the parts of a file so far
record Parts (f : DescriptorFile) : Type 0 where
  pub fit : AreBytes (file_bytes f)
  pub allowed : has_wrong_layout f ≡ false

parts : (f : DescriptorFile) → IsBegun (Some f) → Parts f
parts f begun =
    let h = begun.0 in
    let front = fields words.Device (device_bytes f.device) ∷ flat_map set_items f.sets in
    let p = all_split (front ++ other_items f.other) (strings_items f.strings) h.said in
    let q = all_split front (other_items f.other) p.0 in
    let raws = or_parts (list_any has_typed_raw f.sets) (list_any has_typed_raw (other_sets f.other)) h.raws in
    let over = or_parts (list_any is_over f.sets) (list_any is_over (other_sets f.other)) begun.1 in
    let main = sets_whole f.sets q.0.1 raws.0 over.0 in
    let other = of_other f.other q.1 raws.1 over.1 in
    record {
      fit = bytes_append (device_bytes f.device ++ sets_bytes f.sets ++ other_bytes f.other) (strings_bytes f.strings)
          (bytes_append (device_bytes f.device ++ sets_bytes f.sets) (other_bytes f.other) (bytes_append (device_bytes f.device) (sets_bytes f.sets) q.0.0.0 main.fit) other.0)
          (strings_fit f.strings p.1);
      allowed = or_from (list_any has_no_layout f.sets) (list_any has_no_layout (other_sets f.other)) main.allowed other.1;
    }
  where
    of_other : (o : Option Other) → All (other_items o) → list_any has_typed_raw (other_sets o) ≡ false → list_any is_over (other_sets o) ≡ false
        → AreBytes (other_bytes o) × (list_any has_no_layout (other_sets o) ≡ false)
    of_other None h raws over = (tt, refl)
    of_other (Some o) h raws over = let s = sets_whole o.sets h.1 raws over in (bytes_append (qualifier_bytes o.qualifier) (sets_bytes o.sets) h.0.0 s.fit, s.allowed)

-- no reason stands against a file of which none is reported
none_stands : (a b c d : Bool) → is_none (cond a (Some writes.Count) (cond b (Some writes.Kind) (cond c (Some writes.Layout) (cond d (Some writes.Texts) None)))) ≡ true
    → (a ≡ false) × (b ≡ false) × (c ≡ false) × (d ≡ false)
none_stands true b c d e = cc
none_stands false true c d e = cc
none_stands false false true d e = cc
none_stands false false false true e = cc
none_stands false false false false e = (refl, refl, refl, refl)

-- a file so far to which nothing is missing has bytes
pub whole_file : (f : DescriptorFile) → IsBegun (Some f) → is_whole (Some f) ≡ true → File f (file_bytes f)
whole_file f begun whole =
    let n = none_stands (has_wrong_count f) (has_wrong_kind f) (has_wrong_layout f) (are_wrong_strings (length (named_indices f)) f.strings) whole in
    record { bytes = refl; fits = (parts f begun).fit; counts = n.0; kinds = n.1; layouts = n.2; texts = n.3 }

-- ---- whether a file so far is whole

strings_follow : (f : DescriptorFile) (o : Option Other) (s : Strings) → IsInOrder f o (Some s) → StringsFollow (length (named_indices f)) s
strings_follow f None s h = h.1
strings_follow f (Some o) s h = h.2

or_four : (a b c d : Bool) → a ≡ false → b ≡ false → c ≡ false → (a || b || c || d) ≡ d
or_four a b c d ea eb ec = rw (ea, eb, ec) refl

-- strings that may come are wrong only where some are due
strings_wrong : (f : DescriptorFile) (s : Option Strings) (total : ℕ) → IsInOrder f f.other s → total ≡ strings_total f s
    → are_wrong_strings (length (named_indices f)) s ≡ not (has_all_strings f s total)
strings_wrong f None total order t = refl
strings_wrong f (Some s) total order t =
    let follow = strings_follow f f.other s order in
    let named = follow.named in
    let spoken = follow.spoken in
    or_four (length (named_indices f) == 0) (length s.languages == 0) (has_long_string (Some s)) (not (length s.texts == length s.languages * length (named_indices f)))
    (ne_eqb (length (named_indices f)) 0 (omega (arith, named))) (ne_eqb (length s.languages) 0 (omega (arith, spoken))) follow.short
    ∙ ap (λ (n : ℕ). not (length s.texts == n)) (sym t)

none_left : (a b c d all : Bool) → b ≡ false → c ≡ false → d ≡ not all
    → (not a && all) ≡ is_none (cond a (Some writes.Count) (cond b (Some writes.Kind) (cond c (Some writes.Layout) (cond d (Some writes.Texts) None))))
none_left true b c d all eb ec ed = refl
none_left false b c d true eb ec ed = rw (eb, ec, ed) refl
none_left false b c d false eb ec ed = rw (eb, ec, ed) refl

-- a file so far is whole where no set and no string comes next
pub whole_is : (f : DescriptorFile) (total : ℕ) → IsBegun (Some f) → total ≡ strings_total f f.strings
    → (not (has_wrong_count f) && has_all_strings f f.strings total) ≡ is_whole (Some f)
whole_is f total begun t =
    none_left (has_wrong_count f) (has_wrong_kind f) (has_wrong_layout f) (are_wrong_strings (length (named_indices f)) f.strings) (has_all_strings f f.strings total)
    begun.0.kinds (parts f begun).allowed (strings_wrong f f.strings total begun.0.order t)

-- the same, where all sets are there
pub whole_then : (f : DescriptorFile) (total : ℕ) (sets strings : Bool) → IsBegun (Some f) → total ≡ strings_total f f.strings → sets ≡ not (has_wrong_count f) → sets ≡ true
    → strings ≡ has_all_strings f f.strings total → strings ≡ is_whole (Some f)
whole_then f total sets strings begun t is all s =
    s ∙ ap (λ (b : Bool). b && has_all_strings f f.strings total) (sym all ∙ is) ∙ whole_is f total begun t

-- ---- a file with bytes is a file so far

said_raw : (d : Descriptor) → AreBytes (descriptor_bytes d) → is_typed d.kind ≡ false → IsItem (set_item d)
said_raw d fits untyped =
    let count : 2 + length d.body ≡ 1 + length (d.kind ∷ d.body) = omega arith in
    let few : 1 ≤ length (d.kind ∷ d.body) = omega arith in
    subst (λ (w : Word). IsItem (fields w (descriptor_bytes d))) (sym (raw_word d.kind untyped))
    (fits, record { body = d.kind ∷ d.body; whole = ap (λ (n : ℕ). n ∷ d.kind ∷ d.body) count; fills = few }, untyped)

-- a descriptor behind the first that has no fault
said_later : (s : Bool) (d : Descriptor) → AreBytes (descriptor_bytes d) → Fine s d → IsItem (set_item d)
said_later s d fits fine = at (eqb d.kind 4) (eqb d.kind 5) refl refl
  where
    named : (kind : ℕ) → d.kind ≡ kind → IsItem (set_item (record d { kind = kind })) → IsItem (set_item d)
    named kind e h = subst (λ (n : ℕ). IsItem (set_item (record d { kind = n }))) (sym e) h

    bytes_of : (kind : ℕ) → d.kind ≡ kind → AreBytes (descriptor_bytes (record d { kind = kind }))
    bytes_of kind e = subst (λ (n : ℕ). AreBytes (descriptor_bytes (record d { kind = n }))) e fits

    long_of : (kind : ℕ) → d.kind ≡ kind → least_length kind ≤ 2 + length d.body
    long_of kind e = subst (λ (n : ℕ). least_length n ≤ 2 + length d.body) e fine.long

    by_word : (x : ExtraWord) → extra_word d.kind ≡ x → eqb d.kind 4 ≡ false → eqb d.kind 5 ≡ false → IsItem (set_item d)
    by_word extra.Raw is ea eb = said_raw d fits (no_word d.kind is fine.type_fits ea eb)
    by_word x is ea eb =
        let e = word_kind x d.kind is (λ h. cc) in
        let n = long_of _ e in
        named _ e (bytes_of _ e, record { body = d.body; whole = refl; fills = omega (arith, n) }, refl)

    at : (a b : Bool) → eqb d.kind 4 ≡ a → eqb d.kind 5 ≡ b → IsItem (set_item d)
    at true b ea eb =
        let e = eqb-true d.kind 4 ea in
        let n = long_of 4 e in
        named 4 e (bytes_of 4 e, record { body = d.body; whole = refl; fills = omega (arith, n) }, refl)
    at false true ea eb =
        let e = eqb-true d.kind 5 eb in
        let n = long_of 5 e in
        named 5 e (bytes_of 5 e, record { body = d.body; whole = refl; fills = omega (arith, n) }, refl)
    at false false ea eb = by_word (extra_word d.kind) refl ea eb

said_all : (s : Bool) (ds : List Descriptor) → AreBytes (flat_map descriptor_bytes ds) → AllFine s ds → All (map set_item ds)
said_all s [] fits fine = tt
said_all s (d ∷ ds) fits fine =
    (said_later s d (bytes_before (descriptor_bytes d) (flat_map descriptor_bytes ds) fits) fine.0, said_all (s || is_interface d) ds (bytes_behind (descriptor_bytes d) (flat_map descriptor_bytes ds) fits) fine.1)

said_first : (c : Configuration) (total : ℕ) → AreBytes (descriptor_bytes (configuration_descriptor c total)) → IsItem (set_item (configuration_descriptor c 0))
said_first c total fits = by_kind c.kind refl (omega arith) (omega arith)
  where
    by_kind : (k : SetKind) → c.kind ≡ k → 2 + length (configuration_descriptor c 0).body ≡ 1 + 3 + length (fields_bytes configuration_fields c ++ c.tail)
        → size_of (widths configuration_fields) ≤ length (fields_bytes configuration_fields c ++ c.tail) → IsItem (set_item (configuration_descriptor c 0))
    by_kind kinds.Configuration e count few =
        subst (λ (x : SetKind). IsItem (set_item (configuration_descriptor (record c { kind = x }) 0))) (sym e) (
          (fits.0, (omega arith, (omega arith, (omega arith, fits.1.1.1.1)))),
          record { body = fields_bytes configuration_fields c ++ c.tail; whole = ap (λ (n : ℕ). n ∷ 2 ∷ 0 ∷ 0 ∷ fields_bytes configuration_fields c ++ c.tail) count; fills = few },
          refl,
        )
    by_kind kinds.OtherSpeed e count few =
        subst (λ (x : SetKind). IsItem (set_item (configuration_descriptor (record c { kind = x }) 0))) (sym e) (
          (fits.0, (omega arith, (omega arith, (omega arith, fits.1.1.1.1)))),
          record { body = fields_bytes configuration_fields c ++ c.tail; whole = ap (λ (n : ℕ). n ∷ 7 ∷ 0 ∷ 0 ∷ fields_bytes configuration_fields c ++ c.tail) count; fills = few },
          refl,
        )

-- what is so of sets with bytes
record Said (cs : List Configuration) : Type 0 where
  pub said : All (flat_map set_items cs)
  pub raws : list_any has_typed_raw cs ≡ false
  pub over : list_any is_over cs ≡ false

sets_said : (cs : List Configuration) → AreBytes (sets_bytes cs) → list_any has_no_layout cs ≡ false → Said cs
unfolding whole_set
sets_said [] fits passes = record { said = tt; raws = refl; over = refl }
sets_said (c ∷ cs) fits passes =
    let q = or_parts (has_no_layout c) (list_any has_no_layout cs) passes in
    let long = no_some (has_long_descriptor c) encoding.Tail _ q.0 in
    let typed = no_some (has_typed_raw c) encoding.RawKind _ long.1 in
    let over = no_some (ltb 65535 (set_length c)) encoding.TooLong None typed.1 in
    let bytes = bytes_before (set_bytes c (set_length c)) (sets_bytes cs) fits in
    let first = descriptor_bytes (configuration_descriptor c (set_length c)) in
    let later = flat_map descriptor_bytes (later_descriptors c) in
    let set : All (set_items c) = (said_first c (set_length c) (bytes_before first later bytes), said_all false (later_descriptors c) (bytes_behind first later bytes) (fine_items c typed.0)) in
    let more = sets_said cs (bytes_behind (set_bytes c (set_length c)) (sets_bytes cs) fits) q.1 in
    record {
      said = all_append (set_items c) (flat_map set_items cs) set more.said;
      raws = or_from (has_typed_raw c) (list_any has_typed_raw cs) typed.0 more.raws;
      over = or_from (is_over c) (list_any is_over cs) over.0 more.over;
    }

texts_said : (us : List (List ℕ)) → AreBytes (each_string_bytes us) → All (map string us)
texts_said [] h = tt
texts_said (u ∷ us) h = (bytes_before (units_bytes u) (each_string_bytes us) h, texts_said us (bytes_behind (units_bytes u) (each_string_bytes us) h))

not_not : (b : Bool) → not b ≡ false → b ≡ true
not_not true e = refl
not_not false e = cc

none_wrong : (a b c d : Bool) → (a || b || c || d) ≡ false → (a ≡ false) × (b ≡ false) × (c ≡ false) × (d ≡ false)
none_wrong true b c d e = cc
none_wrong false true c d e = cc
none_wrong false false true d e = cc
none_wrong false false false true e = cc
none_wrong false false false false e = (refl, refl, refl, refl)

right_strings : (count : ℕ) (s : Strings) → are_wrong_strings count (Some s) ≡ false → StringsFollow count s
right_strings count s e =
    let n = none_wrong (count == 0) (length s.languages == 0) (has_long_string (Some s)) (not (length s.texts == length s.languages * count)) e in
    let named = eqb-false count 0 n.0 in
    let spoken = eqb-false (length s.languages) 0 n.1 in
    let all : length s.texts ≡ length s.languages * count = eqb-true (length s.texts) (length s.languages * count) (not_not _ n.3) in
    record { named = omega (arith, named); spoken = omega (arith, spoken); few = omega (arith, all); short = n.2 }

strings_said : (count : ℕ) (s : Option Strings) → AreBytes (strings_bytes s) → are_wrong_strings count s ≡ false → All (strings_items s)
strings_said count None h e = tt
strings_said count (Some s) h e =
    let some = (right_strings count s e).spoken in
    let present : s.languages ≢ [] = λ none. let z = ap length none in absurd (omega (arith, some, z)) in
    ((bytes_before (units_bytes s.languages) (each_string_bytes s.texts) h, present), texts_said s.texts (bytes_behind (units_bytes s.languages) (each_string_bytes s.texts) h))

-- where all sets are there, and the strings are right
order_parts : (f : DescriptorFile) (o : Option Other) (s : Option Strings) → length f.sets ≡ f.device.configurations → is_other_miscounted o ≡ false
    → are_wrong_strings (length (named_indices f)) s ≡ false → IsInOrder f o s
order_parts f None None all counts texts = omega (arith, all)
order_parts f None (Some s) all counts texts = (all, right_strings (length (named_indices f)) s texts)
order_parts f (Some o) None all counts texts =
    let others : length o.sets ≡ o.qualifier.configurations = eqb-true (length o.sets) o.qualifier.configurations (not_not _ counts) in
    let few : length o.sets ≤ o.qualifier.configurations = omega (arith, others) in
    (all, few)
order_parts f (Some o) (Some s) all counts texts =
    (all, eqb-true (length o.sets) o.qualifier.configurations (not_not _ counts), right_strings (length (named_indices f)) s texts)

-- a file with bytes is a file so far
pub file_begun : (f : DescriptorFile) (b : List ℕ) → File f b → IsBegun (Some f)
file_begun f b file =
    let fits : AreBytes (file_bytes f) = subst AreBytes file.bytes file.fits in
    let front = device_bytes f.device ++ sets_bytes f.sets in
    let p = bytes_before (front ++ other_bytes f.other) (strings_bytes f.strings) fits in
    let q = bytes_before front (other_bytes f.other) p in
    let l = or_parts (list_any has_no_layout f.sets) (list_any has_no_layout (other_sets f.other)) file.layouts in
    let c = or_parts (not (length f.sets == f.device.configurations)) (is_other_miscounted f.other) file.counts in
    let main = sets_said f.sets (bytes_behind (device_bytes f.device) (sets_bytes f.sets) q) l.0 in
    let other = of_other f.other (bytes_behind front (other_bytes f.other) p) l.1 in
    let items = fields words.Device (device_bytes f.device) ∷ flat_map set_items f.sets in (
      record {
        said = all_append (items ++ other_items f.other) (strings_items f.strings)
            (all_append items (other_items f.other) ((bytes_before (device_bytes f.device) (sets_bytes f.sets) q, record { body = fields_bytes device_fields f.device; whole = refl; fills = refl }, refl), main.said) other.0)
            (strings_said (length (named_indices f)) f.strings (bytes_behind (front ++ other_bytes f.other) (strings_bytes f.strings) fits) file.texts);
        raws = or_from _ _ main.raws other.1;
        kinds = file.kinds;
        order = order_parts f f.other f.strings (eqb-true (length f.sets) f.device.configurations (not_not _ c.0)) c.1 file.texts;
      },
      or_from _ _ main.over other.2,
    )
  where
    of_other : (o : Option Other) → AreBytes (other_bytes o) → list_any has_no_layout (other_sets o) ≡ false
        → All (other_items o) × (list_any has_typed_raw (other_sets o) ≡ false) × (list_any is_over (other_sets o) ≡ false)
    of_other None h passes = (tt, refl, refl)
    of_other (Some o) h passes =
        let s = sets_said o.sets (bytes_behind (qualifier_bytes o.qualifier) (sets_bytes o.sets) h) passes in
        (((bytes_before (qualifier_bytes o.qualifier) (sets_bytes o.sets) h, record { body = fields_bytes qualifier_fields o.qualifier; whole = refl; fills = refl }, refl), s.said), s.raws, s.over)

nothing_reported : (a b c d : Bool) → a ≡ false → b ≡ false → c ≡ false → d ≡ false
    → is_none (cond a (Some writes.Count) (cond b (Some writes.Kind) (cond c (Some writes.Layout) (cond d (Some writes.Texts) None)))) ≡ true
nothing_reported a b c d ea eb ec ed = rw (ea, eb, ec, ed) refl

-- and a whole one
pub file_whole : (f : DescriptorFile) (b : List ℕ) → File f b → is_whole (Some f) ≡ true
file_whole f b file =
    nothing_reported (has_wrong_count f) (has_wrong_kind f) (has_wrong_layout f) (are_wrong_strings (length (named_indices f)) f.strings) file.counts file.kinds file.layouts file.texts
