-- A file of which one set is let go is one in order, and looks the same.
use Rattle.std.proofs.Common.{◌≡◌, inl, inr, ℕ, zero, suc, ◌+◌, ◌*◌, ◌<◌, ◌≤◌, ◌==◌, ◌||◌, ◌&&◌, not, Bool, true, false, cond, List, [], ◌∷◌, ◌++◌, map, Option, Some, None, length, refl, ap, sym, subst, ◌∙◌, append-nil, length-append, arith}
use Rattle.std.specs.Prelude.{filter}
use Rattle.std.specs.List.{flat_map, list_any, range_with_len}
use Rattle.std.proofs.lemmas.Bool.{le-ltb, or_from, or_parts}
use Rattle.std.proofs.lemmas.List.FromFn.{length-range_with_len}
use Rattle.usb_fields.specs.declared.device.DeviceDescriptor.{DeviceDescriptor}
use Rattle.usb_fields.specs.Bytes.{AreBytes}
use Rattle.usb_set.specs.declared.tree.Configuration.{Configuration}
use Rattle.usb_set.specs.declared.tree.SetKind.{SetKind}
use Rattle.usb_set.specs.Descriptors.{configuration_descriptor, descriptor_bytes, interface_descriptor}
use Rattle.usb_set.specs.Layout.{has_typed_raw, is_typed_raw, set_length, setting_descriptors}
use Rattle.usb_set.specs.Owners.{association_in, setting_extras}
use Rattle.usb_set.proofs.Growth.{flat_map-snoc, list_any-snoc}
use Rattle.usb_file_data.specs.declared.file.DescriptorFile.{DescriptorFile}
use Rattle.usb_file_data.specs.declared.file.Other.{Other}
use Rattle.usb_file_data.specs.declared.file.Strings.{Strings}
use Rattle.usb_file_data.specs.File.{association_string_index, interface_string_index, is_other_kind, named_among, named_indices, set_string_indices, string_indices}
use Rattle.usb_file_data.proofs.Lists.{length-push}
use Rattle.usb_listing.specs.Says.{IsItem}
use Rattle.usb_listing.specs.Order.{IsOrdered, has_over, is_over, set_item, set_items}
use Rattle.usb_listing.specs.Listings.{IsBegun}
use Rattle.usb_listing.specs.inside.Thinning.{Thins, naming, thin, with_open, without}
use Rattle.usb_listing.proofs.PartLemmas.{All, Part, all_append, all_split, any_parts, closed, kind_of, made, opened}
use Rattle.usb_listing.proofs.LikeLemmas.{Like, has, has_filter, has_named, like_open, like_refl, named_more, over_more}

-- ---- settings that name a string alone

no_extras : (ns : List ℕ) → flat_map setting_extras (map naming ns) ≡ []
no_extras [] = refl
no_extras (n ∷ ns) = no_extras ns

texts_are : (ns : List ℕ) → map interface_string_index (map naming ns) ≡ ns
texts_are [] = refl
texts_are (n ∷ ns) = ap (λ (xs : List ℕ). n ∷ xs) (texts_are ns)

said_naming : (ns : List ℕ) → AreBytes ns → All (map set_item (flat_map setting_descriptors (map naming ns)))
said_naming [] h = tt
said_naming (n ∷ ns) h = (item n h.0, said_naming ns h.1)
  where
    item : (n : ℕ) → n < 256 → IsItem (set_item (interface_descriptor (naming n)))
    item n lt = (
      (omega arith, (omega arith, (omega arith, (omega arith, (omega arith, (omega arith, (omega arith, (omega arith, (lt, tt))))))))),
      record { body = 0 ∷ 0 ∷ 0 ∷ 0 ∷ 0 ∷ 0 ∷ n ∷ []; whole = refl; fills = omega arith },
      refl,
    )

long_naming : (ns : List ℕ) → length (flat_map descriptor_bytes (flat_map setting_descriptors (map naming ns))) ≡ 9 * length ns
long_naming [] = refl
long_naming (n ∷ ns) = let more = long_naming ns in omega (arith, more)

-- ---- what is kept of a set

-- what is so of a set of a part
pub record SetFits (kind : SetKind) (c : Configuration) : Type 0 where
  pub said : All (set_items c)
  pub raws : has_typed_raw c ≡ false
  pub kind_is : is_other_kind kind c ≡ false

thin_fits : (kind : SetKind) (c : Configuration) (ns : List ℕ) → SetFits kind c → AreBytes ns → SetFits kind (thin ns c)
thin_fits kind c ns h bytes = record { said = (h.said.0, said_naming ns bytes); raws = ap (list_any is_typed_raw) (no_extras ns); kind_is = h.kind_is }

thin_short : (kind : SetKind) (c : Configuration) (ns : List ℕ) → SetFits kind c → length ns ≤ 255 → is_over (thin ns c) ≡ false
thin_short kind c ns h few =
    let head = h.said.0.0.0 in
    let tail = long_naming ns in
    let parts : set_length (thin ns c) ≡ length (descriptor_bytes (configuration_descriptor c 0)) + length (flat_map descriptor_bytes (flat_map setting_descriptors (map naming ns))) =
    length-append (descriptor_bytes (configuration_descriptor c 0)) (flat_map descriptor_bytes (flat_map setting_descriptors (map naming ns))) in
    le-ltb 65535 (set_length (thin ns c)) (omega (arith, head, tail, parts, few))

thin_names : (c : Configuration) (ns : List ℕ) (n : ℕ) → has n (set_string_indices (thin ns c)) ≡ ((c.text == n) || has n ns)
thin_names c ns n =
    let settings = texts_are ns in
    let extras = no_extras ns in
    let all : set_string_indices (thin ns c) ≡ c.text ∷ (ns ++ []) = λ i. c.text ∷ settings i ++ map association_string_index (flat_map association_in (extras i)) in
    ap (has n) (all ∙ ap (λ (xs : List ℕ). c.text ∷ xs) (append-nil ns))

-- ---- which strings are named nowhere else

range_bytes : (a k : ℕ) → a + k ≤ 256 → AreBytes (range_with_len a k)
range_bytes a zero few = tt
range_bytes a (suc k) few = (omega (arith, few), range_bytes (a + 1) k (omega (arith, few)))

filter_bytes : (q : ℕ → Bool) (xs : List ℕ) → AreBytes xs → AreBytes (filter q xs)
filter_bytes q [] h = tt
filter_bytes q (x ∷ xs) h = cases (filter_bytes q xs h.1) (q x)
  where
    cases : AreBytes (filter q xs) → (b : Bool) → AreBytes (cond b (x ∷ filter q xs) (filter q xs))
    cases more true = (h.0, more)
    cases more false = more

filter_few : (q : ℕ → Bool) (xs : List ℕ) → length (filter q xs) ≤ length xs
filter_few q [] = omega arith
filter_few q (x ∷ xs) = cases (filter_few q xs) (q x)
  where
    cases : length (filter q xs) ≤ length xs → (b : Bool) → length (cond b (x ∷ filter q xs) (filter q xs)) ≤ suc (length xs)
    cases few true = omega (arith, few)
    cases few false = omega (arith, few)

without_bytes : (xs ys : List ℕ) → AreBytes (without (named_among xs) ys)
unfolding named_among
without_bytes xs ys =
    filter_bytes (λ n. not (list_any (λ m. m == n) ys)) (named_among xs) (filter_bytes (λ n. list_any (λ index. index == n) xs) (range_with_len 1 255) (range_bytes 1 255 (omega arith)))

without_few : (xs ys : List ℕ) → length (without (named_among xs) ys) ≤ 255
unfolding named_among
without_few xs ys =
    let one = filter_few (λ n. not (list_any (λ m. m == n) ys)) (named_among xs) in
    let two = filter_few (λ n. list_any (λ index. index == n) xs) (range_with_len 1 255) in
    let all = length-range_with_len 1 255 in
    omega (arith, one, two, all)

or_others : (a t r : Bool) → (a || (t || ((a || (t || r)) && not a))) ≡ (a || (t || r))
or_others true t r = refl
or_others false true r = refl
or_others false false true = refl
or_others false false false = refl

-- ---- a set of a part

part_split : (kind : SetKind) (count : ℕ) (cs : List Configuration) (c : Configuration) → Part kind count (cs ++ c ∷ []) → Part kind count cs × SetFits kind c × (length cs < count)
part_split kind count cs c p =
    let said = all_split (flat_map set_items cs) (set_items c) (subst All (flat_map-snoc set_items cs c) p.said) in
    let raws = any_parts has_typed_raw cs c p.raws in
    let ks = any_parts (is_other_kind kind) cs c p.kinds in
    let few = p.few in
    let more = length-push cs c in (
      record { said = said.0; raws = raws.0; kinds = ks.0; few = omega (arith, few, more) },
      record { said = said.1; raws = raws.1; kind_is = ks.1 },
      omega (arith, few, more),
    )

part_join : (kind : SetKind) (count : ℕ) (cs : List Configuration) (c : Configuration) → Part kind count cs → SetFits kind c → length cs < count → Part kind count (cs ++ c ∷ [])
part_join kind count cs c p s lt = record {
  said = subst All (sym (flat_map-snoc set_items cs c)) (all_append (flat_map set_items cs) (set_items c) p.said s.said);
  raws = list_any-snoc has_typed_raw cs c p.raws s.raws;
  kinds = list_any-snoc (is_other_kind kind) cs c p.kinds s.kind_is;
  few = (let more = length-push cs c in omega (arith, lt, more));
}

part_thin : (kind : SetKind) (count : ℕ) (cs : List Configuration) (x l : Configuration) (ns : List ℕ) → AreBytes ns → Part kind count ((cs ++ x ∷ []) ++ l ∷ [])
    → Part kind count ((cs ++ thin ns x ∷ []) ++ l ∷ []) × SetFits kind x
part_thin kind count cs x l ns bytes p =
    let one = part_split kind count (cs ++ x ∷ []) l p in
    let two = part_split kind count cs x one.0 in
    let lt = one.2 in
    let a = length-push cs x in
    let b = length-push cs (thin ns x) in
    (part_join kind count (cs ++ thin ns x ∷ []) l (part_join kind count cs (thin ns x) two.0 (thin_fits kind x ns two.1 bytes) two.2) one.1 (omega (arith, lt, a, b)), two.1)

ordered_thin : (d : DeviceDescriptor) (ss : List Configuration) (o : Option Other) (x l : Configuration) (ns : List ℕ) → AreBytes ns → IsOrdered (with_open l (with_open x (made d ss o None)))
    → IsOrdered (with_open l (with_open (thin ns x) (made d ss o None))) × SetFits (kind_of o) x
ordered_thin d ss None x l ns bytes h =
    let p = opened d ((ss ++ x ∷ []) ++ l ∷ []) None h in
    let q = part_thin (kind_of None) d.configurations ss x l ns bytes p.1 in
    (closed d ss None ((ss ++ thin ns x ∷ []) ++ l ∷ []) (record { said = p.0.said; before = tt }) q.0, q.1)
ordered_thin d ss (Some o) x l ns bytes h =
    let p = opened d ss (Some (record o { sets = (o.sets ++ x ∷ []) ++ l ∷ [] })) h in
    let q = part_thin (kind_of (Some o)) o.qualifier.configurations o.sets x l ns bytes p.1 in
    (closed d ss (Some o) ((o.sets ++ thin ns x ∷ []) ++ l ∷ []) (record { said = p.0.said; before = p.0.before }) q.0, q.1)

-- ---- the last set but one, let go

over_two : (f : DescriptorFile) (x l : Configuration) → has_over (with_open l (with_open x f)) ≡ ((has_over f || is_over x) || is_over l)
over_two f x l =
    let g = with_open x f in
    over_more g.device g.sets g.other g.strings l ∙ ap (λ (b : Bool). b || is_over l) (over_more f.device f.sets f.other f.strings x)

-- what is so of a file of which the last set but one was let go
pub record LetGo (front thinned : DescriptorFile) (l : Configuration) : Type 0 where
  pub like : Like front thinned
  pub begun : IsBegun (Some (with_open l thinned))

pub strings_open : (d : DeviceDescriptor) (ss : List Configuration) (o : Option Other) (s : Option Strings) (c : Configuration) → (with_open c (made d ss o s)).strings ≡ s
strings_open d ss None s c = refl
strings_open d ss (Some o) s c = refl

names_thin : (f : DescriptorFile) (x : Configuration) (n : ℕ) → 1 ≤ n → n < 256
    → has n (string_indices (with_open x f)) ≡ has n (string_indices (with_open (thin (without (named_indices (with_open x f)) (named_indices f)) x) f))
names_thin f x n few lt =
    let all = named_indices (with_open x f) in
    let others = named_indices f in
    let ns = without all others in
    let a = has n (string_indices f) in
    let own : has n all ≡ (a || has n (set_string_indices x)) = has_named (string_indices (with_open x f)) n few lt ∙ named_more f.device f.sets f.other f.strings x n in
    let rest : has n others ≡ a = has_named (string_indices f) n few lt in
    let kept : has n ns ≡ ((a || has n (set_string_indices x)) && not a) = has_filter (λ k. not (has k others)) n all ∙ (λ i. own i && not (rest i)) in
    named_more f.device f.sets f.other f.strings x n
    ∙ sym (or_others a (x.text == n) _)
    ∙ ap (λ (b : Bool). a || ((x.text == n) || b)) (sym kept)
    ∙ ap (λ (b : Bool). a || b) (sym (thin_names x ns n))
    ∙ sym (named_more f.device f.sets f.other f.strings (thin ns x) n)

let_go_of : (f : DescriptorFile) (x l : Configuration) → f.strings ≡ None → IsBegun (Some (with_open l (with_open x f)))
    → LetGo (with_open x f) (with_open (thin (without (named_indices (with_open x f)) (named_indices f)) x) f) l
let_go_of f x l none begun =
    let ns = without (named_indices (with_open x f)) (named_indices f) in
    let start : IsOrdered (with_open l (with_open x (made f.device f.sets f.other None))) =
    subst (λ (s : Option Strings). IsOrdered (with_open l (with_open x (made f.device f.sets f.other s)))) none begun.0 in
    let t = ordered_thin f.device f.sets f.other x l ns (without_bytes (string_indices (with_open x f)) (named_indices f)) start in
    let short = thin_short (kind_of f.other) x ns t.1 (without_few (string_indices (with_open x f)) (named_indices f)) in
    let over = or_parts (has_over f || is_over x) (is_over l) (sym (over_two f x l) ∙ begun.1) in
    let both = or_parts (has_over f) (is_over x) over.0 in
    let old_over : has_over (with_open x f) ≡ false = over_more f.device f.sets f.other f.strings x ∙ or_from _ _ both.0 both.1 in
    let new_over : has_over (with_open (thin ns x) f) ≡ false = over_more f.device f.sets f.other f.strings (thin ns x) ∙ or_from _ _ both.0 short in
    record {
      like = like_open f.device f.device f.sets f.sets f.other f.other f.strings f.strings x (thin ns x) (like_refl f) (old_over ∙ sym new_over) (λ n few lt. names_thin f x n few lt);
      begun = (
        subst (λ (s : Option Strings). IsOrdered (with_open l (with_open (thin ns x) (made f.device f.sets f.other s)))) (sym none) t.0,
        over_two f (thin ns x) l ∙ or_from _ _ (or_from _ _ both.0 short) over.1,
      );
    }

pub let_go : (front thinned : DescriptorFile) (l : Configuration) → Thins front thinned → front.strings ≡ None → IsBegun (Some (with_open l front)) → LetGo front thinned l
let_go front thinned l (inl same) none begun =
    record { like = subst (Like front) (sym same) (like_refl front); begun = subst (λ (f : DescriptorFile). IsBegun (Some (with_open l f))) (sym same) begun }
let_go front thinned l (inr t) none begun =
    let f = t.front in
    let x = t.set in
    let is_none : f.strings ≡ None = sym (strings_open f.device f.sets f.other f.strings x) ∙ ap (λ (g : DescriptorFile). g.strings) (sym t.old_is) ∙ none in
    let go = let_go_of f x l is_none (subst (λ (g : DescriptorFile). IsBegun (Some (with_open l g))) t.old_is begun) in
    let new : thinned ≡ with_open (thin (without (named_indices (with_open x f)) (named_indices f)) x) f =
    t.new_is ∙ ap (λ (g : DescriptorFile). with_open (thin (without (named_indices g) (named_indices f)) x) f) t.old_is in
    subst (λ (g : DescriptorFile). LetGo g thinned l) (sym t.old_is) (subst (λ (g : DescriptorFile). LetGo (with_open x f) g l) (sym new) go)
