-- A file in order with one more descriptor, which may follow, is one.
use Rattle.std.proofs.Common.{◌≡◌, ◌≢◌, ℕ, ◌*◌, ◌<◌, ◌≤◌, ◌==◌, not, ltb, Bool, true, false, List, [], ◌∷◌, ◌++◌, Option, Some, None, length, get_or, refl, ap, sym, subst, ◌∙◌, append-nil, append_assoc, arith}
use Rattle.std.specs.List.{flat_map, list_any}
use Rattle.std.proofs.lemmas.Bool.{and_parts, eqb-false, eqb-true, le-ltb, ltb-true, or_from, or_parts}
use Rattle.usb_fields.specs.Bytes.{AreBytes}
use Rattle.usb_fields.proofs.ByteLemmas.{written_field}
use Rattle.usb_fields.specs.declared.device.DeviceDescriptor.{DeviceDescriptor}
use Rattle.usb_fields.specs.declared.qualifier.Qualifier.{Qualifier}
use Rattle.usb_fields.specs.Device.{device_bytes, qualifier_bytes}
use Rattle.usb_fields.specs.Units.{units_bytes}
use Rattle.usb_fields.proofs.Legal.{all_cells}
use Rattle.usb_set.specs.declared.tree.SetKind.{SetKind}
use Rattle.usb_set.specs.declared.tree.SetKind.TheVariants as kinds
use Rattle.usb_set.specs.declared.tree.Configuration.{Configuration}
use Rattle.usb_set.specs.Building.{has_setting}
use Rattle.usb_set.specs.Descriptors.{Descriptor, type_number}
use Rattle.usb_set.specs.Layout.{has_typed_raw}
use Rattle.usb_set.specs.inside.Reading.{configuration_of, with_last}
use Rattle.usb_set.proofs.Growth.{flat_map-snoc, list_any-snoc}
use Rattle.usb_set.proofs.Items.{two_bytes, with_last-snoc}
use Rattle.usb_file_data.specs.declared.file.DescriptorFile.{DescriptorFile}
use Rattle.usb_file_data.specs.declared.file.Other.{Other}
use Rattle.usb_file_data.specs.declared.file.Strings.{Strings}
use Rattle.usb_file_data.specs.File.{is_long_string, is_other_kind, named_indices}
use Rattle.usb_file_data.specs.Front.{AllSets}
use Rattle.usb_file_data.proofs.Lists.{length-push}
use Rattle.usb_listing.specs.declared.word.Word.{Word}
use Rattle.usb_listing.specs.declared.word.Word.TheVariants as words
use Rattle.usb_listing.specs.Says.{IsItem, Item, fields, item_word, languages, string}
use Rattle.usb_listing.specs.Order.{IsOneMore, IsOrdered, file_items, set_items, strings_items, type_word}
use Rattle.usb_listing.specs.inside.Drafts.{JoinsLast}
use Rattle.usb_listing.specs.inside.Growing.{declared, device_of, file_and, has_interface, joined_to, last_of, may_follow, may_follow_sets, may_stand, open_sets, qualifier_of, set_and}
use Rattle.usb_listing.specs.inside.Walking.{file_of, grown}
use Rattle.usb_listing.proofs.PartLemmas.{All, Ends, Grows, Part, all_append, any_parts, empty, ends, items_spoken, kind_of, last_push, made, opened, part_more, pushed, speaks, spoken, closed}
use Rattle.usb_listing.proofs.SetLemmas.{IsInner, Later, begins, joined, joins, later, lone_items, map-push, set_word}

-- ---- device descriptors and qualifiers of bytes

pub device_written : (b : List ℕ) → IsItem (fields words.Device b) → device_bytes (device_of b) ≡ b
unfolding device_of
device_written b is =
    let h = is.1 in
    let n = h.fills in
    let long : length b ≡ 18 = ap length h.whole ∙ omega (arith, n) in
    let size : get_or b 0 0 ≡ 18 = ap (λ (xs : List ℕ). get_or xs 0 0) h.whole ∙ omega (arith, n) in
    let kind : get_or b 1 0 ≡ 1 = ap (λ (xs : List ℕ). get_or xs 1 0) h.whole in
    let usb = written_field b 2 is.0 (omega arith) in
    let vendor = written_field b 8 is.0 (omega arith) in
    let product = written_field b 10 is.0 (omega arith) in
    let release = written_field b 12 is.0 (omega arith) in
    let cells = all_cells b 18 long in cc

pub qualifier_written : (b : List ℕ) → IsItem (fields words.Qualifier b) → qualifier_bytes (qualifier_of b) ≡ b
unfolding qualifier_of
qualifier_written b is =
    let h = is.1 in
    let n = h.fills in
    let long : length b ≡ 10 = ap length h.whole ∙ omega (arith, n) in
    let size : get_or b 0 0 ≡ 10 = ap (λ (xs : List ℕ). get_or xs 0 0) h.whole ∙ omega (arith, n) in
    let kind : get_or b 1 0 ≡ 6 = ap (λ (xs : List ℕ). get_or xs 1 0) h.whole in
    let usb = written_field b 2 is.0 (omega arith) in
    let cells = all_cells b 10 long in cc

pub device_read : (d : DeviceDescriptor) → device_of (device_bytes d) ≡ d
unfolding device_of
device_read d = λ i. record d { usb = two_bytes d.usb i; vendor = two_bytes d.vendor i; product = two_bytes d.product i; release = two_bytes d.release i }

pub qualifier_read : (q : Qualifier) → qualifier_of (qualifier_bytes q) ≡ q
unfolding qualifier_of
qualifier_read q = λ i. record q { usb = two_bytes q.usb i }

-- ---- the sets of a part

more_first : (kind : SetKind) (count : ℕ) (cs : List Configuration) (b : List ℕ) → Part kind count cs → length cs < count → IsItem (fields (set_word kind) b)
    → Grows kind count cs (cs ++ configuration_of b ∷ []) (fields (set_word kind) b)
more_first kind count cs b part below is =
    let g = begins kind b is in
    let items = flat_map-snoc set_items cs (configuration_of b) ∙ ap (λ (xs : List Item). flat_map set_items cs ++ xs) (lone_items kind b g) in
    record {
      part = record {
        said = subst All (sym items) (all_append (flat_map set_items cs) (fields (set_word kind) b ∷ []) part.said (is, tt));
        raws = list_any-snoc has_typed_raw cs (configuration_of b) part.raws refl;
        kinds = list_any-snoc (is_other_kind kind) cs (configuration_of b) part.kinds (ap (λ (k : SetKind). not (type_number k == type_number kind)) g.kind_is ∙ same kind);
        few = omega (arith, length-push cs (configuration_of b), below);
      };
      items = items;
    }
  where
    same : (k : SetKind) → not (type_number k == type_number k) ≡ false
    same kinds.Configuration = refl
    same kinds.OtherSpeed = refl

pub more_later : (kind : SetKind) (count : ℕ) (front : List Configuration) (c : Configuration) (w : Word) (b : List ℕ) → Part kind count (front ++ c ∷ []) → IsItem (fields w b)
    → (l : Later w b) → (l.kind ≡ 5 → has_setting c ≡ true) → Grows kind count (front ++ c ∷ []) (front ++ set_and b c ∷ []) (fields w b)
more_later kind count front c w b part is l belongs =
    let raws = any_parts has_typed_raw front c part.raws in
    let ks = any_parts (is_other_kind kind) front c part.kinds in
    let j = joined w b l c belongs raws.1 in
    let items =
    flat_map-snoc set_items front (set_and b c) ∙ ap (λ (xs : List Item). flat_map set_items front ++ xs) j.items
    ∙ sym (append_assoc (flat_map set_items front) (set_items c) (fields w b ∷ []))
    ∙ ap (λ (xs : List Item). xs ++ fields w b ∷ []) (sym (flat_map-snoc set_items front c)) in
    record {
      part = record {
        said = subst All (sym items) (all_append (flat_map set_items (front ++ c ∷ [])) (fields w b ∷ []) part.said (is, tt));
        raws = list_any-snoc has_typed_raw front (set_and b c) raws.0 j.raws;
        kinds = list_any-snoc (is_other_kind kind) front (set_and b c) ks.0 (ap (λ (x : Descriptor). not (x.kind == type_number kind)) j.head ∙ ks.1);
        few = omega (arith, length-push front (set_and b c), length-push front c, part.few);
      };
      items = items;
    }

-- where a later descriptor stands: behind the last set, which has an interface if it is an endpoint
pub record Place (w : Word) (b : List ℕ) (l : Later w b) (cs : List Configuration) : Type 0 where
  pub front : List Configuration
  pub set : Configuration
  pub is : cs ≡ front ++ set ∷ []
  pub belongs : l.kind ≡ 5 → has_setting set ≡ true

place_some : (w : Word) (b : List ℕ) (l : Later w b) (cs : List Configuration) → (l.kind ≡ 5 → ⊥) → not (length cs == 0) ≡ true → Place w b l cs
place_some w b l cs other may = cases (ends cs)
  where
    cases : Ends Configuration cs → Place w b l cs
    cases (empty e) = absurd (let none = sym (ap (λ (xs : List Configuration). not (length xs == 0)) e) ∙ may in cc)
    cases (pushed front c e) = record { front = front; set = c; is = e; belongs = λ h. absurd (other h) }

place_endpoint : (b : List ℕ) (l : Later words.Endpoint b) (cs : List Configuration) → has_interface (last_of cs) ≡ true → Place words.Endpoint b l cs
place_endpoint b l cs may = cases (ends cs)
  where
    cases : Ends Configuration cs → Place words.Endpoint b l cs
    cases (empty e) = absurd (let none = sym (ap (λ (xs : List Configuration). has_interface (last_of xs)) e) ∙ may in cc)
    cases (pushed front c e) =
        record { front = front; set = c; is = e; belongs = λ h. ap has_interface (sym (ap last_of e ∙ last_push front c)) ∙ may }

pub place : (w : Word) (b : List ℕ) (l : Later w b) (f : DescriptorFile) (o : Option Other) → IsInner w → may_follow_sets w f o ≡ true → Place w b l (open_sets f o)
place words.Interface b l f o inner may = place_some words.Interface b l (open_sets f o) (λ h. let e = sym l.word_is ∙ ap type_word h in cc) may
place (words.Extra x) b l f o inner may = place_some (words.Extra x) b l (open_sets f o) (λ h. let e = sym l.word_is ∙ ap type_word h in cc) may
place words.Endpoint b l f o inner may = place_endpoint b l (open_sets f o) may
place w b l f o inner may = absurd inner

pub joins_last : (w : Word) (b : List ℕ) (l : Later w b) (cs : List Configuration) → Place w b l cs → list_any has_typed_raw cs ≡ false → JoinsLast b cs
joins_last w b l cs p raws = subst (JoinsLast b) (sym p.is) (record {
  set = p.set;
  last = last_push p.front p.set;
  joins = joins w b l p.set p.belongs (any_parts has_typed_raw p.front p.set (subst (λ (xs : List Configuration). list_any has_typed_raw xs ≡ false) p.is raws)).1;
})

-- ---- a file with one more

abbrev OneMore : DescriptorFile → Item → Type 0
OneMore f item = IsOneMore (Some f) item (file_and item f)

-- a later descriptor joins the last set
pub joins_word : (w : Word) → IsInner w → (b : List ℕ) (f : DescriptorFile) → file_and (fields w b) f ≡ joined_to b f
unfolding file_and
joins_word words.Interface inner b f = refl
joins_word words.Endpoint inner b f = refl
joins_word (words.Extra x) inner b f = refl
joins_word w inner b f = absurd inner

inner_more : (d : DeviceDescriptor) (ss : List Configuration) (o : Option Other) (w : Word) (b : List ℕ) → IsOrdered (made d ss o None) → IsItem (fields w b) → IsInner w
    → may_follow_sets w (made d ss o None) o ≡ true → OneMore (made d ss o None) (fields w b)
inner_more d ss o w b h is inner may =
    let p = opened d ss o h in
    let l = later w b is inner in
    let cs = open_sets (made d ss o None) o in
    let at = place w b l (made d ss o None) o inner may in
    let n = declared (made d ss o None) o in
    let g = more_later (kind_of o) n at.front at.set w b (subst (Part (kind_of o) n) at.is p.1) is l at.belongs in
    let new : with_last (set_and b) cs ≡ at.front ++ set_and b at.set ∷ [] = ap (with_last (set_and b)) at.is ∙ with_last-snoc (set_and b) at.front at.set in
    let g2 : Grows (kind_of o) n cs (with_last (set_and b) cs) (fields w b) =
    subst (λ (xs : List Configuration). Grows (kind_of o) n cs xs (fields w b)) (sym new)
    (subst (λ (xs : List Configuration). Grows (kind_of o) n xs (at.front ++ set_and b at.set ∷ []) (fields w b)) (sym at.is) g) in
    subst (IsOneMore (Some (made d ss o None)) (fields w b)) (sym (joins_word w inner b (made d ss o None))) (part_more d ss o (with_last (set_and b) cs) (fields w b) p.0 g2)

qualifier_more : (d : DeviceDescriptor) (ss : List Configuration) (b : List ℕ) → IsOrdered (made d ss None None) → IsItem (fields words.Qualifier b) → length ss ≡ d.configurations
    → IsOneMore (Some (made d ss None None)) (fields words.Qualifier b) (made d ss (Some (record { qualifier = qualifier_of b; sets = [] })) None)
qualifier_more d ss b h is full =
    let p = opened d ss None h in
    let front = fields words.Device (device_bytes d) ∷ flat_map set_items ss in
    let o : Other = record { qualifier = qualifier_of b; sets = [] } in
    let q = qualifier_written b is in
    let item : IsItem (fields words.Qualifier (qualifier_bytes (qualifier_of b))) = subst (λ (xs : List ℕ). IsItem (fields words.Qualifier xs)) (sym q) is in
    let none : 0 ≤ o.qualifier.configurations = omega arith in
    record {
      ordered = closed d ss (Some o) [] (record { said = all_append front (fields words.Qualifier (qualifier_bytes (qualifier_of b)) ∷ []) (p.0.said.0, p.1.said) (item, tt); before = (p.1.raws, p.1.kinds, full) })
          (record { said = tt; raws = refl; kinds = refl; few = none });
      items = append-nil (front ++ fields words.Qualifier (qualifier_bytes (qualifier_of b)) ∷ [])
          ∙ ap (λ (xs : List ℕ). front ++ fields words.Qualifier xs ∷ []) q
          ∙ ap (λ (xs : List Item). xs ++ fields words.Qualifier b ∷ []) (sym (append-nil (front ++ []) ∙ append-nil front));
    }

fields_more : (d : DeviceDescriptor) (ss : List Configuration) (o : Option Other) (w : Word) (b : List ℕ) → IsOrdered (made d ss o None) → IsItem (fields w b)
    → may_follow_sets w (made d ss o None) o ≡ true → OneMore (made d ss o None) (fields w b)
unfolding file_and
fields_more d ss o words.Device b h is may = absurd (let no = may in cc)
fields_more d ss None words.Configuration b h is may =
    let p = opened d ss None h in part_more d ss None _ (fields words.Configuration b) p.0 (more_first kinds.Configuration d.configurations ss b p.1 (ltb-true _ _ may) is)
fields_more d ss (Some o) words.Configuration b h is may = absurd (let no = may in cc)
fields_more d ss None words.OtherSpeed b h is may = absurd (let no = may in cc)
fields_more d ss (Some o) words.OtherSpeed b h is may =
    let p = opened d ss (Some o) h in part_more d ss (Some o) _ (fields words.OtherSpeed b) p.0 (more_first kinds.OtherSpeed o.qualifier.configurations o.sets b p.1 (ltb-true _ _ may) is)
fields_more d ss o words.Interface b h is may = inner_more d ss o words.Interface b h is tt may
fields_more d ss o words.Endpoint b h is may = inner_more d ss o words.Endpoint b h is tt may
fields_more d ss o (words.Extra x) b h is may = inner_more d ss o (words.Extra x) b h is tt may
fields_more d ss None words.Qualifier b h is may = qualifier_more d ss b h is (eqb-true _ _ may)
fields_more d ss (Some o) words.Qualifier b h is may = absurd (let no = may in cc)
fields_more d ss o words.Languages b h is may = absurd is.1
fields_more d ss o words.String b h is may = absurd is.1

-- this many units fit a descriptor
pub units_few : (us : List ℕ) → AreBytes (units_bytes us) → is_long_string us ≡ false
units_few us fits = le-ltb 126 (length us) (let h = fits.0 in omega arith)

not_zero : (n : ℕ) → not (n == 0) ≡ true → 0 < n
not_zero n e = cases (n == 0) refl e
  where
    cases : (b : Bool) → (n == 0) ≡ b → not b ≡ true → 0 < n
    cases true eb e = cc
    cases false eb e = let some = eqb-false n 0 eb in omega (arith, some)

some_units : (us : List ℕ) → us ≢ [] → 0 < length us
some_units [] some = absurd (some refl)
some_units (u ∷ us) some = omega arith

languages_more : (d : DeviceDescriptor) (ss : List Configuration) (o : Option Other) (us : List ℕ) → IsOrdered (made d ss o None) → IsItem (languages us)
    → may_follow_sets words.Languages (made d ss o None) o ≡ true → OneMore (made d ss o None) (languages us)
unfolding file_and
languages_more d ss o us h is may =
    let m = and_parts _ _ may in
    let s : Strings = record { languages = us; texts = [] } in
    record {
      ordered = speaks d ss o s (record {
        before = h;
        all = all_sets o h (eqb-true _ _ m.0);
        follow = record { named = not_zero _ m.1; spoken = some_units us is.1; few = omega arith; short = or_from (is_long_string us) false (units_few us is.0) refl };
        said = (is, tt);
      });
      items = items_spoken d ss o s;
    }
  where
    all_sets : (o : Option Other) → IsOrdered (made d ss o None) → length (open_sets (made d ss o None) o) ≡ declared (made d ss o None) o → AllSets (made d ss o None) o
    all_sets None h e = e
    all_sets (Some o) h e = (h.order.0, e)

string_more : (d : DeviceDescriptor) (ss : List Configuration) (o : Option Other) (s : Strings) (us : List ℕ) → IsOrdered (made d ss o (Some s)) → IsItem (string us)
    → ltb (length s.texts) (length s.languages * length (named_indices (made d ss o (Some s)))) ≡ true → OneMore (made d ss o (Some s)) (string us)
unfolding file_and
string_more d ss o s us h is may =
    let p = spoken d ss o s h in
    let new : Strings = record s { texts = s.texts ++ us ∷ [] } in
    let below = ltb-true _ _ may in
    let long = or_parts (is_long_string s.languages) (list_any is_long_string s.texts) p.follow.short in
    let texts : strings_items (Some new) ≡ strings_items (Some s) ++ string us ∷ [] = ap (λ (xs : List Item). languages s.languages ∷ xs) (map-push string s.texts us) in
    record {
      ordered = speaks d ss o new (record {
        before = p.before;
        all = p.all;
        follow = record {
          named = p.follow.named;
          spoken = p.follow.spoken;
          few = omega (arith, length-push s.texts us, below);
          short = or_from _ _ long.0 (list_any-snoc is_long_string s.texts us long.1 (units_few us is));
        };
        said = subst All (sym texts) (all_append (strings_items (Some s)) (string us ∷ []) p.said (is, tt));
      });
      items = items_spoken d ss o new ∙ ap (λ (xs : List Item). file_items (made d ss o None) ++ xs) texts
          ∙ sym (append_assoc (file_items (made d ss o None)) (strings_items (Some s)) (string us ∷ []))
          ∙ ap (λ (xs : List Item). xs ++ string us ∷ []) (sym (items_spoken d ss o s));
    }

-- no fields follow the languages
pub no_string : (f : DescriptorFile) (s : Strings) (w : Word) (b : List ℕ) → IsItem (fields w b) → may_follow w f (Some s) ≡ true → ⊥
no_string f s words.String b is may = is.1
no_string f s w b is may = cc

file_more : (d : DeviceDescriptor) (ss : List Configuration) (o : Option Other) (s : Option Strings) (item : Item) → IsOrdered (made d ss o s) → IsItem item
    → may_follow (item_word item) (made d ss o s) s ≡ true → OneMore (made d ss o s) item
file_more d ss o None (fields w b) h is may = fields_more d ss o w b h is may
file_more d ss o None (languages us) h is may = languages_more d ss o us h is may
file_more d ss o None (string us) h is may = absurd (let no = may in cc)
file_more d ss o (Some s) (fields w b) h is may = absurd (no_string (made d ss o (Some s)) s w b is may)
file_more d ss o (Some s) (languages us) h is may = absurd (let no = may in cc)
file_more d ss o (Some s) (string us) h is may = string_more d ss o s us h is may

-- no line yet, or those of a file in order
abbrev pub AreOrdered : Option DescriptorFile → Type 0
AreOrdered None = Unit {0}
AreOrdered (Some f) = IsOrdered f

first_more : (w : Word) (b : List ℕ) → IsItem (fields w b) → may_stand None w ≡ true → IsOneMore None (fields w b) (file_of b)
first_more words.Device b is may =
    let whole = device_written b is in
    let none : 0 ≤ (device_of b).configurations = omega arith in
    record {
      ordered = record { said = (subst (λ (xs : List ℕ). IsItem (fields words.Device xs)) (sym whole) is, tt); raws = refl; kinds = refl; order = none };
      items = ap (λ (xs : List ℕ). fields words.Device xs ∷ []) whole;
    }
first_more w b is may = absurd (let no = may in cc)

-- a descriptor that may stand there makes a file in order
pub more : (s : Option DescriptorFile) (item : Item) → AreOrdered s → IsItem item → may_stand s (item_word item) ≡ true → IsOneMore s item (grown s item)
more None (fields w b) h is may = first_more w b is may
more None (languages us) h is may = absurd (let no = may in cc)
more None (string us) h is may = absurd (let no = may in cc)
more (Some f) item h is may = file_more f.device f.sets f.other f.strings item h is may
