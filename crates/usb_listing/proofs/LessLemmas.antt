-- A file in order without its last descriptor: another one with one descriptor more.
use Rattle.std.proofs.Common.{◌≡◌, ℕ, zero, suc, ◌+◌, ◌<◌, ◌≤◌, ◌==◌, ◌||◌, not, eqb, ltb, Bool, true, false, cond, List, [], ◌∷◌, ◌++◌, map, Option, Some, None, unwrap_or, length, drop, slice_index, refl, ap, sym, subst, ◌∙◌, length-append, arith}
use Rattle.std.specs.List.{AllByRecursion, flat_map, list_any}
use Rattle.std.proofs.Math.Dec.{eqb-suc-zero}
use Rattle.std.proofs.lemmas.Bool.{and_from, eq-eqb, eqb-true, le-ltb, lt-ltb, ltb-false, or_from, or_parts}
use Rattle.usb_fields.specs.declared.device.DeviceDescriptor.{DeviceDescriptor}
use Rattle.usb_fields.specs.Device.{device_bytes, qualifier_bytes}
use Rattle.usb_set.specs.declared.tree.SetKind.{SetKind}
use Rattle.usb_set.specs.declared.tree.SetKind.TheVariants as kinds
use Rattle.usb_set.specs.declared.tree.Configuration.{Configuration}
use Rattle.usb_set.specs.Building.{has_setting}
use Rattle.usb_set.specs.Descriptors.{Descriptor, configuration_descriptor, descriptor_bytes, type_number}
use Rattle.usb_set.specs.Layout.{FieldsFit, set_length, has_typed_raw, later_descriptors, set_descriptors}
use Rattle.usb_set.specs.Faults.{is_interface, is_set_type}
use Rattle.usb_set.specs.inside.Reading.{attach, configuration_of}
use Rattle.usb_set.proofs.Adding.{one_less, one_tree}
use Rattle.usb_set.proofs.Complete.{attached-in_setting}
use Rattle.usb_set.proofs.Growth.{attach-head, flat_map-snoc, later_descriptors-attach, typed-attach, list_any-snoc}
use Rattle.usb_set.proofs.Items.{bare, items_again, with_last-snoc}
use Rattle.usb_set.proofs.Layouts.{AllFine, Fine, configuration_again, fine_fault, fine_items}
use Rattle.usb_file_data.specs.declared.file.DescriptorFile.{DescriptorFile}
use Rattle.usb_file_data.specs.declared.file.Other.{Other}
use Rattle.usb_file_data.specs.declared.file.Strings.{Strings}
use Rattle.usb_file_data.specs.File.{is_long_string, is_other_kind}
use Rattle.usb_file_data.proofs.Lists.{length-push}
use Rattle.usb_listing.specs.declared.word.Word.{Word}
use Rattle.usb_listing.specs.Table.{extra_word}
use Rattle.usb_listing.specs.declared.word.Word.TheVariants as words
use Rattle.usb_listing.specs.Says.{IsItem, Item, fields, item_word, languages, string}
use Rattle.usb_listing.specs.Order.{IsOneMore, IsOrdered, MayStand, file_items, has_over, is_over, items_of, set_item, set_items, strings_items, type_word}
use Rattle.usb_listing.specs.inside.Growing.{declared, file_and, has_interface, joined_to, last_of, may_follow_sets, may_stand, open_sets, set_and, with_sets}
use Rattle.usb_listing.specs.inside.Walking.{grown}
use Rattle.usb_listing.proofs.MoreLemmas.{AreOrdered, device_read, joins_word, more, qualifier_read}
use Rattle.usb_listing.proofs.PartLemmas.{All, Ends, all_append, Spoken, all_split, any_parts, closed, empty, ends, kind_of, last_push, made, named_in, open_part, opened, over_here, over_open, pushed, same_sets, speaks, spoken}
use Rattle.usb_listing.proofs.SetLemmas.{IsInner, Later, descriptor, joined, later, map-push, set_and_is, set_word}

abbrev pub over_of : Option DescriptorFile → Bool
over_of None = false
over_of (Some f) = has_over f

pub record Less (f : DescriptorFile) : Type 0 where
  pub before : Option DescriptorFile
  pub item : Item
  pub ordered : AreOrdered before
  pub is_item : IsItem item
  pub may : may_stand before (item_word item) ≡ true
  pub grown_is : grown before item ≡ f
  pub over : has_over f ≡ false → over_of before ≡ false

-- ---- a set without its last descriptor

-- each descriptor of a set has bytes
fields_fit : (ds : List Descriptor) → All (map set_item ds) → AllByRecursion FieldsFit ds
fields_fit [] h = tt
fields_fit (d ∷ ds) h = ((h.0.0.1.0, h.0.0.1.1), fields_fit ds h.1)

-- the last of descriptors that have no fault
fine_last : (s : Bool) (ds : List Descriptor) (d : Descriptor) → AllFine s (ds ++ d ∷ []) → Fine (s || list_any is_interface ds) d
fine_last s [] d h = subst (λ (b : Bool). Fine b d) (none s) h.0
  where
    none : (b : Bool) → b ≡ (b || false)
    none true = refl
    none false = refl
fine_last s (x ∷ ds) d h = subst (λ (b : Bool). Fine b d) (assoc s (is_interface x) (list_any is_interface ds)) (fine_last (s || is_interface x) ds d h.1)
  where
    assoc : (a b c : Bool) → ((a || b) || c) ≡ (a || (b || c))
    assoc true b c = refl
    assoc false b c = refl

-- the word of a descriptor behind the first
inner_word : (kind : ℕ) → is_set_type kind ≡ false → IsInner (type_word kind)
inner_word kind e =
    let p = or_parts (eqb kind 2) (eqb kind 7) e in
    at (eqb kind 4) (eqb kind 5) refl refl p.0 p.1
  where
    at : (b c : Bool) → eqb kind 4 ≡ b → eqb kind 5 ≡ c → eqb kind 2 ≡ false → eqb kind 7 ≡ false → IsInner (type_word kind)
    at true c eb ec ea ed = rw (ea, eb) tt
    at false true eb ec ea ed = rw (ea, eb, ec) tt
    at false false eb ec ea ed = rw (ea, eb, ec, ed) tt

-- a set of more descriptors than the first is another one with one more
record SetLess (c : Configuration) (d : Descriptor) : Type 0 where
  pub before : Configuration
  pub items : set_items c ≡ set_items before ++ set_item d ∷ []
  pub raws : has_typed_raw before ≡ false
  pub head : configuration_descriptor before 0 ≡ configuration_descriptor c 0
  pub inner : IsInner (type_word d.kind)
  pub belongs : d.kind ≡ 5 → has_setting before ≡ true
  pub is : attach before d ≡ c

-- an untyped set has an interface exactly where one is among its descriptors
settings_of : (c : Configuration) → has_typed_raw c ≡ false → has_setting c ≡ list_any is_interface (later_descriptors c)
settings_of c raws = sym (ap has_setting (items_again c raws)) ∙ attached-in_setting (later_descriptors c) (bare c)

set_less : (c : Configuration) (ds : List Descriptor) (d : Descriptor) → has_typed_raw c ≡ false → All (set_items c) → later_descriptors c ≡ ds ++ d ∷ [] → SetLess c d
set_less c ds d raws said e =
    let less = one_less c ds d raws (fields_fit (set_descriptors c 0) said) e in
    let fine = fine_last false ds d (subst (AllFine false) e (fine_items c raws)) in
    let belongs : d.kind ≡ 5 → has_setting less.before ≡ true = λ h. settings_of less.before less.raws ∙ ap (list_any is_interface) less.later ∙ fine.belongs h in
    let room = 2 + length d.body in
    let shown = fine_fault room (has_setting less.before) d (record { type_fits = fine.type_fits; long = fine.long; belongs = belongs }) (omega arith) in
    let items : set_items c ≡ map set_item (configuration_descriptor c 0 ∷ ds) ++ set_item d ∷ [] =
    ap (map set_item) (ap (λ (xs : List Descriptor). configuration_descriptor c 0 ∷ xs) e) ∙ map-push set_item (configuration_descriptor c 0 ∷ ds) d in
    let bytes = (all_split (map set_item (configuration_descriptor c 0 ∷ ds)) (set_item d ∷ []) (subst All items said)).1.0.0 in
    record {
      before = less.before;
      items = items ∙ ap (λ (xs : List Item). xs ++ set_item d ∷ [])
          (ap (λ (x : Descriptor). set_item x ∷ map set_item ds) (sym (less.head 0)) ∙ ap (λ (xs : List Descriptor). set_item (configuration_descriptor less.before 0) ∷ map set_item xs) (sym less.later));
      raws = less.raws;
      head = less.head 0;
      inner = inner_word d.kind fine.type_fits;
      belongs = belongs;
      is = one_tree (attach less.before d) c (typed-attach less.before room d less.raws shown) raws (attach-head less.before d 0 ∙ less.head 0)
          (later_descriptors-attach less.before room d shown bytes.1.1 ∙ ap (λ (xs : List Descriptor). xs ++ d ∷ []) less.later ∙ sym e);
    }

-- ---- the sets of a part, with one descriptor less in the last of them

-- the first of a set alone
lone_set : (c : Configuration) → has_typed_raw c ≡ false → later_descriptors c ≡ [] → configuration_of (descriptor_bytes (configuration_descriptor c 0)) ≡ c
lone_set c raws none = configuration_again c 0 ∙ one_tree (bare c) c refl raws refl (sym none)

same_kind : (kind k : SetKind) → not (type_number k == type_number kind) ≡ false → k ≡ kind
same_kind kinds.Configuration kinds.Configuration e = refl
same_kind kinds.Configuration kinds.OtherSpeed e = cc
same_kind kinds.OtherSpeed kinds.Configuration e = cc
same_kind kinds.OtherSpeed kinds.OtherSpeed e = refl

type_is : (k : SetKind) → type_word (type_number k) ≡ set_word k
type_is kinds.Configuration = refl
type_is kinds.OtherSpeed = refl

any_last : (p : Configuration → Bool) (front : List Configuration) (c new : Configuration) → (p new ≡ false → p c ≡ false) → list_any p (front ++ new ∷ []) ≡ false → list_any p (front ++ c ∷ []) ≡ false
any_last p front c new less h = let parts = any_parts p front new h in list_any-snoc p front c parts.0 (less parts.1)

over_less : (b : Bool) (p q : Bool) → (q ≡ false → p ≡ false) → (b || q) ≡ false → (b || p) ≡ false
over_less true p q less h = cc
over_less false p q less h = less h

-- what a file is whose last descriptor is the first of a set
lone_less : (d : DeviceDescriptor) (ss : List Configuration) (o : Option Other) (front : List Configuration) (c : Configuration) → IsOrdered (made d ss o None)
    → open_sets (made d ss o None) o ≡ front ++ c ∷ [] → later_descriptors c ≡ [] → Less (made d ss o None)
unfolding file_and
lone_less d ss o front c h e none =
    let p = opened d ss o h in
    let part : open_part d ss o (front ++ c ∷ []) = subst (open_part d ss o) e p.1 in
    let raws = any_parts has_typed_raw front c part.raws in
    let ks = any_parts (is_other_kind (kind_of o)) front c part.kinds in
    let kind = same_kind (kind_of o) c.kind ks.1 in
    let said = all_split (flat_map set_items front) (set_items c) (subst All (flat_map-snoc set_items front c) part.said) in
    let b = descriptor_bytes (configuration_descriptor c 0) in
    let word : type_word (type_number c.kind) ≡ set_word (kind_of o) = ap (λ (k : SetKind). type_word (type_number k)) kind ∙ type_is (kind_of o) in
    let n = length-push front c in
    let m = part.few in
    let f = with_sets front (made d ss o None) o in
    let whole : with_sets (front ++ configuration_of b ∷ []) (made d ss o None) o ≡ made d ss o None =
    ap (λ (x : Configuration). with_sets (front ++ x ∷ []) (made d ss o None) o) (lone_set c raws.1 none)
    ∙ ap (λ (cs : List Configuration). with_sets cs (made d ss o None) o) (sym e) ∙ same_sets d ss o in
    record {
      before = Some f;
      item = fields (set_word (kind_of o)) b;
      ordered = closed d ss o front p.0 (record { said = said.0; raws = raws.0; kinds = ks.0; few = omega (arith, n, m) });
      is_item = subst (λ (w : Word). IsItem (fields w b)) word said.1.0;
      may = may_begin d ss o front (lt-ltb _ _ (omega (arith, n, m)));
      grown_is = begun_is d ss o front b ∙ whole;
      over = λ over. over_open d ss o front
          ∙ over_less _ _ _ (λ all. (any_parts is_over front c (sym (ap (list_any is_over) e) ∙ all)).0) (sym (over_here d ss o) ∙ over);
    }
  where
    may_begin : (d : DeviceDescriptor) (ss : List Configuration) (o : Option Other) (front : List Configuration) → ltb (length front) (declared (made d ss o None) o) ≡ true
        → may_stand (Some (with_sets front (made d ss o None) o)) (set_word (kind_of o)) ≡ true
    may_begin d ss None front below = below
    may_begin d ss (Some o) front below = below

    begun_is : (d : DeviceDescriptor) (ss : List Configuration) (o : Option Other) (front : List Configuration) (b : List ℕ)
        → file_and (fields (set_word (kind_of o)) b) (with_sets front (made d ss o None) o) ≡ with_sets (front ++ configuration_of b ∷ []) (made d ss o None) o
    begun_is d ss None front b = refl
    begun_is d ss (Some o) front b = refl

endpoint_kind : (kind : ℕ) → type_word kind ≡ words.Endpoint → kind ≡ 5
endpoint_kind kind e = at (eqb kind 2) (eqb kind 4) (eqb kind 5) (eqb kind 7) refl e
  where
    at : (a b c d : Bool) → eqb kind 5 ≡ c
        → cond a words.Configuration (cond b words.Interface (cond c words.Endpoint (cond d words.OtherSpeed (words.Extra (extra_word kind))))) ≡ words.Endpoint → kind ≡ 5
    at a b true d ec e = eqb-true kind 5 ec
    at true b false d ec e = cc
    at false true false d ec e = cc
    at false false false true ec e = cc
    at false false false false ec e = cc

some_push : (front : List Configuration) (c : Configuration) → not (length (front ++ c ∷ []) == 0) ≡ true
some_push [] c = refl
some_push (x ∷ front) c = ap not (eqb-suc-zero (length (front ++ c ∷ [])))

may_in : (w : Word) (b : List ℕ) (l : Later w b) (f : DescriptorFile) (o : Option Other) → IsInner w → (front : List Configuration) (c : Configuration) → open_sets f o ≡ front ++ c ∷ []
    → (l.kind ≡ 5 → has_setting c ≡ true) → may_follow_sets w f o ≡ true
may_in words.Interface b l f o inner front c e belongs = ap (λ (cs : List Configuration). not (length cs == 0)) e ∙ some_push front c
may_in (words.Extra x) b l f o inner front c e belongs = ap (λ (cs : List Configuration). not (length cs == 0)) e ∙ some_push front c
may_in words.Endpoint b l f o inner front c e belongs = ap has_interface (ap last_of e ∙ last_push front c) ∙ belongs (endpoint_kind l.kind l.word_is)
may_in w b l f o inner front c e belongs = absurd inner

-- and one whose last descriptor is a later one
inner_less : (d : DeviceDescriptor) (ss : List Configuration) (o : Option Other) (front : List Configuration) (c : Configuration) (ds : List Descriptor) (last : Descriptor)
    → IsOrdered (made d ss o None) → open_sets (made d ss o None) o ≡ front ++ c ∷ [] → later_descriptors c ≡ ds ++ last ∷ [] → Less (made d ss o None)
inner_less d ss o front c ds last h e more =
    let p = opened d ss o h in
    let part : open_part d ss o (front ++ c ∷ []) = subst (open_part d ss o) e p.1 in
    let raws = any_parts has_typed_raw front c part.raws in
    let ks = any_parts (is_other_kind (kind_of o)) front c part.kinds in
    let said = all_split (flat_map set_items front) (set_items c) (subst All (flat_map-snoc set_items front c) part.said) in
    let l = set_less c ds last raws.1 said.1 more in
    let own = all_split (set_items l.before) (set_item last ∷ []) (subst All l.items said.1) in
    let w = type_word last.kind in
    let b = descriptor_bytes last in
    let is_item : IsItem (fields w b) = own.1.0 in
    let later_is = later w b is_item l.inner in
    let n = length-push front c in
    let k = length-push front l.before in
    let m = part.few in
    let f = with_sets (front ++ l.before ∷ []) (made d ss o None) o in
    let new : set_and b l.before ≡ c = set_and_is w b later_is l.before ∙ ap (attach l.before) (same_descriptor last later_is) ∙ l.is in
    let longer = (joined w b later_is l.before (λ five. l.belongs (sym (ap (λ (x : Descriptor). x.kind) (same_descriptor last later_is)) ∙ five)) l.raws).count in
    let count : set_length c ≡ set_length l.before + length b = ap set_length (sym new) ∙ longer in
    let shorter : is_over c ≡ false → is_over l.before ≡ false = λ all. le-ltb 65535 (set_length l.before) (omega (arith, count, ltb-false _ _ all)) in
    let whole : with_sets (front ++ set_and b l.before ∷ []) (made d ss o None) o ≡ made d ss o None =
    ap (λ (x : Configuration). with_sets (front ++ x ∷ []) (made d ss o None) o) new
    ∙ ap (λ (cs : List Configuration). with_sets cs (made d ss o None) o) (sym e) ∙ same_sets d ss o in
    record {
      before = Some f;
      item = fields w b;
      ordered = closed d ss o (front ++ l.before ∷ []) p.0 (record {
        said = subst All (sym (flat_map-snoc set_items front l.before)) (all_append (flat_map set_items front) (set_items l.before) said.0 own.0);
        raws = list_any-snoc has_typed_raw front l.before raws.0 l.raws;
        kinds = list_any-snoc (is_other_kind (kind_of o)) front l.before ks.0 (ap (λ (x : Descriptor). not (x.kind == type_number (kind_of o))) l.head ∙ ks.1);
        few = omega (arith, n, k, m);
      });
      is_item = is_item;
      may = may_join w b later_is d ss o l.before l.inner (λ five. l.belongs (sym (ap (λ (x : Descriptor). x.kind) (same_descriptor last later_is)) ∙ five));
      grown_is = joins_word w l.inner b f ∙ joined_is d ss o l.before b ∙ whole;
      over = λ over. over_open d ss o (front ++ l.before ∷ [])
          ∙ over_less _ _ _ (λ all. any_last is_over front l.before c shorter (sym (ap (list_any is_over) e) ∙ all)) (sym (over_here d ss o) ∙ over);
    }
  where
    same_descriptor : (x : Descriptor) (l : Later (type_word x.kind) (descriptor_bytes x)) → descriptor l ≡ x
    same_descriptor x l = ap (λ (xs : List ℕ). record { kind = slice_index xs 1; body = drop 2 xs }) (sym l.is)

    may_join : (w : Word) (b : List ℕ) (l : Later w b) (d : DeviceDescriptor) (ss : List Configuration) (o : Option Other) (c : Configuration) → IsInner w
        → (l.kind ≡ 5 → has_setting c ≡ true) → may_stand (Some (with_sets (front ++ c ∷ []) (made d ss o None) o)) w ≡ true
    may_join w b l d ss None c inner belongs = may_in w b l (made d (front ++ c ∷ []) None None) None inner front c refl belongs
    may_join w b l d ss (Some o) c inner belongs = may_in w b l (with_sets (front ++ c ∷ []) (made d ss (Some o) None) (Some o)) (Some (record o { sets = front ++ c ∷ [] })) inner front c refl belongs

    joined_is : (d : DeviceDescriptor) (ss : List Configuration) (o : Option Other) (c : Configuration) (b : List ℕ)
        → joined_to b (with_sets (front ++ c ∷ []) (made d ss o None) o) ≡ with_sets (front ++ set_and b c ∷ []) (made d ss o None) o
    joined_is d ss None c b = ap (λ (cs : List Configuration). made d cs None None) (with_last-snoc (set_and b) front c)
    joined_is d ss (Some o) c b = ap (λ (cs : List Configuration). made d ss (Some (record o { sets = cs })) None) (with_last-snoc (set_and b) front c)

-- ---- a file

sets_less : (d : DeviceDescriptor) (ss : List Configuration) (o : Option Other) → IsOrdered (made d ss o None) → Less (made d ss o None)
unfolding file_and
sets_less d ss o h = cases (ends (open_sets (made d ss o None) o))
  where
    none : (o : Option Other) → IsOrdered (made d ss o None) → open_sets (made d ss o None) o ≡ [] → Less (made d ss o None)
    none None h e = record {
      before = None;
      item = fields words.Device (device_bytes d);
      ordered = tt;
      is_item = h.said.0;
      may = refl;
      grown_is = λ i. made (device_read d i) (sym e i) None None;
      over = λ over. refl;
    }
    none (Some o) h e =
        let p = opened d ss (Some o) h in
        let front = fields words.Device (device_bytes d) ∷ flat_map set_items ss in
        let q = fields words.Qualifier (qualifier_bytes o.qualifier) in
        let said = all_split front (q ∷ []) p.0.said in
        let full = p.0.before.2 in
        record {
          before = Some (made d ss None None);
          item = q;
          ordered = closed d ss None ss (record { said = (said.0.0, tt); before = tt }) (record { said = said.0.1; raws = p.0.before.0; kinds = p.0.before.1; few = omega (arith, full) });
          is_item = said.1.0;
          may = eq-eqb _ _ full;
          grown_is = qualified d ss o e;
          over = λ over. or_from _ _ (or_parts _ _ over).0 refl;
        }
      where
        qualified : (d : DeviceDescriptor) (ss : List Configuration) (o : Other) → o.sets ≡ [] → file_and (fields words.Qualifier (qualifier_bytes o.qualifier)) (made d ss None None) ≡ made d ss (Some o) None
        qualified d ss o e = λ i. made d ss (Some (record { qualifier = qualifier_read o.qualifier i; sets = sym e i })) None

    last : (front : List Configuration) (c : Configuration) → open_sets (made d ss o None) o ≡ front ++ c ∷ [] → Ends Descriptor (later_descriptors c) → Less (made d ss o None)
    last front c e (empty none) = lone_less d ss o front c h e none
    last front c e (pushed ds x more) = inner_less d ss o front c ds x h e more

    cases : Ends Configuration (open_sets (made d ss o None) o) → Less (made d ss o None)
    cases (empty e) = none o h e
    cases (pushed front c e) = last front c e (ends (later_descriptors c))

over_strings : (d : DeviceDescriptor) (ss : List Configuration) (o : Option Other) (s t : Option Strings) → has_over (made d ss o s) ≡ false → has_over (made d ss o t) ≡ false
over_strings d ss o s t over = over

some_named : (n : ℕ) → 0 < n → not (n == 0) ≡ true
some_named (suc n) lt = ap not (eqb-suc-zero n)
some_named zero lt = absurd (omega arith)

strings_less : (d : DeviceDescriptor) (ss : List Configuration) (o : Option Other) (s : Strings) → IsOrdered (made d ss o (Some s)) → Less (made d ss o (Some s))
unfolding file_and
strings_less d ss o s h = cases (ends s.texts)
  where
    none : s.texts ≡ [] → Less (made d ss o (Some s))
    none e =
        let p = spoken d ss o s h in
        record {
          before = Some (made d ss o None);
          item = languages s.languages;
          ordered = p.before;
          is_item = p.said.0;
          may = may_speak d ss o p;
          grown_is = first d ss o e;
          over = over_strings d ss o (Some s) None;
        }
      where
        may_speak : (d : DeviceDescriptor) (ss : List Configuration) (o : Option Other) → Spoken d ss o s → may_follow_sets words.Languages (made d ss o None) o ≡ true
        may_speak d ss None p = and_from _ _ (eq-eqb _ _ p.all) (some_named (named_in d ss None) p.follow.named)
        may_speak d ss (Some o) p = and_from _ _ (eq-eqb _ _ p.all.1) (some_named (named_in d ss (Some o)) p.follow.named)

        first : (d : DeviceDescriptor) (ss : List Configuration) (o : Option Other) → s.texts ≡ [] → file_and (languages s.languages) (made d ss o None) ≡ made d ss o (Some s)
        first d ss o e = λ i. made d ss o (Some (record s { texts = sym e i }))

    last : (front : List (List ℕ)) (us : List ℕ) → s.texts ≡ front ++ us ∷ [] → Less (made d ss o (Some s))
    last front us e =
        let p = spoken d ss o s h in
        let t : Strings = record s { texts = front } in
        let texts : strings_items (Some s) ≡ strings_items (Some t) ++ string us ∷ [] =
        ap (λ (xs : List (List ℕ)). languages s.languages ∷ map string xs) e ∙ ap (λ (xs : List Item). languages s.languages ∷ xs) (map-push string front us) in
        let said = all_split (strings_items (Some t)) (string us ∷ []) (subst All texts p.said) in
        let n = ap length e ∙ length-push front us in
        let few = p.follow.few in
        let long = or_parts (is_long_string s.languages) (list_any is_long_string s.texts) p.follow.short in
        let short = any_strings is_long_string front us (ap (list_any is_long_string) (sym e) ∙ long.1) in
        record {
          before = Some (made d ss o (Some t));
          item = string us;
          ordered = speaks d ss o t (record {
            before = p.before;
            all = p.all;
            follow = record { named = p.follow.named; spoken = p.follow.spoken; few = omega (arith, n, few); short = or_from _ _ long.0 short };
            said = said.0;
          });
          is_item = said.1.0;
          may = lt-ltb _ _ (omega (arith, n, few));
          grown_is = more_texts d ss o front us e;
          over = over_strings d ss o (Some s) (Some t);
        }
      where
        any_strings : (p : List ℕ → Bool) (xs : List (List ℕ)) (x : List ℕ) → list_any p (xs ++ x ∷ []) ≡ false → list_any p xs ≡ false
        any_strings p xs x e = (any_parts p xs x e).0

        more_texts : (d : DeviceDescriptor) (ss : List Configuration) (o : Option Other) (front : List (List ℕ)) (us : List ℕ) → s.texts ≡ front ++ us ∷ []
            → file_and (string us) (made d ss o (Some (record s { texts = front }))) ≡ made d ss o (Some s)
        more_texts d ss o front us e = λ i. made d ss o (Some (record s { texts = sym e i }))

    cases : Ends (List ℕ) s.texts → Less (made d ss o (Some s))
    cases (empty e) = none e
    cases (pushed front us e) = last front us e

parts_less : (d : DeviceDescriptor) (ss : List Configuration) (o : Option Other) (s : Option Strings) → IsOrdered (made d ss o s) → Less (made d ss o s)
parts_less d ss o None h = sets_less d ss o h
parts_less d ss o (Some s) h = strings_less d ss o s h

-- each file in order has a last descriptor
pub less : (f : DescriptorFile) → IsOrdered f → Less f
less f h = parts_less f.device f.sets f.other f.strings h

pub less_items : (f : DescriptorFile) (l : Less f) → file_items f ≡ items_of l.before ++ l.item ∷ []
less_items f l = ap file_items (sym l.grown_is) ∙ (more l.before l.item l.ordered l.is_item l.may).items

-- ---- there is one file of its descriptors

but_last : List Item → List Item
but_last [] = []
but_last (x ∷ []) = []
but_last (x ∷ y ∷ xs) = x ∷ but_last (y ∷ xs)

but_last-push : (xs : List Item) (x : Item) → but_last (xs ++ x ∷ []) ≡ xs
unfolding but_last
but_last-push [] x = refl
but_last-push (y ∷ []) x = refl
but_last-push (y ∷ z ∷ xs) x = ap (λ (ys : List Item). y ∷ ys) (but_last-push (z ∷ xs) x)

same_front : (xs ys : List Item) (x y : Item) → xs ++ x ∷ [] ≡ ys ++ y ∷ [] → xs ≡ ys
same_front xs ys x y e = sym (but_last-push xs x) ∙ ap but_last e ∙ but_last-push ys y

same_last : (xs ys : List Item) (x y : Item) → xs ++ x ∷ [] ≡ ys ++ y ∷ [] → x ≡ y
same_last xs ys x y e =
    ap (λ (o : Option Item). unwrap_or o x) (sym (last_push xs x) ∙ ap last_of e ∙ last_push ys y)

one_within : (n : ℕ) (s t : Option DescriptorFile) → AreOrdered s → AreOrdered t → length (items_of s) ≤ n → items_of s ≡ items_of t → s ≡ t
one_within n None None hs ht few e = refl
one_within n None (Some g) hs ht few e = absurd (let no = e in cc)
one_within n (Some f) None hs ht few e = absurd (let no = e in cc)
one_within zero (Some f) (Some g) hs ht few e = absurd (omega (arith, few))
one_within (suc n) (Some f) (Some g) hs ht few e =
    let k = less f hs in
    let l = less g ht in
    let both = sym (less_items f k) ∙ e ∙ less_items g l in
    let count = ap length (less_items f k) ∙ length-append (items_of k.before) (k.item ∷ []) in
    let before = one_within n k.before l.before k.ordered l.ordered (omega (arith, count, few)) (same_front _ _ k.item l.item both) in
    ap Some (sym k.grown_is ∙ ap (λ (x : Option DescriptorFile). grown x k.item) before ∙ ap (grown l.before) (same_last _ _ k.item l.item both) ∙ l.grown_is)

-- what is so of a file of the descriptors so far and one more
pub record IsNext (s : Option DescriptorFile) (item : Item) (f : DescriptorFile) : Type 0 where
  pub is_item : IsItem item
  pub may : may_stand s (item_word item) ≡ true
  pub is : grown s item ≡ f

pub next : (s : Option DescriptorFile) (item : Item) (f : DescriptorFile) → AreOrdered s → IsOneMore s item f → IsNext s item f
next s item f h m =
    let l = less f m.ordered in
    let both = sym (less_items f l) ∙ m.items in
    let before = one_within (length (items_of l.before)) l.before s l.ordered h (omega arith) (same_front _ _ l.item item both) in
    let last = same_last _ _ l.item item both in
    record {
      is_item = subst IsItem last l.is_item;
      may = subst (λ (x : Option DescriptorFile). may_stand x (item_word item) ≡ true) before (subst (λ (x : Item). may_stand l.before (item_word x) ≡ true) last l.may);
      is = ap (λ (x : Option DescriptorFile). grown x item) (sym before) ∙ ap (grown l.before) (sym last) ∙ l.grown_is;
    }

-- where some descriptor of a word may come next, the word may stand
pub may_is : (s : Option DescriptorFile) (w : Word) → AreOrdered s → MayStand s w → may_stand s w ≡ true
may_is s w h m = subst (λ (v : Word). may_stand s v ≡ true) m.word_is (next s m.item m.file h m.more).may
