-- Prefixes of files, and each with one part more.
use Rattle.std.proofs.Common.{◌≡◌, ℕ, ◌*◌, ◌<◌, ◌≤◌, false, List, [], ◌∷◌, ◌++◌, length, Option, Some, None, refl, ap, sym, subst, ◌∙◌, arith, append_assoc}
use Rattle.std.specs.List.{list_any}
use Rattle.std.proofs.lemmas.List.{append-nil}
use Rattle.std.proofs.lemmas.Bool.{or_parts, or_from}
use Rattle.usb_fields.specs.declared.qualifier.Qualifier.{Qualifier}
use Rattle.usb_fields.specs.Device.{qualifier_bytes, device_bytes}
use Rattle.usb_fields.specs.Units.{units_bytes}
use Rattle.usb_set.specs.declared.tree.SetKind.TheVariants as kinds
use Rattle.usb_set.specs.declared.tree.Configuration.{Configuration}
use Rattle.usb_set.specs.Layout.{Layout}
use Rattle.usb_file_data.specs.declared.file.DescriptorFile.{DescriptorFile}
use Rattle.usb_file_data.specs.declared.file.Other.{Other}
use Rattle.usb_file_data.specs.declared.file.Strings.{Strings}
use Rattle.usb_file_data.specs.File.{named_indices, other_sets, whole_set, sets_bytes, other_bytes, each_string_bytes, strings_bytes, file_bytes, is_other_kind, has_no_layout, is_long_string}
use Rattle.usb_file_data.proofs.Lists.{flat_map-push, length-push, behind_main, behind_other, behind_all}
use Rattle.usb_file_data.proofs.WholeSets.{layout_is, layout_allowed}
use Rattle.usb_file_data.specs.Front.{StringsFollow, IsInOrder, IsFront, AllSets, other_with, with_set, with_qualifier, with_strings}
use Rattle.usb_set.proofs.Growth.{list_any-snoc}

-- with one more string
abbrev pub string_with : List ℕ → Option Strings → Option Strings
string_with u None = None
string_with u (Some s) = Some (record s { texts = s.texts ++ u ∷ [] })

-- the second prefix is the first one and one more part
pub record Grown (f g : DescriptorFile) (p : List ℕ) : Type 0 where
  pub is_front : IsFront g
  pub bytes : file_bytes g ≡ file_bytes f ++ p

-- ---- one part more

pub grow_main : (f : DescriptorFile) (c : Configuration) (p : List ℕ) → IsFront f → f.other ≡ None → f.strings ≡ None → length f.sets < f.device.configurations
    → Layout c p → is_other_kind kinds.Configuration c ≡ false → Grown f (with_set kinds.Configuration c f) p
grow_main f c p front no_other no_strings below layout kind_is =
    let ks = or_parts (list_any (is_other_kind kinds.Configuration) f.sets) (list_any (is_other_kind kinds.OtherSpeed) (other_sets f.other)) front.kinds in
    let ls = or_parts (list_any has_no_layout f.sets) (list_any has_no_layout (other_sets f.other)) front.layouts in
    let g = with_set kinds.Configuration c f in
    let room : length (f.sets ++ c ∷ []) ≤ f.device.configurations = omega (arith, length-push f.sets c, below) in
    let more : sets_bytes (f.sets ++ c ∷ []) ≡ sets_bytes f.sets ++ p = flat_map-push whole_set f.sets c ∙ ap (λ x. sets_bytes f.sets ++ x) (sym (layout_is c p layout)) in
    record {
      is_front = record {
        kinds = or_from _ _ (list_any-snoc (is_other_kind kinds.Configuration) f.sets c ks.0 kind_is) ks.1;
        layouts = or_from _ _ (list_any-snoc has_no_layout f.sets c ls.0 (layout_allowed c p layout)) ls.1;
        order = subst (λ o. IsInOrder g o f.strings) (sym no_other) (subst (λ s. IsInOrder g None s) (sym no_strings) room);
      };
      bytes = behind_main (device_bytes f.device) (sets_bytes f.sets) (sets_bytes (f.sets ++ c ∷ [])) (other_bytes f.other) (strings_bytes f.strings) p more
          (ap other_bytes no_other) (ap strings_bytes no_strings);
    }

other_more : (o : Other) (c : Configuration) (p : List ℕ) → Layout c p → other_bytes (other_with c (Some o)) ≡ other_bytes (Some o) ++ p
other_more o c p layout =
    ap (λ x. qualifier_bytes o.qualifier ++ x) (flat_map-push whole_set o.sets c ∙ ap (λ x. sets_bytes o.sets ++ x) (sym (layout_is c p layout)))

pub grow_other : (f : DescriptorFile) (o : Other) (c : Configuration) (p : List ℕ) → IsFront f → length f.sets ≡ f.device.configurations → f.other ≡ Some o → f.strings ≡ None
    → length o.sets < o.qualifier.configurations → Layout c p → is_other_kind kinds.OtherSpeed c ≡ false → Grown f (with_set kinds.OtherSpeed c f) p
grow_other f o c p front full is_other no_strings below layout kind_is =
    let ks = or_parts (list_any (is_other_kind kinds.Configuration) f.sets) (list_any (is_other_kind kinds.OtherSpeed) (other_sets f.other)) front.kinds in
    let ls = or_parts (list_any has_no_layout f.sets) (list_any has_no_layout (other_sets f.other)) front.layouts in
    let g = with_set kinds.OtherSpeed c f in
    let room : length (o.sets ++ c ∷ []) ≤ o.qualifier.configurations = omega (arith, length-push o.sets c, below) in
    let kinds_of : list_any (is_other_kind kinds.OtherSpeed) (other_sets (other_with c f.other)) ≡ false =
    subst (λ x. list_any (is_other_kind kinds.OtherSpeed) (other_sets (other_with c x)) ≡ false) (sym is_other)
    (list_any-snoc (is_other_kind kinds.OtherSpeed) o.sets c (subst (λ x. list_any (is_other_kind kinds.OtherSpeed) (other_sets x) ≡ false) is_other ks.1) kind_is) in
    let layouts_of : list_any has_no_layout (other_sets (other_with c f.other)) ≡ false =
    subst (λ x. list_any has_no_layout (other_sets (other_with c x)) ≡ false) (sym is_other)
    (list_any-snoc has_no_layout o.sets c (subst (λ x. list_any has_no_layout (other_sets x) ≡ false) is_other ls.1) (layout_allowed c p layout)) in
    let more : other_bytes (other_with c f.other) ≡ other_bytes f.other ++ p =
    subst (λ x. other_bytes (other_with c x) ≡ other_bytes x ++ p) (sym is_other) (other_more o c p layout) in
    record {
      is_front = record {
        kinds = or_from _ _ ks.0 kinds_of;
        layouts = or_from _ _ ls.0 layouts_of;
        order = subst (λ x. IsInOrder g (other_with c x) f.strings) (sym is_other)
            (subst (λ s. IsInOrder g (other_with c (Some o)) s) (sym no_strings) (full, room));
      };
      bytes = behind_other (device_bytes f.device) (sets_bytes f.sets) (other_bytes f.other) (other_bytes (other_with c f.other)) (strings_bytes f.strings) p more (ap strings_bytes no_strings);
    }

pub grow_qualifier : (f : DescriptorFile) (q : Qualifier) → IsFront f → length f.sets ≡ f.device.configurations → f.other ≡ None → f.strings ≡ None
    → Grown f (with_qualifier q f) (qualifier_bytes q)
grow_qualifier f q front full no_other no_strings =
    let ks = or_parts (list_any (is_other_kind kinds.Configuration) f.sets) (list_any (is_other_kind kinds.OtherSpeed) (other_sets f.other)) front.kinds in
    let ls = or_parts (list_any has_no_layout f.sets) (list_any has_no_layout (other_sets f.other)) front.layouts in
    let g = with_qualifier q f in
    let none : 0 ≤ q.configurations = omega arith in
    record {
      is_front = record {
        kinds = or_from _ _ ks.0 refl;
        layouts = or_from _ _ ls.0 refl;
        order = subst (λ s. IsInOrder g g.other s) (sym no_strings) (full, none);
      };
      bytes = behind_other (device_bytes f.device) (sets_bytes f.sets) (other_bytes f.other) (other_bytes g.other) (strings_bytes f.strings) (qualifier_bytes q)
          (sym (ap (λ x. x ++ qualifier_bytes q) (ap other_bytes no_other))) (ap strings_bytes no_strings);
    }

order_strings : (f : DescriptorFile) (o : Option Other) (s : Strings) → AllSets f o → StringsFollow (length (named_indices f)) s → IsInOrder f o (Some s)
order_strings f None s all follow = (all, follow)
order_strings f (Some o) s all follow = (all.0, all.1, follow)

pub grow_strings : (f : DescriptorFile) (s : Strings) (p : List ℕ) → IsFront f → AllSets f f.other → StringsFollow (length (named_indices f)) s
    → strings_bytes (Some s) ≡ strings_bytes f.strings ++ p → Grown f (with_strings s f) p
grow_strings f s p front all follow more = record {
  is_front = record { kinds = front.kinds; layouts = front.layouts; order = order_strings (with_strings s f) f.other s (all_again f.other all) follow };
  bytes = behind_all (device_bytes f.device ++ sets_bytes f.sets ++ other_bytes f.other) (strings_bytes f.strings) (strings_bytes (Some s)) p more;
}
  where
    all_again : (o : Option Other) → AllSets f o → AllSets (with_strings s f) o
    all_again None h = h
    all_again (Some o) h = h

pub grow_languages : (f : DescriptorFile) (u : List ℕ) → IsFront f → AllSets f f.other → f.strings ≡ None → 0 < length (named_indices f) → 0 < length u → is_long_string u ≡ false
    → Grown f (with_strings (record { languages = u; texts = [] }) f) (units_bytes u)
grow_languages f u front all no_strings named spoken short =
    grow_strings f (record { languages = u; texts = [] }) (units_bytes u) front all
    (record { named = named; spoken = spoken; few = omega arith; short = or_from (is_long_string u) false short refl })
    (append-nil (units_bytes u) ∙ sym (ap (λ x. x ++ units_bytes u) (ap strings_bytes no_strings)))

pub string_more : (s : Strings) (u : List ℕ) → strings_bytes (string_with u (Some s)) ≡ strings_bytes (Some s) ++ units_bytes u
string_more s u = ap (λ x. units_bytes s.languages ++ x) (flat_map-push units_bytes s.texts u) ∙ sym (append_assoc (units_bytes s.languages) (each_string_bytes s.texts) (units_bytes u))

pub grow_string : (f : DescriptorFile) (s : Strings) (u : List ℕ) → IsFront f → AllSets f f.other → f.strings ≡ Some s → StringsFollow (length (named_indices f)) s
    → length s.texts < length s.languages * length (named_indices f) → is_long_string u ≡ false
    → Grown f (with_strings (record s { texts = s.texts ++ u ∷ [] }) f) (units_bytes u)
grow_string f s u front all is_strings follow below short =
    let long = or_parts (is_long_string s.languages) (list_any is_long_string s.texts) follow.short in
    grow_strings f (record s { texts = s.texts ++ u ∷ [] }) (units_bytes u) front all
    (record {
      named = follow.named;
      spoken = follow.spoken;
      few = omega (arith, length-push s.texts u, below);
      short = or_from _ _ long.0 (list_any-snoc is_long_string s.texts u long.1 short);
    })
    (string_more s u ∙ sym (ap (λ x. strings_bytes x ++ units_bytes u) is_strings))
