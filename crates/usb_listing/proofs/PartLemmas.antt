-- The parts of a file in order: what stands before the current sets, these sets, and the strings.
use Rattle.std.proofs.Common.{◌≡◌, ℕ, ◌≤◌, ◌||◌, Bool, true, false, List, [], ◌∷◌, ◌++◌, Option, Some, None, length, refl, ap, sym, ◌∙◌, append-nil, append_assoc, arith}
use Rattle.std.specs.List.{AllByRecursion, flat_map, list_any}
use Rattle.std.proofs.lemmas.Bool.{or_from, or_parts}
use Rattle.std.proofs.lemmas.List.Folds.{list_any-append}
use Rattle.usb_fields.specs.declared.device.DeviceDescriptor.{DeviceDescriptor}
use Rattle.usb_fields.specs.Device.{device_bytes, qualifier_bytes}
use Rattle.usb_set.specs.declared.tree.SetKind.{SetKind}
use Rattle.usb_set.specs.declared.tree.SetKind.TheVariants as kinds
use Rattle.usb_set.specs.declared.tree.Configuration.{Configuration}
use Rattle.usb_set.specs.Layout.{has_typed_raw}
use Rattle.usb_file_data.specs.declared.file.DescriptorFile.{DescriptorFile}
use Rattle.usb_file_data.specs.declared.file.Other.{Other}
use Rattle.usb_file_data.specs.declared.file.Strings.{Strings}
use Rattle.usb_file_data.specs.File.{is_other_kind, named_indices}
use Rattle.usb_file_data.specs.Front.{AllSets, StringsFollow}
use Rattle.usb_listing.specs.declared.word.Word.TheVariants as words
use Rattle.usb_listing.specs.Says.{IsItem, Item, fields}
use Rattle.usb_listing.specs.Order.{IsOneMore, IsOrdered, file_items, has_over, is_over, other_items, set_items, strings_items}
use Rattle.usb_listing.specs.inside.Growing.{declared, last_of, open_sets, with_sets}

-- ---- lists

abbrev pub All : List Item → Type 0
All xs = AllByRecursion IsItem xs

pub all_append : (xs ys : List Item) → All xs → All ys → All (xs ++ ys)
all_append [] ys hx hy = hy
all_append (x ∷ xs) ys hx hy = (hx.0, all_append xs ys hx.1 hy)

pub all_split : (xs ys : List Item) → All (xs ++ ys) → All xs × All ys
all_split [] ys h = (tt, h)
all_split (x ∷ xs) ys h = let p = all_split xs ys h.1 in ((h.0, p.0), p.1)

pub data Ends (A : Type 0) (xs : List A) : Type 0 where
  empty : xs ≡ [] → Ends A xs
  pushed : (front : List A) (x : A) → xs ≡ front ++ x ∷ [] → Ends A xs

pub ends : {A : Type 0} (xs : List A) → Ends A xs
ends {A} [] = empty refl
ends {A} (x ∷ xs) = cases (ends xs)
  where
    cases : Ends A xs → Ends A (x ∷ xs)
    cases (empty e) = pushed [] x (ap (λ (ys : List A). x ∷ ys) e)
    cases (pushed front y e) = pushed (x ∷ front) y (ap (λ (ys : List A). x ∷ ys) e)

pub last_push : {A : Type 0} (xs : List A) (x : A) → last_of (xs ++ x ∷ []) ≡ Some x
last_push [] x = refl
last_push (y ∷ []) x = refl
last_push (y ∷ z ∷ xs) x = last_push (z ∷ xs) x

pub any_parts : {A : Type 0} (p : A → Bool) (xs : List A) (x : A) → list_any p (xs ++ x ∷ []) ≡ false → (list_any p xs ≡ false) × (p x ≡ false)
any_parts p xs x e =
    let parts = or_parts (list_any p xs) (p x || false) (sym (list_any-append p xs (x ∷ [])) ∙ e) in
    (parts.0, (or_parts (p x) false parts.1).0)

-- ---- a file of these parts

abbrev pub made : DeviceDescriptor → List Configuration → Option Other → Option Strings → DescriptorFile
made d ss o s = record { device = d; sets = ss; other = o; strings = s }

-- the kind of the current sets
abbrev pub kind_of : Option Other → SetKind
kind_of None = kinds.Configuration
kind_of (Some o) = kinds.OtherSpeed

-- sets of a part
pub record Part (kind : SetKind) (count : ℕ) (cs : List Configuration) : Type 0 where
  pub said : All (flat_map set_items cs)
  pub raws : list_any has_typed_raw cs ≡ false
  pub kinds : list_any (is_other_kind kind) cs ≡ false
  pub few : length cs ≤ count

-- the descriptors before the current sets, and what is so of the sets among them
abbrev pub head_items : DeviceDescriptor → List Configuration → Option Other → List Item
head_items d ss None = fields words.Device (device_bytes d) ∷ []
head_items d ss (Some o) = fields words.Device (device_bytes d) ∷ flat_map set_items ss ++ fields words.Qualifier (qualifier_bytes o.qualifier) ∷ []

abbrev pub Before : DeviceDescriptor → List Configuration → Option Other → Type 0
Before d ss None = Unit {0}
Before d ss (Some o) = (list_any has_typed_raw ss ≡ false) × (list_any (is_other_kind kinds.Configuration) ss ≡ false) × (length ss ≡ d.configurations)

pub record Head (d : DeviceDescriptor) (ss : List Configuration) (o : Option Other) : Type 0 where
  pub said : All (head_items d ss o)
  pub before : Before d ss o

abbrev pub open_part : DeviceDescriptor → List Configuration → Option Other → List Configuration → Type 0
open_part d ss o cs = Part (kind_of o) (declared (made d ss o None) o) cs

pub opened : (d : DeviceDescriptor) (ss : List Configuration) (o : Option Other) → IsOrdered (made d ss o None) → Head d ss o × open_part d ss o (open_sets (made d ss o None) o)
opened d ss None h =
    let p = all_split ((fields words.Device (device_bytes d) ∷ flat_map set_items ss) ++ []) [] h.said in
    let q = all_split (fields words.Device (device_bytes d) ∷ flat_map set_items ss) [] p.0 in
    (record { said = (q.0.0, tt); before = tt }, record { said = q.0.1; raws = (or_parts _ _ h.raws).0; kinds = (or_parts _ _ h.kinds).0; few = h.order })
opened d ss (Some o) h =
    let front = fields words.Device (device_bytes d) ∷ flat_map set_items ss in
    let q = all_split front (other_items (Some o)) (all_split (front ++ other_items (Some o)) [] h.said).0 in
    let rs = or_parts _ _ h.raws in
    let ks = or_parts _ _ h.kinds in (
      record { said = all_append front (fields words.Qualifier (qualifier_bytes o.qualifier) ∷ []) q.0 (q.1.0, tt); before = (rs.0, ks.0, h.order.0) },
      record { said = q.1.1; raws = rs.1; kinds = ks.1; few = h.order.1 },
    )

pub closed : (d : DeviceDescriptor) (ss : List Configuration) (o : Option Other) (cs : List Configuration) → Head d ss o → open_part d ss o cs → IsOrdered (with_sets cs (made d ss o None) o)
closed d ss None cs head part =
    let front = fields words.Device (device_bytes d) ∷ flat_map set_items cs in
    record {
      said = all_append (front ++ []) [] (all_append front [] (head.said.0, part.said) tt) tt;
      raws = or_from _ _ part.raws refl;
      kinds = or_from _ _ part.kinds refl;
      order = part.few;
    }
closed d ss (Some o) cs head part =
    let front = fields words.Device (device_bytes d) ∷ flat_map set_items ss in
    let behind = fields words.Qualifier (qualifier_bytes o.qualifier) ∷ flat_map set_items cs in
    let h = all_split front (fields words.Qualifier (qualifier_bytes o.qualifier) ∷ []) head.said in
    record {
      said = all_append (front ++ behind) [] (all_append front behind h.0 (h.1.0, part.said)) tt;
      raws = or_from _ _ head.before.0 part.raws;
      kinds = or_from _ _ head.before.1 part.kinds;
      order = (head.before.2, part.few);
    }

pub items_open : (d : DeviceDescriptor) (ss : List Configuration) (o : Option Other) (cs : List Configuration)
    → file_items (with_sets cs (made d ss o None) o) ≡ head_items d ss o ++ flat_map set_items cs
items_open d ss None cs =
    let front = fields words.Device (device_bytes d) ∷ flat_map set_items cs in append-nil (front ++ []) ∙ append-nil front
items_open d ss (Some o) cs =
    let front = fields words.Device (device_bytes d) ∷ flat_map set_items ss in
    let q = fields words.Qualifier (qualifier_bytes o.qualifier) in
    append-nil (front ++ q ∷ flat_map set_items cs) ∙ sym (append_assoc front (q ∷ []) (flat_map set_items cs))

-- the current sets as they are
pub same_sets : (d : DeviceDescriptor) (ss : List Configuration) (o : Option Other) → with_sets (open_sets (made d ss o None) o) (made d ss o None) o ≡ made d ss o None
same_sets d ss None = refl
same_sets d ss (Some o) = refl

pub items_here : (d : DeviceDescriptor) (ss : List Configuration) (o : Option Other)
    → file_items (made d ss o None) ≡ head_items d ss o ++ flat_map set_items (open_sets (made d ss o None) o)
items_here d ss o = ap file_items (sym (same_sets d ss o)) ∙ items_open d ss o (open_sets (made d ss o None) o)

-- other current sets, with one descriptor more
pub record Grows (kind : SetKind) (count : ℕ) (cs new : List Configuration) (item : Item) : Type 0 where
  pub part : Part kind count new
  pub items : flat_map set_items new ≡ flat_map set_items cs ++ item ∷ []

pub part_more : (d : DeviceDescriptor) (ss : List Configuration) (o : Option Other) (new : List Configuration) (item : Item) → Head d ss o
    → Grows (kind_of o) (declared (made d ss o None) o) (open_sets (made d ss o None) o) new item → IsOneMore (Some (made d ss o None)) item (with_sets new (made d ss o None) o)
part_more d ss o new item head g = record {
  ordered = closed d ss o new head g.part;
  items = items_open d ss o new ∙ ap (λ (xs : List Item). head_items d ss o ++ xs) g.items
      ∙ sym (append_assoc (head_items d ss o) (flat_map set_items (open_sets (made d ss o None) o)) (item ∷ []))
      ∙ ap (λ (xs : List Item). xs ++ item ∷ []) (sym (items_here d ss o));
}

-- ---- whether a set is too long

abbrev over_head : List Configuration → Option Other → Bool
over_head ss None = false
over_head ss (Some o) = list_any is_over ss

pub over_open : (d : DeviceDescriptor) (ss : List Configuration) (o : Option Other) (cs : List Configuration)
    → has_over (with_sets cs (made d ss o None) o) ≡ (over_head ss o || list_any is_over cs)
over_open d ss None cs = at (list_any is_over cs)
  where
    at : (b : Bool) → (b || false) ≡ (false || b)
    at true = refl
    at false = refl
over_open d ss (Some o) cs = refl

pub over_here : (d : DeviceDescriptor) (ss : List Configuration) (o : Option Other) → has_over (made d ss o None) ≡ (over_head ss o || list_any is_over (open_sets (made d ss o None) o))
over_here d ss o = ap has_over (sym (same_sets d ss o)) ∙ over_open d ss o (open_sets (made d ss o None) o)

-- ---- the strings

-- how many indices are named
abbrev pub named_in : DeviceDescriptor → List Configuration → Option Other → ℕ
named_in d ss o = length (named_indices (made d ss o None))

pub record Spoken (d : DeviceDescriptor) (ss : List Configuration) (o : Option Other) (s : Strings) : Type 0 where
  pub before : IsOrdered (made d ss o None)
  pub all : AllSets (made d ss o None) o
  pub follow : StringsFollow (named_in d ss o) s
  pub said : All (strings_items (Some s))

front_items : DeviceDescriptor → List Configuration → Option Other → List Item
front_items d ss o = fields words.Device (device_bytes d) ∷ flat_map set_items ss ++ other_items o

pub spoken : (d : DeviceDescriptor) (ss : List Configuration) (o : Option Other) (s : Strings) → IsOrdered (made d ss o (Some s)) → Spoken d ss o s
unfolding front_items
spoken d ss None s h =
    let p = all_split (front_items d ss None) (strings_items (Some s)) h.said in
    let full = h.order.0 in
    record {
      before = record { said = all_append (front_items d ss None) [] p.0 tt; raws = h.raws; kinds = h.kinds; order = omega (arith, full) };
      all = full;
      follow = h.order.1;
      said = p.1;
    }
spoken d ss (Some o) s h =
    let p = all_split (front_items d ss (Some o)) (strings_items (Some s)) h.said in
    let full = h.order.1 in
    let few : length o.sets ≤ o.qualifier.configurations = omega (arith, full) in
    record {
      before = record { said = all_append (front_items d ss (Some o)) [] p.0 tt; raws = h.raws; kinds = h.kinds; order = (h.order.0, few) };
      all = (h.order.0, full);
      follow = h.order.2;
      said = p.1;
    }

pub speaks : (d : DeviceDescriptor) (ss : List Configuration) (o : Option Other) (s : Strings) → Spoken d ss o s → IsOrdered (made d ss o (Some s))
unfolding front_items
speaks d ss None s p =
    let front = (all_split (front_items d ss None) [] p.before.said).0 in
    record { said = all_append (front_items d ss None) (strings_items (Some s)) front p.said; raws = p.before.raws; kinds = p.before.kinds; order = (p.all, p.follow) }
speaks d ss (Some o) s p =
    let front = (all_split (front_items d ss (Some o)) [] p.before.said).0 in
    record { said = all_append (front_items d ss (Some o)) (strings_items (Some s)) front p.said; raws = p.before.raws; kinds = p.before.kinds; order = (p.all.0, p.all.1, p.follow) }

-- the descriptors of the strings stand last
pub items_spoken : (d : DeviceDescriptor) (ss : List Configuration) (o : Option Other) (s : Strings) → file_items (made d ss o (Some s)) ≡ file_items (made d ss o None) ++ strings_items (Some s)
unfolding front_items
items_spoken d ss o s = ap (λ (xs : List Item). xs ++ strings_items (Some s)) (sym (append-nil (front_items d ss o)))
