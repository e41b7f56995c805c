-- Building a set of descriptors is reading their bytes.
use Rattle.std.proofs.Common.{◌≡◌, ◌↔◌, ℕ, ◌≤◌, false, List, [], ◌∷◌, ◌++◌, length, take, drop, slice_index, refl, sym, ap, subst, ◌∙◌, length-append, arith}
use Rattle.std.specs.List.{AllByRecursion, list_any}
use Rattle.std.proofs.lemmas.Bool.{or_from}
use Rattle.std.proofs.lemmas.List.{append_cancel_left}
use Rattle.std.proofs.Math.Seq.{take-append_seam}
use Rattle.usb_fields.specs.Bytes.{AreBytes}
use Rattle.usb_set.specs.declared.tree.Configuration.{Configuration}
use Rattle.usb_set.specs.Building.{AcceptsAll, IsBuiltOf}
use Rattle.usb_set.specs.Descriptors.{Descriptor, configuration_descriptor, descriptor_bytes}
use Rattle.usb_set.specs.Layout.{FieldsFit, Layout, has_typed_raw, is_long, later_descriptors, set_bytes, set_descriptors}
use Rattle.usb_set.specs.Faults.{joined, total_of}
use Rattle.usb_set.proofs.Adding.{accepted, gained, same_descriptor, same_tree}
use Rattle.usb_set.proofs.Growth.{not_long}
use Rattle.usb_set.proofs.Items.{bare, items_again, two_bytes}
use Rattle.usb_set.proofs.Layouts.{fine_items, type_again}
use Rattle.usb_set.proofs.Sound.{bytes-parts, total_short}

-- ---- what was built

record Built (header : Descriptor) (items : List Descriptor) (c : Configuration) : Type 0 where
  total : ℕ
  head : configuration_descriptor c total ≡ header
  later : later_descriptors c ≡ items
  raws : has_typed_raw c ≡ false

built : (header : Descriptor) (items : List Descriptor) (c : Configuration) → IsBuiltOf (header ∷ items) c → Built header items c
built header items c (begun, is, all) =
    let more = gained items begun c is.raws all in
    record {
      total = is.begins.total;
      head = same_descriptor (configuration_descriptor c is.begins.total) header (ap descriptor_bytes (more.head is.begins.total) ∙ is.begins.head);
      later = more.later ∙ ap (λ (ds : List Descriptor). ds ++ items) is.begins.later;
      raws = more.raws;
    }

pub one_built : (c d : Configuration) (ds : List Descriptor) → IsBuiltOf ds c → IsBuiltOf ds d → c ≡ d
one_built c d [] x y = absurd x
one_built c d (header ∷ items) x y =
    let m = built header items c x in
    let n = built header items d y in
    same_tree c d m.total n.total m.raws n.raws (m.head ∙ sym n.head) (m.later ∙ sym n.later)

-- ---- from the descriptors to the layout

none_long : (ds : List Descriptor) → AreBytes (joined ds) → list_any is_long ds ≡ false
none_long [] fits = refl
none_long (d ∷ ds) fits =
    let parts = bytes-parts (descriptor_bytes d) (joined ds) fits in
    or_from (is_long d) (list_any is_long ds) (not_long (length d.body) 253 (omega (arith, parts.0.0))) (none_long ds parts.1)

built_layout : (header : Descriptor) (items : List Descriptor) (c : Configuration) → AreBytes (joined (header ∷ items)) → total_of (joined (header ∷ items)) ≡ length (joined (header ∷ items))
    → Built header items c → Layout c (joined (header ∷ items))
built_layout header items c fits total is =
    let b = joined (header ∷ items) in
    let bytes : set_bytes c is.total ≡ joined (header ∷ items) =
    ap (λ (d : Descriptor). descriptor_bytes d ++ joined (later_descriptors c)) is.head ∙ ap (λ (ds : List Descriptor). descriptor_bytes header ++ joined ds) is.later in
    let same : is.total ≡ length (joined (header ∷ items)) = sym (two_bytes is.total) ∙ ap total_of bytes ∙ total in
    let long : 4 ≤ length (joined (header ∷ items)) = omega (arith, ap length bytes, length-append (descriptor_bytes (configuration_descriptor c is.total)) (joined (later_descriptors c))) in
    record {
      bytes = sym bytes ∙ ap (set_bytes c) same;
      fits = fits;
      within_255 = none_long (set_descriptors c is.total) (subst AreBytes (sym bytes) fits);
      raws_are_raw = is.raws;
      short = omega (arith, total_short (joined (header ∷ items)) fits long, total);
    }

-- ---- from the layout to the descriptors

-- joins that are equal, of parts of equal lengths
same_front : (a b x y : List ℕ) → length a ≡ length b → a ++ x ≡ b ++ y → a ≡ b
same_front a b x y long is = sym (take-append_seam a x) ∙ ap (λ n. take n (a ++ x)) long ∙ ap (λ (z : List ℕ). take (length b) z) is ∙ take-append_seam b y

same_joined : (ds es : List Descriptor) → joined ds ≡ joined es → ds ≡ es
same_joined [] [] is = refl
same_joined [] (e ∷ es) is = cc
same_joined (d ∷ ds) [] is = cc
same_joined (d ∷ ds) (e ∷ es) is =
    let long : length d.body ≡ length e.body = omega (arith, ap (λ (b : List ℕ). slice_index b 0) is) in
    let rest : d.body ++ joined ds ≡ e.body ++ joined es = ap (λ (b : List ℕ). drop 2 b) is in
    let body : d.body ≡ e.body = same_front d.body e.body (joined ds) (joined es) long rest in
    let more : joined ds ≡ joined es = append_cancel_left e.body (joined ds) (joined es) (ap (λ (b : List ℕ). b ++ joined ds) (sym body) ∙ rest) in
    let first : d ≡ e = ap (λ (b : List ℕ). record { kind = slice_index b 1; body = d.body }) is ∙ ap (λ (b : List ℕ). record { kind = e.kind; body = b }) body in
    ap (λ (x : Descriptor). x ∷ ds) first ∙ ap (λ (xs : List Descriptor). e ∷ xs) (same_joined ds es more)

fields_fit : (ds : List Descriptor) → AreBytes (joined ds) → AllByRecursion FieldsFit ds
fields_fit [] fits = tt
fields_fit (d ∷ ds) fits = let parts = bytes-parts (descriptor_bytes d) (joined ds) fits in (parts.0.1, fields_fit ds parts.1)

builds : (c : Configuration) (total : ℕ) → has_typed_raw c ≡ false → AreBytes (set_bytes c total) → IsBuiltOf (set_descriptors c total) c
builds c total raws fits =
    let all = accepted (later_descriptors c) (bare c) (fine_items c raws) (fields_fit (set_descriptors c total) fits).1 refl in (
      bare c,
      record { kind = type_again c.kind; long = omega arith; begins = record { total = total; head = refl; later = refl }; raws = refl },
      subst (λ (x : Configuration). AcceptsAll (bare c) (later_descriptors c) x) (items_again c raws) all,
    )

layout_built : (c : Configuration) (ds : List Descriptor) → Layout c (joined ds) → IsBuiltOf ds c × (total_of (joined ds) ≡ length (joined ds))
layout_built c ds h =
    let total = length (joined ds) in
    let is : ds ≡ set_descriptors c (length (joined ds)) = same_joined ds (set_descriptors c (length (joined ds))) h.bytes in (
      subst (λ (x : List Descriptor). IsBuiltOf x c) (sym is) (builds c (length (joined ds)) h.raws_are_raw (subst AreBytes h.bytes h.fits)),
      ap total_of h.bytes ∙ two_bytes (length (joined ds)),
    )

pub building_is_reading : (c : Configuration) (ds : List Descriptor) → AreBytes (joined ds) → Layout c (joined ds) ↔ (IsBuiltOf ds c × (total_of (joined ds) ≡ length (joined ds)))
building_is_reading c ds fits = (layout_built c ds, λ h. made ds fits h.0 h.1)
  where
    made : (ds : List Descriptor) → AreBytes (joined ds) → IsBuiltOf ds c → total_of (joined ds) ≡ length (joined ds) → Layout c (joined ds)
    made [] fits is total = absurd is
    made (header ∷ items) fits is total = built_layout header items c fits total (built header items c is)
