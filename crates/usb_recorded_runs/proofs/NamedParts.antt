-- The strings that a file's descriptors name, by their bytes: those of its tree.
use Rattle.std.proofs.Common.{◌≡◌, ◌<◌, ◌+◌, ◌==◌, ◌||◌, ℕ, zero, suc, Bool, true, false, if◌then◌else◌, List, [], ◌∷◌, ◌++◌, length, map, take, drop, refl, sym, ◌∙◌, ap, ap₂, arith}
use Rattle.std.specs.Prelude.{Option, Some, None, filter, is_some, nat_lt, slice_index}
use Rattle.std.specs.List.{flat_map, list_any, range_with_len}
use Rattle.std.proofs.lemmas.Bool.Decides.{nat_tests}
use Rattle.std.proofs.lemmas.Grind.{flat_map-append}
use Rattle.std.proofs.lemmas.List.{map-append}
use Rattle.std.proofs.lemmas.List.Folds.{list_any-append}
use Rattle.std.proofs.Math.Seq.{take-append_seam, drop-append_seam}
use Rattle.usb_fields.specs.declared.device.DeviceDescriptor.{DeviceDescriptor}
use Rattle.usb_fields.specs.declared.qualifier.Qualifier.{Qualifier}
use Rattle.usb_fields.specs.Device.{device_bytes, device_fields, qualifier_bytes, qualifier_fields}
use Rattle.usb_fields.specs.Fields.{fields_bytes}
use Rattle.usb_set.specs.declared.extra.Extra.{Extra}
use Rattle.usb_set.specs.declared.extra.Extra.TheVariants as extras
use Rattle.usb_set.specs.declared.tree.Endpoint.{Endpoint}
use Rattle.usb_set.specs.declared.tree.Setting.{Setting}
use Rattle.usb_set.specs.declared.tree.Configuration.{Configuration}
use Rattle.usb_set.specs.declared.tree.SetKind.{SetKind}
use Rattle.usb_set.specs.declared.tree.SetKind.TheVariants as kinds
use Rattle.usb_set.specs.declared.fault.EncodeFault.TheVariants.{RawKind, Tail, TooLong}
use Rattle.usb_set.specs.Descriptors.{Descriptor, configuration_descriptor, descriptor_bytes, extra_descriptor, type_number, typed_length}
use Rattle.usb_set.specs.Layout.{endpoint_descriptors, has_long_descriptor, has_typed_raw, is_typed_raw, later_descriptors, set_descriptors, set_length, setting_descriptors}
use Rattle.usb_set.specs.Owners.{association_in, associations_of, setting_extras}
use Rattle.usb_file_data.specs.declared.file.DescriptorFile.{DescriptorFile}
use Rattle.usb_file_data.specs.declared.file.Other.{Other}
use Rattle.usb_file_data.specs.File.{association_string_index, has_no_layout, interface_string_index, has_wrong_layout, named_among, named_indices, other_bytes, other_sets, set_string_indices, sets_bytes, string_indices, whole_set}
use Rattle.usb_capture.specs.DeviceFiles.{named_by}
use Rattle.usb_capture.specs.Findings.{device_names, names, string_index}
use Rattle.usb_capture.proofs.NamedLemmas.{names_end, names_step}

-- ---- descriptors one after another

abbrev names_string : ℕ → Descriptor → Bool
names_string n d = string_index (descriptor_bytes d) == n

descriptors_name : (n : ℕ) (ds : List Descriptor) → names n (flat_map descriptor_bytes ds) ≡ list_any (names_string n) ds
descriptors_name n [] = names_end n [] (omega arith)
descriptors_name n (d ∷ ds) =
    let one = descriptor_bytes d in
    let rest = flat_map descriptor_bytes ds in
    let counts : 2 + length d.body ≡ length one = omega arith in
    names_step n (one ++ rest) (omega arith)
    ∙ ap (λ k. (string_index (take k (one ++ rest)) == n) || names n (drop k (one ++ rest))) counts
    ∙ ap (λ b. (string_index b == n) || names n (drop (length one) (one ++ rest))) (take-append_seam one rest)
    ∙ ap (λ b. (string_index one == n) || names n b) (drop-append_seam one rest)
    ∙ ap (λ c. (string_index one == n) || c) (descriptors_name n ds)

-- ---- a set

no_string : (n : ℕ) → 0 < n → (0 == n) ≡ false
no_string n some = grind (arith, nat_tests)

or_false : (a b : Bool) → (a || b) ≡ false → (a ≡ false) × (b ≡ false)
or_false false false e = (refl, refl)
or_false a b e = absurd (let w : ⊥ = cc in w)

-- whether extras name the string
abbrev extras_name : ℕ → List Extra → Bool
extras_name n xs = list_any (λ index. index == n) (map association_string_index (flat_map association_in xs))

extras_joined : (n : ℕ) (xs ys : List Extra) → extras_name n (xs ++ ys) ≡ (extras_name n xs || extras_name n ys)
extras_joined n xs ys =
    ap (λ l. list_any (λ index. index == n) (map association_string_index l)) (flat_map-append association_in xs ys)
    ∙ ap (list_any (λ index. index == n)) (map-append association_string_index (flat_map association_in xs) (flat_map association_in ys))
    ∙ list_any-append (λ index. index == n) (map association_string_index (flat_map association_in xs)) (map association_string_index (flat_map association_in ys))

-- a descriptor of a type that a set gives no meaning
untyped_index : (kind : ℕ) (b : List ℕ) → slice_index b 1 ≡ kind → is_some (typed_length kind) ≡ false → string_index b ≡ 0
untyped_index kind b at untyped =
    ap (λ k. if (k == 2) || (k == 7) then slice_index b 6 else if k == 4 then slice_index b 8 else if k == 11 then slice_index b 7 else 0) at
    ∙ of (kind == 2) (kind == 4) (kind == 5) (kind == 7) (kind == 11) untyped
  where
    of : (two four five seven eleven : Bool)
        → is_some {T = ℕ} (if two then Some 9 else if four then Some 9 else if five then Some 7 else if seven then Some 9 else if eleven then Some 8 else None) ≡ false
        → (if two || seven then slice_index b 6 else if four then slice_index b 8 else if eleven then slice_index b 7 else 0) ≡ 0
    of false false five false false e = refl
    of true four five seven eleven e = absurd (let w : ⊥ = cc in w)
    of false true five seven eleven e = absurd (let w : ⊥ = cc in w)
    of false false true true eleven e = absurd (let w : ⊥ = cc in w)
    of false false false true eleven e = absurd (let w : ⊥ = cc in w)
    of false false true false true e = absurd (let w : ⊥ = cc in w)
    of false false false false true e = absurd (let w : ⊥ = cc in w)

abbrev whole_descriptors : Configuration → List Descriptor
whole_descriptors c = set_descriptors c (set_length c)

module _ (n : ℕ) (some : 0 < n) where
  extras_named : (xs : List Extra) → list_any is_typed_raw xs ≡ false → list_any (names_string n) (map extra_descriptor xs) ≡ extras_name n xs
  extras_named [] untyped = refl
  extras_named (extras.Raw r ∷ xs) untyped =
      let parts = or_false (is_typed_raw (extras.Raw r)) (list_any is_typed_raw xs) untyped in
      let index : string_index ((2 + length r.body) ∷ r.kind ∷ r.body) ≡ 0 = untyped_index r.kind ((2 + length r.body) ∷ r.kind ∷ r.body) refl parts.0 in
      ap (λ i. (i == n) || list_any (names_string n) (map extra_descriptor xs)) index
      ∙ ap (λ c. c || list_any (names_string n) (map extra_descriptor xs)) (no_string n some)
      ∙ extras_named xs parts.1
  extras_named (extras.Association a ∷ xs) untyped = ap (λ c. (a.text == n) || c) (extras_named xs untyped)

  endpoints_named : (es : List Endpoint) → list_any is_typed_raw (flat_map (λ e. e.extras) es) ≡ false
      → list_any (names_string n) (flat_map endpoint_descriptors es) ≡ extras_name n (flat_map (λ e. e.extras) es)
  endpoints_named [] untyped = refl
  endpoints_named (e ∷ es) untyped =
      let later = flat_map (λ e. e.extras) es in
      let parts = or_false (list_any is_typed_raw e.extras) (list_any is_typed_raw later) (sym (list_any-append is_typed_raw e.extras later) ∙ untyped) in
      ap (λ c. c || list_any (names_string n) (map extra_descriptor e.extras ++ flat_map endpoint_descriptors es)) (no_string n some)
      ∙ list_any-append (names_string n) (map extra_descriptor e.extras) (flat_map endpoint_descriptors es)
      ∙ ap₂ ◌||◌ (extras_named e.extras parts.0) (endpoints_named es parts.1)
      ∙ sym (extras_joined n e.extras later)

  setting_named : (s : Setting) → list_any is_typed_raw (setting_extras s) ≡ false → list_any (names_string n) (setting_descriptors s) ≡ ((s.text == n) || extras_name n (setting_extras s))
  setting_named s untyped =
      let later = flat_map (λ e. e.extras) s.endpoints in
      let parts = or_false (list_any is_typed_raw s.extras) (list_any is_typed_raw later) (sym (list_any-append is_typed_raw s.extras later) ∙ untyped) in
      ap (λ c. (s.text == n) || c)
      (list_any-append (names_string n) (map extra_descriptor s.extras) (flat_map endpoint_descriptors s.endpoints)
      ∙ ap₂ ◌||◌ (extras_named s.extras parts.0) (endpoints_named s.endpoints parts.1)
      ∙ sym (extras_joined n s.extras later))

  or_across : (a b c d : Bool) → ((a || b) || (c || d)) ≡ ((a || c) || (b || d))
  or_across true b c d = refl
  or_across false true true d = refl
  or_across false true false d = refl
  or_across false false c d = refl

  settings_named : (ss : List Setting) → list_any is_typed_raw (flat_map setting_extras ss) ≡ false
      → list_any (names_string n) (flat_map setting_descriptors ss) ≡ (list_any (λ index. index == n) (map interface_string_index ss) || extras_name n (flat_map setting_extras ss))
  settings_named [] untyped = refl
  settings_named (s ∷ ss) untyped =
      let later = flat_map setting_extras ss in
      let texts = list_any (λ index. index == n) (map interface_string_index ss) in
      let parts = or_false (list_any is_typed_raw (setting_extras s)) (list_any is_typed_raw later) (sym (list_any-append is_typed_raw (setting_extras s) later) ∙ untyped) in
      list_any-append (names_string n) (setting_descriptors s) (flat_map setting_descriptors ss)
      ∙ ap₂ ◌||◌ (setting_named s parts.0) (settings_named ss parts.1)
      ∙ or_across (s.text == n) (extras_name n (setting_extras s)) texts (extras_name n later)
      ∙ ap (λ c. ((s.text == n) || texts) || c) (sym (extras_joined n (setting_extras s) later))

  or_later : (e a b : Bool) → (e || (a || b)) ≡ (a || (e || b))
  or_later true true b = refl
  or_later true false b = refl
  or_later false a b = refl

  later_named : (c : Configuration) → has_typed_raw c ≡ false
      → list_any (names_string n) (later_descriptors c) ≡ list_any (λ index. index == n) (map interface_string_index c.settings ++ map association_string_index (associations_of c))
  later_named c untyped =
      let later = flat_map setting_extras c.settings in
      let texts = list_any (λ index. index == n) (map interface_string_index c.settings) in
      let parts = or_false (list_any is_typed_raw c.extras) (list_any is_typed_raw later) (sym (list_any-append is_typed_raw c.extras later) ∙ untyped) in
      list_any-append (names_string n) (map extra_descriptor c.extras) (flat_map setting_descriptors c.settings)
      ∙ ap₂ ◌||◌ (extras_named c.extras parts.0) (settings_named c.settings parts.1)
      ∙ or_later (extras_name n c.extras) texts (extras_name n later)
      ∙ ap (λ b. texts || b) (sym (extras_joined n c.extras later))
      ∙ sym (list_any-append (λ index. index == n) (map interface_string_index c.settings) (map association_string_index (associations_of c)))

  set_index : (c : Configuration) (total : ℕ) → string_index (descriptor_bytes (configuration_descriptor c total)) ≡ c.text
  set_index c total = of c.kind
    where
      of : (kind : SetKind) → string_index (descriptor_bytes (record { kind = type_number kind; body = (configuration_descriptor c total).body })) ≡ c.text
      of kinds.Configuration = refl
      of kinds.OtherSpeed = refl

  set_named : (c : Configuration) (total : ℕ) → has_typed_raw c ≡ false → list_any (names_string n) (set_descriptors c total) ≡ list_any (λ index. index == n) (set_string_indices c)
  set_named c total untyped = ap₂ ◌||◌ (ap (λ i. i == n) (set_index c total)) (later_named c untyped)

  untyped_of : (c : Configuration) → has_no_layout c ≡ false → has_typed_raw c ≡ false
  untyped_of c e = of (has_long_descriptor c) (has_typed_raw c) (nat_lt 65535 (set_length c)) e
    where
      of : (long typed many : Bool) → is_some (if long then Some Tail else if typed then Some RawKind else if many then Some TooLong else None) ≡ false → typed ≡ false
      of false false many e = refl
      of true typed many e = absurd (let w : ⊥ = cc in w)
      of false true many e = absurd (let w : ⊥ = cc in w)

  sets_named : (cs : List Configuration) → list_any has_no_layout cs ≡ false
      → list_any (names_string n) (flat_map whole_descriptors cs) ≡ list_any (λ index. index == n) (flat_map set_string_indices cs)
  sets_named [] laid = refl
  sets_named (c ∷ cs) laid =
      let parts = or_false (has_no_layout c) (list_any has_no_layout cs) laid in
      list_any-append (names_string n) (whole_descriptors c) (flat_map whole_descriptors cs)
      ∙ ap₂ ◌||◌ (set_named c (set_length c) (untyped_of c parts.0)) (sets_named cs parts.1)
      ∙ sym (list_any-append (λ index. index == n) (set_string_indices c) (flat_map set_string_indices cs))

-- ---- a file without its strings

sets_joined : (cs : List Configuration) → sets_bytes cs ≡ flat_map descriptor_bytes (flat_map whole_descriptors cs)
unfolding whole_set
sets_joined [] = refl
sets_joined (c ∷ cs) =
    ap (λ b. flat_map descriptor_bytes (whole_descriptors c) ++ b) (sets_joined cs)
    ∙ sym (flat_map-append descriptor_bytes (whole_descriptors c) (flat_map whole_descriptors cs))

abbrev device_descriptor : DeviceDescriptor → Descriptor
device_descriptor d = record { kind = 1; body = fields_bytes device_fields d }

abbrev qualifier_descriptor : Qualifier → Descriptor
qualifier_descriptor q = record { kind = 6; body = fields_bytes qualifier_fields q }

abbrev other_descriptors : Option Other → List Descriptor
other_descriptors None = []
other_descriptors (Some o) = qualifier_descriptor o.qualifier ∷ flat_map whole_descriptors o.sets

others_joined : (o : Option Other) → other_bytes o ≡ flat_map descriptor_bytes (other_descriptors o)
others_joined None = refl
others_joined (Some o) = ap (λ b. qualifier_bytes o.qualifier ++ b) (sets_joined o.sets)

-- the device descriptor, the sets of both speeds and the qualifier
abbrev pub front_bytes : DescriptorFile → List ℕ
front_bytes g = device_bytes g.device ++ (sets_bytes g.sets ++ other_bytes g.other)

abbrev front_descriptors : DescriptorFile → List Descriptor
front_descriptors g = device_descriptor g.device ∷ (flat_map whole_descriptors g.sets ++ other_descriptors g.other)

front_joined : (g : DescriptorFile) → front_bytes g ≡ flat_map descriptor_bytes (front_descriptors g)
front_joined g =
    ap (λ b. device_bytes g.device ++ b)
    (ap₂ ◌++◌ (sets_joined g.sets) (others_joined g.other) ∙ sym (flat_map-append descriptor_bytes (flat_map whole_descriptors g.sets) (other_descriptors g.other)))

module _ (n : ℕ) (some : 0 < n) where
  others_named : (o : Option Other) → list_any has_no_layout (other_sets o) ≡ false
      → list_any (names_string n) (other_descriptors o) ≡ list_any (λ index. index == n) (flat_map set_string_indices (other_sets o))
  others_named None laid = refl
  others_named (Some o) laid = ap (λ c. c || list_any (names_string n) (flat_map whole_descriptors o.sets)) (no_string n some) ∙ sets_named n some o.sets laid

  front_named : (g : DescriptorFile) → has_wrong_layout g ≡ false
      → names n (front_bytes g) ≡ list_any (λ index. index == n) (flat_map set_string_indices g.sets ++ flat_map set_string_indices (other_sets g.other))
  front_named g laid =
      let parts = or_false (list_any has_no_layout g.sets) (list_any has_no_layout (other_sets g.other)) laid in
      ap (names n) (front_joined g)
      ∙ descriptors_name n (front_descriptors g)
      ∙ ap (λ c. c || list_any (names_string n) (flat_map whole_descriptors g.sets ++ other_descriptors g.other)) (no_string n some)
      ∙ list_any-append (names_string n) (flat_map whole_descriptors g.sets) (other_descriptors g.other)
      ∙ ap₂ ◌||◌ (sets_named n some g.sets parts.0) (others_named g.other parts.1)
      ∙ sym (list_any-append (λ index. index == n) (flat_map set_string_indices g.sets) (flat_map set_string_indices (other_sets g.other)))

  or_three : (a b c d : Bool) → ((a || b || c) || d) ≡ (a || (b || (c || d)))
  or_three true b c d = refl
  or_three false true c d = refl
  or_three false false c d = refl

  all_named : (g : DescriptorFile) → has_wrong_layout g ≡ false → (device_names n (front_bytes g) || names n (front_bytes g)) ≡ list_any (λ index. index == n) (string_indices g)
  all_named g laid =
      let d = g.device in
      ap (λ c. device_names n (front_bytes g) || c) (front_named g laid)
      ∙ or_three (d.maker_text == n) (d.product_text == n) (d.serial_text == n)
      (list_any (λ index. index == n) (flat_map set_string_indices g.sets ++ flat_map set_string_indices (other_sets g.other)))

-- two tests that agree on all numbers but 0
filter_range : (p q : ℕ → Bool) → ((n : ℕ) → 0 < n → p n ≡ q n) → (from count : ℕ) → 0 < from → filter p (range_with_len from count) ≡ filter q (range_with_len from count)
filter_range p q same from zero some = refl
filter_range p q same from (suc count) some =
    let later = filter_range p q same (from + 1) count (omega arith) in
    ap (λ c. if c then from ∷ filter p (range_with_len (from + 1) count) else filter p (range_with_len (from + 1) count)) (same from some)
    ∙ ap (λ xs. if q from then from ∷ xs else xs) later

-- Where the sets have bytes, the strings that these bytes name are those that the file does.
pub named_same : (g : DescriptorFile) → has_wrong_layout g ≡ false → named_by (front_bytes g) ≡ named_indices g
unfolding named_among
named_same g laid =
    filter_range (λ n. device_names n (front_bytes g) || names n (front_bytes g)) (λ n. list_any (λ index. index == n) (string_indices g)) (λ n some. all_named n some g laid) 1 255 (omega arith)
