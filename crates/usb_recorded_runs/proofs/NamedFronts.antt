-- Which strings the first bytes of descriptors name that stand one after another.
use Rattle.std.proofs.Common.{◌≡◌, ◌⊎◌, inl, inr, ◌<◌, ◌≤◌, ◌+◌, ◌==◌, ◌||◌, ℕ, Bool, true, false, if◌then◌else◌, List, [], ◌∷◌, ◌++◌, length, take, drop, map, refl, sym, ◌∙◌, ap, subst, arith}
use Rattle.std.specs.Prelude.{Some, None, is_some, slice_index}
use Rattle.std.specs.List.{flat_map, list_any}
use Rattle.std.proofs.lemmas.Bool.{cases_lt, eqb-true, ne_eqb, or_cases, or_left, or_parts, or_right}
use Rattle.std.proofs.lemmas.Grind.{flat_map-append}
use Rattle.std.proofs.lemmas.List.{append-nil, get_or_past}
use Rattle.std.proofs.lemmas.List.Folds.{list_any-append}
use Rattle.usb_set.specs.declared.extra.Association.{Association}
use Rattle.usb_set.specs.declared.extra.Extra.{Extra}
use Rattle.usb_set.specs.declared.extra.Extra.TheVariants as extras
use Rattle.usb_set.specs.declared.extra.Raw.{Raw}
use Rattle.usb_set.specs.declared.tree.Configuration.{Configuration}
use Rattle.usb_set.specs.declared.tree.Endpoint.{Endpoint}
use Rattle.usb_set.specs.declared.tree.SetKind.{SetKind}
use Rattle.usb_set.specs.declared.tree.SetKind.TheVariants as kinds
use Rattle.usb_set.specs.declared.tree.Setting.{Setting}
use Rattle.usb_set.specs.Descriptors.{Descriptor, configuration_descriptor, descriptor_bytes, extra_descriptor, raw_descriptor, type_number}
use Rattle.usb_set.specs.Layout.{endpoint_descriptors, has_typed_raw, is_typed, is_typed_raw, set_descriptors, setting_descriptors}
use Rattle.usb_set.specs.Owners.{association_in, associations_of, setting_extras}
use Rattle.usb_file_data.specs.File.{association_string_index, interface_string_index, set_string_indices}
use Rattle.usb_capture.specs.Findings.{names, string_index}
use Rattle.usb_capture.proofs.NamedLemmas.{names_end, names_step}
use Rattle.usb_recorded_runs.proofs.RefusalLemmas.{front_below}
use Rattle.usb_recorded_runs.proofs.SizeLemmas.{IsFront}
use Rattle.usb_recorded_runs.proofs.TransferLemmas.{front_at}

-- ---- one descriptor

-- The first bytes of a list have a byte of it, or none.
abbrev IsOrNone : ℕ → ℕ → Type 0
IsOrNone x y = (x ≡ 0) ⊎ (x ≡ y)

pub byte_or_none : (front all : List ℕ) (i : ℕ) → IsFront front all → IsOrNone (slice_index front i) (slice_index all i)
byte_or_none front all i is = of (cases_lt i (length front))
  where
    of : (i < length front) ⊎ (length front ≤ i) → IsOrNone (slice_index front i) (slice_index all i)
    of (inl low) = inr (front_at front all i is low)
    of (inr past) = inl (get_or_past front i 0 past)

pub same_byte : (x y n : ℕ) → 0 < n → IsOrNone x y → (x == n) ≡ true → (y == n) ≡ true
same_byte x y n some (inl none) e = absurd (let w : ⊥ = omega (arith, some, none, eqb-true x n e) in w)
same_byte x y n some (inr is) e = subst (λ z. (z == n) ≡ true) is e

-- the index of a string by a descriptor's type, from that of a configuration, of an interface and of an association
abbrev index_by : ℕ → ℕ → ℕ → ℕ → ℕ
index_by kind a b c = if kind == 2 || kind == 7 then a else if kind == 4 then b else if kind == 11 then c else 0

module _ (n : ℕ) (some : 0 < n) where
  chosen : (x y z : Bool) (a b c p q r : ℕ) → IsOrNone a p → IsOrNone b q → IsOrNone c r → ((if x then a else if y then b else if z then c else 0) == n) ≡ true
      → ((if x then p else if y then q else if z then r else 0) == n) ≡ true
  chosen true y z a b c p q r ia ib ic e = same_byte a p n some ia e
  chosen false true z a b c p q r ia ib ic e = same_byte b q n some ib e
  chosen false false true a b c p q r ia ib ic e = same_byte c r n some ic e
  chosen false false false a b c p q r ia ib ic e = e

  never_zero : (0 == n) ≡ false
  never_zero = ne_eqb 0 n (λ e. let w : ⊥ = omega (arith, some, e) in w)

  chosen_by : (k kind a b c p q r : ℕ) → IsOrNone k kind → IsOrNone a p → IsOrNone b q → IsOrNone c r → (index_by k a b c == n) ≡ true
      → (index_by kind p q r == n) ≡ true
  chosen_by k kind a b c p q r (inl none) ia ib ic e =
      absurd (let here : (0 == n) ≡ true = subst (λ k. (index_by k a b c == n) ≡ true) none e in let w : ⊥ = omega (arith, some, eqb-true 0 n here) in w)
  chosen_by k kind a b c p q r (inr is) ia ib ic e =
      chosen (kind == 2 || kind == 7) (kind == 4) (kind == 11) a b c p q r ia ib ic (subst (λ k. (index_by k a b c == n) ≡ true) is e)

  -- What the first bytes of a descriptor name, it names.
  front_named : (front all : List ℕ) → IsFront front all → (string_index front == n) ≡ true → (string_index all == n) ≡ true
  front_named front all is e =
      chosen_by (slice_index front 1) (slice_index all 1) (slice_index front 6) (slice_index front 8) (slice_index front 7)
      (slice_index all 6) (slice_index all 8) (slice_index all 7)
      (byte_or_none front all 1 is) (byte_or_none front all 6 is) (byte_or_none front all 8 is) (byte_or_none front all 7 is) e

  -- ---- descriptors one after another

  abbrev pub names_it : Descriptor → Bool
  names_it d = string_index (descriptor_bytes d) == n

  parts_front : (first front rest later : List ℕ) → front ++ rest ≡ first ++ later
      → IsFront (take (length first) front) first × IsFront (drop (length first) front) later
  parts_front [] front rest later e = (([], refl), (rest, e))
  parts_front (y ∷ first) [] rest later e = ((y ∷ first, refl), (later, refl))
  parts_front (y ∷ first) (x ∷ front) rest later e =
      let same : x ≡ y = ap (λ z. slice_index z 0) e in
      let parts = parts_front first front rest later (ap (drop 1) e) in
      ((parts.0.0, ap (λ z. x ∷ z) parts.0.1 ∙ ap (λ z. z ∷ first) same), parts.1)

  unnamed : (front : List ℕ) → slice_index front 0 ≤ 1 → names n front ≡ true → ⊥
  unnamed front few e = let none : false ≡ true = sym (names_end n front few) ∙ e in cc

  pub named_front : (ds : List Descriptor) (front : List ℕ) → IsFront front (flat_map descriptor_bytes ds) → names n front ≡ true → list_any names_it ds ≡ true
  named_front [] front is e = absurd (unnamed front (omega (arith, front_below front [] 0 is)) e)
  named_front (d ∷ ds) front is e = of (cases_lt 0 (length front)) (λ left there h. named_front ds left there h)
    where
      first : List ℕ
      first = descriptor_bytes d

      later : List ℕ
      later = flat_map descriptor_bytes ds

      by : IsFront (take (length first) front) first → ((string_index (take (length first) front) == n) ≡ true) ⊎ (names n (drop (length first) front) ≡ true)
          → (names n (drop (length first) front) ≡ true → list_any names_it ds ≡ true) → list_any names_it (d ∷ ds) ≡ true
      by here (inl e) there = or_left (names_it d) (list_any names_it ds) (front_named (take (length first) front) first here e)
      by here (inr e) there = or_right (names_it d) (list_any names_it ds) (there e)

      of : (0 < length front) ⊎ (length front ≤ 0) → ((left : List ℕ) → IsFront left later → names n left ≡ true → list_any names_it ds ≡ true)
          → list_any names_it (d ∷ ds) ≡ true
      of (inr none) there = absurd (unnamed front (omega (arith, get_or_past front 0 0 none)) e)
      of (inl low) there =
          let says : slice_index front 0 ≡ 2 + length d.body = front_at front (flat_map descriptor_bytes (d ∷ ds)) 0 is low in
          let size : slice_index front 0 ≡ length first = omega (arith, says) in
          let both : (string_index (take (length first) front) == n || names n (drop (length first) front)) ≡ true =
          subst (λ m. (string_index (take m front) == n || names n (drop m front)) ≡ true) size (sym (names_step n front (omega (arith, says))) ∙ e) in
          let parts = parts_front first front is.0 later is.1 in
          by parts.0 (or_cases (string_index (take (length first) front) == n) (names n (drop (length first) front)) both)
          (there (drop (length first) front) parts.1)

  alone : (b : Bool) → (b || false) ≡ true → b ≡ true
  alone true e = refl
  alone false e = e

  -- no string is named by a descriptor that has no index of one
  pub plain_named : (kind : ℕ) (body front : List ℕ) → string_index (descriptor_bytes (record { kind = kind; body = body })) ≡ 0
      → IsFront front (descriptor_bytes (record { kind = kind; body = body })) → names n front ≡ true → ⊥
  plain_named kind body front plain is e =
      let d : Descriptor = record { kind = kind; body = body } in
      let all = named_front (d ∷ []) front (subst (IsFront front) (sym (append-nil (descriptor_bytes d))) is) e in
      let here : (0 == n) ≡ true = alone (0 == n) (ap (λ i. (i == n) || false) (sym plain) ∙ all) in
      omega (arith, some, eqb-true 0 n here)

  -- ---- the descriptors of a set

  abbrev associated : Association → Bool
  associated a = a.text == n

  raw_kind : (two four five seven eleven : Bool) (a b c : ℕ)
      → is_some {T = ℕ}
      (if two then Some 9 else if four then Some 9 else if five then Some 7 else if seven then Some 9 else if eleven then Some 8 else None) ≡ false
      → ((if two || seven then a else if four then b else if eleven then c else 0) == n) ≡ false
  raw_kind false false false false false a b c e = never_zero
  raw_kind true four five seven eleven a b c e = absurd (let w : ⊥ = cc in w)
  raw_kind false true five seven eleven a b c e = absurd (let w : ⊥ = cc in w)
  raw_kind false false true seven eleven a b c e = absurd (let w : ⊥ = cc in w)
  raw_kind false false false true eleven a b c e = absurd (let w : ⊥ = cc in w)
  raw_kind false false false false true a b c e = absurd (let w : ⊥ = cc in w)

  raw_unnamed : (r : Raw) → is_typed r.kind ≡ false → names_it (raw_descriptor r) ≡ false
  raw_unnamed r plain =
      let b = descriptor_bytes (raw_descriptor r) in
      raw_kind (r.kind == 2) (r.kind == 4) (r.kind == 5) (r.kind == 7) (r.kind == 11) (slice_index b 6) (slice_index b 8) (slice_index b 7) plain

  extras_named : (xs : List Extra) → list_any is_typed_raw xs ≡ false
      → list_any names_it (map extra_descriptor xs) ≡ list_any associated (flat_map association_in xs)
  extras_named [] right = refl
  extras_named (extras.Raw r ∷ xs) right =
      let parts = or_parts (is_typed r.kind) (list_any is_typed_raw xs) right in
      ap (λ here. here || list_any names_it (map extra_descriptor xs)) (raw_unnamed r parts.0) ∙ extras_named xs parts.1
  extras_named (extras.Association a ∷ xs) right = ap (λ later. (a.text == n) || later) (extras_named xs right)

  -- extras and then others
  with_extras : (xs others : List Extra) (ds : List Descriptor) (rest : Bool) → list_any is_typed_raw (xs ++ others) ≡ false
      → (list_any is_typed_raw others ≡ false → list_any names_it ds ≡ (rest || list_any associated (flat_map association_in others)))
      → list_any names_it (map extra_descriptor xs ++ ds) ≡ (rest || list_any associated (flat_map association_in (xs ++ others)))
  with_extras xs others ds rest right later =
      let parts = or_parts (list_any is_typed_raw xs) (list_any is_typed_raw others) (sym (list_any-append is_typed_raw xs others) ∙ right) in
      let first = list_any associated (flat_map association_in xs) in
      let last = list_any associated (flat_map association_in others) in
      list_any-append names_it (map extra_descriptor xs) ds
      ∙ ap (λ b. b || list_any names_it ds) (extras_named xs parts.0)
      ∙ ap (λ b. first || b) (later parts.1)
      ∙ turned first rest last
      ∙ ap (λ b. rest || b) (sym (list_any-append associated (flat_map association_in xs) (flat_map association_in others))
      ∙ ap (list_any associated) (sym (flat_map-append association_in xs others)))
    where
      turned : (a b c : Bool) → (a || (b || c)) ≡ (b || (a || c))
      turned true true c = refl
      turned true false c = refl
      turned false b c = refl

  endpoints_named : (es : List Endpoint) → list_any is_typed_raw (flat_map (λ e. e.extras) es) ≡ false
      → list_any names_it (flat_map endpoint_descriptors es) ≡ list_any associated (flat_map association_in (flat_map (λ e. e.extras) es))
  endpoints_named [] right = refl
  endpoints_named (e ∷ es) right =
      ap (λ here. here || list_any names_it (map extra_descriptor e.extras ++ flat_map endpoint_descriptors es)) never_zero
      ∙ with_extras e.extras (flat_map (λ e. e.extras) es) (flat_map endpoint_descriptors es) false right (endpoints_named es)

  settings_named : (ss : List Setting) → list_any is_typed_raw (flat_map setting_extras ss) ≡ false
      → list_any names_it (flat_map setting_descriptors ss)
      ≡ (list_any (λ s. s.text == n) ss || list_any associated (flat_map association_in (flat_map setting_extras ss)))
  settings_named [] right = refl
  settings_named (s ∷ ss) right =
      let later = flat_map setting_extras ss in
      let own = flat_map (λ e. e.extras) s.endpoints in
      let texts = list_any (λ s. s.text == n) ss in
      let parts = or_parts (list_any is_typed_raw (s.extras ++ own)) (list_any is_typed_raw later)
      (sym (list_any-append is_typed_raw (s.extras ++ own) later) ∙ right) in
      let here : list_any names_it (map extra_descriptor s.extras ++ flat_map endpoint_descriptors s.endpoints)
      ≡ list_any associated (flat_map association_in (s.extras ++ own)) =
      with_extras s.extras own (flat_map endpoint_descriptors s.endpoints) false parts.0 (endpoints_named s.endpoints) in
      ap (λ b. (s.text == n) || b)
      (list_any-append names_it (map extra_descriptor s.extras ++ flat_map endpoint_descriptors s.endpoints) (flat_map setting_descriptors ss)
      ∙ ap (λ b. b || list_any names_it (flat_map setting_descriptors ss)) here
      ∙ ap (λ b. list_any associated (flat_map association_in (s.extras ++ own)) || b) (settings_named ss parts.1))
      ∙ turned (s.text == n) (list_any associated (flat_map association_in (s.extras ++ own))) texts (list_any associated (flat_map association_in later))
      ∙ ap (λ b. ((s.text == n) || texts) || b)
      (sym (list_any-append associated (flat_map association_in (s.extras ++ own)) (flat_map association_in later))
      ∙ ap (list_any associated) (sym (flat_map-append association_in (s.extras ++ own) later)))
    where
      turned : (t x u y : Bool) → (t || (x || (u || y))) ≡ ((t || u) || (x || y))
      turned true x u y = refl
      turned false true true y = refl
      turned false true false y = refl
      turned false false u y = refl

  configuration_named : (c : Configuration) (total : ℕ) → names_it (configuration_descriptor c total) ≡ (c.text == n)
  configuration_named c total = of c.kind
    where
      of : (kind : SetKind) → (index_by (type_number kind) c.text c.power c.attributes == n) ≡ (c.text == n)
      of kinds.Configuration = refl
      of kinds.OtherSpeed = refl

  any_map : {A : Type 0} (g : A → ℕ) (xs : List A) → list_any (λ i. i == n) (map g xs) ≡ list_any (λ x. g x == n) xs
  any_map g [] = refl
  any_map g (x ∷ xs) = ap (λ b. (g x == n) || b) (any_map g xs)

  -- A set names the strings whose indices stand in it.
  pub set_named : (c : Configuration) (total : ℕ) → has_typed_raw c ≡ false
      → list_any names_it (set_descriptors c total) ≡ list_any (λ i. i == n) (set_string_indices c)
  set_named c total right =
      let texts = map interface_string_index c.settings in
      let others = map association_string_index (associations_of c) in
      ap (λ b. b || list_any names_it (map extra_descriptor c.extras ++ flat_map setting_descriptors c.settings)) (configuration_named c total)
      ∙ ap (λ b. (c.text == n) || b)
      (with_extras c.extras (flat_map setting_extras c.settings) (flat_map setting_descriptors c.settings)
      (list_any (λ s. s.text == n) c.settings) right (settings_named c.settings)
      ∙ sym (list_any-append (λ i. i == n) texts others
      ∙ ap (λ b. b || list_any (λ i. i == n) others) (any_map interface_string_index c.settings)
      ∙ ap (λ b. list_any (λ s. s.text == n) c.settings || b) (any_map association_string_index (associations_of c))))
