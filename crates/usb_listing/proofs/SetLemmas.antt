-- A set that begins, and one with one more descriptor.
use Rattle.std.proofs.Common.{◌≡◌, ℕ, ◌+◌, ◌≤◌, eqb, Bool, true, false, List, [], ◌∷◌, ◌++◌, map, None, length, drop, slice_index, refl, ap, sym, subst, ◌∙◌, append-nil, length-append, arith}
use Rattle.std.specs.List.{flat_map}
use Rattle.std.proofs.lemmas.Bool.{eq-eqb, ne_eqb, or_from}
use Rattle.std.proofs.lemmas.Bool.Decides.{nat_tests}
use Rattle.std.proofs.lemmas.List.Concat.{flat_map-append}
use Rattle.usb_fields.specs.Bytes.{AreBytes}
use Rattle.usb_set.specs.declared.extra.Extra.TheVariants as extras
use Rattle.usb_set.specs.declared.tree.SetKind.{SetKind}
use Rattle.usb_set.specs.declared.tree.SetKind.TheVariants as kinds
use Rattle.usb_set.specs.declared.tree.Configuration.{Configuration}
use Rattle.usb_set.specs.Building.{has_setting}
use Rattle.usb_set.specs.Descriptors.{Descriptor, configuration_descriptor, descriptor_bytes, type_number}
use Rattle.usb_set.specs.Layout.{set_length, has_typed_raw, is_typed, later_descriptors, set_descriptors}
use Rattle.usb_set.specs.Faults.{is_set_type, is_whole, item_fault, least_length}
use Rattle.usb_set.specs.inside.Reading.{attach, configuration_of}
use Rattle.usb_set.proofs.ExtraLemmas.{is_extra}
use Rattle.usb_set.proofs.Growth.{attach-head, later_descriptors-attach, typed-attach}
use Rattle.usb_set.proofs.Layouts.{fine_fault}
use Rattle.usb_listing.specs.declared.word.Word.{Word}
use Rattle.usb_listing.specs.declared.word.ExtraWord.{ExtraWord}
use Rattle.usb_listing.specs.Table.{extra_row, extra_word}
use Rattle.usb_listing.specs.declared.word.Word.TheVariants as words
use Rattle.usb_listing.specs.declared.word.ExtraWord.TheVariants as extra
use Rattle.usb_listing.specs.Says.{IsItem, Item, fields}
use Rattle.usb_listing.specs.Order.{set_item, set_items, type_word}
use Rattle.usb_listing.specs.inside.Drafts.{IsFirst, Joins}
use Rattle.usb_listing.specs.inside.Growing.{set_and}

-- ---- the first descriptor

-- the word of a set's first descriptor
abbrev pub set_word : SetKind → Word
set_word kinds.Configuration = words.Configuration
set_word kinds.OtherSpeed = words.OtherSpeed

-- its bytes, by its body
abbrev first_bytes : SetKind → List ℕ → List ℕ
first_bytes kind body = (4 + length body) ∷ type_number kind ∷ 0 ∷ 0 ∷ body

-- the set that these bytes begin
pub record Begins (kind : SetKind) (b : List ℕ) : Type 0 where
  pub head : descriptor_bytes (configuration_descriptor (configuration_of b) 0) ≡ b
  pub kind_is : (configuration_of b).kind ≡ kind
  pub first : IsFirst b
  pub count : set_length (configuration_of b) ≡ length b

begins_body : (kind : SetKind) (body : List ℕ) → 5 ≤ length body → Begins kind (first_bytes kind body)
begins_body kind [] few = absurd (omega (arith, few))
begins_body kind (p ∷ []) few = absurd (omega (arith, few))
begins_body kind (p ∷ q ∷ []) few = absurd (omega (arith, few))
begins_body kind (p ∷ q ∷ r ∷ []) few = absurd (omega (arith, few))
begins_body kind (p ∷ q ∷ r ∷ s ∷ []) few = absurd (omega (arith, few))
begins_body kinds.Configuration (p ∷ q ∷ r ∷ s ∷ u ∷ tail) few = record {
  head = ap (λ (n : ℕ). n ∷ 2 ∷ 0 ∷ 0 ∷ p ∷ q ∷ r ∷ s ∷ u ∷ tail) (omega arith);
  kind_is = refl;
  first = record { long = omega arith; whole = eq-eqb _ _ (omega arith); kind = refl };
  count = let n = ap length (append-nil tail) in omega (arith, n);
}
begins_body kinds.OtherSpeed (p ∷ q ∷ r ∷ s ∷ u ∷ tail) few = record {
  head = ap (λ (n : ℕ). n ∷ 7 ∷ 0 ∷ 0 ∷ p ∷ q ∷ r ∷ s ∷ u ∷ tail) (omega arith);
  kind_is = refl;
  first = record { long = omega arith; whole = eq-eqb _ _ (omega arith); kind = refl };
  count = let n = ap length (append-nil tail) in omega (arith, n);
}

pub begins : (kind : SetKind) (b : List ℕ) → IsItem (fields (set_word kind) b) → Begins kind b
begins kinds.Configuration b is = subst (Begins kinds.Configuration) (sym is.1.whole) (begins_body kinds.Configuration is.1.body is.1.fills)
begins kinds.OtherSpeed b is = subst (Begins kinds.OtherSpeed) (sym is.1.whole) (begins_body kinds.OtherSpeed is.1.body is.1.fills)

pub lone_items : (kind : SetKind) (b : List ℕ) → Begins kind b → set_items (configuration_of b) ≡ fields (set_word kind) b ∷ []
lone_items kind b g =
    let word_is : type_word (type_number (configuration_of b).kind) ≡ set_word kind = ap (λ (k : SetKind). type_word (type_number k)) g.kind_is ∙ by_kind kind in
    ap (λ (w : Word). fields w (descriptor_bytes (configuration_descriptor (configuration_of b) 0)) ∷ []) word_is ∙ ap (λ (xs : List ℕ). fields (set_word kind) xs ∷ []) g.head
  where
    by_kind : (k : SetKind) → type_word (type_number k) ≡ set_word k
    by_kind kinds.Configuration = refl
    by_kind kinds.OtherSpeed = refl

-- ---- a later descriptor

-- what it is of its bytes
pub record Later (w : Word) (b : List ℕ) : Type 0 where
  pub kind : ℕ
  pub body : List ℕ
  pub is : b ≡ (2 + length body) ∷ kind ∷ body
  pub fits : AreBytes body
  pub word_is : type_word kind ≡ w
  pub set_type : is_set_type kind ≡ false
  pub long : least_length kind ≤ 2 + length body

-- a word of descriptors behind the first
abbrev pub IsInner : Word → Type 0
IsInner words.Interface = Unit {0}
IsInner words.Endpoint = Unit {0}
IsInner (words.Extra x) = Unit {0}
IsInner w = ⊥

pub raw_word : (kind : ℕ) → is_typed kind ≡ false → type_word kind ≡ words.Extra extra.Raw
raw_word kind e = grind (arith, nat_tests)

-- a type that has a word of its own is the one that the line leaves out, and else a set gives it no meaning
pub word_kind : (x : ExtraWord) (kind : ℕ) → extra_word kind ≡ x → (x ≡ extra.Raw → ⊥) → kind ≡ slice_index (extra_row x).front 0
word_kind extra.Raw kind e other = absurd (other refl)
word_kind x kind e other = grind (arith, nat_tests)

pub no_word : (kind : ℕ) → extra_word kind ≡ extra.Raw → is_set_type kind ≡ false → eqb kind 4 ≡ false → eqb kind 5 ≡ false → is_typed kind ≡ false
no_word kind e set four five = grind (arith, nat_tests)

later_raw : (b body : List ℕ) → b ≡ (1 + length body) ∷ body → 1 ≤ length body → AreBytes b → is_typed (slice_index b 1) ≡ false → Later (words.Extra extra.Raw) b
later_raw b [] whole some fits untyped = absurd (omega (arith, some))
later_raw b (kind ∷ body) whole some fits untyped =
    let unknown : is_typed kind ≡ false = ap (λ (xs : List ℕ). is_typed (slice_index xs 1)) (sym whole) ∙ untyped in
    let is = is_extra (extras.Raw (record { kind = kind; body = body })) unknown in
    let bytes = subst AreBytes whole fits in
    let count : 1 + length (kind ∷ body) ≡ 2 + length body = omega arith in
    record {
      kind = kind;
      body = body;
      is = whole ∙ ap (λ (n : ℕ). n ∷ kind ∷ body) count;
      fits = bytes.1.1;
      word_is = raw_word kind unknown;
      set_type = or_from (eqb kind 2) (eqb kind 7) (ne_eqb kind 2 is.ownerless.two) (ne_eqb kind 7 is.ownerless.seven);
      long = is.long;
    }

pub later : (w : Word) (b : List ℕ) → IsItem (fields w b) → IsInner w → Later w b
later words.Interface b is inner =
    record { kind = 4; body = is.1.body; is = is.1.whole; fits = (subst AreBytes is.1.whole is.0).1.1; word_is = refl; set_type = refl; long = let n = is.1.fills in omega (arith, n) }
later words.Endpoint b is inner =
    record { kind = 5; body = is.1.body; is = is.1.whole; fits = (subst AreBytes is.1.whole is.0).1.1; word_is = refl; set_type = refl; long = let n = is.1.fills in omega (arith, n) }
later (words.Extra extra.Raw) b is inner = later_raw b is.1.body is.1.whole is.1.fills is.0 is.2
later (words.Extra x) b is inner =
    record { kind = slice_index (extra_row x).front 0; body = is.1.body; is = is.1.whole; fits = (subst AreBytes is.1.whole is.0).1.1; word_is = refl; set_type = refl; long = let n = is.1.fills in omega (arith, n) }
later w b is inner = absurd inner

-- the descriptor
abbrev pub descriptor : {w : Word} {b : List ℕ} → Later w b → Descriptor
descriptor l = record { kind = l.kind; body = l.body }

-- it has no fault where there is an interface before an endpoint
no_fault : (w : Word) (b : List ℕ) (l : Later w b) (room : ℕ) (s : Bool) → 2 + length l.body ≤ room → (l.kind ≡ 5 → s ≡ true) → item_fault room s (descriptor_bytes (descriptor l)) ≡ None
no_fault w b l room s few belongs = fine_fault room s (descriptor l) (record { type_fits = l.set_type; long = l.long; belongs = belongs }) few

-- ---- the set with it

pub set_and_is : (w : Word) (b : List ℕ) (l : Later w b) (c : Configuration) → set_and b c ≡ attach c (descriptor l)
unfolding set_and
set_and_is w b l c = ap (λ (xs : List ℕ). attach c (record { kind = slice_index xs 1; body = drop 2 xs })) l.is

pub joins : (w : Word) (b : List ℕ) (l : Later w b) (c : Configuration) → (l.kind ≡ 5 → has_setting c ≡ true) → has_typed_raw c ≡ false → Joins b c
joins w b l c belongs raws = record {
  whole = ap is_whole l.is ∙ eq-eqb _ _ (omega arith);
  fine = subst (λ (xs : List ℕ). item_fault (length xs) (has_setting c) xs ≡ None) (sym l.is)
      (no_fault w b l (length ((2 + length l.body) ∷ l.kind ∷ l.body)) (has_setting c) (omega arith) belongs);
  raws = raws;
}

-- what is so of it
pub record Joined (c new : Configuration) (item : Item) (n : ℕ) : Type 0 where
  pub items : set_items new ≡ set_items c ++ item ∷ []
  pub raws : has_typed_raw new ≡ false
  pub head : configuration_descriptor new 0 ≡ configuration_descriptor c 0
  pub count : set_length new ≡ set_length c + n

pub map-push : {A B : Type 0} (f : A → B) (xs : List A) (x : A) → map f (xs ++ x ∷ []) ≡ map f xs ++ f x ∷ []
map-push f [] x = refl
map-push f (y ∷ xs) x = ap (λ (zs : List _). f y ∷ zs) (map-push f xs x)

pub joined : (w : Word) (b : List ℕ) (l : Later w b) (c : Configuration) → (l.kind ≡ 5 → has_setting c ≡ true) → has_typed_raw c ≡ false → Joined c (set_and b c) (fields w b) (length b)
joined w b l c belongs raws = subst (λ (new : Configuration). Joined c new (fields w b) (length b)) (sym (set_and_is w b l c)) made
  where
    made : Joined c (attach c (descriptor l)) (fields w b) (length b)
    made =
        let d = descriptor l in
        let shown = no_fault w b l (2 + length l.body) (has_setting c) (omega arith) belongs in
        let head = attach-head c d 0 in
        let more : set_descriptors (attach c d) 0 ≡ set_descriptors c 0 ++ d ∷ [] =
        ap (λ (x : Descriptor). x ∷ later_descriptors (attach c d)) head ∙ ap (λ (xs : List Descriptor). configuration_descriptor c 0 ∷ xs) (later_descriptors-attach c _ d shown l.fits) in
        let item : set_item d ≡ fields w b = ap (λ (v : Word). fields v (descriptor_bytes d)) l.word_is ∙ ap (fields w) (sym l.is) in
        let bytes = flat_map-append descriptor_bytes (set_descriptors c 0) (d ∷ []) in
        let n = length-append (flat_map descriptor_bytes (set_descriptors c 0)) (descriptor_bytes d ++ []) in
        let k = ap length (append-nil (descriptor_bytes d)) in
        let m = ap length l.is in
        let both : set_length (attach c d) ≡ length (flat_map descriptor_bytes (set_descriptors c 0) ++ (descriptor_bytes d ++ [])) = ap (λ (ds : List Descriptor). length (flat_map descriptor_bytes ds)) more ∙ ap length bytes in
        record {
          items = ap (map set_item) more ∙ map-push set_item (set_descriptors c 0) d ∙ ap (λ (x : Item). set_items c ++ x ∷ []) item;
          raws = typed-attach c _ d raws shown;
          head = head;
          count = omega (arith, both, n, k, m);
        }
