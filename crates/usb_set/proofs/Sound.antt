-- What reading answers is so.
use Rattle.std.proofs.Common.{◌≡◌, ℕ, ◌+◌, ◌-◌, ◌*◌, ◌/◌, ◌%◌, ◌<◌, ◌≤◌, Bool, true, false, cond, eqb, ◌||◌, List, [], ◌∷◌, ◌++◌, length, drop, get_or, Some, None, refl, sym, ap, subst, ◌∙◌, append_assoc, length-append, length-drop, arith, inl, inr}
use Rattle.std.specs.List.{flat_map, list_any}
use Rattle.std.proofs.lemmas.Bool.{eqb-true, eqb-false, cond-true, cond-false, cases_Bool, or_from}
use Rattle.std.proofs.lemmas.List.{append-nil}
use Rattle.std.proofs.lemmas.List.Folds.{list_any-append}
use Rattle.usb_set.specs.declared.tree.SetKind.TheVariants as kinds
use Rattle.usb_set.specs.declared.tree.Configuration.{Configuration}
use Rattle.usb_set.specs.declared.fault.SetWhy.{SetWhy}
use Rattle.usb_fields.specs.Bytes.{AreBytes}
use Rattle.usb_set.specs.Descriptors.{Descriptor, descriptor_bytes, configuration_descriptor, type_number}
use Rattle.usb_set.specs.Layout.{later_descriptors, set_bytes, is_long}
use Rattle.usb_set.specs.Faults.{is_whole, is_set_type, header_fault, item_fault, total_of, is_interface, joined, IsHeader, AreItems, Reaches, Faulty, Begins}
use Rattle.usb_set.specs.Building.{has_setting}
use Rattle.usb_set.specs.inside.Reading.{Reading, first, later, whole, faulty, step, reads, reading_of, after_first, after_later, goes_on, attach, configuration_of, first_byte}
use Rattle.usb_set.proofs.ByteByByte.{header_fault-more, header_long, whole_length, option_cases, item_fault-first, fine_length}
use Rattle.usb_set.proofs.Stands.{header_within, item_within}
use Rattle.usb_set.proofs.Growth.{flat_map-snoc, IsLegal, later_descriptors-attach, attach-head, legal-attach, has_setting-attach, low_byte, high_byte, not_long}

pub bytes-parts : (a b : List ℕ) → AreBytes (a ++ b) → AreBytes a × AreBytes b
bytes-parts [] b h = (tt, h)
bytes-parts (x ∷ a) b h = let r = bytes-parts a b h.1 in ((h.0, r.0), r.1)

-- ---- more bytes change neither a layout nor a fault

pub Begins-more : (b ys : List ℕ) (c : Configuration) (place : ℕ) → Begins b c place → Begins (b ++ ys) c place
Begins-more b ys c place h = record {
  front = h.front;
  rest = h.rest ++ ys;
  parts = ap (λ (z : List ℕ). z ++ ys) h.parts ∙ append_assoc h.front h.rest ys;
  layout = h.layout;
  ends = h.ends;
}

pub Reaches-more : (b ys header : List ℕ) (items : List Descriptor) (place : ℕ) (rest : List ℕ) → Reaches b header items place rest → Reaches (b ++ ys) header items place (rest ++ ys)
Reaches-more b ys header items place rest h = record {
  is_header = h.is_header;
  are_items = h.are_items;
  parts = ap (λ (z : List ℕ). z ++ ys) h.parts ∙ append_assoc (header ++ joined items) rest ys;
  ends = h.ends;
  before_end = h.before_end;
}

pub item_fault-more : (room : ℕ) (in_setting : Bool) (a b : List ℕ) (why : SetWhy) → item_fault room in_setting a ≡ Some why → item_fault room in_setting (a ++ b) ≡ Some why
item_fault-more room in_setting [] b why e = absurd cc
item_fault-more room in_setting (len ∷ []) [] why e = e
item_fault-more room in_setting (len ∷ []) (kind ∷ b) why e = item_fault-first room in_setting len kind b why e
item_fault-more room in_setting (len ∷ kind ∷ a) b why e = e

pub Faulty-more : (b ys : List ℕ) (place : ℕ) (why : SetWhy) → Faulty b place why → Faulty (b ++ ys) place why
Faulty-more b ys place why (inl e) = inl (header_fault-more b ys (place, why) e)
Faulty-more b ys place why (inr h) = inr (record {
  header = h.header;
  items = h.items;
  rest = h.rest ++ ys;
  reaches = Reaches-more b ys h.header h.items place h.rest h.reaches;
  fault = item_fault-more (total_of h.header - place) (list_any is_interface h.items) h.rest ys why h.fault;
})

-- ---- what holds of what was read

pub record SoundFirst (b cur : List ℕ) : Type 0 where
  pub same : b ≡ cur
  pub fine : header_fault cur ≡ None
  pub short : length cur < first_byte cur

-- the set so far is that of the header and the items
pub record Holds (header : List ℕ) (items : List Descriptor) (c : Configuration) (total : ℕ) : Type 0 where
  pub is_total : total ≡ total_of header
  pub head : descriptor_bytes (configuration_descriptor c total) ≡ header
  pub later : later_descriptors c ≡ items
  pub legal : IsLegal c
  pub in_setting : has_setting c ≡ list_any is_interface items

pub bytes_held : (header : List ℕ) (items : List Descriptor) (c : Configuration) (total : ℕ) → Holds header items c total → set_bytes c total ≡ header ++ joined items
bytes_held header items c total h =
    ap (λ (z : List ℕ). z ++ flat_map descriptor_bytes (later_descriptors c)) h.head ∙ ap (λ (z : List Descriptor). header ++ flat_map descriptor_bytes z) h.later

pub record SoundLater (b : List ℕ) (c : Configuration) (total place : ℕ) (cur : List ℕ) : Type 0 where
  pub header : List ℕ
  pub items : List Descriptor
  pub holds : Holds header items c total
  pub reaches : Reaches b header items place cur
  pub fine : item_fault (total - place) (has_setting c) cur ≡ None
  pub short : length cur < first_byte cur

abbrev pub Sound : List ℕ → Reading → Type 0
Sound b (first cur) = SoundFirst b cur
Sound b (later c total place cur) = SoundLater b c total place cur
Sound b (whole c place) = Begins b c place
Sound b (faulty place why) = Faulty b place why

pub total_short : (header : List ℕ) → AreBytes header → 4 ≤ length header → total_of header ≤ 65535
total_short [] fits n = absurd (omega arith)
total_short (a ∷ []) fits n = absurd (omega arith)
total_short (a ∷ b ∷ []) fits n = absurd (omega arith)
total_short (a ∷ b ∷ c ∷ []) fits n = absurd (omega arith)
total_short (a ∷ b ∷ c ∷ d ∷ rest) fits n = omega (arith, fits.1.1.0, fits.1.1.1.0)

sound_on : (b header : List ℕ) (items : List Descriptor) (c : Configuration) (total place : ℕ) → AreBytes b → IsHeader header → AreItems (total_of header - length header) false items → b ≡ header ++ joined items
    → place ≡ length header + length (joined items) → place ≤ total → Holds header items c total → Sound b (goes_on c total place)
unfolding goes_on
sound_on b header items c total place fits is_header are_items parts ends within holds =
    elim (cases_Bool (eqb place total)) [
      | inl y ↦
          let at_end : place ≡ total = eqb-true place total y in
          let all : length b ≡ total = omega (arith, ap length parts, length-append header (joined items)) in
          let header_bytes : AreBytes header = (bytes-parts header (joined items) (subst AreBytes parts fits)).0 in
          let long : 9 ≤ length header = header_long header is_header.no_fault is_header.whole in
          let found : Begins b c place = record {
            front = b;
            rest = [];
            parts = sym (append-nil b);
            layout = record {
              bytes = parts ∙ sym (bytes_held header items c total holds) ∙ ap (set_bytes c) (sym all);
              fits = fits;
              within_255 = holds.legal.within_255;
              raws_are_raw = holds.legal.raws_are_raw;
              short = omega (arith, total_short header header_bytes (omega arith), holds.is_total);
            };
            ends = omega arith;
          } in
          subst (Sound b) (sym (cond-true (eqb place total) (whole c place) (later c total place []) y)) found
      | inr n ↦
          let lt : place < total = omega (arith, eqb-false place total n) in
          let found : SoundLater b c total place [] = record {
            header = header;
            items = items;
            holds = holds;
            reaches = record { is_header = is_header; are_items = are_items; parts = parts ∙ sym (append-nil (header ++ joined items)); ends = ends; before_end = omega (arith, holds.is_total) };
            fine = refl;
            short = omega arith;
          } in
          subst (Sound b) (sym (cond-false (eqb place total) (whole c place) (later c total place []) n)) found
    ]

-- a descriptor that is neither too long so far nor whole goes on
pub still_short : (cur : List ℕ) (x : ℕ) → length cur < first_byte cur → 2 ≤ first_byte (cur ++ x ∷ []) → is_whole (cur ++ x ∷ []) ≡ false → length (cur ++ x ∷ []) < first_byte (cur ++ x ∷ [])
still_short [] x short two n = omega (arith, eqb-false 1 x n)
still_short (len ∷ cur) x short two n = omega (arith, length-append cur (x ∷ []), eqb-false (length (cur ++ x ∷ []) + 1) len n)

-- ---- the first descriptor

pub kind_is : (kind : ℕ) → is_set_type kind ≡ true → type_number (cond (eqb kind 2) kinds.Configuration kinds.OtherSpeed) ≡ kind
kind_is kind e =
    elim (cases_Bool (eqb kind 2)) [
      | inl y ↦ ap type_number (cond-true (eqb kind 2) _ _ y) ∙ sym (eqb-true kind 2 y)
      | inr n ↦ ap type_number (cond-false (eqb kind 2) _ _ n) ∙ sym (eqb-true kind 7 (ap (λ t. t || eqb kind 7) (sym n) ∙ e))
    ]

header_type : (len kind low high : ℕ) (rest : List ℕ) → header_fault (len ∷ kind ∷ low ∷ high ∷ rest) ≡ None → is_set_type kind ≡ true
header_type len kind low high rest e =
    elim (cases_Bool (is_set_type kind)) [
      | inl y ↦ y
      | inr n ↦ absurd (no_type len kind low high rest n e)
    ]
  where
    no_type : (len kind low high : ℕ) (rest : List ℕ) → is_set_type kind ≡ false → header_fault (len ∷ kind ∷ low ∷ high ∷ rest) ≡ None → ⊥
    no_type len kind low high rest n e = grind arith

header_bytes-9 : (len kind low high i v t a p : ℕ) (tail : List ℕ) → low < 256 → len ≡ 2 + (7 + length tail) → type_number (cond (eqb kind 2) kinds.Configuration kinds.OtherSpeed) ≡ kind
    → descriptor_bytes (configuration_descriptor (configuration_of (len ∷ kind ∷ low ∷ high ∷ i ∷ v ∷ t ∷ a ∷ p ∷ tail)) (low + 256 * high)) ≡ len ∷ kind ∷ low ∷ high ∷ i ∷ v ∷ t ∷ a ∷ p ∷ tail
header_bytes-9 len kind low high i v t a p tail lt is_len is_kind =
    ap (λ n. n ∷ type_number (cond (eqb kind 2) kinds.Configuration kinds.OtherSpeed) ∷ (low + 256 * high) % 256 ∷ (low + 256 * high) / 256 ∷ i ∷ v ∷ t ∷ a ∷ p ∷ tail) (omega (arith, is_len))
    ∙ ap (λ n. len ∷ n ∷ (low + 256 * high) % 256 ∷ (low + 256 * high) / 256 ∷ i ∷ v ∷ t ∷ a ∷ p ∷ tail) is_kind
    ∙ ap (λ n. len ∷ kind ∷ n ∷ (low + 256 * high) / 256 ∷ i ∷ v ∷ t ∷ a ∷ p ∷ tail) (low_byte low high lt)
    ∙ ap (λ n. len ∷ kind ∷ low ∷ n ∷ i ∷ v ∷ t ∷ a ∷ p ∷ tail) (high_byte low high lt)

header_bytes : (h : List ℕ) → AreBytes h → IsHeader h → 9 ≤ length h → descriptor_bytes (configuration_descriptor (configuration_of h) (total_of h)) ≡ h
header_bytes [] fits is n = absurd (omega arith)
header_bytes (a ∷ []) fits is n = absurd (omega arith)
header_bytes (a ∷ b ∷ []) fits is n = absurd (omega arith)
header_bytes (a ∷ b ∷ c ∷ []) fits is n = absurd (omega arith)
header_bytes (a ∷ b ∷ c ∷ d ∷ []) fits is n = absurd (omega arith)
header_bytes (a ∷ b ∷ c ∷ d ∷ e ∷ []) fits is n = absurd (omega arith)
header_bytes (a ∷ b ∷ c ∷ d ∷ e ∷ f ∷ []) fits is n = absurd (omega arith)
header_bytes (a ∷ b ∷ c ∷ d ∷ e ∷ f ∷ g ∷ []) fits is n = absurd (omega arith)
header_bytes (a ∷ b ∷ c ∷ d ∷ e ∷ f ∷ g ∷ h ∷ []) fits is n = absurd (omega arith)
header_bytes (len ∷ kind ∷ low ∷ high ∷ i ∷ v ∷ t ∷ a ∷ p ∷ tail) fits is n =
    header_bytes-9 len kind low high i v t a p tail fits.1.1.0 (omega (arith, eqb-true _ len is.whole)) (kind_is kind (header_type len kind low high (i ∷ v ∷ t ∷ a ∷ p ∷ tail) is.no_fault))

header_legal : (h : List ℕ) → AreBytes h → IsHeader h → IsLegal (configuration_of h)
header_legal [] fits is = absurd (let e = is.whole in cc)
header_legal (len ∷ h) fits is =
    let n : length (len ∷ h) ≡ len = whole_length (len ∷ h) is.whole in
    let c = configuration_of (len ∷ h) in
    record {
      within_255 = or_from (is_long (configuration_descriptor (configuration_of (len ∷ h)) 0)) false
          (not_long (length (configuration_descriptor (configuration_of (len ∷ h)) 0).body) 253 (omega (arith, fits.0, length-drop 9 (len ∷ h)))) refl;
      raws_are_raw = refl;
    }

holds_first : (h : List ℕ) → AreBytes h → IsHeader h → Holds h [] (configuration_of h) (total_of h)
holds_first h fits is = record {
  is_total = refl;
  head = header_bytes h fits is (header_long h is.no_fault is.whole);
  later = refl;
  legal = header_legal h fits is;
  in_setting = refl;
}

-- ---- one more descriptor

AreItems-snoc : (room : ℕ) (in_setting : Bool) (items : List Descriptor) (item : Descriptor) → AreItems room in_setting items
    → item_fault (room - length (joined items)) (in_setting || list_any is_interface items) (descriptor_bytes item) ≡ None → AreItems room in_setting (items ++ item ∷ [])
AreItems-snoc room in_setting [] item h e =
    let all : room ≡ room - length (joined []) = omega arith in
    (ap (λ s. item_fault room s (descriptor_bytes item)) (plain in_setting) ∙ ap (λ n. item_fault n (in_setting || false) (descriptor_bytes item)) all ∙ e, tt)
  where
    plain : (s : Bool) → s ≡ (s || false)
    plain true = refl
    plain false = refl
AreItems-snoc room in_setting (x ∷ items) item h e =
    let less : room - length (joined (x ∷ items)) ≡ room - length (descriptor_bytes x) - length (joined items) = omega (arith, length-append (descriptor_bytes x) (joined items)) in (
      h.0,
      AreItems-snoc (room - length (descriptor_bytes x)) (in_setting || is_interface x) items item h.1
          (rw (← less, regroup in_setting (is_interface x) (list_any is_interface items)) e),
    )
  where
    regroup : (a b c : Bool) → ((a || b) || c) ≡ (a || (b || c))
    regroup true b c = refl
    regroup false b c = refl

snoc_any : (items : List Descriptor) (item : Descriptor) → list_any is_interface (items ++ item ∷ []) ≡ (list_any is_interface items || is_interface item)
snoc_any items item = list_any-append is_interface items (item ∷ []) ∙ ap (λ s. list_any is_interface items || s) (plain (is_interface item))
  where
    plain : (s : Bool) → (s || false) ≡ s
    plain true = refl
    plain false = refl

item_bytes : (cur : List ℕ) → is_whole cur ≡ true → 2 ≤ length cur → descriptor_bytes (record { kind = get_or cur 1 0; body = drop 2 cur }) ≡ cur
item_bytes [] e n = absurd (omega arith)
item_bytes (len ∷ []) e n = absurd (omega arith)
item_bytes (len ∷ kind ∷ body) e n = ap (λ x. x ∷ kind ∷ body) (omega (arith, eqb-true (length (kind ∷ body) + 1) len e))

pub fine_two : (room : ℕ) (in_setting : Bool) (cur : List ℕ) → item_fault room in_setting cur ≡ None → 2 ≤ first_byte cur
fine_two room in_setting [] e = omega arith
fine_two room in_setting (len ∷ []) e = fine_length room in_setting len e
fine_two room in_setting (len ∷ kind ∷ rest) e = grind arith

pub fine_nine : (cur : List ℕ) → header_fault cur ≡ None → 2 ≤ first_byte cur
fine_nine [] e = omega arith
fine_nine (len ∷ []) e = grind arith
fine_nine (len ∷ kind ∷ []) e = grind arith
fine_nine (len ∷ kind ∷ low ∷ []) e = grind arith
fine_nine (len ∷ kind ∷ low ∷ high ∷ rest) e = grind arith

-- ---- one more byte

sound_first : (b cur : List ℕ) (x : ℕ) → AreBytes (b ++ x ∷ []) → SoundFirst b cur → Sound (b ++ x ∷ []) (step (first cur) x)
unfolding step
sound_first b cur x fits h =
    let new = cur ++ x ∷ [] in
    let same : b ++ x ∷ [] ≡ cur ++ x ∷ [] = ap (λ (z : List ℕ). z ++ x ∷ []) h.same in
    elim (option_cases (header_fault (cur ++ x ∷ []))) [
      | inl none ↦ elim (cases_Bool (is_whole (cur ++ x ∷ []))) [
        | inl y ↦
            let header : IsHeader (cur ++ x ∷ []) = record { whole = y; no_fault = none } in
            let fits2 : AreBytes (cur ++ x ∷ []) = subst AreBytes same fits in
            let long : 9 ≤ length (cur ++ x ∷ []) = header_long (cur ++ x ∷ []) none y in
            subst (Sound (b ++ x ∷ [])) (sym (ap (after_first (cur ++ x ∷ [])) none ∙ cond-true (is_whole (cur ++ x ∷ [])) _ _ y))
            (sound_on (b ++ x ∷ []) (cur ++ x ∷ []) [] (configuration_of (cur ++ x ∷ [])) (total_of (cur ++ x ∷ [])) (length (cur ++ x ∷ [])) fits header tt
            (same ∙ sym (append-nil (cur ++ x ∷ []))) (omega arith)
            (omega (arith, header_within (cur ++ x ∷ []) none (omega arith), whole_length (cur ++ x ∷ []) y)) (holds_first (cur ++ x ∷ []) fits2 header))
        | inr n ↦
            let found : SoundFirst (b ++ x ∷ []) (cur ++ x ∷ []) = record { same = same; fine = none; short = still_short cur x h.short (fine_nine (cur ++ x ∷ []) none) n } in
            subst (Sound (b ++ x ∷ [])) (sym (ap (after_first (cur ++ x ∷ [])) none ∙ cond-false (is_whole (cur ++ x ∷ [])) _ _ n)) found
      ]
      | inr some ↦
          let found : Faulty (b ++ x ∷ []) some.0.0 some.0.1 = inl (ap header_fault same ∙ some.1) in
          subst (Sound (b ++ x ∷ [])) (sym (ap (after_first (cur ++ x ∷ [])) some.1)) found
    ]

sound_later : (b : List ℕ) (c : Configuration) (total place : ℕ) (cur : List ℕ) (x : ℕ) → AreBytes (b ++ x ∷ []) → SoundLater b c total place cur → Sound (b ++ x ∷ []) (step (later c total place cur) x)
unfolding step
sound_later b c total place cur x fits h =
    let parts : b ++ x ∷ [] ≡ (h.header ++ joined h.items) ++ (cur ++ x ∷ []) = ap (λ (z : List ℕ). z ++ x ∷ []) h.reaches.parts ∙ append_assoc (h.header ++ joined h.items) cur (x ∷ []) in
    let reaches : Reaches (b ++ x ∷ []) h.header h.items place (cur ++ x ∷ []) = record { is_header = h.reaches.is_header; are_items = h.reaches.are_items; parts = parts; ends = h.reaches.ends; before_end = h.reaches.before_end } in
    elim (option_cases (item_fault (total - place) (has_setting c) (cur ++ x ∷ []))) [
      | inl none ↦ elim (cases_Bool (is_whole (cur ++ x ∷ []))) [
        | inl y ↦
            let item : Descriptor = record { kind = get_or (cur ++ x ∷ []) 1 0; body = drop 2 (cur ++ x ∷ []) } in
            let two : 2 ≤ length (cur ++ x ∷ []) = omega (arith, fine_two (total - place) (has_setting c) (cur ++ x ∷ []) none, whole_length (cur ++ x ∷ []) y) in
            let is_item : descriptor_bytes item ≡ cur ++ x ∷ [] = item_bytes (cur ++ x ∷ []) y two in
            let cur_fits : AreBytes (descriptor_bytes item) = subst AreBytes (sym is_item) (bytes-parts (h.header ++ joined h.items) (cur ++ x ∷ []) (subst AreBytes parts fits)).1 in
            let fine : item_fault (total - place) (has_setting c) (descriptor_bytes item) ≡ None = ap (item_fault (total - place) (has_setting c)) is_item ∙ none in
            let room : total - place ≡ total_of h.header - length h.header - length (joined h.items) = omega (arith, h.holds.is_total, h.reaches.ends) in
            let more : joined (h.items ++ item ∷ []) ≡ joined h.items ++ descriptor_bytes item = flat_map-snoc descriptor_bytes h.items item in
            let holds : Holds h.header (h.items ++ item ∷ []) (attach c item) total = record {
              is_total = h.holds.is_total;
              head = ap descriptor_bytes (attach-head c item total) ∙ h.holds.head;
              later = later_descriptors-attach c (total - place) item fine cur_fits.1.1 ∙ ap (λ (z : List Descriptor). z ++ item ∷ []) h.holds.later;
              legal = legal-attach c (total - place) item h.holds.legal fine cur_fits.1.1 (omega (arith, cur_fits.0));
              in_setting = has_setting-attach c item ∙ ap (λ s. s || is_interface item) h.holds.in_setting ∙ sym (snoc_any h.items item);
            } in
            subst (Sound (b ++ x ∷ [])) (sym (ap (after_later c total place (cur ++ x ∷ [])) none ∙ cond-true (is_whole (cur ++ x ∷ [])) _ _ y))
            (sound_on (b ++ x ∷ []) h.header (h.items ++ item ∷ []) (attach c item) total (place + length (cur ++ x ∷ [])) fits h.reaches.is_header
            (AreItems-snoc (total_of h.header - length h.header) false h.items item h.reaches.are_items
            (ap (λ n. item_fault n (list_any is_interface h.items) (descriptor_bytes item)) (sym room) ∙ ap (λ s. item_fault (total - place) s (descriptor_bytes item)) (sym h.holds.in_setting) ∙ fine))
            (parts ∙ append_assoc h.header (joined h.items) (cur ++ x ∷ []) ∙ ap (λ (z : List ℕ). h.header ++ (joined h.items ++ z)) (sym is_item) ∙ ap (λ (z : List ℕ). h.header ++ z) (sym more))
            (omega (arith, h.reaches.ends, ap length more, length-append (joined h.items) (descriptor_bytes item), ap length is_item))
            (omega (arith, item_within (total - place) (has_setting c) (cur ++ x ∷ []) none y, h.reaches.before_end, h.holds.is_total))
            holds)
        | inr n ↦
            let found : SoundLater (b ++ x ∷ []) c total place (cur ++ x ∷ []) = record {
              header = h.header;
              items = h.items;
              holds = h.holds;
              reaches = reaches;
              fine = none;
              short = still_short cur x h.short (fine_two (total - place) (has_setting c) (cur ++ x ∷ []) none) n;
            } in
            subst (Sound (b ++ x ∷ [])) (sym (ap (after_later c total place (cur ++ x ∷ [])) none ∙ cond-false (is_whole (cur ++ x ∷ [])) _ _ n)) found
      ]
      | inr some ↦
          let found : Faulty (b ++ x ∷ []) place some.0 = inr (record {
            header = h.header;
            items = h.items;
            rest = cur ++ x ∷ [];
            reaches = reaches;
            fault = ap (λ n. item_fault (n - place) (list_any is_interface h.items) (cur ++ x ∷ [])) (sym h.holds.is_total) ∙ ap (λ s. item_fault (total - place) s (cur ++ x ∷ [])) (sym h.holds.in_setting) ∙ some.1;
          }) in
          subst (Sound (b ++ x ∷ [])) (sym (ap (after_later c total place (cur ++ x ∷ [])) some.1)) found
    ]

sound_step : (b : List ℕ) (s : Reading) (x : ℕ) → AreBytes (b ++ x ∷ []) → Sound b s → Sound (b ++ x ∷ []) (step s x)
unfolding step
sound_step b (first cur) x fits h = sound_first b cur x fits h
sound_step b (later c total place cur) x fits h = sound_later b c total place cur x fits h
sound_step b (whole c place) x fits h = Begins-more b (x ∷ []) c place h
sound_step b (faulty place why) x fits h = Faulty-more b (x ∷ []) place why h

sound_reads : (b xs : List ℕ) (s : Reading) → AreBytes (b ++ xs) → Sound b s → Sound (b ++ xs) (reads s xs)
sound_reads b [] s fits h = subst (λ (z : List ℕ). Sound z s) (sym (append-nil b)) h
sound_reads b (x ∷ xs) s fits h =
    let p : (b ++ x ∷ []) ++ xs ≡ b ++ x ∷ xs = append_assoc b (x ∷ []) xs in
    let fits2 : AreBytes ((b ++ x ∷ []) ++ xs) = subst AreBytes (sym p) fits in
    subst (λ (z : List ℕ). Sound z (reads (step s x) xs)) p
    (sound_reads (b ++ x ∷ []) xs (step s x) fits2 (sound_step b s x (bytes-parts (b ++ x ∷ []) xs fits2).0 h))

pub sound : (b : List ℕ) → AreBytes b → Sound b (reading_of b)
sound b fits = sound_reads [] b (first []) fits (record { same = refl; fine = refl; short = omega arith })
