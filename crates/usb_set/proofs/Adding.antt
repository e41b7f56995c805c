-- A set that is built descriptor by descriptor.
use Rattle.std.proofs.Common.{◌≡◌, ℕ, ◌+◌, ◌*◌, ◌≤◌, ◌||◌, Bool, true, false, List, [], ◌∷◌, ◌++◌, length, drop, slice_index, None, refl, sym, ap, subst, append_assoc, append-nil, ◌∙◌, arith}
use Rattle.std.specs.List.{AllByRecursion}
use Rattle.std.proofs.lemmas.Bool.{eqb-true}
use Rattle.usb_fields.specs.Bytes.{AreBytes}
use Rattle.usb_set.specs.declared.tree.Configuration.{Configuration}
use Rattle.usb_set.specs.Building.{Accepts, AcceptsAll, Adds, BeginsWith, IsOneMore, has_setting}
use Rattle.usb_set.specs.Layout.{AllFieldsFit, FieldsFit, has_typed_raw, later_descriptors}
use Rattle.usb_set.specs.Descriptors.{Descriptor, configuration_descriptor, descriptor_bytes}
use Rattle.usb_set.specs.Faults.{is_interface, is_set_type, is_whole, item_fault}
use Rattle.usb_set.specs.inside.Reading.{attach, configuration_of}
use Rattle.usb_set.proofs.Growth.{attach-head, has_setting-attach, later_descriptors-attach, low_byte, high_byte, typed-attach}
use Rattle.usb_set.proofs.Complete.{attached}
use Rattle.usb_set.proofs.Items.{bare, items_again}
use Rattle.usb_set.proofs.Layouts.{AllFine, configuration_again, fine_fault, fine_items}
use Rattle.usb_set.proofs.Sound.{kind_is}

-- the descriptor that whole bytes are
whole_is : (b : List ℕ) → 2 ≤ length b → is_whole b ≡ true → descriptor_bytes (record { kind = slice_index b 1; body = drop 2 b }) ≡ b
whole_is [] n e = absurd (omega arith)
whole_is (len ∷ []) n e = absurd (omega arith)
whole_is (len ∷ kind ∷ body) n e =
    let is = eqb-true (length (kind ∷ body) + 1) len e in
    let same : 2 + length body ≡ len = omega (arith, is) in
    ap (λ k. k ∷ kind ∷ body) same

-- whole bytes without fault are two at least
two_long : (room : ℕ) (s : Bool) (b : List ℕ) → is_whole b ≡ true → item_fault room s b ≡ None → 2 ≤ length b
two_long room s [] e fine = cc
two_long room s (len ∷ rest) e fine = grind arith

pub add_is : (c : Configuration) (b : List ℕ) (room : ℕ) → AreBytes b → is_whole b ≡ true → item_fault room (has_setting c) b ≡ None
    → Adds c b (attach c (record { kind = slice_index b 1; body = drop 2 b }))
add_is c [] room fits e fine = absurd cc
add_is c (len ∷ []) room fits e fine = absurd (omega (arith, two_long room (has_setting c) (len ∷ []) e fine))
add_is c (len ∷ kind ∷ body) room fits e fine =
    let item : Descriptor = record { kind = kind; body = body } in
    let bytes : descriptor_bytes item ≡ len ∷ kind ∷ body = whole_is (len ∷ kind ∷ body) (omega arith) e in
    let shown : item_fault room (has_setting c) (descriptor_bytes item) ≡ None = ap (item_fault room (has_setting c)) bytes ∙ fine in
    record { item = item; bytes = bytes; head = attach-head c item; later = later_descriptors-attach c room item shown fits.1.1 }

pub add_typed : (c : Configuration) (b : List ℕ) (room : ℕ) → is_whole b ≡ true → item_fault room (has_setting c) b ≡ None → has_typed_raw c ≡ false
    → has_typed_raw (attach c (record { kind = slice_index b 1; body = drop 2 b })) ≡ false
add_typed c b room e fine raws =
    let item : Descriptor = record { kind = slice_index b 1; body = drop 2 b } in
    let shown : item_fault room (has_setting c) (descriptor_bytes item) ≡ None =
    ap (item_fault room (has_setting c)) (whole_is b (two_long room (has_setting c) b e fine) e) ∙ fine in
    typed-attach c room item raws shown

pub begin_is : (b : List ℕ) → AreBytes b → 9 ≤ length b → is_whole b ≡ true → is_set_type (slice_index b 1) ≡ true → BeginsWith b (configuration_of b)
begin_is [] fits n e t = absurd (omega arith)
begin_is (len ∷ []) fits n e t = absurd (omega arith)
begin_is (len ∷ kind ∷ []) fits n e t = absurd (omega arith)
begin_is (len ∷ kind ∷ low ∷ []) fits n e t = absurd (omega arith)
begin_is (len ∷ kind ∷ low ∷ high ∷ []) fits n e t = absurd (omega arith)
begin_is (len ∷ kind ∷ low ∷ high ∷ p ∷ []) fits n e t = absurd (omega arith)
begin_is (len ∷ kind ∷ low ∷ high ∷ p ∷ q ∷ []) fits n e t = absurd (omega arith)
begin_is (len ∷ kind ∷ low ∷ high ∷ p ∷ q ∷ r ∷ []) fits n e t = absurd (omega arith)
begin_is (len ∷ kind ∷ low ∷ high ∷ p ∷ q ∷ r ∷ s ∷ []) fits n e t = absurd (omega arith)
begin_is (len ∷ kind ∷ low ∷ high ∷ p ∷ q ∷ r ∷ s ∷ u ∷ tail) fits n e t =
    let is = eqb-true (length (kind ∷ low ∷ high ∷ p ∷ q ∷ r ∷ s ∷ u ∷ tail) + 1) len e in
    let count : 2 + length (low ∷ high ∷ p ∷ q ∷ r ∷ s ∷ u ∷ tail) ≡ len = omega (arith, is) in
    record {
      total = low + 256 * high;
      head = rw (kind_is kind t, low_byte low high fits.1.1.0, high_byte low high fits.1.1.0) (ap (λ (l : ℕ). l ∷ kind ∷ low ∷ high ∷ p ∷ q ∷ r ∷ s ∷ u ∷ tail) count);
      later = refl;
    }

-- equal first descriptors, whatever wTotalLength is, and equal later ones
pub same_tree : (c d : Configuration) (m n : ℕ) → has_typed_raw c ≡ false → has_typed_raw d ≡ false → configuration_descriptor c m ≡ configuration_descriptor d n
    → later_descriptors c ≡ later_descriptors d → c ≡ d
same_tree c d m n hc hd head later =
    let bares : bare c ≡ bare d = sym (configuration_again c m) ∙ ap (λ (x : Descriptor). configuration_of (descriptor_bytes x)) head ∙ configuration_again d n in
    sym (items_again c hc) ∙ ap (attached (bare c)) later ∙ ap (λ (x : Configuration). attached x (later_descriptors d)) bares ∙ items_again d hd

pub one_tree : (c d : Configuration) → has_typed_raw c ≡ false → has_typed_raw d ≡ false → configuration_descriptor c 0 ≡ configuration_descriptor d 0
    → later_descriptors c ≡ later_descriptors d → c ≡ d
one_tree c d = same_tree c d 0 0

-- ---- descriptors that are accepted one after another

pub accepted : (items : List Descriptor) (c : Configuration) → AllFine (has_setting c) items → AllByRecursion FieldsFit items → has_typed_raw c ≡ false → AcceptsAll c items (attached c items)
accepted [] c fine fits raws = refl
accepted (item ∷ items) c fine fits raws =
    let shown = fine_fault (length (descriptor_bytes item)) (has_setting c) item fine.0 (omega arith) in
    let next : Accepts c item (attach c item) = record {
      fine = shown;
      adds = record { item = item; bytes = refl; head = attach-head c item; later = later_descriptors-attach c (length (descriptor_bytes item)) item shown fits.0.1 };
      raws = typed-attach c (length (descriptor_bytes item)) item raws shown;
    } in
    let more = subst (λ (s : Bool). AllFine s items) (sym (has_setting-attach c item)) fine.1 in
    (attach c item, next, accepted items (attach c item) more fits.1 next.raws)

pub same_descriptor : (d e : Descriptor) → descriptor_bytes d ≡ descriptor_bytes e → d ≡ e
same_descriptor d e is = ap (λ (b : List ℕ). record { kind = slice_index b 1; body = drop 2 b }) is

-- the set that accepted the items has them after those of the old one
pub record Gained (old : Configuration) (items : List Descriptor) (new : Configuration) : Type 0 where
  pub head : (total : ℕ) → configuration_descriptor new total ≡ configuration_descriptor old total
  pub later : later_descriptors new ≡ later_descriptors old ++ items
  pub raws : has_typed_raw new ≡ false

pub gained : (items : List Descriptor) (old new : Configuration) → has_typed_raw old ≡ false → AcceptsAll old items new → Gained old items new
gained [] old new raws is = record {
  head = λ total. ap (λ (c : Configuration). configuration_descriptor c total) is;
  later = ap later_descriptors is ∙ sym (append-nil (later_descriptors old));
  raws = ap has_typed_raw is ∙ raws;
}
gained (item ∷ items) old new raws (next, one, all) =
    let more = gained items next new one.raws all in
    record {
      head = λ total. more.head total ∙ one.adds.head total;
      later = more.later
          ∙ ap (λ (ds : List Descriptor). ds ++ items) (one.adds.later ∙ ap (λ (d : Descriptor). later_descriptors old ++ d ∷ []) (same_descriptor one.adds.item item one.adds.bytes))
          ∙ append_assoc (later_descriptors old) (item ∷ []) items;
      raws = more.raws;
    }

-- ---- a set without its last descriptor

fine_front : (s : Bool) (xs ys : List Descriptor) → AllFine s (xs ++ ys) → AllFine s xs
fine_front s [] ys h = tt
fine_front s (x ∷ xs) ys h = (h.0, fine_front (s || is_interface x) xs ys h.1)

fit_front : (xs ys : List Descriptor) → AllByRecursion FieldsFit (xs ++ ys) → AllByRecursion FieldsFit xs
fit_front [] ys h = tt
fit_front (x ∷ xs) ys h = (h.0, fit_front xs ys h.1)

pub one_less : (c : Configuration) (ds : List Descriptor) (d : Descriptor) → has_typed_raw c ≡ false → AllFieldsFit c → later_descriptors c ≡ ds ++ d ∷ [] → IsOneMore c ds d
one_less c ds d raws fits is =
    let fine = subst (AllFine false) is (fine_items c raws) in
    let fit = subst (AllByRecursion FieldsFit) is fits.1 in
    let first = gained ds (bare c) (attached (bare c) ds) refl (accepted ds (bare c) (fine_front false ds (d ∷ []) fine) (fit_front ds (d ∷ []) fit) refl) in
    record { before = attached (bare c) ds; head = first.head; later = first.later; raws = first.raws }
