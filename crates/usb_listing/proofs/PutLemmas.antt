-- Bytes put into a buffer, one after another.
use Rattle.std.proofs.Common.{◌≤◌, Bool, drop, zero, suc, ◌≡◌, ◌≢◌, ℕ, ◌+◌, ◌%◌, ◌<◌, List, [], ◌∷◌, ◌++◌, Some, None, length, take, slice_set, refl, ap, sym, ◌∙◌, append_assoc, arith}
use Rattle.std.proofs.lemmas.List.{length-set, length-take-le, take_more_set}
use Rattle.usb_fields.specs.declared.field.Width.TheVariants.{One, Two}
use Rattle.usb_listing.specs.inside.Fields.{PutsCell, bytes_in, cell_of, cells_from, ended, pairs_of, with_length}
use Rattle.usb_fields.specs.declared.field.Width.{Width}
use Rattle.usb_listing.proofs.DecodeLemmas.{odd_none}

pub put_one : (text old rest : List ℕ) (at x : ℕ) → cell_of One text ≡ Some (x ∷ [], rest) → at < length old → PutsCell One text old at (slice_set old at x) (at + 1) rest
put_one text old rest at x e lt = record {
  cell = x ∷ [];
  read = e;
  size = refl;
  puts = record { front = take_more_set old at x lt; ends = refl; count = length-set old at x };
}

pub put_two : (text old rest : List ℕ) (at x y : ℕ) → cell_of Two text ≡ Some (x ∷ y ∷ [], rest) → at + 1 < length old
    → PutsCell Two text old at (slice_set (slice_set old at x) (at + 1) y) (at + 2) rest
put_two text old rest at x y e lt = record {
  cell = x ∷ y ∷ [];
  read = e;
  size = refl;
  puts = record {
    front =
        let two : at + 1 + 1 ≡ at + 2 = omega arith in
        let n = length-set old at x in
        ap (λ k. take k (slice_set (slice_set old at x) (at + 1) y)) (sym two)
        ∙ take_more_set (slice_set old at x) (at + 1) y (omega (arith, n, lt))
        ∙ ap (λ front. front ++ y ∷ []) (take_more_set old at x (omega (arith, lt)))
        ∙ append_assoc (take at old) (x ∷ []) (y ∷ []);
    ends = refl;
    count = length-set (slice_set old at x) (at + 1) y ∙ length-set old at x;
  };
}

pub no_pairs : (digits : List ℕ) → length digits % 2 ≢ 0 → pairs_of digits ≡ None
no_pairs digits odd = sym (odd_none digits odd)

-- ---- bLength

head_set : (new : List ℕ) (end y : ℕ) → 0 < end → end ≤ length new → take end (slice_set new 0 y) ≡ y ∷ drop 1 (take end new)
head_set new zero y some within = absurd (omega arith)
head_set [] (suc end) y some within = absurd (omega (arith, within))
head_set (x ∷ new) (suc end) y some within = refl

-- bytes behind a front that was put, with their count in front of them
pub length_put : (front : List ℕ) (widths : List Width) (tail : Bool) (text mid new : List ℕ) (end : ℕ) → take (length front) mid ≡ front
    → ended tail (cells_from widths (take (length front) mid) text) ≡ Some (take end new) → 0 < length front → length front ≤ end → end ≤ length new
    → bytes_in front widths tail text ≡ Some (take end (slice_set new 0 end))
unfolding bytes_in
length_put front widths tail text mid new end is read some least within =
    ap (λ (done : List ℕ). with_length (ended tail (cells_from widths done text))) (sym is) ∙ ap with_length read
    ∙ ap (λ (n : ℕ). Some (n ∷ drop 1 (take end new))) (length-take-le end new within)
    ∙ ap Some (sym (head_set new end end (omega (arith, some, least)) within))

pub nothing_put : (front : List ℕ) (widths : List Width) (tail : Bool) (text mid : List ℕ) → take (length front) mid ≡ front
    → ended tail (cells_from widths (take (length front) mid) text) ≡ None → bytes_in front widths tail text ≡ None
unfolding bytes_in
nothing_put front widths tail text mid is none = ap (λ (done : List ℕ). with_length (ended tail (cells_from widths done text))) (sym is) ∙ ap with_length none
