-- A set among bytes, from its place on.
use Rattle.std.proofs.Common.{◌≡◌, ℕ, ◌+◌, ◌-◌, ◌<◌, ◌≤◌, true, false, eqb, List, length, take, drop, slice_index, sym, ap, subst, ◌∙◌, arith, length-drop}
use Rattle.std.proofs.lemmas.Bool.{leb-true, and_parts}
use Rattle.std.proofs.lemmas.List.{drop-drop}
use Rattle.usb_set.specs.Faults.{is_set_type, total_of}
use Rattle.usb_find.specs.inside.Seeking.{are_items, has_header}
use Rattle.usb_find.specs.inside.Bounds.{IsTotal}
use Rattle.usb_find.specs.inside.Walks.{reaches, spot}
use Rattle.usb_find.proofs.Reaching.{within}
use Rattle.usb_find.proofs.Seeking.{broken, read_whole}

pub record Room (b : List ℕ) (place : ℕ) : Type 0 where
  pub least : 9 ≤ total_of (drop place b)
  pub most : place + total_of (drop place b) ≤ length b

-- a header says how many bytes there are
pub room : (b : List ℕ) (place : ℕ) → place < length b → has_header (drop place b) ≡ true → Room b place
unfolding has_header
room b place below e =
    let p = and_parts (eqb (slice_index (drop place b) 0) 9) _ e in
    let q = and_parts (is_set_type (slice_index (drop place b) 1)) _ p.1 in
    let r = and_parts _ _ q.1 in
    let most = leb-true (total_of (drop place b)) (length (drop place b)) r.1 in
    record { least = leb-true 9 (total_of (drop place b)) r.0; most = omega (arith, below, most, length-drop place b) }

items : (b : List ℕ) (place : ℕ) → Room b place → reaches b (spot (place + 9) false) (place + total_of (drop place b)) ≡ are_items 0 false (take (total_of (drop place b) - 9) (drop 9 (drop place b)))
items b place h =
    let count : place + total_of (drop place b) - (place + 9) ≡ total_of (drop place b) - 9 = omega (arith, h.least) in
    within b (spot (place + 9) false) (place + total_of (drop place b)) (omega (arith, h.least)) h.most
    ∙ ap (λ n. are_items 0 false (take n (drop (place + 9) b))) count
    ∙ ap (λ (z : List ℕ). are_items 0 false (take (total_of (drop place b) - 9) z)) (sym (drop-drop 9 place b))

-- what its total says
pub headed : (b : List ℕ) (place n : ℕ) → place < length b → n < 65536 → n ≡ total_of (drop place b) → has_header (drop place b) ≡ true → IsTotal b place n
headed b place n below small same e =
    let h = room b place below e in
    let is : IsTotal b place (total_of (drop place b)) = record {
      least = h.least;
      most = omega (arith, small, same);
      within = h.most;
      whole = λ y. read_whole (drop place b) e (sym (items b place h) ∙ y);
      broken = λ t. broken (drop place b) e (sym (items b place h) ∙ t);
    } in
    subst (IsTotal b place) (sym same) is
