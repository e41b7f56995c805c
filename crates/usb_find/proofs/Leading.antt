-- Where descriptors lead out of a block.
use Rattle.std.proofs.Common.{◌≡◌, ℕ, ◌+◌, ◌-◌, ◌*◌, ◌/◌, ◌<◌, ◌≤◌, Bool, true, false, List, length, get_or, set, Option, Some, None, refl, sym, ap, subst, ◌∙◌, arith, inl, inr}
use Rattle.std.proofs.lemmas.Bool.{cases_eq}
use Rattle.std.proofs.lemmas.List.{get_or-set_same, get_or-set_other, length-set}
use Rattle.usb_find.specs.declared.walk.Spot.{Spot}
use Rattle.usb_find.specs.declared.ways.Ways.{Ways}
use Rattle.usb_find.specs.inside.Walks.{AreWays, LeadsOut, edge_of, exit_of, next_spot, nowhere, reaches, spot, spot_after, way_of}
use Rattle.usb_find.proofs.Reaching.{onward, stuck}

-- past the edge a spot leads to itself
pub leads_at_once : (b : List ℕ) (edge : ℕ) (s : Spot) → edge ≤ s.place → s.place ≤ edge + 254 → LeadsOut b edge s (Some s)
leads_at_once b edge s past near = (past, near, λ t le. refl)

-- where one descriptor leads to a spot, it leads where that one does
pub leads_later : (b : List ℕ) (edge : ℕ) (s x : Spot) (o : Option Spot) → s.place < edge → next_spot b s ≡ Some x → LeadsOut b edge x o → LeadsOut b edge s o
leads_later b edge s x None below e h = λ t le. onward b s x t (omega (arith, below, le)) e ∙ h t le
leads_later b edge s x (Some y) below e h = (h.0, h.1, λ t le. onward b s x t (omega (arith, below, le)) e ∙ h.2 t le)

pub leads_nowhere : (b : List ℕ) (edge : ℕ) (s : Spot) → s.place < edge → next_spot b s ≡ None → LeadsOut b edge s None
leads_nowhere b edge s below e = λ t le. stuck b s t (omega (arith, below, le)) e

-- what is kept of it is how far it is
pub exit_leads : (b : List ℕ) (edge : ℕ) (s x : Spot) → s.place < edge → LeadsOut b edge s (Some x) → LeadsOut b edge s (spot_after s.place (Some (record { ahead = x.place - s.place; in_setting = x.in_setting })))
exit_leads b edge s x below h =
    let far : x.place ≡ s.place + (x.place - s.place) = omega (arith, below, h.0) in
    subst (λ n. LeadsOut b edge s (Some (spot n x.in_setting))) far h

same_spot : (x : Spot) (base : ℕ) → base ≤ x.place → x ≡ spot (base + (x.place - base)) x.in_setting
same_spot x base le = ap (λ n. spot n x.in_setting) (omega (arith, le))

same_edge : (i j : ℕ) → i ≤ j → j < edge_of i → edge_of j ≡ edge_of i
same_edge i j le below = omega arith

-- where a kept way leads in the block of an index
pub way_within : (b : List ℕ) (base : ℕ) (ways : List Ways) (i : ℕ) (x : Spot) → AreWays b base ways (i + 1) → base + i < x.place → x.place < base + edge_of i → edge_of i ≤ length ways → LeadsOut b (base + edge_of i) x (way_of base ways x)
way_within b base ways i x h after before all =
    let j : ℕ = x.place - base in
    let same = same_spot x base (omega (arith, after)) in
    let edge : edge_of (x.place - base) ≡ edge_of i = same_edge i (x.place - base) (omega (arith, after)) (omega (arith, before, after)) in
    let there = h (x.place - base) x.in_setting (omega (arith, after)) (omega (arith, before, after, all)) in
    subst (λ (z : Spot). LeadsOut b (base + edge_of i) z (way_of base ways z)) (sym same)
    (subst (λ n. LeadsOut b (base + n) (spot (base + (x.place - base)) x.in_setting) (way_of base ways (spot (base + (x.place - base)) x.in_setting))) edge there)

-- where a kept way leads
way_leads : (b : List ℕ) (base : ℕ) (ways : List Ways) (x : Spot) → AreWays b base ways 0 → base ≤ x.place → x.place < base + length ways → LeadsOut b (base + edge_of (x.place - base)) x (way_of base ways x)
way_leads b base ways x h after before =
    subst (λ (z : Spot). LeadsOut b (base + edge_of (x.place - base)) z (way_of base ways z)) (sym (same_spot x base after)) (h (x.place - base) x.in_setting (omega arith) (omega (arith, before, after)))

pub record Hops (b : List ℕ) (base : ℕ) (x y : Spot) (end : ℕ) : Type 0 where
  pub same : reaches b x end ≡ reaches b y end
  pub block : (x.place - base) / 1000 + 1 ≤ (y.place - base) / 1000
  pub after : x.place ≤ y.place

-- a way out of a block before that of the place
pub hops : (b : List ℕ) (base : ℕ) (ways : List Ways) (x y : Spot) (end : ℕ) → AreWays b base ways 0 → base ≤ x.place → base ≤ end → end ≤ base + length ways → (x.place - base) / 1000 < (end - base) / 1000
    → way_of base ways x ≡ Some y → Hops b base x y end
hops b base ways x y end h after le all before e =
    let within : x.place < base + length ways = omega arith in
    let out : LeadsOut b (base + edge_of (x.place - base)) x (Some y) = subst (LeadsOut b (base + edge_of (x.place - base)) x) e (way_leads b base ways x h after within) in
    let edge : base + (((x.place - base) / 1000 + 1) * 1000) ≤ y.place = out.0 in
    record { same = out.2 end (omega arith); block = omega arith; after = omega arith }

pub hops_not : (b : List ℕ) (base : ℕ) (ways : List Ways) (x : Spot) (end : ℕ) → AreWays b base ways 0 → base ≤ x.place → base ≤ end → end ≤ base + length ways → (x.place - base) / 1000 < (end - base) / 1000
    → way_of base ways x ≡ None → reaches b x end ≡ false
hops_not b base ways x end h after le all before e =
    let within : x.place < base + length ways = omega arith in
    let out : LeadsOut b (base + edge_of (x.place - base)) x None = subst (LeadsOut b (base + edge_of (x.place - base)) x) e (way_leads b base ways x h after within) in
    out end (omega arith)

pub from_suc : (b : List ℕ) (base : ℕ) (ways : List Ways) (i : ℕ) → 0 < i → AreWays b base ways i → AreWays b base ways (i - 1 + 1)
from_suc b base ways i some h = subst (AreWays b base ways) (omega (arith, some)) h

-- the way that is kept at an index
kept_at : (b : List ℕ) (base edge : ℕ) (ways : List Ways) (i : ℕ) (s : Bool) (w : Ways) → get_or ways i nowhere ≡ w → LeadsOut b edge (spot (base + i) s) (spot_after (base + i) (exit_of s w))
    → LeadsOut b edge (spot (base + i) s) (way_of base ways (spot (base + i) s))
kept_at b base edge ways i s w e h =
    let at : get_or ways (base + i - base) nowhere ≡ w = ap (λ n. get_or ways n nowhere) (omega arith) ∙ e in
    subst (λ (v : Ways). LeadsOut b edge (spot (base + i) s) (spot_after (base + i) (exit_of s v))) (sym at) h

kept_from : (b : List ℕ) (base edge : ℕ) (ways : List Ways) (i : ℕ) (s : Bool) → LeadsOut b edge (spot (base + i) s) (way_of base ways (spot (base + i) s))
    → LeadsOut b edge (spot (base + i) s) (spot_after (base + i) (exit_of s (get_or ways i nowhere)))
kept_from b base edge ways i s h = subst (λ n. LeadsOut b edge (spot (base + i) s) (spot_after (base + i) (exit_of s (get_or ways n nowhere)))) (omega arith) h

either : (b : List ℕ) (base edge i : ℕ) (s : Bool) (w : Ways) → LeadsOut b edge (spot (base + i) false) (spot_after (base + i) w.outside) → LeadsOut b edge (spot (base + i) true) (spot_after (base + i) w.inside)
    → LeadsOut b edge (spot (base + i) s) (spot_after (base + i) (exit_of s w))
either b base edge i true w out ins = ins
either b base edge i false w out ins = out

-- one way more
pub one_more : (b : List ℕ) (base : ℕ) (ways : List Ways) (i : ℕ) (w : Ways) → i < length ways → AreWays b base ways (i + 1)
    → LeadsOut b (base + edge_of i) (spot (base + i) false) (spot_after (base + i) w.outside) → LeadsOut b (base + edge_of i) (spot (base + i) true) (spot_after (base + i) w.inside)
    → AreWays b base (set ways i w) i
one_more b base ways i w below h out ins = λ k s le less. elim (cases_eq k i) [
  | inl same ↦ subst (λ n. LeadsOut b (base + edge_of n) (spot (base + n) s) (way_of base (set ways i w) (spot (base + n) s))) (sym same)
      (kept_at b base (base + edge_of i) (set ways i w) i s w (get_or-set_same ways i w nowhere below) (either b base (base + edge_of i) i s w out ins))
  | inr other ↦ kept_at b base (base + edge_of k) (set ways i w) k s (get_or ways k nowhere) (get_or-set_other ways i k w nowhere other)
      (kept_from b base (base + edge_of k) ways k s (h k s (omega (arith, le, other)) (omega (arith, less, length-set ways i w))))
]
