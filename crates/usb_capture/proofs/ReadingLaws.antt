-- What is kept of transfers.
use Rattle.std.proofs.Common.{◌≡◌, ℕ, Bool, true, false, not, List, [], ◌∷◌, ◌++◌, refl, sym, ◌∙◌, ap, arith}
use Rattle.std.specs.Prelude.{Option, Some, None, ◌==◌, ◌&&◌, cond, if◌then◌else◌}
use Rattle.std.specs.List.{All, AllByRecursion, Contains, find}
use Rattle.std.specs.Option.{option_or}
use Rattle.std.proofs.lemmas.Bool.Decides.{nat_tests}
use Rattle.std.proofs.lemmas.List.Elements.{All-contains_itself, All-filter, All-head, All-nil, All-push, All-tail, All-weaker}
use Rattle.std.proofs.lemmas.List.Folds.{find-append}
use Rattle.usb_capture.specs.declared.control_transfer.ControlTransfer.{ControlTransfer}
use Rattle.usb_capture.proofs.FilterLemmas.{none_left, still_there}
use Rattle.usb_capture.specs.Readings.{is_again, is_reading, kept_after, kept_with, without_again}

-- what holds of readings holds of what is kept
pub one_more : (P : ControlTransfer → Type 0) (transfer : ControlTransfer) (kept : List ControlTransfer) → All P kept → (is_reading transfer ≡ true → P transfer) → All P (kept_with transfer kept)
one_more P transfer kept each of-it = by (is_reading transfer) refl
  where
    by : (b : Bool) → is_reading transfer ≡ b → All P (if b then without_again transfer kept ++ transfer ∷ [] else kept)
    by true e = All-push P (without_again transfer kept) transfer (All-filter (λ old. not (is_again transfer old)) P kept each) (of-it e)
    by false e = each

kept_all : (P : ControlTransfer → Type 0) (kept transfers : List ControlTransfer) → All P kept → All (λ t. is_reading t ≡ true → P t) transfers → All P (kept_after kept transfers)
kept_all P kept [] each later = each
kept_all P kept (t ∷ transfers) each later =
    kept_all P (kept_with t kept) transfers (one_more P t kept each (All-head (λ t. is_reading t ≡ true → P t) t transfers later)) (All-tail (λ t. is_reading t ≡ true → P t) t transfers later)

pub kept_came : (transfers : List ControlTransfer) → All (λ t. Contains transfers t × (is_reading t ≡ true)) (kept_after [] transfers)
kept_came transfers =
    kept_all (λ t. Contains transfers t × (is_reading t ≡ true)) [] transfers (All-nil (λ t. Contains transfers t × (is_reading t ≡ true)))
    (All-weaker (Contains transfers) (λ t. is_reading t ≡ true → Contains transfers t × (is_reading t ≡ true)) (λ t c r. (c, r)) transfers (All-contains_itself transfers))

-- The last of a descriptor's readings is found.

-- of the same descriptor of the same device
numbers_same : (a b c d a' b' c' d' : ℕ) → (a == a' && b == b' && c == c' && d == d') ≡ true → (a ≡ a') × (b ≡ b') × (c ≡ c') × (d ≡ d')
numbers_same a b c d a' b' c' d' e = (grind (arith, nat_tests), grind (arith, nat_tests), grind (arith, nat_tests), grind (arith, nat_tests))

same_numbers : (a b c d a' b' c' d' : ℕ) → a ≡ a' → b ≡ b' → c ≡ c' → d ≡ d' → (a == a' && b == b' && c == c' && d == d') ≡ true
same_numbers a b c d a' b' c' d' e f g h = grind (arith, nat_tests)

again_itself : (t : ControlTransfer) → is_again t t ≡ true
again_itself t = same_numbers t.bus t.device t.setup.value t.setup.index t.bus t.device t.setup.value t.setup.index refl refl refl refl

again_apart : (t u x : ControlTransfer) → is_again t u ≡ false → is_again t x ≡ true → not (is_again u x) ≡ true
again_apart t u x other same = by (is_again u x) refl
  where
    by : (b : Bool) → is_again u x ≡ b → not b ≡ true
    by false e = refl
    by true e =
        let s = numbers_same x.bus x.device x.setup.value x.setup.index t.bus t.device t.setup.value t.setup.index same in
        let r = numbers_same x.bus x.device x.setup.value x.setup.index u.bus u.device u.setup.value u.setup.index e in
        let w : is_again t u ≡ true = same_numbers u.bus u.device u.setup.value u.setup.index t.bus t.device t.setup.value t.setup.index (sym r.0 ∙ s.0) (sym r.1 ∙ s.1) (sym r.2 ∙ s.2) (sym r.3 ∙ s.3) in
        absurd (let v : ⊥ = cc in v)

found_new : (t : ControlTransfer) (kept : List ControlTransfer) → is_reading t ≡ true → find (is_again t) (kept_with t kept) ≡ Some t
found_new t kept is =
    ap (λ b. find (is_again t) (if b then without_again t kept ++ t ∷ [] else kept)) is
    ∙ find-append (is_again t) (without_again t kept) (t ∷ [])
    ∙ ap (λ o. option_or o (find (is_again t) (t ∷ []))) (none_left (is_again t) (λ old. not (is_again t old)) (λ old e. ap not e) kept)
    ∙ ap (λ b. cond b (Some t) None) (again_itself t)

or_none : (o : Option ControlTransfer) → option_or o None ≡ o
or_none (Some t) = refl
or_none None = refl

found_still : (t u : ControlTransfer) (kept : List ControlTransfer) → is_again t u ≡ false → find (is_again t) (kept_with u kept) ≡ find (is_again t) kept
found_still t u kept other = by (is_reading u)
  where
    by : (b : Bool) → find (is_again t) (if b then without_again u kept ++ u ∷ [] else kept) ≡ find (is_again t) kept
    by false = refl
    by true =
        find-append (is_again t) (without_again u kept) (u ∷ [])
        ∙ ap (λ b. option_or (find (is_again t) (without_again u kept)) (cond b (Some u) None)) other
        ∙ or_none (find (is_again t) (without_again u kept))
        ∙ still_there (is_again t) (λ old. not (is_again u old)) (λ x same. again_apart t u x other same) kept

found_later : (t : ControlTransfer) (kept later : List ControlTransfer) → AllByRecursion (λ u. is_again t u ≡ false) later → find (is_again t) (kept_after kept later) ≡ find (is_again t) kept
found_later t kept [] each = refl
found_later t kept (u ∷ later) each = found_later t (kept_with u kept) later each.1 ∙ found_still t u kept each.0

after_both : (kept xs ys : List ControlTransfer) → kept_after kept (xs ++ ys) ≡ kept_after (kept_after kept xs) ys
after_both kept [] ys = refl
after_both kept (x ∷ xs) ys = after_both (kept_with x kept) xs ys

pub the_last : (before later : List ControlTransfer) (t : ControlTransfer) → is_reading t ≡ true → AllByRecursion (λ u. is_again t u ≡ false) later
    → find (is_again t) (kept_after [] (before ++ t ∷ later)) ≡ Some t
the_last before later t is others =
    ap (find (is_again t)) (after_both [] before (t ∷ later))
    ∙ found_later t (kept_with t (kept_after [] before)) later others
    ∙ found_new t (kept_after [] before) is
