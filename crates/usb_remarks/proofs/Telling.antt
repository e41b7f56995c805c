-- The findings of a descriptor.
use Rattle.std.proofs.Common.{◌≡◌, ◌<◌, ◌≤◌, ◌⊎◌, ℕ, suc, ◌+◌, ◌==◌, Bool, true, false, cond, List, [], ◌∷◌, ◌++◌, drop, get_or, length, map, take, inl, inr, refl, ap, sym, subst, ◌∙◌, arith, length-append}
use Rattle.std.specs.List.{AllByRecursion, prefix_len, take_while}
use Rattle.std.proofs.Math.Seq.{drop-append_seam, drop-cons}
use Rattle.std.proofs.lemmas.Bool.{cond-false, cond-true, eq-eqb, eqb-true, ne_eqb}
use Rattle.std.proofs.lemmas.List.{take-append-drop}
use Rattle.std.proofs.lemmas.List.Folds.{length-prefix_len}
use Rattle.std.proofs.lemmas.List.Sums.{take_while-cons}
use Rattle.usb_file_data.specs.declared.cause.Found.{Found}
use Rattle.usb_file_data.specs.Causes.{Broken}
use Rattle.usb_file_data.specs.Findings.{found, found_from}
use Rattle.usb_walk.specs.declared.position.Position.{Position}
use Rattle.usb_walk.specs.declared.role.Role.{Role}
use Rattle.usb_remarks.specs.declared.outline_state.OutlineState.{OutlineState}
use Rattle.usb_remarks.specs.Findings.{IsAtPlace, found_at, is_here}

-- the next finding is one of the descriptor
pub one_on : (s : OutlineState) (found : List Found) (i : ℕ) (f : Found) → i < length found → is_here s (get_or found i f) ≡ true
    → length (take_while (is_here s) (drop i found)) ≡ length (take_while (is_here s) (drop (i + 1) found)) + 1
one_on s found i f below here_is =
    let here = is_here s in
    let x = get_or found i f in
    let rest : suc i ≡ i + 1 = omega arith in
    let next : drop i found ≡ x ∷ drop (i + 1) found = drop-cons found i f below ∙ ap (λ n. x ∷ drop n found) rest in
    let tells : take_while here (drop i found) ≡ x ∷ take_while here (drop (i + 1) found) =
    ap (λ l. take_while here l) next ∙ take_while-cons here x (drop (i + 1) found) ∙ cond-true (here x) _ _ here_is in
    ap (λ (l : List Found). length l) tells ∙ omega arith

-- the findings of a descriptor, and those that are left behind them, are those that were left before
pub found_front : (s : OutlineState) (found : List Found) → found_at s found ++ drop (length (found_at s found)) found ≡ found
unfolding found_at
found_front s found =
    let here = is_here s in
    ap (λ n. take_while here found ++ drop n found) (length-prefix_len here found) ∙ take-append-drop (prefix_len here found) found

-- they are the first ones
pub here_front : (s : OutlineState) (found : List Found) → take (length (found_at s found)) found ≡ found_at s found
unfolding found_at
here_front s found = ap (λ n. take n found) (length-prefix_len (is_here s) found)

pub here_within : (s : OutlineState) (found : List Found) → length (found_at s found) ≤ length found
here_within s found =
    omega (arith, ap (λ (l : List Found). length l) (found_front s found), length-append (found_at s found) (drop (length (found_at s found)) found))

-- ---- whose they are

-- they have its number
numbered_by : (s : OutlineState) (f : Found) (rest : List Found) (b : Bool) → is_here s f ≡ b → AllByRecursion (λ f. f.descriptor ≡ s.descriptors) rest
    → AllByRecursion (λ f. f.descriptor ≡ s.descriptors) (cond b (f ∷ rest) [])
numbered_by s f rest true e all = (eqb-true f.descriptor s.descriptors e, all)
numbered_by s f rest false e all = tt

pub are_numbered : (s : OutlineState) (found : List Found) → AllByRecursion (λ f. f.descriptor ≡ s.descriptors) (found_at s found)
unfolding found_at
are_numbered s [] = tt
are_numbered s (f ∷ found) =
    subst (λ l. AllByRecursion (λ f. f.descriptor ≡ s.descriptors) l) (sym (take_while-cons (is_here s) f found))
    (numbered_by s f (take_while (is_here s) found) (is_here s f) refl (are_numbered s found))

-- these are all that is found at descriptors of which the first has this number, or nothing is found
abbrev pub Reported : ℕ → List (List Broken) → List Found → Type 0
Reported n broken fs = (fs ≡ found_from n broken) ⊎ (fs ≡ [])

-- what is found at later descriptors is not of this one
none_after : (s : OutlineState) (m : ℕ) (later : List (List Broken)) → s.descriptors < m → take_while (is_here s) (found_from m later) ≡ []
none_after s m [] h = refl
none_after s m ([] ∷ later) h = none_after s (m + 1) later (omega (arith, h))
none_after s m ((b ∷ bs) ∷ later) h =
    take_while-cons (is_here s) (found m b) (map (found m) bs ++ found_from (m + 1) later)
    ∙ cond-false (m == s.descriptors) _ _ (ne_eqb m s.descriptors (λ e. omega (arith, h, e)))

-- of what is found at it and later, just its own is of it
mine_first : (s : OutlineState) (mine : List Broken) (later : List (List Broken))
    → take_while (is_here s) (map (found s.descriptors) mine ++ found_from (s.descriptors + 1) later) ≡ map (found s.descriptors) mine
mine_first s [] later = none_after s (s.descriptors + 1) later (omega arith)
mine_first s (b ∷ mine) later =
    take_while-cons (is_here s) (found s.descriptors b) (map (found s.descriptors) mine ++ found_from (s.descriptors + 1) later)
    ∙ cond-true (s.descriptors == s.descriptors) _ _ (eq-eqb s.descriptors s.descriptors refl)
    ∙ ap (λ l. found s.descriptors b ∷ l) (mine_first s mine later)

-- behind it the later ones are left
pub reported_behind : (s : OutlineState) (mine : List Broken) (later : List (List Broken)) (fs : List Found) → Reported s.descriptors (mine ∷ later) fs
    → Reported (s.descriptors + 1) later (drop (length (found_at s fs)) fs)
unfolding found_at
reported_behind s mine later fs (inl e) =
    let own = map (found s.descriptors) mine in
    let rest = found_from (s.descriptors + 1) later in
    inl (ap (λ (l : List Found). drop (length (take_while (is_here s) l)) l) e
    ∙ ap (λ (l : List Found). drop (length l) (own ++ rest)) (mine_first s mine later) ∙ drop-append_seam own rest)
reported_behind s mine later fs (inr e) = inr (ap (λ (l : List Found). drop (length (take_while (is_here s) l)) l) e)

-- what is found at a descriptor of this role is at its place
abbrev pub AllAtPlace : Position → Role → List Found → Type 0
AllAtPlace p role found = AllByRecursion (λ f. IsAtPlace p role f.finding f.cause) found

-- the rules that it breaks are
abbrev pub AllBrokenAt : Position → Role → List Broken → Type 0
AllBrokenAt p role broken = AllByRecursion (λ b. IsAtPlace p role b.finding b.cause) broken

numbered_at : (p : Position) (role : Role) (n : ℕ) (mine : List Broken) → AllBrokenAt p role mine → AllAtPlace p role (map (found n) mine)
numbered_at p role n [] own = tt
numbered_at p role n (b ∷ mine) own = (own.0, numbered_at p role n mine own.1)

pub none_at : (s : OutlineState) (role : Role) (fs : List Found) → fs ≡ [] → AllAtPlace s.position role (found_at s fs)
unfolding found_at
none_at s role fs none = subst (λ l. AllAtPlace s.position role (take_while (is_here s) l)) (sym none) tt

pub own_at : (s : OutlineState) (role : Role) (mine : List Broken) (later : List (List Broken)) (fs : List Found) → AllBrokenAt s.position role mine → Reported s.descriptors (mine ∷ later) fs
    → AllAtPlace s.position role (found_at s fs)
unfolding found_at
own_at s role mine later fs own (inl e) =
    subst (λ l. AllAtPlace s.position role l) (sym (ap (λ l. take_while (is_here s) l) e ∙ mine_first s mine later)) (numbered_at s.position role s.descriptors mine own)
own_at s role mine later fs own (inr none) = none_at s role fs none
