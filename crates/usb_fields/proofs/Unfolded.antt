-- Lists that come step by step: one step, none, enough of them, and all.
use Rattle.std.proofs.Common.{◌≡◌, ◌≤◌, ◌<◌, ◌⊎◌, inl, inr, ℕ, zero, suc, List, [], ◌∷◌, map, Option, Some, None, unwrap_or, refl, sym, ap, subst, ◌∙◌, arith}
use Rattle.std.specs.Option.{option_map}
use Rattle.usb_fields.specs.Unfolded.{unfolded}

-- where something is next, it is taken first
pub unfolded_more : {A S X : Type 0} (next : S → Option X) (step : S → X → A × S) (n : ℕ) (s : S) (x : X) → next s ≡ Some x
    → unfolded next step (suc n) s ≡ (step s x).0 ∷ unfolded next step n (step s x).1
unfolding unfolded
unfolded_more next step n s x is = ap (λ o. unwrap_or (option_map (λ x. (step s x).0 ∷ unfolded next step n (step s x).1) o) []) is

-- where nothing is, nothing comes
pub unfolded_none : {A S X : Type 0} (next : S → Option X) (step : S → X → A × S) (n : ℕ) (s : S) → (n ≡ 0) ⊎ (next s ≡ None) → unfolded next step n s ≡ []
unfolding unfolded
unfolded_none next step zero s is = refl
unfolded_none next step (suc n) s (inl is) = absurd (omega (arith, is))
unfolded_none next step (suc n) s (inr is) = ap (λ o. unwrap_or (option_map (λ x. (step s x).0 ∷ unfolded next step n (step s x).1) o) []) is

-- What holds where nothing comes, and of one more where it holds of those behind that, holds of all.
stepwise : {A S X : Type 0} (next : S → Option X) (step : S → X → A × S) (P : ℕ → S → List A → Type 0)
    → ((n : ℕ) (s : S) → (n ≡ 0) ⊎ (next s ≡ None) → P n s [])
    → ((n : ℕ) (s : S) (x : X) (xs : List A) → next s ≡ Some x → P n (step s x).1 xs → P (suc n) s ((step s x).0 ∷ xs))
    → (n : ℕ) (s : S) (o : Option X) → next s ≡ o → P n s (unfolded next step n s)
stepwise next step P ends more zero s o is = subst (P zero s) (sym (unfolded_none next step zero s (inl refl))) (ends zero s (inl refl))
stepwise next step P ends more (suc n) s None is = subst (P (suc n) s) (sym (unfolded_none next step (suc n) s (inr is))) (ends (suc n) s (inr is))
stepwise next step P ends more (suc n) s (Some x) is =
    let t = (step s x).1 in
    subst (P (suc n) s) (sym (unfolded_more next step n s x is)) (more n s x _ is (stepwise next step P ends more n t (next t) refl))

pub by_each_step : {A S X : Type 0} (next : S → Option X) (step : S → X → A × S) (P : ℕ → S → List A → Type 0)
    → ((n : ℕ) (s : S) → (n ≡ 0) ⊎ (next s ≡ None) → P n s [])
    → ((n : ℕ) (s : S) (x : X) (xs : List A) → next s ≡ Some x → P n (step s x).1 xs → P (suc n) s ((step s x).0 ∷ xs))
    → (n : ℕ) (s : S) → P n s (unfolded next step n s)
by_each_step next step P ends more n s = stepwise next step P ends more n s (next s) refl

-- Where each step makes a state smaller, as many steps as its size are enough.
enough : {A S X : Type 0} (next : S → Option X) (step : S → X → A × S) (size : S → ℕ) → ((s : S) (x : X) → next s ≡ Some x → size (step s x).1 < size s)
    → (n m : ℕ) (s : S) (o : Option X) → next s ≡ o → size s ≤ n → size s ≤ m → unfolded next step n s ≡ unfolded next step m s
enough next step size falls n m s None is p q = unfolded_none next step n s (inr is) ∙ sym (unfolded_none next step m s (inr is))
enough next step size falls zero m s (Some x) is p q = absurd (omega (arith, falls s x is, p))
enough next step size falls (suc n) zero s (Some x) is p q = absurd (omega (arith, falls s x is, q))
enough next step size falls (suc n) (suc m) s (Some x) is p q =
    let t = (step s x).1 in
    let less = falls s x is in
    unfolded_more next step n s x is
    ∙ ap (λ l. (step s x).0 ∷ l) (enough next step size falls n m t (next t) refl (omega (arith, less, p)) (omega (arith, less, q)))
    ∙ sym (unfolded_more next step m s x is)

-- so the first is followed by all that come of the state behind it
pub unfolded_enough : {A S X : Type 0} (next : S → Option X) (step : S → X → A × S) (size : S → ℕ) → ((s : S) (x : X) → next s ≡ Some x → size (step s x).1 < size s)
    → (n : ℕ) (s : S) (x : X) → next s ≡ Some x → size s ≤ n
    → unfolded next step n s ≡ (step s x).0 ∷ unfolded next step (size (step s x).1) (step s x).1
unfolded_enough next step size falls n s x is p =
    let t = (step s x).1 in
    enough next step size falls n (suc n) s (Some x) is p (omega (arith, p)) ∙ unfolded_more next step n s x is
    ∙ ap (λ l. (step s x).0 ∷ l) (enough next step size falls n (size t) t (next t) refl (omega (arith, falls s x is, p)) (omega arith))

-- Where the states of one list lead to those of another one, at which the same is next, and each step to its step, so do the lists.
pub unfolded_map : {A B S T X : Type 0} (f : A → B) (g : S → T) (next : S → Option X) (step : S → X → A × S) (next_as : T → Option X) (step_as : T → X → B × T)
    → ((s : S) → next_as (g s) ≡ next s) → ((s : S) (x : X) → next s ≡ Some x → step_as (g s) x ≡ (f (step s x).0, g (step s x).1))
    → (n : ℕ) (s : S) → map f (unfolded next step n s) ≡ unfolded next_as step_as n (g s)
unfolded_map f g next step next_as step_as same steps =
    by_each_step next step (λ n s xs. map f xs ≡ unfolded next_as step_as n (g s))
    (λ n s none. sym (unfolded_none next_as step_as n (g s) (elim none as (λ _. (n ≡ 0) ⊎ (next_as (g s) ≡ None)) [ inl e ↦ inl e | inr e ↦ inr (same s ∙ e) ])))
    (λ n s x xs is later.
    let one = steps s x is in
    ap (λ l. f (step s x).0 ∷ l) later ∙ ap (λ p. p.0 ∷ unfolded next_as step_as n p.1) (sym one)
    ∙ sym (unfolded_more next_as step_as n (g s) x (same s ∙ is)))
