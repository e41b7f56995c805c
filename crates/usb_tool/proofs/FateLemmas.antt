-- The fates of a text, a letter at a time.
use Rattle.std.proofs.Common.{◌≡◌, ℕ, ◌+◌, ◌<◌, ◌≤◌, zero, suc, arith, List, [], ◌∷◌, ◌++◌, drop, length, get_or, Option, Some, None, refl, sym, ap, ◌∙◌, append_assoc, append-nil, add-one, drop_of_length-le}
use Rattle.std.specs.Prelude.{option_map, option_and_then}
use Rattle.std.proofs.Math.Seq.{drop-cons}
use Rattle.usb_tool.specs.OptionValues.{BeginsWithFate, fate_of, fates_of}
use Rattle.usb_bus.specs.declared.fate.Fate.{Fate}

-- the fates so far, and those of the rest
abbrev pub with_rest : List Fate → Option (List Fate) → Option (List Fate)
with_rest done rest = option_map (λ fs. done ++ fs) rest

fates_cons : (b : ℕ) (rest : List ℕ) → fates_of (b ∷ rest) ≡ option_and_then (λ f. option_map (λ fs. f ∷ fs) (fates_of rest)) (fate_of b)
unfolding fates_of
fates_cons b rest = refl

fates_nil : fates_of [] ≡ Some []
unfolding fates_of
fates_nil = refl

fates_at : (text : List ℕ) (i : ℕ) → i < length text → fates_of (drop i text) ≡ option_and_then (λ f. option_map (λ fs. f ∷ fs) (fates_of (drop (suc i) text))) (fate_of (get_or text i 0))
fates_at text i h = ap fates_of (drop-cons text i 0 h) ∙ fates_cons (get_or text i 0) (drop (suc i) text)

joined : (done : List Fate) (f : Fate) (r : Option (List Fate)) → with_rest done (option_map (λ fs. f ∷ fs) r) ≡ with_rest (done ++ f ∷ []) r
joined done f None = refl
joined done f (Some fs) = ap (λ l. Some l) (sym (append_assoc done (f ∷ []) fs))

pub fates_more : (text : List ℕ) (i : ℕ) (done : List Fate) (f : Fate) → i < length text → fate_of (get_or text i 0) ≡ Some f
    → with_rest done (fates_of (drop i text)) ≡ with_rest (done ++ f ∷ []) (fates_of (drop (i + 1) text))
fates_more text i done f h e =
    ap (with_rest done) (fates_at text i h ∙ ap (λ o. option_and_then (λ g. option_map (λ fs. g ∷ fs) (fates_of (drop (suc i) text))) o) e)
    ∙ joined done f (fates_of (drop (suc i) text)) ∙ rw add-one refl

pub fates_stop : (text : List ℕ) (i : ℕ) (done : List Fate) → i < length text → fate_of (get_or text i 0) ≡ None → with_rest done (fates_of (drop i text)) ≡ None
fates_stop text i done h e =
    ap (with_rest done) (fates_at text i h ∙ ap (λ o. option_and_then (λ g. option_map (λ fs. g ∷ fs) (fates_of (drop (suc i) text))) o) e)

pub fates_end : (text : List ℕ) (i : ℕ) (done : List Fate) → length text ≤ i → with_rest done (fates_of (drop i text)) ≡ Some done
fates_end text i done h =
    ap (with_rest done) (ap fates_of (drop_of_length-le text h) ∙ fates_nil) ∙ ap (λ l. Some l) (append-nil done)

-- a letter has a fate only behind one that has
pub begins : (text : List ℕ) (i : ℕ) (f : Fate) → i < length text → fate_of (get_or text i 0) ≡ Some f → (0 < i → BeginsWithFate text) → BeginsWithFate text
begins [] i f h e before = absurd (omega arith)
begins (letter ∷ rest) zero f h e before = rw e
begins (letter ∷ rest) (suc i) f h e before = before (omega arith)
