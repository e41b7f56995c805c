-- What the parts of a text say, part by part.
use Rattle.std.proofs.Common.{◌≡◌, ℕ, ◌+◌, ◌<◌, ◌≤◌, suc, List, [], ◌∷◌, ◌++◌, drop, length, get_or, map, Option, Some, None, refl, sym, ap, ◌∙◌, append_assoc, append-nil, add-one, drop_of_length-le}
use Rattle.std.specs.Prelude.{option_map, option_and_then}
use Rattle.std.proofs.Math.Seq.{drop-cons}
use Rattle.usb_tool.specs.Damages.{AddsSaid, RefusesSaid, all_said}
use Rattle.usb_bus.specs.declared.wire.change.BitChange.{BitChange}
use Rattle.usb_tool.specs.declared.settings.SettingsFault.{SettingsFault}
use Rattle.usb_tool.specs.declared.settings.SettingsFault.TheVariants as faults

-- the changes so far, and those of the rest
abbrev pub with_rest : List BitChange → Option (List BitChange) → Option (List BitChange)
with_rest done rest = option_map (λ cs. done ++ cs) rest

said_cons : {A : Type 0} (says : A → Option (List BitChange)) (x : A) (rest : List A)
    → all_said says (x ∷ rest) ≡ option_and_then (λ first. option_map (λ cs. first ++ cs) (all_said says rest)) (says x)
unfolding all_said
said_cons says x rest = refl

said_nil : {A : Type 0} (says : A → Option (List BitChange)) → all_said says [] ≡ Some []
unfolding all_said
said_nil says = refl

joined : (done first : List BitChange) (r : Option (List BitChange)) → with_rest done (option_map (λ cs. first ++ cs) r) ≡ with_rest (done ++ first) r
joined done first None = refl
joined done first (Some cs) = ap (λ l. Some l) (sym (append_assoc done first cs))

said_at : {A : Type 0} (says : A → Option (List BitChange)) (xs : List A) (i : ℕ) (d : A) → i < length xs
    → all_said says (drop i xs) ≡ option_and_then (λ first. option_map (λ cs. first ++ cs) (all_said says (drop (suc i) xs))) (says (get_or xs i d))
said_at says xs i d h = ap (all_said says) (drop-cons xs i d h) ∙ said_cons says (get_or xs i d) (drop (suc i) xs)

pub said_more : {A : Type 0} (says : A → Option (List BitChange)) (xs : List A) (i : ℕ) (d : A) (done first : List BitChange) → i < length xs → says (get_or xs i d) ≡ Some first
    → with_rest done (all_said says (drop i xs)) ≡ with_rest (done ++ first) (all_said says (drop (i + 1) xs))
said_more says xs i d done first h e =
    ap (with_rest done) (said_at says xs i d h ∙ ap (λ o. option_and_then (λ g. option_map (λ cs. g ++ cs) (all_said says (drop (suc i) xs))) o) e)
    ∙ joined done first (all_said says (drop (suc i) xs)) ∙ rw add-one refl

pub said_stop : {A : Type 0} (says : A → Option (List BitChange)) (xs : List A) (i : ℕ) (d : A) (done : List BitChange) → i < length xs → says (get_or xs i d) ≡ None
    → with_rest done (all_said says (drop i xs)) ≡ None
said_stop says xs i d done h e =
    ap (with_rest done) (said_at says xs i d h ∙ ap (λ o. option_and_then (λ g. option_map (λ cs. g ++ cs) (all_said says (drop (suc i) xs))) o) e)

pub said_end : {A : Type 0} (says : A → Option (List BitChange)) (xs : List A) (i : ℕ) (done : List BitChange) → length xs ≤ i → with_rest done (all_said says (drop i xs)) ≡ Some done
said_end says xs i done h =
    ap (with_rest done) (ap (all_said says) (drop_of_length-le xs h) ∙ said_nil says) ∙ ap (λ l. Some l) (append-nil done)

-- what texts say that are lent
pub said_lent : {A B : Type 0} (says : B → Option (List BitChange)) (of : A → B) (xs : List A) → all_said says (map of xs) ≡ all_said (λ x. says (of x)) xs
unfolding all_said
said_lent says of [] = refl
said_lent says of (x ∷ xs) = ap (λ r. option_and_then (λ first. option_map (λ cs. first ++ cs) r) (says (of x))) (said_lent says of xs)

-- the parts of a text say what those say that are lent
pub said_of : {A B : Type 0} (says : B → Option (List BitChange)) (of : A → B) (xs : List A) (parts : List B) → map of xs ≡ parts → all_said (λ x. says (of x)) xs ≡ all_said says parts
said_of says of xs parts e = sym (said_lent says of xs) ∙ ap (all_said says) e

-- what was said is behind these changes, or nothing was said
pub added : (old new : List BitChange) (said : Option (List BitChange)) → with_rest old said ≡ Some new → AddsSaid said old new
added old new None e = absurd (cc)
added old new (Some more) e = cc

pub not_said : (old : List BitChange) (said : Option (List BitChange)) → with_rest old said ≡ None → said ≡ None
not_said old None e = refl
not_said old (Some more) e = absurd (cc)

-- an entry whose changes were added
pub said_added : {A : Type 0} (says : A → Option (List BitChange)) (xs : List A) (i : ℕ) (d : A) (done more : List BitChange) → i < length xs → AddsSaid (says (get_or xs i d)) done more
    → with_rest done (all_said says (drop i xs)) ≡ with_rest more (all_said says (drop (i + 1) xs))
said_added {A} says xs i d done more h adds = go (says (get_or xs i d)) refl adds
  where
    go : (o : Option (List BitChange)) → says (get_or xs i d) ≡ o → AddsSaid o done more → with_rest done (all_said says (drop i xs)) ≡ with_rest more (all_said says (drop (i + 1) xs))
    go None e is = elim is [ ]
    go (Some first) e is = said_more says xs i d done first h e ∙ ap (λ l. with_rest l (all_said says (drop (i + 1) xs))) (sym is)

-- an entry that was refused, after these changes
pub refused : {A : Type 0} (says : A → Option (List BitChange)) (xs : List A) (i : ℕ) (d : A) (all : Option (List BitChange)) (done : List BitChange) → i < length xs
    → with_rest [] all ≡ with_rest done (all_said says (drop i xs)) → (fault : SettingsFault) → RefusesSaid (says (get_or xs i d)) fault → RefusesSaid all fault
refused says xs i d all done h read faults.Damages none = not_said [] all (read ∙ said_stop says xs i d done h none)
refused says xs i d all done h read faults.Memory none = tt
refused says xs i d all done h read fault none = none

-- where there was none before, these are all
pub all_said_so : (new : List BitChange) (said : Option (List BitChange)) → with_rest [] said ≡ Some new → said ≡ Some new
all_said_so new None e = absurd (cc)
all_said_so new (Some more) e = e
