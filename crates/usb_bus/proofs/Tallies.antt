-- On the fates of the first transactions, counted, and on a last line that is cut off.
use Rattle.std.proofs.Common.{◌≡◌, ℕ, zero, suc, List, [], ◌∷◌, ◌+◌, Result, Ok, Err, ap, arith, refl, subst, sym, take}
use Rattle.std.specs.Prelude.{IfErr, OnErr}
use Rattle.usb_text.specs.Output.{AppendsLess, Held}
use Rattle.usb_text.specs.declared.output.OutFault.{OutFault}
use Rattle.usb_text.specs.declared.output.OutFault.TheVariants as outs
use Rattle.usb_text.proofs.Pages.{keeps_refl}
use Rattle.usb_bus.specs.declared.fate.Fate.{Fate}
use Rattle.usb_bus.specs.Bus.{busies, busy, losses, lost}
use Rattle.usb_bus.specs.Log.{CutsOff}
use Rattle.usb_bus.specs.Run.{fates_used}

-- after the end of the list all pass, which nothing counts
losses_of_passes : (n : ℕ) → losses (fates_used [] n) ≡ 0
losses_of_passes zero = refl
losses_of_passes (suc n) = (let rest = losses_of_passes n in omega arith)

busies_of_passes : (n : ℕ) → busies (fates_used [] n) ≡ 0
busies_of_passes zero = refl
busies_of_passes (suc n) = (let rest = busies_of_passes n in omega arith)

pub losses_of_used : (fates : List Fate) (n : ℕ) → losses (take n fates) ≡ losses (fates_used fates n)
losses_of_used fates zero = refl
losses_of_used [] (suc n) = sym (losses_of_passes (suc n))
losses_of_used (f ∷ fates) (suc n) = ap (λ k. lost f + k) (losses_of_used fates n)

pub busies_of_used : (fates : List Fate) (n : ℕ) → busies (take n fates) ≡ busies (fates_used fates n)
busies_of_used fates zero = refl
busies_of_used [] (suc n) = sym (busies_of_passes (suc n))
busies_of_used (f ∷ fates) (suc n) = ap (λ k. busy f + k) (busies_of_used fates n)

-- a write of a line that failed has cut it off
pub cut_off : {T : Type 0} (r : Result T OutFault) (held holds : Held) (line : List ℕ) → OnErr r (AppendsLess held holds line) → IfErr r (λ fault. fault ≡ outs.Write)
    → IfErr r (λ fault. CutsOff fault held holds line)
cut_off (Ok v) held holds line less is = tt
cut_off (Err fault) held holds line less is = subst (λ f. CutsOff f held holds line) (sym is) less

-- out of memory nothing of it is there
pub nothing_put : (held : Held) (line : List ℕ) → CutsOff outs.Memory held held line
nothing_put held line = keeps_refl held
