-- The loop of an enumeration, and its end.
use Rattle.std.proofs.Common.{◌≡◌, ℕ, suc, ◌+◌, ◌*◌, ◌/◌, ◌<◌, ◌≤◌, true, List, [], ◌∷◌, Some, Result, Ok, Err, inl, inr, ap, sym, ◌∙◌, arith, subst}
use Rattle.std.specs.Prelude.{IfOk, IfErr}
use Rattle.std.proofs.lemmas.Nat.{mul-le, le-div, div_below}
use Rattle.std.proofs.Math.Nat.{div-mul-le_self}
use Rattle.usb_fields.specs.Packets.{Reply as Answer}
use Rattle.usb_file_data.specs.declared.file.DescriptorFile.{DescriptorFile}
use Rattle.usb_host.specs.declared.why.Why.{Why}
use Rattle.usb_host.specs.declared.why.Why.TheVariants.{Memory}
use Rattle.usb_host.specs.Limits.{LimitView}
use Rattle.usb_device.specs.declared.state.State.{State}
use Rattle.usb_bus.specs.declared.fate.Fate.{Fate}
use Rattle.usb_bus.specs.Bus.{losses, busies}
use Rattle.usb_bus.specs.Run.{fates_used}
use Rattle.usb_bus.proofs.Runs.{losses-fates_used, busies-fates_used}
use Rattle.usb_host.specs.declared.step.Trouble.{Trouble}
use Rattle.usb_host.specs.Place.{Place, Reported, Stopped}
use Rattle.usb_host.specs.Cost.{most, left_to_ask}
use Rattle.usb_host.specs.Steps.{HostPhase, ResetDue, Reading, Ended, HostView, WantsReset, wanted, blames_bus, outcome_at, outcome_of, reset, Takes, TakesIn}
use Rattle.usb_bus.specs.Enumerate.{HasReadAll, HasCause, Pair, Runs, Moves, measure}
use Rattle.usb_bus.specs.inside.Running.{PlaceEndsWell, GoesWell}
use Rattle.usb_host.proofs.AskingLemmas.{wants_reset, reset_is}

-- one step more
pub runs_on : (f : DescriptorFile) (fates : List Fate) (new : Pair) (earlier : List Pair) (x y : Pair) (n now : ℕ) → Runs f fates new earlier n x →
    Moves f fates x n y now → Runs f fates new (x ∷ earlier) now y
runs_on f fates new earlier x y n now runs (inl (r, e)) = inl (r, subst (λ m. Runs f fates new earlier m x) (sym e) runs)
runs_on f fates new earlier x y n now runs (inr (t, e)) = inr (n, e, t, runs)

-- an answer adds no reset
takes_resets : (v w : HostView) (p : HostPhase) (answer : Answer) → TakesIn v p answer w → w.resets ≡ v.resets
takes_resets v w ResetDue answer e = ap (λ h. h.resets) e
takes_resets v w (Ended place) answer e = ap (λ h. h.resets) e
takes_resets v w (Reading place t k) answer (phase, received, e) = ap (λ h. h.resets) e

takes_limits : (v w : HostView) (p : HostPhase) (answer : Answer) → TakesIn v p answer w → w.limits ≡ v.limits
takes_limits v w ResetDue answer e = ap (λ h. h.limits) e
takes_limits v w (Ended place) answer e = ap (λ h. h.limits) e
takes_limits v w (Reading place t k) answer (phase, received, e) = ap (λ h. h.limits) e

-- each step falls: a transaction in what may be asked for, a reset in the attempts that are left
pub take_falls : (v w : HostView) (answer : Answer) → Takes v answer w → left_to_ask w < left_to_ask v → measure w < measure v
take_falls v w answer takes less =
    let resets = takes_resets v w v.phase answer takes in
    let limits = ap (λ l. l.attempts) (takes_limits v w v.phase answer takes) in
    omega arith

pub reset_falls : (v w : HostView) → wanted v.phase ≡ WantsReset → w ≡ reset v → w.resets ≤ v.limits.attempts → left_to_ask w ≤ left_to_ask v →
    measure w < measure v
reset_falls v w wants e within less =
    let is = e ∙ reset_is v (wants_reset v.phase wants) in
    let resets : w.resets ≡ suc v.resets = ap (λ h. h.resets) is in
    let limits : w.limits.attempts ≡ v.limits.attempts = ap (λ h. h.limits.attempts) is in
    omega arith

-- the bound is a number of 64 bits
pub most_few : (limits : LimitView) → limits.attempts ≤ 8 → limits.naks < 65536 → most limits < 18446744073709551615
most_few limits few small =
    let bound = mul-le limits.attempts (5273453 * (limits.naks + 3)) 8 (5273453 * 65538) few (omega arith) in
    omega arith

-- what an outcome says
abbrev pub Says : DescriptorFile → LimitView → List Fate → ℕ → State → List Trouble → Result DescriptorFile Trouble → Type 0
Says f limits used attempts s forgiven o =
    IfOk o (HasReadAll f limits.address s) × IfErr o (λ trouble. HasCause limits used attempts trouble.why) × IfOk o (λ g. forgiven ≡ [])

says_at : (f : DescriptorFile) (limits : LimitView) (used : List Fate) (attempts : ℕ) (s : State) (forgiven : List Trouble) (place : Place) (o : Result DescriptorFile Trouble) →
    PlaceEndsWell f limits used attempts s forgiven place → outcome_at place ≡ Some o → Says f limits used attempts s forgiven o
says_at f limits used attempts s forgiven (Reported g) (Ok h) good e = (let same : g ≡ h = cc in ((sym same ∙ good.0.0, good.0.1), tt, good.1))
says_at f limits used attempts s forgiven (Reported g) (Err trouble) good e = absurd (cc)
says_at f limits used attempts s forgiven (Stopped trouble) (Ok h) good e = absurd (cc)
says_at f limits used attempts s forgiven (Stopped trouble) (Err other) good e =
    (let same : trouble ≡ other = cc in (tt, subst (λ t. HasCause limits used attempts t.why) same good, tt))
says_at f limits used attempts s forgiven place o good e = absurd (good)

-- where a run has an outcome
pub says : (f : DescriptorFile) (limits : LimitView) (used : List Fate) (attempts : ℕ) (s : State) (forgiven : List Trouble) (phase : HostPhase) (o : Result DescriptorFile Trouble) →
    GoesWell f limits used attempts s forgiven phase → outcome_of phase ≡ Some o → Says f limits used attempts s forgiven o
says f limits used attempts s forgiven ResetDue o good e = absurd (cc)
says f limits used attempts s forgiven (Reading place t k) o good e = absurd (cc)
says f limits used attempts s forgiven (Ended place) o good e = says_at f limits used attempts s forgiven place o good e

-- *out of memory* does not blame the bus
pub all_used : (limits : LimitView) (used : List Fate) (attempts : ℕ) (o : Result DescriptorFile Trouble) →
    IfErr o (λ trouble. HasCause limits used attempts trouble.why) → IfErr o (λ trouble. blames_bus trouble.why ≡ true → attempts ≡ limits.attempts)
all_used limits used attempts (Ok g) h = tt
all_used limits used attempts (Err trouble) (inl (e, received)) = λ blamed. absurd (let wrong = sym (ap blames_bus e) ∙ blamed in cc)
all_used limits used attempts (Err trouble) (inr (blamed, all, bad)) = λ again. all

-- fewer Busy have no more whole measures
fewer_measures : (a b naks : ℕ) → a ≤ b → a / suc naks ≤ b / suc naks
fewer_measures a b naks few = le-div (a / suc naks) b (suc naks) (omega arith) (let within = div-mul-le_self a (suc naks) in omega arith)

only_memory : (limits : LimitView) (fates : List Fate) (n attempts : ℕ) (why : Why) → HasCause limits (fates_used fates n) attempts why →
    losses fates + busies fates / suc limits.naks < limits.attempts → why ≡ Memory
only_memory limits fates n attempts why (inl (e, received)) few = e
only_memory limits fates n attempts why (inr (blamed, all, bad)) few =
    absurd (let l = losses-fates_used fates n in let b = fewer_measures (busies (fates_used fates n)) (busies fates) limits.naks (busies-fates_used fates n) in omega arith)

-- with fewer losses and whole measures of Busy in the list than attempts, only *out of memory* is left
pub memory_left : (limits : LimitView) (fates : List Fate) (n attempts : ℕ) (o : Result DescriptorFile Trouble) →
    IfErr o (λ trouble. HasCause limits (fates_used fates n) attempts trouble.why) →
    losses fates + busies fates / suc limits.naks < limits.attempts → IfErr o (λ trouble. trouble.why ≡ Memory)
memory_left limits fates n attempts (Ok g) h few = tt
memory_left limits fates n attempts (Err trouble) h few = only_memory limits fates n attempts trouble.why h few

pub memory_alone : (limits : LimitView) (fates : List Fate) (n attempts : ℕ) (o : Result DescriptorFile Trouble) →
    IfErr o (λ trouble. HasCause limits (fates_used fates n) attempts trouble.why) → losses fates < limits.attempts → busies fates ≤ limits.naks →
    IfErr o (λ trouble. trouble.why ≡ Memory)
memory_alone limits fates n attempts o h few small =
    memory_left limits fates n attempts o h (let none = div_below (busies fates) (suc limits.naks) 1 (omega arith) (omega arith) in omega arith)
