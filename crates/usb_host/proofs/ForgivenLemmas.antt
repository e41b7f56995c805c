-- Nothing but strings is passed over.
use Rattle.std.proofs.Common.{◌≡◌, ℕ, suc, Bool, true, false, if◌then◌else◌, List, [], ◌∷◌, ◌++◌, inl, inr, ◌⊎◌, refl, ap, sym, ◌∙◌, subst}
use Rattle.std.specs.List.{AllByRecursion}
use Rattle.usb_fields.specs.declared.packet.Speed.{Speed}
use Rattle.usb_fields.specs.Packets.{Reply as Answer}
use Rattle.usb_host.specs.declared.choice.NamedStrings.{NamedStrings}
use Rattle.usb_host.specs.declared.choice.NamedStrings.TheVariants.{Needed, Wanted, Skipped}
use Rattle.usb_host.specs.declared.choice.Choice.{Choice}
use Rattle.usb_host.specs.declared.choice.Terms.{Terms}
use Rattle.usb_host.specs.declared.why.Why.{Why}
use Rattle.usb_host.specs.declared.why.Why.TheVariants.{NoAnswer, Busy, Stalled, TooLong, Unexpected, Malformed, Memory}
use Rattle.usb_host.specs.declared.step.Trouble.{Trouble}
use Rattle.usb_host.specs.declared.transfer.TransferStage.{TransferStage}
use Rattle.usb_host.specs.declared.transfer.TransferStage.TheVariants.{Setup, DataIn, DataOut, StatusOut, StatusIn, Completed, Failed}
use Rattle.usb_host.specs.Limits.{LimitView}
use Rattle.usb_host.specs.Transfer.{TransferView, Taken, taken}
use Rattle.usb_host.specs.Place.{Place, First, Address, Device, Header, Set, Qualifier, Languages, Text, Configure, Reported, Stopped}
use Rattle.usb_host.specs.Keeping.{Kept}
use Rattle.usb_host.specs.Order.{forgiven_by, is_of_strings, is_spared, lacks_string, refused_leads, step_of}
use Rattle.usb_host.specs.Steps.{HostPhase, ResetDue, Reading, Ended, HostView, chosen_host, completed_leads, enter, passes_over, terms_of, TakesReceived, TakesIn}
use Rattle.usb_host.specs.Gathered.{Came}
use Rattle.usb_host.specs.Laws.{AreForgiven, Asks, IsForgiven, IsStringStep, OnlyStringsAreForgiven}
use Rattle.usb_host.proofs.AskingLemmas.{wants_reset, reset_is}
use Rattle.usb_host.proofs.SpareLemmas.{right_of, spares_strings}

none_forgiven : (texts : NamedStrings) → AreForgiven texts []
none_forgiven Needed = refl
none_forgiven Wanted = tt
none_forgiven Skipped = refl

all_more : (xs ys : List Trouble) → AllByRecursion IsForgiven xs → AllByRecursion IsForgiven ys → AllByRecursion IsForgiven (xs ++ ys)
all_more [] ys p q = q
all_more (x ∷ xs) ys p q = (p.0, all_more xs ys p.1 q)

forgiven_more : (texts : NamedStrings) (xs ys : List Trouble) → AreForgiven texts xs → AreForgiven texts ys → AreForgiven texts (xs ++ ys)
forgiven_more Needed xs ys p q = ap (λ x. x ++ ys) p ∙ q
forgiven_more Wanted xs ys p q = all_more xs ys p q
forgiven_more Skipped xs ys p q = ap (λ x. x ++ ys) p ∙ q

string_step : (here : Place) → is_of_strings here ≡ true → IsStringStep (step_of here)
string_step (Languages f named) e = tt
string_step (Text f s named) e = tt
string_step First e = absurd (cc)
string_step (Address first) e = absurd (cc)
string_step (Device first) e = absurd (cc)
string_step (Header kind f) e = absurd (cc)
string_step (Set kind f total) e = absurd (cc)
string_step (Qualifier f) e = absurd (cc)
string_step (Configure f) e = absurd (cc)
string_step (Reported f) e = absurd (cc)
string_step (Stopped trouble) e = absurd (cc)

lacking : (why : Why) → lacks_string why ≡ true → (why ≡ Stalled) ⊎ (why ≡ Malformed)
lacking Stalled e = inl refl
lacking Malformed e = inr refl
lacking NoAnswer e = absurd (cc)
lacking Busy e = absurd (cc)
lacking TooLong e = absurd (cc)
lacking Unexpected e = absurd (cc)
lacking Memory e = absurd (cc)

trouble_forgiven : (texts : NamedStrings) (here : Place) (trouble : Trouble) → is_spared texts here (Stopped trouble) ≡ true →
    AreForgiven texts ((record { step = step_of here; why = trouble.why }) ∷ [])
trouble_forgiven Wanted here trouble e = (
  (
    string_step here (spares_strings Wanted here (Stopped trouble) e),
    lacking trouble.why (right_of (is_of_strings here) (lacks_string trouble.why) e),
  ),
  tt,
)
trouble_forgiven Needed here trouble e = absurd (cc)
trouble_forgiven Skipped here trouble e = absurd (cc)

forgiven_here : (texts : NamedStrings) (here there : Place) → AreForgiven texts (forgiven_by texts here there)
forgiven_here texts here (Stopped trouble) = by_test (is_spared texts here (Stopped trouble)) (λ e. trouble_forgiven texts here trouble e)
  where
    by_test : (t : Bool) → (t ≡ true → AreForgiven texts ((record { step = step_of here; why = trouble.why }) ∷ [])) →
        AreForgiven texts (if t then (record { step = step_of here; why = trouble.why }) ∷ [] else [])
    by_test true is = is refl
    by_test false is = none_forgiven texts
forgiven_here texts here there = none_forgiven texts

passed_forgiven : (terms : Terms) (place : Place) (t : TransferView) (k : Kept) (stage : TransferStage) →
    AreForgiven terms.choice.strings (passes_over terms place t k stage)
passed_forgiven terms place t k Completed = forgiven_here terms.choice.strings place (completed_leads terms place t k)
passed_forgiven terms place t k (Failed Stalled) = forgiven_here terms.choice.strings place (refused_leads terms place)
passed_forgiven terms place t k (Failed NoAnswer) = none_forgiven terms.choice.strings
passed_forgiven terms place t k (Failed Busy) = none_forgiven terms.choice.strings
passed_forgiven terms place t k (Failed TooLong) = none_forgiven terms.choice.strings
passed_forgiven terms place t k (Failed Unexpected) = none_forgiven terms.choice.strings
passed_forgiven terms place t k (Failed Malformed) = none_forgiven terms.choice.strings
passed_forgiven terms place t k (Failed Memory) = none_forgiven terms.choice.strings
passed_forgiven terms place t k Setup = none_forgiven terms.choice.strings
passed_forgiven terms place t k DataIn = none_forgiven terms.choice.strings
passed_forgiven terms place t k DataOut = none_forgiven terms.choice.strings
passed_forgiven terms place t k StatusOut = none_forgiven terms.choice.strings
passed_forgiven terms place t k StatusIn = none_forgiven terms.choice.strings

received_forgiven : (limits : LimitView) (terms : Terms) (place : Place) (old : Kept) (by : Taken) (new : HostPhase) (before after : List Trouble) →
    TakesReceived limits terms place old by new before after → AreForgiven terms.choice.strings before → AreForgiven terms.choice.strings after
received_forgiven limits terms place old by new b a (result, k, keeps, inl (wants, e, same)) h = subst (λ x. AreForgiven terms.choice.strings x) (sym same) h
received_forgiven limits terms place old by new b a (result, k, keeps, inr (fine, e, adds)) h =
    subst (λ x. AreForgiven terms.choice.strings x) (sym adds)
    (forgiven_more terms.choice.strings b (passes_over terms place by.transfer k by.transfer.stage) h
    (passed_forgiven terms place by.transfer k by.transfer.stage))

module _ (choice : Choice) where
  abbrev Forgives : HostView → Type 0
  Forgives v = (v.choice ≡ choice) × AreForgiven choice.strings v.forgiven

  takes_forgiving : (v w : HostView) (p : HostPhase) (answer : Answer) → TakesIn v p answer w → Forgives v → Forgives w
  takes_forgiving v w ResetDue answer e h = subst (λ x. Forgives x) (sym e) h
  takes_forgiving v w (Ended place) answer e h = subst (λ x. Forgives x) (sym e) h
  takes_forgiving v w (Reading place t k) answer (phase, received, e) (same, h) =
      let old = subst (λ c. AreForgiven c.strings v.forgiven) (sym same) h in
      let new = received_forgiven v.limits (terms_of v) place k (taken t answer) phase v.forgiven w.forgiven received old in
      (ap (λ x. x.choice) e ∙ same, subst (λ c. AreForgiven c.strings w.forgiven) same new)

  all_forgiven : (limits : LimitView) (speed : Speed) (earlier : List HostView) (n : ℕ) (came : Came) (last : HostView) →
      Asks (chosen_host limits speed choice) earlier n came last → Forgives last
  all_forgiven limits speed [] n came last (e, none, nothing) = subst (λ v. Forgives v) (sym e) (refl, none_forgiven choice.strings)
  all_forgiven limits speed (v ∷ earlier) n came last (inl (wants, e, nothing, (before, more))) =
      let is : last ≡ record v { resets = suc v.resets; phase = enter v.limits First; forgiven = [] } = e ∙ reset_is v (wants_reset v.phase wants) in
      subst (λ w. Forgives w) (sym is) ((all_forgiven limits speed earlier n before v more).0, none_forgiven choice.strings)
  all_forgiven limits speed (v ∷ earlier) n came last (inr (m, sent, answer, before, count, asks, bytes, takes, adds, more)) =
      takes_forgiving v last v.phase answer takes (all_forgiven limits speed earlier m before v more)

pub only_strings : OnlyStringsAreForgiven
only_strings limits speed choice earlier n came last asks = (all_forgiven choice limits speed earlier n came last asks).1
