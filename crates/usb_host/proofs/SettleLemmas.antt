-- Where a read leads to, by what comes next after it or why it is refused.
use Rattle.std.proofs.Common.{◌≡◌, Bool, true, false, ◌&&◌, if◌then◌else◌, List, [], ◌∷◌, ◌++◌, inl, inr, refl, ap, sym, ◌∙◌, subst}
use Rattle.std.specs.Prelude.{Result, Ok, Err}
use Rattle.std.proofs.lemmas.List.{append-nil}
use Rattle.usb_host.specs.declared.choice.NamedStrings.{NamedStrings}
use Rattle.usb_host.specs.declared.why.Why.{Why}
use Rattle.usb_host.specs.declared.why.Why.TheVariants.{NoAnswer, Busy, Stalled, TooLong, Unexpected, Malformed, Memory}
use Rattle.usb_host.specs.declared.draft.Draft.{Draft}
use Rattle.usb_host.specs.declared.due.Due.{Due}
use Rattle.usb_host.specs.declared.due.Due.TheVariants as dues
use Rattle.usb_host.specs.declared.step.Step.{Step}
use Rattle.usb_host.specs.declared.step.Trouble.{Trouble}
use Rattle.usb_host.specs.Transfer.{HeardView, Goes, Brings, Completes, Fails}
use Rattle.usb_host.specs.Place.{Place, First, Address, Device, Header, Set, Qualifier, Languages, Text, Configure, Reported, Stopped}
use Rattle.usb_host.specs.Terms.{forgives_any}
use Rattle.usb_host.specs.Order.{forgiven_by, forgives, is_of_strings, is_spared, lacks_string, spared, stand_in, step_of, stopped}
use Rattle.usb_host.specs.Steps.{Grows}
use Rattle.usb_host.specs.inside.Places.{EndsOrPasses, Leads, LeadsTo, LeavesDraft, Settles, is_end, place_of}
use Rattle.usb_host.specs.inside.Sound.{IsGood}
use Rattle.usb_host.proofs.LeadLemmas.{texts_go_on}
use Rattle.usb_host.proofs.SpareLemmas.{left_of, right_of, spares_any, spares_strings, spares_end}

-- a read has ended whose trouble may be passed over
abbrev pub MayPass : HeardView → Type 0
MayPass Completes = Unit {0}
MayPass (Fails Stalled) = Unit {0}
MayPass received = ⊥

-- what is not passed over
unspared : (texts : NamedStrings) (here there : Place) → is_spared texts here there ≡ false → spared texts here there ≡ there
unspared texts here there e = ap (λ b. if b then stand_in here else there) e

unlisted : (texts : NamedStrings) (here there : Place) → is_spared texts here there ≡ false → forgiven_by texts here there ≡ []
unlisted texts here (Stopped trouble) e = ap (λ b. if b then (record { step = step_of here; why = trouble.why }) ∷ [] else []) e
unlisted texts here there e = refl

-- a read of strings that leads on is not
not_spared : (texts : NamedStrings) (here target : Place) → (is_of_strings here ≡ true → is_end target ≡ false) → is_spared texts here target ≡ false
not_spared texts here target goes = by_test (is_spared texts here target) refl
  where
    by_test : (t : Bool) → is_spared texts here target ≡ t → t ≡ false
    by_test false e = refl
    by_test true e =
        absurd (let wrong = sym (spares_end texts here target e) ∙ goes (spares_strings texts here target e) in cc)

none_of : (a b : Bool) → (a && (b && false)) ≡ false
none_of true true = refl
none_of true false = refl
none_of false b = refl

strings_by_due : (due : Due) (d e : Draft) → is_of_strings (place_of due d) ≡ is_of_strings (place_of due e)
strings_by_due dues.First d e = refl
strings_by_due (dues.Address first) d e = refl
strings_by_due (dues.Device first) d e = refl
strings_by_due (dues.Header kind) d e = refl
strings_by_due (dues.Set kind total) d e = refl
strings_by_due dues.Qualifier d e = refl
strings_by_due dues.Languages d e = refl
strings_by_due dues.Text d e = refl
strings_by_due dues.Configure d e = refl
strings_by_due dues.Reported d e = refl
strings_by_due (dues.Stopped trouble) d e = refl

stand_in_goes : (here : Place) → is_of_strings here ≡ true → is_end (stand_in here) ≡ false
stand_in_goes (Languages f named) e = texts_go_on f (record { languages = 0x0409 ∷ []; texts = [] }) named
stand_in_goes (Text f s named) e = texts_go_on f (record s { texts = s.texts ++ [] ∷ [] }) named
stand_in_goes First e = absurd (cc)
stand_in_goes (Address first) e = absurd (cc)
stand_in_goes (Device first) e = absurd (cc)
stand_in_goes (Header kind f) e = absurd (cc)
stand_in_goes (Set kind f total) e = absurd (cc)
stand_in_goes (Qualifier f) e = absurd (cc)
stand_in_goes (Configure f) e = absurd (cc)
stand_in_goes (Reported f) e = absurd (cc)
stand_in_goes (Stopped trouble) e = absurd (cc)

grows_spared : (texts : NamedStrings) (received : HeardView) (here : Place) → MayPass received → is_of_strings here ≡ true → forgives_any texts ≡ true → Grows texts received here
grows_spared texts Completes (Languages f named) may e any = tt
grows_spared texts Completes (Text f s named) may e any = tt
grows_spared texts (Fails Stalled) (Languages f named) may e any = any
grows_spared texts (Fails Stalled) (Text f s named) may e any = any
grows_spared texts Goes here may e any = absurd (may)
grows_spared texts (Brings bytes) here may e any = absurd (may)
grows_spared texts (Fails NoAnswer) here may e any = absurd (may)
grows_spared texts (Fails Busy) here may e any = absurd (may)
grows_spared texts (Fails TooLong) here may e any = absurd (may)
grows_spared texts (Fails Unexpected) here may e any = absurd (may)
grows_spared texts (Fails Malformed) here may e any = absurd (may)
grows_spared texts (Fails Memory) here may e any = absurd (may)
grows_spared texts received First may e any = absurd (cc)
grows_spared texts received (Address first) may e any = absurd (cc)
grows_spared texts received (Device first) may e any = absurd (cc)
grows_spared texts received (Header kind f) may e any = absurd (cc)
grows_spared texts received (Set kind f total) may e any = absurd (cc)
grows_spared texts received (Qualifier f) may e any = absurd (cc)
grows_spared texts received (Configure f) may e any = absurd (cc)
grows_spared texts received (Reported f) may e any = absurd (cc)
grows_spared texts received (Stopped trouble) may e any = absurd (cc)

-- a draft that is as it was is good where it was
pub passed_good : (texts : NamedStrings) (due : Due) (old now : Draft) (next : Result Due Why) (why : Why) → IsGood (place_of due old) →
    (is_of_strings (place_of due old) ≡ true → LeavesDraft old now next) → next ≡ Err why → forgives texts (place_of due now) why ≡ true → IsGood (place_of due now)
passed_good texts due old now next why good leaves is forgiven =
    let strings = left_of (is_of_strings (place_of due now)) (lacks_string why) (right_of (forgives_any texts) _ forgiven) in
    let same : now ≡ old = subst (λ n. LeavesDraft old now n) is (leaves (sym (strings_by_due due now old) ∙ strings)) in
    subst (λ d. IsGood (place_of due d)) (sym same) good

module _ (texts : NamedStrings) (received : HeardView) (may : MayPass received) (due : Due) (old now new : Draft) (target : Place) (before after : List Trouble) where
  abbrev here : Place
  here = place_of due old

  -- a read that was refused is passed over, or ends the enumeration
  refused_there : (why : Why) (next : Place) (forgiven : Bool) → forgives texts here why ≡ forgiven → target ≡ stopped here why →
      (is_of_strings here ≡ true → now ≡ old) →
      EndsOrPasses forgiven (place_of due now) (record { step = step_of here; why = why }) next before after → Leads texts received here target next before after
  refused_there why next false not e leaves (m, same) =
      let plain : is_spared texts here target ≡ false = ap (is_spared texts here) e ∙ not in
      inr (m ∙ sym e ∙ sym (unspared texts here target plain), same ∙ sym (append-nil before) ∙ ap (λ x. before ++ x) (sym (unlisted texts here target plain)))
  refused_there why next true is e leaves (inl (m, same)) =
      let spares : is_spared texts here target ≡ true = ap (is_spared texts here) e ∙ is in
      let strings = spares_strings texts here target spares in
      let on : is_end (spared texts here target) ≡ false = ap (λ b. is_end (if b then stand_in here else target)) spares ∙ stand_in_goes here strings in
      inl ((grows_spared texts received here may strings (spares_any texts here target spares), on), m, same)
  refused_there why next true is e leaves (inr (m, adds)) =
      let spares : is_spared texts here target ≡ true = ap (is_spared texts here) e ∙ is in
      let same = leaves (spares_strings texts here target spares) in
      let to : spared texts here target ≡ stand_in here = ap (λ b. if b then stand_in here else target) spares in
      let listed : forgiven_by texts here target ≡ (record { step = step_of here; why = why }) ∷ [] =
      ap (forgiven_by texts here) e ∙ ap (λ b. if b then (record { step = step_of here; why = why }) ∷ [] else []) is in
      inr (m ∙ ap (λ d. stand_in (place_of due d)) same ∙ sym to, adds ∙ ap (λ x. before ++ x) (sym listed))

  pub leads_there : (step : Step) (next : Result Due Why) (there : Due) → step ≡ step_of here → LeadsTo texts received here target now next →
      (is_of_strings here ≡ true → LeavesDraft old now next) → Settles texts (place_of due now) step next now there new before after →
      Leads texts received here target (place_of there new) before after
  leads_there step (Ok x) there at leads leaves (is, same, kept) =
      let plain = not_spared texts here target (λ strings. subst (λ p. is_end p ≡ false) leads (leaves strings)) in
      inr (
        ap (λ d. place_of there d) same ∙ ap (λ y. place_of y now) is ∙ leads ∙ sym (unspared texts here target plain),
        kept ∙ sym (append-nil before) ∙ ap (λ x. before ++ x) (sym (unlisted texts here target plain)),
      )
  leads_there step (Err why) there at (inl (grows, memory)) leaves settles =
      let none : forgives texts (place_of due now) why ≡ false = ap (forgives texts (place_of due now)) memory ∙ none_of (forgives_any texts) (is_of_strings (place_of due now)) in
      let ends : EndsOrPasses false (place_of due now) (record { step = step; why = why }) (place_of there new) before after =
      subst (λ b. EndsOrPasses b (place_of due now) (record { step = step; why = why }) (place_of there new) before after) none settles in
      let plain = not_spared texts here target (λ strings. grows.1) in
      inl (
        (grows.0, ap is_end (unspared texts here target plain) ∙ grows.1),
        ends.0 ∙ ap (λ s. Stopped (record { step = s; why = why })) at ∙ ap (λ w. stopped here w) memory,
        ends.1,
      )
  leads_there step (Err why) there at (inr e) leaves settles =
      let test : forgives texts (place_of due now) why ≡ forgives texts here why =
      ap (λ b. forgives_any texts && (b && lacks_string why)) (strings_by_due due now old) in
      refused_there why (place_of there new) (forgives texts here why) refl e leaves
      (subst (λ b. EndsOrPasses b (place_of due now) (record { step = step_of here; why = why }) (place_of there new) before after) test
      (subst (λ s. EndsOrPasses (forgives texts (place_of due now) why) (place_of due now) (record { step = s; why = why }) (place_of there new) before after) at settles))
