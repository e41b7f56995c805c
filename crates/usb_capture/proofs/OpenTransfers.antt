-- Of each id at most one transfer is open, and events of others leave it as it is.
use Rattle.std.proofs.Common.{◌≡◌, ◌≢◌, ℕ, Bool, true, false, List, [], ◌∷◌, ◌++◌, refl, sym, subst, ◌∙◌, ap, arith}
use Rattle.std.specs.Prelude.{⊤, Option, Some, None, if◌then◌else◌, ◌==◌}
use Rattle.std.specs.List.{AllByRecursion}
use Rattle.std.specs.Option.{option_map, option_to_list}
use Rattle.std.proofs.lemmas.Bool.Decides.{nat_tests}
use Rattle.std.proofs.lemmas.List.{append-nil}
use Rattle.usb_fields.specs.declared.setup.Setup.{Setup}
use Rattle.usb_capture.specs.declared.control_transfer.ControlTransfer.{ControlTransfer}
use Rattle.usb_capture.specs.declared.event.Event.{Event}
use Rattle.usb_capture.specs.declared.open_transfer.OpenTransfer.{OpenTransfer}
use Rattle.usb_capture.specs.Transfers.{begun, ended, gone_on, is_of_default_pipe, open_after, open_with, opened, over_in, seen, seen_by, without}
use Rattle.usb_capture.proofs.TransferLemmas.{over_push}

same_number : (m n : ℕ) → (m == n) ≡ true → m ≡ n
same_number m n e = grind (arith, nat_tests)

other_number : (m n : ℕ) → (m == n) ≡ false → m ≢ n
other_number m n e = grind (arith, nat_tests)

apart : (m n : ℕ) → m ≢ n → (m == n) ≡ false
apart m n e = grind (arith, nat_tests)

found : (id : ℕ) (one : OpenTransfer) (opens : List OpenTransfer) → open_with id (one ∷ opens) ≡ (if one.id == id then Some one.transfer else open_with id opens)
unfolding open_with
found id one opens = refl

rest : (id : ℕ) (one : OpenTransfer) (opens : List OpenTransfer) → without id (one ∷ opens) ≡ (if one.id == id then opens else one ∷ without id opens)
unfolding without
rest id one opens = refl

-- behind another is what is behind it
found_past : (id : ℕ) (one : OpenTransfer) (opens : List OpenTransfer) → one.id ≢ id → open_with id (one ∷ opens) ≡ open_with id opens
found_past id one opens other = found id one opens ∙ ap (λ t. if t then Some one.transfer else open_with id opens) (apart one.id id other)

abbrev pub Once : List OpenTransfer → Type 0
Once [] = ⊤
Once (one ∷ opens) = (open_with one.id opens ≡ None) × Once opens

pub without_none : (id : ℕ) (opens : List OpenTransfer) → Once opens → open_with id (without id opens) ≡ None
unfolding open_with without
without_none id [] once = refl
without_none id (one ∷ opens) once = of (one.id == id) refl (without_none id opens once.1)
  where
    of : (t : Bool) → (one.id == id) ≡ t → open_with id (without id opens) ≡ None → open_with id (if t then opens else one ∷ without id opens) ≡ None
    of true e later = ap (λ n. open_with n opens) (sym (same_number one.id id e)) ∙ once.0
    of false e later = found_past id one (without id opens) (other_number one.id id e) ∙ later

pub without_other : (id other : ℕ) (opens : List OpenTransfer) → other ≢ id → open_with id (without other opens) ≡ open_with id opens
unfolding without
without_other id other [] apart = refl
without_other id other (one ∷ opens) apart = of (one.id == other) refl (without_other id other opens apart)
  where
    of : (t : Bool) → (one.id == other) ≡ t → open_with id (without other opens) ≡ open_with id opens
        → open_with id (if t then opens else one ∷ without other opens) ≡ open_with id (one ∷ opens)
    of true e later = sym (found_past id one opens (subst (λ n. n ≢ id) (sym (same_number one.id other e)) apart))
    of false e later = found id one (without other opens) ∙ ap (λ o. if one.id == id then Some one.transfer else o) later ∙ sym (found id one opens)

pub push_other : (id other : ℕ) (opens : List OpenTransfer) (transfer : ControlTransfer) → other ≢ id → open_with id (opens ++ opened other transfer ∷ []) ≡ open_with id opens
push_other id other [] transfer apart = found_past id (opened other transfer) [] apart
push_other id other (one ∷ opens) transfer apart =
    found id one (opens ++ opened other transfer ∷ []) ∙ ap (λ o. if one.id == id then Some one.transfer else o) (push_other id other opens transfer apart) ∙ sym (found id one opens)

pub push_found : (id : ℕ) (opens : List OpenTransfer) (transfer : ControlTransfer) → open_with id opens ≡ None → open_with id (opens ++ opened id transfer ∷ []) ≡ Some transfer
push_found id [] transfer none = found id (opened id transfer) [] ∙ ap (λ t. if t then Some transfer else open_with id []) (self_same id)
  where
    self_same : (n : ℕ) → (n == n) ≡ true
    self_same n = grind (arith, nat_tests)
push_found id (one ∷ opens) transfer none = of (one.id == id) refl (sym (found id one opens) ∙ none) (push_found id opens transfer)
  where
    of : (t : Bool) → (one.id == id) ≡ t → (if t then Some one.transfer else open_with id opens) ≡ None
        → (open_with id opens ≡ None → open_with id (opens ++ opened id transfer ∷ []) ≡ Some transfer)
        → open_with id (one ∷ (opens ++ opened id transfer ∷ [])) ≡ Some transfer
    of true e h later = cc
    of false e h later = found_past id one (opens ++ opened id transfer ∷ []) (other_number one.id id e) ∙ later h

pub without_once : (id : ℕ) (opens : List OpenTransfer) → Once opens → Once (without id opens)
unfolding without
without_once id [] once = tt
without_once id (one ∷ opens) once = of (one.id == id) refl (without_once id opens once.1)
  where
    of : (t : Bool) → (one.id == id) ≡ t → Once (without id opens) → Once (if t then opens else one ∷ without id opens)
    of true e later = once.1
    of false e later = (without_other one.id id opens (λ same. other_number one.id id e (sym same)) ∙ once.0, later)

pub push_once : (id : ℕ) (opens : List OpenTransfer) (transfer : ControlTransfer) → Once opens → open_with id opens ≡ None → Once (opens ++ opened id transfer ∷ [])
push_once id [] transfer once none = (none, tt)
push_once id (one ∷ opens) transfer once none = of (one.id == id) refl (sym (found id one opens) ∙ none) (push_once id opens transfer once.1)
  where
    of : (t : Bool) → (one.id == id) ≡ t → (if t then Some one.transfer else open_with id opens) ≡ None
        → (open_with id opens ≡ None → Once (opens ++ opened id transfer ∷ [])) → Once (one ∷ (opens ++ opened id transfer ∷ []))
    of true e h later = absurd (let w : ⊥ = cc in w)
    of false e h later = (push_other one.id id opens transfer (λ same. other_number one.id id e (sym same)) ∙ once.0, later h)

-- what is held again, if anything
again_once : (id : ℕ) (opens : List OpenTransfer) (o : Option ControlTransfer) (f : ControlTransfer → ControlTransfer) → Once opens → open_with id opens ≡ None
    → Once (opens ++ option_to_list (option_map (λ t. opened id (f t)) o))
again_once id opens None f once none = subst Once (sym (append-nil opens)) once
again_once id opens (Some transfer) f once none = push_once id opens (f transfer) once none

seen_once : (event : Event) (opens : List OpenTransfer) → Once opens → Once (seen event opens).held
seen_once event opens once = of (is_of_default_pipe event) event.setup event.ends
  where
    of : (pipe : Bool) (setup : Option Setup) (ends : Bool) → Once (seen_by pipe setup ends event opens).held
    of false setup ends = once
    of true (Some setup) ends = push_once event.id (without event.id opens) (begun event setup) (without_once event.id opens once) (without_none event.id opens once)
    of true None true = without_once event.id opens once
    of true None false = again_once event.id (without event.id opens) (open_with event.id opens) (gone_on event) (without_once event.id opens once) (without_none event.id opens once)

after_once : (opens : List OpenTransfer) (events : List Event) → Once opens → Once (open_after opens events)
after_once opens [] once = once
after_once opens (event ∷ events) once = after_once (seen event opens).held events (seen_once event opens once)

again_other : (id other : ℕ) (opens : List OpenTransfer) (o : Option ControlTransfer) (f : ControlTransfer → ControlTransfer) → other ≢ id
    → open_with id (opens ++ option_to_list (option_map (λ t. opened other (f t)) o)) ≡ open_with id opens
again_other id other opens None f apart = ap (open_with id) (append-nil opens)
again_other id other opens (Some transfer) f apart = push_other id other opens (f transfer) apart

seen_other : (id : ℕ) (event : Event) (opens : List OpenTransfer) → event.id ≢ id → open_with id (seen event opens).held ≡ open_with id opens
seen_other id event opens apart = of (is_of_default_pipe event) event.setup event.ends
  where
    left : open_with id (without event.id opens) ≡ open_with id opens
    left = without_other id event.id opens apart

    of : (pipe : Bool) (setup : Option Setup) (ends : Bool) → open_with id (seen_by pipe setup ends event opens).held ≡ open_with id opens
    of false setup ends = refl
    of true (Some setup) ends = push_other id event.id (without event.id opens) (begun event setup) apart ∙ left
    of true None true = left
    of true None false = again_other id event.id (without event.id opens) (open_with event.id opens) (gone_on event) apart ∙ left

after_others : (id : ℕ) (opens : List OpenTransfer) (events : List Event) → AllByRecursion (λ event. event.id ≢ id) events → open_with id (open_after opens events) ≡ open_with id opens
after_others id opens [] each = refl
after_others id opens (event ∷ events) each = after_others id (seen event opens).held events each.1 ∙ seen_other id event opens each.0

after_both : (opens : List OpenTransfer) (xs ys : List Event) → open_after opens (xs ++ ys) ≡ open_after (open_after opens xs) ys
after_both opens [] ys = refl
after_both opens (x ∷ xs) ys = after_both (seen x opens).held xs ys

-- a setup packet opens its transfer
begins : (event : Event) (setup : Setup) (opens : List OpenTransfer) → Once opens → is_of_default_pipe event ≡ true → event.setup ≡ Some setup
    → open_with event.id (seen event opens).held ≡ Some (begun event setup)
begins event setup opens once pipe is =
    ap (λ p. open_with event.id (seen_by p event.setup event.ends event opens).held) pipe
    ∙ ap (λ s. open_with event.id (seen_by true s event.ends event opens).held) is
    ∙ push_found event.id (without event.id opens) (begun event setup) (without_none event.id opens once)

-- and an answer ends it
ends : (event : Event) (opens : List OpenTransfer) → is_of_default_pipe event ≡ true → event.setup ≡ None → event.ends ≡ true
    → (seen event opens).over ≡ option_map (ended event) (open_with event.id opens)
ends event opens pipe none end =
    ap (λ p. (seen_by p event.setup event.ends event opens).over) pipe
    ∙ ap (λ s. (seen_by true s event.ends event opens).over) none
    ∙ ap (λ e. (seen_by true None e event opens).over) end

pub a_transfer : (before between : List Event) (request answer : Event) (setup : Setup)
    → is_of_default_pipe request ≡ true → request.setup ≡ Some setup
    → AllByRecursion (λ event. event.id ≢ request.id) between
    → is_of_default_pipe answer ≡ true → answer.id ≡ request.id → answer.setup ≡ None → answer.ends ≡ true
    → over_in [] ((before ++ request ∷ between) ++ answer ∷ []) ≡ over_in [] (before ++ request ∷ between) ++ ended answer (begun request setup) ∷ []
a_transfer before between request answer setup pipe is others back same none end =
    let events = before ++ request ∷ between in
    let opens = open_after [] before in
    let there : open_with request.id (open_after [] events) ≡ Some (begun request setup) =
    ap (open_with request.id) (after_both [] before (request ∷ between))
    ∙ after_others request.id (seen request opens).held between others
    ∙ begins request setup opens (after_once [] before tt) pipe is in
    over_push [] events answer
    ∙ ap (λ o. over_in [] events ++ option_to_list o)
    (ends answer (open_after [] events) back none end ∙ ap (λ id. option_map (ended answer) (open_with id (open_after [] events))) same ∙ ap (option_map (ended answer)) there)
