-- Runs of a talk: their points, and the fates that they use.
use Rattle.std.proofs.Common.{◌≡◌, ℕ, zero, suc, ◌+◌, ◌≤◌, List, [], ◌∷◌, ◌++◌, length, drop, Some, None, refl, sym, ap, ◌∙◌, arith, inl, inr, subst}
use Rattle.std.proofs.lemmas.Bool.{cases_lt}
use Rattle.usb_fields.specs.Packets.{Sent}
use Rattle.usb_fields.specs.declared.setup.Setup.{Setup as SetupPacket}
use Rattle.usb_device.specs.declared.state.State.{State}
use Rattle.usb_device.specs.Requests.{Outcome}
use Rattle.usb_bus.specs.declared.fate.Fate.{Fate}
use Rattle.usb_host.specs.declared.reply.Reply.{Reply}
use Rattle.usb_bus.specs.Bus.{losses, busies, acks_lost}
use Rattle.usb_host.specs.Plan.{Plan}
use Rattle.usb_bus.specs.Attempt.{Attempt, attempt_step, attempt_run}
use Rattle.usb_bus.specs.Run.{fate_at, fates_used, due_in, Steps}
use Rattle.usb_bus.specs.inside.Running.{point, AreDue}

-- no more is lost than the list has, and no more is Busy
pub losses-fates_used : (fates : List Fate) (n : ℕ) → losses (fates_used fates n) ≤ losses fates
losses-fates_used fates zero = omega arith
losses-fates_used [] (suc n) = (let rest = losses-fates_used [] n in omega arith)
losses-fates_used (f ∷ fates) (suc n) = (let rest = losses-fates_used fates n in omega arith)

pub busies-fates_used : (fates : List Fate) (n : ℕ) → busies (fates_used fates n) ≤ busies fates
busies-fates_used fates zero = omega arith
busies-fates_used [] (suc n) = (let rest = busies-fates_used [] n in omega arith)
busies-fates_used (f ∷ fates) (suc n) = (let rest = busies-fates_used fates n in omega arith)

pub acks_lost-fates_used : (fates : List Fate) (n : ℕ) → acks_lost (fates_used fates n) ≤ acks_lost fates
acks_lost-fates_used fates zero = omega arith
acks_lost-fates_used [] (suc n) = (let rest = acks_lost-fates_used [] n in omega arith)
acks_lost-fates_used (f ∷ fates) (suc n) = (let rest = acks_lost-fates_used fates n in omega arith)

-- the next fate, and those after it
fates_used-drop : (k : ℕ) (fates : List Fate) (n : ℕ) → fates_used (drop k fates) (suc n) ≡ fate_at fates k ∷ fates_used (drop (suc k) fates) n
fates_used-drop zero [] n = refl
fates_used-drop zero (f ∷ fates) n = refl
fates_used-drop (suc k) [] n = refl
fates_used-drop (suc k) (f ∷ fates) n = fates_used-drop k fates n

module _ (plan : List Reply → Plan) (naks : ℕ) (sends : List Reply → List ℕ) (answer : State → SetupPacket → Outcome) (cut : ℕ) (fates : List Fate) where
  abbrev next : ℕ → Attempt → Attempt
  next k x = attempt_step plan naks sends answer cut (fate_at fates k) x.replies x.phase x.device

  -- the points on the way
  pub points : ℕ → ℕ → Attempt → List Attempt
  points k zero x = []
  points k (suc n) x = next k x ∷ points (suc k) n (next k x)

  pub length-points : (k n : ℕ) (x : Attempt) → length (points k n x) ≡ n
  unfolding points
  length-points k zero x = refl
  length-points k (suc n) x = ap suc (length-points (suc k) n (next k x))

  -- a transaction comes next at point n from x on
  abbrev pub IsDue : ℕ → Attempt → ℕ → Type 0
  IsDue k x n = (sent : Sent) × (let y = point plan naks sends answer cut fates k n x in due_in (sends y.replies) y.phase ≡ Some sent)

  -- one point more at which a transaction comes next
  pub AreDue-more : (k n : ℕ) (x : Attempt) → AreDue plan naks sends answer cut fates k n x → IsDue k x n → AreDue plan naks sends answer cut fates k (suc n) x
  AreDue-more k n x due last i less =
      elim (cases_lt i n) [
        | inl before ↦ due i before
        | inr from ↦ (let same : n ≡ i = omega arith in subst (λ j. IsDue k x j) same last)
      ]

  -- the points are steps, where a transaction comes next at each
  pub Steps-points : (k n : ℕ) (x : Attempt) → AreDue plan naks sends answer cut fates k n x →
      Steps plan naks sends answer cut fates k x (points k n x) (point plan naks sends answer cut fates k n x)
  unfolding points
  Steps-points k zero x due = refl
  Steps-points k (suc n) x due =
      let first = due 0 (omega arith) in (
        record { sent = first.0; comes_next = first.1; next = refl },
        Steps-points (suc k) n (next k x) (λ i less. due (suc i) (omega arith)),
      )

  -- steps, and those that go on from where they end
  pub Steps-append : (k m : ℕ) (start : Attempt) (ps : List Attempt) (middle : Attempt) (qs : List Attempt) (end : Attempt) → m ≡ k + length ps →
      Steps plan naks sends answer cut fates k start ps middle → Steps plan naks sends answer cut fates m middle qs end → Steps plan naks sends answer cut fates k start (ps ++ qs) end
  Steps-append k m start [] middle qs end at a b =
      let same : m ≡ k = omega arith in
      subst (λ x. Steps plan naks sends answer cut fates k x qs end) a (subst (λ j. Steps plan naks sends answer cut fates j middle qs end) same b)
  Steps-append k m start (p ∷ ps) middle qs end at a b = (a.0, Steps-append (suc k) m p ps middle qs end (omega arith) a.1 b)

  -- steps are a run under the fates that were used
  pub Steps-run : (k : ℕ) (start : Attempt) (ps : List Attempt) (end : Attempt) → Steps plan naks sends answer cut fates k start ps end →
      end ≡ attempt_run plan naks sends answer cut (fates_used (drop k fates) (length ps)) start
  Steps-run k start [] end a = a
  Steps-run k start (p ∷ ps) end a =
      Steps-run (suc k) p ps end a.1
      ∙ ap (λ x. attempt_run plan naks sends answer cut (fates_used (drop (suc k) fates) (length ps)) x) a.0.next
      ∙ sym (ap (λ fs. attempt_run plan naks sends answer cut fs start) (fates_used-drop k fates (length ps)))

  -- two runs from one point that both end where nothing comes next are as long as each other, and end alike
  pub Steps-same : (k : ℕ) (start : Attempt) (ps qs : List Attempt) (x y : Attempt) → Steps plan naks sends answer cut fates k start ps x →
      Steps plan naks sends answer cut fates k start qs y → due_in (sends x.replies) x.phase ≡ None → due_in (sends y.replies) y.phase ≡ None → (length ps ≡ length qs) × (x ≡ y)
  Steps-same k start [] [] x y a b ends over = (refl, a ∙ sym b)
  Steps-same k start [] (q ∷ qs) x y a b ends over =
      let clash : None ≡ Some b.0.sent = sym ends ∙ ap (λ z. due_in (sends z.replies) z.phase) a ∙ b.0.comes_next in absurd (cc)
  Steps-same k start (p ∷ ps) [] x y a b ends over =
      let clash : None ≡ Some a.0.sent = sym over ∙ ap (λ z. due_in (sends z.replies) z.phase) b ∙ a.0.comes_next in absurd (cc)
  Steps-same k start (p ∷ ps) (q ∷ qs) x y a b ends over =
      let same : q ≡ p = b.0.next ∙ sym a.0.next in
      let rest = Steps-same (suc k) p ps qs x y a.1 (subst (λ z. Steps plan naks sends answer cut fates (suc k) z qs y) same b.1) ends over in
      (ap suc rest.0, rest.1)
