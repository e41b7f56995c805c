-- The requests of the transfers that a recorder makes of a run.
use Rattle.std.proofs.Common.{◌≡◌, inl, inr, ◌==◌, ◌≤◌, ◌+◌, ◌-◌, ℕ, Bool, true, false, if◌then◌else◌, List, [], ◌∷◌, ◌++◌, length, refl, sym, ◌∙◌, ap, subst, arith}
use Rattle.std.specs.Prelude.{Option, Some, None}
use Rattle.std.specs.List.{AllByRecursion}
use Rattle.usb_fields.specs.declared.setup.Setup.{Setup}
use Rattle.usb_fields.specs.Packets.{InToken, OutToken, Reply, Sent, SetupToken, Token}
use Rattle.usb_fields.specs.Setup.{setup_bytes}
use Rattle.usb_file_data.specs.declared.file.DescriptorFile.{DescriptorFile}
use Rattle.usb_host.specs.declared.transfer.TransferStage.{TransferStage}
use Rattle.usb_host.specs.declared.transfer.TransferStage.TheVariants as stages
use Rattle.usb_host.specs.Limits.{LimitView}
use Rattle.usb_host.specs.Order.{asks}
use Rattle.usb_host.specs.Place.{Place, First, Address, Device, Header, Set, Qualifier, Languages, Text, Configure, Reported, Stopped}
use Rattle.usb_host.specs.Plan.{Plan, Begin, Success, GivesUp}
use Rattle.usb_host.specs.Steps.{Ended, HostPhase, Reading, ResetDue, WantsSent, sends, wanted}
use Rattle.usb_host.specs.Transfer.{TransferView, addressed, token_due}
use Rattle.usb_device.specs.Requests.{answer}
use Rattle.usb_device.specs.Step.{DeviceView}
use Rattle.usb_bus.specs.declared.fate.Fate.{Fate}
use Rattle.usb_bus.specs.Bus.{brought}
use Rattle.usb_bus.specs.Enumerate.{Pair, RunsAt, answered}
use Rattle.usb_bus.specs.Exchanges.{is_lost_down}
use Rattle.usb_bus.specs.Log.{count_before}
use Rattle.usb_bus.specs.Run.{fate_at}
use Rattle.usb_bus.specs.Wire.{token_kind}
use Rattle.usb_capture.specs.declared.control_transfer.ControlTransfer.{ControlTransfer}
use Rattle.usb_capture.specs.declared.finding.Finding.{Finding}
use Rattle.usb_capture.specs.BusTransfers.{request_by, transfers_in}
use Rattle.usb_capture.specs.Events.{setup_at}
use Rattle.usb_capture.specs.Findings.{sets_address}
use Rattle.usb_capture.specs.Readings.{reads_descriptor}
use Rattle.usb_capture.specs.TransferFindings.{is_found}
use Rattle.usb_recorded_runs.specs.Answers.{found_otherwise}
use Rattle.usb_recorded_runs.specs.Exchanges.{Exchange, data_received, exchange_in, exchanges, packets_of, received, transaction_of, unless_lost}
use Rattle.usb_recorded_runs.specs.Findings.{IsTransferFreeAfter}
use Rattle.usb_recorded_runs.proofs.ComparedLemmas.{is_compared_code, uncompared_free}
use Rattle.usb_recorded_runs.proofs.RequestedLemmas.{Asks, HasRequest, InOrder, IsLong, IsOf, all_requests, plan_of, reset_orders, taken_orders}
use Rattle.usb_recorded_runs.proofs.RunLemmas.{all_append}
use Rattle.usb_recorded_runs.proofs.TransferLemmas.{free_by}

-- A host asks for at least eight bytes of a descriptor, gives addresses at address 0, and sends no request whose answers are compared.
pub record IsAskedAt (address : ℕ) (q : Setup) : Type 0 where
  pub long : reads_descriptor q ≡ true → 8 ≤ q.length
  pub first : sets_address q ≡ true → address ≡ 0
  pub other : is_compared_code q.request ≡ false

abbrev pub recorded : Setup → Setup
recorded q = setup_at (setup_bytes q) 0

false_true : {A : Type 0} → false ≡ true → A
false_true e = absurd (let w : ⊥ = cc in w)

abbrev PlanAsks : Plan → Type 0
PlanAsks (Begin address packet q) = IsAskedAt address (recorded q)
PlanAsks Success = Unit {0}
PlanAsks (GivesUp why) = Unit {0}

plan_asks : (address : ℕ) (place : Place) → IsLong place → PlanAsks (asks address place)
plan_asks address First long = record { long = λ read. omega arith; first = λ gives. false_true gives; other = refl }
plan_asks address (Address first) long = record { long = λ read. false_true read; first = λ gives. refl; other = refl }
plan_asks address (Device first) long = record { long = λ read. omega arith; first = λ gives. false_true gives; other = refl }
plan_asks address (Header kind f) long = record { long = λ read. omega arith; first = λ gives. false_true gives; other = refl }
plan_asks address (Set kind f total) long = record { long = λ read. omega (arith, long); first = λ gives. false_true gives; other = refl }
plan_asks address (Qualifier f) long = record { long = λ read. omega arith; first = λ gives. false_true gives; other = refl }
plan_asks address (Languages f named) long = record { long = λ read. omega arith; first = λ gives. false_true gives; other = refl }
plan_asks address (Text f s named) long = record { long = λ read. omega arith; first = λ gives. false_true gives; other = refl }
plan_asks address (Configure f) long = record { long = λ read. false_true read; first = λ gives. false_true gives; other = refl }
plan_asks address (Reported f) long = tt
plan_asks address (Stopped trouble) long = tt

asked_at : (limits : LimitView) (place : Place) (t : TransferView) → Asks limits place t → IsAskedAt t.address (recorded t.request)
asked_at limits place t asked = let is : PlanAsks (plan_of t) = subst PlanAsks asked.plan (plan_asks limits.address place asked.long) in is

-- ---- what is sent

token_same : (s sent : Sent) → WantsSent s ≡ WantsSent sent → (bytes : List ℕ) → sent.token ≡ SetupToken bytes → (s.token ≡ SetupToken bytes) × (sent.address ≡ s.address)
token_same s sent e bytes is = let same : s ≡ sent = cc in (ap (λ z. z.token) same ∙ is, ap (λ z. z.address) (sym same))

in_setup : {A : Type 0} (bytes : List ℕ) → InToken ≡ SetupToken bytes → A
in_setup bytes e = absurd (let w : ⊥ = cc in w)

setup_same : (a b : List ℕ) → SetupToken a ≡ SetupToken b → b ≡ a
setup_same a b e = cc

-- A SETUP is that of the transfer.
due_setup : (t : TransferView) (stage : TransferStage) (sent : Sent) → sends (addressed t.address (token_due t [] stage)) ≡ WantsSent sent → (bytes : List ℕ) → sent.token ≡ SetupToken bytes
    → (bytes ≡ setup_bytes t.request) × (sent.address ≡ t.address)
due_setup t stages.Setup sent e bytes is = let same = token_same _ sent e bytes is in (setup_same (setup_bytes t.request) bytes same.0, same.1)
due_setup t stages.DataIn sent e bytes is = in_setup bytes (token_same _ sent e bytes is).0
due_setup t stages.DataOut sent e bytes is = absurd (let same = token_same _ sent e bytes is in let z = same.0 in let w : ⊥ = cc in w)
due_setup t stages.StatusOut sent e bytes is = absurd (let same = token_same _ sent e bytes is in let z = same.0 in let w : ⊥ = cc in w)
due_setup t stages.StatusIn sent e bytes is = in_setup bytes (token_same _ sent e bytes is).0
due_setup t stages.Completed sent e bytes is = absurd (let w : ⊥ = cc in w)
due_setup t (stages.Failed why) sent e bytes is = absurd (let w : ⊥ = cc in w)

abbrev pub AsksFor : Exchange → Type 0
AsksFor x = (bytes : List ℕ) → x.sent.token ≡ SetupToken bytes → IsAskedAt x.sent.address (setup_at bytes 0)

phase_asks : (limits : LimitView) (phase : HostPhase) (sent : Sent) → wanted phase ≡ WantsSent sent → InOrder limits phase → (bytes : List ℕ) → sent.token ≡ SetupToken bytes
    → IsAskedAt sent.address (setup_at bytes 0)
phase_asks limits ResetDue sent due order bytes is = absurd (let w : ⊥ = cc in w)
phase_asks limits (Ended place) sent due order bytes is = absurd (let w : ⊥ = cc in w)
phase_asks limits (Reading place t k) sent due order bytes is =
    let same = due_setup t t.stage sent due bytes is in
    subst (λ b. IsAskedAt sent.address (setup_at b 0)) (sym same.0)
    (subst (λ a. IsAskedAt a (setup_at (setup_bytes t.request) 0)) (sym same.1) (asked_at limits place t order))

-- ---- what is received

pub token_asks : (token : Token) (address : ℕ) (came : Reply) → ((bytes : List ℕ) → token ≡ SetupToken bytes → IsAskedAt address (setup_at bytes 0)) → (setup : Setup)
    → request_by (token_kind token) (data_received token came) ≡ Some setup → IsAskedAt address setup
token_asks (SetupToken bytes) address came is setup e = of (length bytes == 8) e
  where
    of : (whole : Bool) → (if whole then Some (setup_at bytes 0) else None) ≡ Some setup → IsAskedAt address setup
    of true e = let same : setup_at bytes 0 ≡ setup = cc in subst (IsAskedAt address) same (is bytes refl)
    of false e = absurd (let w : ⊥ = cc in w)
token_asks InToken address came is setup e = absurd (let w : ⊥ = cc in w)
token_asks (OutToken toggle bytes) address came is setup e = absurd (let w : ⊥ = cc in w)

pub all_of : (times : ℕ → Option ℕ) (number : ℕ) (xs : List Exchange) → AllByRecursion AsksFor xs → AllByRecursion (IsOf IsAskedAt) (received times number xs)
all_of times number [] each = tt
all_of times number (x ∷ xs) each = of (is_lost_down x.fate) (all_of times (number + length (packets_of x)) xs each.1)
  where
    of : (lost : Bool) → AllByRecursion (IsOf IsAskedAt) (received times (number + length (packets_of x)) xs)
        → AllByRecursion (IsOf IsAskedAt) (unless_lost lost (transaction_of number (times number) x) ++ received times (number + length (packets_of x)) xs)
    of true later = later
    of false later = (token_asks x.sent.token x.sent.address (brought x.fate x.answered) each.0, later)

-- ---- a run

module _ (f : DescriptorFile) (list : List Fate) where
  abbrev made_of : DeviceView → Sent → Fate → Exchange
  made_of d sent fate = record { fate = fate; sent = sent; address = d.state.address; answered = answered f d sent fate }

  pub record OrderedRun (new : Pair) (earlier : List Pair) (n : ℕ) (last : Pair) : Type 0 where
    pub asked : AllByRecursion AsksFor (exchanges f list earlier n)
    pub limits : last.host.limits ≡ new.host.limits
    pub order : InOrder last.host.limits last.host.phase

  pub ordered_run : (new : Pair) (earlier : List Pair) (n : ℕ) (last : Pair) → new.host.phase ≡ ResetDue → RunsAt (answer f) f.device.packet list new earlier n last → OrderedRun new earlier n last
  ordered_run new [] n last due (same, none) = record {
    asked = tt;
    limits = ap (λ y. y.host.limits) same;
    order = subst (λ y. InOrder y.host.limits y.host.phase) (sym same) (subst (InOrder new.host.limits) (sym due) tt);
  }
  ordered_run new (x ∷ earlier) n last due (inl (reset, run)) =
      let before = ordered_run new earlier n x due run in
      let now = reset_orders x.host last.host before.order reset.host in
      record {
        asked = subst (λ w. AllByRecursion AsksFor (exchanges f list earlier (count_before w n) ++ exchange_in f list n x.device w)) (sym reset.due)
            (all_append AsksFor (exchanges f list earlier n) [] before.asked tt);
        limits = now.limits ∙ before.limits;
        order = now.order;
      }
  ordered_run new (x ∷ earlier) n last due (inr (m, same, made, run)) =
      let back : n - 1 ≡ m = omega (arith, same) in
      let before = ordered_run new earlier m x due run in
      let now = taken_orders x.host last.host _ before.order made.host in
      record {
        asked = subst (λ w. AllByRecursion AsksFor (exchanges f list earlier (count_before w n) ++ exchange_in f list n x.device w)) (sym made.due)
            (subst (λ k. AllByRecursion AsksFor (exchanges f list earlier k ++ made_of x.device made.sent (fate_at list k) ∷ [])) (sym back)
            (all_append AsksFor (exchanges f list earlier m) (made_of x.device made.sent (fate_at list m) ∷ []) before.asked
            (phase_asks x.host.limits x.host.phase made.sent made.due before.order, tt)));
        limits = now.limits ∙ before.limits;
        order = now.order;
      }

  pub run_requests : (times : ℕ → Option ℕ) (new : Pair) (earlier : List Pair) (n : ℕ) (last : Pair) → new.host.phase ≡ ResetDue → RunsAt (answer f) f.device.packet list new earlier n last
      → AllByRecursion (HasRequest IsAskedAt) (transfers_in (received times 1 (exchanges f list earlier n)))
  run_requests times new earlier n last due run =
      all_requests IsAskedAt (received times 1 (exchanges f list earlier n)) (all_of times 1 (exchanges f list earlier n) (ordered_run new earlier n last due run).asked)

-- ---- what is found in none

-- what is found in no transfer with such a request
free_of : (some : List Finding)
    → ((earlier : List ControlTransfer) (t : ControlTransfer) → HasRequest IsAskedAt t → AllByRecursion (λ finding. is_found finding earlier t ≡ false) some)
    → (ts : List ControlTransfer) → AllByRecursion (HasRequest IsAskedAt) ts → AllByRecursion (λ finding. IsTransferFreeAfter finding [] ts) some
free_of [] free ts each = tt
free_of (finding ∷ more) free ts each = (
  free_by finding (HasRequest IsAskedAt) (λ t earlier is before. (free earlier t is).0) [] ts tt each,
  free_of more (λ earlier t is. (free earlier t is).1) ts each,
)

pub none_answers_otherwise : (ts : List ControlTransfer) → AllByRecursion (HasRequest IsAskedAt) ts
    → AllByRecursion (λ finding. IsTransferFreeAfter finding [] ts) found_otherwise
none_answers_otherwise ts each = free_of found_otherwise (λ earlier t is. uncompared_free earlier t is.other) ts each
