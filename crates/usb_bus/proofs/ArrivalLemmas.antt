-- All data of a write come at most once to a device in one transfer.
use Rattle.std.proofs.Common.{◌≡◌, ℕ, suc, ◌+◌, ◌≤◌, ◌==◌, ◌&&◌, not, Bool, true, false, if◌then◌else◌, List, [], ◌∷◌, drop, Option, Some, None, refl, ap, sym, ◌∙◌, subst, arith}
use Rattle.std.proofs.lemmas.Bool.Decides.{nat_tests}
use Rattle.usb_fields.specs.declared.packet.Toggle.{Toggle}
use Rattle.usb_fields.specs.declared.packet.Toggle.TheVariants.{Data0, Data1}
use Rattle.usb_fields.specs.declared.setup.Setup.{Setup as SetupPacket}
use Rattle.usb_fields.specs.Setup.{setup_bytes}
use Rattle.usb_fields.specs.Packets.{Token, SetupToken, InToken, OutToken, Sent, Reply, AckReply, NoReply, packets}
use Rattle.usb_host.specs.Transfer.{TransferView, due_of, packet_due, token_due, addressed}
use Rattle.usb_host.specs.declared.transfer.TransferStage.{TransferStage}
use Rattle.usb_host.specs.declared.transfer.TransferStage.TheVariants.{Setup, DataIn, DataOut, StatusOut, StatusIn, Completed, Failed}
use Rattle.usb_device.specs.declared.state.State.{State}
use Rattle.usb_device.specs.Requests.{Outcome}
use Rattle.usb_device.specs.Step.{DeviceStage, DeviceView, Served, acked, acked_stage, acked_state, next_packet, next_stage, replies, served, served_here, served_in, served_out, stalls, status_out}
use Rattle.usb_device.specs.Step as device
use Rattle.usb_bus.specs.declared.fate.Fate.{Fate}
use Rattle.usb_bus.specs.declared.fate.Fate.TheVariants.{Pass, Busy, LostDown, LostUp, LostAck}
use Rattle.usb_bus.specs.Bus.{Ends, carried, exchanged, has_data, receives_reply, is_data, readiness, step_of, taken_by}
use Rattle.usb_bus.specs.Arrivals.{arrival_at, arrival_in, arrivals, awaits_data, takes_data}

-- ---- the host

abbrev pub is_setup : TransferStage → Bool
is_setup Setup = true
is_setup stage = false

-- past its SETUP a transfer stays so
pub stays_past : (sends : Bool) (t : TransferView) (stage : TransferStage) (reply : Reply) → t.stage ≡ stage → is_setup stage ≡ false →
    is_setup (taken_by sends t stage reply).transfer.stage ≡ false
stays_past sends t Setup reply e past = absurd (cc)
stays_past sends t DataIn reply e past = grind (arith, nat_tests)
stays_past true t DataOut reply e past = grind (arith, nat_tests)
stays_past false t DataOut reply e past = grind (arith, nat_tests)
stays_past sends t StatusOut reply e past = grind (arith, nat_tests)
stays_past sends t StatusIn reply e past = grind (arith, nat_tests)
stays_past sends t Completed reply e past = grind (arith, nat_tests)
stays_past sends t (Failed why) reply e past = grind (arith, nat_tests)

-- ---- the device

abbrev one_if : Bool → ℕ
one_if true = 1
one_if false = 0

-- what comes last was awaited, and then is not
falls_by : (before after takes : Bool) → (after ≡ true → before ≡ true) →
    (if before && not after && takes then 1 else 0) + one_if after ≤ one_if before
falls_by true true takes h = omega arith
falls_by true false true h = omega arith
falls_by true false false h = omega arith
falls_by false true takes h = absurd (let z = h refl in cc)
falls_by false false takes h = omega arith

one_less : (before after : Bool) → (after ≡ true → before ≡ true) → one_if after ≤ one_if before
one_less true true h = omega arith
one_less b false h = omega arith
one_less false true h = absurd (let z = h refl in cc)

-- not a SETUP
abbrev pub IsLater : Token → Type 0
IsLater (SetupToken b) = ⊥
IsLater token = Unit {0}

abbrev Awaits : DeviceStage → Served → Type 0
Awaits before r = awaits_data r.device.stage ≡ true → awaits_data before ≡ true

if_awaits : (before : DeviceStage) (c : Bool) (x y : Served) → Awaits before x → Awaits before y → Awaits before (if c then x else y)
if_awaits before true x y p q = p
if_awaits before false x y p q = q

status_awaits : (s : State) (at : DeviceStage) (t : Toggle) (b : List ℕ) → Awaits at (status_out s at t b)
status_awaits s at Data0 b = λ e. e
status_awaits s at Data1 [] = λ e. absurd (cc)
status_awaits s at Data1 (x ∷ b) = λ e. absurd (cc)

packet_awaits : (s : State) (at : DeviceStage) (k : ℕ) (ps : List (List ℕ)) → Awaits at (next_packet s at k ps)
packet_awaits s at k [] = λ e. absurd (cc)
packet_awaits s at k (p ∷ ps) = λ e. e

module _ (answer : State → SetupPacket → Outcome) (packet : ℕ) where
  out_awaits : (s : State) (at : DeviceStage) (t : Toggle) (b : List ℕ) → Awaits at (served_out answer packet s at t b)
  out_awaits s (device.Receiving q got) t b = λ e. refl
  out_awaits s (device.Sending q x k) t b = status_awaits s (device.Sending q x k) t b
  out_awaits s (device.StatusOut q) t b = status_awaits s (device.StatusOut q) t b
  out_awaits s device.Over t b = status_awaits s device.Over t b
  out_awaits s (device.StatusIn q c) t b =
      if_awaits (device.StatusIn q c) (q.length == 0) (stalls s) (replies AckReply s (device.StatusIn q c) false) (λ e. absurd (cc)) (λ e. e)
  out_awaits s (device.Written q got) t b =
      if_awaits (device.Written q got) _ (stalls s) (replies AckReply s (device.Written q got) false) (λ e. absurd (cc)) (λ e. e)
  out_awaits s device.Idle t b = λ e. absurd (cc)
  out_awaits s (device.Halted refused) t b = λ e. absurd (cc)

  in_awaits : (s : State) (at : DeviceStage) → Awaits at (served_in answer packet s at)
  in_awaits s (device.Receiving q got) = λ e. refl
  in_awaits s (device.Sending q x k) = packet_awaits s (device.Sending q x k) k (drop k (packets x packet q.length))
  in_awaits s (device.StatusOut q) = λ e. absurd (cc)
  in_awaits s device.Over = λ e. absurd (cc)
  in_awaits s (device.StatusIn q c) = λ e. absurd (cc)
  in_awaits s (device.Written q got) = λ e. absurd (cc)
  in_awaits s device.Idle = λ e. absurd (cc)
  in_awaits s (device.Halted refused) = λ e. absurd (cc)

  here_awaits : (d : DeviceView) (token : Token) (ready : Bool) → IsLater token → Awaits d.stage (served_here answer packet d token ready)
  here_awaits d (SetupToken b) ready later = absurd later
  here_awaits d InToken false later = λ e. e
  here_awaits d InToken true later = in_awaits d.state d.stage
  here_awaits d (OutToken t b) false later = λ e. e
  here_awaits d (OutToken t b) true later = out_awaits d.state d.stage t b

  served_awaits : (d : DeviceView) (sent : Sent) (ready : Bool) → IsLater sent.token → Awaits d.stage (served answer packet d sent ready)
  served_awaits d sent ready later =
      if_awaits d.stage (sent.address == d.state.address) (served_here answer packet d sent.token ready) (replies NoReply d.state d.stage false)
      (here_awaits d sent.token ready later) (λ e. e)

  next_awaits : (q : SetupPacket) (x : List ℕ) (k : ℕ) (ps : List (List ℕ)) → awaits_data (next_stage q x k ps) ≡ false
  next_awaits q x k [] = refl
  next_awaits q x k (p ∷ ps) = refl

  acked_awaits : (at : DeviceStage) → awaits_data (acked_stage answer packet at) ≡ true → awaits_data at ≡ true
  acked_awaits (device.Sending q x k) e = absurd (let z = sym (next_awaits q x k (drop (suc k) (packets x packet q.length))) ∙ e in cc)
  acked_awaits device.Idle e = e
  acked_awaits (device.Halted refused) e = e
  acked_awaits (device.StatusOut q) e = e
  acked_awaits device.Over e = e
  acked_awaits (device.StatusIn q c) e = absurd (cc)
  acked_awaits (device.Receiving q got) e = e
  acked_awaits (device.Written q got) e = e

  acks_awaits : (d : DeviceView) (data_came pending : Bool) →
      awaits_data (if data_came then (if pending then record { state = acked_state answer packet d.state d.stage; stage = acked_stage answer packet d.stage; pending = false } else d) else d).stage ≡ true →
      awaits_data d.stage ≡ true
  acks_awaits d true true e = acked_awaits d.stage e
  acks_awaits d true false e = e
  acks_awaits d false pending e = e

  -- in a transaction that is no SETUP, data are awaited after it only where they were before, and came last at most once
  pub falls : (d : DeviceView) (sent : Sent) (fate : Fate) → IsLater sent.token →
      arrival_at answer packet d sent (readiness fate) + one_if (awaits_data (carried answer packet d sent fate).device.stage) ≤ one_if (awaits_data d.stage)
  falls d sent Pass later =
      let r = served answer packet d sent true in
      let last = falls_by (awaits_data d.stage) (awaits_data r.device.stage) (takes_data sent.token r.reply) (served_awaits d sent true later) in
      let on = one_less (awaits_data r.device.stage) _ (acks_awaits r.device (is_data r.reply) r.device.pending) in omega arith
  falls d sent Busy later =
      let r = served answer packet d sent false in
      let last = falls_by (awaits_data d.stage) (awaits_data r.device.stage) (takes_data sent.token r.reply) (served_awaits d sent false later) in
      let on = one_less (awaits_data r.device.stage) _ (acks_awaits r.device (is_data r.reply) r.device.pending) in omega arith
  falls d sent LostDown later = omega arith
  falls d sent LostUp later =
      let r = served answer packet d sent true in
      falls_by (awaits_data d.stage) (awaits_data r.device.stage) (takes_data sent.token r.reply) (served_awaits d sent true later)
  falls d sent LostAck later =
      let r = served answer packet d sent true in
      falls_by (awaits_data d.stage) (awaits_data r.device.stage) (takes_data sent.token r.reply) (served_awaits d sent true later)

  -- ---- both ends

  abbrev pub left_at : TransferStage → DeviceStage → ℕ
  left_at Setup at = 1
  left_at stage at = one_if (awaits_data at)

  one_most : (b : Bool) → one_if b ≤ 1
  one_most true = omega arith
  one_most false = omega arith

  left_past : (stage : TransferStage) (at : DeviceStage) → is_setup stage ≡ false → left_at stage at ≡ one_if (awaits_data at)
  left_past Setup at past = absurd (cc)
  left_past DataIn at past = refl
  left_past DataOut at past = refl
  left_past StatusOut at past = refl
  left_past StatusIn at past = refl
  left_past Completed at past = refl
  left_past (Failed why) at past = refl

  left_most : (stage : TransferStage) (at : DeviceStage) → left_at stage at ≤ 1
  left_most Setup at = omega arith
  left_most DataIn at = one_most (awaits_data at)
  left_most DataOut at = one_most (awaits_data at)
  left_most StatusOut at = one_most (awaits_data at)
  left_most StatusIn at = one_most (awaits_data at)
  left_most Completed at = one_most (awaits_data at)
  left_most (Failed why) at = one_most (awaits_data at)

  module _ (bytes : List ℕ) where
    abbrev next : Fate → Ends → Ends
    next fate e = step_of answer packet bytes fate e

    abbrev Less : Fate → Ends → Option Sent → Type 0
    Less fate e o = arrival_in answer packet e.device o fate + left_at (next fate e).host.transfer.stage (next fate e).device.stage ≤ left_at e.host.transfer.stage e.device.stage

    -- past the SETUP
    less_later : (fate : Fate) (e : Ends) (sent : Sent) → due_of e.host.transfer bytes ≡ Some sent → IsLater sent.token → is_setup e.host.transfer.stage ≡ false → Less fate e (Some sent)
    less_later fate e sent is later past =
        let r = carried answer packet e.device sent fate in
        let after : next fate e ≡ record { host = receives_reply (has_data bytes) e.host r.reply; device = r.device } = ap (λ o. exchanged answer packet (has_data bytes) e.host e.device o fate) is in
        let still = stays_past (has_data bytes) e.host.transfer e.host.transfer.stage r.reply refl past in
        let there : left_at (receives_reply (has_data bytes) e.host r.reply).transfer.stage r.device.stage ≡ one_if (awaits_data r.device.stage) = left_past _ r.device.stage still in
        let here = left_past e.host.transfer.stage e.device.stage past in
        let fall = falls e.device sent fate later in
        rw (after, there, here) fall

    less_none : (fate : Fate) (e : Ends) → due_of e.host.transfer bytes ≡ None → Less fate e None
    less_none fate e is =
        let after : next fate e ≡ e = ap (λ o. exchanged answer packet (has_data bytes) e.host e.device o fate) is in
        rw after (omega arith)

    less_setup : (fate : Fate) (e : Ends) (sent : Sent) → e.host.transfer.stage ≡ Setup → sent.token ≡ SetupToken (setup_bytes e.host.transfer.request) → Less fate e (Some sent)
    less_setup fate e sent at is =
        let none : arrival_in answer packet e.device (Some sent) fate ≡ 0 = no_arrival (readiness fate) in
        let most = left_most (next fate e).host.transfer.stage (next fate e).device.stage in
        let here : left_at e.host.transfer.stage e.device.stage ≡ 1 = ap (λ st. left_at st e.device.stage) at in
        rw (none, here) (omega arith)
      where
        by_tests : (a b : Bool) → ◌≡◌ {A = ℕ} (if a && b && false then 1 else 0) 0
        by_tests true true = refl
        by_tests true false = refl
        by_tests false b = refl

        no_arrival : (o : Option Bool) → arrival_at answer packet e.device sent o ≡ 0
        no_arrival None = refl
        no_arrival (Some ready) =
            let r = served answer packet e.device sent ready in
            subst (λ t. ◌≡◌ {A = ℕ} (if awaits_data e.device.stage && not (awaits_data r.device.stage) && takes_data t r.reply then 1 else 0) 0) (sym is)
            (by_tests (awaits_data e.device.stage) (not (awaits_data r.device.stage)))

    abbrev due_at : Ends → TransferStage → Option Sent
    due_at e stage = addressed e.host.transfer.address (token_due e.host.transfer bytes stage)

    -- the next transaction at this stage
    at_stage : (fate : Fate) (e : Ends) (stage : TransferStage) (sent : Sent) → e.host.transfer.stage ≡ stage → due_at e stage ≡ Some sent → IsLater sent.token →
        is_setup stage ≡ false → Less fate e (due_of e.host.transfer bytes)
    at_stage fate e stage sent at is later past =
        let due : due_of e.host.transfer bytes ≡ Some sent = ap (due_at e) at ∙ is in
        subst (λ o. Less fate e o) (sym due) (less_later fate e sent due later (ap is_setup at ∙ past))

    none_due : (fate : Fate) (e : Ends) (stage : TransferStage) → e.host.transfer.stage ≡ stage → due_at e stage ≡ None → Less fate e (due_of e.host.transfer bytes)
    none_due fate e stage at is =
        let due : due_of e.host.transfer bytes ≡ None = ap (due_at e) at ∙ is in
        subst (λ o. Less fate e o) (sym due) (less_none fate e due)

    less : (fate : Fate) (e : Ends) (stage : TransferStage) → e.host.transfer.stage ≡ stage → Less fate e (due_of e.host.transfer bytes)
    less fate e Setup at =
        let sent : Sent = record { address = e.host.transfer.address; token = SetupToken (setup_bytes e.host.transfer.request) } in
        let due : due_of e.host.transfer bytes ≡ Some sent = ap (due_at e) at in
        subst (λ o. Less fate e o) (sym due) (less_setup fate e sent at refl)
    less fate e DataIn at = at_stage fate e DataIn (record { address = e.host.transfer.address; token = InToken }) at refl tt refl
    less fate e DataOut at =
        at_stage fate e DataOut (record { address = e.host.transfer.address; token = OutToken e.host.transfer.awaited (packet_due e.host.transfer bytes) }) at refl tt refl
    less fate e StatusOut at = at_stage fate e StatusOut (record { address = e.host.transfer.address; token = OutToken Data1 [] }) at refl tt refl
    less fate e StatusIn at = at_stage fate e StatusIn (record { address = e.host.transfer.address; token = InToken }) at refl tt refl
    less fate e Completed at = none_due fate e Completed at refl
    less fate e (Failed why) at = none_due fate e (Failed why) at refl

    -- in all transactions of a transfer
    pub most : (fates : List Fate) (e : Ends) → arrivals answer packet bytes fates e ≤ left_at e.host.transfer.stage e.device.stage
    most [] e = omega arith
    most (f ∷ fates) e =
        let once = less f e e.host.transfer.stage refl in
        let rest = most fates (next f e) in omega arith
