-- A transaction outside the data stage keeps both ends in one transfer.
use Rattle.std.proofs.Common.{◌≡◌, ℕ, ◌+◌, ◌*◌, ◌/◌, ◌%◌, ◌<◌, ◌≤◌, ◌==◌, Bool, false, if◌then◌else◌, List, [], take, Option, ap, refl, sym, arith, inl, subst}
use Rattle.std.proofs.lemmas.Bool.Decides.{nat_tests}
use Rattle.usb_fields.specs.declared.packet.Toggle.{Toggle}
use Rattle.usb_fields.specs.declared.packet.Toggle.TheVariants.{Data1}
use Rattle.usb_fields.specs.declared.setup.Setup.{Setup as SetupPacket}
use Rattle.usb_fields.specs.declared.setup.Direction.TheVariants as directions
use Rattle.usb_fields.specs.Packets.{AckReply, NoReply, packets}
use Rattle.usb_fields.specs.Setup.{direction_of, setup_of, setup_bytes}
use Rattle.usb_host.specs.declared.transfer.TransferStage.{TransferStage}
use Rattle.usb_host.specs.declared.transfer.TransferStage.TheVariants.{Setup, DataIn, DataOut, StatusOut, StatusIn}
use Rattle.usb_host.specs.Transfer.{stage_after_setup}
use Rattle.usb_device.specs.declared.state.State.{State}
use Rattle.usb_device.specs.Requests.{Outcome, Bytes, Done, Refused, Takes}
use Rattle.usb_device.specs.Step.{DeviceStage, Served, replies, begun}
use Rattle.usb_device.specs.Step as device
use Rattle.usb_bus.specs.declared.fate.Fate.{Fate}
use Rattle.usb_bus.specs.declared.fate.Fate.TheVariants.{Pass, Busy, LostDown, LostUp, LostAck}
use Rattle.usb_bus.specs.Bus.{lost, busy, ack_lost, has_data, Ends, HostEnd, step_of, receives_reply, acknowledged}
use Rattle.usb_bus.specs.Together.{Stages, IsReading, IsWriting, AreInStages}
use Rattle.usb_bus.specs.inside.Sound.{IsCut}
use Rattle.usb_bus.proofs.Fronts.{some_due}
use Rattle.usb_bus.proofs.TakenLemmas.{some_data}
use Rattle.usb_bus.specs.Beside.{IsAnswering}

-- a setup packet comes as it was sent
pub setup_of-setup_bytes : (q : SetupPacket) → setup_of (setup_bytes q) ≡ q
setup_of-setup_bytes q =
    let value : q.value % 256 + 256 * (q.value / 256) ≡ q.value = omega arith in
    let index : q.index % 256 + 256 * (q.index / 256) ≡ q.index = omega arith in
    let length : q.length % 256 + 256 * (q.length / 256) ≡ q.length = omega arith in
    rw (value, index, length) refl

-- where bytes are asked for, the data stage follows
stage_after_setup-in : (q : SetupPacket) → 0 < q.length → direction_of q.request_type ≡ directions.In → stage_after_setup q ≡ DataIn
stage_after_setup-in q some to_host =
    let asked : (q.length == 0) ≡ false = grind (arith, nat_tests) in
    rw (asked, to_host) refl

-- and where data are brought
pub stage_after_setup-out : (q : SetupPacket) → 0 < q.length → direction_of q.request_type ≡ directions.Out → stage_after_setup q ≡ DataOut
stage_after_setup-out q some to_device =
    let asked : (q.length == 0) ≡ false = grind (arith, nat_tests) in
    rw (asked, to_device) refl

-- What both ends have kept of a transfer: after l losses, b Busy and a lost ACKs the host awaits this toggle, has these bytes, which it
-- counts, and has counted strikes and NAKs; and an ACK may be pending at the device.
pub record Progress : Type 0 where
  pub l : ℕ
  pub b : ℕ
  pub a : ℕ
  pub awaited : Toggle
  pub got : List ℕ
  pub count : ℕ
  pub strikes : ℕ
  pub nak_count : ℕ
  pub pending : Bool
  pub naks_owed : nak_count ≤ b

module _ (answer : State → SetupPacket → Outcome) (cut : ℕ) (s : State) (q : SetupPacket) (size naks : ℕ) (data_out : List ℕ) where
  abbrev pub host_at : TransferStage → Progress → HostEnd
  host_at stage m =
      record {
        transfer = record {
          address = s.address;
          packet = size;
          naks = naks;
          request = q;
          stage = stage;
          awaited = m.awaited;
          kept = m.count;
          strikes = m.strikes;
          nak_count = m.nak_count;
        };
        got = m.got;
      }

  -- the device in the state d, which is s or the next one
  abbrev pub both_at : State → TransferStage → DeviceStage → Progress → Ends
  both_at d stage at m = record { host = host_at stage m; device = record { state = d; stage = at; pending = m.pending } }

  abbrev pub Here : State → TransferStage → DeviceStage → Progress → Type 0
  Here d stage at m = Stages answer cut s q size naks data_out m.l m.b m.a stage at m.awaited m.got m.count m.strikes d

  abbrev pub After : Fate → Progress → Ends → Type 0
  After fate m e = AreInStages answer cut s q size naks data_out (m.l + lost fate) (m.b + busy fate) (m.a + ack_lost fate) e.host e.device

  -- both ends are in these stages, and in stages of the transfer after one transaction
  abbrev pub Goes : Fate → State → TransferStage → DeviceStage → Progress → Type 0
  Goes fate d stage at m = After fate m (step_of answer cut data_out fate (both_at d stage at m))

  module _ (fate : Fate) (d : State) (m : Progress) where
    pub status_out : (at : DeviceStage) → Here d StatusOut at m → Goes fate d StatusOut at m
    status_out at h = grind (arith, nat_tests)

    pub data_in_halted : (refused : Option SetupPacket) → Here d DataIn (device.Halted refused) m → Goes fate d DataIn (device.Halted refused) m
    data_in_halted refused h = grind (arith, nat_tests)

    pub data_out_halted : (refused : Option SetupPacket) → Here d DataOut (device.Halted refused) m → Goes fate d DataOut (device.Halted refused) m
    data_out_halted refused h = grind (arith, nat_tests)

    pub data_out_written : (asked : SetupPacket) (came : List ℕ) → Here d DataOut (device.Written asked came) m → Goes fate d DataOut (device.Written asked came) m
    data_out_written asked came h = grind (arith, nat_tests)

    -- the last packet of a write again, whose data were accepted
    pub data_out_accepted : IsAnswering answer s q → (asked : SetupPacket) (carried : Bool) → Here d DataOut (device.StatusIn asked carried) m →
        Goes fate d DataOut (device.StatusIn asked carried) m
    data_out_accepted w asked carried h =
        let some = (w.takes h.0.accepted.judge h.0.accepted.answered).0 in
        let enough = h.0.accepted.enough in
        let sends = some_data data_out (omega (arith, enough, some)) in
        grind (arith, nat_tests)

    pub status_in_halted : (refused : Option SetupPacket) → Here d StatusIn (device.Halted refused) m → Goes fate d StatusIn (device.Halted refused) m
    status_in_halted refused h = grind (arith, nat_tests)

    pub status_in_written : (asked : SetupPacket) (came : List ℕ) → Here d StatusIn (device.Written asked came) m → Goes fate d StatusIn (device.Written asked came) m
    status_in_written asked came h = grind (arith, nat_tests)

    pub status_in : IsAnswering answer s q → (asked : SetupPacket) (carried : Bool) → Here d StatusIn (device.StatusIn asked carried) m →
        Goes fate d StatusIn (device.StatusIn asked carried) m
    status_in w asked carried h = grind (arith, nat_tests)

  module _ (w : IsAnswering answer s q) (c : (bytes : List ℕ) → answer s q ≡ Bytes bytes → IsCut cut size q.length bytes) (at : DeviceStage) (m : Progress)
      (o : m.strikes ≤ m.l) where
    abbrev asking : Progress
    asking = record m { awaited = Data1; got = []; count = 0 }

    -- a SETUP that the device reads as x
    abbrev served_setup : SetupPacket → Served
    served_setup x = if s.address == s.address then replies AckReply s (begun x (answer s x)) false else replies NoReply s at false

    abbrev carried_setup : SetupPacket → Fate → Served
    carried_setup x Pass = acknowledged answer cut Pass (served_setup x)
    carried_setup x Busy = acknowledged answer cut Pass (served_setup x)
    carried_setup x LostDown = record { reply = NoReply; device = record { state = s; stage = at; pending = m.pending } }
    carried_setup x LostUp = record { reply = NoReply; device = (served_setup x).device }
    carried_setup x LostAck = served_setup x

    abbrev GoesBy : Fate → SetupPacket → Type 0
    GoesBy fate x =
        let r = carried_setup x fate in
        After fate m (record { host = receives_reply (has_data data_out) (host_at Setup asking) r.reply; device = r.device })

    by_outcome : (fate : Fate) (outcome : Outcome) → answer s q ≡ outcome → GoesBy fate q
    by_outcome fate (Bytes bytes) e =
        let at_start : IsReading answer cut s q size naks data_out (m.l + lost fate) q bytes 0 Data1 [] 0 0 s = record {
          same_state = refl;
          answered = e;
          asked_is = refl;
          count_is = refl;
          kept = 0;
          counted = inl refl;
          brought = refl;
          awaits = refl;
          more = some_due size q.length 0 (packets bytes cut q.length) (c bytes e).due;
          owed = grind arith;
        } in
        let asked = w.bytes bytes e in
        let stage = stage_after_setup-in q asked.0 asked.1 in
        grind (arith, nat_tests)
    by_outcome fate (Done next) e = grind (arith, nat_tests, w.done next e)
    by_outcome fate Refused e = grind (arith, nat_tests)
    by_outcome fate (Takes judge) e =
        let asked = w.takes judge e in
        let none : 0 * size ≡ 0 = omega arith in
        let at_start : IsWriting answer cut s q size naks data_out (m.l + lost fate) q [] Data1 0 0 s = record {
          same_state = refl;
          asked_is = refl;
          judge = judge;
          answered = e;
          acknowledged = 0;
          count_is = sym none;
          next_is = refl;
          kept = 0;
          counted = inl refl;
          came_is = ap (λ n. take n data_out) (sym none);
          whole = sym none;
          more = subst (λ n. n < q.length) (sym none) asked.0;
          owed = grind arith;
        } in
        let stage = stage_after_setup-out q asked.0 asked.1 in
        grind (arith, nat_tests)

    as_sent : (fate : Fate) → GoesBy fate (setup_of (setup_bytes q))
    as_sent fate = subst (GoesBy fate) (sym (setup_of-setup_bytes q)) (by_outcome fate (answer s q) refl)

    pub asks : (fate : Fate) → Goes fate s Setup at asking
    asks Pass = as_sent Pass
    asks Busy = as_sent Busy
    asks LostDown = as_sent LostDown
    asks LostUp = as_sent LostUp
    asks LostAck = as_sent LostAck
