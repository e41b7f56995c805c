-- A transaction over a bus of bytes has a fate, and so have transactions one after another.
use Rattle.std.proofs.Common.{◌≡◌, ◌⊎◌, ◌==◌, ◌≤◌, not, arith, inl, inr, ℕ, suc, List, [], ◌∷◌, Bool, true, false, if◌then◌else◌, Option, Some, None, refl, ap, sym, ◌∙◌, subst}
use Rattle.usb_wire.specs.declared.pid.Handshake.TheVariants as handshakes
use Rattle.usb_wire.specs.Packets.{PacketView, HandshakePacket}
use Rattle.usb_fields.specs.declared.packet.Toggle.{Toggle}
use Rattle.usb_fields.specs.declared.packet.Toggle.TheVariants as toggles
use Rattle.usb_fields.specs.declared.setup.Setup.{Setup}
use Rattle.usb_fields.specs.Packets.{Token, SetupToken, InToken, OutToken, Sent, Reply, AckReply, NakReply, StallReply, DataReply, NoReply}
use Rattle.usb_device.specs.declared.state.State.{State}
use Rattle.usb_device.specs.Requests.{Outcome}
use Rattle.usb_device.specs.Step.{DeviceView, Served, served, acked, replies}
use Rattle.usb_host.specs.Transfer.{due_of}
use Rattle.usb_bus.specs.declared.fate.Fate.{Fate}
use Rattle.usb_bus.specs.declared.fate.Fate.TheVariants.{Pass, Busy, LostAck, LostDown, LostUp}
use Rattle.usb_bus.specs.Bus.{lost, busy, Ends, HostEnd, has_data, receives_reply, is_data, carried, exchanged, run_of}
use Rattle.usb_bus.specs.Wire.{token_kind, token_packet, data_packet, reply_packet, ack_packet, IsReceivedOf, received_token, received_sent, received_reply, is_ack, served_received, Event, one_if, OnWire}
use Rattle.usb_bus.specs.WireRuns.{WireStep, WireRun}
use Rattle.usb_bus.specs.WireLaws.{IsAlike, IsFate, AreFates}
use Rattle.usb_bus.proofs.TestedRuns.{same_alike, served_alike}
use Rattle.usb_bus.proofs.WireArrivals.{received_or_lost}

-- ---- what is received

received_back : (reply : Reply) → received_reply (reply_packet reply) ≡ reply
received_back AckReply = refl
received_back NakReply = refl
received_back StallReply = refl
received_back (DataReply toggles.Data0 bytes) = refl
received_back (DataReply toggles.Data1 bytes) = refl
received_back NoReply = refl

token_received : (t : Token) (a : ℕ) → received_token (token_kind t) a (data_packet t) ≡ Some (record { address = a; token = t })
token_received InToken a = refl
token_received (SetupToken bytes) a = refl
token_received (OutToken toggles.Data0 bytes) a = refl
token_received (OutToken toggles.Data1 bytes) a = refl

all_received : (sent : Sent) (token got : Option PacketView) → token ≡ Some (token_packet sent) → got ≡ data_packet sent.token → received_sent token got ≡ Some sent
all_received sent token got token_whole data_whole =
    ap (λ t. received_sent t got) token_whole ∙ ap (λ g. received_token (token_kind sent.token) sent.address g) data_whole ∙ token_received sent.token sent.address

-- without its data a transaction isn't received, but for an IN, which has none
none_received : (t : Token) (a : ℕ) (got : Option PacketView) → got ≡ None → (got ≡ data_packet t → ⊥) → received_token (token_kind t) a got ≡ None
none_received InToken a got none other = absurd (other none)
none_received (SetupToken bytes) a got none other = ap (λ g. received_token (token_kind (SetupToken bytes)) a g) none
none_received (OutToken toggle bytes) a got none other = ap (λ g. received_token (token_kind (OutToken toggle bytes)) a g) none

pub sent_received : (sent : Sent) (token got : Option PacketView) → (token ≡ Some (token_packet sent)) ⊎ ((token ≡ None) × (token ≡ Some (token_packet sent) → ⊥))
    → (got ≡ data_packet sent.token) ⊎ ((got ≡ None) × (got ≡ data_packet sent.token → ⊥))
    → (received_sent token got ≡ Some sent) ⊎ (received_sent token got ≡ None)
sent_received sent token got (inr lost) data_case = inr (ap (λ t. received_sent t got) lost.0)
sent_received sent token got (inl whole) (inl all) = inl (all_received sent token got whole all)
sent_received sent token got (inl whole) (inr lost) =
    inr (ap (λ t. received_sent t got) whole ∙ none_received sent.token sent.address got lost.0 lost.1)

is_damaged : (h : Bool) → (h ≡ false → ⊥) → 1 ≤ one_if h
is_damaged true not_false = omega arith
is_damaged false not_false = absurd (not_false refl)

-- ---- devices that are alike

pub alike_then : (d e f : DeviceView) → IsAlike d e → IsAlike e f → IsAlike d f
alike_then d e f first more = record { state = first.state ∙ more.state; stage = first.stage ∙ more.stage }

alike_if : (c : Bool) (x y : Served) (d : DeviceView) → IsAlike x.device d → IsAlike y.device d → IsAlike (if c then x else y).device d
alike_if true x y d yes_case no_case = yes_case
alike_if false x y d yes_case no_case = no_case

data_if : (c : Bool) (x y : Served) → is_data x.reply ≡ false → is_data y.reply ≡ false → is_data (if c then x else y).reply ≡ false
data_if true x y yes_case no_case = yes_case
data_if false x y yes_case no_case = no_case

in_is_no_setup : (b : List ℕ) → InToken ≡ SetupToken b → ⊥
in_is_no_setup b e = cc

out_is_no_setup : (toggle : Toggle) (bytes b : List ℕ) → OutToken toggle bytes ≡ SetupToken b → ⊥
out_is_no_setup toggle bytes b e = cc

nothing_is_not_some : (sent : Sent) → None ≡ Some sent → ⊥
nothing_is_not_some sent e = cc

module _ (answer : State → Setup → Outcome) (packet : ℕ) where
  pub record SameCarried (x y : Served) : Type 0 where
    pub reply : x.reply ≡ y.reply
    pub device : IsAlike x.device y.device

  same_carried : (x y : Served) → x ≡ y → SameCarried x y
  same_carried x y same = record { reply = ap (λ z. z.reply) same; device = same_alike x.device y.device (ap (λ z. z.device) same) }

  pub carried_alike : (d e : DeviceView) (sent : Sent) (fate : Fate) → IsAlike d e → SameCarried (carried answer packet d sent fate) (carried answer packet e sent fate)
  carried_alike d e sent Pass like = same_carried _ _ (ap (λ r. taken_by Pass r) (served_alike answer packet d e sent true like))
    where
      taken_by : Fate → Served → Served
      taken_by fate r = record { reply = r.reply; device = if is_data r.reply then acked answer packet r.device else r.device }
  carried_alike d e sent Busy like = same_carried _ _ (ap (λ r. taken_by r) (served_alike answer packet d e sent false like))
    where
      taken_by : Served → Served
      taken_by r = record { reply = r.reply; device = if is_data r.reply then acked answer packet r.device else r.device }
  carried_alike d e sent LostDown like = record { reply = refl; device = like }
  carried_alike d e sent LostUp like = same_carried _ _ (ap (λ (r : Served). nothing_of r) (served_alike answer packet d e sent true like))
    where
      nothing_of : Served → Served
      nothing_of r = record { reply = NoReply; device = r.device }
  carried_alike d e sent LostAck like = same_carried _ _ (served_alike answer packet d e sent true like)

  -- a device that isn't ready sends no data, and stays as it is but for a SETUP
  busy_is_no_data : (d : DeviceView) (a : ℕ) (t : Token) → is_data (served answer packet d (record { address = a; token = t }) false).reply ≡ false
  busy_is_no_data d a (SetupToken b) = data_if (a == d.state.address) _ _ refl refl
  busy_is_no_data d a InToken = data_if (a == d.state.address) _ _ refl refl
  busy_is_no_data d a (OutToken toggle bytes) = data_if (a == d.state.address) _ _ refl refl

  -- nor is the device another one then
  unready_alike : (d : DeviceView) (a : ℕ) (t : Token) → ((b : List ℕ) → t ≡ SetupToken b → ⊥) → IsAlike (served answer packet d (record { address = a; token = t }) false).device d
  unready_alike d a (SetupToken b) other = absurd (other b refl)
  unready_alike d a InToken other =
      alike_if (a == d.state.address) (replies NakReply d.state d.stage false) (replies NoReply d.state d.stage false) d (record { state = refl; stage = refl }) (record { state = refl; stage = refl })
  unready_alike d a (OutToken toggle bytes) other =
      alike_if (a == d.state.address) (replies NakReply d.state d.stage false) (replies NoReply d.state d.stage false) d (record { state = refl; stage = refl }) (record { state = refl; stage = refl })

  -- ---- the fate

  abbrev Fated : DeviceView → Sent → Event → Served → Type 0
  Fated d sent v r = (fate : Fate) × IsFate answer packet d sent v r fate

  -- an answer that isn't received
  unreceived : (d : DeviceView) (a : ℕ) (t : Token) (ready damaged : Bool) (r : Served) → 1 ≤ one_if damaged → r.reply ≡ NoReply
      → r.device ≡ (served answer packet d (record { address = a; token = t }) ready).device → Fated d (record { address = a; token = t }) (record { ready = ready; damaged = damaged }) r
  unreceived d a t true damaged r harm reply device =
      (LostUp, record { reply = reply; device = same_alike _ _ device; loses = harm; delays = omega arith })
  unreceived d a (SetupToken b) false damaged r harm reply device =
      (LostUp, record { reply = reply; device = same_alike _ _ device; loses = harm; delays = omega arith })
  unreceived d a InToken false damaged r harm reply device =
      (LostDown, record { reply = reply; device = alike_then _ _ _ (same_alike _ _ device) (unready_alike d a InToken (λ b e. in_is_no_setup b e)); loses = harm; delays = omega arith })
  unreceived d a (OutToken toggle bytes) false damaged r harm reply device =
      (LostDown, record { reply = reply; device = alike_then _ _ _ (same_alike _ _ device) (unready_alike d a (OutToken toggle bytes) (λ b e. out_is_no_setup toggle bytes b e)); loses = harm; delays = omega arith })

  -- an answer that is no data, or whose ACK is received
  settled : (d : DeviceView) (sent : Sent) (ready damaged : Bool) (r : Served) (c : Bool) → is_data (served answer packet d sent ready).reply ≡ c
      → r.reply ≡ (served answer packet d sent ready).reply
      → r.device ≡ (if c then acked answer packet (served answer packet d sent ready).device else (served answer packet d sent ready).device)
      → Fated d sent (record { ready = ready; damaged = damaged }) r
  settled d sent true damaged r c is reply device = (
    Pass,
    record {
      reply = reply;
      device = same_alike _ _ (device ∙ ap (λ b. if b then acked answer packet (served answer packet d sent true).device else (served answer packet d sent true).device) (sym is));
      loses = omega arith;
      delays = omega arith;
    },
  )
  settled d sent false damaged r c is reply device = (
    Busy,
    record {
      reply = reply;
      device = same_alike _ _ (device ∙ ap (λ b. if b then acked answer packet (served answer packet d sent false).device else (served answer packet d sent false).device) (sym is));
      loses = omega arith;
      delays = omega arith;
    },
  )

  -- data whose ACK isn't received
  unacked : (d : DeviceView) (sent : Sent) (ready damaged : Bool) (r : Served) → 1 ≤ one_if damaged → is_data (served answer packet d sent ready).reply ≡ true
      → r.reply ≡ (served answer packet d sent ready).reply → r.device ≡ (served answer packet d sent ready).device → Fated d sent (record { ready = ready; damaged = damaged }) r
  unacked d sent true damaged r harm with_data reply device =
      (LostAck, record { reply = reply; device = same_alike _ _ device; loses = harm; delays = omega arith })
  unacked d sent false damaged r harm with_data reply device =
      absurd (both (sym with_data ∙ busy_is_no_data d sent.address sent.token))
    where
      both : true ≡ false → ⊥
      both e = cc

  -- by what the host has received of the answer, and the device of the ACK
  of_what_was_received : (d : DeviceView) (sent : Sent) (ready damaged : Bool) (r : Served) (got ack : Option PacketView)
      → (got ≡ reply_packet (served answer packet d sent ready).reply) ⊎ ((got ≡ None) × (damaged ≡ false → ⊥))
      → IsReceivedOf (ack_packet (received_reply got)) ack
      → (damaged ≡ false → ack ≡ ack_packet (received_reply got))
      → r.reply ≡ received_reply got
      → r.device ≡ (if is_ack ack then acked answer packet (served answer packet d sent ready).device else (served answer packet d sent ready).device)
      → Fated d sent (record { ready = ready; damaged = damaged }) r
  of_what_was_received d sent ready damaged r got ack (inr lost) acks whole reply device =
      unreceived d sent.address sent.token ready damaged r (is_damaged damaged lost.1) (reply ∙ ap received_reply lost.0)
      (device ∙ ap (λ o. if is_ack o then acked answer packet x.device else x.device) no_ack)
    where
      x : Served
      x = served answer packet d sent ready

      no_ack : ack ≡ None
      no_ack = subst (λ o. IsReceivedOf (ack_packet (received_reply o)) ack) lost.0 acks
  of_what_was_received d sent ready damaged r got ack (inl all) acks whole reply device = by_data (is_data x.reply) refl
    where
      x : Served
      x = served answer packet d sent ready

      same : received_reply got ≡ x.reply
      same = ap received_reply all ∙ received_back x.reply

      due : (c : Bool) → is_data x.reply ≡ c → ack_packet (received_reply got) ≡ (if c then Some (HandshakePacket handshakes.Ack) else None)
      due c is = ap ack_packet same ∙ ap (λ b. if b then Some (HandshakePacket handshakes.Ack) else None) is

      after : Option PacketView → DeviceView
      after o = if is_ack o then acked answer packet x.device else x.device

      by_data : (c : Bool) → is_data x.reply ≡ c → Fated d sent (record { ready = ready; damaged = damaged }) r
      by_data false is =
          settled d sent ready damaged r false is (reply ∙ same) (device ∙ ap after (subst (λ q. IsReceivedOf q ack) (due false is) acks))
      by_data true is = by_ack (received_or_lost _ _ acks)
        where
          by_ack : (ack ≡ ack_packet (received_reply got)) ⊎ ((ack ≡ None) × (ack ≡ ack_packet (received_reply got) → ⊥)) → Fated d sent (record { ready = ready; damaged = damaged }) r
          by_ack (inl came) = settled d sent ready damaged r true is (reply ∙ same) (device ∙ ap after (came ∙ due true is))
          by_ack (inr gone) =
              unacked d sent ready damaged r (is_damaged damaged (λ undamaged. gone.1 (whole undamaged))) is (reply ∙ same) (device ∙ ap after gone.0)

  -- a transaction that the device has not received
  not_received : (d : DeviceView) (sent : Sent) (ready damaged : Bool) (r : Served) (got ack : Option PacketView) → 1 ≤ one_if damaged → got ≡ None → IsReceivedOf (ack_packet (received_reply got)) ack
      → r.reply ≡ received_reply got → r.device ≡ (if is_ack ack then acked answer packet d else d) → Fated d sent (record { ready = ready; damaged = damaged }) r
  not_received d sent ready damaged r got ack harm none acks reply device =
      let no_ack : ack ≡ None = subst (λ o. IsReceivedOf (ack_packet (received_reply o)) ack) none acks in (
        LostDown,
        record {
          reply = reply ∙ ap received_reply none;
          device = same_alike _ _ (device ∙ ap (λ o. if is_ack o then acked answer packet d else d) no_ack);
          loses = harm;
          delays = omega arith;
        },
      )

  fated_here : (d : DeviceView) (sent : Sent) (v : Event) (r : Served) → OnWire answer packet d sent v r → Fated d sent v r
  fated_here d sent v r w =
      by_sent (sent_received sent w.token w.after (received_or_lost _ _ w.token_is) (received_or_lost _ _ w.after_is))
    where
      answered : (o : Option Sent) → received_sent w.token w.after ≡ o → IsReceivedOf (reply_packet (served_received answer packet d o v.ready).reply) w.reply
      answered o is = subst (λ q. IsReceivedOf (reply_packet (served_received answer packet d q v.ready).reply) w.reply) is w.reply_is

      moved : (o : Option Sent) → received_sent w.token w.after ≡ o
          → r.device ≡ (if is_ack w.ack then acked answer packet (served_received answer packet d o v.ready).device else (served_received answer packet d o v.ready).device)
      moved o is = w.device ∙ ap (λ q. if is_ack w.ack then acked answer packet (served_received answer packet d q v.ready).device else (served_received answer packet d q v.ready).device) is

      by_answer : received_sent w.token w.after ≡ Some sent
          → (w.reply ≡ reply_packet (served answer packet d sent v.ready).reply) ⊎ ((w.reply ≡ None) × (w.reply ≡ reply_packet (served answer packet d sent v.ready).reply → ⊥))
          → Fated d sent v r
      by_answer some (inl whole) =
          of_what_was_received d sent v.ready v.damaged r w.reply w.ack (inl whole) w.ack_is (λ undamaged. (w.whole undamaged).ack_whole) w.receives_reply (moved (Some sent) some)
      by_answer some (inr gone) =
          of_what_was_received d sent v.ready v.damaged r w.reply w.ack
          (inr (gone.0, λ undamaged. gone.1 ((w.whole undamaged).reply_whole ∙ ap (λ q. reply_packet (served_received answer packet d q v.ready).reply) some)))
          w.ack_is (λ undamaged. (w.whole undamaged).ack_whole) w.receives_reply (moved (Some sent) some)

      by_sent : (received_sent w.token w.after ≡ Some sent) ⊎ (received_sent w.token w.after ≡ None) → Fated d sent v r
      by_sent (inl some) = by_answer some (received_or_lost _ _ (answered (Some sent) some))
      by_sent (inr none) =
          not_received d sent v.ready v.damaged r w.reply w.ack
          (is_damaged v.damaged (λ undamaged. nothing_is_not_some sent (sym none ∙ all_received sent w.token w.after (w.whole undamaged).token_whole (w.whole undamaged).data_whole)))
          (answered None none) w.ack_is w.receives_reply (moved None none)

  -- ---- one transaction after another

  pub record StepFated (sends : Bool) (h : HostEnd) (e : DeviceView) (due : Option Sent) (v : Event) (x : Ends) (fate : Fate) : Type 0 where
    pub host : x.host ≡ (exchanged answer packet sends h e due fate).host
    pub device : IsAlike x.device (exchanged answer packet sends h e due fate).device
    pub loses : lost fate ≤ one_if v.damaged
    pub delays : busy fate ≤ one_if (not v.ready)

  pub one_step : (sends : Bool) (due : Option Sent) (v : Event) (h : HostEnd) (d e : DeviceView) (x : Ends) → IsAlike d e → WireStep answer packet sends v (record { host = h; device = d }) due x
      → (fate : Fate) × StepFated sends h e due v x fate
  one_step sends None v h d e x like same =
      (Pass, record { host = ap (λ z. z.host) same; device = alike_then _ _ _ (same_alike _ _ (ap (λ z. z.device) same)) like; loses = omega arith; delays = omega arith })
  one_step sends (Some sent) v h d e x like step =
      let r = step.0 in
      let found = fated_here d sent v r step.1 in
      let moved = carried_alike d e sent found.0 like in (
        found.0,
        record {
          host = ap (λ z. z.host) step.2 ∙ ap (λ q. receives_reply sends h q) (found.1.reply ∙ moved.reply);
          device = alike_then _ _ _ (same_alike _ _ (ap (λ z. z.device) step.2)) (alike_then _ _ _ found.1.device moved.device);
          loses = found.1.loses;
          delays = found.1.delays;
        },
      )

  -- one transfer
  runs : (bytes : List ℕ) (events : List Event) (h : HostEnd) (d e : DeviceView) (f : Ends) → IsAlike d e → WireRun answer packet bytes events (record { host = h; device = d }) f
      → (fates : List Fate) × AreFates events fates
      × (f.host ≡ (run_of answer packet bytes fates (record { host = h; device = e })).host) × IsAlike f.device (run_of answer packet bytes fates (record { host = h; device = e })).device
  runs bytes [] h d e f like same =
      ([], record { count = refl; loses = omega arith; delays = omega arith }, ap (λ z. z.host) same, alike_then _ _ _ (same_alike _ _ (ap (λ z. z.device) same)) like)
  runs bytes (v ∷ events) h d e f like run =
      let x = run.0 in
      let one = one_step (has_data bytes) (due_of h.transfer bytes) v h d e x like run.1 in
      let y = exchanged answer packet (has_data bytes) h e (due_of h.transfer bytes) one.0 in
      let rest = subst (λ k. WireRun answer packet bytes events (record { host = k; device = x.device }) f) one.1.host run.2 in
      let more = runs bytes events y.host x.device y.device f one.1.device rest in (
        one.0 ∷ more.0,
        record {
          count = ap (λ k. suc k) more.1.count;
          loses = omega (arith, one.1.loses, more.1.loses);
          delays = omega (arith, one.1.delays, more.1.delays);
        },
        more.2,
        more.3,
      )

pub fated : (answer : State → Setup → Outcome) (packet : ℕ) (d : DeviceView) (sent : Sent) (v : Event) (r : Served) → OnWire answer packet d sent v r
    → (fate : Fate) × IsFate answer packet d sent v r fate
fated answer packet d sent v r w = fated_here answer packet d sent v r w

pub runs_fated : (answer : State → Setup → Outcome) (packet : ℕ) (bytes : List ℕ) (events : List Event) (x y : Ends) → WireRun answer packet bytes events x y
    → (fates : List Fate) × AreFates events fates
    × (y.host ≡ (run_of answer packet bytes fates x).host) × IsAlike y.device (run_of answer packet bytes fates x).device
runs_fated answer packet bytes events x y run = runs answer packet bytes events x.host x.device x.device y (same_alike x.device x.device refl) run
