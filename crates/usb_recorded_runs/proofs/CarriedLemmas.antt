-- What a bus of bytes on which no bit changes brings is what it brings under fates.
use Rattle.std.proofs.Common.{◌≡◌, ℕ, Bool, true, false, if◌then◌else◌, List, [], ◌∷◌, inl, inr, refl, sym, ◌∙◌, ap, subst}
use Rattle.std.specs.Prelude.{Option, Some, None}
use Rattle.usb_wire.specs.Packets.{PacketView, packet_bytes}
use Rattle.usb_fields.specs.declared.packet.Toggle.TheVariants as toggles
use Rattle.usb_fields.specs.declared.setup.Setup.{Setup}
use Rattle.usb_fields.specs.Packets.{AckReply, DataReply, NakReply, NoReply, Reply, Sent, StallReply}
use Rattle.usb_device.specs.declared.state.State.{State}
use Rattle.usb_device.specs.Requests.{Outcome}
use Rattle.usb_device.specs.Step.{DeviceView, Served, acked, served}
use Rattle.usb_bus.specs.declared.fate.Fate.{Fate}
use Rattle.usb_bus.specs.declared.fate.Fate.TheVariants as fates
use Rattle.usb_bus.specs.Bus.{acknowledges, brought, carried, is_data}
use Rattle.usb_bus.specs.Damaged.{IsAnswered, IsExchanged, IsTakenOf, bits_of, fits, fitting, is_ready, reply_number}
use Rattle.usb_bus.specs.DamagedRuns.{DamagedRunsAt}
use Rattle.usb_bus.specs.Enumerate.{Pair, RunsAt}
use Rattle.usb_bus.specs.Exchanges.{is_lost_ack, is_lost_down, is_lost_up}
use Rattle.usb_bus.specs.Run.{fate_at}
use Rattle.usb_bus.specs.Wire.{Receives, ack_packet, data_packet, received_reply, received_sent, is_ack, reply_packet, token_packet}
use Rattle.usb_host.specs.Steps.{Takes}
use Rattle.usb_recorded_runs.proofs.RunLemmas.{due_fits, taken_whole, whole_received}

-- ---- packets

lost_packet : (p : PacketView) (received : Option PacketView) → Receives [] received → received ≡ None
lost_packet p None is = refl
lost_packet p (Some q) is = absurd (let e : packet_bytes q ≡ [] = is.1 in let w : ⊥ = cc in w)

taken_none : (p received : Option PacketView) → IsTakenOf true [] p received → received ≡ None
taken_none None received is = is
taken_none (Some p) received is = lost_packet p received is.1

received_back : (reply : Reply) → received_reply (reply_packet reply) ≡ reply
received_back AckReply = refl
received_back NakReply = refl
received_back StallReply = refl
received_back (DataReply toggles.Data0 bytes) = refl
received_back (DataReply toggles.Data1 bytes) = refl
received_back NoReply = refl

ack_back : (reply : Reply) → is_ack (ack_packet reply) ≡ is_data reply
ack_back (DataReply toggle bytes) = refl
ack_back AckReply = refl
ack_back NakReply = refl
ack_back StallReply = refl
ack_back NoReply = refl

-- ---- one transaction

module _ (table : State → Setup → Outcome) (cut : ℕ) where
  -- both come of it: a reply, and a device
  pub record Comes (r : Served) (reply : Reply) (device : DeviceView) : Type 0 where
    pub reply_is : r.reply ≡ reply
    pub device_is : r.device ≡ device

  abbrev after_ack : Bool → DeviceView → DeviceView
  after_ack arrived d = if arrived then acked table cut d else d

  answered_so : (d : DeviceView) (sent : Sent) (fate : Fate) (number n : ℕ) (a : Reply) (r : Served) → is_lost_down fate ≡ false
      → IsAnswered table cut d (Some sent) number fate (bits_of [] n) a r
      → (let s = served table cut d sent (is_ready fate) in Comes r (brought fate s.reply) (after_ack (acknowledges fate s.reply) s.device))
  answered_so d sent fate number n a r kept x = of fate kept x
    where
      whole : (fate : Fate) → is_lost_up fate ≡ false → is_lost_ack fate ≡ false → IsAnswered table cut d (Some sent) number fate (bits_of [] n) a r
          → (let s = served table cut d sent (is_ready fate) in Comes r s.reply (after_ack (is_data s.reply) s.device))
      whole fate up ack x =
          let reply : x.reply ≡ reply_packet a = taken_whole (reply_packet a) x.reply (subst (λ lost. IsTakenOf lost [] (reply_packet a) x.reply) up x.reply_is) in
          let arrived : received_reply x.reply ≡ a = ap received_reply reply ∙ received_back a in
          let acks : x.ack ≡ ack_packet (received_reply x.reply) = taken_whole (ack_packet (received_reply x.reply)) x.ack (subst (λ lost. IsTakenOf lost [] (ack_packet (received_reply x.reply)) x.ack) ack x.ack_is) in
          let says : is_ack x.ack ≡ is_data (served table cut d sent (is_ready fate)).reply = ap is_ack acks ∙ ack_back (received_reply x.reply) ∙ ap is_data (arrived ∙ x.answers) in
          record { reply_is = x.receives_reply ∙ arrived ∙ x.answers; device_is = x.device ∙ ap (λ c. after_ack c (served table cut d sent (is_ready fate)).device) says }

      of : (fate : Fate) → is_lost_down fate ≡ false → IsAnswered table cut d (Some sent) number fate (bits_of [] n) a r
          → (let s = served table cut d sent (is_ready fate) in Comes r (brought fate s.reply) (after_ack (acknowledges fate s.reply) s.device))
      of fates.Pass kept x = whole fates.Pass refl refl x
      of fates.Busy kept x = whole fates.Busy refl refl x
      of fates.LostDown kept x = absurd (let w : ⊥ = cc in w)
      of fates.LostUp kept x =
          let none : x.reply ≡ None = taken_none (reply_packet a) x.reply x.reply_is in
          let arrived : received_reply x.reply ≡ NoReply = ap received_reply none in
          let acks : x.ack ≡ None = subst (λ reply. IsTakenOf false [] (ack_packet reply) x.ack) arrived x.ack_is in
          record { reply_is = x.receives_reply ∙ arrived; device_is = x.device ∙ ap (λ k. after_ack (is_ack k) (served table cut d sent true).device) acks }
      of fates.LostAck kept x =
          let reply : x.reply ≡ reply_packet a = taken_whole (reply_packet a) x.reply x.reply_is in
          let arrived : received_reply x.reply ≡ a = ap received_reply reply ∙ received_back a in
          let acks : x.ack ≡ None = taken_none (ack_packet (received_reply x.reply)) x.ack x.ack_is in
          record { reply_is = x.receives_reply ∙ arrived ∙ x.answers; device_is = x.device ∙ ap (λ k. after_ack (is_ack k) (served table cut d sent true).device) acks }

  received_whole : (sent : Sent) (token after : Option PacketView) → fits sent.token ≡ true → token ≡ Some (token_packet sent) → after ≡ data_packet sent.token
      → fitting (received_sent token after) ≡ Some sent
  received_whole sent token after fit is next =
      ap (λ t. fitting (received_sent t after)) is ∙ ap (λ b. fitting (received_sent (Some (token_packet sent)) b)) next ∙ whole_received sent.address sent.token fit

  pub carried_so : (d : DeviceView) (sent : Sent) (fate : Fate) (n : ℕ) (a : Reply) (r : Served) → fits sent.token ≡ true
      → IsExchanged table cut d sent fate (bits_of [] n) a r → (let s = carried table cut d sent fate in Comes r s.reply s.device)
  carried_so d sent fate n a r fit x = of fate x
    where
      kept : (fate : Fate) → is_lost_down fate ≡ false → IsExchanged table cut d sent fate (bits_of [] n) a r
          → (let s = served table cut d sent (is_ready fate) in Comes r (brought fate s.reply) (after_ack (acknowledges fate s.reply) s.device))
      kept fate down x =
          let token : x.token ≡ Some (token_packet sent) = taken_whole (Some (token_packet sent)) x.token (subst (λ lost. IsTakenOf lost [] (Some (token_packet sent)) x.token) down x.token_is) in
          let after : x.after ≡ data_packet sent.token = taken_whole (data_packet sent.token) x.after (subst (λ lost. IsTakenOf lost [] (data_packet sent.token) x.after) down x.after_is) in
          answered_so d sent fate (reply_number sent.token) n a r down
          (subst (λ h. IsAnswered table cut d h (reply_number sent.token) fate (bits_of [] n) a r) (received_whole sent x.token x.after fit token after) x.rest)

      of : (fate : Fate) → IsExchanged table cut d sent fate (bits_of [] n) a r → (let s = carried table cut d sent fate in Comes r s.reply s.device)
      of fates.Pass x = kept fates.Pass refl x
      of fates.Busy x = kept fates.Busy refl x
      of fates.LostUp x = kept fates.LostUp refl x
      of fates.LostAck x = kept fates.LostAck refl x
      of fates.LostDown x =
          let token : x.token ≡ None = taken_none (Some (token_packet sent)) x.token x.token_is in
          let arrived : fitting (received_sent x.token x.after) ≡ None = ap (λ t. fitting (received_sent t x.after)) token in
          silent (subst (λ h. IsAnswered table cut d h (reply_number sent.token) fates.LostDown (bits_of [] n) a r) arrived x.rest)
        where
          silent : IsAnswered table cut d None (reply_number sent.token) fates.LostDown (bits_of [] n) a r → Comes r NoReply d
          silent x =
              let none : x.reply ≡ None = subst (λ b. IsTakenOf false [] (reply_packet b) x.reply) x.answers x.reply_is in
              let arrived : received_reply x.reply ≡ NoReply = ap received_reply none in
              let acks : x.ack ≡ None = subst (λ reply. IsTakenOf false [] (ack_packet reply) x.ack) arrived x.ack_is in
              record { reply_is = x.receives_reply ∙ arrived; device_is = x.device ∙ ap (λ k. after_ack (is_ack k) d) acks }

  -- ---- a run

  pub plain_run : (list : List Fate) (new : Pair) (earlier : List Pair) (n : ℕ) (last : Pair) → DamagedRunsAt table cut list [] new earlier n last
      → RunsAt table cut list new earlier n last
  plain_run list new [] n last run = run
  plain_run list new (x ∷ earlier) n last (m, inl (reset, same), run) =
      inl (reset, subst (λ k. RunsAt table cut list new earlier k x) (sym same) (plain_run list new earlier m x run))
  plain_run list new (x ∷ earlier) n last (m, inr (made, same), run) =
      let comes = carried_so x.device made.sent (fate_at list m) n made.answered made.brings (due_fits x.host.phase made.sent made.due) made.carries in
      inr (
        m,
        same,
        record {
          sent = made.sent;
          due = made.due;
          host = subst (λ reply. Takes x.host reply last.host) comes.reply_is made.host;
          device = made.device ∙ comes.device_is;
        },
        plain_run list new earlier m x run,
      )
