-- Transactions that were recorded are received again.
use Rattle.std.proofs.Common.{◌≡◌, ℕ, ◌+◌, ◌-◌, ◌==◌, true, false, List, [], ◌∷◌, ◌++◌, append_assoc, refl, sym, ◌∙◌, ap, arith}
use Rattle.std.specs.Prelude.{◌^◌, min, Option, Some, None, Result, Ok, Err, nat_lt, if◌then◌else◌}
use Rattle.std.specs.Option.{option_map, option_to_list}
use Rattle.std.proofs.lemmas.Bool.Decides.{nat_tests}
use Rattle.std.proofs.lemmas.List.{append-nil}
use Rattle.usb_wire.specs.declared.address.AddressFields.{AddressFields}
use Rattle.usb_wire.specs.declared.packet.Packet.{Packet}
use Rattle.usb_wire.specs.declared.packet.Packet.TheVariants as packets
use Rattle.usb_wire.specs.declared.pid.Handshake.{Handshake}
use Rattle.usb_wire.specs.declared.pid.TokenKind.{TokenKind}
use Rattle.usb_wire.specs.Damages.{damage_of}
use Rattle.usb_wire.specs.Packets.{DataPacket as DataBytes, HandshakePacket, PacketView, TokenPacket, view_of}
use Rattle.usb_wire.proofs.RoundTrip.{packet_taken, same_packet}
use Rattle.usb_capture.specs.declared.bus_packet.PacketFault.{PacketFault}
use Rattle.usb_capture.specs.declared.bus_packet.PacketFault.TheVariants.{Link, Cut, Damaged}
use Rattle.usb_capture.specs.declared.recorded_packet.RecordedPacket.{RecordedPacket}
use Rattle.usb_capture.specs.declared.transaction.DataPacket.{DataPacket}
use Rattle.usb_capture.specs.declared.transaction.Transaction.{Transaction}
use Rattle.usb_capture.specs.BusPackets.{IsPacketOf, packet_fault}
use Rattle.usb_capture.specs.Folds.{after_all, given_in}
use Rattle.usb_capture.specs.Recordings.{AreRecorded, MayHave, RecordAll, Records, data_packets, handshake_packets, received_from, transactions_in}
use Rattle.usb_capture.specs.Transactions.{Bus, begun, begun_at, bus_after, bus_with, ended_by, may_have, over_by, over_with, with_data}

-- what is read of a frame with the bytes of a packet is that packet
taken : (v : PacketView) (r : RecordedPacket) → Records v r → (p : Packet) × (r.packet ≡ Ok p) × (view_of p ≡ v)
taken v r records = of r.packet refl records.read
  where
    sound : packet_fault records.frame ≡ None
    sound =
        ap (λ b. if b then (if nat_lt records.frame.captured records.frame.original then Some Cut else option_map Damaged (damage_of records.frame.bytes)) else Some Link) records.link
        ∙ ap (λ b. if b then Some Cut else option_map Damaged (damage_of records.frame.bytes)) records.whole
        ∙ ap (λ b. option_map Damaged (damage_of b)) records.bytes
        ∙ ap (option_map Damaged) (packet_taken v records.legal)

    of : (read : Result Packet PacketFault) → r.packet ≡ read → IsPacketOf records.frame read → (p : Packet) × (r.packet ≡ Ok p) × (view_of p ≡ v)
    of (Ok p) is has = (p, is, same_packet (view_of p) v has.2 records.legal (sym has.1 ∙ records.bytes))
    of (Err fault) is has = absurd (let e : Some fault ≡ None = sym has ∙ sound in let w : ⊥ = cc in w)

token_of : (kind : TokenKind) (to : AddressFields) (p : Packet) → view_of p ≡ TokenPacket kind to → p ≡ packets.Token kind to
token_of kind to (packets.Token other there) same = let k : other ≡ kind = cc in let a : there ≡ to = cc in cc
token_of kind to (packets.StartOfFrame number) same = absurd (let w : ⊥ = cc in w)
token_of kind to (packets.Data other bytes) same = absurd (let w : ⊥ = cc in w)
token_of kind to (packets.Handshake other) same = absurd (let w : ⊥ = cc in w)
token_of kind to (packets.Split fields) same = absurd (let w : ⊥ = cc in w)
token_of kind to packets.Pre same = absurd (let w : ⊥ = cc in w)

handshake_of : (kind : Handshake) (p : Packet) → view_of p ≡ HandshakePacket kind → p ≡ packets.Handshake kind
handshake_of kind (packets.Token other there) same = absurd (let w : ⊥ = cc in w)
handshake_of kind (packets.StartOfFrame number) same = absurd (let w : ⊥ = cc in w)
handshake_of kind (packets.Data other bytes) same = absurd (let w : ⊥ = cc in w)
handshake_of kind (packets.Handshake other) same = let k : other ≡ kind = cc in ap packets.Handshake k
handshake_of kind (packets.Split fields) same = absurd (let w : ⊥ = cc in w)
handshake_of kind packets.Pre same = absurd (let w : ⊥ = cc in w)

-- a bus at which this is open, and this many tokens went to other endpoints
abbrev bus_at : Option Transaction → ℕ → Bus
bus_at current n = record { current = current; is_split = false; others = n }

received_first : (bus : Bus) (r : RecordedPacket) (rs : List RecordedPacket) → received_from bus (r ∷ rs) ≡ option_to_list (over_with r bus) ++ received_from (bus_after r bus) rs
received_first bus r rs =
    append_assoc (option_to_list (over_with r bus)) (given_in bus_after over_with (bus_after r bus) rs) (option_to_list (after_all bus_after over_with (bus_after r bus) rs).current)

-- a token, data and a handshake of a recording
received_token : (t : Transaction) (r : RecordedPacket) (rs : List RecordedPacket) (o : Option Transaction) (n : ℕ) → Records (TokenPacket t.token t.to) r → t.to.endpoint ≡ 0
    → received_from (bus_at o n) (r ∷ rs) ≡ option_to_list o ++ received_from (bus_at (Some (begun r t.token t.to)) n) rs
received_token t r rs o n records zero =
    let h = taken (TokenPacket t.token t.to) r records in
    let is : r.packet ≡ Ok (packets.Token t.token t.to) = h.1 ∙ ap (λ (p : Packet). Ok p) (token_of t.token t.to h.0 h.2) in
    let test : (t.to.endpoint == 0) ≡ true = grind (arith, nat_tests) in
    let begins : begun_at r t.token t.to (bus_at None n) ≡ bus_at (Some (begun r t.token t.to)) n =
    ap (λ b. if b then bus_at (Some (begun r t.token t.to)) n else (record (bus_at None n) { others = (begun_other n) })) test in
    received_first (bus_at o n) r rs
    ∙ ap (λ read. option_to_list (over_by read o) ++ received_from (bus_with r read (bus_at o n)) rs) is
    ∙ ap (λ bus. option_to_list o ++ received_from bus rs) begins
  where
    begun_other : ℕ → ℕ
    begun_other n = min (n + 1) (2 ^ 64 - 1)

received_handshake : (t : Transaction) (kind : Handshake) (r : RecordedPacket) (rs : List RecordedPacket) (n : ℕ) → Records (HandshakePacket kind) r
    → received_from (bus_at (Some t) n) (r ∷ rs) ≡ ended_by kind t ∷ received_from (bus_at None n) rs
received_handshake t kind r rs n records =
    let h = taken (HandshakePacket kind) r records in
    let is : r.packet ≡ Ok (packets.Handshake kind) = h.1 ∙ ap (λ (p : Packet). Ok p) (handshake_of kind h.0 h.2) in
    received_first (bus_at (Some t) n) r rs
    ∙ ap (λ read. option_to_list (over_by read (Some t)) ++ received_from (bus_with r read (bus_at (Some t) n)) rs) is

-- of a transaction without data yet
module _ (number : ℕ) (time : Option ℕ) (token : TokenKind) (to : AddressFields) where
  abbrev it : Option DataPacket → Option Handshake → Transaction
  it packet handshake = record { number = number; time = time; token = token; to = to; «data» = packet; handshake = handshake }

  received_data : (packet : DataPacket) (r : RecordedPacket) (rs : List RecordedPacket) (n : ℕ) → Records (DataBytes packet.kind packet.bytes) r → may_have token None ≡ true
      → received_from (bus_at (Some (it None None)) n) (r ∷ rs) ≡ received_from (bus_at (Some (it (Some packet) None)) n) rs
  received_data packet r rs n records may = (let h = taken (DataBytes packet.kind packet.bytes) r records in of h.0 h.1 h.2)
    where
      of : (p : Packet) → r.packet ≡ Ok p → view_of p ≡ DataBytes packet.kind packet.bytes
          → received_from (bus_at (Some (it None None)) n) (r ∷ rs) ≡ received_from (bus_at (Some (it (Some packet) None)) n) rs
      of (packets.Data kind bytes) is same =
          let kinds : kind ≡ packet.kind = cc in
          let contents : bytes.now ≡ packet.bytes = cc in
          received_first (bus_at (Some (it None None)) n) r rs
          ∙ ap (λ read. option_to_list (over_by read (Some (it None None))) ++ received_from (bus_with r read (bus_at (Some (it None None)) n)) rs) is
          ∙ ap (λ b. option_to_list (if b then None else Some (it None None)) ++ received_from (bus_at (if b then Some (with_data kind bytes.now (it None None)) else None) n) rs) may
          ∙ ap (λ k. received_from (bus_at (Some (with_data k bytes.now (it None None))) n) rs) kinds
          ∙ ap (λ b. received_from (bus_at (Some (with_data packet.kind b (it None None))) n) rs) contents
      of (packets.Token other there) is same = absurd (let w : ⊥ = cc in w)
      of (packets.StartOfFrame other) is same = absurd (let w : ⊥ = cc in w)
      of (packets.Handshake other) is same = absurd (let w : ⊥ = cc in w)
      of (packets.Split fields) is same = absurd (let w : ⊥ = cc in w)
      of packets.Pre is same = absurd (let w : ⊥ = cc in w)

  -- where all that comes after is received, whatever is open
  module _ (rs : List RecordedPacket) (ts : List Transaction) (later : (o : Option Transaction) (n : ℕ) → received_from (bus_at o n) rs ≡ option_to_list o ++ ts) (n : ℕ) where
    received_end : (packet : Option DataPacket) (handshake : Option Handshake) (more : List RecordedPacket) → RecordAll (handshake_packets handshake) more
        → received_from (bus_at (Some (it packet None)) n) (more ++ rs) ≡ it packet handshake ∷ ts
    received_end packet None [] all = later (Some (it packet None)) n
    received_end packet None (r ∷ more) all = absurd all
    received_end packet (Some kind) [] all = absurd all
    received_end packet (Some kind) (r ∷ []) all = received_handshake (it packet None) kind r rs n all.0 ∙ ap (λ xs. it packet (Some kind) ∷ xs) (later None n)
    received_end packet (Some kind) (r ∷ (s ∷ more)) all = absurd all.1

    received_more : (packet : Option DataPacket) (handshake : Option Handshake) (more : List RecordedPacket) → MayHave (it packet handshake) packet
        → RecordAll (data_packets packet ++ handshake_packets handshake) more
        → received_from (bus_at (Some (it None None)) n) (more ++ rs) ≡ it packet handshake ∷ ts
    received_more None handshake more may all = received_end None handshake more all
    received_more (Some packet) handshake [] may all = absurd all
    received_more (Some packet) handshake (r ∷ more) may all =
        received_data packet r (more ++ rs) n all.0 may ∙ received_end (Some packet) handshake more all.1

received_all : (ts : List Transaction) (rs : List RecordedPacket) (o : Option Transaction) (n : ℕ) → AreRecorded ts rs → received_from (bus_at o n) rs ≡ option_to_list o ++ ts
received_all [] rs o n none = ap (received_from (bus_at o n)) none ∙ sym (append-nil (option_to_list o))
received_all (t ∷ ts) rs o n (r, more, rest, is, one, others) =
    let starts : begun r t.token t.to ≡ it t.number t.time t.token t.to None None =
    ap (λ m. it m r.time t.token t.to None None) (sym one.number) ∙ ap (λ m. it t.number m t.token t.to None None) (sym one.time) in
    ap (received_from (bus_at o n)) is
    ∙ received_token t r (more ++ rest) o n one.token_is one.to_zero
    ∙ ap (λ u. option_to_list o ++ received_from (bus_at (Some u) n) (more ++ rest)) starts
    ∙ ap (λ xs. option_to_list o ++ xs)
    (received_more t.number t.time t.token t.to rest ts (λ u m. received_all ts rest u m others) n t.data t.handshake more one.allowed one.more_are)

pub received_again : (ts : List Transaction) (rs : List RecordedPacket) → AreRecorded ts rs → transactions_in rs ≡ ts
received_again ts rs recorded = received_all ts rs None 0 recorded
