-- What is never found in the transactions of a run: damaged packets, a SETUP without its request or refused, and no handshake
-- without a loss.
use Rattle.std.proofs.Common.{◌≡◌, ◌⊎◌, inl, inr, ◌+◌, ℕ, suc, Bool, true, false, not, if◌then◌else◌, List, [], ◌∷◌, ◌++◌, length, refl, sym, ◌∙◌, ap}
use Rattle.std.specs.Prelude.{Option, Some, None, Result, Ok, Err, is_some, ◌&&◌}
use Rattle.std.specs.List.{AllByRecursion}
use Rattle.std.specs.Option.{option_map}
use Rattle.usb_wire.specs.declared.packet.Packet.{Packet}
use Rattle.usb_wire.specs.Damages.{damage_of}
use Rattle.usb_wire.specs.Packets.{IsLegal, PacketView, packet_bytes}
use Rattle.usb_wire.proofs.RoundTrip.{packet_taken}
use Rattle.usb_fields.specs.Packets.{AckReply, DataReply, InToken, NakReply, NoReply, OutToken, Reply, SetupToken, StallReply, Token}
use Rattle.usb_bus.specs.declared.fate.Fate.{Fate}
use Rattle.usb_bus.specs.declared.fate.Fate.TheVariants.{Busy, LostAck, LostDown, LostUp, Pass}
use Rattle.usb_bus.specs.Bus.{brought}
use Rattle.usb_bus.specs.Damaged.{fits}
use Rattle.usb_bus.specs.Exchanges.{is_lost_ack, is_lost_down}
use Rattle.usb_capture.specs.declared.bus_packet.PacketFault.{PacketFault}
use Rattle.usb_capture.specs.declared.bus_packet.PacketFault.TheVariants.{Cut, Damaged}
use Rattle.usb_capture.specs.declared.packet_finding.PacketFinding.{PacketFinding}
use Rattle.usb_capture.specs.declared.packet_finding.PacketFinding.TheVariants.{NoHandshake, NoRequest, SetupRefused}
use Rattle.usb_capture.specs.declared.recorded_packet.RecordedPacket.{RecordedPacket}
use Rattle.usb_capture.specs.declared.transaction.Transaction.{Transaction}
use Rattle.usb_capture.specs.BusPackets.{IsPacketOf, packet_fault}
use Rattle.usb_capture.specs.Events.{setup_at}
use Rattle.usb_capture.specs.PacketFindings.{damage_in, is_found, lacks_request, refuses_setup}
use Rattle.usb_recorded_runs.specs.Exchanges.{Exchange, data_received, handshake_received, received, packets_of, transaction_of, unless_lost}
use Rattle.usb_bus.specs.Wire.{token_kind}
use Rattle.usb_recorded_runs.specs.Captures.{AreOfFrames, IsOfFrame, Moment, frame_of, frames}
use Rattle.usb_recorded_runs.specs.Findings.{IsFreeAfter, LosesHandshake}
use Rattle.usb_recorded_runs.proofs.RecordedLemmas.{Fits, IsRegular, not_less}

-- ---- transactions one by one

-- whatever came before it, this is not found in a transaction
abbrev IsFree : PacketFinding → Exchange → Type 0
IsFree finding x = (before : List Transaction) (number : ℕ) (time : Option ℕ) → is_found finding before (transaction_of number time x) ≡ false

first_free : (finding : PacketFinding) (lost : Bool) (t : Transaction) (ts before : List Transaction) → is_found finding before t ≡ false
    → ((before : List Transaction) → IsFreeAfter finding before ts) → IsFreeAfter finding before (unless_lost lost t ++ ts)
first_free finding true t ts before free later = later before
first_free finding false t ts before free later = (free, later (before ++ t ∷ []))

-- so it is found in none
all_free : (finding : PacketFinding) (times : ℕ → Option ℕ) (number : ℕ) (xs : List Exchange) (before : List Transaction) → AllByRecursion (IsFree finding) xs
    → IsFreeAfter finding before (received times number xs)
all_free finding times number [] before free = tt
all_free finding times number (x ∷ xs) before free =
    first_free finding (is_lost_down x.fate) (transaction_of number (times number) x) (received times (number + length (packets_of x)) xs) before
    (free.0 before number (times number)) (λ earlier. all_free finding times (number + length (packets_of x)) xs earlier free.1)

-- a SETUP has its request
has_request : (x : Exchange) (number : ℕ) (time : Option ℕ) → fits x.sent.token ≡ true → lacks_request (transaction_of number time x) ≡ false
has_request x number time asks = of x.sent.token asks
  where
    of : (token : Token) → fits token ≡ true
        → lacks_request (record (transaction_of number time x) { token = token_kind token; «data» = data_received token (brought x.fate x.answered) }) ≡ false
    of InToken asks = refl
    of (OutToken toggle bytes) asks = refl
    of (SetupToken bytes) asks = ap (λ t. not (is_some (if true && t then Some (setup_at bytes 0) else None))) asks

-- and is not refused
not_refused : (x : Exchange) (number : ℕ) (time : Option ℕ) → Fits x.sent.token x.answered → refuses_setup (transaction_of number time x) ≡ false
not_refused x number time answers = of x.fate x.sent.token x.answered answers
  where
    of : (fate : Fate) (token : Token) (reply : Reply) → Fits token reply
        → refuses_setup (record (transaction_of number time x) { token = token_kind token; handshake = handshake_received (is_lost_ack fate) (brought fate reply) }) ≡ false
    of fate InToken reply answers = refl
    of fate (OutToken toggle bytes) reply answers = refl
    of Pass (SetupToken bytes) AckReply answers = refl
    of Busy (SetupToken bytes) AckReply answers = refl
    of LostDown (SetupToken bytes) AckReply answers = refl
    of LostUp (SetupToken bytes) AckReply answers = refl
    of LostAck (SetupToken bytes) AckReply answers = refl
    of Pass (SetupToken bytes) NoReply answers = refl
    of Busy (SetupToken bytes) NoReply answers = refl
    of LostDown (SetupToken bytes) NoReply answers = refl
    of LostUp (SetupToken bytes) NoReply answers = refl
    of LostAck (SetupToken bytes) NoReply answers = refl
    of fate (SetupToken bytes) NakReply answers = absurd answers
    of fate (SetupToken bytes) StallReply answers = absurd answers
    of fate (SetupToken bytes) (DataReply toggle more) answers = absurd answers

all_request : (xs : List Exchange) → AllByRecursion IsRegular xs → AllByRecursion (IsFree NoRequest) xs
all_request [] regular = tt
all_request (x ∷ xs) regular = (λ before number time. has_request x number time regular.0.asks, all_request xs regular.1)

pub all_requests : (times : ℕ → Option ℕ) (number : ℕ) (xs : List Exchange) → AllByRecursion IsRegular xs → IsFreeAfter NoRequest [] (received times number xs)
all_requests times number xs regular = all_free NoRequest times number xs [] (all_request xs regular)

all_not_refused : (xs : List Exchange) → AllByRecursion IsRegular xs → AllByRecursion (IsFree SetupRefused) xs
all_not_refused [] regular = tt
all_not_refused (x ∷ xs) regular = (λ before number time. not_refused x number time regular.0.answers, all_not_refused xs regular.1)

pub none_refused : (times : ℕ → Option ℕ) (number : ℕ) (xs : List Exchange) → AllByRecursion IsRegular xs → IsFreeAfter SetupRefused [] (received times number xs)
none_refused times number xs regular = all_free SetupRefused times number xs [] (all_not_refused xs regular)

-- ---- a handshake

none_came : (fate : Fate) (reply : Reply) → not (is_some (handshake_received (is_lost_ack fate) (brought fate reply))) ≡ true
    → (fate ≡ LostUp) ⊎ ((fate ≡ LostAck) ⊎ (reply ≡ NoReply))
none_came LostUp reply found = inl refl
none_came LostAck reply found = inr (inl refl)
none_came Pass NoReply found = inr (inr refl)
none_came Busy NoReply found = inr (inr refl)
none_came LostDown NoReply found = inr (inr refl)
none_came fate reply found = absurd (let w : ⊥ = cc in w)

lost_handshake : (x : Exchange) → IsRegular x → is_lost_down x.fate ≡ false
    → (x.fate ≡ LostUp) ⊎ ((x.fate ≡ LostAck) ⊎ (x.answered ≡ NoReply)) → LosesHandshake x
lost_handshake x regular kept (inl up) = inl up
lost_handshake x regular kept (inr (inl ack)) = inr (inl ack)
lost_handshake x regular kept (inr (inr none)) = inr (inr (regular.replies kept none))

pub all_lost : (xs : List Exchange) → AllByRecursion IsRegular xs
    → AllByRecursion
    (λ x. (number : ℕ) (time : Option ℕ) (before : List Transaction) → is_lost_down x.fate ≡ false → is_found NoHandshake before (transaction_of number time x) ≡ true → LosesHandshake x)
    xs
all_lost [] regular = tt
all_lost (x ∷ xs) regular =
    (λ number time before kept found. lost_handshake x regular.0 kept (none_came x.fate x.answered found), all_lost xs regular.1)

-- ---- packets

undamaged : (clock : ℕ → Moment) (number : ℕ) (packet : PacketView) (recorded : RecordedPacket) → IsLegal packet
    → IsOfFrame number (frame_of clock number packet) recorded → damage_in recorded.packet ≡ None
undamaged clock number packet recorded legal is = of recorded.packet is.packet_is
  where
    sound : packet_fault (frame_of clock number packet) ≡ None
    sound =
        ap (λ b. if b then Some Cut else option_map Damaged (damage_of (packet_bytes packet))) (not_less (length (packet_bytes packet)))
        ∙ ap (option_map Damaged) (packet_taken packet legal)

    of : (read : Result Packet PacketFault) → IsPacketOf (frame_of clock number packet) read → damage_in read ≡ None
    of (Ok p) has = refl
    of (Err fault) has = absurd (let e : Some fault ≡ None = sym has ∙ sound in let w : ⊥ = cc in w)

pub all_undamaged : (clock : ℕ → Moment) (number : ℕ) (packets : List PacketView) (recorded : List RecordedPacket) → AllByRecursion IsLegal packets
    → AreOfFrames number (frames clock number packets) recorded → AllByRecursion (λ r. damage_in r.packet ≡ None) recorded
all_undamaged clock number [] [] legal are = tt
all_undamaged clock number [] (r ∷ rs) legal are = absurd are
all_undamaged clock number (p ∷ ps) [] legal are = absurd are
all_undamaged clock number (p ∷ ps) (r ∷ rs) legal are = (undamaged clock number p r legal.0 are.0, all_undamaged clock (suc number) ps rs legal.1 are.1)
