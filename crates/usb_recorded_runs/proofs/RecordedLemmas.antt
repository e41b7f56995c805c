-- The packets of transactions that arrive are recorded as those transactions.
use Rattle.std.proofs.Common.{◌≡◌, ◌≢◌, ℕ, suc, ◌+◌, Bool, true, false, List, [], ◌∷◌, ◌++◌, length, nat_lt, refl, sym, ◌∙◌, ap, subst, arith}
use Rattle.std.specs.Prelude.{Option, Some}
use Rattle.std.specs.List.{AllByRecursion}
use Rattle.std.proofs.lemmas.Bool.Decides.{nat_tests}
use Rattle.usb_wire.specs.Packets.{IsLegal, PacketView, TokenPacket, packet_bytes}
use Rattle.usb_fields.specs.declared.packet.Toggle.{Toggle}
use Rattle.usb_fields.specs.Packets.{AckReply, DataReply, InToken, NakReply, NoReply, OutToken, Reply, SetupToken, StallReply, Token}
use Rattle.usb_bus.specs.declared.fate.Fate.{Fate}
use Rattle.usb_bus.specs.declared.fate.Fate.TheVariants.{Busy, LostAck, LostDown, LostUp, Pass}
use Rattle.usb_bus.specs.Bus.{brought}
use Rattle.usb_bus.specs.Damaged.{fits}
use Rattle.usb_bus.specs.Exchanges.{is_lost_ack, is_lost_down, is_lost_up}
use Rattle.usb_bus.specs.Wire.{ack_packet, data_packet, reply_packet, token_kind, token_packet}
use Rattle.usb_capture.specs.declared.recorded_packet.RecordedPacket.{RecordedPacket}
use Rattle.usb_capture.specs.declared.transaction.Transaction.{Transaction}
use Rattle.usb_capture.specs.Recordings.{AreRecorded, MayHave, RecordAll, Records, data_packets, handshake_packets, transactions_in}
use Rattle.usb_capture.proofs.RecordingLaws.{received_again}
use Rattle.usb_recorded_runs.specs.Captures.{AreOfFrames, IsOfFrame, Moment, frame_of, frames, times}
use Rattle.usb_recorded_runs.specs.Exchanges.{Exchange, arriving, data_received, data_of, handshake_received, received, packets_in, packets_of, transaction_of, unless_lost}

-- ---- what a device may answer

-- Data answer an IN alone, and NAK and STALL no SETUP.
abbrev pub Fits : Token → Reply → Type 0
Fits (SetupToken bytes) AckReply = Unit {0}
Fits (SetupToken bytes) NoReply = Unit {0}
Fits (SetupToken bytes) reply = ⊥
Fits (OutToken toggle bytes) (DataReply other more) = ⊥
Fits (OutToken toggle bytes) reply = Unit {0}
Fits InToken reply = Unit {0}

pub record IsRegular (x : Exchange) : Type 0 where
  pub asks : fits x.sent.token ≡ true
  pub answers : Fits x.sent.token x.answered
  pub replies : is_lost_down x.fate ≡ false → x.answered ≡ NoReply → x.sent.address ≢ x.address
  pub silent : is_lost_down x.fate ≡ true → x.answered ≡ NoReply
  pub legal : AllByRecursion IsLegal (packets_of x)

abbrev IsNoData : Reply → Type 0
IsNoData (DataReply toggle bytes) = ⊥
IsNoData reply = Unit {0}

setup_no_data : (bytes : List ℕ) (reply : Reply) → Fits (SetupToken bytes) reply → IsNoData reply
setup_no_data bytes AckReply right = tt
setup_no_data bytes NoReply right = tt
setup_no_data bytes NakReply right = tt
setup_no_data bytes StallReply right = tt
setup_no_data bytes (DataReply toggle more) right = absurd right

out_no_data : (toggle : Toggle) (bytes : List ℕ) (reply : Reply) → Fits (OutToken toggle bytes) reply → IsNoData reply
out_no_data toggle bytes AckReply right = tt
out_no_data toggle bytes NoReply right = tt
out_no_data toggle bytes NakReply right = tt
out_no_data toggle bytes StallReply right = tt
out_no_data toggle bytes (DataReply other more) right = absurd right

-- ---- the packets of a transaction

-- what arrives of an answer and of the ACK of it
abbrev answer_packets : Fate → Reply → List PacketView
answer_packets fate reply = arriving (is_lost_up fate) (reply_packet reply) ++ arriving (is_lost_ack fate) (ack_packet (brought fate reply))

in_packets : (fate : Fate) (reply : Reply)
    → answer_packets fate reply ≡ data_packets (data_of (brought fate reply)) ++ handshake_packets (handshake_received (is_lost_ack fate) (brought fate reply))
in_packets Pass AckReply = refl
in_packets Busy AckReply = refl
in_packets LostDown AckReply = refl
in_packets LostUp AckReply = refl
in_packets LostAck AckReply = refl
in_packets fate reply = refl

out_packets : (fate : Fate) (reply : Reply) → IsNoData reply
    → answer_packets fate reply ≡ handshake_packets (handshake_received (is_lost_ack fate) (brought fate reply))
out_packets Pass AckReply right = refl
out_packets Busy AckReply right = refl
out_packets LostDown AckReply right = refl
out_packets LostUp AckReply right = refl
out_packets LostAck AckReply right = refl
out_packets fate (DataReply toggle bytes) right = absurd right
out_packets fate reply right = refl

-- after the token, which has arrived
after_token : (fate : Fate) (token : Token) (reply : Reply) → is_lost_down fate ≡ false → Fits token reply
    → arriving (is_lost_down fate) (data_packet token) ++ answer_packets fate reply
    ≡ data_packets (data_received token (brought fate reply)) ++ handshake_packets (handshake_received (is_lost_ack fate) (brought fate reply))
after_token fate (SetupToken bytes) reply kept right =
    ap (λ lost. arriving lost (data_packet (SetupToken bytes)) ++ answer_packets fate reply) kept
    ∙ ap (λ ps. data_packets (data_received (SetupToken bytes) (brought fate reply)) ++ ps) (out_packets fate reply (setup_no_data bytes reply right))
after_token fate InToken reply kept right = in_packets fate reply
after_token fate (OutToken toggle bytes) reply kept right =
    ap (λ lost. arriving lost (data_packet (OutToken toggle bytes)) ++ answer_packets fate reply) kept
    ∙ ap (λ ps. data_packets (data_received (OutToken toggle bytes) (brought fate reply)) ++ ps) (out_packets fate reply (out_no_data toggle bytes reply right))

whole : (x : Exchange) (number : ℕ) (time : Option ℕ) → is_lost_down x.fate ≡ false → Fits x.sent.token x.answered
    → (let t = transaction_of number time x in packets_of x ≡ TokenPacket t.token t.to ∷ (data_packets t.data ++ handshake_packets t.handshake))
whole x number time kept right =
    ap (λ lost. arriving lost (Some (token_packet x.sent)) ++ (arriving (is_lost_down x.fate) (data_packet x.sent.token) ++ answer_packets x.fate x.answered)) kept
    ∙ ap (λ ps. token_packet x.sent ∷ ps) (after_token x.fate x.sent.token x.answered kept right)

nothing : (x : Exchange) → is_lost_down x.fate ≡ true → x.answered ≡ NoReply → packets_of x ≡ []
nothing x lost none =
    ap (λ reply. packets_of (record x { answered = reply })) none ∙ of x.fate x.sent.token lost
  where
    of : (fate : Fate) (token : Token) → is_lost_down fate ≡ true
        → packets_of (record { fate = fate; sent = record { address = x.sent.address; token = token }; address = x.address; answered = NoReply }) ≡ []
    of Pass token lost = absurd (let w : ⊥ = cc in w)
    of Busy token lost = absurd (let w : ⊥ = cc in w)
    of LostUp token lost = absurd (let w : ⊥ = cc in w)
    of LostAck token lost = absurd (let w : ⊥ = cc in w)
    of LostDown (SetupToken bytes) lost = refl
    of LostDown InToken lost = refl
    of LostDown (OutToken toggle bytes) lost = refl

may_have : (x : Exchange) (number : ℕ) (time : Option ℕ) → (let t = transaction_of number time x in MayHave t t.data)
may_have x number time = of x.sent.token (brought x.fate x.answered)
  where
    of : (token : Token) (came : Reply) → MayHave (record (transaction_of number time x) { token = token_kind token }) (data_received token came)
    of (SetupToken bytes) came = refl
    of (OutToken toggle bytes) came = refl
    of InToken (DataReply toggle bytes) = refl
    of InToken AckReply = tt
    of InToken NakReply = tt
    of InToken StallReply = tt
    of InToken NoReply = tt

-- ---- frames

-- not cut
pub not_less : (n : ℕ) → nat_lt n n ≡ false
not_less n = grind (arith, nat_tests)

module _ (clock : ℕ → Moment) where
  record_one : (number : ℕ) (packet : PacketView) (recorded : RecordedPacket) → IsLegal packet → IsOfFrame number (frame_of clock number packet) recorded → Records packet recorded
  record_one number packet recorded legal is = record {
    frame = frame_of clock number packet;
    link = refl;
    whole = not_less (length (packet_bytes packet));
    legal = legal;
    bytes = refl;
    read = is.packet_is;
  }

  record_all : (number : ℕ) (packets : List PacketView) (recorded : List RecordedPacket) → AllByRecursion IsLegal packets
      → AreOfFrames number (frames clock number packets) recorded → RecordAll packets recorded
  record_all number [] [] legal are = tt
  record_all number [] (r ∷ rs) legal are = absurd are
  record_all number (p ∷ ps) [] legal are = absurd are
  record_all number (p ∷ ps) (r ∷ rs) legal are = (record_one number p r legal.0 are.0, record_all (suc number) ps rs legal.1 are.1)

  -- the frames of some packets and of those after them
  abbrev Parted : ℕ → List PacketView → List PacketView → List RecordedPacket → Type 0
  Parted number first second recorded =
      (front back : List RecordedPacket) × (recorded ≡ front ++ back) × AreOfFrames number (frames clock number first) front
      × AreOfFrames (number + length first) (frames clock (number + length first) second) back

  parted : (number : ℕ) (first second : List PacketView) (recorded : List RecordedPacket) → AreOfFrames number (frames clock number (first ++ second)) recorded
      → Parted number first second recorded
  parted number [] second recorded are =
      let same : number ≡ number + 0 = omega arith in
      ([], recorded, refl, tt, subst (λ n. AreOfFrames n (frames clock n second) recorded) same are)
  parted number (p ∷ ps) second [] are = absurd are
  parted number (p ∷ ps) second (r ∷ rs) are =
      let rest = parted (suc number) ps second rs are.1 in
      let same : suc number + length ps ≡ number + suc (length ps) = omega arith in (
        r ∷ rest.0,
        rest.1,
        ap (λ ss. r ∷ ss) rest.2,
        (are.0, rest.3),
        subst (λ n. AreOfFrames n (frames clock n second) rest.1) same rest.4,
      )

  -- ---- the transactions

  -- the packets of a transaction with its number and time, and those of the transactions after it
  record_packets : (t : Transaction) (front rest : List RecordedPacket) (ts : List Transaction) → t.time ≡ times clock t.number → t.to.endpoint ≡ 0 → MayHave t t.data
      → AreOfFrames t.number (frames clock t.number (TokenPacket t.token t.to ∷ (data_packets t.data ++ handshake_packets t.handshake))) front
      → AllByRecursion IsLegal (TokenPacket t.token t.to ∷ (data_packets t.data ++ handshake_packets t.handshake)) → AreRecorded ts rest
      → AreRecorded (t ∷ ts) (front ++ rest)
  record_packets t [] rest ts time zero may are legal later = absurd are
  record_packets t (token ∷ more) rest ts time zero may are legal later = (
    token,
    more,
    rest,
    refl,
    record {
      to_zero = zero;
      allowed = may;
      number = sym are.0.number_is;
      time = time ∙ sym are.0.time_is;
      token_is = record_one t.number (TokenPacket t.token t.to) token legal.0 are.0;
      more_are = record_all (suc t.number) (data_packets t.data ++ handshake_packets t.handshake) more legal.1 are.1;
    },
    later,
  )

  record_transaction : (x : Exchange) (number : ℕ) (front rest : List RecordedPacket) (ts : List Transaction) → IsRegular x → is_lost_down x.fate ≡ false
      → AreOfFrames number (frames clock number (packets_of x)) front → AreRecorded ts rest
      → AreRecorded (transaction_of number (times clock number) x ∷ ts) (front ++ rest)
  record_transaction x number front rest ts regular kept are later =
      let is = whole x number (times clock number) kept regular.answers in
      record_packets (transaction_of number (times clock number) x) front rest ts refl refl (may_have x number (times clock number))
      (subst (λ ps. AreOfFrames number (frames clock number ps) front) is are)
      (subst (λ ps. AllByRecursion IsLegal ps) is regular.legal) later

  none_left : (number : ℕ) (recorded : List RecordedPacket) → AreOfFrames number [] recorded → recorded ≡ []
  none_left number [] are = refl
  none_left number (r ∷ rs) are = absurd are

  -- a transaction, and those after it
  record_first : (x : Exchange) (number : ℕ) (front back : List RecordedPacket) (ts : List Transaction) (lost : Bool) → IsRegular x → is_lost_down x.fate ≡ lost
      → AreOfFrames number (frames clock number (packets_of x)) front → AreRecorded ts back
      → AreRecorded (unless_lost lost (transaction_of number (times clock number) x) ++ ts) (front ++ back)
  record_first x number front back ts false regular is are later = record_transaction x number front back ts regular is are later
  record_first x number front back ts true regular is are later =
      let none : front ≡ [] = none_left number front (subst (λ ps. AreOfFrames number (frames clock number ps) front) (nothing x is (regular.silent is)) are) in
      subst (AreRecorded ts) (sym (ap (λ rs. rs ++ back) none)) later

  recorded_all : (xs : List Exchange) (number : ℕ) (recorded : List RecordedPacket) → AllByRecursion IsRegular xs
      → AreOfFrames number (frames clock number (packets_in xs)) recorded → AreRecorded (received (times clock) number xs) recorded
  recorded_all [] number recorded regular are = none_left number recorded are
  recorded_all (x ∷ xs) number recorded regular are =
      let parts = parted number (packets_of x) (packets_in xs) recorded are in
      let after = number + length (packets_of x) in
      let later = recorded_all xs after parts.1 regular.1 parts.4 in
      subst (AreRecorded (received (times clock) number (x ∷ xs))) (sym parts.2)
      (record_first x number parts.0 parts.1 (received (times clock) after xs) (is_lost_down x.fate) regular.0 refl parts.3 later)

  pub read_again : (xs : List Exchange) (recorded : List RecordedPacket) → AllByRecursion IsRegular xs
      → AreOfFrames 1 (frames clock 1 (packets_in xs)) recorded → transactions_in recorded ≡ received (times clock) 1 xs
  read_again xs recorded regular are = received_again (received (times clock) 1 xs) recorded (recorded_all xs 1 recorded regular are)
