-- Transactions with endpoint zero as packets of a recording.
use Rattle.std.specs.Prelude.{◌≡◌, List, [], ◌∷◌, ◌++◌, true, false, Option, Some, None, nat_lt}
use Rattle.std.specs.Option.{option_to_list}
use Rattle.usb_wire.specs.declared.pid.Handshake.{Handshake}
use Rattle.usb_wire.specs.Packets.{DataPacket as DataBytes, HandshakePacket, IsLegal, PacketView, TokenPacket, packet_bytes}
use Rattle.usb_capture.specs.declared.frame.Frame.{Frame}
use Rattle.usb_capture.specs.declared.recorded_packet.RecordedPacket.{RecordedPacket}
use Rattle.usb_capture.specs.declared.transaction.DataPacket.{DataPacket}
use Rattle.usb_capture.specs.declared.transaction.Transaction.{Transaction}
use Rattle.usb_capture.specs.BusPackets.{IsPacketOf, is_of_bus}
use Rattle.usb_capture.specs.Folds.{after_all, given_in}
use Rattle.usb_capture.specs.Transactions.{Bus, bus_after, idle, may_have, over_with}

-- what was read of a whole frame with the bytes of a legal packet
pub record Records (packet : PacketView) (recorded : RecordedPacket) : Type 0 where
  pub frame : Frame
  pub link : is_of_bus frame.link ≡ true
  pub whole : nat_lt frame.captured frame.original ≡ false
  pub legal : IsLegal packet
  pub bytes : frame.bytes ≡ packet_bytes packet
  pub read : IsPacketOf frame recorded.packet

abbrev pub RecordAll : List PacketView → List RecordedPacket → Type 0
RecordAll [] [] = Unit {0}
RecordAll (packet ∷ packets) (recorded ∷ more) = Records packet recorded × RecordAll packets more
RecordAll [] (recorded ∷ more) = ⊥
RecordAll (packet ∷ packets) [] = ⊥

-- the packets after a token: data and handshake may be lost
abbrev pub data_packets : Option DataPacket → List PacketView
data_packets (Some packet) = DataBytes packet.kind packet.bytes ∷ []
data_packets None = []

abbrev pub handshake_packets : Option Handshake → List PacketView
handshake_packets (Some handshake) = HandshakePacket handshake ∷ []
handshake_packets None = []

-- Data come after no PING.
abbrev pub MayHave : Transaction → Option DataPacket → Type 0
MayHave transaction (Some packet) = may_have transaction.token None ≡ true
MayHave transaction None = Unit {0}

-- a token with the number and the time of a transaction, and its other packets
pub record IsRecorded (transaction : Transaction) (token : RecordedPacket) (more : List RecordedPacket) : Type 0 where
  pub to_zero : transaction.to.endpoint ≡ 0
  pub allowed : MayHave transaction transaction.data
  pub number : transaction.number ≡ token.number
  pub time : transaction.time ≡ token.time
  pub token_is : Records (TokenPacket transaction.token transaction.to) token
  pub more_are : RecordAll (data_packets transaction.data ++ handshake_packets transaction.handshake) more

-- one transaction after another
abbrev pub AreRecorded : List Transaction → List RecordedPacket → Type 0
AreRecorded [] recorded = recorded ≡ []
AreRecorded (transaction ∷ transactions) recorded =
    (token : RecordedPacket) × (more rest : List RecordedPacket)
    × (recorded ≡ token ∷ (more ++ rest)) × IsRecorded transaction token more × AreRecorded transactions rest

-- the transactions of a recording, with the one that is open at its end
abbrev pub received_from : Bus → List RecordedPacket → List Transaction
received_from bus recorded = given_in bus_after over_with bus recorded ++ option_to_list (after_all bus_after over_with bus recorded).current

abbrev pub transactions_in : List RecordedPacket → List Transaction
transactions_in recorded = received_from idle recorded
