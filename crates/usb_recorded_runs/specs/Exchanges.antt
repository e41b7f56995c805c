-- The transactions of a run of a host and a device, as the bus has made them, and what a recorder receives of them: each packet that
-- arrives at the end to which it was sent (USB 2.0, 8.4 and 8.5).
use Rattle.std.specs.Prelude.{ℕ, ◌+◌, ◌-◌, Bool, true, false, if◌then◌else◌, List, [], ◌∷◌, ◌++◌, length, Option, Some, None}
use Rattle.usb_wire.specs.declared.pid.DataKind.TheVariants as datas
use Rattle.usb_wire.specs.declared.pid.Handshake.{Handshake}
use Rattle.usb_wire.specs.declared.pid.Handshake.TheVariants as handshakes
use Rattle.usb_wire.specs.Packets.{PacketView}
use Rattle.usb_fields.specs.Packets.{Token, SetupToken, InToken, OutToken, Sent, Reply, AckReply, NakReply, StallReply, DataReply, NoReply}
use Rattle.usb_file_data.specs.declared.file.DescriptorFile.{DescriptorFile}
use Rattle.usb_host.specs.Steps.{Wanted, WantsNothing, WantsReset, WantsSent, wanted}
use Rattle.usb_device.specs.Step.{DeviceView}
use Rattle.usb_bus.specs.declared.fate.Fate.{Fate}
use Rattle.usb_bus.specs.Bus.{brought}
use Rattle.usb_bus.specs.Enumerate.{Pair, answered}
use Rattle.usb_bus.specs.Exchanges.{is_lost_ack, is_lost_down, is_lost_up}
use Rattle.usb_bus.specs.Log.{count_before}
use Rattle.usb_bus.specs.Run.{fate_at}
use Rattle.usb_bus.specs.Wire.{ack_packet, data_kind, data_packet, reply_packet, token_kind, token_packet}
use Rattle.usb_capture.specs.declared.transaction.DataPacket.{DataPacket}
use Rattle.usb_capture.specs.declared.transaction.Transaction.{Transaction}

-- a transaction: its fate, what the host has sent, which address the device had, and what it has answered
pub record Exchange : Type 0 where
  pub fate : Fate
  pub sent : Sent
  pub address : ℕ
  pub answered : Reply

-- Transaction n, counted from 1, where a host wants one of a device that is so.
abbrev pub exchange_in : DescriptorFile → List Fate → ℕ → DeviceView → Wanted → List Exchange
exchange_in f fates n d (WantsSent sent) =
    let fate = fate_at fates (n - 1) in
    record { fate = fate; sent = sent; address = d.state.address; answered = answered f d sent fate } ∷ []
exchange_in f fates n d WantsReset = []
exchange_in f fates n d WantsNothing = []

-- those of a run of n transactions over these pairs, of which the newest is the first
abbrev pub exchanges : DescriptorFile → List Fate → List Pair → ℕ → List Exchange
exchanges f fates [] n = []
exchanges f fates (x ∷ earlier) n =
    exchanges f fates earlier (count_before (wanted x.host.phase) n) ++ exchange_in f fates n x.device (wanted x.host.phase)

-- What arrives.

-- of a packet, if one was sent, which may be lost
abbrev pub arriving : Bool → Option PacketView → List PacketView
arriving lost None = []
arriving true (Some packet) = []
arriving false (Some packet) = packet ∷ []

-- of the token, of the data after it, of the answer, and of the host's ACK
abbrev pub packets_of : Exchange → List PacketView
packets_of x =
    arriving (is_lost_down x.fate) (Some (token_packet x.sent)) ++ (arriving (is_lost_down x.fate) (data_packet x.sent.token)
    ++ (arriving (is_lost_up x.fate) (reply_packet x.answered) ++ arriving (is_lost_ack x.fate) (ack_packet (brought x.fate x.answered))))

abbrev pub packets_in : List Exchange → List PacketView
packets_in [] = []
packets_in (x ∷ xs) = packets_of x ++ packets_in xs

-- What a recorder makes of it: transactions.

-- the data of an answer
abbrev pub data_of : Reply → Option DataPacket
data_of (DataReply toggle bytes) = Some (record { kind = data_kind toggle; bytes = bytes })
data_of reply = None

-- the data of a transaction in which this answer has come
abbrev pub data_received : Token → Reply → Option DataPacket
data_received (SetupToken bytes) came = Some (record { kind = datas.Data0; bytes = bytes })
data_received InToken came = data_of came
data_received (OutToken toggle bytes) came = Some (record { kind = data_kind toggle; bytes = bytes })

-- its handshake: that of the device, or the host's ACK of data, which may be lost
abbrev pub handshake_received : Bool → Reply → Option Handshake
handshake_received lost AckReply = Some handshakes.Ack
handshake_received lost NakReply = Some handshakes.Nak
handshake_received lost StallReply = Some handshakes.Stall
handshake_received lost (DataReply toggle bytes) = if lost then None else Some handshakes.Ack
handshake_received lost NoReply = None

-- a transaction whose token's frame has this number and this time
abbrev pub transaction_of : ℕ → Option ℕ → Exchange → Transaction
transaction_of number time x = record {
  number = number;
  time = time;
  token = token_kind x.sent.token;
  to = record { address = x.sent.address; endpoint = 0 };
  «data» = data_received x.sent.token (brought x.fate x.answered);
  handshake = handshake_received (is_lost_ack x.fate) (brought x.fate x.answered);
}

-- Of one whose token is lost nothing is received.
abbrev pub unless_lost : Bool → Transaction → List Transaction
unless_lost true transaction = []
unless_lost false transaction = transaction ∷ []

-- the transactions, where the first frame has this number and each one the time of its number
abbrev pub received : (ℕ → Option ℕ) → ℕ → List Exchange → List Transaction
received times number [] = []
received times number (x ∷ xs) =
    unless_lost (is_lost_down x.fate) (transaction_of number (times number) x) ++ received times (number + length (packets_of x)) xs
