-- Transactions of the bus (USB 2.0, 8.5), of the packets of a recording.
use Rattle.std.specs.Prelude.{◌≡◌, ℕ, ◌+◌, ◌-◌, ◌^◌, ◌==◌, Bool, true, false, List, min, Option, Some, None, Result, Ok, Err, if◌then◌else◌}
use Rattle.std.specs.Option.{option_map}
use Rattle.usb_wire.specs.declared.address.AddressFields.{AddressFields}
use Rattle.usb_wire.specs.declared.packet.Packet.{Packet}
use Rattle.usb_wire.specs.declared.packet.Packet.TheVariants as packets
use Rattle.usb_wire.specs.declared.pid.DataKind.{DataKind}
use Rattle.usb_wire.specs.declared.pid.Handshake.{Handshake}
use Rattle.usb_wire.specs.declared.pid.TokenKind.{TokenKind}
use Rattle.usb_wire.specs.declared.pid.TokenKind.TheVariants as tokens
use Rattle.usb_capture.specs.declared.bus_packet.PacketFault.{PacketFault}
use Rattle.usb_capture.specs.declared.bus_packet.PacketFault.TheVariants as faults
use Rattle.usb_capture.specs.declared.bus_transactions.BusTransactions.{BusTransactions}
use Rattle.usb_capture.specs.declared.recorded_packet.RecordedPacket.{RecordedPacket}
use Rattle.usb_capture.specs.declared.transaction.DataPacket.{DataPacket}
use Rattle.usb_capture.specs.declared.transaction.Transaction.{Transaction}
use Rattle.usb_capture.specs.Folds.{after_all, given_in}

-- A transaction is a token, data and a handshake, in this order.
abbrev pub begun : RecordedPacket → TokenKind → AddressFields → Transaction
begun recorded token to = record {
  number = recorded.number;
  time = recorded.time;
  token = token;
  to = to;
  «data» = None;
  handshake = None;
}

abbrev pub with_data : DataKind → List ℕ → Transaction → Transaction
with_data kind bytes transaction = record transaction { «data» = Some (record { kind = kind; bytes = bytes }) }

abbrev pub ended_by : Handshake → Transaction → Transaction
ended_by handshake transaction = record transaction { handshake = Some handshake }

-- Data come once, after an OUT, an IN or a SETUP; after a PING comes a handshake (8.5.1).
abbrev pub may_have : TokenKind → Option DataPacket → Bool
may_have token (Some packet) = false
may_have tokens.Out None = true
may_have tokens.In None = true
may_have tokens.Setup None = true
may_have tokens.Ping None = false

abbrev pub awaits_data : Transaction → Bool
awaits_data transaction = may_have transaction.token transaction.data

-- What goes on at the bus: the transaction with endpoint zero whose end hasn't come, whether a SPLIT was the last packet, so
-- that the next token is of a split transaction (8.4.2), and how many tokens there were to other endpoints.
pub record Bus : Type 0 where
  pub current : Option Transaction
  pub is_split : Bool
  pub others : ℕ

abbrev pub bus_of : BusTransactions → Bus
bus_of bus = record { current = bus.current; is_split = bus.is_split; others = bus.others }

abbrev pub idle : Bus
idle = record { current = None; is_split = false; others = 0 }

-- The next packet of a transaction is a token.
abbrev pub broken_off : Bool → Bus → Bus
broken_off is_split bus = record bus { current = None; is_split = is_split }

abbrev pub begun_at : RecordedPacket → TokenKind → AddressFields → Bus → Bus
begun_at recorded token to bus =
    if to.endpoint == 0 then record bus { current = Some (begun recorded token to) }
    else record bus { others = min (bus.others + 1) (2 ^ 64 - 1) }

abbrev pub after_token : RecordedPacket → TokenKind → AddressFields → Bus → Bus
after_token recorded token to bus = if bus.is_split then broken_off false bus else begun_at recorded token to (broken_off false bus)

abbrev pub given_data : DataKind → List ℕ → Option Transaction → Option Transaction
given_data kind bytes None = None
given_data kind bytes (Some transaction) = if awaits_data transaction then Some (with_data kind bytes transaction) else None

abbrev pub after_data : DataKind → List ℕ → Bus → Bus
after_data kind bytes bus = record bus { current = given_data kind bytes bus.current }

abbrev pub over_with_data : Option Transaction → Option Transaction
over_with_data None = None
over_with_data (Some transaction) = if awaits_data transaction then None else Some transaction

-- The bus after a packet, or after what is none: a receiver ignores damaged bytes (8.7.1), and a transaction ends there. PRE
-- comes before each packet of a host to a device at low speed (8.6.5).
abbrev pub bus_with : RecordedPacket → Result Packet PacketFault → Bus → Bus
bus_with recorded (Ok (packets.Token token to)) bus = after_token recorded token to bus
bus_with recorded (Ok (packets.Data kind bytes)) bus = after_data kind bytes.now bus
bus_with recorded (Ok (packets.Handshake handshake)) bus = broken_off false bus
bus_with recorded (Ok (packets.StartOfFrame number)) bus = broken_off false bus
bus_with recorded (Ok (packets.Split fields)) bus = broken_off true bus
bus_with recorded (Ok packets.Pre) bus = bus
bus_with recorded (Err faults.Link) bus = bus
bus_with recorded (Err faults.Cut) bus = broken_off false bus
bus_with recorded (Err (faults.Damaged damage)) bus = broken_off false bus

abbrev pub bus_after : RecordedPacket → Bus → Bus
bus_after recorded bus = bus_with recorded recorded.packet bus

-- the transaction that is over with it
abbrev pub over_by : Result Packet PacketFault → Option Transaction → Option Transaction
over_by (Ok (packets.Token token to)) current = current
over_by (Ok (packets.Data kind bytes)) current = over_with_data current
over_by (Ok (packets.Handshake handshake)) current = option_map (ended_by handshake) current
over_by (Ok (packets.StartOfFrame number)) current = current
over_by (Ok (packets.Split fields)) current = current
over_by (Ok packets.Pre) current = None
over_by (Err faults.Link) current = None
over_by (Err faults.Cut) current = current
over_by (Err (faults.Damaged damage)) current = current

abbrev pub over_with : RecordedPacket → Bus → Option Transaction
over_with recorded bus = over_by recorded.packet bus.current

-- who has taken these packets and given these transactions
abbrev pub HasReceived : List RecordedPacket → List Transaction → BusTransactions → Type 0
HasReceived packets transactions bus =
    (bus_of bus ≡ after_all bus_after over_with idle packets) × (transactions ≡ given_in bus_after over_with idle packets)
