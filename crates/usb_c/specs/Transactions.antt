-- Transactions and packets as numbers.
use Rattle.std.specs.Prelude.{ℕ, List, ◌++◌, length, drop, take, nat_lt, replicate, ◌==◌, Option, Some, None, if◌then◌else◌}
use Rattle.std.specs.Option.{option_map}
use Rattle.usb_fields.specs.declared.packet.Toggle.{Toggle}
use Rattle.usb_fields.specs.declared.packet.Toggle.TheVariants.{Data0, Data1}
use Rattle.usb_fields.specs.declared.packet.Speed.{Speed}
use Rattle.usb_fields.specs.declared.packet.Speed.TheVariants as speeds
use Rattle.usb_fields.specs.Packets.{Token, SetupToken, InToken, OutToken, Sent, Reply, AckReply, NakReply, StallReply, DataReply, NoReply}
use Rattle.usb_device.specs.Stages.{toggle_number}
use Rattle.usb_c.specs.declared.transaction.NzgTransaction.{NzgTransaction}
use Rattle.usb_c.specs.declared.transaction.NzgPacket.{NzgPacket}

-- the toggle of a number, if it has a meaning
abbrev pub toggle_given : ℕ → Option Toggle
toggle_given number = if number == 0 then Some Data0 else if number == 1 then Some Data1 else None

-- the speed of a number
abbrev pub speed_given : ℕ → Option Speed
speed_given number =
    if number == 1 then Some speeds.Low else if number == 2 then Some speeds.Full else if number == 3 then Some speeds.High else None

-- the token that a stage says, whose OUT has this toggle and these bytes
abbrev pub token_given : NzgTransaction → List ℕ → Option Token
token_given t bytes =
    if t.stage == 0 then Some (SetupToken t.setup)
    else if t.stage == 1 then Some InToken
    else if t.stage == 2 then option_map (λ toggle. OutToken toggle bytes) (toggle_given t.toggle)
    else None

-- what a host sends by these numbers, where they have a meaning
abbrev pub sent_given : NzgTransaction → List ℕ → Option Sent
sent_given t bytes = option_map (λ token. record { address = t.address; token = token }) (token_given t bytes)

-- the numbers of what a host sends, but for the bytes of OUT
abbrev pub token_numbers : ℕ → Token → NzgTransaction
token_numbers address (SetupToken bytes) = record { address = address; stage = 0; toggle = 0; setup = bytes }
token_numbers address InToken = record { address = address; stage = 1; toggle = 0; setup = replicate 8 0 }
token_numbers address (OutToken toggle bytes) =
    record { address = address; stage = 2; toggle = toggle_number toggle; setup = replicate 8 0 }

abbrev pub transaction_of : Sent → NzgTransaction
transaction_of sent = token_numbers sent.address sent.token

-- the packet of a reply, where another one stood: what stands after its bytes stays
abbrev pub packet_of : Reply → NzgPacket → NzgPacket
packet_of AckReply old = record old { reply = 0; toggle = 0; length = 0 }
packet_of NakReply old = record old { reply = 1; toggle = 0; length = 0 }
packet_of StallReply old = record old { reply = 2; toggle = 0; length = 0 }
packet_of (DataReply toggle bytes) old =
    record { reply = 3; toggle = toggle_number toggle; length = length bytes; bytes = bytes ++ drop (length bytes) old.bytes }
packet_of NoReply old = record old { reply = 4; toggle = 0; length = 0 }

-- the reply of these numbers, where they have a meaning
abbrev pub reply_given : ℕ → ℕ → List ℕ → Option Reply
reply_given reply toggle bytes =
    if reply == 0 then Some AckReply
    else if reply == 1 then Some NakReply
    else if reply == 2 then Some StallReply
    else if reply == 3 then option_map (λ t. DataReply t bytes) (toggle_given toggle)
    else if reply == 4 then Some NoReply
    else None

-- the reply of a packet, where its numbers have a meaning
abbrev pub packet_given : NzgPacket → Option Reply
packet_given p = if nat_lt 64 p.length then None else reply_given p.reply p.toggle (take p.length p.bytes)
