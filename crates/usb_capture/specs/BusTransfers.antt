-- Control transfers (USB 2.0, 8.5.3 and 8.6), of the transactions with devices' endpoint zero.
use Rattle.std.specs.Prelude.{◌≡◌, ◌≢◌, ◌⊎◌, ℕ, ◌+◌, ◌==◌, ◌&&◌, Bool, true, false, not, List, [], ◌∷◌, ◌++◌, length, min, nat_le, replicate, slice_index_or, slice_set, Option, Some, None, if◌then◌else◌}
use Rattle.usb_fields.specs.declared.packet.Toggle.{Toggle}
use Rattle.usb_fields.specs.declared.packet.Toggle.TheVariants as toggles
use Rattle.usb_fields.specs.declared.setup.Direction.{Direction}
use Rattle.usb_fields.specs.declared.setup.Direction.TheVariants as directions
use Rattle.usb_fields.specs.declared.setup.Setup.{Setup}
use Rattle.usb_fields.specs.Packets.{flipped}
use Rattle.usb_fields.specs.Setup.{direction_of}
use Rattle.usb_wire.specs.declared.pid.DataKind.{DataKind}
use Rattle.usb_wire.specs.declared.pid.DataKind.TheVariants as datas
use Rattle.usb_wire.specs.declared.pid.Handshake.{Handshake}
use Rattle.usb_wire.specs.declared.pid.Handshake.TheVariants as handshakes
use Rattle.usb_wire.specs.declared.pid.TokenKind.{TokenKind}
use Rattle.usb_wire.specs.declared.pid.TokenKind.TheVariants as tokens
use Rattle.usb_capture.specs.declared.bus_transfers.BusTransfers.{BusTransfers}
use Rattle.usb_capture.specs.declared.control_pipes.ControlPipes.{ControlPipes}
use Rattle.usb_capture.specs.declared.control_transfer.ControlTransfer.{ControlTransfer}
use Rattle.usb_capture.specs.declared.data_toggle.DataToggle.{DataToggle}
use Rattle.usb_capture.specs.declared.data_toggle.Part.{Part}
use Rattle.usb_capture.specs.declared.data_toggle.Part.TheVariants.{Data, Status, Neither}
use Rattle.usb_capture.specs.declared.ending.Ending.{Ending}
use Rattle.usb_capture.specs.declared.ending.Ending.TheVariants.{Unseen, Done, Stall}
use Rattle.usb_capture.specs.declared.open_transfer.OpenTransfer.{OpenTransfer}
use Rattle.usb_capture.specs.declared.transaction.DataPacket.{DataPacket}
use Rattle.usb_capture.specs.declared.transaction.Transaction.{Transaction}
use Rattle.usb_capture.specs.Events.{setup_at}
use Rattle.usb_capture.specs.Folds.{after_all, given_in}
use Rattle.usb_capture.specs.PacketSizes.{sizes_in}
use Rattle.usb_capture.specs.Transfers.{open_with, opened, without}

-- Which way data go in a transfer: from the device if bit 7 of bmRequestType says so and there are any to come (9.3).
abbrev pub data_direction : Setup → Direction
data_direction setup = if setup.length == 0 then directions.Out else direction_of setup.request_type

-- DATA0 and DATA1
abbrev pub has_toggle : DataKind → Toggle → Bool
has_toggle datas.Data0 toggles.Data0 = true
has_toggle datas.Data1 toggles.Data1 = true
has_toggle kind toggle = false

-- ACK; ACK, or NYET of a device that has no room for more (8.5.1); STALL
abbrev pub is_acknowledged : Option Handshake → Bool
is_acknowledged (Some handshakes.Ack) = true
is_acknowledged other = false

abbrev pub is_accepted : Option Handshake → Bool
is_accepted (Some handshakes.Ack) = true
is_accepted (Some handshakes.Nyet) = true
is_accepted other = false

abbrev pub is_stalled : Option Handshake → Bool
is_stalled (Some handshakes.Stall) = true
is_stalled other = false

-- A transfer begins with a SETUP and eight bytes of DATA0.
abbrev pub setup_in : DataPacket → Option Setup
setup_in packet = if has_toggle packet.kind toggles.Data0 && length packet.bytes == 8 then Some (setup_at packet.bytes 0) else None

abbrev pub request_by : TokenKind → Option DataPacket → Option Setup
request_by tokens.Setup (Some packet) = setup_in packet
request_by token packet = None

abbrev pub request_of : Transaction → Option Setup
request_of transaction = request_by transaction.token transaction.data

-- Its data stage begins with DATA1, and toggles alternate. A packet from the device is the next one if it has the next toggle,
-- and a packet to the device if this has also accepted it. The status stage goes the other way, with DATA1. STALL ends a transfer.
abbrev pub first_toggle : DataToggle
first_toggle = record { next = toggles.Data1; may_repeat = false; last = 0 }

abbrev pub part_by : Direction → TokenKind → (is_next is_data1 accepted : Bool) → Part
part_by directions.In tokens.In is_next is_data1 accepted = if is_next then Data else Neither
part_by directions.Out tokens.Out is_next is_data1 accepted = if is_next && accepted then Data else Neither
part_by directions.In tokens.Out is_next is_data1 accepted = if is_data1 && accepted then Status Done else Neither
part_by directions.Out tokens.In is_next is_data1 accepted = if is_data1 then Status Done else Neither
part_by direction tokens.Setup is_next is_data1 accepted = Neither
part_by direction tokens.Ping is_next is_data1 accepted = Neither

abbrev pub part_with : Direction → DataToggle → TokenKind → Option DataPacket → Bool → Part
part_with direction toggle token (Some packet) accepted =
    part_by direction token (has_toggle packet.kind toggle.next) (has_toggle packet.kind toggles.Data1) accepted
part_with direction toggle token None accepted = Neither

abbrev pub part_in : Direction → DataToggle → Transaction → Part
part_in direction toggle transaction =
    if is_stalled transaction.handshake then Status Stall
    else part_with direction toggle transaction.token transaction.data (is_accepted transaction.handshake)

-- A packet from the device that went without an ACK may come again (8.6.4).
abbrev pub next_after : Part → Toggle → Toggle
next_after Data next = flipped next
next_after (Status ending) next = next
next_after Neither next = next

abbrev pub repeats_after : Option DataPacket → Option Handshake → Bool → Bool
repeats_after (Some packet) handshake may_repeat = not (is_acknowledged handshake)
repeats_after None handshake may_repeat = may_repeat

-- how many bytes the last packet of the data stage had
abbrev pub last_after : Part → Option DataPacket → ℕ → ℕ
last_after Data (Some packet) last = length packet.bytes
last_after Data None last = last
last_after (Status ending) packet last = last
last_after Neither packet last = last

abbrev pub toggle_after : Part → Transaction → DataToggle → DataToggle
toggle_after part transaction toggle = record {
  next = next_after part toggle.next;
  may_repeat = repeats_after transaction.data transaction.handshake toggle.may_repeat;
  last = last_after part transaction.data toggle.last;
}

-- Any other toggle is wrong.
abbrev pub is_wrong_by : Direction → TokenKind → (is_next is_data1 may_repeat : Bool) → Bool
is_wrong_by directions.In tokens.In is_next is_data1 may_repeat = not is_next && not may_repeat
is_wrong_by directions.Out tokens.Out is_next is_data1 may_repeat = not is_next
is_wrong_by directions.In tokens.Out is_next is_data1 may_repeat = not is_data1
is_wrong_by directions.Out tokens.In is_next is_data1 may_repeat = not is_data1
is_wrong_by direction tokens.Setup is_next is_data1 may_repeat = false
is_wrong_by direction tokens.Ping is_next is_data1 may_repeat = false

abbrev pub is_wrong_with : Direction → DataToggle → TokenKind → Option DataPacket → Bool
is_wrong_with direction toggle token (Some packet) =
    is_wrong_by direction token (has_toggle packet.kind toggle.next) (has_toggle packet.kind toggles.Data1) toggle.may_repeat
is_wrong_with direction toggle token None = false

abbrev pub is_wrong_in : Direction → DataToggle → Transaction → Bool
is_wrong_in direction toggle transaction = is_wrong_with direction toggle transaction.token transaction.data

-- What is known of a transfer. It keeps as many bytes as a data stage can have (9.3.5), and counts them all.
abbrev pub begun_by : Transaction → Setup → ControlTransfer
begun_by transaction setup = record {
  bus = 0;
  device = transaction.to.address;
  begun = transaction.time;
  setup = setup;
  «data» = [];
  length = 0;
  is_cut = false;
  ended = None;
  ending = Unseen;
}

abbrev pub with_bytes : List ℕ → ControlTransfer → ControlTransfer
with_bytes bytes transfer =
    let counted = record transfer { length = min (transfer.length + length bytes) 4294967295 } in
    if nat_le (length transfer.data + length bytes) 65535 then record counted { «data» = transfer.data ++ bytes } else record counted { is_cut = true }

abbrev pub with_packet : Option DataPacket → ControlTransfer → ControlTransfer
with_packet (Some packet) transfer = with_bytes packet.bytes transfer
with_packet None transfer = transfer

abbrev pub ended_so : Transaction → Ending → ControlTransfer → ControlTransfer
ended_so transaction ending transfer = record transfer { ended = transaction.time; ending = ending }

-- The open transfers, of each address at most one, and for each address the next packet of its data stage.
pub record Pipes : Type 0 where
  pub held : List OpenTransfer
  pub toggles : List DataToggle

abbrev pub pipes_of : ControlPipes → Pipes
pipes_of pipes = record { held = pipes.held.held.items; toggles = pipes.toggles }

unfoldable pub first_toggles : List DataToggle
first_toggles = replicate 256 first_toggle

abbrev pub none_open : Pipes
none_open = record { held = []; toggles = first_toggles }

abbrev pub toggle_at : ℕ → Pipes → DataToggle
toggle_at address pipes = slice_index_or pipes.toggles address first_toggle

-- the transfer of an address taken out, and held again
abbrev pub closed : ℕ → Pipes → Pipes
closed address pipes = record pipes { held = without address pipes.held }

abbrev pub with_open : ℕ → ControlTransfer → DataToggle → Pipes → Pipes
with_open address transfer toggle pipes = record {
  held = pipes.held ++ opened address transfer ∷ [];
  toggles = slice_set pipes.toggles address toggle;
}

-- what a transaction is in the transfer of its address
abbrev pub part_at : Transaction → ControlTransfer → Pipes → Part
part_at transaction transfer pipes = part_in (data_direction transfer.setup) (toggle_at transaction.to.address pipes) transaction

-- A transfer goes on, which was taken out.
abbrev pub pipes_with : Part → Transaction → ControlTransfer → DataToggle → Pipes → Pipes
pipes_with Data transaction transfer toggle pipes = with_open transaction.to.address (with_packet transaction.data transfer) toggle pipes
pipes_with Neither transaction transfer toggle pipes = with_open transaction.to.address transfer toggle pipes
pipes_with (Status ending) transaction transfer toggle pipes = record pipes { toggles = slice_set pipes.toggles transaction.to.address toggle }

abbrev pub gone_on : Transaction → ControlTransfer → Pipes → Pipes
gone_on transaction transfer pipes =
    let part = part_at transaction transfer pipes in
    pipes_with part transaction transfer (toggle_after part transaction (toggle_at transaction.to.address pipes)) pipes

abbrev pub pipes_by : Option Setup → Option ControlTransfer → Transaction → Pipes → Pipes
pipes_by (Some setup) transfer transaction pipes = with_open transaction.to.address (begun_by transaction setup) first_toggle pipes
pipes_by None None transaction pipes = pipes
pipes_by None (Some transfer) transaction pipes = gone_on transaction transfer pipes

abbrev pub pipes_after : Transaction → Pipes → Pipes
pipes_after transaction pipes =
    pipes_by (request_of transaction) (open_with transaction.to.address pipes.held) transaction (closed transaction.to.address pipes)

-- the transfer that is over with a transaction: one that it ends, or one whose end wasn't seen before the next SETUP
abbrev pub over_with_part : Part → Transaction → ControlTransfer → Option ControlTransfer
over_with_part (Status ending) transaction transfer = Some (ended_so transaction ending transfer)
over_with_part Data transaction transfer = None
over_with_part Neither transaction transfer = None

abbrev pub over_by : Option Setup → Option ControlTransfer → Transaction → Pipes → Option ControlTransfer
over_by (Some setup) transfer transaction pipes = transfer
over_by None None transaction pipes = None
over_by None (Some transfer) transaction pipes = over_with_part (part_at transaction transfer pipes) transaction transfer

abbrev pub transfer_over : Transaction → Pipes → Option ControlTransfer
transfer_over transaction pipes = over_by (request_of transaction) (open_with transaction.to.address pipes.held) transaction pipes

-- A transfer of one address that goes on: what is known of it, and which packet of its data stage is the next.
pub record Going : Type 0 where
  pub transfer : ControlTransfer
  pub toggle : DataToggle

abbrev pub going_from : Transaction → Setup → Going
going_from transaction setup = record { transfer = begun_by transaction setup; toggle = first_toggle }

abbrev pub part_of : Going → Transaction → Part
part_of going transaction = part_in (data_direction going.transfer.setup) going.toggle transaction

abbrev pub going_by : Part → Transaction → Going → Going
going_by Data transaction going = record {
  transfer = with_packet transaction.data going.transfer;
  toggle = toggle_after Data transaction going.toggle;
}
going_by Neither transaction going = record { transfer = going.transfer; toggle = toggle_after Neither transaction going.toggle }
going_by (Status ending) transaction going = going

abbrev pub is_status : Part → Bool
is_status (Status ending) = true
is_status Data = false
is_status Neither = false

-- Each of these transactions is of another address, or one of its data stage, after which it goes on so.
abbrev pub Goes : ℕ → Going → List Transaction → Going → Type 0
Goes address before [] after = after ≡ before
Goes address before (transaction ∷ transactions) after =
    ((transaction.to.address ≢ address) × Goes address before transactions after)
    ⊎ ((transaction.to.address ≡ address) × (request_of transaction ≡ None) × (is_status (part_of before transaction) ≡ false)
    × Goes address (going_by (part_of before transaction) transaction before) transactions after)

-- the open transfers after these transactions, and those that are over
abbrev pub pipes_in : List Transaction → Pipes
pipes_in transactions = after_all pipes_after transfer_over none_open transactions

abbrev pub transfers_in : List Transaction → List ControlTransfer
transfers_in transactions = given_in pipes_after transfer_over none_open transactions

-- who has taken these transactions and given these transfers
abbrev pub HasMade : List Transaction → List ControlTransfer → BusTransfers → Type 0
HasMade transactions transfers bus =
    (pipes_of bus.pipes ≡ pipes_in transactions) × (transfers ≡ transfers_in transactions) × (bus.sizes.sizes ≡ sizes_in transfers)
