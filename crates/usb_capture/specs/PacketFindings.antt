-- What chapter 8 of USB 2.0 forbids, in packets and in transactions with endpoint zero.
use Rattle.std.specs.Prelude.{ℕ, ◌==◌, ◌&&◌, ◌||◌, nat_le, nat_lt, Bool, true, false, not, List, Option, Some, None, is_some, Result, Ok, Err}
use Rattle.usb_fields.specs.declared.setup.Direction.{Direction}
use Rattle.usb_fields.specs.declared.setup.Direction.TheVariants.{In, Out}
use Rattle.usb_fields.specs.declared.setup.Setup.{Setup}
use Rattle.usb_wire.specs.declared.packet.Packet.{Packet}
use Rattle.usb_wire.specs.declared.pid.Handshake.{Handshake}
use Rattle.usb_wire.specs.declared.pid.Handshake.TheVariants as handshakes
use Rattle.usb_wire.specs.declared.pid.TokenKind.{TokenKind}
use Rattle.usb_wire.specs.declared.pid.TokenKind.TheVariants as tokens
use Rattle.usb_capture.specs.declared.bus_packet.PacketFault.{PacketFault}
use Rattle.usb_capture.specs.declared.bus_packet.PacketFault.TheVariants as faults
use Rattle.usb_capture.specs.declared.control_transfer.ControlTransfer.{ControlTransfer}
use Rattle.usb_capture.specs.declared.data_toggle.DataToggle.{DataToggle}
use Rattle.usb_capture.specs.declared.data_toggle.Part.{Part}
use Rattle.usb_capture.specs.declared.data_toggle.Part.TheVariants.{Data, Status}
use Rattle.usb_capture.specs.declared.ending.Ending.TheVariants.{Done}
use Rattle.usb_capture.specs.declared.packet_finding.PacketFinding.{PacketFinding}
use Rattle.usb_capture.specs.declared.packet_finding.PacketFinding.TheVariants.{Damaged, NoHandshake, NoRequest, SetupRefused, Toggle, Long, NoShortPacket, StatusDirection}
use Rattle.usb_capture.specs.declared.transaction.Transaction.{Transaction}
use Rattle.usb_capture.specs.BusTransfers.{Pipes, data_direction, is_wrong_in, part_in, pipes_in, request_of, toggle_at, transfers_in}
use Rattle.usb_capture.specs.PacketSizes.{is_long, size_at, sizes_in}
use Rattle.usb_capture.specs.Transfers.{open_with}

-- A packet is damaged (8.3.1, 8.3.5, 8.4).
abbrev pub damage_in : Result Packet PacketFault → Option PacketFinding
damage_in (Ok packet) = None
damage_in (Err faults.Link) = None
damage_in (Err faults.Cut) = None
damage_in (Err (faults.Damaged damage)) = Some (Damaged damage)

-- Each transaction ends with a handshake (8.5).
abbrev pub lacks_handshake : Transaction → Bool
lacks_handshake transaction = not (is_some transaction.handshake)

-- After SETUP come eight bytes of DATA0 (8.5.3), and the device may answer neither NAK nor STALL (8.4.6.4).
abbrev pub is_setup : TokenKind → Bool
is_setup tokens.Setup = true
is_setup tokens.Out = false
is_setup tokens.In = false
is_setup tokens.Ping = false

abbrev pub lacks_request : Transaction → Bool
lacks_request transaction = is_setup transaction.token && not (is_some (request_of transaction))

abbrev pub is_refusal : Option Handshake → Bool
is_refusal (Some handshakes.Ack) = false
is_refusal (Some handshakes.Nak) = true
is_refusal (Some handshakes.Stall) = true
is_refusal (Some handshakes.Nyet) = true
is_refusal None = false

abbrev pub refuses_setup : Transaction → Bool
refuses_setup transaction = is_setup transaction.token && is_refusal transaction.handshake

-- The toggle is wrong in the transfer of the address (8.5.3, 8.6).
abbrev pub is_wrong_at : Option Setup → Option ControlTransfer → Transaction → Pipes → Bool
is_wrong_at (Some request) transfer transaction pipes = false
is_wrong_at None None transaction pipes = false
is_wrong_at None (Some transfer) transaction pipes = is_wrong_in (data_direction transfer.setup) (toggle_at transaction.to.address pipes) transaction

abbrev pub has_wrong_toggle : Transaction → Pipes → Bool
has_wrong_toggle transaction pipes = is_wrong_at (request_of transaction) (open_with transaction.to.address pipes.held) transaction pipes

-- The status stage comes before the data stage is complete: fewer bytes came from the device than were asked for, and the last
-- packet is a whole one, after which a shorter or an empty one has to come (5.5.3, 8.5.3.2).
abbrev pub is_done_part : Part → Bool
is_done_part (Status Done) = true
is_done_part part = false

abbrev pub is_reading_data : Direction → Bool
is_reading_data In = true
is_reading_data Out = false

abbrev pub is_early_in : ControlTransfer → DataToggle → ℕ → Transaction → Bool
is_early_in transfer toggle size transaction =
    is_reading_data (data_direction transfer.setup) && nat_lt transfer.length transfer.setup.length && not (size == 0) && nat_le size toggle.last
    && is_done_part (part_in (data_direction transfer.setup) toggle transaction)

abbrev pub is_early_at : Option Setup → Option ControlTransfer → ℕ → Transaction → Pipes → Bool
is_early_at (Some request) transfer size transaction pipes = false
is_early_at None None size transaction pipes = false
is_early_at None (Some transfer) size transaction pipes = is_early_in transfer (toggle_at transaction.to.address pipes) size transaction

abbrev pub is_early : ℕ → Transaction → Pipes → Bool
is_early size transaction pipes = is_early_at (request_of transaction) (open_with transaction.to.address pipes.held) size transaction pipes

-- The status stage goes the way of the data stage, and not back (8.5.3): one more packet of it is the next one, though all bytes
-- went that were asked for, or the last packet from the device was shorter than a whole one, which ends a data stage (5.5.3).
abbrev pub is_data_part : Part → Bool
is_data_part Data = true
is_data_part part = false

abbrev pub is_complete_in : ControlTransfer → DataToggle → ℕ → Bool
is_complete_in transfer toggle size =
    nat_le transfer.setup.length transfer.length
    || (is_reading_data (data_direction transfer.setup) && nat_lt 0 transfer.length && nat_lt toggle.last size)

abbrev pub is_misdirected_in : ControlTransfer → DataToggle → ℕ → Transaction → Bool
is_misdirected_in transfer toggle size transaction =
    is_complete_in transfer toggle size && is_data_part (part_in (data_direction transfer.setup) toggle transaction)

abbrev pub is_misdirected_at : Option Setup → Option ControlTransfer → ℕ → Transaction → Pipes → Bool
is_misdirected_at (Some request) transfer size transaction pipes = false
is_misdirected_at None None size transaction pipes = false
is_misdirected_at None (Some transfer) size transaction pipes = is_misdirected_in transfer (toggle_at transaction.to.address pipes) size transaction

abbrev pub is_misdirected : ℕ → Transaction → Pipes → Bool
is_misdirected size transaction pipes =
    is_misdirected_at (request_of transaction) (open_with transaction.to.address pipes.held) size transaction pipes

-- whether this is wrong in a transaction, with these open transfers and these sizes
abbrev pub is_found_at : PacketFinding → Pipes → List ℕ → Transaction → Bool
is_found_at (Damaged damage) pipes sizes transaction = false
is_found_at NoHandshake pipes sizes transaction = lacks_handshake transaction
is_found_at NoRequest pipes sizes transaction = lacks_request transaction
is_found_at SetupRefused pipes sizes transaction = refuses_setup transaction
is_found_at Toggle pipes sizes transaction = has_wrong_toggle transaction pipes
is_found_at Long pipes sizes transaction = is_long sizes transaction
is_found_at NoShortPacket pipes sizes transaction = is_early (size_at transaction.to.address sizes) transaction pipes
is_found_at StatusDirection pipes sizes transaction = is_misdirected (size_at transaction.to.address sizes) transaction pipes

-- the same of one that comes after these transactions
abbrev pub is_found : PacketFinding → List Transaction → Transaction → Bool
is_found finding before transaction = is_found_at finding (pipes_in before) (sizes_in (transfers_in before)) transaction
