-- bMaxPacketSize0 of devices (USB 2.0, 9.6.1), and what is longer.
use Rattle.std.specs.Prelude.{ℕ, ◌/◌, ◌%◌, ◌==◌, ◌&&◌, Bool, false, not, List, [], ◌∷◌, length, nat_lt, replicate, slice_index, slice_index_or, slice_set, Option, Some, if◌then◌else◌}
use Rattle.usb_wire.specs.declared.pid.TokenKind.{TokenKind}
use Rattle.usb_wire.specs.declared.pid.TokenKind.TheVariants as tokens
use Rattle.usb_capture.specs.declared.control_transfer.ControlTransfer.{ControlTransfer}
use Rattle.usb_capture.specs.declared.transaction.DataPacket.{DataPacket}
use Rattle.usb_capture.specs.declared.transaction.Transaction.{Transaction}
use Rattle.usb_capture.specs.Readings.{is_done, is_reading}

-- bMaxPacketSize0 of each address, as device descriptors said it, or 0 where it isn't known: SET_ADDRESS brings another device.
unfoldable pub no_sizes : List ℕ
no_sizes = replicate 256 0

abbrev pub says_size : ControlTransfer → Bool
says_size transfer = is_reading transfer && transfer.setup.value / 256 == 1

abbrev pub gives_address : ControlTransfer → Bool
gives_address transfer = transfer.setup.request_type == 0 && transfer.setup.request == 5 && is_done transfer.ending

abbrev pub sizes_with : ControlTransfer → List ℕ → List ℕ
sizes_with transfer sizes =
    if says_size transfer then slice_set sizes (transfer.device % 256) (slice_index transfer.data 7)
    else if gives_address transfer then slice_set sizes (transfer.setup.value % 256) 0
    else sizes

abbrev pub sizes_after : List ℕ → List ControlTransfer → List ℕ
sizes_after sizes [] = sizes
sizes_after sizes (transfer ∷ transfers) = sizes_after (sizes_with transfer sizes) transfers

abbrev pub sizes_in : List ControlTransfer → List ℕ
sizes_in transfers = sizes_after no_sizes transfers

-- At address 0 one device comes after another, so that none is known there.
abbrev pub size_at : ℕ → List ℕ → ℕ
size_at address sizes = if address == 0 then 0 else slice_index_or sizes address 0

abbrev pub is_longer : TokenKind → Option DataPacket → ℕ → Bool
is_longer tokens.Out (Some packet) size = not (size == 0) && nat_lt size (length packet.bytes)
is_longer tokens.In (Some packet) size = not (size == 0) && nat_lt size (length packet.bytes)
is_longer token packet size = false

abbrev pub is_long : List ℕ → Transaction → Bool
is_long sizes transaction = is_longer transaction.token transaction.data (size_at transaction.to.address sizes)
