-- Whole readings of devices' descriptors (USB 2.0, 9.4.3 and 9.6).
use Rattle.std.specs.Prelude.{◌≡◌, ℕ, ◌/◌, ◌==◌, ◌&&◌, ◌||◌, Bool, true, false, not, List, [], ◌∷◌, ◌++◌, length, filter, slice_index, nat_lt, if◌then◌else◌}
use Rattle.usb_fields.specs.Bytes.{little_endian_at}
use Rattle.usb_fields.specs.declared.setup.Setup.{Setup}
use Rattle.usb_capture.specs.declared.control_transfer.ControlTransfer.{ControlTransfer}
use Rattle.usb_capture.specs.declared.ending.Ending.{Ending}
use Rattle.usb_capture.specs.declared.ending.Ending.TheVariants.{Unseen, Done, Stall, Failed, Refused}
use Rattle.usb_capture.specs.declared.readings.Readings.{Readings}

-- GET_DESCRIPTOR of a device: bmRequestType 10000000B, bRequest 6
abbrev pub reads_descriptor : Setup → Bool
reads_descriptor setup = setup.request_type == 128 && setup.request == 6

-- how many bytes the descriptor has that begins so: a configuration, and one at the other speed, says in wTotalLength how
-- many it has with all that belongs to it, another descriptor in bLength how many it has
abbrev pub full_length : ℕ → List ℕ → ℕ
full_length type b = if type == 2 || type == 7 then little_endian_at b 2 else slice_index b 0

-- which byte completes what a descriptor says of its type and length: bDescriptorType, or of a configuration that of wTotalLength
abbrev pub last_of_length : ℕ → ℕ
last_of_length type = if type == 2 || type == 7 then 3 else 1

-- all of a descriptor of this type
abbrev pub is_whole : ℕ → List ℕ → Bool
is_whole type b = nat_lt (last_of_length type) (length b) && slice_index b 1 == type && length b == full_length type b

abbrev pub is_done : Ending → Bool
is_done Unseen = false
is_done Done = true
is_done Stall = false
is_done (Failed status) = false
is_done (Refused status) = false

-- a transfer by which all of a descriptor came, of the type that the high byte of wValue asks for
abbrev pub is_reading : ControlTransfer → Bool
is_reading transfer =
    reads_descriptor transfer.setup && is_done transfer.ending && not transfer.is_cut && is_whole (transfer.setup.value / 256) transfer.data

-- of the same descriptor of the same device: type and index in wValue, a string's language in wIndex
abbrev pub is_again : ControlTransfer → ControlTransfer → Bool
is_again new old = old.bus == new.bus && old.device == new.device && old.setup.value == new.setup.value && old.setup.index == new.setup.index

abbrev pub without_again : ControlTransfer → List ControlTransfer → List ControlTransfer
without_again new kept = filter (λ old. not (is_again new old)) kept

-- the last reading of each, in order of time
abbrev pub kept_with : ControlTransfer → List ControlTransfer → List ControlTransfer
kept_with transfer kept = if is_reading transfer then without_again transfer kept ++ transfer ∷ [] else kept

abbrev pub kept_after : List ControlTransfer → List ControlTransfer → List ControlTransfer
kept_after kept [] = kept
kept_after kept (transfer ∷ transfers) = kept_after (kept_with transfer kept) transfers

-- who has taken these transfers
abbrev pub HasRead : List ControlTransfer → Readings → Type 0
HasRead transfers readings = readings.kept.items ≡ kept_after [] transfers
