-- Whole readings of the descriptors of the devices that have their addresses now (USB 2.0, 9.4.3 and 9.4.6).
use Rattle.std.specs.Prelude.{◌≡◌, ◌==◌, ◌&&◌, ◌||◌, Bool, not, List, [], ◌∷◌, length, filter}
use Rattle.std.specs.List.{list_any}
use Rattle.usb_capture.specs.declared.control_transfer.ControlTransfer.{ControlTransfer}
use Rattle.usb_capture.specs.declared.device_readings.DeviceReadings.{DeviceReadings}
use Rattle.usb_capture.specs.Findings.{differ, sets_address}
use Rattle.usb_capture.specs.Readings.{is_again, is_reading, kept_with}

-- SET_ADDRESS of the address from which an earlier reading came
abbrev pub gives_address : ControlTransfer → ControlTransfer → Bool
gives_address t old = sets_address t.setup && t.bus == old.bus && t.setup.value == old.device

-- a reading of the device descriptor, of other bytes than those that were kept of it from this address
abbrev pub is_other_descriptor : ControlTransfer → ControlTransfer → Bool
is_other_descriptor t old = is_again t old && (not (length t.data == length old.data) || differ t.data old.data)

abbrev pub reads_device : ControlTransfer → Bool
reads_device t = is_reading t && t.setup.value == 256

abbrev pub is_other_device : ControlTransfer → List ControlTransfer → Bool
is_other_device t kept = reads_device t && list_any (is_other_descriptor t) kept

-- what is another device's, or its who had the address before, from a transfer on
abbrev pub is_past : Bool → ControlTransfer → ControlTransfer → Bool
is_past is_other t old = gives_address t old || (is_other && t.bus == old.bus && t.device == old.device)

abbrev pub current_with : ControlTransfer → List ControlTransfer → List ControlTransfer
current_with t kept = kept_with t (filter (λ old. not (is_past (is_other_device t kept) t old)) kept)

abbrev pub current_after : List ControlTransfer → List ControlTransfer → List ControlTransfer
current_after kept [] = kept
current_after kept (t ∷ transfers) = current_after (current_with t kept) transfers

-- who has taken these transfers
abbrev pub HasCurrent : List ControlTransfer → DeviceReadings → Type 0
HasCurrent transfers readings = readings.readings.kept.items ≡ current_after [] transfers
