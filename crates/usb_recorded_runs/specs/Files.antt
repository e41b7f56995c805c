-- The descriptor file that a recording of an enumeration gives, beside the description of the device (USB 2.0, 9.4.3 and 9.6).
use Rattle.std.specs.Prelude.{◌≡◌, ◌⊎◌, ◌++◌, ℕ, Bool, true, List, Some, None, is_some}
use Rattle.usb_fields.specs.Device.{device_bytes}
use Rattle.usb_file_data.specs.declared.file.DescriptorFile.{DescriptorFile}
use Rattle.usb_file_data.specs.File.{file_bytes, sets_bytes}
use Rattle.usb_host.specs.declared.choice.Choice.{Choice}
use Rattle.usb_host.specs.declared.choice.NamedStrings.TheVariants.{Needed}
use Rattle.usb_bus.specs.Asked.{asked_of}
use Rattle.usb_capture.specs.declared.asked.Asked.{Asked}
use Rattle.usb_capture.specs.declared.control_transfer.ControlTransfer.{ControlTransfer}
use Rattle.usb_capture.specs.declared.device_file.DeviceFile.{DeviceFile}
use Rattle.usb_capture.specs.declared.device_file.DeviceFile.TheVariants.{File, Dump}
use Rattle.usb_capture.specs.DeviceFiles as made
use Rattle.usb_capture.specs.DeviceFiles.{IsDescriptor, dump_parts, part, parts}
use Rattle.usb_capture.specs.Findings.{beside}

-- all of a file, with the other speed or without it
abbrev pub all_with : Bool → Choice
all_with other_speed = record { strings = Needed; other_speed = other_speed }

-- whether the device's qualifier came (9.6.2)
abbrev pub has_qualifier : List ControlTransfer → Asked → Bool
has_qualifier kept device = is_some (part kept (beside device 1536))

-- It is the description's own file, byte for byte, where a qualifier came or the description has none. Where none came it is the
-- file without the other speed, with the strings that are named then. A dump is the device descriptor and its configurations.
abbrev pub IsOfDescription : DescriptorFile → List ControlTransfer → Asked → DeviceFile → Type 0
IsOfDescription f kept device (File bytes) =
    (bytes.items ≡ file_bytes (asked_of (all_with (has_qualifier kept device)) f))
    × ((has_qualifier kept device ≡ true) ⊎ (f.other ≡ None) → bytes.items ≡ file_bytes f)
IsOfDescription f kept device (Dump bytes) = bytes.items ≡ device_bytes f.device ++ sets_bytes f.sets

-- the device that has this address
abbrev pub at_address : ℕ → Asked
at_address address = record { bus = 0; device = address; value = 256; index = 0 }

-- All parts of a file of the device are kept, and these are its bytes.
abbrev pub GivesFile : List ControlTransfer → Asked → List ℕ → Type 0
GivesFile kept device bytes = (d : List ℕ) × IsDescriptor kept device d × (made.file_bytes kept device d ≡ Some bytes)

-- The device descriptor and the configurations that it counts are kept, and these are their bytes.
abbrev pub GivesDump : List ControlTransfer → Asked → List ℕ → Type 0
GivesDump kept device bytes = (d : List ℕ) × IsDescriptor kept device d × (parts kept (dump_parts device d) ≡ Some bytes)
