-- The descriptors of a device that came whole, as a descriptor file or as Linux's file `descriptors` (USB 2.0, 9.4.3 and 9.6).
use Rattle.std.specs.Prelude.{◌≡◌, ⊤, ℕ, ◌+◌, ◌*◌, ◌%◌, ◌||◌, List, [], ◌∷◌, ◌++◌, length, drop, map, filter, find, slice_index, Option, Some, None, option_and_then, unwrap_or}
use Rattle.std.specs.List.{flat_map, range_with_len}
use Rattle.std.specs.Option.{option_map}
use Rattle.usb_capture.specs.declared.asked.Asked.{Asked}
use Rattle.usb_capture.specs.declared.control_transfer.ControlTransfer.{ControlTransfer}
use Rattle.usb_capture.specs.declared.device_file.DeviceFile.{DeviceFile}
use Rattle.usb_capture.specs.declared.device_file.DeviceFile.TheVariants.{File, Dump}
use Rattle.usb_capture.specs.declared.device_file.FileLack.{FileLack}
use Rattle.usb_capture.specs.declared.device_file.FileLack.TheVariants as lacks
use Rattle.usb_capture.specs.Findings.{asked_of, beside, device_names, is_same, names}

-- the last reading of a descriptor, and its bytes
abbrev pub reading_of : List ControlTransfer → Asked → Option ControlTransfer
reading_of kept asked = find (λ t. is_same (asked_of t) asked) kept

abbrev pub data_of : ControlTransfer → List ℕ
data_of t = t.data

abbrev pub part : List ControlTransfer → Asked → Option (List ℕ)
part kept asked = option_map data_of (reading_of kept asked)

-- the bytes of these descriptors one after another, if all of them came
abbrev pub parts : List ControlTransfer → List Asked → Option (List ℕ)
parts kept [] = Some []
parts kept (asked ∷ more) = option_and_then (λ b. option_map (λ rest. b ++ rest) (parts kept more)) (part kept asked)

-- this many configurations, from this wValue on: 0200 of the device, 0700 at the other speed
abbrev pub configurations : Asked → ℕ → ℕ → List Asked
configurations device value count = map (λ i. beside device (value + i)) (range_with_len 0 count)

-- the device descriptor, and the configurations that its bNumConfigurations counts (9.6.1)
abbrev pub dump_parts : Asked → List ℕ → List Asked
dump_parts device descriptor = beside device 256 ∷ configurations device 512 (slice_index descriptor 17)

-- the qualifier, if it came, and the configurations at the other speed that it counts (9.6.2)
abbrev pub other_parts : Asked → Option (List ℕ) → List Asked
other_parts device None = []
other_parts device (Some qualifier) = beside device 1536 ∷ configurations device 1792 (slice_index qualifier 8)

-- the languages of the language list (9.6.7)
abbrev pub codes_in : List ℕ → List ℕ
codes_in [] = []
codes_in (low ∷ []) = []
codes_in (low ∷ high ∷ rest) = (low + 256 * high) ∷ codes_in rest

-- the indices of the strings that these descriptors name, of which the first is the device descriptor
abbrev pub named_by : List ℕ → List ℕ
named_by sets = filter (λ n. device_names n sets || names n sets) (range_with_len 1 255)

-- the language list, and of each language the strings that are named, ascending, where any is; the index is the low byte of wValue
abbrev pub strings_in : Asked → List ℕ → ℕ → List Asked
strings_in device named language = map (λ n. record device { value = 768 + n % 256; index = language }) named

abbrev pub string_parts : Asked → List ℕ → List ℕ → List Asked
string_parts device [] list = []
string_parts device (n ∷ named) list = beside device 768 ∷ flat_map (strings_in device (n ∷ named)) (codes_in (drop 2 list))

-- the parts of both speeds, the strings that they name, and a file of both
abbrev pub set_bytes : List ControlTransfer → Asked → List ℕ → Option (List ℕ)
set_bytes kept device descriptor =
    option_and_then (λ main. option_map (λ other. main ++ other) (parts kept (other_parts device (part kept (beside device 1536))))) (parts kept (dump_parts device descriptor))

abbrev pub string_bytes : List ControlTransfer → Asked → List ℕ → Option (List ℕ)
string_bytes kept device sets = parts kept (string_parts device (named_by sets) (unwrap_or (part kept (beside device 768)) []))

abbrev pub file_bytes : List ControlTransfer → Asked → List ℕ → Option (List ℕ)
file_bytes kept device descriptor = option_and_then (λ sets. option_map (λ strings. sets ++ strings) (string_bytes kept device sets)) (set_bytes kept device descriptor)

-- the device descriptor, of 18 bytes
abbrev pub IsDescriptor : List ControlTransfer → Asked → List ℕ → Type 0
IsDescriptor kept device descriptor = (part kept (beside device 256) ≡ Some descriptor) × (length descriptor ≡ 18)

-- What is made of them: a file, where all parts came, and else what Linux has.
abbrev pub IsMade : List ControlTransfer → Asked → DeviceFile → Type 0
IsMade kept device (File bytes) = (d : List ℕ) × IsDescriptor kept device d × (file_bytes kept device d ≡ Some bytes.items)
IsMade kept device (Dump bytes) = (d : List ℕ) × IsDescriptor kept device d × (file_bytes kept device d ≡ None) × (parts kept (dump_parts device d) ≡ Some bytes.items)

-- Why there is neither: the part that lacks.
abbrev pub IsLack : List ControlTransfer → Asked → FileLack → Type 0
IsLack kept device lacks.Device = (d : List ℕ) → IsDescriptor kept device d → ⊥
IsLack kept device (lacks.Configuration index) = part kept (beside device (512 + index)) ≡ None
IsLack kept device lacks.Memory = ⊤
