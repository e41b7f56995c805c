-- What bytes that are no input look like.
use Rattle.std.specs.Prelude.{◌≡◌, ℕ, zero, suc, ◌+◌, ◌%◌, List, [], ◌∷◌, length, take, drop, slice_index, Bool, true, false, not, nat_le, ◌==◌, ◌&&◌, ◌||◌, ◌⊎◌, Option, Some, None, if◌then◌else◌}
use Rattle.std.specs.List.{list_all}
use Rattle.usb_fields.specs.Bytes.{AreBytes, little_endian_at}
use Rattle.usb_file_data.specs.declared.file.DescriptorFile.{DescriptorFile}
use Rattle.usb_file_data.specs.declared.fault.FileFault.{FileFault}
use Rattle.usb_file_data.specs.declared.fault.FileWhy.{FileWhy}
use Rattle.usb_file_data.specs.declared.fault.FileWhy.TheVariants as files
use Rattle.usb_file_data.specs.declared.fault.InputFault.{InputFault}
use Rattle.usb_file_data.specs.declared.fault.InputFault.TheVariants as faults
use Rattle.usb_file_data.specs.declared.likeness.Likeness.{Likeness}
use Rattle.usb_file_data.specs.declared.likeness.Likeness.TheVariants as likes
use Rattle.usb_file_data.specs.File.{File}
use Rattle.usb_file_data.specs.Inputs.{Dump}
use Rattle.usb_file_data.specs.FileFaults.{FileFaulty}

-- a byte of text: printable ASCII, a tab, a line feed or a carriage return
abbrev pub is_of_text : ℕ → Bool
is_of_text byte = (nat_le 0x20 byte && nat_le byte 0x7e) || (byte == 9) || (byte == 10) || (byte == 13)

-- text has two bytes or more
abbrev pub is_text : List ℕ → Bool
is_text b = nat_le 2 (length b) && list_all is_of_text b

-- the bytes after this many sets, each as long as its wTotalLength says (USB 2.0, 9.6.3)
unfoldable pub after_sets : ℕ → List ℕ → List ℕ
after_sets zero b = b
after_sets (suc n) b = let rest = after_sets n b in drop (little_endian_at rest 2) rest

-- the bytes begin with a string descriptor without units (USB 2.0, 9.6.7)
abbrev pub is_empty_string : List ℕ → Bool
is_empty_string b = (slice_index b 0 == 2) && (slice_index b 1 == 3)

-- Bytes go on after a dump: no string descriptor is at the place of the fault, where the sets end that bNumConfigurations
-- of the device counts (USB 2.0, 9.6.1). So the language list came next there. A wrong qualifier is always right after those sets.
abbrev pub goes_on_after_dump : FileWhy → ℕ → List ℕ → Bool
goes_on_after_dump files.Text at b =
    (length (drop at b) == length (after_sets (slice_index b 17) (drop 18 b))) && not (is_empty_string (drop at b))
goes_on_after_dump files.Qualifier at b = true
goes_on_after_dump why at b = false

-- a BOS descriptor is of type 15 and has 5 bytes (USB 3.2, 9.6.2)
abbrev pub is_bos : List ℕ → Bool
is_bos b = (slice_index b 1 == 15) && (slice_index b 0 == 5) && nat_le 5 (length b)

-- The upper byte of a unit is that of a language's number: bits 9 to 0 of it are a primary language, which in USB's list is below
-- 256, and bits 15 to 10 a sublanguage, which isn't 0 (Language Identifiers 1.0).
abbrev pub is_of_language : ℕ → Bool
is_of_language high = (high % 4 == 0) && nat_le 4 high

-- the units of bytes may all be numbers of languages
abbrev pub are_languages : List ℕ → Bool
are_languages [] = true
are_languages (low ∷ []) = false
are_languages (low ∷ high ∷ rest) = is_of_language high && are_languages rest

-- a string descriptor may be a language list, which names one language at least (USB 2.0, 9.6.7)
abbrev pub names_languages : List ℕ → Bool
names_languages b = nat_le 4 (length b) && are_languages (drop 2 b)

-- a string descriptor is of type 3 and has an even number of bytes; it is a string where it names no languages (USB 2.0, 9.6.7)
abbrev pub is_string : List ℕ → Bool
is_string b = (slice_index b 1 == 3) && (slice_index b 0 == length b) && (length b % 2 == 0) && not (names_languages b)

-- the bytes begin with a Usage item, 09 and one byte or 0a and two (HID 1.11, 6.2.2.8)
abbrev pub begins_usage : List ℕ → Bool
begins_usage b =
    if slice_index b 0 == 0x09 then nat_le 2 (length b)
    else if slice_index b 0 == 0x0a then nat_le 3 (length b)
    else false

-- they begin with a Usage Page item, 05 and one byte or 06 and two, and then a Usage item (HID 1.11, 6.2.2.7)
abbrev pub is_report : List ℕ → Bool
is_report b =
    if slice_index b 0 == 0x05 then begins_usage (drop 2 b)
    else if slice_index b 0 == 0x06 then begins_usage (drop 3 b)
    else false

-- A frame of usbmon as Wireshark copies it begins with a header of 64 bytes, which has the event at 8, `S`, `C` or `E`, the type
-- of transfer at 9, 0 to 3, and at 36 in four bytes how many bytes of data follow, here below 65536 (Linux, usbmon.rst).
abbrev pub is_usbmon_frame : List ℕ → Bool
is_usbmon_frame b =
    nat_le 64 (length b) && ((slice_index b 8 == 0x53) || (slice_index b 8 == 0x43) || (slice_index b 8 == 0x45))
    && nat_le (slice_index b 9) 3 && (little_endian_at b 36 == length (drop 64 b)) && (little_endian_at b 38 == 0)

-- A packet of the bus is its PID, DATA0 or DATA1 (USB 2.0, table 8-1), its data, here one descriptor, and two bytes of CRC (8.4.4).
abbrev pub is_packet : List ℕ → Bool
is_packet b =
    ((slice_index b 0 == 0xc3) || (slice_index b 0 == 0x4b)) && nat_le 2 (slice_index b 1) && (length b == slice_index b 1 + 3)

-- The type of a descriptor that stands in an input behind others: interface, endpoint, qualifier, association (USB 2.0, table
-- 9-5, and the association's ECN), HID (HID 1.11, 7.1), those of a class for an interface and an endpoint, and hub (11.23.2).
abbrev pub is_inner_type : ℕ → Bool
is_inner_type kind =
    (kind == 4) || (kind == 5) || (kind == 6) || (kind == 11) || (kind == 0x21) || (kind == 0x24) || (kind == 0x25) || (kind == 0x29)

-- the bytes begin with such a descriptor, which is all there
abbrev pub begins_inside : List ℕ → Bool
begins_inside b = is_inner_type (slice_index b 1) && nat_le 3 (slice_index b 0) && nat_le (slice_index b 0) (length b)

-- The bytes are the setup packet of a standard request, by bmRequestType to a device, an interface or an endpoint and bRequest
-- up to 12 (USB 2.0, 9.3 and table 9-4).
abbrev pub is_standard_request : List ℕ → Bool
is_standard_request b = (length b == 8) && nat_le (slice_index b 0 % 128) 2 && nat_le (slice_index b 1) 12

-- a fragment of an input
abbrev pub is_fragment : List ℕ → Bool
is_fragment b = begins_inside b || is_standard_request b

-- such a frame or packet, where the bytes look like one
abbrev pub frame_likeness : List ℕ → Option Likeness
frame_likeness b =
    if is_usbmon_frame b then Some (likes.UsbmonFrame (length (drop 64 b)))
    else if is_packet b then Some (likes.Packet (slice_index b 1))
    else None

-- what bytes look like that are read as a file
abbrev pub file_likeness : FileFault → List ℕ → Option Likeness
file_likeness fault [] = Some likes.Nothing
file_likeness fault (x ∷ rest) =
    let b = x ∷ rest in
    if is_text b then Some likes.Text
    else if goes_on_after_dump fault.why fault.at b then Some (likes.DumpAndMore (length (drop fault.at b)))
    else if is_usbmon_frame b then Some (likes.UsbmonFrame (length (drop 64 b)))
    else if is_packet b then Some (likes.Packet (slice_index b 1))
    else if is_bos b then Some likes.Bos
    else if is_string b then Some likes.StringDescriptor
    else if is_report b then Some likes.Report
    else if is_fragment b then Some likes.Fragment
    else None

-- What bytes with this fault look like: a frame, a packet or nothing, where they are read as a set by their second byte.
abbrev pub likeness_of : InputFault → List ℕ → Option Likeness
likeness_of (faults.File fault) b = file_likeness fault b
likeness_of fault b = frame_likeness b

-- What these bytes before a fault are: a dump, and so an index is named. Before a wrong qualifier none may be; then they are a
-- file, which ends with the sets of the device too.
abbrev pub IsDumpBefore : FileWhy → DescriptorFile → List ℕ → Type 0
IsDumpBefore files.Qualifier f b = Dump f b ⊎ (File f b × (f.other ≡ None) × (f.strings ≡ None))
IsDumpBefore why f b = Dump f b

-- the bytes before the place of this fault are a dump, and this many follow
pub record DumpGoesOn (b : List ℕ) (fault : FileFault) (n : ℕ) : Type 0 where
  pub file : DescriptorFile
  pub dump : IsDumpBefore fault.why file (take fault.at b)
  pub more : length b ≡ fault.at + n

-- bytes that look like a dump and more are one up to the place of the fault that they show
abbrev pub DumpsEndAtFaults : Type 0
DumpsEndAtFaults =
    (b : List ℕ) (fault : FileFault) (n : ℕ) → AreBytes b → FileFaulty b fault.at fault.why → likeness_of (faults.File fault) b ≡ Some (likes.DumpAndMore n) →
    DumpGoesOn b fault n

-- each dump that is followed by no string descriptor is seen
abbrev pub DumpsAreSeen : Type 0
DumpsAreSeen =
    (f : DescriptorFile) (b : List ℕ) (at : ℕ) → Dump f (take at b) → is_empty_string (drop at b) ≡ false →
    likeness_of (faults.File (record { at = at; why = files.Text })) b ≡ Some (likes.DumpAndMore (length (drop at b)))
