-- The requests of an enumeration, and what the bytes of a read say (USB 2.0, 9.4).
use Rattle.std.specs.Prelude.{ℕ, ◌+◌, ◌*◌, ◌==◌, ◌&&◌, ◌||◌, not, nat_lt, Bool, true, false, if◌then◌else◌, List, [], ◌∷◌, length, slice_index, Option, Some, None}
use Rattle.usb_fields.specs.declared.setup.Setup.{Setup as SetupPacket}
use Rattle.usb_fields.specs.Bytes.{little_endian_at}
use Rattle.usb_fields.specs.declared.packet.Speed.{Speed}
use Rattle.usb_fields.specs.declared.packet.Speed.TheVariants.{Low, Full, High}
use Rattle.usb_fields.specs.declared.device.DeviceDescriptor.{DeviceDescriptor}
use Rattle.usb_fields.specs.declared.qualifier.Qualifier.{Qualifier}
use Rattle.usb_fields.specs.Device.{device_bytes, device_of_bytes, qualifier_bytes, qualifier_of_bytes}
use Rattle.usb_fields.specs.Units.{units_bytes}

-- The requests of an enumeration (USB 2.0, 9.4).

-- GET_DESCRIPTOR of this type and index, of at most this many bytes, in this language where it is a string (9.4.3)
abbrev pub get_descriptor : ℕ → ℕ → ℕ → ℕ → SetupPacket
get_descriptor kind index language length = record { request_type = 128; request = 6; value = kind * 256 + index; index = language; length = length }

-- SET_ADDRESS (9.4.6)
abbrev pub set_address : ℕ → SetupPacket
set_address address = record { request_type = 0; request = 5; value = address; index = 0; length = 0 }

-- SET_CONFIGURATION (9.4.7)
abbrev pub set_configuration : ℕ → SetupPacket
set_configuration value = record { request_type = 0; request = 9; value = value; index = 0; length = 0 }

-- What the bytes of a read say.

-- whether both lists have the same bytes
abbrev pub same_bytes : List ℕ → List ℕ → Bool
same_bytes [] [] = true
same_bytes [] (y ∷ ys) = false
same_bytes (x ∷ xs) [] = false
same_bytes (x ∷ xs) (y ∷ ys) = (x == y) && same_bytes xs ys

-- this value, where these are the bytes that it is written as
abbrev pub if_written : {X : Type 0} → (X → List ℕ) → X → List ℕ → Option X
if_written write x b = if same_bytes (write x) b then Some x else None

-- numbers of two bytes each, the low byte first
abbrev pub pairs : List ℕ → List ℕ
pairs (low ∷ high ∷ b) = (low + 256 * high) ∷ pairs b
pairs _ = []

-- the units after bLength and bDescriptorType (9.6.7)
abbrev pub unit_fields : List ℕ → List ℕ
unit_fields (len ∷ kind ∷ b) = pairs b
unit_fields _ = []

-- the device descriptor that has these bytes, if there is one
abbrev pub device_of : List ℕ → Option DeviceDescriptor
device_of b = if_written device_bytes (device_of_bytes b) b

-- the qualifier that has these bytes, if there is one
abbrev pub qualifier_of : List ℕ → Option Qualifier
qualifier_of b = if_written qualifier_bytes (qualifier_of_bytes b) b

-- the units, at most 126, whose string descriptor has these bytes, if there are any
abbrev pub units_of : List ℕ → Option (List ℕ)
units_of b = if nat_lt 126 (length (unit_fields b)) then None else if_written units_bytes (unit_fields b) b

-- whether endpoint zero can have packets of this size at the speed (5.5.3)
abbrev pub packet_fits : Speed → ℕ → Bool
packet_fits Low p = p == 8
packet_fits Full p = (p == 8) || (p == 16) || (p == 32) || (p == 64)
packet_fits High p = p == 64

-- whether these are the first eight bytes of a device descriptor whose packet size fits the speed
abbrev pub is_first : Speed → List ℕ → Bool
is_first speed b = (length b == 8) && (slice_index b 0 == 18) && (slice_index b 1 == 1) && packet_fits speed (slice_index b 7)

-- whether there may be a second speed: bcdUSB is at least 2.00, and the speed is not low (9.6.2)
abbrev pub may_have_second : Speed → DeviceDescriptor → Bool
may_have_second Low d = false
may_have_second Full d = not (nat_lt d.usb 0x0200)
may_have_second High d = not (nat_lt d.usb 0x0200)

-- wTotalLength, where a header of this many bytes has this bLength and type and is that of a set of this type (9.6.3)
abbrev pub total_said : ℕ → ℕ → ℕ → ℕ → ℕ → Option ℕ
total_said kind count length_said kind_said total =
    if (count == 9) && nat_lt 8 length_said && (kind_said == kind) && not (nat_lt total length_said) then Some total else None

-- wTotalLength of the header of a set of this type, where it is well formed
abbrev pub total_in : ℕ → List ℕ → Option ℕ
total_in kind b = total_said kind (length b) (slice_index b 0) (slice_index b 1) (little_endian_at b 2)
