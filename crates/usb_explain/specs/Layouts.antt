-- The fields of the standard's descriptors.
use Rattle.std.specs.Prelude.{ℕ, ◌+◌, ◌/◌, ◌==◌, List, [], ◌∷◌, ◌++◌, if◌then◌else◌, codes, ◌&&◌, Bool, false, Option, Some, None}
use Rattle.usb_names.specs.Shown.{Field}
use Rattle.usb_fields.specs.declared.field_name.TheConstants.{B_REFRESH, B_SYNCH_ADDRESS, W_TOTAL_LENGTH}
use Rattle.usb_fields.specs.Fields as standard
use Rattle.usb_fields.specs.Device.{device_fields, qualifier_fields}
use Rattle.usb_set.specs.Descriptors.{association_fields, configuration_fields, endpoint_fields, interface_fields}
use Rattle.usb_names.specs.declared.codes.ClassCodes.{ClassCodes}
use Rattle.usb_names.specs.declared.field.Form.{Form}
use Rattle.usb_names.specs.declared.field.Form.TheVariants.{Decimal, Hexadecimal, Release, Index, Class, FunctionClass, Subclass, Protocol, DevicePacket, Supply, Power, Address, Transfer, PacketSize, Interval}

-- the fields of a descriptor, those that repeat after them, and what the bytes are called that are left
pub record Layout : Type 0 where
  pub fields : List Field
  pub group : List Field
  pub rest : List ℕ

-- how many bytes fields have
abbrev pub width_of : List Field → ℕ
width_of [] = 0
width_of (field ∷ fields) = field.width + width_of fields

-- how many times a group of `width` bytes is there
abbrev pub group_count : ℕ → ℕ → ℕ
group_count width n = if width == 0 then 0 else n / width

-- The fields of the standard's descriptors after bDescriptorType, each with the form of its number (USB 2.0, 9.6).

-- a field: how its number is written, how many bytes it has, and its name
abbrev pub field_in : Form → ℕ → List ℕ → Field
field_in form width name = record { name = name; width = width; form = form }

-- fields of the standard's names and widths, in these forms
abbrev pub fields_in : {Descriptor : Type 0} → List (standard.Field Descriptor) → List Form → List Field
fields_in (standard.byte name number ∷ fields) (form ∷ forms) = field_in form 1 name ∷ fields_in fields forms
fields_in (standard.word name number ∷ fields) (form ∷ forms) = field_in form 2 name ∷ fields_in fields forms
fields_in fields forms = []

-- a descriptor of these fields, after which there may be a tail
abbrev pub with_tail : List Field → Layout
with_tail fields = record { fields = fields; group = []; rest = codes "tail" }

-- the device descriptor (9.6.1)
abbrev pub device_layout : Layout
device_layout =
    with_tail (fields_in device_fields (Release ∷ Class ∷ Subclass ∷ Protocol ∷ DevicePacket ∷ Hexadecimal ∷ Hexadecimal ∷ Release ∷ Index ∷ Index ∷ Index ∷ Decimal ∷ []))

-- the device qualifier (9.6.2)
abbrev pub qualifier_layout : Layout
qualifier_layout = with_tail (fields_in qualifier_fields (Release ∷ Class ∷ Subclass ∷ Protocol ∷ Decimal ∷ Decimal ∷ Hexadecimal ∷ []))

-- the first descriptor of a set (9.6.3 and 9.6.4)
abbrev pub configuration_layout : Layout
configuration_layout =
    with_tail (field_in Decimal 2 W_TOTAL_LENGTH.now ∷ fields_in configuration_fields (Decimal ∷ Decimal ∷ Index ∷ Supply ∷ Power ∷ []))

-- an interface association (its ECN, 9.X.Y)
abbrev pub association_layout : Layout
association_layout = with_tail (fields_in association_fields (Decimal ∷ Decimal ∷ FunctionClass ∷ Subclass ∷ Protocol ∷ Index ∷ []))

-- an interface (9.6.5)
abbrev pub interface_layout : Layout
interface_layout = with_tail (fields_in interface_fields (Decimal ∷ Decimal ∷ Decimal ∷ FunctionClass ∷ Subclass ∷ Protocol ∷ Index ∷ []))

-- the fields of an endpoint (9.6.6)
abbrev pub fields_of_endpoint : List Field
fields_of_endpoint = fields_in endpoint_fields (Address ∷ Transfer ∷ PacketSize ∷ Interval ∷ [])

-- the interface is one of an audio device
abbrev pub is_audio : Option ClassCodes → Bool
is_audio None = false
is_audio (Some codes) = codes.class == 1

-- the fields that an endpoint of audio has after those (audio 1.0, 4.6.1.1 and 4.6.2.1)
abbrev pub further_audio_fields : List Field
further_audio_fields = field_in Decimal 1 B_REFRESH.now ∷ field_in Hexadecimal 1 B_SYNCH_ADDRESS.now ∷ []

-- an endpoint of n bytes, after an interface of these codes
abbrev pub endpoint_layout : Option ClassCodes → ℕ → Layout
endpoint_layout interface n =
    if is_audio interface && (n == 9) then with_tail (fields_of_endpoint ++ further_audio_fields)
    else with_tail fields_of_endpoint
