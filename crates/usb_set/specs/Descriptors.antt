-- The descriptors of a configuration set, one by one (USB 2.0, 9.5 and 9.6.3 to 9.6.6, and its ECN on
-- interface associations, 9.X.Y).
use Rattle.std.specs.Prelude.{ℕ, ◌+◌, ◌==◌, List, [], ◌∷◌, ◌++◌, length, slice_index, drop, Option, Some, None, if◌then◌else◌, ◌/◌, ◌%◌}
use Rattle.usb_fields.specs.declared.field_name.TheConstants.{BM_ATTRIBUTES, B_ALTERNATE_SETTING, B_CONFIGURATION_VALUE, B_ENDPOINT_ADDRESS, B_FIRST_INTERFACE, B_FUNCTION_CLASS, B_FUNCTION_PROTOCOL, B_FUNCTION_SUB_CLASS, B_INTERFACE_CLASS, B_INTERFACE_COUNT, B_INTERFACE_NUMBER, B_INTERFACE_PROTOCOL, B_INTERFACE_SUB_CLASS, B_INTERVAL, B_MAX_POWER, B_NUM_ENDPOINTS, B_NUM_INTERFACES, I_CONFIGURATION, I_FUNCTION, I_INTERFACE, W_MAX_PACKET_SIZE}
use Rattle.usb_fields.specs.Bytes.{little_endian}
use Rattle.usb_fields.specs.Fields.{Field, byte, word, fields_bytes}
use Rattle.usb_set.specs.declared.tree.SetKind.{SetKind}
use Rattle.usb_set.specs.declared.tree.SetKind.TheVariants as kinds
use Rattle.usb_set.specs.declared.extra.Raw.{Raw}
use Rattle.usb_set.specs.declared.extra.Association.{Association}
use Rattle.usb_set.specs.declared.extra.Extra.{Extra}
use Rattle.usb_set.specs.declared.extra.Extra.TheVariants as extras
use Rattle.usb_set.specs.declared.tree.Endpoint.{Endpoint}
use Rattle.usb_set.specs.declared.tree.Setting.{Setting}
use Rattle.usb_set.specs.declared.tree.Configuration.{Configuration}
use Rattle.usb_set.specs.declared.endpoint.TransferType.{TransferType}
use Rattle.usb_set.specs.declared.endpoint.TransferType.TheVariants.{Control, Isochronous, Bulk, Interrupt}

-- a descriptor: its bDescriptorType, and the bytes that follow it
pub record Descriptor : Type 0 where
  pub kind : ℕ
  pub body : List ℕ

-- its bytes: bLength, which counts all of them, bDescriptorType, and the rest (9.5)
abbrev pub descriptor_bytes : Descriptor → List ℕ
descriptor_bytes d = (2 + length d.body) ∷ d.kind ∷ d.body

-- a descriptor that is kept as it is
abbrev pub raw_descriptor : Raw → Descriptor
raw_descriptor r = record { kind = r.kind; body = r.body }

-- the fields of an interface association descriptor, in the order of its bytes (ECN, 9.X.Y)
abbrev pub association_fields : List (Field Association)
association_fields =
    byte B_FIRST_INTERFACE.now (λ a. a.first)
    ∷ byte B_INTERFACE_COUNT.now (λ a. a.count)
    ∷ byte B_FUNCTION_CLASS.now (λ a. a.class)
    ∷ byte B_FUNCTION_SUB_CLASS.now (λ a. a.subclass)
    ∷ byte B_FUNCTION_PROTOCOL.now (λ a. a.protocol)
    ∷ byte I_FUNCTION.now (λ a. a.text) ∷ []

-- the descriptor: type 11, its fields, then what it has beyond them
abbrev pub association_descriptor : Association → Descriptor
association_descriptor a = record { kind = 11; body = fields_bytes association_fields a ++ a.tail }

-- a descriptor that belongs to the typed one before it
abbrev pub extra_descriptor : Extra → Descriptor
extra_descriptor (extras.Raw r) = raw_descriptor r
extra_descriptor (extras.Association a) = association_descriptor a

-- the association of the bytes after bLength and bDescriptorType
abbrev pub association_of : List ℕ → Association
association_of body = record {
  first = slice_index body 0;
  count = slice_index body 1;
  class = slice_index body 2;
  subclass = slice_index body 3;
  protocol = slice_index body 4;
  text = slice_index body 5;
  tail = drop 6 body;
}

-- the extra of a descriptor: of a type that is none of theirs it is kept as it is
abbrev pub extra_of : Descriptor → Extra
extra_of item =
    if item.kind == 11 then extras.Association (association_of item.body)
    else extras.Raw (record { kind = item.kind; body = item.body })

-- the least bLength of a descriptor of this type, if a set gives the type a meaning (table 9-5, and the ECN)
abbrev pub typed_length : ℕ → Option ℕ
typed_length kind =
    if kind == 2 then Some 9
    else if kind == 4 then Some 9
    else if kind == 5 then Some 7
    else if kind == 7 then Some 9
    else if kind == 11 then Some 8
    else None

-- the fields of an endpoint descriptor, in the order of its bytes (9.6.6)
abbrev pub endpoint_fields : List (Field Endpoint)
endpoint_fields =
    byte B_ENDPOINT_ADDRESS.now (λ e. e.address)
    ∷ byte BM_ATTRIBUTES.now (λ e. e.attributes)
    ∷ word W_MAX_PACKET_SIZE.now (λ e. e.max_packet)
    ∷ byte B_INTERVAL.now (λ e. e.interval) ∷ []

-- the descriptor: type 5, its fields, then what it has beyond them
abbrev pub endpoint_descriptor : Endpoint → Descriptor
endpoint_descriptor e = record { kind = 5; body = fields_bytes endpoint_fields e ++ e.tail }

-- the fields of an interface descriptor, in the order of its bytes (9.6.5)
abbrev pub interface_fields : List (Field Setting)
interface_fields =
    byte B_INTERFACE_NUMBER.now (λ s. s.number)
    ∷ byte B_ALTERNATE_SETTING.now (λ s. s.alternate)
    ∷ byte B_NUM_ENDPOINTS.now (λ s. s.declared_endpoints)
    ∷ byte B_INTERFACE_CLASS.now (λ s. s.class)
    ∷ byte B_INTERFACE_SUB_CLASS.now (λ s. s.subclass)
    ∷ byte B_INTERFACE_PROTOCOL.now (λ s. s.protocol)
    ∷ byte I_INTERFACE.now (λ s. s.text) ∷ []

-- the descriptor: type 4, its fields, then what it has beyond them
abbrev pub interface_descriptor : Setting → Descriptor
interface_descriptor s = record { kind = 4; body = fields_bytes interface_fields s ++ s.tail }

-- the type of a set's first descriptor: CONFIGURATION or OTHER_SPEED_CONFIGURATION (table 9-5)
abbrev pub type_number : SetKind → ℕ
type_number kinds.Configuration = 2
type_number kinds.OtherSpeed = 7

-- the fields of a set's first descriptor after wTotalLength, in the order of its bytes (9.6.3 and 9.6.4)
abbrev pub configuration_fields : List (Field Configuration)
configuration_fields =
    byte B_NUM_INTERFACES.now (λ c. c.declared_interfaces)
    ∷ byte B_CONFIGURATION_VALUE.now (λ c. c.value)
    ∷ byte I_CONFIGURATION.now (λ c. c.text)
    ∷ byte BM_ATTRIBUTES.now (λ c. c.attributes)
    ∷ byte B_MAX_POWER.now (λ c. c.power) ∷ []

-- the descriptor, with this number as wTotalLength, its fields, then what it has beyond them
abbrev pub configuration_descriptor : Configuration → ℕ → Descriptor
configuration_descriptor c total = record { kind = type_number c.kind; body = little_endian total ++ fields_bytes configuration_fields c ++ c.tail }

-- The fields of an endpoint descriptor that are bits (USB 2.0, 9.6.6).

-- bits 3..0 of bEndpointAddress
abbrev pub number_of : ℕ → ℕ
number_of address = address % 16

-- bits 1..0 of bmAttributes
abbrev pub transfer_type_of : ℕ → TransferType
transfer_type_of attributes =
    if attributes % 4 == 0 then Control
    else if attributes % 4 == 1 then Isochronous
    else if attributes % 4 == 2 then Bulk
    else Interrupt

-- bits 10..0 of wMaxPacketSize, in bytes
abbrev pub packet_size_of : ℕ → ℕ
packet_size_of max_packet = max_packet % 2048

-- bits 12..11 of wMaxPacketSize, which count the transactions of a microframe beyond the first: 0, 1 or 2, and 3 is
-- reserved
abbrev pub transactions_of : ℕ → Option ℕ
transactions_of max_packet =
    let more = max_packet / 2048 % 4 in
    if more == 0 then Some 1
    else if more == 1 then Some 2
    else if more == 2 then Some 3
    else None
