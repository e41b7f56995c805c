-- The device descriptor and the device qualifier, and why bytes are neither (USB 2.0, 9.5, 9.6.1 and 9.6.2).
use Rattle.std.specs.Prelude.{ℕ, List, length, slice_index, ◌==◌, not, if◌then◌else◌, Option, Some, None, [], ◌∷◌}
use Rattle.usb_fields.specs.declared.field_name.TheConstants.{BCD_DEVICE, BCD_USB, B_DEVICE_CLASS, B_DEVICE_PROTOCOL, B_DEVICE_SUB_CLASS, B_MAX_PACKET_SIZE_0, B_NUM_CONFIGURATIONS, B_RESERVED, ID_PRODUCT, ID_VENDOR, I_MANUFACTURER, I_PRODUCT, I_SERIAL_NUMBER}
use Rattle.usb_fields.specs.declared.fault.FieldFault.{FieldFault}
use Rattle.usb_fields.specs.declared.fault.FieldFault.TheVariants as fields
use Rattle.usb_fields.specs.Bytes.{little_endian_at}
use Rattle.usb_fields.specs.Fields.{Field, byte, word, fields_bytes}
use Rattle.usb_fields.specs.declared.device.DeviceDescriptor.{DeviceDescriptor}
use Rattle.usb_fields.specs.declared.qualifier.Qualifier.{Qualifier}

-- Why bytes are no descriptor of fixed length (USB 2.0, 9.5).

-- the first reason why these bytes are no descriptor of this length and type, if there is one
abbrev pub field_fault : ℕ → ℕ → List ℕ → Option FieldFault
field_fault size kind b =
    if not (length b == size) then Some fields.Length
    else if not (slice_index b 0 == size) then Some fields.Length
    else if not (slice_index b 1 == kind) then Some fields.Kind
    else None

-- The device descriptor (USB 2.0, 9.6.1).

-- the fields of a device descriptor, in the order of its bytes
abbrev pub device_fields : List (Field DeviceDescriptor)
device_fields =
    word BCD_USB.now (λ d. d.usb)
    ∷ byte B_DEVICE_CLASS.now (λ d. d.class)
    ∷ byte B_DEVICE_SUB_CLASS.now (λ d. d.subclass)
    ∷ byte B_DEVICE_PROTOCOL.now (λ d. d.protocol)
    ∷ byte B_MAX_PACKET_SIZE_0.now (λ d. d.packet)
    ∷ word ID_VENDOR.now (λ d. d.vendor)
    ∷ word ID_PRODUCT.now (λ d. d.product)
    ∷ word BCD_DEVICE.now (λ d. d.release)
    ∷ byte I_MANUFACTURER.now (λ d. d.maker_text)
    ∷ byte I_PRODUCT.now (λ d. d.product_text)
    ∷ byte I_SERIAL_NUMBER.now (λ d. d.serial_text)
    ∷ byte B_NUM_CONFIGURATIONS.now (λ d. d.configurations) ∷ []

-- its bytes: bLength 18, bDescriptorType 1, and its fields
abbrev pub device_bytes : DeviceDescriptor → List ℕ
device_bytes d = 18 ∷ 1 ∷ fields_bytes device_fields d

-- the descriptor of these bytes: each field at its place
abbrev pub device_of_bytes : List ℕ → DeviceDescriptor
device_of_bytes b = record {
  usb = little_endian_at b 2;
  class = slice_index b 4;
  subclass = slice_index b 5;
  protocol = slice_index b 6;
  packet = slice_index b 7;
  vendor = little_endian_at b 8;
  product = little_endian_at b 10;
  release = little_endian_at b 12;
  maker_text = slice_index b 14;
  product_text = slice_index b 15;
  serial_text = slice_index b 16;
  configurations = slice_index b 17;
}

-- the first reason why these bytes are no device descriptor, if there is one
abbrev pub device_fault : List ℕ → Option FieldFault
device_fault b = field_fault 18 1 b

-- The device qualifier descriptor (USB 2.0, 9.6.2).

-- the fields of a device qualifier, in the order of its bytes
abbrev pub qualifier_fields : List (Field Qualifier)
qualifier_fields =
    word BCD_USB.now (λ q. q.usb)
    ∷ byte B_DEVICE_CLASS.now (λ q. q.class)
    ∷ byte B_DEVICE_SUB_CLASS.now (λ q. q.subclass)
    ∷ byte B_DEVICE_PROTOCOL.now (λ q. q.protocol)
    ∷ byte B_MAX_PACKET_SIZE_0.now (λ q. q.packet)
    ∷ byte B_NUM_CONFIGURATIONS.now (λ q. q.configurations)
    ∷ byte B_RESERVED.now (λ q. q.reserved) ∷ []

-- its bytes: bLength 10, bDescriptorType 6, and its fields
abbrev pub qualifier_bytes : Qualifier → List ℕ
qualifier_bytes q = 10 ∷ 6 ∷ fields_bytes qualifier_fields q

-- the descriptor of these bytes: each field at its place
abbrev pub qualifier_of_bytes : List ℕ → Qualifier
qualifier_of_bytes b = record {
  usb = little_endian_at b 2;
  class = slice_index b 4;
  subclass = slice_index b 5;
  protocol = slice_index b 6;
  packet = slice_index b 7;
  configurations = slice_index b 8;
  reserved = slice_index b 9;
}

-- the first reason why these bytes are no qualifier, if there is one
abbrev pub qualifier_fault : List ℕ → Option FieldFault
qualifier_fault b = field_fault 10 6 b
