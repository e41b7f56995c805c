-- The setup packet, and which way data goes (USB 2.0, 9.3 and 9.6.6).
use Rattle.std.specs.Prelude.{ℕ, ◌/◌, ◌%◌, ◌==◌, if◌then◌else◌, List, [], ◌∷◌, ◌++◌, slice_index}
use Rattle.usb_fields.specs.declared.setup.Direction.{Direction}
use Rattle.usb_fields.specs.declared.setup.Direction.TheVariants.{Out, In}
use Rattle.usb_fields.specs.Bytes.{little_endian, little_endian_at}
use Rattle.usb_fields.specs.declared.setup.Setup.{Setup}
use Rattle.usb_fields.specs.declared.setup.Class.{Class}
use Rattle.usb_fields.specs.declared.setup.Class.TheVariants as classes
use Rattle.usb_fields.specs.declared.setup.Recipient.{Recipient}
use Rattle.usb_fields.specs.declared.setup.Recipient.TheVariants as recipients

-- Which way data goes (USB 2.0, 9.3.1 and 9.6.6).

-- bit 7 of bmRequestType or of bEndpointAddress: 0 host to device, 1 device to host (tables 9-2 and 9-13)
abbrev pub direction_of : ℕ → Direction
direction_of byte = if byte / 128 % 2 == 0 then Out else In

-- The setup packet (USB 2.0, 9.3).

-- the bytes of a setup packet: bmRequestType, bRequest, wValue, wIndex, wLength
abbrev pub setup_bytes : Setup → List ℕ
setup_bytes s =
    s.request_type ∷ s.request ∷ []
    ++ little_endian s.value ++ little_endian s.index ++ little_endian s.length

-- the setup packet whose bytes these are, where they are eight
abbrev pub setup_of : List ℕ → Setup
setup_of b =
    record {
      request_type = slice_index b 0;
      request = slice_index b 1;
      value = little_endian_at b 2;
      index = little_endian_at b 4;
      length = little_endian_at b 6;
    }

-- bits 6..5 of bmRequestType: 0 standard, 1 class, 2 vendor, 3 reserved (table 9-2)
abbrev pub class_of : ℕ → Class
class_of request_type =
    let kind = request_type / 32 % 4 in
    if kind == 0 then classes.Standard
    else if kind == 1 then classes.Class
    else if kind == 2 then classes.Vendor
    else classes.Reserved

-- bits 4..0 of bmRequestType: 0 device, 1 interface, 2 endpoint, 3 other, the rest reserved (table 9-2)
abbrev pub recipient_of : ℕ → Recipient
recipient_of request_type =
    let part = request_type % 32 in
    if part == 0 then recipients.Device
    else if part == 1 then recipients.Interface
    else if part == 2 then recipients.Endpoint
    else if part == 3 then recipients.Other
    else recipients.Reserved
