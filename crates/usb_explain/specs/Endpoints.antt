-- What an endpoint descriptor says, and values of fields that have a number and its meaning (USB 2.0, 9.6).
use Rattle.std.specs.Prelude.{ℕ, List, [], ◌∷◌, ◌++◌, ◌==◌, Bool, true, false, Option, Some, None, if◌then◌else◌, ◌^◌, nat_le, slice_index}
use Rattle.usb_fields.specs.Bytes.{little_endian_at}
use Rattle.usb_set.specs.Descriptors.{number_of, packet_size_of, transactions_of, transfer_type_of}
use Rattle.usb_set.specs.declared.endpoint.TransferType.{TransferType}
use Rattle.usb_set.specs.declared.endpoint.TransferType.TheVariants.{Isochronous, Interrupt}
use Rattle.usb_text.specs.Shown.{Shown, Number}
use Rattle.usb_remarks.specs.declared.speed.SetSpeed.{SetSpeed}
use Rattle.usb_remarks.specs.declared.speed.SetSpeed.TheVariants.{FullOrHigh, High, Super}
use Rattle.usb_remarks.specs.SetSpeeds.{has_multiple}
use Rattle.usb_remarks.specs.Power.{milliamperes}
use Rattle.usb_explain.specs.Speeds.{interval_at, is_periodic}

-- the packets of a microframe and the bytes of each, where there are several; `None` is the reserved value of bits 12..11
abbrev pub packets_shown : Option ℕ → ℕ → List Shown
packets_shown None size = Number size ∷ []
packets_shown (Some packets) size = if packets == 1 then Number size ∷ [] else Number packets ∷ Number size ∷ []

-- bits 12..11 of wMaxPacketSize count packets of periodic endpoints at high speed, and where that is open and their size is one
-- that several in a microframe have; elsewhere they are reserved
abbrev pub has_packets : SetSpeed → TransferType → ℕ → Bool
has_packets High Isochronous max_packet = true
has_packets High Interrupt max_packet = true
has_packets FullOrHigh Isochronous max_packet = has_multiple max_packet
has_packets FullOrHigh Interrupt max_packet = has_multiple max_packet
has_packets _ _ _ = false

-- wMaxPacketSize of an endpoint of these attributes: bits 10..0 in bytes, with bits 12..11 where they count packets
unfoldable pub size_shown : SetSpeed → ℕ → ℕ → List Shown
size_shown speed attributes max_packet =
    if has_packets speed (transfer_type_of attributes) max_packet then packets_shown (transactions_of max_packet) (packet_size_of max_packet)
    else Number (packet_size_of max_packet) ∷ []

-- Values of fields that have a number and its meaning.

-- a release in hexadecimal and as it is meant
abbrev pub release_value : ℕ → List Shown
release_value n = Number n ∷ Number n ∷ []

-- bMaxPacketSize0 of a device, which is an exponent of at most 15 at SuperSpeed (USB 3.2, 9.6.1)
unfoldable pub packet_value : SetSpeed → ℕ → List Shown
packet_value Super n = Number n ∷ (if nat_le n 15 then Number (2 ^ n) ∷ [] else [])
packet_value _ n = Number n ∷ []

-- bMaxPower of a set, and in milliamperes (9.6.3)
abbrev pub power_value : SetSpeed → ℕ → List Shown
power_value speed power = Number power ∷ Number (milliamperes speed power) ∷ []

-- bEndpointAddress, and the number of the endpoint (9.6.6)
abbrev pub address_value : ℕ → List Shown
address_value address = Number address ∷ Number (number_of address) ∷ []

-- wMaxPacketSize
abbrev pub size_value : SetSpeed → ℕ → ℕ → List Shown
size_value speed attributes max_packet = Number max_packet ∷ size_shown speed attributes max_packet

-- the interval of an endpoint of these attributes, if it is periodic
abbrev pub endpoint_interval : SetSpeed → ℕ → ℕ → List Shown
endpoint_interval speed attributes interval =
    if is_periodic (transfer_type_of attributes) then interval_at speed (transfer_type_of attributes) interval else []

-- bInterval
abbrev pub interval_value : SetSpeed → ℕ → ℕ → List Shown
interval_value speed attributes interval = Number interval ∷ endpoint_interval speed attributes interval

-- address, size and interval of an endpoint, by its bytes
unfoldable pub endpoint_shown : SetSpeed → List ℕ → List Shown
endpoint_shown speed b =
    address_value (slice_index b 2) ++ size_shown speed (slice_index b 3) (little_endian_at b 4)
    ++ endpoint_interval speed (slice_index b 3) (slice_index b 6)
