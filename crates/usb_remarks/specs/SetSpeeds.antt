-- The speed of a set, and what its descriptors say of it (USB 2.0, 5.5 to 5.8 and 9.6.6; USB 3.2, 9.6.7).
use Rattle.std.specs.Prelude.{ℕ, List, slice_index, Bool, true, false, nat_le, nat_lt, not, ◌==◌, ◌&&◌, ◌||◌, ◌/◌, ◌%◌, Option, Some, None, is_some, option_and_then, unwrap_or, if◌then◌else◌}
use Rattle.std.specs.List.{list_any}
use Rattle.usb_fields.specs.Bytes.{little_endian_at}
use Rattle.usb_set.specs.Descriptors.{packet_size_of, transfer_type_of}
use Rattle.usb_set.specs.declared.endpoint.TransferType.{TransferType}
use Rattle.usb_set.specs.declared.endpoint.TransferType.TheVariants.{Control, Isochronous, Bulk, Interrupt}
use Rattle.usb_remarks.specs.declared.speed_evidence.Evidence.{Evidence}
use Rattle.usb_walk.specs.Roles.{is_endpoint, is_interface}
use Rattle.std.specs.Option.{option_map, option_or}
use Rattle.usb_remarks.specs.declared.device_facts.DeviceFacts.{DeviceFacts}
use Rattle.usb_remarks.specs.declared.speed.SetSpeed.{SetSpeed}
use Rattle.usb_remarks.specs.declared.speed.SetSpeed.TheVariants as speeds
use Rattle.usb_remarks.specs.declared.set_speed.Background.{Background}
use Rattle.usb_remarks.specs.InterfaceNumbers.{interface_numbers}
use Rattle.usb_remarks.specs.Bindings.{bindings}

-- What the descriptors of a set say of its speed (USB 2.0, 5.5 to 5.8 and 9.6.6; USB 3.2, 9.6.7).

-- a SuperSpeed endpoint companion, which only a set of SuperSpeed has
abbrev pub is_companion : List ℕ → Bool
is_companion d = slice_index d 1 == 48

-- a number from the first of two to the second
abbrev pub is_within : ℕ → ℕ → ℕ → Bool
is_within least most n = nat_le least n && nat_le n most

-- bits 12..11 of wMaxPacketSize are 1 or 2 beside a size with which a microframe has as many more packets: 513 to 1024 bytes
-- with one more, 683 to 1024 with two (9.6.6, table 9-14)
abbrev pub has_multiple : ℕ → Bool
has_multiple max_packet =
    let more = max_packet / 2048 % 4 in
    ((more == 1) && is_within 513 1024 (packet_size_of max_packet)) || ((more == 2) && is_within 683 1024 (packet_size_of max_packet))

-- only high speed has bulk packets of 512 bytes, interrupt packets over 64, isochronous ones over 1023, and several
-- isochronous packets in a microframe; several interrupt packets have over 64 bytes each
abbrev pub is_high : TransferType → ℕ → Bool
is_high Control max_packet = false
is_high Bulk max_packet = packet_size_of max_packet == 512
is_high Interrupt max_packet = nat_lt 64 (packet_size_of max_packet)
is_high Isochronous max_packet = nat_lt 1023 (packet_size_of max_packet) || has_multiple max_packet

-- only full speed has bulk packets of up to 64 bytes
abbrev pub is_full : TransferType → ℕ → Bool
is_full Bulk max_packet = nat_le (packet_size_of max_packet) 64
is_full _ max_packet = false

-- low speed has control and interrupt endpoints alone, with packets of up to 8 bytes
abbrev pub is_above_low : TransferType → ℕ → Bool
is_above_low Isochronous max_packet = true
is_above_low Bulk max_packet = true
is_above_low _ max_packet = nat_lt 8 (packet_size_of max_packet)

-- an interrupt interval over 16 is out of range at high speed, and hints at less
abbrev pub is_slow : TransferType → ℕ → Bool
is_slow Interrupt interval = nat_lt 16 interval
is_slow _ interval = false

-- a descriptor that speaks for high speed
abbrev pub proves_high : List ℕ → Bool
proves_high d = is_endpoint d && is_high (transfer_type_of (slice_index d 3)) (little_endian_at d 4)

-- one that speaks for full speed
abbrev pub proves_full : List ℕ → Bool
proves_full d = is_endpoint d && is_full (transfer_type_of (slice_index d 3)) (little_endian_at d 4)

-- an interface of a hub, which is never of low speed (chapter 11)
abbrev pub is_hub_interface : List ℕ → Bool
is_hub_interface d = is_interface d && (slice_index d 5 == 9)

-- one that low speed can't have
abbrev pub excludes_low : List ℕ → Bool
excludes_low d = is_hub_interface d || (is_endpoint d && is_above_low (transfer_type_of (slice_index d 3)) (little_endian_at d 4))

-- one that hints at low or full speed by its interval
abbrev pub hints_low_or_full : List ℕ → Bool
hints_low_or_full d = is_endpoint d && is_slow (transfer_type_of (slice_index d 3)) (slice_index d 6)

-- what descriptors say together
abbrev pub evidence_of : List (List ℕ) → Evidence
evidence_of ds = record {
  companion = list_any is_companion ds;
  high = list_any proves_high ds;
  full = list_any proves_full ds;
  above_low = list_any excludes_low ds;
  slow = list_any hints_low_or_full ds;
}

-- The speed of a set (USB 2.0, 5.3.1.1, 5.5.3, 9.6.1 and 9.6.2).

-- the speed of its other-speed sets: a device of full and high speed runs at one of the two
abbrev pub other_speed : SetSpeed → Option SetSpeed
other_speed speeds.Full = Some speeds.High
other_speed speeds.High = Some speeds.Full
other_speed _ = None

-- a hub that runs at high speed, by bDeviceClass and bDeviceProtocol: it has one transaction translator, or several (11.23.1)
abbrev pub is_high_hub : ℕ → ℕ → Bool
is_high_hub class protocol = (class == 9) && ((protocol == 1) || (protocol == 2))

-- a device that runs at SuperSpeed has bcdUSB 3.00 or more, and bMaxPacketSize0 9, for 512 bytes (USB 3.2, 9.6.1)
abbrev pub is_super_device : ℕ → ℕ → Bool
is_super_device usb packet = nat_le 0x0300 usb && (packet == 9)

-- the speed of a hub of high speed
abbrev pub speed_of_hub : ℕ → ℕ → Option SetSpeed
speed_of_hub class protocol = if is_high_hub class protocol then Some speeds.High else None

-- the speed of a device's own sets by its descriptor: high speed came with bcdUSB 2.00
abbrev pub speed_of_device : ℕ → ℕ → ℕ → ℕ → Option SetSpeed
speed_of_device usb class protocol packet =
    if is_super_device usb packet then Some speeds.Super
    else if nat_lt usb 0x0200 then Some speeds.LowOrFull
    else speed_of_hub class protocol

-- a device of bcdUSB 3.00 that isn't at SuperSpeed runs at high speed, unless something proves that it doesn't
abbrev pub release_hint : ℕ → Option SetSpeed
release_hint usb = if nat_le 0x0300 usb then Some speeds.High else None

-- bMaxPacketSize0 is 64 at high speed
abbrev pub speed_of_packet : Option ℕ → Option SetSpeed
speed_of_packet None = None
speed_of_packet (Some packet) = if packet == 64 then None else Some speeds.LowOrFull

-- the speed that a set's descriptors prove; a companion proves nothing of a set whose device isn't of SuperSpeed
abbrev pub proved_speed : Option ℕ → Evidence → Option SetSpeed
proved_speed packet evidence =
    if evidence.companion && not (is_some packet) then Some speeds.Super
    else if evidence.high then Some speeds.High
    else if evidence.full then Some speeds.Full
    else None

-- the speed at which bcdUSB or an interval hints, where nothing is proved
abbrev pub hinted_speed : Option SetSpeed → Evidence → SetSpeed
hinted_speed (Some speed) evidence = speed
hinted_speed None evidence = if evidence.slow then speeds.LowOrFull else speeds.FullOrHigh

-- the first of these that decides: what is known, bMaxPacketSize0, proof, the device's other speed, a hint
abbrev pub decided_speed : Background → Evidence → SetSpeed
decided_speed background evidence =
    unwrap_or
    (option_or (option_or (option_or background.known (speed_of_packet background.packet)) (proved_speed background.packet evidence))
    (option_and_then other_speed background.other))
    (hinted_speed background.hinted evidence)

-- bMaxPacketSize0 is 8 at low speed
abbrev pub packet_excludes_low : Option ℕ → Bool
packet_excludes_low None = false
packet_excludes_low (Some packet) = nat_lt 8 packet

-- a device of low speed has no other one, and is no hub (chapter 11)
abbrev pub low_is_excluded : Background → Evidence → Bool
low_is_excluded background evidence =
    is_some background.other || background.is_hub || packet_excludes_low background.packet || evidence.above_low

-- low or full speed is full speed where low speed is excluded
abbrev pub without_low : Bool → SetSpeed → SetSpeed
without_low true speeds.LowOrFull = speeds.Full
without_low _ speed = speed

-- the speed of a set
abbrev pub speed_by : Background → Evidence → SetSpeed
speed_by background evidence = without_low (low_is_excluded background evidence) (decided_speed background evidence)

-- The two sides of a device of full and high speed: it and its sets, and its qualifier and the sets after that.

-- the speed of a side by its own descriptors alone: the device or the qualifier, the endpoints of its sets, and bMaxPacketSize0
abbrev pub side_speed : DeviceFacts → Evidence → Option SetSpeed
side_speed facts evidence =
    option_map (without_low true)
    (option_or (option_or facts.speed (proved_speed (Some facts.packet) evidence)) (speed_of_packet (Some facts.packet)))

-- the one that both sides have
abbrev pub one_speed : Option SetSpeed → Option SetSpeed → Option SetSpeed
one_speed (Some speeds.Full) (Some speeds.Full) = Some speeds.Full
one_speed (Some speeds.High) (Some speeds.High) = Some speeds.High
one_speed own other = None

-- the device is at high speed by its own side
abbrev pub high_side : Option SetSpeed → Option SetSpeed
high_side (Some speeds.High) = Some speeds.High
high_side own = None

-- and its qualifier is of high speed by its side, or beside one of full speed
abbrev pub high_beside : Option SetSpeed → Option SetSpeed → Option SetSpeed
high_beside own (Some speeds.High) = Some speeds.High
high_beside (Some speeds.Full) other = Some speeds.High
high_beside own other = None

-- What is known of a set before its descriptors are gone over one by one.

-- what they say of its speed, which association binds each interface, and which numbers interfaces have
pub record Survey : Type 0 where
  pub spoken : Evidence
  pub bindings : List (Option ℕ)
  pub interfaces : List Bool

-- what descriptors say
unfoldable pub survey_of : List (List ℕ) → Survey
survey_of ds = record {
  spoken = evidence_of ds;
  bindings = bindings ds;
  interfaces = interface_numbers ds;
}
