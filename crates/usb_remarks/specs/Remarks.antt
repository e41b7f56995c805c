-- What is remarked of a descriptor: what can't be at the speed of its set, values that the standard reserves (USB 2.0,
-- 5.5.3, 5.6.3, 5.7.3, 5.8.3, 9.6.5 and 9.6.6; the association's ECN), the length that a class header has, and what the standards
-- of devices, settings and classes ask for.
use Rattle.std.specs.Prelude.{ℕ, ◌+◌, List, ◌++◌, slice_index, Bool, true, false, nat_le, nat_lt, not, ◌==◌, ◌&&◌, ◌||◌, ◌/◌, ◌%◌, Option, Some, None, option_and_then, if◌then◌else◌, ◌≡◌, is_some}
use Rattle.std.specs.Option.{option_or}
use Rattle.usb_fields.specs.Bytes.{little_endian_at}
use Rattle.usb_set.specs.declared.endpoint.TransferType.{TransferType}
use Rattle.usb_set.specs.declared.endpoint.TransferType.TheVariants.{Control, Isochronous, Bulk, Interrupt}
use Rattle.usb_set.specs.Descriptors.{packet_size_of, transfer_type_of}
use Rattle.usb_remarks.specs.declared.speed.SetSpeed.{SetSpeed}
use Rattle.usb_remarks.specs.declared.speed.SetSpeed.TheVariants.{Low, Full, LowOrFull, High, FullOrHigh, Super}
use Rattle.usb_remarks.specs.Outline.{Described}
use Rattle.usb_walk.specs.declared.role.Role.{Role}
use Rattle.usb_walk.specs.declared.role.Role.TheVariants as roles
use Rattle.usb_remarks.specs.declared.remark.IntervalRange.{IntervalRange}
use Rattle.usb_remarks.specs.declared.remark.PacketSizes.{PacketSizes}
use Rattle.usb_remarks.specs.declared.remark.PacketSizes.TheVariants.{NoEndpoint, Only, UpTo, EightTo64, EightTo64Or512}
use Rattle.usb_remarks.specs.declared.remark.Remark.{Remark}
use Rattle.usb_remarks.specs.declared.remark.Remark.TheVariants as remarks
use Rattle.usb_remarks.specs.HeaderRemarks.{header_remark}
use Rattle.usb_remarks.specs.RemarkValues.{is_size, remark_if, there}
use Rattle.usb_remarks.specs.DeviceRemarks.{associations_remark, count_remark, device_class_remark, one_speed_remark, packet_remark, power_remark, qualifier_release_remark, release_remark}
use Rattle.usb_remarks.specs.EndpointAddresses.{endpoints_remark}
use Rattle.usb_remarks.specs.SettingRemarks.{default_remark, empty_remark, pipe_remark, setting_remark}
use Rattle.usb_remarks.specs.OutlineStates.{device_codes}
use Rattle.usb_remarks.specs.ClassRemarks.{class_release_remark, functional_remark, hid_length_remark, hid_report_remark, late_remark}
use Rattle.usb_remarks.specs.StringRemarks.{languages_remark, text_remark}

-- ---- bInterval

-- from the one to the other
abbrev pub from_to : ℕ → ℕ → Option IntervalRange
from_to least most = Some (record { least = least; most = most })

-- The values of bInterval of a periodic endpoint (9.6.6). Where two speeds are open it is enough that one of them has a value.
abbrev pub interval_range : SetSpeed → TransferType → Option IntervalRange
interval_range Low Interrupt = from_to 10 255
interval_range Full Interrupt = from_to 1 255
interval_range LowOrFull Interrupt = from_to 1 255
interval_range High Interrupt = from_to 1 16
interval_range FullOrHigh Interrupt = from_to 1 255
interval_range Super Interrupt = from_to 1 16
interval_range Low Isochronous = None
interval_range LowOrFull Isochronous = None
interval_range _ Isochronous = from_to 1 16
interval_range _ _ = None

-- a value is one of a range
abbrev pub is_within : IntervalRange → ℕ → Bool
is_within range n = nat_le range.least n && nat_le n range.most

-- bInterval that is out of its range
abbrev pub out_of_range : SetSpeed → TransferType → ℕ → IntervalRange → Option Remark
out_of_range speed transfer n range = remark_if (not (is_within range n)) (remarks.Interval transfer speed range n)

abbrev pub interval_remark : SetSpeed → TransferType → ℕ → Option Remark
interval_remark speed transfer n = option_and_then (out_of_range speed transfer n) (interval_range speed transfer)

-- ---- bits 10 to 0 of wMaxPacketSize

-- The sizes of packets: control (5.5.3), isochronous (5.6.3), bulk (5.8.3) and interrupt (5.7.3). Where two speeds are open it
-- is enough that one of them has a size. Those of SuperSpeed are left out.
abbrev pub sizes_at : SetSpeed → TransferType → Option PacketSizes
sizes_at Low Control = Some (Only 8)
sizes_at Low Isochronous = Some NoEndpoint
sizes_at Low Bulk = Some NoEndpoint
sizes_at Low Interrupt = Some (UpTo 8)
sizes_at Full Control = Some EightTo64
sizes_at Full Isochronous = Some (UpTo 1023)
sizes_at Full Bulk = Some EightTo64
sizes_at Full Interrupt = Some (UpTo 64)
sizes_at LowOrFull Control = Some EightTo64
sizes_at LowOrFull Isochronous = Some (UpTo 1023)
sizes_at LowOrFull Bulk = Some EightTo64
sizes_at LowOrFull Interrupt = Some (UpTo 64)
sizes_at High Control = Some (Only 64)
sizes_at High Isochronous = Some (UpTo 1024)
sizes_at High Bulk = Some (Only 512)
sizes_at High Interrupt = Some (UpTo 1024)
sizes_at FullOrHigh Control = Some EightTo64
sizes_at FullOrHigh Isochronous = Some (UpTo 1024)
sizes_at FullOrHigh Bulk = Some EightTo64Or512
sizes_at FullOrHigh Interrupt = Some (UpTo 1024)
sizes_at Super _ = None

-- packets of another size
abbrev pub of_another_size : SetSpeed → TransferType → ℕ → PacketSizes → Option Remark
of_another_size speed transfer n sizes = remark_if (not (is_size sizes n)) (remarks.Packet transfer speed sizes n)

abbrev pub size_remark : SetSpeed → TransferType → ℕ → Option Remark
size_remark speed transfer n = option_and_then (of_another_size speed transfer n) (sizes_at speed transfer)

-- ---- bits 12 to 11 of wMaxPacketSize

-- they count the transactions of a microframe, at high speed or where it is open (9.6.6)
abbrev pub counts_transactions : SetSpeed → TransferType → Bool
counts_transactions High Isochronous = true
counts_transactions High Interrupt = true
counts_transactions FullOrHigh Isochronous = true
counts_transactions FullOrHigh Interrupt = true
counts_transactions _ _ = false

-- the least size of packets of which a microframe has `more` after the first (table 9-14)
abbrev pub least_size : ℕ → ℕ
least_size more = if more == 1 then 513 else if more == 2 then 683 else 0

-- where they count, 3 is reserved, and packets have the size that `more` of them need
abbrev pub counted_remark : ℕ → ℕ → Option Remark
counted_remark more size =
    if more == 3 then Some remarks.ReservedMultiple
    else remark_if (nat_lt size (least_size more)) (remarks.SmallMultiple (more + 1) (least_size more) size)

-- elsewhere they are zero
abbrev pub multiple_remark : SetSpeed → TransferType → ℕ → Option Remark
multiple_remark speed transfer max_packet =
    let more = max_packet / 2048 % 4 in
    if counts_transactions speed transfer then counted_remark more (packet_size_of max_packet)
    else remark_if (not (more == 0)) remarks.PacketBits

-- ---- bmAttributes

-- Bits 5 to 2 are zero but for an isochronous endpoint, whose bits 5 to 4 aren't 3 (9.6.6). At SuperSpeed bit 4 is one for an
-- interrupt endpoint that notifies (USB 3.2, 9.6.6).
abbrev pub type_bits_remark : SetSpeed → TransferType → ℕ → Option Remark
type_bits_remark speed Isochronous attributes = remark_if (attributes / 16 % 4 == 3) remarks.ReservedUsage
type_bits_remark Super Interrupt attributes =
    remark_if (not (attributes / 4 % 4 == 0) || not (attributes / 32 % 2 == 0)) remarks.TypeBits
type_bits_remark speed _ attributes = remark_if (not (attributes / 4 % 16 == 0)) remarks.TypeBits

-- the first that holds: of those bits, or that bits 7 to 6 aren't zero
abbrev pub attributes_remark : SetSpeed → TransferType → ℕ → Option Remark
attributes_remark speed transfer attributes =
    option_or (type_bits_remark speed transfer attributes) (remark_if (not (attributes / 64 == 0)) remarks.HighBits)

-- ---- descriptors

-- class 00 of an interface, which is reserved for future use (9.6.5)
abbrev pub class_remark : ℕ → Option Remark
class_remark class = remark_if (class == 0) remarks.ReservedClass

-- class 00 of an association, which isn't allowed (its ECN, 9.X.Y)
abbrev pub association_class_remark : ℕ → Option Remark
association_class_remark class = remark_if (class == 0) remarks.ForbiddenClass

-- the remarks on an endpoint: by its speed and transfer type, and by its setting
unfoldable pub endpoint_remarks : Described → List Remark
endpoint_remarks d =
    let transfer = transfer_type_of (slice_index d.bytes 3) in
    let size = packet_size_of (little_endian_at d.bytes 4) in
    there (interval_remark d.speed transfer (slice_index d.bytes 6))
    ++ there (size_remark d.speed transfer size)
    ++ there (multiple_remark d.speed transfer (little_endian_at d.bytes 4))
    ++ there (attributes_remark d.speed transfer (slice_index d.bytes 3))
    ++ there (default_remark d.speed transfer d.owner size)
    ++ there (empty_remark d.owner size d.follows d.rest)

-- the remarks on a descriptor that has no type of its own
unfoldable pub raw_remarks : Described → List Remark
raw_remarks d =
    there (header_remark d.interface d.bytes d.rest)
    ++ there (hid_length_remark d.interface d.bytes)
    ++ there (hid_report_remark d.interface d.bytes)
    ++ there (late_remark d.interface d.owner d.bytes)
    ++ there (functional_remark d.interface d.bytes d.missing d.rest)
    ++ there (class_release_remark d.interface d.bytes)

-- the remarks on a descriptor of this role
unfoldable pub remarks_on : Role → Described → List Remark
remarks_on roles.Device d =
    there (release_remark (little_endian_at d.bytes 2))
    ++ there (device_class_remark (slice_index d.bytes 4))
    ++ there (packet_remark d.speed (slice_index d.bytes 7))
    ++ there (count_remark (slice_index d.bytes 17) d.findings)
    ++ there (associations_remark (device_codes d.bytes) d.has_associations)
remarks_on roles.Qualifier d =
    there (qualifier_release_remark (little_endian_at d.bytes 2))
    ++ there (device_class_remark (slice_index d.bytes 4))
    ++ there (packet_remark d.speed (slice_index d.bytes 7))
    ++ there (count_remark (slice_index d.bytes 8) d.findings)
    ++ there (associations_remark (device_codes d.bytes) d.has_associations)
    ++ there (one_speed_remark d.one_speed)
remarks_on roles.Configuration d =
    there (power_remark d.speed (slice_index d.bytes 8)) ++ there (endpoints_remark d.speed d.rest)
remarks_on roles.Association d =
    there (association_class_remark (slice_index d.bytes 4)) ++ there (remark_if d.is_late remarks.LateAssociation)
remarks_on roles.Interface d =
    there (class_remark (slice_index d.bytes 5)) ++ there (setting_remark d.bytes d.rest) ++ there (pipe_remark d.bytes d.rest)
remarks_on roles.Endpoint d = endpoint_remarks d
remarks_on roles.Raw d = raw_remarks d
remarks_on roles.Languages d = there (languages_remark d.bytes)
remarks_on roles.Text d = there (text_remark d.bytes)

-- What holds of remarks: one that speaks of two speeds holds at both.

-- An open speed has a remark just where both of its speeds have one: on bInterval, on bits 10 to 0 and on bits 12 to 11 of
-- wMaxPacketSize, and on bmAttributes.
pub record IsOpen (both one other : SetSpeed) : Type 0 where
  pub intervals : (transfer : TransferType) (n : ℕ) →
      is_some (interval_remark both transfer n) ≡ (is_some (interval_remark one transfer n) && is_some (interval_remark other transfer n))
  pub sizes : (transfer : TransferType) (n : ℕ) →
      is_some (size_remark both transfer n) ≡ (is_some (size_remark one transfer n) && is_some (size_remark other transfer n))
  pub multiples : (transfer : TransferType) (n : ℕ) →
      is_some (multiple_remark both transfer n) ≡ (is_some (multiple_remark one transfer n) && is_some (multiple_remark other transfer n))
  pub attributes : (transfer : TransferType) (n : ℕ) →
      is_some (attributes_remark both transfer n) ≡ (is_some (attributes_remark one transfer n) && is_some (attributes_remark other transfer n))

abbrev pub LowOrFullIsOpen : Type 0
LowOrFullIsOpen = IsOpen LowOrFull Low Full

abbrev pub FullOrHighIsOpen : Type 0
FullOrHighIsOpen = IsOpen FullOrHigh Full High
