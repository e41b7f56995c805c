-- What is remarked of a device, its qualifier, and a set: a release of USB that there is none of, a size of packets that the
-- speed doesn't have, no set, too much current, associations that the class doesn't say, and two sides of one speed (USB 2.0,
-- 5.5.3, 7.2.1, 9.6.1 to 9.6.3; USB 3.2, 9.6.1 and chapter 11; the association's ECN).
use Rattle.std.specs.Prelude.{ℕ, List, [], ◌∷◌, Bool, true, false, nat_le, nat_lt, not, ◌==◌, ◌&&◌, ◌||◌, Option, Some, None, option_and_then}
use Rattle.std.specs.Option.{option_or}
use Rattle.usb_file_data.specs.declared.cause.Found.{Found}
use Rattle.usb_names.specs.declared.codes.ClassCodes.{ClassCodes}
use Rattle.usb_remarks.specs.declared.speed.SetSpeed.{SetSpeed}
use Rattle.usb_remarks.specs.declared.speed.SetSpeed.TheVariants.{Low, Full, High, Super}
use Rattle.usb_remarks.specs.declared.remark.PacketSizes.{PacketSizes}
use Rattle.usb_remarks.specs.declared.remark.PacketSizes.TheVariants.{Only, EightTo64}
use Rattle.usb_remarks.specs.declared.remark.Remark.{Remark}
use Rattle.usb_remarks.specs.declared.remark.Remark.TheVariants as remarks
use Rattle.usb_remarks.specs.RemarkValues.{is_size, remark_if}
use Rattle.usb_remarks.specs.Power.{milliamperes}

-- bcdUSB of a release of USB: 1.0, 1.1, 2.0, 2.01 and 2.1, which have a BOS, 2.5 of Wireless USB, and 3.0, 3.1 and 3.2
abbrev pub is_release : ℕ → Bool
is_release usb =
    (usb == 0x0100) || (usb == 0x0110) || (usb == 0x0200) || (usb == 0x0201) || (usb == 0x0210) || (usb == 0x0250)
    || (usb == 0x0300) || (usb == 0x0310) || (usb == 0x0320)

abbrev pub release_remark : ℕ → Option Remark
release_remark usb = remark_if (not (is_release usb)) remarks.Release

-- the same of a qualifier, whose release is 2.0 at least (9.6.2)
abbrev pub qualifier_release_remark : ℕ → Option Remark
qualifier_release_remark usb = option_or (release_remark usb) (remark_if (nat_lt usb 0x0200) (remarks.OldQualifier usb))

-- A class that interfaces alone have, by the list of base classes that the USB-IF keeps: audio, HID, physical, image, printer, mass
-- storage, CDC data, smart card, content security, video, personal healthcare, and audio and video.
abbrev pub is_of_interfaces : ℕ → Bool
is_of_interfaces class =
    (class == 1) || (class == 3) || (nat_le 5 class && nat_le class 8) || (class == 0x0a) || (class == 0x0b)
    || (nat_le 0x0d class && nat_le class 0x10)

-- such a class of a device or of a qualifier, whose class is then 00 (9.6.1)
abbrev pub device_class_remark : ℕ → Option Remark
device_class_remark class = remark_if (is_of_interfaces class) remarks.InterfaceClass

-- The values of bMaxPacketSize0 at a speed that is known (5.5.3): at SuperSpeed it is the exponent of 512 (USB 3.2, 9.6.1).
abbrev pub first_packets : SetSpeed → Option PacketSizes
first_packets Low = Some (Only 8)
first_packets Full = Some EightTo64
first_packets High = Some (Only 64)
first_packets Super = Some (Only 9)
first_packets _ = None

-- bMaxPacketSize0 that is none of these
abbrev pub of_another_packet : SetSpeed → ℕ → PacketSizes → Option Remark
of_another_packet speed packet sizes = remark_if (not (is_size sizes packet)) (remarks.FirstPacket speed sizes packet)

abbrev pub packet_remark : SetSpeed → ℕ → Option Remark
packet_remark speed packet = option_and_then (of_another_packet speed packet) (first_packets speed)

-- no finding stands there
abbrev pub finds_nothing : List Found → Bool
finds_nothing [] = true
finds_nothing (f ∷ found) = false

-- No set is declared. Where bytes are an input, that is a finding of V10.
abbrev pub count_remark : ℕ → List Found → Option Remark
count_remark sets found = remark_if ((sets == 0) && finds_nothing found) remarks.NoSets

-- The greatest current in milliamperes: 500, or at SuperSpeed 1500, which a device of two lanes may draw.
abbrev pub most_current : SetSpeed → ℕ
most_current Super = 1500
most_current _ = 500

-- a set that needs more
abbrev pub power_remark : SetSpeed → ℕ → Option Remark
power_remark speed power =
    let current = milliamperes speed power in
    remark_if (nat_lt (most_current speed) current) (remarks.Current current (most_current speed))

-- class EF, subclass 02 and protocol 01, of a device with associations
abbrev pub tells_associations : ClassCodes → Bool
tells_associations codes = (codes.class == 0xef) && ((codes.subclass == 2) && (codes.protocol == 1))

-- associations in the sets of a device or a qualifier of other codes, or none where it has these (their ECN; the USB-IF's class
-- codes); nothing is said where it isn't known whether there are some
abbrev pub associations_remark : ClassCodes → Option Bool → Option Remark
associations_remark codes None = None
associations_remark codes (Some true) = remark_if (not (tells_associations codes)) remarks.UntoldAssociation
associations_remark codes (Some false) = remark_if (tells_associations codes) remarks.NoAssociation

-- the sets before a qualifier and those after it have one speed, though theirs are two (9.6.2)
abbrev pub one_speed_remark : Option SetSpeed → Option Remark
one_speed_remark None = None
one_speed_remark (Some speed) = Some (remarks.OneSpeed speed)
