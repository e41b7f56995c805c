-- The lines of what USB 2.0 forbids, with its sections.
use Rattle.std.specs.Prelude.{ℕ, List, ◌++◌, codes, Option, Some, None}
use Rattle.std.specs.List.{flat_map}
use Rattle.std.specs.Fmt.{decimal}
use Rattle.usb_text.specs.Lines.{column}
use Rattle.usb_wire.specs.declared.damage.Damage.{Damage}
use Rattle.usb_wire.specs.declared.damage.Damage.TheVariants.{Empty, Pid, Reserved, Length, Crc5, Crc16}
use Rattle.usb_capture.specs.declared.finding.Finding.{Finding}
use Rattle.usb_capture.specs.declared.finding.Finding.TheVariants.{MoreThanAsked, OtherType, OtherLength, OtherBytes, RefusesGiven, RefusesRequired, RefusesCounted, RefusesNamed, RefusesStatus, RefusesAddress, RefusesConfiguration, TakesConfiguration, OtherConfiguration, GivesUncounted, OtherValue, OtherStatus, OtherFeature, OtherSetting}
use Rattle.usb_capture.specs.declared.packet_finding.PacketFinding.{PacketFinding}
use Rattle.usb_capture.specs.declared.packet_finding.PacketFinding.TheVariants.{Damaged, NoHandshake, NoRequest, SetupRefused, Toggle, Long, NoShortPacket, StatusDirection}
use Rattle.usb_capture_lines.specs.BusFindings.{device_of}
use Rattle.usb_capture_lines.specs.Lines.{address_words, time_column}
use Rattle.usb_capture_lines.specs.declared.bus_finding.BusFinding.{BusFinding}
use Rattle.usb_capture_lines.specs.declared.selection.DeviceAddress.{DeviceAddress}

abbrev pub finding_words : Finding → List ℕ
finding_words MoreThanAsked = codes "more bytes than wLength (8.5.3, 9.3.5)"
finding_words OtherType = codes "a descriptor of another type than was asked for (9.4.3)"
finding_words OtherLength = codes "neither all bytes of the descriptor nor wLength bytes (9.4.3)"
finding_words OtherBytes = codes "the same descriptor had other bytes before (9.4.3, 9.6)"
finding_words RefusesGiven = codes "the device has it: it gave bytes of it (9.4.3)"
finding_words RefusesRequired = codes "the device has it: all devices do (9.4.3)"
finding_words RefusesCounted = codes "the device has it: bNumConfigurations counts it (9.6.1, 9.6.2)"
finding_words RefusesNamed = codes "the device has it: a descriptor names it (9.6.7)"
finding_words RefusesStatus = codes "the device has an address, so it answers (9.4.5)"
finding_words RefusesAddress = codes "the device has no address yet, so it takes one (9.4.6)"
finding_words RefusesConfiguration = codes "the device takes 0 and the value of each configuration (9.4.7)"
finding_words TakesConfiguration = codes "no configuration of the device has this value (9.2.7, 9.4.7)"
finding_words OtherConfiguration = codes "the device answers 0 or the value of a configuration (9.4.2)"
finding_words GivesUncounted = codes "bNumConfigurations doesn't count it (9.4.3, 9.6.1)"
finding_words OtherValue = codes "the device answers the value that was set (9.4.2)"
finding_words OtherStatus = codes "the device answers by its descriptors and what was set (9.4.5)"
finding_words OtherFeature = codes "the device takes a feature that it has and no other (9.4.1, 9.4.9)"
finding_words OtherSetting = codes "the device answers by the settings that it has (9.4.4, 9.4.10)"

unfoldable pub finding_line : Finding → List ℕ
finding_line finding = codes "           ! " ++ finding_words finding ++ codes "\n"

-- below a transfer, a line for each finding
abbrev pub finding_lines : List Finding → List ℕ
finding_lines found = flat_map finding_line found

-- a device, if it is known
abbrev pub device_name : Option DeviceAddress → List ℕ
device_name None = codes "-"
device_name (Some a) = address_words a.bus a.device

unfoldable pub frame_words : ℕ → List ℕ
frame_words number = codes ", frame " ++ decimal number ++ codes "\n"

abbrev pub damage_words : Damage → List ℕ
damage_words Empty = codes "a packet without a byte (8.3.1)"
damage_words Pid = codes "wrong check bits of a PID (8.3.1)"
damage_words Reserved = codes "a reserved PID (8.3.1)"
damage_words Length = codes "a length that its PID doesn't have (8.4)"
damage_words Crc5 = codes "a wrong 5-bit CRC (8.3.5.1)"
damage_words Crc16 = codes "a wrong 16-bit CRC (8.3.5.2)"

abbrev pub packet_words : PacketFinding → List ℕ
packet_words (Damaged damage) = damage_words damage
packet_words NoHandshake = codes "no handshake (8.5)"
packet_words NoRequest = codes "SETUP without eight bytes of DATA0 (8.5.3)"
packet_words SetupRefused = codes "NAK, STALL or NYET of SETUP (8.4.6.4)"
packet_words Toggle = codes "a wrong data toggle (8.5.3, 8.6)"
packet_words Long = codes "a packet over bMaxPacketSize0 (5.5.3, 9.6.1)"
packet_words NoShortPacket = codes "no short packet at the end (5.5.3, 8.5.3.2)"
packet_words StatusDirection = codes "a status stage of the wrong way (8.5.3)"

-- in packets: when it was, whose it is, what is wrong, and which frame has the packet or the token of the transaction
unfoldable pub bus_finding_line : ℕ → BusFinding → List ℕ
bus_finding_line origin found =
    time_column origin found.time ++ column 6 (device_name (device_of found))
    ++ codes "! " ++ packet_words found.finding ++ frame_words found.number
