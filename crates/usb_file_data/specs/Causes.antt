-- Why each rule is broken: of several reasons those that hold, and the numbers that were compared.
use Rattle.std.specs.Prelude.{ℕ, Bool, not, nat_le, ◌==◌, ◌&&◌, bit_and, Option, Some, None, if◌then◌else◌}
use Rattle.usb_fields.specs.declared.device.DeviceDescriptor.{DeviceDescriptor}
use Rattle.usb_fields.specs.declared.qualifier.Qualifier.{Qualifier}
use Rattle.usb_set.specs.declared.extra.Association.{Association}
use Rattle.usb_file_data.specs.declared.cause.Cause.{Cause}
use Rattle.usb_file_data.specs.declared.cause.Cause.TheVariants as causes
use Rattle.usb_file_data.specs.declared.cause.PacketFault.{PacketFault}
use Rattle.usb_file_data.specs.declared.cause.PacketFault.TheVariants as packets
use Rattle.usb_file_data.specs.declared.finding.Finding.{Finding}
use Rattle.usb_file_data.specs.declared.finding.Part.{Part}
use Rattle.usb_file_data.specs.declared.rule.Rule.{Rule}
use Rattle.usb_file_data.specs.declared.rule.Rule.TheVariants as rules
use Rattle.usb_file_data.specs.Places.{finding}
use Rattle.usb_file_data.specs.Rules.{has_lone_subclass, wrong_packet}

-- the rule that a cause is of
abbrev pub rule_of : Cause → Rule
rule_of (causes.InterfaceCount declared found) = rules.V1
rule_of causes.NumberGap = rules.V2
rule_of causes.RepeatedSetting = rules.V3
rule_of causes.NoDefaultSetting = rules.V4
rule_of (causes.EndpointCount declared found) = rules.V5
rule_of (causes.Address endpoint_zero reserved) = rules.V6
rule_of causes.RepeatedAddress = rules.V7
rule_of causes.SharedAddress = rules.V8
rule_of (causes.Attributes clear reserved) = rules.V9
rule_of causes.ZeroValue = rules.V10
rule_of causes.RepeatedValue = rules.V10
rule_of causes.NoConfiguration = rules.V10
rule_of (causes.Device packet subclass) = rules.V11
rule_of (causes.Qualifier packet subclass reserved) = rules.V11
rule_of causes.PacketSize = rules.V12
rule_of causes.NoInterface = rules.V13
rule_of causes.MissingInterface = rules.V13

-- a broken rule at its place, and why it is broken
pub record Broken : Type 0 where
  pub finding : Finding
  pub cause : Cause

-- the rule that is broken by a cause there
abbrev pub broken_by : Cause → Part → ℕ → ℕ → ℕ → Broken
broken_by cause part set setting endpoint = record { finding = finding (rule_of cause) part set setting endpoint; cause = cause }

-- V6: what is wrong with bEndpointAddress
abbrev pub address_cause : ℕ → Cause
address_cause address = causes.Address (bit_and address 0x0f == 0) (not (bit_and address 0x70 == 0))

-- V9: what is wrong with bmAttributes of a set
abbrev pub attributes_cause : ℕ → Cause
attributes_cause attributes = causes.Attributes (bit_and attributes 0x80 == 0) (not (bit_and attributes 0x1f == 0))

-- V10 of a set: what is wrong with bConfigurationValue
abbrev pub value_cause : ℕ → Cause
value_cause value = if value == 0 then causes.ZeroValue else causes.RepeatedValue

-- what is wrong with bMaxPacketSize0 by the table of USB 2.0 (9.6.1 and 9.6.2)
abbrev pub packet_fault : ℕ → Option PacketFault
packet_fault packet = if wrong_packet packet then Some packets.NotInTable else None

-- and from bcdUSB 0300 on, where a dump is of SuperSpeed, which has 9; a file of such a device is one of USB 2.0
abbrev pub late_packet_fault : Bool → ℕ → Option PacketFault
late_packet_fault is_dump packet =
    if packet == 9 then (if is_dump then None else Some packets.Nine)
    else (if is_dump then Some packets.NotNine else packet_fault packet)

-- by bcdUSB
abbrev pub device_packet_fault : Bool → DeviceDescriptor → Option PacketFault
device_packet_fault is_dump d = if nat_le 0x0300 d.usb then late_packet_fault is_dump d.packet else packet_fault d.packet

-- V11 of a device
abbrev pub device_cause : Bool → DeviceDescriptor → Cause
device_cause is_dump d = causes.Device (device_packet_fault is_dump d) (has_lone_subclass d)

-- V11 of a qualifier
abbrev pub qualifier_cause : Qualifier → Cause
qualifier_cause q = causes.Qualifier (packet_fault q.packet) ((q.class == 0) && not (q.subclass == 0)) (not (q.reserved == 0))

-- V13: what an association binds
abbrev pub association_cause : Association → Cause
association_cause a = if a.count == 0 then causes.NoInterface else causes.MissingInterface
