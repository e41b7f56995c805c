-- What is wrong in packets of the bus, and where.
use Rattle.std.specs.Prelude.{ℕ, Bool, true, false, List, [], ◌∷◌, ◌++◌, Option, Some, None}
use Rattle.std.specs.List.{flat_map}
use Rattle.std.specs.Option.{option_map, option_to_list}
use Rattle.usb_capture.specs.declared.packet_finding.PacketFinding.{PacketFinding}
use Rattle.usb_capture.specs.declared.packet_finding.PacketFinding.TheVariants.{NoHandshake, NoRequest, SetupRefused, Toggle, Long, NoShortPacket, StatusDirection}
use Rattle.usb_capture.specs.declared.recorded_packet.RecordedPacket.{RecordedPacket}
use Rattle.usb_capture.specs.declared.transaction.Transaction.{Transaction}
use Rattle.usb_capture.specs.PacketFindings.{damage_in, is_found}
use Rattle.usb_capture_lines.specs.declared.bus_finding.BusFinding.{BusFinding}
use Rattle.usb_capture_lines.specs.declared.selection.DeviceAddress.{DeviceAddress}

-- in a transaction: the device is that of its token
abbrev pub in_transaction : Transaction → PacketFinding → BusFinding
in_transaction t finding = record { number = t.number; time = t.time; address = Some t.to.address; finding = finding }

-- in a packet: the device is that of the transaction that is over with it, if one is
abbrev pub address_of : Option Transaction → Option ℕ
address_of over = option_map (λ (t : Transaction). t.to.address) over

abbrev pub in_packet : RecordedPacket → Option Transaction → PacketFinding → BusFinding
in_packet packet over finding = record { number = packet.number; time = packet.time; address = address_of over; finding = finding }

-- the number of a bus is 0
abbrev pub at_address : ℕ → DeviceAddress
at_address address = record { bus = 0; device = address }

abbrev pub device_of : BusFinding → Option DeviceAddress
device_of found = option_map at_address found.address

-- what is found in a transaction after these: those that a transaction can have, in order
abbrev pub found_if : Bool → Transaction → PacketFinding → List BusFinding
found_if true t finding = in_transaction t finding ∷ []
found_if false t finding = []

abbrev pub found_one : List Transaction → Transaction → PacketFinding → List BusFinding
found_one before t finding = found_if (is_found finding before t) t finding

abbrev pub transaction_findings : List PacketFinding
transaction_findings = NoHandshake ∷ NoRequest ∷ SetupRefused ∷ Toggle ∷ Long ∷ NoShortPacket ∷ StatusDirection ∷ []

abbrev pub transaction_found : List Transaction → Option Transaction → List BusFinding
transaction_found before None = []
transaction_found before (Some t) = flat_map (found_one before t) transaction_findings

-- in a packet, with which a transaction may be over
abbrev pub packet_found : RecordedPacket → Option Transaction → List BusFinding
packet_found packet over = option_to_list (option_map (in_packet packet over) (damage_in packet.packet))

abbrev pub bus_found : List Transaction → RecordedPacket → Option Transaction → List BusFinding
bus_found before packet over = transaction_found before over ++ packet_found packet over
