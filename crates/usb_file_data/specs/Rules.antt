-- What breaks each rule: a test of what is there, which sees as much of its set as it needs.
use Rattle.std.specs.Prelude.{ℕ, List, map, length, Bool, not, nat_le, ◌==◌, ◌&&◌, ◌||◌, bit_and, if◌then◌else◌}
use Rattle.std.specs.List.{list_any, range_with_len}
use Rattle.usb_fields.specs.declared.device.DeviceDescriptor.{DeviceDescriptor}
use Rattle.usb_fields.specs.declared.qualifier.Qualifier.{Qualifier}
use Rattle.usb_set.specs.declared.extra.Association.{Association}
use Rattle.usb_set.specs.declared.tree.Endpoint.{Endpoint}
use Rattle.usb_set.specs.declared.tree.Setting.{Setting}
use Rattle.usb_set.specs.declared.tree.Configuration.{Configuration}
use Rattle.usb_file_data.specs.Places.{is_among, when, at_each_after}

-- the interface number of a setting (bInterfaceNumber)
abbrev pub number_of : Setting → ℕ
number_of s = s.number

-- the address of an endpoint (bEndpointAddress)
abbrev pub address_of : Endpoint → ℕ
address_of e = e.address

-- the value by which SET_CONFIGURATION selects a set (bConfigurationValue)
abbrev pub value_of : Configuration → ℕ
value_of c = c.value

-- the setting is the first of its interface number, given those before it
abbrev pub is_first : List Setting → Setting → Bool
is_first before s = not (is_among (map number_of before) s.number)

-- the interface numbers of the settings, each once, in the order in which they come first
abbrev pub interface_numbers : List Setting → List ℕ
interface_numbers settings = at_each_after (λ before j s. when (is_first before s) s.number) settings

-- V1. The set announces more or fewer interfaces than it has: bNumInterfaces isn't the count of distinct
-- interface numbers, however many alternate settings each of them has (USB 2.0, 9.6.3).
abbrev pub wrong_interface_count : Configuration → Bool
wrong_interface_count c = not (c.declared_interfaces == length (interface_numbers c.settings))

-- V2. Interfaces aren't numbered from 0 without a gap: of n distinct interface numbers, one of 0 to n - 1
-- is missing (9.6.5, bInterfaceNumber).
abbrev pub has_number_gap : Configuration → Bool
has_number_gap c =
    list_any (λ n. not (is_among (map number_of c.settings) n)) (range_with_len 0 (length (interface_numbers c.settings)))

-- both settings have this number and this alternate
abbrev pub is_same_setting : Setting → Setting → Bool
is_same_setting s t = (t.number == s.number) && (t.alternate == s.alternate)

-- V3. The same alternate setting of the same interface is there twice, so that SET_INTERFACE can't tell them
-- apart (9.6.5, bAlternateSetting).
abbrev pub repeats_setting : List Setting → Setting → Bool
repeats_setting before s = list_any (is_same_setting s) before

-- the setting is the one in which an interface begins
abbrev pub is_default_of : ℕ → Setting → Bool
is_default_of number t = (t.number == number) && (t.alternate == 0)

-- V4. An interface has no alternate setting 0, which is the one that SET_CONFIGURATION selects. Reported once for
-- each interface number, at its first setting (9.6.5).
abbrev pub lacks_default_setting : List Setting → List Setting → Setting → Bool
lacks_default_setting settings before s = is_first before s && not (list_any (is_default_of s.number) settings)

-- V5. bNumEndpoints isn't the count of the setting's endpoints (9.6.5).
abbrev pub wrong_endpoint_count : Setting → Bool
wrong_endpoint_count s = not (s.declared_endpoints == length s.endpoints)

-- V6. The endpoint describes number 0, which is the default control pipe and has no descriptor, or has a one in
-- the reserved bits 6 to 4 of bEndpointAddress (9.6.6).
abbrev pub wrong_address : ℕ → Bool
wrong_address address = (bit_and address 0x0f == 0) || not (bit_and address 0x70 == 0)

-- V7. Two endpoints of one setting have the same address (9.6.5 and 9.6.6).
abbrev pub repeats_address : List Endpoint → Endpoint → Bool
repeats_address before e = is_among (map address_of before) e.address

-- the setting is one of another interface, and has an endpoint with this address
abbrev pub has_elsewhere : ℕ → ℕ → Setting → Bool
has_elsewhere number address s = not (s.number == number) && is_among (map address_of s.endpoints) address

-- V8. Two interfaces of one set claim the same endpoint address. The alternate settings of one interface may
-- (9.6.5: the endpoints of an interface are its own within a configuration).
abbrev pub shares_address : List Setting → Setting → Endpoint → Bool
shares_address before s e = list_any (has_elsewhere s.number e.address) before

-- V9. bmAttributes has bit 7 zero, which is to be one, or a one in the reserved bits 4 to 0 (9.6.3).
abbrev pub wrong_attributes : Configuration → Bool
wrong_attributes c = (bit_and c.attributes 0x80 == 0) || not (bit_and c.attributes 0x1f == 0)

-- V10, for a set. SET_CONFIGURATION can't select it: bConfigurationValue is 0, which deconfigures, or that of an
-- earlier set of its part (9.6.3 and 9.4.7).
abbrev pub wrong_value : List Configuration → Configuration → Bool
wrong_value before c = (c.value == 0) || is_among (map value_of before) c.value

-- the packet of endpoint zero has a size that the standard doesn't know
abbrev pub wrong_packet : ℕ → Bool
wrong_packet packet = not ((packet == 8) || (packet == 16) || (packet == 32) || (packet == 64))

-- bDeviceClass is 0 and bDeviceSubClass isn't
abbrev pub has_lone_subclass : DeviceDescriptor → Bool
has_lone_subclass d = (d.class == 0) && not (d.subclass == 0)

-- V11, for the device descriptor: bMaxPacketSize0 isn't 8, 16, 32 or 64, or there is a subclass without a class
-- (9.6.1).
abbrev pub wrong_device : DeviceDescriptor → Bool
wrong_device d = wrong_packet d.packet || has_lone_subclass d

-- V11, for the device descriptor of a dump: from bcdUSB 0300 on, which is SuperSpeed, bMaxPacketSize0 is the exponent
-- of 512 bytes, which is 9 (USB 3.2, 9.6.1).
abbrev pub wrong_dumped_device : DeviceDescriptor → Bool
wrong_dumped_device d = (if nat_le 0x0300 d.usb then not (d.packet == 9) else wrong_packet d.packet) || has_lone_subclass d

-- V11, for the device qualifier: the same, or bReserved isn't 0 (9.6.2).
abbrev pub wrong_qualifier : Qualifier → Bool
wrong_qualifier q = wrong_packet q.packet || ((q.class == 0) && not (q.subclass == 0)) || not (q.reserved == 0)

-- V12. wMaxPacketSize has a one in the reserved bits 15 to 13 (9.6.6).
abbrev pub wrong_packet_size : ℕ → Bool
wrong_packet_size max_packet = not (bit_and max_packet 0xe000 == 0)

-- V13. An interface association binds no interface (bInterfaceCount is 0) or one that the set doesn't have: a
-- number from bFirstInterface to bFirstInterface + bInterfaceCount - 1 is no interface number. The sum doesn't
-- wrap at 256 (engineering change notice on interface association descriptors, table 9-Z).
abbrev pub binds_missing_interface : List Setting → Association → Bool
binds_missing_interface settings a =
    (a.count == 0) || list_any (λ n. not (is_among (map number_of settings) n)) (range_with_len a.first a.count)
