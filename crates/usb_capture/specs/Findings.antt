-- What USB 2.0 forbids in control transfers, over a list of them (USB 2.0, 8.5.3, 9.2.7, 9.3.5, 9.4.2, 9.4.3, 9.4.5 to 9.4.7, and 9.6).
use Rattle.std.specs.Prelude.{ℕ, zero, suc, ◌+◌, ◌*◌, ◌/◌, ◌%◌, ◌==◌, ◌&&◌, ◌||◌, Bool, true, false, not, List, [], ◌∷◌, ◌++◌, length, take, drop, min, slice_index, nat_le, nat_lt, if◌then◌else◌}
use Rattle.std.specs.List.{list_all, list_any, range_with_len, zip}
use Rattle.usb_fields.specs.declared.setup.Setup.{Setup}
use Rattle.usb_capture.specs.declared.asked.Asked.{Asked}
use Rattle.usb_capture.specs.declared.control_transfer.ControlTransfer.{ControlTransfer}
use Rattle.usb_capture.specs.declared.ending.Ending.{Ending}
use Rattle.usb_capture.specs.declared.ending.Ending.TheVariants.{Unseen, Done, Stall, Failed, Refused}
use Rattle.usb_capture.specs.declared.finding.Finding.{Finding}
use Rattle.usb_capture.specs.declared.finding.Finding.TheVariants.{MoreThanAsked, OtherType, OtherLength, OtherBytes, RefusesGiven, RefusesRequired, RefusesCounted, RefusesNamed, RefusesStatus, RefusesAddress, RefusesConfiguration, TakesConfiguration, OtherConfiguration, GivesUncounted}
use Rattle.usb_capture.specs.Readings.{full_length, is_done, reads_descriptor}

-- Which descriptor a transfer asks for, and when it is the same.
abbrev pub asked_of : ControlTransfer → Asked
asked_of t = record { bus = t.bus; device = t.device; value = t.setup.value; index = t.setup.index }

abbrev pub is_same : Asked → Asked → Bool
is_same a b = a.bus == b.bus && a.device == b.device && a.value == b.value && a.index == b.index

-- SET_ADDRESS (9.4.6) and SET_DESCRIPTOR (9.4.8) of a device, and SET_FEATURE of a hub's port with PORT_RESET (11.24.2.13)
abbrev pub sets_address : Setup → Bool
sets_address setup = setup.request_type == 0 && setup.request == 5

abbrev pub sets_descriptor : Setup → Bool
sets_descriptor setup = setup.request_type == 0 && setup.request == 7

abbrev pub resets_port : Setup → Bool
resets_port setup = setup.request_type == 35 && setup.request == 3 && setup.value == 4

-- Whether what a device said may not hold after a transfer: a device of its bus has been reset, since one has address 0 or a
-- port is reset, and it may be this one (9.1.1.3); it takes another address; or its descriptors are set.
abbrev pub may_change : ControlTransfer → Asked → Bool
may_change t asked =
    t.bus == asked.bus && (t.device == 0 || resets_port t.setup || (t.device == asked.device && (sets_address t.setup || sets_descriptor t.setup)))

-- a transfer of another device, by which none of its bus is reset
abbrev pub is_of_another : ControlTransfer → ControlTransfer → Bool
is_of_another t u = not (u.bus == t.bus) || (not (u.device == t.device) && not (u.device == 0) && not (resets_port u.setup))

-- a transfer by which bytes of the descriptor came that was asked for, of the type in the high byte of wValue
abbrev pub gives : ControlTransfer → Bool
gives t = reads_descriptor t.setup && is_done t.ending && not t.is_cut && nat_lt 1 (length t.data) && slice_index t.data 1 == t.setup.value / 256

-- What a device has said of a descriptor, by the transfers before, of which the last is the first in the list: of each byte
-- what was said last.
abbrev pub said_after : ControlTransfer → Asked → List ℕ → List ℕ
said_after t asked before =
    if may_change t asked then []
    else if gives t && is_same (asked_of t) asked then t.data ++ drop (length t.data) before
    else before

abbrev pub said : Asked → List ControlTransfer → List ℕ
said asked [] = []
said asked (t ∷ earlier) = said_after t asked (said asked earlier)

-- More bytes than wLength.
abbrev pub is_answered : Ending → Bool
is_answered Unseen = false
is_answered Done = true
is_answered Stall = true
is_answered (Failed status) = true
is_answered (Refused status) = false

abbrev pub has_more_than_asked : ControlTransfer → Bool
has_more_than_asked t = is_answered t.ending && nat_lt t.setup.length t.length

-- What came by GET_DESCRIPTOR of a device, where it is one of the five that table 9-5 has for it: device 1, configuration 2,
-- string 3, device qualifier 6, other-speed configuration 7.
abbrev pub is_standard_type : ℕ → Bool
is_standard_type type = type == 1 || type == 2 || type == 3 || type == 6 || type == 7

abbrev pub brings_descriptor : ControlTransfer → Bool
brings_descriptor t = reads_descriptor t.setup && is_done t.ending && not t.is_cut && is_standard_type (t.setup.value / 256) && nat_lt 1 (length t.data)

abbrev pub has_other_type : ControlTransfer → Bool
has_other_type t = brings_descriptor t && not (slice_index t.data 1 == t.setup.value / 256)

-- how many bytes it takes to know a descriptor's length: wTotalLength of a configuration ends with the fourth
abbrev pub length_bytes : ℕ → ℕ
length_bytes type = if type == 2 || type == 7 then 4 else 1

-- A host that doesn't know bMaxPacketSize0 yet takes a first packet of the device descriptor that is shorter than it
-- thinks for the last one: then just that many bytes come (5.5.3).
abbrev pub is_first_packet : ℕ → ControlTransfer → Bool
is_first_packet type t = type == 1 && t.length == slice_index t.data 7

-- neither all of it nor wLength bytes came, where it was as long as it says (9.4.3)
abbrev pub has_other_length : ControlTransfer → Bool
has_other_length t =
    let type = t.setup.value / 256 in
    brings_descriptor t && slice_index t.data 1 == type && not (nat_lt (length t.data) (length_bytes type))
    && not (t.length == min t.setup.length (full_length type t.data)) && not (is_first_packet type t)

-- whether two lists differ where both have a byte
abbrev pub differ : List ℕ → List ℕ → Bool
differ b c = list_any (λ bytes. not (bytes.0 == bytes.1)) (zip b c)

-- Which strings descriptors name (9.6.7), and what a device has by what it said.

-- iConfiguration of a configuration (9.6.3), iInterface of an interface (9.6.5) and iFunction of an association (its ECN), of
-- the descriptor that these bytes are
abbrev pub string_index : List ℕ → ℕ
string_index b =
    if slice_index b 1 == 2 || slice_index b 1 == 7 then slice_index b 6
    else if slice_index b 1 == 4 then slice_index b 8
    else if slice_index b 1 == 11 then slice_index b 7
    else 0

-- whether one of the first this many descriptors that stand one after another names the string of this index
unfoldable pub names_in : ℕ → ℕ → List ℕ → Bool
names_in zero n b = false
names_in (suc most) n b =
    if nat_lt 1 (slice_index b 0) then string_index (take (slice_index b 0) b) == n || names_in most n (drop (slice_index b 0) b) else false

-- whether one of all of them does
abbrev pub names : ℕ → List ℕ → Bool
names n b = names_in (length b) n b

-- iManufacturer, iProduct and iSerialNumber of the device descriptor (9.6.1)
abbrev pub device_names : ℕ → List ℕ → Bool
device_names n b = slice_index b 14 == n || slice_index b 15 == n || slice_index b 16 == n

-- whether this language is among these codes of two bytes
abbrev pub lists_language : ℕ → List ℕ → Bool
lists_language language [] = false
lists_language language (low ∷ []) = false
lists_language language (low ∷ high ∷ rest) = low + 256 * high == language || lists_language language rest

-- whether it is in a language list, string 0 (9.6.7)
abbrev pub has_language : ℕ → List ℕ → Bool
has_language language b = lists_language language (drop 2 b)

-- Another descriptor of the same device.
abbrev pub beside : Asked → ℕ → Asked
beside asked value = record asked { value = value; index = 0 }

-- whether the device's descriptor or one of its configurations names a string
abbrev pub is_named : (Asked → List ℕ) → Asked → ℕ → Bool
is_named known asked n =
    let device = known (beside asked 256) in
    device_names n device || list_any (λ i. names n (known (beside asked (512 + i)))) (range_with_len 0 (slice_index device 17))

-- the device descriptor and configuration 0: all devices have them (9.4.3)
abbrev pub is_required : Asked → Bool
is_required asked = (asked.value == 256 || asked.value == 512) && asked.index == 0

-- the next configurations that bNumConfigurations of the device descriptor counts (9.6.1), and those at the other speed that the
-- qualifier's counts (9.6.2)
abbrev pub is_counted : (Asked → List ℕ) → Asked → Bool
is_counted known asked =
    asked.index == 0
    && ((asked.value / 256 == 2 && nat_lt 0 (asked.value % 256) && nat_lt (asked.value % 256) (slice_index (known (beside asked 256)) 17))
    || (asked.value / 256 == 7 && nat_lt (asked.value % 256) (slice_index (known (beside asked 1536)) 8)))

-- whether a device descriptor names any string
abbrev pub names_any : List ℕ → Bool
names_any b = nat_lt 0 (slice_index b 14) || nat_lt 0 (slice_index b 15) || nat_lt 0 (slice_index b 16)

-- the language list, where the device descriptor names a string, and a string that is named, in a language of the list (9.6.7)
unfoldable pub is_named_string : (Asked → List ℕ) → Asked → Bool
is_named_string known asked =
    if asked.value == 768 then asked.index == 0 && names_any (known (beside asked 256))
    else asked.value / 256 == 3 && has_language asked.index (known (beside asked 768)) && is_named known asked (asked.value % 256)

-- A refusal by STALL (8.5.3.4).
abbrev pub is_stall : Ending → Bool
is_stall Unseen = false
is_stall Done = false
is_stall Stall = true
is_stall (Failed status) = false
is_stall (Refused status) = false

abbrev pub refuses_descriptor : ControlTransfer → Bool
refuses_descriptor t = reads_descriptor t.setup && is_stall t.ending

-- the refusal of a descriptor of which the device said nothing before
abbrev pub refuses_unsaid : (Asked → List ℕ) → ControlTransfer → Bool
refuses_unsaid known t = refuses_descriptor t && length (known (asked_of t)) == 0

-- GET_STATUS of the device, as table 9-4 has it
abbrev pub reads_status : Setup → Bool
reads_status setup = setup.request_type == 128 && setup.request == 0 && setup.value == 0 && setup.index == 0 && setup.length == 2

abbrev pub refuses_status : ControlTransfer → Bool
refuses_status t = is_stall t.ending && reads_status t.setup && nat_lt 0 t.device

-- How a device takes its address, and its configurations by what it said of them.

-- SET_ADDRESS with an address that there is (9.4.6)
abbrev pub gives_address : Setup → Bool
gives_address setup = sets_address setup && nat_lt setup.value 128 && setup.index == 0 && setup.length == 0

abbrev pub refuses_address : ControlTransfer → Bool
refuses_address t = is_stall t.ending && gives_address t.setup && t.device == 0

-- SET_CONFIGURATION, of which the high byte of wValue is reserved (9.4.7), and GET_CONFIGURATION (9.4.2), as table 9-4 has them
abbrev pub sets_configuration : Setup → Bool
sets_configuration setup = setup.request_type == 0 && setup.request == 9 && nat_lt setup.value 256 && setup.index == 0 && setup.length == 0

abbrev pub reads_configuration : Setup → Bool
reads_configuration setup = setup.request_type == 128 && setup.request == 8 && setup.value == 0 && setup.index == 0 && setup.length == 1

-- bNumConfigurations of the device (9.6.1), and what it said of the configuration of this index
abbrev pub configuration_count : (Asked → List ℕ) → Asked → ℕ
configuration_count known asked = slice_index (known (beside asked 256)) 17

abbrev pub configuration : (Asked → List ℕ) → Asked → ℕ → List ℕ
configuration known asked i = known (beside asked (512 + i))

-- whether bConfigurationValue of one of these is this value (9.6.3)
abbrev pub is_configuration_value : (Asked → List ℕ) → Asked → ℕ → Bool
is_configuration_value known asked value =
    list_any (λ i. slice_index (configuration known asked i) 5 == value) (range_with_len 0 (configuration_count known asked))

-- whether there are any, and the device said the value of each
abbrev pub all_are_known : (Asked → List ℕ) → Asked → Bool
all_are_known known asked =
    nat_lt 0 (configuration_count known asked)
    && list_all (λ i. nat_lt 5 (length (configuration known asked i))) (range_with_len 0 (configuration_count known asked))

-- whether no configuration can have this value: 0 is that of none
abbrev pub is_no_value : (Asked → List ℕ) → Asked → ℕ → Bool
is_no_value known asked value = not (value == 0) && all_are_known known asked && not (is_configuration_value known asked value)

abbrev pub refuses_configuration : (Asked → List ℕ) → ControlTransfer → Bool
refuses_configuration known t =
    is_stall t.ending && sets_configuration t.setup && nat_lt 0 t.device
    && (t.setup.value == 0 || is_configuration_value known (asked_of t) t.setup.value)

abbrev pub takes_configuration : (Asked → List ℕ) → ControlTransfer → Bool
takes_configuration known t = is_done t.ending && sets_configuration t.setup && nat_lt 0 t.device && is_no_value known (asked_of t) t.setup.value

-- GET_CONFIGURATION isn't answered, or with another value than 0 and those of configurations
abbrev pub tells_no_value : (Asked → List ℕ) → ControlTransfer → Bool
tells_no_value known t = is_done t.ending && not t.is_cut && length t.data == 1 && is_no_value known (asked_of t) (slice_index t.data 0)

abbrev pub has_other_configuration : (Asked → List ℕ) → ControlTransfer → Bool
has_other_configuration known t = reads_configuration t.setup && nat_lt 0 t.device && (is_stall t.ending || tells_no_value known t)

-- a configuration that bNumConfigurations, where it is known and not 0, doesn't count (9.4.3 and 9.6.1)
abbrev pub is_uncounted : (Asked → List ℕ) → Asked → Bool
is_uncounted known asked =
    asked.index == 0 && asked.value / 256 == 2 && nat_lt 0 (configuration_count known asked) && nat_le (configuration_count known asked) (asked.value % 256)

-- Whether a finding holds of a transfer, of a device that has said this before. The others need its state.
abbrev pub holds : Finding → (Asked → List ℕ) → ControlTransfer → Bool
holds MoreThanAsked known t = has_more_than_asked t
holds OtherType known t = has_other_type t
holds OtherLength known t = has_other_length t
holds OtherBytes known t = gives t && differ t.data (known (asked_of t))
holds RefusesGiven known t = refuses_descriptor t && not (length (known (asked_of t)) == 0)
holds RefusesRequired known t = refuses_unsaid known t && is_required (asked_of t)
holds RefusesCounted known t = refuses_unsaid known t && is_counted known (asked_of t)
holds RefusesNamed known t = refuses_unsaid known t && is_named_string known (asked_of t)
holds RefusesStatus known t = refuses_status t
holds RefusesAddress known t = refuses_address t
holds RefusesConfiguration known t = refuses_configuration known t
holds TakesConfiguration known t = takes_configuration known t
holds OtherConfiguration known t = has_other_configuration known t
holds GivesUncounted known t = gives t && is_uncounted known (asked_of t)
holds finding known t = false
