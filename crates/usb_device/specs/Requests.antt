-- What a device answers to each standard request (USB 2.0, 9.4). A request that is in none of these rows, or has
-- another recipient or another value there, is refused. D, A and C are the states Default, Address and Configured.
use Rattle.std.specs.Prelude.{ℕ, ◌+◌, ◌*◌, ◌/◌, ◌%◌, ◌==◌, ◌&&◌, ◌||◌, nat_lt, Bool, true, false, not, List, [], ◌∷◌, length, take, map, fold, slice_get, slice_index, slice_set, find, Option, Some, None, if◌then◌else◌}
use Rattle.std.specs.List.{list_any, flat_map}
use Rattle.usb_fields.specs.declared.setup.Setup.{Setup}
use Rattle.usb_fields.specs.declared.setup.Class.{Class}
use Rattle.usb_fields.specs.declared.setup.Class.TheVariants as classes
use Rattle.usb_fields.specs.declared.setup.Direction.{Direction}
use Rattle.usb_fields.specs.declared.setup.Direction.TheVariants as directions
use Rattle.usb_fields.specs.declared.setup.Recipient.{Recipient}
use Rattle.usb_fields.specs.declared.setup.Recipient.TheVariants.{Device, Interface, Endpoint, Other, Reserved}
use Rattle.usb_fields.specs.Setup.{direction_of, class_of, recipient_of}
use Rattle.usb_file_data.specs.declared.file.DescriptorFile.{DescriptorFile}
use Rattle.usb_device.specs.Offers.{EndpointOffer, Offer, SetOffer, SettingOffer, offer_of}
use Rattle.usb_device.specs.declared.state.State.{State}
use Rattle.usb_device.specs.States.{first_alternates, has_address, is_configured, halt_of, with_halt, without_halt}

-- the answer to a request: bytes for the data stage, or no data stage and the next state, or a refusal, which the
-- device tells by STALL (9.2.7). No row gives the fourth, which is an owner's: the data that the host sends are taken, and
-- judged when all have come.
pub data Outcome : Type 0 where
  Bytes : (bytes : List ℕ) → Outcome
  Done : (next : State) → Outcome
  Refused : Outcome
  Takes : (judge : List ℕ → Bool) → Outcome

-- The shapes of the rows.

-- the answer where the test holds, and else a refusal
abbrev pub when : Bool → Outcome → Outcome
when true outcome = outcome
when false outcome = Refused

-- these bytes by a data stage to the host
abbrev pub bytes_in : Direction → List ℕ → Outcome
bytes_in directions.In bytes = Bytes bytes
bytes_in directions.Out bytes = Refused

-- a descriptor, cut to wLength. With wLength 0 there is no data stage (9.3.5)
abbrev pub gives : State → Setup → Option (List ℕ) → Outcome
gives s q None = Refused
gives s q (Some bytes) = if q.length == 0 then Done s else bytes_in (direction_of q.request_type) (take q.length bytes)

-- these bytes, where just this many are asked for
abbrev pub tells : Setup → List ℕ → Outcome
tells q bytes = when (q.length == length bytes) (bytes_in (direction_of q.request_type) bytes)

-- a next state, where no data stage is asked for
abbrev pub does : Setup → State → Outcome
does q next = when (q.length == 0) (Done next)

-- What a request can name.

-- whether this is the value of the set
abbrev pub has_value : ℕ → SetOffer → Bool
has_value value c = c.value == value

-- the settings of a set, if there is one
abbrev pub settings_of : Option SetOffer → List SettingOffer
settings_of None = []
settings_of (Some c) = c.settings

-- the settings of the set that was selected
abbrev pub selected_settings : Offer → State → List SettingOffer
selected_settings o s = settings_of (find (has_value s.selected) o.sets)

-- whether the setting is one of the interface of this number
abbrev pub is_of_interface : ℕ → SettingOffer → Bool
is_of_interface number t = t.number == number

-- whether it is this alternate setting of it
abbrev pub is_alternate : ℕ → ℕ → SettingOffer → Bool
is_alternate number alternate t = (t.number == number) && (t.alternate == alternate)

-- whether the endpoint has this address
abbrev pub is_at : ℕ → EndpointOffer → Bool
is_at address e = e.address == address

-- whether the setting is the one that was chosen for its interface, and has the endpoint
abbrev pub has_endpoint : List ℕ → ℕ → SettingOffer → Bool
has_endpoint alternates address t = (slice_index alternates t.number == t.alternate) && list_any (is_at address) t.endpoints

-- wIndex is the number of an interface of the selected set
abbrev pub names_interface : Offer → State → ℕ → Bool
names_interface o s index = nat_lt index 256 && list_any (is_of_interface index) (selected_settings o s)

-- wIndex is the number of an interface of the selected set, and wValue one of its alternate settings
abbrev pub names_alternate : Offer → State → ℕ → ℕ → Bool
names_alternate o s index value =
    nat_lt index 256 && nat_lt value 256 && list_any (is_alternate index value) (selected_settings o s)

-- wIndex is the address of an endpoint in a chosen setting of the selected set
abbrev pub names_endpoint : Offer → State → ℕ → Bool
names_endpoint o s index = nat_lt index 256 && list_any (has_endpoint s.alternates index) (selected_settings o s)

-- wIndex is endpoint zero, as OUT or as IN
abbrev pub names_endpoint_zero : ℕ → Bool
names_endpoint_zero index = (index == 0) || (index == 128)

-- the address of an endpoint
abbrev pub address_of : EndpointOffer → ℕ
address_of e = e.address

-- the addresses of the endpoints of a setting, where it is one of the interface of this number
abbrev pub addresses_in : ℕ → SettingOffer → List ℕ
addresses_in number t = if t.number == number then map address_of t.endpoints else []

-- the addresses of all endpoints of any setting of an interface
abbrev pub interface_addresses : List SettingOffer → ℕ → List ℕ
interface_addresses settings number = flat_map (addresses_in number) settings

-- bmAttributes of a set, if there is one
abbrev pub attributes_of : Option SetOffer → ℕ
attributes_of None = 0
attributes_of (Some c) = c.attributes

-- bmAttributes of the selected set, and in A of the first
abbrev pub shown_attributes : Offer → State → ℕ
shown_attributes o s = attributes_of (if is_configured s then find (has_value s.selected) o.sets else slice_get o.sets 0)

-- whether the set has remote wakeup: bit 5 of bmAttributes
abbrev pub can_wake : SetOffer → Bool
can_wake c = c.attributes / 32 % 2 == 1

-- 1 where the test holds
abbrev pub one_if : Bool → ℕ
one_if true = 1
one_if false = 0

-- The rows.

-- GET_STATUS of the device: bit 0 self-powered, which is bit 6 of bmAttributes, bit 1 remote wakeup (9.4.5, figure 9-4)
abbrev pub status_of_device : Offer → State → Setup → Outcome
status_of_device o s q =
    when (has_address s && (q.index == 0)) (tells q ((shown_attributes o s / 64 % 2 + 2 * one_if s.wakeup) ∷ 0 ∷ []))

-- GET_STATUS of an interface: nothing is said (9.4.5, figure 9-5)
abbrev pub status_of_interface : Offer → State → Setup → Outcome
status_of_interface o s q = when (is_configured s && names_interface o s q.index) (tells q (0 ∷ 0 ∷ []))

-- GET_STATUS of an endpoint: bit 0 its halt, which endpoint zero never has (9.4.5, figure 9-6)
abbrev pub status_of_endpoint : Offer → State → Setup → Outcome
status_of_endpoint o s q =
    if names_endpoint_zero q.index then when (has_address s) (tells q (0 ∷ 0 ∷ []))
    else when (is_configured s && names_endpoint o s q.index) (tells q (halt_of s.halts q.index ∷ 0 ∷ []))

-- GET_STATUS, by recipient
abbrev pub status_of : Recipient → Offer → State → Setup → Outcome
status_of Device o s q = status_of_device o s q
status_of Interface o s q = status_of_interface o s q
status_of Endpoint o s q = status_of_endpoint o s q
status_of Other o s q = Refused
status_of Reserved o s q = Refused

-- GET_STATUS: A and C, an interface and any endpoint but zero in C alone; wValue 0, wLength 2 (9.4.5)
abbrev pub get_status : Offer → State → Setup → Outcome
get_status o s q = when (q.value == 0) (status_of (recipient_of q.request_type) o s q)

-- DEVICE_REMOTE_WAKEUP, feature 1, set or cleared, where a set has it (table 9-6)
abbrev pub wakeup_feature : Bool → Offer → State → Setup → Outcome
wakeup_feature on o s q =
    when (has_address s && (q.value == 1) && (q.index == 0) && list_any can_wake o.sets) (does q (record s { wakeup = on }))

-- the halts after the halt of an endpoint is set or cleared
abbrev pub changed_halts : Bool → ℕ → ℕ → ℕ
changed_halts true halts endpoint = with_halt halts endpoint
changed_halts false halts endpoint = without_halt halts endpoint

-- ENDPOINT_HALT, feature 0, of an endpoint other than zero, set or cleared (table 9-6)
abbrev pub halt_feature : Bool → Offer → State → Setup → Outcome
halt_feature on o s q =
    when (is_configured s && (q.value == 0) && not (names_endpoint_zero q.index) && names_endpoint o s q.index)
    (does q (record s { halts = changed_halts on s.halts q.index }))

-- a feature set or cleared, by recipient
abbrev pub feature_of : Recipient → Bool → Offer → State → Setup → Outcome
feature_of Device on o s q = wakeup_feature on o s q
feature_of Interface on o s q = Refused
feature_of Endpoint on o s q = halt_feature on o s q
feature_of Other on o s q = Refused
feature_of Reserved on o s q = Refused

-- CLEAR_FEATURE: of the device in A and C, of an endpoint in C (9.4.1)
abbrev pub clear_feature : Offer → State → Setup → Outcome
clear_feature o s q = feature_of (recipient_of q.request_type) false o s q

-- SET_FEATURE: of the device in A and C, of an endpoint in C (9.4.9)
abbrev pub set_feature : Offer → State → Setup → Outcome
set_feature o s q = feature_of (recipient_of q.request_type) true o s q

-- whether the request is to the device
abbrev pub is_device : Recipient → Bool
is_device Device = true
is_device Interface = false
is_device Endpoint = false
is_device Other = false
is_device Reserved = false

-- whether it is to an interface
abbrev pub is_interface : Recipient → Bool
is_interface Device = false
is_interface Interface = true
is_interface Endpoint = false
is_interface Other = false
is_interface Reserved = false

-- SET_ADDRESS: D and A, an address of 0 to 127; nothing but the address changes (9.4.6)
abbrev pub set_address : Offer → State → Setup → Outcome
set_address o s q =
    when (is_device (recipient_of q.request_type) && not (is_configured s) && nat_lt q.value 128 && (q.index == 0))
    (does q (record s { address = q.value }))

-- GET_DESCRIPTOR: D, A and C; the high byte of wValue is the type, the low byte the index, and wIndex the language of
-- a string (9.4.3)
abbrev pub get_descriptor : Offer → State → Setup → Outcome
get_descriptor o s q =
    when (is_device (recipient_of q.request_type)) (gives s q (o.descriptor (q.value / 256) (q.value % 256) q.index))

-- GET_CONFIGURATION: A, where it is 0, and C (9.4.2)
abbrev pub get_configuration : Offer → State → Setup → Outcome
get_configuration o s q =
    when (is_device (recipient_of q.request_type) && has_address s && (q.value == 0) && (q.index == 0)) (tells q (s.selected ∷ []))

-- SET_CONFIGURATION: A and C, 0 or the value of a set; each interface goes to alternate setting 0 and no endpoint is
-- halted, while remote wakeup stays (9.4.7 and 9.1.1.5)
abbrev pub set_configuration : Offer → State → Setup → Outcome
set_configuration o s q =
    when (is_device (recipient_of q.request_type) && has_address s && (q.index == 0) && nat_lt q.value 256
    && ((q.value == 0) || list_any (has_value q.value) o.sets))
    (does q (record s { selected = q.value; alternates = first_alternates; halts = 0 }))

-- GET_INTERFACE: C (9.4.4)
abbrev pub get_interface : Offer → State → Setup → Outcome
get_interface o s q =
    when (is_interface (recipient_of q.request_type) && is_configured s && (q.value == 0) && names_interface o s q.index)
    (tells q (slice_index s.alternates q.index ∷ []))

-- SET_INTERFACE: C, an alternate setting that the interface has; no endpoint of any of its settings is halted then
-- (9.4.10 and 9.1.1.5)
abbrev pub set_interface : Offer → State → Setup → Outcome
set_interface o s q =
    when (is_interface (recipient_of q.request_type) && is_configured s && names_alternate o s q.index q.value)
    (does q (record s {
      alternates = slice_set s.alternates q.index q.value;
      halts = fold without_halt s.halts (interface_addresses (selected_settings o s) q.index);
    }))

-- the row of a standard request, by bRequest (table 9-4)
abbrev pub row : Offer → State → Setup → Outcome
row o s q =
    if q.request == 0 then get_status o s q
    else if q.request == 1 then clear_feature o s q
    else if q.request == 3 then set_feature o s q
    else if q.request == 5 then set_address o s q
    else if q.request == 6 then get_descriptor o s q
    else if q.request == 8 then get_configuration o s q
    else if q.request == 9 then set_configuration o s q
    else if q.request == 10 then get_interface o s q
    else if q.request == 11 then set_interface o s q
    else Refused

-- the answer to a request, where class and vendor requests are refused
unfoldable pub answer_of : Class → Offer → State → Setup → Outcome
answer_of classes.Standard o s q = row o s q
answer_of classes.Class o s q = Refused
answer_of classes.Vendor o s q = Refused
answer_of classes.Reserved o s q = Refused

-- the answer of a device that offers this, in this state, to this request
unfoldable pub answer_to : Offer → State → Setup → Outcome
answer_to o s q = answer_of (class_of q.request_type) o s q

-- that of a device with these descriptors
unfoldable pub answer : DescriptorFile → State → Setup → Outcome
answer f s q = answer_of (class_of q.request_type) (offer_of f) s q
