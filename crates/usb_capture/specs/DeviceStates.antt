-- The state that a device's control transfers have led it to, and what it answers then (USB 2.0, 9.1.1 and 9.4).
use Rattle.std.specs.Prelude.{ℕ, zero, suc, ◌/◌, ◌%◌, ◌==◌, ◌&&◌, ◌||◌, Bool, true, false, not, List, [], ◌∷◌, length, map, drop, slice_index, nat_lt, nat_le, Option, Some, None, if◌then◌else◌}
use Rattle.std.specs.List.{list_all, list_any, range_with_len}
use Rattle.usb_fields.specs.declared.setup.Setup.{Setup}
use Rattle.usb_fields.specs.Setup.{class_of}
use Rattle.usb_device.specs.declared.state.State.{State}
use Rattle.usb_device.specs.Freedoms.{is_either_to, is_standard}
use Rattle.usb_device.specs.Offers.{EndpointOffer, Offer, SetOffer, SettingOffer}
use Rattle.usb_device.specs.Requests.{Outcome, Bytes, Done, Refused, Takes, answer_to, can_wake, selected_settings}
use Rattle.usb_device.specs.States as states
use Rattle.usb_capture.specs.declared.asked.Asked.{Asked}
use Rattle.usb_capture.specs.declared.control_transfer.ControlTransfer.{ControlTransfer}
use Rattle.usb_capture.specs.Findings.{asked_of, configuration, configuration_count, gives_address, is_stall, may_change, reads_configuration, said}
use Rattle.usb_capture.specs.Readings.{is_done, is_whole}

-- What a device offers by what it said of its configurations: that on which its answers depend.

-- the endpoints of a setting, of which these are the bytes after the interface descriptor: those up to the next one (9.6.5, 9.6.6)
unfoldable pub endpoints_said : ℕ → List ℕ → List EndpointOffer
endpoints_said zero b = []
endpoints_said (suc most) b =
    if not (nat_lt 1 (slice_index b 0)) || slice_index b 1 == 4 then []
    else if slice_index b 1 == 5 then record { address = slice_index b 2; attributes = slice_index b 3 } ∷ endpoints_said most (drop (slice_index b 0) b)
    else endpoints_said most (drop (slice_index b 0) b)

-- the settings of a configuration (9.6.5)
unfoldable pub settings_said : ℕ → List ℕ → List SettingOffer
settings_said zero b = []
settings_said (suc most) b =
    if not (nat_lt 1 (slice_index b 0)) then []
    else if slice_index b 1 == 4 then
    record { number = slice_index b 2; alternate = slice_index b 3; endpoints = endpoints_said most (drop (slice_index b 0) b) }
    ∷ settings_said most (drop (slice_index b 0) b)
    else settings_said most (drop (slice_index b 0) b)

abbrev pub set_said : List ℕ → SetOffer
set_said b = record { value = slice_index b 5; attributes = slice_index b 7; settings = settings_said (length b) b }

-- of its descriptors nothing is asked here
abbrev pub offer_said : (Asked → List ℕ) → Asked → Offer
offer_said known asked = record {
  packet = 0;
  descriptor = λ type index language. None;
  sets = map (λ i. set_said (configuration known asked i)) (range_with_len 0 (configuration_count known asked));
}

-- whether descriptors stand one after another to the end
unfoldable pub are_descriptors : ℕ → List ℕ → Bool
are_descriptors most [] = true
are_descriptors zero (length ∷ rest) = false
are_descriptors (suc most) (size ∷ rest) = nat_lt 1 size && nat_le size (length (size ∷ rest)) && are_descriptors most (drop size (size ∷ rest))

-- whether there are configurations, and the device said all of each, in whole descriptors
abbrev pub is_all_said : List ℕ → Bool
is_all_said b = is_whole 2 b && are_descriptors (length b) b

abbrev pub are_all_said : (Asked → List ℕ) → Asked → Bool
are_all_said known asked =
    nat_lt 0 (configuration_count known asked)
    && list_all (λ i. is_all_said (configuration known asked i)) (range_with_len 0 (configuration_count known asked))

-- Its state, where it is known.

-- SET_ADDRESS is done at address 0: the device of this address is in the Address state, as it was reset before (9.1.1.4)
abbrev pub takes_address : ControlTransfer → Asked → Bool
takes_address t asked =
    is_done t.ending && gives_address t.setup && t.bus == asked.bus && t.device == 0 && t.setup.value == asked.device && nat_lt 0 asked.device

abbrev pub state_at : ℕ → State
state_at address = record states.zero { address = address }

-- CLEAR_FEATURE, SET_FEATURE, SET_CONFIGURATION and SET_INTERFACE change it (9.4)
abbrev pub changes_state : Setup → Bool
changes_state q = is_standard (class_of q.request_type) && (q.request == 1 || q.request == 3 || q.request == 9 || q.request == 11)

-- the state after an answer to such a request
abbrev pub state_by : Outcome → Option State
state_by (Bytes bytes) = None
state_by (Done next) = Some next
state_by Refused = None
state_by (Takes judge) = None

-- It is known where the request was refused, or done as by a device that offers this.
abbrev pub state_changed : Bool → Offer → ControlTransfer → State → Option State
state_changed is_known offer t s =
    if is_stall t.ending then Some s else if is_done t.ending && is_known then state_by (answer_to offer s t.setup) else None

abbrev pub with_change : (Asked → List ℕ) → ControlTransfer → Option State → Option State
with_change known t None = None
with_change known t (Some s) = state_changed (are_all_said known (asked_of t)) (offer_said known (asked_of t)) t s

-- after a transfer, of a device that has said this before
abbrev pub state_after : (Asked → List ℕ) → ControlTransfer → Asked → Option State → Option State
state_after known t asked before =
    if takes_address t asked then Some (state_at asked.device)
    else if may_change t asked then None
    else if t.bus == asked.bus && t.device == asked.device && changes_state t.setup then with_change known t before
    else before

-- after these transfers, of which the last is the first in the list
abbrev pub state_known : Asked → List ControlTransfer → Option State
state_known asked [] = None
state_known asked (t ∷ earlier) = state_after (λ a. said a earlier) t asked (state_known asked earlier)

-- The answers that are compared: those to requests for which 9.4 has one in each state, where no field has a value that it
-- doesn't specify.

-- GET_STATUS of the device, an interface or an endpoint (9.4.5)
abbrev pub asks_for_status : Setup → Bool
asks_for_status q =
    ((q.request_type == 128 && q.index == 0) || q.request_type == 129 || q.request_type == 130)
    && q.request == 0 && q.value == 0 && nat_lt q.index 256 && q.length == 2

-- CLEAR_FEATURE and SET_FEATURE of DEVICE_REMOTE_WAKEUP and of an endpoint's ENDPOINT_HALT (9.4.1, 9.4.9)
abbrev pub changes_feature : Setup → Bool
changes_feature q =
    (q.request == 1 || q.request == 3) && q.length == 0
    && ((q.request_type == 0 && q.value == 1 && q.index == 0) || (q.request_type == 2 && q.value == 0 && nat_lt q.index 256))

-- GET_INTERFACE and SET_INTERFACE (9.4.4, 9.4.10)
abbrev pub is_of_setting : Setup → Bool
is_of_setting q =
    nat_lt q.index 256
    && ((q.request_type == 129 && q.request == 10 && q.value == 0 && q.length == 1)
    || (q.request_type == 1 && q.request == 11 && nat_lt q.value 256 && q.length == 0))

abbrev pub is_compared : Setup → Bool
is_compared q = asks_for_status q || changes_feature q || is_of_setting q || reads_configuration q

-- The same bytes, or a status that may be another one: a device may be self-powered at times, and halts an endpoint by itself (9.4.5).
abbrev pub is_like : Setup → ℕ → ℕ → Bool
is_like q came has =
    came == has || (asks_for_status q && ((q.request_type == 128 && came / 2 == has / 2) || (q.request_type == 130 && came == 1)))

abbrev pub are_like : Setup → List ℕ → List ℕ → Bool
are_like q [] [] = true
are_like q (came ∷ []) (has ∷ []) = is_like q came has
are_like q (came ∷ next ∷ []) (has ∷ other ∷ []) = is_like q came has && next == other
are_like q came has = false

-- whether a transfer shows this answer to its request
abbrev pub shows : Outcome → ControlTransfer → Bool
shows (Bytes bytes) t = is_done t.ending && t.length == length bytes && (t.is_cut || are_like t.setup t.data bytes)
shows (Done next) t = is_done t.ending
shows Refused t = is_stall t.ending
shows (Takes judge) t = false

-- Requests that a device may carry out or refuse, beside those of which a device under test may: remote wakeup where its configurations
-- differ in it (9.6.3), and the halt of a control endpoint, since it is for bulk and interrupt endpoints (9.4.5).
abbrev pub may_wake : Offer → Setup → Bool
may_wake offer q = q.request_type == 0 && changes_feature q && list_any can_wake offer.sets && not (list_all can_wake offer.sets)

-- whether a setting is the one that was chosen for its interface, and has the endpoint of this address, of this type: bits 1..0 of
-- bmAttributes, 0 of a control endpoint, 1 of an isochronous one (9.6.6)
abbrev pub is_of_type_at : ℕ → ℕ → EndpointOffer → Bool
is_of_type_at type address e = e.address == address && e.attributes % 4 == type

abbrev pub has_of_type : ℕ → List ℕ → ℕ → SettingOffer → Bool
has_of_type type alternates address t = slice_index alternates t.number == t.alternate && list_any (is_of_type_at type address) t.endpoints

abbrev pub may_halt : Offer → State → Setup → Bool
may_halt offer s q = q.request_type == 2 && changes_feature q && list_any (has_of_type 0 s.alternates q.index) (selected_settings offer s)

abbrev pub is_either : Offer → State → Setup → Bool
is_either offer s q = is_either_to offer s q || may_wake offer q || may_halt offer s q

-- whether it shows another one than that of a device that offers this, in this state
abbrev pub differs_by : Offer → State → ControlTransfer → Bool
differs_by offer s t =
    (is_done t.ending || is_stall t.ending) && not (is_either offer s t.setup) && not (shows (answer_to offer s t.setup) t)

abbrev pub differs_in : (Asked → List ℕ) → Option State → ControlTransfer → Bool
differs_in known None t = false
differs_in known (Some s) t = are_all_said known (asked_of t) && differs_by (offer_said known (asked_of t)) s t

-- Whether a device answers otherwise than one with the descriptors that it said, in the state to which these transfers have led.
abbrev pub answers_otherwise : List ControlTransfer → ControlTransfer → Bool
answers_otherwise earlier t = is_compared t.setup && differs_in (λ asked. said asked earlier) (state_known (asked_of t) earlier) t
