-- What is held of devices' conversations.
use Rattle.std.specs.Prelude.{◌≡◌, ℕ, ◌==◌, ◌&&◌, ◌||◌, Bool, not, List, [], ◌∷◌, ◌++◌, length, drop, filter, find, nat_lt, Option, Some, None, if◌then◌else◌}
use Rattle.std.specs.Option.{option_map}
use Rattle.usb_device.specs.declared.state.State.{State}
use Rattle.usb_capture.specs.declared.asked.Asked.{Asked}
use Rattle.usb_capture.specs.declared.control_transfer.ControlTransfer.{ControlTransfer}
use Rattle.usb_capture.specs.declared.conversations.Conversations.{Conversations}
use Rattle.usb_capture.specs.declared.finding.Finding.{Finding}
use Rattle.usb_capture.specs.declared.finding.Finding.TheVariants.{OtherValue, OtherStatus, OtherFeature, OtherSetting}
use Rattle.usb_capture.specs.declared.known_state.KnownState.{KnownState}
use Rattle.usb_capture.specs.declared.said.Said.{Said}
use Rattle.usb_capture.specs.DeviceStates.{asks_for_status, changes_feature, changes_state, differs_in, is_compared, is_of_setting, state_at, state_known, with_change}
use Rattle.usb_capture.specs.Findings.{asked_of, gives, gives_address, has_other_configuration, holds, is_same, may_change, reads_configuration, refuses_status, said}
use Rattle.usb_capture.specs.Readings.{is_done}

-- the bytes that are held of a descriptor
abbrev pub bytes_of : Option Said → List ℕ
bytes_of None = []
bytes_of (Some said) = said.bytes

abbrev pub is_of : Asked → Said → Bool
is_of asked one = is_same one.asked asked

abbrev pub held_of : List Said → Asked → List ℕ
held_of held asked = bytes_of (find (is_of asked) held)

-- the state that is held of a device
abbrev pub is_of_device : Asked → KnownState → Bool
is_of_device asked one = one.bus == asked.bus && one.device == asked.device

abbrev pub state_of : List KnownState → Asked → Option State
state_of states asked = option_map (λ one. one.state) (find (is_of_device asked) states)

-- who holds of each descriptor what was said of it by these transfers, of which the last is the first in the list, and of each device
-- the state to which they led it
abbrev pub Knows : List ControlTransfer → Conversations → Type 0
Knows earlier conversations =
    ((asked : Asked) → held_of conversations.held.items asked ≡ said asked earlier)
    × ((asked : Asked) → state_of conversations.states.held.items asked ≡ state_known asked earlier)

-- whether a finding holds of a transfer, of a device that has said this before and is in this state
abbrev pub answers_in : (Asked → List ℕ) → Option State → ControlTransfer → Bool
answers_in known state t = is_compared t.setup && differs_in known state t

abbrev pub holds_in : Finding → (Asked → List ℕ) → Option State → ControlTransfer → Bool
holds_in OtherValue known state t = reads_configuration t.setup && not (has_other_configuration known t) && answers_in known state t
holds_in OtherStatus known state t = asks_for_status t.setup && not (refuses_status t) && answers_in known state t
holds_in OtherFeature known state t = changes_feature t.setup && answers_in known state t
holds_in OtherSetting known state t = is_of_setting t.setup && answers_in known state t
holds_in finding known state t = holds finding known t

-- what is left after a transfer, and what is added
abbrev pub still_held : ControlTransfer → List Said → List Said
still_held t held = filter (λ one. not (may_change t one.asked)) held

abbrev pub without : Asked → List Said → List Said
without asked held = filter (λ one. not (is_of asked one)) held

abbrev pub adds : ControlTransfer → Bool
adds t = gives t && not (may_change t (asked_of t))

abbrev pub said_now : ControlTransfer → List Said → Said
said_now t held = record { asked = asked_of t; bytes = t.data ++ drop (length t.data) (held_of held (asked_of t)) }

abbrev pub held_after : ControlTransfer → List Said → List Said
held_after t held = if adds t then without (asked_of t) (still_held t held) ++ said_now t held ∷ [] else still_held t held

-- the device that SET_ADDRESS gave its address, of a device with address 0
abbrev pub assigns : ControlTransfer → Bool
assigns t = is_done t.ending && gives_address t.setup && t.device == 0 && nat_lt 0 t.setup.value

abbrev pub addressed : ControlTransfer → KnownState
addressed t = record { bus = t.bus; device = t.setup.value; state = state_at t.setup.value }

-- the device of a transfer, in the state to which it leads
abbrev pub in_state : ControlTransfer → State → KnownState
in_state t state = record { bus = t.bus; device = t.device; state = state }

abbrev pub changes : ControlTransfer → Bool
changes t = changes_state t.setup && not (may_change t (asked_of t))

abbrev pub next_state : (Asked → List ℕ) → ControlTransfer → Option State → Option KnownState
next_state known t before =
    if assigns t then Some (addressed t)
    else if changes t then option_map (in_state t) (with_change known t before)
    else None

-- what is left of the states after a transfer, and what is added
abbrev pub device_of : KnownState → Asked
device_of one = record { bus = one.bus; device = one.device; value = 256; index = 0 }

abbrev pub leaves : ControlTransfer → KnownState → Bool
leaves t one = may_change t (device_of one) || (changes_state t.setup && is_of_device (asked_of t) one)

abbrev pub with_next : Option KnownState → List KnownState
with_next None = []
with_next (Some one) = one ∷ []

abbrev pub states_after : ControlTransfer → Option KnownState → List KnownState → List KnownState
states_after t next states = filter (λ one. not (leaves t one)) states ++ with_next next
