-- What a device keeps from one request to the next (USB 2.0, 9.1.1 and 9.4).
use Rattle.std.specs.Prelude.{ℕ, ◌+◌, ◌*◌, ◌/◌, ◌%◌, ◌^◌, ◌==◌, ◌&&◌, Bool, false, not, List, replicate, bit_or, bit_and, if◌then◌else◌}
use Rattle.std.specs.Int.{bit_at, bit_not, w32}
use Rattle.usb_device.specs.declared.state.State.{State}
use Rattle.usb_device.specs.declared.state.DeviceState.{DeviceState}
use Rattle.usb_device.specs.declared.state.DeviceState.TheVariants.{Default, Address, Configured}

-- the alternate setting 0 for each interface number
unfoldable pub first_alternates : List ℕ
first_alternates = replicate 256 0

-- the state of a new device, and of one that was reset
abbrev pub zero : State
zero = record { address = 0; selected = 0; alternates = first_alternates; halts = 0; wakeup = false }

-- in the Address or the Configured state: past the Default state, in which a device answers at address 0 (9.1.1.4)
abbrev pub has_address : State → Bool
has_address s = not (s.address == 0)

-- in the Configured state: with an address and a configuration (9.1.1.5)
abbrev pub is_configured : State → Bool
is_configured s = has_address s && not (s.selected == 0)

-- in which of the states of a device that has power and was reset (9.1.1, table 9-1)
abbrev pub device_state : State → DeviceState
device_state s = if is_configured s then Configured else if has_address s then Address else Default

-- the place in the halts of the endpoint with this address: that of its number, and 16 places on where it is IN
abbrev pub halt_place : ℕ → ℕ
halt_place endpoint = endpoint % 16 + 16 * (endpoint / 128 % 2)

-- whether the endpoint is halted, as a bit
abbrev pub halt_of : ℕ → ℕ → ℕ
halt_of halts endpoint = bit_at halts (halt_place endpoint)

-- the halts with that of the endpoint
abbrev pub with_halt : ℕ → ℕ → ℕ
with_halt halts endpoint = bit_or halts (2 ^ halt_place endpoint)

-- the halts without that of the endpoint
abbrev pub without_halt : ℕ → ℕ → ℕ
without_halt halts endpoint = bit_and halts (bit_not w32 (2 ^ halt_place endpoint))

-- The halted endpoints as a set: whether the endpoint with this address is in it. The law `halts_are_a_set` says of
-- both halves of the number, OUT and IN, that it is this set and nothing else.
abbrev pub is_halted : ℕ → ℕ → Bool
is_halted halts endpoint = halt_of halts endpoint == 1

-- whether two addresses are of one endpoint, with its number in bits 3..0 and its direction in bit 7 (9.6.6)
abbrev pub is_same_endpoint : ℕ → ℕ → Bool
is_same_endpoint a b = (a % 16 == b % 16) && (a / 128 % 2 == b / 128 % 2)
