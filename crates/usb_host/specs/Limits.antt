-- The limits of a host.
use Rattle.std.specs.Prelude.{ℕ, List, codes, ◌≤◌, ◌==◌, ◌||◌, nat_lt, Option, Some, None, if◌then◌else◌}
use Rattle.usb_fields.specs.Numbers.{number_in}
use Rattle.usb_host.specs.declared.limits.LimitFault.{LimitFault}
use Rattle.usb_host.specs.contracts.limits.LimitFault.{the_type as limit_faults}
use Rattle.usb_host.specs.declared.limits.LimitFault.TheVariants.{Address, Attempts}

-- what callers see of limits
pub record LimitView : Type 0 where
  -- the address that the device gets
  pub address : ℕ
  -- the NAKs without progress that a transfer bears
  pub naks : ℕ
  -- how often an enumeration is begun at most
  pub attempts : ℕ

-- an address of a device (USB 2.0, 8.3.2.1), and one to eight attempts
pub record IsInRange (address attempts : ℕ) : Type 0 where
  pub address_from : 1 ≤ address
  pub address_to : address ≤ 127
  pub attempts_from : 1 ≤ attempts
  pub attempts_to : attempts ≤ 8

-- the first reason why limits are refused, if there is one
abbrev pub limit_fault : ℕ → ℕ → Option LimitFault
limit_fault address attempts =
    if address == 0 || nat_lt 127 address then Some Address
    else if attempts == 0 || nat_lt 8 attempts then Some Attempts
    else None

-- the number of a fault
abbrev pub limit_fault_number : LimitFault → ℕ
limit_fault_number fault = number_in limit_faults fault

-- the message of a fault, for people
abbrev pub limit_fault_message : LimitFault → List ℕ
limit_fault_message Address = codes "the address is not 1 to 127"
limit_fault_message Attempts = codes "the attempts are not 1 to 8"
