-- Where the fault of a broken input is.
use Rattle.std.specs.Prelude.{ℕ}
use Rattle.usb_file_data.specs.declared.fault.InputFault.{InputFault}
use Rattle.usb_file_data.specs.declared.fault.InputFault.TheVariants as faults

-- the place of the fault in the input
abbrev pub place_of_fault : InputFault → ℕ
place_of_fault (faults.Set fault) = fault.at
place_of_fault (faults.Trailing at) = at
place_of_fault (faults.File fault) = fault.at
