use Rattle.std.proofs.Common.{◌≡◌, drop}
use Rattle.usb_remarks.specs.InterfaceNumbers.{first_missing}
use Rattle.usb_remarks.proofs.interface_numbers.InterfaceNumbers.first_missing.Given as goal

abbrev pub invariant-loop-number : goal.invariant-loop-number
invariant-loop-number l = first_missing l.self (drop l.number-index l.numbers) ≡ first_missing l.self l.numbers
