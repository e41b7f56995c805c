use Rattle.std.proofs.Common.{◌≡◌, ◌++◌, drop, map}
use Rattle.usb_c.specs.Enumerations.{fate_given}
use Rattle.usb_c.proofs.enumeration.fates_of.Given as goal

abbrev pub invariant-loop-letter : goal.invariant-loop-letter
invariant-loop-letter l = l.fates.items ++ map fate_given (drop l.letter-index l.letters) ≡ map fate_given l.letters
