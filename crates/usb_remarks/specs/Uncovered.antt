-- How many bytes before the fault of a broken input may be under no heading.
use Rattle.std.specs.Prelude.{ℕ}
use Rattle.usb_set.specs.declared.fault.SetWhy.{SetWhy}
use Rattle.usb_set.specs.declared.fault.SetWhy.TheVariants as whys
use Rattle.usb_file_data.specs.declared.fault.FileWhy.{FileWhy}
use Rattle.usb_file_data.specs.declared.fault.FileWhy.TheVariants as files
use Rattle.usb_file_data.specs.declared.fault.InputFault.{InputFault}
use Rattle.usb_file_data.specs.declared.fault.InputFault.TheVariants as faults

-- none, unless the first descriptor of a set is at fault at its type or at its wTotalLength, or the bytes end in a descriptor
abbrev pub uncovered_in_set : SetWhy → ℕ
uncovered_in_set whys.HeaderKind = 1
uncovered_in_set whys.Total = 2
uncovered_in_set whys.Truncated = 254
uncovered_in_set why = 0

-- the same in a file; a set of the other kind is at fault at its type
abbrev pub uncovered_in_file : FileWhy → ℕ
uncovered_in_file (files.Set why) = uncovered_in_set why
uncovered_in_file files.SetKind = 1
uncovered_in_file files.Truncated = 254
uncovered_in_file why = 0

-- the same of any fault
abbrev pub most_uncovered : InputFault → ℕ
most_uncovered (faults.Set fault) = uncovered_in_set fault.why
most_uncovered (faults.Trailing at) = 0
most_uncovered (faults.File fault) = uncovered_in_file fault.why
