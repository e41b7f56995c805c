-- What is wrong with an input, in words.
use Rattle.std.specs.Prelude.{ℕ, List, ◌++◌, codes}
use Rattle.usb_set.specs.Numbers.{why_message as set_message}
use Rattle.usb_file_data.specs.declared.fault.FileWhy.{FileWhy}
use Rattle.usb_file_data.specs.declared.fault.FileWhy.TheVariants as files
use Rattle.usb_file_data.specs.declared.fault.InputFault.{InputFault}
use Rattle.usb_file_data.specs.declared.fault.InputFault.TheVariants as faults
use Rattle.usb_file_data.specs.FileFaults.{why_message as file_message}

-- why a file is none: where a set in it is at fault, that it is one, and why that is none
abbrev pub file_words : FileWhy → List ℕ
file_words (files.Set why) = file_message (files.Set why) ++ codes ", " ++ set_message why
file_words why = file_message why

-- of a set in it only why that is none
abbrev pub innermost : FileWhy → List ℕ
innermost (files.Set why) = set_message why
innermost why = file_message why

-- why bytes are no input
abbrev pub fault_words : InputFault → List ℕ
fault_words (faults.Set fault) = set_message fault.why
fault_words (faults.Trailing at) = codes "bytes after the set"
fault_words (faults.File fault) = file_words fault.why
