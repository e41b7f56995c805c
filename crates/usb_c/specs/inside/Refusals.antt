-- How faults are reported: out of memory is no fault of the bytes.
use Rattle.std.specs.Prelude.{Bool, true, false}
use Rattle.usb_c.specs.declared.answer.Verdict.{Verdict}
use Rattle.usb_c.specs.declared.answer.Verdict.TheVariants as verdicts
use Rattle.usb_c.specs.Answers.{refused_set}
use Rattle.usb_file_data.specs.declared.fault.InputFault.{InputFault}
use Rattle.usb_file_data.specs.declared.fault.InputFault.TheVariants as inputs
use Rattle.usb_set.specs.declared.fault.SetWhy.{SetWhy}
use Rattle.usb_set.specs.declared.fault.SetWhy.TheVariants as sets
use Rattle.usb_file_data.specs.declared.fault.FileFault.{FileFault}
use Rattle.usb_file_data.specs.declared.fault.FileWhy.{FileWhy}
use Rattle.usb_file_data.specs.declared.fault.FileWhy.TheVariants as files
use Rattle.usb_listing.specs.declared.fault.ListFault.{ListFault}
use Rattle.usb_listing.specs.declared.fault.ListWhy.{ListWhy}
use Rattle.usb_listing.specs.declared.fault.ListWhy.TheVariants as lists
use Rattle.usb_hex.specs.declared.hex_text.HexFault.{HexFault}
use Rattle.usb_hex.specs.declared.hex_text.HexFault.TheVariants as hexes
use Rattle.usb_device.specs.declared.acceptance.DescriptionFault.{DescriptionFault}
use Rattle.usb_device.specs.declared.acceptance.DescriptionFault.TheVariants as descriptions

-- of a file
abbrev pub file_by : FileWhy → FileFault → Verdict
file_by files.Memory fault = verdicts.NoMemory
file_by why fault = verdicts.Broken (inputs.File fault) 0

abbrev pub refused_file : FileFault → Verdict
refused_file fault = file_by fault.why fault

-- of an input
abbrev pub refused_input : InputFault → Verdict
refused_input (inputs.Set fault) = refused_set fault
refused_input (inputs.Trailing at) = verdicts.Broken (inputs.Trailing at) 0
refused_input (inputs.File fault) = refused_file fault

-- of a listing
abbrev pub list_by : ListWhy → ListFault → Verdict
list_by lists.Memory fault = verdicts.NoMemory
list_by why fault = verdicts.List fault

abbrev pub refused_list : ListFault → Verdict
refused_list fault = list_by fault.why fault

-- of a hexadecimal text
abbrev pub refused_text : HexFault → Verdict
refused_text (hexes.Text line column found) = verdicts.Text line column
refused_text hexes.Memory = verdicts.NoMemory

-- of a description
abbrev pub refused_description : DescriptionFault → Verdict
refused_description descriptions.Memory = verdicts.NoMemory
refused_description fault = verdicts.Description fault

-- whether memory was wanting
abbrev pub set_wants : SetWhy → Bool
set_wants sets.Memory = true
set_wants why = false

abbrev pub file_wants : FileWhy → Bool
file_wants files.Memory = true
file_wants why = false

abbrev pub wants_memory : InputFault → Bool
wants_memory (inputs.Set fault) = set_wants fault.why
wants_memory (inputs.Trailing at) = false
wants_memory (inputs.File fault) = file_wants fault.why
