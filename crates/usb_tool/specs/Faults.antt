-- The numbers and the lines of the program's faults.
use Rattle.std.specs.Prelude.{ℕ, List, [], ◌++◌, codes, Result, Ok, Err}
use Rattle.std.specs.Fmt.{decimal}
use Rattle.usb_set.specs.Numbers.{why_message as set_why_message, why_number as set_why_number}
use Rattle.usb_set.specs.declared.fault.SetFault.{SetFault}
use Rattle.usb_set.specs.declared.fault.SetWhy.{SetWhy}
use Rattle.usb_set.specs.declared.fault.SetWhy.TheVariants as whys
use Rattle.usb_tool.specs.declared.fault.ToolFault.{ToolFault}
use Rattle.usb_tool.specs.contracts.fault.ToolFault.{the_type as tool_faults}
use Rattle.usb_tool.specs.declared.fault.ToolFault.TheVariants as faults
use Rattle.usb_tool.specs.declared.meaning.Hint.{Hint}
use Rattle.usb_tool.specs.declared.meaning.Hint.TheVariants as hints
use Rattle.usb_file_data.specs.FileFaults.{why_number}
use Rattle.usb_file_data.specs.declared.fault.FileFault.{FileFault}
use Rattle.usb_file_data.specs.declared.fault.FileWhy.{FileWhy}
use Rattle.usb_file_data.specs.declared.fault.FileWhy.TheVariants as files
use Rattle.usb_file_data.specs.declared.fault.InputFault.{InputFault}
use Rattle.usb_file_data.specs.declared.fault.InputFault.TheVariants as inputs
use Rattle.usb_explain.specs.FaultWords.{innermost}
use Rattle.usb_listing.specs.Listings.{why_message as list_why_message, why_number as list_why_number}
use Rattle.usb_listing.specs.declared.fault.ListFault.{ListFault}
use Rattle.usb_listing.specs.declared.fault.ListWhy.{ListWhy}
use Rattle.usb_listing.specs.declared.fault.ListWhy.TheVariants as lists
use Rattle.usb_capture.specs.FaultNumbers.{fault_number as capture_number}
use Rattle.usb_capture.specs.declared.device_file.FileLack.{FileLack}
use Rattle.usb_capture.specs.declared.device_file.FileLack.TheVariants as lacks
use Rattle.usb_capture_lines.specs.FaultWords.{capture_meaning}
use Rattle.usb_capture_lines.specs.declared.recording.DeviceFault.{DeviceFault}
use Rattle.usb_capture_lines.specs.declared.recording.DeviceFault.TheVariants as devices
use Rattle.usb_capture_lines.specs.declared.recording.RecordingFault.{RecordingFault}
use Rattle.usb_capture_lines.specs.declared.recording.RecordingFault.TheVariants as recordings
use Rattle.usb_capture_lines.specs.declared.selection.DeviceAddress.{DeviceAddress}
use Rattle.usb_text.specs.declared.output.OutFault.{OutFault}
use Rattle.usb_text.specs.declared.output.OutFault.TheVariants as outs
use Rattle.std.specs.declared.io.ErrorKind.{ErrorKind}
use Rattle.std.specs.declared.io.ErrorKind.TheVariants as kinds
use Rattle.usb_fields.specs.Numbers.{number_in}

-- the number of a fault
abbrev pub fault_number : ToolFault → ℕ
fault_number fault = number_in tool_faults fault

-- what lacks of a device's descriptors
abbrev pub lack_line : DeviceAddress → FileLack → List ℕ
lack_line a lacks.Device = codes "usbdesc: capture lacks device descriptor of " ++ decimal a.bus ++ codes "." ++ decimal a.device
lack_line a (lacks.Configuration index) =
    codes "usbdesc: capture lacks configuration " ++ decimal index ++ codes " of " ++ decimal a.bus ++ codes "." ++ decimal a.device
lack_line a lacks.Memory = codes "usbdesc: out of memory"

-- the line of a fault, without its line feed
abbrev pub fault_line : ToolFault → List ℕ
fault_line faults.Read = codes "usbdesc: read failed"
fault_line faults.Write = codes "usbdesc: write failed"
fault_line faults.TooLarge = codes "usbdesc: input too large"
fault_line (faults.File fault) =
    codes "usbdesc: file fault " ++ decimal (why_number fault.why) ++ codes " at " ++ decimal fault.at
fault_line (faults.List fault) =
    codes "usbdesc: listing fault " ++ decimal (list_why_number fault.why) ++ codes " line " ++ decimal fault.line
fault_line (faults.Set fault) =
    codes "usbdesc: set fault " ++ decimal (set_why_number fault.why) ++ codes " at " ++ decimal fault.at
fault_line (faults.Trailing at) = codes "usbdesc: trailing bytes at " ++ decimal at
fault_line faults.Memory = codes "usbdesc: out of memory"
fault_line (faults.Hex line column) =
    codes "usbdesc: hexadecimal fault line " ++ decimal line ++ codes " column " ++ decimal column
fault_line (faults.Capture why at) = codes "usbdesc: capture fault " ++ decimal (capture_number why) ++ codes " at " ++ decimal at
fault_line (faults.Lack device lack) = lack_line device lack

-- What a fault means, for people, and what to try then.

-- what a fault means
abbrev pub fault_meaning : ToolFault → List ℕ
fault_meaning faults.Read = codes "standard input can't be read"
fault_meaning faults.Write = codes "standard output can't be written"
fault_meaning faults.TooLarge = codes "no file is that long"
fault_meaning (faults.File fault) = innermost fault.why
fault_meaning (faults.List fault) = list_why_message fault.why
fault_meaning (faults.Set fault) = set_why_message fault.why
fault_meaning (faults.Trailing at) = codes "bytes after the end of the set"
fault_meaning faults.Memory = codes "there was not enough memory"
fault_meaning (faults.Hex line column) = codes "no hexadecimal text"
fault_meaning (faults.Capture why at) = capture_meaning why
fault_meaning (faults.Lack device lack) = codes "not all of it came in the recording"

-- what to try
abbrev pub hint_words : Hint → List ℕ
hint_words hints.Any = codes "; --any takes sets and dumps too"
hint_words hints.WithStrings = codes "; --with-strings takes a dump too"
hint_words hints.Comments = codes "; --comments drops comments and empty lines"
hint_words hints.Explain = codes "; see 'usbdesc explain' of it"
hint_words hints.Check = codes "; see 'usbdesc check --any' of it"
hint_words hints.Speed = codes "; try another --speed"
hint_words hints.Naks = codes "; --naks sets the limit"
hint_words hints.Log = codes "; --log shows each transaction"
hint_words hints.Nothing = []

-- what to try where the input is at fault
abbrev pub hint_at : Hint → ToolFault → List ℕ
hint_at hint (faults.File fault) = hint_words hint
hint_at hint (faults.List fault) = hint_words hint
hint_at hint (faults.Set fault) = hint_words hint
hint_at hint (faults.Trailing at) = hint_words hint
hint_at hint _ = []

-- the line below that of a fault, without its line feed
abbrev pub meaning_line : Hint → ToolFault → List ℕ
meaning_line hint fault = fault_meaning fault ++ hint_at hint fault

-- *out of memory* of a decoder is the program's own, and any other fault is one of the set
abbrev pub fault_by_why : SetWhy → SetFault → ToolFault
fault_by_why whys.Memory fault = faults.Memory
fault_by_why _ fault = faults.Set fault

-- the program's fault for one of a set
abbrev pub fault_of_set : SetFault → ToolFault
fault_of_set fault = fault_by_why fault.why fault

-- *out of memory* as a file is read is the program's own too, and any other fault is one of the file
abbrev pub file_fault_by_why : FileWhy → FileFault → ToolFault
file_fault_by_why files.Memory fault = faults.Memory
file_fault_by_why _ fault = faults.File fault

-- the program's fault for one of a file
abbrev pub fault_of_file : FileFault → ToolFault
fault_of_file fault = file_fault_by_why fault.why fault

-- the program's fault for one of an input
abbrev pub fault_of_input : InputFault → ToolFault
fault_of_input (inputs.Set fault) = fault_of_set fault
fault_of_input (inputs.Trailing at) = faults.Trailing at
fault_of_input (inputs.File fault) = fault_of_file fault

-- out of memory as a listing is read is the program's own too, and any other fault is one of the listing
abbrev pub list_fault_by_why : ListWhy → ListFault → ToolFault
list_fault_by_why lists.Memory fault = faults.Memory
list_fault_by_why _ fault = faults.List fault

-- the program's fault for one of a listing
abbrev pub fault_of_list : ListFault → ToolFault
fault_of_list fault = list_fault_by_why fault.why fault

-- the program's fault for one of reading and telling of a recording
abbrev pub fault_of_recording : RecordingFault → ToolFault
fault_of_recording recordings.Read = faults.Read
fault_of_recording recordings.TooLarge = faults.TooLarge
fault_of_recording recordings.Write = faults.Write
fault_of_recording recordings.Memory = faults.Memory
fault_of_recording (recordings.Capture why at) = faults.Capture why at

-- and for one of making a file of a device
abbrev pub fault_of_device : DeviceAddress → DeviceFault → ToolFault
fault_of_device device (devices.Recording fault) = fault_of_recording fault
fault_of_device device (devices.Lack lack) = faults.Lack device lack

-- a listing that was not written to its end
abbrev pub fault_of_output : OutFault → ToolFault
fault_of_output outs.Write = faults.Write
fault_of_output outs.Memory = faults.Memory

-- the exit status: the command's own number, or 3 after a fault
abbrev pub status_of : Result ℕ ToolFault → ℕ
status_of (Ok number) = number
status_of (Err fault) = 3

-- What is said where the words of a command line could not be taken.

-- the line of standard error: that a word is no text, and else that memory was wanting
abbrev pub words_line : ErrorKind → List ℕ
words_line kinds.InvalidData = codes "usbdesc: a word of the command line is no text"
words_line _ = codes "usbdesc: out of memory"

-- the exit status: 2 as for a line that is no command, and 3 as after any fault
abbrev pub words_status : ErrorKind → ℕ
words_status kinds.InvalidData = 2
words_status _ = 3
