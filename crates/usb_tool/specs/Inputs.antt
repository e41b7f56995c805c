-- What a command takes its input for, and how it refuses bytes that are none.
use Rattle.std.specs.Prelude.{◌≡◌, ℕ, List, false}
use Rattle.std.specs.Io.KnownBytes.{Keeps}
use Rattle.usb_set.specs.Layout.{Layout}
use Rattle.usb_file_data.specs.File.{File}
use Rattle.usb_file_data.specs.declared.file.Input.{Input}
use Rattle.usb_file_data.specs.declared.file.Input.TheVariants as inputs
use Rattle.usb_file_data.specs.FileFaults.{FileFaulty}
use Rattle.usb_file_data.specs.Inputs.{InputFaulty, is_one_set}
use Rattle.usb_file_data.specs.declared.fault.InputFault.{InputFault}
use Rattle.usb_file_data.specs.declared.fault.InputFault.TheVariants as shown
use Rattle.usb_tool.specs.Endings.{Refusal}
use Rattle.usb_tool.specs.declared.fault.ToolFault.{ToolFault}
use Rattle.usb_tool.specs.declared.fault.ToolFault.TheVariants as faults

-- what bytes are taken for
abbrev pub Form : Type 1
Form = Input → List ℕ → Type 0

-- a descriptor file alone
abbrev pub IsFile : Form
IsFile (inputs.File file) b = File file b
IsFile input b = ⊥

-- one set, or a descriptor file: the second byte tells them apart (USB 2.0, table 9-5)
abbrev pub IsSetOrFile : Form
IsSetOrFile (inputs.Set set) b = Layout set b
IsSetOrFile input b = IsFile input b

-- the faults that bytes can show
abbrev pub Faulty : Type 1
Faulty = List ℕ → InputFault → Type 0

-- that of a file
abbrev pub FileShows : Faulty
FileShows b (shown.File fault) = FileFaulty b fault.at fault.why
FileShows b fault = ⊥

-- that of a set or of bytes after it, where the second byte is that of a set, and else that of a file
abbrev pub SetOrFileShows : Faulty
SetOrFileShows b (shown.File fault) = (is_one_set b ≡ false) × FileFaulty b fault.at fault.why
SetOrFileShows b fault = InputFaulty b fault

-- the fault is one of an input, of which this holds
abbrev pub OfInput : (InputFault → Type 0) → ToolFault → Type 0
OfInput holds (faults.File fault) = holds (shown.File fault)
OfInput holds (faults.Set fault) = holds (shown.Set fault)
OfInput holds (faults.Trailing at) = holds (shown.Trailing at)
OfInput holds fault = ⊥

-- the bytes show the fault, and nothing was written
abbrev pub RefusesInput : Faulty → Refusal
RefusesInput shows b held holds = OfInput (λ fault. shows b fault × Keeps held holds)
