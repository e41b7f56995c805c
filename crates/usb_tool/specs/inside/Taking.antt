-- What a command takes its input for, before it tells anything of it.
use Rattle.std.specs.Prelude.{◌⊎◌, List, ℕ}
use Rattle.usb_file_data.specs.declared.file.Input.{Input}
use Rattle.usb_file_data.specs.declared.laws.TheConstants.{FILE_LIMIT}
use Rattle.usb_tool.specs.Endings.{Left, ReadFails, ReadsAll}
use Rattle.usb_tool.specs.Inputs.{Faulty, Form, OfInput}
use Rattle.usb_tool.specs.declared.fault.ToolFault.{ToolFault}
use Rattle.usb_tool.specs.declared.fault.ToolFault.TheVariants as faults

-- all was read, at most what a file can have, and taken for this input
pub record Takes (is : Form) (from to : Left) (input : Input) : Type 0 where
  pub bytes : List ℕ
  pub read : ReadsAll FILE_LIMIT from to bytes
  pub taken : is input bytes

-- the bytes show a fault, or memory was wanting
abbrev pub IsNone : Faulty → List ℕ → ToolFault → Type 0
IsNone shows b faults.Memory = Unit {0}
IsNone shows b fault = OfInput (shows b) fault

-- all was read, and taken for nothing
pub record ReadsNone (shows : Faulty) (from to : Left) (fault : ToolFault) : Type 0 where
  pub bytes : List ℕ
  pub read : ReadsAll FILE_LIMIT from to bytes
  pub shown : IsNone shows bytes fault

-- not all was read, or it was taken for nothing
abbrev pub TakesNone : Faulty → Left → Left → ToolFault → Type 0
TakesNone shows from to fault = ReadFails FILE_LIMIT from to fault ⊎ ReadsNone shows from to fault
