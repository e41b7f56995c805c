-- What is kept of an input while it is read.
use Rattle.std.specs.Prelude.{◌≡◌, ℕ, ◌≤◌, ◌<◌, List, [], ◌∷◌, length, Option, Some, None, true, false}
use Rattle.std.specs.Io.KnownBytes.{Consumes, IsAtEnd}
use Rattle.usb_set.specs.Decoding.{Decoding, gathers, has, refused}
use Rattle.usb_set.specs.Faults.{Begins, Faulty, IsOpen}
use Rattle.usb_file_data.specs.Inputs.{is_one_set}
use Rattle.usb_tool.specs.Endings.{Left, ReadsAll, ReadsSome}
use Rattle.usb_tool.specs.declared.fault.ToolFault.{ToolFault}
use Rattle.usb_tool.specs.declared.fault.ToolFault.TheVariants as faults
use Rattle.usb_tool.specs.declared.intake.Intake.{Intake}
use Rattle.usb_tool.specs.declared.intake.Intake.TheVariants as intakes
use Rattle.usb_tool.specs.declared.intake.SetIntake.{SetIntake}

-- a decoder was fed these bytes, of which a set was the front up to this place, where one was
abbrev pub Fed : Decoding → Option ℕ → List ℕ → Type 0
Fed (gathers s) None b = (s ≡ b) × IsOpen b
Fed (has c) (Some end) b = Begins b c end
Fed (refused fault) None b = Faulty b fault.at fault.why
Fed decoding end b = ⊥

-- a set was fed these bytes
abbrev pub IsFed : SetIntake → List ℕ → Type 0
IsFed set b = Fed set.decoder set.end b

-- the input so far is these bytes
abbrev pub IsIntake : Intake → List ℕ → Type 0
IsIntake (intakes.Set set) b = IsFed set b × (is_one_set b ≡ true)
IsIntake (intakes.File bytes) b = (bytes.items ≡ b) × (is_one_set b ≡ false)

-- the first bytes of an input, at most two, and fewer only where it has no more
pub record ReadsFront (old new : Left) (intake : Intake) (count : ℕ) : Type 0 where
  pub bytes : List ℕ
  pub read : Consumes old new bytes
  pub counted : count ≡ length bytes
  pub few : count ≤ 2
  pub ended : count < 2 → IsAtEnd new
  pub kept : IsIntake intake bytes

-- all of an input
pub record ReadsInput (limit : ℕ) (old new : Left) (intake : Intake) (count : ℕ) : Type 0 where
  pub bytes : List ℕ
  pub read : ReadsAll limit old new bytes
  pub counted : count ≡ length bytes
  pub kept : IsIntake intake bytes

-- Reading is cut short by a failed read, or out of memory, after `limit` bytes at most.
abbrev pub StopsEarly : ℕ → Left → Left → ToolFault → Type 0
StopsEarly limit old new faults.Read = ReadsSome limit old new
StopsEarly limit old new faults.Memory = ReadsSome limit old new
StopsEarly limit old new _ = ⊥

-- the next byte, or that there is none
abbrev pub ReadsByte : Left → Left → Option ℕ → Type 0
ReadsByte old new None = Consumes old new [] × IsAtEnd new
ReadsByte old new (Some byte) = Consumes old new (byte ∷ [])

-- the bytes that were read so far
pub record ReadsSoFar (old new : Left) (intake : Intake) (count : ℕ) : Type 0 where
  pub bytes : List ℕ
  pub read : Consumes old new bytes
  pub counted : count ≡ length bytes
  pub kept : IsIntake intake bytes
