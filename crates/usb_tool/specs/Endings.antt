-- What is read of an input, and how a command ends that reads all of it before it writes.
use Rattle.std.specs.Prelude.{◌≡◌, ℕ, ◌+◌, ◌≤◌, List, length, Option, ◌⊎◌}
use Rattle.std.specs.Io.KnownBytes.{Consumes, IsAtEnd, Appends, Keeps}
use Rattle.usb_tool.specs.declared.fault.ToolFault.{ToolFault}
use Rattle.usb_tool.specs.declared.fault.ToolFault.TheVariants as faults
use Rattle.usb_text.specs.Output.{AppendsFront, Held}

-- What is read of an input, of which a claim is made where the reader tells its bytes.

-- the bytes that a reader has left, where it tells them
abbrev pub Left : Type 0
Left = Option (List ℕ)

-- the reader gave these bytes and has no more, and they are within the limit
pub record ReadsAll (limit : ℕ) (old new : Left) (bytes : List ℕ) : Type 0 where
  pub read : Consumes old new bytes
  pub ended : IsAtEnd new
  pub within : length bytes ≤ limit

-- the reader gave some bytes, within the limit
pub record ReadsSome (limit : ℕ) (old new : Left) : Type 0 where
  pub bytes : List ℕ
  pub read : Consumes old new bytes
  pub within : length bytes ≤ limit

-- the reader gave one byte over the limit, and no more was read
pub record ReadsMore (limit : ℕ) (old new : Left) : Type 0 where
  pub bytes : List ℕ
  pub read : Consumes old new bytes
  pub above : length bytes ≡ limit + 1

-- what a command does with its input and its output, and its number
abbrev pub Work : Type 1
Work = Left → Left → Held → Held → ℕ → Type 0

-- how a command fails
abbrev pub Failure : Type 1
Failure = Left → Left → Held → Held → ToolFault → Type 0

-- Reading up to a limit ends with more bytes than that, by a failed read, or out of memory.
abbrev pub ReadFails : ℕ → Left → Left → ToolFault → Type 0
ReadFails limit old new faults.TooLarge = ReadsMore limit old new
ReadFails limit old new faults.Read = ReadsSome limit old new
ReadFails limit old new faults.Memory = ReadsSome limit old new
ReadFails limit old new _ = ⊥

-- How a command ends that reads all of its input before it writes, and what is written then of the text that it tells.

-- all was read, and this was done with it
pub record Succeeds (limit : ℕ) (does : List ℕ → Held → Held → Type 0) (from to : Left) (held holds : Held) : Type 0 where
  pub bytes : List ℕ
  pub read : ReadsAll limit from to bytes
  pub written : does bytes held holds

-- how a command refuses bytes: what it has written then, and its fault
abbrev pub Refusal : Type 1
Refusal = List ℕ → Held → Held → ToolFault → Type 0

-- all was read, and then refused
pub record ReadsInVain (limit : ℕ) (refuses : Refusal) (from to : Left) (held holds : Held) (fault : ToolFault) : Type 0 where
  pub bytes : List ℕ
  pub read : ReadsAll limit from to bytes
  pub refused : refuses bytes held holds fault

-- not all was read, and nothing was written, or all was read and then refused
abbrev pub Fails : ℕ → Refusal → Left → Left → Held → Held → ToolFault → Type 0
Fails limit refuses from to held holds fault =
    (ReadFails limit from to fault × Keeps held holds) ⊎ ReadsInVain limit refuses from to held holds fault

-- what a command tells of bytes: a text, and its exit status
abbrev pub Telling : Type 1
Telling = List ℕ → List ℕ → ℕ → Type 0

-- how much of a text was written: all of it (`Appends`), a prefix (`AppendsFront`), or not all (`AppendsLess`)
abbrev pub Extent : Type 1
Extent = Held → Held → List ℕ → Type 0

-- nothing of it was written
abbrev pub AppendsNone : Extent
AppendsNone held holds text = Keeps held holds

-- so much was written of a text that is reported of the bytes with this status
pub record Writes (extent : Extent) (tells : Telling) (b : List ℕ) (held holds : Held) (status : ℕ) : Type 0 where
  pub text : List ℕ
  pub report : tells b text status
  pub written : extent held holds text

-- with some status
abbrev pub WritesSome : Extent → Telling → List ℕ → Held → Held → Type 0
WritesSome extent tells b held holds = (status : ℕ) × Writes extent tells b held holds status

-- How bytes are refused: where a write failed, a prefix of a text that is reported of them was written; out of memory nothing,
-- or so much of one; and what else holds is given.
abbrev pub Refuses : Extent → Telling → Refusal → Refusal
Refuses extent tells refuses b held holds faults.Write = WritesSome AppendsFront tells b held holds
Refuses extent tells refuses b held holds faults.Memory = Keeps held holds ⊎ WritesSome extent tells b held holds
Refuses extent tells refuses b held holds fault = refuses b held holds fault

-- all was read, and all that is reported of it was written
abbrev pub Reported : ℕ → Telling → Left → Left → Held → Held → ℕ → Type 0
Reported limit tells from to held holds status =
    Succeeds limit (λ b held holds. Writes Appends tells b held holds status) from to held holds
