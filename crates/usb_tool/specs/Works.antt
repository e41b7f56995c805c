-- What `show` and `check` make of their input: where its bytes come from, what they are taken for, and what is made of them.
use Rattle.std.specs.Prelude.{◌≡◌, ◌≢◌, ◌⊎◌, ℕ, Bool, if◌then◌else◌, List, [], ◌∷◌, ◌++◌, Option, true, codes}
use Rattle.std.specs.Io.KnownBytes.{Keeps}
use Rattle.usb_file_data.specs.declared.file.Input.{Input}
use Rattle.usb_file_data.specs.declared.laws.TheConstants.{FILE_LIMIT}
use Rattle.usb_file_data.specs.FindingLine.{check_text, finding_lines}
use Rattle.usb_file_data.specs.Findings.{found_in_order, input_findings}
use Rattle.usb_file_data.specs.Inputs.{InputFaulty, IsInput}
use Rattle.usb_hex.specs.Hexadecimal.{HexText}
use Rattle.usb_listing.specs.Listing.{input_lines}
use Rattle.usb_remarks.specs.declared.speed.SetSpeed.{SetSpeed}
use Rattle.usb_remarks.specs.PlacedRemarks.{remarks_text}
use Rattle.usb_text.specs.Output.{AppendsLess, Held}
use Rattle.usb_tool.specs.Endings.{AppendsNone, Extent, Fails, Left, Refusal, Refuses, Reported}
use Rattle.usb_tool.specs.Explains.{RefusesHex}
use Rattle.usb_tool.specs.Inputs.{Faulty, FileShows, Form, IsFile, IsSetOrFile, OfInput, SetOrFileShows}
use Rattle.usb_tool.specs.declared.fault.ToolFault.{ToolFault}
use Rattle.usb_tool.specs.declared.source.Source.{Source}
use Rattle.usb_tool.specs.declared.source.Source.TheVariants as sources
use Rattle.usb_tool.specs.declared.taken.Taken.{Taken}
use Rattle.usb_tool.specs.declared.taken.Taken.TheVariants as forms
use Rattle.usb_tool.specs.declared.task.Task.{Task}
use Rattle.usb_tool.specs.declared.work.Work.{Work}
use Rattle.usb_tool.specs.declared.work.Work.TheVariants as works

-- the input gives these bytes: it is them, or their hexadecimal text
abbrev pub Gives : Source → List ℕ → List ℕ → Type 0
Gives sources.Bytes b bytes = bytes ≡ b
Gives sources.Hexadecimal b bytes = HexText b bytes

-- it gives none: it has to be hexadecimal text, and is none, or memory was wanting as it was read as one
abbrev pub GivesNone : Source → List ℕ → ToolFault → Type 0
GivesNone sources.Bytes b fault = ⊥
GivesNone sources.Hexadecimal b fault = RefusesHex true b fault

-- what the bytes are taken for
abbrev pub form_of : Taken → Form
form_of forms.File = IsFile
form_of forms.SetOrFile = IsSetOrFile
form_of forms.Any = IsInput

-- with `--any` any input, and else this
abbrev pub taken_with : Bool → Taken → Taken
taken_with any other = if any then forms.Any else other

-- the faults that they can show
abbrev pub shows_of : Taken → Faulty
shows_of forms.File = FileShows
shows_of forms.SetOrFile = SetOrFileShows
shows_of forms.Any = InputFaulty

-- 1 says that there is something
abbrev pub found_status : {A : Type 0} → List A → ℕ
found_status [] = 0
found_status (x ∷ found) = 1

-- the lines of findings, and then those of the remarks on the descriptors of a device that ran at this speed, if it is known
abbrev pub checked_lines : Option SetSpeed → Input → List ℕ → List ℕ
checked_lines running input b = finding_lines (input_findings input) ++ remarks_text running (found_in_order input) b

-- the lines, or the one that there is none
abbrev pub lines_or_none : List ℕ → List ℕ
lines_or_none [] = codes "no findings" ++ 10 ∷ []
lines_or_none (x ∷ lines) = x ∷ lines

-- what is made of an input that these bytes are: its listing, or what is found in it, with remarks or without
abbrev pub work_text : Work → Input → List ℕ → List ℕ
work_text works.List input b = input_lines input
work_text works.Check input b = check_text (input_findings input)
work_text (works.Remark running) input b = lines_or_none (checked_lines running input b)

-- the exit status then
abbrev pub work_status : Work → Input → List ℕ → ℕ
work_status works.List input b = 0
work_status works.Check input b = found_status (input_findings input)
work_status (works.Remark running) input b = found_status (checked_lines running input b)

-- how much of it is written where memory is wanting: not all of a listing, and else nothing
abbrev pub work_extent : Work → Extent
work_extent works.List = AppendsLess
work_extent works.Check = AppendsNone
work_extent (works.Remark running) = AppendsNone

-- what the task makes of the input that these bytes are or say is reported
pub record TellsWork (t : Task) (b text : List ℕ) (status : ℕ) : Type 0 where
  pub bytes : List ℕ
  pub given : Gives t.source b bytes
  pub input : Input
  pub taken : form_of t.taken input bytes
  pub made : text ≡ work_text t.work input bytes
  pub ended : status ≡ work_status t.work input bytes

-- they show this fault of what the bytes are taken for
pub record ShowsFault (t : Task) (b : List ℕ) (fault : ToolFault) : Type 0 where
  pub bytes : List ℕ
  pub given : Gives t.source b bytes
  pub shown : OfInput (shows_of t.taken bytes) fault

-- how they are refused: they give no bytes, or show a fault; nothing was written
abbrev pub RefusesWork : Task → Refusal
RefusesWork t b held holds fault = (GivesNone t.source b fault ⊎ ShowsFault t b fault) × Keeps held holds

-- all was read, at most what a file can have, and what the task makes of it was written
abbrev pub Worked : Task → Left → Left → Held → Held → ℕ → Type 0
Worked t = Reported FILE_LIMIT (TellsWork t)

-- how a task fails: a prefix of the text was written where a write failed, and else nothing, but out of memory a part of a listing
abbrev pub WorkFails : Task → Left → Left → Held → Held → ToolFault → Type 0
WorkFails t = Fails FILE_LIMIT (Refuses (work_extent t.work) (TellsWork t) (RefusesWork t))

abbrev pub task_of : Source → Taken → Work → Task
task_of source taken work = record { source = source; taken = taken; work = work }

-- without options `show` lists a set or a file, and `check` takes a file
abbrev pub show_task : Task
show_task = task_of sources.Bytes forms.SetOrFile works.List

abbrev pub check_task : Task
check_task = task_of sources.Bytes forms.File works.Check

-- where something is found, the text of `check` with remarks is that without, and then come the remarks
abbrev pub RemarksAddLines : Type 0
RemarksAddLines =
    (running : Option SetSpeed) (input : Input) (b : List ℕ) → input_findings input ≢ [] →
    work_text (works.Remark running) input b ≡ work_text works.Check input b ++ remarks_text running (found_in_order input) b
