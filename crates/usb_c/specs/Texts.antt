-- What the calls do that put a text into a buffer.
use Rattle.std.specs.Prelude.{◌≡◌, ℕ, List, Bool, true, false, ◌/◌, ◌%◌, ◌⊎◌, ◌==◌, Option, Some, None, if◌then◌else◌, Ok, Err}
use Rattle.usb_file_data.specs.File.{File}
use Rattle.usb_file_data.specs.declared.file.Input.{Input}
use Rattle.usb_file_data.specs.declared.file.Input.TheVariants as inputs
use Rattle.usb_file_data.specs.FileFaults.{FileFaulty}
use Rattle.usb_file_data.specs.Inputs.{InputFaulty, IsInput, is_one_set}
use Rattle.usb_file_data.specs.declared.fault.InputFault.{InputFault}
use Rattle.usb_file_data.specs.declared.fault.InputFault.TheVariants as faults
use Rattle.usb_listing.specs.Comments.{CommentedFaulty, uncommented}
use Rattle.usb_listing.specs.Listings.{ListFaulty, Lists}
use Rattle.usb_listing.specs.declared.fault.ListWhy.{ListWhy}
use Rattle.usb_explain.specs.Explanations.{IsExplanation}
use Rattle.usb_explain.specs.Subjects.{Reading}
use Rattle.usb_explain.specs.declared.manner.Manner.{Manner}
use Rattle.usb_remarks.specs.declared.speed.SetSpeed.{SetSpeed}
use Rattle.usb_remarks.specs.declared.speed.SetSpeed.TheVariants as speeds
use Rattle.usb_file_data.specs.declared.file.DescriptorFile.{DescriptorFile}
use Rattle.usb_file_data.specs.Findings.{input_findings}
use Rattle.usb_listing.specs.Listing.{input_lines}
use Rattle.usb_file_data.specs.FindingLine.{check_text}
use Rattle.usb_c.specs.declared.answer.Verdict.{Verdict}
use Rattle.usb_c.specs.declared.answer.Verdict.TheVariants as verdicts
use Rattle.usb_c.specs.Answers.{Fills}
use Rattle.usb_c.specs.Hosts.{PutsFile}

-- What `show`, `check` and `build` take, and what is wrong with other bytes and texts.

-- `show` takes one set or a file, and with `any` a dump too
abbrev pub IsShown : Bool → Input → List ℕ → Type 0
IsShown true input b = IsInput input b
IsShown false (inputs.Dump file) b = ⊥
IsShown false input b = IsInput input b

-- and else the bytes show this fault of a set, where they are read as one, or of a file
abbrev pub ShowFaulty : Bool → List ℕ → InputFault → Type 0
ShowFaulty true b fault = InputFaulty b fault
ShowFaulty false b (faults.File fault) = (is_one_set b ≡ false) × FileFaulty b fault.at fault.why
ShowFaulty false b fault = InputFaulty b fault

-- `check` takes a file, and with `any` one set or a dump too
abbrev pub IsChecked : Bool → Input → List ℕ → Type 0
IsChecked true input b = IsInput input b
IsChecked false (inputs.File file) b = File file b
IsChecked false input b = ⊥

-- and else the bytes show this fault of a file
abbrev pub CheckFaulty : Bool → List ℕ → InputFault → Type 0
CheckFaulty true b fault = InputFaulty b fault
CheckFaulty false b (faults.File fault) = FileFaulty b fault.at fault.why
CheckFaulty false b fault = ⊥

-- `build` takes a listing, and with `comments` a text of which one is kept
abbrev pub kept_text : Bool → List ℕ → List ℕ
kept_text true text = uncommented text
kept_text false text = text

-- and else this line is the first at fault, for this reason
abbrev pub BuildFaulty : Bool → List ℕ → ℕ → ListWhy → Type 0
BuildFaulty true text line why = CommentedFaulty text line why
BuildFaulty false text line why = ListFaulty text line why

-- the bytes show this fault, or out of memory
abbrev pub Refuses : (List ℕ → InputFault → Type 0) → List ℕ → Verdict → Type 0
Refuses IsFault b (verdicts.Broken fault length) = IsFault b fault × (length ≡ 0)
Refuses IsFault b verdicts.NoMemory = Unit {0}
Refuses IsFault b verdict = ⊥

-- what is reported of the input that the bytes are taken for is in the buffer
pub record TellsInput {A : Type 0} (IsTaken : Input → List ℕ → Type 0) (reported_of : Input → List A) (b : List ℕ) (old new : List A) (verdict : Verdict) : Type 0 where
  pub input : Input
  pub is : IsTaken input b
  pub fills : Fills verdicts.Done (reported_of input) old new verdict

-- the listing of the bytes, or they are refused, and the buffer is as it was
abbrev pub Shows : Bool → List ℕ → List ℕ → List ℕ → Verdict → Type 0
Shows any b old new verdict =
    TellsInput (IsShown any) input_lines b old new verdict ⊎ (Refuses (ShowFaulty any) b verdict × (new ≡ old))

-- the same of what is found in them
abbrev pub Checks : Bool → List ℕ → List ℕ → List ℕ → Verdict → Type 0
Checks any b old new verdict =
    TellsInput (IsChecked any) (λ input. check_text (input_findings input)) b old new verdict
    ⊎ (Refuses (CheckFaulty any) b verdict × (new ≡ old))

-- the speed of a number, if it is one
abbrev pub running_speed_given : ℕ → Option SetSpeed
running_speed_given number =
    if number == 1 then Some speeds.Low
    else if number == 2 then Some speeds.Full
    else if number == 3 then Some speeds.High
    else if number == 4 then Some speeds.Super
    else None

-- how an explanation is written: bit 0 leaves the fields out, bit 1 gives each heading its place, bit 2 writes characters beyond
-- ASCII, and bit 3 tells formats apart in their headings
abbrev pub manner_given : ℕ → ℕ → Manner
manner_given options speed =
    record {
      look = record { brief = options % 2 == 1; places = (options / 2) % 2 == 1; utf8 = (options / 4) % 2 == 1; formats = (options / 8) % 2 == 1 };
      speed = running_speed_given speed;
      decoded = false;
    }

-- the explanation of bytes of which this was read is in the buffer, with this verdict
pub record FillsExplained (m : Manner) (read : Reading) (report : ℕ → Verdict) (b old new : List ℕ) (verdict : Verdict) : Type 0 where
  pub text : List ℕ
  pub is : IsExplanation m read b text
  pub fills : Fills report text old new verdict

-- that of an input
pub record TellsExplained (m : Manner) (b old new : List ℕ) (verdict : Verdict) : Type 0 where
  pub input : Input
  pub is : IsInput input b
  pub fills : FillsExplained m (Ok input) verdicts.Done b old new verdict

-- that of bytes that show this fault, and both are reported
pub record ReportsBroken (m : Manner) (b old new : List ℕ) (verdict : Verdict) : Type 0 where
  pub fault : InputFault
  pub shows : InputFaulty b fault
  pub fills : FillsExplained m (Err fault) (verdicts.Broken fault) b old new verdict

-- the bytes are explained: as an input, or as far as they go; or out of memory
abbrev pub Explains : Manner → List ℕ → List ℕ → List ℕ → Verdict → Type 0
Explains m b old new verdict =
    TellsExplained m b old new verdict ⊎ (ReportsBroken m b old new verdict ⊎ ((verdict ≡ verdicts.NoMemory) × (new ≡ old)))

-- the bytes of the file that the text lists are in the buffer
pub record TellsListed (comments : Bool) (text old new : List ℕ) (verdict : Verdict) : Type 0 where
  pub file : DescriptorFile
  pub lists : Lists (kept_text comments text) file
  pub puts : PutsFile file old new verdict

-- or the text has this fault
abbrev pub RefusesList : Bool → List ℕ → Verdict → Type 0
RefusesList comments text (verdicts.List fault) = BuildFaulty comments text fault.line fault.why
RefusesList comments text verdicts.NoMemory = Unit {0}
RefusesList comments text verdict = ⊥

abbrev pub Builds : Bool → List ℕ → List ℕ → List ℕ → Verdict → Type 0
Builds comments text old new verdict =
    TellsListed comments text old new verdict ⊎ (RefusesList comments text verdict × (new ≡ old))
