-- What an enumeration tells.
use Rattle.std.specs.Prelude.{◌≡◌, ℕ, ◌⊎◌, ◌==◌, ◌||◌, Bool, true, false, List, Option, Some, None, Result, Ok, Err, map, if◌then◌else◌}
use Rattle.std.specs.List.{list_all}
use Rattle.usb_bus.specs.declared.fate.Fate.{Fate}
use Rattle.usb_bus.specs.declared.fate.Fate.TheVariants as fates
use Rattle.usb_fields.specs.declared.packet.Speed.{Speed}
use Rattle.usb_file_data.specs.File.{File}
use Rattle.usb_file_data.specs.declared.file.DescriptorFile.{DescriptorFile}
use Rattle.usb_file_data.specs.declared.fault.InputFault.TheVariants as inputs
use Rattle.usb_file_data.specs.FileFaults.{FileFaulty}
use Rattle.usb_listing.specs.Listing.{file_lines}
use Rattle.usb_device.specs.Accepted.{Accepted}
use Rattle.usb_host.specs.Limits.{LimitView, limit_fault, limit_fault_number}
use Rattle.usb_host.specs.declared.limits.LimitFault.{LimitFault}
use Rattle.usb_host.specs.declared.step.Trouble.{Trouble}
use Rattle.usb_bus.specs.Enumerate.{IsEnumeration}
use Rattle.usb_bus.specs.Log.{IsLogOf}
use Rattle.usb_bus.specs.declared.enumeration.Run.{Run}
use Rattle.usb_c.specs.declared.answer.Verdict.{Verdict}
use Rattle.usb_c.specs.declared.answer.Verdict.TheVariants as verdicts
use Rattle.usb_c.specs.declared.enumeration.NzgOutcome.{NzgOutcome}
use Rattle.usb_c.specs.declared.outcome.StepNumbers.{StepNumbers}
use Rattle.usb_c.specs.Answers.{Fills, Puts, RefusesFile}
use Rattle.usb_c.specs.Hosts.{numbered, step_numbers}

-- whether a byte is the letter of a fate: '.' 46, 'n' 110, 'd' 100, 'u' 117, 'a' 97
abbrev pub is_fate : ℕ → Bool
is_fate letter = (letter == 46) || (letter == 110) || (letter == 100) || (letter == 117) || (letter == 97)

-- and of which one
abbrev pub fate_given : ℕ → Fate
fate_given letter =
    if letter == 110 then fates.Busy
    else if letter == 100 then fates.LostDown
    else if letter == 117 then fates.LostUp
    else if letter == 97 then fates.LostAck
    else fates.Pass

-- the step of the trouble, if there is one
abbrev pub trouble_numbers : Result DescriptorFile Trouble → StepNumbers
trouble_numbers (Ok f) = numbered 0 0 0
trouble_numbers (Err trouble) = step_numbers trouble.step

-- what came of an enumeration, as numbers
abbrev pub outcome_numbers : Run → NzgOutcome
outcome_numbers run = record {
  transactions = run.transactions;
  attempts = run.attempts;
  address = run.state.address;
  selected = run.state.selected;
  step = (trouble_numbers run.outcome).step;
  index = (trouble_numbers run.outcome).index;
  language = (trouble_numbers run.outcome).language;
}

-- after success the listing of the file that was read is in the buffer, and else the trouble is reported
abbrev pub TellsRun : Result DescriptorFile Trouble → List ℕ → List ℕ → Verdict → Type 0
TellsRun (Ok f) old new verdict = Fills verdicts.Done (file_lines f) old new verdict
TellsRun (Err trouble) old new verdict = (verdict ≡ verdicts.Trouble trouble) × (new ≡ old)

-- a device of the file that these bytes are was enumerated
pub record TellsEnumeration (b : List ℕ) (speed : Speed) (limits : LimitView) (lost : List Fate) (outcome : NzgOutcome) (old new : List ℕ) (verdict : Verdict) : Type 0 where
  pub file : DescriptorFile
  pub layout : File file b
  pub accepted : Accepted file speed
  pub run : Run
  pub enumerated : IsEnumeration file speed limits lost run
  pub numbers : outcome ≡ outcome_numbers run
  pub report : TellsRun run.outcome old new verdict

-- why there was no enumeration
abbrev pub RefusesRun : List ℕ → Speed → Verdict → Type 0
RefusesRun b speed (verdicts.Broken (inputs.File fault) length) = (length ≡ 0) × FileFaulty b fault.at fault.why
RefusesRun b speed (verdicts.Description fault) = RefusesFile b speed fault
RefusesRun b speed verdicts.NoMemory = Unit {0}
RefusesRun b speed verdict = ⊥

abbrev pub EnumeratesUnder : List ℕ → Speed → LimitView → List Fate → NzgOutcome → NzgOutcome → List ℕ → List ℕ → Verdict → Type 0
EnumeratesUnder b speed limits lost report outcome old new verdict =
    TellsEnumeration b speed limits lost outcome old new verdict
    ⊎ (RefusesRun b speed verdict × (outcome ≡ report) × (new ≡ old))

-- a number without meaning: the first of speed, attempts and fates
abbrev pub wrong_limits : Option LimitFault → Bool → Option ℕ
wrong_limits (Some fault) right = Some (limit_fault_number fault)
wrong_limits None false = Some 4
wrong_limits None true = None

abbrev pub wrong_number : Option Speed → ℕ → List ℕ → Option ℕ
wrong_number None attempts letters = Some 3
wrong_number (Some speed) attempts letters = wrong_limits (limit_fault 1 attempts) (list_all is_fate letters)

-- a number that has no meaning is reported, and else the enumeration
abbrev pub EnumeratesWith : Option ℕ → Option Speed → List ℕ → LimitView → List Fate → NzgOutcome → NzgOutcome → List ℕ → List ℕ → Verdict → Type 0
EnumeratesWith (Some wrong) speed b limits lost report outcome old new verdict =
    (verdict ≡ verdicts.BadArgument wrong) × (outcome ≡ report) × (new ≡ old)
EnumeratesWith None (Some speed) b limits lost report outcome old new verdict =
    EnumeratesUnder b speed limits lost report outcome old new verdict
EnumeratesWith None None b limits lost report outcome old new verdict = ⊥

-- a device with these bytes and this speed is enumerated by a host that gives it address 1, under these limits and fates
abbrev pub Enumerates : List ℕ → Option Speed → ℕ → ℕ → List ℕ → NzgOutcome → NzgOutcome → List ℕ → List ℕ → Verdict → Type 0
Enumerates b speed naks attempts letters report outcome old new verdict =
    EnumeratesWith (wrong_number speed attempts letters) speed b (record { address = 1; naks = naks; attempts = attempts })
    (map fate_given letters) report outcome old new verdict

-- ---- the log

-- the log of a run is in the buffer
pub record PutsLog (f : DescriptorFile) (speed : Speed) (limits : LimitView) (lost : List Fate) (old new : List ℕ) (verdict : Verdict) : Type 0 where
  pub run : Run
  pub log : List ℕ
  pub of_run : IsLogOf false f speed limits lost run log
  pub puts : Puts verdicts.Done log old new verdict

-- or out of memory, and the buffer is as it was
abbrev pub TellsLogOf : DescriptorFile → Speed → LimitView → List Fate → List ℕ → List ℕ → Verdict → Type 0
TellsLogOf f speed limits lost old new verdict =
    PutsLog f speed limits lost old new verdict ⊎ ((verdict ≡ verdicts.NoMemory) × (new ≡ old))

-- a device of the file that these bytes are was enumerated
pub record TellsLog (b : List ℕ) (speed : Speed) (limits : LimitView) (lost : List Fate) (old new : List ℕ) (verdict : Verdict) : Type 0 where
  pub file : DescriptorFile
  pub layout : File file b
  pub accepted : Accepted file speed
  pub report : TellsLogOf file speed limits lost old new verdict

abbrev pub LogsUnder : List ℕ → Speed → LimitView → List Fate → List ℕ → List ℕ → Verdict → Type 0
LogsUnder b speed limits lost old new verdict =
    TellsLog b speed limits lost old new verdict ⊎ (RefusesRun b speed verdict × (new ≡ old))

abbrev pub LogsWith : Option ℕ → Option Speed → List ℕ → LimitView → List Fate → List ℕ → List ℕ → Verdict → Type 0
LogsWith (Some wrong) speed b limits lost old new verdict = (verdict ≡ verdicts.BadArgument wrong) × (new ≡ old)
LogsWith None (Some speed) b limits lost old new verdict = LogsUnder b speed limits lost old new verdict
LogsWith None None b limits lost old new verdict = ⊥

-- the log of the enumeration that `Enumerates` is of
abbrev pub Logs : List ℕ → Option Speed → ℕ → ℕ → List ℕ → List ℕ → List ℕ → Verdict → Type 0
Logs b speed naks attempts letters old new verdict =
    LogsWith (wrong_number speed attempts letters) speed b (record { address = 1; naks = naks; attempts = attempts })
    (map fate_given letters) old new verdict
