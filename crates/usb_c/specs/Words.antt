-- What is found, remarked and at fault, and why an enumeration failed, in words.
use Rattle.std.specs.Prelude.{◌≡◌, ℕ, ◌⊎◌, ◌==◌, List, [], false, Option, Some, None, option_and_then, option_map, if◌then◌else◌}
use Rattle.std.specs.List.{find}
use Rattle.usb_text.specs.Shown.{Shown, showing_all, with_shown}
use Rattle.usb_text.specs.Written.{LineBytes, no_lines, written}
use Rattle.usb_set.specs.Numbers.{why_number as set_number}
use Rattle.usb_file_data.specs.declared.cause.Cause.{Cause}
use Rattle.usb_file_data.specs.declared.cause.Found.{Found}
use Rattle.usb_file_data.specs.declared.fault.FileWhy.{FileWhy}
use Rattle.usb_file_data.specs.declared.fault.FileWhy.TheVariants as files
use Rattle.usb_file_data.specs.declared.fault.InputFault.{InputFault}
use Rattle.usb_file_data.specs.declared.fault.InputFault.TheVariants as faults
use Rattle.usb_file_data.specs.declared.file.Input.{Input}
use Rattle.usb_file_data.specs.Findings.{found_in_order}
use Rattle.usb_file_data.specs.Inputs.{InputFaulty, IsInput}
use Rattle.usb_remarks.specs.declared.remark.Remark.{Remark}
use Rattle.usb_remarks.specs.declared.speed.SetSpeed.{SetSpeed}
use Rattle.usb_explain.specs.FaultWords.{fault_words}
use Rattle.usb_remarks.specs.FaultPlaces.{place_of_fault}
use Rattle.usb_explain.specs.FindingLines.{counts_shown}
use Rattle.usb_remarks.specs.Outline.{Described, outline}
use Rattle.usb_explain.specs.RemarkLines.{remark_shown}
use Rattle.usb_remarks.specs.RemarkNumbers.{remark_number}
use Rattle.usb_remarks.specs.Remarks.{remarks_on}
use Rattle.usb_host.specs.Why.{trouble_message}
use Rattle.usb_host.specs.declared.step.Step.{Step}
use Rattle.usb_host.specs.declared.step.Step.TheVariants as steps
use Rattle.usb_host.specs.declared.step.Trouble.{Trouble}
use Rattle.usb_host.specs.declared.why.Why.{Why}
use Rattle.usb_c.specs.declared.answer.Verdict.{Verdict}
use Rattle.usb_c.specs.declared.answer.Verdict.TheVariants as verdicts
use Rattle.usb_c.specs.declared.finding.NzgFinding.{NzgFinding}
use Rattle.usb_c.specs.declared.outcome.NzgTrouble.{NzgTrouble}
use Rattle.usb_c.specs.declared.remark.NzgRemark.{NzgRemark}
use Rattle.usb_c.specs.Answers.{Fills, Puts}
use Rattle.usb_c.specs.Hosts.{trouble_numbers}
use Rattle.usb_c.specs.Texts.{Refuses}
use Rattle.usb_c.specs.Transfers.{why_in}

-- ---- findings and remarks

-- these words are of ASCII, and show what those in a line show
abbrev pub Show : List Shown → LineBytes → Type 0
Show shown words = written words ≡ showing_all with_shown shown (written (no_lines false))

-- words that show these are in the buffer
pub record PutsWords (shown : List Shown) (old new : List ℕ) (verdict : Verdict) : Type 0 where
  pub words : LineBytes
  pub show : Show shown words
  pub puts : Puts verdicts.Done words.bytes old new verdict

-- those of what a struct says, or that there is nothing that it says
abbrev pub TellsShown : Option (List Shown) → List ℕ → List ℕ → Verdict → Type 0
TellsShown None old new verdict = (verdict ≡ verdicts.BadArgument 13) × (new ≡ old)
TellsShown (Some shown) old new verdict = PutsWords shown old new verdict

-- what is shown then
abbrev pub shown_by : Option (List Shown) → List Shown
shown_by None = []
shown_by (Some shown) = shown

-- or out of memory, and the buffer is as it was
abbrev pub TellsIfMemory : Option (List Shown) → List ℕ → List ℕ → Verdict → Type 0
TellsIfMemory shown old new verdict = TellsShown shown old new verdict ⊎ ((verdict ≡ verdicts.NoMemory) × (new ≡ old))

-- what a struct says of an input, in words; or the bytes are refused, and the buffer is as it was
pub record TellsWords (shown_of : Input → Option (List Shown)) (b old new : List ℕ) (verdict : Verdict) : Type 0 where
  pub input : Input
  pub is : IsInput input b
  pub tells : TellsIfMemory (shown_of input) old new verdict

abbrev pub TellsWordsOf : (Input → Option (List Shown)) → List ℕ → List ℕ → List ℕ → Verdict → Type 0
TellsWordsOf shown_of b old new verdict =
    TellsWords shown_of b old new verdict ⊎ (Refuses InputFaulty b verdict × (new ≡ old))

-- the descriptor at a place
abbrev pub descriptor_at : ℕ → List Described → Option Described
descriptor_at place ds = find (λ d. d.at == place) ds

-- why a descriptor breaks this rule, if it does
abbrev pub cause_by : ℕ → List Found → Option Cause
cause_by rule found = option_map (λ f. f.cause) (find (λ f. f.finding.rule == rule) found)

-- what a struct says is found, by its place and its rule
abbrev pub cause_given : NzgFinding → List Described → Option Cause
cause_given f ds = option_and_then (λ d. cause_by f.rule d.findings) (descriptor_at f.place ds)

abbrev pub finding_shown : NzgFinding → List ℕ → Input → Option (List Shown)
finding_shown f b input = option_map counts_shown (cause_given f (outline None (found_in_order input) b))

abbrev pub TellsFinding : NzgFinding → List ℕ → List ℕ → List ℕ → Verdict → Type 0
TellsFinding f b old new verdict = TellsWordsOf (finding_shown f b) b old new verdict

-- the remark of this number on a descriptor, if there is one
abbrev pub remark_by : ℕ → List Remark → Option Remark
remark_by number remarks = find (λ r. remark_number r == number) remarks

-- what a struct says is remarked, by its place and its number
abbrev pub remark_given : NzgRemark → List Described → Option Remark
remark_given r ds = option_and_then (λ d. remark_by r.number (remarks_on d.role d)) (descriptor_at r.place ds)

abbrev pub reported_shown : NzgRemark → Option SetSpeed → List ℕ → Input → Option (List Shown)
reported_shown r running b input = option_map remark_shown (remark_given r (outline running (found_in_order input) b))

abbrev pub TellsRemark : NzgRemark → Option SetSpeed → List ℕ → List ℕ → List ℕ → Verdict → Type 0
TellsRemark r running b old new verdict = TellsWordsOf (reported_shown r running b) b old new verdict

-- ---- faults

-- the number of the fault of the set that stands behind a fault, if one does
abbrev pub file_inner : FileWhy → ℕ
file_inner (files.Set why) = set_number why
file_inner why = 0

abbrev pub inner_number : InputFault → ℕ
inner_number (faults.Set fault) = set_number fault.why
inner_number (faults.Trailing at) = 0
inner_number (faults.File fault) = file_inner fault.why

-- the bytes show this fault: its words are in the buffer, and that number and its place are reported
pub record TellsFault (b old new : List ℕ) (verdict : Verdict) : Type 0 where
  pub fault : InputFault
  pub shows : InputFaulty b fault
  pub fills : Fills (verdicts.Meant (inner_number fault) (place_of_fault fault)) (fault_words fault) old new verdict

-- they show none
pub record HasNoFault (b old new : List ℕ) (verdict : Verdict) : Type 0 where
  pub input : Input
  pub is : IsInput input b
  pub none : verdict ≡ verdicts.BadArgument 13
  pub same : new ≡ old

-- or memory was wanting
abbrev pub Means : List ℕ → List ℕ → List ℕ → Verdict → Type 0
Means b old new verdict =
    TellsFault b old new verdict ⊎ (HasNoFault b old new verdict ⊎ ((verdict ≡ verdicts.NoMemory) × (new ≡ old)))

-- ---- troubles

-- the step of a number, with the index and the language of what is read
abbrev pub step_given : ℕ → ℕ → ℕ → Option Step
step_given step index language =
    if step == 1 then Some steps.First
    else if step == 2 then Some steps.Address
    else if step == 3 then Some steps.Device
    else if step == 4 then Some (steps.Header index)
    else if step == 5 then Some (steps.Set index)
    else if step == 6 then Some steps.Qualifier
    else if step == 7 then Some (steps.OtherHeader index)
    else if step == 8 then Some (steps.OtherSet index)
    else if step == 9 then Some steps.Languages
    else if step == 10 then Some (steps.Text language index)
    else if step == 11 then Some steps.Configure
    else None

-- what a step and a reason are, where both are there
abbrev pub trouble_by : Option Step → Option Why → Option Trouble
trouble_by (Some step) (Some why) = Some (record { step = step; why = why })
trouble_by step why = None

-- the trouble of these numbers
abbrev pub trouble_given : NzgTrouble → Option Trouble
trouble_given t = trouble_by (step_given t.step t.index t.language) (why_in t.why)

-- its words are in the buffer, or it is none
abbrev pub TellsTrouble : Option Trouble → List ℕ → List ℕ → Verdict → Type 0
TellsTrouble None old new verdict = (verdict ≡ verdicts.BadArgument 13) × (new ≡ old)
TellsTrouble (Some trouble) old new verdict = Fills verdicts.Done (trouble_message trouble) old new verdict

-- the numbers of a trouble are those of that trouble alone
abbrev pub TroublesAreReported : Type 0
TroublesAreReported = (t : Trouble) → trouble_given (trouble_numbers t) ≡ Some t
