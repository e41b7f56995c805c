-- Facts about bytes as numbers, and the texts that they have.
use Rattle.std.specs.Prelude.{◌≡◌, ℕ, ◌-◌, ◌%◌, ◌==◌, ◌&&◌, ◌⊎◌, List, [], drop, flat_map, get_or, length, map, slice_index, take, Bool, Option, Some, None, if◌then◌else◌}
use Rattle.usb_text.specs.Characters.{shown_words, units_in}
use Rattle.usb_file_data.specs.declared.cause.Found.{Found}
use Rattle.usb_file_data.specs.declared.file.DescriptorFile.{DescriptorFile}
use Rattle.usb_file_data.specs.declared.file.Input.{Input}
use Rattle.usb_file_data.specs.declared.file.Input.TheVariants as inputs
use Rattle.usb_file_data.specs.declared.fault.InputFault.{InputFault}
use Rattle.usb_file_data.specs.declared.fault.InputFault.TheVariants as faults
use Rattle.usb_file_data.specs.declared.rule.Rule.{Rule}
use Rattle.usb_file_data.specs.declared.rule.TheConstants.{MESSAGES}
use Rattle.usb_file_data.specs.FileFaults.{FileFaulty}
use Rattle.usb_file_data.specs.Findings.{found_in_order}
use Rattle.usb_file_data.specs.Inputs.{InputFaulty, IsInput, IsNoDump}
use Rattle.usb_file_data.specs.Numbers.{rule_number}
use Rattle.usb_file.specs.Completed.{IsCompleted}
use Rattle.usb_walk.specs.declared.role.Role.TheVariants as roles
use Rattle.usb_walk.specs.declared.walked_descriptor.WalkedDescriptor.{WalkedDescriptor}
use Rattle.usb_walk.specs.Places.{part_number}
use Rattle.usb_walk.specs.RoleNumbers.{role_number}
use Rattle.usb_remarks.specs.Outline.{Described, outline}
use Rattle.usb_c.specs.declared.answer.Verdict.{Verdict}
use Rattle.usb_c.specs.declared.answer.Verdict.TheVariants as verdicts
use Rattle.usb_c.specs.declared.finding.NzgFinding.{NzgFinding}
use Rattle.usb_c.specs.Answers.{Fills, Puts}
use Rattle.usb_c.specs.Hosts.{PutsFile}
use Rattle.usb_c.specs.Texts.{Refuses, TellsInput}

-- What bytes are.

-- the number of an input: 1 a set, 2 a file, 3 a dump
abbrev pub input_number : Input → ℕ
input_number (inputs.Set set) = 1
input_number (inputs.File file) = 2
input_number (inputs.Dump file) = 3

-- the bytes are an input of this number, or they are refused
abbrev pub Judges : List ℕ → Verdict → Type 0
Judges b (verdicts.Judged number) = (input : Input) × IsInput input b × (number ≡ input_number input)
Judges b verdict = Refuses InputFaulty b verdict

-- What breaks a rule in them.

-- a finding, with the place and the role of the descriptor at which it stands
abbrev pub placed : Described → Found → NzgFinding
placed d f = record {
  place = d.at;
  set = f.finding.set;
  setting = f.finding.setting;
  endpoint = f.finding.endpoint;
  rule = f.finding.rule;
  part = part_number f.finding.part;
  role = role_number d.role;
}

-- those of a descriptor
abbrev pub placed_at : Described → List NzgFinding
placed_at d = map (placed d) d.findings

-- those of the descriptors of an input, in the order of its bytes
abbrev pub placed_findings : List ℕ → Input → List NzgFinding
placed_findings b input = flat_map placed_at (outline None (found_in_order input) b)

-- the findings are in the buffer, or the bytes are refused, and the buffer is as it was
abbrev pub Finds : List ℕ → List NzgFinding → List NzgFinding → Verdict → Type 0
Finds b old new verdict =
    TellsInput IsInput (placed_findings b) b old new verdict ⊎ (Refuses InputFaulty b verdict × (new ≡ old))

-- what breaks a rule, in words
abbrev pub rule_message : Rule → List ℕ
rule_message rule = get_or (map (λ message. message.now) MESSAGES) (rule_number rule - 1) []

-- the words of a rule that there is
abbrev pub TellsRule : Option Rule → List ℕ → List ℕ → Verdict → Type 0
TellsRule None old new verdict = (verdict ≡ verdicts.BadArgument 5) × (new ≡ old)
TellsRule (Some rule) old new verdict = Puts verdicts.Done (rule_message rule) old new verdict

-- The strings that stand in them (USB 2.0, 9.6.7).

-- bytes are a string descriptor of this length
abbrev pub is_string : ℕ → List ℕ → Bool
is_string n d = (length d == n) && (slice_index d 0 == n) && (slice_index d 1 == 3) && (n % 2 == 0)

-- the string of which a struct says its role, its place and its length, if it stands there
abbrev pub string_at : List ℕ → WalkedDescriptor → Option (List ℕ)
string_at b s =
    let d = take s.length (drop s.place b) in
    if (s.role == role_number roles.Text) && is_string s.length d then Some d else None

-- its characters as UTF-8, with escapes for those that aren't shown
abbrev pub TellsString : Option (List ℕ) → List ℕ → List ℕ → Verdict → Type 0
TellsString None old new verdict = (verdict ≡ verdicts.BadArgument 6) × (new ≡ old)
TellsString (Some d) old new verdict = Fills verdicts.Done (shown_words (units_in (drop 2 d))) old new verdict

-- What a dump lacks to be a file.

-- the bytes of the file, or of that which is made of a dump, are in the buffer
pub record TellsCompleted (b old new : List ℕ) (verdict : Verdict) : Type 0 where
  pub file : DescriptorFile
  pub is : IsCompleted file b
  pub puts : PutsFile file old new verdict

-- the bytes are no dump, and show this fault of a file
abbrev pub CompletionFaulty : List ℕ → InputFault → Type 0
CompletionFaulty b (faults.File fault) = FileFaulty b fault.at fault.why × IsNoDump b
CompletionFaulty b fault = ⊥

-- a file is in the buffer, or the bytes are refused, and the buffer is as it was
abbrev pub Completes : List ℕ → List ℕ → List ℕ → Verdict → Type 0
Completes b old new verdict = TellsCompleted b old new verdict ⊎ (Refuses CompletionFaulty b verdict × (new ≡ old))
