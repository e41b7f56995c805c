-- Answers and faults as numbers, and what is put into the caller's buffer.
use Rattle.std.specs.Prelude.{◌≡◌, ℕ, ◌<◌, ◌⊎◌, List, ◌++◌, length, drop, None, Some}
use Rattle.usb_c.specs.declared.answer.Verdict.{Verdict}
use Rattle.usb_c.specs.declared.answer.Verdict.TheVariants as verdicts
use Rattle.usb_c.specs.declared.answer.Answer.{Answer}
use Rattle.usb_set.specs.Numbers.{why_number as set_number}
use Rattle.usb_file_data.specs.declared.fault.InputFault.{InputFault}
use Rattle.usb_file_data.specs.declared.fault.InputFault.TheVariants as inputs
use Rattle.usb_file_data.specs.FileFaults.{why_number as file_number}
use Rattle.usb_file_data.specs.Numbers.{write_number}
use Rattle.usb_listing.specs.Listings.{why_number as list_number}
use Rattle.usb_device.specs.Accepted.{fault_number as description_number, unanswered_number, refusal_of}
use Rattle.usb_capture.specs.FaultNumbers.{fault_number as capture_number}
use Rattle.usb_host.specs.Why.{why_number as trouble_number}
use Rattle.usb_fields.specs.declared.packet.Speed.{Speed}
use Rattle.usb_file_data.specs.File.{File}
use Rattle.usb_file_data.specs.declared.file.DescriptorFile.{DescriptorFile}
use Rattle.usb_device.specs.declared.acceptance.DescriptionFault.{DescriptionFault}
use Rattle.usb_set.specs.declared.fault.SetFault.{SetFault}
use Rattle.usb_set.specs.declared.fault.SetWhy.{SetWhy}
use Rattle.usb_set.specs.declared.fault.SetWhy.TheVariants as sets

-- A text or other items in the caller's buffer.

-- The items begin the buffer, whose rest is as it was, and this is reported with their count. Or the buffer is shorter than
-- the items and as it was, and their count is wanted.
abbrev pub Puts : {A : Type 0} → (ℕ → Verdict) → List A → List A → List A → Verdict → Type 0
Puts reported items old new verdict =
    ((verdict ≡ reported (length items)) × (new ≡ items ++ drop (length items) old))
    ⊎ ((verdict ≡ verdicts.NoRoom (length items)) × (length old < length items) × (new ≡ old))

-- or out of memory, and the buffer is as it was
abbrev pub Fills : {A : Type 0} → (ℕ → Verdict) → List A → List A → List A → Verdict → Type 0
Fills reported items old new verdict = Puts reported items old new verdict ⊎ ((verdict ≡ verdicts.NoMemory) × (new ≡ old))

-- Answers as numbers.

-- four numbers
abbrev pub numbers : ℕ → ℕ → ℕ → ℕ → Answer
numbers status number place length = record { status = status; number = number; place = place; length = length }

-- of bytes that are no input, with the length of their explanation
abbrev pub broken_answer : InputFault → ℕ → Answer
broken_answer (inputs.Set fault) length = numbers 2 (set_number fault.why) fault.at length
broken_answer (inputs.File fault) length = numbers 3 (file_number fault.why) fault.at length
broken_answer (inputs.Trailing at) length = numbers 6 0 at length

-- the numbers that C sees
abbrev pub answer_of : Verdict → Answer
answer_of (verdicts.Done length) = numbers 0 0 0 length
answer_of (verdicts.Due place length) = numbers 0 0 place length
answer_of (verdicts.Judged number) = numbers 0 number 0 0
answer_of (verdicts.Open length) = numbers 1 0 0 length
answer_of (verdicts.Broken fault length) = broken_answer fault length
answer_of (verdicts.Meant number place length) = numbers 0 number place length
answer_of (verdicts.List fault) = numbers 4 (list_number fault.why) fault.line 0
answer_of (verdicts.Text line column) = numbers 14 0 line column
answer_of (verdicts.Description fault) = numbers 5 (description_number fault) 0 0
answer_of (verdicts.NoRoom length) = numbers 7 0 0 length
answer_of verdicts.NoMemory = numbers 8 0 0 0
answer_of verdicts.Closed = numbers 9 0 0 0
answer_of (verdicts.BadArgument number) = numbers 10 number 0 0
answer_of (verdicts.Trouble trouble) = numbers 11 (trouble_number trouble.why) 0 0
answer_of (verdicts.Failed why) = numbers 11 (trouble_number why) 0 0
answer_of (verdicts.Unanswered why) = numbers 12 (unanswered_number why) 0 0
answer_of (verdicts.Unwritten why) = numbers 13 (write_number why) 0 0
answer_of (verdicts.Capture why at) = numbers 15 (capture_number why) at 0
answer_of (verdicts.Lack None) = numbers 16 1 0 0
answer_of (verdicts.Lack (Some index)) = numbers 16 2 index 0

-- the answer is the numbers of a verdict that holds
pub record AnswersOn (Says : Verdict → Type 0) (answer : Answer) : Type 0 where
  pub verdict : Verdict
  pub says : Says verdict
  pub numbers : answer ≡ answer_of verdict

-- why a set is refused: out of memory is no fault of its bytes
abbrev pub set_by : SetWhy → SetFault → Verdict
set_by sets.Memory fault = verdicts.NoMemory
set_by why fault = verdicts.Broken (inputs.Set fault) 0

abbrev pub refused_set : SetFault → Verdict
refused_set fault = set_by fault.why fault

-- the bytes are those of a file, and this stands against it
pub record RefusesFile (b : List ℕ) (speed : Speed) (fault : DescriptionFault) : Type 0 where
  pub file : DescriptorFile
  pub layout : File file b
  pub why : refusal_of file speed ≡ Some fault
