-- What a command came to, what standard error has of it, and the exit status.
use Rattle.std.specs.Prelude.{ℕ, Bool, if◌then◌else◌, List, [], ◌∷◌, ◌++◌, Result, Ok, Err}
use Rattle.std.specs.Io.KnownBytes.{Keeps}
use Rattle.usb_text.specs.Output.{AppendsFront, Held}
use Rattle.usb_tool.specs.EnumerationEnds.{end_status, refusal_meaning, trouble_meaning}
use Rattle.usb_tool.specs.Faults.{fault_line, meaning_line}
use Rattle.usb_tool.specs.OptionFaults.{settings_line, settings_meaning, settings_status}
use Rattle.usb_tool.specs.declared.audience.Audience.{Audience}
use Rattle.usb_tool.specs.declared.audience.Audience.TheVariants as audiences
use Rattle.usb_tool.specs.declared.enumeration_end.EnumerationEnd.{EnumerationEnd}
use Rattle.usb_tool.specs.declared.enumeration_end.EnumerationEnd.TheVariants as ends
use Rattle.usb_tool.specs.declared.fault.ToolFault.{ToolFault}
use Rattle.usb_tool.specs.declared.meaning.Hint.{Hint}
use Rattle.usb_tool.specs.declared.meaning.Hint.TheVariants as hints
use Rattle.usb_tool.specs.declared.outcome.Outcome.{Outcome}
use Rattle.usb_tool.specs.declared.outcome.Outcome.TheVariants as outcomes
use Rattle.usb_tool.specs.declared.settings.EnumerateFlags.{EnumerateFlags}

-- that of a command with this answer
abbrev pub outcome_of : Hint → Result ℕ ToolFault → Outcome
outcome_of hint (Ok number) = outcomes.Done number
outcome_of hint (Err fault) = outcomes.Failed fault hint

-- what to try where the input of `enumerate` is at fault
abbrev pub enumerate_hint : Bool → Hint
enumerate_hint with_strings = if with_strings then hints.Explain else hints.WithStrings

-- that of an enumeration with this answer
abbrev pub outcome_of_enumeration : EnumerateFlags → Result EnumerationEnd ToolFault → Outcome
outcome_of_enumeration flags (Ok end) = outcomes.Enumerated end flags.log
outcome_of_enumeration flags (Err fault) = outcomes.Failed fault (enumerate_hint flags.with_strings)

-- the exit status: 3 says that the command failed
abbrev pub outcome_status : Outcome → ℕ
outcome_status (outcomes.Done number) = number
outcome_status (outcomes.Enumerated end logged) = end_status end
outcome_status (outcomes.Failed fault hint) = 3
outcome_status (outcomes.Refused fault) = settings_status fault

-- a line was written, with its line feed or a prefix of that
abbrev pub ReportsLine : List ℕ → Held → Held → Type 0
ReportsLine line errors report = AppendsFront errors report (line ++ 10 ∷ [])

-- a line was written for a person, and for a program nothing
abbrev pub ReportsMeaning : Audience → List ℕ → Held → Held → Type 0
ReportsMeaning audiences.Program meaning errors report = Keeps errors report
ReportsMeaning audiences.Person meaning errors report = ReportsLine meaning errors report

-- a line was written, and for a person another one below it that says what it means
abbrev pub ReportsLines : Audience → List ℕ → List ℕ → Held → Held → Type 0
ReportsLines audience line meaning errors report = (between : Held) × ReportsLine line errors between × ReportsMeaning audience meaning between report

-- after an enumeration a person reads what its end means, if that isn't success
abbrev pub ReportsEnd : Audience → Bool → EnumerationEnd → Held → Held → Type 0
ReportsEnd audience logged ends.Success errors report = Keeps errors report
ReportsEnd audience logged (ends.Refused fault) errors report = ReportsMeaning audience (refusal_meaning fault) errors report
ReportsEnd audience logged (ends.Trouble trouble) errors report = ReportsMeaning audience (trouble_meaning logged trouble) errors report

-- a fault has its line, and a command that did its work has none
abbrev pub Reports : Audience → Outcome → Held → Held → Type 0
Reports audience (outcomes.Done number) errors report = Keeps errors report
Reports audience (outcomes.Enumerated end logged) errors report = ReportsEnd audience logged end errors report
Reports audience (outcomes.Failed fault hint) errors report = ReportsLines audience (fault_line fault) (meaning_line hint fault) errors report
Reports audience (outcomes.Refused fault) errors report = ReportsLines audience (settings_line fault) (settings_meaning fault) errors report
