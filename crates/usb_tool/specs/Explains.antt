-- What `explain` tells of its input.
use Rattle.std.specs.Prelude.{◌≡◌, ℕ, List, not, ◌&&◌, Option, Some, None, codes, ◌⊎◌, Bool, true, false, ◌++◌, length, Ok, Err}
use Rattle.usb_explain.specs.declared.manner.Manner.{Manner}
use Rattle.std.specs.Io.KnownBytes.{Appends, Keeps}
use Rattle.usb_explain.specs.Explanations.{explanation}
use Rattle.usb_explain.specs.Fragments.{fragment_lines}
use Rattle.usb_explain.specs.Subjects.{Reading}
use Rattle.usb_file_data.specs.Inputs.{InputFaulty, IsInput}
use Rattle.usb_file_data.specs.declared.file.Input.{Input}
use Rattle.usb_file_data.specs.declared.fault.InputFault.{InputFault}
use Rattle.usb_file_data.specs.declared.laws.TheConstants.{FILE_LIMIT}
use Rattle.usb_hex.specs.Hexadecimal.{HexFaulty, HexText}
use Rattle.usb_hex.specs.declared.hex_text.HexFault.{HexFault}
use Rattle.usb_hex.specs.declared.hex_text.HexFault.TheVariants as hexes
use Rattle.usb_text.specs.Output.{AppendsLess, Held}
use Rattle.usb_text.specs.Shown.{Shown, ends}
use Rattle.usb_hex.specs.Stops.{stop_line}
use Rattle.usb_text.specs.Written.{AreLines}
use Rattle.usb_capture.specs.Files.{begins_recording}
use Rattle.usb_tool.specs.Captures.{CaptureDone, CaptureFails}
use Rattle.usb_tool.specs.Endings.{Extent, Fails, Refusal, Refuses, Succeeds, Telling, Left, Writes}
use Rattle.usb_tool.specs.Inputs.{OfInput}
use Rattle.usb_tool.specs.declared.capture_options.CaptureCommand.{CaptureCommand}
use Rattle.usb_tool.specs.declared.capture_options.CaptureCommand.TheVariants as commands
use Rattle.usb_tool.specs.declared.fault.ToolFault.{ToolFault}
use Rattle.usb_tool.specs.declared.fault.ToolFault.TheVariants as tools
use Rattle.usb_text.specs.Numbers.{count}

-- what is before the explanation of n bytes that were hexadecimal text
unfoldable pub hexadecimal_words : ℕ → List ℕ
hexadecimal_words n = codes "hexadecimal text, " ++ count n (codes "byte") ++ codes ": "

-- a heading, and the lines that show this
pub record ShowsAfter (utf8 : Bool) (shown : List Shown) (heading text : List ℕ) : Type 0 where
  pub lines : List ℕ
  pub is : AreLines utf8 (ends shown) lines
  pub joined : text ≡ heading ++ lines

-- a heading, and the lines that explain bytes of which this was read
abbrev pub ExplainsAfter : Manner → Reading → List ℕ → List ℕ → List ℕ → Type 0
ExplainsAfter m read heading b text = ShowsAfter m.look.utf8 (explanation m read b) heading text

-- the explanation of the set, the file or the dump that the bytes are is reported after a heading, with status 0
pub record ReportsExplanation (m : Manner) (heading b text : List ℕ) (status : ℕ) : Type 0 where
  pub input : Input
  pub is : IsInput input b
  pub explains : ExplainsAfter m (Ok input) heading b text
  pub ended : status ≡ 0

-- bytes that show a fault are explained as far as they go, with status 3
pub record ReportsBroken (m : Manner) (heading b text : List ℕ) (status : ℕ) : Type 0 where
  pub fault : InputFault
  pub shows : InputFaulty b fault
  pub explains : ExplainsAfter m (Err fault) heading b text
  pub ended : status ≡ 3

-- one of both
abbrev pub Explains : Manner → List ℕ → List ℕ → List ℕ → ℕ → Type 0
Explains m heading b text status = ReportsExplanation m heading b text status ⊎ ReportsBroken m heading b text status

-- so much was written of a heading and the lines that show this
pub record WritesAfter (extent : Extent) (utf8 : Bool) (shown : List Shown) (heading : List ℕ) (held holds : Held) : Type 0 where
  pub text : List ℕ
  pub explains : ShowsAfter utf8 shown heading text
  pub written : extent held holds text

-- so much of a heading and an explanation was written
abbrev pub WritesExplained : Extent → Manner → Reading → List ℕ → List ℕ → Held → Held → Type 0
WritesExplained extent m read heading b = WritesAfter extent m.look.utf8 (explanation m read b) heading

-- the bytes show this fault of an input, and were explained as far as they go
abbrev pub ExplainsFault : Manner → List ℕ → Refusal
ExplainsFault m heading b held holds =
    OfInput (λ fault. InputFaulty b fault × WritesExplained Appends m (Err fault) heading b held holds)

-- How bytes are not explained as an input: as far as they go where they show a fault, and else a prefix of their
-- explanation was written, which is left unfinished out of memory.
abbrev pub RefusesToExplain : Manner → List ℕ → Refusal
RefusesToExplain m heading = Refuses AppendsLess (Explains m heading) (ExplainsFault m heading)

-- The bytes as a fragment, which has no fault, are explained after a heading, with status 0.
pub record ReportsFragment (m : Manner) (heading b text : List ℕ) (status : ℕ) : Type 0 where
  pub explains : ShowsAfter m.look.utf8 (fragment_lines m b) heading text
  pub ended : status ≡ 0

-- bytes are explained as a fragment or as an input
abbrev pub ReportsAs : Bool → Manner → List ℕ → Telling
ReportsAs true = ReportsFragment
ReportsAs false = ReportsExplanation

-- what is written then, where it is left unfinished too
abbrev pub ExplainsAs : Bool → Manner → List ℕ → Telling
ExplainsAs true = ReportsFragment
ExplainsAs false = Explains

-- the fault that the bytes show as an input
abbrev pub ExplainsFaultAs : Bool → Manner → List ℕ → Refusal
ExplainsFaultAs true = λ m heading b held holds fault. ⊥
ExplainsFaultAs false = ExplainsFault

-- how much of a text is written where memory is wanting then: of a fragment the heading alone, and else not all
abbrev pub WithoutMemory : Bool → List ℕ → Extent
WithoutMemory true heading = λ held holds text. Appends held holds heading
WithoutMemory false heading = AppendsLess

-- how bytes are not explained so
abbrev pub RefusesAs : Bool → Manner → List ℕ → Refusal
RefusesAs loose m heading = Refuses (WithoutMemory loose heading) (ExplainsAs loose m heading) (ExplainsFaultAs loose m heading)

-- bytes that were decoded are explained in the same manner, but not called text
abbrev pub decoded_manner : Manner → Manner
decoded_manner m = record m { decoded = true }

-- The bytes that are explained, in which manner, and their heading: those of a hexadecimal text, as decoded ones, and unless it
-- has to be one the bytes themselves where they are none, with the line that says why.
abbrev pub IsReadAs : Bool → Manner → List ℕ → Manner → List ℕ → List ℕ → Type 0
IsReadAs hex m b explained bytes heading =
    (HexText b bytes × (heading ≡ hexadecimal_words (length bytes)) × (explained ≡ decoded_manner m))
    ⊎ ((hex ≡ false) × ((fault : HexFault) × HexFaulty b fault × (heading ≡ stop_line b fault)) × (bytes ≡ b) × (explained ≡ m))

-- this is done with them
pub record DoesWithText (hex : Bool) (m : Manner) (b : List ℕ) (does : Manner → List ℕ → List ℕ → Type 0) : Type 0 where
  pub manner : Manner
  pub bytes : List ℕ
  pub heading : List ℕ
  pub is : IsReadAs hex m b manner bytes heading
  pub done : does manner heading bytes

-- their explanation is reported
abbrev pub ReportsText : Bool → Bool → Manner → Telling
ReportsText loose hex m b text status = DoesWithText hex m b (λ manner heading bytes. ReportsAs loose manner heading bytes text status)

-- hexadecimal text has to be, and the bytes are none, or out of memory as it is read
abbrev pub RefusesHex : Bool → List ℕ → ToolFault → Type 0
RefusesHex hex b (tools.Hex line column) = (hex ≡ true) × ((found : Option ℕ) × HexFaulty b (hexes.Text line column found))
RefusesHex hex b tools.Memory = Unit {0}
RefusesHex hex b fault = ⊥

-- how bytes are not explained
abbrev pub RefusesText : Bool → Bool → Manner → Refusal
RefusesText loose hex m b held holds fault =
    DoesWithText hex m b (λ manner heading bytes. RefusesAs loose manner heading bytes held holds fault)
    ⊎ (RefusesHex hex b fault × Keeps held holds)

-- bytes are reported as a recording where the options don't say what they are, and they begin as one does
abbrev pub is_recording : Bool → Bool → List ℕ → Bool
is_recording loose hex b = not loose && (not hex && begins_recording b)

-- what `capture` writes where it has no option
abbrev pub every_line : CaptureCommand
every_line = commands.Lines (record { brief = false; «data» = false; device = None; from = None; to = None })

-- what is done with bytes: `capture` tells of a recording, which they are all of, and others are explained
abbrev pub DoesWithBytes : Bool → Bool → Bool → Manner → List ℕ → Held → Held → ℕ → Type 0
DoesWithBytes true loose hex m b held holds status = (to : Left) × CaptureDone every_line (Some b) to held holds status
DoesWithBytes false loose hex m b held holds status = Writes Appends (ReportsText loose hex m) b held holds status

-- and how that fails
abbrev pub RefusesBytes : Bool → Bool → Bool → Manner → Refusal
RefusesBytes true loose hex m b held holds fault = (to : Left) × CaptureFails every_line (Some b) to held holds fault
RefusesBytes false loose hex m b held holds fault = RefusesText loose hex m b held holds fault

-- all was read, at most what a file can have, and what it is taken for was reported
abbrev pub Explained : Bool → Bool → Manner → Left → Left → Held → Held → ℕ → Type 0
Explained loose hex m from to held holds status =
    Succeeds FILE_LIMIT (λ b held holds. DoesWithBytes (is_recording loose hex b) loose hex m b held holds status) from to held holds

-- how `explain` fails
abbrev pub ExplainFails : Bool → Bool → Manner → Left → Left → Held → Held → ToolFault → Type 0
ExplainFails loose hex m = Fails FILE_LIMIT (λ b. RefusesBytes (is_recording loose hex b) loose hex m b)

-- no set, file or dump is hexadecimal text
abbrev pub NoInputIsHexadecimal : Type 0
NoInputIsHexadecimal = (input : Input) (b bytes : List ℕ) → IsInput input b → HexText b bytes → ⊥
