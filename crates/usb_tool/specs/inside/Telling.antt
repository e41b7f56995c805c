-- Telling what came of an enumeration.
use Rattle.std.specs.Prelude.{◌≡◌, ℕ, Bool, ◌⊎◌, List, true}
use Rattle.std.specs.Io.KnownBytes.{Appends, Keeps}
use Rattle.usb_text.specs.declared.output.OutFault.TheVariants as outs
use Rattle.usb_text.specs.Output.{AppendsFront, AppendsLess, Held}
use Rattle.usb_file_data.specs.declared.file.DescriptorFile.{DescriptorFile}
use Rattle.usb_bus.specs.declared.enumeration.Run.{Run}
use Rattle.usb_explain.specs.declared.manner.Manner.{Manner}
use Rattle.usb_explain.specs.Explanations.{explanation}
use Rattle.usb_explain.specs.Fragments.{fragment_lines}
use Rattle.usb_explain.specs.Subjects.{Reading}
use Rattle.usb_text.specs.Shown.{Shown}
use Rattle.usb_tool.specs.Endings.{Extent}
use Rattle.usb_tool.specs.Explains.{ShowsAfter, WithoutMemory}
use Rattle.usb_tool.specs.Enumerations.{Conditions, CutsLog, IsRun, has_bytes}
use Rattle.usb_tool.specs.declared.fault.ToolFault.{ToolFault}
use Rattle.usb_tool.specs.declared.fault.ToolFault.TheVariants as faults

-- the text was written, and what is answered, as the exit status, is this
abbrev pub EndsWith : {A : Type 0} → List ℕ → A → Held → Held → A → Type 0
EndsWith text ended held holds answer = Appends held holds text × (answer ≡ ended)

-- a text was not written to its end: a prefix of it was, and out of memory nothing, or so much of it
abbrev pub IsCut : Extent → List ℕ → Held → Held → ToolFault → Type 0
IsCut extent text held holds faults.Write = AppendsFront held holds text
IsCut extent text held holds faults.Memory = Keeps held holds ⊎ extent held holds text
IsCut extent text held holds fault = ⊥

-- it is left unfinished out of memory
abbrev pub IsCutShort : List ℕ → Held → Held → ToolFault → Type 0
IsCutShort = IsCut AppendsLess

-- a heading and the lines that show this were left unfinished, and out of memory so much of them was written
pub record CutsAfter (extent : Extent) (utf8 : Bool) (shown : List Shown) (heading : List ℕ) (held holds : Held) (fault : ToolFault) : Type 0 where
  pub text : List ℕ
  pub explains : ShowsAfter utf8 shown heading text
  pub cut : IsCut extent text held holds fault

-- an explanation after a heading was left unfinished
abbrev pub CutsExplained : Manner → Reading → List ℕ → List ℕ → Held → Held → ToolFault → Type 0
CutsExplained m read heading b = CutsAfter AppendsLess m.look.utf8 (explanation m read b) heading

-- and that of a fragment
abbrev pub CutsFragment : Manner → List ℕ → List ℕ → Held → Held → ToolFault → Type 0
CutsFragment m heading b = CutsAfter (WithoutMemory true heading) m.look.utf8 (fragment_lines m b) heading

-- a device with these descriptors was enumerated, and its log was written where one is asked for
pub record MakesRun (c : Conditions) (f : DescriptorFile) (held holds : Held) (run : Run) : Type 0 where
  pub log : List ℕ
  pub enumerated : IsRun c f run log
  pub written : Appends held holds log

-- a log is asked for, and a step of the enumeration broke it
abbrev pub BreaksRun : Conditions → DescriptorFile → Held → Held → ToolFault → Type 0
BreaksRun c f held holds faults.Write = (c.flags.log ≡ true) × CutsLog (has_bytes c.changes c.flags) c f held holds outs.Write
BreaksRun c f held holds faults.Memory = (c.flags.log ≡ true) × CutsLog (has_bytes c.changes c.flags) c f held holds outs.Memory
BreaksRun c f held holds fault = ⊥
