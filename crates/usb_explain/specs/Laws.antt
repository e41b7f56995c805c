-- What holds of the explanation of an input: a brief one leaves out the fields alone, and that of a fault has a line for it.
use Rattle.std.specs.Prelude.{Bool, ◌≡◌, ℕ, true, false, List, [], ◌∷◌, ◌++◌, Err}
use Rattle.usb_file_data.specs.declared.fault.InputFault.{InputFault}
use Rattle.usb_text.specs.Shown.{Shown, End}
use Rattle.usb_explain.specs.declared.manner.Manner.{Manner}
use Rattle.usb_explain.specs.Descriptors.{field_lines, lines_of}
use Rattle.usb_explain.specs.Explanations.{beginning, descriptors_of, explanation}
use Rattle.usb_explain.specs.Faults.{fault_shown}
use Rattle.usb_remarks.specs.Outline.{Described}
use Rattle.usb_explain.specs.Subjects.{Subject}

-- what is explained with the lines of fields, or in brief without them
abbrev pub looking : Bool → Subject → Subject
looking brief subject = record subject { manner = record subject.manner { look = record subject.manner.look { brief = brief } } }

-- a brief explanation has the lines of each descriptor but for those of its fields, which come last
abbrev pub BriefLeavesOutFields : Type 0
BriefLeavesOutFields =
    (subject : Subject) (d : Described) → lines_of (looking false subject) d ≡ lines_of (looking true subject) d ++ field_lines subject.names d

-- the explanation of bytes that show a fault has a line for it, right after those of the descriptors before its place
pub record SaysLineOfFault (manner : Manner) (fault : InputFault) (b : List ℕ) : Type 0 where
  pub later : List Shown
  pub lines : explanation manner (Err fault) b ≡ beginning manner (Err fault) b (descriptors_of manner (Err fault) b) ++ (fault_shown fault ++ End ∷ []) ++ later

-- so it is of each fault, in any manner
abbrev pub AllSayLineOfFault : Type 0
AllSayLineOfFault = (manner : Manner) (fault : InputFault) (b : List ℕ) → SaysLineOfFault manner fault b
