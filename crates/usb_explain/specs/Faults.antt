-- The lines of the fault of a broken input: what is wrong, and what its bytes look like.
use Rattle.std.specs.Prelude.{ℕ, List, [], ◌∷◌, ◌++◌, Bool, true, Option, Some, None}
use Rattle.usb_set.specs.Numbers.{why_number as set_why_number}
use Rattle.usb_file_data.specs.declared.fault.InputFault.{InputFault}
use Rattle.usb_file_data.specs.declared.fault.InputFault.TheVariants as faults
use Rattle.usb_file_data.specs.declared.likeness.Likeness.{Likeness}
use Rattle.usb_file_data.specs.declared.likeness.Likeness.TheVariants as likes
use Rattle.usb_file_data.specs.Likeness.{likeness_of}
use Rattle.usb_file_data.specs.FileFaults.{why_number}
use Rattle.usb_explain.specs.Containers.{container_of, magic}
use Rattle.usb_explain.specs.declared.container.Container.{Container}
use Rattle.usb_text.specs.Shown.{Shown, End, Number}

-- the fault's number, if it has one, and its place
abbrev pub fault_shown : InputFault → List Shown
fault_shown (faults.Set fault) = Number (set_why_number fault.why) ∷ Number fault.at ∷ []
fault_shown (faults.Trailing at) = Number at ∷ []
fault_shown (faults.File fault) = Number (why_number fault.why) ∷ Number fault.at ∷ []

-- what bytes look like: how many follow a dump, or are the data of a frame or a packet
abbrev pub likeness_shown : Likeness → List Shown
likeness_shown (likes.DumpAndMore n) = Number n ∷ []
likeness_shown (likes.UsbmonFrame n) = Number n ∷ []
likeness_shown (likes.Packet n) = Number n ∷ []
likeness_shown _ = []

-- the line that says so, if they look like anything
abbrev pub likeness_line : Option Likeness → List Shown
likeness_line None = []
likeness_line (Some likeness) = likeness_shown likeness ++ End ∷ []

-- bytes that were decoded from text are not called text themselves
abbrev pub seen_likeness : Bool → Option Likeness → Option Likeness
seen_likeness true (Some likes.Text) = None
seen_likeness decoded likeness = likeness

-- the line of what bytes begin as, or else of what they look like
abbrev pub look_line : Bool → InputFault → List ℕ → Option Container → List Shown
look_line decoded fault b None = likeness_line (seen_likeness decoded (likeness_of fault b))
look_line decoded fault b (Some container) = magic container b ++ End ∷ []

-- both lines
unfoldable pub fault_lines : Bool → InputFault → List ℕ → List Shown
fault_lines decoded fault b = fault_shown fault ++ End ∷ look_line decoded fault b (container_of b)
