-- On how a command refuses bytes.
use Rattle.std.proofs.Common.{◌≡◌, ◌≢◌, ℕ, ◌⊎◌, true, false, List, [], refl, sym, subst, inl, inr}
use Rattle.usb_set.specs.declared.fault.SetFault.{SetFault}
use Rattle.usb_set.specs.declared.fault.SetWhy.{SetWhy}
use Rattle.usb_set.specs.declared.fault.SetWhy.TheVariants as whys
use Rattle.usb_set.specs.Decoding.{WantsMemory}
use Rattle.usb_file_data.specs.declared.fault.FileFault.{FileFault}
use Rattle.usb_file_data.specs.declared.fault.FileWhy.{FileWhy}
use Rattle.usb_file_data.specs.declared.fault.FileWhy.TheVariants as files
use Rattle.usb_file_data.specs.declared.fault.InputFault.{InputFault}
use Rattle.usb_file_data.specs.declared.fault.InputFault.TheVariants as inputs
use Rattle.usb_file_data.specs.FileFaults.{FileFaulty}
use Rattle.usb_file_data.specs.Inputs.{DeviceRefused, HasFault, InputFaulty, InputRefused, is_one_set}
use Rattle.usb_text.specs.Output.{Held}
use Rattle.usb_tool.specs.Endings.{Extent, Refusal, Refuses, Telling}
use Rattle.usb_tool.specs.Faults.{fault_by_why, fault_of_input, file_fault_by_why}
use Rattle.usb_tool.specs.inside.Telling.{IsCut}
use Rattle.usb_tool.specs.declared.fault.ToolFault.{ToolFault}
use Rattle.usb_tool.specs.declared.fault.ToolFault.TheVariants as faults

-- the program's fault for one of an input that is not *out of memory*
abbrev pub as_reported : InputFault → ToolFault
as_reported (inputs.Set fault) = faults.Set fault
as_reported (inputs.Trailing at) = faults.Trailing at
as_reported (inputs.File fault) = faults.File fault

-- out of memory is reported, or the fault that the bytes show
abbrev pub IsReported : List ℕ → InputFault → ToolFault → Type 0
IsReported b e fault = (fault ≡ faults.Memory) ⊎ (InputFaulty b e × (fault ≡ as_reported e))

set_reported : (b : List ℕ) (e : SetFault) (why : SetWhy) → e.why ≡ why → is_one_set b ≡ true → HasFault b e ⊎ WantsMemory [] b e
    → IsReported b (inputs.Set e) (fault_by_why why e)
set_reported b e whys.Memory is one h = inl refl
set_reported b e why is one (inl h) = inr ((one, h), refl)
set_reported b e why is one (inr wants) = let memory = wants.why in cc

file_reported : (b : List ℕ) (e : FileFault) (why : FileWhy) → e.why ≡ why → is_one_set b ≡ false → DeviceRefused b e.at why
    → IsReported b (inputs.File e) (file_fault_by_why why e)
file_reported b e files.Memory is none h = inl refl
file_reported b e why is none h = inr ((none, subst (FileFaulty b e.at) (sym is) h.0, h.1), refl)

-- what is reported of bytes that are no input
pub is_reported : (b : List ℕ) (e : InputFault) → InputRefused b e → IsReported b e (fault_of_input e)
is_reported b (inputs.Set fault) h = set_reported b fault fault.why refl h.0 h.1
is_reported b (inputs.Trailing at) h = inr (h, refl)
is_reported b (inputs.File fault) h = file_reported b fault fault.why refl h.0 h.1

-- bytes that are no input show a fault, or memory was wanting
pub shown_fault : (b : List ℕ) (e : InputFault) → InputRefused b e → fault_of_input e ≢ faults.Memory → InputFaulty b e
shown_fault b e refused known = by (is_reported b e refused)
  where
    by : IsReported b e (fault_of_input e) → InputFaulty b e
    by (inl memory) = absurd (known memory)
    by (inr h) = h.0

-- a text that was not written to its end
pub cut_short : (extent : Extent) (tells : Telling) (refuses : Refusal) (b text : List ℕ) (status : ℕ) (held holds : Held) (fault : ToolFault)
    → tells b text status → IsCut extent text held holds fault → Refuses extent tells refuses b held holds fault
cut_short extent tells refuses b text status held holds faults.Write report cut = (status, record { text = text; report = report; written = cut })
cut_short extent tells refuses b text status held holds faults.Memory report (inl nothing) = inl nothing
cut_short extent tells refuses b text status held holds faults.Memory report (inr less) =
    inr (status, record { text = text; report = report; written = less })
cut_short extent tells refuses b text status held holds faults.Read report cut = elim cut [ ]
cut_short extent tells refuses b text status held holds faults.TooLarge report cut = elim cut [ ]
cut_short extent tells refuses b text status held holds (faults.File fault) report cut = elim cut [ ]
cut_short extent tells refuses b text status held holds (faults.List fault) report cut = elim cut [ ]
cut_short extent tells refuses b text status held holds (faults.Set fault) report cut = elim cut [ ]
cut_short extent tells refuses b text status held holds (faults.Trailing at) report cut = elim cut [ ]
cut_short extent tells refuses b text status held holds (faults.Hex line column) report cut = elim cut [ ]
cut_short extent tells refuses b text status held holds (faults.Capture why at) report cut = elim cut [ ]
cut_short extent tells refuses b text status held holds (faults.Lack device lack) report cut = elim cut [ ]
