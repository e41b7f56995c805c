-- How an enumeration ends, and what that means.
use Rattle.std.specs.Prelude.{ℕ, List, ◌++◌, Bool, if◌then◌else◌, Result, Ok, Err}
use Rattle.usb_device.specs.Accepted.{fault_message}
use Rattle.usb_device.specs.declared.acceptance.DescriptionFault.{DescriptionFault}
use Rattle.usb_device.specs.declared.acceptance.DescriptionFault.TheVariants as refusals
use Rattle.usb_file_data.specs.declared.file.DescriptorFile.{DescriptorFile}
use Rattle.usb_host.specs.Why.{trouble_message}
use Rattle.usb_host.specs.declared.step.Trouble.{Trouble}
use Rattle.usb_host.specs.declared.why.Why.{Why}
use Rattle.usb_host.specs.declared.why.Why.TheVariants.{Busy, Memory}
use Rattle.usb_tool.specs.Faults.{hint_words}
use Rattle.usb_tool.specs.declared.enumeration_end.EnumerationEnd.{EnumerationEnd}
use Rattle.usb_tool.specs.declared.enumeration_end.EnumerationEnd.TheVariants as ends
use Rattle.usb_tool.specs.declared.meaning.Hint.{Hint}
use Rattle.usb_tool.specs.declared.meaning.Hint.TheVariants as hints

-- the end of a run with this outcome
abbrev pub end_of : Result DescriptorFile Trouble → EnumerationEnd
end_of (Ok f) = ends.Success
end_of (Err trouble) = ends.Trouble trouble

-- the exit status
abbrev pub end_status : EnumerationEnd → ℕ
end_status ends.Success = 0
end_status _ = 1

-- what to try where descriptors are refused
abbrev pub refusal_hint : DescriptionFault → Hint
refusal_hint (refusals.Finding finding) = hints.Check
refusal_hint refusals.Speed = hints.Speed
refusal_hint refusals.Memory = hints.Nothing
refusal_hint _ = hints.Explain

-- what to try after trouble, where a log was asked for or wasn't
abbrev pub trouble_hint : Why → Bool → Hint
trouble_hint Busy logged = hints.Naks
trouble_hint Memory logged = hints.Nothing
trouble_hint _ logged = if logged then hints.Nothing else hints.Log

-- what a refusal and a trouble mean, and what to try, without a line feed
abbrev pub refusal_meaning : DescriptionFault → List ℕ
refusal_meaning fault = fault_message fault ++ hint_words (refusal_hint fault)

abbrev pub trouble_meaning : Bool → Trouble → List ℕ
trouble_meaning logged trouble = trouble_message trouble ++ hint_words (trouble_hint trouble.why logged)
