-- What is found in a control transfer after others (USB 2.0, 9.4).
use Rattle.std.specs.Prelude.{◌&&◌, Bool, not, List, [], ◌∷◌, filter}
use Rattle.usb_capture.specs.declared.control_transfer.ControlTransfer.{ControlTransfer}
use Rattle.usb_capture.specs.declared.finding.Finding.{Finding}
use Rattle.usb_capture.specs.declared.finding.Finding.TheVariants.{MoreThanAsked, OtherType, OtherLength, OtherBytes, RefusesGiven, RefusesRequired, RefusesCounted, RefusesNamed, RefusesStatus, RefusesAddress, RefusesConfiguration, TakesConfiguration, OtherConfiguration, GivesUncounted, OtherValue, OtherStatus, OtherFeature, OtherSetting}
use Rattle.usb_capture.specs.DeviceStates.{answers_otherwise, asks_for_status, changes_feature, is_of_setting}
use Rattle.usb_capture.specs.Findings.{has_other_configuration, holds, reads_configuration, refuses_status, said}

-- Whether a finding holds of a transfer after these, of which the last is the first in the list: by the device's state and what it said
-- of its configurations, where that is asked for and nothing else is found of the answer, and else by what it said of its descriptors.
abbrev pub is_found : Finding → List ControlTransfer → ControlTransfer → Bool
is_found OtherValue earlier t =
    reads_configuration t.setup && not (has_other_configuration (λ asked. said asked earlier) t) && answers_otherwise earlier t
is_found OtherStatus earlier t = asks_for_status t.setup && not (refuses_status t) && answers_otherwise earlier t
is_found OtherFeature earlier t = changes_feature t.setup && answers_otherwise earlier t
is_found OtherSetting earlier t = is_of_setting t.setup && answers_otherwise earlier t
is_found finding earlier t = holds finding (λ asked. said asked earlier) t

abbrev pub all_findings : List Finding
all_findings =
    MoreThanAsked ∷ OtherType ∷ OtherLength ∷ OtherBytes ∷ RefusesGiven ∷ RefusesRequired ∷ RefusesCounted ∷ RefusesNamed ∷ RefusesStatus
    ∷ RefusesAddress ∷ RefusesConfiguration ∷ TakesConfiguration ∷ OtherConfiguration ∷ GivesUncounted
    ∷ OtherValue ∷ OtherStatus ∷ OtherFeature ∷ OtherSetting ∷ []

abbrev pub findings : List ControlTransfer → ControlTransfer → List Finding
findings earlier t = filter (λ finding. is_found finding earlier t) all_findings
