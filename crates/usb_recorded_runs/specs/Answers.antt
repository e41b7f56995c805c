-- What control transfers show of a device's answers to their requests (USB 2.0, 8.5.3, 9.2.7 and 9.4).
use Rattle.std.specs.Prelude.{◌≡◌, ◌≢◌, ◌⊎◌, ℕ, ◌/◌, ◌%◌, false, true, List, [], ◌∷◌, ◌++◌, length, unwrap_or}
use Rattle.usb_file_data.specs.declared.file.DescriptorFile.{DescriptorFile}
use Rattle.usb_device.specs.declared.state.State.{State}
use Rattle.usb_device.specs.Descriptors.{descriptor}
use Rattle.usb_device.specs.Requests.{Outcome, Bytes, Done, Refused, Takes, answer}
use Rattle.usb_device.specs.States.{zero}
use Rattle.usb_device.specs.Step.{carried_out, is_set_address}
use Rattle.usb_bus.specs.Converse.{AskedView, state_after}
use Rattle.usb_capture.specs.declared.asked.Asked.{Asked}
use Rattle.usb_capture.specs.declared.control_transfer.ControlTransfer.{ControlTransfer}
use Rattle.usb_capture.specs.declared.ending.Ending.TheVariants as endings
use Rattle.usb_capture.specs.declared.finding.Finding.{Finding}
use Rattle.usb_capture.specs.declared.finding.Finding.TheVariants.{GivesUncounted, MoreThanAsked, OtherBytes, OtherConfiguration, OtherFeature, OtherSetting, OtherStatus, OtherType, OtherValue, RefusesAddress, RefusesConfiguration, RefusesStatus, TakesConfiguration}

-- An answer as a transfer shows it: bytes, all of which have come, unless a frame of it is cut; no data stage; or a refusal, as STALL
-- (8.5.3.4). No row of a device's table takes data.
abbrev pub Shows : Outcome → ControlTransfer → Type 0
Shows (Bytes bytes) t = (t.ending ≡ endings.Done) × (t.length ≡ length bytes) × (t.is_cut ≡ false → t.data ≡ bytes)
Shows (Done next) t = (t.ending ≡ endings.Done) × (t.length ≡ 0) × (t.data ≡ [])
Shows Refused t = (t.ending ≡ endings.Stall) × (t.length ≡ 0)
Shows (Takes judge) t = ⊥

-- the descriptor that is asked for, and no bytes where the device has none
abbrev pub descriptor_of : DescriptorFile → Asked → List ℕ
descriptor_of f asked = unwrap_or (descriptor f (asked.value / 256) (asked.value % 256) asked.index) []

-- The device of a transfer has said what is known of its descriptors: of each one its first bytes, or none of them.
abbrev pub IsSaidBy : DescriptorFile → (Asked → List ℕ) → ControlTransfer → Type 0
IsSaidBy f known t = (asked : Asked) → asked.bus ≡ t.bus → asked.device ≡ t.device → (rest : List ℕ) × (known asked ++ rest ≡ descriptor_of f asked)

-- A transfer with a device that has these descriptors, in this state, shows its answer, and what is known of it the device has said.
pub record IsAnswered (f : DescriptorFile) (s : State) (known : Asked → List ℕ) (t : ControlTransfer) : Type 0 where
  pub address : t.device ≡ s.address
  pub shown : Shows (answer f s t.setup) t
  pub said : IsSaidBy f known t

-- A transfer with a device that has these descriptors shows its answer, after these requests since a bus reset.
pub record IsOfDevice (f : DescriptorFile) (t : ControlTransfer) : Type 0 where
  pub requests : List AskedView
  pub address : t.device ≡ (state_after (answer f) zero requests).address
  pub shown : Shows (answer f (state_after (answer f) zero requests) t.setup) t

-- A transfer on this bus with a device that has these descriptors, in this state, goes to its address and shows its answer. A host sends
-- SET_ADDRESS with bmRequestType 00000000B (table 9-3), and gives no address 0 (9.4.6).
pub record IsSent (f : DescriptorFile) (bus : ℕ) (s : State) (t : ControlTransfer) : Type 0 where
  pub on_bus : t.bus ≡ bus
  pub address : t.device ≡ s.address
  pub shown : Shows (answer f s t.setup) t
  pub given : is_set_address t.setup ≡ true → (t.setup.request_type ≡ 0) × (t.setup.value ≢ 0)

-- A conversation with such a device, from this state on, of all its transfers in order of time: after each one the device is in the state to
-- which its answer leads, unless it is reset before the next (9.1.1.3).
abbrev pub IsConversation : DescriptorFile → ℕ → State → List ControlTransfer → Type 0
IsConversation f bus s [] = Unit {0}
IsConversation f bus s (t ∷ ts) =
    (now : State) × ((now ≡ s) ⊎ (now ≡ zero)) × IsSent f bus now t × IsConversation f bus (carried_out now (answer f now t.setup)) ts

-- what is found in no answer of a device
abbrev pub never_found : List Finding
never_found =
    MoreThanAsked ∷ OtherType ∷ OtherBytes ∷ RefusesStatus ∷ RefusesAddress ∷ RefusesConfiguration ∷ TakesConfiguration ∷ OtherConfiguration
    ∷ GivesUncounted ∷ []

-- what is found of answers that are compared with those of a device that has the descriptors that were said
abbrev pub found_otherwise : List Finding
found_otherwise = OtherValue ∷ OtherStatus ∷ OtherFeature ∷ OtherSetting ∷ []
