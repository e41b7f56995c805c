-- What is found in the transactions of a run, of what chapter 8 of USB 2.0 forbids, and in its transfers.
use Rattle.std.specs.Prelude.{◌≡◌, ◌≢◌, ◌⊎◌, ℕ, ◌/◌, ◌%◌, true, false, List, [], ◌∷◌, ◌++◌, length, min, unwrap_or}
use Rattle.usb_fields.specs.declared.setup.Setup.{Setup}
use Rattle.usb_file_data.specs.declared.file.DescriptorFile.{DescriptorFile}
use Rattle.usb_device.specs.declared.state.State.{State}
use Rattle.usb_device.specs.Descriptors.{descriptor}
use Rattle.usb_device.specs.Requests.{Refused, answer}
use Rattle.usb_bus.specs.declared.fate.Fate.TheVariants.{LostAck, LostUp}
use Rattle.usb_capture.specs.declared.control_transfer.ControlTransfer.{ControlTransfer}
use Rattle.usb_capture.specs.declared.ending.Ending.TheVariants.{Done, Stall}
use Rattle.usb_capture.specs.declared.finding.Finding.{Finding}
use Rattle.usb_capture.specs.declared.packet_finding.PacketFinding.{PacketFinding}
use Rattle.usb_capture.specs.declared.transaction.Transaction.{Transaction}
use Rattle.usb_capture.specs.PacketFindings.{is_found}
use Rattle.usb_capture.specs.Readings.{reads_descriptor}
use Rattle.usb_capture.specs.TransferFindings as transfer_findings
use Rattle.usb_recorded_runs.specs.Exchanges.{Exchange}

-- this is found in none of these transactions, each of which comes after those before it
abbrev pub IsFreeAfter : PacketFinding → List Transaction → List Transaction → Type 0
IsFreeAfter finding before [] = Unit {0}
IsFreeAfter finding before (t ∷ ts) = (is_found finding before t ≡ false) × IsFreeAfter finding (before ++ t ∷ []) ts

-- the device's answer is lost, or the host's ACK of it, or the device has another address
abbrev pub LosesHandshake : Exchange → Type 0
LosesHandshake x = (x.fate ≡ LostUp) ⊎ ((x.fate ≡ LostAck) ⊎ (x.sent.address ≢ x.address))

-- this is found in none of these transfers, each of which comes after those before it, of which the last is the first in the list
abbrev pub IsTransferFreeAfter : Finding → List ControlTransfer → List ControlTransfer → Type 0
IsTransferFreeAfter finding earlier [] = Unit {0}
IsTransferFreeAfter finding earlier (t ∷ ts) = (transfer_findings.is_found finding earlier t ≡ false) × IsTransferFreeAfter finding (t ∷ earlier) ts

-- the descriptor that a request is for, of a device with these: by its type and index in wValue and a string's language in wIndex, or
-- none (9.4.3)
abbrev pub described_by : DescriptorFile → Setup → List ℕ
described_by f q = unwrap_or (descriptor f (q.value / 256) (q.value % 256) q.index) []

-- how a control transfer with such a device has ended
pub record IsEnded (f : DescriptorFile) (t : ControlTransfer) : Type 0 where
  -- A STALL is the device's refusal of the request, in one of its states (9.2.7).
  pub refused : t.ending ≡ Stall → (s : State) × (answer f s t.setup ≡ Refused)
  -- One that has read a descriptor has wLength bytes of it, or all (9.4.3).
  pub whole : t.ending ≡ Done → reads_descriptor t.setup ≡ true → t.length ≡ min t.setup.length (length (described_by f t.setup))
