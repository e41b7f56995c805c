-- How often all data of a write have come to a device, in one transfer: as often as its owner is asked to judge them.
use Rattle.std.specs.Prelude.{◌≡◌, ℕ, ◌+◌, ◌≤◌, ◌&&◌, Bool, true, false, not, if◌then◌else◌, List, [], ◌∷◌, Option, Some, None}
use Rattle.usb_fields.specs.declared.setup.Setup.{Setup}
use Rattle.usb_fields.specs.Packets.{Token, OutToken, Sent, Reply, AckReply}
use Rattle.usb_host.specs.Transfer.{due_of}
use Rattle.usb_host.specs.declared.transfer.TransferStage.TheVariants.{Completed}
use Rattle.usb_device.specs.declared.state.State.{State}
use Rattle.usb_device.specs.Requests.{Outcome, Bytes, Takes}
use Rattle.usb_device.specs.Step.{DeviceStage, Receiving, DeviceView, served}
use Rattle.usb_bus.specs.declared.fate.Fate.{Fate}
use Rattle.usb_bus.specs.Bus.{Ends, readiness, run_of, step_of}
use Rattle.usb_bus.specs.Beside.{CutsAlike, IsAnswering, SizesAlike}
use Rattle.usb_bus.specs.Attempt.{begins}

-- whether a device awaits data of a write
abbrev pub awaits_data : DeviceStage → Bool
awaits_data (Receiving q got) = true
awaits_data stage = false

-- whether the data of an OUT are taken
abbrev pub takes_data : Token → Reply → Bool
takes_data (OutToken toggle bytes) AckReply = true
takes_data token reply = false

-- 1 where an OUT brings the last data of a write: the device awaited them before it, and awaits none after it
abbrev pub arrival : Token → DeviceStage → Reply → DeviceStage → ℕ
arrival token before reply after = if awaits_data before && not (awaits_data after) && takes_data token reply then 1 else 0

-- for any answers to requests, and any packet size of the device
module _ (answer : State → Setup → Outcome) (packet : ℕ) where
  -- in a transaction that a device receives, being ready or not, or does not receive
  abbrev pub arrival_at : DeviceView → Sent → Option Bool → ℕ
  arrival_at d sent None = 0
  arrival_at d sent (Some ready) = let r = served answer packet d sent ready in arrival sent.token d.stage r.reply r.device.stage

  -- in a transaction, if one comes next
  abbrev pub arrival_in : DeviceView → Option Sent → Fate → ℕ
  arrival_in d None fate = 0
  arrival_in d (Some sent) fate = arrival_at d sent (readiness fate)

  -- in transactions under these fates, where these are the data to the device
  abbrev pub arrivals : List ℕ → List Fate → Ends → ℕ
  arrivals bytes [] e = 0
  arrivals bytes (f ∷ fates) e = arrival_in e.device (due_of e.host.transfer bytes) f + arrivals bytes fates (step_of answer packet bytes f e)

-- In one transfer all data of a write come at most once, whatever is lost; and just once where it completed. A host that sends
-- its SETUP again has not sent any data, so that they come after its last SETUP.
pub record ComesOnce (answer : State → Setup → Outcome) (cut naks size : ℕ) (q : Setup) (d : DeviceView) (bytes : List ℕ) (fates : List Fate) : Type 0 where
  pub most : (let start : Ends = record { host = begins d.state.address size naks q; device = d } in arrivals answer cut bytes fates start ≤ 1)
  pub completed : (let start : Ends = record { host = begins d.state.address size naks q; device = d } in
      (judge : List ℕ → Bool) → answer d.state q ≡ Takes judge → (run_of answer cut bytes fates start).host.transfer.stage ≡ Completed →
      arrivals answer cut bytes fates start ≡ 1)

abbrev pub WritesComeOnce : Type 0
WritesComeOnce =
    (answer : State → Setup → Outcome) (cut naks size : ℕ) (q : Setup) (d : DeviceView) (bytes : List ℕ) (fates : List Fate) →
    IsAnswering answer d.state q →
    ((b : List ℕ) → answer d.state q ≡ Bytes b → CutsAlike cut size q.length b) →
    ((judge : List ℕ → Bool) → answer d.state q ≡ Takes judge → SizesAlike cut size) →
    ComesOnce answer cut naks size q d bytes fates
