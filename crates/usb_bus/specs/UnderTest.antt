-- An enumeration of a device under test, beside which a device of known descriptors has the same transactions.
use Rattle.std.specs.Prelude.{◌≡◌, ℕ, suc, ◌⊎◌, Bool, if◌then◌else◌, List, [], ◌∷◌, map, slice_get, Option, Some, None}
use Rattle.usb_fields.specs.declared.setup.Setup.{Setup}
use Rattle.usb_fields.specs.declared.packet.Speed.{Speed}
use Rattle.usb_fields.specs.Packets.{Sent, Reply, NakReply, NoReply}
use Rattle.usb_file_data.specs.declared.file.DescriptorFile.{DescriptorFile}
use Rattle.usb_host.specs.Limits.{LimitView}
use Rattle.usb_host.specs.Transfer.{TransferView}
use Rattle.usb_host.specs.Steps.{Takes, WantsSent, outcome_of, transfer_in, wanted}
use Rattle.usb_device.specs.declared.state.State.{State}
use Rattle.usb_device.specs.Requests.{Outcome, answer}
use Rattle.usb_device.specs.Step.{DeviceView, served, acked}
use Rattle.usb_device.specs.Conformance.{IsAllowed, is_free, is_ready}
use Rattle.usb_device.specs.declared.open_transfer.OpenTransfer.{OpenTransfer}
use Rattle.usb_bus.specs.declared.fate.Fate.{Fate}
use Rattle.usb_bus.specs.declared.fate.Fate.TheVariants.{Pass, Busy, LostAck, LostDown, LostUp}
use Rattle.usb_bus.specs.declared.enumeration.Run.{Run}
use Rattle.usb_bus.specs.Bus.{acknowledges, brought, readiness}
use Rattle.usb_bus.specs.Enumerate.{IsReset, Pair, new_pair}

-- a transaction of a device under test: its fate, and what the device answers, where it receives
pub record Tested : Type 0 where
  pub fate : Fate
  pub came : Reply

-- The fate under which a device of known descriptors answers so: a NAK comes of one that is not ready, and one that is lost
-- leaves both ends as a transaction that was not received.
abbrev pub fate_by : Fate → Reply → Fate
fate_by LostDown came = LostDown
fate_by LostUp NakReply = LostDown
fate_by LostUp came = LostUp
fate_by LostAck NakReply = Busy
fate_by LostAck came = LostAck
fate_by Pass NakReply = Busy
fate_by Pass came = Pass
fate_by Busy NakReply = Busy
fate_by Busy came = Pass

abbrev pub known_fate : Tested → Fate
known_fate t = fate_by t.fate t.came

-- the fate that the bus had for it
abbrev pub bus_fate : Tested → Fate
bus_fate t = t.fate

-- For any answers to requests, and any packet size, of the device of known descriptors, and any transfers whose outcome is open.
-- The pairs are the host, which speaks with the device under test, and that device.
module _ (table : State → Setup → Outcome) (packet : ℕ) (free : DeviceView → Setup → Bool) where
  -- Neither device receives what is sent, or both do. Then the answer that came is allowed beside the known one, whatever the one who
  -- judges holds of an open transfer. The host has what the bus brings of it, and both devices the ACK of it, if there is one.
  abbrev pub Compares : Tested → TransferView → Sent → Pair → Pair → Option Bool → Type 0
  Compares t transfer sent x y None = Takes x.host NoReply y.host × (y.device ≡ x.device)
  Compares t transfer sent x y (Some ready) =
      let r = served table packet x.device sent (is_ready t.came) in
      ((open_transfer : OpenTransfer) × IsAllowed (free x.device transfer.request) transfer.request packet open_transfer sent.token t.came r.reply)
      × Takes x.host (brought t.fate t.came) y.host
      × (y.device ≡ (if acknowledges t.fate t.came then acked table packet r.device else r.device))

  -- a transaction, where the host asks for one in its transfer
  pub record IsTested (t : Tested) (x y : Pair) : Type 0 where
    pub transfer : TransferView
    pub is_current : transfer_in x.host.phase ≡ Some transfer
    pub sent : Sent
    pub due : wanted x.host.phase ≡ WantsSent sent
    pub compares : Compares t transfer sent x y (readiness t.fate)

  -- `last` is reached from a pair that is new, by the first n of these transactions, and by resets. These are the pairs on the
  -- way, the newest first.
  abbrev pub RunsTested : List Tested → Pair → List Pair → ℕ → Pair → Type 0
  RunsTested tested new [] n last = (last ≡ new) × (n ≡ 0)
  RunsTested tested new (x ∷ earlier) n last =
      (IsReset x last × RunsTested tested new earlier n x)
      ⊎ ((m : ℕ) × (n ≡ suc m) × ((t : Tested) × (slice_get tested m ≡ Some t) × IsTested t x last) × RunsTested tested new earlier m x)

-- An enumeration of a device under test, beside one with these descriptors, comes to this.
abbrev pub IsTest : DescriptorFile → Speed → LimitView → List Tested → Run → Type 0
IsTest f speed limits tested run =
    (earlier : List Pair) × (last : Pair) × RunsTested (answer f) f.device.packet (is_free f) tested (new_pair limits speed) earlier run.transactions last
    × (last.host.resets ≡ run.attempts) × (outcome_of last.host.phase ≡ Some run.outcome) × (last.device.state ≡ run.state)

-- the fates under which a device of known descriptors answers so
abbrev pub known_fates : List Tested → List Fate
known_fates tested = map known_fate tested
