-- The laws of a bus of bytes: a slightly damaged packet is a lost one, so that all that holds under fates holds over it.
use Rattle.std.specs.Prelude.{◌≡◌, ◌⊎◌, ◌≤◌, ◌<◌, ℕ, not, List, length, Option, Some, None}
use Rattle.usb_wire.specs.Packets.{PacketView}
use Rattle.usb_fields.specs.Bytes.{AreBytes}
use Rattle.usb_fields.specs.declared.packet.Speed.{Speed}
use Rattle.usb_fields.specs.declared.setup.Setup.{Setup as SetupPacket}
use Rattle.usb_fields.specs.Packets.{Sent}
use Rattle.usb_file_data.specs.declared.file.DescriptorFile.{DescriptorFile}
use Rattle.usb_file_data.specs.File.{file_bytes}
use Rattle.usb_host.specs.declared.reply.Reply.{Reply}
use Rattle.usb_host.specs.Limits.{IsInRange, LimitView}
use Rattle.usb_host.specs.Plan.{Plan}
use Rattle.usb_device.specs.Accepted.{Accepted}
use Rattle.usb_device.specs.declared.state.State.{State}
use Rattle.usb_device.specs.Requests.{Outcome, answer}
use Rattle.usb_device.specs.Step.{DeviceView, Served, new_device}
use Rattle.usb_bus.specs.Attempt.{Attempt, AttemptEnds, attempt_run}
use Rattle.usb_bus.specs.Beside.{IsBeside, IsTable}
use Rattle.usb_bus.specs.Bus.{Ends, busies, busy, carried, losses, lost, run_of}
use Rattle.usb_bus.specs.Converse.{AskedView, ends_with_address, first_place, replies_to, state_after, talk_data, talk_plan, talk_start}
use Rattle.usb_bus.specs.Enumerate.{EndsWell, IsRunFrom, Pair, new_pair}
use Rattle.usb_bus.specs.declared.enumeration.Run.{Run}
use Rattle.usb_bus.specs.declared.fate.Fate.{Fate}
use Rattle.usb_bus.specs.Wire.{Event, IsReceived, OnWire, damages, delays, one_if}
use Rattle.usb_bus.specs.WireRuns.{Counts, IsWireEnumerationAt, IsWireRunFrom, WireAttempt, WireRun}

-- two devices in one state and one stage, of which one may wait for an ACK that the other does not; no later transaction
-- tells them apart
pub record IsAlike (d e : DeviceView) : Type 0 where
  pub state : d.state ≡ e.state
  pub stage : d.stage ≡ e.stage

-- a packet is received as it was sent, or not at all
abbrev pub DamagedPacketsAreLost : Type 0
DamagedPacketsAreLost = (p : PacketView) (received : Option PacketView) → IsReceived p received → (received ≡ Some p) ⊎ (received ≡ None)

-- A transaction over the bus brings what it brings under some fate, and leaves such a device. The fate loses something only
-- where some packet didn't arrive as it was sent, and is busy only where the device wasn't ready.
pub record IsFate (answer : State → SetupPacket → Outcome) (packet : ℕ) (d : DeviceView) (sent : Sent) (v : Event) (r : Served) (fate : Fate) : Type 0 where
  pub reply : r.reply ≡ (carried answer packet d sent fate).reply
  pub device : IsAlike r.device (carried answer packet d sent fate).device
  pub loses : lost fate ≤ one_if v.damaged
  pub delays : busy fate ≤ one_if (not v.ready)

abbrev pub TransactionsHaveFates : Type 0
TransactionsHaveFates =
    (answer : State → SetupPacket → Outcome) (packet : ℕ) (d : DeviceView) (sent : Sent) (v : Event) (r : Served) → OnWire answer packet d sent v r →
    (fate : Fate) × IsFate answer packet d sent v r fate

-- As many fates, which lose and are busy no more often.
pub record AreFates (events : List Event) (fates : List Fate) : Type 0 where
  pub count : length fates ≡ length events
  pub loses : losses fates ≤ damages events
  pub delays : busies fates ≤ delays events

-- The transactions of a transfer are those under such fates: the host ends the same, and the device alike.
abbrev pub RunsHaveFates : Type 0
RunsHaveFates =
    (answer : State → SetupPacket → Outcome) (packet : ℕ) (bytes : List ℕ) (events : List Event) (x y : Ends) → WireRun answer packet bytes events x y →
    (fates : List Fate) × AreFates events fates
    × (y.host ≡ (run_of answer packet bytes fates x).host) × IsAlike y.device (run_of answer packet bytes fates x).device

-- Transfers by a plan, with no bus reset between them, are those under such fates.
abbrev pub AttemptsHaveFates : Type 0
AttemptsHaveFates =
    (answer : State → SetupPacket → Outcome) (packet : ℕ) (plan : List Reply → Plan) (naks : ℕ) (sends : List Reply → List ℕ)
    (events : List Event) (x y : Attempt) → WireAttempt answer packet plan naks sends events x y →
    (fates : List Fate) × AreFates events fates
    × (let z = attempt_run plan naks sends answer packet fates x in (y.replies ≡ z.replies) × (y.phase ≡ z.phase) × IsAlike y.device z.device)

-- So a talk ends as one under such fates: with the replies of the device's table, or for a cause.
abbrev pub TalksOnTheWireHaveCauses : Type 0
TalksOnTheWireHaveCauses =
    (answer : State → SetupPacket → Outcome) (packet naks : ℕ) (qs : List AskedView) (events : List Event) (y : Attempt) → 0 < packet → IsTable answer →
    WireAttempt answer packet (talk_plan packet (first_place qs)) naks (talk_data (first_place qs)) events (talk_start packet naks qs) y →
    (fates : List Fate) × AreFates events fates
    × (let s = new_device.state in
    AttemptEnds naks fates (ends_with_address qs) (replies_to answer s qs) (state_after answer s qs) y.replies y.phase y.device.state)

-- An enumeration over the bus is one under fates: with the same outcome, and the device in the same state. The fates lose no
-- more often than a packet didn't arrive as it was sent, and are no more often busy than the device wasn't ready.
pub record IsFatedFrom (new : Pair) (table : State → SetupPacket → Outcome) (packet : ℕ) (n : Counts) (run : Run) (fates : List Fate) : Type 0 where
  pub runs : IsRunFrom new table packet fates run
  pub count : length fates ≡ n.transactions
  pub loses : losses fates ≤ n.damaged
  pub delays : busies fates ≤ n.unready

abbrev pub RunsFromHaveFates : Type 0
RunsFromHaveFates =
    (new : Pair) (table : State → SetupPacket → Outcome) (packet : ℕ) (n : Counts) (run : Run) →
    IsWireRunFrom new table packet n run → (fates : List Fate) × IsFatedFrom new table packet n run fates

-- of a host that asks for all of a file
abbrev pub IsFated : (State → SetupPacket → Outcome) → ℕ → Speed → LimitView → Counts → Run → List Fate → Type 0
IsFated table packet speed limits n run fates = IsFatedFrom (new_pair limits speed) table packet n run fates

abbrev pub EnumerationsHaveFates : Type 0
EnumerationsHaveFates =
    (table : State → SetupPacket → Outcome) (packet : ℕ) (speed : Speed) (limits : LimitView) (n : Counts) (run : Run) →
    IsWireEnumerationAt table packet speed limits n run → (fates : List Fate) × IsFated table packet speed limits n run fates

-- So it ends well, for accepted descriptors, whatever the device's owner answers beside its table. With fewer transactions
-- that have a damaged or lost packet than attempts, and no more that meet a device that isn't ready than the limit of NAKs,
-- only want of memory ends it otherwise than by success.
abbrev pub EnumerationsOnTheWireEndWell : Type 0
EnumerationsOnTheWireEndWell =
    (f : DescriptorFile) (table : State → SetupPacket → Outcome) (speed : Speed) (limits : LimitView) (n : Counts) (run : Run) →
    IsBeside (answer f) table → Accepted f speed → AreBytes (file_bytes f) → IsInRange limits.address limits.attempts →
    IsWireEnumerationAt table f.device.packet speed limits n run →
    (fates : List Fate) × IsFated table f.device.packet speed limits n run fates × EndsWell f limits fates run
