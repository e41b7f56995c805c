-- Transfers, talks and enumerations over a bus of bytes: as those under fates, but for what happens to each transaction.
use Rattle.std.specs.Prelude.{◌≡◌, ◌⊎◌, ◌+◌, ℕ, suc, not, Bool, List, [], ◌∷◌, Option, Some, None}
use Rattle.usb_fields.specs.declared.packet.Speed.{Speed}
use Rattle.usb_fields.specs.declared.setup.Setup.{Setup as SetupPacket}
use Rattle.usb_fields.specs.Packets.{Sent}
use Rattle.usb_file_data.specs.declared.file.DescriptorFile.{DescriptorFile}
use Rattle.usb_host.specs.declared.reply.Reply.{Reply}
use Rattle.usb_host.specs.Limits.{LimitView}
use Rattle.usb_host.specs.Plan.{Plan}
use Rattle.usb_host.specs.Steps.{Takes, WantsSent, outcome_of, wanted}
use Rattle.usb_host.specs.Transfer.{due_of}
use Rattle.usb_device.specs.declared.state.State.{State}
use Rattle.usb_device.specs.Requests.{Outcome, answer}
use Rattle.usb_device.specs.Step.{DeviceView, Served}
use Rattle.usb_bus.specs.Attempt.{Attempt, Phase, Running, advance}
use Rattle.usb_bus.specs.Bus.{Ends, has_data, receives_reply}
use Rattle.usb_bus.specs.Enumerate.{IsReset, Pair, new_pair}
use Rattle.usb_bus.specs.declared.enumeration.Run.{Run}
use Rattle.usb_bus.specs.Wire.{Event, OnWire, one_if}

-- for any answers to requests, and any packet size of the device
module _ (answer : State → SetupPacket → Outcome) (packet : ℕ) where
  -- a transaction of two ends, if one comes next, of a request that sends data to the device or not
  abbrev pub WireStep : Bool → Event → Ends → Option Sent → Ends → Type 0
  WireStep sends v x None y = y ≡ x
  WireStep sends v x (Some sent) y =
      (r : Served) × OnWire answer packet x.device sent v r × (y ≡ record { host = receives_reply sends x.host r.reply; device = r.device })

  -- transactions of one transfer, where these are the data to the device
  abbrev pub WireRun : List ℕ → List Event → Ends → Ends → Type 0
  WireRun bytes [] x z = z ≡ x
  WireRun bytes (v ∷ events) x z = (y : Ends) × WireStep (has_data bytes) v x (due_of x.host.transfer bytes) y × WireRun bytes events y z

  -- For any plan of transfers, limit of NAKs, and data to the device.
  module _ (plan : List Reply → Plan) (naks : ℕ) (sends : List Reply → List ℕ) where
    -- a transaction of the transfer that is under way, and what it brings the plan to; after the end nothing moves
    abbrev pub WireAttemptStep : Event → List Reply → Phase → DeviceView → Attempt → Type 0
    WireAttemptStep v replies (Running h) d y =
        (x : Ends) × WireStep (has_data (sends replies)) v (record { host = h; device = d }) (due_of h.transfer (sends replies)) x
        × (y ≡ advance plan naks sends replies x.host x.host.transfer.stage x.device)
    WireAttemptStep v replies phase d y = y ≡ record { replies = replies; phase = phase; device = d }

    -- transactions with no bus reset between them
    abbrev pub WireAttempt : List Event → Attempt → Attempt → Type 0
    WireAttempt [] x z = z ≡ x
    WireAttempt (v ∷ events) x z = (y : Attempt) × WireAttemptStep v x.replies x.phase x.device y × WireAttempt events y z

  -- a transaction of an enumeration, where the host asks for one
  pub record IsWireTransaction (v : Event) (x y : Pair) : Type 0 where
    pub sent : Sent
    pub due : wanted x.host.phase ≡ WantsSent sent
    pub brings : Served
    pub carries : OnWire answer packet x.device sent v brings
    pub host : Takes x.host brings.reply y.host
    pub device : y.device ≡ brings.device

-- how many transactions there were, how many of them had a packet that didn't arrive as it was sent, and how many met a device
-- that wasn't ready
pub record Counts : Type 0 where
  pub transactions : ℕ
  pub damaged : ℕ
  pub unready : ℕ

abbrev pub none_yet : Counts
none_yet = record { transactions = 0; damaged = 0; unready = 0 }

abbrev pub with_one : Event → Counts → Counts
with_one v n = record { transactions = suc n.transactions; damaged = one_if v.damaged + n.damaged; unready = one_if (not v.ready) + n.unready }

module _ (table : State → SetupPacket → Outcome) (packet : ℕ) where
  -- `last` is reached from a pair that is new, by n transactions over the bus, and by resets. These are the pairs on the
  -- way, the newest first.
  abbrev pub WireRunsAt : Pair → List Pair → Counts → Pair → Type 0
  WireRunsAt new [] n last = (last ≡ new) × (n ≡ none_yet)
  WireRunsAt new (x ∷ earlier) n last =
      (IsReset x last × WireRunsAt new earlier n x)
      ⊎ ((v : Event) × (m : Counts) × (n ≡ with_one v m) × IsWireTransaction table packet v x last × WireRunsAt new earlier m x)

-- An enumeration over the bus of bytes, from a new pair on, comes to this.
abbrev pub IsWireRunFrom : Pair → (State → SetupPacket → Outcome) → ℕ → Counts → Run → Type 0
IsWireRunFrom new table packet n run =
    (earlier : List Pair) × (last : Pair) × WireRunsAt table packet new earlier n last
    × (n.transactions ≡ run.transactions) × (last.host.resets ≡ run.attempts) × (outcome_of last.host.phase ≡ Some run.outcome) × (last.device.state ≡ run.state)

-- of a host that asks for all of a file
abbrev pub IsWireEnumerationAt : (State → SetupPacket → Outcome) → ℕ → Speed → LimitView → Counts → Run → Type 0
IsWireEnumerationAt table packet speed limits n run = IsWireRunFrom (new_pair limits speed) table packet n run

-- the same of a device with these descriptors
abbrev pub IsWireEnumeration : DescriptorFile → Speed → LimitView → Counts → Run → Type 0
IsWireEnumeration f speed limits n run = IsWireEnumerationAt (answer f) f.device.packet speed limits n run
