-- An enumeration over a bus of bytes on which given bits change.
use Rattle.std.specs.Prelude.{◌≡◌, ◌⊎◌, ◌==◌, ◌||◌, ◌+◌, ◌≤◌, ◌<◌, ℕ, zero, suc, Bool, true, false, List, [], ◌∷◌, Some}
use Rattle.usb_fields.specs.declared.packet.Speed.{Speed}
use Rattle.usb_fields.specs.declared.setup.Setup.{Setup as SetupPacket}
use Rattle.usb_fields.specs.Packets.{Sent, Reply}
use Rattle.usb_file_data.specs.declared.file.DescriptorFile.{DescriptorFile}
use Rattle.usb_host.specs.Cost.{left_to_ask}
use Rattle.usb_host.specs.Limits.{LimitView}
use Rattle.usb_host.specs.Steps.{Takes, WantsSent, outcome_of, wanted}
use Rattle.usb_device.specs.declared.state.State.{State}
use Rattle.usb_device.specs.Requests.{Outcome, answer}
use Rattle.usb_device.specs.Step.{Served}
use Rattle.usb_wire.specs.Packets.{PacketView, IsLegal, packet_bytes}
use Rattle.usb_bus.specs.declared.fate.Fate.{Fate}
use Rattle.usb_bus.specs.declared.fate.Fate.TheVariants.{Pass, Busy}
use Rattle.usb_bus.specs.declared.enumeration.Run.{Run}
use Rattle.usb_bus.specs.declared.wire.change.BitChange.{BitChange}
use Rattle.usb_bus.specs.Damaged.{IsExchanged, bits_of, is_ready, with_changed}
use Rattle.usb_bus.specs.Enumerate.{IsReset, Pair, measure, new_pair}
use Rattle.usb_bus.specs.Run.{fate_at}
use Rattle.usb_bus.specs.Wire.{Arrives, Event}
use Rattle.usb_bus.specs.WireRuns.{Counts, none_yet, with_one}

module _ (table : State → SetupPacket → Outcome) (packet : ℕ) where
  -- a transaction, where the host asks for one
  pub record IsDamagedAt (fate : Fate) (bits : ℕ → List ℕ) (x y : Pair) : Type 0 where
    pub sent : Sent
    pub due : wanted x.host.phase ≡ WantsSent sent
    pub answered : Reply
    pub brings : Served
    pub carries : IsExchanged table packet x.device sent fate bits answered brings
    pub host : Takes x.host brings.reply y.host
    pub device : y.device ≡ brings.device

  -- a reset after n transactions, or the next transaction under its fate; `now` transactions there were then
  abbrev pub DamagedMoves : List Fate → List BitChange → Pair → ℕ → Pair → ℕ → Type 0
  DamagedMoves fates changes x n y now =
      (IsReset x y × (now ≡ n)) ⊎ (IsDamagedAt (fate_at fates n) (bits_of changes now) x y × (now ≡ suc n))

  -- `last` is reached from a pair that is new, by n transactions under the first fates, and by resets. These are
  -- the pairs on the way, the newest first.
  abbrev pub DamagedRunsAt : List Fate → List BitChange → Pair → List Pair → ℕ → Pair → Type 0
  DamagedRunsAt fates changes new [] n last = (last ≡ new) × (n ≡ 0)
  DamagedRunsAt fates changes new (x ∷ earlier) n last =
      (m : ℕ) × DamagedMoves fates changes x m last n × DamagedRunsAt fates changes new earlier m x

-- What a step says that was made: these ends were so after n transactions, and those are so after `now`.
pub record IsDamagedStep (f : DescriptorFile) (fates : List Fate) (changes : List BitChange) (x : Pair) (n : ℕ) (y : Pair) (now : ℕ) : Type 0 where
  pub moves : DamagedMoves (answer f) f.device.packet fates changes x n y now
  -- with each transaction fewer may still be asked for, and with each step that falls
  pub fewer : now + left_to_ask y.host ≤ n + left_to_ask x.host
  pub falls : measure y.host < measure x.host

-- An enumeration of a device with these descriptors, from a new pair on, comes to this.
abbrev pub IsDamagedRunFrom : Pair → DescriptorFile → List Fate → List BitChange → Run → Type 0
IsDamagedRunFrom new f fates changes run =
    (earlier : List Pair) × (last : Pair) × DamagedRunsAt (answer f) f.device.packet fates changes new earlier run.transactions last
    × (last.host.resets ≡ run.attempts) × (outcome_of last.host.phase ≡ Some run.outcome) × (last.device.state ≡ run.state)

-- of a host that asks for all of a file
abbrev pub IsDamagedEnumeration : DescriptorFile → Speed → LimitView → List Fate → List BitChange → Run → Type 0
IsDamagedEnumeration f speed limits fates changes run = IsDamagedRunFrom (new_pair limits speed) f fates changes run

-- The changes are slight: whichever packet has them arrives as it was sent or slightly damaged.
abbrev pub AreSlight : List BitChange → Type 0
AreSlight changes = (transaction number : ℕ) (p : PacketView) → IsLegal p → Arrives p (with_changed (bits_of changes transaction number) (packet_bytes p))

-- whether a transaction has a change
abbrev pub is_changed : List BitChange → ℕ → Bool
is_changed [] transaction = false
is_changed (c ∷ changes) transaction = (c.transaction == transaction) || is_changed changes transaction

-- whether something is lost
abbrev pub is_lossy : Fate → Bool
is_lossy Pass = false
is_lossy Busy = false
is_lossy fate = true

-- what happens to transaction n, counted from 0, and to the first n
abbrev pub event_at : List Fate → List BitChange → ℕ → Event
event_at fates changes n =
    record { ready = is_ready (fate_at fates n); damaged = is_lossy (fate_at fates n) || is_changed changes (suc n) }

abbrev pub counts_of : List Fate → List BitChange → ℕ → Counts
counts_of fates changes zero = none_yet
counts_of fates changes (suc n) = with_one (event_at fates changes n) (counts_of fates changes n)
