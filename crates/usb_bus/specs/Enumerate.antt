-- A whole enumeration: a host, a device and a bus that loses; and what it promises.
use Rattle.std.specs.Prelude.{◌≡◌, ℕ, suc, List, [], ◌∷◌, ◌⊎◌, ◌+◌, ◌-◌, ◌<◌, ◌≤◌, IsSome, Bool, Option, Some, None, ◌/◌, true, false, IfErr, IfOk}
use Rattle.usb_fields.specs.declared.packet.Speed.{Speed}
use Rattle.usb_fields.specs.Packets.{Sent, NoReply, Reply}
use Rattle.usb_file_data.specs.declared.file.DescriptorFile.{DescriptorFile}
use Rattle.usb_host.specs.Limits.{LimitView}
use Rattle.usb_fields.specs.declared.setup.Setup.{Setup as SetupPacket}
use Rattle.usb_device.specs.declared.state.State.{State}
use Rattle.usb_device.specs.Requests.{Outcome, answer}
use Rattle.usb_device.specs.Step.{DeviceView, new_device}
use Rattle.usb_bus.specs.declared.fate.Fate.{Fate}
use Rattle.usb_bus.specs.Bus.{carried, readiness, losses, busies}
use Rattle.usb_bus.specs.Run.{fate_at, fates_used}
use Rattle.usb_host.specs.declared.choice.Choice.{Choice}
use Rattle.usb_host.specs.Terms.{everything}
use Rattle.usb_host.specs.Steps.{HostView, chosen_host, WantsReset, WantsSent, wanted, reset, Takes, outcome_of, blames_bus}
use Rattle.usb_device.specs.View.{served_by}
use Rattle.usb_host.specs.Cost.{left_to_ask, most}
use Rattle.usb_host.specs.declared.why.Why.{Why}
use Rattle.usb_host.specs.declared.why.Why.TheVariants.{Memory}
use Rattle.usb_device.specs.States.{first_alternates}
use Rattle.usb_bus.specs.declared.fate.Fate.TheVariants.{Pass, LostAck}
use Rattle.usb_host.specs.Order.{first_value}
use Rattle.usb_bus.specs.declared.enumeration.Run.{Run}

-- A whole enumeration: a host, a device and a bus that loses.

-- both ends, as their callers see them
pub record Pair : Type 0 where
  pub host : HostView
  pub device : DeviceView

-- a new host that asks for so much, and a new device
abbrev pub chosen_pair : LimitView → Speed → Choice → Pair
chosen_pair limits speed choice = record { host = chosen_host limits speed choice; device = new_device }

-- a new host that asks for all of a file, and a new device
abbrev pub new_pair : LimitView → Speed → Pair
new_pair limits speed = chosen_pair limits speed everything

-- a bus reset, where the host wants one: it reaches both ends (USB 2.0, 9.1.1.3)
pub record IsReset (x y : Pair) : Type 0 where
  pub due : wanted x.host.phase ≡ WantsReset
  pub host : y.host ≡ reset x.host
  pub device : y.device ≡ new_device

-- For any answers to requests, and any packet size of the device.
module _ (table : State → SetupPacket → Outcome) (packet : ℕ) where
  -- A transaction, where the host asks for one. A device with these answers answers, the bus does to it what the fate
  -- says, and the host takes what comes back.
  pub record IsTransactionAt (fate : Fate) (x y : Pair) : Type 0 where
    pub sent : Sent
    pub due : wanted x.host.phase ≡ WantsSent sent
    pub host : Takes x.host (carried table packet x.device sent fate).reply y.host
    pub device : y.device ≡ (carried table packet x.device sent fate).device

  -- `last` is reached from a pair that is new, by n transactions under the first fates, and by resets. These are
  -- the pairs on the way, the newest first.
  abbrev pub RunsAt : List Fate → Pair → List Pair → ℕ → Pair → Type 0
  RunsAt fates new [] n last = (last ≡ new) × (n ≡ 0)
  RunsAt fates new (x ∷ earlier) n last =
      (IsReset x last × RunsAt fates new earlier n x)
      ⊎ ((m : ℕ) × (n ≡ suc m) × IsTransactionAt (fate_at fates m) x last × RunsAt fates new earlier m x)

-- the same with a device of these descriptors
abbrev pub IsTransaction : DescriptorFile → Fate → Pair → Pair → Type 0
IsTransaction f fate x y = IsTransactionAt (answer f) f.device.packet fate x y

-- the same of the device's own table
abbrev pub Runs : DescriptorFile → List Fate → Pair → List Pair → ℕ → Pair → Type 0
Runs f fates new earlier n last = RunsAt (answer f) f.device.packet fates new earlier n last

-- What one step of an enumeration does, and what falls with it.

-- both ends
abbrev pub both : HostView → DeviceView → Pair
both host device = record { host = host; device = device }

-- what a device with these descriptors answers where it receives and is ready or not: nothing where it receives nothing
abbrev pub answered_to : DescriptorFile → DeviceView → Sent → Option Bool → Reply
answered_to f d sent None = NoReply
answered_to f d sent (Some ready) = (served_by f d sent ready).reply

-- what it answers under a fate, whether that reaches the host or not
abbrev pub answered : DescriptorFile → DeviceView → Sent → Fate → Reply
answered f d sent fate = answered_to f d sent (readiness fate)

-- a reset after n transactions, or transaction n under its fate; `now` transactions there were then
abbrev pub Moves : DescriptorFile → List Fate → Pair → ℕ → Pair → ℕ → Type 0
Moves f fates x n y now = (IsReset x y × (now ≡ n)) ⊎ (IsTransaction f (fate_at fates n) x y × (now ≡ suc n))

-- What falls with each step: what may still be asked for, and the attempts that are left.
abbrev pub measure : HostView → ℕ
measure v = left_to_ask v + (v.limits.attempts - v.resets)

-- What a step says that was made: these ends were so after n transactions, and those are so after `now`.
pub record IsStep (f : DescriptorFile) (fates : List Fate) (x : Pair) (n : ℕ) (y : Pair) (now : ℕ) : Type 0 where
  -- it was a reset or a transaction
  pub moves : Moves f fates x n y now
  -- with each transaction fewer may still be asked for
  pub fewer : now + left_to_ask y.host ≤ n + left_to_ask x.host
  -- and that falls
  pub falls : measure y.host < measure x.host

-- What a step says where none was left: the host has an outcome, and both ends are as they were.
pub record NoneIsLeft (x y : Pair) : Type 0 where
  pub ended : IsSome (outcome_of y.host.phase)
  pub same : y ≡ x

-- What an enumeration promises.

-- The enumeration is a run of both ends, from a new host and a new device on. Each step is a reset, where one comes next, or a
-- transaction, where the host asks for one, under the fates in their order. The run has as many transactions and resets, and
-- its last pair has this outcome and this state.
abbrev pub IsRunFrom : Pair → (State → SetupPacket → Outcome) → ℕ → List Fate → Run → Type 0
IsRunFrom new table packet fates run =
    (earlier : List Pair) × (last : Pair) × RunsAt table packet fates new earlier run.transactions last
    × (last.host.resets ≡ run.attempts) × (outcome_of last.host.phase ≡ Some run.outcome) × (last.device.state ≡ run.state)

-- a host that asks for all of a file
abbrev pub IsEnumerationAt : (State → SetupPacket → Outcome) → ℕ → Speed → LimitView → List Fate → Run → Type 0
IsEnumerationAt table packet speed limits fates run = IsRunFrom (new_pair limits speed) table packet fates run

-- the same of a device with these descriptors
abbrev pub IsEnumeration : DescriptorFile → Speed → LimitView → List Fate → Run → Type 0
IsEnumeration f speed limits fates run = IsEnumerationAt (answer f) f.device.packet speed limits fates run

-- a host that asks for so much: with a report it has passed over nothing
abbrev pub IsChosenEnumeration : DescriptorFile → Speed → LimitView → Choice → List Fate → Run → Type 0
IsChosenEnumeration f speed limits choice fates run =
    (is : IsRunFrom (chosen_pair limits speed choice) (answer f) f.device.packet fates run) × IfOk run.outcome (λ g. is.1.host.forgiven ≡ [])

-- the device once it is configured by its first set's value, and nothing else has changed (9.1.1.5)
abbrev pub configured_state : ℕ → DescriptorFile → State
configured_state address f = record { address = address; selected = first_value f.sets; alternates = first_alternates; halts = 0; wakeup = false }

-- What a success says: the file that was read is the description, and the device has this address and is configured by the
-- first set's value.
abbrev pub HasReadAll : DescriptorFile → ℕ → State → DescriptorFile → Type 0
HasReadAll f address s g = (g ≡ f) × (s ≡ configured_state address f)

-- whether what the device answers under a fate reaches the host, and is no NAK
abbrev pub brings : Fate → Bool
brings Pass = true
brings LostAck = true
brings fate = false

-- whether what the device answered under the last of these fates reaches the host, and is no NAK
abbrev pub ends_received : List Fate → Bool
ends_received [] = false
ends_received (fate ∷ []) = brings fate
ends_received (fate ∷ next ∷ more) = ends_received (next ∷ more)

-- Why an enumeration of a device that keeps to the standard ends without success, after these fates: out of memory, at an
-- answer that reached the host; or it used all attempts, and each cost a loss of its own, or one busy transaction more than
-- the limit of NAKs.
abbrev pub HasCause : LimitView → List Fate → ℕ → Why → Type 0
HasCause limits used attempts why =
    ((why ≡ Memory) × (ends_received used ≡ true))
    ⊎ ((blames_bus why ≡ true) × (attempts ≡ limits.attempts) × (limits.attempts ≤ losses used + busies used / suc limits.naks))

-- What holds of every enumeration of a device with these accepted descriptors, whatever the bus does to it.
pub record EndsWell (f : DescriptorFile) (limits : LimitView) (fates : List Fate) (run : Run) : Type 0 where
  -- a success has read the descriptors, and the device is configured
  pub reads : IfOk run.outcome (HasReadAll f limits.address run.state)
  -- there are at most `most` transactions
  pub few : run.transactions ≤ most limits
  -- and at most as many attempts as the limits allow
  pub attempts : run.attempts ≤ limits.attempts
  -- any other end has a cause
  pub cause : IfErr run.outcome (λ trouble. HasCause limits (fates_used fates run.transactions) run.attempts trouble.why)
  -- where the bus is blamed, all attempts were used
  pub all : IfErr run.outcome (λ trouble. blames_bus trouble.why ≡ true → run.attempts ≡ limits.attempts)
  -- it succeeds if memory is there and losses, with the times that the limit of NAKs can be passed, are fewer than attempts
  pub succeeds : losses fates + busies fates / suc limits.naks < limits.attempts → IfErr run.outcome (λ trouble. trouble.why ≡ Memory)
  -- so with fewer losses than attempts, and no more busy transactions than the limit of NAKs
  pub plainly : losses fates < limits.attempts → busies fates ≤ limits.naks → IfErr run.outcome (λ trouble. trouble.why ≡ Memory)
