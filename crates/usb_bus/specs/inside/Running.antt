-- What the loops of a talk keep.
use Rattle.std.specs.Prelude.{◌≡◌, ℕ, List, [], ◌∷◌, Some, ◌<◌, ◌≤◌, ◌*◌, length, None, zero, suc, ◌+◌, Option, Result, Ok, Err, Bool, true, false, ◌==◌, if◌then◌else◌}
use Rattle.usb_file_data.specs.declared.file.DescriptorFile.{DescriptorFile}
use Rattle.usb_host.specs.Limits.{LimitView}
use Rattle.usb_bus.specs.declared.fate.Fate.{Fate}
use Rattle.usb_host.specs.Steps.{outcome_of, wanted, HostPhase, ResetDue, Reading, Ended}
use Rattle.usb_bus.specs.declared.enumeration.Run.{Run}
use Rattle.usb_bus.specs.Enumerate.{Pair, Runs, Moves, HasReadAll, HasCause}
use Rattle.usb_bus.specs.Log.{count_before}
use Rattle.usb_device.specs.declared.state.State.{State}
use Rattle.usb_host.specs.Place.{Place, Reported, Stopped}
use Rattle.usb_bus.specs.declared.conversation.Conversation.TheInside.{Inside}
use Rattle.usb_bus.specs.Converse.{TalkView}
use Rattle.usb_fields.specs.Packets.{Sent}
use Rattle.usb_fields.specs.declared.setup.Setup.{Setup as SetupPacket}
use Rattle.usb_host.specs.declared.step.Trouble.{Trouble}
use Rattle.usb_host.specs.declared.why.Why.{Why}
use Rattle.usb_host.specs.declared.why.Why.TheVariants.{Stalled}
use Rattle.usb_host.specs.declared.transfer.TransferStage.{TransferStage}
use Rattle.usb_host.specs.declared.transfer.TransferStage.TheVariants.{Failed}
use Rattle.usb_device.specs.Requests.{Outcome}
use Rattle.usb_device.specs.Step.{DeviceView}
use Rattle.usb_host.specs.declared.reply.Reply.{Reply}
use Rattle.usb_host.specs.declared.reply.Reply.TheVariants as replied
use Rattle.usb_bus.specs.Bus.{HostEnd}
use Rattle.usb_host.specs.Transfer.{TransferView}
use Rattle.usb_bus.specs.declared.sender.Sender.{Sender}
use Rattle.usb_bus.specs.declared.sender.Sender.TheVariants as senders
use Rattle.usb_host.specs.Plan.{Plan}
use Rattle.usb_bus.specs.Attempt.{Attempt, Running, attempt_step, advance}
use Rattle.usb_bus.specs.Run.{fate_at, due_in}

-- A run, and what is done at each of its steps.

-- what is done at a step from one pair to the next, after which there were this many transactions: from this to that
abbrev pub StepWork : Type 0 → Type 1
StepWork W = Pair → Pair → ℕ → W → W → Type 0

-- it was done at each step over these pairs, the newest first, up to the last one
abbrev pub AllWork : {W : Type 0} → StepWork W → List Pair → ℕ → Pair → W → W → Type 0
AllWork does [] n last from to = to ≡ from
AllWork {W} does (x ∷ earlier) n last from to =
    (mid : W) × AllWork does earlier (count_before (wanted x.host.phase) n) x from mid × does x last n mid to

-- n transactions lead from a new pair to this one, and this was done at each step
pub record Leads {W : Type 0} (f : DescriptorFile) (new : Pair) (fates : List Fate) (does : StepWork W) (n : ℕ) (last : Pair) (from to : W) : Type 0 where
  pub earlier : List Pair
  pub runs : Runs f fates new earlier n last
  pub work : AllWork does earlier n last from to

-- a run has ended, with what `run` says, and this was done at each step
pub record Walks {W : Type 0} (f : DescriptorFile) (new : Pair) (fates : List Fate) (does : StepWork W) (from to : W) (run : Run) : Type 0 where
  pub last : Pair
  pub leads : Leads f new fates does run.transactions last from to
  pub attempts : last.host.resets ≡ run.attempts
  pub outcome : outcome_of last.host.phase ≡ Some run.outcome
  pub state : last.device.state ≡ run.state

-- a run has come so far, and the step that was made then has broken it
pub record Breaks {W : Type 0} (f : DescriptorFile) (new : Pair) (fates : List Fate) (does breaks : StepWork W) (from to : W) : Type 0 where
  pub before : Pair
  pub transactions : ℕ
  pub mid : W
  pub leads : Leads f new fates does transactions before from mid
  pub last : Pair
  pub now : ℕ
  pub moves : Moves f fates before transactions last now
  pub broken : breaks before last now mid to

-- What holds of a run of both ends after each step.

-- The end of an enumeration at a place. A report is what was asked for, nothing was passed over, and the device has the address
-- and is configured by the first set's value. Any other end has a cause.
abbrev pub PlaceEndsWell : DescriptorFile → LimitView → List Fate → ℕ → State → List Trouble → Place → Type 0
PlaceEndsWell f limits used attempts s forgiven (Reported g) = HasReadAll f limits.address s g × (forgiven ≡ [])
PlaceEndsWell f limits used attempts s forgiven (Stopped trouble) = HasCause limits used attempts trouble.why
PlaceEndsWell f limits used attempts s forgiven place = ⊥

-- where an enumeration has come to: while it goes on there is nothing to say
abbrev pub GoesWell : DescriptorFile → LimitView → List Fate → ℕ → State → List Trouble → HostPhase → Type 0
GoesWell f limits used attempts s forgiven ResetDue = Unit {0}
GoesWell f limits used attempts s forgiven (Reading place transfer kept) = Unit {0}
GoesWell f limits used attempts s forgiven (Ended place) = PlaceEndsWell f limits used attempts s forgiven place

-- A talk that goes on, as its caller sees it.

abbrev pub view_of : Inside → TalkView
view_of c = record {
  file = c.device.description.file;
  naks = c.naks;
  address = c.address;
  talk = c.talk;
  device = c.device.device;
}

-- the packet size is the device's, and the transactions of all its requests can be counted
abbrev pub IsConversation : Inside → Type 0
IsConversation c =
    (c.packet ≡ c.device.description.file.device.packet) × (0 < c.packet)
    × (c.talk.stopped ≡ None → c.talk.transactions ≤ length c.talk.replies * 8589934592)

-- the transfer that the host's end of a request is, and whether it is a write
abbrev pub transfer_of : Sender → TransferView
transfer_of (senders.Transfer t) = t
transfer_of (senders.Write t) = t

abbrev pub is_write : Sender → Bool
is_write (senders.Transfer t) = false
is_write (senders.Write t) = true

-- why a transfer has failed, if it has
abbrev pub failure_of : TransferStage → Option Why
failure_of (Failed why) = Some why
failure_of _ = None

-- the point n transactions after x, which is that before transaction k
abbrev pub point : (List Reply → Plan) → ℕ → (List Reply → List ℕ) → (State → SetupPacket → Outcome) → ℕ → List Fate → ℕ → ℕ → Attempt → Attempt
point plan naks sends answer cut fates k zero x = x
point plan naks sends answer cut fates k (suc n) x =
    point plan naks sends answer cut fates (suc k) n (attempt_step plan naks sends answer cut (fate_at fates k) x.replies x.phase x.device)

-- a transaction comes next at each of the n points from x on, which is that before transaction k
abbrev pub AreDue : (List Reply → Plan) → ℕ → (List Reply → List ℕ) → (State → SetupPacket → Outcome) → ℕ → List Fate → ℕ → ℕ → Attempt → Type 0
AreDue plan naks sends answer cut fates k n x =
    (i : ℕ) → i < n → (sent : Sent) × (let y = point plan naks sends answer cut fates k i x in due_in (sends y.replies) y.phase ≡ Some sent)

-- From transaction `before` on, the transactions up to `now` lead from these two ends to those, whatever plan the transfer with these
-- data is part of, and whatever comes after.
abbrev pub LeadsTo : (State → SetupPacket → Outcome) → ℕ → List ℕ → List Fate → ℕ → HostEnd → DeviceView → ℕ → HostEnd → DeviceView → Type 0
LeadsTo answer cut bytes fates before h d now h' d' =
    (n : ℕ) × (now ≡ before + n) × ((plan : List Reply → Plan) (naks : ℕ) (sends : List Reply → List ℕ) (replies : List Reply) → sends replies ≡ bytes →
    let start : Attempt = record { replies = replies; phase = Running h; device = d } in
    AreDue plan naks sends answer cut fates before n start
    × ((m : ℕ) → point plan naks sends answer cut fates before (n + m) start
    ≡ point plan naks sends answer cut fates now m (advance plan naks sends replies h' h'.transfer.stage d')))

-- What a transfer that has ended brings to the talk, where `sent` of wLength bytes went to the device: a reply, or the
-- reason why the talk stops.
abbrev pub settled : ℕ → ℕ → List ℕ → Option Why → Result Reply Why
settled length sent got None = Ok (if length == sent then replied.Done else replied.Bytes got)
settled length sent got (Some Stalled) = Ok replied.Refused
settled length sent got (Some why) = Err why
