-- A host, as its callers see it, and its steps.
use Rattle.std.specs.Borrow.{Bor}
use Rattle.std.specs.Prelude.{◌≡◌, ℕ, suc, ◌==◌, ◌&&◌, nat_lt, Bool, true, false, if◌then◌else◌, List, [], ◌++◌, Option, Some, None, Result, Ok, Err, IsTrue, ◌⊎◌}
use Rattle.usb_fields.specs.declared.packet.Speed.{Speed}
use Rattle.usb_fields.specs.Packets.{Reply, Sent, sent_of}
use Rattle.usb_set.specs.declared.fault.SetFault.{SetFault}
use Rattle.usb_set.specs.declared.decoder.Progress.{Progress}
use Rattle.usb_file_data.specs.declared.file.DescriptorFile.{DescriptorFile}
use Rattle.usb_host.specs.declared.choice.NamedStrings.{NamedStrings}
use Rattle.usb_host.specs.declared.choice.Choice.{Choice}
use Rattle.usb_host.specs.declared.choice.Terms.{Terms}
use Rattle.usb_host.specs.Terms.{everything, forgives_any}
use Rattle.usb_host.specs.declared.why.Why.{Why}
use Rattle.usb_host.specs.declared.why.Why.TheVariants.{NoAnswer, Busy, Stalled, TooLong, Unexpected, Malformed, Memory}
use Rattle.usb_host.specs.declared.transfer.TransferStage.{TransferStage}
use Rattle.usb_host.specs.declared.transfer.TransferStage.TheVariants.{Completed, Failed}
use Rattle.usb_host.specs.Limits.{LimitView}
use Rattle.usb_host.specs.Plan.{Plan, Begin, Success, GivesUp}
use Rattle.usb_host.specs.Transfer.{TransferView, HeardView, Goes, Brings, Completes, Fails, Taken, taken, begun, due}
use Rattle.usb_host.specs.declared.step.Action.{Action}
use Rattle.usb_host.specs.declared.step.Action.TheVariants as actions
use Rattle.usb_host.specs.declared.step.Step.{Step}
use Rattle.usb_host.specs.declared.step.Trouble.{Trouble}
use Rattle.usb_host.specs.Place.{Place, First, Set, Qualifier, Languages, Text, Reported, Stopped}
use Rattle.usb_host.specs.Keeping as kept
use Rattle.usb_host.specs.Order.{asks, step_of, stopped, bytes_lead, set_leads, done_leads, refused_leads, spared, forgiven_by}
use Rattle.usb_host.specs.Keeping.{Kept, nothing_kept, WantsMemory, Keeps, set_kept}

-- a bus reset is requested; or there is a current read, with its transfer and what is kept of its bytes; or there is an outcome
pub data HostPhase : Type 0 where
  ResetDue : HostPhase
  Reading : (place : Place) (transfer : TransferView) (kept : Kept) → HostPhase
  Ended : (place : Place) → HostPhase

-- what callers see of a host
pub record HostView : Type 0 where
  pub limits : LimitView
  pub speed : Speed
  pub choice : Choice
  -- the bus resets so far
  pub resets : ℕ
  pub phase : HostPhase
  -- the troubles that were passed over since the last of these, in order
  pub forgiven : List Trouble

-- a new host that asks for so much
abbrev pub chosen_host : LimitView → Speed → Choice → HostView
chosen_host limits speed choice =
    record { limits = limits; speed = speed; choice = choice; resets = 0; phase = ResetDue; forgiven = [] }

-- a new host that asks for all of a file
abbrev pub new_host : LimitView → Speed → HostView
new_host limits speed = chosen_host limits speed everything

-- what the order of its reads depends on
abbrev pub terms_of : HostView → Terms
terms_of v = record { speed = v.speed; choice = v.choice }

-- what a host wants done
pub data Wanted : Type 0 where
  WantsReset : Wanted
  WantsSent : (sent : Sent) → Wanted
  WantsNothing : Wanted

-- what an action asks for
abbrev pub wanted_by : Action → Wanted
wanted_by actions.Reset = WantsReset
wanted_by (actions.Send t) = WantsSent (sent_of t)
wanted_by actions.Ended = WantsNothing

-- a transaction, if one comes next
abbrev pub sends : Option Sent → Wanted
sends None = WantsNothing
sends (Some sent) = WantsSent sent

-- what a host wants next
abbrev pub wanted : HostPhase → Wanted
wanted ResetDue = WantsReset
wanted (Reading place transfer kept) = sends (due transfer)
wanted (Ended place) = WantsNothing

-- the current step, if there is one
abbrev pub step_in : HostPhase → Option Step
step_in ResetDue = None
step_in (Reading place transfer kept) = Some (step_of place)
step_in (Ended place) = None

-- the current transfer, if there is one
abbrev pub transfer_in : HostPhase → Option TransferView
transfer_in ResetDue = None
transfer_in (Reading place transfer kept) = Some transfer
transfer_in (Ended place) = None

-- the outcome at an end
abbrev pub outcome_at : Place → Option (Result DescriptorFile Trouble)
outcome_at (Reported f) = Some (Ok f)
outcome_at (Stopped trouble) = Some (Err trouble)
outcome_at place = None

-- the outcome, if there is one
abbrev pub outcome_of : HostPhase → Option (Result DescriptorFile Trouble)
outcome_of ResetDue = None
outcome_of (Reading place transfer kept) = None
outcome_of (Ended place) = outcome_at place

-- the same, where the file is lent
abbrev pub lent_outcome : Option (Result (Bor DescriptorFile) Trouble) → Option (Result DescriptorFile Trouble)
lent_outcome None = None
lent_outcome (Some (Ok f)) = Some (Ok f.now)
lent_outcome (Some (Err trouble)) = Some (Err trouble)

-- what a plan begins at a place, with this limit of NAKs
abbrev pub entered : ℕ → Place → Plan → HostPhase
entered naks place (Begin address packet q) = Reading place (begun address packet naks q) (nothing_kept place)
entered naks place Success = Ended place
entered naks place (GivesUp why) = Ended place

-- a host comes to a place
abbrev pub enter : LimitView → Place → HostPhase
enter limits place = entered limits.naks place (asks limits.address place)

-- Where a host after a bus reset begins: with the first read, and nothing of an attempt before.
abbrev pub reset_in : HostView → HostPhase → HostView
reset_in v ResetDue = record v { resets = suc v.resets; phase = enter v.limits First; forgiven = [] }
reset_in v phase = v

-- the bus was reset: where no reset is requested, nothing changes
abbrev pub reset : HostView → HostView
reset v = reset_in v v.phase

-- whether another attempt may help: the bus is blamed, and not the device
abbrev pub blames_bus : Why → Bool
blames_bus NoAnswer = true
blames_bus Busy = true
blames_bus why = false

-- After trouble that blames the bus, a reset is requested while attempts are left.
abbrev pub settled : ℕ → ℕ → HostPhase → HostPhase
settled attempts resets (Ended (Stopped trouble)) =
    if blames_bus trouble.why && nat_lt resets attempts then ResetDue else Ended (Stopped trouble)
settled attempts resets phase = phase

-- where a read leads to that has completed with this many bytes
abbrev pub read_leads : Terms → Place → ℕ → Kept → Place
read_leads terms place count (kept.Bytes bytes) = bytes_lead terms place bytes
read_leads terms (Set kind f total) count (kept.Set d over) = set_leads terms (Set kind f total) kind f total count (set_kept d over)
read_leads terms place count (kept.Set d over) = stopped place Malformed

-- where a transfer leads to that has completed
abbrev pub completed_leads : Terms → Place → TransferView → Kept → Place
completed_leads terms place t k = if t.request.length == 0 then done_leads place else read_leads terms place t.kept k

-- after an answer, by the stage of the transfer
abbrev pub goes_on : LimitView → Terms → Place → TransferView → Kept → TransferStage → HostPhase
goes_on limits terms place t k Completed = enter limits (spared terms.choice.strings place (completed_leads terms place t k))
goes_on limits terms place t k (Failed Stalled) = enter limits (spared terms.choice.strings place (refused_leads terms place))
goes_on limits terms place t k (Failed NoAnswer) = Ended (stopped place NoAnswer)
goes_on limits terms place t k (Failed Busy) = Ended (stopped place Busy)
goes_on limits terms place t k (Failed TooLong) = Ended (stopped place TooLong)
goes_on limits terms place t k (Failed Unexpected) = Ended (stopped place Unexpected)
goes_on limits terms place t k (Failed Malformed) = Ended (stopped place Malformed)
goes_on limits terms place t k (Failed Memory) = Ended (stopped place Memory)
goes_on limits terms place t k stage = Reading place t k

-- and the trouble that is passed over, if there is any
abbrev pub passes_over : Terms → Place → TransferView → Kept → TransferStage → List Trouble
passes_over terms place t k Completed = forgiven_by terms.choice.strings place (completed_leads terms place t k)
passes_over terms place t k (Failed Stalled) = forgiven_by terms.choice.strings place (refused_leads terms place)
passes_over terms place t k stage = []

-- new bytes change what is kept, and nothing else does
abbrev pub KeepsReceived : Kept → HeardView → Result Progress SetFault → Kept → Type 0
KeepsReceived old (Brings bytes) result new = Keeps old bytes result new
KeepsReceived old Goes result new = new ≡ old
KeepsReceived old Completes result new = new ≡ old
KeepsReceived old (Fails why) result new = new ≡ old

-- memory was wanting for new bytes: the decoder of a set has said so
abbrev pub LacksMemory : HeardView → Kept → Result Progress SetFault → Type 0
LacksMemory (Brings bytes) (kept.Set d over) result = WantsMemory result
LacksMemory received old result = ⊥

-- A read has ended for which a place takes memory: a set, a language list or a string, which are kept, or the qualifier,
-- after which and after whose refusal the indices of the strings are. And for a stand-in where a string was refused.
abbrev pub Grows : NamedStrings → HeardView → Place → Type 0
Grows texts Completes (Set kind f total) = Unit {0}
Grows texts Completes (Qualifier f) = Unit {0}
Grows texts Completes (Languages f named) = Unit {0}
Grows texts Completes (Text f s named) = Unit {0}
Grows texts (Fails Stalled) (Qualifier f) = Unit {0}
Grows texts (Fails Stalled) (Languages f named) = IsTrue (forgives_any texts)
Grows texts (Fails Stalled) (Text f s named) = IsTrue (forgives_any texts)
Grows texts received place = ⊥

-- Memory was wanting at the end of a read that leads to this phase. What was read is judged before memory is asked for, so
-- a read that is malformed, and not passed over, asks for none.
abbrev pub WantsToGrow : NamedStrings → HeardView → Place → HostPhase → Type 0
WantsToGrow texts received place next = Grows texts received place × (next ≡ Ended (stopped place Malformed) → ⊥)

-- A host takes what its transfer made of an answer, where these troubles were passed over before and after. The read goes
-- on, or the next one begins; or memory was wanting where it is asked for.
abbrev pub TakesReceived : LimitView → Terms → Place → Kept → Taken → HostPhase → List Trouble → List Trouble → Type 0
TakesReceived limits terms place old by new before after =
    (result : Result Progress SetFault) × (k : Kept) × KeepsReceived old by.received result k
    × (let next = goes_on limits terms place by.transfer k by.transfer.stage in
    ((LacksMemory by.received old result ⊎ WantsToGrow terms.choice.strings by.received place next)
    × (new ≡ Ended (stopped place Memory)) × (after ≡ before))
    ⊎ ((LacksMemory by.received old result → ⊥)
    × (new ≡ next) × (after ≡ before ++ passes_over terms place by.transfer k by.transfer.stage)))

-- by the phase: only a current read takes an answer
abbrev pub TakesIn : HostView → HostPhase → Reply → HostView → Type 0
TakesIn v ResetDue answer w = w ≡ v
TakesIn v (Ended place) answer w = w ≡ v
TakesIn v (Reading place transfer k) answer w =
    (phase : HostPhase) × TakesReceived v.limits (terms_of v) place k (taken transfer answer) phase v.forgiven w.forgiven
    × (w ≡ record v { phase = settled v.limits.attempts v.resets phase; forgiven = w.forgiven })

-- a host takes an answer
abbrev pub Takes : HostView → Reply → HostView → Type 0
Takes v answer w = TakesIn v v.phase answer w
