-- A current read, as the code holds it.
use Rattle.std.specs.Prelude.{◌≡◌, ◌≤◌, false, if◌then◌else◌, List, length, Option, Some, None, Result, ℕ, ◌<◌, Bool}
use Rattle.usb_set.specs.declared.fault.SetFault.{SetFault}
use Rattle.usb_set.specs.declared.decoder.Progress.{Progress}
use Rattle.usb_host.specs.declared.choice.Terms.{Terms}
use Rattle.usb_host.specs.declared.step.Trouble.{Trouble}
use Rattle.usb_host.specs.declared.why.Why.TheVariants.{Stalled, Memory}
use Rattle.usb_host.specs.declared.transfer.TransferStage.{TransferStage}
use Rattle.usb_host.specs.declared.transfer.TransferStage.TheVariants as stages
use Rattle.usb_host.specs.Limits.{LimitView}
use Rattle.usb_host.specs.Transfer.{TransferView, HeardView, Goes, Brings, Completes, Fails, Taken}
use Rattle.usb_host.specs.Place.{Place}
use Rattle.usb_host.specs.Keeping.{Kept}
use Rattle.usb_host.specs.Keeping as kept
use Rattle.usb_host.specs.declared.current_read.Ending.{Ending}
use Rattle.usb_host.specs.declared.current_read.Ending.TheVariants as endings
use Rattle.usb_host.specs.declared.current_read.CurrentRead.{CurrentRead}
use Rattle.usb_host.specs.Order.{stopped, refused_leads}
use Rattle.usb_host.specs.Steps.{HostPhase, ResetDue, Reading, Ended, KeepsReceived, LacksMemory, completed_leads, enter, HostView}
use Rattle.usb_host.specs.inside.Sound.{IsGood, FitsPlace, KeepsBytes}
use Rattle.usb_host.specs.inside.Places.{is_end, Leads, place_of, kept_of}
use Rattle.usb_host.specs.declared.host.Host.TheInside.{Inside}

-- where the enumeration stands
abbrev pub place_in : CurrentRead → Place
place_in r = place_of r.due r.draft

-- what is kept of the current read
abbrev pub kept_in : CurrentRead → Kept
kept_in r = kept_of r.due r.held

-- a transfer that goes on
abbrev pub IsGoing : TransferStage → Type 0
IsGoing stages.Completed = ⊥
IsGoing (stages.Failed why) = ⊥
IsGoing stage = Unit {0}

-- what is kept has at most as many bytes as the transfer counts, so there is room for what is left
abbrev pub IsCounted : TransferView → Kept → Type 0
IsCounted t (kept.Bytes bytes) = (length bytes ≤ t.kept) × (t.request.length ≤ 255)
IsCounted t (kept.Set d over) = Unit {0}

-- what holds of a current read
pub record IsReading (place : Place) (t : TransferView) (k : Kept) : Type 0 where
  pub good : IsGood place
  pub is_read : is_end place ≡ false
  pub fits : FitsPlace place k
  pub bytes : KeepsBytes k
  pub going : IsGoing t.stage
  pub counted : IsCounted t k

-- how a read ends, by what was received and what a decoder answered
abbrev pub EndsBy : Kept → HeardView → Result Progress SetFault → Option Ending → Type 0
EndsBy old Goes result None = Unit {0}
EndsBy old (Brings bytes) result None = LacksMemory (Brings bytes) old result → ⊥
EndsBy old (Brings bytes) result (Some (endings.Failed why)) = (why ≡ Memory) × LacksMemory (Brings bytes) old result
EndsBy old Completes result (Some endings.Completed) = Unit {0}
EndsBy old (Fails why) result (Some (endings.Failed w)) = w ≡ why
EndsBy old received result ending = ⊥

-- an answer is received: what is kept changes, and the read goes on or ends
abbrev pub TakesProgress : Kept → Taken → TransferView → Kept → Option Ending → Type 0
TakesProgress old by transfer new ending =
    (transfer ≡ by.transfer) × ((result : Result Progress SetFault) × KeepsReceived old by.received result new × EndsBy old by.received result ending)

-- where a read leads to that has ended, with the troubles that are passed over, or memory was wanting
abbrev pub LeadsOn : Terms → Place → TransferView → Kept → Ending → Place → List Trouble → List Trouble → Type 0
LeadsOn terms place t k endings.Completed next before after =
    Leads terms.choice.strings Completes place (completed_leads terms place t k) next before after
LeadsOn terms place t k (endings.Failed Stalled) next before after =
    Leads terms.choice.strings (Fails Stalled) place (refused_leads terms place) next before after
LeadsOn terms place t k (endings.Failed why) next before after = (next ≡ stopped place why) × (after ≡ before)

-- a host comes to where a read leads that has ended
pub record GoesOn (limits : LimitView) (terms : Terms) (place : Place) (t : TransferView) (k : Kept) (ending : Ending) (next : Place) (new : HostPhase) (before after : List Trouble) : Type 0 where
  pub leads : LeadsOn terms place t k ending next before after
  pub enters : new ≡ enter limits next

-- a place with its read, or the end there
abbrev pub standing : Place → TransferView → Kept → HostPhase
standing place t k = if is_end place then Ended place else Reading place t k

-- the phase of a host with this read
abbrev pub stands : CurrentRead → HostPhase
stands r = standing (place_in r) r.transfer (kept_in r)

-- what holds of a host's phase: of a current read this
abbrev pub IsStanding : HostPhase → Type 0
IsStanding ResetDue = Unit {0}
IsStanding (Reading place t k) = IsReading place t k
IsStanding (Ended place) = Unit {0}

-- A host, as the code holds it.

-- a reset that comes next, or where the read stands
abbrev pub phase_in : Bool → Place → TransferView → Kept → HostPhase
phase_in reset_due place t k = if reset_due then ResetDue else standing place t k

-- the view of a host's fields
abbrev pub view_of : Inside → HostView
view_of h =
    record {
      limits = h.limits;
      speed = h.terms.speed;
      choice = h.terms.choice;
      resets = h.resets;
      phase = phase_in h.reset_due (place_in h.reading) h.reading.transfer (kept_in h.reading);
      forgiven = h.reading.forgiven;
    }

-- a reset is requested only while attempts are left, and a current read is sound
abbrev pub IsPhase : ℕ → ℕ → HostPhase → Type 0
IsPhase attempts resets ResetDue = resets < attempts
IsPhase attempts resets (Reading place t k) = IsReading place t k
IsPhase attempts resets (Ended place) = Unit {0}

-- what holds of a host
abbrev pub IsHost : HostView → Type 0
IsHost v = IsPhase v.limits.attempts v.resets v.phase
