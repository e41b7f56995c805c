-- A host that keeps a place and hands the packets of a set to a decoder, against one that keeps all replies and all bytes.
use Rattle.std.specs.Prelude.{◌≡◌, ℕ, List, [], ◌∷◌, ◌++◌, Option, Some, nat_lt, length, Result, ◌⊎◌, Bool, false}
use Rattle.usb_set.specs.declared.tree.Configuration.{Configuration}
use Rattle.usb_set.specs.Layout.{Layout}
use Rattle.usb_fields.specs.Packets.{Reply as Answer}
use Rattle.usb_set.specs.declared.fault.SetFault.{SetFault}
use Rattle.usb_set.specs.declared.decoder.Progress.{Progress}
use Rattle.usb_set.specs.Decoding.{Decoding, gathers, has, refused}
use Rattle.usb_set.specs.Faults.{Begins, Faulty, IsOpen}
use Rattle.usb_host.specs.declared.choice.Terms.{Terms}
use Rattle.usb_host.specs.declared.step.Trouble.{Trouble}
use Rattle.usb_host.specs.declared.why.Why.TheVariants.{Memory}
use Rattle.usb_host.specs.declared.reply.Reply.{Reply}
use Rattle.usb_host.specs.Limits.{LimitView}
use Rattle.usb_host.specs.Plan.{Plan}
use Rattle.usb_host.specs.declared.transfer.TransferStage.TheVariants.{DataOut}
use Rattle.usb_host.specs.Transfer.{TransferView, stage_after_setup, taken}
use Rattle.usb_device.specs.Step.{DeviceView}
use Rattle.usb_bus.specs.Bus.{HostEnd, receives_reply}
use Rattle.usb_bus.specs.Attempt.{no_data, Phase, Running, Succeeded, Broken, advance}
use Rattle.usb_host.specs.Place.{Place, First, Reported, Stopped}
use Rattle.usb_host.specs.Keeping.{Kept, Bytes, Set}
use Rattle.usb_host.specs.Order.{asks, forgiven_by, leads, next, stopped}
use Rattle.usb_host.specs.Gathered.{reached}
use Rattle.usb_host.specs.Steps.{HostPhase, Reading, Ended, Grows, LacksMemory, TakesReceived}
use Rattle.usb_host.specs.inside.Sound.{FitsPlace}

-- Readers of sets.

-- a reader that reads every set that bytes can be, and nothing else
pub record ReadsSets (set_of : List ℕ → Option Configuration) : Type 0 where
  pub right : (b : List ℕ) (c : Configuration) → set_of b ≡ Some c → Layout c b
  pub all : (b : List ℕ) (c : Configuration) → Layout c b → set_of b ≡ Some c

-- What bytes that came in pieces have made of a decoder that was not out of memory, and whether bytes came after
-- the set's last.
abbrev pub DecodedFrom : List ℕ → Decoding → Bool → Type 0
DecodedFrom got (gathers s) over = (s ≡ got) × IsOpen got × (over ≡ false)
DecodedFrom got (has c) over = (n : ℕ) × Begins got c n × (over ≡ nat_lt n (length got))
DecodedFrom got (refused fault) over = Faulty got fault.at fault.why

-- what is kept says the same as these bytes
abbrev pub KeptFrom : List ℕ → Kept → Type 0
KeptFrom got (Bytes bytes) = bytes ≡ got
KeptFrom got (Set d over) = DecodedFrom got d over

-- there is a read at this place
abbrev pub IsInWork : Place → Type 0
IsInWork (Reported f) = ⊥
IsInWork (Stopped trouble) = ⊥
IsInWork place = Unit {0}

-- no data go to the device in this transfer
abbrev pub IsRead : TransferView → Type 0
IsRead t = (t.stage ≡ DataOut → ⊥) × (stage_after_setup t.request ≡ DataOut → ⊥)

-- one transfer without data to the device, and what is kept says the same as all bytes
pub record IsTransfer (h : HostEnd) (t : TransferView) (k : Kept) : Type 0 where
  pub is_transfer : h.transfer ≡ t
  pub is_read : IsRead t
  pub is_count : t.kept ≡ length h.got
  pub is_kept : KeptFrom h.got k

-- the troubles that are passed over on the way from a place, one after another
abbrev pub passed_over : (List ℕ → Option Configuration) → Terms → Place → List Reply → List Trouble
passed_over set_of terms place [] = []
passed_over set_of terms place (r ∷ rs) =
    forgiven_by terms.choice.strings place (leads set_of terms place r) ++ passed_over set_of terms (next set_of terms place r) rs

module _ (set_of : List ℕ → Option Configuration) (limits : LimitView) (terms : Terms) where
  -- the plan of an enumeration: what comes next of the replies so far
  abbrev pub plan_of : List Reply → Plan
  plan_of replies = asks limits.address (reached set_of terms First replies)

  -- after these replies, a host in this phase is the image of a plan in that one
  abbrev pub IsImage : List Reply → Phase → HostPhase → Type 0
  IsImage replies (Running h) (Reading place t k) =
      (reached set_of terms First replies ≡ place) × IsInWork place × FitsPlace place k × IsTransfer h t k
  IsImage replies Succeeded (Ended (Reported f)) = reached set_of terms First replies ≡ Reported f
  IsImage replies (Broken why) (Ended (Stopped trouble)) = why ≡ trouble.why
  IsImage replies phase other = ⊥

  -- Whatever is answered, it stays one, and has passed over what was on the way; or an allocation failed where one is made.
  abbrev pub StaysImage : Type 0
  StaysImage =
      (replies : List Reply) (h : HostEnd) (d : DeviceView) (place : Place) (t : TransferView) (k : Kept) (answer : Answer) (new : HostPhase)
      (before after : List Trouble) → IsImage replies (Running h) (Reading place t k) →
      TakesReceived limits terms place k (taken t answer) new before after →
      ((result : Result Progress SetFault) × (LacksMemory (taken t answer).received k result ⊎ Grows terms.choice.strings (taken t answer).received place)
      × (new ≡ Ended (stopped place Memory)))
      ⊎ (let e = receives_reply false h answer in
      let x = advance plan_of limits.naks no_data replies e e.transfer.stage d in
      IsImage x.replies x.phase new
      × (before ≡ passed_over set_of terms First replies → after ≡ passed_over set_of terms First x.replies))
