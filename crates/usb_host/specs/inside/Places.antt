-- What comes next, what a host holds beside it, and where a read leads to.
use Rattle.usb_host.specs.declared.due.Due.{Due}
use Rattle.usb_host.specs.declared.due.Due.TheVariants as due
use Rattle.usb_host.specs.declared.draft.Draft.{Draft}
use Rattle.usb_host.specs.declared.held.Held.{Held}
use Rattle.usb_host.specs.Keeping as kept
use Rattle.usb_host.specs.Place.{Place, First, Address, Device, Header, Set, Qualifier, Languages, Text, Configure, Reported, Stopped}
use Rattle.std.specs.Prelude.{◌≡◌, ◌+◌, ◌≤◌, true, false, Bool, List, [], ◌∷◌, ◌++◌, length, ℕ, Option, Some, None, Result, Ok, Err, ◌⊎◌}
use Rattle.std.specs.declared.alloc.AllocError.{AllocError}
use Rattle.usb_set.specs.declared.fault.SetFault.{SetFault}
use Rattle.usb_set.specs.declared.decoder.Progress.{Progress}
use Rattle.usb_host.specs.declared.why.Why.{Why}
use Rattle.usb_host.specs.declared.why.Why.TheVariants.{Memory}
use Rattle.usb_host.specs.Plan.{Plan, Begin}
use Rattle.usb_host.specs.Transfer.{HeardView, Brings}
use Rattle.usb_host.specs.declared.request.Request.{Request}
use Rattle.usb_host.specs.declared.choice.NamedStrings.{NamedStrings}
use Rattle.usb_host.specs.declared.step.Trouble.{Trouble}
use Rattle.usb_host.specs.declared.step.Step.{Step}
use Rattle.usb_host.specs.Order.{stopped, forgives, stand_in, spared, forgiven_by}
use Rattle.usb_host.specs.Keeping.{Kept, Keeps}
use Rattle.usb_host.specs.Steps.{blames_bus, LacksMemory, Grows}

-- What contracts see of what comes next, and of what a host holds beside it.

-- a place: what comes next, with what was read so far
abbrev pub place_of : Due → Draft → Place
place_of due.First d = First
place_of (due.Address first) d = Address first
place_of (due.Device first) d = Device first
place_of (due.Header kind) d = Header kind d.file
place_of (due.Set kind total) d = Set kind d.file total
place_of due.Qualifier d = Qualifier d.file
place_of due.Languages d = Languages d.file d.named
place_of due.Text d = Text d.file d.strings d.named
place_of due.Configure d = Configure d.file
place_of due.Reported d = Reported d.file
place_of (due.Stopped trouble) d = Stopped trouble

-- what is kept of the read of a set
abbrev pub kept_set : Held → Kept
kept_set h = kept.Set h.decoder h.over

-- what is kept of the next read: of a set its decoder, and of any other read the bytes
abbrev pub kept_of : Due → Held → Kept
kept_of (due.Set kind total) h = kept_set h
kept_of here h = kept.Bytes h.bytes

-- Where a read leads to, as a function tells it.

-- whether an enumeration has ended at a place
abbrev pub is_end : Place → Bool
is_end (Reported f) = true
is_end (Stopped trouble) = true
is_end place = false

-- memory was wanting after a read that leads on to this place
abbrev pub GrowsTo : NamedStrings → HeardView → Place → Place → Type 0
GrowsTo texts received here target = Grows texts received here × (is_end target ≡ false)

-- what comes next next, beside this draft; or why the read of this place is refused, or memory was wanting where that is asked for
abbrev pub LeadsTo : NamedStrings → HeardView → Place → Place → Draft → Result Due Why → Type 0
LeadsTo texts received here target d (Ok due) = place_of due d ≡ target
LeadsTo texts received here target d (Err why) = (GrowsTo texts received here target × (why ≡ Memory)) ⊎ (target ≡ stopped here why)

-- What a read of strings leaves, which may be passed over: where it leads on, that is no end, and where it is refused, the
-- draft is as it was.
abbrev pub LeavesDraft : Draft → Draft → Result Due Why → Type 0
LeavesDraft old new (Ok due) = is_end (place_of due new) ≡ false
LeavesDraft old new (Err why) = new ≡ old

-- the transfer of a plan, where there is one
abbrev pub requested : Plan → Option Request
requested (Begin address packet q) = Some (record { address = address; packet = packet; setup = q })
requested plan = None

-- new bytes were kept, or memory was wanting
abbrev pub Adds : Kept → List ℕ → Bool → Kept → Type 0
Adds old piece wants new = (result : Result Progress SetFault) × Keeps old piece result new × Tells wants result
  where
    Tells : Bool → Result Progress SetFault → Type 0
    Tells true result = LacksMemory (Brings piece) old result
    Tells false result = LacksMemory (Brings piece) old result → ⊥

-- Where a read here leads to that has ended so, with the troubles that are passed over before and after; or the end where
-- memory is asked for and wanting.
abbrev pub Leads : NamedStrings → HeardView → Place → Place → Place → List Trouble → List Trouble → Type 0
Leads texts received here target next before after =
    (GrowsTo texts received here (spared texts here target) × (next ≡ stopped here Memory) × (after ≡ before))
    ⊎ ((next ≡ spared texts here target) × (after ≡ before ++ forgiven_by texts here target))

-- a read of bytes that are kept has at most 255 of them
abbrev pub HasRoom : Kept → ℕ → Type 0
HasRoom (kept.Bytes bytes) count = length bytes + count ≤ 255
HasRoom (kept.Set d over) count = Unit {0}

-- what comes next, or that memory was wanting
abbrev pub OrMemory : Result Due AllocError → Result Due Why → Type 0
OrMemory (Ok due) new = new ≡ Ok due
OrMemory (Err e) new = new ≡ Err Memory

-- A trouble here is passed over: the stand-in comes next, and the trouble is listed; or memory was wanting.
abbrev pub PassesOver : Place → Trouble → Place → List Trouble → List Trouble → Type 0
PassesOver here trouble next before after =
    ((next ≡ Stopped (record trouble { why = Memory })) × (after ≡ before)) ⊎ ((next ≡ stand_in here) × (after ≡ before ++ trouble ∷ []))

-- trouble here is passed over, or ends the enumeration
abbrev pub EndsOrPasses : Bool → Place → Trouble → Place → List Trouble → List Trouble → Type 0
EndsOrPasses false here trouble next before after = (next ≡ Stopped trouble) × (after ≡ before)
EndsOrPasses true here trouble next before after = PassesOver here trouble next before after

-- After a read of this step, what comes next: where it leads on just that, beside the same draft.
abbrev pub Settles : NamedStrings → Place → Step → Result Due Why → Draft → Due → Draft → List Trouble → List Trouble → Type 0
Settles texts here step (Ok due) old next new before after = (next ≡ due) × (new ≡ old) × (after ≡ before)
Settles texts here step (Err why) old next new before after =
    EndsOrPasses (forgives texts here why) here (record { step = step; why = why }) (place_of next new) before after

-- whether an enumeration has ended by trouble for which the bus is to blame
abbrev pub is_bus_trouble : Place → Bool
is_bus_trouble (Stopped trouble) = blames_bus trouble.why
is_bus_trouble place = false
