-- The laws of attempts, of scripts and of runs that prove what holds of an enumeration.
use Rattle.std.specs.Prelude.{◌≡◌, ℕ, suc, ◌+◌, ◌/◌, ◌≤◌, ◌⊎◌, List, false, [], Option, ◌<◌}
use Rattle.usb_host.specs.declared.choice.Choice.{Choice}
use Rattle.usb_host.specs.declared.choice.Terms.{Terms}
use Rattle.usb_host.specs.Terms.{everything}
use Rattle.usb_host.specs.declared.why.Why.TheVariants.{NoAnswer, Busy}
use Rattle.usb_host.specs.declared.reply.Reply.{Reply}
use Rattle.usb_device.specs.declared.state.State.{State}
use Rattle.usb_bus.specs.Attempt.{no_data, Phase, Running, Succeeded, Broken, Attempt}
use Rattle.usb_fields.specs.Bytes.{AreBytes}
use Rattle.usb_fields.specs.declared.setup.Setup.{Setup as SetupPacket}
use Rattle.usb_fields.specs.declared.packet.Speed.{Speed}
use Rattle.usb_set.specs.declared.tree.Configuration.{Configuration}
use Rattle.usb_file_data.specs.declared.file.DescriptorFile.{DescriptorFile}
use Rattle.usb_file_data.specs.File.{file_bytes}
use Rattle.usb_host.specs.Limits.{LimitView, IsInRange}
use Rattle.usb_host.specs.Plan.{Plan}
use Rattle.usb_device.specs.Accepted.{Accepted}
use Rattle.usb_device.specs.Requests.{Outcome, answer}
use Rattle.usb_device.specs.Step.{new_device}
use Rattle.usb_bus.specs.declared.fate.Fate.{Fate}
use Rattle.usb_bus.specs.Bus.{losses, busies}
use Rattle.usb_bus.specs.inside.Sound.{Follows}
use Rattle.usb_bus.specs.Run.{fates_used}
use Rattle.usb_host.specs.Place.{First, Reported}
use Rattle.usb_host.specs.Cost.{most}
use Rattle.usb_host.specs.Gathered.{reached}
use Rattle.usb_bus.specs.inside.Script.{replies_in, script}
use Rattle.usb_bus.specs.Enumerate.{chosen_pair, configured_state, Pair, RunsAt}
use Rattle.usb_bus.specs.Series.{fresh, series_run}
use Rattle.usb_bus.specs.Asked.{asked_of}
use Rattle.usb_bus.specs.inside.Image.{passed_over, plan_of, StaysImage, ReadsSets}
use Rattle.usb_bus.specs.Beside.{IsBeside}
use Rattle.usb_bus.specs.inside.Running.{GoesWell}

-- How attempts of a plan end.

-- How a series stands after these many losses and Busy, with this limit of NAKs and of attempts. A success has all
-- replies and left the device in the last state. A failure has used all attempts, with a loss of its own for each, or a whole
-- measure of NAKs.
abbrev pub Verdict : ℕ → ℕ → List Reply → State → ℕ → ℕ → ℕ → Attempt → Phase → Type 0
Verdict naks limit all last losses busies attempts x (Running host) = Unit {0}
Verdict naks limit all last losses busies attempts x Succeeded = (x.replies ≡ all) × (x.device.state ≡ last)
Verdict naks limit all last losses busies attempts x (Broken why) =
    ((why ≡ NoAnswer) ⊎ (why ≡ Busy)) × (limit ≤ attempts) × (limit ≤ losses + busies / suc naks)

-- For any plan that a device answers as expected, with a reset before each attempt, over every list of fates.
abbrev pub SeriesHaveCauses : Type 0
SeriesHaveCauses =
    (plan : List Reply → Plan) (naks limit : ℕ) (sends : List Reply → List ℕ) (answer : State → SetupPacket → Outcome) (cut : ℕ) (all : List Reply) (last : State)
    (fates : List Fate) → Follows plan naks sends answer cut false all last new_device.state [] all →
    (let x = series_run plan naks limit sends answer cut fates (fresh plan naks limit 1) in
    Verdict naks limit all last (losses fates) (busies fates) x.attempts x.attempt x.attempt.phase)

-- An enumeration of a device with accepted descriptors whose numbers fit their fields, and with any owner beside its table,
-- over every list of fates: a success has all replies of the script, and the device is configured.
abbrev pub EnumerationsHaveCauses : Type 0
EnumerationsHaveCauses =
    (set_of : List ℕ → Option Configuration) (limits : LimitView) (terms : Terms) (f : DescriptorFile) (table : State → SetupPacket → Outcome) (fates : List Fate) →
    IsBeside (answer f) table → ReadsSets set_of → Accepted f terms.speed → AreBytes (file_bytes f) → IsInRange limits.address limits.attempts →
    (let plan = plan_of set_of limits terms in
    let x = series_run plan limits.naks limits.attempts no_data table f.device.packet fates (fresh plan limits.naks limits.attempts 1) in
    Verdict limits.naks limits.attempts (replies_in (script limits.address f.device.packet terms (asked_of terms.choice f)))
    (configured_state limits.address f) (losses fates) (busies fates) x.attempts x.attempt x.attempt.phase)

-- The replies of the script lead to a report of what is asked for of the descriptors, with nothing passed over.
abbrev pub ReadsTheDescription : Type 0
ReadsTheDescription =
    (set_of : List ℕ → Option Configuration) (address : ℕ) (terms : Terms) (f : DescriptorFile) →
    ReadsSets set_of → Accepted f terms.speed → AreBytes (file_bytes f) →
    (let g = asked_of terms.choice f in let replies = replies_in (script address f.device.packet terms g) in
    (reached set_of terms First replies ≡ Reported g) × (passed_over set_of terms First replies ≡ []))

-- A host that keeps a place, and hands the packets of a set to its decoder as they come, goes as one that keeps all replies
-- and all bytes, unless out of memory.
abbrev pub KeepsTheImage : Type 0
KeepsTheImage = (set_of : List ℕ → Option Configuration) (limits : LimitView) (terms : Terms) → ReadsSets set_of → StaysImage set_of limits terms

-- Whatever a bus does to a host and a device with accepted descriptors, a report is what is asked for of these, with nothing
-- passed over, and any other end has a cause.
abbrev pub RunsEndWell : Type 0
RunsEndWell =
    (limits : LimitView) (speed : Speed) (choice : Choice) (f : DescriptorFile) (table : State → SetupPacket → Outcome) (fates : List Fate)
    (earlier : List Pair) (n : ℕ) (last : Pair) →
    IsBeside (answer f) table → Accepted f speed → AreBytes (file_bytes f) → IsInRange limits.address limits.attempts →
    RunsAt table f.device.packet fates (chosen_pair limits speed choice) earlier n last →
    GoesWell (asked_of choice f) limits (fates_used fates n) last.host.resets last.device.state last.host.forgiven last.host.phase

-- And the host begins no attempt too many, and asks for no transaction too many.
abbrev pub RunsKeepLimits : Type 0
RunsKeepLimits =
    (limits : LimitView) (speed : Speed) (choice : Choice) (f : DescriptorFile) (table : State → SetupPacket → Outcome) (fates : List Fate)
    (earlier : List Pair) (n : ℕ) (last : Pair) →
    IsBeside (answer f) table → AreBytes (file_bytes f) → 0 < limits.attempts → RunsAt table f.device.packet fates (chosen_pair limits speed choice) earlier n last →
    (last.host.resets ≤ limits.attempts) × (n ≤ most limits)

-- Where all is asked for, that is the description.
abbrev pub AllIsAsked : Type 0
AllIsAsked = (f : DescriptorFile) (speed : Speed) → Accepted f speed → asked_of everything f ≡ f

-- There is a reader of sets that the laws are about.
abbrev pub SetsAreRead : Type 0
SetsAreRead = (set_of : List ℕ → Option Configuration) × ReadsSets set_of
