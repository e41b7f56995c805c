-- What holds of every enumeration, whatever is answered.
use Rattle.std.specs.Prelude.{◌≡◌, ℕ, suc, ◌<◌, ◌≤◌, ◌⊎◌, List, [], ◌∷◌, Option, Some, IsSome, Ok}
use Rattle.std.specs.List.{AllByRecursion}
use Rattle.usb_fields.specs.Bytes.{AreBytes}
use Rattle.usb_fields.specs.declared.packet.Speed.{Speed}
use Rattle.usb_fields.specs.Packets.{Reply as Answer, Sent}
use Rattle.usb_set.specs.declared.tree.Configuration.{Configuration}
use Rattle.usb_set.specs.Layout.{Layout}
use Rattle.usb_file_data.specs.declared.file.DescriptorFile.{DescriptorFile}
use Rattle.usb_file_data.specs.File.{File}
use Rattle.usb_host.specs.declared.choice.NamedStrings.{NamedStrings}
use Rattle.usb_host.specs.declared.choice.NamedStrings.TheVariants.{Wanted}
use Rattle.usb_host.specs.declared.choice.Choice.{Choice}
use Rattle.usb_host.specs.declared.choice.Terms.{Terms}
use Rattle.usb_host.specs.Terms.{all_of, IsReport}
use Rattle.usb_host.specs.declared.why.Why.TheVariants.{Stalled, Malformed}
use Rattle.usb_host.specs.declared.step.Step.{Step}
use Rattle.usb_host.specs.declared.step.Step.TheVariants as steps
use Rattle.usb_host.specs.declared.step.Trouble.{Trouble}
use Rattle.usb_host.specs.declared.reply.Reply.{Reply}
use Rattle.usb_host.specs.Limits.{LimitView}
use Rattle.usb_host.specs.Place.{First, Reported}
use Rattle.usb_host.specs.Steps.{HostView, WantsReset, WantsSent, WantsNothing, chosen_host, new_host, terms_of, wanted, outcome_of, reset, Takes}
use Rattle.usb_host.specs.Gathered.{Came, no_bytes, came_in, reached, parts_of}
use Rattle.usb_host.specs.Cost.{most, BringsBytes}

-- Whatever was replied, by whatever device, a success gives the file whose bytes were read.
abbrev pub ReportsWhatWasRead : Type 0
ReportsWhatWasRead =
    (set_of : List ℕ → Option Configuration) (speed : Speed) → ((b : List ℕ) (c : Configuration) → set_of b ≡ Some c → Layout c b) →
    (replies : List Reply) (g : DescriptorFile) → reached set_of (all_of speed) First replies ≡ Reported g →
    AreBytes (parts_of set_of (all_of speed) First replies) → File g (parts_of set_of (all_of speed) First replies)

-- And whatever is asked for, it gives what was read, with a stand-in for each string that was passed over.
abbrev pub ReportsWhatWasAsked : Type 0
ReportsWhatWasAsked =
    (set_of : List ℕ → Option Configuration) (terms : Terms) → ((b : List ℕ) (c : Configuration) → set_of b ≡ Some c → Layout c b) →
    (replies : List Reply) (g : DescriptorFile) → reached set_of terms First replies ≡ Reported g →
    AreBytes (parts_of set_of terms First replies) → IsReport terms.choice.strings g (parts_of set_of terms First replies)

-- `last` is reached from a new host by this many transactions, whatever bytes were answered to each, and by bus resets. This
-- came since the last of these. The hosts are those on the way, the newest first.
abbrev pub Asks : HostView → List HostView → ℕ → Came → HostView → Type 0
Asks new [] n came last = (last ≡ new) × (n ≡ 0) × (came ≡ no_bytes)
Asks new (v ∷ earlier) n came last =
    ((wanted v.phase ≡ WantsReset) × (last ≡ reset v) × (came ≡ no_bytes) × ((before : Came) × Asks new earlier n before v))
    ⊎ ((m : ℕ) × (sent : Sent) × (answer : Answer) × (before : Came) × (n ≡ suc m) × (wanted v.phase ≡ WantsSent sent) × BringsBytes answer
    × Takes v answer last × (came ≡ came_in (terms_of v) v.phase answer before) × Asks new earlier m before v)

-- Whatever is answered, a host asks for at most `most` transactions, and begins no attempt too many; and once it wants
-- nothing more, it has an outcome.
abbrev pub HostsEnd : Type 0
HostsEnd =
    (limits : LimitView) (speed : Speed) (earlier : List HostView) (n : ℕ) (came : Came) (last : HostView) → 0 < limits.attempts →
    Asks (new_host limits speed) earlier n came last →
    (n ≤ most limits) × (last.resets ≤ limits.attempts) × (wanted last.phase ≡ WantsNothing → IsSome (outcome_of last.phase))

-- Whatever is answered, a host that reports a file was given its bytes since the last bus reset, and no others that count.
abbrev pub HostsReportWhatCame : Type 0
HostsReportWhatCame =
    (limits : LimitView) (speed : Speed) (earlier : List HostView) (n : ℕ) (came : Came) (last : HostView) (g : DescriptorFile) →
    Asks (new_host limits speed) earlier n came last → outcome_of last.phase ≡ Some (Ok g) → File g came.whole

-- Whatever a host asks for.

-- it ends
abbrev pub ChosenHostsEnd : Type 0
ChosenHostsEnd =
    (limits : LimitView) (speed : Speed) (choice : Choice) (earlier : List HostView) (n : ℕ) (came : Came) (last : HostView) → 0 < limits.attempts →
    Asks (chosen_host limits speed choice) earlier n came last →
    (n ≤ most limits) × (last.resets ≤ limits.attempts) × (wanted last.phase ≡ WantsNothing → IsSome (outcome_of last.phase))

-- and what it reports was given to it, with a stand-in for each string that was passed over
abbrev pub ChosenHostsReportWhatCame : Type 0
ChosenHostsReportWhatCame =
    (limits : LimitView) (speed : Speed) (choice : Choice) (earlier : List HostView) (n : ℕ) (came : Came) (last : HostView) (g : DescriptorFile) →
    Asks (chosen_host limits speed choice) earlier n came last → outcome_of last.phase ≡ Some (Ok g) → IsReport choice.strings g came.whole

-- the step of a read of strings
abbrev pub IsStringStep : Step → Type 0
IsStringStep steps.Languages = Unit {0}
IsStringStep (steps.Text language index) = Unit {0}
IsStringStep step = ⊥

-- what may be passed over: a device refused a string, or gave what is none
abbrev pub IsForgiven : Trouble → Type 0
IsForgiven trouble = IsStringStep trouble.step × ((trouble.why ≡ Stalled) ⊎ (trouble.why ≡ Malformed))

-- Troubles that are passed over: where strings may be missing, those of strings, and else none.
abbrev pub AreForgiven : NamedStrings → List Trouble → Type 0
AreForgiven Wanted troubles = AllByRecursion IsForgiven troubles
AreForgiven texts troubles = troubles ≡ []

-- Whatever is answered, nothing but strings is passed over, and that only where they may be missing.
abbrev pub OnlyStringsAreForgiven : Type 0
OnlyStringsAreForgiven =
    (limits : LimitView) (speed : Speed) (choice : Choice) (earlier : List HostView) (n : ℕ) (came : Came) (last : HostView) →
    Asks (chosen_host limits speed choice) earlier n came last → AreForgiven choice.strings last.forgiven
