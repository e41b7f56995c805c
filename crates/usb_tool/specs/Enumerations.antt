-- What `enumerate` does to its input and its output.
use Rattle.std.specs.Prelude.{ℕ, List, [], ◌∷◌, ◌++◌, codes, ◌≡◌, ◌⊎◌, Bool, true, false, Some, Result, Ok, Err}
use Rattle.std.specs.Fmt.{decimal}
use Rattle.usb_file_data.specs.FindingLine.{finding_line}
use Rattle.usb_host.specs.Why.{why_number, step_text}
use Rattle.usb_device.specs.Accepted.{fault_number, Accepted, refusal_of}
use Rattle.usb_device.specs.declared.acceptance.DescriptionFault.{DescriptionFault}
use Rattle.usb_device.specs.declared.acceptance.DescriptionFault.TheVariants as refusals
use Rattle.usb_host.specs.declared.step.Trouble.{Trouble}
use Rattle.usb_bus.specs.declared.enumeration.Run.{Run}
use Rattle.std.specs.Io.KnownBytes.{Appends, Keeps}
use Rattle.usb_fields.specs.declared.packet.Speed.{Speed}
use Rattle.usb_file_data.specs.declared.file.DescriptorFile.{DescriptorFile}
use Rattle.usb_file_data.specs.File.{File}
use Rattle.usb_file.specs.Completed.{IsCompleted}
use Rattle.usb_file_data.specs.Inputs.{IsNoDump}
use Rattle.usb_file_data.specs.FileFaults.{FileFaulty}
use Rattle.usb_file_data.specs.declared.fault.FileFault.{FileFault}
use Rattle.usb_file_data.specs.declared.laws.TheConstants.{FILE_LIMIT}
use Rattle.usb_listing.specs.Listing.{file_lines}
use Rattle.usb_text.specs.declared.output.OutFault.{OutFault}
use Rattle.usb_text.specs.declared.output.OutFault.TheVariants as outs
use Rattle.usb_text.specs.Output.{AppendsFront, AppendsLess, Held}
use Rattle.usb_host.specs.Limits.{LimitView}
use Rattle.usb_host.specs.Terms.{everything}
use Rattle.usb_bus.specs.declared.fate.Fate.{Fate}
use Rattle.usb_bus.specs.declared.wire.change.BitChange.{BitChange}
use Rattle.usb_bus.specs.DamagedRuns.{IsDamagedRunFrom}
use Rattle.usb_bus.specs.Enumerate.{IsChosenEnumeration, Pair, chosen_pair}
use Rattle.usb_bus.specs.Log.{IsLogFrom, WritesLogLessFrom}
use Rattle.usb_bus.specs.LogOnWire.{IsWireLogFrom, WritesWireLogLessFrom}
use Rattle.usb_tool.specs.EnumerationEnds.{end_of, end_status}
use Rattle.usb_tool.specs.declared.enumerate_options.EnumerationSettings.{EnumerationSettings}
use Rattle.usb_tool.specs.declared.enumeration.Enumeration.{Enumeration}
use Rattle.usb_tool.specs.declared.enumeration_end.EnumerationEnd.{EnumerationEnd}
use Rattle.usb_tool.specs.declared.enumeration_end.EnumerationEnd.TheVariants.{Refused}
use Rattle.usb_tool.specs.Endings.{Fails, Succeeds, Left}
use Rattle.usb_tool.specs.declared.fault.ToolFault.{ToolFault}
use Rattle.usb_tool.specs.declared.fault.ToolFault.TheVariants as faults
use Rattle.usb_tool.specs.declared.settings.EnumerateFlags.{EnumerateFlags}

-- The lines that tell what came of an enumeration, each with its line feed.

-- after success: how many attempts and transactions there were, the address that the device has, and the value of its
-- configuration
unfoldable pub success_line : Run → List ℕ
success_line run =
    codes "success attempts " ++ decimal run.attempts ++ codes " transactions " ++ decimal run.transactions
    ++ codes " address " ++ decimal run.state.address ++ codes " value " ++ decimal run.state.selected ++ 10 ∷ []

-- after trouble: the number of its reason, the step that it was at, and how many attempts and transactions there were
unfoldable pub trouble_line : Trouble → Run → List ℕ
trouble_line trouble run =
    codes "trouble " ++ decimal (why_number trouble.why) ++ codes " " ++ step_text trouble.step
    ++ codes " attempts " ++ decimal run.attempts ++ codes " transactions " ++ decimal run.transactions ++ 10 ∷ []

-- where no device can be made of the file: the number of the reason, and what is found where that is the reason
unfoldable pub refused_line : DescriptionFault → List ℕ
refused_line (refusals.Finding finding) = codes "refused 1 " ++ finding_line finding ++ 10 ∷ []
refused_line fault = codes "refused " ++ decimal (fault_number fault) ++ 10 ∷ []

-- what an enumeration is made under: the limits of the host, the speed of the device, the fates of the transactions, the bits
-- that change, whether a log is asked for, a brief one or with packets, and a dump is taken, and what the host asks for
pub record Conditions : Type 0 where
  pub limits : LimitView
  pub speed : Speed
  pub fates : List Fate
  pub changes : List BitChange
  pub flags : EnumerateFlags

-- these conditions
abbrev pub under : LimitView → Speed → List Fate → List BitChange → EnumerateFlags → Conditions
under limits speed fates changes flags = record { limits = limits; speed = speed; fates = fates; changes = changes; flags = flags }

abbrev pub conditions_of : Enumeration → Conditions
conditions_of e = under e.limits e.speed e.fates.now e.changes.now e.flags

-- no flag was given, and all is asked for
abbrev pub no_flags : EnumerateFlags
no_flags = record { log = false; brief = false; packets = false; with_strings = false; choice = everything }

abbrev pub conditions_by : EnumerationSettings → Conditions
conditions_by s = under s.settings.limits s.settings.speed s.settings.fates.items s.changes.items s.flags

-- of a device of this speed, and over a bus that changes no bits
abbrev pub conditions_at : Speed → Enumeration → Conditions
conditions_at speed e = under e.limits speed e.fates.now e.changes.now e.flags

abbrev pub unchanged : Speed → Enumeration → Conditions
unchanged speed e = under e.limits speed e.fates.now [] e.flags

-- what is reported of a run with this outcome: after success its line and the listing of the file that was read, and else the
-- line of its trouble
abbrev pub run_text : Result DescriptorFile Trouble → Run → List ℕ
run_text (Ok f) run = success_line run ++ file_lines f
run_text (Err trouble) run = trouble_line trouble run

-- no device of this speed can be made of the file, and the text is the line of the first reason
pub record TellsRefusal (c : Conditions) (f : DescriptorFile) (text : List ℕ) (end : EnumerationEnd) : Type 0 where
  pub fault : DescriptionFault
  pub why : refusal_of f c.speed ≡ Some fault
  pub report : text ≡ refused_line fault
  pub ended : end ≡ Refused fault

-- whether the bus carries bytes: bits change on it, or packets are shown
abbrev pub has_bytes : List BitChange → EnumerateFlags → Bool
has_bytes [] flags = flags.packets
has_bytes (change ∷ more) flags = true

-- a new host that asks for what is chosen, and a new device
abbrev pub new_under : Conditions → Pair
new_under c = chosen_pair c.limits c.speed c.flags.choice

-- A device with these descriptors was enumerated, over a bus of bytes or not, and this is the log of that very run, or nothing where
-- none is asked for.
abbrev pub IsRunOver : Bool → Bool → Conditions → DescriptorFile → Run → List ℕ → Type 0
IsRunOver false false c f run log = IsChosenEnumeration f c.speed c.limits c.flags.choice c.fates run × (log ≡ [])
IsRunOver false true c f run log = IsLogFrom (new_under c) c.flags.brief f c.fates run log
IsRunOver true false c f run log = IsDamagedRunFrom (new_under c) f c.fates c.changes run × (log ≡ [])
IsRunOver true true c f run log = IsWireLogFrom c.flags.brief c.flags.packets f c.fates c.changes (new_under c) run log

abbrev pub IsRun : Conditions → DescriptorFile → Run → List ℕ → Type 0
IsRun c f run log = IsRunOver (has_bytes c.changes c.flags) c.flags.log c f run log

-- its log was cut off
abbrev pub CutsLog : Bool → Conditions → DescriptorFile → Held → Held → OutFault → Type 0
CutsLog false c f held holds fault = WritesLogLessFrom (new_under c) c.flags.brief f c.fates held holds fault
CutsLog true c f held holds fault = WritesWireLogLessFrom c.flags.brief c.flags.packets f c.fates c.changes (new_under c) held holds fault

-- a device was made of the file and enumerated, this is the log of that run, if it is asked for, and the text what is reported
-- of it
pub record TellsRun (c : Conditions) (f : DescriptorFile) (log text : List ℕ) (end : EnumerationEnd) : Type 0 where
  pub run : Run
  pub accepted : Accepted f c.speed
  pub enumerated : IsRun c f run log
  pub report : text ≡ run_text run.outcome run
  pub ended : end ≡ end_of run.outcome

-- the bytes are those of the file, or, where strings are asked for, of a dump of which the file is made
abbrev pub IsTaken : Bool → DescriptorFile → List ℕ → Type 0
IsTaken false f b = File f b
IsTaken true f b = IsCompleted f b

-- the log, if there is one, and the text after it tell what comes of the file that is taken of these bytes
pub record Tells (c : Conditions) (b log text : List ℕ) (end : EnumerationEnd) : Type 0 where
  pub file : DescriptorFile
  pub taken : IsTaken c.flags.with_strings file b
  pub report : (TellsRefusal c file text end × (log ≡ [])) ⊎ TellsRun c file log text end

-- what comes of the bytes was written
pub record WritesResult (c : Conditions) (b : List ℕ) (held holds : Held) (end : EnumerationEnd) : Type 0 where
  pub log : List ℕ
  pub text : List ℕ
  pub tells : Tells c b log text end
  pub written : Appends held holds (log ++ text)

-- a prefix of a text was written, which is left unfinished out of memory
abbrev pub StopsShort : OutFault → Held → Held → List ℕ → Type 0
StopsShort outs.Write held holds text = AppendsFront held holds text
StopsShort outs.Memory held holds text = AppendsLess held holds text

-- of what comes of the bytes the log was written, and a prefix of the text after it
pub record WritesResultFront (c : Conditions) (b : List ℕ) (held holds : Held) (fault : OutFault) : Type 0 where
  pub log : List ℕ
  pub text : List ℕ
  pub end : EnumerationEnd
  pub tells : Tells c b log text end
  pub between : Held
  pub logged : Appends held between log
  pub written : StopsShort fault between holds text

-- a log is asked for, and a step of the enumeration broke it
pub record WritesLogFront (c : Conditions) (b : List ℕ) (held holds : Held) (fault : OutFault) : Type 0 where
  pub file : DescriptorFile
  pub taken : IsTaken c.flags.with_strings file b
  pub accepted : Accepted file c.speed
  pub asked : c.flags.log ≡ true
  pub written : CutsLog (has_bytes c.changes c.flags) c file held holds fault

-- the bytes show this fault of a file, and are no dump where strings are asked for
abbrev pub IsNotTaken : Bool → List ℕ → FileFault → Type 0
IsNotTaken false b fault = FileFaulty b fault.at fault.why
IsNotTaken true b fault = FileFaulty b fault.at fault.why × IsNoDump b

-- How bytes are not enumerated: nothing was written where they are no file, or where memory was wanting for a device, and
-- else a prefix of what comes of them, or of the log so far.
abbrev pub RefusesToEnumerate : Conditions → List ℕ → Held → Held → ToolFault → Type 0
RefusesToEnumerate c b held holds (faults.File fault) = IsNotTaken c.flags.with_strings b fault × Keeps held holds
RefusesToEnumerate c b held holds faults.Write = WritesLogFront c b held holds outs.Write ⊎ WritesResultFront c b held holds outs.Write
RefusesToEnumerate c b held holds faults.Memory =
    Keeps held holds ⊎ (WritesLogFront c b held holds outs.Memory ⊎ WritesResultFront c b held holds outs.Memory)
RefusesToEnumerate c b held holds fault = ⊥

-- all was read, at most what a file can have, and what comes of it was written, which ends so
abbrev pub EnumeratedTo : Conditions → Left → Left → Held → Held → EnumerationEnd → Type 0
EnumeratedTo c from to held holds end = Succeeds FILE_LIMIT (λ b held holds. WritesResult c b held holds end) from to held holds

-- the same with the exit status
abbrev pub Enumerated : Conditions → Left → Left → Held → Held → ℕ → Type 0
Enumerated c from to held holds status = (end : EnumerationEnd) × EnumeratedTo c from to held holds end × (status ≡ end_status end)

-- how `enumerate` fails
abbrev pub EnumerateFails : Conditions → Left → Left → Held → Held → ToolFault → Type 0
EnumerateFails c = Fails FILE_LIMIT (RefusesToEnumerate c)
