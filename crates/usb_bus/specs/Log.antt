-- The log of a run: the lines of its steps, and one that counts losses.
use Rattle.std.specs.Prelude.{◌≡◌, ℕ, ◌-◌, ◌⊎◌, List, [], ◌∷◌, ◌++◌, Bool, Option, Some, if◌then◌else◌}
use Rattle.std.specs.Io.KnownBytes.{Appends, Keeps}
use Rattle.usb_fields.specs.declared.packet.Speed.{Speed}
use Rattle.usb_file_data.specs.declared.file.DescriptorFile.{DescriptorFile}
use Rattle.usb_text.specs.declared.output.OutFault.{OutFault}
use Rattle.usb_text.specs.declared.output.OutFault.TheVariants as outs
use Rattle.usb_text.specs.Output.{AppendsLess, Held}
use Rattle.usb_text.specs.Lines.{column}
use Rattle.usb_fields.specs.Packets.{Reply}
use Rattle.usb_host.specs.declared.why.Why.{Why}
use Rattle.usb_host.specs.Limits.{LimitView}
use Rattle.usb_host.specs.Transfer.{TransferView, due, is_untried, taken}
use Rattle.usb_bus.specs.declared.fate.Fate.{Fate}
use Rattle.usb_bus.specs.Run.{fate_at, fates_used}
use Rattle.usb_host.specs.declared.step.Step.{Step}
use Rattle.usb_host.specs.Steps.{HostPhase, Wanted, WantsNothing, WantsReset, WantsSent, outcome_of, step_in, transfer_in, wanted}
use Rattle.usb_bus.specs.declared.enumeration.Run.{Run}
use Rattle.usb_bus.specs.Enumerate.{Pair, Runs, new_pair, Moves}
use Rattle.usb_bus.specs.Bus.{brought}
use Rattle.usb_bus.specs.Exchanges.{answered_in, cause_of, trouble_why}
use Rattle.usb_bus.specs.Lines.{data_below, data_of, device_words, given_up_part, host_words, packets_part, reset_line, tally_line, transfer_line}

-- the line of a transfer, before its first transaction
abbrev pub transfer_part : Step → TransferView → List ℕ
transfer_part step t = if is_untried t.stage t.strikes then transfer_line step t else []

-- What the host has after a transaction, where this was its transfer, this came of what the device answered, and the host
-- has ended for this reason, if it has.
abbrev pub host_part : TransferView → Reply → Option Why → List ℕ
host_part t reply why = column 20 (host_words (taken t reply).transfer reply (taken t reply).received why)

-- what of a transaction's line is known once the host is so: its packets, its data, and what the host has then
abbrev pub answered_part : ℕ → Fate → TransferView → Reply → Reply → HostPhase → List ℕ
answered_part number fate t answer came phase =
    packets_part number fate (due t) answer came ++ host_part t came (trouble_why (outcome_of phase))

-- The line of a transaction: its packets, its data, what the host has then, and what the device has. Its end is `below`, with what
-- stands below it, and then a line where the attempt is given up. This was the host's transfer before it, this the device's
-- answer, this came of it, and so both ends are after it; the device's packets have this size.
unfoldable pub exchange_lines : ℕ → ℕ → Fate → TransferView → Reply → Reply → List ℕ → Pair → List ℕ
exchange_lines packet number fate t answer came below after =
    answered_part number fate t answer came after.host.phase
    ++ device_words packet after.device ++ below
    ++ given_up_part after.host.resets (cause_of t came after.host.phase)

-- The lines of a step: a transaction where a transfer is under way, with this answer, and else a bus reset. Below a transaction's
-- line are data of more than 8 bytes, unless the log is brief.
abbrev pub lines_with : Bool → ℕ → ℕ → Fate → Option Step → Option TransferView → Reply → Pair → List ℕ
lines_with brief packet number fate (Some step) (Some t) answer after =
    transfer_part step t ++ exchange_lines packet number fate t answer (brought fate answer) (data_below brief (data_of (due t) answer)) after
lines_with brief packet number fate step transfer answer after = reset_line after.host.resets

-- the same of a step from one pair to the next, after which there were n transactions
abbrev pub step_lines : Bool → DescriptorFile → List Fate → ℕ → Pair → Pair → List ℕ
step_lines brief f fates n before after =
    let fate = fate_at fates (n - 1) in
    let wants = wanted before.host.phase in
    lines_with brief f.device.packet n fate (step_in before.host.phase) (transfer_in before.host.phase) (answered_in f before.device wants fate) after

-- how many transactions there were before a step that the host wanted, where there are n after it
abbrev pub count_before : Wanted → ℕ → ℕ
count_before WantsReset n = n
count_before (WantsSent sent) n = n - 1
count_before WantsNothing n = n

-- The log of a run of n transactions over these pairs, the newest first, up to its last line: a line of headings, a line for each
-- reset and each transaction, in their order, before the first transaction of a transfer a line of that, and after the last one of an attempt
-- that is given up a line of that.
unfoldable pub log_text : Bool → DescriptorFile → List Fate → List Pair → ℕ → Pair → List ℕ
log_text brief f fates [] n last = []
log_text brief f fates (x ∷ earlier) n last =
    log_text brief f fates earlier (count_before (wanted x.host.phase) n) x ++ step_lines brief f fates n x last

-- this run from a new pair on has ended, with what `run` says, and this is its log
pub record IsLogFrom (new : Pair) (brief : Bool) (f : DescriptorFile) (fates : List Fate) (run : Run) (log : List ℕ) : Type 0 where
  pub earlier : List Pair
  pub last : Pair
  pub runs : Runs f fates new earlier run.transactions last
  pub attempts : last.host.resets ≡ run.attempts
  pub outcome : outcome_of last.host.phase ≡ Some run.outcome
  pub state : last.device.state ≡ run.state
  pub text : log ≡ log_text brief f fates earlier run.transactions last ++ tally_line (fates_used fates run.transactions)

-- the log of that run was written
pub record WritesLogFrom (new : Pair) (brief : Bool) (f : DescriptorFile) (fates : List Fate) (held holds : Held) (run : Run) : Type 0 where
  pub log : List ℕ
  pub of_run : IsLogFrom new brief f fates run log
  pub written : Appends held holds log

-- what was written of lines: they are cut off before their last byte, and if an allocation failed, nothing
abbrev pub CutsOff : OutFault → Held → Held → List ℕ → Type 0
CutsOff outs.Write held holds lines = AppendsLess held holds lines
CutsOff outs.Memory held holds lines = Keeps held holds

-- The log of a run so far was written. Then a step was made, which leads from `before` to `last`, and its lines were cut off.
pub record WritesStepsLess (new : Pair) (brief : Bool) (f : DescriptorFile) (fates : List Fate) (held holds : Held) (fault : OutFault) : Type 0 where
  pub earlier : List Pair
  pub before : Pair
  pub transactions : ℕ
  pub runs : Runs f fates new earlier transactions before
  pub last : Pair
  pub now : ℕ
  pub moves : Moves f fates before transactions last now
  pub between : Held
  pub logged : Appends held between (log_text brief f fates earlier transactions before)
  pub written : CutsOff fault between holds (step_lines brief f fates now before last)

-- The log of a run that has ended was written, but for its last line, which was cut off.
pub record WritesTallyLess (new : Pair) (brief : Bool) (f : DescriptorFile) (fates : List Fate) (held holds : Held) (fault : OutFault) : Type 0 where
  pub run : Run
  pub log : List ℕ
  pub of_run : IsLogFrom new brief f fates run log
  pub between : Held
  pub logged : Appends held between (log_text brief f fates of_run.earlier run.transactions of_run.last)
  pub written : CutsOff fault between holds (tally_line (fates_used fates run.transactions))

-- a log was cut off, in the lines of a step or in its last line
abbrev pub WritesLogLessFrom : Pair → Bool → DescriptorFile → List Fate → Held → Held → OutFault → Type 0
WritesLogLessFrom new brief f fates held holds fault =
    WritesStepsLess new brief f fates held holds fault ⊎ WritesTallyLess new brief f fates held holds fault

-- The same of a host that asks for all of a file.

abbrev pub IsLogOf : Bool → DescriptorFile → Speed → LimitView → List Fate → Run → List ℕ → Type 0
IsLogOf brief f speed limits fates run log = IsLogFrom (new_pair limits speed) brief f fates run log

abbrev pub WritesLog : Bool → DescriptorFile → Speed → LimitView → List Fate → Held → Held → Run → Type 0
WritesLog brief f speed limits fates held holds run = WritesLogFrom (new_pair limits speed) brief f fates held holds run

abbrev pub WritesLogLess : Bool → DescriptorFile → Speed → LimitView → List Fate → Held → Held → OutFault → Type 0
WritesLogLess brief f speed limits fates held holds fault = WritesLogLessFrom (new_pair limits speed) brief f fates held holds fault
