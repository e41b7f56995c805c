-- The log of a run over a bus of bytes: the lines of its steps, and one that counts what fates have lost.
use Rattle.std.specs.Prelude.{◌≡◌, ℕ, suc, ◌⊎◌, List, [], ◌∷◌, ◌++◌, Bool, Option, Some}
use Rattle.std.specs.Io.KnownBytes.{Appends}
use Rattle.usb_fields.specs.declared.packet.Speed.{Speed}
use Rattle.usb_fields.specs.Packets.{Reply}
use Rattle.usb_file_data.specs.declared.file.DescriptorFile.{DescriptorFile}
use Rattle.usb_text.specs.declared.output.OutFault.{OutFault}
use Rattle.usb_text.specs.Output.{Held}
use Rattle.usb_host.specs.Limits.{LimitView}
use Rattle.usb_host.specs.Steps.{outcome_of, step_in, transfer_in}
use Rattle.usb_host.specs.Transfer.{TransferView, due}
use Rattle.usb_host.specs.declared.step.Step.{Step}
use Rattle.usb_device.specs.Requests.{answer}
use Rattle.usb_bus.specs.declared.enumeration.Run.{Run}
use Rattle.usb_bus.specs.declared.fate.Fate.{Fate}
use Rattle.usb_bus.specs.declared.wire.change.BitChange.{BitChange}
use Rattle.usb_bus.specs.Damaged.{bits_of}
use Rattle.usb_bus.specs.DamagedRuns.{IsDamagedAt}
use Rattle.usb_bus.specs.Enumerate.{IsReset, Pair, new_pair}
use Rattle.usb_bus.specs.Lines.{data_below, data_of, reset_line, tally_line}
use Rattle.usb_bus.specs.Log.{CutsOff, exchange_lines, transfer_part}
use Rattle.usb_bus.specs.PacketLines.{packets_below}
use Rattle.usb_bus.specs.Run.{fate_at, fates_used}

-- For a brief log or not, which shows all packets or those alone that are changed. What happens on the bus are these fates, and bits
-- that change.
module _ (brief all : Bool) (f : DescriptorFile) (fates : List Fate) (changes : List BitChange) where
  -- The lines of transaction n under its fate, where this was the host's step and transfer before it, the device has answered this, and
  -- that came of it. They are those over a bus that only loses; but below the data are packets.
  abbrev pub wire_lines : ℕ → Fate → Option Step → Option TransferView → Reply → Reply → Pair → List ℕ
  wire_lines n fate (Some step) (Some t) answer came after =
      transfer_part step t
      ++ exchange_lines f.device.packet n fate t answer came
      (data_below brief (data_of (due t) answer) ++ packets_below all fate (bits_of changes n) (due t) answer came) after
  wire_lines n fate step transfer answer came after = []

  -- a transaction, and its lines
  pub record IsLoggedAt (fate : Fate) (x : Pair) (now : ℕ) (y : Pair) (lines : List ℕ) : Type 0 where
    pub made : IsDamagedAt (answer f) f.device.packet fate (bits_of changes now) x y
    pub shown : lines ≡ wire_lines now fate (step_in x.host.phase) (transfer_in x.host.phase) made.answered made.brings.reply y

  -- a reset after n transactions, or the next transaction under its fate, and its lines; `now` transactions there were then
  abbrev pub LoggedMoves : Pair → ℕ → Pair → ℕ → List ℕ → Type 0
  LoggedMoves x n y now lines =
      (IsReset x y × (now ≡ n) × (lines ≡ reset_line y.host.resets)) ⊎ (IsLoggedAt (fate_at fates n) x now y lines × (now ≡ suc n))

  -- `last` is reached from a pair that is new, by n transactions and by resets, and these are the lines of all of them. These
  -- are the pairs on the way, the newest first.
  abbrev pub LoggedRuns : Pair → List Pair → ℕ → Pair → List ℕ → Type 0
  LoggedRuns new [] n last log = (last ≡ new) × (n ≡ 0) × (log ≡ [])
  LoggedRuns new (x ∷ earlier) n last log =
      (m : ℕ) × (before : List ℕ) × (lines : List ℕ) × LoggedMoves x m last n lines × LoggedRuns new earlier m x before × (log ≡ before ++ lines)

  -- from a new pair on
  module _ (new : Pair) where
    -- A run has come to `run`, and these are the lines of its steps.
    pub record IsLoggedRun (run : Run) (lines : List ℕ) : Type 0 where
      pub earlier : List Pair
      pub last : Pair
      pub runs : LoggedRuns new earlier run.transactions last lines
      pub attempts : last.host.resets ≡ run.attempts
      pub outcome : outcome_of last.host.phase ≡ Some run.outcome
      pub state : last.device.state ≡ run.state

    -- its log
    pub record IsWireLogFrom (run : Run) (log : List ℕ) : Type 0 where
      pub lines : List ℕ
      pub of_run : IsLoggedRun run lines
      pub text : log ≡ lines ++ tally_line (fates_used fates run.transactions)

    -- the log of that run was written
    pub record WritesWireLogFrom (held holds : Held) (run : Run) : Type 0 where
      pub log : List ℕ
      pub of_run : IsWireLogFrom run log
      pub written : Appends held holds log

    -- The log of a run so far was written. Then a step was made, and its lines were cut off.
    pub record WritesWireStepsLess (held holds : Held) (fault : OutFault) : Type 0 where
      pub earlier : List Pair
      pub before : Pair
      pub transactions : ℕ
      pub log : List ℕ
      pub runs : LoggedRuns new earlier transactions before log
      pub last : Pair
      pub now : ℕ
      pub lines : List ℕ
      pub moves : LoggedMoves before transactions last now lines
      pub between : Held
      pub logged : Appends held between log
      pub written : CutsOff fault between holds lines

    -- The log of a run that has ended was written, but for its last line, which was cut off.
    pub record WritesWireTallyLess (held holds : Held) (fault : OutFault) : Type 0 where
      pub run : Run
      pub lines : List ℕ
      pub of_run : IsLoggedRun run lines
      pub between : Held
      pub logged : Appends held between lines
      pub written : CutsOff fault between holds (tally_line (fates_used fates run.transactions))

    -- a log was cut off, in the lines of a step or in its last line
    abbrev pub WritesWireLogLessFrom : Held → Held → OutFault → Type 0
    WritesWireLogLessFrom held holds fault = WritesWireStepsLess held holds fault ⊎ WritesWireTallyLess held holds fault

  -- The same of a host that asks for all of a file.

  abbrev pub IsWireLogOf : Speed → LimitView → Run → List ℕ → Type 0
  IsWireLogOf speed limits run log = IsWireLogFrom (new_pair limits speed) run log

  abbrev pub WritesWireLog : Speed → LimitView → Held → Held → Run → Type 0
  WritesWireLog speed limits held holds run = WritesWireLogFrom (new_pair limits speed) held holds run

  abbrev pub WritesWireLogLess : Speed → LimitView → Held → Held → OutFault → Type 0
  WritesWireLogLess speed limits held holds fault = WritesWireLogLessFrom (new_pair limits speed) held holds fault
