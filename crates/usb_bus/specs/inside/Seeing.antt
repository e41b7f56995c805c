-- The lines of a step, while they are put.
use Rattle.std.specs.Prelude.{◌≡◌, ◌⊎◌, ◌≤◌, ◌<◌, ◌+◌, ℕ, suc, List, ◌++◌, Bool, true, false, Option, Some, None}
use Rattle.std.specs.Io.KnownBytes.{Appends}
use Rattle.usb_fields.specs.Packets.{Reply, Sent}
use Rattle.usb_text.specs.declared.output.OutFault.{OutFault}
use Rattle.usb_text.specs.Output.{Held}
use Rattle.usb_host.specs.Cost.{left_to_ask}
use Rattle.usb_file_data.specs.declared.file.DescriptorFile.{DescriptorFile}
use Rattle.usb_host.specs.declared.why.Why.{Why}
use Rattle.usb_host.specs.Transfer.{TransferView, due}
use Rattle.usb_device.specs.Step.{DeviceView}
use Rattle.usb_device.specs.Requests.{answer}
use Rattle.usb_device.specs.Replies.{HasRoom}
use Rattle.usb_bus.specs.declared.fate.Fate.{Fate}
use Rattle.usb_bus.specs.declared.wire.change.BitChange.{BitChange}
use Rattle.usb_bus.specs.Damaged.{IsLegalSent, bits_of}
use Rattle.usb_bus.specs.DamagedRuns.{IsDamagedAt}
use Rattle.usb_bus.specs.Enumerate.{IsReset, Pair, measure}
use Rattle.usb_bus.specs.PacketLines.{packets_below}
use Rattle.usb_bus.specs.Run.{fate_at}
use Rattle.usb_host.specs.declared.step.Step.{Step}
use Rattle.usb_host.specs.Steps.{HostPhase, HostView}
use Rattle.usb_bus.specs.Exchanges.{cause_of}
use Rattle.usb_bus.specs.Lines.{data_below, data_of, device_words, given_up_part, reset_line}
use Rattle.usb_bus.specs.Log.{CutsOff, answered_part, transfer_part}
use Rattle.usb_bus.specs.LogOnWire.{IsLoggedRun, LoggedMoves, LoggedRuns}
use Rattle.usb_bus.specs.declared.enumeration.Run.{Run}

-- A transaction was answered so, this came of it, and the host is so then, whose step and transfer these were: what that makes known is
-- after the lines that were there, the end of its line stands apart with the data below it, and so does why the attempt is given up, if it is.
abbrev pub HasSeen : Bool → ℕ → Fate → Option Step → Option TransferView → Reply → Reply → HostPhase → List ℕ → List ℕ → List ℕ → Option Why → Type 0
HasSeen brief number fate (Some step) (Some t) answer came phase old lines below why =
    (lines ≡ old ++ transfer_part step t ++ answered_part number fate t answer came phase)
    × (below ≡ data_below brief (data_of (due t) answer)) × (why ≡ cause_of t came phase)
HasSeen brief number fate step t answer came phase old lines below why = Unit {0}

-- The lines of a step that is done: to those that were seen of a transaction comes what both ends have, and else they are of
-- a reset.
abbrev pub done_lines : ℕ → Bool → List ℕ → List ℕ → Option Why → HostView → DeviceView → List ℕ
done_lines size true lines below why host device =
    lines ++ device_words size device ++ below ++ given_up_part host.resets why
done_lines size false lines below why host device = reset_line host.resets

-- the packets of a transaction are legal
abbrev pub AreLegal : Option Sent → Reply → Type 0
AreLegal None answer = Unit {0}
AreLegal (Some sent) answer = IsLegalSent sent × HasRoom answer

-- the same over a bus of bytes: also the lines of packets were put, where the packets are legal
abbrev pub HasSeenPackets : Bool → Bool → ℕ → Fate → List BitChange → Option Step → Option TransferView → Reply → Reply → HostPhase → List ℕ → List ℕ → List ℕ → Option Why → Type 0
HasSeenPackets brief all number fate changes (Some step) (Some t) answer came phase old lines below why =
    (lines ≡ old ++ transfer_part step t ++ answered_part number fate t answer came phase)
    × (AreLegal (due t) answer → below ≡ data_below brief (data_of (due t) answer) ++ packets_below all fate (bits_of changes number) (due t) answer came)
    × (why ≡ cause_of t came phase)
HasSeenPackets brief all number fate changes step t answer came phase old lines below why = Unit {0}

-- What a step over a bus of bytes says that was made, to one who sees answers so: it was a reset, of which nothing was seen, or a
-- transaction, of which this was seen.
abbrev pub IsSeenStep : {O : Type 0} → (O → Reply → Reply → HostView → O → Type 0) → DescriptorFile → List Fate → List BitChange → Pair → ℕ → Pair → ℕ → O → O → Type 0
IsSeenStep sees f fates changes x n y now from to =
    (IsReset x y × (now ≡ n) × (to ≡ from))
    ⊎ ((t : IsDamagedAt (answer f) f.device.packet (fate_at fates n) (bits_of changes now) x y) × (now ≡ suc n) × sees from t.answered t.brings.reply y.host to)

-- The same with a log. For a brief one or not, which shows all packets or those alone that are changed.
module _ (brief all : Bool) (f : DescriptorFile) (fates : List Fate) (changes : List BitChange) where
  -- a step was made, and its lines were written
  pub record LogsStep (x : Pair) (n : ℕ) (y : Pair) (held holds : Held) (now : ℕ) : Type 0 where
    pub lines : List ℕ
    pub moves : LoggedMoves brief all f fates changes x n y now lines
    pub written : Appends held holds lines
    pub fewer : now + left_to_ask y.host ≤ n + left_to_ask x.host
    pub falls : measure y.host < measure x.host

  -- a step was made, and its lines were cut off
  pub record LogsStepLess (x : Pair) (n : ℕ) (y : Pair) (held holds : Held) (fault : OutFault) : Type 0 where
    pub now : ℕ
    pub lines : List ℕ
    pub moves : LoggedMoves brief all f fates changes x n y now lines
    pub written : CutsOff fault held holds lines

  -- from a new pair on
  module _ (new : Pair) where
    -- a run so far, whose lines were written
    pub record LeadsLogged (n : ℕ) (last : Pair) (held holds : Held) : Type 0 where
      pub earlier : List Pair
      pub log : List ℕ
      pub runs : LoggedRuns brief all f fates changes new earlier n last log
      pub written : Appends held holds log

    -- one that has ended
    pub record WalksLogged (held holds : Held) (run : Run) : Type 0 where
      pub lines : List ℕ
      pub of_run : IsLoggedRun brief all f fates changes new run lines
      pub written : Appends held holds lines
