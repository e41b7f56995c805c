-- A capture file of the packets of a run is read back to its transactions.
use Rattle.std.proofs.Common.{◌≡◌, ℕ, List, [], ◌∷◌, subst}
use Rattle.std.specs.List.{AllByRecursion}
use Rattle.usb_wire.specs.Packets.{IsLegal}
use Rattle.usb_file_data.specs.declared.file.DescriptorFile.{DescriptorFile}
use Rattle.usb_bus.specs.declared.fate.Fate.{Fate}
use Rattle.usb_bus.specs.Enumerate.{Pair}
use Rattle.usb_capture.specs.declared.frame.Frame.{Frame}
use Rattle.usb_capture.specs.declared.reader.CaptureReader.{CaptureReader}
use Rattle.usb_capture.specs.declared.recorded_packet.RecordedPacket.{RecordedPacket}
use Rattle.usb_capture.specs.Reading.{IsRead}
use Rattle.usb_capture.specs.Recordings.{transactions_in}
use Rattle.usb_recorded_runs.specs.Captures.{AreOfFrames, Moment, capture_of, frames, times}
use Rattle.usb_recorded_runs.specs.Exchanges.{Exchange, exchanges, received, packets_in, packets_of}
use Rattle.usb_recorded_runs.specs.Laws.{IsRun}
use Rattle.usb_recorded_runs.proofs.CaptureLemmas.{capture_read}
use Rattle.usb_recorded_runs.proofs.RecordedLemmas.{IsRegular, read_again}
use Rattle.usb_recorded_runs.proofs.RunLemmas.{all_append, regular_plain}

pub all_legal : (xs : List Exchange) → AllByRecursion IsRegular xs → AllByRecursion IsLegal (packets_in xs)
all_legal [] regular = tt
all_legal (x ∷ xs) regular = all_append IsLegal (packets_of x) (packets_in xs) regular.0.legal (all_legal xs regular.1)

pub captured_again : (f : DescriptorFile) (fates : List Fate) (new : Pair) (earlier : List Pair) (n : ℕ) (last : Pair) (clock : ℕ → Moment)
    (read : List Frame) (reader : CaptureReader) (recorded : List RecordedPacket) → IsRun f fates new earlier n last
    → (let xs = exchanges f fates earlier n in
    IsRead (capture_of clock (packets_in xs)) read reader → AreOfFrames 1 read recorded
    → (read ≡ frames clock 1 (packets_in xs)) × (transactions_in recorded ≡ received (times clock) 1 xs))
captured_again f fates new earlier n last clock read reader recorded run is_read are =
    let xs = exchanges f fates earlier n in
    let regular = regular_plain f fates new earlier n last run.0 run.1 in
    let same = capture_read clock (packets_in xs) read reader (all_legal xs regular) is_read in
    (same, read_again clock xs recorded regular (subst (λ frames. AreOfFrames 1 frames recorded) same are))
