-- How each control transfer of a recorded enumeration has ended.
use Rattle.std.proofs.Common.{◌≡◌, ◌⊎◌, inl, inr, ◌≤◌, ℕ, List, [], ◌∷◌, length, min, refl, ◌∙◌, arith}
use Rattle.std.specs.Prelude.{true, Option}
use Rattle.std.specs.List.{AllByRecursion}
use Rattle.std.proofs.lemmas.Bool.Decides.{nat_tests}
use Rattle.usb_fields.specs.declared.packet.Speed.{Speed}
use Rattle.usb_file_data.specs.declared.file.DescriptorFile.{DescriptorFile}
use Rattle.usb_file_data.specs.Findings.{findings}
use Rattle.usb_file_data.proofs.Sorting.{device_right}
use Rattle.usb_host.specs.declared.choice.Choice.{Choice}
use Rattle.usb_host.specs.Limits.{LimitView}
use Rattle.usb_device.specs.Accepted.{Accepted}
use Rattle.usb_device.specs.Requests.{answer}
use Rattle.usb_bus.specs.declared.fate.Fate.{Fate}
use Rattle.usb_bus.specs.Beside.{IsTable}
use Rattle.usb_bus.specs.Enumerate.{Pair, chosen_pair}
use Rattle.usb_capture.specs.declared.control_transfer.ControlTransfer.{ControlTransfer}
use Rattle.usb_capture.specs.BusTransfers.{transfers_in}
use Rattle.usb_capture.specs.Readings.{reads_descriptor}
use Rattle.usb_recorded_runs.specs.Exchanges.{exchanges, received}
pub use Rattle.usb_recorded_runs.specs.Findings.{IsEnded}
use Rattle.usb_recorded_runs.specs.Findings.{described_by}
use Rattle.usb_recorded_runs.specs.Laws.{IsRun}
use Rattle.usb_recorded_runs.proofs.AnswerLemmas.{answered_length}
use Rattle.usb_recorded_runs.proofs.KnownRuns.{all_small, run_right}
use Rattle.usb_recorded_runs.proofs.LengthLemmas.{short_run}
use Rattle.usb_recorded_runs.proofs.RunLemmas.{regular_plain}
use Rattle.usb_recorded_runs.proofs.TogetherLemmas.{HasEnded, IsCarriedOut, IsWhole}

-- Packets of accepted descriptors have eight bytes at least.
pub packet_eight : (f : DescriptorFile) → findings f ≡ [] → 8 ≤ f.device.packet
packet_eight f none =
    let device = device_right f none in
    grind (arith, nat_tests)

ended_so : (f : DescriptorFile) (t : ControlTransfer) → HasEnded (answer f) t.device t → IsEnded f t
ended_so f t has = record {
  refused = λ stalls. let r = has.refused stalls in (r.state, r.answers);
  whole = λ done read. of read (has.whole done);
}
  where
    of : reads_descriptor t.setup ≡ true → IsCarriedOut (answer f) t.device t.setup t.length ⊎ IsWhole (answer f) t.device t.setup t.length
        → t.length ≡ min t.setup.length (length (described_by f t.setup))
    of read (inl carried) = omega (arith, carried.none, carried.count_is)
    of read (inr all) = all.count_is ∙ answered_length f all.state t.setup all.all all.answers read

all_ended : (f : DescriptorFile) (ts : List ControlTransfer) → AllByRecursion (λ t. HasEnded (answer f) t.device t) ts
    → AllByRecursion (IsEnded f) ts
all_ended f [] each = tt
all_ended f (t ∷ ts) each = (ended_so f t each.0, all_ended f ts each.1)

pub transfers_ended : (f : DescriptorFile) (speed : Speed) (fates : List Fate) (limits : LimitView) (choice : Choice) (earlier : List Pair) (n : ℕ)
    (last : Pair) (times : ℕ → Option ℕ) → IsTable (answer f) → Accepted f speed → IsRun f fates (chosen_pair limits speed choice) earlier n last
    → AllByRecursion (IsEnded f) (transfers_in (received times 1 (exchanges f fates earlier n)))
transfers_ended f speed fates limits choice earlier n last times is_table accepted run =
    let new = chosen_pair limits speed choice in
    let right = run_right f is_table fates times new earlier n last refl refl run.0
    (all_small (exchanges f fates earlier n) (regular_plain f fates new earlier n last run.0 run.1)) (short_run f fates new earlier n last run.0) in
    all_ended f (transfers_in (received times 1 (exchanges f fates earlier n))) (right.ended (packet_eight f accepted.rules))
