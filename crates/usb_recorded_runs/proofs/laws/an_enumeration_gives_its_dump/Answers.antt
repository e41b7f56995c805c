use Rattle.std.proofs.Common.{◌≡◌, ◌<◌, ◌+◌, ℕ, [], length, refl, ap, subst}
use Rattle.std.specs.Prelude.{Ok}
use Rattle.usb_bus.specs.declared.enumeration.Run.{Run}
use Rattle.usb_bus.specs.Asked.{asked_of}
use Rattle.usb_bus.specs.Enumerate.{chosen_pair}
use Rattle.usb_capture.specs.BusTransfers.{pipes_in, transfers_in}
use Rattle.usb_capture.specs.DeviceReadings.{current_after}
use Rattle.usb_recorded_runs.specs.Exchanges.{exchanges, received}
use Rattle.usb_recorded_runs.proofs.DescribedFiles.{packet_eight, reads_kept}
use Rattle.usb_recorded_runs.proofs.FollowedRuns.{ended_parts, followed_run}
use Rattle.usb_recorded_runs.proofs.GivenFiles.{dump_there}
use Rattle.usb_recorded_runs.proofs.KeptParts.{Has, at_address}
use Rattle.usb_recorded_runs.proofs.KnownRuns.{all_small, run_right}
use Rattle.usb_recorded_runs.proofs.LengthLemmas.{short_run}
use Rattle.usb_recorded_runs.proofs.RequestRuns.{run_requests}
use Rattle.usb_recorded_runs.proofs.RunLemmas.{regular_plain}
use Rattle.usb_recorded_runs.proofs.TransferLemmas.{accepted_kinds}
use Rattle.usb_recorded_runs.proofs.laws.an_enumeration_gives_its_dump.Goals as goal

pub returns : goal.returns
returns c = λ f fates limits speed choice earlier n last times g accepted fits range needs run ended.
    let new = chosen_pair limits speed choice in
    let xs = exchanges f fates earlier n in
    let ts = received times 1 xs in
    let table = c.a_device_keeps_its_table.ensures f in
    let small = all_small xs (regular_plain f fates new earlier n last run.0 run.1) in
    let short = short_run f fates new earlier n last run.0 in
    let size = packet_eight f accepted.rules in
    let right = accepted_kinds f accepted.sets in
    let sound = (run_right f table fates times new earlier n last refl refl run.0 small short).transfers in
    let K = current_after [] (transfers_in ts) in
    let each = reads_kept f (transfers_in ts) sound (run_requests f fates times new earlier n last refl run.0) in
    let followed = (followed_run f table fates times size right limits range new earlier n last refl refl refl needs run.0 small short).followed in
    let parts = ended_parts f size right limits range.address_from K (pipes_in ts) g last.host.phase ended followed in
    let come : Run = record { outcome = Ok g; attempts = last.host.resets; transactions = n; state = last.device.state } in
    let ends = (c.an_enumeration_ends_well.ensures.any_choice f speed limits choice fates come accepted fits range (earlier, last, run.0, refl, ended, refl)).0 in
    let same : g ≡ asked_of choice f = ends.reads.0 in
    let sets : g.sets ≡ f.sets = ap (λ x. x.sets) same in
    dump_there K f each size fits accepted.sets accepted.strings limits.address parts.0.device
    (subst (λ cs. (i : ℕ) → i < length cs → Has K (at_address limits.address (512 + i) 0)) sets parts.0.sets)
