use Rattle.std.proofs.Common.{◌≡◌, ◌⊎◌, inl, inr, Bool, true, false, if◌then◌else◌, List, [], refl, sym, ◌∙◌, ap}
use Rattle.std.specs.Prelude.{Option, None}
use Rattle.std.specs.List.{AllByRecursion}
use Rattle.usb_fields.specs.Bytes.{AreBytes}
use Rattle.usb_fields.specs.declared.packet.Speed.{Speed}
use Rattle.usb_file_data.specs.declared.file.DescriptorFile.{DescriptorFile}
use Rattle.usb_file_data.specs.declared.file.Other.{Other}
use Rattle.usb_file_data.specs.File.{file_bytes}
use Rattle.usb_device.specs.Accepted.{Accepted}
use Rattle.usb_bus.specs.Enumerate.{chosen_pair}
use Rattle.usb_capture.specs.declared.asked.Asked.{Asked}
use Rattle.usb_capture.specs.declared.control_transfer.ControlTransfer.{ControlTransfer}
use Rattle.usb_capture.specs.declared.device_file.DeviceFile.{DeviceFile}
use Rattle.usb_capture.specs.declared.device_file.DeviceFile.TheVariants.{File, Dump}
use Rattle.usb_capture.specs.BusTransfers.{transfers_in}
use Rattle.usb_capture.specs.DeviceFiles.{IsMade}
use Rattle.usb_capture.specs.DeviceReadings.{current_after}
use Rattle.usb_recorded_runs.specs.Exchanges.{exchanges, received}
use Rattle.usb_recorded_runs.specs.Files.{IsOfDescription, has_qualifier}
use Rattle.usb_recorded_runs.proofs.DescribedFiles.{Reads, dump_is, file_is, packet_eight, reads_kept, whole_file}
use Rattle.usb_recorded_runs.proofs.KnownRuns.{all_small, run_right}
use Rattle.usb_recorded_runs.proofs.LengthLemmas.{short_run}
use Rattle.usb_recorded_runs.proofs.RequestRuns.{run_requests}
use Rattle.usb_recorded_runs.proofs.RunLemmas.{regular_plain}
use Rattle.usb_recorded_runs.proofs.laws.a_device_file_is_the_description.Goals as goal

-- With a qualifier, or without another speed, nothing is left out.
nothing_out : (came : Bool) (o : Option Other) → (came ≡ true) ⊎ (o ≡ None) → (if came then o else None) ≡ o
nothing_out true o either = refl
nothing_out false o (inl is) = absurd (let w : ⊥ = cc in w)
nothing_out false o (inr none) = sym none

made_is : (f : DescriptorFile) (speed : Speed) (kept : List ControlTransfer) (device : Asked) (made : DeviceFile) → Accepted f speed → AreBytes (file_bytes f)
    → AllByRecursion (Reads f) kept → IsMade kept device made → IsOfDescription f kept device made
made_is f speed kept device (File bytes) accepted fits each (d, is, e) =
    let same = file_is kept f each (packet_eight f accepted.rules) fits accepted.sets device d is bytes.items e in
    (same, λ when. same ∙ ap file_bytes (whole_file f speed (has_qualifier kept device) accepted (nothing_out (has_qualifier kept device) f.other when)))
made_is f speed kept device (Dump bytes) accepted fits each (d, is, none, e) = dump_is kept f each (packet_eight f accepted.rules) fits accepted.sets device d is bytes.items e

pub returns : goal.returns
returns c = λ f fates limits speed choice earlier n last times device made accepted fits run.
    let new = chosen_pair limits speed choice in
    let xs = exchanges f fates earlier n in
    let transfers = transfers_in (received times 1 xs) in
    let sound = (run_right f (c.a_device_keeps_its_table.ensures f) fates times new earlier n last refl refl run.0
    (all_small xs (regular_plain f fates new earlier n last run.0 run.1)) (short_run f fates new earlier n last run.0)).transfers in
    let asked = run_requests f fates times new earlier n last refl run.0 in
    made_is f speed (current_after [] transfers) device made accepted fits (reads_kept f transfers sound asked)
