use Rattle.std.proofs.Common.{◌≡◌, ◌≤◌, ℕ, List, [], refl, ◌∙◌, ap, subst}
use Rattle.std.specs.Prelude.{Option, Some, None, Ok, IsSome}
use Rattle.std.specs.List.{AllByRecursion}
use Rattle.usb_fields.specs.Bytes.{AreBytes}
use Rattle.usb_fields.specs.Device.{device_bytes}
use Rattle.usb_fields.specs.declared.packet.Speed.{Speed}
use Rattle.usb_file_data.specs.declared.file.DescriptorFile.{DescriptorFile}
use Rattle.usb_file_data.specs.File.{file_bytes, named_indices}
use Rattle.usb_device.specs.Accepted.{Accepted}
use Rattle.usb_bus.specs.declared.enumeration.Run.{Run}
use Rattle.usb_bus.specs.Enumerate.{new_pair}
use Rattle.usb_capture.specs.declared.control_transfer.ControlTransfer.{ControlTransfer}
use Rattle.usb_capture.specs.BusTransfers.{pipes_in, transfers_in}
use Rattle.usb_capture.specs.DeviceFiles as made
use Rattle.usb_capture.specs.DeviceReadings.{current_after}
use Rattle.usb_recorded_runs.specs.Exchanges.{exchanges, received}
use Rattle.usb_recorded_runs.specs.Files.{GivesFile, at_address, has_qualifier}
use Rattle.usb_recorded_runs.proofs.DescribedFiles.{Reads, file_is, packet_eight, reads_kept, whole_file}
use Rattle.usb_recorded_runs.proofs.FollowedRuns.{ended_parts, followed_run}
use Rattle.usb_recorded_runs.proofs.GivenFiles.{descriptor_there, file_there, other_there}
use Rattle.usb_recorded_runs.proofs.KnownRuns.{all_small, run_right}
use Rattle.usb_recorded_runs.proofs.LengthLemmas.{short_run}
use Rattle.usb_recorded_runs.proofs.PlaceParts.{HasFile, HasStrings}
use Rattle.usb_recorded_runs.proofs.RequestRuns.{run_requests}
use Rattle.usb_recorded_runs.proofs.RunLemmas.{regular_plain}
use Rattle.usb_recorded_runs.proofs.TransferLemmas.{accepted_kinds}
use Rattle.usb_recorded_runs.proofs.laws.an_enumeration_gives_its_file.Goals as goal

-- the file of what is kept, of which each part is there
given : (f : DescriptorFile) (speed : Speed) (K : List ControlTransfer) (address : ℕ) → Accepted f speed → AreBytes (file_bytes f) → AllByRecursion (Reads f) K → HasFile f address K f
    → HasStrings f address K (named_indices f) f.strings → GivesFile K (at_address address) (file_bytes f)
given f speed K address accepted fits each has strings = (device_bytes f.device, there, of (made.file_bytes K (at_address address) (device_bytes f.device)) refl (file_there K f each size fits accepted.sets accepted.strings address has strings))
  where
    size : 8 ≤ f.device.packet
    size = packet_eight f accepted.rules

    there : made.IsDescriptor K (at_address address) (device_bytes f.device)
    there = descriptor_there K f each size fits accepted.sets accepted.strings address has strings

    of : (o : Option (List ℕ)) → made.file_bytes K (at_address address) (device_bytes f.device) ≡ o → IsSome o → o ≡ Some (file_bytes f)
    of None e some = absurd (let w : ⊥ = cc in w)
    of (Some b) e some =
        ap Some (file_is K f each size fits accepted.sets (at_address address) (device_bytes f.device) there b e
        ∙ ap file_bytes (whole_file f speed (has_qualifier K (at_address address)) accepted (other_there K f each size fits accepted.sets accepted.strings address has strings)))

pub returns : goal.returns
returns c = λ f fates limits speed earlier n last times g accepted fits range run ended.
    let new = new_pair limits speed in
    let xs = exchanges f fates earlier n in
    let ts = received times 1 xs in
    let table = c.a_device_keeps_its_table.ensures f in
    let small = all_small xs (regular_plain f fates new earlier n last run.0 run.1) in
    let short = short_run f fates new earlier n last run.0 in
    let size = packet_eight f accepted.rules in
    let right = accepted_kinds f accepted.sets in
    let sound = (run_right f table fates times new earlier n last refl refl run.0 small short).transfers in
    let asked = run_requests f fates times new earlier n last refl run.0 in
    let K = current_after [] (transfers_in ts) in
    let each = reads_kept f (transfers_in ts) sound asked in
    let followed = (followed_run f table fates times size right limits range new earlier n last refl refl refl refl run.0 small short).followed in
    let parts = ended_parts f size right limits range.address_from K (pipes_in ts) g last.host.phase ended followed in
    let come : Run = record { outcome = Ok g; attempts = last.host.resets; transactions = n; state = last.device.state } in
    let ends = c.an_enumeration_ends_well.ensures.everything f speed limits fates come accepted fits range (earlier, last, run.0, refl, ended, refl) in
    let same : g ≡ f = ends.reads.0 in
    let all = subst (λ x. HasFile f limits.address K x × HasStrings f limits.address K (named_indices x) x.strings) same parts in
    given f speed K limits.address accepted fits each all.0 all.1
