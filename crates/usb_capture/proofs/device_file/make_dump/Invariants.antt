use Rattle.std.proofs.Common.{◌≡◌, ◌+◌, ◌-◌}
use Rattle.std.specs.Prelude.{map}
use Rattle.std.specs.List.{range_with_len}
use Rattle.usb_capture.specs.DeviceFiles.{configurations}
use Rattle.usb_capture.specs.Findings.{beside}
use Rattle.usb_capture.proofs.PartLemmas.{onto}
use Rattle.usb_capture.proofs.device_file.make_dump.Given as goal

abbrev pub invariant-loop-index : goal.invariant-loop-index
invariant-loop-index l =
    onto l.dump.items l.fn.kept (map (λ i. beside l.fn.device (512 + i)) (range_with_len l.index (l.index-end - l.index)))
    ≡ onto l.fn.descriptor l.fn.kept (configurations l.fn.device 512 l.index-end)
