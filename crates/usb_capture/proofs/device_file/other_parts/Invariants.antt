use Rattle.std.proofs.Common.{◌≡◌, ◌+◌, ◌-◌, ◌++◌, ◌∷◌}
use Rattle.std.specs.Prelude.{map}
use Rattle.std.specs.List.{range_with_len}
use Rattle.usb_capture.specs.DeviceFiles.{configurations}
use Rattle.usb_capture.specs.Findings.{beside}
use Rattle.usb_capture.proofs.device_file.other_parts.Given as goal

abbrev pub invariant-loop-index : goal.invariant-loop-index
invariant-loop-index l =
    l.asked.items ++ map (λ i. beside l.fn.device (1792 + i)) (range_with_len l.index (l.index-end - l.index))
    ≡ beside l.fn.device 1536 ∷ configurations l.fn.device 1792 l.index-end
