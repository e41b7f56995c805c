use Rattle.std.proofs.Common.{◌≡◌, ◌++◌, ◌∷◌, drop, length}
use Rattle.std.specs.List.{flat_map}
use Rattle.usb_capture.specs.DeviceFiles.{codes_in, strings_in}
use Rattle.usb_capture.specs.Findings.{beside}
use Rattle.usb_capture.proofs.device_file.string_parts.Given as goal

abbrev pub invariant-loop-rest : goal.invariant-loop-rest
invariant-loop-rest l =
    l.asked.items ++ flat_map (strings_in l.fn.device l.fn.named) (codes_in l.rest)
    ≡ beside l.fn.device 768 ∷ flat_map (strings_in l.fn.device l.fn.named) (codes_in (drop 2 l.fn.list))

abbrev pub decreases-loop-rest : goal.decreases-loop-rest
decreases-loop-rest l = length l.rest
