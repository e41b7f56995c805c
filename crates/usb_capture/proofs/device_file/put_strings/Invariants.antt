use Rattle.std.proofs.Common.{◌≡◌, ◌++◌, drop}
use Rattle.usb_capture.specs.DeviceFiles.{strings_in}
use Rattle.usb_capture.proofs.device_file.put_strings.Given as goal

abbrev pub invariant-loop-index : goal.invariant-loop-index
invariant-loop-index l =
    l.asked.items ++ strings_in l.fn.device (drop l.index-index l.fn.named) l.fn.language ≡ l.fn.asked.items ++ strings_in l.fn.device l.fn.named l.fn.language
