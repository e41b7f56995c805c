use Rattle.std.proofs.Common.{◌≡◌}
use Rattle.std.specs.Prelude.{Some}
use Rattle.usb_capture.specs.UsbmonText.{bytes_in}
use Rattle.usb_capture.proofs.text.data.bytes_in.Given as goal

abbrev pub invariant-loop-number : goal.invariant-loop-number
invariant-loop-number l = bytes_in l.number l.fn.text ≡ Some l.bytes
