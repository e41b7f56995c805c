use Rattle.std.proofs.Common.{◌≡◌, drop}
use Rattle.usb_capture.proofs.PartLemmas.{onto}
use Rattle.usb_capture.proofs.device_file.with_parts.Given as goal

abbrev pub invariant-loop-one : goal.invariant-loop-one
invariant-loop-one l = onto l.all.items l.fn.kept (drop l.one-index l.fn.asked) ≡ onto l.fn.bytes l.fn.kept l.fn.asked
