use Rattle.std.proofs.Common.{◌≡◌, ◌++◌, length}
use Rattle.usb_hex.specs.Labels.{unlabelled}
use Rattle.usb_hex.specs.declared.label.Part.TheVariants.{Start}
use Rattle.usb_hex.proofs.label.without_labels.Given as goal

abbrev pub invariant-loop-rest : goal.invariant-loop-rest
invariant-loop-rest l = l.bytes.items ++ unlabelled l.part l.rest ≡ unlabelled Start l.text

abbrev pub decreases-loop-rest : goal.decreases-loop-rest
decreases-loop-rest l = length l.rest
