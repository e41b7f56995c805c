use Rattle.std.proofs.Common.{◌≡◌, ◌++◌, drop}
use Rattle.usb_file_data.specs.Findings.{of_rule}
use Rattle.usb_file_data.proofs.order.copy_of.Given as goal

abbrev pub invariant-loop-one : goal.invariant-loop-one
invariant-loop-one l = l.out.items ++ of_rule l.rule (drop l.one-index l.first) ≡ l.fn.out.items ++ of_rule l.rule l.first
