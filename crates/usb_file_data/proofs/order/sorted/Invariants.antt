use Rattle.std.proofs.Common.{◌≡◌, ◌++◌, drop}
use Rattle.std.specs.Prelude.{fold}
use Rattle.usb_file_data.specs.Findings.{by_rule, of_rule}
use Rattle.usb_file_data.specs.Numbers.{every_rule}
use Rattle.usb_file_data.proofs.order.sorted.Given as goal

abbrev pub invariant-loop-rule : goal.invariant-loop-rule
invariant-loop-rule l = fold (λ out r. out ++ of_rule r l.found) l.out.items (drop l.rule-index every_rule) ≡ by_rule l.found
