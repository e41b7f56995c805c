use Rattle.std.proofs.Common.{◌++◌}
use Rattle.std.proofs.lemmas.List.{get_or_default}
use Rattle.usb_file_data.specs.Findings.{of_rule}
use Rattle.usb_file_data.specs.Numbers.{every_rule}
use Rattle.usb_file_data.proofs.Sorting.{fold_next}
use Rattle.usb_file_data.proofs.order.sorted.Goals as goal

pub loop-rule-preserved : goal.loop-rule-preserved
loop-rule-preserved c =
    fold_next (λ out r. out ++ of_rule r c.args.found.now) every_rule c.loop-rule.rule-index _ c.loop-rule.out.items c.copy_of.new.out.items _ c.loop-rule-test.true (get_or_default every_rule c.loop-rule.rule-index _ _ c.loop-rule-test.true) c.loop-rule.invariant c.in_ok-copy_of.ensures
