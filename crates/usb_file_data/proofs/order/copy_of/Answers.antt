use Rattle.std.proofs.Common.{◌∙◌}
use Rattle.usb_file_data.proofs.Sorting.{all_of, copied}
use Rattle.usb_file_data.proofs.order.copy_of.Goals as goal

pub returns : goal.returns
returns c =
    copied _ c.args.found.now c.args.out.now.items _ c.loop-one.one-index c.args.rule c.loop-one.invariant c.loop-one-test.false
    (all_of c.args.found.now c.args.ends.now c.args.rule c.from.result c.requires (c.from.ensures ∙ c.number.ensures))
