use Rattle.std.proofs.lemmas.Result.{on_ok_weaker}
use Rattle.usb_bus.specs.Lines.{reset_line}
use Rattle.usb_bus.proofs.JoinLemmas.{joined}
use Rattle.usb_bus.proofs.step_lines.put_reset.Goals as goal

pub returns : goal.returns
unfolding reset_line
returns c =
    let begun = joined _ _ _ _ _ c.in_ok-put_heading.ensures c.in_ok-put_numbered.ensures in
    on_ok_weaker c.put.result (joined _ _ _ _ _ begun) c.put.ensures
