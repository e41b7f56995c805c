use Rattle.usb_c.proofs.Placed.{put_one_more}
use Rattle.usb_c.proofs.finding.put_at.Goals as goal

pub loop-number-preserved : goal.loop-number-preserved
loop-number-preserved c = put_one_more _ _ _ _ _ _ _ _ c.requires c.loop-number-test.true c.loop-number.invariant c.placed.ensures
