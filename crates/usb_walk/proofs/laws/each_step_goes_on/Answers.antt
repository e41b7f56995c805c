use Rattle.usb_walk.proofs.Walking.{all_go_on}
use Rattle.usb_walk.proofs.laws.each_step_goes_on.Goals as goal

pub returns : goal.returns
returns c = all_go_on
