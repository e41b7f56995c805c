use Rattle.usb_bus.proofs.Runs.{losses-fates_used, busies-fates_used}
use Rattle.usb_bus.proofs.laws.used_fates_are_of_the_list.Goals as goal

pub returns : goal.returns
returns c = λ fates n. (losses-fates_used fates n, busies-fates_used fates n)
