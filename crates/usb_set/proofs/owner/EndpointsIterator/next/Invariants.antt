use Rattle.std.proofs.Common.{◌≡◌, length}
use Rattle.usb_set.specs.Owners.{endpoints_from}
use Rattle.usb_set.proofs.owner.EndpointsIterator.next.Given as goal

abbrev pub invariant-loop-setting : goal.invariant-loop-setting
invariant-loop-setting l = endpoints_from l.self.settings.now l.self.given ≡ endpoints_from l.initial.self.settings.now l.initial.self.given

abbrev pub decreases-loop-setting : goal.decreases-loop-setting
decreases-loop-setting l = length l.self.settings.now
