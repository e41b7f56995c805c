use Rattle.std.proofs.Common.{◌≡◌}
use Rattle.std.specs.List.{list_any}
use Rattle.usb_device.specs.Requests.{can_wake}
use Rattle.usb_device.specs.inside.Sets.{sets_left}
use Rattle.usb_device.proofs.sets.Sets.can_wake.Given as goal

abbrev pub invariant-loop-set : goal.invariant-loop-set
invariant-loop-set l =
    list_any can_wake (sets_left l.set-iterator) ≡ list_any can_wake (sets_left l.fn.self)
