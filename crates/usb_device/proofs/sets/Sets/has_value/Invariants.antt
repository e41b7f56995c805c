use Rattle.std.proofs.Common.{◌≡◌}
use Rattle.std.specs.List.{list_any}
use Rattle.usb_device.specs.Requests.{has_value}
use Rattle.usb_device.specs.inside.Sets.{sets_left}
use Rattle.usb_device.proofs.sets.Sets.has_value.Given as goal

abbrev pub invariant-loop-set : goal.invariant-loop-set
invariant-loop-set l =
    list_any (has_value l.value) (sets_left l.set-iterator) ≡ list_any (has_value l.value) (sets_left l.fn.self)
