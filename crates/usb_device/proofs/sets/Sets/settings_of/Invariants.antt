use Rattle.std.proofs.Common.{◌≡◌, find}
use Rattle.usb_device.specs.Requests.{has_value}
use Rattle.usb_device.specs.inside.Sets.{sets_left}
use Rattle.usb_device.proofs.sets.Sets.settings_of.Given as goal

abbrev pub invariant-loop-set : goal.invariant-loop-set
invariant-loop-set l =
    find (has_value l.value) (sets_left l.set-iterator) ≡ find (has_value l.value) (sets_left l.fn.self)
