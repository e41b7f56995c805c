use Rattle.std.proofs.Common.{◌≡◌}
use Rattle.std.specs.List.{list_any}
use Rattle.usb_device.specs.Freedoms.{has_isochronous}
use Rattle.usb_device.specs.inside.Sets.{settings_left}
use Rattle.usb_device.proofs.sets.Settings.has_isochronous.Given as goal

abbrev pub invariant-loop-setting : goal.invariant-loop-setting
invariant-loop-setting l =
    list_any (has_isochronous l.alternates l.address) (settings_left l.setting-iterator) ≡ list_any (has_isochronous l.alternates l.address) (settings_left l.fn.self)
