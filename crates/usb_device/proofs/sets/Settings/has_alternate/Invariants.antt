use Rattle.std.proofs.Common.{◌≡◌}
use Rattle.std.specs.List.{list_any}
use Rattle.usb_device.specs.Requests.{is_alternate}
use Rattle.usb_device.specs.inside.Sets.{settings_left}
use Rattle.usb_device.proofs.sets.Settings.has_alternate.Given as goal

abbrev pub invariant-loop-setting : goal.invariant-loop-setting
invariant-loop-setting l =
    list_any (is_alternate l.number l.alternate) (settings_left l.setting-iterator) ≡ list_any (is_alternate l.number l.alternate) (settings_left l.fn.self)
