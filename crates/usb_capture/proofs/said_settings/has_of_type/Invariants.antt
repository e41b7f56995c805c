use Rattle.std.proofs.Common.{◌≡◌}
use Rattle.std.specs.List.{list_any}
use Rattle.usb_capture.specs.DeviceStates.{has_of_type}
use Rattle.usb_capture.specs.SaidSettings.{settings_in, settings_left}
use Rattle.usb_capture.proofs.said_settings.has_of_type.Given as goal

abbrev pub invariant-loop-setting : goal.invariant-loop-setting
invariant-loop-setting l =
    list_any (has_of_type l.fn.kind l.fn.alternates l.fn.address) (settings_left l.setting-iterator)
    ≡ list_any (has_of_type l.fn.kind l.fn.alternates l.fn.address) (settings_in l.fn.set)
