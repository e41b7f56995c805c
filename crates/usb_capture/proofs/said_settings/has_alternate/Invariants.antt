use Rattle.std.proofs.Common.{◌≡◌}
use Rattle.std.specs.List.{list_any}
use Rattle.usb_device.specs.Requests.{is_alternate}
use Rattle.usb_capture.specs.SaidSettings.{settings_in, settings_left}
use Rattle.usb_capture.proofs.said_settings.has_alternate.Given as goal

abbrev pub invariant-loop-setting : goal.invariant-loop-setting
invariant-loop-setting l =
    list_any (is_alternate l.fn.number l.fn.alternate) (settings_left l.setting-iterator)
    ≡ list_any (is_alternate l.fn.number l.fn.alternate) (settings_in l.fn.set)
