use Rattle.std.proofs.Common.{◌≡◌, fold}
use Rattle.usb_device.specs.Requests.{interface_addresses}
use Rattle.usb_device.specs.States.{without_halt}
use Rattle.usb_capture.specs.SaidSettings.{settings_in, settings_left}
use Rattle.usb_capture.proofs.said_settings.without_interface.Given as goal

abbrev pub invariant-loop-setting : goal.invariant-loop-setting
invariant-loop-setting l =
    fold without_halt l.left (interface_addresses (settings_left l.setting-iterator) l.fn.number)
    ≡ fold without_halt l.fn.halts (interface_addresses (settings_in l.fn.set) l.fn.number)
