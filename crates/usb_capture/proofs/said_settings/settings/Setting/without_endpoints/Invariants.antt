use Rattle.std.proofs.Common.{◌≡◌, fold, map}
use Rattle.usb_device.specs.Requests.{address_of}
use Rattle.usb_device.specs.States.{without_halt}
use Rattle.usb_capture.specs.SaidSettings.{endpoints_left}
use Rattle.usb_capture.proofs.said_settings.settings.Setting.without_endpoints.Given as goal

abbrev pub invariant-loop-endpoint : goal.invariant-loop-endpoint
invariant-loop-endpoint l =
    fold without_halt l.state.halts (map address_of (endpoints_left l.endpoint-iterator))
    ≡ fold without_halt l.fn.halts (map address_of (endpoints_left l.fn.self.endpoints))
