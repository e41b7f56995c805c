use Rattle.std.proofs.Common.{◌≡◌}
use Rattle.std.specs.List.{list_any}
use Rattle.usb_device.specs.Requests.{is_at}
use Rattle.usb_capture.specs.SaidSettings.{endpoints_left}
use Rattle.usb_capture.proofs.said_settings.settings.Setting.has_endpoint.Given as goal

abbrev pub invariant-loop-endpoint : goal.invariant-loop-endpoint
invariant-loop-endpoint l =
    list_any (is_at l.address) (endpoints_left l.endpoint-iterator) ≡ list_any (is_at l.address) (endpoints_left l.fn.self.endpoints)
