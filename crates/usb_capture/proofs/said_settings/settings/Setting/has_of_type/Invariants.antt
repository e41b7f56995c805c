use Rattle.std.proofs.Common.{◌≡◌}
use Rattle.std.specs.List.{list_any}
use Rattle.usb_capture.specs.DeviceStates.{is_of_type_at}
use Rattle.usb_capture.specs.SaidSettings.{endpoints_left}
use Rattle.usb_capture.proofs.said_settings.settings.Setting.has_of_type.Given as goal

abbrev pub invariant-loop-endpoint : goal.invariant-loop-endpoint
invariant-loop-endpoint l =
    list_any (is_of_type_at l.kind l.address) (endpoints_left l.endpoint-iterator) ≡ list_any (is_of_type_at l.kind l.address) (endpoints_left l.fn.self.endpoints)
