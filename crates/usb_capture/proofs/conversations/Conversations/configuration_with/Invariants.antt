use Rattle.std.proofs.Common.{◌≡◌, ◌-◌}
use Rattle.std.specs.Prelude.{find}
use Rattle.usb_device.specs.Requests.{has_value}
use Rattle.usb_capture.specs.Conversations.{held_of}
use Rattle.usb_capture.specs.DeviceStates.{offer_said}
use Rattle.usb_capture.proofs.StateLemmas.{sets_from}
use Rattle.usb_capture.proofs.conversations.Conversations.configuration_with.Given as goal

abbrev pub invariant-loop-index : goal.invariant-loop-index
invariant-loop-index l =
    find (has_value l.fn.value) (sets_from (held_of l.fn.self.held.items) l.fn.asked l.index (l.index-end - l.index))
    ≡ find (has_value l.fn.value) (offer_said (held_of l.fn.self.held.items) l.fn.asked).sets
