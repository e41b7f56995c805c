-- Answers to requests, as the code holds them.
use Rattle.std.specs.Prelude.{[], ◌∷◌}
use Rattle.usb_device.specs.Offers.{Offer}
use Rattle.usb_device.specs.Requests.{Outcome, Bytes, Done, Refused}
use Rattle.usb_capture.specs.declared.expected.Expected.{Expected}
use Rattle.usb_capture.specs.declared.expected.Expected.TheVariants as expected
use Rattle.usb_capture.specs.declared.request.Request.{Request}
use Rattle.usb_capture.specs.Conversations.{held_of}
use Rattle.usb_capture.specs.DeviceStates.{offer_said}

-- what an answer is, of those in usb_device's table
abbrev pub outcome_of : Expected → Outcome
outcome_of (expected.Byte byte) = Bytes (byte ∷ [])
outcome_of (expected.Status first) = Bytes (first ∷ 0 ∷ [])
outcome_of (expected.Done next) = Done next
outcome_of expected.Refused = Refused

-- what the device of a request offers, by what it said
abbrev pub offered : Request → Offer
offered r = offer_said (held_of r.conversations.now.held.items) r.asked
