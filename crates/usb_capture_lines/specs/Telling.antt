-- What was written of a recording as its frames came.
use Rattle.std.specs.Prelude.{◌≡◌, List, reverse}
use Rattle.std.specs.Io.KnownBytes.{Appends}
use Rattle.usb_capture.specs.declared.frame.Frame.{Frame}
use Rattle.usb_capture.specs.Conversations.{Knows}
use Rattle.usb_capture.specs.DeviceReadings.{HasCurrent}
use Rattle.usb_text.specs.Output.{Held}
use Rattle.usb_capture_lines.specs.Observations.{AreObserved, HasObserved, Observed, overs}
use Rattle.usb_capture_lines.specs.Recordings.{devices_of, replaced_of, tally_of, reported_text}
use Rattle.usb_capture_lines.specs.declared.teller.Teller.{Teller}

-- frames were taken in which this was observed, and what is to be said of them was written; the last ones come first
pub record HasSaid (frames : List Frame) (observed : List Observed) (teller : Teller) (held holds : Held) : Type 0 where
  pub are : AreObserved frames observed
  pub observer : HasObserved observed teller.observer
  pub knows : Knows (overs observed) teller.conversations
  pub kept : HasCurrent (reverse (overs observed)) teller.readings
  pub devices : teller.devices.items ≡ devices_of observed
  pub tally : teller.tally ≡ tally_of frames
  pub replaced : teller.replaced ≡ replaced_of observed
  pub written : Appends held holds (reported_text teller.selection teller.first frames observed)
