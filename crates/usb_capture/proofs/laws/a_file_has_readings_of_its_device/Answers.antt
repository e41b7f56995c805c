use Rattle.usb_capture.proofs.FindingLaws.{parts_are}
use Rattle.usb_capture.proofs.laws.a_file_has_readings_of_its_device.Goals as goal

pub returns : goal.returns
returns c = parts_are
