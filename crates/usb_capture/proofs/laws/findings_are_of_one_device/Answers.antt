use Rattle.usb_capture.proofs.FindingLaws.{of_one_device}
use Rattle.usb_capture.proofs.laws.findings_are_of_one_device.Goals as goal

pub returns : goal.returns
returns c = of_one_device
