use Rattle.usb_capture.proofs.CurrentLemmas.{current_more}
use Rattle.usb_capture.proofs.device_readings.DeviceReadings.take.Goals as goal

pub returns : goal.returns
returns c = current_more c.keep.result c.args.transfer c.args.self.now c.keep.new.self c.keep.ensures
