use Rattle.usb_capture.proofs.CurrentLemmas.{current_kept}
use Rattle.usb_capture.proofs.device_readings.DeviceReadings.keep.Goals as goal

pub returns : goal.returns
returns c =
    current_kept c.keep.result c.args.transfer c.is_other_device-is_other.result c.args.self.now.readings.kept.items c.as_slice.result.now c.forget_past.new.self.readings.kept.items
    c.keep.new.self.kept.items c.keep.ensures.ok c.forget_past.ensures c.is_other_device-is_other.ensures c.as_slice.ensures
