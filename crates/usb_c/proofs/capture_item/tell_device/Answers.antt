use Rattle.std.proofs.Common.{inl}
use Rattle.usb_c.proofs.capture_item.tell_device.Goals as goal

pub returns-in-Ok : goal.returns-in-Ok
returns-in-Ok c = inl (record { file = c.in-Ok.file; made = c.in-Ok.ensures.ok; puts = c.put_file.ensures })
