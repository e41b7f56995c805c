use Rattle.usb_device.proofs.WrittenLemmas.{speeds_written}
use Rattle.usb_device.proofs.file_image.write_speeds.Goals as goal

pub returns-clause-image : goal.returns-clause-image
returns-clause-image c =
    rw (c.in_ok-add_other.ensures.written, c.in_ok-add_sets.ensures.written, c.in_ok-image.ensures, c.deref.ensures) (speeds_written c.args.f.now)
