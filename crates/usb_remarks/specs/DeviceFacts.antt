-- What a device descriptor and a device qualifier say of the speed of their sets.
use Rattle.std.specs.Prelude.{ℕ, List, slice_index, ◌==◌, None}
use Rattle.usb_fields.specs.Bytes.{little_endian_at}
use Rattle.usb_remarks.specs.declared.device_facts.DeviceFacts.{DeviceFacts}
use Rattle.usb_remarks.specs.SetSpeeds.{release_hint, speed_of_device, speed_of_hub}

-- what a device descriptor says, with which the bytes begin (USB 2.0, 9.6.1)
unfoldable pub facts_of_device : List ℕ → DeviceFacts
facts_of_device d = record {
  speed = speed_of_device (little_endian_at d 2) (slice_index d 4) (slice_index d 6) (slice_index d 7);
  packet = slice_index d 7;
  is_hub = slice_index d 4 == 9;
  hinted = release_hint (little_endian_at d 2);
}

-- what a qualifier says: it is of full or high speed, whatever its bcdUSB is (USB 2.0, 9.6.2)
unfoldable pub facts_of_qualifier : List ℕ → DeviceFacts
facts_of_qualifier d = record {
  speed = speed_of_hub (slice_index d 4) (slice_index d 6);
  packet = slice_index d 7;
  is_hub = slice_index d 4 == 9;
  hinted = None;
}
