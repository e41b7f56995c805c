-- A description, and its part without the tree, as callers see them.
use Rattle.std.specs.Prelude.{◌≡◌}
use Rattle.usb_device.specs.declared.description.Description.TheInside.{Inside as WithTree}
use Rattle.usb_device.specs.declared.encoded.Encoded.TheInside.{Inside}
use Rattle.usb_device.specs.Accepted.{Accepted}
use Rattle.usb_device.specs.Descriptors.{Described}
use Rattle.usb_device.specs.FileImages.{image_of}

abbrev pub encoded_of : Inside → Described
encoded_of d = record { file = d.file.value; speed = d.speed }

-- the image is that of the file, which is accepted
pub record IsEncoded (d : Inside) : Type 0 where
  pub image : d.image.items ≡ image_of d.file.value
  pub accepted : Accepted d.file.value d.speed

abbrev pub described_of : WithTree → Described
described_of d = d.encoded

abbrev pub IsDescription : WithTree → Type 0
IsDescription d = d.encoded.file ≡ d.file
