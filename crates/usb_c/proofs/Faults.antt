-- On how faults are reported.
use Rattle.std.proofs.Common.{◌≡◌, ℕ, List, refl, sym, subst}
use Rattle.usb_fields.specs.declared.packet.Speed.{Speed}
use Rattle.usb_file_data.specs.File.{File}
use Rattle.usb_file_data.specs.declared.file.DescriptorFile.{DescriptorFile}
use Rattle.usb_file_data.specs.declared.fault.FileFault.{FileFault}
use Rattle.usb_file_data.specs.declared.fault.FileWhy.{FileWhy}
use Rattle.usb_file_data.specs.declared.fault.FileWhy.TheVariants as files
use Rattle.usb_file_data.specs.FileFaults.{FileFaulty, ReadRefused}
use Rattle.usb_device.specs.Accepted.{Refuses as RefusesDescription}
use Rattle.usb_device.specs.declared.acceptance.DescriptionFault.{DescriptionFault}
use Rattle.usb_device.specs.declared.acceptance.DescriptionFault.TheVariants as descriptions
use Rattle.usb_c.specs.Devices.{PutsImageAt}
use Rattle.usb_c.specs.inside.Refusals.{file_by, refused_description, refused_file}

module _ (b : List ℕ) (speed : Speed) (old new : List ℕ) (same : new ≡ old) where
  file_puts : (e : FileFault) (why : FileWhy) → e.why ≡ why → ReadRefused b e.at why → PutsImageAt b speed old new (file_by why e)
  file_puts e files.Memory is h = same
  file_puts e why is h = (refl, subst (FileFaulty b e.at) (sym is) h, same)

  -- bytes that are no file have no image
  pub no_file_puts : (e : FileFault) → ReadRefused b e.at e.why → PutsImageAt b speed old new (refused_file e)
  no_file_puts e h = file_puts e e.why refl h

  -- nor has a file of which there is no device
  pub no_description_puts : (f : DescriptorFile) (e : DescriptionFault) → File f b → RefusesDescription f speed e → PutsImageAt b speed old new (refused_description e)
  no_description_puts f (descriptions.Finding finding) file why = (record { file = f; layout = file; why = why }, same)
  no_description_puts f descriptions.Texts file why = (record { file = f; layout = file; why = why }, same)
  no_description_puts f descriptions.Speed file why = (record { file = f; layout = file; why = why }, same)
  no_description_puts f descriptions.Memory file why = same
  no_description_puts f descriptions.Unwritable file why = (record { file = f; layout = file; why = why }, same)
