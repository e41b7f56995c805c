-- A file that is not written though memory was there has a reason.
use Rattle.std.proofs.Common.{◌≡◌, ◌≢◌, Some, refl}
use Rattle.usb_file_data.specs.File.{WriteRefused, write_refusal}
use Rattle.usb_file.specs.WithoutStrings.{WithoutStringsRefused}
use Rattle.usb_file_data.specs.declared.refusal.WriteFault.{WriteFault}
use Rattle.usb_file_data.specs.declared.refusal.WriteFault.TheVariants as writes
use Rattle.usb_file_data.specs.declared.file.DescriptorFile.{DescriptorFile}

pub written_reason : (f : DescriptorFile) (why : WriteFault) → WriteRefused f why → why ≢ writes.Memory → write_refusal f ≡ Some why
written_reason f writes.Count refused known = refused
written_reason f writes.Kind refused known = refused
written_reason f writes.Layout refused known = refused
written_reason f writes.Texts refused known = refused
written_reason f writes.Memory refused known = absurd (known refl)

-- the same without its strings
pub unread_reason : (f : DescriptorFile) (why : WriteFault) → WithoutStringsRefused f why → why ≢ writes.Memory → write_refusal f ≡ Some why
unread_reason f writes.Count refused known = refused
unread_reason f writes.Kind refused known = refused
unread_reason f writes.Layout refused known = refused
unread_reason f writes.Texts refused known = absurd refused
unread_reason f writes.Memory refused known = absurd (known refl)
