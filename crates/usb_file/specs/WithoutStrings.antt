-- A file without its strings, whether or not it names some (USB 2.0, 9.4.3 and 9.6).
use Rattle.std.specs.Prelude.{◌≡◌, ℕ, List, None, Some, false}
use Rattle.usb_fields.specs.Bytes.{AreBytes}
use Rattle.usb_file_data.specs.declared.file.DescriptorFile.{DescriptorFile}
use Rattle.usb_file_data.specs.declared.refusal.WriteFault.{WriteFault}
use Rattle.usb_file_data.specs.declared.refusal.WriteFault.TheVariants as writes
use Rattle.usb_file_data.specs.File.{file_bytes, has_wrong_count, has_wrong_kind, has_wrong_layout, write_refusal}

-- each count, kind and layout is as it has to be
pub record HasParts (f : DescriptorFile) : Type 0 where
  pub counts : has_wrong_count f ≡ false
  pub kinds : has_wrong_kind f ≡ false
  pub layouts : has_wrong_layout f ≡ false

-- the bytes are those of a file but for its strings
pub record WithoutStrings (f : DescriptorFile) (b : List ℕ) : Type 0 where
  pub bytes : b ≡ file_bytes (record f { strings = None })
  pub fits : AreBytes b
  pub parts : HasParts f

-- *Out of memory* is reported of files that have such bytes, and else the first reason, which is none of the strings.
abbrev pub WithoutStringsRefused : DescriptorFile → WriteFault → Type 0
WithoutStringsRefused f writes.Memory = HasParts f
WithoutStringsRefused f writes.Texts = ⊥
WithoutStringsRefused f fault = write_refusal f ≡ Some fault
