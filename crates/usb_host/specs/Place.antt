-- How far an enumeration is.
use Rattle.std.specs.Prelude.{ℕ, List}
use Rattle.usb_set.specs.declared.tree.SetKind.{SetKind}
use Rattle.usb_file_data.specs.declared.file.DescriptorFile.{DescriptorFile}
use Rattle.usb_file_data.specs.declared.file.Strings.{Strings}
use Rattle.usb_host.specs.declared.step.Trouble.{Trouble}

-- what is read next, with the file as far as it is read, or the end
pub data Place : Type 0 where
  -- the first eight bytes of the device descriptor
  First : Place
  -- SET_ADDRESS, after these bytes
  Address : (first : List ℕ) → Place
  -- the device descriptor, which begins with these bytes
  Device : (first : List ℕ) → Place
  -- the first nine bytes of the next set of this kind
  Header : (kind : SetKind) (file : DescriptorFile) → Place
  -- that set, of this many bytes
  Set : (kind : SetKind) (file : DescriptorFile) (total : ℕ) → Place
  -- the device qualifier
  Qualifier : (file : DescriptorFile) → Place
  -- the language list, where these indices are named
  Languages : (file : DescriptorFile) (named : List ℕ) → Place
  -- the next string, of these languages and indices
  Text : (file : DescriptorFile) (strings : Strings) (named : List ℕ) → Place
  -- SET_CONFIGURATION: the file is whole
  Configure : (file : DescriptorFile) → Place
  -- all was read, and the device is configured
  Reported : (file : DescriptorFile) → Place
  -- the end without success
  Stopped : (trouble : Trouble) → Place
