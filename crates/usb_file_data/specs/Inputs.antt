-- What the bytes of an input are, and what is wrong with those that are nothing.
use Rattle.std.specs.Prelude.{◌≡◌, ℕ, ◌<◌, List, ◌++◌, length, false, None, ◌⊎◌, [], ◌∷◌, take, Bool, true}
use Rattle.std.specs.List.{list_any}
use Rattle.usb_fields.specs.Bytes.{AreBytes}
use Rattle.usb_fields.specs.Device.{device_bytes}
use Rattle.usb_set.specs.declared.tree.SetKind.TheVariants as kinds
use Rattle.usb_file_data.specs.declared.file.DescriptorFile.{DescriptorFile}
use Rattle.usb_file_data.specs.File.{sets_bytes, is_other_kind, has_no_layout, named_indices, File}
use Rattle.usb_set.specs.declared.tree.Configuration.{Configuration}
use Rattle.usb_set.specs.declared.fault.SetFault.{SetFault}
use Rattle.usb_set.specs.declared.fault.SetWhy.TheVariants.{Truncated}
use Rattle.usb_set.specs.Faults.{Faulty, IsOpen, is_set_type}
use Rattle.usb_set.specs.Decoding.{WantsMemory}
use Rattle.usb_set.specs.Layout.{Layout}
use Rattle.usb_file_data.specs.Front.{IsPartStart}
use Rattle.usb_file_data.specs.declared.fault.FileWhy.{FileWhy}
use Rattle.usb_file_data.specs.declared.fault.FileWhy.TheVariants as files
use Rattle.usb_file_data.specs.declared.file.Input.{Input}
use Rattle.usb_file_data.specs.declared.file.Input.TheVariants as inputs
use Rattle.usb_file_data.specs.declared.fault.InputFault.{InputFault}
use Rattle.usb_file_data.specs.declared.fault.InputFault.TheVariants as faults
use Rattle.usb_file_data.specs.FileFaults.{FileFaulty}

-- What a dump is: what Linux gives of a device as its file `descriptors`.

-- The bytes are a dump: the device descriptor and as many configuration sets as its bNumConfigurations says
-- (9.6.1 and 9.6.3) are all of it. An index is named, or the bytes would be a file; there is no string of it.
pub record Dump (f : DescriptorFile) (b : List ℕ) : Type 0 where
  pub bytes : b ≡ device_bytes f.device ++ sets_bytes f.sets
  pub fits : AreBytes b
  pub counts : length f.sets ≡ f.device.configurations
  pub kinds : list_any (is_other_kind kinds.Configuration) f.sets ≡ false
  pub layouts : list_any has_no_layout f.sets ≡ false
  pub named : 0 < length (named_indices f)
  pub no_other : f.other ≡ None
  pub no_strings : f.strings ≡ None

-- the bytes are no dump
abbrev pub IsNoDump : List ℕ → Type 0
IsNoDump b = (f : DescriptorFile) → Dump f b → ⊥

-- the bytes are a set, a file or a dump
abbrev pub IsInput : Input → List ℕ → Type 0
IsInput (inputs.Set set) b = Layout set b
IsInput (inputs.File file) b = File file b
IsInput (inputs.Dump file) b = Dump file b

-- Whether bytes are read as one set: the second one is the type of a configuration descriptor or of an
-- other-speed one (USB 2.0, table 9-5).
abbrev pub is_one_set : List ℕ → Bool
is_one_set [] = false
is_one_set (len ∷ []) = false
is_one_set (len ∷ kind ∷ rest) = is_set_type kind

-- The fault of a set that is these bytes: the one that they show, or that they end too early.
abbrev pub HasFault : List ℕ → SetFault → Type 0
HasFault b fault =
    Faulty b fault.at fault.why ⊎ ((fault ≡ record { at = length b; why = Truncated }) × IsOpen b)

-- the bytes go on after the layout of a set that ends at this place
pub record GoesOn (b : List ℕ) (at : ℕ) : Type 0 where
  pub set : Configuration
  pub layout : Layout set (take at b)
  pub more : at < length b

-- The bytes show this fault: that of a set or bytes after it, where they are read as one. Else it is the fault
-- of a file, where they are no dump.
abbrev pub InputFaulty : List ℕ → InputFault → Type 0
InputFaulty b (faults.Set fault) = (is_one_set b ≡ true) × HasFault b fault
InputFaulty b (faults.Trailing at) = (is_one_set b ≡ true) × GoesOn b at
InputFaulty b (faults.File fault) = (is_one_set b ≡ false) × FileFaulty b fault.at fault.why × IsNoDump b

-- *out of memory* is reported where a part starts, and else the fault of a file, where the bytes are no dump
abbrev pub DeviceRefused : List ℕ → ℕ → FileWhy → Type 0
DeviceRefused b at files.Memory = IsPartStart b at
DeviceRefused b at why = FileFaulty b at why × IsNoDump b

-- why an input is not read: the fault that its bytes show, or out of memory
abbrev pub InputRefused : List ℕ → InputFault → Type 0
InputRefused b (faults.Set fault) = (is_one_set b ≡ true) × (HasFault b fault ⊎ WantsMemory [] b fault)
InputRefused b (faults.Trailing at) = (is_one_set b ≡ true) × GoesOn b at
InputRefused b (faults.File fault) = (is_one_set b ≡ false) × DeviceRefused b fault.at fault.why

-- What bytes are as an input.

-- the bytes are a set, a file or a dump, or they show a fault
pub data InputOrFault (b : List ℕ) : Type 0 where
  is_input : (input : Input) → IsInput input b → InputOrFault b
  is_refused : (fault : InputFault) → InputFaulty b fault → InputOrFault b
