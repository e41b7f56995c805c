-- Why bytes and texts are not taken, with what is no fault of theirs: out of memory.
use Rattle.std.specs.Prelude.{◌≡◌, ℕ, List, Bool, true, false}
use Rattle.usb_file_data.specs.FileFaults.{ReadRefused}
use Rattle.usb_file_data.specs.Inputs.{InputRefused, is_one_set}
use Rattle.usb_file_data.specs.declared.fault.InputFault.{InputFault}
use Rattle.usb_file_data.specs.declared.fault.InputFault.TheVariants as faults
use Rattle.usb_listing.specs.Comments.{CommentedRefused}
use Rattle.usb_listing.specs.Listings.{ListRefused}
use Rattle.usb_listing.specs.declared.fault.ListWhy.{ListWhy}

-- by `show`
abbrev pub ShowRefused : Bool → List ℕ → InputFault → Type 0
ShowRefused true b fault = InputRefused b fault
ShowRefused false b (faults.File fault) = (is_one_set b ≡ false) × ReadRefused b fault.at fault.why
ShowRefused false b fault = InputRefused b fault

-- by `check`
abbrev pub CheckRefused : Bool → List ℕ → InputFault → Type 0
CheckRefused true b fault = InputRefused b fault
CheckRefused false b (faults.File fault) = ReadRefused b fault.at fault.why
CheckRefused false b fault = ⊥

-- by `build`
abbrev pub BuildRefused : Bool → List ℕ → ℕ → ListWhy → Type 0
BuildRefused true text line why = CommentedRefused text line why
BuildRefused false text line why = ListRefused text line why
