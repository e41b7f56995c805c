-- What an enumeration asks for, and what its report is then.
use Rattle.std.specs.Prelude.{◌≡◌, ℕ, Bool, true, false, List, None}
use Rattle.usb_fields.specs.Bytes.{AreBytes}
use Rattle.usb_fields.specs.declared.packet.Speed.{Speed}
use Rattle.usb_file_data.specs.declared.file.DescriptorFile.{DescriptorFile}
use Rattle.usb_file_data.specs.File.{File, file_bytes}
use Rattle.usb_file_data.specs.Front.{IsFront, AllSets}
use Rattle.usb_host.specs.declared.choice.NamedStrings.{NamedStrings}
use Rattle.usb_host.specs.declared.choice.NamedStrings.TheVariants.{Needed, Wanted, Skipped}
use Rattle.usb_host.specs.declared.choice.Choice.{Choice}
use Rattle.usb_host.specs.declared.choice.Terms.{Terms}

-- all that a file has, and each string must be there
abbrev pub everything : Choice
everything = record { strings = Needed; other_speed = true }

-- that, at this speed
abbrev pub all_of : Speed → Terms
all_of speed = record { speed = speed; choice = everything }

-- whether the strings that are named are asked for
abbrev pub is_asked : NamedStrings → Bool
is_asked Needed = true
is_asked Wanted = true
is_asked Skipped = false

-- whether a string may be missing
abbrev pub forgives_any : NamedStrings → Bool
forgives_any Needed = false
forgives_any Wanted = true
forgives_any Skipped = false

-- A report without the strings that it names, which were not asked for: all else of a file is there, and these are its bytes.
pub record IsUnread (f : DescriptorFile) (b : List ℕ) : Type 0 where
  pub is_front : IsFront f
  pub all : AllSets f f.other
  pub no_strings : f.strings ≡ None
  pub bytes : b ≡ file_bytes f
  pub fits : AreBytes b

-- a report, and its bytes
abbrev pub IsReport : NamedStrings → DescriptorFile → List ℕ → Type 0
IsReport Needed f b = File f b
IsReport Wanted f b = File f b
IsReport Skipped f b = IsUnread f b
