-- Descriptors that a device serves and a host reads.
use Rattle.std.specs.Prelude.{◌≡◌, ℕ, ◌<◌, List, [], ◌∷◌, Option, Some, None}
use Rattle.usb_fields.specs.declared.packet.Speed.{Speed}
use Rattle.usb_fields.specs.Device.{qualifier_bytes}
use Rattle.usb_fields.specs.Units.{units_bytes}
use Rattle.usb_set.specs.declared.tree.Configuration.{Configuration}
use Rattle.usb_file_data.specs.declared.file.DescriptorFile.{DescriptorFile}
use Rattle.usb_file_data.specs.declared.file.Other.{Other}
use Rattle.usb_file_data.specs.declared.file.Strings.{Strings}
use Rattle.usb_file_data.specs.File.{whole_set}
use Rattle.usb_device.specs.Accepted.{Accepted}
use Rattle.usb_host.specs.Read.{qualifier_of, units_of}
use Rattle.usb_host.specs.Order.{first_value, other_declared}

-- each string is read back
abbrev pub TextsAreRead : List (List ℕ) → Type 0
TextsAreRead [] = Unit {0}
TextsAreRead (t ∷ ts) = (units_of (units_bytes t) ≡ Some t) × TextsAreRead ts

-- and so are the language list and the strings
abbrev pub StringsAreRead : Option Strings → Type 0
StringsAreRead None = Unit {0}
StringsAreRead (Some s) = (units_of (units_bytes s.languages) ≡ Some s.languages) × TextsAreRead s.texts

module _ (set_of : List ℕ → Option Configuration) where
  -- each set is read back
  abbrev pub EachIsRead : List Configuration → Type 0
  EachIsRead [] = Unit {0}
  EachIsRead (c ∷ cs) = (set_of (whole_set c) ≡ Some c) × EachIsRead cs

  -- and so are the qualifier and the sets of the other speed
  abbrev pub OtherIsRead : Option Other → Type 0
  OtherIsRead None = Unit {0}
  OtherIsRead (Some o) = (qualifier_of (qualifier_bytes o.qualifier) ≡ Some o.qualifier) × EachIsRead o.sets

  -- Descriptors that are accepted, whose counts and values are bytes, and whose parts are read back.
  pub record IsDescribed (speed : Speed) (f : DescriptorFile) : Type 0 where
    pub accepted : Accepted f speed
    pub few : f.device.configurations < 256
    pub other_few : other_declared f.other < 256
    pub value_fits : first_value f.sets < 256
    pub sets : EachIsRead f.sets
    pub other : OtherIsRead f.other
    pub strings : StringsAreRead f.strings
