-- What the values of `--strings` and `--other-speed` choose.
use Rattle.std.specs.Prelude.{◌≡◌, Bool, true, false, List, ℕ, IsSome, Option, Some, None, if◌then◌else◌, codes}
use Rattle.std.specs.Borrow.{Bor}
use Rattle.std.specs.Str.{bytes_eq}
use Rattle.usb_host.specs.declared.choice.Choice.{Choice}
use Rattle.usb_host.specs.declared.choice.NamedStrings.{NamedStrings}
use Rattle.usb_host.specs.declared.choice.NamedStrings.TheVariants.{Needed, Wanted, Skipped}
use Rattle.usb_command_line.specs.declared.enumerating.Enumerating.{Enumerating}
use Rattle.usb_tool.specs.declared.settings.SettingsFault.{SettingsFault}
use Rattle.usb_tool.specs.declared.settings.SettingsFault.TheVariants as faults

-- what becomes of the strings, by a name
abbrev pub strings_of : List ℕ → Option NamedStrings
strings_of name =
    if bytes_eq name (codes "needed") then Some Needed
    else if bytes_eq name (codes "wanted") then Some Wanted
    else if bytes_eq name (codes "skipped") then Some Skipped
    else None

-- each is needed where nothing is said
abbrev pub strings_said : Option (Bor (List ℕ)) → Option NamedStrings
strings_said None = Some Needed
strings_said (Some name) = strings_of name.now

-- whether the other speed is asked for, by a name
abbrev pub other_speed_of : List ℕ → Option Bool
other_speed_of name =
    if bytes_eq name (codes "yes") then Some true
    else if bytes_eq name (codes "no") then Some false
    else None

-- it is where nothing is said
abbrev pub other_speed_said : Option (Bor (List ℕ)) → Option Bool
other_speed_said None = Some true
other_speed_said (Some name) = other_speed_of name.now

-- the choice is what the options say
pub record IsChosen (o : Enumerating) (choice : Choice) : Type 0 where
  pub strings : strings_said o.strings ≡ Some choice.strings
  pub other_speed : other_speed_said o.other_speed ≡ Some choice.other_speed

-- why the options are refused: the first of the two that says nothing
abbrev pub RefusesChoosing : Enumerating → SettingsFault → Type 0
RefusesChoosing o faults.Strings = strings_said o.strings ≡ None
RefusesChoosing o faults.OtherSpeed = IsSome (strings_said o.strings) × (other_speed_said o.other_speed ≡ None)
RefusesChoosing o fault = ⊥
