-- What all options of `enumerate` come to.
use Rattle.std.specs.Prelude.{◌≡◌, ◌⊎◌, Option, Some}
use Rattle.usb_host.specs.Terms.{everything}
use Rattle.usb_host.specs.declared.choice.Choice.{Choice}
use Rattle.usb_tool.specs.Choosing.{IsChosen, RefusesChoosing}
use Rattle.usb_tool.specs.Damages.{RefusesSaid, damage_said}
use Rattle.usb_tool.specs.Settings.{IsSettledUnless, RefusesUnless, flag_alone}
use Rattle.usb_command_line.specs.declared.enumerating.Enumerating.{Enumerating}
use Rattle.usb_tool.specs.declared.enumerate_options.EnumerationSettings.{EnumerationSettings}
use Rattle.usb_tool.specs.declared.settings.EnumerateFlags.{EnumerateFlags}
use Rattle.usb_command_line.specs.declared.options.Options.{Options}
use Rattle.usb_tool.specs.declared.settings.Settings.{Settings}
use Rattle.usb_tool.specs.declared.settings.SettingsFault.{SettingsFault}

-- the flags that are given, with what the host asks for
abbrev pub flags_of : Enumerating → Choice → EnumerateFlags
flags_of e choice = record { log = e.log; brief = e.brief; packets = e.packets; with_strings = e.with_strings; choice = choice }

-- the fault of one of them
abbrev pub alone : Enumerating → Option SettingsFault
alone e = flag_alone (flags_of e everything)

-- the settings are those that the options come to
pub record IsEnumerationSettled (o : Options) (e : Enumerating) (s : EnumerationSettings) : Type 0 where
  pub chosen : IsChosen e s.flags.choice
  pub flags : s.flags ≡ flags_of e s.flags.choice
  pub settled : IsSettledUnless (alone e) o s.settings
  pub changes : damage_said e.damage ≡ Some s.changes.items

-- the options choose what is asked for, and the others with the flags come to settings
abbrev pub Chooses : Enumerating → Type 0
Chooses e = (choice : Choice) × IsChosen e choice

abbrev pub Settle : Enumerating → Options → Type 0
Settle e o = (s : Settings) × IsSettledUnless (alone e) o s

-- why options are refused: the first of the choice, of these with the flags, and of damage that is at fault
abbrev pub RefusesEnumerating : Options → Enumerating → SettingsFault → Type 0
RefusesEnumerating o e fault =
    RefusesChoosing e fault
    ⊎ ((Chooses e × RefusesUnless (alone e) o fault)
    ⊎ (Chooses e × Settle e o × RefusesSaid (damage_said e.damage) fault))
