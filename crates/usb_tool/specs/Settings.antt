-- What the options of `enumerate` come to.
use Rattle.std.specs.Prelude.{◌≡◌, ℕ, List, [], IsSome, IsSomeAnd, Option, Some, None, is_some, if◌then◌else◌, option_and_then}
use Rattle.std.specs.Borrow.{Bor}
use Rattle.usb_fields.specs.declared.packet.Speed.{Speed}
use Rattle.usb_fields.specs.declared.packet.Speed.TheVariants.{Full}
use Rattle.usb_bus.specs.declared.fate.Fate.{Fate}
use Rattle.usb_host.specs.Limits.{LimitView, limit_fault}
use Rattle.usb_tool.specs.OptionValues.{RefusesFates, fates_of, number_of, speed_of}
use Rattle.usb_tool.specs.declared.settings.FatesFault.{FatesFault}
use Rattle.usb_tool.specs.declared.settings.FatesFault.TheVariants as letters
use Rattle.usb_tool.specs.declared.settings.EnumerateFlags.{EnumerateFlags}
use Rattle.usb_command_line.specs.declared.options.Options.{Options}
use Rattle.usb_tool.specs.declared.settings.Settings.{Settings}
use Rattle.usb_tool.specs.declared.settings.SettingsFault.{SettingsFault}
use Rattle.usb_tool.specs.declared.settings.SettingsFault.TheVariants as faults

-- the number that an option says, and its default where it is absent
abbrev pub number_said : ℕ → ℕ → Option (Bor (List ℕ)) → Option ℕ
number_said bits absent None = Some absent
number_said bits absent (Some text) = number_of bits text.now

abbrev pub byte_said : ℕ → Option (Bor (List ℕ)) → Option ℕ
byte_said = number_said 8

abbrev pub word_said : ℕ → Option (Bor (List ℕ)) → Option ℕ
word_said = number_said 16

-- the limits with these numbers, where each is in its range
abbrev pub limits_with : ℕ → ℕ → ℕ → Option LimitView
limits_with address naks attempts =
    if is_some (limit_fault address attempts) then None
    else Some (record { address = address; naks = naks; attempts = attempts })

-- the limits that the numbers of the options say: address 1, 16 NAKs and 3 attempts where they are absent
abbrev pub limits_said : Options → Option LimitView
limits_said o =
    option_and_then (λ address. option_and_then (λ naks. option_and_then (λ attempts.
    limits_with address naks attempts) (byte_said 3 o.attempts)) (word_said 16 o.naks)) (byte_said 1 o.address)

-- the speed that is named, and full speed where none is
abbrev pub speed_named : Option (Bor (List ℕ)) → Option Speed
speed_named None = Some Full
speed_named (Some name) = speed_of name.now

abbrev pub speed_said : Options → Option Speed
speed_said o = speed_named o.speed

-- the fates that are named, and none where there is no such option
abbrev pub fates_named : Option (Bor (List ℕ)) → Option (List Fate)
fates_named None = Some []
fates_named (Some text) = fates_of text.now

abbrev pub fates_said : Options → Option (List Fate)
fates_said o = fates_named o.fates

-- the settings are those that the options come to
pub record IsSettled (o : Options) (s : Settings) : Type 0 where
  pub limits : limits_said o ≡ Some s.limits
  pub speed : speed_said o ≡ Some s.speed
  pub fates : fates_said o ≡ Some s.fates.items

-- why options are refused: the first of numbers, speed and fates that is at fault, or out of memory as fates are read
abbrev pub RefusesOptions : Options → SettingsFault → Type 0
RefusesOptions o faults.Number = limits_said o ≡ None
RefusesOptions o faults.Speed = IsSome (limits_said o) × (speed_said o ≡ None)
RefusesOptions o faults.Fates = IsSome (limits_said o) × (IsSome (speed_said o) × IsSomeAnd o.fates (λ text. RefusesFates text.now letters.Letter))
RefusesOptions o faults.Memory = IsSome (limits_said o) × (IsSome (speed_said o) × IsSomeAnd o.fates (λ text. RefusesFates text.now letters.Memory))
RefusesOptions o fault = ⊥

-- the fault of a flag that is for a log where none is asked for: lines of data are left out, or else packets are shown
abbrev pub flag_alone : EnumerateFlags → Option SettingsFault
flag_alone flags =
    if flags.log then None
    else if flags.brief then Some faults.BriefAlone
    else if flags.packets then Some faults.PacketsAlone
    else None

-- there are no settings then, and else those that the options come to
abbrev pub IsSettledUnless : Option SettingsFault → Options → Settings → Type 0
IsSettledUnless (Some alone) o s = ⊥
IsSettledUnless None o s = IsSettled o s

-- why options and flags are refused: for that, and else by the options
abbrev pub RefusesUnless : Option SettingsFault → Options → SettingsFault → Type 0
RefusesUnless (Some alone) o fault = fault ≡ alone
RefusesUnless None o fault = RefusesOptions o fault

-- a fault of the fates is one of the settings
abbrev pub settings_fault_of : FatesFault → SettingsFault
settings_fault_of letters.Letter = faults.Fates
settings_fault_of letters.Memory = faults.Memory
