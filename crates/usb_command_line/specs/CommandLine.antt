-- What the words of a command line ask for.
use Rattle.std.specs.Prelude.{◌≡◌, ◌||◌, is_some, ℕ, List, [], ◌∷◌, ◌++◌, Bool, true, false, Option, Some, None, IfSome, codes, fold, map, option_map, pos, String, string_bytes}
use Rattle.std.specs.Str.{bytes_eq}
use Rattle.std.specs.Borrow.{Bor}
use Rattle.std.specs.Global.{Global}
use Rattle.clap.specs.Words.{App, Row, Rule, Text, first_of, new_app, new_rule, with_rule, with_subcommand}
use Rattle.clap.specs.declared.builder.action.ArgAction.TheVariants as actions
use Rattle.clap.specs.declared.builder.value_parser.ValueParser.TheVariants as parsers
use Rattle.usb_command_line.specs.declared.building.Building.{Building}
use Rattle.usb_command_line.specs.declared.capturing.Capturing.{Capturing}
use Rattle.usb_command_line.specs.declared.checking.Checking.{Checking}
use Rattle.usb_command_line.specs.declared.enumerating.Enumerating.{Enumerating}
use Rattle.usb_command_line.specs.declared.explaining.Explaining.{Explaining}
use Rattle.usb_command_line.specs.declared.command_line.Line.{Line}
use Rattle.usb_command_line.specs.declared.command_line.Line.TheVariants as lines
use Rattle.usb_command_line.specs.declared.options.Options.{Options}
use Rattle.usb_command_line.specs.declared.showing.Showing.{Showing}

-- an option of this name, with one value
abbrev pub valued_rule : Text → Rule
valued_rule name = record (new_rule name) { long = Some name }

-- an option with one value, which help calls by what it may be
abbrev pub chosen_rule : Text → Rule
chosen_rule name = record (valued_rule name) { value_names = 1 }

-- an option whose value is a number from `least` to `most`
abbrev pub number_rule : Text → ℕ → ℕ → Rule
number_rule name least most = record (valued_rule name) { parser = Some (parsers.Signed (pos least) (pos most)) }

-- an option of this name without a value
abbrev pub flag_rule : Text → Rule
flag_rule name = record (new_rule name) { long = Some name; action = Some actions.SetTrue }

-- the numbers that an address, NAKs and attempts may be
abbrev pub address_rule : Rule
address_rule = number_rule (codes "address") 1 127

abbrev pub naks_rule : Rule
naks_rule = number_rule (codes "naks") 0 65535

abbrev pub attempts_rule : Rule
attempts_rule = number_rule (codes "attempts") 1 8

-- a command with these options more
abbrev pub with_rules : App → List Rule → App
with_rules a rules = fold with_rule a rules

-- a command of this name with these options
abbrev pub command_with : Text → List Rule → App
command_with name rules = with_rules (new_app name) rules

abbrev pub show_app : App
show_app = command_with (codes "show") (flag_rule (codes "any") ∷ flag_rule (codes "hex") ∷ [])

abbrev pub check_app : App
check_app = command_with (codes "check")
    (flag_rule (codes "any") ∷ flag_rule (codes "hex") ∷ flag_rule (codes "remarks") ∷ chosen_rule (codes "speed") ∷ [])

abbrev pub build_app : App
build_app = command_with (codes "build") (flag_rule (codes "comments") ∷ flag_rule (codes "hex") ∷ [])

abbrev pub explain_app : App
explain_app = command_with (codes "explain")
    (flag_rule (codes "brief") ∷ flag_rule (codes "no-places") ∷ flag_rule (codes "utf8") ∷ flag_rule (codes "hex") ∷ flag_rule (codes "loose") ∷ flag_rule (codes "formats") ∷ chosen_rule (codes "speed") ∷ [])

-- the options of `enumerate`: what the host is, what befalls the packets and whether they are reported, and which strings and sets
-- are wanted
abbrev pub host_rules : List Rule
host_rules = chosen_rule (codes "speed") ∷ address_rule ∷ naks_rule ∷ attempts_rule ∷ []

abbrev pub bus_rules : List Rule
bus_rules = chosen_rule (codes "fates") ∷ chosen_rule (codes "damage") ∷ flag_rule (codes "log") ∷ flag_rule (codes "brief") ∷ flag_rule (codes "packets") ∷ []

abbrev pub string_rules : List Rule
string_rules = flag_rule (codes "with-strings") ∷ chosen_rule (codes "strings") ∷ chosen_rule (codes "other-speed") ∷ []

abbrev pub enumerate_app : App
enumerate_app = command_with (codes "enumerate") (host_rules ++ (bus_rules ++ string_rules))

abbrev pub capture_app : App
capture_app = command_with (codes "capture")
    (flag_rule (codes "data") ∷ flag_rule (codes "brief") ∷ chosen_rule (codes "device") ∷ chosen_rule (codes "from") ∷ chosen_rule (codes "to") ∷ chosen_rule (codes "file") ∷ [])

-- a command that prints its version where it is asked for
abbrev pub versioned : App → App
versioned a = record a { top = record a.top { has_version = true } }

-- a command that is called by the name of one of its subcommands
abbrev pub requiring : App → App
requiring a = record a { top = record a.top { subcommand_required = true } }

-- a command with these subcommands more
abbrev pub with_commands : App → List App → App
with_commands a apps = fold (λ a b. with_subcommand a b.top) a apps

-- those for a descriptor file
abbrev pub file_apps : List App
file_apps = show_app ∷ check_app ∷ build_app ∷ []

-- the command `usbdesc` with its subcommands
abbrev pub usbdesc_app : App
usbdesc_app = with_commands (requiring (versioned (new_app (codes "usbdesc")))) (file_apps ++ (explain_app ∷ enumerate_app ∷ capture_app ∷ []))

-- a subcommand of this name was found
abbrev pub IsNamed : Text → Option (Text × List Row) → Type 0
IsNamed name found = option_map (λ p. p.0) found ≡ Some name

-- the text after a reference, where there is one
abbrev pub text_of : Option (Bor Text) → Option Text
text_of = option_map (λ s. s.now)

-- whether a flag was given: `clap` has the text `true` for it then
abbrev pub is_given : Option Text → Bool
is_given None = false
is_given (Some text) = bytes_eq text (codes "true")

-- whether the flag of this name was given
abbrev pub gives : Text → List Row → Bool
gives flag rows = is_given (first_of flag rows)

-- the flags are those that were found, and so is the text of the speed
pub record HasFlags (o : Explaining) (rows : List Row) : Type 0 where
  pub brief : o.brief ≡ gives (codes "brief") rows
  pub no_places : o.no_places ≡ gives (codes "no-places") rows
  pub utf8 : o.utf8 ≡ gives (codes "utf8") rows
  pub hex : o.hex ≡ gives (codes "hex") rows
  pub loose : o.loose ≡ gives (codes "loose") rows
  pub formats : o.formats ≡ gives (codes "formats") rows
  pub speed : text_of o.speed ≡ first_of (codes "speed") rows

-- the flags of `capture` are those that were found, and so are the texts of its options
pub record HasCapturing (o : Capturing) (rows : List Row) : Type 0 where
  pub bytes : o.data ≡ gives (codes "data") rows
  pub brief : o.brief ≡ gives (codes "brief") rows
  pub device : text_of o.device ≡ first_of (codes "device") rows
  pub from : text_of o.from ≡ first_of (codes "from") rows
  pub to : text_of o.to ≡ first_of (codes "to") rows
  pub file : text_of o.file ≡ first_of (codes "file") rows

-- the flags of `check` are those that were found, and so is the text of its speed
pub record IsChecking (o : Checking) (rows : List Row) : Type 0 where
  pub any : o.any ≡ gives (codes "any") rows
  pub hex : o.hex ≡ gives (codes "hex") rows
  pub remarks : o.remarks ≡ gives (codes "remarks") rows
  pub speed : text_of o.speed ≡ first_of (codes "speed") rows

-- the flags of `show` and of `build` are those that were found
pub record IsShowing (o : Showing) (rows : List Row) : Type 0 where
  pub any : o.any ≡ gives (codes "any") rows
  pub hex : o.hex ≡ gives (codes "hex") rows

pub record IsBuilding (o : Building) (rows : List Row) : Type 0 where
  pub comments : o.comments ≡ gives (codes "comments") rows
  pub hex : o.hex ≡ gives (codes "hex") rows

-- the text of each option is the one that was found for it
pub record HasTexts (o : Options) (rows : List Row) : Type 0 where
  pub speed : text_of o.speed ≡ first_of (codes "speed") rows
  pub address : text_of o.address ≡ first_of (codes "address") rows
  pub naks : text_of o.naks ≡ first_of (codes "naks") rows
  pub attempts : text_of o.attempts ≡ first_of (codes "attempts") rows
  pub fates : text_of o.fates ≡ first_of (codes "fates") rows

-- the options of `enumerate` beside the texts are those that were found
pub record IsEnumerating (o : Enumerating) (rows : List Row) : Type 0 where
  pub log : o.log ≡ gives (codes "log") rows
  pub brief : o.brief ≡ gives (codes "brief") rows
  pub packets : o.packets ≡ gives (codes "packets") rows
  pub with_strings : o.with_strings ≡ gives (codes "with-strings") rows
  pub damage : text_of o.damage ≡ first_of (codes "damage") rows
  pub strings : text_of o.strings ≡ first_of (codes "strings") rows
  pub other_speed : text_of o.other_speed ≡ first_of (codes "other-speed") rows

-- one of them was given
abbrev pub asks_more : Enumerating → Bool
asks_more o =
    o.log || o.brief || o.packets || o.with_strings || is_some o.damage || is_some o.strings
    || is_some o.other_speed

-- no option was given
abbrev pub no_building : Building
no_building = record { comments = false; hex = false }

abbrev pub no_showing : Showing
no_showing = record { any = false; hex = false }

abbrev pub no_checking : Checking
no_checking = record { any = false; hex = false; remarks = false; speed = None }

abbrev pub no_enumerating : Enumerating
no_enumerating = record { log = false; brief = false; packets = false; with_strings = false; damage = None; strings = None; other_speed = None }

-- the subcommand of this name was found, and this holds of what was found for its options
abbrev pub Finds : Text → (List Row → Type 0) → Option (Text × List Row) → Type 0
Finds name has found = IsNamed name found × IfSome found (λ p. has p.1)

-- the line is what the subcommand that was found asks for
abbrev pub Asks : Line → Option (Text × List Row) → Type 0
Asks lines.Show = Finds (codes "show") (IsShowing no_showing)
Asks lines.Check = Finds (codes "check") (IsChecking no_checking)
Asks lines.Build = Finds (codes "build") (IsBuilding no_building)
Asks (lines.Enumerate o) = Finds (codes "enumerate") (λ rows. HasTexts o rows × IsEnumerating no_enumerating rows)
Asks (lines.ShowWith o) = Finds (codes "show") (λ rows. IsShowing o rows × ((o.any || o.hex) ≡ true))
Asks (lines.CheckWith o) = Finds (codes "check") (λ rows. IsChecking o rows × ((o.any || o.hex || o.remarks || is_some o.speed) ≡ true))
Asks (lines.BuildWith o) = Finds (codes "build") (λ rows. IsBuilding o rows × ((o.comments || o.hex) ≡ true))
Asks (lines.EnumerateWith o others) = Finds (codes "enumerate") (λ rows. HasTexts o rows × IsEnumerating others rows × (asks_more others ≡ true))
Asks (lines.Explain o) = Finds (codes "explain") (HasFlags o)
Asks (lines.Capture o) = Finds (codes "capture") (HasCapturing o)

-- the words as clap sees them
abbrev pub word_texts : List (String Global) → List Text
word_texts = map (λ s. string_bytes s)
