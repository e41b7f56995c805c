-- What the program does, from its command line to its exit status.
use Rattle.std.specs.Prelude.{◌≡◌, ℕ, ◌⊎◌, Bool, if◌then◌else◌, List, String}
use Rattle.std.specs.Global.{Global}
use Rattle.std.specs.Io.KnownBytes.{Keeps}
use Rattle.clap.specs.Kinds.{IsAmong}
use Rattle.clap.specs.Words.{fault_of, subcommand_of}
use Rattle.clap.specs.declared.error.kind.ErrorKind.{ErrorKind}
use Rattle.clap.specs.declared.error.kind.ErrorKind.TheVariants as kinds
use Rattle.usb_explain.specs.declared.manner.Manner.{Manner}
use Rattle.usb_text.specs.Output.{AppendsFront, Held}
use Rattle.usb_tool.specs.Builds.{BuildFails, Built}
use Rattle.usb_tool.specs.CaptureOptions.{IsCaptureCommand, RefusesCapturing}
use Rattle.usb_tool.specs.Captures.{CaptureDone, CaptureFails}
use Rattle.usb_command_line.specs.CommandLine.{Asks, no_building, no_checking, no_enumerating, no_showing, usbdesc_app, word_texts}
use Rattle.usb_tool.specs.Endings.{Failure, Left, Work}
use Rattle.usb_tool.specs.Enumerating.{IsEnumerationSettled, RefusesEnumerating}
use Rattle.usb_tool.specs.Enumerations.{Conditions, EnumerateFails, EnumeratedTo, conditions_by}
use Rattle.usb_tool.specs.Explains.{ExplainFails, Explained}
use Rattle.usb_tool.specs.Manners.{HasBadSpeed, IsManner}
use Rattle.usb_tool.specs.Outcomes.{Reports, enumerate_hint, outcome_status}
use Rattle.usb_tool.specs.WorkOptions.{IsCheckingTask, RefusesChecking, showing_task}
use Rattle.usb_tool.specs.Works.{WorkFails, Worked}
use Rattle.usb_tool.specs.declared.audience.Audience.{Audience}
use Rattle.usb_command_line.specs.declared.building.Building.{Building}
use Rattle.usb_tool.specs.declared.capture_options.CaptureCommand.{CaptureCommand}
use Rattle.usb_command_line.specs.declared.capturing.Capturing.{Capturing}
use Rattle.usb_command_line.specs.declared.checking.Checking.{Checking}
use Rattle.usb_command_line.specs.declared.command_line.Line.{Line}
use Rattle.usb_command_line.specs.declared.command_line.Line.TheVariants as lines
use Rattle.usb_command_line.specs.declared.enumerating.Enumerating.{Enumerating}
use Rattle.usb_tool.specs.declared.enumerate_options.EnumerationSettings.{EnumerationSettings}
use Rattle.usb_command_line.specs.declared.explaining.Explaining.{Explaining}
use Rattle.usb_tool.specs.declared.meaning.Hint.{Hint}
use Rattle.usb_tool.specs.declared.meaning.Hint.TheVariants as hints
use Rattle.usb_tool.specs.declared.outcome.Outcome.{Outcome}
use Rattle.usb_tool.specs.declared.outcome.Outcome.TheVariants as outcomes
use Rattle.usb_command_line.specs.declared.options.Options.{Options}
use Rattle.usb_tool.specs.declared.settings.SettingsFault.{SettingsFault}
use Rattle.usb_tool.specs.declared.settings.SettingsFault.TheVariants.{Speed}
use Rattle.usb_command_line.specs.declared.showing.Showing.{Showing}
use Rattle.usb_tool.specs.declared.task.Task.{Task}

-- the exit status of a line that is no command: 0 where it asks for help or the version, else 2
abbrev pub line_status : ErrorKind → ℕ
line_status kinds.DisplayHelp = 0
line_status kinds.DisplayVersion = 0
line_status _ = 2

-- a request for help or the version is answered on standard output, and each other line that is no command on standard
-- error: there a prefix of a text is written, and on the other stream nothing
abbrev pub Answers : ErrorKind → List ℕ → Held → Held → Held → Held → Type 0
Answers kinds.DisplayHelp text held holds errors report = AppendsFront held holds text × Keeps errors report
Answers kinds.DisplayVersion text held holds errors report = AppendsFront held holds text × Keeps errors report
Answers _ text held holds errors report = Keeps held holds × AppendsFront errors report text

-- what a command does with its input and its output, and what it comes to
abbrev pub Course : Type 1
Course = Left → Left → Held → Held → Outcome → Type 0

-- it did its work, or it failed
abbrev pub Ends : Hint → Work → Failure → Course
Ends hint does fails from to held holds (outcomes.Done number) = does from to held holds number
Ends hint does fails from to held holds (outcomes.Failed fault report) = fails from to held holds fault × (report ≡ hint)
Ends hint does fails from to held holds outcome = ⊥

-- options come to settings, and the command ended that they ask for
pub record OptionsAreTaken (S : Type 0) (is : S → Type 0) (ends : S → Course) (from to : Left) (held holds : Held) (outcome : Outcome) : Type 0 where
  pub settings : S
  pub settled : is settings
  pub ended : ends settings from to held holds outcome

-- options were refused; nothing is read, and nothing is written
pub record OptionsAreRefused (refuses : SettingsFault → Type 0) (from to : Left) (held holds : Held) (outcome : Outcome) : Type 0 where
  pub fault : SettingsFault
  pub refused : refuses fault
  pub input : Keeps from to
  pub output : Keeps held holds
  pub is : outcome ≡ outcomes.Refused fault

-- the one or the other
abbrev pub EndsBy : (S : Type 0) → (S → Type 0) → (SettingsFault → Type 0) → (S → Course) → Course
EndsBy S is refuses ends from to held holds outcome =
    OptionsAreTaken S is ends from to held holds outcome ⊎ OptionsAreRefused refuses from to held holds outcome

-- what to try where the input of `show` or `check` is at fault
abbrev pub any_hint : Bool → Hint
any_hint any = if any then hints.Explain else hints.Any

-- how a task of `show` or `check` ends
abbrev pub EndsTask : Bool → Task → Course
EndsTask any task = Ends (any_hint any) (Worked task) (WorkFails task)

abbrev pub EndsShow : Showing → Course
EndsShow o = EndsTask o.any (showing_task o)

abbrev pub EndsCheck : Checking → Course
EndsCheck o = EndsBy Task (IsCheckingTask o) (RefusesChecking o) (EndsTask o.any)

-- what to try where the input of `build` is at fault
abbrev pub build_hint : Bool → Hint
build_hint comments = if comments then hints.Nothing else hints.Comments

abbrev pub EndsBuild : Building → Course
EndsBuild o = Ends (build_hint o.comments) (Built o) (BuildFails o)

-- how `explain` ends: the option that is refused is a speed
abbrev pub EndsExplanation : Explaining → Course
EndsExplanation o =
    EndsBy Manner (IsManner o) (λ fault. (fault ≡ Speed) × HasBadSpeed o)
    (λ m. Ends hints.Nothing (Explained o.loose o.hex m) (ExplainFails o.loose o.hex m))

abbrev pub EndsCapture : Capturing → Course
EndsCapture o =
    EndsBy CaptureCommand (IsCaptureCommand o) (RefusesCapturing o) (λ command. Ends hints.Nothing (CaptureDone command) (CaptureFails command))

-- how an enumeration ends under these conditions
abbrev pub EndsUnder : Conditions → Course
EndsUnder c from to held holds (outcomes.Enumerated end logged) = EnumeratedTo c from to held holds end × (logged ≡ c.flags.log)
EndsUnder c from to held holds (outcomes.Failed fault report) = EnumerateFails c from to held holds fault × (report ≡ enumerate_hint c.flags.with_strings)
EndsUnder c from to held holds outcome = ⊥

abbrev pub EndsEnumeration : Options → Enumerating → Course
EndsEnumeration o e = EndsBy EnumerationSettings (IsEnumerationSettled o e) (RefusesEnumerating o e) (λ s. EndsUnder (conditions_by s))

-- how ends what a line asks for
abbrev pub EndsLine : Line → Course
EndsLine lines.Show = EndsShow no_showing
EndsLine lines.Check = EndsCheck no_checking
EndsLine lines.Build = EndsBuild no_building
EndsLine (lines.Enumerate options) = EndsEnumeration options no_enumerating
EndsLine (lines.ShowWith options) = EndsShow options
EndsLine (lines.CheckWith options) = EndsCheck options
EndsLine (lines.BuildWith options) = EndsBuild options
EndsLine (lines.EnumerateWith options others) = EndsEnumeration options others
EndsLine (lines.Explain options) = EndsExplanation options
EndsLine (lines.Capture options) = EndsCapture options

-- the words are a line, what it asks for was done, and standard error has what is to be said of it
pub record LineIsTaken (audience : Audience) (words : List (String Global)) (from to : Left) (held holds errors report : Held) (status : ℕ) : Type 0 where
  pub line : Line
  pub outcome : Outcome
  pub asked : Asks line (subcommand_of usbdesc_app (word_texts words))
  pub ended : EndsLine line from to held holds outcome
  pub reported : Reports audience outcome errors report
  pub exits : status ≡ outcome_status outcome

-- the words are no command, for one of the reasons that clap has, or memory is wanting; nothing is read, and a text is
-- written, which clap leaves open
pub record LineIsRefused (words : List (String Global)) (from to : Left) (held holds errors report : Held) (status : ℕ) : Type 0 where
  pub kind : ErrorKind
  pub why : (kind ≡ kinds.OutOfMemory) ⊎ IsAmong kind (fault_of usbdesc_app (word_texts words))
  pub input : Keeps from to
  pub text : List ℕ
  pub answered : Answers kind text held holds errors report
  pub ended : status ≡ line_status kind

-- what a run has done, by who reads standard error, and its exit status
abbrev pub Runs : Audience → List (String Global) → Left → Left → Held → Held → Held → Held → ℕ → Type 0
Runs audience words from to held holds errors report status =
    LineIsTaken audience words from to held holds errors report status ⊎ LineIsRefused words from to held holds errors report status
