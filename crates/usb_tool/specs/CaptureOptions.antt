-- What the options of `capture` say.
use Rattle.std.specs.Prelude.{◌≡◌, ◌⊎◌, ◌&&◌, ◌||◌, ◌==◌, ◌+◌, ◌-◌, ◌*◌, ◌^◌, ℕ, Bool, true, false, List, length, nat_lt, slice_index, Option, Some, None, IsSome, is_some, if◌then◌else◌, option_map, option_and_then}
use Rattle.std.specs.Borrow.{Bor}
use Rattle.std.specs.List.{after_first, before_first, position_or_len}
use Rattle.usb_capture_lines.specs.declared.selection.DeviceAddress.{DeviceAddress}
use Rattle.usb_capture_lines.specs.declared.selection.Selection.{Selection}
use Rattle.usb_tool.specs.OptionValues.{number_of}
use Rattle.usb_tool.specs.declared.capture_options.CaptureCommand.{CaptureCommand}
use Rattle.usb_tool.specs.declared.capture_options.CaptureCommand.TheVariants.{Lines, File}
use Rattle.usb_command_line.specs.declared.capturing.Capturing.{Capturing}
use Rattle.usb_tool.specs.declared.settings.SettingsFault.{SettingsFault}
use Rattle.usb_tool.specs.declared.settings.SettingsFault.TheVariants as faults

-- a point is 46 in ASCII
abbrev pub is_point : ℕ → Bool
is_point byte = byte == 46

-- the text before the first point and the one after it, if there is one
abbrev pub around_point : List ℕ → Option (List ℕ × List ℕ)
around_point text = if nat_lt (position_or_len is_point text) (length text) then Some (before_first is_point text, after_first is_point text) else None

-- a number of a bus or an address, maybe with zeros before it, as lsusb writes them: a plus, which is 43, is none
abbrev pub device_number : List ℕ → Option ℕ
device_number text = if slice_index text 0 == 43 then None else number_of 16 text

-- a device: the number of its bus, a point, and its address
abbrev pub device_of : List ℕ → Option DeviceAddress
device_of text =
    option_and_then (λ (p : List ℕ × List ℕ). option_and_then (λ bus. option_map (λ device. record { bus = bus; device = device }) (device_number p.1)) (device_number p.0)) (around_point text)

-- nanoseconds of a whole number of seconds, and of at most nine digits after a point: a plus, which is 43, is none
abbrev pub whole_time : List ℕ → Option ℕ
whole_time text = option_map (λ n. n * 1000000000) (number_of 32 text)

abbrev pub fraction_of : List ℕ → Option ℕ
fraction_of text =
    if nat_lt 9 (length text) || slice_index text 0 == 43 then None
    else option_map (λ n. n * 10 ^ (9 - length text)) (number_of 32 text)

abbrev pub time_by : List ℕ → Option (List ℕ × List ℕ) → Option ℕ
time_by text None = whole_time text
time_by text (Some p) = option_and_then (λ whole. option_map (λ part. whole + part) (fraction_of p.1)) (whole_time p.0)

-- a number of seconds, in nanoseconds
abbrev pub time_of : List ℕ → Option ℕ
time_of text = time_by text (around_point text)

-- what an option says: nothing where it is absent, and no answer where its text says nothing
abbrev pub device_said : Option (Bor (List ℕ)) → Option (Option DeviceAddress)
device_said None = Some None
device_said (Some text) = option_map (λ device. Some device) (device_of text.now)

abbrev pub time_said : Option (Bor (List ℕ)) → Option (Option ℕ)
time_said None = Some None
time_said (Some text) = option_map (λ time. Some time) (time_of text.now)

-- options for lines of transfers, and for lines
abbrev pub asks_transfers : Capturing → Bool
asks_transfers o = o.data || is_some o.from || is_some o.to

abbrev pub asks_lines : Capturing → Bool
asks_lines o = o.brief || is_some o.device || asks_transfers o

-- the lines are those that the options say
pub record IsSelected (o : Capturing) (s : Selection) : Type 0 where
  pub together : (o.brief && asks_transfers o) ≡ false
  pub brief : s.brief ≡ o.brief
  pub bytes : s.data ≡ o.data
  pub device : device_said o.device ≡ Some s.device
  pub from : time_said o.from ≡ Some s.from
  pub to : time_said o.to ≡ Some s.to

-- why options for lines are refused
abbrev pub RefusesSelecting : Capturing → SettingsFault → Type 0
RefusesSelecting o faults.BriefBeside = (o.brief && asks_transfers o) ≡ true
RefusesSelecting o faults.Device = ((o.brief && asks_transfers o) ≡ false) × (device_said o.device ≡ None)
RefusesSelecting o faults.Time = ((o.brief && asks_transfers o) ≡ false) × IsSome (device_said o.device) × ((time_said o.from ≡ None) ⊎ (time_said o.to ≡ None))
RefusesSelecting o fault = ⊥

-- what the options ask for where this text names the device of a file, and where there is none
abbrev pub IsFileCommand : Capturing → List ℕ → CaptureCommand → Type 0
IsFileCommand o text (Lines s) = ⊥
IsFileCommand o text (File device) = (asks_lines o ≡ false) × (device_of text ≡ Some device)

abbrev pub IsLinesCommand : Capturing → CaptureCommand → Type 0
IsLinesCommand o (Lines s) = IsSelected o s
IsLinesCommand o (File device) = ⊥

-- why it is refused
abbrev pub RefusesFile : Capturing → List ℕ → SettingsFault → Type 0
RefusesFile o text faults.FileBeside = asks_lines o ≡ true
RefusesFile o text faults.Device = (asks_lines o ≡ false) × (device_of text ≡ None)
RefusesFile o text fault = ⊥

-- what the options ask for, by the text after the option for a file
abbrev pub IsCommandBy : Capturing → Option (Bor (List ℕ)) → CaptureCommand → Type 0
IsCommandBy o None = IsLinesCommand o
IsCommandBy o (Some text) = IsFileCommand o text.now

abbrev pub RefusesBy : Capturing → Option (Bor (List ℕ)) → SettingsFault → Type 0
RefusesBy o None = RefusesSelecting o
RefusesBy o (Some text) = RefusesFile o text.now

abbrev pub IsCaptureCommand : Capturing → CaptureCommand → Type 0
IsCaptureCommand o = IsCommandBy o o.file

abbrev pub RefusesCapturing : Capturing → SettingsFault → Type 0
RefusesCapturing o = RefusesBy o o.file
