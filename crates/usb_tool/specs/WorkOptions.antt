-- What the options of `show` and `check` come to.
use Rattle.std.specs.Prelude.{◌≡◌, Bool, true, false, Some, None, IsSome, if◌then◌else◌}
use Rattle.usb_tool.specs.Manners.{running_said}
use Rattle.usb_tool.specs.Works.{task_of, taken_with}
use Rattle.usb_command_line.specs.declared.checking.Checking.{Checking}
use Rattle.usb_tool.specs.declared.settings.SettingsFault.{SettingsFault}
use Rattle.usb_tool.specs.declared.settings.SettingsFault.TheVariants as faults
use Rattle.usb_command_line.specs.declared.showing.Showing.{Showing}
use Rattle.usb_tool.specs.declared.source.Source.{Source}
use Rattle.usb_tool.specs.declared.source.Source.TheVariants.{Bytes, Hexadecimal}
use Rattle.usb_tool.specs.declared.taken.Taken.TheVariants.{File, SetOrFile}
use Rattle.usb_tool.specs.declared.task.Task.{Task}
use Rattle.usb_tool.specs.declared.work.Work.{Work}
use Rattle.usb_tool.specs.declared.work.Work.TheVariants as works

-- with `--hex` the bytes come as hexadecimal text
abbrev pub source_of : Bool → Source
source_of hex = if hex then Hexadecimal else Bytes

-- what `show` does with its input: with `--any` it takes a dump too
abbrev pub showing_task : Showing → Task
showing_task o = task_of (source_of o.hex) (taken_with o.any SetOrFile) works.List

-- what `check` makes of its input: with `--remarks` it remarks too, on a device that ran at the speed that is named, if one is
abbrev pub IsCheckingWork : Checking → Work → Type 0
IsCheckingWork o works.List = ⊥
IsCheckingWork o works.Check = (o.remarks ≡ false) × (o.speed ≡ None)
IsCheckingWork o (works.Remark running) = (o.remarks ≡ true) × (running_said o.speed ≡ Some running)

-- what it does with it: with `--any` it takes a set or a dump too
pub record IsCheckingTask (o : Checking) (t : Task) : Type 0 where
  pub source : t.source ≡ source_of o.hex
  pub taken : t.taken ≡ taken_with o.any File
  pub work : IsCheckingWork o t.work

-- why options are refused: a speed without remarks, or no speed of that name
abbrev pub RefusesChecking : Checking → SettingsFault → Type 0
RefusesChecking o faults.SpeedAlone = (o.remarks ≡ false) × IsSome o.speed
RefusesChecking o faults.Speed = (o.remarks ≡ true) × (running_said o.speed ≡ None)
RefusesChecking o fault = ⊥
