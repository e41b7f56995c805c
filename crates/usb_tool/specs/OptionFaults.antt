-- Numbers, messages and lines of the faults.
use Rattle.std.specs.Prelude.{ℕ, List, codes}
use Rattle.usb_fields.specs.Numbers.{number_in}
use Rattle.usb_tool.specs.declared.settings.FatesFault.{FatesFault}
use Rattle.usb_tool.specs.contracts.settings.FatesFault.{the_type as fates_faults}
use Rattle.usb_tool.specs.declared.settings.FatesFault.TheVariants as letters
use Rattle.usb_tool.specs.declared.settings.SettingsFault.{SettingsFault}
use Rattle.usb_tool.specs.declared.settings.SettingsFault.TheVariants as faults

-- the number of a fault of letters
abbrev pub fates_fault_number : FatesFault → ℕ
fates_fault_number fault = number_in fates_faults fault

-- its message, for people
abbrev pub fates_fault_message : FatesFault → List ℕ
fates_fault_message letters.Letter = codes "a letter that names no fate"
fates_fault_message letters.Memory = codes "out of memory"

-- the number of a fault of options; 6 is the number of none
abbrev pub settings_fault_number : SettingsFault → ℕ
settings_fault_number faults.Number = 1
settings_fault_number faults.Speed = 2
settings_fault_number faults.Fates = 3
settings_fault_number faults.Memory = 4
settings_fault_number faults.SpeedAlone = 5
settings_fault_number faults.BriefAlone = 7
settings_fault_number faults.Damages = 8
settings_fault_number faults.PacketsAlone = 9
settings_fault_number faults.Strings = 10
settings_fault_number faults.OtherSpeed = 11
settings_fault_number faults.FileBeside = 12
settings_fault_number faults.BriefBeside = 13
settings_fault_number faults.Device = 14
settings_fault_number faults.Time = 15

-- its line on standard error, without its line feed
abbrev pub settings_line : SettingsFault → List ℕ
settings_line faults.Number = codes "usbdesc: bad number"
settings_line faults.Speed = codes "usbdesc: bad speed"
settings_line faults.Fates = codes "usbdesc: bad fates"
settings_line faults.Memory = codes "usbdesc: out of memory"
settings_line faults.SpeedAlone = codes "usbdesc: --speed without --remarks"
settings_line faults.BriefAlone = codes "usbdesc: --brief without --log"
settings_line faults.Damages = codes "usbdesc: bad damages"
settings_line faults.PacketsAlone = codes "usbdesc: --packets without --log"
settings_line faults.Strings = codes "usbdesc: bad strings"
settings_line faults.OtherSpeed = codes "usbdesc: bad other speed"
settings_line faults.FileBeside = codes "usbdesc: --file beside other options"
settings_line faults.BriefBeside = codes "usbdesc: --brief beside --data, --from or --to"
settings_line faults.Device = codes "usbdesc: bad device"
settings_line faults.Time = codes "usbdesc: bad time"

-- what it means, for people
abbrev pub settings_meaning : SettingsFault → List ℕ
settings_meaning faults.Number = codes "a number that is none or out of its range"
settings_meaning faults.Speed = codes "a speed is low, full or high, of explain also super"
settings_meaning faults.Fates = codes "a letter that names no fate: they are . n d u a"
settings_meaning faults.Memory = codes "there was not enough memory"
settings_meaning faults.SpeedAlone = codes "a speed is for remarks: check --remarks --speed full"
settings_meaning faults.BriefAlone = codes "a log is brief: enumerate --log --brief"
settings_meaning faults.Damages = codes "damage is TRANSACTION:PACKET:BIT,..;.. with packets 1 to 3"
settings_meaning faults.PacketsAlone = codes "a log shows packets: enumerate --log --packets"
settings_meaning faults.Strings = codes "strings are needed, wanted or skipped"
settings_meaning faults.OtherSpeed = codes "the other speed is asked for or not: yes or no"
settings_meaning faults.FileBeside = codes "--file is for a file alone: capture --file 1.5"
settings_meaning faults.BriefBeside = codes "--brief leaves out the lines that --data, --from and --to are for"
settings_meaning faults.Device = codes "a device is its bus and its address: 1.5"
settings_meaning faults.Time = codes "a time is in seconds, with at most nine digits after the point"

-- the exit status: 2 as for a line that is no command, and 3 where it is out of memory
abbrev pub settings_status : SettingsFault → ℕ
settings_status faults.Memory = 3
settings_status _ = 2
