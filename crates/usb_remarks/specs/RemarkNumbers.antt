-- The number of a remark, by which a line names it.
use Rattle.std.specs.Prelude.{ℕ}
use Rattle.usb_remarks.specs.declared.remark.Remark.{Remark}
use Rattle.usb_remarks.specs.declared.remark.Remark.TheVariants as remarks

-- from 1, in the order of their table
abbrev pub remark_number : Remark → ℕ
remark_number (remarks.Interval transfer speed range found) = 1
remark_number (remarks.Packet transfer speed sizes found) = 2
remark_number remarks.ReservedMultiple = 3
remark_number remarks.PacketBits = 4
remark_number remarks.ReservedUsage = 5
remark_number remarks.TypeBits = 6
remark_number remarks.HighBits = 7
remark_number remarks.ReservedClass = 8
remark_number (remarks.TotalLength declared found) = 9
remark_number (remarks.Current needed most) = 10
remark_number (remarks.FirstPacket speed sizes found) = 11
remark_number remarks.Release = 12
remark_number remarks.NoSets = 13
remark_number remarks.UntoldAssociation = 14
remark_number (remarks.DefaultIsochronous found) = 15
remark_number remarks.EmptyPackets = 16
remark_number remarks.NoHidDescriptor = 17
remark_number remarks.LateHidDescriptor = 18
remark_number (remarks.HidLength due found) = 19
remark_number remarks.EmptyReport = 20
remark_number remarks.NoFunctionalHeader = 21
remark_number (remarks.ShortFunctional least found) = 22
remark_number remarks.OneDirection = 23
remark_number remarks.ForbiddenClass = 24
remark_number (remarks.MissingInterface interface) = 25
remark_number (remarks.SmallMultiple transactions least found) = 26
remark_number remarks.LateFunctional = 27
remark_number remarks.NoInterruptIn = 28
remark_number remarks.NoReport = 29
remark_number remarks.InterfaceClass = 30
remark_number remarks.LateAssociation = 31
remark_number (remarks.OldQualifier found) = 32
remark_number (remarks.NoLanguage found) = 33
remark_number remarks.EndedString = 34
remark_number remarks.ClassRelease = 35
remark_number remarks.NoAssociation = 36
remark_number (remarks.OneSpeed speed) = 37
remark_number (remarks.DefaultInterrupt found) = 38
remark_number remarks.ManyEndpoints = 39
