-- The numbers of faults, rules, remarks and differences: those that a caller sees, in the order of their tables.
use Rattle.std.specs.Prelude.{◌≡◌, ℕ, List, [], ◌∷◌, length, map}
use Rattle.std.specs.List.{range_with_len}
use Rattle.usb_fields.specs.Numbers.{field_fault_number, unit_fault_number}
use Rattle.usb_fields.specs.declared.fault.FieldFault.TheVariants as fields
use Rattle.usb_fields.specs.declared.fault.UnitFault.TheVariants as units
use Rattle.usb_set.specs.Numbers.{encode_number, why_number as set_number}
use Rattle.usb_set.specs.declared.endpoint.TransferType.{TransferType}
use Rattle.usb_set.specs.declared.fault.EncodeFault.TheVariants as encodes
use Rattle.usb_set.specs.declared.fault.SetFault.{SetFault}
use Rattle.usb_set.specs.declared.fault.SetWhy.{SetWhy}
use Rattle.usb_set.specs.declared.fault.SetWhy.TheVariants as sets
use Rattle.usb_file_data.specs.FileFaults.{why_number as file_number}
use Rattle.usb_file_data.specs.Numbers.{rule_number, write_number}
use Rattle.usb_file_data.specs.declared.fault.FileFault.{FileFault}
use Rattle.usb_file_data.specs.declared.fault.FileWhy.TheVariants as files
use Rattle.usb_file_data.specs.declared.finding.Finding.{Finding}
use Rattle.usb_file_data.specs.declared.refusal.WriteFault.TheVariants as writes
use Rattle.usb_file_data.specs.declared.rule.Rule.TheVariants as rules
use Rattle.usb_listing.specs.Listings.{why_number as list_number}
use Rattle.usb_listing.specs.declared.fault.ListFault.{ListFault}
use Rattle.usb_listing.specs.declared.fault.ListWhy.TheVariants as lists
use Rattle.usb_text.specs.Output.{out_number}
use Rattle.usb_text.specs.declared.output.OutFault.TheVariants as outs
use Rattle.usb_host.specs.Limits.{limit_fault_number}
use Rattle.usb_host.specs.Why.{why_number}
use Rattle.usb_host.specs.declared.limits.LimitFault.TheVariants as limits
use Rattle.usb_host.specs.declared.why.Why.TheVariants as whys
use Rattle.usb_device.specs.Accepted.{fault_number as description_number, unanswered_number}
use Rattle.usb_device.specs.Conformance.{difference_number}
use Rattle.usb_device.specs.declared.acceptance.DescriptionFault.TheVariants as descriptions
use Rattle.usb_device.specs.declared.beside.Unanswered.TheVariants as unanswereds
use Rattle.usb_device.specs.declared.conformance.Difference.TheVariants as differences
use Rattle.usb_remarks.specs.RemarkNumbers.{remark_number}
use Rattle.usb_remarks.specs.declared.remark.IntervalRange.{IntervalRange}
use Rattle.usb_remarks.specs.declared.remark.PacketSizes.{PacketSizes}
use Rattle.usb_remarks.specs.declared.remark.Remark.TheVariants as remarks
use Rattle.usb_remarks.specs.declared.speed.SetSpeed.{SetSpeed}
use Rattle.usb_capture.specs.FaultNumbers.{fault_number as capture_number}
use Rattle.usb_capture.specs.declared.device_file.FileLack.{FileLack}
use Rattle.usb_capture.specs.declared.fault.CaptureFault.{CaptureFault}
use Rattle.usb_capture.specs.declared.fault.CaptureFault.TheVariants as captures
use Rattle.usb_capture_lines.specs.declared.selection.DeviceAddress.{DeviceAddress}
use Rattle.usb_tool.specs.Faults.{fault_number}
use Rattle.usb_tool.specs.OptionFaults.{fates_fault_number, settings_fault_number}
use Rattle.usb_tool.specs.declared.fault.ToolFault.TheVariants as faults
use Rattle.usb_tool.specs.declared.settings.FatesFault.TheVariants as letters
use Rattle.usb_tool.specs.declared.settings.SettingsFault.TheVariants as options

-- the rows of a table have the numbers from 1 on, in their order
abbrev pub AreNumbered : {A : Type 0} → (A → ℕ) → List A → Type 0
AreNumbered number rows = map number rows ≡ range_with_len 1 (length rows)

-- All of them, so that two variants that change places in the code are refused.
pub record NumbersAreThoseOfTheTables : Type 0 where
  -- why bytes are no descriptor of fixed length
  pub descriptor_faults : AreNumbered field_fault_number (fields.Length ∷ fields.Kind ∷ [])
  -- why bytes are no string or language list, or units have no bytes
  pub string_faults : AreNumbered unit_fault_number (units.Length ∷ units.Kind ∷ units.Odd ∷ units.TooLong ∷ units.Memory ∷ [])
  -- why bytes are no set
  pub set_faults : AreNumbered set_number
      (sets.HeaderLength ∷ sets.HeaderKind ∷ sets.Total ∷ sets.ItemLength ∷ sets.Over ∷ sets.Nested ∷ sets.ItemShort ∷ sets.Stray ∷ sets.Truncated ∷
      sets.Memory ∷ [])
  -- why a set has no bytes
  pub encode_faults : AreNumbered encode_number (encodes.Tail ∷ encodes.RawKind ∷ encodes.TooLong ∷ encodes.Memory ∷ [])
  -- why bytes are no file
  pub file_faults : (why : SetWhy) → AreNumbered file_number (files.Device ∷ files.Set why ∷ files.SetKind ∷ files.Qualifier ∷ files.Text ∷ files.Truncated ∷ files.Trailing ∷ files.Memory ∷ [])
  -- why a file has no bytes
  pub write_faults : AreNumbered write_number (writes.Count ∷ writes.Kind ∷ writes.Layout ∷ writes.Texts ∷ writes.Memory ∷ [])
  -- why a text is no listing
  pub listing_faults : AreNumbered list_number (lists.Line ∷ lists.Word ∷ lists.Place ∷ lists.Field ∷ lists.TooLong ∷ lists.Missing ∷ lists.Memory ∷ [])
  -- why a text was not written
  pub output_faults : AreNumbered out_number (outs.Write ∷ outs.Memory ∷ [])
  -- the rules of chapter 9
  pub chapter_9_rules : AreNumbered rule_number (rules.V1 ∷ rules.V2 ∷ rules.V3 ∷ rules.V4 ∷ rules.V5 ∷ rules.V6 ∷ rules.V7 ∷ rules.V8 ∷ rules.V9 ∷ rules.V10 ∷ rules.V11 ∷ rules.V12 ∷ rules.V13 ∷ [])
  -- why a device can't be made of descriptors
  pub description_faults : (finding : Finding) → AreNumbered description_number
      (descriptions.Finding finding ∷ descriptions.Texts ∷ descriptions.Speed ∷ descriptions.Memory ∷ descriptions.Unwritable ∷ [])
  -- why an owner's answer is not taken
  pub unanswered_requests : AreNumbered unanswered_number (unanswereds.Nothing ∷ unanswereds.Closed ∷ unanswereds.Shape ∷ unanswereds.Room ∷ [])
  -- how a device under test differs
  pub device_differences : AreNumbered difference_number
      (differences.Setup ∷ differences.Address ∷ differences.Toggle ∷ differences.Empty ∷ differences.Bytes ∷ differences.Stall ∷ differences.Refusal ∷
      differences.Kind ∷ [])
  -- what limits of a host are out of range
  pub limit_faults : AreNumbered limit_fault_number (limits.Address ∷ limits.Attempts ∷ [])
  -- why a transfer or an enumeration failed
  pub transfer_faults : AreNumbered why_number (whys.NoAnswer ∷ whys.Busy ∷ whys.Stalled ∷ whys.TooLong ∷ whys.Unexpected ∷ whys.Malformed ∷ whys.Memory ∷ [])
  -- the remarks
  pub all_remarks : (transfer : TransferType) (speed : SetSpeed) (range : IntervalRange) (found declared needed most due least interface transactions : ℕ) (sizes : PacketSizes) → AreNumbered remark_number
      (remarks.Interval transfer speed range found ∷ remarks.Packet transfer speed sizes found ∷ remarks.ReservedMultiple ∷ remarks.PacketBits ∷
      remarks.ReservedUsage ∷ remarks.TypeBits ∷ remarks.HighBits ∷ remarks.ReservedClass ∷ remarks.TotalLength declared found ∷
      (remarks.Current needed most) ∷ remarks.FirstPacket speed sizes found ∷ remarks.Release ∷ remarks.NoSets ∷ remarks.UntoldAssociation ∷
      (remarks.DefaultIsochronous found) ∷ remarks.EmptyPackets ∷ remarks.NoHidDescriptor ∷ remarks.LateHidDescriptor ∷ remarks.HidLength due found ∷
      remarks.EmptyReport ∷ remarks.NoFunctionalHeader ∷ remarks.ShortFunctional least found ∷ remarks.OneDirection ∷ remarks.ForbiddenClass ∷
      (remarks.MissingInterface interface) ∷ remarks.SmallMultiple transactions least found ∷ remarks.LateFunctional ∷ remarks.NoInterruptIn ∷
      remarks.NoReport ∷ remarks.InterfaceClass ∷ remarks.LateAssociation ∷ remarks.OldQualifier found ∷ remarks.NoLanguage found ∷ remarks.EndedString ∷
      remarks.ClassRelease ∷ remarks.NoAssociation ∷ remarks.OneSpeed speed ∷ remarks.DefaultInterrupt found ∷ remarks.ManyEndpoints ∷ [])
  -- why a command failed
  pub tool_faults : (file : FileFault) (list : ListFault) (set : SetFault) (at line column place : ℕ) (why : CaptureFault) (device : DeviceAddress) (lack : FileLack) → AreNumbered fault_number
      (faults.Read ∷ faults.Write ∷ faults.TooLarge ∷ faults.File file ∷ faults.List list ∷ faults.Set set ∷ faults.Trailing at ∷ faults.Memory ∷
      (faults.Hex line column) ∷ faults.Capture why place ∷ faults.Lack device lack ∷ [])
  -- why bytes are no recording
  pub capture_faults : AreNumbered capture_number
      (captures.Magic ∷ captures.Order ∷ captures.Length ∷ captures.Trailer ∷ captures.Version ∷ captures.Long ∷ captures.Interfaces ∷ captures.Options ∷
      captures.Interface ∷ captures.Data ∷ captures.Line ∷ captures.Memory ∷ [])
  -- why letters are no fates
  pub fates_faults : AreNumbered fates_fault_number (letters.Letter ∷ letters.Memory ∷ [])
  -- why options are refused; 6 is the number of none
  pub settings_faults : map settings_fault_number (options.Number ∷ options.Speed ∷ options.Fates ∷ options.Memory ∷ options.SpeedAlone ∷ options.BriefAlone ∷ options.Damages ∷ options.PacketsAlone ∷ options.Strings ∷ options.OtherSpeed ∷ options.FileBeside ∷ options.BriefBeside ∷ options.Device ∷ options.Time ∷ [])
      ≡ 1 ∷ 2 ∷ 3 ∷ 4 ∷ 5 ∷ 7 ∷ 8 ∷ 9 ∷ 10 ∷ 11 ∷ 12 ∷ 13 ∷ 14 ∷ 15 ∷ []
