-- What is found at a descriptor that breaks a rule.
use Rattle.std.specs.Prelude.{◌≡◌, List, Bool, true, false, ◌==◌}
use Rattle.std.specs.List.{take_while}
use Rattle.usb_file_data.specs.declared.cause.Cause.{Cause}
use Rattle.usb_file_data.specs.declared.cause.Cause.TheVariants as causes
use Rattle.usb_file_data.specs.declared.cause.Found.{Found}
use Rattle.usb_file_data.specs.declared.finding.Finding.{Finding}
use Rattle.usb_file_data.specs.declared.finding.Part.{Part}
use Rattle.usb_file_data.specs.declared.finding.Part.TheVariants as parts
use Rattle.usb_file_data.specs.Causes.{rule_of}
use Rattle.usb_file_data.specs.Places.{finding}
use Rattle.usb_walk.specs.declared.position.Position.{Position}
use Rattle.usb_walk.specs.declared.role.Role.{Role}
use Rattle.usb_walk.specs.declared.role.Role.TheVariants.{Device, Qualifier, Configuration, Association, Interface, Endpoint}
use Rattle.usb_walk.specs.Places.{place_in}
use Rattle.usb_remarks.specs.declared.outline_state.OutlineState.{OutlineState}

-- whether what was found is of this descriptor, whose number is how many came before it
abbrev pub is_here : OutlineState → Found → Bool
is_here s f = f.descriptor == s.descriptors

-- what was found of this descriptor: that with which these findings begin, which no descriptor before it has
unfoldable pub found_at : OutlineState → List Found → List Found
found_at s found = take_while (is_here s) found

-- What holds of it: where it is, and which rules a descriptor can break.

-- Whether a descriptor of this role can break a rule by this cause. A device and a qualifier break V11, and V10 for the sets after
-- them, where there are none; the first descriptor of a set V1, V2, V9 and V10, an association V13, an interface V3, V4 and V5, and
-- an endpoint V6, V7, V8 and V12.
unfoldable pub can_break : Role → Cause → Bool
can_break Device causes.NoConfiguration = true
can_break Device (causes.Device packet subclass) = true
can_break Qualifier causes.NoConfiguration = true
can_break Qualifier (causes.Qualifier packet subclass reserved) = true
can_break Configuration (causes.InterfaceCount declared found) = true
can_break Configuration causes.NumberGap = true
can_break Configuration (causes.Attributes clear reserved) = true
can_break Configuration causes.ZeroValue = true
can_break Configuration causes.RepeatedValue = true
can_break Association causes.NoInterface = true
can_break Association causes.MissingInterface = true
can_break Interface causes.RepeatedSetting = true
can_break Interface causes.NoDefaultSetting = true
can_break Interface (causes.EndpointCount declared found) = true
can_break Endpoint (causes.Address endpoint_zero reserved) = true
can_break Endpoint causes.RepeatedAddress = true
can_break Endpoint causes.SharedAddress = true
can_break Endpoint causes.PacketSize = true
can_break _ _ = false

-- the part that breaks a rule: a device stands for the main part, where that has no set, and others for the part that they are in
abbrev pub broken_part : Role → Cause → Part → Part
broken_part Device causes.NoConfiguration part = parts.Main
broken_part role cause part = part

-- the finding that a descriptor of this role has by a cause, which is at its place
unfoldable pub finding_at : Position → Role → Cause → Finding
finding_at p role cause =
    let place = place_in p role in finding (rule_of cause) (broken_part role cause place.part) place.set place.setting place.endpoint

-- the finding is at the place of a descriptor of this role, and of a rule that such a descriptor can break by the cause
abbrev pub IsAtPlace : Position → Role → Finding → Cause → Type 0
IsAtPlace p role finding cause = (finding ≡ finding_at p role cause) × (can_break role cause ≡ true)
