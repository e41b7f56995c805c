-- All that breaks a rule: for each descriptor, in the order of the bytes, what it breaks; and the same sorted by rule.
use Rattle.std.specs.Prelude.{ℕ, ◌+◌, List, [], ◌∷◌, ◌++◌, filter, fold, length, map, take, Bool, true, false, ◌==◌, Option, Some, None, if◌then◌else◌}
use Rattle.std.specs.List.{flat_map}
use Rattle.usb_fields.specs.declared.device.DeviceDescriptor.{DeviceDescriptor}
use Rattle.usb_fields.specs.declared.qualifier.Qualifier.{Qualifier}
use Rattle.usb_set.specs.declared.extra.Extra.{Extra}
use Rattle.usb_set.specs.declared.extra.Extra.TheVariants as extras
use Rattle.usb_set.specs.declared.tree.Endpoint.{Endpoint}
use Rattle.usb_set.specs.declared.tree.Setting.{Setting}
use Rattle.usb_set.specs.declared.tree.Configuration.{Configuration}
use Rattle.usb_set.specs.declared.tree.SetKind.{SetKind}
use Rattle.usb_set.specs.declared.tree.SetKind.TheVariants as kinds
use Rattle.usb_set.specs.Owners.{association_in, setting_extras}
use Rattle.usb_file_data.specs.declared.file.DescriptorFile.{DescriptorFile}
use Rattle.usb_file_data.specs.declared.file.Other.{Other}
use Rattle.usb_file_data.specs.declared.file.Input.{Input}
use Rattle.usb_file_data.specs.declared.file.Input.TheVariants as inputs
use Rattle.usb_file_data.specs.declared.cause.Cause.TheVariants as causes
use Rattle.usb_file_data.specs.declared.cause.Found.{Found}
use Rattle.usb_file_data.specs.declared.finding.Part.{Part}
use Rattle.usb_file_data.specs.declared.finding.Part.TheVariants as parts
use Rattle.usb_file_data.specs.declared.finding.Finding.{Finding}
use Rattle.usb_file_data.specs.declared.rule.Rule.{Rule}
use Rattle.usb_file_data.specs.Numbers.{every_rule, rule_number}
use Rattle.usb_file_data.specs.Places.{at_each, at_each_after, at_each_counted, when}
use Rattle.usb_file_data.specs.Causes.{Broken, address_cause, association_cause, attributes_cause, broken_by, device_cause, qualifier_cause, value_cause}
use Rattle.usb_file_data.specs.Rules.{binds_missing_interface, has_number_gap, interface_numbers, lacks_default_setting, repeats_address, repeats_setting, shares_address, wrong_address, wrong_attributes, wrong_device, wrong_dumped_device, wrong_endpoint_count, wrong_interface_count, wrong_packet_size, wrong_qualifier, wrong_value}

-- at the first descriptor of a set, given the sets before it in its part
abbrev pub at_configuration : Part → List Configuration → ℕ → Configuration → List Broken
at_configuration part before i c =
    when (wrong_interface_count c) (broken_by (causes.InterfaceCount c.declared_interfaces (length (interface_numbers c.settings))) part i 0 0)
    ++ when (has_number_gap c) (broken_by causes.NumberGap part i 0 0)
    ++ when (wrong_attributes c) (broken_by (attributes_cause c.attributes) part i 0 0)
    ++ when (wrong_value before c) (broken_by (value_cause c.value) part i 0 0)

-- at an extra of a set that is an association, before which the set has n of these
abbrev pub at_extra : Part → ℕ → List Setting → ℕ → Extra → List Broken
at_extra part i settings n (extras.Association a) = when (binds_missing_interface settings a) (broken_by (association_cause a) part i n 0)
at_extra part i settings n x = []

-- at the interface descriptor of a setting, given those before it and all of the set
abbrev pub at_interface : Part → ℕ → List Setting → ℕ → Setting → List Broken
at_interface part i settings j s =
    when (repeats_setting (take j settings) s) (broken_by causes.RepeatedSetting part i j 0)
    ++ when (lacks_default_setting settings (take j settings) s) (broken_by causes.NoDefaultSetting part i j 0)
    ++ when (wrong_endpoint_count s) (broken_by (causes.EndpointCount s.declared_endpoints (length s.endpoints)) part i j 0)

-- at the descriptor of an endpoint, given the settings before its own
abbrev pub at_endpoint : Part → ℕ → List Setting → ℕ → Setting → ℕ → Endpoint → List Broken
at_endpoint part i before j s k e =
    when (wrong_address e.address) (broken_by (address_cause e.address) part i j k)
    ++ when (repeats_address (take k s.endpoints) e) (broken_by causes.RepeatedAddress part i j k)
    ++ when (shares_address before s e) (broken_by causes.SharedAddress part i j k)
    ++ when (wrong_packet_size e.max_packet) (broken_by causes.PacketSize part i j k)

-- From here on there is one list for each descriptor, in the order of the bytes.

-- at extras of a set one after another, before which it has n associations
abbrev pub extras_in_order : Part → ℕ → List Setting → ℕ → List Extra → List (List Broken)
extras_in_order part i settings n [] = []
extras_in_order part i settings n (x ∷ xs) = at_extra part i settings n x ∷ extras_in_order part i settings (n + length (association_in x)) xs

-- how many associations there are among the extras
abbrev pub association_count : List Extra → ℕ
association_count xs = length (flat_map association_in xs)

-- how many there are after an endpoint
abbrev pub endpoint_associations : Endpoint → ℕ
endpoint_associations e = association_count e.extras

-- how many there are in a setting
abbrev pub setting_associations : Setting → ℕ
setting_associations s = association_count (setting_extras s)

-- at an endpoint, and then at its extras, where this many associations of the set come before
abbrev pub endpoint_in_order : Part → ℕ → List Setting → ℕ → Setting → ℕ → ℕ → Endpoint → List (List Broken)
endpoint_in_order part i settings j s k n e =
    at_endpoint part i (take j settings) j s k e ∷ extras_in_order part i settings n e.extras

-- at the interface of a setting, then at its extras, and then at its endpoints
abbrev pub setting_in_order : Part → ℕ → List Setting → ℕ → ℕ → Setting → List (List Broken)
setting_in_order part i settings j n s =
    at_interface part i settings j s
    ∷ extras_in_order part i settings n s.extras
    ++ at_each_counted endpoint_associations (endpoint_in_order part i settings j s) 0 (n + association_count s.extras) s.endpoints

-- in a set: at its first descriptor, at its extras, and in its settings
abbrev pub set_in_order : Part → List Configuration → ℕ → Configuration → List (List Broken)
set_in_order part before i c =
    at_configuration part before i c
    ∷ extras_in_order part i c.settings 0 c.extras
    ++ at_each_counted setting_associations (setting_in_order part i c.settings) 0 (association_count c.extras) c.settings

-- in the sets of a part
abbrev pub part_in_order : Part → List Configuration → List (List Broken)
part_in_order part sets = at_each_after (set_in_order part) sets

-- V10 of a part without a set, at the descriptor that announces none
abbrev pub without_sets : Part → List Configuration → List Broken
without_sets part sets = when (length sets == 0) (broken_by causes.NoConfiguration part 0 0 0)

-- at the qualifier
abbrev pub at_qualifier : Qualifier → List Broken
at_qualifier q = when (wrong_qualifier q) (broken_by (qualifier_cause q) parts.Other 0 0 0)

-- at the qualifier, and in the sets after it
abbrev pub other_in_order : Option Other → List (List Broken)
other_in_order None = []
other_in_order (Some other) = (without_sets parts.Other other.sets ++ at_qualifier other.qualifier) ∷ part_in_order parts.Other other.sets

-- at the device descriptor, in a dump or in a file
abbrev pub at_device : Bool → DeviceDescriptor → List Broken
at_device is_dump d = when (if is_dump then wrong_dumped_device d else wrong_device d) (broken_by (device_cause is_dump d) parts.Device 0 0 0)

-- at the device, in its sets, and in the other part
abbrev pub file_in_order : Bool → DescriptorFile → List (List Broken)
file_in_order is_dump f =
    (without_sets parts.Main f.sets ++ at_device is_dump f.device)
    ∷ part_in_order parts.Main f.sets
    ++ other_in_order f.other

-- the part that a set alone is of: `main` for a configuration, `other` for an other-speed configuration
abbrev pub part_of_kind : SetKind → Part
part_of_kind kinds.Configuration = parts.Main
part_of_kind kinds.OtherSpeed = parts.Other

-- in an input: in a set alone, which is the only one of its part, in a file, or in a dump, whose device may be one of SuperSpeed
abbrev pub broken_in_order : Input → List (List Broken)
broken_in_order (inputs.Set set) = part_in_order (part_of_kind set.kind) (set ∷ [])
broken_in_order (inputs.File file) = file_in_order false file
broken_in_order (inputs.Dump file) = file_in_order true file

-- what is found where a descriptor of this number breaks a rule
abbrev pub found : ℕ → Broken → Found
found n b = record { finding = b.finding; cause = b.cause; descriptor = n }

-- what is found at descriptors one after another, of which the first has this number
abbrev pub found_from : ℕ → List (List Broken) → List Found
found_from n broken = at_each (λ k here. map (found k) here) n broken

-- what is found in an input, in the order of its bytes, each with its cause and the number of its descriptor
abbrev pub found_in_order : Input → List Found
found_in_order input = found_from 0 (broken_in_order input)

-- the findings without their causes
abbrev pub findings_in_order : Input → List Finding
findings_in_order input = map (λ f. f.finding) (found_in_order input)

-- the findings of a rule
abbrev pub of_rule : Rule → List Finding → List Finding
of_rule r found = filter (λ f. f.rule == rule_number r) found

-- findings sorted by rule: those of one rule stay in their order
abbrev pub by_rule : List Finding → List Finding
by_rule found = fold (λ out r. out ++ of_rule r found) [] every_rule

-- what is reported of an input
abbrev pub input_findings : Input → List Finding
input_findings input = by_rule (findings_in_order input)

-- what `check` reports of a file
abbrev pub findings : DescriptorFile → List Finding
findings f = input_findings (inputs.File f)

-- what `check_dump` reports of a dump
abbrev pub dump_findings : DescriptorFile → List Finding
dump_findings f = input_findings (inputs.Dump f)

-- what `check_set` reports of a set alone
abbrev pub set_findings : Configuration → List Finding
set_findings c = input_findings (inputs.Set c)
