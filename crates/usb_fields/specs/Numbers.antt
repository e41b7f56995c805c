-- The numbers of faults, and their messages.
use Rattle.std.specs.Prelude.{ℕ, suc, List, codes}
use denote.Enum.Declared.{Declared, tag_of}
use Rattle.usb_fields.specs.declared.fault.FieldFault.{FieldFault}
use Rattle.usb_fields.specs.declared.fault.FieldFault.TheVariants as fields
use Rattle.usb_fields.specs.contracts.fault.FieldFault.{the_type as field_faults}
use Rattle.usb_fields.specs.declared.fault.UnitFault.{UnitFault}
use Rattle.usb_fields.specs.declared.fault.UnitFault.TheVariants as units
use Rattle.usb_fields.specs.contracts.fault.UnitFault.{the_type as unit_faults}

-- the place of a variant among those of its type, counted from 1: the number of a fault
abbrev pub number_in : (T : Declared) → T.D → ℕ
number_in T variant = suc (tag_of T variant)

-- the number of a fault of a descriptor of fixed length
abbrev pub field_fault_number : FieldFault → ℕ
field_fault_number fault = number_in field_faults fault

-- the message of a fault of a descriptor of fixed length, for people
abbrev pub field_fault_message : FieldFault → List ℕ
field_fault_message fields.Length = codes "the length is not the descriptor's"
field_fault_message fields.Kind = codes "the type is not the descriptor's"

-- the number of a fault of a string or a language list
abbrev pub unit_fault_number : UnitFault → ℕ
unit_fault_number fault = number_in unit_faults fault

-- the message of a fault of a string or a language list, for people
abbrev pub unit_fault_message : UnitFault → List ℕ
unit_fault_message units.Length = codes "the length is not that of the bytes"
unit_fault_message units.Kind = codes "the type is not that of a string"
unit_fault_message units.Odd = codes "the length is odd"
unit_fault_message units.TooLong = codes "more than 126 units"
unit_fault_message units.Memory = codes "out of memory"
