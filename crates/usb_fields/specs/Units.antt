-- Strings and language lists (USB 2.0, 9.6.7).
use Rattle.std.specs.Prelude.{◌≡◌, ℕ, ◌+◌, ◌*◌, ◌%◌, ◌<◌, ◌≤◌, List, ◌∷◌, length, slice_index, nat_lt, ◌==◌, ◌||◌, not, if◌then◌else◌, Option, Some, None}
use Rattle.std.specs.List.{flat_map}
use Rattle.usb_fields.specs.Bytes.{little_endian}
use Rattle.usb_fields.specs.declared.fault.UnitFault.{UnitFault}
use Rattle.usb_fields.specs.declared.fault.UnitFault.TheVariants as units

-- the bytes of a string or a language list of at most 126 units: bLength, bDescriptorType 3, and the units
abbrev pub units_bytes : List ℕ → List ℕ
units_bytes u = (2 + 2 * length u) ∷ 3 ∷ flat_map little_endian u

-- the first reason why these bytes are no string and no language list, if there is one
abbrev pub unit_fault : List ℕ → Option UnitFault
unit_fault b =
    if nat_lt (length b) 2 || not (slice_index b 0 == length b) then Some units.Length
    else if not (slice_index b 1 == 3) then Some units.Kind
    else if slice_index b 0 % 2 == 1 then Some units.Odd
    else None

-- reading these bytes may be refused by this fault: the first that holds, or out of memory where none does
abbrev pub ReadUnitsFails : List ℕ → UnitFault → Type 0
ReadUnitsFails b units.Memory = unit_fault b ≡ None
ReadUnitsFails b fault = unit_fault b ≡ Some fault

-- writing these units may be refused by this fault: they are too many, or out of memory where they are not
abbrev pub WriteUnitsFails : List ℕ → UnitFault → Type 0
WriteUnitsFails u units.Length = ⊥
WriteUnitsFails u units.Kind = ⊥
WriteUnitsFails u units.Odd = ⊥
WriteUnitsFails u units.TooLong = 126 < length u
WriteUnitsFails u units.Memory = length u ≤ 126
