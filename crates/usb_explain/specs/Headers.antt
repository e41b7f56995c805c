-- Descriptors of classes, by their bytes and the rows of the table.
use Rattle.std.specs.Prelude.{ℕ, List, slice_index, Option, Some, None, drop, [], ◌∷◌, codes}
use Rattle.usb_names.specs.declared.codes.ClassCodes.{ClassCodes}
use Rattle.usb_walk.specs.declared.role.Role.{Role}
use Rattle.usb_walk.specs.declared.role.Role.TheVariants.{Raw}
use Rattle.usb_names.specs.Rows.{first_row, rows_behind}
use Rattle.usb_names.specs.Shown.{Row}
use Rattle.usb_text.specs.Shown.{Shown, Name, Number}
use Rattle.usb_explain.specs.Layouts.{Layout}

-- the row of a descriptor after an interface of these codes
abbrev pub row_of_bytes : Option ClassCodes → List ℕ → Option Row
row_of_bytes interface b = let type = slice_index b 1 in first_row (rows_behind interface type) interface type (drop 2 b)

-- the row of a descriptor of this role: only one that has no type of its own has one
abbrev pub row_in : Role → Option ClassCodes → List ℕ → Option Row
row_in Raw interface b = row_of_bytes interface b
row_in _ interface b = None

-- the layout of a row
abbrev pub row_layout : Row → Layout
row_layout row = record { fields = row.fields; group = row.group; rest = codes "bytes" }

-- the name of a row, or the type of a descriptor that has none
abbrev pub row_shown : ℕ → Option Row → List Shown
row_shown type None = Number type ∷ []
row_shown type (Some row) = Name row.name ∷ []

-- what a descriptor is called
unfoldable pub raw_shown : Option ClassCodes → List ℕ → List Shown
raw_shown interface b = row_shown (slice_index b 1) (row_of_bytes interface b)
