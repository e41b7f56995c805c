-- Names of class, subclass and protocol codes: USB-IF's defined class codes, and for communications those of CDC 1.2
-- (tables 4 and 5). The names are short ones of this project's own, and stand in src/class.rt.
use Rattle.std.specs.Prelude.{ℕ, Bool, List, Option, ◌==◌, ◌&&◌, map, option_map, option_and_then, find}
use Rattle.std.specs.Borrow.{Bor}
use Rattle.usb_names.specs.declared.class.Class.{Class}
use Rattle.usb_names.specs.declared.class.TheConstants.{CLASSES}
use Rattle.usb_names.specs.Named.{Named, Ref, have_names, is_name, name_of, name_where, of_constant, row_of}

-- a class: its code and its name, the names of its subclasses, and those of its protocols by subclass and protocol
abbrev pub ClassRow : Type 0
ClassRow = Class (List ℕ) (List (Named ℕ)) (List (Named (ℕ × ℕ)))

-- a row of the code
abbrev pub class_of : Class (Bor (List ℕ)) (Bor (List (ℕ × Bor (List ℕ)))) (Bor (List ((ℕ × ℕ) × Bor (List ℕ)))) → ClassRow
class_of row = record { code = row.code; name = row.name.now; subclasses = map row_of row.subclasses.now; protocols = map row_of row.protocols.now }

-- a row of its constant
abbrev of_row : Class (Ref (List ℕ)) (Ref (List (ℕ × Ref (List ℕ)))) (Ref (List ((ℕ × ℕ) × Ref (List ℕ)))) → ClassRow
of_row row = record { code = row.code; name = row.name.now; subclasses = map of_constant row.subclasses.now; protocols = map of_constant row.protocols.now }

-- its names are names
abbrev pub class_has_names : ClassRow → Bool
class_has_names row = is_name row.name && (have_names row.subclasses && have_names row.protocols)

-- all classes
unfoldable pub classes : List ClassRow
classes = map of_row CLASSES

-- the row of a class
abbrev pub class_row : ℕ → Option ClassRow
class_row class = find (λ (row : ClassRow). row.code == class) classes

abbrev pub class_name : ℕ → Option (List ℕ)
class_name class = option_map (λ (row : ClassRow). row.name) (class_row class)

abbrev pub subclass_name : ℕ → ℕ → Option (List ℕ)
subclass_name class subclass = option_and_then (λ (row : ClassRow). name_of row.subclasses subclass) (class_row class)

abbrev pub protocol_name : ℕ → ℕ → ℕ → Option (List ℕ)
protocol_name class subclass protocol =
    option_and_then (λ (row : ClassRow). name_where (λ (codes : ℕ × ℕ). codes.0 == subclass && (codes.1 == protocol)) row.protocols)
    (class_row class)
