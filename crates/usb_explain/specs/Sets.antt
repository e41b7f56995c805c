-- The descriptors of the standard, by their bytes (USB 2.0, 9.6.1 to 9.6.5 and 9.6.7).
use Rattle.std.specs.Prelude.{ℕ, List, ◌++◌, slice_index, ◌+◌, ◌-◌, ◌==◌, [], ◌∷◌, Option, Some, None, if◌then◌else◌, drop, map}
use Rattle.usb_fields.specs.Bytes.{big_endian, little_endian_at}
use Rattle.usb_text.specs.Characters.{units_in}
use Rattle.usb_text.specs.Shown.{Shown, Bytes, Number, Units}
use Rattle.usb_walk.specs.declared.string_place.StringPlace.{StringPlace}
use Rattle.usb_remarks.specs.declared.speed.SetSpeed.{SetSpeed}
use Rattle.usb_explain.specs.Names.{class_names, function_class_names}
use Rattle.usb_remarks.specs.Power.{milliamperes}

-- The device descriptor and the device qualifier, by their bytes (USB 2.0, 9.6.1 and 9.6.2).

-- the release of USB, and the class
unfoldable pub version_shown : List ℕ → List Shown
version_shown b = Number (little_endian_at b 2) ∷ class_names (slice_index b 4) (slice_index b 5) (slice_index b 6)

-- vendor and product, and what a qualifier tells too
unfoldable pub device_shown : List ℕ → List Shown
device_shown b =
    Bytes (big_endian (little_endian_at b 8)) ∷ Bytes (big_endian (little_endian_at b 10)) ∷ version_shown b

-- The configuration, interface association and interface descriptors, by their bytes (USB 2.0, 9.6.3 to 9.6.5, and the
-- ECN on interface associations, 9.X.Y).

-- value, interfaces and milliamperes of a set
unfoldable pub configuration_shown : SetSpeed → List ℕ → List Shown
configuration_shown speed b =
    Number (slice_index b 5) ∷ Number (slice_index b 4) ∷ Number (milliamperes speed (slice_index b 8)) ∷ []

-- the n interfaces that an association binds, from this one on: the first and the last
unfoldable pub bound_shown : ℕ → ℕ → List Shown
bound_shown first n =
    if n == 0 then []
    else if n == 1 then Number first ∷ []
    else Number first ∷ Number (first + n - 1) ∷ []

-- the number of an association in its set, its interfaces and its class
unfoldable pub association_shown : ℕ → List ℕ → List Shown
association_shown number b =
    Number number ∷ bound_shown (slice_index b 2) (slice_index b 3)
    ++ function_class_names (slice_index b 4) (slice_index b 5) (slice_index b 6)

-- the association that binds an interface, if there is one
abbrev pub binding_shown : Option ℕ → List Shown
binding_shown None = []
binding_shown (Some number) = Number number ∷ []

-- number, setting, association, class and endpoints of an interface
unfoldable pub interface_shown : Option ℕ → List ℕ → List Shown
interface_shown association b =
    Number (slice_index b 2) ∷ Number (slice_index b 3) ∷ binding_shown association
    ++ function_class_names (slice_index b 5) (slice_index b 6) (slice_index b 7) ++ Number (slice_index b 4) ∷ []

-- The language list and the strings, by their bytes (USB 2.0, 9.6.7).

-- the languages
abbrev pub languages_shown : List ℕ → List Shown
languages_shown b = map Number (units_in (drop 2 b))

-- the index and the language of a string, where they are known
abbrev pub string_place_shown : Option StringPlace → List Shown
string_place_shown None = []
string_place_shown (Some place) = Number place.index ∷ Number place.language ∷ []

-- a string
abbrev pub string_shown : Option StringPlace → List ℕ → List Shown
string_shown place b = string_place_shown place ++ Units (units_in (drop 2 b)) ∷ []
