-- Class codes, bits, types of terminals and GUIDs, by their names.
use Rattle.std.specs.Prelude.{ℕ, List, [], ◌++◌, ◌==◌, Option, Some, None, if◌then◌else◌, ◌/◌, ◌%◌, ◌^◌, Bool, ◌∷◌, ◌+◌, ◌*◌, ◌&&◌, ◌||◌, drop, nat_eq, nat_le, take}
use Rattle.std.specs.List.{filter, flat_map, list_all}
use Rattle.std.specs.Cmp.Lexicographic.{pointwise}
use Rattle.usb_names.specs.Classes.{class_name, protocol_name, subclass_name}
use Rattle.usb_names.specs.Named.{Named, name_of}
use Rattle.usb_text.specs.Shown.{Shown, Bytes, Name, Number}

-- Class codes.

-- a name, if there is one
abbrev pub name_shown : Option (List ℕ) → List Shown
name_shown None = []
name_shown (Some name) = Name name ∷ []

-- a code by its name, or by its number where it has none
abbrev pub name_or_number : ℕ → Option (List ℕ) → List Shown
name_or_number code None = Number code ∷ []
name_or_number code (Some name) = Name name ∷ []

-- the names that class, subclass and protocol have
unfoldable pub class_names : ℕ → ℕ → ℕ → List Shown
class_names class subclass protocol =
    name_or_number class (class_name class) ++ name_shown (subclass_name class subclass) ++ name_shown (protocol_name class subclass protocol)

-- the same of an interface or a function, for which class 00 is reserved (USB-IF, Defined Class Codes; USB 2.0, table 9-12)
unfoldable pub function_class_names : ℕ → ℕ → ℕ → List Shown
function_class_names class subclass protocol = if class == 0 then [] else class_names class subclass protocol

-- a code, and its name if it has one
abbrev pub code_shown : ℕ → Option (List ℕ) → List Shown
code_shown code name = Number code ∷ name_shown name

-- a class code, with its name if it has one
abbrev pub class_field : ℕ → List Shown
class_field class = code_shown class (class_name class)

-- the same of an interface or a function
abbrev pub function_class_field : ℕ → List Shown
function_class_field class = code_shown class (if class == 0 then None else class_name class)

-- a subclass code, with the name that it has in its class
abbrev pub subclass_field : ℕ → ℕ → List Shown
subclass_field class subclass = code_shown subclass (subclass_name class subclass)

-- a protocol code, with the name that it has in its class and subclass
abbrev pub protocol_field : ℕ → ℕ → ℕ → List Shown
protocol_field class subclass protocol = code_shown protocol (protocol_name class subclass protocol)

-- The bits of a byte.

-- this bit of a byte is one
abbrev pub is_set : ℕ → ℕ → Bool
is_set value bit = value / 2 ^ bit % 2 == 1

-- a bit by its name among these
abbrev pub bit_shown : List (Named ℕ) → ℕ → List Shown
bit_shown names bit = name_or_number bit (name_of names bit)

-- a byte, and those of its bits that are one
abbrev pub bits_field : List (Named ℕ) → ℕ → List Shown
bits_field names value =
    Number value ∷ flat_map (bit_shown names) (filter (is_set value) (0 ∷ 1 ∷ 2 ∷ 3 ∷ 4 ∷ 5 ∷ 6 ∷ 7 ∷ []))

-- Types of terminals.

-- a type of two bytes, the low one first, and its name among these if it has one
unfoldable pub terminal_shown : List (Named ℕ) → List ℕ → List Shown
terminal_shown types (low ∷ high ∷ []) = let code = low + 256 * high in code_shown code (name_of types code)
terminal_shown types value = Bytes value ∷ []

-- GUIDs, of which those of formats of video may be named by four characters (UVC 1.5, Uncompressed Payload).

-- an upper-case letter or a digit of ASCII
abbrev pub is_letter_or_digit : ℕ → Bool
is_letter_or_digit c = nat_le 48 c && nat_le c 57 || nat_le 65 c && nat_le c 90

-- the last twelve bytes of a GUID that four characters name
abbrev pub after_characters : List ℕ
after_characters = 0 ∷ 0 ∷ 16 ∷ 0 ∷ 128 ∷ 0 ∷ 0 ∷ 170 ∷ 0 ∷ 56 ∷ 155 ∷ 113 ∷ []

-- the first four bytes of these name the GUID
abbrev pub has_characters : List ℕ → Bool
has_characters b = pointwise nat_eq (drop 4 b) after_characters && list_all is_letter_or_digit (take 4 b)

-- a GUID, and the four characters that name it if they do
unfoldable pub guid_shown : List ℕ → List Shown
guid_shown b = Bytes b ∷ (if has_characters b then Name (take 4 b) ∷ [] else [])
