-- The table of lines: which line a descriptor has.
use Rattle.std.specs.Prelude.{ℕ, List, [], ◌∷◌, ◌++◌, codes, ◌==◌, Bool, true, false, drop, length, if◌then◌else◌}
use Rattle.std.specs.List.{flat_map}
use Rattle.hex.specs.Hex.{encode_lower}
use Rattle.usb_fields.specs.declared.field.Width.{Width}
use Rattle.usb_fields.specs.declared.field.Width.TheVariants.{One}
use Rattle.usb_fields.specs.Fields.{widths, cells}
use Rattle.usb_fields.specs.Device.{device_fields, qualifier_fields}
use Rattle.usb_set.specs.Descriptors.{Descriptor, association_fields, configuration_fields, endpoint_fields, interface_fields}
use Rattle.usb_listing.specs.declared.word.ExtraWord.{ExtraWord}
use Rattle.usb_listing.specs.declared.word.ExtraWord.TheVariants as words

-- A line of a listing: a word, and fields in lower-case hexadecimal digits.

-- a space and the field in lower-case hexadecimal digits, or a dash where it has no byte
abbrev pub written_field : List ℕ → List ℕ
written_field [] = codes " -"
written_field (b ∷ rest) = 32 ∷ encode_lower (b ∷ rest)

-- a line: its word, its fields, a line feed
abbrev pub written_line : List ℕ → List (List ℕ) → List ℕ
written_line word fields = word ++ flat_map written_field fields ++ codes "\n"

-- A row: the word of the line; the bytes after bLength that the line leaves out, bDescriptorType, and wTotalLength as
-- 0; the widths of the fields that it says; and whether there may be a tail after them.
pub record Row : Type 0 where
  pub word : List ℕ
  pub front : List ℕ
  pub widths : List Width
  pub tail : Bool

-- the line of a row, for the bytes of a descriptor after bLength
abbrev pub row_line : Row → List ℕ → List ℕ
row_line row bytes = written_line row.word (cells row.widths row.tail (drop (length row.front) bytes))

-- the device descriptor, and the device qualifier (USB 2.0, 9.6.1 and 9.6.2)
abbrev pub device_row : Row
device_row = record { word = codes "device"; front = 1 ∷ []; widths = widths device_fields; tail = false }

abbrev pub qualifier_row : Row
qualifier_row = record { word = codes "qualifier"; front = 6 ∷ []; widths = widths qualifier_fields; tail = false }

-- the first descriptor of a set, by its word and its type (USB 2.0, 9.6.3 and 9.6.4)
abbrev pub configuration_row : List ℕ → ℕ → Row
configuration_row word kind = record { word = word; front = kind ∷ 0 ∷ 0 ∷ []; widths = widths configuration_fields; tail = true }

-- the interface, endpoint and interface association descriptors (USB 2.0, 9.6.5 and 9.6.6, and the ECN, 9.X.Y)
abbrev pub interface_row : Row
interface_row = record { word = codes "interface"; front = 4 ∷ []; widths = widths interface_fields; tail = true }

abbrev pub endpoint_row : Row
endpoint_row = record { word = codes "endpoint"; front = 5 ∷ []; widths = widths endpoint_fields; tail = true }

abbrev pub association_row : Row
association_row = record { word = codes "association"; front = 11 ∷ []; widths = widths association_fields; tail = true }

-- a descriptor that is kept as it is: bDescriptorType is a field of its line
abbrev pub raw_row : Row
raw_row = record { word = codes "raw"; front = []; widths = One ∷ []; tail = true }

-- the word of the line of an extra, by its bDescriptorType, all of them, and their rows
abbrev pub extra_word : ℕ → ExtraWord
extra_word kind = if kind == 11 then words.Association else words.Raw

abbrev pub extra_words : List ExtraWord
extra_words = words.Raw ∷ words.Association ∷ []

abbrev pub extra_row : ExtraWord → Row
extra_row words.Raw = raw_row
extra_row words.Association = association_row

-- the row of a descriptor of a set, by its bDescriptorType (table 9-5)
abbrev pub row_of : ℕ → Row
row_of kind =
    if kind == 2 then configuration_row (codes "configuration") 2
    else if kind == 4 then interface_row
    else if kind == 5 then endpoint_row
    else if kind == 7 then configuration_row (codes "other_speed") 7
    else extra_row (extra_word kind)

-- the line of a descriptor of a set
abbrev pub descriptor_line : Descriptor → List ℕ
descriptor_line d = row_line (row_of d.kind) (d.kind ∷ d.body)
