-- What one line of a listing says: one descriptor of a file.
use Rattle.std.specs.Prelude.{◌≡◌, ◌≢◌, ℕ, ◌+◌, List, [], ◌∷◌, ◌++◌, codes, Bool, drop, false, length, slice_index, Option, Some, None}
use Rattle.usb_fields.specs.Bytes.{AreBytes}
use Rattle.usb_fields.specs.Fields.{Fills}
use Rattle.usb_fields.specs.Units.{units_bytes}
use Rattle.usb_set.specs.Layout.{is_typed}
use Rattle.usb_listing.specs.Listing.{languages_line, string_line}
use Rattle.usb_listing.specs.Table.{Row, configuration_row, device_row, endpoint_row, extra_row, interface_row, qualifier_row, row_line}
use Rattle.usb_listing.specs.declared.word.Word.{Word}
use Rattle.usb_listing.specs.declared.word.Word.TheVariants as words
use Rattle.usb_listing.specs.declared.word.ExtraWord.TheVariants as extra

-- A descriptor that has a line of its own.
pub data Item : Type 0 where
  -- one whose line says its fields: the word of its line, and its bytes, where wTotalLength counts as 0
  fields : (word : Word) → (bytes : List ℕ) → Item
  -- the language list, by its language codes, and a string, by its units (USB 2.0, 9.6.7)
  languages : (codes : List ℕ) → Item
  string : (units : List ℕ) → Item

-- the word of its line
abbrev pub item_word : Item → Word
item_word (fields word b) = word
item_word (languages us) = words.Languages
item_word (string us) = words.String

-- the row of a word whose line says fields
abbrev pub row_for : Word → Option Row
row_for words.Device = Some device_row
row_for words.Configuration = Some (configuration_row (codes "configuration") 2)
row_for words.OtherSpeed = Some (configuration_row (codes "other_speed") 7)
row_for words.Interface = Some interface_row
row_for words.Endpoint = Some endpoint_row
row_for (words.Extra x) = Some (extra_row x)
row_for words.Qualifier = Some qualifier_row
row_for words.Languages = None
row_for words.String = None

-- The bytes are a descriptor of this row: bLength, which counts them, what the line leaves out, and a body that has each
-- field, and more only where there may be a tail.
pub record HasRow (row : Row) (b : List ℕ) : Type 0 where
  pub body : List ℕ
  pub whole : b ≡ (1 + length row.front + length body) ∷ row.front ++ body
  pub fills : Fills row.widths row.tail body

-- the same of the row of a word, where it has one
abbrev pub IsOfRow : Option Row → List ℕ → Type 0
IsOfRow None b = ⊥
IsOfRow (Some row) b = HasRow row b

-- whether it is a raw descriptor of a type that a set reads
abbrev pub is_typed_raw : Word → List ℕ → Bool
is_typed_raw (words.Extra extra.Raw) b = is_typed (slice_index b 1)
is_typed_raw word b = false

-- A descriptor that a line can say. Each of its bytes is one, bLength among them, so that none is longer than a descriptor
-- can be. No raw one has a type that a set reads, and a language list has a language.
abbrev pub IsItem : Item → Type 0
IsItem (fields word b) = AreBytes b × IsOfRow (row_for word) b × (is_typed_raw word b ≡ false)
IsItem (languages us) = AreBytes (units_bytes us) × (us ≢ [])
IsItem (string us) = AreBytes (units_bytes us)

-- the line of the bytes after bLength, by the row
abbrev pub fields_line : Option Row → List ℕ → List ℕ
fields_line None b = []
fields_line (Some row) b = row_line row (drop 1 b)

-- the line of a descriptor, with its line feed
abbrev pub item_line : Item → List ℕ
item_line (fields word b) = fields_line (row_for word) b
item_line (languages us) = languages_line us
item_line (string us) = string_line us

-- the line, without its line feed, says this descriptor
pub record Says (line : List ℕ) (item : Item) : Type 0 where
  pub is_item : IsItem item
  pub text : line ++ codes "\n" ≡ item_line item
