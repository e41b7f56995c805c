-- The order of a listing: the descriptors of a file, and which may come next.
use Rattle.std.specs.Prelude.{◌≡◌, ℕ, List, [], ◌∷◌, ◌++◌, map, Bool, false, nat_lt, ◌==◌, ◌||◌, Option, Some, None, if◌then◌else◌}
use Rattle.std.specs.List.{AllByRecursion, flat_map, list_any}
use Rattle.usb_fields.specs.Device.{device_bytes, qualifier_bytes}
use Rattle.usb_set.specs.declared.tree.Configuration.{Configuration}
use Rattle.usb_set.specs.Descriptors.{Descriptor, descriptor_bytes}
use Rattle.usb_set.specs.Layout.{set_length, has_typed_raw, set_descriptors}
use Rattle.usb_file_data.specs.declared.file.DescriptorFile.{DescriptorFile}
use Rattle.usb_file_data.specs.declared.file.Other.{Other}
use Rattle.usb_file_data.specs.declared.file.Strings.{Strings}
use Rattle.usb_file_data.specs.File.{has_wrong_kind, other_sets}
use Rattle.usb_file_data.specs.Front.{IsInOrder}
use Rattle.usb_listing.specs.Table.{extra_word}
use Rattle.usb_listing.specs.declared.word.Word.{Word}
use Rattle.usb_listing.specs.declared.word.Word.TheVariants as words
use Rattle.usb_listing.specs.Says.{Item, IsItem, fields, item_word, languages, string}

-- the word of a descriptor of a set, by its bDescriptorType (USB 2.0, table 9-5)
abbrev pub type_word : ℕ → Word
type_word kind =
    if kind == 2 then words.Configuration
    else if kind == 4 then words.Interface
    else if kind == 5 then words.Endpoint
    else if kind == 7 then words.OtherSpeed
    else words.Extra (extra_word kind)

abbrev pub set_item : Descriptor → Item
set_item d = fields (type_word d.kind) (descriptor_bytes d)

-- the descriptors of a set
abbrev pub set_items : Configuration → List Item
set_items c = map set_item (set_descriptors c 0)

-- the qualifier and the sets of the other speed, if there is one
abbrev pub other_items : Option Other → List Item
other_items None = []
other_items (Some o) = fields words.Qualifier (qualifier_bytes o.qualifier) ∷ flat_map set_items o.sets

-- the language list and the strings, if there are any
abbrev pub strings_items : Option Strings → List Item
strings_items None = []
strings_items (Some s) = languages s.languages ∷ map string s.texts

-- the descriptors of a file
abbrev pub file_items : DescriptorFile → List Item
file_items f = fields words.Device (device_bytes f.device) ∷ flat_map set_items f.sets ++ other_items f.other ++ strings_items f.strings

-- A file in order, as far as it is there, however long its sets are: a line can say each of its descriptors, each set is
-- of its part's kind, and each part comes only where those before it are all there.
pub record IsOrdered (f : DescriptorFile) : Type 0 where
  pub said : AllByRecursion IsItem (file_items f)
  pub raws : (list_any has_typed_raw f.sets || list_any has_typed_raw (other_sets f.other)) ≡ false
  pub kinds : has_wrong_kind f ≡ false
  pub order : IsInOrder f f.other f.strings

-- whether a set has more bytes than wTotalLength can say
abbrev pub is_over : Configuration → Bool
is_over c = nat_lt 65535 (set_length c)

abbrev pub has_over : DescriptorFile → Bool
has_over f = list_any is_over f.sets || list_any is_over (other_sets f.other)

-- the descriptors so far, one for each line
abbrev pub items_of : Option DescriptorFile → List Item
items_of None = []
items_of (Some f) = file_items f

-- The file has the descriptors so far and this one after them.
pub record IsOneMore (so_far : Option DescriptorFile) (item : Item) (f : DescriptorFile) : Type 0 where
  pub ordered : IsOrdered f
  pub items : file_items f ≡ items_of so_far ++ item ∷ []

-- a line with this word may stand next: some file has the descriptors so far and one of this word after them
pub record MayStand (so_far : Option DescriptorFile) (word : Word) : Type 0 where
  pub item : Item
  pub file : DescriptorFile
  pub more : IsOneMore so_far item file
  pub word_is : item_word item ≡ word
