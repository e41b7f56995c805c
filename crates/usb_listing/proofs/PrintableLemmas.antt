-- A line that says a descriptor has only bytes that a line may have.
use Rattle.std.proofs.Common.{ℕ, ◌<◌, Bool, true, false, List, [], ◌∷◌, ◌++◌, Option, Some, None, length, drop, refl, sym, subst, codes}
use Rattle.std.specs.List.{AllByRecursion, flat_map}
use Rattle.hex.specs.Hex.{encode_with}
use Rattle.usb_fields.specs.Bytes.{AreBytes}
use Rattle.usb_fields.specs.declared.field.Width.{Width}
use Rattle.usb_fields.specs.declared.field.Width.TheVariants.{One, Two}
use Rattle.usb_listing.specs.Table.{written_field, Row}
use Rattle.usb_text.specs.Characters.{two_bytes}
use Rattle.usb_listing.specs.declared.word.Word.{Word}
use Rattle.usb_listing.specs.declared.word.Word.TheVariants as words
use Rattle.usb_listing.specs.declared.word.ExtraWord.TheVariants as extra
use Rattle.usb_listing.specs.declared.row.Written.{Written}
use Rattle.usb_listing.specs.declared.row.Written.TheVariants as forms
use Rattle.usb_listing.specs.Words.{word_text}
use Rattle.usb_listing.specs.Says.{IsItem, Item, Says, fields, item_word, languages, row_for, string}
use Rattle.usb_text.proofs.Printables.{Printable, digits_printable, encoded_printable, high_digit, joined, low_digit, two_fit, unit_printable}
use Rattle.usb_listing.proofs.RowLemmas.{body_text}
use Rattle.usb_fields.proofs.ByteParts.{bytes_back}
use Rattle.usb_listing.proofs.UnitLemmas.{IsUnit, written}
use Rattle.usb_listing.proofs.SaysLemmas.{fit_units, item_fields, line_of, row_text, said_is}

field_printable : (bytes : List ℕ) → AreBytes bytes → Printable (written_field bytes)
field_printable [] h = refl
field_printable (b ∷ bytes) h = encoded_printable (b ∷ bytes) h

value_printable : (form : Written) (u : ℕ) → u < 65536 → Printable (written form u)
value_printable forms.Unit u lt = unit_printable u lt
value_printable forms.Field u lt = field_printable (two_bytes u) (two_fit u lt)

values_printable : (form : Written) (us : List ℕ) → AllByRecursion IsUnit us → Printable (flat_map (written form) us)
values_printable form [] h = refl
values_printable form (u ∷ us) h = joined (written form u) (flat_map (written form) us) (value_printable form u h.0) (values_printable form us h.1)

word_printable : (w : Word) → Printable (word_text w)
word_printable words.Device = refl
word_printable (words.Extra extra.Raw) = refl
word_printable w = refl

body_printable : (widths : List Width) (tail : Bool) (body : List ℕ) → AreBytes body → Printable (body_text widths tail body)
unfolding encode_with
body_printable [] true body h = joined (written_field body) [] (field_printable body h) refl
body_printable [] false body h = refl
body_printable (One ∷ widths) tail [] h = refl
body_printable (One ∷ widths) tail (x ∷ body) h = digits_printable x (body_text widths tail body) h.0 (body_printable widths tail body h.1)
body_printable (Two ∷ widths) tail [] h = refl
body_printable (Two ∷ widths) tail (x ∷ []) h = refl
body_printable (Two ∷ widths) tail (low ∷ high ∷ body) h =
    digits_printable high (high_digit low ∷ low_digit low ∷ body_text widths tail body) h.1.0 (digits_printable low (body_text widths tail body) h.0 (body_printable widths tail body h.1.1))

row_printable : (o : Option Row) (b : List ℕ) → AreBytes b → Printable (row_text o b)
row_printable None b h = refl
row_printable (Some row) b h = body_printable row.widths row.tail (drop (length row.front) (drop 1 b)) (bytes_back (length row.front) (drop 1 b) (bytes_back 1 b h))

fields_printable : (item : Item) → IsItem item → Printable (item_fields item)
fields_printable (fields w b) is = row_printable (row_for w) b is.0
fields_printable (languages us) is = values_printable forms.Field us (fit_units us is.0.1.1)
fields_printable (string us) is =
    joined (codes " \"" ++ flat_map (written forms.Unit) us) (codes "\"") (values_printable forms.Unit us (fit_units us is.1.1)) refl

pub line_of-printable : (item : Item) → IsItem item → Printable (line_of item)
line_of-printable item is = joined (word_text (item_word item)) (item_fields item) (word_printable (item_word item)) (fields_printable item is)

pub said_printable : (line : List ℕ) (item : Item) → Says line item → Printable line
said_printable line item says = subst Printable (sym (said_is line item says)) (line_of-printable item says.is_item)
