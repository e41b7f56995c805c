-- The lines of a file are those of its descriptors.
use Rattle.std.proofs.Common.{◌≡◌, ℕ, eqb, Bool, true, false, List, [], ◌∷◌, ◌++◌, map, Option, Some, None, refl, ap, sym, ◌∙◌}
use Rattle.std.specs.List.{flat_map, list_any}
use Rattle.std.proofs.lemmas.Bool.{or_parts}
use Rattle.std.proofs.lemmas.List.Concat.{flat_map-append}
use Rattle.usb_fields.specs.Device.{device_bytes}
use Rattle.usb_set.specs.Descriptors.{Descriptor}
use Rattle.usb_set.specs.Layout.{has_typed_raw, set_descriptors}
use Rattle.usb_set.specs.declared.tree.Configuration.{Configuration}
use Rattle.usb_file_data.specs.declared.file.DescriptorFile.{DescriptorFile}
use Rattle.usb_file_data.specs.declared.file.Other.{Other}
use Rattle.usb_file_data.specs.declared.file.Strings.{Strings}
use Rattle.usb_file_data.specs.File.{other_sets}
use Rattle.usb_listing.specs.Listing.{device_line, file_lines, other_lines, qualifier_line, set_lines, languages_line, string_line, strings_lines}
use Rattle.usb_listing.specs.Table.{descriptor_line, row_of}
use Rattle.usb_listing.proofs.LineLemmas.{set_is}
use Rattle.usb_listing.specs.declared.word.Word.TheVariants as words
use Rattle.usb_listing.specs.Says.{Item, fields, item_line, row_for, string}
use Rattle.usb_listing.specs.Order.{IsOrdered, file_items, other_items, set_item, set_items, strings_items, type_word}

abbrev lines : List Item → List ℕ
lines xs = flat_map item_line xs

-- the row of a type is that of its word
row_is : (kind : ℕ) → row_for (type_word kind) ≡ Some (row_of kind)
row_is kind = cases (eqb kind 2) (eqb kind 4) (eqb kind 5) (eqb kind 7) refl refl refl refl
  where
    cases : (a b c d : Bool) → eqb kind 2 ≡ a → eqb kind 4 ≡ b → eqb kind 5 ≡ c → eqb kind 7 ≡ d → row_for (type_word kind) ≡ Some (row_of kind)
    cases true b c d ea eb ec ed = rw ea refl
    cases false true c d ea eb ec ed = rw (ea, eb) refl
    cases false false true d ea eb ec ed = rw (ea, eb, ec) refl
    cases false false false true ea eb ec ed = rw (ea, eb, ec, ed) refl
    cases false false false false ea eb ec ed = rw (ea, eb, ec, ed) refl

descriptor_is : (d : Descriptor) → item_line (set_item d) ≡ descriptor_line d
descriptor_is d = rw (row_is d.kind) refl

descriptors_are : (ds : List Descriptor) → lines (map set_item ds) ≡ flat_map descriptor_line ds
descriptors_are [] = refl
descriptors_are (d ∷ ds) = rw (descriptor_is d, descriptors_are ds) refl

sets_are : (cs : List Configuration) → list_any has_typed_raw cs ≡ false → lines (flat_map set_items cs) ≡ flat_map set_lines cs
sets_are [] e = refl
sets_are (c ∷ cs) e =
    let parts = or_parts (has_typed_raw c) (list_any has_typed_raw cs) e in
    flat_map-append item_line (set_items c) (flat_map set_items cs)
    ∙ ap (λ (xs : List ℕ). xs ++ lines (flat_map set_items cs)) (descriptors_are (set_descriptors c 0) ∙ sym (set_is c 0 parts.0))
    ∙ ap (λ (xs : List ℕ). set_lines c ++ xs) (sets_are cs parts.1)

other_are : (o : Option Other) → list_any has_typed_raw (other_sets o) ≡ false → lines (other_items o) ≡ other_lines o
unfolding qualifier_line
other_are None e = refl
other_are (Some o) e = ap (λ (xs : List ℕ). qualifier_line o.qualifier ++ xs) (sets_are o.sets e)

texts_are : (us : List (List ℕ)) → lines (map string us) ≡ flat_map string_line us
texts_are [] = refl
texts_are (u ∷ us) = ap (λ (xs : List ℕ). string_line u ++ xs) (texts_are us)

strings_are : (s : Option Strings) → lines (strings_items s) ≡ strings_lines s
strings_are None = refl
strings_are (Some s) = ap (λ (xs : List ℕ). languages_line s.languages ++ xs) (texts_are s.texts)

-- two parts, each with its lines
two : (a b : List Item) (s t : List ℕ) → lines a ≡ s → lines b ≡ t → lines (a ++ b) ≡ s ++ t
two a b s t ea eb = flat_map-append item_line a b ∙ ap (λ (xs : List ℕ). xs ++ lines b) ea ∙ ap (λ (xs : List ℕ). s ++ xs) eb

pub lines_are : (f : DescriptorFile) → IsOrdered f → file_lines f ≡ flat_map item_line (file_items f)
unfolding device_line
lines_are f h =
    let raws = or_parts (list_any has_typed_raw f.sets) (list_any has_typed_raw (other_sets f.other)) h.raws in
    let front = fields words.Device (device_bytes f.device) ∷ flat_map set_items f.sets in
    sym (two (front ++ other_items f.other) (strings_items f.strings) _ _
    (two front (other_items f.other) _ _ (ap (λ (xs : List ℕ). device_line f.device ++ xs) (sets_are f.sets raws.0)) (other_are f.other raws.1)) (strings_are f.strings))
