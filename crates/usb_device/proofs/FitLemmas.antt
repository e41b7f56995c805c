-- The numbers of a description fit their widths: each byte of its file is one of its image.
use Rattle.std.proofs.Common.{◌≡◌, ℕ, suc, ◌*◌, ◌≤◌, List, [], ◌∷◌, ◌++◌, false, length, take, drop, map, Option, Some, None, arith, subst, sym, refl}
use Rattle.std.specs.List.{AllByRecursion, flat_map}
use Rattle.std.proofs.lemmas.Grind.{flat_map-append}
use Rattle.std.proofs.lemmas.List.{length-drop, take-append-drop}
use Rattle.usb_fields.specs.Bytes.{AreBytes, little_endian}
use Rattle.usb_fields.specs.Device.{device_bytes, qualifier_bytes}
use Rattle.usb_fields.specs.Units.{units_bytes}
use Rattle.usb_fields.proofs.ByteParts.{bytes_append}
use Rattle.usb_file_data.specs.declared.file.DescriptorFile.{DescriptorFile}
use Rattle.usb_file_data.specs.declared.file.Other.{Other}
use Rattle.usb_file_data.specs.declared.file.Strings.{Strings}
use Rattle.usb_file_data.specs.File.{file_bytes, named_indices, other_bytes, sets_bytes, strings_bytes, whole_set}
use Rattle.usb_device.specs.Accepted.{has_wrong_strings}
use Rattle.usb_device.specs.Images.{Piece, header_bytes, image_bytes, piece_bytes, table_bytes}
use Rattle.usb_device.specs.FileImages.{file_pieces, front_pieces, image_of, indexed, language_pieces, other_pieces, places, speed_pieces, string_pieces}
use Rattle.usb_device.proofs.AcceptedLemmas.{texts_as_many}

left : (a b : List ℕ) → AreBytes (a ++ b) → AreBytes a
left [] b h = tt
left (x ∷ a) b h = (h.0, left a b h.1)

right : (a b : List ℕ) → AreBytes (a ++ b) → AreBytes b
right [] b h = h
right (x ∷ a) b h = right a b h.1

-- the bodies of pieces are bytes
abbrev HasBytes : Piece → Type 0
HasBytes p = AreBytes p.body

all_bodies : (ps : List Piece) → AreBytes (image_bytes ps) → AllByRecursion HasBytes ps
all_bodies [] h = tt
all_bodies (p ∷ ps) h =
    (right (header_bytes p.kind p.index p.number (length p.body)) p.body (left (piece_bytes p) (image_bytes ps) h), all_bodies ps (right (piece_bytes p) (image_bytes ps) h))

before : (a b : List Piece) → AllByRecursion HasBytes (a ++ b) → AllByRecursion HasBytes a
before [] b h = tt
before (p ∷ a) b h = (h.0, before a b h.1)

behind : (a b : List Piece) → AllByRecursion HasBytes (a ++ b) → AllByRecursion HasBytes b
behind [] b h = h
behind (p ∷ a) b h = behind a b h.1

indexed_fit : {X : Type 0} (bytes_of : X → List ℕ) (kind first : ℕ) (xs : List X) → AllByRecursion HasBytes (indexed kind first (map bytes_of xs)) → AreBytes (flat_map bytes_of xs)
unfolding indexed
indexed_fit bytes_of kind first [] h = tt
indexed_fit bytes_of kind first (x ∷ xs) h = bytes_append (bytes_of x) (flat_map bytes_of xs) h.0 (indexed_fit bytes_of kind (suc first) xs h.1)

others_fit : (o : Option Other) → AllByRecursion HasBytes (other_pieces o) → AreBytes (other_bytes o)
others_fit None h = tt
others_fit (Some o) h = bytes_append (qualifier_bytes o.qualifier) (sets_bytes o.sets) h.0 (indexed_fit whole_set 7 0 o.sets h.1)

languages_fit : (named languages : List ℕ) (texts : List (List ℕ)) → length texts ≤ length languages * length named → AllByRecursion HasBytes (language_pieces named languages texts) → AreBytes (flat_map units_bytes texts)
unfolding language_pieces
languages_fit named [] [] few h = tt
languages_fit named [] (u ∷ texts) few h = absurd (let no : ⊥ = omega (arith, few) in no)
languages_fit named (l ∷ languages) texts few h =
    let n = length named in
    let table = table_bytes (places 255 1 0 named texts) in
    let strings = flat_map units_bytes (take n texts) in
    let here : AreBytes strings = right table strings (right (little_endian (length table)) (table ++ strings) h.0) in
    let fewer : length (drop n texts) ≤ length languages * n = grind (arith, few, length-drop n texts) in
    let later = languages_fit named languages (drop n texts) fewer h.1 in
    subst (λ t. AreBytes (flat_map units_bytes t)) (take-append-drop n texts)
    (subst AreBytes (sym (flat_map-append units_bytes (take n texts) (drop n texts))) (bytes_append (flat_map units_bytes (take n texts)) (flat_map units_bytes (drop n texts)) here later))

strings_fit : (named : List ℕ) (o : Option Strings) → ((s : Strings) → o ≡ Some s → length s.texts ≡ length s.languages * length named) → AllByRecursion HasBytes (string_pieces named o) → AreBytes (strings_bytes o)
strings_fit named None many h = tt
strings_fit named (Some s) many h =
    let few : length s.texts ≤ length s.languages * length named = omega (arith, many s refl) in
    bytes_append (units_bytes s.languages) (flat_map units_bytes s.texts) h.0 (languages_fit named s.languages s.texts few h.1)

pub file_fits : (f : DescriptorFile) → has_wrong_strings f ≡ false → AreBytes (image_of f) → AreBytes (file_bytes f)
unfolding image_of
file_fits f right_strings h =
    let named = named_indices f in
    let sets = indexed 2 0 (map whole_set f.sets) in
    let all = all_bodies (file_pieces f) h in
    let speeds = before (speed_pieces f) (string_pieces named f.strings) all in
    let front = before (front_pieces f) (sets ++ other_pieces f.other) speeds in
    let both = behind (front_pieces f) (sets ++ other_pieces f.other) speeds in
    bytes_append (device_bytes f.device ++ sets_bytes f.sets ++ other_bytes f.other) (strings_bytes f.strings)
    (bytes_append (device_bytes f.device ++ sets_bytes f.sets) (other_bytes f.other)
    (bytes_append (device_bytes f.device) (sets_bytes f.sets) front.1.1.0 (indexed_fit whole_set 2 0 f.sets (before sets (other_pieces f.other) both)))
    (others_fit f.other (behind sets (other_pieces f.other) both)))
    (strings_fit named f.strings (λ s is. texts_as_many f s is right_strings) (behind (speed_pieces f) (string_pieces named f.strings) all))
