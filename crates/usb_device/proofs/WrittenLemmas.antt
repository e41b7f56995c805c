-- What is written of a file, one part after another.
use Rattle.std.proofs.Common.{◌≡◌, ℕ, zero, suc, ◌+◌, ◌<◌, ◌≤◌, Bool, false, List, [], ◌∷◌, ◌++◌, length, drop, take, get_or, map, refl, ap, subst, sym, ◌∙◌, arith}
use Rattle.std.specs.List.{list_any}
use Rattle.std.proofs.lemmas.Grind.{common_steps, flat_map-append}
use Rattle.std.proofs.lemmas.List.{append_assoc, append-nil}
use Rattle.usb_set.specs.declared.tree.Configuration.{Configuration}
use Rattle.usb_file_data.specs.declared.file.DescriptorFile.{DescriptorFile}
use Rattle.usb_file_data.specs.File.{named_indices, whole_set}
use Rattle.usb_device.specs.Images.{Piece, image_bytes, piece_bytes}
use Rattle.usb_device.specs.FileImages.{front_pieces, image_of, indexed, keyed, other_pieces, speed_pieces, string_pieces}
use Rattle.usb_device.proofs.LongLemmas.{drop-get}

-- three pieces, one after another
pub three : (a b c : Piece) → piece_bytes a ++ piece_bytes b ++ piece_bytes c ≡ image_bytes (a ∷ b ∷ c ∷ [])
three a b c =
    append_assoc (piece_bytes a) (piece_bytes b) (piece_bytes c)
    ∙ ap (λ z. piece_bytes a ++ (piece_bytes b ++ z)) (sym (append-nil (piece_bytes c)))

pub speeds_written : (f : DescriptorFile) → image_bytes (front_pieces f) ++ image_bytes (indexed 2 0 (map whole_set f.sets)) ++ image_bytes (other_pieces f.other) ≡ image_bytes (speed_pieces f)
speeds_written f =
    append_assoc (image_bytes (front_pieces f)) (image_bytes (indexed 2 0 (map whole_set f.sets))) (image_bytes (other_pieces f.other))
    ∙ ap (λ b. image_bytes (front_pieces f) ++ b) (sym (flat_map-append piece_bytes (indexed 2 0 (map whole_set f.sets)) (other_pieces f.other)))
    ∙ sym (flat_map-append piece_bytes (front_pieces f) (indexed 2 0 (map whole_set f.sets) ++ other_pieces f.other))

pub file_written : (f : DescriptorFile) → image_bytes (speed_pieces f) ++ image_bytes (string_pieces (named_indices f) f.strings) ≡ image_of f
unfolding image_of
file_written f = sym (flat_map-append piece_bytes (speed_pieces f) (string_pieces (named_indices f) f.strings))

-- one set more
pub set_more : (kind i : ℕ) (sets : List Configuration) (c : Configuration) → i < length sets →
    image_bytes (indexed kind i (map whole_set (drop i sets))) ≡ piece_bytes (keyed kind i (whole_set (get_or sets i c))) ++ image_bytes (indexed kind (i + 1) (map whole_set (drop (i + 1) sets)))
unfolding indexed
set_more kind i sets c within =
    let e : suc i ≡ i + 1 = omega arith in
    rw (drop-get i sets c within) (ap (λ n. piece_bytes (keyed kind i (whole_set (get_or sets i c))) ++ image_bytes (indexed kind n (map whole_set (drop (i + 1) sets)))) e)

pub no_sets : (kind first i : ℕ) (sets : List Configuration) → length sets ≤ i → indexed kind first (map whole_set (drop i sets)) ≡ []
unfolding indexed
no_sets kind first zero [] ends = refl
no_sets kind first (suc i) [] ends = refl
no_sets kind first zero (c ∷ sets) ends = absurd (let no : ⊥ = omega (arith, ends) in no)
no_sets kind first (suc i) (c ∷ sets) ends = no_sets kind first i sets (omega (arith, ends))

pub none_next : {X : Type 0} (p : X → Bool) (i : ℕ) (xs : List X) (d : X) → list_any p (take i xs) ≡ false → p (get_or xs i d) ≡ false → i < length xs → list_any p (take (i + 1) xs) ≡ false
none_next p i [] d none last within = absurd (let no : ⊥ = omega (arith, within) in no)
none_next p zero (x ∷ xs) d none last within = let e : 0 + 1 ≡ suc zero = refl in subst (λ (n : ℕ). list_any p (take n (x ∷ xs)) ≡ false) (sym e) (rw last refl)
none_next p (suc i) (x ∷ xs) d none last within =
    let e : suc i + 1 ≡ suc (i + 1) = omega arith in
    let h = none_next p i xs d in grind (arith, common_steps, e, none, last, within, h)
