-- Strings, and the pieces of languages.
use Rattle.std.proofs.Common.{◌≡◌, ℕ, zero, suc, ◌+◌, ◌*◌, ◌<◌, ◌≤◌, List, [], ◌∷◌, ◌++◌, false, length, drop, get_or, refl, arith}
use Rattle.std.specs.List.{list_any, flat_map}
use Rattle.std.proofs.lemmas.Grind.{common_steps}
use Rattle.usb_fields.specs.Bytes.{little_endian}
use Rattle.usb_fields.specs.Units.{units_bytes}
use Rattle.usb_file_data.specs.File.{is_long_string}
use Rattle.usb_device.specs.Images.{image_bytes, piece_bytes}
use Rattle.usb_device.specs.FileImages.{language_bytes, language_pieces}

flat_long : (u : List ℕ) → length (flat_map little_endian u) ≡ 2 * length u
flat_long [] = refl
flat_long (n ∷ u) = let h = flat_long u in omega (arith, h)

pub units_long : (u : List ℕ) → length (units_bytes u) ≡ 2 + 2 * length u
units_long u = omega (arith, flat_long u)

-- none of them is long
pub short_at : (xs : List (List ℕ)) (i : ℕ) (d : List ℕ) → list_any is_long_string xs ≡ false → i < length xs → is_long_string (get_or xs i d) ≡ false
short_at [] i d none within = absurd (omega (arith, within))
short_at (x ∷ xs) zero d none within = grind (arith, common_steps, none)
short_at (x ∷ xs) (suc i) d none within =
    let h = short_at xs i d in grind (arith, common_steps, none, h)

pub short_after : (n : ℕ) (xs : List (List ℕ)) → list_any is_long_string xs ≡ false → list_any is_long_string (drop n xs) ≡ false
short_after zero xs none = none
short_after (suc n) [] none = refl
short_after (suc n) (x ∷ xs) none = let h = short_after n xs in grind (arith, common_steps, none, h)

-- what is left at a place, and what after it
pub drop-get : {X : Type 0} (i : ℕ) (xs : List X) (d : X) → i < length xs → drop i xs ≡ get_or xs i d ∷ drop (i + 1) xs
drop-get i [] d within = absurd (omega (arith, within))
drop-get zero (x ∷ xs) d within = refl
drop-get (suc i) (x ∷ xs) d within = let e : suc i + 1 ≡ suc (i + 1) = omega arith in rw e (drop-get i xs d (omega (arith, within)))

-- one language more
pub language_more : (named languages : List ℕ) (i : ℕ) (texts : List (List ℕ)) (l : ℕ) → i < length languages →
    image_bytes (language_pieces named (drop i languages) texts) ≡ piece_bytes (record { kind = 128; index = 0; number = get_or languages i l; body = language_bytes named texts }) ++ image_bytes (language_pieces named (drop (i + 1) languages) (drop (length named) texts))
unfolding language_pieces
language_more named languages i texts l a = rw (drop-get i languages l a) refl

pub no_languages : (named languages : List ℕ) (i : ℕ) (texts : List (List ℕ)) → length languages ≤ i → language_pieces named (drop i languages) texts ≡ []
unfolding language_pieces
no_languages named [] zero texts ends = refl
no_languages named [] (suc i) texts ends = refl
no_languages named (l ∷ languages) zero texts ends = absurd (let no : ⊥ = omega (arith, ends) in no)
no_languages named (l ∷ languages) (suc i) texts ends = no_languages named languages i texts (omega (arith, ends))
