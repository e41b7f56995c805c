-- The characters that name a GUID are words.
use Rattle.std.proofs.Common.{◌≡◌, ℕ, List, [], ◌∷◌, IsTrue, true, arith, drop, nat_eq, refl, take}
use Rattle.std.specs.Cmp.Lexicographic.{pointwise}
use Rattle.std.specs.List.{list_all}
use Rattle.std.proofs.lemmas.Bool.{and_parts}
use Rattle.std.proofs.lemmas.Bool.Decides.{nat_tests}
use Rattle.usb_text.specs.Lines.{is_printable}
use Rattle.usb_text.specs.Written.{is_words}
use Rattle.usb_explain.specs.Names.{after_characters, has_characters, is_letter_or_digit}

letter_prints : (c : ℕ) → is_letter_or_digit c ≡ true → is_printable c ≡ true
letter_prints c h = grind (arith, nat_tests)

letters_are_words : (xs : List ℕ) → list_all is_letter_or_digit xs ≡ true → is_words xs ≡ true
letters_are_words [] h = refl
letters_are_words (x ∷ xs) h =
    let p = and_parts (is_letter_or_digit x) (list_all is_letter_or_digit xs) h in
    rw (letter_prints x p.0, letters_are_words xs p.1) refl

pub characters_are_words : (b : List ℕ) → has_characters b ≡ true → IsTrue (is_words (take 4 b))
characters_are_words b h =
    letters_are_words (take 4 b) (and_parts (pointwise nat_eq (drop 4 b) after_characters) (list_all is_letter_or_digit (take 4 b)) h).1
