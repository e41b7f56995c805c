-- What is shown, one thing after another.
use Rattle.std.proofs.Common.{◌≡◌, ℕ, ◌+◌, List, [], ◌∷◌, ◌++◌, refl, ap, ◌∙◌, arith}
use Rattle.usb_text.specs.Shown.{Shown, Number, Bytes, Units, Name, Indent, End, ends, showing_all, with_shown}
use Rattle.usb_text.specs.Written.{Written, more_lines}

pub showing_joined : {S : Type 0} (showing : Shown → S → S) (xs ys : List Shown) (seen : S)
    → showing_all showing (xs ++ ys) seen ≡ showing_all showing ys (showing_all showing xs seen)
showing_joined showing [] ys seen = refl
showing_joined showing (x ∷ xs) ys seen = showing_joined showing xs ys (showing x seen)

-- lines, with as many more as ended
pub shown_lines : (shown : List Shown) (lines : Written) → showing_all with_shown shown lines ≡ more_lines (ends shown) lines
shown_lines [] lines = let none : lines.ended ≡ lines.ended + 0 = omega arith in ap (λ (n : ℕ). record { utf8 = lines.utf8; ended = n }) none
shown_lines (End ∷ rest) lines = shown_lines rest (more_lines 1 lines) ∙ (let count : lines.ended + 1 + ends rest ≡ lines.ended + (1 + ends rest) = omega arith in ap (λ (n : ℕ). record { utf8 = lines.utf8; ended = n }) count)
shown_lines (Number n ∷ rest) lines = shown_lines rest lines
shown_lines (Bytes b ∷ rest) lines = shown_lines rest lines
shown_lines (Units u ∷ rest) lines = shown_lines rest lines
shown_lines (Name n ∷ rest) lines = shown_lines rest lines
shown_lines (Indent n ∷ rest) lines = shown_lines rest lines
