-- What lines show, apart from their words.
use Rattle.std.specs.Prelude.{ℕ, ◌+◌, List, [], ◌∷◌}
use Rattle.usb_text.specs.Written.{Written, more_lines}

-- what is shown in a line, and that the line is ended
pub data Shown : Type 0 where
  -- a number, in digits or as a code
  Number : ℕ → Shown
  -- bytes, each in two hexadecimal digits
  Bytes : List ℕ → Shown
  -- the units of a string
  Units : List ℕ → Shown
  -- a name, or other characters that are not of the line's own words
  Name : List ℕ → Shown
  -- this many spaces, at the start of a line
  Indent : ℕ → Shown
  End : Shown

-- what is seen of lines: how many have ended
abbrev pub with_shown : Shown → Written → Written
with_shown End lines = more_lines 1 lines
with_shown shown lines = lines

-- what is seen where all of these are shown, one after another
abbrev pub showing_all : {S : Type 0} → (Shown → S → S) → List Shown → S → S
showing_all showing [] seen = seen
showing_all showing (shown ∷ rest) seen = showing_all showing rest (showing shown seen)

-- how many lines are ended
abbrev pub ends : List Shown → ℕ
ends [] = 0
ends (End ∷ rest) = 1 + ends rest
ends (shown ∷ rest) = ends rest
