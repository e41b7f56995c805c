-- Lines: which bytes they have, how many have ended, and what a writer gained of them.
use Rattle.std.specs.Prelude.{◌≡◌, ℕ, ◌+◌, ◌<◌, Bool, true, ◌||◌, ◌&&◌, nat_le, List, [], ◌∷◌, ◌++◌, count_by}
use Rattle.std.specs.List.{list_all}
use Rattle.std.specs.Io.KnownBytes.{Appends}
use Rattle.usb_text.specs.Lines.{is_line_feed, is_printable}
use Rattle.usb_text.specs.Output.{Held}

-- words: printable characters of ASCII
abbrev pub is_words : List ℕ → Bool
is_words words = list_all is_printable words

-- a byte of a line: such a character or, with characters beyond ASCII, a byte of one
abbrev pub is_of_line : Bool → ℕ → Bool
is_of_line utf8 x = is_printable x || (utf8 && nat_le 128 x)

-- a byte of lines: one of a line, or the line feed that ends it
abbrev pub is_of_lines : Bool → ℕ → Bool
is_of_lines utf8 x = is_of_line utf8 x || is_line_feed x

-- lines, with characters beyond ASCII or without, and their bytes
pub record LineBytes : Type 0 where
  pub utf8 : Bool
  pub bytes : List ℕ

-- no lines
abbrev pub no_lines : Bool → LineBytes
no_lines utf8 = record { utf8 = utf8; bytes = [] }

-- lines with these bytes put after theirs
abbrev pub with_bytes : LineBytes → List ℕ → LineBytes
with_bytes lines more = record { utf8 = lines.utf8; bytes = lines.bytes ++ more }

-- how many lines have ended
pub record Written : Type 0 where
  pub utf8 : Bool
  pub ended : ℕ

abbrev pub written : LineBytes → Written
written lines = record { utf8 = lines.utf8; ended = count_by is_line_feed lines.bytes }

-- with `count` lines more
abbrev pub more_lines : ℕ → Written → Written
more_lines count lines = record { utf8 = lines.utf8; ended = lines.ended + count }

-- a text that is empty or ends with a line feed
abbrev pub is_whole : List ℕ → Bool
is_whole [] = true
is_whole (x ∷ []) = is_line_feed x
is_whole (x ∷ y ∷ rest) = is_whole (y ∷ rest)

-- a text of `count` lines, each of which has ended
pub record AreLines (utf8 : Bool) (count : ℕ) (text : List ℕ) : Type 0 where
  pub characters : list_all (is_of_lines utf8) text ≡ true
  pub ended : count_by is_line_feed text ≡ count
  pub whole : is_whole text ≡ true

-- the writer gained `count` lines
pub record WritesLines (utf8 : Bool) (count : ℕ) (old new : Held) : Type 0 where
  pub text : List ℕ
  pub lines : AreLines utf8 count text
  pub written : Appends old new text

-- the writer gained fewer lines, and maybe a part of the next
pub record WritesLess (utf8 : Bool) (count : ℕ) (old new : Held) : Type 0 where
  pub front : List ℕ
  pub characters : list_all (is_of_lines utf8) front ≡ true
  pub fewer : count_by is_line_feed front < count
  pub written : Appends old new front

-- the writer gained fewer lines, each of them whole
pub record WritesFewer (utf8 : Bool) (count : ℕ) (old new : Held) : Type 0 where
  pub gained : ℕ
  pub fewer : gained < count
  pub written : WritesLines utf8 gained old new

-- This many lines were put after those that there were. The writer gained some of all these, and the others are left.
pub record PutsLines (old new : Held) (before after : Written) (count : ℕ) : Type 0 where
  pub gained : ℕ
  pub parts : before.ended + count ≡ gained + after.ended
  pub same : after.utf8 ≡ before.utf8
  pub written : WritesLines before.utf8 gained old new
