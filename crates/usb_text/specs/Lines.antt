-- The columns of a line, and the bytes that it may have.
use Rattle.std.specs.Prelude.{ℕ, Bool, nat_le, ◌&&◌, ◌==◌, List, ◌++◌, ◌-◌, length, max, replicate}

-- The bytes that a line of text may have.

-- whether a line may have the byte: 20 to 7e hexadecimal
abbrev pub is_printable : ℕ → Bool
is_printable x = nat_le 32 x && nat_le x 126

abbrev pub is_line_feed : ℕ → Bool
is_line_feed c = c == 10

-- Columns of a text.

-- what fills a column of this width where so much of it is used: spaces to the width, and at least one
abbrev pub filling : ℕ → ℕ → List ℕ
filling width used = replicate (max (width - used) 1) 32

-- words in a column of this width
abbrev pub column : ℕ → List ℕ → List ℕ
column width words = words ++ filling width (length words)
