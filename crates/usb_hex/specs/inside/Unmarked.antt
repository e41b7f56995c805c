-- Texts in which nothing is left out.
use Rattle.std.specs.Prelude.{ℕ, ◌||◌, Bool, false, not, if◌then◌else◌, List, slice_index, Option, None}
use Rattle.usb_hex.specs.Brackets.{has}
use Rattle.usb_hex.specs.Literals.{literal_in}
use Rattle.usb_hex.specs.SourceItems.{is_decimal}

-- no mark of a comment, a quoted mail or a fence, and no byte of a byte order mark
abbrev pub has_no_mark : List ℕ → Bool
has_no_mark text =
    not (has 47 text || has 35 text || has 96 text || has 62 text || has 239 text || has 187 text || has 191 text)

-- Neither a colon, as a label has, nor a quote, as a declaration has, nor a `b`, as the name of each directive has; and no
-- backslash, which may end a line.
abbrev pub has_no_label : List ℕ → Bool
has_no_label text = not (has 58 text || has 39 text || has 34 text || has 92 text || has 98 text || has 66 text)

-- the text from the quote of its literal on, where no number begins the text
abbrev pub literal_at : List ℕ → Option (List ℕ)
literal_at start = if is_decimal (slice_index start 0) then None else literal_in false start
