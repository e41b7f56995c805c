-- What is no code in a text, as a program's source and a mail have it.
--
-- Comments are those of C and Rust, and what follows `# `, but for the conditions of C; a mail quotes with `>` before a line, and a line that begins
-- with three back quotes is a fence of Markdown.
use Rattle.std.specs.Prelude.{ℕ, ◌==◌, ◌||◌, ◌&&◌, Bool, false, not, true, if◌then◌else◌, List, [], ◌∷◌, codes, slice_index}
use Rattle.usb_hex.specs.Columns.{after_all, is_before_line, is_blank, is_fence, is_order_mark}
use Rattle.usb_hex.specs.SourceItems.{begins_line_end, begins_word}
use Rattle.usb_hex.specs.declared.comment.Place.{Place}
use Rattle.usb_hex.specs.declared.comment.Place.TheVariants.{Start, Code, LineComment, Opening, Comment, Closing}

-- a text begins with a name
abbrev pub begins_word_of : List ℕ → List ℕ → Bool
begins_word_of [] text = not (begins_word text)
begins_word_of (letter ∷ name) [] = false
begins_word_of (letter ∷ name) (c ∷ rest) = (c == letter) && begins_word_of name rest

-- A directive of C says which lines are code, or takes lines of another file: `if`, `ifdef`, `ifndef`, `elif`, `else`, `endif` or
-- `include`.
abbrev pub chooses_lines : List ℕ → Bool
chooses_lines text =
    begins_word_of (codes "if") text || begins_word_of (codes "ifdef") text || begins_word_of (codes "ifndef") text
    || begins_word_of (codes "elif") text || begins_word_of (codes "else") text || begins_word_of (codes "endif") text
    || begins_word_of (codes "include") text

-- two slashes; or a number sign and a space, and no such directive
abbrev pub begins_line_comment : ℕ → List ℕ → Bool
begins_line_comment c rest =
    ((c == 47) && (slice_index rest 0 == 47))
    || ((c == 35) && (slice_index rest 0 == 32) && not (chooses_lines (after_all is_blank rest)))

-- a slash and a star
abbrev pub begins_comment : ℕ → List ℕ → Bool
begins_comment c rest = (c == 47) && (slice_index rest 0 == 42)

-- a star and a slash
abbrev pub ends_comment : ℕ → List ℕ → Bool
ends_comment c rest = (c == 42) && (slice_index rest 0 == 47)

abbrev pub after_code : ℕ → List ℕ → Place
after_code c rest =
    if c == 10 then Start
    else if begins_line_comment c rest then LineComment
    else if begins_comment c rest then Opening
    else Code

abbrev pub after_start : ℕ → List ℕ → Place
after_start c rest =
    if is_before_line c then Start
    else if is_fence c rest then LineComment
    else after_code c rest

-- what the character after this one is in, which is in this place itself and has the rest after it
abbrev pub after : Place → ℕ → List ℕ → Place
after Start c rest = after_start c rest
after Code c rest = after_code c rest
after LineComment c rest = if c == 10 then Start else LineComment
after Opening c rest = Comment
after Comment c rest = if ends_comment c rest then Closing else Comment
after Closing c rest = Code

abbrev pub is_code_here : ℕ → List ℕ → Bool
is_code_here c rest = not (begins_line_comment c rest || begins_comment c rest || is_order_mark c)

-- the character is code
abbrev pub is_code : Place → ℕ → List ℕ → Bool
is_code Start c rest = not ((c == 62) || is_fence c rest) && is_code_here c rest
is_code Code c rest = is_code_here c rest
is_code LineComment c rest = false
is_code Opening c rest = false
is_code Comment c rest = false
is_code Closing c rest = false

abbrev pub is_end : List ℕ → Bool
is_end [] = true
is_end (c ∷ rest) = false

-- the text ends before its comment does
abbrev pub is_unended : Place → List ℕ → Bool
is_unended Start rest = false
is_unended Code rest = false
is_unended LineComment rest = false
is_unended Opening rest = is_end rest
is_unended Comment rest = is_end rest
is_unended Closing rest = false

-- A comment that ends with its line has a backslash at its end, with which it goes on in the next line in C and not in Rust.
abbrev pub goes_on_below : Place → ℕ → List ℕ → Bool
goes_on_below Start c rest = false
goes_on_below Code c rest = false
goes_on_below LineComment c rest = (c == 92) && begins_line_end (after_all is_blank rest)
goes_on_below Opening c rest = false
goes_on_below Comment c rest = false
goes_on_below Closing c rest = false

-- A line feed stays one, and else a space is in place of what is no code. A star, which begins no byte, ends a text whose
-- comment doesn't end, and is in place of the backslash with which a comment may go on.
abbrev pub shown : Place → ℕ → List ℕ → ℕ
shown place c rest =
    if is_unended place rest || goes_on_below place c rest then 42
    else if (c == 10) || is_code place c rest then c
    else 32

-- a text that begins in this place, so shown
unfoldable pub uncommented : Place → List ℕ → List ℕ
uncommented place [] = []
uncommented place (c ∷ rest) = shown place c rest ∷ uncommented (after place c rest) rest
