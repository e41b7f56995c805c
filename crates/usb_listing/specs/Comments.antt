-- What may be dropped of a text: lines that are empty or a comment, and the carriage returns at the ends of lines.
use Rattle.std.specs.Prelude.{◌≡◌, ℕ, zero, suc, List, [], ◌∷◌, ◌++◌, codes, Bool, true, false, ◌==◌, if◌then◌else◌, ◌+◌}
use Rattle.std.specs.List.{flat_map, list_any, slice_split}
use Rattle.usb_file_data.specs.declared.file.DescriptorFile.{DescriptorFile}
use Rattle.usb_listing.specs.declared.fault.ListWhy.{ListWhy}
use Rattle.usb_listing.specs.Listings.{ListFaulty, ListRefused, Lists}

-- the pieces into which line feeds (0ah) part a text: at least one
abbrev pub pieces : List ℕ → List (List ℕ)
pieces text = slice_split (λ x. x == 10) text

-- all of them but the last, and the last
abbrev pub without_last : List (List ℕ) → List (List ℕ)
without_last [] = []
without_last (piece ∷ []) = []
without_last (piece ∷ next ∷ more) = piece ∷ without_last (next ∷ more)

abbrev pub last_piece : List (List ℕ) → List ℕ
last_piece [] = []
last_piece (piece ∷ []) = piece
last_piece (piece ∷ next ∷ more) = last_piece (next ∷ more)

-- the lines that end with a line feed, each without it
abbrev pub whole_lines : List ℕ → List (List ℕ)
whole_lines text = without_last (pieces text)

-- the line without the carriage return (0dh) that it may end with
abbrev pub without_return : List ℕ → List ℕ
without_return [] = []
without_return (x ∷ []) = if x == 13 then [] else x ∷ []
without_return (x ∷ y ∷ line) = x ∷ without_return (y ∷ line)

-- whether the line is empty or begins with # (23h)
abbrev pub is_dropped : List ℕ → Bool
is_dropped [] = true
is_dropped (x ∷ line) = x == 35

-- what is kept of a line, with its line feed
abbrev pub kept_of : List ℕ → List ℕ
kept_of line = if is_dropped (without_return line) then [] else without_return line ++ codes "\n"

-- The text without them. A comment ends with its line feed as each line does: what is after the last one is kept.
abbrev pub uncommented : List ℕ → List ℕ
uncommented text = flat_map kept_of (whole_lines text) ++ last_piece (pieces text)

-- how many of the lines, kept or dropped, are before the one that `kept` kept ones are before
abbrev pub lines_before : List (List ℕ) → ℕ → ℕ
lines_before [] kept = kept
lines_before (line ∷ lines) zero = if is_dropped (without_return line) then suc (lines_before lines zero) else zero
lines_before (line ∷ lines) (suc kept) = suc (lines_before lines (if is_dropped (without_return line) then suc kept else kept))

-- nothing of the text is dropped
pub record IsUncommented (text : List ℕ) : Type 0 where
  pub no_return : list_any (λ x. x == 13) text ≡ false
  pub no_line : list_any is_dropped (whole_lines text) ≡ false

-- What is wrong with a text of which comments, empty lines and carriage returns are dropped.

-- This holds of a line of what is kept, and the line is counted from 1 among all lines of the text, kept or dropped.
pub record AtKeptLine (text : List ℕ) (line : ℕ) (Holds : ℕ → Type 0) : Type 0 where
  pub kept : ℕ
  pub holds : Holds (kept + 1)
  pub line_is : line ≡ lines_before (whole_lines text) kept + 1

-- the first line of what is kept that is at fault, and in it the first reason
abbrev pub CommentedFaulty : List ℕ → ℕ → ListWhy → Type 0
CommentedFaulty text line why = AtKeptLine text line (λ kept. ListFaulty (uncommented text) kept why)

-- that fault, or that memory was wanting at a line that was reached
abbrev pub CommentedRefused : List ℕ → ℕ → ListWhy → Type 0
CommentedRefused text line why = AtKeptLine text line (λ kept. ListRefused (uncommented text) kept why)

-- what is kept is the listing of a file that has bytes, or a line of it is the first at fault
pub data CommentedOrFault (text : List ℕ) : Type 0 where
  lists_file : (f : DescriptorFile) → Lists (uncommented text) f → CommentedOrFault text
  shows_fault : (line : ℕ) (why : ListWhy) → CommentedFaulty text line why → CommentedOrFault text
