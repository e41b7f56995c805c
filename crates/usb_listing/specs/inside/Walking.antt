-- A listing read byte by byte: the file so far, and the current line.
use Rattle.std.specs.Prelude.{◌≡◌, ◌≢◌, ℕ, ◌==◌, List, [], ◌∷◌, ◌++◌, length, Bool, Option, Some, None, if◌then◌else◌, ◌+◌, Result, Ok, Err}
use Rattle.usb_file_data.specs.declared.file.DescriptorFile.{DescriptorFile}
use Rattle.usb_file_data.specs.declared.file.Strings.{Strings}
use Rattle.usb_file_data.specs.File.{named_indices}
use Rattle.usb_listing.specs.declared.assembly.Form.{Form}
use Rattle.usb_listing.specs.declared.assembly.Form.TheVariants as forms
use Rattle.usb_listing.specs.declared.fault.ListWhy.{ListWhy}
use Rattle.usb_listing.specs.Comments.{is_dropped, lines_before, uncommented, whole_lines, without_return, CommentedRefused}
use Rattle.usb_listing.specs.Listings.{ListRefused, is_whole}
use Rattle.usb_listing.specs.declared.word.Word.{Word}
use Rattle.usb_listing.specs.Words.{first_word}
use Rattle.usb_text.specs.Lines.{is_printable}
use Rattle.usb_listing.specs.Says.{Item, fields}
use Rattle.usb_listing.specs.Order.{has_over}
use Rattle.usb_listing.specs.declared.fault.ListFault.{ListFault}
use Rattle.usb_listing.specs.declared.fault.ListWhy.TheVariants as whys
use Rattle.usb_listing.specs.inside.Rows.{word_in, item_of_line}
use Rattle.usb_listing.specs.inside.Growing.{device_of, file_and, may_stand}

-- What stands before the first byte of a kind; what is still due at the end.

-- this byte is not in it
abbrev pub HasNo : ℕ → List ℕ → Type 0
HasNo c [] = Unit {0}
HasNo c (x ∷ text) = (x ≢ c) × HasNo c text

-- this stands before the first such byte, and that after it
pub record Cut (c : ℕ) (text line more : List ℕ) : Type 0 where
  pub parts : text ≡ line ++ c ∷ more
  pub none : HasNo c line

-- whether no string comes next any more, of `total` where the languages are there
abbrev pub has_all_strings : DescriptorFile → Option Strings → ℕ → Bool
has_all_strings f None total = length (named_indices f) == 0
has_all_strings f (Some s) total = length s.texts == total

-- What is read of a text, as it stands or with comments.

-- the text that is read of it
abbrev pub text_read : Form → List ℕ → List ℕ
text_read forms.Exact text = text
text_read forms.Commented text = uncommented text

-- what is read of a line, if it is not dropped
abbrev pub line_read : Form → List ℕ → Option (List ℕ)
line_read forms.Exact line = Some line
line_read forms.Commented line = if is_dropped (without_return line) then None else Some (without_return line)

-- how many lines of the text are before the one that `count` read ones are before
abbrev pub count_before : Form → List ℕ → ℕ → ℕ
count_before forms.Exact text count = count
count_before forms.Commented text count = lines_before (whole_lines text) count

-- why no file is read, and the line of the text
abbrev pub Refused : Form → List ℕ → ℕ → ListWhy → Type 0
Refused forms.Exact text line why = ListRefused text line why
Refused forms.Commented text line why = CommentedRefused text line why

-- a file of its first descriptor alone
abbrev pub file_of : List ℕ → DescriptorFile
file_of b = record { device = device_of b; sets = []; other = None; strings = None }

-- the bytes of a descriptor whose line says its fields
abbrev pub fields_bytes : Item → List ℕ
fields_bytes (fields word b) = b
fields_bytes item = []

-- the file with one more descriptor, which may stand there
abbrev pub grown : Option DescriptorFile → Item → DescriptorFile
grown None item = file_of (fields_bytes item)
grown (Some f) item = file_and item f

-- what such a descriptor makes of the file so far
abbrev pub add : Option DescriptorFile → Item → Result DescriptorFile ListWhy
add so_far item = if has_over (grown so_far item) then Err whys.TooLong else Ok (grown so_far item)

-- what a line makes of it, that says this or nothing
abbrev pub add_item : Option DescriptorFile → Option Item → Result DescriptorFile ListWhy
add_item so_far None = Err whys.Field
add_item so_far (Some item) = add so_far item

-- what a line makes of it, that begins with this word or none
abbrev pub add_word : Option DescriptorFile → Option Word → Option Item → Result DescriptorFile ListWhy
add_word so_far None item = Err whys.Word
add_word so_far (Some word) item = if may_stand so_far word then add_item so_far item else Err whys.Place

-- what a line makes of the file so far
unfoldable pub add_line : Option DescriptorFile → List ℕ → Result DescriptorFile ListWhy
add_line so_far line = add_word so_far (word_in (first_word line)) (item_of_line line)

-- how far a listing was read
pub data Walk : Type 0 where
  -- in this line, after this many lines, which are those of the file so far
  going : Option DescriptorFile → ℕ → List ℕ → Walk
  -- the line after this many lines is at fault
  stopped : ℕ → ListWhy → Walk

-- after one more line
abbrev pub after_line : ℕ → Result DescriptorFile ListWhy → Walk
after_line lines (Ok f) = going (Some f) (lines + 1) []
after_line lines (Err why) = stopped lines why

-- one more byte
unfoldable pub walk_byte : Walk → ℕ → Walk
walk_byte (stopped lines why) x = stopped lines why
walk_byte (going so_far lines line) x =
    if is_printable x then going so_far lines (line ++ x ∷ [])
    else if x == 10 then after_line lines (add_line so_far line)
    else stopped lines whys.Line

-- these bytes
abbrev pub walk : Walk → List ℕ → Walk
walk w [] = w
walk w (x ∷ text) = walk (walk_byte w x) text

-- a fault of the line after `lines` lines
abbrev pub fault_behind : ℕ → ListWhy → ListFault
fault_behind lines why = record { line = lines + 1; why = why }

-- the end of the text, where there is no current line
abbrev pub file_end : Option DescriptorFile → ℕ → Result DescriptorFile ListFault
file_end None lines = Err (fault_behind lines whys.Missing)
file_end (Some f) lines = if is_whole (Some f) then Ok f else Err (fault_behind lines whys.Missing)

-- the end of the text
abbrev pub walk_end : Walk → Result DescriptorFile ListFault
walk_end (stopped lines why) = Err (fault_behind lines why)
walk_end (going so_far lines []) = file_end so_far lines
walk_end (going so_far lines (x ∷ line)) = Err (fault_behind lines whys.Line)

-- what the text is
unfoldable pub answer_of : List ℕ → Result DescriptorFile ListFault
answer_of text = walk_end (walk (going None 0 []) text)
