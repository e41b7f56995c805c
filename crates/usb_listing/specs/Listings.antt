-- Which texts are listings, and what is wrong with the others.
use Rattle.std.specs.Prelude.{◌≡◌, ◌≢◌, ℕ, ◌+◌, ◌-◌, List, [], ◌∷◌, ◌++◌, get_or, length, map, Bool, true, false, is_none, Option, Some, None}
use Rattle.std.specs.List.{list_all}
use Rattle.usb_fields.specs.Numbers.{number_in}
use Rattle.usb_file_data.specs.declared.file.DescriptorFile.{DescriptorFile}
use Rattle.usb_file_data.specs.File.{File, write_refusal}
use Rattle.usb_listing.specs.Listing.{file_lines}
use Rattle.usb_listing.specs.declared.word.Word.{Word}
use Rattle.usb_listing.specs.Words.{first_word, word_text}
use Rattle.usb_text.specs.Lines.{is_printable}
use Rattle.usb_listing.specs.Says.{Item, Says}
use Rattle.usb_listing.specs.declared.fault.ListWhy.{ListWhy}
use Rattle.usb_listing.specs.contracts.fault.ListWhy.{the_type as list_whys}
use Rattle.usb_listing.specs.declared.fault.ListWhy.TheVariants as whys
use Rattle.usb_listing.specs.declared.fault.TheConstants.{LIST_MESSAGES}
use Rattle.usb_listing.specs.Order.{IsOneMore, IsOrdered, MayStand, has_over, items_of}

-- The text is the listing of the file, and the file has bytes.
pub record Lists (text : List ℕ) (f : DescriptorFile) : Type 0 where
  pub lines : text ≡ file_lines f
  pub bytes : List ℕ
  pub file : File f bytes

-- The bytes are those of the file that the text lists.
pub record IsBytesOf (text b : List ℕ) : Type 0 where
  pub file : DescriptorFile
  pub lists : Lists text file
  pub bytes : File file b

-- ---- the lines before the first one at fault

-- no line yet, or those of a file in order of which no set is too long
abbrev pub IsBegun : Option DescriptorFile → Type 0
IsBegun None = Unit {0}
IsBegun (Some f) = IsOrdered f × (has_over f ≡ false)

-- the lines so far
abbrev pub lines_of : Option DescriptorFile → List ℕ
lines_of None = []
lines_of (Some f) = file_lines f

-- ---- the first line at fault

-- the text begins with this line, which ends with a line feed
pub record FirstLine (text line more : List ℕ) : Type 0 where
  pub parts : text ≡ line ++ 10 ∷ more
  pub printable : list_all is_printable line ≡ true

-- neither a line feed nor a byte that a line may have comes next
abbrev pub NoLineGoesOn : List ℕ → Type 0
NoLineGoesOn [] = Unit {0}
NoLineGoesOn (x ∷ more) = (is_printable x ≡ false) × (x ≢ 10)

-- the bytes of the first line end without a line feed, or at a byte that no line has
abbrev pub LineFaulty : List ℕ → Type 0
LineFaulty rest = (line more : List ℕ) × (rest ≢ []) × (rest ≡ line ++ more) × (list_all is_printable line ≡ true) × NoLineGoesOn more

-- What is wrong with a line of printable text after the lines so far. Its first word is none; or a line with this word may
-- not stand there; or it may, and the line says no descriptor; or it says one with which a set has over 65,535 bytes.
abbrev pub SaysNone : Option DescriptorFile → List ℕ → ListWhy → Type 0
SaysNone so_far line whys.Word = (word : Word) → first_word line ≢ word_text word
SaysNone so_far line whys.Place = (word : Word) × (first_word line ≡ word_text word) × (MayStand so_far word → ⊥)
SaysNone so_far line whys.Field =
    (word : Word) × (first_word line ≡ word_text word) × MayStand so_far word × ((item : Item) → Says line item → ⊥)
SaysNone so_far line whys.TooLong =
    (item : Item) × (f : DescriptorFile) × Says line item × IsOneMore so_far item f × (has_over f ≡ true)
SaysNone so_far line why = ⊥

-- the first line has this fault
pub record FirstFaulty (so_far : Option DescriptorFile) (rest : List ℕ) (why : ListWhy) : Type 0 where
  pub line : List ℕ
  pub more : List ℕ
  pub first : FirstLine rest line more
  pub fault : SaysNone so_far line why

-- whether the file so far is a whole one, which has bytes: no set and no string is still due
abbrev pub is_whole : Option DescriptorFile → Bool
is_whole None = false
is_whole (Some f) = is_none (write_refusal f)

-- the fault of the text after the lines so far, by the reason; of Missing, that the text ends and something is still due
abbrev pub RestFaulty : Option DescriptorFile → List ℕ → ListWhy → Type 0
RestFaulty so_far rest whys.Line = LineFaulty rest
RestFaulty so_far rest whys.Missing = (rest ≡ []) × (is_whole so_far ≡ false)
RestFaulty so_far rest why = FirstFaulty so_far rest why

-- The text begins with right lines, and this is left of it. The line that comes next is counted from 1.
pub record Begins (text : List ℕ) (so_far : Option DescriptorFile) (rest : List ℕ) (line : ℕ) : Type 0 where
  pub begun : IsBegun so_far
  pub parts : text ≡ lines_of so_far ++ rest
  pub line_is : line ≡ length (items_of so_far) + 1

-- The first line at fault, and in it the first reason.
pub record ListFaulty (text : List ℕ) (line : ℕ) (why : ListWhy) : Type 0 where
  pub so_far : Option DescriptorFile
  pub rest : List ℕ
  pub begins : Begins text so_far rest line
  pub fault : RestFaulty so_far rest why

-- a line starts here, and those before it are right
pub record IsLineStart (text : List ℕ) (line : ℕ) : Type 0 where
  pub so_far : Option DescriptorFile
  pub rest : List ℕ
  pub begins : Begins text so_far rest line

-- the first line is a whole one of printable text, and its word may stand there
pub record IsPlaced (so_far : Option DescriptorFile) (rest : List ℕ) : Type 0 where
  pub line : List ℕ
  pub more : List ℕ
  pub first : FirstLine rest line more
  pub word : Word
  pub word_is : first_word line ≡ word_text word
  pub may : MayStand so_far word

-- Memory may be wanting at this line: those before it are right, and so are its bytes, its word and its place.
pub record MayWant (text : List ℕ) (line : ℕ) : Type 0 where
  pub start : IsLineStart text line
  pub placed : IsPlaced start.so_far start.rest

-- Out of memory is reported of a line that is judged up to its fields, and else the first fault.
abbrev pub ListRefused : List ℕ → ℕ → ListWhy → Type 0
ListRefused text line whys.Memory = MayWant text line
ListRefused text line why = ListFaulty text line why

-- What texts are.

-- the text is the listing of a file that has bytes, or a line of it is the first at fault
pub data ListingOrFault (text : List ℕ) : Type 0 where
  is_listing : (f : DescriptorFile) → Lists text f → ListingOrFault text
  is_faulty : (line : ℕ) (why : ListWhy) → ListFaulty text line why → ListingOrFault text

-- The numbers of the faults, and their messages.

-- the number of what is wrong with a line
abbrev pub why_number : ListWhy → ℕ
why_number why = number_in list_whys why

-- its message, for people
abbrev pub why_message : ListWhy → List ℕ
why_message why = get_or (map (λ message. message.now) LIST_MESSAGES) (why_number why - 1) []
