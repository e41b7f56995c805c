-- What is kept beside the file so far.
use Rattle.std.specs.Prelude.{◌≡◌, ℕ, ◌+◌, ◌*◌, ◌≤◌, ◌⊎◌, ◌++◌, Result, Ok, Err, length, slice_index, true, false, Option, Some, None, List}
use Rattle.usb_set.specs.declared.tree.Configuration.{Configuration}
use Rattle.usb_set.specs.Building.{has_setting}
use Rattle.usb_set.specs.Faults.{is_set_type, is_whole, item_fault}
use Rattle.usb_set.specs.Layout.{has_typed_raw}
use Rattle.usb_file_data.specs.declared.file.DescriptorFile.{DescriptorFile}
use Rattle.usb_file_data.specs.declared.file.Strings.{Strings}
use Rattle.usb_file_data.specs.File.{named_indices}
use Rattle.usb_listing.specs.declared.draft.Draft.{Draft}
use Rattle.usb_listing.specs.declared.word.Word.{Word}
use Rattle.usb_listing.specs.declared.word.Word.TheVariants as words
use Rattle.usb_listing.specs.Says.{IsItem, fields}
use Rattle.usb_listing.specs.declared.fault.ListWhy.{ListWhy}
use Rattle.usb_listing.specs.declared.fault.ListWhy.TheVariants as whys
use Rattle.usb_listing.specs.Order.{has_over, items_of}
use Rattle.usb_listing.specs.Words.{first_word}
use Rattle.usb_listing.specs.Listings.{IsBegun, IsPlaced, RestFaulty, lines_of}
use Rattle.usb_listing.specs.declared.assembly.Form.{Form}
use Rattle.usb_listing.specs.inside.Rows.{word_in}
use Rattle.usb_listing.specs.inside.Walking.{count_before, line_read, text_read, Cut, add_line}
use Rattle.usb_listing.specs.inside.Growing.{last_of, length_of, may_stand, open_sets}

-- how many strings the file has once it is whole
abbrev pub strings_total : DescriptorFile → Option Strings → ℕ
strings_total f None = 0
strings_total f (Some s) = length s.languages * length (named_indices f)

-- a file so far, and counts that are its own
pub record Holds (d : Draft) : Type 0 where
  pub begun : IsBegun (Some d.file)
  pub work : d.work ≡ length_of (last_of (open_sets d.file d.file.other))
  pub total : d.total ≡ strings_total d.file d.file.strings

-- the same where a line was read
abbrev pub AreHeld : Option Draft → Type 0
AreHeld None = Unit {0}
AreHeld (Some d) = Holds d

-- the file so far
abbrev pub so_far : Option Draft → Option DescriptorFile
so_far None = None
so_far (Some d) = Some d.file

-- bytes of the first descriptor of a set
pub record IsFirst (b : List ℕ) : Type 0 where
  pub long : 9 ≤ length b
  pub whole : is_whole b ≡ true
  pub kind : is_set_type (slice_index b 1) ≡ true

-- bytes of a descriptor that may come next in the set
pub record Joins (b : List ℕ) (c : Configuration) : Type 0 where
  pub whole : is_whole b ≡ true
  pub fine : item_fault (length b) (has_setting c) b ≡ None
  pub raws : has_typed_raw c ≡ false

-- the same in the last of the sets
pub record JoinsLast (b : List ℕ) (sets : List Configuration) : Type 0 where
  pub set : Configuration
  pub last : last_of sets ≡ Some set
  pub joins : Joins b set

-- a draft of this file
pub record IsDraft (f : DescriptorFile) (d : Draft) : Type 0 where
  pub file : d.file ≡ f
  pub holds : Holds d

-- out of memory, or that a set of this file is too long
abbrev pub Refuses : DescriptorFile → ListWhy → Type 0
Refuses f why = (why ≡ whys.Memory) ⊎ ((why ≡ whys.TooLong) × (has_over f ≡ true))

-- what a descriptor of this word has to be, that is added to the file
abbrev pub Fits : Word → List ℕ → DescriptorFile → Type 0
Fits words.Configuration b f = IsFirst b
Fits words.OtherSpeed b f = IsFirst b
Fits words.Qualifier b f = IsItem (fields words.Qualifier b)
Fits words.Interface b f = JoinsLast b (open_sets f f.other)
Fits words.Endpoint b f = JoinsLast b (open_sets f f.other)
Fits (words.Extra x) b f = JoinsLast b (open_sets f f.other)
Fits word b f = ⊥

-- how many bytes the last set has with a descriptor of this word, of n bytes
abbrev pub work_with : ℕ → Word → ℕ → ℕ
work_with work words.Configuration n = n
work_with work words.OtherSpeed n = n
work_with work words.Interface n = work + n
work_with work words.Endpoint n = work + n
work_with work (words.Extra x) n = work + n
work_with work word n = 0

-- the draft of the file that was answered
pub record Drafted (answer : Result DescriptorFile ListWhy) (new : Option Draft) : Type 0 where
  pub file : DescriptorFile
  pub is : so_far new ≡ Some file
  pub made : answer ≡ Ok file
  pub holds : AreHeld new

-- out of memory, or the fault of the line
abbrev pub Stops : Result DescriptorFile ListWhy → ListWhy → Type 0
Stops answer why = (why ≡ whys.Memory) ⊎ (answer ≡ Err why)

-- the first word of the line is one that may stand there
pub record HasPlace (s : Option DescriptorFile) (line : List ℕ) : Type 0 where
  pub word : Word
  pub is : word_in (first_word line) ≡ Some word
  pub may : may_stand s word ≡ true

-- what is wrong with a line whose first word is this or none, before any field is looked at
abbrev pub IsMisplaced : Option DescriptorFile → Option Word → ListWhy → Type 0
IsMisplaced s None why = (why ≡ whys.Word)
IsMisplaced s (Some word) why = (may_stand s word ≡ false) × (why ≡ whys.Place)

-- memory is asked for by no line whose word is none, or may not stand there
abbrev pub IsJudged : Option DescriptorFile → List ℕ → ListWhy → Type 0
IsJudged s line whys.Memory = HasPlace s line
IsJudged s line why = Unit {0}

-- a listing, read up to a line of the text
pub record Reading (form : Form) (text : List ℕ) (draft : Option Draft) (rest : List ℕ) (line : ℕ) : Type 0 where
  pub parts : text_read form text ≡ lines_of (so_far draft) ++ text_read form rest
  pub lines : (k : ℕ) → count_before form text (length (items_of (so_far draft)) + k) + 1 ≡ line + count_before form rest k
  pub holds : AreHeld draft
  pub few : line + length rest ≤ length text + 1

-- the line was dropped, or this of it read into the draft
abbrev pub Takes : Option (List ℕ) → Option Draft → Option Draft → Type 0
Takes None old new = (new ≡ old)
Takes (Some line) old new = Drafted (add_line (so_far old) line) new

-- the first line was taken, and this is left
pub record TakesLine (form : Form) (old : Option Draft) (rest : List ℕ) (new : Option Draft) (more : List ℕ) : Type 0 where
  pub line : List ℕ
  pub cut : Cut 10 rest line more
  pub takes : Takes (line_read form line) old new

-- out of memory at a line whose word may stand there, or the fault of the text after the lines so far
abbrev pub Reported : Option DescriptorFile → List ℕ → ListWhy → Type 0
Reported s rest whys.Memory = IsPlaced s rest
Reported s rest why = RestFaulty s rest why
