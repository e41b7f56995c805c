-- The descriptor of a line, read: what stands after the first word.
use Rattle.std.specs.Prelude.{ℕ, List, [], ◌∷◌, map, if◌then◌else◌, Option, Some, None, ◌==◌, option_and_then, drop, length, is_some, Bool, true, ◌≡◌, ◌++◌}
use Rattle.std.specs.Str.{bytes_eq}
use Rattle.usb_listing.specs.Table.{extra_words, Row}
use Rattle.usb_listing.specs.declared.word.Word.{Word}
use Rattle.usb_listing.specs.declared.word.Word.TheVariants as words
use Rattle.usb_listing.specs.declared.word.ExtraWord.TheVariants as extra
use Rattle.usb_listing.specs.Words.{word_text, first_word}
use Rattle.std.specs.Option.{option_map}
use Rattle.usb_listing.specs.declared.row.Written.TheVariants as forms
use Rattle.usb_listing.specs.Says.{Item, fields, is_typed_raw, languages, row_for, string}
use Rattle.usb_listing.specs.inside.Fields.{behind_space, bytes_in, values_from}

-- Words found by how they are written.

-- the one of these words that is written so
abbrev pub word_among : List Word → List ℕ → Option Word
word_among [] text = None
word_among (w ∷ ws) text = if bytes_eq text (word_text w) then Some w else word_among ws text

-- the words of most lines, those of extras, and the others
abbrev pub often_words : List Word
often_words = words.Endpoint ∷ words.Interface ∷ []

abbrev pub all_extra_words : List Word
all_extra_words = map words.Extra extra_words

abbrev pub other_words : List Word
other_words = words.String ∷ words.Configuration ∷ words.OtherSpeed ∷ words.Device ∷ words.Qualifier ∷ words.Languages ∷ []

-- the one found before, or else one of these
abbrev pub or_among : Option Word → List Word → List ℕ → Option Word
or_among None ws text = word_among ws text
or_among (Some w) ws text = Some w

-- the word that is written so, if there is one
unfoldable pub word_in : List ℕ → Option Word
word_in text = or_among (or_among (word_among often_words text) all_extra_words text) other_words text

-- the word that begins with the letter
abbrev pub word_with : ℕ → Option Word
word_with letter =
    if letter == 97 then Some (words.Extra extra.Association)
    else if letter == 99 then Some words.Configuration
    else if letter == 100 then Some words.Device
    else if letter == 101 then Some words.Endpoint
    else if letter == 105 then Some words.Interface
    else if letter == 108 then Some words.Languages
    else if letter == 111 then Some words.OtherSpeed
    else if letter == 113 then Some words.Qualifier
    else if letter == 114 then Some (words.Extra extra.Raw)
    else if letter == 115 then Some words.String
    else None

-- the only word that a line may begin with
abbrev pub likely_word : List ℕ → Option Word
likely_word [] = None
likely_word (x ∷ line) = word_with x

-- whether a word ends before this
abbrev pub ends_word : List ℕ → Bool
ends_word [] = true
ends_word (x ∷ rest) = x == 32

-- the line begins with the word, and then this follows: nothing, or a space first
pub record IsSplit (line word rest : List ℕ) : Type 0 where
  pub parts : line ≡ word ++ rest
  pub ends : ends_word rest ≡ true

-- the bytes of a descriptor of this row
abbrev pub row_bytes : Option Row → List ℕ → Option (List ℕ)
row_bytes None text = None
row_bytes (Some row) text = bytes_in (0 ∷ row.front) row.widths row.tail text

-- the bytes of a descriptor whose line has this word
unfoldable pub fields_in : Word → List ℕ → Option (List ℕ)
fields_in word text = row_bytes (row_for word) text

-- the descriptor of bytes, if it is no raw one of a type that a set reads
abbrev pub untyped : Word → List ℕ → Option Item
untyped word b = if is_typed_raw word b then None else Some (fields word b)

-- whether the line of this word says fields
abbrev pub says_fields : Word → Bool
says_fields word = is_some (row_for word)

-- what stands before a quote (22h) that ends the text
abbrev pub before_quote : List ℕ → Option (List ℕ)
before_quote [] = None
before_quote (x ∷ []) = if x == 34 then Some [] else None
before_quote (x ∷ y ∷ text) = option_map (λ (front : List ℕ). x ∷ front) (before_quote (y ∷ text))

-- what stands between quotes, after the first of them
abbrev pub in_quotes : Option (List ℕ) → Option (List ℕ)
in_quotes None = None
in_quotes (Some []) = None
in_quotes (Some (x ∷ text)) = if x == 34 then before_quote text else None

-- the text of a string, after a space and between quotes
unfoldable pub quoted : List ℕ → Option (List ℕ)
quoted text = in_quotes (behind_space text)

-- the language codes, where there is one
abbrev pub some_language : Option (List ℕ) → Option (List ℕ)
some_language None = None
some_language (Some []) = None
some_language (Some (u ∷ us)) = Some (u ∷ us)

-- the language codes of a language list
unfoldable pub languages_in : List ℕ → Option (List ℕ)
languages_in text = some_language (values_from forms.Field 126 [] text)

-- the units of a string
unfoldable pub string_in : List ℕ → Option (List ℕ)
string_in text = option_and_then (values_from forms.Unit 126 []) (quoted text)

-- what a line says whose first word is this, and after it this text
unfoldable pub item_in : Word → List ℕ → Option Item
item_in words.Languages text = option_map languages (languages_in text)
item_in words.String text = option_map string (string_in text)
item_in word text = option_and_then (untyped word) (fields_in word text)

-- what the line says: its first word decides how the rest is read
unfoldable pub item_of_line : List ℕ → Option Item
item_of_line line = option_and_then (λ (word : Word). item_in word (drop (length (word_text word)) line)) (word_in (first_word line))
