-- The words that the lines of a listing begin with.
use Rattle.std.specs.Prelude.{ℕ, List, [], ◌∷◌, codes, ◌==◌, if◌then◌else◌}
use Rattle.usb_listing.specs.Table.{extra_row}
use Rattle.usb_listing.specs.declared.word.Word.{Word}
use Rattle.usb_listing.specs.declared.word.Word.TheVariants as words

-- how a word is written
abbrev pub word_text : Word → List ℕ
word_text words.Device = codes "device"
word_text words.Configuration = codes "configuration"
word_text words.OtherSpeed = codes "other_speed"
word_text words.Interface = codes "interface"
word_text words.Endpoint = codes "endpoint"
word_text (words.Extra x) = (extra_row x).word
word_text words.Qualifier = codes "qualifier"
word_text words.Languages = codes "languages"
word_text words.String = codes "string"

-- what stands in a line before its first space (20h), or all of it where it has none
abbrev pub first_word : List ℕ → List ℕ
first_word [] = []
first_word (x ∷ line) = if x == 32 then [] else x ∷ first_word line
