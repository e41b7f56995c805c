-- What numbers and the values of `--speed` and `--fates` say.
use Rattle.std.specs.Prelude.{◌≡◌, ◌&&◌, ◌^◌, length, nat_lt, ℕ, List, [], ◌∷◌, IsSome, Option, Some, None, ◌==◌, if◌then◌else◌, codes, option_map, option_and_then}
use Rattle.std.specs.Char.{digit_value}
use Rattle.std.specs.List.{list_all}
use Rattle.std.specs.Str.{bytes_eq}
use Rattle.std.specs.Str.Parse.{digits_value, without_leading_plus}
use Rattle.usb_fields.specs.declared.packet.Speed.{Speed}
use Rattle.usb_fields.specs.declared.packet.Speed.TheVariants.{Low, Full, High}
use Rattle.usb_bus.specs.declared.fate.Fate.{Fate}
use Rattle.usb_bus.specs.declared.fate.Fate.TheVariants.{Pass, Busy, LostDown, LostUp, LostAck}
use Rattle.usb_tool.specs.declared.settings.FatesFault.{FatesFault}
use Rattle.usb_tool.specs.declared.settings.FatesFault.TheVariants as faults

-- the number of `bits` bits that decimal digits write, after one plus or none
abbrev pub number_of : ℕ → List ℕ → Option ℕ
number_of bits text =
    let digits = without_leading_plus text in
    if nat_lt 0 (length digits) && (list_all (λ c. nat_lt (digit_value c) 10) digits
    && nat_lt (digits_value 10 digits) (2 ^ bits))
    then Some (digits_value 10 digits) else None

-- the speed of a name
abbrev pub speed_of : List ℕ → Option Speed
speed_of name =
    if bytes_eq name (codes "low") then Some Low
    else if bytes_eq name (codes "full") then Some Full
    else if bytes_eq name (codes "high") then Some High
    else None

-- the fate of a letter: `.` is 46 in ASCII, `n` 110, `d` 100, `u` 117 and `a` 97
abbrev pub fate_of : ℕ → Option Fate
fate_of letter =
    if letter == 46 then Some Pass
    else if letter == 110 then Some Busy
    else if letter == 100 then Some LostDown
    else if letter == 117 then Some LostUp
    else if letter == 97 then Some LostAck
    else None

-- the fate of each letter, in order, where each has one
unfoldable pub fates_of : List ℕ → Option (List Fate)
fates_of [] = Some []
fates_of (letter ∷ rest) = option_and_then (λ fate. option_map (λ fates. fate ∷ fates) (fates_of rest)) (fate_of letter)

-- the first letter has a fate
abbrev pub BeginsWithFate : List ℕ → Type 0
BeginsWithFate [] = ⊥
BeginsWithFate (letter ∷ rest) = IsSome (fate_of letter)

-- why letters are refused: one has no fate, or memory is wanting, which is asked for at the first one that has a fate
abbrev pub RefusesFates : List ℕ → FatesFault → Type 0
RefusesFates text faults.Letter = fates_of text ≡ None
RefusesFates text faults.Memory = BeginsWithFate text
