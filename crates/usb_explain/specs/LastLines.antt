-- The last line of an explanation: how many findings and remarks there are.
use Rattle.std.specs.Prelude.{ℕ, List, [], ◌∷◌, ◌++◌, length, min, ◌==◌, if◌then◌else◌}
use Rattle.std.specs.List.{sum_by}
use Rattle.usb_text.specs.Shown.{Shown, End, Number}
use Rattle.usb_remarks.specs.Outline.{Described}
use Rattle.usb_remarks.specs.Remarks.{remarks_on}

-- how many remarks there are on a descriptor
abbrev pub remarks_of : Described → ℕ
remarks_of d = length (remarks_on d.role d)

-- how many there are on descriptors, as far as 64 bits count them
abbrev pub remark_count : List Described → ℕ
remark_count ds = min (sum_by remarks_of ds) 18446744073709551615

-- a count, of which there is no number where it is 0
abbrev pub count_shown : ℕ → List Shown
count_shown n = if n == 0 then [] else Number n ∷ []

-- the line of how many findings there are, and how many remarks
abbrev pub last_line : ℕ → ℕ → List Shown
last_line findings remarks = count_shown findings ++ count_shown remarks ++ End ∷ []
