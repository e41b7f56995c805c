-- The explanation of an input, and of bytes that are none: what its lines show, one after another.
use Rattle.std.specs.Prelude.{ℕ, List, ◌-◌, ◌++◌, length, take, drop, flat_map, if◌then◌else◌, [], ◌∷◌, codes, nat_lt, Ok, Err}
use Rattle.usb_file_data.specs.declared.cause.Found.{Found}
use Rattle.usb_file_data.specs.Findings.{found_in_order}
use Rattle.usb_text.specs.Output.{Held}
use Rattle.usb_text.specs.Shown.{Shown, Bytes, End, Number, ends}
use Rattle.usb_text.specs.Written.{AreLines, WritesLines}
use Rattle.usb_explain.specs.declared.manner.Look.{Look}
use Rattle.usb_explain.specs.declared.manner.Manner.{Manner}
use Rattle.usb_explain.specs.Descriptors.{lines_of}
use Rattle.usb_remarks.specs.FaultPlaces.{place_of_fault}
use Rattle.usb_explain.specs.Faults.{fault_lines}
use Rattle.usb_explain.specs.LastLines.{last_line, remark_count}
use Rattle.usb_explain.specs.Lines.{field_line, heading_line}
use Rattle.usb_remarks.specs.Outline.{Described, bytes_of, outline}
use Rattle.usb_explain.specs.Subjects.{Reading, subject_of}

-- What is left of an input after the descriptors that were explained.

-- how many bytes there are above 32
abbrev pub more_shown : ℕ → List Shown
more_shown n = if nat_lt 32 n then Number (n - 32) ∷ [] else []

-- the heading of bytes that are left at a place
unfoldable pub rest_heading : Look → ℕ → List ℕ → List Shown
rest_heading look at b = heading_line look 0 [] at (length b)

-- the first 32 of them, and how many more there are
unfoldable pub rest_line : List ℕ → List Shown
rest_line b = field_line 0 (codes "bytes") (Bytes (take 32 b) ∷ more_shown (length b))

-- the lines of the bytes that are left at a place, if there are any; the bytes themselves where fields are shown
abbrev pub rest_lines : Look → ℕ → List ℕ → List Shown
rest_lines look at [] = []
rest_lines look at (x ∷ rest) =
    rest_heading look at (x ∷ rest) ++ (if look.brief then [] else rest_line (x ∷ rest))

-- The whole.

-- what breaks a rule, in the order of the bytes; bytes that are no input aren't judged, and nothing is found in them
abbrev pub found_of : Reading → List Found
found_of (Ok input) = found_in_order input
found_of (Err fault) = []

-- the bytes of which the descriptors are explained: those before the place of a fault
abbrev pub before_fault : Reading → List ℕ → List ℕ
before_fault (Ok input) b = b
before_fault (Err fault) b = take (place_of_fault fault) b

-- their descriptors
abbrev pub descriptors_of : Manner → Reading → List ℕ → List Described
descriptors_of manner read b = outline manner.speed (found_of read) (before_fault read b)

-- the first line: how many bytes there are
abbrev pub first_line : ℕ → List Shown
first_line n = Number n ∷ End ∷ []

-- how many findings an input has, and how many remarks there are on its descriptors
abbrev pub counts_line : Manner → Reading → List ℕ → List Shown
counts_line manner read b = last_line (length (found_of read)) (remark_count (descriptors_of manner read b))

-- what ends it, where the descriptors end at this place: the bytes that are left, and those counts or what is at fault with the
-- bytes
abbrev pub ending : Manner → Reading → List ℕ → ℕ → List Shown
ending manner (Ok input) b at = rest_lines manner.look at (drop at b) ++ counts_line manner (Ok input) b
ending manner (Err fault) b at = fault_lines manner.decoded fault b ++ rest_lines manner.look at (drop at b)

-- the first line and those of these descriptors
abbrev pub beginning : Manner → Reading → List ℕ → List Described → List Shown
beginning manner read b ds = first_line (length b) ++ flat_map (lines_of (subject_of manner read)) ds

-- what an explanation shows
unfoldable pub explanation : Manner → Reading → List ℕ → List Shown
explanation manner read b =
    let ds = descriptors_of manner read b in
    beginning manner read b ds ++ ending manner read b (length (bytes_of ds))

-- a text of as many lines as the explanation has; what each shows is said of the function that puts it
abbrev pub IsExplanation : Manner → Reading → List ℕ → List ℕ → Type 0
IsExplanation manner read b text = AreLines manner.look.utf8 (ends (explanation manner read b)) text

-- the writer gained the first line and those of the first `count` descriptors, each whole
pub record EndsBetween (manner : Manner) (read : Reading) (b : List ℕ) (old new : Held) : Type 0 where
  pub count : ℕ
  pub written : WritesLines manner.look.utf8 (ends (beginning manner read b (take count (descriptors_of manner read b)))) old new
