-- The lines that `check` has of remarks.
use Rattle.std.specs.Prelude.{ℕ, List, [], ◌∷◌, ◌++◌, codes, Option}
use Rattle.std.specs.Fmt.{decimal}
use Rattle.std.specs.List.{flat_map}
use Rattle.usb_file_data.specs.FindingLine.{part_word}
use Rattle.usb_file_data.specs.declared.cause.Found.{Found}
use Rattle.usb_walk.specs.declared.place.Place.{Place}
use Rattle.usb_remarks.specs.declared.placed_remark.PlacedRemark.{PlacedRemark}
use Rattle.usb_remarks.specs.declared.remark.Remark.{Remark}
use Rattle.usb_remarks.specs.declared.speed.SetSpeed.{SetSpeed}
use Rattle.usb_remarks.specs.Outline.{Described, outline}
use Rattle.usb_remarks.specs.RemarkNumbers.{remark_number}
use Rattle.usb_remarks.specs.RemarkValues.{there}
use Rattle.usb_remarks.specs.Remarks.{remarks_on}

-- `R`, the remark's number, the part, and the numbers of the set, the setting and the endpoint, without line feed
abbrev pub placed_line : PlacedRemark → List ℕ
placed_line r =
    codes "R" ++ decimal r.number ++ codes " " ++ part_word r.place.part ++ codes " " ++ decimal r.place.set ++ codes " "
    ++ decimal r.place.setting ++ codes " " ++ decimal r.place.endpoint

-- that of a remark at a place, ended by a line feed
abbrev pub placed_line_end : Place → Remark → List ℕ
placed_line_end place remark = placed_line (record { number = remark_number remark; place = place }) ++ 10 ∷ []

-- that of one that there may be
abbrev pub maybe_lines : Place → Option Remark → List ℕ
maybe_lines place remark = flat_map (placed_line_end place) (there remark)

-- the lines of the remarks on a descriptor
unfoldable pub remark_lines_of : Described → List ℕ
remark_lines_of d = flat_map (placed_line_end d.place) (remarks_on d.role d)

-- those of the descriptors of an input, where these are its findings in the order of its bytes
abbrev pub remarks_text : Option SetSpeed → List Found → List ℕ → List ℕ
remarks_text running found b = flat_map remark_lines_of (outline running found b)
