-- The line of a finding, and the text of `check`.
use Rattle.std.specs.Prelude.{List, [], ◌∷◌, ℕ, ◌++◌, codes}
use Rattle.std.specs.List.{flat_map}
use Rattle.std.specs.Fmt.{decimal}
use Rattle.usb_file_data.specs.declared.finding.Part.{Part}
use Rattle.usb_file_data.specs.declared.finding.Part.TheVariants as parts
use Rattle.usb_file_data.specs.declared.finding.Finding.{Finding}

-- the word for a part of a file
abbrev pub part_word : Part → List ℕ
part_word parts.Device = codes "device"
part_word parts.Main = codes "main"
part_word parts.Other = codes "other"

-- `V`, the rule's number, the part, and the numbers of the set, the setting and the endpoint, without line feed
abbrev pub finding_line : Finding → List ℕ
finding_line f =
    codes "V" ++ decimal f.rule ++ codes " " ++ part_word f.part ++ codes " " ++ decimal f.set ++ codes " " ++ decimal f.setting
    ++ codes " " ++ decimal f.endpoint

-- the same, ended by a line feed
abbrev pub finding_line_end : Finding → List ℕ
finding_line_end f = finding_line f ++ 10 ∷ []

-- the lines of findings
abbrev pub finding_lines : List Finding → List ℕ
finding_lines found = flat_map finding_line_end found

-- the lines of the findings, or the line that there is none
abbrev pub check_text : List Finding → List ℕ
check_text [] = codes "no findings" ++ 10 ∷ []
check_text (f ∷ found) = finding_lines (f ∷ found)
