-- The lines of remarks, each of which may be absent.
use Rattle.std.proofs.Common.{◌≡◌, ◌∙◌, List, [], Option, None, ap}
use Rattle.std.specs.List.{flat_map}
use Rattle.usb_remarks.specs.declared.remark.Remark.{Remark}
use Rattle.usb_walk.specs.declared.role.Role.TheVariants.{Raw}
use Rattle.usb_remarks.specs.Outline.{Described}
use Rattle.usb_explain.specs.RemarkLines.{remark_line, remark_lines}
use Rattle.usb_remarks.specs.RemarkValues.{there}
use Rattle.usb_remarks.specs.Remarks.{remarks_on}
use Rattle.usb_remarks.proofs.RemarksPlaced.{lines_there, no_remarks}

-- those of a descriptor
pub all_lines : (d : Described) (remarks : List (Option Remark)) → flat_map there remarks ≡ remarks_on d.role d
    → flat_map (λ (r : Option Remark). flat_map (remark_line d.depth) (there r)) remarks ≡ remark_lines d
unfolding remark_lines
all_lines d remarks e = lines_there (remark_line d.depth) remarks ∙ ap (flat_map (remark_line d.depth)) e

pub no_lines : (d : Described) → d.role ≡ Raw → d.interface ≡ None → remark_lines d ≡ []
unfolding remark_lines
no_lines d is_raw none = ap (flat_map (remark_line d.depth)) (no_remarks d is_raw none)
