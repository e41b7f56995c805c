-- The lines that `check` has of remarks, each of which may be absent.
use Rattle.std.proofs.Common.{◌≡◌, ◌∙◌, Bool, true, false, not, if◌then◌else◌, List, [], ◌∷◌, ◌++◌, Option, None, ap, refl, sym}
use Rattle.std.proofs.lemmas.Grind.{flat_map-append}
use Rattle.std.specs.List.{flat_map}
use Rattle.usb_remarks.specs.declared.remark.Remark.{Remark}
use Rattle.usb_walk.specs.declared.role.Role.TheVariants.{Raw}
use Rattle.usb_remarks.specs.ClassRemarks.{is_of_endpoint}
use Rattle.usb_remarks.specs.HeaderRemarks.{header_remark}
use Rattle.usb_remarks.specs.Outline.{Described}
use Rattle.usb_remarks.specs.PlacedRemarks.{maybe_lines, placed_line_end, remark_lines_of}
use Rattle.usb_remarks.specs.RemarkValues.{there}
use Rattle.usb_remarks.specs.Remarks.{raw_remarks, remarks_on}

pub lines_there : {T : Type 0} (line : Remark → List T) (remarks : List (Option Remark))
    → flat_map (λ (r : Option Remark). flat_map line (there r)) remarks ≡ flat_map line (flat_map there remarks)
lines_there line [] = refl
lines_there line (r ∷ rest) =
    ap (λ l. flat_map line (there r) ++ l) (lines_there line rest) ∙ sym (flat_map-append line (there r) (flat_map there rest))

neither : {X : Type 0} (b : Bool) (x : X) → (if b then x else x) ≡ x
neither true x = refl
neither false x = refl

-- there are none on a descriptor without a type of its own, before any interface
pub no_remarks : (d : Described) → d.role ≡ Raw → d.interface ≡ None → remarks_on d.role d ≡ []
unfolding remarks_on raw_remarks header_remark
no_remarks d is_raw none = rw (is_raw, none) (rw (neither {X = Option Remark} (not (is_of_endpoint d.owner)) None) refl)

-- those that `check` has of a descriptor
pub all_placed : (d : Described) (remarks : List (Option Remark)) → flat_map there remarks ≡ remarks_on d.role d
    → flat_map (λ (r : Option Remark). maybe_lines d.place r) remarks ≡ remark_lines_of d
unfolding remark_lines_of
all_placed d remarks e = lines_there (placed_line_end d.place) remarks ∙ ap (flat_map (placed_line_end d.place)) e
