-- A brief explanation has the same lines but for those of fields.
use Rattle.std.proofs.Common.{◌≡◌, List, ◌++◌, true, false, refl, sym, ap, ◌∙◌, append-nil}
use Rattle.usb_text.specs.Shown.{Shown}
use Rattle.usb_explain.specs.Descriptors.{field_lines, fields, formats_shown, found_lines, heading, heading_shown, lines_of}
use Rattle.usb_explain.specs.Laws.{BriefLeavesOutFields, looking}
use Rattle.usb_remarks.specs.Outline.{Described}
use Rattle.usb_explain.specs.RemarkLines.{remark_lines}
use Rattle.usb_explain.specs.Subjects.{Subject}
use Rattle.usb_walk.specs.declared.role.Role.{Role}
use Rattle.usb_walk.specs.declared.role.Role.TheVariants as roles

-- the lines before those of the fields
abbrev head_of : Subject → Described → List Shown
head_of subject d = heading subject d ++ found_lines d ++ remark_lines d

shown_same : (role : Role) (subject : Subject) (d : Described) → heading_shown role (looking false subject) d ≡ heading_shown role (looking true subject) d
unfolding heading_shown formats_shown
shown_same roles.Device subject d = refl
shown_same roles.Qualifier subject d = refl
shown_same roles.Configuration subject d = refl
shown_same roles.Association subject d = refl
shown_same roles.Interface subject d = refl
shown_same roles.Endpoint subject d = refl
shown_same roles.Raw subject d = refl
shown_same roles.Languages subject d = refl
shown_same roles.Text subject d = refl

head_same : (subject : Subject) (d : Described) → head_of (looking false subject) d ≡ head_of (looking true subject) d
unfolding heading
head_same subject d = rw (shown_same d.role subject d) refl

full_lines : (subject : Subject) (d : Described) → lines_of (looking false subject) d ≡ head_of (looking false subject) d ++ field_lines subject.names d
unfolding lines_of fields
full_lines subject d = refl

brief_lines : (subject : Subject) (d : Described) → lines_of (looking true subject) d ≡ head_of (looking true subject) d
unfolding lines_of fields
brief_lines subject d = append-nil (head_of (looking true subject) d)

pub leaves_out : BriefLeavesOutFields
leaves_out subject d = full_lines subject d ∙ ap (λ (l : List Shown). l ++ field_lines subject.names d) (head_same subject d ∙ sym (brief_lines subject d))
