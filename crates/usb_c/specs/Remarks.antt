-- What is remarked of the descriptors of bytes, as numbers.
use Rattle.std.specs.Prelude.{◌≡◌, ℕ, ◌⊎◌, List, flat_map, map, Option}
use Rattle.usb_file_data.specs.declared.file.Input.{Input}
use Rattle.usb_file_data.specs.Findings.{found_in_order}
use Rattle.usb_file_data.specs.Inputs.{InputFaulty, IsInput}
use Rattle.usb_remarks.specs.declared.remark.Remark.{Remark}
use Rattle.usb_remarks.specs.declared.speed.SetSpeed.{SetSpeed}
use Rattle.usb_walk.specs.Places.{part_number}
use Rattle.usb_walk.specs.RoleNumbers.{role_number}
use Rattle.usb_remarks.specs.Outline.{Described, outline}
use Rattle.usb_remarks.specs.RemarkNumbers.{remark_number}
use Rattle.usb_remarks.specs.Remarks.{remarks_on}
use Rattle.usb_c.specs.declared.answer.Verdict.{Verdict}
use Rattle.usb_c.specs.declared.remark.NzgRemark.{NzgRemark}
use Rattle.usb_c.specs.Texts.{Refuses, TellsInput}

-- a remark by its number, with the place and the role of the descriptor on which it is
abbrev pub numbered : Described → Remark → NzgRemark
numbered d remark = record {
  place = d.at;
  set = d.place.set;
  setting = d.place.setting;
  endpoint = d.place.endpoint;
  number = remark_number remark;
  part = part_number d.place.part;
  role = role_number d.role;
}

-- those on a descriptor
abbrev pub remarks_at : Described → List NzgRemark
remarks_at d = map (numbered d) (remarks_on d.role d)

-- those on the descriptors of an input, in the order of its bytes, where the device ran at this speed, if it is known
abbrev pub numbered_remarks : Option SetSpeed → List ℕ → Input → List NzgRemark
numbered_remarks running b input = flat_map remarks_at (outline running (found_in_order input) b)

-- the remarks are in the buffer, or the bytes are refused, and the buffer is as it was
abbrev pub TellsRemarks : Option SetSpeed → List ℕ → List NzgRemark → List NzgRemark → Verdict → Type 0
TellsRemarks running b old new verdict =
    TellsInput IsInput (numbered_remarks running b) b old new verdict ⊎ (Refuses InputFaulty b verdict × (new ≡ old))
