use Rattle.std.proofs.Common.{◌≡◌, drop}
use Rattle.std.specs.List.{flat_map}
use Rattle.usb_remarks.specs.Outline.{described}
use Rattle.usb_remarks.specs.RemarkValues.{there}
use Rattle.usb_remarks.specs.Remarks.{remarks_on}
use Rattle.usb_c.specs.Words.{remark_by}
use Rattle.usb_c.proofs.remark_text.remark_by.Given as goal

abbrev pub invariant-loop-remark : goal.invariant-loop-remark
invariant-loop-remark l =
    remark_by l.number (flat_map there (drop l.remark-index l.remark-items)) ≡ remark_by l.number (remarks_on l.d.role (described l.d))
