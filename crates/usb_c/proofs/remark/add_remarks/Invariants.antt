use Rattle.std.proofs.Common.{◌≡◌, ◌++◌, Option, drop, map}
use Rattle.std.specs.List.{flat_map}
use Rattle.usb_remarks.specs.declared.remark.Remark.{Remark}
use Rattle.usb_remarks.specs.Outline.{described}
use Rattle.usb_remarks.specs.RemarkValues.{there}
use Rattle.usb_c.specs.Remarks.{numbered, remarks_at}
use Rattle.usb_c.proofs.remark.add_remarks.Given as goal

abbrev pub invariant-loop-remark : goal.invariant-loop-remark
invariant-loop-remark l =
    l.remarks.items ++ flat_map (λ (r : Option Remark). map (numbered (described l.d)) (there r)) (drop l.remark-index l.remark-items)
    ≡ l.initial.remarks.items ++ remarks_at (described l.d)
