use Rattle.std.proofs.Common.{◌≡◌, ◌++◌, Option, drop}
use Rattle.std.specs.List.{flat_map}
use Rattle.usb_remarks.specs.declared.remark.Remark.{Remark}
use Rattle.usb_remarks.specs.Outline.{described}
use Rattle.usb_remarks.specs.PlacedRemarks.{maybe_lines, remark_lines_of}
use Rattle.usb_remarks.proofs.placed_remark.put_lines.Given as goal

abbrev pub invariant-loop-remark : goal.invariant-loop-remark
invariant-loop-remark l =
    l.text.items ++ flat_map (λ (r : Option Remark). maybe_lines l.d.place r) (drop l.remark-index l.remark-items)
    ≡ l.initial.text.items ++ remark_lines_of (described l.d)
