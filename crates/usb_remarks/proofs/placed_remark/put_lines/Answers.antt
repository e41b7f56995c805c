use Rattle.std.proofs.Common.{ℕ, List, ◌++◌, ap}
use Rattle.usb_remarks.specs.Outline.{described}
use Rattle.usb_remarks.proofs.RemarksPlaced.{all_placed}
use Rattle.usb_remarks.proofs.placed_remark.put_lines.Goals as goal

pub loop-remark-init : goal.loop-remark-init
loop-remark-init c =
    ap (λ (l : List ℕ). c.args.text.now.items ++ l) (all_placed (described c.args.d.now) c.remarks-remarks.result c.remarks-remarks.ensures)
