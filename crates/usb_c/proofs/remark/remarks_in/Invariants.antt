use Rattle.std.proofs.Common.{◌≡◌, ◌++◌}
use Rattle.std.specs.List.{flat_map}
use Rattle.usb_c.specs.Remarks.{remarks_at}
use Rattle.usb_c.proofs.remark.remarks_in.Given as goal

abbrev pub invariant-loop-descriptor : goal.invariant-loop-descriptor
invariant-loop-descriptor l = l.remarks.items ++ flat_map remarks_at l.descriptor-iterator ≡ flat_map remarks_at l.fn.outline
