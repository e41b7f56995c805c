use Rattle.std.proofs.Common.{◌≡◌}
use Rattle.usb_c.specs.Words.{descriptor_at}
use Rattle.usb_c.proofs.remark_text.remark_in.Given as goal

abbrev pub invariant-loop-descriptor : goal.invariant-loop-descriptor
invariant-loop-descriptor l = descriptor_at l.remark.place l.descriptor-iterator ≡ descriptor_at l.remark.place l.fn.outline
