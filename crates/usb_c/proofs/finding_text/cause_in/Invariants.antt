use Rattle.std.proofs.Common.{◌≡◌}
use Rattle.usb_c.specs.Words.{descriptor_at}
use Rattle.usb_c.proofs.finding_text.cause_in.Given as goal

abbrev pub invariant-loop-descriptor : goal.invariant-loop-descriptor
invariant-loop-descriptor l = descriptor_at l.finding.place l.descriptor-iterator ≡ descriptor_at l.finding.place l.fn.outline
