use Rattle.std.proofs.Common.{refl}
use Rattle.usb_remarks.specs.OutlineStates.{start}
use Rattle.usb_remarks.proofs.outline_state.OutlineState.start.Goals as goal

pub returns-clause-start : goal.returns-clause-start
unfolding start
returns-clause-start c = rw (c.start.ensures.start, c.new.ensures, c.new-2.ensures, c.new-3.ensures) refl
