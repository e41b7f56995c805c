use Rattle.std.proofs.Common.{◌≡◌, ◌∙◌, ap, arith, subst, sym}
use Rattle.usb_remarks.specs.declared.outline_state.OutlineState.{OutlineState}
use Rattle.usb_remarks.specs.OutlineStates.{AreCounted}
use Rattle.usb_walk.proofs.Positions.{same_at}
use Rattle.usb_remarks.proofs.OutlineStates.{counted_entered}
use Rattle.usb_remarks.proofs.outline_state.OutlineState.step_over.Goals as goal

pub pass-requires-clause-counted : goal.pass-requires-clause-counted
pass-requires-clause-counted c =
    subst (λ (s : OutlineState). AreCounted s) (sym c.enter.ensures) (counted_entered c.args.role c.args.running c.args.ahead.now c.args.self.now c.requires.counted)

pub pass-requires-clause-room : goal.pass-requires-clause-room
pass-requires-clause-room c =
    let same : c.enter.new.self.position.at ≡ c.args.self.now.position.at =
    ap (λ (s : OutlineState). s.position.at) c.enter.ensures ∙ same_at c.args.role c.args.ahead.now c.args.self.now.position in
    omega (arith, same, c.split_at.ensures.front_len, c.requires.room, c.requires.most)
