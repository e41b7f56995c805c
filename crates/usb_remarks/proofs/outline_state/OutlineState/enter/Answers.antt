use Rattle.std.proofs.Common.{◌≡◌, ◌∙◌, ap}
use Rattle.usb_walk.specs.declared.position.Position.{Position}
use Rattle.usb_remarks.specs.declared.outline_state.OutlineState.{OutlineState}
use Rattle.usb_walk.specs.Positions.{position_at}
use Rattle.usb_remarks.proofs.OutlineStates.{looked_position}
use Rattle.usb_remarks.proofs.outline_state.OutlineState.enter.Goals as goal

pub returns : goal.returns
returns c =
    let now : Position = position_at c.args.role c.args.ahead.now c.args.self.now.position in
    let same : c.look_ahead.new.self.position ≡ c.args.self.now.position =
    ap (λ (s : OutlineState). s.position) c.look_ahead.ensures ∙ looked_position c.args.role c.args.running c.args.ahead.now c.args.self.now in
    let at : c.enter.new.self ≡ now = c.enter.ensures ∙ ap (λ p. position_at c.args.role c.args.ahead.now p) same in
    ap (λ (p : Position). record c.look_ahead.new.self { position = p }) at ∙ ap (λ (s : OutlineState). record s { position = now }) c.look_ahead.ensures
