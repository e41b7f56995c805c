use Rattle.std.proofs.Common.{ℕ, ◌∙◌, ap, ap₂}
use Rattle.usb_walk.specs.declared.position.Position.{Position}
use Rattle.usb_walk.specs.Surroundings.{depth_of}
use Rattle.usb_walk.proofs.Positions.{depth_after}
use Rattle.usb_walk.proofs.walked_descriptor.WalkedDescriptor.pass.Goals as goal

pub returns : goal.returns
returns c =
    let moved = c.pass.ensures in
    let deep = c.depth-self.ensures ∙ ap (λ p. depth_of p c.args.role) moved ∙ depth_after c.args.role c.args.d.now c.args.self.now.position in
    ap₂ (λ (depth : ℕ) (position : Position). record c.args.self.now { depth = depth; position = position }) deep moved
