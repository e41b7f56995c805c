use Rattle.std.proofs.Common.{◌≡◌, ◌∙◌, ap, arith}
use Rattle.usb_walk.proofs.Positions.{noted_at}
use Rattle.usb_walk.specs.declared.position.Position.{Position}
use Rattle.usb_walk.proofs.position.Position.pass.Goals as goal

pub go_on-requires : goal.go_on-requires
go_on-requires c =
    let same : c.note.new.self.at ≡ c.args.self.now.at = ap (λ (p : Position). p.at) c.note.ensures ∙ noted_at c.args.role c.args.d.now c.args.self.now in
    omega (arith, same, c.requires.room)
