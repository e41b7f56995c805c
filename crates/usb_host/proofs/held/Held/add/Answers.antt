use Rattle.usb_host.proofs.PlaceLemmas.{adds_kept, adds_short}
use Rattle.usb_host.proofs.held.Held.add.Goals as goal

-- src/held.rt: the bytes of a short read have no decoder that answers
pub returns-in_default : goal.returns-in_default
returns-in_default c = adds_short c.args.due.now c.args.self.now c.args.piece.now c.add.new.self c.in_default.not-Set c.add.ensures

-- a piece that only extends a descriptor has an answer that lacks no memory
pub returns-then-keeps : goal.returns-then-keeps
returns-then-keeps c =
    adds_kept c.args.due.now c.args.self.now c.args.piece.now c.keeps.new.self c.in-Set.kind c.in-Set.total c.in-Set.is (c.keeps.ensures.kept c.if-keeps.true)
