use Rattle.usb_set.proofs.Feeds.{nothing_kept}
use Rattle.usb_set.proofs.decoder.Decoder.feed.Goals as goal

pub returns-then-keeps-clause-empty : goal.returns-then-keeps-clause-empty
returns-then-keeps-clause-empty c = nothing_kept c.args.self.now _ c.args.piece.now (c.keeps.ensures.kept c.if-keeps.true)
