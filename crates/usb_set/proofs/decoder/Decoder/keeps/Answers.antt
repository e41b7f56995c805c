use Rattle.std.proofs.Common.{◌∙◌, ap, subst}
use Rattle.std.specs.Prelude.{Bool}
use Rattle.usb_set.specs.inside.Holding.{decoding_of}
use Rattle.usb_set.specs.inside.Stepping.{Keeps}
use Rattle.usb_set.proofs.Feeds.{answers_kept, kept_sound}
use Rattle.usb_set.proofs.decoder.Decoder.keeps.Goals as goal

pub invariant_of-self : goal.invariant_of-self
invariant_of-self c = kept_sound c.self.inside.fault c.self.inside.reader c.keeps.new.self c.args.piece.now c.keeps.result c.self.invariant c.known_bytes.ensures c.keeps.ensures

pub returns : goal.returns
returns c =
    let P : Bool → Type 0 = λ kept. Keeps c.self.inside.reader c.args.piece.now kept c.keeps.new.self in
    record {
      kept = λ is. answers_kept c.args.self.now c.self.inside.fault c.self.inside.reader c.keeps.new.self c.args.piece.now c.self.view_is c.self.invariant c.known_bytes.ensures (subst P is c.keeps.ensures);
      same = λ is. ap (decoding_of c.self.inside.fault) (subst P is c.keeps.ensures) ∙ c.self.view_is;
    }
