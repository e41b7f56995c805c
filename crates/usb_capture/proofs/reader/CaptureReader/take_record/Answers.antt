use Rattle.std.proofs.Common.{[], ◌∷◌, refl, sym, ◌∙◌, ap}
use Rattle.std.specs.Prelude.{Ok}
use Rattle.usb_capture.specs.declared.content.Content.TheVariants.{Packet}
use Rattle.usb_capture.specs.Files.{content, last_four}
use Rattle.usb_capture.proofs.Parts.{front_ended, front_some}
use Rattle.usb_capture.proofs.reader.CaptureReader.take_record.Goals as goal

pub returns-clause-within : goal.returns-clause-within
returns-clause-within c = c.requires.front.within

pub returns-clause-goes_on : goal.returns-clause-goes_on
returns-clause-goes_on c all frames read some = front_some c.args.self.now c.args.piece.now c.args.used c.requires.front

pub returns-clause-ok : goal.returns-clause-ok
returns-clause-ok c all frames read =
    let old = c.args.self.now in
    let part = c.prefix-part.result.now in
    let head = c.record_head.result in
    front_ended old _ (Packet head) _ c.args.piece.now part c.args.used (last_four part) c.requires.front c.prefix-part.ensures refl
    (ap (λ h. Ok (Packet h)) c.record_head.ensures ∙ sym (ap (λ s. content s old.interfaces.items part c.args.used (last_four part)) c.requires.stage))
    (ap (λ f. f ∷ []) c.in_ok-frame.ensures)
    refl refl refl refl c.saturating_add-self.ensures
    all frames read
