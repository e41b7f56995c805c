use Rattle.std.proofs.Common.{◌∙◌, length, Ok, sym}
use Rattle.std.proofs.lemmas.Bool.{eqb-true}
use Rattle.std.proofs.lemmas.List.{nil_from_length}
use Rattle.usb_set.proofs.Feeds.{holds, sound_work, answers, nothing_new, ok_sound, feeds_ok, feeds_err}
use Rattle.usb_set.proofs.decoder.Decoder.feed_on.Goals as goal

pub returns-then-is_empty-clause-answer : goal.returns-then-is_empty-clause-answer
returns-then-is_empty-clause-answer c =
    let sound = holds c.self.inside.fault c.self.inside.reader c.in_default.is c.self.invariant in
    let work = sound_work c.self.inside.reader sound (sym c.is_done.ensures ∙ c.if-is_done.false) in
    nothing_new c.args.self.now c.self.inside.fault c.self.inside.reader c.args.piece.now c.self.view_is c.in_default.is sound work (nil_from_length c.args.piece.now (eqb-true (length c.args.piece.now) 0 (sym c.is_empty.ensures ∙ c.if-is_empty.true)))

pub invariant_of-self : goal.invariant_of-self
invariant_of-self c =
    let sound = holds c.self.inside.fault c.self.inside.reader c.in_default.is c.self.invariant in
    let work = sound_work c.self.inside.reader sound (sym c.is_done.ensures ∙ c.if-is_done.false) in
    ok_sound c.self.inside.fault c.self.inside.reader c.read.new.self c.args.piece.now c.in-Ok.progress c.in_default.is sound work c.known_bytes.ensures c.in-Ok.ensures

pub returns-in-Ok-clause-answer : goal.returns-in-Ok-clause-answer
returns-in-Ok-clause-answer c =
    let sound = holds c.self.inside.fault c.self.inside.reader c.in_default.is c.self.invariant in
    let work = sound_work c.self.inside.reader sound (sym c.is_done.ensures ∙ c.if-is_done.false) in
    answers c.args.self.now _ c.self.inside.fault c.self.inside.reader c.args.piece.now (Ok c.in-Ok.progress) c.self.view_is c.in_default.is work
    (feeds_ok c.self.inside.fault c.self.inside.reader c.read.new.self c.args.piece.now c.in-Ok.progress c.in_default.is sound work c.known_bytes.ensures c.in-Ok.ensures)

pub returns-in-Err-clause-answer : goal.returns-in-Err-clause-answer
returns-in-Err-clause-answer c =
    let sound = holds c.self.inside.fault c.self.inside.reader c.in_default.is c.self.invariant in
    let work = sound_work c.self.inside.reader sound (sym c.is_done.ensures ∙ c.if-is_done.false) in
    answers c.args.self.now _ c.self.inside.fault c.self.inside.reader c.args.piece.now _ c.self.view_is c.in_default.is work
    (feeds_err c.self.inside.reader c.read.new.self c.args.piece.now c.in-Err.fault sound work c.known_bytes.ensures c.in-Err.ensures)
