use Rattle.std.proofs.Common.{◌+◌, drop, sym, ◌∙◌, ap, arith}
use Rattle.usb_capture.specs.Words.{◌>>=◌, number_after}
use Rattle.usb_capture.proofs.WordLemmas.{number_all, number_more}
use Rattle.usb_capture.proofs.text.words.number_of.Goals as goal

pub returns-in_err-number : goal.returns-in_err-number
returns-in_err-number c =
    let i = c.loop-character.character-index in
    let text = c.args.text.now in
    c.from_residual.ensures
    ∙ sym (number_more c.args.base c.loop-character.number text i (omega arith) ∙ ap (λ o. o >>= λ m. number_after c.args.base m (drop (i + 1) text)) (sym c.number_with.ensures ∙ c.in_err-number.was))
    ∙ c.loop-character.invariant

pub loop-character-preserved : goal.loop-character-preserved
loop-character-preserved c =
    let i = c.loop-character.character-index in
    let text = c.args.text.now in
    sym (number_more c.args.base c.loop-character.number text i (omega arith) ∙ ap (λ o. o >>= λ m. number_after c.args.base m (drop (i + 1) text)) (sym c.number_with.ensures ∙ c.in_ok-number.was))
    ∙ c.loop-character.invariant

pub returns : goal.returns
returns c = sym (number_all c.args.base c.loop-character.number c.args.text.now c.loop-character.character-index (omega arith)) ∙ c.loop-character.invariant
