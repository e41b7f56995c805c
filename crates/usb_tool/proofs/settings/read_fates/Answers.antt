use Rattle.std.proofs.Common.{rules, ◌≡◌, ◌∙◌, ◌++◌, ◌∷◌, [], ℕ, List, get_or, Some, None, Result, Ok, Err, subst, sym}
use Rattle.std.specs.Prelude.{IfErr, IsErrAnd}
use Rattle.usb_tool.specs.OptionValues.{BeginsWithFate, RefusesFates, fate_of}
use Rattle.usb_tool.specs.declared.settings.FatesFault.{FatesFault}
use Rattle.usb_tool.specs.declared.settings.FatesFault.TheVariants.{Memory}
use Rattle.usb_tool.proofs.FateLemmas.{begins, fates_end, fates_more, fates_stop}
use Rattle.usb_tool.proofs.settings.read_fates.Goals as goal

-- a growth is refused only behind a first letter that has a fate
refused : {T : Type 0} (text : List ℕ) (r : Result T FatesFault) → IsErrAnd r (λ fault. fault ≡ Memory) → BeginsWithFate text → IfErr r (RefusesFates text)
refused text (Ok fates) memory begun = tt
refused text (Err fault) memory begun = subst (RefusesFates text) (sym memory) begun

pub returns-in_err-push-in-Some-clause-err : goal.returns-in_err-push-in-Some-clause-err
returns-in_err-push-in-Some-clause-err c =
    let some : fate_of (get_or c.args.text.now c.loop-letter.letter-index 0) ≡ Some c.in-Some.fate = search rules in
    refused c.args.text.now c.from_residual.result c.from_residual.ensures.1
    (begins c.args.text.now c.loop-letter.letter-index c.in-Some.fate (search rules) some c.loop-letter.invariant.begun)

pub returns-in-None-clause-err : goal.returns-in-None-clause-err
returns-in-None-clause-err c =
    let none : fate_of (get_or c.args.text.now c.loop-letter.letter-index 0) ≡ None = search rules in
    c.loop-letter.invariant.read ∙ fates_stop c.args.text.now c.loop-letter.letter-index c.loop-letter.fates.items (search rules) none

pub loop-letter-preserved : goal.loop-letter-preserved
loop-letter-preserved c =
    let some : fate_of (get_or c.args.text.now c.loop-letter.letter-index 0) ≡ Some c.in-Some.fate = search rules in
    let grown : c.push.new.self.items ≡ c.loop-letter.fates.items ++ c.in-Some.fate ∷ [] = search rules in
    record {
      read = rw grown (c.loop-letter.invariant.read ∙ fates_more c.args.text.now c.loop-letter.letter-index c.loop-letter.fates.items c.in-Some.fate (search rules) some);
      begun = λ _. begins c.args.text.now c.loop-letter.letter-index c.in-Some.fate (search rules) some c.loop-letter.invariant.begun;
    }

pub returns-clause-ok : goal.returns-clause-ok
returns-clause-ok c =
    c.loop-letter.invariant.read ∙ fates_end c.args.text.now c.loop-letter.letter-index c.loop-letter.fates.items (search rules)
