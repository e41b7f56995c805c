use Rattle.std.proofs.Common.{◌≡◌, ◌+◌, ◌-◌, ◌∙◌, Err, ℕ, List, length, take, drop, sym, ap, subst, arith, length-drop, inl, inr}
use Rattle.std.proofs.Math.Seq.{take-add}
use Rattle.std.proofs.lemmas.List.{take_all, take-append-drop}
use Rattle.usb_set.specs.declared.fault.SetFault.{SetFault}
use Rattle.usb_set.specs.declared.reader.Step.TheVariants.{Took, Cut, Refused}
use Rattle.usb_set.specs.inside.Reading.{Reading, faulty, reads}
use Rattle.usb_set.specs.inside.Stepping.{WantsHere, Steps, Reads}
use Rattle.usb_set.proofs.ByteByByte.{reads-append}
use Rattle.usb_set.proofs.Stepping.{not_done}
use Rattle.usb_set.proofs.reader.Reader.read.Goals as goal

-- over the rest of the piece
over_rest : (old now new : Reading) (used : ℕ) (piece : List ℕ) → reads old (take used piece) ≡ now → reads now (drop used piece) ≡ new → reads old piece ≡ new
over_rest old now new used piece is next =
    ap (reads old) (sym (take-append-drop used piece)) ∙ reads-append old (take used piece) (drop used piece) ∙ ap (λ (r : Reading). reads r (drop used piece)) is ∙ next

-- over one more descriptor
over_next : (old now new : Reading) (used count : ℕ) (piece : List ℕ) → reads old (take used piece) ≡ now → reads now (take count (drop used piece)) ≡ new → reads old (take (used + count) piece) ≡ new
over_next old now new used count piece is next =
    ap (reads old) (take-add used count piece) ∙ reads-append old (take used piece) (take count (drop used piece)) ∙ ap (λ (r : Reading). reads r (take count (drop used piece))) is ∙ next

rest_is : (used : ℕ) (piece : List ℕ) → take (length piece - used) (drop used piece) ≡ drop used piece
rest_is used piece = take_all (length piece - used) (drop used piece) (omega (arith, length-drop used piece))

cut_at : (now new : Reading) (used : ℕ) (piece : List ℕ) → Steps now (take (length piece - used) (drop used piece)) Cut new → Steps now (drop used piece) Cut new
cut_at now new used piece h = let P : List ℕ → Type 0 = λ z. Steps now z Cut new in subst P (rest_is used piece) h

refused_at : (now new : Reading) (used : ℕ) (piece : List ℕ) (fault : SetFault) → Steps now (take (length piece - used) (drop used piece)) (Refused fault) new → Steps now (drop used piece) (Refused fault) new
refused_at now new used piece fault h = let P : List ℕ → Type 0 = λ z. Steps now z (Refused fault) new in subst P (rest_is used piece) h

took_at : (now new : Reading) (used : ℕ) (piece : List ℕ) (count : ℕ) → Steps now (take (length piece - used) (drop used piece)) (Took count) new → Steps now (drop used piece) (Took count) new
took_at now new used piece count h = let P : List ℕ → Type 0 = λ z. Steps now z (Took count) new in subst P (rest_is used piece) h

refused_over : (old now new : Reading) (used : ℕ) (piece : List ℕ) (fault : SetFault) → reads old (take used piece) ≡ now → Steps now (drop used piece) (Refused fault) new → Reads old piece (Err fault) new
refused_over old now new used piece fault is (inl wants) = inl (record { count = used; here = subst (λ (r : Reading). WantsHere r (drop used piece) fault) (sym is) wants })
refused_over old now new used piece fault is (inr e) = inr (over_rest old now (faulty fault.at fault.why) used piece is e)

pub returns-in-Cut : goal.returns-in-Cut
returns-in-Cut c =
    let step = cut_at c.loop-used.self c.step.new.self c.loop-used.used c.args.piece.now c.in-Cut.ensures in
    (over_rest c.args.self.now c.loop-used.self c.step.new.self c.loop-used.used c.args.piece.now c.loop-used.invariant.1 step.0, step.1)

pub returns-in-Refused : goal.returns-in-Refused
returns-in-Refused c =
    refused_over c.args.self.now c.loop-used.self c.step.new.self c.loop-used.used c.args.piece.now c.in-Refused.fault c.loop-used.invariant.1
    (refused_at c.loop-used.self c.step.new.self c.loop-used.used c.args.piece.now c.in-Refused.fault c.in-Refused.ensures)

pub returns-then-is_done : goal.returns-then-is_done
returns-then-is_done c =
    let step = took_at c.loop-used.self c.step.new.self c.loop-used.used c.args.piece.now c.in-Took.count c.in-Took.ensures in (
      omega (arith, step.0, c.loop-used.invariant.0, length-drop c.loop-used.used c.args.piece.now),
      over_next c.args.self.now c.loop-used.self c.step.new.self c.loop-used.used c.in-Took.count c.args.piece.now c.loop-used.invariant.1 step.2,
      omega (arith, step.3, c.loop-used.invariant.2),
      sym c.is_done.ensures ∙ c.if-is_done.true,
    )

pub loop-used-preserved : goal.loop-used-preserved
loop-used-preserved c =
    let step = took_at c.loop-used.self c.step.new.self c.loop-used.used c.args.piece.now c.in-Took.count c.in-Took.ensures in (
      omega (arith, step.0, c.loop-used.invariant.0, length-drop c.loop-used.used c.args.piece.now),
      over_next c.args.self.now c.loop-used.self c.step.new.self c.loop-used.used c.in-Took.count c.args.piece.now c.loop-used.invariant.1 step.2,
      omega (arith, step.3, c.loop-used.invariant.2),
      not_done c.step.new.self step.4 (sym c.is_done.ensures ∙ c.if-is_done.false),
    )
