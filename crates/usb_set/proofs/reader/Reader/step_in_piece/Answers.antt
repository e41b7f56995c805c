use Rattle.std.proofs.Common.{◌≡◌, ◌<◌, ◌++◌, ◌∙◌, ℕ, [], List, length, take, sym, ap, subst, arith, length-append, inl}
use Rattle.std.proofs.lemmas.List.{take_all}
use Rattle.usb_set.specs.Faults.{is_whole}
use Rattle.usb_set.specs.inside.Reading.{Reading, first_byte}
use Rattle.usb_set.specs.inside.Stepping.{InWork, GoesOn, Steps, current_of, fault_at, past, with_current}
use Rattle.usb_set.specs.declared.reader.Step.TheVariants.{Took, Cut}
use Rattle.usb_set.proofs.Stepping.{wanting_still, on_ok, work_of, current_with, step_refused, step_cut, step_took, wants_here, front_taken, fault_front}
use Rattle.usb_set.proofs.reader.Reader.step_in_piece.Goals as goal
use Rattle.usb_set.proofs.ByteByByte.{whole_some}

-- no byte of the current descriptor was there
nothing : (old p : Reading) (current : List ℕ) → with_current p current ≡ old → InWork old → current_of old ≡ [] → current ≡ []
nothing old p current is w none = sym (current_with p current (work_of p current (subst InWork (sym is) w))) ∙ ap current_of is ∙ none

pub returns-in-Some : goal.returns-in-Some
returns-in-Some c =
    let none : c.self.inside.current.items ≡ [] = nothing c.args.self.now c.self.inside.partial c.self.inside.current.items c.self.view_is c.requires.work c.requires.empty in
    let P : Reading → Type 0 = λ r. GoesOn r in
    step_refused c.args.self.now c.self.inside.partial c.self.inside.partial c.self.inside.current.items c.args.bytes.now (length c.args.bytes.now) c.in-Some.fault
    c.self.view_is c.requires.work (subst P c.self.view_is c.self.invariant.0)
    (ap (λ (z : List ℕ). fault_at c.self.inside.partial (z ++ take (length c.args.bytes.now) c.args.bytes.now)) none
    ∙ ap (fault_at c.self.inside.partial) (take_all (length c.args.bytes.now) c.args.bytes.now (omega arith)) ∙ sym c.in-Some.ensures)

pub returns-in_default-split_descriptor : goal.returns-in_default-split_descriptor
returns-in_default-split_descriptor c =
    let none : c.self.inside.current.items ≡ [] = nothing c.args.self.now c.self.inside.partial c.self.inside.current.items c.self.view_is c.requires.work c.requires.empty in
    let P : List ℕ → Type 0 = λ z. Steps c.args.self.now c.args.bytes.now Cut (with_current c.self.inside.partial z) in
    subst P (sym c.keep.ensures)
    (step_cut c.args.self.now c.self.inside.partial c.self.inside.current.items c.args.bytes.now c.self.view_is c.requires.work
    (ap (λ (z : List ℕ). fault_at c.self.inside.partial (z ++ c.args.bytes.now)) none ∙ sym c.in_default.ensures)
    (let S : List ℕ → Type 0 = λ z. length (z ++ c.args.bytes.now) < first_byte (z ++ c.args.bytes.now) in subst S (sym none) c.in_default-split_descriptor.ensures.none))

pub returns-then-is_err : goal.returns-then-is_err
returns-then-is_err c =
    let none : c.self.inside.current.items ≡ [] = nothing c.args.self.now c.self.inside.partial c.self.inside.current.items c.self.view_is c.requires.work c.requires.empty in
    let parts : c.args.bytes.now ≡ c.in-Some-split_descriptor.item.now ++ c.in-Some-split_descriptor.field-0-1.now = c.in-Some-split_descriptor.ensures.some.parts in
    let front : take (length c.in-Some-split_descriptor.item.now) c.args.bytes.now ≡ c.in-Some-split_descriptor.item.now =
    ap (take (length c.in-Some-split_descriptor.item.now)) parts ∙ front_taken c.in-Some-split_descriptor.item.now c.in-Some-split_descriptor.field-0-1.now in
    let all : c.self.inside.current.items ++ take (length c.in-Some-split_descriptor.item.now) c.args.bytes.now ≡ c.in-Some-split_descriptor.item.now =
    ap (λ (z : List ℕ). z ++ take (length c.in-Some-split_descriptor.item.now) c.args.bytes.now) none ∙ front in
    inl (wants_here c.args.self.now c.self.inside.partial c.self.inside.current.items c.args.bytes.now (length c.in-Some-split_descriptor.item.now) c.out_of_memory.result c.self.view_is c.requires.work
    (ap is_whole all ∙ c.in-Some-split_descriptor.ensures.some.whole)
    (omega (arith, ap length parts, length-append c.in-Some-split_descriptor.item.now c.in-Some-split_descriptor.field-0-1.now))
    (whole_some c.in-Some-split_descriptor.item.now c.in-Some-split_descriptor.ensures.some.whole) (wanting_still c.self.inside.partial c.grow.new.self c.grow.result c.out_of_memory.result (sym c.is_err.ensures.value ∙ c.if-is_err.true) c.grow.ensures.err c.out_of_memory.ensures))

pub returns : goal.returns
returns c =
    let none : c.self.inside.current.items ≡ [] = nothing c.args.self.now c.self.inside.partial c.self.inside.current.items c.self.view_is c.requires.work c.requires.empty in
    let parts : c.args.bytes.now ≡ c.in-Some-split_descriptor.item.now ++ c.in-Some-split_descriptor.field-0-1.now = c.in-Some-split_descriptor.ensures.some.parts in
    let front : take (length c.in-Some-split_descriptor.item.now) c.args.bytes.now ≡ c.in-Some-split_descriptor.item.now =
    ap (take (length c.in-Some-split_descriptor.item.now)) parts ∙ front_taken c.in-Some-split_descriptor.item.now c.in-Some-split_descriptor.field-0-1.now in
    let all : c.self.inside.current.items ++ take (length c.in-Some-split_descriptor.item.now) c.args.bytes.now ≡ c.in-Some-split_descriptor.item.now =
    ap (λ (z : List ℕ). z ++ take (length c.in-Some-split_descriptor.item.now) c.args.bytes.now) none ∙ front in
    let P : List ℕ → Type 0 = λ z. Steps c.args.self.now c.args.bytes.now (Took (length c.in-Some-split_descriptor.item.now)) (with_current c.grow.new.self z) in
    subst P (sym none)
    (step_took c.args.self.now c.self.inside.partial c.grow.new.self c.self.inside.current.items c.args.bytes.now (length c.in-Some-split_descriptor.item.now) c.self.view_is c.requires.work
    (ap (fault_at c.self.inside.partial) all ∙ fault_front c.self.inside.partial c.in-Some-split_descriptor.item.now c.in-Some-split_descriptor.field-0-1.now (sym (ap (fault_at c.self.inside.partial) parts) ∙ sym c.in_default.ensures)) (ap is_whole all ∙ c.in-Some-split_descriptor.ensures.some.whole)
    (omega (arith, ap length parts, length-append c.in-Some-split_descriptor.item.now c.in-Some-split_descriptor.field-0-1.now))
    (whole_some c.in-Some-split_descriptor.item.now c.in-Some-split_descriptor.ensures.some.whole)
    (on_ok c.grow.result _ (sym c.is_err.ensures.value ∙ c.if-is_err.false) c.grow.ensures.ok ∙ ap (past c.self.inside.partial) (sym all)) c.grow.ensures.start)
