use Rattle.std.proofs.Common.{◌≡◌, ◌-◌, min, get_or, inl, ◌<◌, ◌++◌, ◌∙◌, ℕ, List, length, take, sym, ap, subst, arith}
use Rattle.usb_set.specs.inside.Reading.{Reading, first_byte}
use Rattle.usb_set.specs.inside.Stepping.{InWork, GoesOn, Steps, current_of, fault_at, past, with_current}
use Rattle.usb_set.specs.declared.reader.Step.TheVariants.{Took, Cut}
use Rattle.usb_set.proofs.Stepping.{wanting_still, on_ok, first_is, first_stays_first, on_short, work_of, step_refused, step_cut, step_took, wants_here, takes_all, ends_here, current_with}
use Rattle.usb_set.proofs.reader.Reader.step_in_buffer.Goals as goal

is_current : (old p : Reading) (current : List ℕ) → with_current p current ≡ old → InWork old → InWork p
is_current old p current is w = work_of p current (subst InWork (sym is) w)

some_current : (old p : Reading) (current : List ℕ) → with_current p current ≡ old → InWork old → 0 < length (current_of old) → 0 < length current
some_current old p current is w some = omega (arith, some, ap length (ap current_of (sym is) ∙ current_with p current (is_current old p current is w)))

pub returns-in-Some : goal.returns-in-Some
returns-in-Some c =
    step_refused c.args.self.now c.self.inside.partial c.self.inside.partial c.self.inside.current.items c.args.bytes.now c.min-count.result c.in-Some.fault
    c.self.view_is c.requires.work (let P : Reading → Type 0 = λ r. GoesOn r in subst P c.self.view_is c.self.invariant.0)
    (ap (fault_at c.self.inside.partial) (sym (c.deref-2.ensures.0 ∙ c.keep.ensures)) ∙ sym c.in-Some.ensures)

pub returns-then-len : goal.returns-then-len
returns-then-len c =
    let kept : c.keep.new.current.items ≡ c.self.inside.current.items ++ take c.min-count.result c.args.bytes.now = c.keep.ensures in
    let short : length (c.self.inside.current.items ++ take c.min-count.result c.args.bytes.now) < c.from-len.result = omega (arith, ap length kept, c.len.ensures.value, c.if-len.true) in
    let all : take c.min-count.result c.args.bytes.now ≡ c.args.bytes.now = takes_all c.self.inside.current.items c.args.bytes.now c.from-len.result c.min-count.result (c.min-count.ensures ∙ ap (λ n. min (c.from-len.result - n) (length c.args.bytes.now)) c.len-before.ensures.value) short in
    let is : c.keep.new.current.items ≡ c.self.inside.current.items ++ c.args.bytes.now = kept ∙ ap (λ (z : List ℕ). c.self.inside.current.items ++ z) all in
    let len_is : c.from-len.result ≡ first_byte c.self.inside.current.items = c.from-len.ensures ∙ ap (λ (z : List ℕ). get_or z 0 0) c.deref.ensures.0 ∙ first_is c.self.inside.current.items 0 (some_current c.args.self.now c.self.inside.partial c.self.inside.current.items c.self.view_is c.requires.work c.requires.some) in
    let P : List ℕ → Type 0 = λ z. Steps c.args.self.now c.args.bytes.now Cut (with_current c.self.inside.partial z) in
    subst P (sym is)
    (step_cut c.args.self.now c.self.inside.partial c.self.inside.current.items c.args.bytes.now c.self.view_is c.requires.work
    (ap (fault_at c.self.inside.partial) (sym (c.deref-2.ensures.0 ∙ is)) ∙ sym c.in_default.ensures)
    (omega (
      arith,
      short,
      ap (λ (z : List ℕ). length (c.self.inside.current.items ++ z)) all,
      len_is,
      first_stays_first c.self.inside.current.items c.args.bytes.now (some_current c.args.self.now c.self.inside.partial c.self.inside.current.items c.self.view_is c.requires.work c.requires.some),
    )))

pub returns-then-is_err : goal.returns-then-is_err
returns-then-is_err c =
    let some = some_current c.args.self.now c.self.inside.partial c.self.inside.current.items c.self.view_is c.requires.work c.requires.some in
    let on : GoesOn (with_current c.self.inside.partial c.self.inside.current.items) = c.self.invariant.0 in
    let kept : c.keep.new.current.items ≡ c.self.inside.current.items ++ take c.min-count.result c.args.bytes.now = c.keep.ensures in
    let len_is : c.from-len.result ≡ first_byte c.self.inside.current.items = c.from-len.ensures ∙ ap (λ (z : List ℕ). get_or z 0 0) c.deref.ensures.0 ∙ first_is c.self.inside.current.items 0 some in
    let ends = ends_here c.self.inside.current.items c.args.bytes.now c.from-len.result c.min-count.result (c.min-count.ensures ∙ ap (λ n. min (c.from-len.result - n) (length c.args.bytes.now)) c.len-before.ensures.value) len_is some
    (on_short c.self.inside.partial c.self.inside.current.items (is_current c.args.self.now c.self.inside.partial c.self.inside.current.items c.self.view_is c.requires.work) on).0
    (λ lt. omega (arith, ap length kept, c.len.ensures.value, c.if-len.false, lt)) in
    inl (wants_here c.args.self.now c.self.inside.partial c.self.inside.current.items c.args.bytes.now c.min-count.result c.out_of_memory.result c.self.view_is c.requires.work ends.0 ends.1 ends.2 (wanting_still c.self.inside.partial c.grow-grown.new.self c.grow-grown.result c.out_of_memory.result (sym c.is_err.ensures.value ∙ c.if-is_err.true) c.grow-grown.ensures.err c.out_of_memory.ensures))

pub returns : goal.returns
returns c =
    let some = some_current c.args.self.now c.self.inside.partial c.self.inside.current.items c.self.view_is c.requires.work c.requires.some in
    let on : GoesOn (with_current c.self.inside.partial c.self.inside.current.items) = c.self.invariant.0 in
    let kept : c.keep.new.current.items ≡ c.self.inside.current.items ++ take c.min-count.result c.args.bytes.now = c.keep.ensures in
    let len_is : c.from-len.result ≡ first_byte c.self.inside.current.items = c.from-len.ensures ∙ ap (λ (z : List ℕ). get_or z 0 0) c.deref.ensures.0 ∙ first_is c.self.inside.current.items 0 some in
    let ends = ends_here c.self.inside.current.items c.args.bytes.now c.from-len.result c.min-count.result (c.min-count.ensures ∙ ap (λ n. min (c.from-len.result - n) (length c.args.bytes.now)) c.len-before.ensures.value) len_is some
    (on_short c.self.inside.partial c.self.inside.current.items (is_current c.args.self.now c.self.inside.partial c.self.inside.current.items c.self.view_is c.requires.work) on).0
    (λ lt. omega (arith, ap length kept, c.len.ensures.value, c.if-len.false, lt)) in
    let P : List ℕ → Type 0 = λ z. Steps c.args.self.now c.args.bytes.now (Took c.min-count.result) (with_current c.grow-grown.new.self z) in
    subst P (sym c.clear-2.ensures)
    (step_took c.args.self.now c.self.inside.partial c.grow-grown.new.self c.self.inside.current.items c.args.bytes.now c.min-count.result c.self.view_is c.requires.work
    (ap (fault_at c.self.inside.partial) (sym (c.deref-2.ensures.0 ∙ kept)) ∙ sym c.in_default.ensures) ends.0 ends.1 ends.2
    (on_ok c.grow-grown.result _ (sym c.is_err.ensures.value ∙ c.if-is_err.false) c.grow-grown.ensures.ok ∙ ap (past c.self.inside.partial) (c.deref-3.ensures.0 ∙ kept)) c.grow-grown.ensures.start)
