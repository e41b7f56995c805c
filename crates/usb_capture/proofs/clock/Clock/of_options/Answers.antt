use Rattle.std.proofs.Common.{drop, ◌≡◌, ◌-◌, Some, None, sym, ◌∙◌, ap, arith}
use Rattle.usb_capture.specs.Clocks.{clock_after}
use Rattle.usb_capture.proofs.Clocks.{at_end, at_option, at_past}
use Rattle.usb_capture.proofs.clock.Clock.of_options.Goals as goal

pub returns-then-ends : goal.returns-then-ends
returns-then-ends c = sym (at_end c.args.order c.loop-most.most c.loop-most.rest.now c.loop-most.clock (sym c.ends.ensures ∙ c.if-ends.true)) ∙ c.loop-most.invariant

pub returns-then-rest-length : goal.returns-then-rest-length
returns-then-rest-length c =
    sym (at_past c.args.order c.loop-most.most c.loop-most.rest.now c.loop-most.clock (omega (arith, c.loop-most-test.true)) (sym c.ends.ensures ∙ c.if-ends.false) (omega (arith, c.if-rest-length.true, c.option_length-length.ensures)))
    ∙ c.loop-most.invariant

pub returns-in_err-clock : goal.returns-in_err-clock
returns-in_err-clock c =
    rw c.from_residual.ensures
    (sym (at_option c.args.order c.loop-most.most c.loop-most.rest.now c.loop-most.clock None (omega (arith, c.loop-most-test.true)) (sym c.ends.ensures ∙ c.if-ends.false) (omega (arith, c.if-rest-length.false, c.option_length-length.ensures)) (sym c.in_err-clock.was ∙ c.with.ensures))
    ∙ c.loop-most.invariant)

pub loop-most-preserved : goal.loop-most-preserved
loop-most-preserved c =
    ap (λ b. clock_after c.args.order (c.loop-most.most - 1) b c.in_ok-clock.clock) (c.after-rest.ensures ∙ ap (λ n. drop n c.loop-most.rest.now) c.option_length-length.ensures)
    ∙ sym (at_option c.args.order c.loop-most.most c.loop-most.rest.now c.loop-most.clock (Some c.in_ok-clock.clock) (omega (arith, c.loop-most-test.true)) (sym c.ends.ensures ∙ c.if-ends.false) (omega (arith, c.if-rest-length.false, c.option_length-length.ensures)) (sym c.in_ok-clock.was ∙ c.with.ensures))
    ∙ c.loop-most.invariant

pub returns : goal.returns
returns c = (let none : c.loop-most.most ≡ 0 = omega (arith, c.loop-most-test.false) in ap (λ n. clock_after c.args.order n c.loop-most.rest.now c.loop-most.clock) (sym none) ∙ c.loop-most.invariant)
