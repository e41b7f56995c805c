use Rattle.std.proofs.Common.{◌≡◌, ◌&&◌, nat_lt, ap, sym, ◌∙◌, subst}
use Rattle.usb_fields.specs.Packets.{reply_of}
use Rattle.usb_host.specs.Steps.{Takes, Reading}
use Rattle.usb_host.specs.inside.Places.{is_bus_trouble}
use Rattle.usb_host.specs.inside.Reads.{view_of, kept_in, place_in, stands}
use Rattle.usb_host.specs.contracts.host.Host.{the_view}
use Rattle.usb_host.proofs.StandLemmas.{ends_there, goes_there, host_stands, no_trouble, reads_here, host_takes, host_asks_less, reads_sound}
use Rattle.usb_host.proofs.host.Host.take.Goals as goal

-- src/host.rt: the read has ended, and another attempt may begin
pub invariant_of-self : goal.invariant_of-self
invariant_of-self c =
    let r = c.self.inside.reading in
    let h = c.take_answer.new.self in
    let g = c.go_on.new.self in
    let reads = reads_sound c.self.inside.limits.attempts c.self.inside.resets c.self.inside.reset_due (place_in r) r.transfer (kept_in r) c.if-self.false
    (sym (c.if-is_end.ensures r.draft)) c.self.invariant in
    host_stands c.self.inside.limits.attempts c.self.inside.resets c.may_try_again-self-inside.result (place_in g) g.transfer (kept_in g) c.may_try_again-self-inside.ensures
    (ends_there c.self.inside.limits c.self.inside.terms (place_in h) (place_in r) r.transfer h.transfer (kept_in r) (kept_in h) (reply_of c.args.answer)
    c.in-Some.ending (place_in g) (stands g) r.forgiven h.forgiven g.forgiven reads c.known_answer.ensures c.in-Some.ensures.received
    c.take_answer.ensures.place c.take_answer.ensures.forgiven c.go_on.ensures).1

pub returns-in-Some-clause-taken : goal.returns-in-Some-clause-taken
returns-in-Some-clause-taken c =
    let r = c.self.inside.reading in
    let h = c.take_answer.new.self in
    let g = c.go_on.new.self in
    let is_read = sym (c.if-is_end.ensures r.draft) in
    let reads = reads_sound c.self.inside.limits.attempts c.self.inside.resets c.self.inside.reset_due (place_in r) r.transfer (kept_in r) c.if-self.false
    is_read c.self.invariant in
    subst
    (λ v. Takes v (reply_of c.args.answer)
    (the_view (record c.self.inside {
      reset_due = c.may_try_again-self-inside.result;
      reading = c.go_on.new.self;
    })))
    c.self.view_is
    (host_takes (view_of c.self.inside) (place_in r) (place_in g) r.transfer g.transfer (kept_in r) (kept_in g) (reply_of c.args.answer) c.may_try_again-self-inside.result
    g.forgiven (reads_here c.self.inside.reset_due (place_in r) r.transfer (kept_in r) c.if-self.false is_read)
    (ends_there c.self.inside.limits c.self.inside.terms (place_in h) (place_in r) r.transfer h.transfer (kept_in r) (kept_in h) (reply_of c.args.answer)
    c.in-Some.ending (place_in g) (stands g) r.forgiven h.forgiven g.forgiven reads c.known_answer.ensures c.in-Some.ensures.received
    c.take_answer.ensures.place c.take_answer.ensures.forgiven c.go_on.ensures).0
    c.may_try_again-self-inside.ensures)

pub returns-in-Some-clause-fewer : goal.returns-in-Some-clause-fewer
returns-in-Some-clause-fewer c sent due =
    let r = c.self.inside.reading in
    let is_read = sym (c.if-is_end.ensures r.draft) in
    host_asks_less c.args.self.now _ (place_in r) r.transfer (kept_in r) (reply_of c.args.answer)
    (subst (λ v. v.phase ≡ Reading (place_in r) r.transfer (kept_in r)) c.self.view_is
    (reads_here c.self.inside.reset_due (place_in r) r.transfer (kept_in r) c.if-self.false is_read))
    (reads_sound c.self.inside.limits.attempts c.self.inside.resets c.self.inside.reset_due (place_in r) r.transfer (kept_in r) c.if-self.false is_read
    c.self.invariant)
    c.known_answer.ensures c.take_answer.ensures.fewer (returns-in-Some-clause-taken c)

-- the read goes on
pub invariant_of-self-in-None : goal.invariant_of-self-in-None
invariant_of-self-in-None c =
    let r = c.self.inside.reading in
    let h = c.take_answer.new.self in
    let is_read = sym (c.if-is_end.ensures r.draft) in
    let reads = reads_sound c.self.inside.limits.attempts c.self.inside.resets c.self.inside.reset_due (place_in r) r.transfer (kept_in r) c.if-self.false
    is_read c.self.invariant in
    host_stands c.self.inside.limits.attempts c.self.inside.resets c.self.inside.reset_due (place_in h) h.transfer (kept_in h)
    (c.if-self.false ∙ sym (ap (λ p. is_bus_trouble p && nat_lt c.self.inside.resets c.self.inside.limits.attempts) c.take_answer.ensures.place
    ∙ ap (λ b. b && nat_lt c.self.inside.resets c.self.inside.limits.attempts) (no_trouble (place_in r) is_read)))
    (goes_there c.self.inside.limits c.self.inside.terms (place_in h) (place_in r) r.transfer h.transfer (kept_in r) (kept_in h) (reply_of c.args.answer)
    r.forgiven h.forgiven reads c.known_answer.ensures c.in-None.ensures.received c.take_answer.ensures.place c.take_answer.ensures.forgiven).1

pub returns-in-None-clause-taken : goal.returns-in-None-clause-taken
returns-in-None-clause-taken c =
    let r = c.self.inside.reading in
    let h = c.take_answer.new.self in
    let is_read = sym (c.if-is_end.ensures r.draft) in
    let reads = reads_sound c.self.inside.limits.attempts c.self.inside.resets c.self.inside.reset_due (place_in r) r.transfer (kept_in r) c.if-self.false
    is_read c.self.invariant in
    subst
    (λ v. Takes v (reply_of c.args.answer)
    (the_view (record c.self.inside {
      reset_due = c.self.inside.reset_due;
      reading = c.take_answer.new.self;
    })))
    c.self.view_is
    (host_takes (view_of c.self.inside) (place_in r) (place_in h) r.transfer h.transfer (kept_in r) (kept_in h) (reply_of c.args.answer) c.self.inside.reset_due
    h.forgiven (reads_here c.self.inside.reset_due (place_in r) r.transfer (kept_in r) c.if-self.false is_read)
    (goes_there c.self.inside.limits c.self.inside.terms (place_in h) (place_in r) r.transfer h.transfer (kept_in r) (kept_in h) (reply_of c.args.answer)
    r.forgiven h.forgiven reads c.known_answer.ensures c.in-None.ensures.received c.take_answer.ensures.place c.take_answer.ensures.forgiven).0
    (c.if-self.false ∙ sym (ap (λ p. is_bus_trouble p && nat_lt c.self.inside.resets c.self.inside.limits.attempts) c.take_answer.ensures.place
    ∙ ap (λ b. b && nat_lt c.self.inside.resets c.self.inside.limits.attempts) (no_trouble (place_in r) is_read))))
