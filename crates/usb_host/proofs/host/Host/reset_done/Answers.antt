use Rattle.std.proofs.Common.{◌+◌, ◌≤◌, false, ap, subst}
use Rattle.usb_host.specs.Cost.{left_to_ask}
use Rattle.usb_host.specs.inside.Reads.{phase_in, view_of, kept_in, place_in, stands}
use Rattle.usb_host.proofs.EndLemmas.{begun_fewer}
use Rattle.usb_host.proofs.host.Host.reset_done.Goals as goal

-- src/host.rt: a reset that came next
pub returns-clause-fewer : goal.returns-clause-fewer
returns-clause-fewer c =
    subst
    (λ w. left_to_ask (view_of (record c.self.inside { resets = c.self.inside.resets + 1; reset_due = false; reading = c.begin.result })) ≤ left_to_ask w)
    c.self.view_is
    (begun_fewer (view_of c.self.inside) (stands c.begin.result)
    (ap (λ b. phase_in b (place_in c.self.inside.reading) c.self.inside.reading.transfer (kept_in c.self.inside.reading)) c.if-not-self.false)
    c.self.invariant c.begin.ensures.stands)
