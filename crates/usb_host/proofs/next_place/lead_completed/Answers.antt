use Rattle.std.proofs.Common.{◌≡◌, ◌==◌, true, if◌then◌else◌, sym, subst, arith}
use Rattle.std.proofs.lemmas.Bool.Decides.{nat_tests}
use Rattle.usb_host.specs.Transfer.{Completes}
use Rattle.usb_host.specs.Order.{done_leads}
use Rattle.usb_host.specs.Steps.{read_leads}
use Rattle.usb_host.specs.inside.Places.{LeadsTo, kept_of, place_of}
use Rattle.usb_host.proofs.next_place.lead_completed.Goals as goal

-- src/next_place.rt: nothing was asked for
pub returns-then-request-eq0-clause-leads : goal.returns-then-request-eq0-clause-leads
returns-then-request-eq0-clause-leads c =
    let here = place_of c.args.due c.args.draft.now in
    let is = c.request.ensures in
    let none = c.if-request-eq0.true in
    let zero : (c.args.transfer.now.request.length == 0) ≡ true = grind (arith, nat_tests) in
    subst
    (λ b. LeadsTo c.args.terms.choice.strings Completes here
    (if b then done_leads here else read_leads c.args.terms here c.args.transfer.now.kept (kept_of c.args.due c.args.held.now))
    c.args.draft.now c.lead_done.result)
    (sym zero)
    (c.lead_done.ensures.leads c.args.terms.choice.strings c.args.draft.now)
