use Rattle.std.proofs.Common.{◌≡◌, ap, sym, ◌∙◌, subst}
use Rattle.usb_host.specs.Transfer.{Completes, Fails}
use Rattle.usb_host.specs.declared.why.Why.TheVariants.{Stalled}
use Rattle.usb_host.specs.declared.current_read.Ending.TheVariants as endings
use Rattle.usb_host.specs.Order.{refused_leads}
use Rattle.usb_host.specs.Steps.{completed_leads}
use Rattle.usb_host.specs.inside.Places.{place_of}
use Rattle.usb_host.specs.inside.Reads.{LeadsOn, kept_in, place_in}
use Rattle.usb_host.proofs.SettleLemmas.{leads_there}
use Rattle.usb_host.proofs.current_read.CurrentRead.lead.Goals as goal

-- src/current_read.rt: a transfer that has completed, and one that was refused
pub returns-in-Completed : goal.returns-in-Completed
returns-in-Completed c =
    let r = c.args.self.now in
    subst
    (λ e. LeadsOn c.args.terms (place_in r) r.transfer (kept_in r) e (place_of c.settle.result c.settle.new.self.draft) r.forgiven c.settle.new.self.forgiven)
    (sym c.in-Completed.is)
    (leads_there c.args.terms.choice.strings Completes tt r.due r.draft c.lead_completed-next.new.draft c.settle.new.self.draft
    (completed_leads c.args.terms (place_in r) r.transfer (kept_in r)) r.forgiven c.settle.new.self.forgiven c.step-step.result c.lead_completed-next.result
    c.settle.result c.step-step.ensures c.lead_completed-next.ensures.leads c.lead_completed-next.ensures.leaves c.settle.ensures)

pub returns-in-Failed-Stalled : goal.returns-in-Failed-Stalled
returns-in-Failed-Stalled c =
    let r = c.args.self.now in
    let why : c.in-Failed-Stalled.field-0 ≡ Stalled = rw c.in-Failed-Stalled.is at c.in-Failed-Stalled.field-0-is in
    subst
    (λ e. LeadsOn c.args.terms (place_in r) r.transfer (kept_in r) e (place_of c.settle-in-Failed-Stalled.result c.settle-in-Failed-Stalled.new.self.draft)
    r.forgiven c.settle-in-Failed-Stalled.new.self.forgiven)
    (sym (c.in-Failed-Stalled.is ∙ ap endings.Failed why))
    (leads_there c.args.terms.choice.strings (Fails Stalled) tt r.due r.draft c.lead_refused-next.new.draft c.settle-in-Failed-Stalled.new.self.draft
    (refused_leads c.args.terms (place_in r)) r.forgiven c.settle-in-Failed-Stalled.new.self.forgiven c.step-step-in-Failed-Stalled.result
    c.lead_refused-next.result c.settle-in-Failed-Stalled.result c.step-step-in-Failed-Stalled.ensures c.lead_refused-next.ensures.leads
    c.lead_refused-next.ensures.leaves c.settle-in-Failed-Stalled.ensures)
