use Rattle.std.proofs.Common.{◌≡◌, ◌∷◌, ap, rules, subst, sym}
use Rattle.std.specs.Prelude.{reverse}
use Rattle.usb_capture.specs.Conversations.{Knows}
use Rattle.usb_capture.specs.DeviceReadings.{HasCurrent}
use Rattle.usb_capture_lines.specs.Observations.{HasObserved, overs}
use Rattle.usb_capture_lines.specs.declared.teller.Teller.{Teller}
use Rattle.usb_capture_lines.proofs.TellingLemmas.{on_ok_two, said_more}
use Rattle.usb_capture_lines.proofs.teller.Teller.take.Goals as goal

pub returns-clause-ok : goal.returns-clause-ok
returns-clause-ok g c =
    let slice : c.deref.result.now ≡ c.in_ok-completed.completed.found.items = search rules in
    on_ok_two c.take_findings.result (λ written met frames observed held has.
    let counted = c.count.ensures.counted in
    let observer = c.in_ok-completed.ensures observed (subst (HasObserved observed) (sym (ap (λ (t : Teller). t.observer) counted)) has.observer) in
    let over = c.in_ok-take_transfer.ensures in
    let report = over.found (overs observed) (subst (Knows (overs observed)) (sym (ap (λ (t : Teller). t.conversations) counted)) has.knows) in (
      observer.0,
      said_more frames observed c.args.frame.now observer.0 c.in_ok-completed.completed c.args.self.now c.count.new.self c.take_transfer.new.self c.take_findings.new.self held _ _ _ _ has counted
          c.in_ok-count.ensures.said observer.1 (subst (HasObserved (observer.0 ∷ observed)) (sym c.take_transfer.ensures.observer) observer.2) observer.3 report.0 report.1 report.2
          (over.read (reverse (overs observed)) (subst (HasCurrent (reverse (overs observed))) (sym (ap (λ (t : Teller). t.readings) counted)) has.kept))
          c.take_transfer.ensures.replaced
          c.take_transfer.ensures.tally c.take_transfer.ensures.selection c.take_transfer.ensures.first c.take_findings.ensures.others (rw slice at met) (rw slice at written),
    )) c.take_findings.ensures.written c.take_findings.ensures.met
