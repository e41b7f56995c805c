use Rattle.std.proofs.Common.{◌≤◌, subst}
use Rattle.usb_host.specs.Terms.{everything}
use Rattle.usb_bus.specs.Asked.{asked_of}
use Rattle.usb_bus.specs.Enumerate.{EndsWell}
use Rattle.usb_bus.specs.Laws.{OwnersChangeNoChoice}
use Rattle.usb_bus.specs.Run.{fates_used}
use Rattle.usb_bus.proofs.EnumerateLemmas.{Says, all_used, memory_alone, memory_left, says}
use Rattle.usb_bus.proofs.laws.no_owner_changes_an_enumeration.Goals as goal

any : goal.After-all_that_is_there_is_asked → OwnersChangeNoChoice
any c = λ f table speed limits choice fates run owned accepted fits range (earlier, last, runs, resets, outcome, state).
    let g = asked_of choice f in
    let used = fates_used fates run.transactions in
    let well = c.a_run_ends_well.ensures.ends limits speed choice f table fates earlier run.transactions last owned accepted fits range runs in
    let keeps = c.a_run_ends_well.ensures.limits limits speed choice f table fates earlier run.transactions last owned fits range.attempts_from runs in
    let there = says g limits used last.host.resets last.device.state last.host.forgiven last.host.phase run.outcome well outcome in
    let said = subst (λ s. Says g limits used run.attempts s last.host.forgiven run.outcome) state
    (subst (λ n. Says g limits used n last.device.state last.host.forgiven run.outcome) resets there) in (
      record {
        reads = said.0;
        few = keeps.1;
        attempts = subst (λ n. n ≤ limits.attempts) resets keeps.0;
        cause = said.1;
        all = all_used limits used run.attempts run.outcome said.1;
        succeeds = memory_left limits fates run.transactions run.attempts run.outcome said.1;
        plainly = memory_alone limits fates run.transactions run.attempts run.outcome said.1;
      },
      said.2,
    )

pub returns : goal.returns
returns c = record {
  everything = λ f table speed limits fates run owned accepted fits range is.
      subst (λ g. EndsWell g limits fates run) (c.all_that_is_there_is_asked.ensures f speed accepted)
      (any c f table speed limits everything fates run owned accepted fits range is).0;
  any_choice = any c;
}
