use Rattle.std.proofs.Common.{rules, ◌≡◌, None, Option, refl, subst}
use Rattle.usb_host.specs.Steps.{HostView}
use Rattle.usb_c.specs.declared.answer.Verdict.TheVariants as verdicts
use Rattle.usb_c.specs.Hosts.{Ends}
use Rattle.usb_c.proofs.host.nzg_host_outcome.Goals as goal

pub returns-in_default-clause-answer : goal.returns-in_default-clause-answer
returns-in_default-clause-answer c =
    let none : None ≡ c.args.host.now.held = search rules in
    record {
      verdict = verdicts.Closed;
      says =
          subst
          (λ (h : Option HostView). Ends h c.args.trouble.now c.args.trouble.now c.args.file.now c.args.file.now verdicts.Closed)
          none
          (refl, refl, refl);
      numbers = c.answer.ensures;
    }
