use Rattle.std.proofs.Common.{rules, ap, ◌∙◌}
use Rattle.std.specs.Prelude.{unwrap_or}
use Rattle.usb_tool.proofs.Intakes.{ends_in_fault, goes_on_after, is_whole_set}
use Rattle.usb_tool.proofs.Reading.{when_err}
use Rattle.usb_tool.proofs.intake.SetIntake.finish.Goals as goal

pub returns-in_err-set-clause-err : goal.returns-in_err-set-clause-err
returns-in_err-set-clause-err c =
    when_err _ _ _ c.from_residual.ensures.1 (λ b counted fed one. ends_in_fault c.args.self.decoder c.args.self.end _ b c.in_err-set.ensures fed one)

pub returns-then-end-count-clause-err : goal.returns-then-end-count-clause-err
returns-then-end-count-clause-err c b counted fed one = (
  one,
  goes_on_after c.args.self.decoder c.args.self.end _ c.in_ok-set.set b c.in_ok-set.ensures fed
      (c.unwrap_or-end.ensures ∙ ap (unwrap_or c.args.self.end) counted) (search rules),
)

pub returns-clause-ok : goal.returns-clause-ok
returns-clause-ok c b counted fed =
    is_whole_set c.args.self.decoder c.args.self.end _ c.in_ok-set.set b c.in_ok-set.ensures fed
    (c.unwrap_or-end.ensures ∙ ap (unwrap_or c.args.self.end) counted) (search rules)
