use Rattle.std.proofs.Common.{refl, subst, sym}
use Rattle.std.proofs.lemmas.Result.{IfErr-weaker, IfOk-weaker}
use Rattle.usb_tool.specs.Inputs.{SetOrFileShows}
use Rattle.usb_tool.specs.inside.Taking.{IsNone}
use Rattle.usb_tool.proofs.Reading.{when_err}
use Rattle.usb_tool.proofs.taken.set_or_file_of.Goals as goal

pub returns-in_err-intake-clause-err : goal.returns-in_err-intake-clause-err
returns-in_err-intake-clause-err c =
    when_err _ _ _ c.from_residual.ensures.1 (subst (IsNone SetOrFileShows c.args.bytes.now) (sym c.in_err-intake.ensures.err) tt)

pub returns-clause-ok : goal.returns-clause-ok
returns-clause-ok c = IfOk-weaker c.finish.result _ _ (λ input is. is c.args.bytes.now refl c.in_ok-intake.ensures.ok) c.finish.ensures.ok

pub returns-clause-err : goal.returns-clause-err
returns-clause-err c = IfErr-weaker c.finish.result _ _ (λ fault is. is c.args.bytes.now refl c.in_ok-intake.ensures.ok) c.finish.ensures.err
