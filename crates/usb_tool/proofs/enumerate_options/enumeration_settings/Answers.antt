use Rattle.std.proofs.Common.{inl, inr}
use Rattle.usb_fields.proofs.Exits.{exit_err}
use Rattle.usb_tool.specs.Enumerating.{RefusesEnumerating}
use Rattle.usb_tool.proofs.enumerate_options.enumeration_settings.Goals as goal

pub returns-in_err-choice-clause-err : goal.returns-in_err-choice-clause-err
returns-in_err-choice-clause-err c =
    exit_err c.from_residual.result c.in_err-choice.field-0.0 (RefusesEnumerating c.args.options.now c.args.enumerating.now) c.from_residual.ensures.1 (inl c.in_err-choice.ensures.err)

pub returns-in_err-settings-clause-err : goal.returns-in_err-settings-clause-err
returns-in_err-settings-clause-err c =
    exit_err c.from_residual-in_err-settings.result c.in_err-settings.field-0.0 (RefusesEnumerating c.args.options.now c.args.enumerating.now) c.from_residual-in_err-settings.ensures.1
    (inr (inl ((c.in_ok-choice.choice, c.in_ok-choice.ensures.ok), c.in_err-settings.ensures.err)))

pub returns-in_err-changes-clause-err : goal.returns-in_err-changes-clause-err
returns-in_err-changes-clause-err c =
    exit_err c.from_residual-in_err-changes.result c.in_err-changes.field-0.0 (RefusesEnumerating c.args.options.now c.args.enumerating.now) c.from_residual-in_err-changes.ensures.1
    (inr (inr ((c.in_ok-choice.choice, c.in_ok-choice.ensures.ok), (c.in_ok-settings.settings, c.in_ok-settings.ensures.ok), c.in_err-changes.ensures.err)))
