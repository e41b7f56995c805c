use Rattle.std.proofs.Common.{◌∙◌, ap₂}
use Rattle.std.proofs.lemmas.Result.{IfOk-weaker}
use Rattle.clap.specs.Words.{with_rule}
use Rattle.usb_command_line.proofs.clap_command.check.Goals as goal

pub returns-clause-app : goal.returns-clause-app
returns-clause-app c =
    let any_is = c.in_ok-check.ensures.app ∙ ap₂ with_rule c.command-check.ensures.app c.flag.ensures.rule in
    let hex_is = c.in_ok-check-2.ensures.app ∙ ap₂ with_rule any_is c.flag-2.ensures.rule in
    let remarks_is = c.in_ok-check-3.ensures.app ∙ ap₂ with_rule hex_is c.flag-3.ensures.rule in
    IfOk-weaker c.add_option-4.result _ _ (λ _ added. added ∙ ap₂ with_rule remarks_is c.chosen.ensures.rule) c.add_option-4.ensures.app

pub returns-clause-local : goal.returns-clause-local
returns-clause-local c =
    let added = c.in_ok-check-3.ensures.local ∙ (c.in_ok-check-2.ensures.local ∙ (c.in_ok-check.ensures.local ∙ c.command-check.ensures.local)) in
    IfOk-weaker c.add_option-4.result _ _ (λ _ kept. kept ∙ added) c.add_option-4.ensures.local
