use Rattle.std.proofs.Common.{◌∙◌, ap₂}
use Rattle.std.proofs.lemmas.Result.{IfOk-weaker}
use Rattle.clap.specs.Words.{with_rule}
use Rattle.usb_command_line.proofs.clap_command.show.Goals as goal

pub returns-clause-app : goal.returns-clause-app
returns-clause-app c =
    let any_is = c.in_ok-show.ensures.app ∙ ap₂ with_rule c.command-show.ensures.app c.flag.ensures.rule in
    IfOk-weaker c.add_option-2.result _ _ (λ _ added. added ∙ ap₂ with_rule any_is c.flag-2.ensures.rule) c.add_option-2.ensures.app

pub returns-clause-local : goal.returns-clause-local
returns-clause-local c =
    let added = c.in_ok-show.ensures.local ∙ c.command-show.ensures.local in
    IfOk-weaker c.add_option-2.result _ _ (λ _ kept. kept ∙ added) c.add_option-2.ensures.local
