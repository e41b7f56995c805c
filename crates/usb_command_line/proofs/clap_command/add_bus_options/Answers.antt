use Rattle.std.proofs.Common.{◌∙◌, ap, ap₂}
use Rattle.std.proofs.lemmas.Result.{IfOk-weaker}
use Rattle.clap.specs.Words.{app_of, with_rule}
use Rattle.usb_command_line.proofs.clap_command.add_bus_options.Goals as goal

pub returns-clause-app : goal.returns-clause-app
returns-clause-app c =
    let fates_is = c.in_ok-command.ensures.app ∙ ap (with_rule (app_of c.args.command)) c.chosen.ensures.rule in
    let damage_is = c.in_ok-command-2.ensures.app ∙ ap₂ with_rule fates_is c.chosen-2.ensures.rule in
    let log_is = c.in_ok-command-3.ensures.app ∙ ap₂ with_rule damage_is c.flag.ensures.rule in
    let brief_is = c.in_ok-command-4.ensures.app ∙ ap₂ with_rule log_is c.flag-2.ensures.rule in
    IfOk-weaker c.add_option-5.result _ _ (λ _ added. added ∙ ap₂ with_rule brief_is c.flag-3.ensures.rule) c.add_option-5.ensures.app

pub returns-clause-local : goal.returns-clause-local
returns-clause-local c =
    let kept = c.in_ok-command-4.ensures.local ∙ (c.in_ok-command-3.ensures.local ∙ (c.in_ok-command-2.ensures.local ∙ (c.in_ok-command.ensures.local))) in
    IfOk-weaker c.add_option-5.result _ _ (λ _ last. last ∙ kept) c.add_option-5.ensures.local
