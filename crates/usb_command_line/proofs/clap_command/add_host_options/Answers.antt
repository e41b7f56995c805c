use Rattle.std.proofs.Common.{◌∙◌, ap, ap₂}
use Rattle.std.proofs.lemmas.Result.{IfOk-weaker}
use Rattle.clap.specs.Words.{app_of, with_rule}
use Rattle.usb_command_line.proofs.clap_command.add_host_options.Goals as goal

pub returns-clause-app : goal.returns-clause-app
returns-clause-app c =
    let speed_is = c.in_ok-command.ensures.app ∙ ap (with_rule (app_of c.args.command)) c.chosen.ensures.rule in
    let address_is = c.in_ok-command-2.ensures.app ∙ ap₂ with_rule speed_is c.address.ensures.rule in
    let naks_is = c.in_ok-command-3.ensures.app ∙ ap₂ with_rule address_is c.naks.ensures.rule in
    IfOk-weaker c.add_option-4.result _ _ (λ _ added. added ∙ ap₂ with_rule naks_is c.attempts.ensures.rule) c.add_option-4.ensures.app

pub returns-clause-local : goal.returns-clause-local
returns-clause-local c =
    let kept = c.in_ok-command-3.ensures.local ∙ (c.in_ok-command-2.ensures.local ∙ (c.in_ok-command.ensures.local)) in
    IfOk-weaker c.add_option-4.result _ _ (λ _ last. last ∙ kept) c.add_option-4.ensures.local
