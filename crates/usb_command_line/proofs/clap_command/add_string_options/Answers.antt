use Rattle.std.proofs.Common.{◌∙◌, ap, ap₂}
use Rattle.std.proofs.lemmas.Result.{IfOk-weaker}
use Rattle.clap.specs.Words.{app_of, with_rule}
use Rattle.usb_command_line.proofs.clap_command.add_string_options.Goals as goal

pub returns-clause-app : goal.returns-clause-app
returns-clause-app c =
    let with_strings_is = c.in_ok-command.ensures.app ∙ ap (with_rule (app_of c.args.command)) c.flag.ensures.rule in
    let strings_is = c.in_ok-command-2.ensures.app ∙ ap₂ with_rule with_strings_is c.chosen.ensures.rule in
    IfOk-weaker c.add_option-3.result _ _ (λ _ added. added ∙ ap₂ with_rule strings_is c.chosen-2.ensures.rule) c.add_option-3.ensures.app

pub returns-clause-local : goal.returns-clause-local
returns-clause-local c =
    let kept = c.in_ok-command-2.ensures.local ∙ (c.in_ok-command.ensures.local) in
    IfOk-weaker c.add_option-3.result _ _ (λ _ last. last ∙ kept) c.add_option-3.ensures.local
