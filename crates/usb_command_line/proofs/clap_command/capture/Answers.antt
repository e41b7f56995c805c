use Rattle.std.proofs.Common.{◌∙◌, ap₂}
use Rattle.std.proofs.lemmas.Result.{IfOk-weaker}
use Rattle.clap.specs.Words.{with_rule}
use Rattle.usb_command_line.proofs.clap_command.capture.Goals as goal

pub returns-clause-app : goal.returns-clause-app
returns-clause-app c =
    let data_is = c.in_ok-capture.ensures.app ∙ ap₂ with_rule c.command-capture.ensures.app c.flag.ensures.rule in
    let brief_is = c.in_ok-capture-2.ensures.app ∙ ap₂ with_rule data_is c.flag-2.ensures.rule in
    let device_is = c.in_ok-capture-3.ensures.app ∙ ap₂ with_rule brief_is c.chosen.ensures.rule in
    let from_is = c.in_ok-capture-4.ensures.app ∙ ap₂ with_rule device_is c.chosen-2.ensures.rule in
    let to_is = c.in_ok-capture-5.ensures.app ∙ ap₂ with_rule from_is c.chosen-3.ensures.rule in
    IfOk-weaker c.add_option-6.result _ _ (λ _ added. added ∙ ap₂ with_rule to_is c.chosen-4.ensures.rule) c.add_option-6.ensures.app

pub returns-clause-local : goal.returns-clause-local
returns-clause-local c =
    let added = c.in_ok-capture-5.ensures.local ∙ (c.in_ok-capture-4.ensures.local
    ∙ (c.in_ok-capture-3.ensures.local ∙ (c.in_ok-capture-2.ensures.local ∙ (c.in_ok-capture.ensures.local ∙ c.command-capture.ensures.local)))) in
    IfOk-weaker c.add_option-6.result _ _ (λ _ kept. kept ∙ added) c.add_option-6.ensures.local
