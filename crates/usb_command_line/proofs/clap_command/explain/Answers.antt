use Rattle.std.proofs.Common.{◌∙◌, ap₂}
use Rattle.std.proofs.lemmas.Result.{IfOk-weaker}
use Rattle.clap.specs.Words.{with_rule}
use Rattle.usb_command_line.proofs.clap_command.explain.Goals as goal

pub returns-clause-app : goal.returns-clause-app
returns-clause-app c =
    let brief_is = c.in_ok-explain.ensures.app ∙ ap₂ with_rule c.command-explain.ensures.app c.flag.ensures.rule in
    let places_is = c.in_ok-explain-2.ensures.app ∙ ap₂ with_rule brief_is c.flag-2.ensures.rule in
    let utf8_is = c.in_ok-explain-3.ensures.app ∙ ap₂ with_rule places_is c.flag-3.ensures.rule in
    let hex_is = c.in_ok-explain-4.ensures.app ∙ ap₂ with_rule utf8_is c.flag-4.ensures.rule in
    let loose_is = c.in_ok-explain-5.ensures.app ∙ ap₂ with_rule hex_is c.flag-5.ensures.rule in
    let formats_is = c.in_ok-explain-6.ensures.app ∙ ap₂ with_rule loose_is c.flag-6.ensures.rule in
    IfOk-weaker c.add_option-7.result _ _ (λ _ added. added ∙ ap₂ with_rule formats_is c.chosen.ensures.rule) c.add_option-7.ensures.app

pub returns-clause-local : goal.returns-clause-local
returns-clause-local c =
    let added = c.in_ok-explain-6.ensures.local ∙ (c.in_ok-explain-5.ensures.local ∙ (c.in_ok-explain-4.ensures.local
    ∙ (c.in_ok-explain-3.ensures.local ∙ (c.in_ok-explain-2.ensures.local ∙ (c.in_ok-explain.ensures.local ∙ c.command-explain.ensures.local))))) in
    IfOk-weaker c.add_option-7.result _ _ (λ _ kept. kept ∙ added) c.add_option-7.ensures.local
