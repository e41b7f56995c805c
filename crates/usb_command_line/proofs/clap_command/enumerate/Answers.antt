use Rattle.std.proofs.Common.{◌∙◌, ap}
use Rattle.std.proofs.lemmas.Result.{IfOk-weaker}
use Rattle.usb_command_line.specs.CommandLine.{bus_rules, host_rules, string_rules, with_rules}
use Rattle.usb_command_line.proofs.clap_command.enumerate.Goals as goal

pub returns-clause-app : goal.returns-clause-app
returns-clause-app c =
    let host_is = c.in_ok-enumerate.ensures.app ∙ ap (λ a. with_rules a host_rules) c.command-enumerate.ensures.app in
    let bus_is = c.in_ok-enumerate-2.ensures.app ∙ ap (λ a. with_rules a bus_rules) host_is in
    IfOk-weaker c.add_string_options.result _ _ (λ _ added. added ∙ ap (λ a. with_rules a string_rules) bus_is) c.add_string_options.ensures.app

pub returns-clause-local : goal.returns-clause-local
returns-clause-local c =
    let kept = c.in_ok-enumerate-2.ensures.local ∙ (c.in_ok-enumerate.ensures.local ∙ c.command-enumerate.ensures.local) in
    IfOk-weaker c.add_string_options.result _ _ (λ _ last. last ∙ kept) c.add_string_options.ensures.local
