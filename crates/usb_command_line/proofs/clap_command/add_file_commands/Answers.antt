use Rattle.std.proofs.Common.{◌∙◌, ap, ap₂}
use Rattle.std.proofs.lemmas.Result.{IfOk-weaker}
use Rattle.clap.specs.Words.{App, app_of, with_subcommand}
use Rattle.usb_command_line.proofs.clap_command.add_file_commands.Goals as goal

-- a command with one more subcommand
abbrev with_app : App → App → App
with_app a b = with_subcommand a b.top

pub returns : goal.returns
returns c =
    let shows = c.in_ok-command.ensures ∙ ap (with_app (app_of c.args.command)) c.in_ok-show.ensures.app in
    let checks = c.in_ok-command-2.ensures ∙ ap₂ with_app shows c.in_ok-check.ensures.app in
    IfOk-weaker c.add_command-3.result _ _ (λ _ added. added ∙ ap₂ with_app checks c.in_ok-build.ensures.app) c.add_command-3.ensures
