use Rattle.std.proofs.Common.{◌∙◌, Bool, ap}
use Rattle.clap.specs.Simple.{app_of_fields}
use Rattle.clap.specs.declared.builder.command.Command.{Command}
use Rattle.clap.specs.declared.builder.command.Command.TheOpen.{Command-F}
use Rattle.usb_command_line.proofs.clap_command.command.Goals as goal

pub returns-clause-app : goal.returns-clause-app
returns-clause-app c = ap app_of_fields c.after_help.ensures ∙ (ap app_of_fields c.about.ensures
    ∙ (ap app_of_fields c.override_usage.ensures ∙ c.new.ensures.app))

globals_of : Command-F Command → Bool
globals_of f = f.has_globals

pub returns-clause-local : goal.returns-clause-local
unfolding globals_of
returns-clause-local c = ap globals_of c.after_help.ensures ∙ (ap globals_of c.about.ensures
    ∙ (ap globals_of c.override_usage.ensures ∙ c.new.ensures.local))
