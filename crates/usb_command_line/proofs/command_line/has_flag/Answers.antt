use Rattle.std.proofs.Common.{◌∙◌, ap}
use Rattle.clap.specs.Words.{found_of}
use Rattle.clap.proofs.WalkLemmas.{first_value-rows}
use Rattle.usb_command_line.specs.CommandLine.{is_given}
use Rattle.usb_command_line.proofs.command_line.has_flag.Goals as goal

pub returns : goal.returns
returns c =
    c.is_given.ensures ∙ ap is_given (c.get_str.ensures ∙ first_value-rows (found_of c.args.matches.now) c.args.name.now)
