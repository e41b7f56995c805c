use Rattle.std.proofs.Common.{◌∙◌, codes}
use Rattle.clap.specs.Words.{found_of}
use Rattle.clap.proofs.WalkLemmas.{first_value-rows}
use Rattle.usb_command_line.proofs.command_line.checking_of.Goals as goal

pub returns : goal.returns
returns c = record {
  any = c.has_flag.ensures;
  hex = c.has_flag-2.ensures;
  remarks = c.has_flag-3.ensures;
  speed = c.get_str.ensures ∙ first_value-rows (found_of c.args.matches.now) (codes "speed");
}
