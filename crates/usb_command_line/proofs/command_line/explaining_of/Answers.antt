use Rattle.std.proofs.Common.{◌∙◌, codes}
use Rattle.clap.specs.Words.{found_of}
use Rattle.clap.proofs.WalkLemmas.{first_value-rows}
use Rattle.usb_command_line.proofs.command_line.explaining_of.Goals as goal

pub returns : goal.returns
returns c = record {
  brief = c.has_flag.ensures;
  no_places = c.has_flag-2.ensures;
  utf8 = c.has_flag-3.ensures;
  hex = c.has_flag-4.ensures;
  loose = c.has_flag-5.ensures;
  formats = c.has_flag-6.ensures;
  speed = c.get_str.ensures ∙ first_value-rows (found_of c.args.matches.now) (codes "speed");
}
