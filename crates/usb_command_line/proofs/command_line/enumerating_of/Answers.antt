use Rattle.std.proofs.Common.{◌∙◌, codes}
use Rattle.clap.specs.Words.{found_of}
use Rattle.clap.proofs.WalkLemmas.{first_value-rows}
use Rattle.usb_command_line.proofs.command_line.enumerating_of.Goals as goal

pub returns : goal.returns
returns c =
    let found = found_of c.args.matches.now in
    record {
      log = c.has_flag.ensures;
      brief = c.has_flag-2.ensures;
      packets = c.has_flag-3.ensures;
      with_strings = c.has_flag-4.ensures;
      damage = c.get_str.ensures ∙ first_value-rows found (codes "damage");
      strings = c.get_str-2.ensures ∙ first_value-rows found (codes "strings");
      other_speed = c.get_str-3.ensures ∙ first_value-rows found (codes "other-speed");
    }
