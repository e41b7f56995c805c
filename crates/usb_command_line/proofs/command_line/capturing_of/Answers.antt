use Rattle.std.proofs.Common.{◌∙◌, codes}
use Rattle.clap.specs.Words.{found_of}
use Rattle.clap.proofs.WalkLemmas.{first_value-rows}
use Rattle.usb_command_line.proofs.command_line.capturing_of.Goals as goal

pub returns : goal.returns
returns c =
    let found = found_of c.args.matches.now in
    record {
      bytes = c.has_flag.ensures;
      brief = c.has_flag-2.ensures;
      device = c.get_str.ensures ∙ first_value-rows found (codes "device");
      from = c.get_str-2.ensures ∙ first_value-rows found (codes "from");
      to = c.get_str-3.ensures ∙ first_value-rows found (codes "to");
      file = c.get_str-4.ensures ∙ first_value-rows found (codes "file");
    }
