use Rattle.std.proofs.Common.{◌∙◌, codes}
use Rattle.clap.specs.Words.{found_of}
use Rattle.clap.proofs.WalkLemmas.{first_value-rows}
use Rattle.usb_command_line.proofs.command_line.options_of.Goals as goal

pub returns : goal.returns
returns c =
    let found = found_of c.args.matches.now in
    record {
      speed = c.get_str.ensures ∙ first_value-rows found (codes "speed");
      address = c.get_str-2.ensures ∙ first_value-rows found (codes "address");
      naks = c.get_str-3.ensures ∙ first_value-rows found (codes "naks");
      attempts = c.get_str-4.ensures ∙ first_value-rows found (codes "attempts");
      fates = c.get_str-5.ensures ∙ first_value-rows found (codes "fates");
    }
