use Rattle.std.proofs.Common.{rules, false, ◌<◌}
use Rattle.std.proofs.lemmas.Fmt.{hex_byte}
use Rattle.usb_host.proofs.step.TwoDigitsDisplay.fmt.Goals as goal

pub returns-clause-writes : goal.returns-clause-writes
returns-clause-writes g c =
    let bound : c.args.self.now.0 < 256 = search rules in
    search (rules, hex_byte false c.args.self.now.0 bound)
