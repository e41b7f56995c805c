use Rattle.std.proofs.Common.{ap, arith, inl, length}
use Rattle.usb_c.proofs.Following.{fields_fit}
use Rattle.usb_c.proofs.fields.count_fields.Goals as goal

pub count-requires-clause-fits : goal.count-requires-clause-fits
count-requires-clause-fits c =
    let few = (fields_fit c.args.role c.args.interface c.args.d.now c.requires.least).few in
    let same = ap length c.of.ensures in
    let most = c.requires.few in
    inl (omega (arith, few, same, most))
