use Rattle.std.proofs.Common.{ltb, subst, sym, ap, drop, arith, length}
use Rattle.std.proofs.lemmas.Bool.{cond-true, lt-ltb}
use Rattle.std.proofs.lemmas.List.{length-drop}
use Rattle.usb_file.specs.inside.Reading.{QualifierRefused}
use Rattle.usb_file.proofs.file_reader.read_qualifier.Goals as goal

pub returns-then-left-lt-QUALIFIER_LENGTH-clause-err : goal.returns-then-left-lt-QUALIFIER_LENGTH-clause-err
returns-then-left-lt-QUALIFIER_LENGTH-clause-err c =
    let b = c.args.b.now in
    let place = c.args.place in
    let short = c.if-left-lt-QUALIFIER_LENGTH.true in
    let left = ap length c.rest-left.ensures in
    let within = c.requires.within in
    subst (λ fault. QualifierRefused b place fault.at fault.why) (sym c.new.ensures) (record {
      count = length (drop place b);
      holds = cond-true (ltb (length (drop place b)) 10) _ _ (lt-ltb (length (drop place b)) 10 (omega (arith, left)));
      at_is = omega (arith, length-drop place b);
    })
