use Rattle.std.proofs.Common.{inr, map, refl, subst, sym}
use Rattle.usb_c.specs.declared.answer.Verdict.{Verdict}
use Rattle.usb_c.specs.Enumerations.{EnumeratesUnder, fate_given}
use Rattle.usb_c.proofs.InputFaults.{no_file_runs}
use Rattle.usb_c.proofs.enumeration.enumerate_under.Goals as goal

pub returns-in-Err : goal.returns-in-Err
returns-in-Err c =
    subst
    (λ (v : Verdict). EnumeratesUnder c.args.bytes.now c.args.speed c.args.limits (map fate_given c.args.letters.now) c.args.outcome.now c.args.outcome.now c.args.out.now c.args.out.now v)
    (sym c.refused_file.ensures)
    (inr (no_file_runs c.args.bytes.now c.args.speed c.in-Err.fault c.in-Err.ensures.err, refl, refl))
