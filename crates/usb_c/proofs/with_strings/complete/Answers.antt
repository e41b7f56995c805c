use Rattle.std.proofs.Common.{inr, refl, subst, sym}
use Rattle.usb_c.specs.declared.answer.Verdict.{Verdict}
use Rattle.usb_c.specs.Facts.{CompletionFaulty}
use Rattle.usb_c.specs.Texts.{Refuses}
use Rattle.usb_c.proofs.InputFaults.{completion_refuses}
use Rattle.usb_c.proofs.with_strings.complete.Goals as goal

pub returns-in-Err : goal.returns-in-Err
returns-in-Err c =
    inr (subst (λ (v : Verdict). Refuses CompletionFaulty c.args.dump.now v) (sym c.refused_file.ensures) (completion_refuses c.args.dump.now c.in-Err.fault c.in-Err.ensures.err), refl)
