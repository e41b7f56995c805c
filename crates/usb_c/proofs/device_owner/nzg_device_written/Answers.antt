use Rattle.std.proofs.Common.{rules, length}
use Rattle.usb_c.specs.declared.answer.Verdict.TheVariants as verdicts
use Rattle.usb_c.proofs.device_owner.nzg_device_written.Goals as goal

pub returns-in-Some : goal.returns-in-Some
returns-in-Some c =
    record { verdict = verdicts.Done (length c.in-Some.bytes.now); says = λ image. search rules; numbers = search rules }

pub returns-in-None : goal.returns-in-None
returns-in-None c = record { verdict = verdicts.Open 0; says = λ image. search rules; numbers = search rules }
