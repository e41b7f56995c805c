use Rattle.std.proofs.Common.{rules, ◌≡◌, [], Some, refl, subst, sym}
use Rattle.usb_capture_lines.specs.Following.{HasRead}
use Rattle.usb_c.specs.declared.answer.Verdict.TheVariants as verdicts
use Rattle.usb_c.proofs.capture.nzg_capture_open.Goals as goal

pub returns-in-Ok : goal.returns-in-Ok
returns-in-Ok c =
    let held : c.of.result.held ≡ Some c.in-Ok.held.value = search rules in
    let same : c.in-Ok.held.value ≡ c.new.result = search rules in
    record { verdict = verdicts.Done 0; says = (refl, (c.in-Ok.held.value, held, subst (HasRead [] [] []) (sym same) c.new.ensures)); numbers = c.answer.ensures }
