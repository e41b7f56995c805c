use Rattle.std.proofs.Common.{◌≢◌, rules, subst}
use Rattle.usb_device.specs.Descriptors.{Described}
use Rattle.usb_device.specs.declared.acceptance.DescriptionFault.TheVariants.{Memory}
use Rattle.usb_text.proofs.Pages.{appends_nothing, keeps_refl}
use Rattle.usb_tool.specs.Enumerations.{IsTaken, RefusesToEnumerate, conditions_at, conditions_of}
use Rattle.usb_tool.specs.inside.Telling.{BreaksRun, MakesRun}
use Rattle.usb_tool.proofs.Telling.{first_reason, refusal_reported, refused_some, result_cut, result_written, run_broken, run_text_some, run_reported, same_broken}
use Rattle.usb_tool.proofs.enumeration.enumerate_bytes.Goals as goal

pub returns-in-Err : goal.returns-in-Err
returns-in-Err g c =
    let known : c.in-Err.fault ≢ Memory = search rules in
    let why = first_reason c.in_ok-file.file c.args.enumeration.now.speed c.in-Err.fault c.in-Err.ensures.err known in
    let set = conditions_of c.args.enumeration.now in
    let report = refusal_reported set c.in_ok-file.file c.args.bytes.items c.in-Err.fault (subst (IsTaken c.args.enumeration.now.flags.with_strings c.in_ok-file.file) c.deref.ensures.value c.in_ok-file.ensures.ok) why in
    let held = g.W.Write.contents c.args.w.now in
    let unlogged = appends_nothing held held (keeps_refl held) in
    record {
      ok = result_written _ _ _ _ _ _ _ _ report unlogged _ c.tell_refusal.ensures.ok;
      err = result_cut _ _ _ _ _ _ _ _ report unlogged _ (refused_some c.in-Err.fault) c.tell_refusal.ensures.err;
    }

pub returns : goal.returns
returns g c =
    let run = c.in_ok-run.run' in
    let set = conditions_of c.args.enumeration.now in
    let held = g.W.Write.contents c.args.w.now in
    let mid = g.W.Write.contents c.run_over.new.w in
    let made =
    subst (λ (d : Described). MakesRun (conditions_at d.speed c.args.enumeration.now) d.file held mid run) c.in-Ok.ensures.ok
    c.in_ok-run.ensures.ok
    in
    let report = run_reported set c.in_ok-file.file c.args.bytes.items run made.log (subst (IsTaken c.args.enumeration.now.flags.with_strings c.in_ok-file.file) c.deref.ensures.value c.in_ok-file.ensures.ok)
    c.in-Ok.ensures.accepted made.enumerated in
    record {
      ok = result_written _ _ _ _ _ _ _ _ report made.written _ c.tell_run.ensures.ok;
      err = result_cut _ _ _ _ _ _ _ _ report made.written _ (run_text_some run.outcome run) c.tell_run.ensures.err;
    }

pub returns-in_err-run-clause-err : goal.returns-in_err-run-clause-err
returns-in_err-run-clause-err g c =
    let set = conditions_of c.args.enumeration.now in
    let held = g.W.Write.contents c.args.w.now in
    let mid = g.W.Write.contents c.run_over.new.w in
    let broke =
    subst (λ (d : Described). BreaksRun (conditions_at d.speed c.args.enumeration.now) d.file held mid c.in_err-run.field-0.0) c.in-Ok.ensures.ok
    c.in_err-run.ensures.err
    in
    same_broken (RefusesToEnumerate set c.args.bytes.items held mid) c.from_residual-in_err-run.result c.in_err-run.field-0.0 c.from_residual-in_err-run.ensures.1
    (run_broken set c.in_ok-file.file c.args.bytes.items held mid c.in_err-run.field-0.0 (subst (IsTaken c.args.enumeration.now.flags.with_strings c.in_ok-file.file) c.deref.ensures.value c.in_ok-file.ensures.ok) c.in-Ok.ensures.accepted broke)
