use Rattle.std.proofs.Common.{◌<◌, arith, length, rules}
use Rattle.std.proofs.lemmas.Grind.{common_steps}
use Rattle.std.specs.Io.KnownBytes.{Appends}
use Rattle.usb_text.proofs.Pages.{from_next, stopped}
use Rattle.usb_text.proofs.output.write_all.Goals as goal

pub loop-rest-preserved : goal.loop-rest-preserved
loop-rest-preserved g c =
    let step = from_next _ _ _ _ _ c.in-Ok.count c.loop-rest.invariant c.in-Ok.ensures.bytes in
    grind (arith, common_steps, step)

pub returns-in-Ok-eq0-clause-err : goal.returns-in-Ok-eq0-clause-err
returns-in-Ok-eq0-clause-err g c =
    let some : 0 < length c.loop-rest.rest.now = search rules in
    let written : Appends (g.W.Write.contents c.args.w.now) (g.W.Write.contents c.write.new.self) c.loop-rest.invariant.done = search rules in
    stopped _ _ _ _ _ c.loop-rest.invariant.parts written some

pub returns-in-Ok-eq0-2-clause-err : goal.returns-in-Ok-eq0-2-clause-err
returns-in-Ok-eq0-2-clause-err g c =
    let some : 0 < length c.loop-rest.rest.now = search rules in
    let written : Appends (g.W.Write.contents c.args.w.now) (g.W.Write.contents c.write.new.self) c.loop-rest.invariant.done = search rules in
    stopped _ _ _ _ _ c.loop-rest.invariant.parts written some
