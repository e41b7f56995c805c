use Rattle.std.proofs.Common.{arith, rules, ◌<◌, ◌+◌, length, subst, sym}
use Rattle.usb_capture_lines.proofs.RecordingLemmas.{TakesPiece, takes_all, takes_front, takes_in_vain, takes_nothing}
use Rattle.usb_capture_lines.proofs.recording_teller.RecordingTeller.take.Goals as goal

pub loop-init : goal.loop-init
loop-init g c s first bytes held report = takes_nothing s first bytes c.args.piece.now c.args.self.now held _ report

pub returns-then-is_empty-clause-ok : goal.returns-then-is_empty-clause-ok
returns-then-is_empty-clause-ok g c s first bytes held report =
    takes_all s first bytes c.args.piece.now c.loop.rest.now c.loop.counter c.loop.self held _ (c.loop.invariant s first bytes held report) (search rules)

pub returns-in-Err-clause-err : goal.returns-in-Err-clause-err
returns-in-Err-clause-err g c s first bytes held report =
    let before = c.loop.invariant s first bytes held report in
    takes_in_vain s first bytes c.args.piece.now c.loop.rest.now c.loop.counter c.loop.self c.take_front.new.self held _ _ c.in-Err.fault before
    (c.in-Err.ensures.err s first _ held before.report)

pub loop-preserved : goal.loop-preserved
loop-preserved g c s first bytes held report =
    let before = c.loop.invariant s first bytes held report in
    let some : 0 < length c.loop.rest.now = search rules in
    let got = c.in-Ok.ensures.ok s first _ held before.report in
    subst (λ rest. TakesPiece s first bytes c.args.piece.now rest (c.loop.counter + 1) c.take_front.new.self held (g.W.Write.contents c.take_front.new.w)) (sym c.after-rest.ensures)
    (takes_front s first bytes c.args.piece.now c.loop.rest.now c.loop.counter c.in-Ok.used c.loop.self c.take_front.new.self held _ _ before some c.in-Ok.ensures.within (got.0 some) got.1)

pub returns-clause-ok : goal.returns-clause-ok
returns-clause-ok g c s first bytes held report =
    let before = c.loop.invariant s first bytes held report in
    takes_all s first bytes c.args.piece.now c.loop.rest.now c.loop.counter c.loop.self held _ before (omega (arith, before.few))
