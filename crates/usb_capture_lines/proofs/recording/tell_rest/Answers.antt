use Rattle.std.proofs.lemmas.Result.{IfOk-weaker}
use Rattle.usb_capture_lines.proofs.RunLemmas.{err_weaker, fails_after, stops_after, reported_after}
use Rattle.usb_capture_lines.proofs.recording.tell_rest.Goals as goal

pub returns-in-Ok-clause-ok : goal.returns-in-Ok-clause-ok
returns-in-Ok-clause-ok g c =
    let held = g.W.Write.contents c.args.w.now in
    let pours = c.in-Ok.ensures.ok c.args.selection held (c.new-recording.ensures held) in
    IfOk-weaker c.end.result _ _ (λ found. reported_after c.args.selection c.args.first _ _ _ held _ _ found c.in-Ok.ensures.ended pours) c.end.ensures.ok

pub returns-in-Ok-clause-err : goal.returns-in-Ok-clause-err
returns-in-Ok-clause-err g c =
    let held = g.W.Write.contents c.args.w.now in
    let pours = c.in-Ok.ensures.ok c.args.selection held (c.new-recording.ensures held) in
    err_weaker c.end.result (λ fault failed. fails_after c.args.selection c.args.first _ _ _ held _ _ fault pours failed) c.end.ensures.err

pub returns-clause-err : goal.returns-clause-err
returns-clause-err g c =
    let held = g.W.Write.contents c.args.w.now in
    let pours = c.in-Err.ensures.err c.args.selection held (c.new-recording.ensures held) in
    stops_after c.args.selection c.args.first _ _ _ held _ _ c.in-Err.stop _ pours (λ bytes stopped. c.stopped.ensures c.args.selection bytes held stopped)
