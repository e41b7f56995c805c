use Rattle.std.proofs.lemmas.Result.{on_err_weaker, on_ok_weaker}
use Rattle.usb_text.proofs.Pages.{on_err}
use Rattle.usb_explain.proofs.Explaining.{explained, explained_less, explains_nothing, same_memory, stopped_between, stopped_less}
use Rattle.usb_explain.proofs.explanation.explain.Goals as goal

pub returns-in_err-lines-clause-err : goal.returns-in_err-lines-clause-err
returns-in_err-lines-clause-err g c = on_err _ (explains_nothing c.args.manner c.args.read.now c.args.bytes.now _)

pub returns-in_err-put_explanation-clause-err : goal.returns-in_err-put_explanation-clause-err
returns-in_err-put_explanation-clause-err g c =
    on_err _ (stopped_less g.W.Write.contents c.args.manner c.args.read.now c.args.bytes.now _ c.in_ok-lines.ensures c.args.w.now c.put_explanation.new.w _ c.in_err-put_explanation.ensures.stops)

pub returns-in_err-put_explanation-clause-memory : goal.returns-in_err-put_explanation-clause-memory
returns-in_err-put_explanation-clause-memory g c =
    same_memory _ _ _ c.from_residual-in_err-put_explanation.ensures.1
    (stopped_between g.W.Write.contents c.args.manner c.args.read.now c.args.bytes.now _ c.in_ok-lines.ensures c.args.w.now c.put_explanation.new.w _ c.in_err-put_explanation.ensures.stops)

pub returns-clause-ok : goal.returns-clause-ok
returns-clause-ok g c =
    on_ok_weaker c.finish.result (explained g.W.Write.contents c.args.manner c.args.read.now c.args.bytes.now _ c.in_ok-lines.ensures c.args.w.now _ _ _ c.in_ok-put_explanation.ensures.shows) c.finish.ensures.ok

pub returns-clause-err : goal.returns-clause-err
returns-clause-err g c =
    on_err_weaker c.finish.result (explained_less g.W.Write.contents c.args.manner c.args.read.now c.args.bytes.now _ c.in_ok-lines.ensures c.args.w.now _ _ _ c.in_ok-put_explanation.ensures.shows) c.finish.ensures.err
