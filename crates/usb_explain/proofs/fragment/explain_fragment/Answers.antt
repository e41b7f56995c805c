use Rattle.std.proofs.lemmas.Result.{on_err_weaker, on_ok_weaker}
use Rattle.usb_text.proofs.Pages.{on_err}
use Rattle.usb_explain.proofs.Fragments.{fragment_cut, fragment_nothing, fragment_whole}
use Rattle.usb_explain.proofs.fragment.explain_fragment.Goals as goal

pub returns-in_err-put_fragment-clause-err : goal.returns-in_err-put_fragment-clause-err
returns-in_err-put_fragment-clause-err g c = on_err _ (fragment_nothing c.args.manner c.args.bytes.now _)

pub returns-clause-ok : goal.returns-clause-ok
returns-clause-ok g c =
    on_ok_weaker c.finish.result (fragment_whole c.args.manner c.args.bytes.now _ _ c.put_fragment.new.page c.new-lines.result c.new-lines.ensures c.in_ok-put_fragment.ensures) c.finish.ensures.ok

pub returns-clause-err : goal.returns-clause-err
returns-clause-err g c =
    on_err_weaker c.finish.result (fragment_cut c.args.manner c.args.bytes.now _ _ c.put_fragment.new.page c.new-lines.result c.new-lines.ensures c.in_ok-put_fragment.ensures) c.finish.ensures.err
