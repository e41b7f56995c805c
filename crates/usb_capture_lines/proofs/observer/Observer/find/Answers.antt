use Rattle.std.proofs.Common.{append-nil, sym, ◌∙◌}
use Rattle.std.proofs.lemmas.Result.{on_ok_weaker}
use Rattle.usb_capture_lines.proofs.observer.Observer.find.Goals as goal

pub returns-in-true : goal.returns-in-true
returns-in-true c =
    on_ok_weaker c.push.result (λ is before given has. rw (sym (c.finds.ensures before given has) ∙ c.in-true.is) (rw c.in_transaction.ensures at is)) c.push.ensures

pub returns-in-false : goal.returns-in-false
returns-in-false c before given has = rw (sym (c.finds.ensures before given has) ∙ c.in-false.is) (sym (append-nil _))
