use Rattle.std.proofs.lemmas.Result.{on_err_weaker, on_ok_weaker}
use Rattle.usb_text.proofs.Pages.{broken_passed, longer, not_begun, on_err, puts_after, puts_passed}
use Rattle.usb_listing.proofs.HasBytes.{endpoint_has}
use Rattle.usb_listing.proofs.set_listing.EndpointListed.list.Goals as goal

pub returns-clause-ok : goal.returns-clause-ok
returns-clause-ok g c =
    let extras = rw c.deref.ensures at c.in_ok-list_all.ensures.ok in
    let listed = puts_after _ _ _ _ _ _ _ c.in_ok-put_endpoint.ensures extras in
    on_ok_weaker c.pass_on.result (puts_passed _ _ _ _ _ _ _ listed) c.pass_on.ensures.ok

pub returns-clause-err : goal.returns-clause-err
returns-clause-err g c =
    let extras = rw c.deref.ensures at c.in_ok-list_all.ensures.ok in
    let listed = puts_after _ _ _ _ _ _ _ c.in_ok-put_endpoint.ensures extras in
    on_err_weaker c.pass_on.result (broken_passed _ _ _ _ _ _ listed) c.pass_on.ensures.err

pub returns-in_err-put_endpoint-clause-err : goal.returns-in_err-put_endpoint-clause-err
returns-in_err-put_endpoint-clause-err g c =
    on_err _ (not_begun _ c.args.page.now _ (longer _ _ (endpoint_has c.args.self.now)))
