use Rattle.std.proofs.Common.{◌++◌}
use Rattle.std.specs.List.{flat_map}
use Rattle.std.proofs.lemmas.Result.{on_err_weaker, on_ok_weaker}
use Rattle.usb_listing.specs.Listing.{endpoint_lines, interface_line, extra_line}
use Rattle.usb_text.proofs.Pages.{broken_after, broken_passed, front_more, longer, not_begun, on_err, puts_after, puts_broken, puts_more, puts_passed}
use Rattle.usb_listing.proofs.HasBytes.{interface_has}
use Rattle.usb_listing.proofs.set_listing.SettingListed.list.Goals as goal

pub returns-in_err-list_all-clause-err : goal.returns-in_err-list_all-clause-err
returns-in_err-list_all-clause-err g c =
    let extras = rw c.deref.ensures at c.in_err-list_all.ensures.err in
    let s = c.args.self.now in
    on_err _ (front_more _ _ c.args.page.now (interface_line s ++ flat_map extra_line s.extras) (flat_map endpoint_lines s.endpoints)
    (broken_after _ _ _ _ _ _ c.in_ok-put_interface.ensures extras))

pub returns-in_err-list_all-2-clause-err : goal.returns-in_err-list_all-2-clause-err
returns-in_err-list_all-2-clause-err g c =
    let extras = rw c.deref.ensures at c.in_ok-list_all.ensures.ok in
    let endpoints = rw c.deref-2.ensures at c.in_err-list_all-2.ensures.err in
    on_err _ (puts_broken _ _ _ _ _ _ _ (puts_after _ _ _ _ _ _ _ c.in_ok-put_interface.ensures extras) endpoints)

pub returns-clause-ok : goal.returns-clause-ok
returns-clause-ok g c =
    let extras = rw c.deref.ensures at c.in_ok-list_all.ensures.ok in
    let endpoints = rw c.deref-2.ensures at c.in_ok-list_all-2.ensures.ok in
    let listed = puts_more _ _ _ _ _ _ _ _ (puts_after _ _ _ _ _ _ _ c.in_ok-put_interface.ensures extras) endpoints in
    on_ok_weaker c.pass_on.result (puts_passed _ _ _ _ _ _ _ listed) c.pass_on.ensures.ok

pub returns-clause-err : goal.returns-clause-err
returns-clause-err g c =
    let extras = rw c.deref.ensures at c.in_ok-list_all.ensures.ok in
    let endpoints = rw c.deref-2.ensures at c.in_ok-list_all-2.ensures.ok in
    let listed = puts_more _ _ _ _ _ _ _ _ (puts_after _ _ _ _ _ _ _ c.in_ok-put_interface.ensures extras) endpoints in
    on_err_weaker c.pass_on.result (broken_passed _ _ _ _ _ _ listed) c.pass_on.ensures.err

pub returns-in_err-put_interface-clause-err : goal.returns-in_err-put_interface-clause-err
returns-in_err-put_interface-clause-err g c =
    on_err _ (not_begun _ c.args.page.now _ (longer _ _ (longer _ _ (interface_has c.args.self.now))))
