use Rattle.std.proofs.Common.{◌++◌}
use Rattle.std.specs.List.{flat_map}
use Rattle.std.proofs.lemmas.Result.{on_err_weaker, on_ok_weaker}
use Rattle.usb_listing.specs.Listing.{device_line, other_lines, set_lines, strings_lines}
use Rattle.usb_text.proofs.Pages.{broken_after, front_more, longer, not_begun, on_err, puts_after, puts_broken, puts_more}
use Rattle.usb_listing.proofs.HasBytes.{device_has}
use Rattle.usb_listing.proofs.listing.list_file.Goals as goal

pub returns-in_err-list_all-clause-err : goal.returns-in_err-list_all-clause-err
returns-in_err-list_all-clause-err g c =
    let f = c.args.f.now in
    let page = c.args.page.now in
    let sets = rw c.deref.ensures at c.in_err-list_all.ensures.err in
    let listed = broken_after _ _ _ _ _ _ c.in_ok-put_device.ensures sets in
    let main = device_line f.device ++ flat_map set_lines f.sets in
    on_err _ (front_more _ _ page (main ++ other_lines f.other) (strings_lines f.strings) (front_more _ _ page main (other_lines f.other) listed))

pub returns-in_err-list_other-clause-err : goal.returns-in_err-list_other-clause-err
returns-in_err-list_other-clause-err g c =
    let f = c.args.f.now in
    let sets = rw c.deref.ensures at c.in_ok-list_all.ensures.ok in
    let listed = puts_after _ _ _ _ _ _ _ c.in_ok-put_device.ensures sets in
    let main = device_line f.device ++ flat_map set_lines f.sets in
    on_err _ (front_more _ _ c.args.page.now (main ++ other_lines f.other) (strings_lines f.strings) (puts_broken _ _ _ _ _ _ _ listed c.in_err-list_other.ensures.err))

pub returns-clause-ok : goal.returns-clause-ok
returns-clause-ok g c =
    let sets = rw c.deref.ensures at c.in_ok-list_all.ensures.ok in
    let main = puts_after _ _ _ _ _ _ _ c.in_ok-put_device.ensures sets in
    let listed = puts_more _ _ _ _ _ _ _ _ main c.in_ok-list_other.ensures.ok in
    on_ok_weaker c.list_strings.result (puts_more _ _ _ _ _ _ _ _ listed) c.list_strings.ensures.ok

pub returns-clause-err : goal.returns-clause-err
returns-clause-err g c =
    let sets = rw c.deref.ensures at c.in_ok-list_all.ensures.ok in
    let main = puts_after _ _ _ _ _ _ _ c.in_ok-put_device.ensures sets in
    let listed = puts_more _ _ _ _ _ _ _ _ main c.in_ok-list_other.ensures.ok in
    on_err_weaker c.list_strings.result (puts_broken _ _ _ _ _ _ _ listed) c.list_strings.ensures.err

pub returns-in_err-put_device-clause-err : goal.returns-in_err-put_device-clause-err
returns-in_err-put_device-clause-err g c =
    on_err _ (not_begun _ c.args.page.now _ (longer _ _ (longer _ _ (longer _ _ (device_has c.args.f.now.device)))))
