use Rattle.std.proofs.Common.{[]}
use Rattle.std.proofs.lemmas.Result.{on_err_weaker}
use Rattle.usb_text.proofs.Pages.{longer, not_begun, on_err, puts_whole_front}
use Rattle.usb_listing.proofs.HasBytes.{device_has}
use Rattle.usb_listing.proofs.listing.list.Goals as goal

pub returns-clause-err : goal.returns-clause-err
returns-clause-err g c =
    let listed = rw c.in_ok-page.ensures at c.in_ok-list_file.ensures.ok in
    on_err_weaker c.write_all.result (puts_whole_front _ _ _ _ _ listed) (rw c.as_bytes.ensures at c.write_all.ensures.err)

pub returns-in_err-page-clause-err : goal.returns-in_err-page-clause-err
returns-in_err-page-clause-err g c =
    on_err _ (not_begun _ [] _ (longer _ _ (longer _ _ (longer _ _ (device_has c.args.f.now.device)))))
