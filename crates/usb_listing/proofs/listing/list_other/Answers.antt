use Rattle.usb_text.proofs.Pages.{longer, not_begun, on_err}
use Rattle.usb_listing.proofs.HasBytes.{qualifier_has}
use Rattle.usb_listing.proofs.listing.list_other.Goals as goal

pub returns-in_err-put_qualifier-in-Some-clause-err : goal.returns-in_err-put_qualifier-in-Some-clause-err
returns-in_err-put_qualifier-in-Some-clause-err g c =
    rw c.in-Some.is (on_err _ (not_begun _ c.args.page.now _ (longer _ _ (qualifier_has _))))
