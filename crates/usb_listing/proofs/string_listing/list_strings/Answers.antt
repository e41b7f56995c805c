use Rattle.usb_text.proofs.Pages.{longer, not_begun, on_err}
use Rattle.usb_listing.proofs.HasBytes.{languages_has}
use Rattle.usb_listing.proofs.string_listing.list_strings.Goals as goal

pub returns-in_err-put_languages-in-Some-clause-err : goal.returns-in_err-put_languages-in-Some-clause-err
returns-in_err-put_languages-in-Some-clause-err g c =
    rw c.in-Some.is (on_err _ (not_begun _ c.args.page.now _ (longer _ _ (languages_has _))))
