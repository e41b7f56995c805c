use Rattle.usb_text.proofs.Pages.{not_begun, on_err}
use Rattle.usb_listing.proofs.HasBytes.{extra_has}
use Rattle.usb_listing.proofs.set_listing.ExtraListed.list.Goals as goal

pub returns-in_err-put_extra-clause-err : goal.returns-in_err-put_extra-clause-err
returns-in_err-put_extra-clause-err g c =
    on_err _ (not_begun _ c.args.page.now _ (extra_has c.args.self.now))
