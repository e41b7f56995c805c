use Rattle.usb_text.proofs.Pages.{not_begun, on_err}
use Rattle.usb_listing.proofs.HasBytes.{configuration_has}
use Rattle.usb_listing.proofs.set_listing.list_header.Goals as goal

pub returns-in_err-put_configuration-clause-err : goal.returns-in_err-put_configuration-clause-err
returns-in_err-put_configuration-clause-err g c =
    on_err _ (not_begun _ c.args.page.now _ (configuration_has c.args.c.now))
