use Rattle.usb_text.proofs.Pages.{not_begun, on_err}
use Rattle.usb_listing.proofs.HasBytes.{string_has}
use Rattle.usb_listing.proofs.string_listing.SequenceU16Listed.list.Goals as goal

pub returns-in_err-put_string-clause-err : goal.returns-in_err-put_string-clause-err
returns-in_err-put_string-clause-err g c =
    on_err _ (not_begun _ c.args.page.now _ (string_has c.args.self.now))
