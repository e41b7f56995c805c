use Rattle.std.proofs.Common.{◌++◌}
use Rattle.std.specs.List.{flat_map}
use Rattle.std.proofs.lemmas.Result.{on_err_weaker, on_ok_weaker}
use Rattle.usb_listing.specs.Listing.{configuration_line, extra_line, setting_lines}
use Rattle.usb_text.proofs.Pages.{front_more, on_err, puts_broken, puts_more}
use Rattle.usb_listing.proofs.set_listing.ConfigurationListed.list.Goals as goal

pub returns-in_err-list_header-clause-err : goal.returns-in_err-list_header-clause-err
returns-in_err-list_header-clause-err g c =
    let set = c.args.self.now in
    let page = c.args.page.now in
    let extras = flat_map extra_line set.extras in
    on_err _ (front_more _ _ page (configuration_line set ++ extras) (flat_map setting_lines set.settings)
    (front_more _ _ page (configuration_line set) extras c.in_err-list_header.ensures.err))

pub returns-in_err-list_all-clause-err : goal.returns-in_err-list_all-clause-err
returns-in_err-list_all-clause-err g c =
    let extras = rw c.deref.ensures at c.in_err-list_all.ensures.err in
    let set = c.args.self.now in
    on_err _ (front_more _ _ c.args.page.now (configuration_line set ++ flat_map extra_line set.extras) (flat_map setting_lines set.settings)
    (puts_broken _ _ _ _ _ _ _ c.in_ok-list_header.ensures.ok extras))

pub returns-clause-ok : goal.returns-clause-ok
returns-clause-ok g c =
    let extras = rw c.deref.ensures at c.in_ok-list_all.ensures.ok in
    let settings = rw c.deref-2.ensures at c.list_all-2.ensures.ok in
    let listed = puts_more _ _ _ _ _ _ _ _ c.in_ok-list_header.ensures.ok extras in
    on_ok_weaker c.list_all-2.result (puts_more _ _ _ _ _ _ _ _ listed) settings

pub returns-clause-err : goal.returns-clause-err
returns-clause-err g c =
    let extras = rw c.deref.ensures at c.in_ok-list_all.ensures.ok in
    let settings = rw c.deref-2.ensures at c.list_all-2.ensures.err in
    let listed = puts_more _ _ _ _ _ _ _ _ c.in_ok-list_header.ensures.ok extras in
    on_err_weaker c.list_all-2.result (puts_broken _ _ _ _ _ _ _ listed) settings
