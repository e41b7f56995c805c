use Rattle.std.proofs.Common.{◌≡◌, Some, length, refl, rules, slice_get}
use Rattle.std.proofs.lemmas.Option.{slice_get_read}
use Rattle.usb_text.proofs.Pages.{on_err}
use Rattle.usb_listing.proofs.Rows.{row_broken, row_put}
use Rattle.usb_listing.proofs.listing.list_all.Goals as goal

pub returns-in_err-list-clause-err : goal.returns-in_err-list-clause-err
returns-in_err-list-clause-err g c =
    let here : slice_get c.args.items.now c.loop-item.item-index ≡ Some c.item-item.result = slice_get_read c.args.items.now (length c.args.items.now) c.loop-item.item-index c.item-item.result refl (search rules) (search rules) in
    on_err _ (row_broken _ _ _ _ _ g.T.Listed.lines _ _ _ here c.loop-item.invariant c.in_err-list.ensures.err)

pub loop-item-preserved : goal.loop-item-preserved
loop-item-preserved g c =
    let here : slice_get c.args.items.now c.loop-item.item-index ≡ Some c.item-item.result = slice_get_read c.args.items.now (length c.args.items.now) c.loop-item.item-index c.item-item.result refl (search rules) (search rules) in
    row_put _ _ _ _ _ _ g.T.Listed.lines _ _ _ here c.loop-item.invariant c.in_ok-list.ensures.ok
