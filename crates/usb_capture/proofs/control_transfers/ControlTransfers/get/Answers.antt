use Rattle.std.proofs.Common.{◌≡◌, get_or, sym, ◌∙◌, ap, arith}
use Rattle.std.specs.Prelude.{Some}
use Rattle.usb_capture.specs.declared.open_transfer.OpenTransfer.{OpenTransfer}
use Rattle.usb_capture.specs.Transfers.{place_with}
use Rattle.usb_capture.proofs.TransferLemmas.{nowhere, there}
use Rattle.usb_capture.proofs.control_transfers.ControlTransfers.get.Goals as goal

pub returns-then-place-len : goal.returns-then-place-len
returns-then-place-len c =
    let opens = c.args.self.now.held.items in
    let place = c.place_of-place.ensures.is ∙ ap (place_with c.args.id) c.deref.ensures.value in
    let h = nowhere c.args.id opens (omega (arith, place, c.len.ensures, c.if-place-len.true)) in
    sym h.0

pub returns : goal.returns
returns c =
    let opens = c.args.self.now.held.items in
    let place = c.place_of-place.ensures.is ∙ ap (place_with c.args.id) c.deref.ensures.value in
    let h = there c.args.id opens c.index.result.now (omega (arith, place, c.len.ensures, c.if-place-len.false)) in
    let value : c.index.result.now ≡ get_or opens (place_with c.args.id opens) c.index.result.now = c.index.ensures ∙ ap (λ n. get_or opens n c.index.result.now) place in
    ap (λ (one : OpenTransfer). Some one.transfer) value ∙ sym h.0
