use Rattle.std.proofs.Common.{get_or, sym, ◌∙◌, ap, arith}
use Rattle.std.specs.Prelude.{Some, remove}
use Rattle.usb_capture.specs.declared.open_transfer.OpenTransfer.{OpenTransfer}
use Rattle.usb_capture.specs.Transfers.{place_with}
use Rattle.usb_capture.proofs.TransferLemmas.{nowhere, there}
use Rattle.usb_capture.proofs.control_transfers.ControlTransfers.remove.Goals as goal

pub returns-then-place-len : goal.returns-then-place-len
returns-then-place-len c =
    let opens = c.args.self.now.held.items in
    let place = c.place_of-place.ensures.is ∙ ap (place_with c.args.id) c.deref.ensures.value in
    let h = nowhere c.args.id opens (omega (arith, place, c.len.ensures, c.if-place-len.true)) in
    record { was = sym h.0; held = sym h.1 }

pub returns : goal.returns
returns c =
    let opens = c.args.self.now.held.items in
    let place = c.place_of-place.ensures.is ∙ ap (place_with c.args.id) c.deref.ensures.value in
    let h = there c.args.id opens c.remove.result (omega (arith, place, c.len.ensures, c.if-place-len.false)) in
    let value = c.remove.ensures.value ∙ ap (λ n. get_or opens n c.remove.result) place in
    record { was = ap (λ (one : OpenTransfer). Some one.transfer) value ∙ sym h.0; held = c.remove.ensures.items ∙ ap (remove opens) place ∙ sym h.1 }
