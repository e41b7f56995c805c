use Rattle.std.proofs.Common.{refl, ◌∙◌, ap}
use Rattle.std.specs.Int.{to_le_bytes, w64}
use Rattle.usb_capture.proofs.WordLemmas.{six}
use Rattle.usb_capture.proofs.text.line.Line.put_beginning.Goals as goal

pub returns : goal.returns
returns c =
    six _ _ _ _ _ _ _ _ _ _ _ _ _ _ _ _ _ _ _
    c.in_ok-extend_from_slice.ensures.items
    c.in_ok-extend_from_slice-2.ensures.items
    c.in_ok-extend_from_slice-3.ensures.items
    c.in_ok-extend_from_slice-4.ensures.items
    c.in_ok-extend_from_slice-5.ensures.items
    c.in_ok-extend_from_slice-6.ensures.items
    c.to_le_bytes.ensures refl c.to_le_bytes-2.ensures refl (c.to_le_bytes-3.ensures ∙ ap (to_le_bytes w64) c.from.ensures) c.to_le_bytes-4.ensures
