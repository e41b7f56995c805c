use Rattle.std.proofs.Common.{refl, ◌∙◌, ap}
use Rattle.std.specs.Int.{to_le_bytes, w32}
use Rattle.usb_capture.proofs.WordLemmas.{five}
use Rattle.usb_capture.proofs.text.line.Line.put_end.Goals as goal

pub returns : goal.returns
returns c =
    five _ _ _ _ _ _ _ _ _ _ _ _ _ _ _ _
    c.in_ok-extend_from_slice.ensures.items
    c.in_ok-extend_from_slice-2.ensures.items
    c.in_ok-extend_from_slice-3.ensures.items
    c.in_ok-extend_from_slice-4.ensures.items
    c.in_ok-extend_from_slice-5.ensures.items
    c.to_le_bytes.ensures c.to_le_bytes-2.ensures (c.to_le_bytes-3.ensures ∙ ap (to_le_bytes w32) c.from.ensures) c.to_bytes.ensures refl
