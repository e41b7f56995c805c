-- Readings after one transfer more.
use Rattle.std.proofs.Common.{◌≡◌, List, [], ◌∷◌, ◌++◌, refl, ◌∙◌, ap, sym}
use Rattle.std.specs.Prelude.{Result, Ok, Err, OnOk}
use Rattle.std.specs.declared.alloc.AllocError.{AllocError}
use Rattle.usb_capture.specs.declared.control_transfer.ControlTransfer.{ControlTransfer}
use Rattle.usb_capture.specs.declared.readings.Readings.{Readings}
use Rattle.usb_capture.specs.Readings.{HasRead, kept_after, kept_with}

kept_push : (kept transfers : List ControlTransfer) (transfer : ControlTransfer) → kept_after kept (transfers ++ transfer ∷ []) ≡ kept_with transfer (kept_after kept transfers)
kept_push kept [] transfer = refl
kept_push kept (first ∷ transfers) transfer = kept_push (kept_with first kept) transfers transfer

pub read_more : (r : Result Unit AllocError) (transfer : ControlTransfer) (old new : Readings)
    → OnOk r (new.kept.items ≡ kept_with transfer old.kept.items)
    → OnOk r ((transfers : List ControlTransfer) → HasRead transfers old → HasRead (transfers ++ transfer ∷ []) new)
read_more (Ok done) transfer old new is = λ transfers has. is ∙ ap (kept_with transfer) has ∙ sym (kept_push [] transfers transfer)
read_more (Err error) transfer old new is = tt
