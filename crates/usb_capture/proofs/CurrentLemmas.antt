-- What is kept of the devices that have their addresses now.
use Rattle.std.proofs.Common.{◌≡◌, Bool, not, List, [], ◌∷◌, ◌++◌, refl, sym, ◌∙◌, ap}
use Rattle.std.specs.Prelude.{Result, Ok, Err, OnOk, filter}
use Rattle.std.specs.declared.alloc.AllocError.{AllocError}
use Rattle.usb_capture.specs.declared.control_transfer.ControlTransfer.{ControlTransfer}
use Rattle.usb_capture.specs.declared.device_readings.DeviceReadings.{DeviceReadings}
use Rattle.usb_capture.specs.DeviceReadings.{HasCurrent, current_after, current_with, is_other_device, is_past}
use Rattle.usb_capture.specs.Readings.{kept_with}

current_push : (kept transfers : List ControlTransfer) (t : ControlTransfer) → current_after kept (transfers ++ t ∷ []) ≡ current_with t (current_after kept transfers)
current_push kept [] t = refl
current_push kept (first ∷ transfers) t = current_push (current_with first kept) transfers t

pub current_more : (r : Result Unit AllocError) (t : ControlTransfer) (old new : DeviceReadings)
    → OnOk r (new.readings.kept.items ≡ current_with t old.readings.kept.items)
    → OnOk r ((transfers : List ControlTransfer) → HasCurrent transfers old → HasCurrent (transfers ++ t ∷ []) new)
current_more (Ok done) t old new is = λ transfers has. is ∙ ap (current_with t) has ∙ sym (current_push [] transfers t)
current_more (Err error) t old new is = tt

pub current_kept : (r : Result Unit AllocError) (t : ControlTransfer) (is_other : Bool) (old slice left new : List ControlTransfer)
    → OnOk r (new ≡ kept_with t left) → left ≡ filter (λ o. not (is_past is_other t o)) old → is_other ≡ is_other_device t slice → slice ≡ old
    → OnOk r (new ≡ current_with t old)
current_kept (Ok done) t is_other old slice left new is rest so same = is ∙ ap (kept_with t) (rest ∙ ap (λ b. filter (λ o. not (is_past b t o)) old) (so ∙ ap (is_other_device t) same))
current_kept (Err error) t is_other old slice left new is rest so same = tt
