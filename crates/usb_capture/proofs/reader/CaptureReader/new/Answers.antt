use Rattle.std.proofs.Common.{[], refl, ap, arith}
use Rattle.usb_capture.specs.declared.stage.Stage.TheVariants.{Start}
use Rattle.usb_capture.specs.Files.{State}
use Rattle.usb_capture.proofs.reader.CaptureReader.new.Goals as goal

pub returns-clause-read : goal.returns-clause-read
returns-clause-read c =
    let state : _ = ap (λ i. let s : State = record { stage = Start; interfaces = i } in s) c.new.ensures.items in (
      [],
      [],
      record { bytes = refl; each = tt; read = refl; state = state; held = c.new-2.ensures.items; last = refl; count = refl; place = refl },
      omega arith,
    )
