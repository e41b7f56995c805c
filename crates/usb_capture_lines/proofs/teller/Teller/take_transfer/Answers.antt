use Rattle.std.proofs.Common.{append-nil, refl, subst, sym}
use Rattle.usb_capture.specs.DeviceReadings.{HasCurrent}
use Rattle.usb_text.proofs.Pages.{appends_nothing, keeps_refl}
use Rattle.usb_capture_lines.proofs.teller.Teller.take_transfer.Goals as goal

pub returns-in-Some-clause-found : goal.returns-in-Some-clause-found
returns-in-Some-clause-found g c = rw c.in-Some.is c.take_over.ensures.found

pub returns-in-Some-clause-read : goal.returns-in-Some-clause-read
returns-in-Some-clause-read g c = rw c.in-Some.is c.take_over.ensures.read

pub returns-in-None-clause-found : goal.returns-in-None-clause-found
returns-in-None-clause-found g c = rw c.in-None.is λ earlier knows. (knows, refl, appends_nothing _ _ (keeps_refl _))

pub returns-in-None-clause-read : goal.returns-in-None-clause-read
returns-in-None-clause-read g c = rw c.in-None.is λ transfers has. subst (λ ts. HasCurrent ts c.args.self.now.readings) (sym (append-nil transfers)) has
