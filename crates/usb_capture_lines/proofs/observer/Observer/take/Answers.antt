use Rattle.std.proofs.Common.{ap}
use Rattle.std.proofs.lemmas.Result.{IfOk-weaker}
use Rattle.std.specs.Prelude.{Ok, Err, is_some}
use Rattle.usb_capture_lines.proofs.observer.Observer.take.Goals as goal

pub returns-in-Ok : goal.returns-in-Ok
returns-in-Ok c =
    IfOk-weaker c.take_event.result _ _ (λ completed takes observed has.
    let t = takes observed has in
    (Ok c.in-Ok.event, (c.in-Ok.ensures.ok, c.in-Ok.ensures.time, c.in-Ok.ensures.cut), t.0, t.1)) c.take_event.ensures

pub returns-in-Err : goal.returns-in-Err
returns-in-Err c =
    let packet = c.of_frame-packet in
    IfOk-weaker c.take_packet.result _ _ (λ completed takes observed has.
    let t = takes observed has in
    (Err packet.result, (ap is_some c.in-Err.ensures.err, packet.ensures.number, packet.ensures.time, packet.ensures.packet), t.0, t.1)) c.take_packet.ensures
