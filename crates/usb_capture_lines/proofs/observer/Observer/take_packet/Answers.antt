use Rattle.std.proofs.Common.{ap, ◌∙◌}
use Rattle.usb_capture.specs.BusTransfers.{transfers_in}
use Rattle.usb_capture_lines.specs.BusFindings.{bus_found}
use Rattle.usb_capture_lines.specs.Observations.{transactions}
use Rattle.usb_capture_lines.proofs.ObservationLemmas.{observed_more}
use Rattle.usb_capture_lines.proofs.observer.Observer.take_packet.Goals as goal

pub returns : goal.returns
returns c observed has =
    let packet = c.args.packet.now in
    let h = observed_more c.in_ok-transfer.transfer c.in_ok-over.over packet observed c.args.self.now c.take_transaction.new.self c.take.new.self c.in_ok-over.ensures.ok
    c.in_ok-transfer.ensures.made c.take_transaction.ensures.controls c.take_transaction.ensures.transactions (c.take_transaction.ensures.decoded ∙ c.decoded_with-self.ensures) has in (
      h.0,
      record {
        transfer = h.1;
        found = c.in_ok-found.ensures (transactions observed) (transfers_in (transactions observed)) has.made ∙ ap (bus_found (transactions observed) packet) h.2;
      },
    )
