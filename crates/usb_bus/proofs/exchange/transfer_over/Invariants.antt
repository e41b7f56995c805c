use Rattle.std.proofs.Common.{◌≡◌, ◌≤◌, ◌+◌, []}
use Rattle.usb_host.specs.Transfer.{left}
use Rattle.usb_device.specs.Requests.{answer}
use Rattle.usb_bus.specs.inside.Running.{failure_of, is_write, transfer_of, LeadsTo}
use Rattle.usb_bus.proofs.exchange.transfer_over.Given as goal

abbrev pub invariant-loop-t : goal.invariant-loop-t
invariant-loop-t l =
    record {
      leads : LeadsTo (answer l.initial.device.description.file) l.initial.device.description.file.device.packet l.sent l.fates l.before
          (record { transfer = transfer_of l.initial.sender; got = [] }) l.initial.device.device l.transactions
          (record { transfer = transfer_of l.sender; got = l.bytes.items }) l.device.device;
      description : l.device.description ≡ l.initial.device.description;
      request : (transfer_of l.sender).request ≡ (transfer_of l.initial.sender).request;
      kind : is_write l.sender ≡ is_write l.initial.sender;
      failure : l.failure ≡ failure_of (transfer_of l.sender).stage;
      most : l.transactions + left (transfer_of l.sender) ≤ l.before + left (transfer_of l.initial.sender);
    }

abbrev pub decreases-loop-t : goal.decreases-loop-t
decreases-loop-t l = left (transfer_of l.sender)
