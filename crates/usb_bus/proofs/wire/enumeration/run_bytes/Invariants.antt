use Rattle.std.proofs.Common.{◌≡◌, ◌≤◌, ◌+◌, List}
use Rattle.usb_host.specs.Cost.{left_to_ask, most}
use Rattle.usb_device.specs.Requests.{answer}
use Rattle.usb_bus.specs.DamagedRuns.{DamagedRunsAt}
use Rattle.usb_bus.specs.Enumerate.{Pair, both, measure, chosen_pair}
use Rattle.usb_bus.specs.inside.Addresses.{AsksWithin}
use Rattle.usb_bus.proofs.wire.enumeration.run_bytes.Given as goal

abbrev pub invariant-loop-now : goal.invariant-loop-now
invariant-loop-now l =
    record {
      runs : (earlier : List Pair) × DamagedRunsAt (answer l.d.file) l.d.file.device.packet l.fates l.changes (chosen_pair l.fn.limits l.d.speed l.fn.choice) earlier l.transactions (both l.host l.device.device);
      description : l.device.description ≡ l.d;
      few : l.transactions + left_to_ask l.host ≤ most l.fn.limits;
      within : AsksWithin l.host;
    }

abbrev pub decreases-loop-now : goal.decreases-loop-now
decreases-loop-now l = measure l.host
