use Rattle.std.proofs.Common.{◌≡◌, ◌≤◌, ◌+◌}
use Rattle.usb_host.specs.Cost.{left_to_ask, most}
use Rattle.usb_bus.specs.Enumerate.{both, chosen_pair, measure}
use Rattle.usb_bus.specs.inside.Addresses.{AsksWithin}
use Rattle.usb_bus.specs.inside.Seeing.{LeadsLogged}
use Rattle.usb_bus.proofs.LogLemmas.{is_brief}
use Rattle.usb_bus.proofs.wire.log.run_logged.Given as goal

abbrev pub invariant-loop-host : goal.invariant-loop-host
invariant-loop-host g l =
    record {
      leads : LeadsLogged (is_brief g.row.BRIEF) l.initial.log.logging.packets l.d.file l.initial.log.logging.fates.now l.initial.log.logging.changes.now (chosen_pair l.fn.limits l.d.speed l.fn.choice)
          l.transactions (both l.host l.device.device) (g.W.Write.contents l.initial.w) (g.W.Write.contents l.w);
      logging : l.log.logging ≡ l.initial.log.logging;
      description : l.device.description ≡ l.d;
      few : l.transactions + left_to_ask l.host ≤ most l.fn.limits;
      within : AsksWithin l.host;
    }

abbrev pub decreases-loop-host : goal.decreases-loop-host
decreases-loop-host g l = measure l.host
