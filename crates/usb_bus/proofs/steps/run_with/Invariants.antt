use Rattle.std.proofs.Common.{◌≡◌, ◌≤◌, ◌+◌}
use Rattle.usb_host.specs.Cost.{left_to_ask, most}
use Rattle.usb_bus.specs.Enumerate.{both, chosen_pair, measure}
use Rattle.usb_bus.specs.inside.Running.{Leads}
use Rattle.usb_bus.proofs.steps.run_with.Given as goal

abbrev pub invariant-loop-host : goal.invariant-loop-host
invariant-loop-host g l =
    record {
      leads : Leads l.d.file (chosen_pair l.fn.limits l.d.speed l.fn.choice) l.fates (g.S.Steps.does l.d.file l.fates) l.transactions (both l.host l.device.device) l.initial.w l.w;
      description : l.device.description ≡ l.d;
      few : l.transactions + left_to_ask l.host ≤ most l.fn.limits;
    }

abbrev pub decreases-loop-host : goal.decreases-loop-host
decreases-loop-host g l = measure l.host
