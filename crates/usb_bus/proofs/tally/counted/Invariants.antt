use Rattle.std.proofs.Common.{◌≡◌, ◌≤◌, ◌+◌, drop}
use Rattle.usb_bus.specs.Bus.{busies, losses}
use Rattle.usb_bus.proofs.tally.counted.Given as goal

abbrev pub invariant-loop-fate : goal.invariant-loop-fate
invariant-loop-fate l =
    record {
      losses : l.losses + losses (drop l.fate-index l.fates) ≡ losses l.fn.fates;
      busies : l.busies + busies (drop l.fate-index l.fates) ≡ busies l.fn.fates;
      few : l.losses ≤ l.fate-index;
      few_busy : l.busies ≤ l.fate-index;
    }
