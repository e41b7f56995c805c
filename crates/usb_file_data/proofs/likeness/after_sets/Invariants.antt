use Rattle.std.proofs.Common.{◌≡◌}
use Rattle.usb_file_data.specs.Likeness.{after_sets}
use Rattle.usb_file_data.proofs.likeness.after_sets.Given as goal

abbrev pub invariant-loop : goal.invariant-loop
invariant-loop l = l.rest ≡ after_sets l.counter l.b
