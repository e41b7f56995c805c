use Rattle.std.proofs.Common.{◌≡◌, [], drop}
use Rattle.usb_tool.specs.Damages.{all_said, entry_said, parts_at}
use Rattle.usb_tool.proofs.DamageLemmas.{with_rest}
use Rattle.usb_tool.proofs.damages.read_damages.Given as goal

abbrev pub invariant-loop-entry : goal.invariant-loop-entry
invariant-loop-entry l =
    record {
      read : with_rest [] (all_said (λ x. entry_said (parts_at 58 x.now)) l.entry-items)
          ≡ with_rest l.changes.items (all_said (λ x. entry_said (parts_at 58 x.now)) (drop l.entry-index l.entry-items));
    }
