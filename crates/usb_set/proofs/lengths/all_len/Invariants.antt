use Rattle.std.proofs.Common.{◌≡◌, ◌≤◌, drop, length}
use Rattle.std.specs.List.{flat_map, list_any}
use Rattle.usb_set.specs.inside.Trees.{measured}
use Rattle.usb_set.proofs.lengths.all_len.Given as goal

abbrev pub invariant-loop-part : goal.invariant-loop-part
invariant-loop-part g l =
    let rest = drop l.part-index l.parts in
    record {
      start : l.total ≤ 65535;
      rest : measured l.total (list_any g.T.Measured.is_long rest) (list_any g.T.Measured.is_typed rest) (length (flat_map g.T.Measured.bytes rest))
          ≡ measured l.start (list_any g.T.Measured.is_long l.parts) (list_any g.T.Measured.is_typed l.parts) (length (flat_map g.T.Measured.bytes l.parts));
    }
