use Rattle.std.proofs.Common.{drop, take}
use Rattle.std.specs.List.{flat_map}
use Rattle.usb_set.specs.inside.Trees.{HasRoom, Puts}
use Rattle.usb_set.proofs.parts.put_all.Given as goal

abbrev pub invariant-loop-part : goal.invariant-loop-part
invariant-loop-part g l = record {
  room : HasRoom l.out l.end (flat_map g.T.Written.bytes (drop l.part-index l.parts));
  parts : Puts l.fn.out l.at (flat_map g.T.Written.bytes (take l.part-index l.parts)) l.out l.end;
}
