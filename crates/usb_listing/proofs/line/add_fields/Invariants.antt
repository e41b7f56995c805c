use Rattle.std.proofs.Common.{◌≡◌, ◌≤◌, ◌+◌, ◌*◌, ◌++◌, drop, false}
use Rattle.std.specs.List.{flat_map}
use Rattle.arrayvec.specs.ArrayVec.{array_vec_len}
use Rattle.usb_fields.specs.Fields.{cells, size_of}
use Rattle.usb_listing.specs.Table.{written_field}
use Rattle.usb_listing.proofs.line.add_fields.Given as goal

abbrev pub invariant-loop-width : goal.invariant-loop-width
invariant-loop-width l = record {
  is :
      l.fields.items ++ flat_map written_field (cells (drop l.width-index l.widths) false l.rest)
      ≡ l.fn.fields.items ++ flat_map written_field (cells l.widths false l.bytes);
  room : array_vec_len l.fields + 3 * size_of (drop l.width-index l.widths) ≤ array_vec_len l.fn.fields + 3 * size_of l.widths;
}
