use Rattle.std.proofs.Common.{◌≡◌, ◌+◌, drop, length, take}
use Rattle.usb_fields.specs.Fields.{size_of}
use Rattle.usb_listing.specs.inside.Fields.{cells_from}
use Rattle.usb_listing.proofs.fields.put_fields.Given as goal

abbrev pub invariant-loop-width : goal.invariant-loop-width
invariant-loop-width l = record {
  left : cells_from (drop l.width-index l.widths) (take l.end l.out) l.rest ≡ cells_from l.widths (take l.at l.fn.out) l.text;
  size : l.end + size_of (drop l.width-index l.widths) ≡ l.at + size_of l.widths;
  count : length l.out ≡ length l.fn.out;
}
