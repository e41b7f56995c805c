use Rattle.std.proofs.Common.{◌≡◌, length}
use Rattle.usb_listing.proofs.BytesLemmas.{ReadOnto}
use Rattle.usb_listing.proofs.byte_assembly.read_bytes.Given as goal

abbrev pub invariant-lines : goal.invariant-lines
invariant-lines l = record {
  onto : ReadOnto l.form l.text l.draft l.rest l.line l.out.items;
  room : length l.buffer ≡ 255;
}

abbrev pub decreases-lines : goal.decreases-lines
decreases-lines l = length l.rest
