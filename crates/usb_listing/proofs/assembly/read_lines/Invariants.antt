use Rattle.std.proofs.Common.{◌≡◌, length}
use Rattle.usb_listing.specs.inside.Drafts.{Reading}
use Rattle.usb_listing.proofs.assembly.read_lines.Given as goal

abbrev pub invariant-lines : goal.invariant-lines
invariant-lines l = record {
  reading : Reading l.form l.text l.draft l.rest l.line;
  room : length l.buffer ≡ 255;
}

abbrev pub decreases-lines : goal.decreases-lines
decreases-lines l = length l.rest
