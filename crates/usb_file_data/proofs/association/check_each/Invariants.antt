use Rattle.std.proofs.Common.{◌≡◌, ◌+◌, drop}
use Rattle.usb_file_data.specs.Findings.{association_count}
use Rattle.usb_file_data.specs.inside.Interfaces.{kept}
use Rattle.usb_file_data.specs.inside.Reports.{walked}
use Rattle.usb_file_data.specs.inside.Walk.{in_extras}
use Rattle.usb_file_data.proofs.association.check_each.Given as goal

abbrev pub invariant-loop-extra : goal.invariant-loop-extra
invariant-loop-extra l = record {
  found : walked l.found (in_extras l.place (kept l.interfaces).numbers l.next (drop l.extra-index l.extras)) ≡ walked l.fn.found (in_extras l.place (kept l.interfaces).numbers l.number l.extras);
  next : l.next + association_count (drop l.extra-index l.extras) ≡ l.number + association_count l.extras;
}
