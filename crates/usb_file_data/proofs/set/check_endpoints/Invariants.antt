use Rattle.std.proofs.Common.{◌≡◌, ◌+◌, drop, take, map}
use Rattle.std.specs.List.{flat_map}
use Rattle.usb_file_data.specs.Places.{at_each_counted, is_among}
use Rattle.usb_file_data.specs.Rules.{address_of}
use Rattle.usb_file_data.specs.Findings.{association_count, endpoint_associations}
use Rattle.usb_file_data.specs.inside.Addresses.{owned, kept as claims}
use Rattle.usb_file_data.specs.inside.Interfaces.{kept as entries}
use Rattle.usb_file_data.specs.inside.Reports.{walked}
use Rattle.usb_file_data.specs.inside.Walk.{endpoint_at}
use Rattle.usb_file_data.proofs.set.check_endpoints.Given as goal

abbrev pub invariant-loop-endpoint : goal.invariant-loop-endpoint
invariant-loop-endpoint l = record {
  found : walked l.found (at_each_counted endpoint_associations (endpoint_at l.setting (entries l.whole).numbers (claims l.fn.addresses).elsewhere l.s) l.endpoint l.next (drop l.endpoint l.s.endpoints))
      ≡ walked l.fn.found (at_each_counted endpoint_associations (endpoint_at l.setting (entries l.whole).numbers (claims l.fn.addresses).elsewhere l.s) 0 l.number l.s.endpoints);
  number : (claims l.addresses).number ≡ l.s.number;
  here : (claims l.addresses).here ≡ is_among (map address_of (take l.endpoint l.s.endpoints));
  elsewhere : (claims l.addresses).elsewhere ≡ owned l.s.number (take l.endpoint l.s.endpoints) (claims l.fn.addresses).elsewhere;
  next : l.next + association_count (flat_map (λ e. e.extras) (drop l.endpoint l.s.endpoints)) ≡ l.number + association_count (flat_map (λ e. e.extras) l.s.endpoints);
}
