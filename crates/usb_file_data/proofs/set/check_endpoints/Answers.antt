use Rattle.std.proofs.Common.{◌≡◌, ◌<◌, ◌+◌, ◌∙◌, length, map, get_or, take, ap, sym, arith, refl}
use Rattle.usb_fields.specs.Marks.{marked}
use Rattle.usb_fields.proofs.Cells.{funext}
use Rattle.usb_file_data.specs.Places.{is_among}
use Rattle.usb_file_data.specs.Rules.{address_of}
use Rattle.usb_file_data.specs.Findings.{endpoint_associations}
use Rattle.usb_file_data.specs.inside.Addresses.{owned, owned_at, kept as claims}
use Rattle.usb_file_data.specs.inside.Interfaces.{kept as entries}
use Rattle.usb_file_data.specs.inside.Reports.{passed, reported, walked}
use Rattle.usb_file_data.specs.inside.Walk.{endpoint_at, in_endpoint, in_extras, place}
use Rattle.usb_file_data.proofs.Reporting.{counted_last, counted_next, walked_on}
use Rattle.usb_file_data.proofs.Walking.{ends_next, owned_more, owned_none, owned_same, stands_more}
use Rattle.usb_file_data.proofs.set.check_endpoints.Goals as goal

pub loop-endpoint-init : goal.loop-endpoint-init
loop-endpoint-init c = record {
  found = refl;
  number = ap (λ t. t.number) c.begin.ensures;
  here = ap (λ t. t.here) c.begin.ensures;
  elsewhere = ap (λ t. t.elsewhere) c.begin.ensures ∙ sym (owned_none c.args.s.now.number (claims c.args.addresses.now).elsewhere);
  next = refl;
}

pub loop-endpoint-preserved : goal.loop-endpoint-preserved
loop-endpoint-preserved c =
    let s = c.args.s.now in
    let k = c.loop-endpoint.endpoint in
    let n = c.loop-endpoint.next in
    let e = c.e-item.result in
    let old = c.loop-endpoint.found in
    let stands = (entries c.args.whole.now).numbers in
    let other = (claims c.args.addresses.now).elsewhere in
    let now = claims c.loop-endpoint.addresses in
    let inv = c.loop-endpoint.invariant in
    let p = place c.args.place.now.part c.args.place.now.set c.args.place.now.setting k in
    let here = is_among (map address_of (take k s.endpoints)) in
    let same = c.deref-e-items.ensures in
    let long = ap length same in
    let below : k < length s.endpoints = omega (arith, long, c.loop-endpoint-test.true) in
    let is : e ≡ get_or s.endpoints k e = c.e-item.is ∙ ap (λ xs. get_or xs k e) same in
    let elsewhere = funext (λ b. now.elsewhere b now.number) (λ b. other b s.number) (λ b.
    ap (λ f. f b now.number) inv.elsewhere ∙ ap (owned s.number (take k s.endpoints) other b) inv.number ∙ owned_same s.number other (take k s.endpoints) b) in
    let at = c.in_ok-check_endpoint.ensures.reported
    ∙ ap (λ q. reported old (in_endpoint q now.here (λ b. now.elsewhere b now.number) e)) c.at_endpoint.ensures
    ∙ ap (λ f. reported old (in_endpoint p f (λ b. now.elsewhere b now.number) e)) inv.here
    ∙ ap (λ f. reported old (in_endpoint p here f e)) elsewhere in
    let report = c.in_ok-next.ensures.reported
    ∙ ap (λ r. walked r (in_extras c.args.place.now stands n e.extras)) (c.in_ok-pass.ensures ∙ ap (passed 1) at)
    ∙ walked_on old (in_endpoint p here (λ b. other b s.number) e) (in_extras c.args.place.now stands n e.extras) in
    let next : c.in_ok-next.next ≡ n + endpoint_associations e = c.in_ok-next.ensures.next in
    record {
      found = counted_next endpoint_associations (endpoint_at c.args.place.now stands other s) s.endpoints k n _ e old _ _ below is inv.found report next;
      number = ap (λ t. t.number) c.in_ok-check_endpoint.ensures.claimed ∙ inv.number;
      here = ap (λ t. t.here) c.in_ok-check_endpoint.ensures.claimed ∙ ap (λ f. marked f e.address) inv.here ∙ sym (stands_more address_of s.endpoints k e below is);
      elsewhere = ap (λ t. t.elsewhere) c.in_ok-check_endpoint.ensures.claimed ∙ ap (λ m. owned_at m now.elsewhere e.address) inv.number
          ∙ ap (λ f. owned_at s.number f e.address) inv.elsewhere ∙ sym (owned_more s.number other s.endpoints k e below is);
      next = ends_next s.endpoints k n c.in_ok-next.next _ e below is inv.next next;
    }

pub returns-clause-reported : goal.returns-clause-reported
returns-clause-reported c =
    let s = c.args.s.now in
    let long = ap length c.deref-e-items.ensures in
    counted_last endpoint_associations (endpoint_at c.args.place.now (entries c.args.whole.now).numbers (claims c.args.addresses.now).elsewhere s) s.endpoints c.loop-endpoint.endpoint _ _ _
    (omega (arith, long, c.loop-endpoint-test.false)) c.loop-endpoint.invariant.found
