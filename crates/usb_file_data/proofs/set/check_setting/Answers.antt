use Rattle.std.proofs.Common.{◌≡◌, ◌+◌, ◌∷◌, ◌++◌, ◌∙◌, [], length, ap, sym, subst, OnOk}
use Rattle.std.proofs.lemmas.Bool.{eqb-true}
use Rattle.std.proofs.lemmas.List.{nil_from_length}
use Rattle.usb_file_data.specs.Places.{at_each_counted}
use Rattle.usb_file_data.specs.Findings.{association_count, endpoint_associations}
use Rattle.usb_file_data.specs.inside.Addresses.{owned, kept as claims}
use Rattle.usb_file_data.specs.inside.Interfaces.{kept as entries, compared_with}
use Rattle.usb_file_data.specs.inside.Reports.{walked}
use Rattle.usb_file_data.specs.inside.Walk.{endpoint_at, in_extras, in_interface}
use Rattle.usb_file_data.proofs.Reporting.{first_and_more, walked_none}
use Rattle.usb_file_data.proofs.Walking.{owned_none}
use Rattle.usb_file_data.proofs.set.check_setting.Goals as goal

pub returns-then-is_empty-clause-reported : goal.returns-then-is_empty-clause-reported
returns-then-is_empty-clause-reported c =
    let s = c.args.s.now in
    let old = c.args.found.now in
    let stands = (entries c.args.whole.now).numbers in
    let before = compared_with c.args.may_break (entries c.args.earlier.now.interfaces) in
    let other = (claims c.args.earlier.now.addresses).elsewhere in
    let at = in_interface c.args.place (entries c.args.whole.now).alternates before.numbers before.alternates s in
    let extras = in_extras c.args.place stands c.args.number s.extras in
    let none : s.endpoints ≡ [] = nil_from_length s.endpoints (eqb-true (length s.endpoints) 0 (sym c.is_empty.ensures ∙ c.if-is_empty.true)) in
    sym (walked_none c.check_extras.new.found)
    ∙ first_and_more old c.check_interface.new.found c.pass.new.self c.check_extras.new.found at extras [] c.in_ok-check_interface.ensures.reported c.in_ok-pass.ensures c.in_ok-next.ensures.reported
    ∙ ap (λ xs. walked old (at ∷ extras ++ at_each_counted endpoint_associations (endpoint_at c.args.place stands other s) 0 (c.args.number + association_count s.extras) xs)) (sym none)

pub returns-then-is_empty-clause-addresses : goal.returns-then-is_empty-clause-addresses
returns-then-is_empty-clause-addresses c =
    let s = c.args.s.now in
    let other = (claims c.args.earlier.now.addresses).elsewhere in
    let none : s.endpoints ≡ [] = nil_from_length s.endpoints (eqb-true (length s.endpoints) 0 (sym c.is_empty.ensures ∙ c.if-is_empty.true)) in
    sym (owned_none s.number other) ∙ ap (λ xs. owned s.number xs other) (sym none)

pub returns-clause-reported : goal.returns-clause-reported
returns-clause-reported c =
    let s = c.args.s.now in
    let old = c.args.found.now in
    let stands = (entries c.args.whole.now).numbers in
    let before = compared_with c.args.may_break (entries c.args.earlier.now.interfaces) in
    let other = (claims c.args.earlier.now.addresses).elsewhere in
    let at = in_interface c.args.place (entries c.args.whole.now).alternates before.numbers before.alternates s in
    let extras = in_extras c.args.place stands c.args.number s.extras in
    let next : c.in_ok-next.next ≡ c.args.number + association_count s.extras = c.in_ok-next.ensures.next in
    let is = first_and_more old c.check_interface.new.found c.pass.new.self c.check_extras.new.found at extras _ c.in_ok-check_interface.ensures.reported c.in_ok-pass.ensures c.in_ok-next.ensures.reported
    ∙ ap (λ n. walked old (at ∷ extras ++ at_each_counted endpoint_associations (endpoint_at c.args.place stands other s) 0 n s.endpoints)) next in
    subst (λ r. OnOk c.check_endpoints.result (c.check_endpoints.new.found ≡ r)) is c.check_endpoints.ensures.reported
