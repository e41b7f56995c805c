use Rattle.std.proofs.Common.{◌≡◌, ◌∙◌, ℕ, Some, true, false, ap, sym}
use Rattle.usb_remarks.specs.EndpointAddresses.{is_another}
use Rattle.usb_remarks.proofs.EndpointSteps.{another_later, another_there, none_other}
use Rattle.usb_remarks.proofs.remarks.endpoint_addresses.another.Goals as goal

pub loop-d-preserved : goal.loop-d-preserved
loop-d-preserved c =
    let not_it : is_another c.args.one c.args.other c.in-Some.d.now ≡ false = sym c.is_another.ensures ∙ c.if-is_another.false in
    sym (another_later _ _ _ _ _ c.in-Some.ensures.first not_it) ∙ c.loop-d.invariant

pub returns-then-is_another : goal.returns-then-is_another
returns-then-is_another c =
    let is : is_another c.args.one c.args.other c.in-Some.d.now ≡ true = sym c.is_another.ensures ∙ c.if-is_another.true in
    ap (λ (n : ℕ). Some n) c.byte_at.ensures ∙ (sym (another_there _ _ _ _ _ c.in-Some.ensures.first is) ∙ c.loop-d.invariant)

pub returns : goal.returns
returns c = sym (none_other _ _ _ c.in_default.ensures.first) ∙ c.loop-d.invariant
