use Rattle.std.proofs.Common.{◌≡◌, ◌∙◌, true, false, sym}
use Rattle.usb_walk.specs.Roles.{is_association}
use Rattle.usb_remarks.proofs.AssociationSteps.{found_later, found_there, none_there}
use Rattle.usb_remarks.proofs.associations.has_association.Goals as goal

pub loop-d-preserved : goal.loop-d-preserved
loop-d-preserved c =
    let other : is_association c.in-Some.d.now ≡ false = sym c.is_association.ensures ∙ c.if-is_association.false in
    sym (found_later _ _ _ c.in-Some.ensures.first other) ∙ c.loop-d.invariant

pub returns-then-is_association : goal.returns-then-is_association
returns-then-is_association c =
    let is : is_association c.in-Some.d.now ≡ true = sym c.is_association.ensures ∙ c.if-is_association.true in
    sym (found_there _ _ _ c.in-Some.ensures.first is) ∙ c.loop-d.invariant

pub returns : goal.returns
returns c = sym (none_there _ c.in_default.ensures.first) ∙ c.loop-d.invariant
