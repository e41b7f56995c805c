use Rattle.std.proofs.Common.{◌≡◌, ◌∷◌, subst}
use Rattle.usb_remarks.specs.Outline.{described}
use Rattle.usb_c.specs.Facts.{placed_at}
use Rattle.usb_c.proofs.Placed.{PutSoFar, none_put, one_put, room_for_one}
use Rattle.usb_c.proofs.finding.put_all.Goals as goal

pub loop-descriptor-init : goal.loop-descriptor-init
loop-descriptor-init c = none_put _ _ _ _ c.into_iter-descriptor-iterator.ensures.into_iter_gives

pub loop-descriptor-preserved : goal.loop-descriptor-preserved
loop-descriptor-preserved c =
    let steps : c.loop-descriptor.descriptor-iterator ≡ described c.in-Some.descriptor ∷ c.next.new.self = c.in-Some.ensures.steps in
    one_put _ _ _ _ _ _ _ (subst (λ left. PutSoFar placed_at c.args.outline left c.args.out.now c.loop-descriptor.out c.loop-descriptor.filled) steps c.loop-descriptor.invariant)
    _ _ c.put_at-filled.ensures.out c.put_at-filled.ensures.filled

pub put_at-filled-requires : goal.put_at-filled-requires
put_at-filled-requires c =
    let steps : c.loop-descriptor.descriptor-iterator ≡ described c.in-Some.descriptor ∷ c.next.new.self = c.in-Some.ensures.steps in
    room_for_one _ _ _ _ _ _ _ (subst (λ left. PutSoFar placed_at c.args.outline left c.args.out.now c.loop-descriptor.out c.loop-descriptor.filled) steps c.loop-descriptor.invariant) c.requires
