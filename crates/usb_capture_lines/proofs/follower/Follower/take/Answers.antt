use Rattle.std.proofs.Common.{◌≡◌, ◌∷◌, ◌∙◌, ap, refl, rules, subst, sym}
use Rattle.std.specs.Prelude.{reverse}
use Rattle.usb_capture_lines.specs.Observations.{HasObserved, IsObserved, overs}
use Rattle.usb_capture_lines.specs.Recordings.{met_all}
use Rattle.usb_capture_lines.proofs.FollowingLemmas.{follows_more, shows_this}
use Rattle.usb_capture_lines.proofs.follower.Follower.take.Goals as goal

pub returns : goal.returns
returns c frames observed has =
    let seen = c.in_ok-completed.ensures observed has.observer in
    let over = c.in_ok-found.ensures.found (overs observed) has.knows in
    let slice : c.deref.result.now ≡ c.in_ok-completed.completed.found.items = search rules in (
      seen.0,
      follows_more frames observed c.args.frame.now seen.0 c.in_ok-completed.completed c.args.self.now _ has
          (subst (λ n. IsObserved n c.args.frame.now seen.0) c.one_more-self.ensures seen.1)
          (subst (HasObserved (seen.0 ∷ observed)) (sym c.take_transfer.ensures.observer) seen.2) seen.3 over.0
          (c.in_ok-found.ensures.read (reverse (overs observed)) has.kept)
          ((rw slice at c.in_ok-meet_all.ensures) ∙ ap (met_all c.in_ok-completed.completed.found.items) over.1)
          (c.take_transfer.ensures.frames ∙ c.one_more-self.ensures),
      shows_this observed seen.0 c.in_ok-completed.completed _ seen.3 refl over.2 refl,
    )
