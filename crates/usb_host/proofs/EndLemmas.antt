-- A reset adds nothing to what may be asked for.
use Rattle.std.proofs.Common.{◌≡◌, suc, ◌+◌, ◌<◌, ◌≤◌, [], sym, subst, arith}
use Rattle.usb_host.specs.Place.{First}
use Rattle.usb_host.specs.Cost.{left_to_ask}
use Rattle.usb_host.specs.Steps.{HostPhase, ResetDue, HostView, enter}
use Rattle.usb_host.specs.inside.Reads.{IsHost, IsPhase}
use Rattle.usb_host.proofs.AskingLemmas.{reset_is}
use Rattle.usb_host.proofs.LowerLemmas.{asks_less}

pub begun_fewer : (v : HostView) (p : HostPhase) → v.phase ≡ ResetDue → IsHost v → p ≡ enter v.limits First →
    left_to_ask (record v { resets = v.resets + 1; phase = p; forgiven = [] }) ≤ left_to_ask v
begun_fewer v p due is e =
    let below : v.resets < v.limits.attempts = subst (λ x. IsPhase v.limits.attempts v.resets x) due is in
    let reset_less = subst (λ w. left_to_ask w ≤ left_to_ask v) (reset_is v due) (asks_less.resets v due below).1 in
    let one : suc v.resets ≡ v.resets + 1 = omega arith in
    subst (λ x. left_to_ask (record v { resets = v.resets + 1; phase = x; forgiven = [] }) ≤ left_to_ask v) (sym e)
    (subst (λ n. left_to_ask (record v { resets = n; phase = enter v.limits First; forgiven = [] }) ≤ left_to_ask v) one reset_less)
