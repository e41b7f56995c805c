use Rattle.std.proofs.Common.{◌≡◌, ◌∙◌, ◌<◌, true, false, List, ℕ, drop, length, slice_index, ap, sym, subst}
use Rattle.usb_capture.specs.DeviceStates.{are_descriptors}
use Rattle.usb_capture.specs.SaidSettings.{has_descriptor}
use Rattle.usb_capture.proofs.SettingLemmas.{descriptors_end, descriptors_smaller, descriptors_step}
use Rattle.usb_capture.proofs.said_settings.are_descriptors.Goals as goal

pub loop-rest-smaller : goal.loop-rest-smaller
loop-rest-smaller c =
    let rest : List ℕ = c.loop-rest.rest.now in
    let holds : has_descriptor rest ≡ true = sym c.has_descriptor.ensures ∙ c.loop-rest-test.true in
    let later : c.after-rest.result.now ≡ drop (slice_index rest 0) rest = c.after-rest.ensures ∙ ap (λ n. drop n rest) (c.from.ensures ∙ c.byte_at.ensures) in
    subst (λ b. length b < length rest) (sym later) (descriptors_smaller rest holds)

pub loop-rest-preserved : goal.loop-rest-preserved
loop-rest-preserved c =
    let rest : List ℕ = c.loop-rest.rest.now in
    let holds : has_descriptor rest ≡ true = sym c.has_descriptor.ensures ∙ c.loop-rest-test.true in
    let later : c.after-rest.result.now ≡ drop (slice_index rest 0) rest = c.after-rest.ensures ∙ ap (λ n. drop n rest) (c.from.ensures ∙ c.byte_at.ensures) in
    ap (λ b. are_descriptors (length b) b) later ∙ sym (descriptors_step rest holds) ∙ c.loop-rest.invariant

pub returns : goal.returns
returns c =
    let rest : List ℕ = c.loop-rest.rest.now in
    let ends : has_descriptor rest ≡ false = sym c.has_descriptor.ensures ∙ c.loop-rest-test.false in
    c.is_empty.ensures ∙ sym (descriptors_end rest ends) ∙ c.loop-rest.invariant
