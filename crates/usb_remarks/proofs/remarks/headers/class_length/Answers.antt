use Rattle.std.proofs.Common.{◌≡◌, ◌∷◌, ◌∙◌, ◌+◌, ◌-◌, ℕ, List, Some, true, arith, drop, length, length-drop, sym, take}
use Rattle.std.proofs.lemmas.List.{length-take-le}
use Rattle.usb_walk.specs.Trees.{descriptor_length, descriptors}
use Rattle.usb_walk.proofs.Cuts.{descriptors_step}
use Rattle.usb_remarks.specs.HeaderRemarks.{class_length, is_class_descriptor}
use Rattle.usb_remarks.proofs.Classes.{class_length_step}
use Rattle.usb_remarks.proofs.remarks.headers.class_length.Goals as goal

pub loop-length-preserved : goal.loop-length-preserved
loop-length-preserved c =
    let found : descriptor_length c.loop-length.rest.now ≡ Some c.in-Some.length = sym c.descriptor_length.ensures.length ∙ c.in-Some.is in
    let rest : List ℕ = c.loop-length.rest.now in
    let n : ℕ = c.in-Some.length in
    let step : descriptors rest ≡ take n rest ∷ descriptors (drop n rest) = descriptors_step rest n found in
    let left : length (drop n rest) ≡ length rest - n = length-drop n rest in
    let long : length (take n rest) ≡ n = length-take-le n rest c.in-Some.ensures.most in
    let is : is_class_descriptor (take n rest) ≡ true = grind (arith, c.prefix.ensures, c.is_class_descriptor.ensures, c.if-not-is_class_descriptor.false) in
    let first : class_length (descriptors rest) ≡ length (take n rest) + class_length (descriptors (drop n rest)) = class_length_step _ _ _ step is in
    record {
      counts = rw c.after-rest.ensures (omega (arith, c.loop-length.invariant.counts, first, long));
      room = rw c.after-rest.ensures (omega (arith, left, c.in-Some.ensures.least, c.in-Some.ensures.most, c.loop-length.invariant.room));
    }
