use Rattle.std.proofs.Common.{◌≡◌, ◌∷◌, ◌∙◌, ℕ, List, true, false, arith, drop, sym, take}
use Rattle.usb_walk.specs.Trees.{descriptors}
use Rattle.usb_walk.specs.Roles.{is_interface}
use Rattle.usb_remarks.specs.SettingRemarks.{is_wanted}
use Rattle.usb_walk.proofs.Cuts.{descriptors_end, descriptors_step}
use Rattle.usb_remarks.proofs.SettingSteps.{none_wanted, wanted_ends, wanted_found, wanted_later}
use Rattle.usb_remarks.proofs.remarks.settings.has_wanted.Goals as goal

pub loop-length-preserved : goal.loop-length-preserved
loop-length-preserved c =
    let rest : List ℕ = c.loop-length.rest.now in
    let n : ℕ = c.in-Some.length in
    let step : descriptors rest ≡ take n rest ∷ descriptors (drop n rest) = descriptors_step rest n (sym c.descriptor_length.ensures.length ∙ c.in-Some.is) in
    let is : is_interface (take n rest) ≡ false = grind (arith, c.prefix-d.ensures, c.is_interface.ensures, c.if-is_interface.false) in
    let other : is_wanted c.args.wanted (take n rest) ≡ false = grind (arith, c.prefix-d.ensures, c.is_wanted.ensures, c.if-is_wanted.false) in
    rw c.after-rest.ensures (sym (wanted_later _ _ _ _ step is other) ∙ c.loop-length.invariant)

pub returns-then-is_interface : goal.returns-then-is_interface
returns-then-is_interface c =
    let rest : List ℕ = c.loop-length.rest.now in
    let n : ℕ = c.in-Some.length in
    let step : descriptors rest ≡ take n rest ∷ descriptors (drop n rest) = descriptors_step rest n (sym c.descriptor_length.ensures.length ∙ c.in-Some.is) in
    let is : is_interface (take n rest) ≡ true = grind (arith, c.prefix-d.ensures, c.is_interface.ensures, c.if-is_interface.true) in
    sym (wanted_ends _ _ _ _ step is) ∙ c.loop-length.invariant

pub returns-then-is_wanted : goal.returns-then-is_wanted
returns-then-is_wanted c =
    let rest : List ℕ = c.loop-length.rest.now in
    let n : ℕ = c.in-Some.length in
    let step : descriptors rest ≡ take n rest ∷ descriptors (drop n rest) = descriptors_step rest n (sym c.descriptor_length.ensures.length ∙ c.in-Some.is) in
    let is : is_interface (take n rest) ≡ false = grind (arith, c.prefix-d.ensures, c.is_interface.ensures, c.if-is_interface.false) in
    let found : is_wanted c.args.wanted (take n rest) ≡ true = grind (arith, c.prefix-d.ensures, c.is_wanted.ensures, c.if-is_wanted.true) in
    sym (wanted_found _ _ _ _ step is found) ∙ c.loop-length.invariant

pub returns : goal.returns
returns c =
    let none = descriptors_end c.loop-length.rest.now (sym c.descriptor_length.ensures.length ∙ c.in_default.is) in
    sym (none_wanted _ _ none) ∙ c.loop-length.invariant
