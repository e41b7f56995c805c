use Rattle.std.proofs.Common.{◌≡◌, ◌∙◌, ℕ, ap, arith, cond, sym}
use Rattle.usb_fields.specs.Marks.{is_marked}
use Rattle.usb_walk.proofs.Named.{all_counted}
use Rattle.usb_walk.proofs.string_place.count_named.Goals as goal

pub returns-then-is_named : goal.returns-then-is_named
returns-then-is_named c =
    let one : ◌≡◌ {A = ℕ} (cond (is_marked c.args.words.now 0) 1 0) 1 = ap (λ b. cond b 1 0) (sym c.is_named.ensures ∙ c.if-is_named.true) in
    omega (arith, all_counted c.args.words.now c.fits-words, one, c.saturating_sub.ensures)

pub returns-else-is_named : goal.returns-else-is_named
returns-else-is_named c =
    let none : ◌≡◌ {A = ℕ} (cond (is_marked c.args.words.now 0) 1 0) 0 = ap (λ b. cond b 1 0) (sym c.is_named.ensures ∙ c.if-is_named.false) in
    omega (arith, all_counted c.args.words.now c.fits-words, none)
