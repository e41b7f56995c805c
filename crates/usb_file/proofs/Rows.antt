-- Sets and strings, read one after another.
use Rattle.std.proofs.Common.{◌≡◌, ℕ, ◌+◌, ◌≤◌, List, [], ◌∷◌, ◌++◌, length, drop, ap, sym, ◌∙◌, arith, length-append}
use Rattle.std.proofs.lemmas.List.{length-drop}
use Rattle.usb_set.specs.declared.tree.SetKind.{SetKind}
use Rattle.usb_set.specs.declared.tree.Configuration.{Configuration}
use Rattle.usb_file_data.specs.File.{whole_set, has_no_layout, is_other_kind}
use Rattle.usb_file.specs.inside.Reading.{ReadsNextSet, ReadsSets}
use Rattle.usb_file_data.proofs.Lists.{drop_front, drop_more, length-push}
use Rattle.usb_file.proofs.Between.{reads_more}
use Rattle.usb_file_data.proofs.WholeSets.{layout_is, layout_allowed}
use Rattle.usb_set.proofs.Growth.{list_any-snoc}

-- a part that is read from a place lies within the bytes
within_all : (b p : List ℕ) (place end : ℕ) → place ≤ length b → drop place b ≡ p ++ drop end b → end ≡ place + length p → end ≤ length b
within_all b p place end within parts ends = omega (arith, ap length parts, length-append p (drop end b), length-drop place b)

behind_front : (rest p after : List ℕ) (used : ℕ) → rest ≡ p ++ after → length p ≡ used → rest ≡ p ++ drop used rest
behind_front rest p after used parts ends =
    parts ∙ ap (λ x. p ++ x) (sym (ap (λ n. drop n rest) (sym ends) ∙ ap (drop (length p)) parts ∙ drop_front p after))

-- ---- sets

pub next_set : (kind : SetKind) (b : List ℕ) (start : ℕ) (old : List Configuration) (mid : ℕ) (new : List Configuration) (end : ℕ) → ReadsSets kind b start old mid
    → ReadsNextSet kind b mid old new end → ReadsSets kind b start new end
next_set kind b start old mid new end h next =
    let c = next.set in
    let used = next.reads.count in
    let begins = next.reads.holds.begins in
    let whole = layout_is c begins.front begins.layout in
    let parts : drop mid b ≡ whole_set c ++ drop end b =
    behind_front (drop mid b) begins.front begins.rest used begins.parts begins.ends ∙ ap (λ x. begins.front ++ x) (drop_more mid used b)
    ∙ ap (λ n. begins.front ++ drop n b) (sym next.reads.at_is) ∙ ap (λ p. p ++ drop end b) whole in
    let ends : end ≡ mid + length (whole_set c) = omega (arith, next.reads.at_is, begins.ends, ap length whole) in
    let all = reads_more whole_set b start old mid c end h.all parts ends (within_all b (whole_set c) mid end h.all.within parts ends) in
    let kinds = list_any-snoc (is_other_kind kind) old c h.kinds next.reads.holds.kind_is in
    let layouts = list_any-snoc has_no_layout old c h.layouts (layout_allowed c begins.front begins.layout) in
    rw next.grown (record { all = all; kinds = kinds; layouts = layouts })

pub one_more : {A : Type 0} (old new : List A) (x : A) → new ≡ old ++ x ∷ [] → length new ≡ length old + 1
one_more old new x grown = ap length grown ∙ length-push old x
