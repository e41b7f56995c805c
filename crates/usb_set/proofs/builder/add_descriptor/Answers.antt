use Rattle.std.proofs.Common.{◌≡◌, Err, List, Ok, Result, length, slice_index, subst, sym, false, ℕ}
use Rattle.std.specs.Prelude.{OnOk}
use Rattle.std.proofs.lemmas.List.{take_rest}
use Rattle.usb_set.specs.Building.{Adds}
use Rattle.usb_set.specs.Layout.{has_typed_raw}
use Rattle.usb_set.specs.declared.tree.Configuration.{Configuration}
use Rattle.usb_set.specs.inside.Reading.{attach}
use Rattle.usb_set.proofs.Adding.{add_is, add_typed}
use Rattle.usb_set.proofs.builder.add_descriptor.Goals as goal

-- what holds of a value holds of an equal one, where the answer is no error
on_ok : {A E : Type 0} (r : Result A E) (P : Configuration → Type 0) (new made : Configuration) → OnOk r (new ≡ made) → P made → OnOk r (P new)
on_ok (Ok x) P new made is p = subst P (sym is) p
on_ok (Err e) P new made is p = tt

pub returns-clause-adds : goal.returns-clause-adds
returns-clause-adds c =
    let d = c.args.descriptor.now in
    on_ok c.attach.result (Adds c.args.set.now d) c.attach.new.c _ c.attach.ensures.ok
    (subst (λ (body : List ℕ). Adds c.args.set.now d (attach c.args.set.now (record { kind = slice_index d 1; body = body }))) (sym (take_rest d 2))
    (add_is c.args.set.now d (length d) c.known_bytes.ensures c.requires.whole c.requires.fine))

pub returns-clause-raws : goal.returns-clause-raws
returns-clause-raws c =
    let d = c.args.descriptor.now in
    on_ok c.attach.result (λ new. has_typed_raw c.args.set.now ≡ false → has_typed_raw new ≡ false) c.attach.new.c _ c.attach.ensures.ok
    (subst (λ (body : List ℕ). has_typed_raw c.args.set.now ≡ false → has_typed_raw (attach c.args.set.now (record { kind = slice_index d 1; body = body })) ≡ false) (sym (take_rest d 2))
    (add_typed c.args.set.now d (length d) c.requires.whole c.requires.fine))
