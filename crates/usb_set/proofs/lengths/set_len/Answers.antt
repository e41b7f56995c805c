use Rattle.std.proofs.Common.{◌∙◌, ℕ, List, Bool, length, sym, ap}
use Rattle.usb_set.specs.Layout.{has_long_descriptor, has_typed_raw}
use Rattle.usb_set.specs.inside.Trees.{is_tree_typed, tree_bytes, measured}
use Rattle.usb_set.proofs.Trees.{has_long_is, has_typed_is, set_bytes_is}
use Rattle.usb_set.proofs.lengths.set_len.Goals as goal

pub returns-clause-is : goal.returns-clause-is
returns-clause-is c =
    let set = c.args.c.now in
    c.tree_len.ensures.is
    ∙ ap (λ (long : Bool). measured 0 long (is_tree_typed set) (length (tree_bytes set 0))) (sym (has_long_is set))
    ∙ ap (λ (typed : Bool). measured 0 (has_long_descriptor set) typed (length (tree_bytes set 0))) (sym (has_typed_is set))
    ∙ ap (λ (b : List ℕ). measured 0 (has_long_descriptor set) (has_typed_raw set) (length b)) (sym (set_bytes_is set 0))
