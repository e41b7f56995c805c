use Rattle.std.proofs.Common.{◌∙◌, ◌≤◌, ◌++◌, List, ℕ, length, take, sym, ap, subst, arith}
use Rattle.std.proofs.lemmas.List.{take_all}
use Rattle.usb_set.specs.inside.Trees.{HasRoom}
use Rattle.usb_set.proofs.Trees.{has_long_is, set_bytes_is}
use Rattle.usb_set.proofs.parts.put_set.Goals as goal

pub put_tree-requires : goal.put_tree-requires
put_tree-requires c = record {
  short = sym (has_long_is c.args.c.now) ∙ c.requires.short;
  room = subst (λ (b : List ℕ). HasRoom c.args.out.now c.args.at b) (set_bytes_is c.args.c.now c.args.total) (omega (arith, c.requires.room));
}

pub returns : goal.returns
returns c =
    let put = c.put_tree.ensures in
    let new = c.put_tree.new.out in
    let bytes = sym (set_bytes_is c.args.c.now c.args.total) in
    let full : length new ≤ c.put_tree.result = omega (arith, put.ends, put.count, c.requires.room, ap length bytes) in
    sym (take_all c.put_tree.result new full) ∙ put.front ∙ ap (λ (b : List ℕ). take c.args.at c.args.out.now ++ b) bytes
