use Rattle.std.proofs.Common.{◌≡◌, ◌/◌, ◌%◌, ◌++◌, OnOk, codes, rules, subst}
use Rattle.std.proofs.lemmas.Result.{on_ok_weaker}
use Rattle.usb_text.specs.Numbers.{count}
use Rattle.usb_bus.specs.Lines.{descriptor_words, get_descriptor_words}
use Rattle.usb_bus.proofs.JoinLemmas.{joined}
use Rattle.usb_bus.proofs.step_lines.put_get_descriptor.Goals as goal

pub returns : goal.returns
unfolding get_descriptor_words
returns c =
    let q = c.args.setup.now in
    let of = descriptor_words (q.value / 256) (q.value % 256) q.index in
    let name : c.put_descriptor.new.text ≡ c.put.new.self ++ of = search rules in
    let named = joined c.args.text.now c.put.new.self c.put_descriptor.new.text (codes "GET_DESCRIPTOR ") of c.in_ok-put.ensures name in
    let then = joined c.args.text.now c.put_descriptor.new.text c.put-2.new.self (codes "GET_DESCRIPTOR " ++ of) (codes ", ") named c.in_ok-put-2.ensures in
    let counted = subst (λ n. OnOk c.put_count.result (c.put_count.new.text ≡ c.put-2.new.self ++ count n (codes "byte"))) c.from.ensures c.put_count.ensures in
    on_ok_weaker c.put_count.result
    (joined c.args.text.now c.put-2.new.self c.put_count.new.text (codes "GET_DESCRIPTOR " ++ of ++ codes ", ") (count q.length (codes "byte")) then) counted
