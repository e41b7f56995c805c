use Rattle.std.proofs.Common.{◌≡◌, ◌++◌, false, codes}
use Rattle.std.specs.Prelude.{◌==◌}
use Rattle.std.proofs.lemmas.Bool.{ne_eqb}
use Rattle.std.proofs.lemmas.Result.{on_ok_weaker}
use Rattle.usb_text.specs.Numbers.{count}
use Rattle.usb_capture_lines.proofs.TellingLemmas.{joined}
use Rattle.usb_capture_lines.proofs.last_lines.put_replaced.Goals as goal

pub returns : goal.returns
returns c =
    let some : (c.args.count == 0) ≡ false = ne_eqb c.args.count 0 c.if-count-eq0.false in
    let number = count c.args.count (codes "transfer") in
    on_ok_weaker c.put-2.result
    (λ last. rw some (joined c.args.text.now c.put.new.self c.put-2.new.self (codes "another request came before the end: ") (number ++ codes "\n")
    c.in_ok-put.ensures (joined c.put.new.self c.put_count.new.text c.put-2.new.self number (codes "\n") c.in_ok-put_count.ensures last))) c.put-2.ensures
