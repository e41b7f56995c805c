use Rattle.std.proofs.Common.{◌≡◌, ℕ, ◌++◌, List, codes, Result, Ok, Err, ap, ◌∙◌, append_assoc}
use Rattle.std.specs.Prelude.{OnOk}
use Rattle.usb_text.specs.Numbers.{count}
use Rattle.usb_tool.specs.Explains.{hexadecimal_words}
use Rattle.usb_tool.proofs.explanation.put_hexadecimal.Goals as goal

on_ok : {T E : Type 0} (r : Result T E) (P Q : Type 0) → (P → Q) → OnOk r P → OnOk r Q
on_ok (Ok v) P Q f p = f p
on_ok (Err e) P Q f p = tt

three : (old a b c x y z : List ℕ) → x ≡ old ++ a → y ≡ x ++ b → z ≡ y ++ c → z ≡ old ++ (a ++ b ++ c)
three old a b c x y z p q s =
    s ∙ (ap (λ (l : List ℕ). l ++ c) (q ∙ (ap (λ (l : List ℕ). l ++ b) p ∙ append_assoc old a b)) ∙ append_assoc old (a ++ b) c)

pub returns : goal.returns
unfolding hexadecimal_words
returns c =
    on_ok c.put-2.result _ _
    (three c.args.text.now (codes "hexadecimal text, ") (count c.args.count (codes "byte")) (codes ": ") c.put.new.self c.put_count.new.text c.put-2.new.self
    c.in_ok-put.ensures c.in_ok-put_count.ensures) c.put-2.ensures
