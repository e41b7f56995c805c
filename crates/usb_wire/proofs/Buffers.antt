-- A buffer that is written from its beginning on.
use Rattle.std.proofs.Common.{◌≡◌, ℕ, ◌+◌, List, ◌++◌, length, take, drop, ap, sym, ◌∙◌, arith}
use Rattle.std.proofs.Math.Seq.{take-append_seam}
use Rattle.std.proofs.lemmas.List.{append_assoc}
use Rattle.std.proofs.lemmas.Slice.{drop-append-drop}

-- the buffer o begins with f, and b is written after it
pub written_after : (f b o x y : List ℕ) (k n : ℕ) → x ≡ f ++ drop k o → length f ≡ k → n ≡ k + length b → y ≡ take k x ++ (b ++ drop n x)
    → y ≡ (f ++ b) ++ drop n o
written_after f b o x y k n is long end written =
    let front : take k x ≡ f = ap (take k) is ∙ ap (λ m. take m (f ++ drop k o)) (sym long) ∙ take-append_seam f (drop k o) in
    let rest : drop n x ≡ drop n o = ap (drop n) is ∙ drop-append-drop k o f n (omega (arith, end)) long in
    written ∙ ap (λ u. u ++ (b ++ drop n x)) front ∙ ap (λ u. f ++ (b ++ u)) rest ∙ sym (append_assoc f b (drop n o))
