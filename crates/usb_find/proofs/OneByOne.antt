-- One after another.
use Rattle.std.proofs.Common.{◌≡◌, ℕ, ◌+◌, ◌<◌, List, [], ◌∷◌, ◌++◌, length, take, drop, set, refl, sym, ap, subst, ◌∙◌, arith}
use Rattle.std.proofs.lemmas.List.{drop-drop, drop-set-lt, take_more_set}
use Rattle.usb_find.specs.declared.search.Found.{Found}
use Rattle.usb_find.specs.Found.{FindsAll, IsFirst}

-- one more at the end
one_more : (b : List ℕ) (fs : List Found) (start end : ℕ) (f : Found) → FindsAll b start fs end → IsFirst b end f → FindsAll b start (fs ++ f ∷ []) f.next
one_more b [] start end f h first = (subst (λ n. IsFirst b n f) h first, refl)
one_more b (g ∷ fs) start end f h first = (h.0, one_more b fs g.next end f h.1 first)

pub put_more : (b : List ℕ) (new : List Found) (start end count : ℕ) (f : Found) → count < length new → FindsAll b start (take count new) end → IsFirst b end f → FindsAll b start (take (count + 1) (set new count f)) f.next
put_more b new start end count f below h first =
    subst (λ (z : List Found). FindsAll b start z f.next) (sym (take_more_set new count f below)) (one_more b (take count new) start end f h first)

-- and after it the buffer is as it was
pub rest_more : (old new : List Found) (count : ℕ) (f : Found) → drop count new ≡ drop count old → drop (count + 1) (set new count f) ≡ drop (count + 1) old
rest_more old new count f h =
    drop-set-lt (count + 1) new count f (omega arith) ∙ sym (drop-drop 1 count new) ∙ ap (drop 1) h ∙ drop-drop 1 count old
