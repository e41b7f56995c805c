-- Lists that grow at their end.
use Rattle.std.proofs.Common.{◌≡◌, ℕ, ◌+◌, List, [], ◌∷◌, ◌++◌, length, drop, refl, sym, ap, ◌∙◌, append_assoc, length-append, arith}
use Rattle.std.specs.List.{flat_map}
use Rattle.std.proofs.lemmas.List.{append-nil}
use Rattle.std.proofs.lemmas.List.Concat.{flat_map-append}
use Rattle.std.proofs.lemmas.Grind.{common_steps}
use Rattle.usb_fields.specs.Bytes.{AreBytes}

pub flat_map-push : {A : Type 0} (g : A → List ℕ) (xs : List A) (x : A) → flat_map g (xs ++ x ∷ []) ≡ flat_map g xs ++ g x
flat_map-push g xs x = flat_map-append g xs (x ∷ []) ∙ ap (λ (ys : List ℕ). flat_map g xs ++ ys) (append-nil (g x))

pub length-push : {A : Type 0} (xs : List A) (x : A) → length (xs ++ x ∷ []) ≡ length xs + 1
length-push xs x = length-append xs (x ∷ [])

-- bytes after a list in the middle of a file, where nothing is after it yet
pub behind_main : (d s s' o t p : List ℕ) → s' ≡ s ++ p → o ≡ [] → t ≡ [] → d ++ s' ++ o ++ t ≡ (d ++ s ++ o ++ t) ++ p
behind_main d s s' o t p e eo et = rw (e, eo, et) (simp (append_assoc, append-nil))

pub behind_other : (d s o o' t p : List ℕ) → o' ≡ o ++ p → t ≡ [] → d ++ s ++ o' ++ t ≡ (d ++ s ++ o ++ t) ++ p
behind_other d s o o' t p e et = rw (e, et) (simp (append_assoc, append-nil))

pub behind_all : (x t t' p : List ℕ) → t' ≡ t ++ p → x ++ t' ≡ (x ++ t) ++ p
behind_all x t t' p e = ap (λ y. x ++ y) e ∙ sym (append_assoc x t p)

pub drop_front : (a r : List ℕ) → drop (length a) (a ++ r) ≡ r
drop_front [] r = refl
drop_front (x ∷ a) r = drop_front a r

pub drop_more : (n m : ℕ) (b : List ℕ) → drop m (drop n b) ≡ drop (n + m) b
drop_more n m b = grind (arith, common_steps)

-- ---- bytes

pub bytes_behind : (a r : List ℕ) → AreBytes (a ++ r) → AreBytes r
bytes_behind [] r h = h
bytes_behind (x ∷ a) r h = bytes_behind a r h.1

pub bytes_before : (a r : List ℕ) → AreBytes (a ++ r) → AreBytes a
bytes_before [] r h = tt
bytes_before (x ∷ a) r h = (h.0, bytes_before a r h.1)
