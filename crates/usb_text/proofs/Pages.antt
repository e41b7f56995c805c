-- On what a writer gains, and what a page holds.
use Rattle.std.proofs.Common.{◌<◌, length, length-append, arith, ◌≡◌, ℕ, List, [], ◌∷◌, ◌++◌, None, Some, Result, Ok, Err, refl, sym, ap, ◌∙◌, append_assoc, append-nil, subst, take, drop, take-append-drop}
use Rattle.std.specs.Prelude.{OnErr}
use Rattle.std.specs.Io.KnownBytes.{Appends, Keeps}
use Rattle.usb_text.specs.Output.{AppendsFront, AppendsLess, Held}
use Rattle.usb_text.specs.inside.Pages.{Puts}

pub appends_more : (a b c : Held) (s t : List ℕ) → Appends a b s → Appends b c t → Appends a c (s ++ t)
appends_more None b c s t p q = tt
appends_more (Some x) None c s t p q = absurd p
appends_more (Some x) (Some y) None s t p q = absurd q
appends_more (Some x) (Some y) (Some z) s t p q = q ∙ ap (λ l. l ++ t) p ∙ append_assoc x s t

pub appends_kept : (a b c : Held) (s : List ℕ) → Appends a b s → Keeps b c → Appends a c s
appends_kept None b c s p q = tt
appends_kept (Some x) None c s p q = absurd p
appends_kept (Some x) (Some y) None s p q = absurd q
appends_kept (Some x) (Some y) (Some z) s p q = q ∙ p

pub appends_nothing : (a b : Held) → Keeps a b → Appends a b []
appends_nothing None b k = tt
appends_nothing (Some x) None k = absurd k
appends_nothing (Some x) (Some y) k = k ∙ sym (append-nil x)

pub keeps_refl : (a : Held) → Keeps a a
keeps_refl None = tt
keeps_refl (Some x) = refl

-- where not all of a text was written, not all of a longer text was
pub front_longer : (a b : Held) (text more : List ℕ) → AppendsLess a b text → AppendsLess a b (text ++ more)
front_longer a b text more f = record {
  front = f.front;
  missing = f.missing;
  rest = f.rest ++ more;
  parts = ap (λ l. l ++ more) f.parts ∙ append_assoc f.front (f.missing ∷ f.rest) more;
  written = f.written;
}

-- one text put after another
pub puts_more : (a b c : Held) (page mid rest s t : List ℕ) → Puts a b page mid s → Puts b c mid rest t → Puts a c page rest (s ++ t)
puts_more a b c page mid rest s t p q = record {
  front = p.front ++ q.front;
  parts = sym (append_assoc page s t) ∙ ap (λ l. l ++ t) p.parts ∙ append_assoc p.front mid t ∙ ap (λ l. p.front ++ l) q.parts ∙ sym (append_assoc p.front q.front rest);
  written = appends_more a b c p.front q.front p.written q.written;
}

-- a writer that failed at the second text
pub puts_broken : (a b c : Held) (page mid s t : List ℕ) → Puts a b page mid s → AppendsLess b c (mid ++ t) → AppendsLess a c (page ++ (s ++ t))
puts_broken a b c page mid s t p q = record {
  front = p.front ++ q.front;
  missing = q.missing;
  rest = q.rest;
  parts = sym (append_assoc page s t) ∙ ap (λ l. l ++ t) p.parts ∙ append_assoc p.front mid t ∙ ap (λ l. p.front ++ l) q.parts ∙ sym (append_assoc p.front q.front (q.missing ∷ q.rest));
  written = appends_more a b c p.front q.front p.written q.written;
}

-- a text put after what the page has already
pub puts_after : (a b : Held) (page mid rest s t : List ℕ) → mid ≡ page ++ s → Puts a b mid rest t → Puts a b page rest (s ++ t)
puts_after a b page mid rest s t e p = record {
  front = p.front;
  parts = sym (append_assoc page s t) ∙ ap (λ l. l ++ t) (sym e) ∙ p.parts;
  written = p.written;
}

-- a writer that failed at a text put after what the page has already
pub broken_after : (a b : Held) (page mid s t : List ℕ) → mid ≡ page ++ s → AppendsLess a b (mid ++ t) → AppendsLess a b (page ++ (s ++ t))
broken_after a b page mid s t e p = record {
  front = p.front;
  missing = p.missing;
  rest = p.rest;
  parts = sym (append_assoc page s t) ∙ ap (λ l. l ++ t) (sym e) ∙ p.parts;
  written = p.written;
}

pub puts_whole_front : (a b c : Held) (rest text : List ℕ) → Puts a b [] rest text → AppendsLess b c rest → AppendsLess a c text
puts_whole_front a b c rest text p w = record {
  front = p.front ++ w.front;
  missing = w.missing;
  rest = w.rest;
  parts = p.parts ∙ ap (λ l. p.front ++ l) w.parts ∙ sym (append_assoc p.front w.front (w.missing ∷ w.rest));
  written = appends_more a b c p.front w.front p.written w.written;
}

-- of the bytes, this rest is still to be written
pub record WritesFrom (old new : Held) (bytes rest : List ℕ) : Type 0 where
  pub done : List ℕ
  pub parts : bytes ≡ done ++ rest
  pub written : Appends old new done

pub from_next : (a b c : Held) (bytes rest : List ℕ) (n : ℕ) → WritesFrom a b bytes rest → Appends b c (take n rest) → WritesFrom a c bytes (drop n rest)
from_next a b c bytes rest n p w = record {
  done = p.done ++ take n rest;
  parts = p.parts ∙ ap (λ l. p.done ++ l) (sym (take-append-drop n rest)) ∙ sym (append_assoc p.done (take n rest) (drop n rest));
  written = appends_more a b c p.done (take n rest) p.written w;
}

-- a page that was passed on after a text was put
pub puts_passed : (a b c : Held) (page mid rest text : List ℕ) → Puts a b page mid text → Puts b c mid rest [] → Puts a c page rest text
puts_passed a b c page mid rest text p q =
    subst (Puts a c page rest) (append-nil text) (puts_more a b c page mid rest text [] p q)

-- a writer that failed as the page was passed on
pub broken_passed : (a b c : Held) (page mid text : List ℕ) → Puts a b page mid text → AppendsLess b c mid → AppendsLess a c (page ++ text)
broken_passed a b c page mid text p q =
    subst (λ l. AppendsLess a c (page ++ l)) (append-nil text) (puts_broken a b c page mid text [] p (subst (AppendsLess b c) (sym (append-nil mid)) q))

pub on_err : {T E P : Type 0} (r : Result T E) → P → OnErr r P
on_err (Ok v) p = tt
on_err (Err e) p = p

-- where not all of a text was written, not all was of that text and what follows it
pub front_more : (a b : Held) (page s t : List ℕ) → AppendsLess a b (page ++ s) → AppendsLess a b (page ++ (s ++ t))
front_more a b page s t f = subst (AppendsLess a b) (append_assoc page s t) (front_longer a b (page ++ s) t f)

-- a whole text is a prefix of itself
pub front_whole : (a b c : Held) (text : List ℕ) → Appends a b text → Keeps b c → AppendsFront a c text
front_whole a b c text w k =
    record { front = text; rest = []; parts = sym (append-nil text); written = appends_kept a b c text w k }

-- nothing of a text that has a byte was written
pub not_begun : (a : Held) (page text : List ℕ) → 0 < length text → AppendsLess a a (page ++ text)
not_begun a page [] some = absurd (omega (arith, some))
not_begun a [] (x ∷ xs) some =
    record { front = []; missing = x; rest = xs; parts = refl; written = appends_nothing a a (keeps_refl a) }
not_begun a (y ∷ ys) (x ∷ xs) some =
    record { front = []; missing = y; rest = ys ++ x ∷ xs; parts = refl; written = appends_nothing a a (keeps_refl a) }

-- where not all of a text was written, a prefix of it was
pub less_is_front : (a b : Held) (text : List ℕ) → AppendsLess a b text → AppendsFront a b text
less_is_front a b text f = record { front = f.front; rest = f.missing ∷ f.rest; parts = f.parts; written = f.written }

-- writing that stopped before a rest that has a byte
pub stopped : (a c : Held) (bytes done rest : List ℕ) → bytes ≡ done ++ rest → Appends a c done → 0 < length rest → AppendsLess a c bytes
stopped a c bytes done [] parts written some = absurd (omega (arith, some))
stopped a c bytes done (x ∷ xs) parts written some =
    record { front = done; missing = x; rest = xs; parts = parts; written = written }

-- a text that begins with one that has a byte
pub longer : (a b : List ℕ) → 0 < length a → 0 < length (a ++ b)
longer a b some = omega (arith, some, length-append a b)
