-- Numbers of bytes of which only the first are held, or which go on.
use Rattle.std.proofs.Common.{◌≡◌, ℕ, ◌+◌, ◌-◌, ◌<◌, ◌≤◌, List, ◌++◌, length, take, get_or, min, Bool, true, false, nat_lt, ◌⊎◌, inl, inr, refl, sym, ◌∙◌, ap, arith}
use Rattle.std.proofs.lemmas.List.{append-nil, get_or-take, get_or_append_left, take-append-le, take_all, take-take, length-take-le}
use Rattle.std.proofs.lemmas.Bool.Decides.{nat_tests}
use Rattle.std.proofs.Math.Seq.{take-append-add}
use Rattle.usb_capture.specs.declared.order.ByteOrder.{ByteOrder}
use Rattle.usb_capture.specs.declared.order.ByteOrder.TheVariants.{Little, Big}
use Rattle.usb_capture.specs.Numbers.{number_at, short_at}

-- one of two numbers is the greater
pub le_or : (m n : ℕ) → (m ≤ n) ⊎ (n < m)
le_or m n = by_test (nat_lt n m) refl
  where
    by_test : (t : Bool) → nat_lt n m ≡ t → (m ≤ n) ⊎ (n < m)
    by_test true e = inr (grind (arith, nat_tests))
    by_test false e = inl (grind (arith, nat_tests))

-- the same bytes at the first n places
abbrev pub Agree : ℕ → List ℕ → List ℕ → Type 0
Agree n b c = (i : ℕ) → i < n → get_or b i 0 ≡ get_or c i 0

pub fewer : (m n : ℕ) (b c : List ℕ) → m ≤ n → Agree n b c → Agree m b c
fewer m n b c h same = λ i j. same i (omega (arith, h, j))

-- the first m bytes have the numbers that lie in them
pub front : (n m : ℕ) (b : List ℕ) → n ≤ m → Agree n (take m b) b
front n m b h = λ i j. get_or-take m b i 0 (omega (arith, h, j))

-- numbers stay as more bytes come
pub more : (n : ℕ) (b x : List ℕ) → n ≤ length b → Agree n (b ++ x) b
more n b x h = λ i j. get_or_append_left b x 0 i (omega (arith, h, j))

pub same_number : (n : ℕ) (order : ByteOrder) (b c : List ℕ) (at : ℕ) → at + 4 ≤ n → Agree n b c → number_at order b at ≡ number_at order c at
unfolding number_at
same_number n Little b c at h same =
    let a0 = same at (omega (arith, h)) in
    let a1 = same (at + 1) (omega (arith, h)) in
    let a2 = same (at + 2) (omega (arith, h)) in
    let a3 = same (at + 3) (omega (arith, h)) in
    omega (arith, a0, a1, a2, a3)
same_number n Big b c at h same =
    let a0 = same at (omega (arith, h)) in
    let a1 = same (at + 1) (omega (arith, h)) in
    let a2 = same (at + 2) (omega (arith, h)) in
    let a3 = same (at + 3) (omega (arith, h)) in
    omega (arith, a0, a1, a2, a3)

pub same_short : (n : ℕ) (order : ByteOrder) (b c : List ℕ) (at : ℕ) → at + 2 ≤ n → Agree n b c → short_at order b at ≡ short_at order c at
same_short n Little b c at h same = (let a0 = same at (omega (arith, h)) in let a1 = same (at + 1) (omega (arith, h)) in omega (arith, a0, a1))
same_short n Big b c at h same = (let a0 = same at (omega (arith, h)) in let a1 = same (at + 1) (omega (arith, h)) in omega (arith, a0, a1))

-- of n bytes the first m
take_both : (m n : ℕ) (xs : List ℕ) → n ≤ length xs → take (min n m) xs ≡ take m (take n xs)
take_both m n xs h =
    elim (le_or m n) [
      | inl less ↦ rw (let least : min n m ≡ m = omega (arith, less) in least) (sym (take-take m n xs less))
      | inr more ↦ rw (let least : min n m ≡ n = omega (arith, more) in least) (sym (take_all m (take n xs) (let long = length-take-le n xs h in omega (arith, long, more))))
    ]

-- the first m bytes of a part, as n more bytes of a piece come
pub held_more : (m n : ℕ) (part piece : List ℕ) → n ≤ length piece → take m part ++ take (min n (m - length (take m part))) piece ≡ take m (part ++ take n piece)
held_more m n part piece h =
    elim (le_or (length part) m) [
      | inl short ↦
          (let all : take m part ≡ part = take_all m part short in
          let rest : m ≡ length part + (m - length part) = omega (arith, short) in
          ap (λ p. p ++ take (min n (m - length p)) piece) all
          ∙ ap (λ t. part ++ t) (take_both (m - length part) n piece h)
          ∙ sym (ap (λ k. take k (part ++ take n piece)) rest ∙ take-append-add part (take n piece) (m - length part)))
      | inr long ↦
          (let full : length (take m part) ≡ m = length-take-le m part (omega (arith, long)) in
          let none : min n (m - length (take m part)) ≡ 0 = omega (arith, full) in
          ap (λ k. take m part ++ take k piece) none ∙ append-nil (take m part)
          ∙ sym (take-append-le m part (take n piece) (omega (arith, long))))
    ]
