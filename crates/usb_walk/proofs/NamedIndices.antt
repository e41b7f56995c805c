-- The indices that descriptors name, by their bits.
use Rattle.std.proofs.Common.{◌≡◌, ◌≤◌, ◌<◌, inl, inr, ℕ, zero, suc, ◌+◌, ◌/◌, ◌==◌, ◌||◌, List, [], ◌∷◌, Bool, true, false, cond, length, refl, ap, ◌∙◌, arith, length-set}
use Rattle.std.specs.Prelude.{fold, filter}
use Rattle.std.specs.List.{list_any, range_with_len}
use Rattle.std.proofs.lemmas.Bool.{cases_lt}
use Rattle.std.proofs.lemmas.Bool.Decides.{nat_tests}
use Rattle.std.proofs.lemmas.List.{set_past}
use Rattle.usb_fields.specs.Marks.{is_marked, marked}
use Rattle.usb_fields.proofs.WordLemmas.{none_in, set_bit, word_with}
use Rattle.usb_file_data.specs.File.{named_among}
use Rattle.usb_walk.specs.NamedStrings.{indices_in, with_index}
use Rattle.usb_walk.specs.WalkedDescriptors.{nothing}

-- whether the number is in the list
abbrev pub has_index : ℕ → List ℕ → Bool
has_index n xs = list_any (λ index. index == n) xs

marked_is : (marks : ℕ → Bool) (n k : ℕ) → marked marks n k ≡ ((n == k) || marks k)
unfolding marked
marked_is marks n k = refl

other_index : (n k : ℕ) (b : Bool) → k < 256 → 256 ≤ n → b ≡ ((n == k) || b)
other_index n k b small large = grind (arith, nat_tests)

-- one index more
one_marked : (words : List ℕ) (n k : ℕ) → length words ≡ 4 → k < 256 → is_marked (with_index words n) k ≡ ((n == k) || is_marked words k)
one_marked words n k four small =
    elim (cases_lt n 256) [
      | inl below ↦ set_bit words n k (omega (arith, below, four)) ∙ marked_is (is_marked words) n k
      | inr above ↦
          ap (λ words. is_marked words k) (set_past words (n / 64) (word_with words n) (omega (arith, above, four)))
          ∙ other_index n k (is_marked words k) small above
    ]

or_moved : (a b c : Bool) → (a || (b || c)) ≡ ((b || a) || c)
or_moved true true c = refl
or_moved true false c = refl
or_moved false true c = refl
or_moved false false c = refl

-- those of a list
all_marked : (names words : List ℕ) (k : ℕ) → length words ≡ 4 → k < 256 → is_marked (fold with_index words names) k ≡ (has_index k names || is_marked words k)
all_marked [] words k four small = refl
all_marked (n ∷ names) words k four small =
    all_marked names (with_index words n) k (length-set words (n / 64) (word_with words n) ∙ four) small
    ∙ ap (λ b. has_index k names || b) (one_marked words n k four small)
    ∙ or_moved (has_index k names) (n == k) (is_marked words k)

or_none : (a b : Bool) → b ≡ false → (a || b) ≡ a
or_none true b e = refl
or_none false b e = e

filter_same : (p q : ℕ → Bool) (a n : ℕ) → ((k : ℕ) → k < a + n → p k ≡ q k) → filter p (range_with_len a n) ≡ filter q (range_with_len a n)
filter_same p q a zero same = refl
filter_same p q a (suc n) same =
    ap (λ b. cond b (a ∷ filter p (range_with_len (a + 1) n)) (filter p (range_with_len (a + 1) n))) (same a (omega arith))
    ∙ ap (λ l. cond (q a) (a ∷ l) l) (filter_same p q (a + 1) n (λ k below. same k (omega (arith, below))))

-- the bits of a walk that named these are those of their indices, ascending
pub indices_named : (names indices : List ℕ) → ((k : ℕ) → has_index k names ≡ has_index k indices) → indices_in (fold with_index nothing.named names) ≡ named_among indices
unfolding indices_in named_among
indices_named names indices same =
    filter_same (is_marked (fold with_index nothing.named names)) (λ k. has_index k indices) 1 255
    (λ k below.
    all_marked names nothing.named k refl (omega (arith, below))
    ∙ or_none (has_index k names) (is_marked nothing.named k) (none_in 4 k)
    ∙ same k)
