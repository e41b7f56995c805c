-- An image is read as what it was written of.
use Rattle.std.proofs.Common.{◌≡◌, Bool, true, false, Some, ℕ, zero, suc, find, sym, ◌+◌, ◌-◌, ◌*◌, ◌%◌, ◌/◌, ◌<◌, ◌≤◌, List, [], ◌∷◌, ◌++◌, length, take, drop, nat_lt, refl, ap, ◌∙◌, arith}
use Rattle.std.specs.Prelude.{if◌then◌else◌}
use Rattle.std.proofs.lemmas.Grind.{common_steps}
use Rattle.std.proofs.lemmas.Bool.Decides.{nat_tests}
use Rattle.std.proofs.lemmas.List.{drop-drop, length-drop}
use Rattle.std.specs.Option.{option_map}
use Rattle.usb_device.specs.Images.{Piece, body_of, find_in, has_key, count_in, piece_in, rest_in, pieces_of, pieces_within, piece_bytes, image_bytes}

rest_shorter : (b : List ℕ) (n : ℕ) → length b ≤ suc n → length (rest_in b) ≤ n
rest_shorter b n most = grind (arith, common_steps)

within_any : (m n : ℕ) (b : List ℕ) → length b ≤ m → length b ≤ n → pieces_within m b ≡ pieces_within n b
unfolding pieces_within
within_any zero zero b p q = refl
within_any zero (suc n) [] p q = refl
within_any zero (suc n) (x ∷ b) p q = absurd (let no : ⊥ = omega (arith, p) in no)
within_any (suc m) zero [] p q = refl
within_any (suc m) zero (x ∷ b) p q = absurd (let no : ⊥ = omega (arith, q) in no)
within_any (suc m) (suc n) b p q =
    ap (λ ps. if nat_lt (length b) 8 then [] else piece_in b ∷ ps) (within_any m n (rest_in b) (rest_shorter b m p) (rest_shorter b n q))

is_whole : (n : ℕ) → 8 ≤ n → nat_lt n 8 ≡ false
is_whole n long = grind (arith, nat_tests)

is_cut : (n : ℕ) → n < 8 → nat_lt n 8 ≡ true
is_cut n short = grind (arith, nat_tests)

pub pieces_at : (b : List ℕ) → 8 ≤ length b → pieces_of b ≡ piece_in b ∷ pieces_of (rest_in b)
unfolding pieces_of pieces_within
pieces_at [] long = absurd (let no : ⊥ = omega (arith, long) in no)
pieces_at (x ∷ b) long =
    rw (is_whole (length (x ∷ b)) long)
    (ap (λ ps. piece_in (x ∷ b) ∷ ps) (within_any (length b) (length (rest_in (x ∷ b))) (rest_in (x ∷ b)) (rest_shorter (x ∷ b) (length b) (omega arith)) (omega arith)))

pub no_pieces : (b : List ℕ) → length b < 8 → pieces_of b ≡ []
unfolding pieces_of pieces_within
no_pieces [] short = refl
no_pieces (x ∷ b) short = rw (is_cut (length (x ∷ b)) short) refl

-- at a place
pub piece_at : (at : ℕ) (b : List ℕ) → at + 8 ≤ length b → pieces_of (drop at b) ≡ piece_in (drop at b) ∷ pieces_of (drop (at + 8 + count_in (drop at b)) b)
piece_at at b within =
    let long : 8 ≤ length (drop at b) = omega (arith, within, length-drop at b) in
    pieces_at (drop at b) long
    ∙ ap (λ rest. piece_in (drop at b) ∷ pieces_of rest) (ap (drop (count_in (drop at b))) (drop-drop 8 at b) ∙ drop-drop (count_in (drop at b)) (at + 8) b)

pub body_at : (at : ℕ) (b : List ℕ) → (piece_in (drop at b)).body ≡ take (count_in (drop at b)) (drop (at + 8) b)
body_at at b = ap (take (count_in (drop at b))) (drop-drop 8 at b)

pub no_piece_at : (at : ℕ) (b : List ℕ) → length b < at + 8 → pieces_of (drop at b) ≡ []
no_piece_at at b past = no_pieces (drop at b) (omega (arith, past, length-drop at b))

take_whole : (b : List ℕ) → take (length b) b ≡ b
take_whole [] = refl
take_whole (x ∷ b) = ap (λ rest. x ∷ rest) (take_whole b)

-- what is left from a place on
pub all_left : (at : ℕ) (b : List ℕ) → take (length b - at) (drop at b) ≡ drop at b
all_left at b = ap (λ n. take n (drop at b)) (sym (length-drop at b)) ∙ take_whole (drop at b)

first_found : {X : Type 0} (p : X → Bool) (x : X) (xs : List X) → p x ≡ true → find p (x ∷ xs) ≡ Some x
first_found p x xs is = grind (arith, common_steps, is)

first_other : {X : Type 0} (p : X → Bool) (x : X) (xs : List X) → p x ≡ false → find p (x ∷ xs) ≡ find p xs
first_other p x xs is = grind (arith, common_steps, is)

-- the piece at a place is the one that is looked for, or those after it have it
pub found_at : (k i n at : ℕ) (b : List ℕ) → at + 8 ≤ length b → has_key k i n (piece_in (drop at b)) ≡ true → find_in (pieces_of (drop at b)) k i n ≡ Some (take (count_in (drop at b)) (drop (at + 8) b))
found_at k i n at b within is =
    ap (λ ps. option_map body_of (find (has_key k i n) ps)) (piece_at at b within)
    ∙ ap (option_map body_of) (first_found (has_key k i n) (piece_in (drop at b)) (pieces_of (drop (at + 8 + count_in (drop at b)) b)) is)
    ∙ ap (λ body. Some body) (body_at at b)

pub passed_at : (k i n at : ℕ) (b : List ℕ) → at + 8 ≤ length b → has_key k i n (piece_in (drop at b)) ≡ false →
    find (has_key k i n) (pieces_of (drop (at + 8 + count_in (drop at b)) b)) ≡ find (has_key k i n) (pieces_of (drop at b))
passed_at k i n at b within is =
    sym (ap (find (has_key k i n)) (piece_at at b within) ∙ first_other (has_key k i n) (piece_in (drop at b)) (pieces_of (drop (at + 8 + count_in (drop at b)) b)) is)

pub word_back : (n : ℕ) → n % 256 + 256 * (n / 256) ≡ n
word_back n = grind arith

long_back : (n : ℕ) → n % 65536 + 65536 * (n / 65536) ≡ n
long_back n = grind arith

pub take_all : (xs ys : List ℕ) → take (length xs) (xs ++ ys) ≡ xs
take_all xs ys = grind (arith, common_steps)

pub drop_all : (xs ys : List ℕ) → drop (length xs) (xs ++ ys) ≡ ys
drop_all xs ys = grind (arith, common_steps)

-- the count of a piece is that of its bytes
read_count : (p : Piece) (more : List ℕ) → count_in (piece_bytes p ++ more) ≡ length p.body
read_count p more =
    ap (λ low. low + 65536 * (length p.body / 65536 % 256 + 256 * (length p.body / 65536 / 256))) (word_back (length p.body % 65536))
    ∙ ap (λ high. length p.body % 65536 + 65536 * high) (word_back (length p.body / 65536))
    ∙ long_back (length p.body)

pub read_piece : (p : Piece) (more : List ℕ) → piece_in (piece_bytes p ++ more) ≡ p
read_piece p more =
    ap (λ n. record { kind = p.kind; index = p.index; number = n; body = take (count_in (piece_bytes p ++ more)) (p.body ++ more) }) (word_back p.number)
    ∙ ap (λ n. record { kind = p.kind; index = p.index; number = p.number; body = take n (p.body ++ more) }) (read_count p more)
    ∙ ap (λ b. record { kind = p.kind; index = p.index; number = p.number; body = b }) (take_all p.body more)

read_rest : (p : Piece) (more : List ℕ) → rest_in (piece_bytes p ++ more) ≡ more
read_rest p more = ap (λ n. drop n (p.body ++ more)) (read_count p more) ∙ drop_all p.body more

pub read_back : (ps : List Piece) → pieces_of (image_bytes ps) ≡ ps
read_back [] = no_pieces [] (omega arith)
read_back (p ∷ rest) =
    pieces_at (piece_bytes p ++ image_bytes rest) (omega arith)
    ∙ ap (λ q. q ∷ pieces_of (rest_in (piece_bytes p ++ image_bytes rest))) (read_piece p (image_bytes rest))
    ∙ ap (λ b. p ∷ pieces_of b) (read_rest p (image_bytes rest))
    ∙ ap (λ ps. p ∷ ps) (read_back rest)
