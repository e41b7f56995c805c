-- What is written into the room behind a text.
use Rattle.std.proofs.Common.{◌≡◌, ℕ, ◌+◌, ◌-◌, ◌*◌, ◌≤◌, ◌<◌, ◌∙◌, List, [], ◌∷◌, ◌++◌, length, take, drop, replicate, max, refl, sym, ap, arith, append_assoc, add-one}
use Rattle.std.proofs.Math.ListN.{set}
use Rattle.std.proofs.Math.Seq.{take-append-add, drop-append-add, take-append_seam, take-suc-set}
use Rattle.std.proofs.lemmas.List.{length-append, length-replicate, length-take-le, take-append-le, take-replicate, take-take, drop-replicate, drop-take}
use Rattle.hex.specs.Hex.{encode_lower, lower_digits}
use Rattle.hex.proofs.HexLemmas.{length-encode_with}

-- the text is still there where room is made behind it
pub still_used : (old new : List ℕ) (used : ℕ) → used ≤ length old → take (length old) new ≡ old → take used new ≡ take used old
still_used old new used within same = sym (take-take used (length old) new within) ∙ ap (take used) same

-- characters behind the text
pub written_behind : (old words : List ℕ) (used : ℕ) → used + length words ≤ length old
    → take (used + length words) (take used old ++ words ++ drop (used + length words) old) ≡ take used old ++ words
written_behind old words used fits =
    let all : length (take used old ++ words) ≡ used + length words = rw (length-append (take used old) words, length-take-le used old (omega (arith, fits))) refl in
    ap (λ n. take n (take used old ++ words ++ drop (used + length words) old)) (sym all) ∙ take-append_seam (take used old ++ words) (drop (used + length words) old)

-- this many of the spaces that were written behind the text
pub spaces_behind : (old : List ℕ) (used count : ℕ) → used + 48 ≤ length old → count ≤ 48
    → take (used + count) (take used old ++ replicate {A = ℕ} 48 32 ++ drop (used + 48) old) ≡ take used old ++ replicate count 32
spaces_behind old used count fits some =
    let space : ℕ = 32 in
    let front = take used old in
    let behind = drop (used + 48) old in
    let length_of_front : length front ≡ used = length-take-le used old (omega (arith, fits)) in
    let within : count ≤ length (replicate 48 space) = rw (length-replicate 48 space) some in
    ap (λ n. take (n + count) (front ++ replicate 48 space ++ behind)) (sym length_of_front)
    ∙ ap (take (length front + count)) (append_assoc front (replicate 48 space) behind)
    ∙ take-append-add front (replicate 48 space ++ behind) count
    ∙ ap (λ xs. front ++ xs) (take-append-le count (replicate 48 space) behind within ∙ take-replicate count 48 space some)

-- a character behind the text
pub character_behind : (old : List ℕ) (used character : ℕ) → used < length old → take (used + 1) (set old used character) ≡ take used old ++ character ∷ []
character_behind old used character within = rw add-one (take-suc-set old used character within)

-- two digits for each byte
pub digits_count : (bytes : List ℕ) → length (encode_lower bytes) ≡ 2 * length bytes
digits_count bytes = length-encode_with lower_digits bytes

-- digits behind the text
pub digits_behind : (old bytes : List ℕ) (used count : ℕ) → count ≡ 2 * length bytes → used + count ≤ length old
    → take (used + count) (take used old ++ encode_lower bytes ++ drop (used + 2 * length bytes) old) ≡ take used old ++ encode_lower bytes
digits_behind old bytes used count is fits =
    let digits : length (encode_lower bytes) ≡ count = digits_count bytes ∙ sym is in
    ap (λ n. take (used + count) (take used old ++ encode_lower bytes ++ drop (used + n) old)) (sym (digits_count bytes))
    ∙ ap (λ n. take (used + n) (take used old ++ encode_lower bytes ++ drop (used + length (encode_lower bytes)) old)) (sym digits)
    ∙ written_behind old (encode_lower bytes) used (omega (arith, fits, digits))

-- characters over others of a text, of which a front is taken that has them
taken_over : (xs words : List ℕ) (start front : ℕ) → start + length words ≤ front → front ≤ length xs
    → take front (take start xs ++ words ++ drop (start + length words) xs) ≡ take start (take front xs) ++ words ++ drop (start + length words) (take front xs)
taken_over xs words start front inside within =
    let before = take start xs ++ words in
    let end = start + length words in
    let length_before : length before ≡ end = rw (length-append (take start xs) words, length-take-le start xs (omega (arith, inside, within))) refl in
    let joined : end + (front - end) ≡ front = omega (arith, inside) in
    let split : front ≡ length before + (front - end) = omega (arith, length_before, inside) in
    ap (λ n. take n (before ++ drop end xs)) split
    ∙ take-append-add before (drop end xs) (front - end)
    ∙ ap (λ ys. before ++ ys) (sym (drop-take end (front - end) xs))
    ∙ ap (λ n. before ++ drop end (take n xs)) joined
    ∙ ap (λ ys. ys ++ words ++ drop end (take front xs)) (sym (take-take start front xs (omega (arith, inside))))

-- the characters over the spaces behind a text: the indent, the characters, and the filling
column_within : (old words : List ℕ) (indent width : ℕ) → length words < width
    → take (length old + indent) (old ++ replicate (indent + width) 32)
    ++ words
    ++ drop (length old + indent + length words) (old ++ replicate (indent + width) 32)
    ≡ old ++ replicate indent 32 ++ (words ++ replicate (max (width - length words) 1) 32)
column_within old words indent width fits =
    let space : ℕ = 32 in
    let count = indent + width in
    let behind : length old + indent + length words ≡ length old + (indent + length words) = omega arith in
    let inside : indent ≤ count = omega arith in
    let left : count - (indent + length words) ≡ max (width - length words) 1 = omega (arith, fits) in
    rw (
      behind,
      take-append-add old (replicate count space) indent,
      drop-append-add old (replicate count space) (indent + length words),
      take-replicate indent count space inside,
      drop-replicate (indent + length words) count space,
      left,
    )
    (append_assoc (old ++ replicate indent space) words (replicate (max (width - length words) 1) space))

-- a column over the spaces that were written behind the text
pub column_behind : (old words : List ℕ) (used indent width : ℕ) → used + 48 ≤ length old → indent + width ≤ 48 → length words < width
    → let spaces = take used old ++ replicate {A = ℕ} 48 32 ++ drop (used + 48) old in
    take (used + (indent + width)) (take (used + indent) spaces ++ words ++ drop (used + indent + length words) spaces)
    ≡ take used old ++ replicate indent 32 ++ (words ++ replicate (max (width - length words) 1) 32)
column_behind old words used indent width room some fits =
    let space : ℕ = 32 in
    let front = take used old in
    let spaces = front ++ replicate 48 space ++ drop (used + 48) old in
    let length_of_front : length front ≡ used = length-take-le used old (omega (arith, room)) in
    let length_of_spaces : used + 48 ≤ length spaces =
    rw (length-append (front ++ replicate 48 space) (drop (used + 48) old), length-append front (replicate 48 space), length-replicate 48 space, length_of_front) (omega arith) in
    taken_over spaces words (used + indent) (used + (indent + width)) (omega (arith, fits)) (omega (arith, length_of_spaces, some))
    ∙ ap (λ xs. take (used + indent) xs ++ words ++ drop (used + indent + length words) xs) (spaces_behind old used (indent + width) room some)
    ∙ ap (λ n. take (n + indent) (front ++ replicate (indent + width) space) ++ words ++ drop (n + indent + length words) (front ++ replicate (indent + width) space)) (sym length_of_front)
    ∙ column_within front words indent width fits
