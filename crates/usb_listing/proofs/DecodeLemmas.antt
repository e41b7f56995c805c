-- Pairs of lower-case digits, and their bytes.
use Rattle.std.proofs.Common.{◌≡◌, ◌≢◌, ℕ, ◌+◌, ◌*◌, ◌%◌, ◌<◌, ◌≤◌, List, [], ◌∷◌, ◌++◌, length, take, drop, slice_index, slice_set, Bool, true, false, cond, ltb, inl, inr, Option, Some, None, refl, sym, ap, subst, ◌∙◌, arith}
use Rattle.std.proofs.lemmas.Bool.{cases_lt, ltb-false, ltb-true}
use Rattle.std.specs.Int.Bits.{bit_or}
use Rattle.std.proofs.lemmas.Nat.{le_or_l, le_or_r, or_of_8}
use Rattle.std.specs.List.{AllByRecursion}
use Rattle.std.proofs.lemmas.List.{append_assoc, append-nil, drop_all, drop_more, take_all, take_more_set}
use Rattle.hex.specs.Hex.{encode_lower, encode_with, lower_digits}
use Rattle.hex.proofs.HexLemmas.{length-encode_with}
use Rattle.usb_fields.specs.Bytes.{IsByte}
use Rattle.usb_listing.specs.inside.Fields.{pair_value, value_or, before, pairs_of}
use Rattle.usb_listing.proofs.DigitLemmas.{pair_again, pair_large, pair_read, pair_small}

-- ---- both ways between bytes and their digits

pub pairs_again : (bytes : List ℕ) → AllByRecursion IsByte bytes → pairs_of (encode_lower bytes) ≡ Some bytes
unfolding pairs_of encode_with
pairs_again [] h = refl
pairs_again (b ∷ rest) h = rw (pair_again b h.0, pairs_again rest h.1) refl

-- what was read is written so
pub record Pairs (text bytes : List ℕ) : Type 0 where
  pub written : encode_lower bytes ≡ text
  pub fits : AllByRecursion IsByte bytes

pub pairs_read : (text bytes : List ℕ) → pairs_of text ≡ Some bytes → Pairs text bytes
unfolding pairs_of encode_with
pairs_read [] bytes e = let is : [] ≡ bytes = cc in subst (Pairs []) is (record { written = refl; fits = tt })
pairs_read (high ∷ []) bytes e = cc
pairs_read (high ∷ low ∷ rest) bytes e = cases (pair_value high low) (pairs_of rest) refl (λ bs em. pairs_read rest bs em) e
  where
    cases : (b : Option ℕ) (more : Option (List ℕ)) → pair_value high low ≡ b → ((bs : List ℕ) → more ≡ Some bs → Pairs rest bs) → before b more ≡ Some bytes
        → Pairs (high ∷ low ∷ rest) bytes
    cases None more eb ih e = cc
    cases (Some b) None eb ih e = cc
    cases (Some b) (Some bs) eb ih e =
        let pair = pair_read high low b eb in
        let later = ih bs refl in
        let is : b ∷ bs ≡ bytes = cc in
        subst (Pairs (high ∷ low ∷ rest)) is (record {
          written = rw (pair.is_high, pair.is_low, later.written) refl;
          fits = (pair.byte, later.fits);
        })

-- ---- pairs one after another

-- the bytes before those of a rest
abbrev pub prepend : List ℕ → Option (List ℕ) → Option (List ℕ)
prepend front None = None
prepend front (Some rest) = Some (front ++ rest)

prepend-before : (front : List ℕ) (b : ℕ) (o : Option (List ℕ)) → prepend front (before (Some b) o) ≡ prepend (front ++ b ∷ []) o
prepend-before front b None = refl
prepend-before front b (Some rest) = ap Some (sym (append_assoc front (b ∷ []) rest))

prepend-nil : (o : Option (List ℕ)) → o ≡ prepend [] o
prepend-nil None = refl
prepend-nil (Some rest) = refl

-- what is left of the digits, at a whole pair
drop_pair : (digits : List ℕ) (i : ℕ) → 2 * i + 1 < length digits
    → drop (2 * i) digits ≡ slice_index digits (2 * i) ∷ slice_index digits (2 * i + 1) ∷ drop (2 * (i + 1)) digits
drop_pair digits i fits =
    let a = drop_more digits (2 * i) 0 (omega arith) in
    let b = drop_more digits (2 * i + 1) 0 (omega arith) in
    let two : 2 * i + 1 + 1 ≡ 2 * (i + 1) = omega arith in
    rw (a, b, two) refl

pairs-next : (high low : ℕ) (rest : List ℕ) → pairs_of (high ∷ low ∷ rest) ≡ before (pair_value high low) (pairs_of rest)
unfolding pairs_of
pairs-next high low rest = refl

-- one byte more is decoded
decode_step : (digits bytes : List ℕ) (i b : ℕ) → 2 * i + 1 < length digits → i < length bytes
    → pair_value (slice_index digits (2 * i)) (slice_index digits (2 * i + 1)) ≡ Some b
    → pairs_of digits ≡ prepend (take i bytes) (pairs_of (drop (2 * i) digits))
    → pairs_of digits ≡ prepend (take (i + 1) (slice_set bytes i b)) (pairs_of (drop (2 * (i + 1)) digits))
decode_step digits bytes i b fits room is inv =
    let rest : List ℕ = drop (2 * (i + 1)) digits in
    let pair = ap pairs_of (drop_pair digits i fits) ∙ pairs-next _ _ rest ∙ ap (λ (o : Option ℕ). before o (pairs_of rest)) is in
    inv ∙ ap (prepend (take i bytes)) pair ∙ prepend-before (take i bytes) b (pairs_of rest)
    ∙ ap (λ (front : List ℕ). prepend front (pairs_of rest)) (sym (take_more_set bytes i b room))

-- two bytes are no pair of digits
decode_none : (digits bytes : List ℕ) (i : ℕ) → 2 * i + 1 < length digits
    → pair_value (slice_index digits (2 * i)) (slice_index digits (2 * i + 1)) ≡ None
    → pairs_of digits ≡ prepend (take i bytes) (pairs_of (drop (2 * i) digits))
    → pairs_of digits ≡ None
decode_none digits bytes i fits none inv =
    let rest : List ℕ = drop (2 * (i + 1)) digits in
    let pair = ap pairs_of (drop_pair digits i fits) ∙ pairs-next _ _ rest ∙ ap (λ (o : Option ℕ). before o (pairs_of rest)) none in
    inv ∙ ap (prepend (take i bytes)) pair

-- every byte is decoded
decode_done : (digits bytes : List ℕ) (i : ℕ) → length bytes ≤ i → length digits ≤ 2 * i
    → pairs_of digits ≡ prepend (take i bytes) (pairs_of (drop (2 * i) digits))
    → pairs_of digits ≡ Some bytes
unfolding pairs_of
decode_done digits bytes i all fits inv =
    inv ∙ ap (λ (d : List ℕ). prepend (take i bytes) (pairs_of d)) (drop_all (2 * i) digits fits)
    ∙ ap Some (append-nil (take i bytes) ∙ take_all i bytes all)

-- this many pairs are decoded, and these are the bits of all
pub record Decoding (digits bytes : List ℕ) (i bits : ℕ) : Type 0 where
  pub right : bits < 256 → pairs_of digits ≡ prepend (take i bytes) (pairs_of (drop (2 * i) digits))
  pub wrong : 256 ≤ bits → pairs_of digits ≡ None

pub decoding_none : (digits bytes : List ℕ) → Decoding digits bytes 0 0
decoding_none digits bytes = record { right = λ lt. prepend-nil (pairs_of digits); wrong = λ le. absurd (omega arith) }

pub decoding_next : (digits bytes : List ℕ) (i bits byte : ℕ) → 2 * i + 1 < length digits → i < length bytes
    → byte ≡ value_or (slice_index digits (2 * i)) * 16 + value_or (slice_index digits (2 * i + 1))
    → Decoding digits bytes i bits → Decoding digits (slice_set bytes i (byte % 256)) (i + 1) (bit_or bits byte)
decoding_next digits bytes i bits byte fits room is d = record { right = right; wrong = wrong }
  where
    here : byte < 256 → pair_value (slice_index digits (2 * i)) (slice_index digits (2 * i + 1)) ≡ Some (byte % 256)
    here lt =
        let same : byte % 256 ≡ byte = omega (arith, lt) in
        sym (pair_small (slice_index digits (2 * i)) (slice_index digits (2 * i + 1)) (omega (arith, is, lt))) ∙ ap Some (sym is ∙ sym same)

    right : bit_or bits byte < 256 → pairs_of digits ≡ prepend (take (i + 1) (slice_set bytes i (byte % 256))) (pairs_of (drop (2 * (i + 1)) digits))
    right lt =
        let a = le_or_l bits byte in
        let b = le_or_r bits byte in
        decode_step digits bytes i (byte % 256) fits room (here (omega (arith, b, lt))) (d.right (omega (arith, a, lt)))

    bad : 256 ≤ byte → bits < 256 → pairs_of digits ≡ None
    bad le lt =
        decode_none digits bytes i fits (sym (pair_large (slice_index digits (2 * i)) (slice_index digits (2 * i + 1)) (omega (arith, is, le)))) (d.right lt)

    wrong : 256 ≤ bit_or bits byte → pairs_of digits ≡ None
    wrong le = elim (cases_lt bits 256) [ inl below ↦ elim (cases_lt byte 256) [ inl small ↦ let lt = or_of_8 bits byte below small in absurd (omega (arith, le, lt)) | inr large ↦ bad large below ] | inr above ↦ d.wrong above ]

pub decoding_done : (digits bytes : List ℕ) (i bits : ℕ) → length bytes ≤ i → length digits ≤ 2 * i → Decoding digits bytes i bits
    → pairs_of digits ≡ cond (ltb bits 256) (Some bytes) None
decoding_done digits bytes i bits all fits d = cases (ltb bits 256) refl
  where
    cases : (b : Bool) → ltb bits 256 ≡ b → pairs_of digits ≡ cond b (Some bytes) None
    cases true e = decode_done digits bytes i all fits (d.right (ltb-true bits 256 e))
    cases false e = d.wrong (ltb-false bits 256 e)

-- an odd number of digits is no bytes
pub odd_none : (digits : List ℕ) → length digits % 2 ≢ 0 → None ≡ pairs_of digits
odd_none digits odd = cases (pairs_of digits) refl
  where
    cases : (o : Option (List ℕ)) → pairs_of digits ≡ o → None ≡ o
    cases None e = refl
    cases (Some bytes) e =
        absurd (let p = pairs_read digits bytes e in let l = ap length (sym p.written) ∙ length-encode_with lower_digits bytes in odd (omega arith))
