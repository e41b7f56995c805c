-- The table of the strings of a language is read as it was written.
use Rattle.std.proofs.Common.{◌≡◌, ℕ, zero, suc, ◌+◌, ◌-◌, ◌*◌, ◌<◌, ◌≤◌, ◌==◌, Bool, true, false, cond, List, [], ◌∷◌, ◌++◌, length, take, drop, get_or, position, nat_lt, slice_get, length-append, min, Option, Some, None, refl, ap, sym, ◌∙◌, arith, inl, inr, ◌⊎◌}
use Rattle.std.specs.Prelude.{option_and_then, if◌then◌else◌}
use Rattle.std.specs.List.{flat_map, filter, range_with_len}
use Rattle.std.specs.Option.{option_map}
use Rattle.std.proofs.lemmas.Grind.{common_steps}
use Rattle.std.proofs.lemmas.Bool.Decides.{nat_tests}
use Rattle.std.proofs.lemmas.List.{append_assoc}
use Rattle.usb_fields.specs.Bytes.{little_endian, little_endian_at}
use Rattle.usb_fields.specs.Units.{units_bytes}
use Rattle.usb_device.specs.Images.{bytes_between, string_in, table_bytes, strings_bytes}
use Rattle.usb_device.specs.FileImages.{language_bytes, places}
use Rattle.usb_device.proofs.LongLemmas.{drop-get}
use Rattle.usb_device.proofs.PieceLemmas.{drop_all, take_all, word_back}

-- the words of a table are read back
word_there : (k : ℕ) (ws more : List ℕ) → k < length ws → little_endian_at (flat_map little_endian ws ++ more) (2 * k) ≡ get_or ws k 0
word_there k [] more within = absurd (let no : ⊥ = omega (arith, within) in no)
word_there zero (w ∷ ws) more within = word_back w
word_there (suc k) (w ∷ ws) more within =
    let e : 2 * suc k ≡ suc (suc (2 * k)) = omega arith in
    let n : suc (suc (2 * k)) + 1 ≡ suc (suc (2 * k + 1)) = omega arith in
    rw (e, n) (word_there k ws more (omega (arith, within)))

table_long : (ws : List ℕ) → length (table_bytes ws) ≡ 2 * length ws
table_long [] = refl
table_long (w ∷ ws) = let h = table_long ws in omega (arith, h)

-- what is picked by places
abbrev picked : List ℕ → ℕ → List ℕ → Option (List ℕ)
picked ws i s = if nat_lt (suc i) (length ws) then bytes_between (get_or ws i 0) (get_or ws (suc i) 0) s else None

-- In order

abbrev pub Ascending : ℕ → ℕ → List ℕ → Type 0
Ascending n next [] = Unit {0}
Ascending zero next (index ∷ named) = ⊥
Ascending (suc n) next (index ∷ named) = (((index == next) ≡ true) × Ascending n (next + 1) named) ⊎ (((index == next) ≡ false) × Ascending n (next + 1) (index ∷ named))

at_least : (n next index : ℕ) (named : List ℕ) → Ascending n next (index ∷ named) → next ≤ index
at_least zero next index named h = absurd h
at_least (suc n) next index named (inl h) = let e = h.0 in grind (arith, nat_tests, e)
at_least (suc n) next index named (inr h) = omega (arith, at_least n (next + 1) index named h.1)

pub here : {X : Type 0} (p : X → Bool) (x : X) (xs : List X) → p x ≡ true → position p (x ∷ xs) ≡ Some 0
here p x xs is = grind (arith, common_steps, is)

pub there : {X : Type 0} (p : X → Bool) (x : X) (xs : List X) → p x ≡ false → position p (x ∷ xs) ≡ option_map suc (position p xs)
there p x xs is = grind (arith, common_steps, is)

differ : (a b : ℕ) → b < a → (a == b) ≡ false
differ a b less = grind (arith, nat_tests, less)

absent : (n next index : ℕ) (named : List ℕ) → Ascending n next named → index < next → position (λ m. m == index) named ≡ None
absent n next index [] h less = refl
absent zero next index (m ∷ named) h less = absurd h
absent (suc n) next index (m ∷ named) (inl h) less =
    there (λ k. k == index) m named (differ m index (let e = h.0 in grind (arith, nat_tests, e, less)))
    ∙ ap (option_map suc) (absent n (next + 1) index named h.1 (omega (arith, less)))
absent (suc n) next index (m ∷ named) (inr h) less = absent n (next + 1) index (m ∷ named) h.1 (omega (arith, less))

pub ascending : (p : ℕ → Bool) (n next : ℕ) → Ascending n next (filter p (range_with_len next n))
ascending p zero next = tt
ascending p (suc n) next = by (p next) (filter p (range_with_len (next + 1) n)) (ascending p n (next + 1))
  where
    by : (b : Bool) (named : List ℕ) → Ascending n (next + 1) named → Ascending (suc n) next (cond b (next ∷ named) named)
    by true named h = inl (grind (arith, nat_tests), h)
    by false [] h = tt
    by false (m ∷ named) h = inr (differ m next (omega (arith, at_least n (next + 1) m named h)), h)

-- Found.

first_place : (n next at : ℕ) (named : List ℕ) (texts : List (List ℕ)) → get_or (places n next at named texts) 0 0 ≡ at
unfolding places
first_place zero next at named texts = refl
first_place (suc n) next at [] texts = refl
first_place (suc n) next at (m ∷ named) [] = refl
first_place (suc n) next at (m ∷ named) (u ∷ texts) = refl

some_place : (n next at : ℕ) (named : List ℕ) (texts : List (List ℕ)) → 0 < length (places n next at named texts)
unfolding places
some_place zero next at named texts = omega arith
some_place (suc n) next at [] texts = omega arith
some_place (suc n) next at (m ∷ named) [] = omega arith
some_place (suc n) next at (m ∷ named) (u ∷ texts) = omega arith

moved : {X : Type 0} (x : X) (xs : List X) (o : Option ℕ) → option_and_then (slice_get (x ∷ xs)) (option_map suc o) ≡ option_and_then (slice_get xs) o
moved x xs None = refl
moved x xs (Some i) = refl

no_text : (o : Option ℕ) → option_and_then {U = List ℕ} (slice_get []) o ≡ None
no_text None = refl
no_text (Some i) = refl

-- a place and the next one
next_to : (a b : ℕ) (ws s : List ℕ) → 0 < length ws → get_or ws 0 0 ≡ b → picked (a ∷ ws) 0 s ≡ bytes_between a b s
next_to a b ws s some is = let test : nat_lt 1 (suc (length ws)) ≡ true = grind (arith, nat_tests, some) in rw (test, is) refl

at_end : (a i : ℕ) (s : List ℕ) → picked (a ∷ []) i s ≡ None
at_end a i s = let test : nat_lt (suc i) 1 ≡ false = grind (arith, nat_tests) in rw test refl

later : (a i : ℕ) (ws s : List ℕ) → picked (a ∷ ws) (suc i) s ≡ picked ws i s
later a i ws s = let test : nat_lt (suc (suc i)) (suc (length ws)) ≡ nat_lt (suc i) (length ws) = grind (arith, nat_tests) in rw test refl

first_string : (u pre more : List ℕ) → bytes_between (length pre) (length pre + length (units_bytes u)) (pre ++ (units_bytes u ++ more)) ≡ Some (units_bytes u)
first_string u pre more =
    let l = length (units_bytes u) in
    let test : nat_lt (length pre) (length pre + l) ≡ true = grind (arith, nat_tests) in
    let count : length pre + l - length pre ≡ l = omega arith in
    rw (test, count, drop_all pre (units_bytes u ++ more), take_all (units_bytes u) more) refl

no_bytes : (a : ℕ) (s : List ℕ) → bytes_between a a s ≡ None
no_bytes a s = let test : nat_lt a a ≡ false = grind (arith, nat_tests) in rw test refl

abbrev sought : ℕ → List ℕ → List (List ℕ) → Option (List ℕ)
sought index named texts = option_map units_bytes (option_and_then (slice_get texts) (position (λ m. m == index) named))

abbrev found_of : List (List ℕ) → Option ℕ → Option (List ℕ)
found_of texts o = option_map units_bytes (option_and_then (slice_get texts) o)

seen : (n next i : ℕ) (named : List ℕ) (texts : List (List ℕ)) (pre : List ℕ) → Ascending n next named →
    picked (places n next (length pre) named texts) i (pre ++ flat_map units_bytes (take (length named) texts)) ≡ sought (next + i) named texts
unfolding places
seen zero next i [] texts pre h = at_end (length pre) i _
seen zero next i (m ∷ named) texts pre h = absurd h
seen (suc n) next i [] texts pre h = at_end (length pre) i _
seen (suc n) next i (m ∷ named) [] pre h = at_end (length pre) i _ ∙ ap (option_map units_bytes) (sym (no_text (position (λ k. k == next + i) (m ∷ named))))
seen (suc n) next zero (m ∷ named) (u ∷ texts) pre (inl h) =
    let b = length pre + length (units_bytes u) in
    let is : (m == next + 0) ≡ true = (let e = h.0 in grind (arith, nat_tests, e)) in
    rw h.0
    (next_to (length pre) b (places n (next + 1) b named texts) _ (some_place n (next + 1) b named texts) (first_place n (next + 1) b named texts)
    ∙ first_string u pre _
    ∙ ap (found_of (u ∷ texts)) (sym (here (λ k. k == next + 0) m named is)))
seen (suc n) next (suc i) (m ∷ named) (u ∷ texts) pre (inl h) =
    let b = length pre + length (units_bytes u) in
    let rest = flat_map units_bytes (take (length named) texts) in
    let other : (m == next + suc i) ≡ false = (let e = h.0 in grind (arith, nat_tests, e)) in
    let on : next + 1 + i ≡ next + suc i = omega arith in
    rw h.0
    (later (length pre) i (places n (next + 1) b named texts) _
    ∙ rw (sym (append_assoc pre (units_bytes u) rest), sym (length-append pre (units_bytes u)), sym on) (seen n (next + 1) i named texts (pre ++ units_bytes u) h.1)
    ∙ ap (option_map units_bytes) (sym (moved u texts (position (λ k. k == next + suc i) named)))
    ∙ ap (found_of (u ∷ texts)) (sym (there (λ k. k == next + suc i) m named other)))
seen (suc n) next zero (m ∷ named) (u ∷ texts) pre (inr h) =
    let ws = places n (next + 1) (length pre) (m ∷ named) (u ∷ texts) in
    rw h.0
    (next_to (length pre) (length pre) ws _ (some_place n (next + 1) (length pre) (m ∷ named) (u ∷ texts)) (first_place n (next + 1) (length pre) (m ∷ named) (u ∷ texts))
    ∙ no_bytes (length pre) _
    ∙ ap (found_of (u ∷ texts)) (sym (absent n (next + 1) (next + 0) (m ∷ named) h.1 (omega arith))))
seen (suc n) next (suc i) (m ∷ named) (u ∷ texts) pre (inr h) =
    let on : next + 1 + i ≡ next + suc i = omega arith in
    rw h.0
    (later (length pre) i (places n (next + 1) (length pre) (m ∷ named) (u ∷ texts)) _
    ∙ seen n (next + 1) i (m ∷ named) (u ∷ texts) pre h.1
    ∙ ap (λ k. sought k (m ∷ named) (u ∷ texts)) on)

-- a table is read as it was written
abbrev size : List ℕ → ℕ
size ws = length (table_bytes ws)

read_table : (ws s : List ℕ) (i : ℕ) → string_in (suc i) (strings_bytes ws s) ≡ picked ws i s
read_table ws s i = rw (word_back (size ws), test) (by (nat_lt (suc i) (length ws)) refl)
  where
    test : nat_lt (2 * suc i) (size ws) ≡ nat_lt (suc i) (length ws)
    test = let long = table_long ws in grind (arith, nat_tests, long)

    by : (r : Bool) → nat_lt (suc i) (length ws) ≡ r →
        (if r then bytes_between (little_endian_at (strings_bytes ws s) (2 * suc i)) (little_endian_at (strings_bytes ws s) (2 * suc i + 2)) (drop (size ws) (table_bytes ws ++ s)) else None)
        ≡ (if r then bytes_between (get_or ws i 0) (get_or ws (suc i) 0) s else None)
    by false is = refl
    by true is =
        let in_table : suc i < length ws = grind (arith, nat_tests, is) in
        let two : 2 * suc i + 2 ≡ 2 * suc (suc i) = omega arith in
        rw (two, word_there (suc i) (size ws ∷ ws) s (omega (arith, in_table)), word_there (suc (suc i)) (size ws ∷ ws) s (omega (arith, in_table)), drop_all (table_bytes ws) s) refl

-- a string is found by its index
pub string_found : (named : List ℕ) (texts : List (List ℕ)) (i : ℕ) → Ascending 255 1 named →
    string_in (suc i) (language_bytes named texts) ≡ found_of texts (position (λ m. m == suc i) named)
string_found named texts i h =
    let on : 1 + i ≡ suc i = omega arith in
    read_table (places 255 1 0 named texts) (flat_map units_bytes (take (length named) texts)) i
    ∙ seen 255 1 i named texts [] h
    ∙ ap (λ k. sought k named texts) on

-- places, written one by one
pub place_more : (n next at i : ℕ) (named : List ℕ) (texts : List (List ℕ)) (d : ℕ) (u : List ℕ) → i < length named → i < length texts →
    places (suc n) next at (drop i named) (drop i texts) ≡ at ∷ (if get_or named i d == next
    then places n (next + 1) (at + length (units_bytes (get_or texts i u))) (drop (i + 1) named) (drop (i + 1) texts)
    else places n (next + 1) at (drop i named) (drop i texts))
unfolding places
place_more n next at i named texts d u a b = rw (drop-get i named d a, drop-get i texts u b) refl

pub last_place : (n next at i : ℕ) (named : List ℕ) (texts : List (List ℕ)) → min (length named) (length texts) ≤ i → places n next at (drop i named) (drop i texts) ≡ at ∷ []
unfolding places
last_place zero next at i named texts ends = refl
last_place (suc n) next at zero [] texts ends = refl
last_place (suc n) next at zero (m ∷ named) [] ends = refl
last_place (suc n) next at zero (m ∷ named) (u ∷ texts) ends = absurd (let no : ⊥ = omega (arith, ends) in no)
last_place (suc n) next at (suc i) [] texts ends = refl
last_place (suc n) next at (suc i) (m ∷ named) [] ends = no_place (drop i named)
  where
    no_place : (ns : List ℕ) → places (suc n) next at ns [] ≡ at ∷ []
    no_place [] = refl
    no_place (k ∷ ns) = refl
last_place (suc n) next at (suc i) (m ∷ named) (u ∷ texts) ends = last_place (suc n) next at i named texts (omega (arith, ends))

pub no_more : (n next at : ℕ) (named : List ℕ) (texts : List (List ℕ)) → n ≡ 0 → places n next at named texts ≡ at ∷ []
unfolding places
no_more n next at named texts none = rw none refl

module _ (n next at i : ℕ) (named : List ℕ) (texts : List (List ℕ)) (u old : List ℕ) (in_named : i < length named) (in_texts : i < length texts) where
  pub named_next : get_or named i 0 ≡ next →
      old ++ little_endian at ++ table_bytes (places n (next + 1) (at + length (units_bytes (get_or texts i u))) (drop (i + 1) named) (drop (i + 1) texts))
      ≡ old ++ table_bytes (places (suc n) next at (drop i named) (drop i texts))
  named_next is =
      let same : (get_or named i 0 == next) ≡ true = grind (arith, nat_tests, is) in
      append_assoc old (little_endian at) _ ∙ rw (place_more n next at i named texts 0 u in_named in_texts, same) refl

  pub other_next : (get_or named i 0 ≡ next → ⊥) →
      old ++ little_endian at ++ table_bytes (places n (next + 1) at (drop i named) (drop i texts))
      ≡ old ++ table_bytes (places (suc n) next at (drop i named) (drop i texts))
  other_next other =
      let same : (get_or named i 0 == next) ≡ false = grind (arith, nat_tests, other) in
      append_assoc old (little_endian at) _ ∙ rw (place_more n next at i named texts 0 u in_named in_texts, same) refl
