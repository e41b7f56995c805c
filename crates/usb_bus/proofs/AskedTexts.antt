-- The strings of the indices that are named by what is asked for: the device has each of them, where the host asks for it.
use Rattle.std.proofs.Common.{◌≡◌, ℕ, zero, suc, ◌+◌, ◌*◌, ◌<◌, ◌==◌, ◌||◌, Bool, true, false, if◌then◌else◌, List, [], ◌∷◌, ◌++◌, length, drop, filter, map, slice_get, Option, Some, None, refl, ap, sym, ◌∙◌, arith, subst, get_or, length-append}
use Rattle.std.specs.Prelude.{unwrap_or, slice_index, option_and_then}
use Rattle.std.specs.List.{flat_map, list_any, range_with_len}
use Rattle.std.proofs.lemmas.Bool.Decides.{nat_tests}
use Rattle.std.proofs.lemmas.List.{length-map}
use Rattle.std.proofs.lemmas.List.Folds.{list_any-append}
use Rattle.std.proofs.lemmas.Nat.{div-mul-add, mod-mul-add, mul-le}
use Rattle.std.proofs.Math.Nat.{suc-mul}
use Rattle.std.proofs.lemmas.Option.{slice_get-get_or}
use Rattle.usb_fields.specs.declared.packet.Speed.{Speed}
use Rattle.usb_file_data.specs.declared.file.DescriptorFile.{DescriptorFile}
use Rattle.usb_file_data.specs.declared.file.Other.{Other}
use Rattle.usb_file_data.specs.declared.file.Strings.{Strings}
use Rattle.usb_file_data.specs.File.{device_string_indices, is_long_string, named_among, named_indices, other_sets, set_string_indices, string_indices, string_place, units_at, units_of}
use Rattle.usb_device.specs.Accepted.{Accepted, is_among, repeats}
use Rattle.usb_host.specs.Order.{index_due, language_due}
use Rattle.usb_host.specs.Terms.{everything, is_asked}
use Rattle.usb_host.specs.declared.choice.Choice.{Choice}
use Rattle.usb_bus.specs.Asked.{asked_of, strings_of, texts_of, without_strings}
use Rattle.usb_bus.proofs.AcceptLemmas.{AreStrings, languages_apart, strings_right}
use Rattle.usb_bus.proofs.TextLemmas.{named_once, place_of, string_found}

-- ---- indices that are named by less are named by all

or_more : (a b c : Bool) → (b ≡ true → c ≡ true) → (a || b) ≡ true → (a || c) ≡ true
or_more true b c h e = refl
or_more false b c h e = h e

any_behind : {X : Type 0} (p : X → Bool) (xs ys zs : List X) → (list_any p ys ≡ true → list_any p zs ≡ true) → list_any p (xs ++ ys) ≡ true → list_any p (xs ++ zs) ≡ true
any_behind p xs ys zs h e =
    list_any-append p xs zs ∙ or_more (list_any p xs) (list_any p ys) (list_any p zs) h (sym (list_any-append p xs ys) ∙ e)

other_any : (p : ℕ → Bool) (b : Bool) (o : Option Other) →
    list_any p (flat_map set_string_indices (other_sets (if b then o else None))) ≡ true → list_any p (flat_map set_string_indices (other_sets o)) ≡ true
other_any p true o e = e
other_any p false o e = absurd (cc)

less_any : (p : ℕ → Bool) (choice : Choice) (f : DescriptorFile) → list_any p (string_indices (without_strings choice f)) ≡ true → list_any p (string_indices f) ≡ true
less_any p choice f e =
    any_behind p (device_string_indices f.device ++ flat_map set_string_indices f.sets)
    (flat_map set_string_indices (other_sets (if choice.other_speed then f.other else None))) (flat_map set_string_indices (other_sets f.other))
    (other_any p choice.other_speed f.other) e

kept_one : (a n : ℕ) (xs ys : List ℕ) (b c : Bool) → (b ≡ true → c ≡ true) → (is_among xs n ≡ true → is_among ys n ≡ true) →
    is_among (if b then a ∷ xs else xs) n ≡ true → is_among (if c then a ∷ ys else ys) n ≡ true
kept_one a n xs ys true true h more e = or_more (a == n) (is_among xs n) (is_among ys n) more e
kept_one a n xs ys true false h more e = absurd (let never = h refl in cc)
kept_one a n xs ys false true h more e = or_more (a == n) true (is_among ys n) (λ x. more e) (grind (arith, nat_tests))
kept_one a n xs ys false false h more e = more e

kept_among : (p q : ℕ → Bool) → ((n : ℕ) → p n ≡ true → q n ≡ true) → (r : List ℕ) (n : ℕ) → is_among (filter p r) n ≡ true → is_among (filter q r) n ≡ true
kept_among p q more [] n e = e
kept_among p q more (a ∷ r) n e = kept_one a n (filter p r) (filter q r) (p a) (q a) (more a) (kept_among p q more r n) e

pub among_all : (choice : Choice) (f : DescriptorFile) (n : ℕ) → is_among (named_indices (without_strings choice f)) n ≡ true → is_among (named_indices f) n ≡ true
unfolding named_among
among_all choice f n =
    kept_among (λ n. list_any (λ index. index == n) (string_indices (without_strings choice f))) (λ n. list_any (λ index. index == n) (string_indices f))
    (λ m. less_any (λ index. index == m) choice f) (range_with_len 1 255) n

-- the place of a number that is in a list, and the number at a place
place_first : (x : ℕ) (xs : List ℕ) (n : ℕ) (b : Bool) → (x == n) ≡ b → (is_among xs n ≡ true → (j : ℕ) × (j < length xs) × (get_or xs j 0 ≡ n)) →
    (b || is_among xs n) ≡ true → (j : ℕ) × (j < length (x ∷ xs)) × (get_or (x ∷ xs) j 0 ≡ n)
place_first x xs n true is more e = (0, omega arith, (let same : x ≡ n = grind (arith, nat_tests) in same))
place_first x xs n false is more e = (let (j, within, at) = more e in (suc j, omega arith, at))

place_among : (xs : List ℕ) (n : ℕ) → is_among xs n ≡ true → (j : ℕ) × (j < length xs) × (get_or xs j 0 ≡ n)
place_among [] n e = absurd (cc)
place_among (x ∷ xs) n e = place_first x xs n (x == n) refl (place_among xs n) e

among_at : (xs : List ℕ) (j : ℕ) → j < length xs → is_among xs (get_or xs j 0) ≡ true
among_at [] j within = absurd (omega arith)
among_at (x ∷ xs) zero within = grind (arith, nat_tests)
among_at (x ∷ xs) (suc j) within = (let later = among_at xs j (omega arith) in grind (arith, nat_tests))

pub at_drop : {X : Type 0} (i : ℕ) (all : List X) (c : X) (rest : List X) → drop i all ≡ c ∷ rest → slice_get all i ≡ Some c
at_drop zero [] c rest e = cc
at_drop zero (x ∷ xs) c rest e = (let same : x ≡ c = cc in ap Some same)
at_drop (suc i) [] c rest e = cc
at_drop (suc i) (x ∷ xs) c rest e = at_drop i xs c rest e

pub drop_next : {X : Type 0} (i : ℕ) (all : List X) (c : X) (rest : List X) → drop i all ≡ c ∷ rest → drop (suc i) all ≡ rest
drop_next zero [] c rest e = cc
drop_next zero (x ∷ xs) c rest e = cc
drop_next (suc i) [] c rest e = cc
drop_next (suc i) (x ∷ xs) c rest e = drop_next i xs c rest e

dropped : (xs : List ℕ) (j n : ℕ) (rest : List ℕ) → drop j xs ≡ n ∷ rest → (j < length xs) × (get_or xs j 0 ≡ n)
dropped [] zero n rest e = absurd (cc)
dropped [] (suc j) n rest e = absurd (cc)
dropped (x ∷ xs) zero n rest e = (omega arith, (let same : x ≡ n = cc in same))
dropped (x ∷ xs) (suc j) n rest e = (let (within, at) = dropped xs j n rest e in (omega arith, at))

-- ---- the strings

module _ (f : DescriptorFile) (t : Strings) where
  -- each of these strings is where it is asked for, from number k on, where these indices are named
  abbrev pub AreThere : List ℕ → ℕ → List (List ℕ) → Type 0
  AreThere named k [] = Unit {0}
  AreThere named k (u ∷ us) = (units_at t (named_indices f) (index_due named k) (language_due t.languages named k) ≡ Some u) × AreThere named (suc k) us

  -- none of them is too long
  not_long : (us : List (List ℕ)) (k : ℕ) (u : List ℕ) → list_any is_long_string us ≡ false → slice_get us k ≡ Some u → is_long_string u ≡ false
  not_long [] zero u short at = absurd (cc)
  not_long [] (suc k) u short at = absurd (cc)
  not_long (v ∷ us) zero u short at = (let same : v ≡ u = cc in subst (λ w. is_long_string w ≡ false) same (grind (arith, nat_tests)))
  not_long (v ∷ us) (suc k) u short at = not_long us k u (grind (arith, nat_tests)) at

  short_at : (place : Option ℕ) (u : List ℕ) → list_any is_long_string t.texts ≡ false → option_and_then (slice_get t.texts) place ≡ Some u → is_long_string u ≡ false
  short_at None u short at = absurd (cc)
  short_at (Some k) u short at = not_long t.texts k u short at

  pub short_there : (named : List ℕ) (k : ℕ) (us : List (List ℕ)) → list_any is_long_string t.texts ≡ false → AreThere named k us → list_any is_long_string us ≡ false
  short_there named k [] short there = refl
  short_there named k (u ∷ us) short there =
      let first = short_at (string_place t (named_indices f) (index_due named k) (language_due t.languages named k)) u short there.0 in
      let later = short_there named (suc k) us short there.1 in
      grind (arith, nat_tests)

  -- they are determined
  unique : (named : List ℕ) (k : ℕ) (us vs : List (List ℕ)) → length us ≡ length vs → AreThere named k us → AreThere named k vs → us ≡ vs
  unique named k [] [] e p q = refl
  unique named k [] (v ∷ vs) e p q = absurd (omega arith)
  unique named k (u ∷ us) [] e p q = absurd (omega arith)
  unique named k (u ∷ us) (v ∷ vs) e p q =
      let same : u ≡ v = (let found : Some u ≡ Some v = sym p.0 ∙ q.0 in cc) in
      let more : us ≡ vs = unique named (suc k) us vs (omega arith) p.1 q.1 in
      ap (λ w. w ∷ us) same ∙ ap (λ ws. v ∷ ws) more

  abbrev text : ℕ → ℕ → List ℕ
  text language index = unwrap_or (units_of f index language) []

  module _ (is : f.strings ≡ Some t) (right : AreStrings (named_indices f) t) (once : repeats t.languages ≡ false) where
    -- a string in a row and a column of the table
    in_table : (i j : ℕ) → i < length t.languages → j < length (named_indices f) →
        units_at t (named_indices f) (get_or (named_indices f) j 0) (get_or t.languages i 0) ≡ Some (get_or t.texts (i * length (named_indices f) + j) [])
    in_table i j row column =
        let named = named_indices f in
        let rows = place_of t.languages i once row in
        let columns = place_of named j (named_once (string_indices f)) column in
        let count = right.count in
        let wide = mul-le (suc i) (length named) (length t.languages) (length named) row (omega arith) in
        let next = suc-mul i (length named) in
        let below : i * length named + j < length t.texts = omega arith in
        rw (rows, columns) (slice_get-get_or t.texts (i * length named + j) [] below)

    found : (i n : ℕ) → i < length t.languages → is_among (named_indices f) n ≡ true →
        units_at t (named_indices f) n (get_or t.languages i 0) ≡ Some (text (get_or t.languages i 0) n)
    found i n row among =
        let (j, column, at) = place_among (named_indices f) n among in
        let u = get_or t.texts (i * length (named_indices f) + j) [] in
        let there : units_at t (named_indices f) n (get_or t.languages i 0) ≡ Some u =
        subst (λ m. units_at t (named_indices f) m (get_or t.languages i 0) ≡ Some u) at (in_table i j row column) in
        let same : units_of f n (get_or t.languages i 0) ≡ Some u = ap (λ o. option_and_then (λ s. units_at s (named_indices f) n (get_or t.languages i 0)) o) is ∙ there in
        there ∙ sym (ap (λ o. Some (unwrap_or o [])) same)

    module _ (named : List ℕ) (less : (n : ℕ) → is_among named n ≡ true → is_among (named_indices f) n ≡ true) where
      abbrev row_of : ℕ → List (List ℕ)
      row_of language = map (λ index. text language index) named

      -- the rest of a row, and what comes after it
      row_there : (i j : ℕ) (rest : List ℕ) (more : List (List ℕ)) → i < length t.languages → drop j named ≡ rest → j + length rest ≡ length named →
          AreThere named (suc i * length named) more →
          AreThere named (i * length named + j) (map (λ index. text (get_or t.languages i 0) index) rest ++ more)
      row_there i j [] more row at count there = subst (λ k. AreThere named k more) (let next = suc-mul i (length named) in let full : suc i * length named ≡ i * length named + j = omega arith in full) there
      row_there i j (n ∷ rest) more row at count there =
          let (column, is_n) = dropped named j n rest at in
          let l = get_or t.languages i 0 in
          let among : is_among (named_indices f) n ≡ true = less n (subst (λ m. is_among named m ≡ true) is_n (among_at named j column)) in
          let index : index_due named (i * length named + j) ≡ n = ap (λ k. slice_index named k) (mod-mul-add i (length named) j column) ∙ is_n in
          let language : language_due t.languages named (i * length named + j) ≡ l = ap (λ k. slice_index t.languages k) (div-mul-add i (length named) j column) in
          let here : units_at t (named_indices f) (index_due named (i * length named + j)) (language_due t.languages named (i * length named + j)) ≡ Some (text l n) =
          ap (λ m. units_at t (named_indices f) m (language_due t.languages named (i * length named + j))) index
          ∙ ap (λ m. units_at t (named_indices f) n m) language ∙ found i n row among in (
            here,
            subst (λ k. AreThere named k (map (λ index. text l index) rest ++ more)) (let step : i * length named + suc j ≡ suc (i * length named + j) = omega arith in step)
                (row_there i (suc j) rest more row (drop_next j named n rest at) (omega arith) there),
          )

      rows_there : (i : ℕ) (rest : List ℕ) → drop i t.languages ≡ rest → AreThere named (i * length named) (flat_map (λ language. row_of language) rest)
      rows_there i [] at = tt
      rows_there i (l ∷ rest) at =
          let (row, is_l) = dropped t.languages i l rest at in
          let more = flat_map (λ language. row_of language) rest in
          let whole = row_there i 0 named more row refl (omega arith) (rows_there (suc i) rest (drop_next i t.languages l rest at)) in
          subst (λ k. AreThere named k (row_of l ++ more)) (let none : i * length named + 0 ≡ i * length named = omega arith in none)
          (subst (λ m. AreThere named (i * length named + 0) (map (λ index. text m index) named ++ more)) is_l whole)

      pub texts_there : AreThere named 0 (texts_of f named t.languages)
      texts_there =
          subst (λ k. AreThere named k (texts_of f named t.languages)) (let none : 0 * length named ≡ 0 = omega arith in none) (rows_there 0 t.languages refl)

      rows_count : (ls : List ℕ) → length (flat_map (λ language. row_of language) ls) ≡ length ls * length named
      rows_count [] = (let none : 0 ≡ 0 * length named = omega arith in none)
      rows_count (l ∷ ls) =
          let size = length-append (row_of l) (flat_map (λ language. row_of language) ls) in
          let first = length-map named (λ index. text l index) in
          let more = rows_count ls in
          let next = suc-mul (length ls) (length named) in
          omega arith

      pub texts_count : length (texts_of f named t.languages) ≡ length t.languages * length named
      texts_count = rows_count t.languages

    -- the device's own strings stand there too
    own_there : (k : ℕ) (ts : List (List ℕ)) → drop k t.texts ≡ ts → k + length ts ≡ length t.texts → AreThere (named_indices f) k ts
    own_there k [] at count = tt
    own_there k (u ∷ ts) at count =
        let some = right.some_named in
        let pos : 0 < length (named_indices f) = grind (arith, nat_tests) in
        let all = right.count in (
          string_found t (named_indices f) k u once (named_once (string_indices f)) pos (omega arith) (at_drop k t.texts u ts at),
          own_there (suc k) ts (drop_next k t.texts u ts at) (omega arith),
        )

    pub own_texts : texts_of f (named_indices f) t.languages ≡ t.texts
    own_texts =
        let count = right.count in
        unique (named_indices f) 0 (texts_of f (named_indices f) t.languages) t.texts (texts_count (named_indices f) (λ n e. e) ∙ sym count)
        (texts_there (named_indices f) (λ n e. e)) (own_there 0 t.texts refl (omega arith))

-- ---- where strings are read, these are the device's

picked : (f : DescriptorFile) (named : List ℕ) (o : Option Strings) (u : Strings) → strings_of f named o ≡ Some u →
    (t : Strings) × (o ≡ Some t) × (u.languages ≡ t.languages) × (u.texts ≡ texts_of f named t.languages) × ((length named == 0) ≡ false)
picked f named None u e = absurd (cc)
picked f [] (Some t) u e = absurd (cc)
picked f (n ∷ named) (Some t) u e =
    let same : record { languages = t.languages; texts = texts_of f (n ∷ named) t.languages } ≡ u = cc in
    (t, refl, ap (λ s. s.languages) (sym same), ap (λ s. s.texts) (sym same), (let some : (length (n ∷ named) == 0) ≡ false = grind (arith, nat_tests) in some))

pub strings_from : (choice : Choice) (f : DescriptorFile) (u : Strings) → (asked_of choice f).strings ≡ Some u →
    (let named = named_indices (without_strings choice f) in
    (t : Strings) × (f.strings ≡ Some t) × (u.languages ≡ t.languages) × (u.texts ≡ texts_of f named t.languages) × ((length named == 0) ≡ false))
strings_from choice f u e = by_choice (is_asked choice.strings) e
  where
    by_choice : (b : Bool) → (if b then strings_of f (named_indices (without_strings choice f)) f.strings else None) ≡ Some u →
        (let named = named_indices (without_strings choice f) in
        (t : Strings) × (f.strings ≡ Some t) × (u.languages ≡ t.languages) × (u.texts ≡ texts_of f named t.languages) × ((length named == 0) ≡ false))
    by_choice true e = picked f (named_indices (without_strings choice f)) f.strings u e
    by_choice false e = absurd (cc)

-- ---- where all is asked for

same_strings : (f : DescriptorFile) (o : Option Strings) (named : List ℕ) → f.strings ≡ o → named_indices f ≡ named →
    ((t : Strings) → f.strings ≡ Some t → AreStrings (named_indices f) t × (repeats t.languages ≡ false)) → strings_of f named o ≡ o
same_strings f None named is at h = refl
same_strings f (Some t) [] is at h = (let some = (h t is).0.some_named in absurd (let none = ap (λ xs. length xs == 0) at in cc))
same_strings f (Some t) (n ∷ named) is at h =
    let (right, once) = h t is in
    let same : texts_of f (n ∷ named) t.languages ≡ t.texts = ap (λ xs. texts_of f xs t.languages) (sym at) ∙ own_texts f t is right once in
    ap (λ ts. Some (record t { texts = ts })) same

pub all_asked : (f : DescriptorFile) (speed : Speed) → Accepted f speed → asked_of everything f ≡ f
all_asked f speed a =
    ap (λ s. record f { strings = s })
    (same_strings f f.strings (named_indices f) refl refl (λ t e. (strings_right f t a.strings e, languages_apart f t a.strings e)))
