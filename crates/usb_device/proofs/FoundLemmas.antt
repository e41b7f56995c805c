-- What is found among the pieces of a file.
use Rattle.std.proofs.Common.{◌≡◌, ℕ, zero, suc, ◌+◌, ◌*◌, ◌==◌, ◌||◌, ◌&&◌, Bool, true, false, cond, List, [], ◌∷◌, ◌++◌, length, drop, find, map, position, slice_get, Option, Some, None, refl, ap, subst, sym, ◌∙◌, arith}
use Rattle.std.specs.Prelude.{option_and_then, if◌then◌else◌}
use Rattle.std.specs.List.{list_any}
use Rattle.std.specs.Option.{option_map, option_or}
use Rattle.std.proofs.lemmas.Grind.{common_steps}
use Rattle.std.proofs.lemmas.Bool.Decides.{nat_tests}
use Rattle.std.proofs.lemmas.List.Folds.{find-append, list_any-append}
use Rattle.std.proofs.lemmas.Option.{slice_get-map}
use Rattle.usb_fields.specs.Units.{units_bytes}
use Rattle.usb_set.specs.declared.tree.Configuration.{Configuration}
use Rattle.usb_file_data.specs.declared.file.DescriptorFile.{DescriptorFile}
use Rattle.usb_file_data.specs.declared.file.Other.{Other}
use Rattle.usb_file_data.specs.declared.file.Strings.{Strings}
use Rattle.usb_fields.specs.Device.{device_bytes, qualifier_bytes}
use Rattle.usb_file_data.specs.File.{named_among, named_indices, string_indices, units_at, whole_set}
use Rattle.usb_device.specs.Descriptors.{descriptor, device_of, other_set_at, qualifier_of, set_at, string_at}
use Rattle.usb_device.specs.Images.{Piece, body_of, descriptor_in, find_in, has_key, string_in}
use Rattle.usb_device.specs.FileImages.{file_pieces, front_pieces, indexed, keyed, language_bytes, language_pieces, other_pieces, speed_pieces, string_pieces}
use Rattle.usb_device.proofs.TableLemmas.{Ascending, ascending, here, string_found, there}

-- A piece is not found where none is of its kind.

first_false : (a b : Bool) → (a || b) ≡ false → a ≡ false
first_false true b e = e
first_false false b e = refl

second_false : (a b : Bool) → (a || b) ≡ false → b ≡ false
second_false true b e = absurd (cc)
second_false false b e = e

none_of : (k i n : ℕ) (ps : List Piece) → list_any (λ p. k == p.kind) ps ≡ false → find (has_key k i n) ps ≡ None
none_of k i n [] none = refl
none_of k i n (p ∷ ps) none =
    let here : (k == p.kind) ≡ false = first_false (k == p.kind) (list_any (λ q. k == q.kind) ps) none in
    let later : list_any (λ q. k == q.kind) ps ≡ false = second_false (k == p.kind) (list_any (λ q. k == q.kind) ps) none in
    rw here (none_of k i n ps later)

or_none : (o : Option Piece) → option_or o None ≡ o
or_none None = refl
or_none (Some p) = refl

past : (k i n : ℕ) (xs ys : List Piece) → list_any (λ p. k == p.kind) xs ≡ false → find (has_key k i n) (xs ++ ys) ≡ find (has_key k i n) ys
past k i n xs ys none = find-append (has_key k i n) xs ys ∙ ap (λ o. option_or o (find (has_key k i n) ys)) (none_of k i n xs none)

before : (k i n : ℕ) (xs ys : List Piece) → list_any (λ p. k == p.kind) ys ≡ false → find (has_key k i n) (xs ++ ys) ≡ find (has_key k i n) xs
before k i n xs ys none =
    find-append (has_key k i n) xs ys ∙ ap (λ o. option_or (find (has_key k i n) xs) o) (none_of k i n ys none) ∙ or_none (find (has_key k i n) xs)

neither : (k : ℕ) (xs ys : List Piece) → list_any (λ p. k == p.kind) xs ≡ false → list_any (λ p. k == p.kind) ys ≡ false → list_any (λ p. k == p.kind) (xs ++ ys) ≡ false
neither k xs ys a b = rw (list_any-append (λ (p : Piece). k == p.kind) xs ys, a, b) refl

-- The kinds of the parts.

indexed_kind : (k kind first : ℕ) (bodies : List (List ℕ)) → (k == kind) ≡ false → list_any (λ p. k == p.kind) (indexed kind first bodies) ≡ false
unfolding indexed
indexed_kind k kind first [] differ = refl
indexed_kind k kind first (body ∷ rest) differ = rw differ (indexed_kind k kind (suc first) rest differ)

other_kinds : (k : ℕ) (o : Option Other) → (k == 6) ≡ false → (k == 7) ≡ false → list_any (λ p. k == p.kind) (other_pieces o) ≡ false
other_kinds k None a b = refl
other_kinds k (Some o) a b = rw a (indexed_kind k 7 0 (map whole_set o.sets) b)

language_kind : (k : ℕ) (named languages : List ℕ) (texts : List (List ℕ)) → (k == 128) ≡ false → list_any (λ p. k == p.kind) (language_pieces named languages texts) ≡ false
unfolding language_pieces
language_kind k named [] texts differ = refl
language_kind k named (l ∷ languages) texts differ = rw differ (language_kind k named languages (drop (length named) texts) differ)

string_kinds : (k : ℕ) (named : List ℕ) (s : Option Strings) → (k == 3) ≡ false → (k == 128) ≡ false → list_any (λ p. k == p.kind) (string_pieces named s) ≡ false
string_kinds k named None a b = refl
string_kinds k named (Some s) a b = rw a (language_kind k named s.languages s.texts b)

-- What is found in each.

zeroth : (b : Bool) (p : Piece) → option_map body_of (cond (b && true) (Some p) None) ≡ (if b then Some p.body else None)
zeroth true p = refl
zeroth false p = refl

set_found : (kind first i : ℕ) (bodies : List (List ℕ)) → option_map body_of (find (has_key kind (first + i) 0) (indexed kind first bodies)) ≡ slice_get bodies i
unfolding indexed
set_found kind first i [] = grind (arith, common_steps)
set_found kind first zero (body ∷ rest) = grind (arith, common_steps)
set_found kind first (suc i) (body ∷ rest) = let h = set_found kind (suc first) i rest in grind (arith, common_steps, h)

dropped : {X : Type 0} (n i : ℕ) (xs : List X) → slice_get (drop n xs) i ≡ slice_get xs (n + i)
dropped zero i xs = let e : 0 + i ≡ i = omega arith in rw e refl
dropped (suc n) i [] = refl
dropped (suc n) i (x ∷ xs) = let e : suc n + i ≡ suc (n + i) = omega arith in rw e (dropped n i xs)

zero_row : (n : ℕ) (column : Option ℕ) → option_map (λ c. 0 * n + c) column ≡ column
zero_row n None = refl
zero_row n (Some c) = let e : 0 * n + c ≡ c = grind arith in ap (λ k. Some k) e

next_row : (texts : List (List ℕ)) (n : ℕ) (row column : Option ℕ) →
    option_and_then (slice_get (drop n texts)) (option_and_then (λ r. option_map (λ c. r * n + c) column) row)
    ≡ option_and_then (slice_get texts) (option_and_then (λ r. option_map (λ c. r * n + c) column) (option_map suc row))
next_row texts n None column = refl
next_row texts n (Some r) None = refl
next_row texts n (Some r) (Some c) =
    let e : suc r * n + c ≡ n + (r * n + c) = grind arith in
    rw e (dropped n (r * n + c) texts)

flip : (a b : ℕ) → (a == b) ≡ (b == a)
flip a b = grind (arith, nat_tests)

-- the strings of the first language, where it is the language or another one
module _ (language l index : ℕ) (body : List ℕ) (rest : List Piece) where
  seen : (b : Bool) → (l == language) ≡ b →
      option_and_then (string_in index) (find_in (record { kind = 128; index = 0; number = l; body = body } ∷ rest) 128 0 language)
      ≡ option_and_then (string_in index) (option_map body_of (cond b (Some (record { kind = 128; index = 0; number = l; body = body })) (find (has_key 128 0 language) rest)))
  seen b is =
      ap (λ c. option_and_then (string_in index) (option_map body_of (cond c (Some (record { kind = 128; index = 0; number = l; body = body })) (find (has_key 128 0 language) rest)))) (flip language l ∙ is)

-- the units of a string by the place of its language
placed : (named languages : List ℕ) (texts : List (List ℕ)) (index language : ℕ) (o : Option ℕ) → position (λ m. m == language) languages ≡ o →
    option_map units_bytes (option_and_then (slice_get texts) (option_and_then (λ r. option_map (λ c. r * length named + c) (position (λ n. n == index) named)) o))
    ≡ option_map units_bytes (units_at (record { languages = languages; texts = texts }) named index language)
placed named languages texts index language o is =
    ap (λ p. option_map units_bytes (option_and_then (slice_get texts) (option_and_then (λ r. option_map (λ c. r * length named + c) (position (λ n. n == index) named)) p))) (sym is)

-- the named indices are in order
named_ascending : (indices : List ℕ) → Ascending 255 1 (named_among indices)
unfolding named_among
named_ascending indices = ascending (λ n. list_any (λ index. index == n) indices) 255 1

-- a string is found by its index in its language
language_found : (named languages : List ℕ) (texts : List (List ℕ)) (i language : ℕ) → Ascending 255 1 named →
    option_and_then (string_in (suc i)) (find_in (language_pieces named languages texts) 128 0 language) ≡ option_map units_bytes (units_at (record { languages = languages; texts = texts }) named (suc i) language)
unfolding language_pieces
language_found named [] texts i language in_order = refl
language_found named (l ∷ languages) texts i language in_order = by (l == language) refl (language_found named languages (drop (length named) texts) i language in_order)
  where
    by : (b : Bool) → (l == language) ≡ b →
        option_and_then (string_in (suc i)) (find_in (language_pieces named languages (drop (length named) texts)) 128 0 language) ≡ option_map units_bytes (units_at (record { languages = languages; texts = drop (length named) texts }) named (suc i) language) →
        option_and_then (string_in (suc i)) (find_in (language_pieces named (l ∷ languages) texts) 128 0 language) ≡ option_map units_bytes (units_at (record { languages = l ∷ languages; texts = texts }) named (suc i) language)
    by true is later =
        seen language l (suc i) (language_bytes named texts) (language_pieces named languages (drop (length named) texts)) true is
        ∙ string_found named texts i in_order
        ∙ ap (λ o. option_map units_bytes (option_and_then (slice_get texts) o)) (sym (zero_row (length named) (position (λ n. n == suc i) named)))
        ∙ placed named (l ∷ languages) texts (suc i) language (Some 0) (here (λ m. m == language) l languages is)
    by false is later =
        seen language l (suc i) (language_bytes named texts) (language_pieces named languages (drop (length named) texts)) false is
        ∙ later
        ∙ ap (λ o. option_map units_bytes o) (next_row texts (length named) (position (λ m. m == language) languages) (position (λ n. n == suc i) named))
        ∙ placed named (l ∷ languages) texts (suc i) language (option_map suc (position (λ m. m == language) languages)) (there (λ m. m == language) l languages is)

-- What is found in all of them.

by_index : (kind index : ℕ) (f : DescriptorFile) (sets : List Configuration) → option_map body_of (find (has_key kind index 0) (indexed kind 0 (map whole_set sets))) ≡ set_at sets index
by_index kind index f sets =
    let e : 0 + index ≡ index = omega arith in
    subst (λ i. option_map body_of (find (has_key kind i 0) (indexed kind 0 (map whole_set sets))) ≡ slice_get (map whole_set sets) index) e (set_found kind 0 index (map whole_set sets))
    ∙ slice_get-map whole_set sets index

in_qualifier : (o : Option Other) (index : ℕ) → find_in (other_pieces o) 6 index 0 ≡ qualifier_of o index
in_qualifier None index = refl
in_qualifier (Some o) index =
    ap (λ z. option_map body_of (cond ((index == 0) && true) (Some (keyed 6 0 (qualifier_bytes o.qualifier))) z)) (none_of 6 index 0 (indexed 7 0 (map whole_set o.sets)) (indexed_kind 6 7 0 (map whole_set o.sets) refl))
    ∙ zeroth (index == 0) (keyed 6 0 (qualifier_bytes o.qualifier))

in_others : (f : DescriptorFile) (o : Option Other) (index : ℕ) → find_in (other_pieces o) 7 index 0 ≡ other_set_at o index
in_others f None index = refl
in_others f (Some o) index = by_index 7 index f o.sets

either : (b : Bool) (o : Option (List ℕ)) → (if b then o else o) ≡ o
either true o = refl
either false o = refl

in_strings : (named : List ℕ) (s : Option Strings) (index language : ℕ) → Ascending 255 1 named →
    (if index == 0 then find_in (string_pieces named s) 3 0 0 else option_and_then (string_in index) (find_in (string_pieces named s) 128 0 language)) ≡ string_at s named index language
in_strings named None index language in_order = either (index == 0) None
in_strings named (Some s) zero language in_order = refl
in_strings named (Some s) (suc i) language in_order =
    let other : (suc i == 0) ≡ false = grind (arith, nat_tests) in rw other (language_found named s.languages s.texts i language in_order)

module _ (f : DescriptorFile) where
  sets : List Piece
  sets = indexed 2 0 (map whole_set f.sets)

  strings : List Piece
  strings = string_pieces (named_indices f) f.strings

  no_set : (k : ℕ) → (k == 2) ≡ false → (k == 6) ≡ false → (k == 7) ≡ false → list_any (λ p. k == p.kind) (sets ++ other_pieces f.other) ≡ false
  unfolding sets
  no_set k a b c = neither k sets (other_pieces f.other) (indexed_kind k 2 0 (map whole_set f.sets) a) (other_kinds k f.other b c)

  -- by type and index, where it isn't a string
  in_speeds : (k index : ℕ) → (k == 3) ≡ false → (k == 128) ≡ false → find_in (file_pieces f) k index 0 ≡ find_in (speed_pieces f) k index 0
  in_speeds k index a b = ap (option_map body_of) (before k index 0 (speed_pieces f) (string_pieces (named_indices f) f.strings) (string_kinds k (named_indices f) f.strings a b))

  in_sets : (k index : ℕ) → list_any (λ p. k == p.kind) (front_pieces f) ≡ false → find_in (speed_pieces f) k index 0 ≡ find_in (sets ++ other_pieces f.other) k index 0
  unfolding sets
  in_sets k index none = ap (option_map body_of) (past k index 0 (front_pieces f) (sets ++ other_pieces f.other) none)

  in_second : (k index : ℕ) → (k == 2) ≡ false → find_in (sets ++ other_pieces f.other) k index 0 ≡ find_in (other_pieces f.other) k index 0
  unfolding sets
  in_second k index a = ap (option_map body_of) (past k index 0 sets (other_pieces f.other) (indexed_kind k 2 0 (map whole_set f.sets) a))

  in_texts : (k n : ℕ) → list_any (λ p. k == p.kind) (front_pieces f) ≡ false → (k == 2) ≡ false → (k == 6) ≡ false → (k == 7) ≡ false → find_in (file_pieces f) k 0 n ≡ find_in strings k 0 n
  unfolding sets strings
  in_texts k n front a b c = ap (option_map body_of) (past k 0 n (speed_pieces f) strings (neither k (front_pieces f) (sets ++ other_pieces f.other) front (no_set k a b c)))

  offers_device : (index : ℕ) → find_in (file_pieces f) 1 index 0 ≡ device_of f index
  unfolding sets
  offers_device index =
      in_speeds 1 index refl refl
      ∙ ap (option_map body_of) (before 1 index 0 (front_pieces f) (sets ++ other_pieces f.other) (no_set 1 refl refl refl))
      ∙ zeroth (index == 0) (keyed 1 0 (device_bytes f.device))

  offers_set : (index : ℕ) → find_in (file_pieces f) 2 index 0 ≡ set_at f.sets index
  unfolding sets
  offers_set index =
      in_speeds 2 index refl refl
      ∙ in_sets 2 index refl
      ∙ ap (option_map body_of) (before 2 index 0 sets (other_pieces f.other) (other_kinds 2 f.other refl refl))
      ∙ by_index 2 index f f.sets

  offers_qualifier : (index : ℕ) → find_in (file_pieces f) 6 index 0 ≡ qualifier_of f.other index
  offers_qualifier index = in_speeds 6 index refl refl ∙ in_sets 6 index refl ∙ in_second 6 index refl ∙ in_qualifier f.other index

  offers_other_set : (index : ℕ) → find_in (file_pieces f) 7 index 0 ≡ other_set_at f.other index
  offers_other_set index = in_speeds 7 index refl refl ∙ in_sets 7 index refl ∙ in_second 7 index refl ∙ in_others f f.other index

  offers_string : (index language : ℕ) → (if index == 0 then find_in (file_pieces f) 3 0 0 else option_and_then (string_in index) (find_in (file_pieces f) 128 0 language)) ≡ string_at f.strings (named_indices f) index language
  unfolding strings
  offers_string index language =
      ap (λ o. if index == 0 then o else option_and_then (string_in index) (find_in (file_pieces f) 128 0 language)) (in_texts 3 0 refl refl refl refl)
      ∙ ap (λ o. if index == 0 then find_in strings 3 0 0 else option_and_then (string_in index) o) (in_texts 128 language refl refl refl refl)
      ∙ in_strings (named_indices f) f.strings index language (named_ascending (string_indices f))

  pub offers_descriptor : (kind index language : ℕ) → descriptor_in (file_pieces f) kind index language ≡ descriptor f kind index language
  offers_descriptor kind index language = λ i.
      if kind == 1 then offers_device index i
      else if kind == 2 then offers_set index i
      else if kind == 3 then offers_string index language i
      else if kind == 6 then offers_qualifier index i
      else if kind == 7 then offers_other_set index i
      else None
