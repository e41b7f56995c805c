-- Settings that are entered: the interfaces by number.
use Rattle.std.proofs.Common.{◌≡◌, ℕ, ◌+◌, ◌<◌, ◌==◌, ◌&&◌, ◌||◌, not, Bool, true, false, List, [], ◌∷◌, ◌++◌, refl, ap, sym, ◌∙◌, length, map, get_or, arith, inl, inr}
use Rattle.std.specs.Prelude.{slice_set}
use Rattle.std.proofs.lemmas.List.{append-nil}
use Rattle.std.proofs.lemmas.Bool.{cases_eq, cases_lt}
use Rattle.std.proofs.lemmas.Bool.Decides.{nat_tests}
use Rattle.std.proofs.lemmas.List.{get_or-append-add, get_or-map, get_or-set_other, get_or_append_left, get_or_default, length-map, length-set, map-append, map-set}
use Rattle.std.proofs.Math.Seq.{map-set_same}
use Rattle.std.proofs.lemmas.Grind.{get_or-set_at}
use lib.ListN.{get_or-eq_default}
use Rattle.usb_fields.specs.Marks.{is_marked, marked, unmarked}
use Rattle.usb_fields.proofs.Cells.{funext}
use Rattle.usb_file_data.specs.inside.Interfaces.{AreFound, Entered, InterfaceTable, with_interface, begun, entries, first_of, kept, pair_too, with_alternate, place_of}
use Rattle.usb_file_data.specs.Places.{when}
use Rattle.usb_file_data.specs.declared.interfaces.Interface.{Interface}

-- the numbers of the interfaces have each of these at its place
abbrev pub IsFound : List ℕ → List ℕ → (ℕ → Bool) → Type 0
IsFound numbers places stands = (n : ℕ) → stands n ≡ true → get_or numbers (place_of places n) (n + 1) ≡ n

-- a place at which a number is lies within
pub within : (numbers : List ℕ) (place n : ℕ) → get_or numbers place (n + 1) ≡ n → place < length numbers
within numbers place n is =
    elim (cases_lt place (length numbers)) [
      | inl below ↦ below
      | inr above ↦ let none = get_or-eq_default numbers (n + 1) above in absurd (omega (arith, is, none))
    ]

-- two numbers are at two places
apart : (numbers : List ℕ) (p q n m : ℕ) → get_or numbers p (n + 1) ≡ n → get_or numbers q (m + 1) ≡ m → q ≡ p → m ≡ n
apart numbers p q n m is other same =
    let here = get_or_default numbers p (m + 1) (n + 1) (within numbers p n is) in
    sym other ∙ ap (λ i. get_or numbers i (m + 1)) same ∙ here ∙ is

-- ---- an alternate more

pair_same : (n a m b : ℕ) (old : Bool) → m ≡ n → marked (λ c. old) a b ≡ (((n == m) && (a == b)) || old)
unfolding marked
pair_same n a m b old same = grind (arith, nat_tests)

pair_other : (n a m b : ℕ) (old : Bool) → (m ≡ n → ⊥) → old ≡ (((n == m) && (a == b)) || old)
pair_other n a m b old other = grind (arith, nat_tests)

marked_at : (marks : ℕ → Bool) (a b : ℕ) → marked marks a b ≡ marked (λ c. marks b) a b
unfolding marked
marked_at marks a b = refl

row_more : (numbers : List ℕ) (rows : List (List ℕ)) (places : List ℕ) (stands : ℕ → Bool) (n a : ℕ) (row : List ℕ)
    → length rows ≡ length numbers → IsFound numbers places stands → stands n ≡ true
    → is_marked row ≡ marked (is_marked (get_or rows (place_of places n) [])) a
    → (m b : ℕ) (there : Bool) → stands m ≡ there
    → (there && is_marked (get_or (slice_set rows (place_of places n) row) (place_of places m) []) b)
    ≡ (((n == m) && (a == b)) || (there && is_marked (get_or rows (place_of places m) []) b))
row_more numbers rows places stands n a row long found here more m b false none =
    let other : m ≡ n → ⊥ = λ same. absurd (let e : true ≡ false = sym here ∙ ap stands (sym same) ∙ none in cc) in
    pair_other n a m b false other
row_more numbers rows places stands n a row long found here more m b true there =
    let p = place_of places n in
    let old = is_marked (get_or rows (place_of places m) []) b in
    elim (cases_eq m n) [
      | inl same ↦
          let at : place_of places m ≡ p = ap (place_of places) same in
          ap (λ r. is_marked r b) (get_or-set_at rows p (place_of places m) row [] at (omega (arith, long, within numbers p n (found n here))))
          ∙ ap (λ marks. marks b) more ∙ marked_at (is_marked (get_or rows p [])) a b
          ∙ ap (λ i. marked (λ c. is_marked (get_or rows i []) b) a b) (sym at)
          ∙ pair_same n a m b old same
      | inr other ↦
          let far : place_of places m ≡ p → ⊥ = λ same. other (apart numbers p (place_of places m) n m (found n here) (found m there) same) in
          ap (λ r. is_marked r b) (get_or-set_other rows p (place_of places m) row [] far) ∙ pair_other n a m b old other
    ]

pub rows_more : (numbers : List ℕ) (rows : List (List ℕ)) (places : List ℕ) (stands : ℕ → Bool) (n a : ℕ) (row : List ℕ)
    → length rows ≡ length numbers → IsFound numbers places stands → stands n ≡ true
    → is_marked row ≡ marked (is_marked (get_or rows (place_of places n) [])) a
    → (λ m b. stands m && is_marked (get_or (slice_set rows (place_of places n) row) (place_of places m) []) b)
    ≡ pair_too n a (λ m b. stands m && is_marked (get_or rows (place_of places m) []) b)
unfolding pair_too
rows_more numbers rows places stands n a row long found here more =
    funext _ _ (λ m. funext _ _ (λ b. row_more numbers rows places stands n a row long found here more m b (stands m) refl))

-- ---- an interface more

marked_same : (stands : ℕ → Bool) (n : ℕ) → marked stands n n ≡ true
unfolding marked
marked_same stands n = grind (arith, nat_tests)

marked_other : (stands : ℕ → Bool) (n m : ℕ) → (m ≡ n → ⊥) → marked stands n m ≡ stands m
unfolding marked
marked_other stands n m other = grind (arith, nat_tests)

pub found_more : (numbers places : List ℕ) (stands : ℕ → Bool) (n : ℕ) → IsFound numbers places stands → n < length places
    → IsFound (numbers ++ n ∷ []) (slice_set places n (length numbers)) (marked stands n)
found_more numbers places stands n found small m there =
    elim (cases_eq m n) [
      | inl same ↦
          let at : place_of (slice_set places n (length numbers)) m ≡ length numbers + 0 =
          get_or-set_at places n m (length numbers) 0 same small ∙ (let e : length numbers ≡ length numbers + 0 = omega arith in e) in
          ap (λ i. get_or (numbers ++ n ∷ []) i (m + 1)) at ∙ get_or-append-add numbers (n ∷ []) 0 (m + 1) ∙ sym same
      | inr other ↦
          let is = found m (sym (marked_other stands n m other) ∙ there) in
          let at : place_of (slice_set places n (length numbers)) m ≡ place_of places m = get_or-set_other places n m (length numbers) 0 other in
          ap (λ i. get_or (numbers ++ n ∷ []) i (m + 1)) at
          ∙ get_or_append_left numbers (n ∷ []) (m + 1) (place_of places m) (within numbers (place_of places m) m is) ∙ is
    ]

kept_in : (numbers : List ℕ) (rows : List (List ℕ)) (place m : ℕ) (row : List ℕ) (b : ℕ) → length rows ≡ length numbers
    → (there : Bool) → (there ≡ true → get_or numbers place (m + 1) ≡ m)
    → (there && is_marked (get_or (rows ++ row ∷ []) place []) b) ≡ (there && is_marked (get_or rows place []) b)
kept_in numbers rows place m row b long false found = refl
kept_in numbers rows place m row b long true found =
    ap (λ r. is_marked r b) (get_or_append_left rows (row ∷ []) [] place (omega (arith, long, within numbers place m (found refl))))

row_kept : (numbers : List ℕ) (rows : List (List ℕ)) (places : List ℕ) (stands : ℕ → Bool) (n : ℕ) (row : List ℕ)
    → length rows ≡ length numbers → IsFound numbers places stands → stands n ≡ false → is_marked row ≡ unmarked → n < length places
    → (m b : ℕ) → (marked stands n m && is_marked (get_or (rows ++ row ∷ []) (place_of (slice_set places n (length rows)) m) []) b)
    ≡ (stands m && is_marked (get_or rows (place_of places m) []) b)
row_kept numbers rows places stands n row long found new none small m b =
    let places' = slice_set places n (length rows) in
    elim (cases_eq m n) [
      | inl same ↦
          let at : place_of places' m ≡ length rows + 0 =
          get_or-set_at places n m (length rows) 0 same small ∙ (let e : length rows ≡ length rows + 0 = omega arith in e) in
          ap (λ t. t && is_marked (get_or (rows ++ row ∷ []) (place_of places' m) []) b) (ap (marked stands n) same ∙ marked_same stands n)
          ∙ ap (λ i. is_marked (get_or (rows ++ row ∷ []) i []) b) at ∙ ap (λ r. is_marked r b) (get_or-append-add rows (row ∷ []) 0 [])
          ∙ ap (λ marks. marks b) none
          ∙ ap (λ t. t && is_marked (get_or rows (place_of places m) []) b) (sym (ap stands same ∙ new))
      | inr other ↦
          ap (λ t. t && is_marked (get_or (rows ++ row ∷ []) (place_of places' m) []) b) (marked_other stands n m other)
          ∙ ap (λ i. stands m && is_marked (get_or (rows ++ row ∷ []) i []) b) (get_or-set_other places n m (length rows) 0 other)
          ∙ kept_in numbers rows (place_of places m) m row b long (stands m) (found m)
    ]

pub rows_kept : (numbers : List ℕ) (rows : List (List ℕ)) (places : List ℕ) (stands : ℕ → Bool) (n : ℕ) (row : List ℕ)
    → length rows ≡ length numbers → IsFound numbers places stands → stands n ≡ false → is_marked row ≡ unmarked → n < length places
    → ◌≡◌ {A = ℕ → ℕ → Bool} (λ m b. marked stands n m && is_marked (get_or (rows ++ row ∷ []) (place_of (slice_set places n (length rows)) m) []) b)
    (λ m b. stands m && is_marked (get_or rows (place_of places m) []) b)
rows_kept numbers rows places stands n row long found new none small =
    funext _ _ (λ m. funext _ _ (λ b. row_kept numbers rows places stands n row long found new none small m b))

-- ---- a number that is there already

marked_again : (stands : ℕ → Bool) (n k : ℕ) → stands n ≡ true → marked stands n k ≡ stands k
marked_again stands n k there =
    elim (cases_eq k n) [
      | inl same ↦ ap (marked stands n) same ∙ marked_same stands n ∙ sym there ∙ ap stands (sym same)
      | inr other ↦ marked_other stands n k other
    ]

pub stands_again : (stands : ℕ → Bool) (n : ℕ) → stands n ≡ true → marked stands n ≡ stands
stands_again stands n there = funext _ _ (λ k. marked_again stands n k there)

pub stands_now : (stands : ℕ → Bool) (n : ℕ) → marked stands n n ≡ true
stands_now = marked_same

-- ---- the fields

-- what an interface at a place says of its alternates
pub row_of : (list : List Interface) (place : ℕ) (i : Interface) → place < length list → i ≡ get_or list place i
    → get_or (map (λ x. x.alternates) list) place [] ≡ i.alternates
row_of list place i small is = get_or-map (λ x. x.alternates) list place i [] small ∙ ap (λ x. x.alternates) (sym is)

-- the interface of a number that is there lies within the list
pub within_list : (t : InterfaceTable) (n : ℕ) → AreFound t → is_marked t.marks n ≡ true → place_of t.places n < length t.list
within_list t n sound there = omega (arith, within (map (λ i. i.number) t.list) (place_of t.places n) n (sound.found n there), length-map t.list (λ i. i.number))

-- an interface with one alternate more in the place of another
abbrev pub IsRowMore : Interface → Interface → ℕ → Type 0
IsRowMore i old a = (i.number ≡ old.number) × (i.first ≡ old.first) × (is_marked i.alternates ≡ marked (is_marked old.alternates) a)

pub found_paired : (t : InterfaceTable) (place a : ℕ) (i old : Interface) → AreFound t → old ≡ get_or t.list place old → IsRowMore i old a
    → AreFound (record { list = slice_set t.list place i; places = t.places; marks = t.marks })
found_paired t place a i old sound is more =
    let numbers : map (λ x. x.number) (slice_set t.list place i) ≡ map (λ x. x.number) t.list =
    map-set_same (λ x. x.number) t.list place i old (more.0 ∙ ap (λ x. x.number) is) in
    record {
      room = sound.room;
      found = λ m there. ap (λ ns. get_or ns (place_of t.places m) (m + 1)) numbers ∙ sound.found m there;
    }

pub kept_paired : (t : InterfaceTable) (n a place : ℕ) (i old : Interface) → AreFound t → is_marked t.marks n ≡ true → place ≡ place_of t.places n
    → old ≡ get_or t.list place old → IsRowMore i old a
    → kept (record { list = slice_set t.list place i; places = t.places; marks = t.marks }) ≡ with_alternate n a (kept t)
unfolding kept
kept_paired t n a place i old sound there at is more =
    let stands = is_marked t.marks in
    let rows = map (λ x. x.alternates) t.list in
    let firsts : map first_of (slice_set t.list place i) ≡ map first_of t.list =
    map-set_same first_of t.list place i old (ap (λ k. (k, i.first)) more.0 ∙ ap (λ k. (old.number, k)) more.1 ∙ ap first_of is) in
    let small : place < length t.list = omega (arith, at, within_list t n sound there) in
    let row = row_of t.list place old small is in
    let grown : is_marked i.alternates ≡ marked (is_marked (get_or rows (place_of t.places n) [])) a =
    more.2 ∙ ap (λ r. marked (is_marked r) a) (sym row ∙ ap (λ p. get_or rows p []) at) in
    let long : length rows ≡ length (map (λ x. x.number) t.list) = length-map t.list (λ x. x.alternates) ∙ sym (length-map t.list (λ x. x.number)) in
    ap (λ xs. entries stands xs t.places (map first_of (slice_set t.list place i))) (map-set (λ x. x.alternates) t.list place i)
    ∙ ap (entries stands (slice_set rows place i.alternates) t.places) firsts
    ∙ ap (λ p. entries stands (slice_set rows p i.alternates) t.places (map first_of t.list)) at
    ∙ ap (λ f. record { numbers = stands; alternates = f; firsts = map first_of t.list })
    (rows_more (map (λ x. x.number) t.list) rows t.places stands n a i.alternates long sound.found there grown)

-- an interface that begins
abbrev pub IsNew : Interface → ℕ → ℕ → Type 0
IsNew i n setting = (i.number ≡ n) × (i.first ≡ setting) × (is_marked i.alternates ≡ unmarked)

-- the fields with it
abbrev pub with_new : InterfaceTable → ℕ → Interface → List ℕ → InterfaceTable
with_new t n i marks = record { list = t.list ++ i ∷ []; places = slice_set t.places n (length t.list); marks = marks }

-- the fields as they are written
pub fields_are : (list new : List Interface) (places : List ℕ) (n at place : ℕ) (i : Interface) (marks : List ℕ)
    → new ≡ list ++ i ∷ [] → at ≡ n → place ≡ length list
    → ◌≡◌ {A = InterfaceTable} (record { list = list ++ i ∷ []; places = slice_set places n (length list); marks = marks }) (record { list = new; places = slice_set places at place; marks = marks })
fields_are list new places n at place i marks list_is at_is place_is = cc

pub found_begun : (t : InterfaceTable) (n setting : ℕ) (i : Interface) (marks : List ℕ) → AreFound t → n < 256 → IsNew i n setting
    → is_marked marks ≡ marked (is_marked t.marks) n → AreFound (with_new t n i marks)
found_begun t n setting i marks sound small new more =
    let numbers = map (λ x. x.number) t.list in
    let list : map (λ x. x.number) (t.list ++ i ∷ []) ≡ numbers ++ n ∷ [] = map-append (λ x. x.number) t.list (i ∷ []) ∙ ap (λ k. numbers ++ k ∷ []) new.0 in
    let long : length t.list ≡ length numbers = sym (length-map t.list (λ x. x.number)) in
    record {
      room = length-set t.places n (length t.list) ∙ sound.room;
      found = λ m there.
          ap (λ ns. get_or ns (place_of (slice_set t.places n (length t.list)) m) (m + 1)) list
          ∙ ap (λ k. get_or (numbers ++ n ∷ []) (place_of (slice_set t.places n k) m) (m + 1)) long
          ∙ found_more numbers t.places (is_marked t.marks) n sound.found (omega (arith, small, sound.room)) m (ap (λ f. f m) (sym more) ∙ there);
    }

pub kept_begun : (t : InterfaceTable) (n setting : ℕ) (i : Interface) (marks : List ℕ) → AreFound t → n < 256 → IsNew i n setting
    → is_marked marks ≡ marked (is_marked t.marks) n → is_marked t.marks n ≡ false → kept (with_new t n i marks) ≡ begun n setting (kept t)
unfolding kept
kept_begun t n setting i marks sound small new more none =
    let stands = is_marked t.marks in
    let rows = map (λ x. x.alternates) t.list in
    let places = slice_set t.places n (length t.list) in
    let first : map first_of (t.list ++ i ∷ []) ≡ map first_of t.list ++ (n, setting) ∷ [] =
    map-append first_of t.list (i ∷ []) ∙ ap (λ k. map first_of t.list ++ (k, i.first) ∷ []) new.0 ∙ ap (λ k. map first_of t.list ++ (n, k) ∷ []) new.1 in
    let long : length rows ≡ length (map (λ x. x.number) t.list) = length-map t.list (λ x. x.alternates) ∙ sym (length-map t.list (λ x. x.number)) in
    ap (λ f. entries f (map (λ x. x.alternates) (t.list ++ i ∷ [])) places (map first_of (t.list ++ i ∷ []))) more
    ∙ ap (λ xs. entries (marked stands n) xs places (map first_of (t.list ++ i ∷ []))) (map-append (λ x. x.alternates) t.list (i ∷ []))
    ∙ ap (entries (marked stands n) (rows ++ i.alternates ∷ []) places) first
    ∙ ap (λ k. entries (marked stands n) (rows ++ i.alternates ∷ []) (slice_set t.places n k) (map first_of t.list ++ (n, setting) ∷ []))
    (sym (length-map t.list (λ x. x.alternates)))
    ∙ ap (λ f. record { numbers = marked stands n; alternates = f; firsts = map first_of t.list ++ (n, setting) ∷ [] })
    (rows_kept (map (λ x. x.number) t.list) rows t.places stands n i.alternates long sound.found none new.2 (omega (arith, small, sound.room)))

-- ---- a setting that is entered

pub begun_is : (e : Entered) (n setting : ℕ) → e.numbers n ≡ false → begun n setting e ≡ with_interface n setting e
begun_is e n setting none =
    ap (λ there. record { numbers = marked e.numbers n; alternates = e.alternates; firsts = e.firsts ++ when (not there) (n, setting) }) (sym none)

pub with_interface_is : (e : Entered) (n setting : ℕ) → e.numbers n ≡ true → e ≡ with_interface n setting e
with_interface_is e n setting there =
    ap (λ f. record { numbers = f; alternates = e.alternates; firsts = e.firsts }) (sym (stands_again e.numbers n there))
    ∙ ap (λ xs. record { numbers = marked e.numbers n; alternates = e.alternates; firsts = xs }) (sym (append-nil e.firsts))
    ∙ ap (λ b. record { numbers = marked e.numbers n; alternates = e.alternates; firsts = e.firsts ++ when (not b) (n, setting) }) (sym there)
