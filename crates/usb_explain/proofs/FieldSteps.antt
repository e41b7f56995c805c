-- The fields that are left, one by one.
use Rattle.std.proofs.Common.{◌≡◌, ◌≤◌, ◌<◌, ℕ, zero, suc, ◌+◌, ◌-◌, ◌*◌, ◌/◌, ◌%◌, ◌==◌, nat_lt, nat_le, Bool, true, false, ◌&&◌, List, [], ◌∷◌, ◌++◌, append_assoc, append-nil, drop, get_or, length, map, take, refl, sym, ap, ap₂, ◌∙◌, arith, length-drop}
use Rattle.std.proofs.lemmas.Bool.{and_parts}
use Rattle.std.proofs.lemmas.Bool.Decides.{nat_tests}
use Rattle.std.proofs.lemmas.List.{nil_from_length}
use Rattle.std.proofs.lemmas.Nat.{div-add-mod', div-mul-add}
use Rattle.std.specs.Borrow.{Bor}
use Rattle.std.specs.Prelude.{MatchOption, Option}
use Rattle.usb_names.specs.declared.field.ClassField.{ClassField}
use Rattle.usb_names.specs.declared.field.Form.TheVariants.{Bytes}
use Rattle.usb_names.specs.Shown.{Field, field_of}
use Rattle.usb_explain.specs.declared.fields.Lists.{Lists}
use Rattle.usb_explain.specs.declared.fields.Piece.{Piece}
use Rattle.usb_explain.specs.Fields.{PlacedField, fields_in_bytes, groups_in, left_over, placed, repeated}
use Rattle.usb_explain.specs.Layouts.{Layout, field_in, group_count, width_of}
use Rattle.usb_explain.specs.inside.FieldsLeft.{layout_left, left_in, no_layout, piece_of}

-- where all of these are there, they come first
pub all_there : (fields group : List Field) (rest : List ℕ) (n : ℕ) → width_of fields ≤ n
    → fields_in_bytes fields group rest n ≡ fields ++ groups_in group rest (n - width_of fields)
unfolding fields_in_bytes
all_there [] group rest n h = ap (groups_in group rest) (omega arith)
all_there (field ∷ fields) group rest n h =
    let enough : nat_lt n field.width ≡ false = grind (arith, nat_tests) in
    let less : n - field.width - width_of fields ≡ n - (field.width + width_of fields) = omega arith in
    rw enough (ap (λ more. field ∷ more) (all_there fields group rest (n - field.width) (omega arith) ∙ ap (λ k. fields ++ groups_in group rest k) less))

-- a group more fits into this many bytes more
count_more : (w n : ℕ) → 0 < w → w ≤ n → group_count w n ≡ suc (group_count w (n - w))
count_more w n some enough =
    let a = (n - w) / w in
    let b = (n - w) % w in
    let whole : a * w + b ≡ n - w = div-add-mod' (n - w) w in
    let more : n ≡ (a + 1) * w + b = grind (arith, whole) in
    let below : b < w = omega arith in
    let division : n / w ≡ a + 1 = ap (λ k. k / w) more ∙ div-mul-add (a + 1) w b below in
    let some_width : (w == 0) ≡ false = grind (arith, nat_tests) in
    rw some_width (division ∙ omega arith)

-- what a group more leaves
less_left : (w n k : ℕ) → w ≤ n → n - suc k * w ≡ n - w - k * w
less_left w n k enough = grind arith

-- a group, and then those behind it
pub once_more : (group : List Field) (rest : List ℕ) (n : ℕ) → 0 < width_of group → width_of group ≤ n
    → groups_in group rest n ≡ group ++ groups_in group rest (n - width_of group)
once_more group rest n some enough =
    let w = width_of group in
    let k = group_count w (n - w) in
    ap (λ count. repeated count group ++ left_over rest (n - count * w)) (count_more w n some enough)
    ∙ append_assoc group (repeated k group) (left_over rest (n - suc k * w))
    ∙ ap (λ left. group ++ (repeated k group ++ left_over rest left)) (less_left w n k enough)

-- where a group is there, its fields come next
pub begins : (group : List Field) (rest : List ℕ) (n : ℕ) → 0 < width_of group → width_of group ≤ n
    → fields_in_bytes group group rest n ≡ fields_in_bytes [] group rest n
unfolding fields_in_bytes
begins group rest n some enough = all_there group group rest n enough ∙ sym (once_more group rest n some enough)

none_fit : (w n : ℕ) → n < w → group_count w n ≡ 0
none_fit w n less =
    let some_width : (w == 0) ≡ false = grind (arith, nat_tests) in
    let same : n ≡ 0 * w + n = omega arith in
    let none : n / w ≡ 0 = ap (λ k. k / w) same ∙ div-mul-add 0 w n less in rw some_width none

-- where no group is there, all is left
pub ends : (group : List Field) (rest : List ℕ) (n : ℕ) → n < width_of group → fields_in_bytes [] group rest n ≡ left_over rest n
unfolding fields_in_bytes
ends group rest n less = ap (λ count. repeated count group ++ left_over rest (n - count * width_of group)) (none_fit (width_of group) n less) ∙ ap (left_over rest) (omega arith)

pub ends_without : (group : List Field) (rest : List ℕ) (n : ℕ) → width_of group ≡ 0 → fields_in_bytes [] group rest n ≡ left_over rest n
unfolding fields_in_bytes
ends_without group rest n none =
    ap (λ w. repeated (group_count w n) group ++ left_over rest (n - group_count w n * w)) none ∙ ap (left_over rest) (omega arith)

ends_if_none : (group : List Field) (rest : List ℕ) (n : ℕ) (some enough : Bool) → nat_lt 0 (width_of group) ≡ some → nat_le (width_of group) n ≡ enough
    → (some && enough) ≡ false → fields_in_bytes [] group rest n ≡ left_over rest n
ends_if_none group rest n false enough s e h = ends_without group rest n (grind (arith, nat_tests))
ends_if_none group rest n true false s e h = ends group rest n (grind (arith, nat_tests))
ends_if_none group rest n true true s e h = cc

-- ---- lists of which the fields are through

nil_at_zero : {X : Type 0} (xs : List X) → (length xs == 0) ≡ true → xs ≡ []
nil_at_zero xs h = nil_from_length xs (grind (arith, nat_tests))

left_through : (l : Lists) (n : ℕ) → (length l.current.now == 0) ≡ true → (length l.following.now == 0) ≡ true
    → left_in l n ≡ fields_in_bytes [] (map field_of l.group.now) l.rest.now n
left_through l n c f =
    ap₂ (λ xs ys. fields_in_bytes (map field_of xs ++ map field_of ys) (map field_of l.group.now) l.rest.now n)
    (nil_at_zero l.current.now c) (nil_at_zero l.following.now f)

-- the group comes next
pub turned_same : (l : Lists) (n : ℕ) → (length l.current.now == 0) ≡ true → (length l.following.now == 0) ≡ true
    → (nat_lt 0 (width_of (map field_of l.group.now)) && nat_le (width_of (map field_of l.group.now)) n) ≡ true
    → left_in (record l { current = l.group }) n ≡ left_in l n
turned_same l n c f h =
    let group = map field_of l.group.now in
    let p = and_parts (nat_lt 0 (width_of group)) (nat_le (width_of group) n) h in
    ap (λ ys. fields_in_bytes (group ++ map field_of ys) group l.rest.now n) (nil_at_zero l.following.now f)
    ∙ ap (λ fields. fields_in_bytes fields group l.rest.now n) (append-nil group)
    ∙ begins group l.rest.now n (grind (arith, nat_tests)) (grind (arith, nat_tests))
    ∙ sym (left_through l n c f)

-- no group does
pub turned_through : (l : Lists) (n : ℕ) → (length l.current.now == 0) ≡ true → (length l.following.now == 0) ≡ true
    → (nat_lt 0 (width_of (map field_of l.group.now)) && nat_le (width_of (map field_of l.group.now)) n) ≡ false → left_in l n ≡ left_over l.rest.now n
turned_through l n c f h = left_through l n c f ∙ ends_if_none (map field_of l.group.now) l.rest.now n _ _ refl refl h

-- ---- what is left over

none_at_zero : (k : ℕ) → k ≡ 0 → fields_in_bytes [] [] [] k ≡ []
unfolding fields_in_bytes
none_at_zero k e = ap (groups_in [] []) e

-- what is left over is one field, and then there are none
pub left_first : (l : Lists) (rest : List ℕ) (n : ℕ) → 0 < n → layout_left l ≡ no_layout
    → left_over rest n ≡ field_in Bytes n rest ∷ left_in l (n - n)
left_first l rest n some none =
    let not_zero : (n == 0) ≡ false = grind (arith, nat_tests) in
    let nothing : left_in l (n - n) ≡ [] =
    ap (λ (layout : Layout). fields_in_bytes layout.fields layout.group layout.rest (n - n)) none ∙ none_at_zero (n - n) (omega arith) in
    rw not_zero (ap (λ more. field_in Bytes n rest ∷ more) (sym nothing))

-- ---- the first of a list

take_all : {X : Type 0} (xs : List X) (n : ℕ) → n ≡ length xs → take n xs ≡ xs
take_all [] zero e = refl
take_all [] (suc n) e = refl
take_all (x ∷ xs) zero e = absurd (omega arith)
take_all (x ∷ xs) (suc n) e = ap (λ ys. x ∷ ys) (take_all xs n (omega arith))

first_and_more : {X : Type 0} (xs : List X) (d : X) → 1 ≤ length xs → xs ≡ get_or xs 0 d ∷ take (length xs - 1) (drop 1 xs)
first_and_more [] d h = absurd (omega arith)
first_and_more (x ∷ xs) d h = ap (λ ys. x ∷ ys) (sym (take_all xs (suc (length xs) - 1) (omega arith)))

-- the first field is there, and then come those behind it
pub first_is_there : (l : Lists) (d : ClassField (Bor (List ℕ))) (n w : ℕ) → 1 ≤ length l.current.now → w ≡ (get_or l.current.now 0 d).width → w ≤ n
    → left_in l n
    ≡ record { name = (get_or l.current.now 0 d).name.now; width = w; form = (get_or l.current.now 0 d).form }
    ∷ fields_in_bytes (map field_of (take (length l.current.now - 1) (drop 1 l.current.now)) ++ map field_of l.following.now) (map field_of l.group.now) l.rest.now (n - w)
unfolding fields_in_bytes
first_is_there l d n w some e enough =
    let field = get_or l.current.now 0 d in
    let fits : nat_lt n field.width ≡ false = grind (arith, nat_tests) in
    ap (λ xs. fields_in_bytes (map field_of xs ++ map field_of l.following.now) (map field_of l.group.now) l.rest.now n) (first_and_more l.current.now d some)
    ∙ rw (fits, e) refl

-- not all bytes of the first field are there
pub first_is_cut : (l : Lists) (d : ClassField (Bor (List ℕ))) (n w : ℕ) → 1 ≤ length l.current.now → w ≡ (get_or l.current.now 0 d).width → n < w
    → left_in l n ≡ left_over l.rest.now n
unfolding fields_in_bytes
first_is_cut l d n w some e less =
    let field = get_or l.current.now 0 d in
    let cut : nat_lt n field.width ≡ true = grind (arith, nat_tests) in
    ap (λ xs. fields_in_bytes (map field_of xs ++ map field_of l.following.now) (map field_of l.group.now) l.rest.now n) (first_and_more l.current.now d some)
    ∙ rw cut refl

-- what comes next of the same fields
pub next_of_same : (o : Option (Piece × Lists)) (xs ys : List Field) (n : ℕ) → xs ≡ ys
    → MatchOption o (ys ≡ []) (λ next. ys ≡ piece_of next.0 ∷ left_in next.1 (n - next.0.width))
    → MatchOption o (xs ≡ []) (λ next. xs ≡ piece_of next.0 ∷ left_in next.1 (n - next.0.width))
next_of_same o xs ys n e h = rw e h

-- ---- at its place

-- no fields
pub placed_none : (place : ℕ) (fields : List Field) (b : List ℕ) → fields ≡ [] → placed place fields b ≡ []
unfolding placed
placed_none place fields b e = ap (λ fs. placed place fs b) e

-- the first field, and those behind it
pub placed_next : (place : ℕ) (fields : List Field) (p : Piece) (l : Lists) (b value behind : List ℕ)
    → fields ≡ piece_of p ∷ left_in l (length b - p.width) → value ≡ take p.width b → behind ≡ drop p.width b
    → let first : PlacedField = record { name = p.name.now; place = place; form = p.form; value = value } in
    placed place fields b ≡ first ∷ placed (place + p.width) (left_in l (length behind)) behind
unfolding placed
placed_next place fields p l b value behind e v r =
    let left : length behind ≡ length b - p.width = ap length r ∙ length-drop p.width b in
    ap (λ fs. placed place fs b) e ∙ rw (left, v, r) refl

pub no_fields : (l : Lists) → layout_left l ≡ no_layout → placed 0 (left_in l 0) [] ≡ []
no_fields l e =
    placed_none 0 (left_in l 0) [] (ap (λ (layout : Layout). fields_in_bytes layout.fields layout.group layout.rest 0) e ∙ none_at_zero 0 refl)
