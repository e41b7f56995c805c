-- The fields of a descriptor have all its bytes.
use Rattle.std.proofs.Common.{◌≡◌, ◌≤◌, ◌<◌, ℕ, zero, suc, ◌+◌, ◌-◌, ◌*◌, ◌==◌, nat_lt, Bool, true, false, ◌&&◌, cond, List, [], ◌∷◌, ◌++◌, Option, Some, None, IfSome, IsTrue, slice_index, append_assoc, append-nil, take, drop, length, map, flat_map, refl, sym, ap, ◌∙◌, subst, arith, length-drop}
use Rattle.std.specs.List.{list_all}
use Rattle.std.proofs.lemmas.Bool.{and_parts}
use Rattle.std.proofs.lemmas.Bool.Decides.{nat_tests}
use Rattle.std.proofs.lemmas.Nat.{div-add-mod'}
use Rattle.std.proofs.lemmas.List.{drop-drop, length-take-le, take-append-drop}
use Rattle.usb_names.specs.declared.codes.ClassCodes.{ClassCodes}
use Rattle.usb_names.specs.Named.{is_name}
use Rattle.usb_names.specs.Shown.{Field, Row, are_fields, is_field, is_row}
use Rattle.usb_names.proofs.RowNames.{row_passes}
use Rattle.usb_walk.specs.declared.role.Role.TheVariants.{Device, Qualifier, Configuration, Association, Interface, Endpoint, Raw, Languages, Text}
use Rattle.usb_explain.specs.FieldLaws.{AllFieldsHaveAllBytes, span_of_field}
use Rattle.usb_explain.specs.Fields.{PlacedField, class_layout, fields_in_bytes, fields_of, groups_in, laid, left_over, placed, repeated}
use Rattle.usb_explain.specs.Headers.{row_of_bytes}
use Rattle.usb_remarks.specs.OutlineLaws.{Follow}
use Rattle.usb_explain.specs.Layouts.{Layout, association_layout, configuration_layout, device_layout, endpoint_layout, interface_layout, is_audio, qualifier_layout, group_count, width_of}

-- ---- as many bytes as there are

width-append : (xs ys : List Field) → width_of (xs ++ ys) ≡ width_of xs + width_of ys
width-append [] ys = omega arith
width-append (x ∷ xs) ys = omega (arith, width-append xs ys)

width_repeated : (count : ℕ) (group : List Field) → width_of (repeated count group) ≡ count * width_of group
width_repeated zero group = omega arith
width_repeated (suc n) group = width-append group (repeated n group) ∙ ap (λ w. width_of group + w) (width_repeated n group) ∙ grind arith

not_zero : (n : ℕ) → (suc n == 0) ≡ false
not_zero n = grind (arith, nat_tests)

width_left : (rest : List ℕ) (n : ℕ) → width_of (left_over rest n) ≡ n
width_left rest zero = refl
width_left rest (suc n) = rw (not_zero n) (omega arith)

no_more : (w n : ℕ) → group_count w n * w ≤ n
no_more zero n = omega arith
no_more (suc w) n = rw (not_zero w) (let whole = div-add-mod' n (suc w) in grind (arith, whole))

width_groups : (group : List Field) (rest : List ℕ) (n : ℕ) → width_of (groups_in group rest n) ≡ n
width_groups group rest n =
    let count = group_count (width_of group) n in
    width-append (repeated count group) (left_over rest (n - count * width_of group))
    ∙ omega (arith, width_repeated count group, width_left rest (n - count * width_of group), no_more (width_of group) n)

either_width : (b : Bool) (xs ys : List Field) (n : ℕ) → (b ≡ true → width_of xs ≡ n) → (b ≡ false → width_of ys ≡ n) → width_of (cond b xs ys) ≡ n
either_width true xs ys n h k = h refl
either_width false xs ys n h k = k refl

pub width_fields : (fields group : List Field) (rest : List ℕ) (n : ℕ) → width_of (fields_in_bytes fields group rest n) ≡ n
unfolding fields_in_bytes
width_fields [] group rest n = width_groups group rest n
width_fields (field ∷ fields) group rest n =
    either_width (nat_lt n field.width) (left_over rest n) (field ∷ fields_in_bytes fields group rest (n - field.width)) n
    (λ less. width_left rest n)
    (λ enough. let fits : field.width ≤ n = grind (arith, nat_tests) in omega (arith, width_fields fields group rest (n - field.width)))

-- ---- none without bytes

abbrev pub has_bytes : Field → Bool
has_bytes field = nat_lt 0 field.width

abbrev pub have_bytes : List Field → Bool
have_bytes fields = list_all has_bytes fields

both : (a b : Bool) → a ≡ true → b ≡ true → (a && b) ≡ true
both true b h k = k
both false b h k = h

bytes-append : (xs ys : List Field) → have_bytes xs ≡ true → have_bytes ys ≡ true → have_bytes (xs ++ ys) ≡ true
bytes-append [] ys h k = k
bytes-append (x ∷ xs) ys h k =
    let p = and_parts (has_bytes x) (have_bytes xs) h in both (has_bytes x) (have_bytes (xs ++ ys)) p.0 (bytes-append xs ys p.1 k)

bytes_repeated : (count : ℕ) (group : List Field) → have_bytes group ≡ true → have_bytes (repeated count group) ≡ true
bytes_repeated zero group h = refl
bytes_repeated (suc n) group h = bytes-append group (repeated n group) h (bytes_repeated n group h)

bytes_left : (rest : List ℕ) (n : ℕ) → have_bytes (left_over rest n) ≡ true
bytes_left rest zero = refl
bytes_left rest (suc n) = let some : nat_lt 0 (suc n) ≡ true = grind (arith, nat_tests) in rw (not_zero n, some) refl

bytes_groups : (group : List Field) (rest : List ℕ) (n : ℕ) → have_bytes group ≡ true → have_bytes (groups_in group rest n) ≡ true
bytes_groups group rest n h =
    let count = group_count (width_of group) n in
    bytes-append (repeated count group) (left_over rest (n - count * width_of group)) (bytes_repeated count group h) (bytes_left rest (n - count * width_of group))

either_bytes : (b : Bool) (xs ys : List Field) → have_bytes xs ≡ true → have_bytes ys ≡ true → have_bytes (cond b xs ys) ≡ true
either_bytes true xs ys h k = h
either_bytes false xs ys h k = k

pub bytes_fields : (fields group : List Field) (rest : List ℕ) (n : ℕ) → have_bytes fields ≡ true → have_bytes group ≡ true
    → have_bytes (fields_in_bytes fields group rest n) ≡ true
unfolding fields_in_bytes
bytes_fields [] group rest n h k = bytes_groups group rest n k
bytes_fields (field ∷ fields) group rest n h k =
    let p = and_parts (has_bytes field) (have_bytes fields) h in
    let more = fields_in_bytes fields group rest (n - field.width) in
    either_bytes (nat_lt n field.width) (left_over rest n) (field ∷ more) (bytes_left rest n)
    (both (has_bytes field) (have_bytes more) p.0 (bytes_fields fields group rest (n - field.width) p.1 k))

-- ---- at their places

values_placed : (place : ℕ) (fields : List Field) (b : List ℕ) → flat_map (λ f. f.value) (placed place fields b) ++ drop (width_of fields) b ≡ b
unfolding placed
values_placed place [] b = refl
values_placed place (field ∷ fields) b =
    let values = flat_map (λ (f : PlacedField). f.value) (placed (place + field.width) fields (drop field.width b)) in
    append_assoc (take field.width b) values (drop (field.width + width_of fields) b)
    ∙ ap (λ end. take field.width b ++ (values ++ end)) (sym (drop-drop (width_of fields) field.width b))
    ∙ ap (λ more. take field.width b ++ more) (values_placed (place + field.width) fields (drop field.width b))
    ∙ take-append-drop field.width b

drop_whole : (b : List ℕ) → drop (length b) b ≡ []
drop_whole [] = refl
drop_whole (x ∷ b) = drop_whole b

pub values_laid : (place : ℕ) (layout : Layout) (b : List ℕ) → flat_map (λ f. f.value) (laid place layout b) ≡ drop place b
values_laid place layout b =
    let body = drop place b in
    let fields = fields_in_bytes layout.fields layout.group layout.rest (length body) in
    let width : width_of fields ≡ length body = width_fields layout.fields layout.group layout.rest (length body) in
    let values = flat_map (λ (f : PlacedField). f.value) (placed place fields body) in
    let none : drop (width_of fields) body ≡ [] = ap (λ w. drop w body) width ∙ drop_whole body in
    sym (append-nil values) ∙ ap (λ end. values ++ end) (sym none) ∙ values_placed place fields body

follow_placed : (place : ℕ) (fields : List Field) (b : List ℕ) → have_bytes fields ≡ true → width_of fields ≤ length b
    → Follow place (map span_of_field (placed place fields b)) (place + width_of fields)
unfolding placed
follow_placed place [] b h fit = omega arith
follow_placed place (field ∷ fields) b h fit =
    let p = and_parts (has_bytes field) (have_bytes fields) h in
    let bytes : length (take field.width b) ≡ field.width = length-take-le field.width b (omega arith) in
    let left : length (drop field.width b) ≡ length b - field.width = length-drop field.width b in
    let some : 0 < length (take field.width b) = grind (arith, nat_tests) in
    let next = map span_of_field (placed (place + field.width) fields (drop field.width b)) in
    let more : Follow (place + field.width) next (place + field.width + width_of fields) =
    follow_placed (place + field.width) fields (drop field.width b) p.1 (omega arith) in
    let end : place + field.width + width_of fields ≡ place + (field.width + width_of fields) = omega arith in
    (refl, some, subst (λ w. Follow (place + w) next (place + (field.width + width_of fields))) (sym bytes) (subst (Follow (place + field.width) next) end more))

pub follow_laid : (place : ℕ) (layout : Layout) (b : List ℕ) → have_bytes layout.fields ≡ true → have_bytes layout.group ≡ true
    → place ≤ length b → Follow place (map span_of_field (laid place layout b)) (length b)
follow_laid place layout b h k begins =
    let body = drop place b in
    let fields = fields_in_bytes layout.fields layout.group layout.rest (length body) in
    let width : width_of fields ≡ length body = width_fields layout.fields layout.group layout.rest (length body) in
    let left : length body ≡ length b - place = length-drop place b in
    let end : place + width_of fields ≡ length b = omega arith in
    subst (Follow place (map span_of_field (placed place fields body))) end
    (follow_placed place fields body (bytes_fields layout.fields layout.group layout.rest (length body) h k) (omega arith))

-- ---- of each descriptor

-- the fields of a layout have bytes
abbrev layout_has_bytes : Layout → Bool
layout_has_bytes layout = have_bytes layout.fields && have_bytes layout.group

bytes_of_fields : (fields : List Field) → are_fields fields ≡ true → have_bytes fields ≡ true
bytes_of_fields [] h = refl
bytes_of_fields (field ∷ fields) h =
    let p = and_parts (is_field field) (are_fields fields) h in
    both (has_bytes field) (have_bytes fields) (and_parts (is_name field.name) (has_bytes field) p.0).1 (bytes_of_fields fields p.1)

class_bytes : (row : Option Row) → IfSome row (λ it. IsTrue (is_row it)) → layout_has_bytes (class_layout row) ≡ true
class_bytes None h = refl
class_bytes (Some row) h =
    let p = and_parts (are_fields row.fields) (are_fields row.group) (and_parts (is_name row.name) _ h).1 in
    both (have_bytes row.fields) (have_bytes row.group) (bytes_of_fields row.fields p.0) (bytes_of_fields row.group p.1)

raw_bytes : (interface : Option ClassCodes) (b : List ℕ) → layout_has_bytes (class_layout (row_of_bytes interface b)) ≡ true
raw_bytes interface b = class_bytes (row_of_bytes interface b) (row_passes interface (slice_index b 1) (drop 2 b))

either_layout : (t : Bool) (x y : Layout) → layout_has_bytes x ≡ true → layout_has_bytes y ≡ true → layout_has_bytes (cond t x y) ≡ true
either_layout true x y h k = h
either_layout false x y h k = k

endpoint_bytes : (interface : Option ClassCodes) (n : ℕ) → layout_has_bytes (endpoint_layout interface n) ≡ true
endpoint_bytes interface n = either_layout (is_audio interface && (n == 9)) _ _ refl refl

-- the fields of a layout
record LaidCovers (place : ℕ) (layout : Layout) (b : List ℕ) : Type 0 where
  pub values : flat_map (λ f. f.value) (laid place layout b) ≡ drop place b
  pub places : place ≤ length b → Follow place (map span_of_field (laid place layout b)) (length b)

laid_covers : (place : ℕ) (layout : Layout) (b : List ℕ) → layout_has_bytes layout ≡ true → LaidCovers place layout b
laid_covers place layout b h =
    let p = and_parts (have_bytes layout.fields) (have_bytes layout.group) h in
    record { values = values_laid place layout b; places = follow_laid place layout b p.0 p.1 }

pub fields_have_all_bytes : AllFieldsHaveAllBytes
unfolding fields_of
fields_have_all_bytes Device interface b has = let l = laid_covers 2 device_layout b refl in record { values = l.values; places = l.places }
fields_have_all_bytes Qualifier interface b has = let l = laid_covers 2 qualifier_layout b refl in record { values = l.values; places = l.places }
fields_have_all_bytes Configuration interface b has = let l = laid_covers 2 configuration_layout b refl in record { values = l.values; places = l.places }
fields_have_all_bytes Association interface b has = let l = laid_covers 2 association_layout b refl in record { values = l.values; places = l.places }
fields_have_all_bytes Interface interface b has = let l = laid_covers 2 interface_layout b refl in record { values = l.values; places = l.places }
fields_have_all_bytes Endpoint interface b has =
    let l = laid_covers 2 (endpoint_layout interface (length b)) b (endpoint_bytes interface (length b)) in record { values = l.values; places = l.places }
fields_have_all_bytes Raw interface b has =
    let l = laid_covers 1 (class_layout (row_of_bytes interface b)) b (raw_bytes interface b) in record { values = l.values; places = l.places }
fields_have_all_bytes Languages interface b has = cc
fields_have_all_bytes Text interface b has = cc
