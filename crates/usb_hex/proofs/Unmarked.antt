-- Texts in which nothing is left out are what they are without comments and labels.
use Rattle.std.proofs.Common.{◌≡◌, ℕ, ◌==◌, ◌||◌, ◌&&◌, Bool, true, false, if◌then◌else◌, not, List, [], ◌∷◌, Option, Some, None, slice_index, refl, ap, subst, sym, arith}
use Rattle.std.proofs.lemmas.Bool.{eqb-true}
use Rattle.usb_hex.specs.Brackets.{has}
use Rattle.usb_hex.specs.Columns.{after_all, at_start, is_blank, is_named}
use Rattle.usb_hex.specs.Comments.{uncommented}
use Rattle.usb_hex.specs.Labels.{after_dot, begins_name, goes_on_below, is_declaration, is_directive, is_either_case, is_label, names_bytes, next_part, part_of_line, shown_part, unlabelled}
use Rattle.usb_hex.specs.Literals.{begins_literal, literal_in, literal_of}
use Rattle.usb_hex.specs.SourceItems.{is_decimal, is_quote}
use Rattle.usb_hex.specs.declared.comment.Place.{Place}
use Rattle.usb_hex.specs.declared.comment.Place.TheVariants as places
use Rattle.usb_hex.specs.declared.label.Part.{Part}
use Rattle.usb_hex.specs.declared.label.Part.TheVariants as parts
use Rattle.usb_hex.specs.inside.Unmarked.{has_no_label, has_no_mark}

-- ---- characters that are in no place of a text

neither : (a b : Bool) → (a || b) ≡ false → (a ≡ false) × (b ≡ false)
neither true b e = cc
neither false b e = (refl, e)

first_is_not : (k c : ℕ) (rest : List ℕ) → has k (c ∷ rest) ≡ false → (c == k) ≡ false
first_is_not k c rest e = (neither (c == k) (has k rest) e).0

rest_has_not : (k c : ℕ) (rest : List ℕ) → has k (c ∷ rest) ≡ false → has k rest ≡ false
rest_has_not k c rest e = (neither (c == k) (has k rest) e).1

-- so it is of what is left after characters of a kind
left_has_not : (k : ℕ) (test : ℕ → Bool) (text : List ℕ) → has k text ≡ false → has k (after_all test text) ≡ false
unfolding after_all
left_has_not k test [] e = e
left_has_not k test (c ∷ rest) e = by (test c) (left_has_not k test rest (rest_has_not k c rest e))
  where
    by : (b : Bool) → has k (after_all test rest) ≡ false → has k (if b then after_all test rest else c ∷ rest) ≡ false
    by true later = later
    by false later = e

head_is_not : (k : ℕ) (text : List ℕ) → (0 == k) ≡ false → has k text ≡ false → (slice_index text 0 == k) ≡ false
head_is_not k [] other e = other
head_is_not k (c ∷ rest) other e = first_is_not k c rest e

-- ---- literals

third_is_none : (text : List ℕ) → has 92 text ≡ false → (slice_index text 2 == 92) ≡ false
third_is_none [] e = refl
third_is_none (c ∷ []) e = refl
third_is_none (c ∷ d ∷ []) e = refl
third_is_none (c ∷ d ∷ f ∷ rest) e = first_is_not 92 f rest (rest_has_not 92 d (f ∷ rest) (rest_has_not 92 c (d ∷ f ∷ rest) e))

never : (b : Bool) → (b && false) ≡ false
never true = refl
never false = refl

begins_none : (text : List ℕ) → has 92 text ≡ false → begins_literal text ≡ false
begins_none text e = rw (third_is_none text e, never) refl

none_in : (text : List ℕ) (named : Bool) → has 92 text ≡ false → literal_in named text ≡ None
unfolding literal_in
none_in [] named e = refl
none_in (c ∷ rest) named e = rw (begins_none (c ∷ rest) e) (by _ (none_in rest _ (rest_has_not 92 c rest e)))
  where
    by : (b : Bool) {later : Option (List ℕ)} → later ≡ None → (if b then None else later) ≡ None
    by true none = refl
    by false none = none

pub no_literal : (text : List ℕ) → has 92 text ≡ false → literal_of text ≡ None
no_literal text e = rw (none_in (at_start text) false (left_has_not 92 _ text e)) (by (is_decimal (slice_index (at_start text) 0)))
  where
    none : Option (List ℕ)
    none = None

    by : (b : Bool) → (if b then none else none) ≡ None
    by true = refl
    by false = refl

-- ---- names of lines

pub not_named : (text : List ℕ) → has 68 text ≡ false → is_named (at_start text) ≡ false
not_named text e = rw (head_is_not 68 (at_start text) refl (left_has_not 68 _ text e)) refl

-- ---- comments

-- no mark of what is no code is in a text
record HasNoMark (text : List ℕ) : Type 0 where
  slash : has 47 text ≡ false
  number : has 35 text ≡ false
  fence : has 96 text ≡ false
  quoted : has 62 text ≡ false
  first : has 239 text ≡ false
  second : has 187 text ≡ false
  third : has 191 text ≡ false

is_false : (b : Bool) → not b ≡ true → b ≡ false
is_false true e = cc
is_false false e = refl

unmarked : (text : List ℕ) → has_no_mark text ≡ true → HasNoMark text
unmarked text e = by (has 47 text) (has 35 text) (has 96 text) (has 62 text) (has 239 text) (has 187 text) (has 191 text) refl refl refl refl refl refl refl e
  where
    by : (a b c d f g h : Bool) → has 47 text ≡ a → has 35 text ≡ b → has 96 text ≡ c → has 62 text ≡ d → has 239 text ≡ f → has 187 text ≡ g
        → has 191 text ≡ h → not (a || b || c || d || f || g || h) ≡ true → HasNoMark text
    by true b c d f g h i j k l m n o e = cc
    by false true c d f g h i j k l m n o e = cc
    by false false true d f g h i j k l m n o e = cc
    by false false false true f g h i j k l m n o e = cc
    by false false false false true g h i j k l m n o e = cc
    by false false false false false true h i j k l m n o e = cc
    by false false false false false false true i j k l m n o e = cc
    by false false false false false false false i j k l m n o e =
        record { slash = i; number = j; fence = k; quoted = l; first = m; second = n; third = o }

later_unmarked : (c : ℕ) (rest : List ℕ) → HasNoMark (c ∷ rest) → HasNoMark rest
later_unmarked c rest none = record {
  slash = rest_has_not 47 c rest none.slash;
  number = rest_has_not 35 c rest none.number;
  fence = rest_has_not 96 c rest none.fence;
  quoted = rest_has_not 62 c rest none.quoted;
  first = rest_has_not 239 c rest none.first;
  second = rest_has_not 187 c rest none.second;
  third = rest_has_not 191 c rest none.third;
}

if_either : (b : Bool) (p q : Place) (rest : List ℕ) → uncommented p rest ≡ rest → uncommented q rest ≡ rest
    → uncommented (if b then p else q) rest ≡ rest
if_either true p q rest here there = here
if_either false p q rest here there = there

always : (b : Bool) → (b || true) ≡ true
always true = refl
always false = refl

as_code : (text : List ℕ) → HasNoMark text → (uncommented places.Start text ≡ text) × (uncommented places.Code text ≡ text)
unfolding uncommented
as_code [] none = (refl, refl)
as_code (c ∷ rest) none = by (as_code rest (later_unmarked c rest none))
  where
    by : (uncommented places.Start rest ≡ rest) × (uncommented places.Code rest ≡ rest)
        → (uncommented places.Start (c ∷ rest) ≡ c ∷ rest) × (uncommented places.Code (c ∷ rest) ≡ c ∷ rest)
    by later = (
      rw (first_is_not 47 c rest none.slash, first_is_not 35 c rest none.number, first_is_not 96 c rest none.fence, first_is_not 62 c rest none.quoted, first_is_not 239 c rest none.first, first_is_not 187 c rest none.second, first_is_not 191 c rest none.third, always)
          (ap (λ (r : List ℕ). c ∷ r) (if_either _ places.Start _ rest later.0 (if_either (c == 10) places.Start places.Code rest later.0 later.1))),
      rw (first_is_not 47 c rest none.slash, first_is_not 35 c rest none.number, first_is_not 239 c rest none.first, first_is_not 187 c rest none.second, first_is_not 191 c rest none.third, always)
          (ap (λ (r : List ℕ). c ∷ r) (if_either (c == 10) places.Start places.Code rest later.0 later.1)),
    )

pub all_code : (text : List ℕ) → has_no_mark text ≡ true → text ≡ uncommented places.Start text
all_code text e = sym ((as_code text (unmarked text e)).0)

-- ---- labels

-- no character of those that a label or the like must have is in a text
record HasNoLabel (text : List ℕ) : Type 0 where
  colon : has 58 text ≡ false
  single : has 39 text ≡ false
  double : has 34 text ≡ false
  slash : has 92 text ≡ false
  lower : has 98 text ≡ false
  upper : has 66 text ≡ false

unnamed : (text : List ℕ) → has_no_label text ≡ true → HasNoLabel text
unnamed text e = by (has 58 text) (has 39 text) (has 34 text) (has 92 text) (has 98 text) (has 66 text) refl refl refl refl refl refl e
  where
    by : (a b c d f g : Bool) → has 58 text ≡ a → has 39 text ≡ b → has 34 text ≡ c → has 92 text ≡ d → has 98 text ≡ f → has 66 text ≡ g
        → not (a || b || c || d || f || g) ≡ true → HasNoLabel text
    by true b c d f g i j k l m n e = cc
    by false true c d f g i j k l m n e = cc
    by false false true d f g i j k l m n e = cc
    by false false false true f g i j k l m n e = cc
    by false false false false true g i j k l m n e = cc
    by false false false false false true i j k l m n e = cc
    by false false false false false false i j k l m n e =
        record { colon = i; single = j; double = k; slash = l; lower = m; upper = n }

later_unnamed : (c : ℕ) (rest : List ℕ) → HasNoLabel (c ∷ rest) → HasNoLabel rest
later_unnamed c rest none = record {
  colon = rest_has_not 58 c rest none.colon;
  single = rest_has_not 39 c rest none.single;
  double = rest_has_not 34 c rest none.double;
  slash = rest_has_not 92 c rest none.slash;
  lower = rest_has_not 98 c rest none.lower;
  upper = rest_has_not 66 c rest none.upper;
}

no_name : (text : List ℕ) (named : Bool) → has 58 text ≡ false → is_label named text ≡ false
unfolding is_label
no_name [] named e = refl
no_name (c ∷ rest) named e = rw (first_is_not 58 c rest e) (by _ (no_name rest _ (rest_has_not 58 c rest e)))
  where
    by : (b : Bool) {later : Bool} → later ≡ false → (if b then false else later) ≡ false
    by true none = refl
    by false none = none

no_b : (c : ℕ) → (c == 98) ≡ false → (c == 66) ≡ false → is_either_case 98 c ≡ false
no_b c lower upper = grind arith

begins_no_name : (name text : List ℕ) → has 98 name ≡ true → has 98 text ≡ false → has 66 text ≡ false → begins_name name text ≡ false
begins_no_name [] text is lower upper = cc
begins_no_name (letter ∷ name) [] is lower upper = refl
begins_no_name (letter ∷ name) (c ∷ rest) is lower upper =
    by (letter == 98) refl is (λ more. begins_no_name name rest more (rest_has_not 98 c rest lower) (rest_has_not 66 c rest upper))
  where
    by : (b : Bool) → (letter == 98) ≡ b → (b || has 98 name) ≡ true → (has 98 name ≡ true → begins_name name rest ≡ false)
        → begins_name (letter ∷ name) (c ∷ rest) ≡ false
    by true same is later =
        subst (λ (l : ℕ). begins_name (l ∷ name) (c ∷ rest) ≡ false) (sym (eqb-true letter 98 same))
        (rw (no_b c (first_is_not 98 c rest lower) (first_is_not 66 c rest upper)) refl)
    by false same is later = rw (later is, never) refl

dot_has_not : (k : ℕ) (text : List ℕ) → has k text ≡ false → has k (after_dot text) ≡ false
dot_has_not k [] e = e
dot_has_not k (c ∷ rest) e = by (c == 46)
  where
    by : (b : Bool) → has k (if b then rest else c ∷ rest) ≡ false
    by true = rest_has_not k c rest e
    by false = e

names_none : (text : List ℕ) → has 98 text ≡ false → has 66 text ≡ false → names_bytes text ≡ false
names_none text lower upper =
    rw (begins_no_name (100 ∷ 98 ∷ []) text refl lower upper, begins_no_name (100 ∷ 99 ∷ 98 ∷ []) text refl lower upper, begins_no_name (100 ∷ 99 ∷ 46 ∷ 98 ∷ []) text refl lower upper, begins_no_name (102 ∷ 99 ∷ 98 ∷ []) text refl lower upper, begins_no_name (98 ∷ 121 ∷ 116 ∷ 101 ∷ []) text refl lower upper) refl

no_directive : (text : List ℕ) → HasNoLabel text → is_directive text ≡ false
no_directive text none =
    rw (names_none (after_dot (after_all is_blank text)) (dot_has_not 98 (after_all is_blank text) (left_has_not 98 is_blank text none.lower)) (dot_has_not 66 (after_all is_blank text) (left_has_not 66 is_blank text none.upper))) refl

no_quote : (text : List ℕ) → has 39 text ≡ false → has 34 text ≡ false → is_quote (slice_index text 0) ≡ false
no_quote text single double = rw (head_is_not 39 text refl single, head_is_not 34 text refl double) refl

not_below : (named : Bool) (last : ℕ) (rest : List ℕ) → has 39 rest ≡ false → has 34 rest ≡ false → goes_on_below named last rest ≡ false
not_below named last rest single double =
    rw (no_quote (after_all is_blank rest) (left_has_not 39 is_blank rest single) (left_has_not 34 is_blank rest double), never) refl

no_string : (text : List ℕ) (named : Bool) (last : ℕ) → has 39 text ≡ false → has 34 text ≡ false → is_declaration named last text ≡ false
unfolding is_declaration
no_string [] named last single double = refl
no_string (c ∷ rest) named last single double =
    rw (no_quote (c ∷ rest) single double, not_below named last rest (rest_has_not 39 c rest single) (rest_has_not 34 c rest double)) (by (c == 10) _ (no_string rest _ _ (rest_has_not 39 c rest single) (rest_has_not 34 c rest double)))
  where
    by : (a b : Bool) {later : Bool} → later ≡ false → (if a then false else if b then false else later) ≡ false
    by true b none = refl
    by false true none = refl
    by false false none = none

is_bytes : (text : List ℕ) → HasNoLabel text → part_of_line text ≡ parts.Bytes
is_bytes text none = rw (no_name text false none.colon, no_directive text none, no_string text false 32 none.single none.double, never) refl

as_bytes : (text : List ℕ) → HasNoLabel text → (unlabelled parts.Start text ≡ text) × (unlabelled parts.Bytes text ≡ text)
unfolding unlabelled
as_bytes [] none = (refl, refl)
as_bytes (c ∷ rest) none = by (as_bytes rest (later_unnamed c rest none))
  where
    Here : Part → Type 0
    Here part = shown_part part c rest ∷ unlabelled (next_part part c) rest ≡ c ∷ rest

    after_line : (b : Bool) → unlabelled parts.Start rest ≡ rest → unlabelled parts.Bytes rest ≡ rest
        → unlabelled (if b then parts.Start else parts.Bytes) rest ≡ rest
    after_line true start bytes = start
    after_line false start bytes = bytes

    bytes : (unlabelled parts.Start rest ≡ rest) × (unlabelled parts.Bytes rest ≡ rest) → Here parts.Bytes
    bytes later = rw (first_is_not 92 c rest none.slash) (ap (λ (r : List ℕ). c ∷ r) (after_line (c == 10) later.0 later.1))

    by : (unlabelled parts.Start rest ≡ rest) × (unlabelled parts.Bytes rest ≡ rest)
        → (unlabelled parts.Start (c ∷ rest) ≡ c ∷ rest) × (unlabelled parts.Bytes (c ∷ rest) ≡ c ∷ rest)
    by later = (subst Here (sym (is_bytes (c ∷ rest) none)) (bytes later), bytes later)

pub all_bytes : (text : List ℕ) → has_no_label text ≡ true → text ≡ unlabelled parts.Start text
all_bytes text e = sym ((as_bytes text (unnamed text e)).0)
