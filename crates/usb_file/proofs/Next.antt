-- What comes next after a prefix of a file.
use Rattle.std.proofs.Common.{◌≡◌, ℕ, ltb, ◌*◌, inl, inr, false, not, ◌||◌, ◌==◌, List, length, Option, Some, None, refl, ap, sym, subst, ◌∙◌, arith}
use Rattle.std.proofs.lemmas.Bool.{eq-eqb, ne_eqb, lt-ltb, le-ltb, not-false, or_from, cond-true, cond-false, cases_Bool, cases_eq, cases_lt, not_from_true}
use Rattle.usb_set.specs.declared.tree.SetKind.TheVariants as kinds
use Rattle.usb_file_data.specs.declared.file.DescriptorFile.{DescriptorFile}
use Rattle.usb_file_data.specs.declared.file.Other.{Other}
use Rattle.usb_file_data.specs.declared.file.Strings.{Strings}
use Rattle.usb_file_data.specs.File.{named_indices, has_wrong_count, are_wrong_strings, is_other_miscounted}
use Rattle.usb_file_data.proofs.Counts.{AllStrings, all_sets, all_strings}
use Rattle.usb_file_data.specs.Front.{AllSets, StringsFollow, IsInOrder, IsFront}
use Rattle.usb_file_data.specs.FileFaults.{NextPart, a_set, a_qualifier, the_languages, a_string, the_end, begins_qualifier, IsNext, NoQualifierIsNext, MissesSet, MissesString}
use Rattle.usb_file.specs.inside.Reading.{next_string, next_part}
use Rattle.usb_file.proofs.Due.{due_main, due_other, due_qualifier, due_strings}

-- ---- counts

counted : (n m : ℕ) → n ≡ m → not (n == m) ≡ false
counted n m h = not_from_true (n == m) (eq-eqb n m h)

-- all sets are there where the counts are right
pub right_count : (f : DescriptorFile) → AllSets f f.other → has_wrong_count f ≡ false
right_count f all = cases f.other all
  where
    cases : (o : Option Other) → AllSets f o → (not (length f.sets == f.device.configurations) || is_other_miscounted o) ≡ false
    cases None h = or_from _ _ (counted _ _ h) refl
    cases (Some o) h = or_from _ _ (counted _ _ h.0) (counted _ _ h.1)

-- ---- strings

pub right_strings : (count : ℕ) (s : Strings) → AllStrings count s → are_wrong_strings count (Some s) ≡ false
right_strings count s h =
    let named = h.follow.named in
    let spoken = h.follow.spoken in
    or_from _ _ (or_from _ _ (or_from (count == 0) (length s.languages == 0) (ne_eqb count 0 (λ e. absurd (omega arith))) (ne_eqb (length s.languages) 0 (λ e. absurd (omega arith)))) h.follow.short)
    (counted (length s.texts) (length s.languages * count) h.whole)

pub right_none : (count : ℕ) → count ≡ 0 → are_wrong_strings count None ≡ false
right_none count h = counted count 0 h

pub follows : (f : DescriptorFile) (o : Option Other) (s : Option Strings) → IsInOrder f o s → (t : Strings) → s ≡ Some t → StringsFollow (length (named_indices f)) t
follows f o None order t e = cc
follows f None (Some s) order t e = let P : Strings → Type 0 = StringsFollow (length (named_indices f)) in let same : s ≡ t = cc in subst P same order.1
follows f (Some o) (Some s) order t e = let P : Strings → Type 0 = StringsFollow (length (named_indices f)) in let same : s ≡ t = cc in subst P same order.2

-- where strings are, all sets are
pub sets_before : (f : DescriptorFile) (o : Option Other) (s : Strings) → IsInOrder f o (Some s) → AllSets f o
sets_before f None s order = order.0
sets_before f (Some o) s order = (order.0, order.1)

-- where the other speed is, all sets of the device are
pub main_before : (f : DescriptorFile) (o : Other) (s : Option Strings) → IsInOrder f (Some o) s → length f.sets ≡ f.device.configurations
main_before f o None order = order.0
main_before f o (Some s) order = order.0

-- the file must end, where its strings are right
pub next_end : (count : ℕ) (s : Option Strings) → are_wrong_strings count s ≡ false → next_string count s ≡ the_end
next_end count None h = cond-true (count == 0) _ _ (not-false (count == 0) h)
next_end count (Some s) h =
    let whole = (all_strings count s h).whole in
    cond-false (ltb (length s.texts) (length s.languages * count)) _ _ (le-ltb _ _ (omega arith))

-- ---- the part that comes next is the one that the function gives

pub not_none : {A : Type 0} (x : A) (o : Option A) → o ≡ Some x → o ≡ None → ⊥
not_none x o e n = let no : Some x ≡ None = sym e ∙ n in cc

pub next_is : (d : NextPart) (f : DescriptorFile) (rest : List ℕ) → IsFront f → IsNext d f rest → next_part f rest ≡ d
next_is (a_set kinds.Configuration) f rest front h = due_main f rest h
next_is (a_set kinds.OtherSpeed) f rest front h = cases f.other refl front.order h
  where
    cases : (o : Option Other) → f.other ≡ o → IsInOrder f o f.strings → MissesSet o → next_part f rest ≡ a_set kinds.OtherSpeed
    cases None e order misses = absurd misses
    cases (Some o) e order misses = due_other f rest o (main_before f o f.strings order) e misses
next_is a_qualifier f rest front h = due_qualifier f rest h.all h.no_other h.no_strings h.begins
next_is the_languages f rest front h =
    let named = h.named in
    due_strings f rest h.all h.no_qualifier ∙ ap (next_string (length (named_indices f))) h.no_strings
    ∙ cond-false (length (named_indices f) == 0) _ _ (ne_eqb (length (named_indices f)) 0 (λ e. absurd (omega arith)))
next_is a_string f rest front h = cases f.strings refl front.order h
  where
    cases : (s : Option Strings) → f.strings ≡ s → IsInOrder f f.other s → MissesString (length (named_indices f)) s → next_part f rest ≡ a_string
    cases None e order misses = absurd misses
    cases (Some s) e order misses =
        due_strings f rest (sets_before f f.other s order) (λ _ n. absurd (not_none s f.strings e n)) ∙ ap (next_string (length (named_indices f))) e
        ∙ cond-true (ltb (length s.texts) (length s.languages * length (named_indices f))) _ _ (lt-ltb _ _ misses)
next_is the_end f rest front h = due_strings f rest (all_sets f h.counts) h.no_qualifier ∙ next_end (length (named_indices f)) f.strings h.texts

-- after all sets, where the strings are these
next_after_sets : (f : DescriptorFile) (rest : List ℕ) (s : Option Strings) → f.strings ≡ s → AllSets f f.other → NoQualifierIsNext f rest
    → ((t : Strings) → s ≡ Some t → StringsFollow (length (named_indices f)) t) → IsNext (next_string (length (named_indices f)) s) f rest
next_after_sets f rest None e all unless follow =
    elim (cases_eq (length (named_indices f)) 0) [
      | inl zero_named ↦
          let is = cond-true (length (named_indices f) == 0) the_end the_languages (eq-eqb _ 0 zero_named) in
          subst (λ d. IsNext d f rest) (sym is) (record {
            counts = right_count f all;
            texts = subst (λ s. are_wrong_strings (length (named_indices f)) s ≡ false) (sym e) (right_none (length (named_indices f)) zero_named);
            no_qualifier = unless;
          })
      | inr some_named ↦
          let is = cond-false (length (named_indices f) == 0) the_end the_languages (ne_eqb _ 0 some_named) in
          subst (λ d. IsNext d f rest) (sym is) (record { all = all; no_strings = e; no_qualifier = unless; named = omega arith })
    ]
next_after_sets f rest (Some s) e all unless follow =
    elim (cases_lt (length s.texts) (length s.languages * length (named_indices f))) [
      | inl below ↦
          let is = cond-true (ltb (length s.texts) (length s.languages * length (named_indices f))) a_string the_end (lt-ltb _ _ below) in
          subst (λ d. IsNext d f rest) (sym is) (subst (MissesString (length (named_indices f))) (sym e) below)
      | inr above ↦
          let is = cond-false (ltb (length s.texts) (length s.languages * length (named_indices f))) a_string the_end (le-ltb _ _ above) in
          let few = (follow s refl).few in
          subst (λ d. IsNext d f rest) (sym is) (record {
            counts = right_count f all;
            texts = subst (λ s. are_wrong_strings (length (named_indices f)) s ≡ false) (sym e)
                (right_strings (length (named_indices f)) s (record { follow = follow s refl; whole = omega arith }));
            no_qualifier = unless;
          })
    ]

pub is_next : (f : DescriptorFile) (rest : List ℕ) → IsFront f → IsNext (next_part f rest) f rest
is_next f rest front = cases f.other f.strings refl refl front.order
  where
    of : (d : NextPart) → next_part f rest ≡ d → IsNext d f rest → IsNext (next_part f rest) f rest
    of d e h = subst (λ d. IsNext d f rest) (sym e) h

    strings : (o : Option Other) (s : Option Strings) → f.other ≡ o → f.strings ≡ s → AllSets f o → IsInOrder f o s → NoQualifierIsNext f rest → IsNext (next_part f rest) f rest
    strings o s eo es all order unless =
        let here = subst (AllSets f) (sym eo) all in
        of (next_string (length (named_indices f)) s) (due_strings f rest here unless ∙ ap (next_string (length (named_indices f))) es) (next_after_sets f rest s es here unless (follows f o s order))

    cases : (o : Option Other) (s : Option Strings) → f.other ≡ o → f.strings ≡ s → IsInOrder f o s → IsNext (next_part f rest) f rest
    cases None None eo es order =
        elim (cases_lt (length f.sets) f.device.configurations) [
          | inl below ↦ of (a_set kinds.Configuration) (due_main f rest below) below
          | inr above ↦
              let full : length f.sets ≡ f.device.configurations = omega (arith, order) in
              elim (cases_Bool (begins_qualifier rest)) [
                | inl begins ↦ of a_qualifier (due_qualifier f rest full eo es begins) (record { all = full; no_other = eo; no_strings = es; begins = begins })
                | inr begins_none ↦ strings None None eo es full order (λ _ _. begins_none)
              ]
        ]
    cases None (Some s) eo es order = strings None (Some s) eo es order.0 order (λ _ n. absurd (not_none s f.strings es n))
    cases (Some o) None eo es order =
        elim (cases_lt (length o.sets) o.qualifier.configurations) [
          | inl below ↦ of (a_set kinds.OtherSpeed) (due_other f rest o order.0 eo below) (subst MissesSet (sym eo) below)
          | inr above ↦ strings (Some o) None eo es (order.0, omega (arith, order.1)) order (λ n _. absurd (not_none o f.other eo n))
        ]
    cases (Some o) (Some s) eo es order = strings (Some o) (Some s) eo es (order.0, order.1) order (λ n _. absurd (not_none o f.other eo n))
