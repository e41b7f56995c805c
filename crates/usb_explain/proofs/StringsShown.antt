-- The strings of a walk have the indices and the languages that an explanation shows.
use Rattle.std.proofs.Common.{◌≡◌, ◌≤◌, ◌<◌, ℕ, zero, suc, ◌+◌, ◌*◌, ◌/◌, ◌%◌, List, [], ◌∷◌, false, get_or, length, map, drop, Option, Some, None, Ok, refl, sym, ap, ap₂, subst, ◌∙◌, arith}
use Rattle.std.specs.Prelude.{zip, slice_get, option_and_then}
use Rattle.std.specs.List.{range_with_len}
use Rattle.std.proofs.Math.Seq.{drop-cons}
use Rattle.std.proofs.lemmas.Nat.{div_below, mod_below}
use Rattle.std.proofs.lemmas.Option.{slice_get-get_or}
use Rattle.usb_file_data.specs.declared.file.Input.{Input}
use Rattle.usb_file_data.specs.declared.file.Input.TheVariants as inputs
use Rattle.usb_file_data.specs.declared.file.Strings.{Strings}
use Rattle.usb_file_data.specs.File.{are_wrong_strings, named_indices}
use Rattle.usb_file_data.specs.Inputs.{IsInput}
use Rattle.usb_file_data.proofs.Counts.{all_strings}
use Rattle.usb_explain.specs.declared.manner.Manner.{Manner}
use Rattle.usb_explain.specs.Subjects.{place_among, place_by, place_of, subject_of}
use Rattle.usb_walk.specs.declared.string_place.StringPlace.{StringPlace}
use Rattle.usb_walk.specs.NamedStrings.{no_string}
use Rattle.usb_walk.specs.WalkedStrings.{indexed, indexed_strings, string_places, strings_of}
use Rattle.usb_remarks.proofs.WalkedOutlines.{walk_has_strings}
use Rattle.usb_explain.specs.WalkedStrings.{WalkIsAsExplained, walked_place}
use Rattle.usb_walk.proofs.StringTexts.{count_places, places_are, zip_none}

-- the place that is shown of the string of a number among those of a file
abbrev shown_among : List ℕ → Strings → ℕ → Option StringPlace
shown_among indices s k = place_among (length indices) indices s k

among_some : (n : ℕ) (indices : List ℕ) (s : Strings) (k : ℕ) → 0 < n → place_among n indices s k ≡ place_by (slice_get s.languages (k / n)) (slice_get indices (k % n))
among_some zero indices s k some = absurd (omega (arith, some))
among_some (suc n) indices s k some = refl

one_shown : (indices : List ℕ) (s : Strings) (k : ℕ) (t : List ℕ) → 0 < length indices → k < length s.languages * length indices
    → walked_place (indexed (get_or (string_places indices s.languages) k no_string, t)) ≡ shown_among indices s k
one_shown indices s k t some below =
    let n = length indices in
    ap (λ (place : StringPlace). walked_place (indexed (place, t))) (places_are indices s.languages k some below)
    ∙ sym (among_some n indices s k some
    ∙ ap₂ place_by (slice_get-get_or s.languages (k / n) 0 (div_below k n (length s.languages) some below)) (slice_get-get_or indices (k % n) 0 (mod_below k n some)))

-- these strings, from this number on, are shown so
abbrev ShownFrom : (ℕ → Option StringPlace) → ℕ → List (StringPlace × List ℕ) → Type 0
ShownFrom shown k l = map walked_place (map indexed l) ≡ map shown (range_with_len k (length (map indexed l)))

texts_shown : (indices : List ℕ) (s : Strings) (k : ℕ) (texts : List (List ℕ)) → 0 < length indices → k + length texts ≤ length s.languages * length indices
    → ShownFrom (shown_among indices s) k (zip (drop k (string_places indices s.languages)) texts)
texts_shown indices s k [] some room =
    subst (ShownFrom (shown_among indices s) k) (sym (zip_none (drop k (string_places indices s.languages)))) refl
texts_shown indices s k (t ∷ ts) some room =
    let places = string_places indices s.languages in
    let shown = shown_among indices s in
    let below : k < length s.languages * length indices = omega (arith, room) in
    let here = drop-cons places k no_string (omega (arith, count_places indices s.languages, below)) in
    let next : k + 1 ≡ suc k = omega arith in
    let later = subst (λ n. ShownFrom shown (k + 1) (zip (drop n places) ts)) next (texts_shown indices s (k + 1) ts some (omega (arith, room))) in
    subst (λ l. ShownFrom shown k (zip l (t ∷ ts))) (sym here) (ap₂ ◌∷◌ (one_shown indices s k t some below) later)

file_shown : (indices : List ℕ) (o : Option Strings) → are_wrong_strings (length indices) o ≡ false
    → map walked_place (indexed_strings indices o)
    ≡ map (λ number. option_and_then (λ strings. place_among (length indices) indices strings number) o) (range_with_len 0 (length (indexed_strings indices o)))
file_shown indices None right = refl
file_shown indices (Some s) right =
    let all = all_strings (length indices) s right in
    texts_shown indices s 0 s.texts all.follow.named (omega (arith, all.whole))

input_shown : (manner : Manner) (input : Input) (b : List ℕ) → IsInput input b
    → map walked_place (strings_of input) ≡ map (place_of (subject_of manner (Ok input))) (range_with_len 0 (length (strings_of input)))
input_shown manner (inputs.Set set) b is = refl
input_shown manner (inputs.File f) b is = file_shown (named_indices f) f.strings is.texts
input_shown manner (inputs.Dump f) b is = refl

pub walk_is_as_explained : WalkIsAsExplained
walk_is_as_explained manner input b is =
    subst (λ strings. map walked_place strings ≡ map (place_of (subject_of manner (Ok input))) (range_with_len 0 (length strings)))
    (sym (walk_has_strings input b is)) (input_shown manner input b is)
