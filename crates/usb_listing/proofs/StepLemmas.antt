-- On a line that is read into a draft.
use Rattle.std.proofs.Common.{◌≡◌, inl, inr, ℕ, Bool, true, false, cond, List, ◌++◌, Option, Some, None, is_some, Result, Ok, Err, length, drop, refl, ap, sym, subst, ◌∙◌}
use Rattle.std.specs.Prelude.{IfErr, OnOk, option_and_then}
use Rattle.std.specs.Option.{option_map}
use Rattle.usb_file_data.specs.declared.file.DescriptorFile.{DescriptorFile}
use Rattle.usb_listing.specs.Table.{Row}
use Rattle.usb_listing.specs.declared.draft.Draft.{Draft}
use Rattle.usb_listing.specs.declared.fault.ListWhy.{ListWhy}
use Rattle.usb_listing.specs.declared.fault.ListWhy.TheVariants as whys
use Rattle.usb_listing.specs.declared.word.Word.{Word}
use Rattle.usb_listing.specs.declared.word.Word.TheVariants as words
use Rattle.usb_listing.specs.Words.{first_word, word_text}
use Rattle.usb_listing.specs.Says.{IsItem, Item, fields, is_typed_raw, languages, row_for, string}
use Rattle.usb_listing.specs.Order.{has_over}
use Rattle.usb_listing.specs.inside.Drafts.{Drafted, HasPlace, IsDraft, IsJudged, IsMisplaced, Refuses, Stops, so_far}
use Rattle.usb_listing.specs.inside.Rows.{word_in, fields_in, item_in, item_of_line, languages_in, says_fields, string_in, untyped}
use Rattle.usb_listing.specs.inside.Growing.{may_stand}
use Rattle.usb_listing.specs.inside.Walking.{add, add_item, add_line, add_word, grown}
use Rattle.usb_listing.proofs.SaysLemmas.{described, item_read}
use Rattle.usb_listing.proofs.WordLemmas.{word_read}
use Rattle.usb_file_data.proofs.Lists.{drop_front}

-- ---- a descriptor that was added

pub drafted : (s : Option DescriptorFile) (item : Item) (new : Draft) → IsDraft (grown s item) new → Drafted (add s item) (Some new)
drafted s item new i =
    let short : has_over (grown s item) ≡ false = subst (λ (f : DescriptorFile). has_over f ≡ false) i.file i.holds.begun.1 in
    record {
      file = grown s item;
      is = ap Some i.file;
      made = ap (λ (b : Bool). cond b (Err whys.TooLong) (Ok (grown s item))) short;
      holds = i.holds;
    }

stopped : (s : Option DescriptorFile) (item : Item) (why : ListWhy) → Refuses (grown s item) why → Stops (add s item) why
stopped s item why (inl memory) = inl memory
stopped s item why (inr (is, over)) = inr (ap (λ (b : Bool). cond b (Err whys.TooLong) (Ok (grown s item))) over ∙ ap Err (sym is))

pub some_drafted : (old : Option Draft) (d new : Draft) (found : Option Item) (item : Item) → old ≡ Some d → found ≡ Some item → IsDraft (grown (Some d.file) item) new
    → Drafted (add_item (so_far old) found) (Some new)
some_drafted old d new found item is read i =
    let h = drafted (Some d.file) item new i in
    record { file = h.file; is = h.is; made = ap (λ (o : Option Draft). add_item (so_far o) found) is ∙ ap (add_item (Some d.file)) read ∙ h.made; holds = h.holds }

-- answers passed on
pub drafted_same : (r : Result (Unit {0}) ListWhy) (a b : Result DescriptorFile ListWhy) (new : Option Draft) → b ≡ a → OnOk r (Drafted a new) → OnOk r (Drafted b new)
drafted_same (Err e) a b new is h = tt
drafted_same (Ok u) a b new is h = record { file = h.file; is = h.is; made = is ∙ h.made; holds = h.holds }

pub stops_same : (r : Result (Unit {0}) ListWhy) (a b : Result DescriptorFile ListWhy) → b ≡ a → IfErr r (λ why. Stops a why) → IfErr r (λ why. Stops b why)
stops_same (Ok u) a b is h = tt
stops_same (Err why) a b is (inl memory) = inl memory
stops_same (Err why) a b is (inr refused) = inr (is ∙ refused)

-- ---- the text behind a word

says : (w : Word) (text : List ℕ) → says_fields w ≡ true → item_in w text ≡ option_and_then (untyped w) (fields_in w text)
says w text e = cases (row_for w) refl e
  where
    cases : (o : Option Row) → row_for w ≡ o → is_some o ≡ true → item_in w text ≡ option_and_then (untyped w) (fields_in w text)
    cases None eo e = cc
    cases (Some row) eo e = described w row text eo

pub no_fields : (s : Option DescriptorFile) (w : Word) (text : List ℕ) → says_fields w ≡ true → fields_in w text ≡ None → add_item s (item_in w text) ≡ Err whys.Field
no_fields s w text h e = ap (add_item s) (says w text h ∙ ap (option_and_then (untyped w)) e)

typed_item : (w : Word) (text b : List ℕ) (t : Bool) → says_fields w ≡ true → fields_in w text ≡ Some b → is_typed_raw w b ≡ t → item_in w text ≡ cond t None (Some (fields w b))
typed_item w text b t h e et = says w text h ∙ ap (option_and_then (untyped w)) e ∙ ap (λ (c : Bool). cond c None (Some (fields w b))) et

pub typed_fields : (s : Option DescriptorFile) (w : Word) (text b : List ℕ) → says_fields w ≡ true → fields_in w text ≡ Some b → is_typed_raw w b ≡ true → add_item s (item_in w text) ≡ Err whys.Field
typed_fields s w text b h e et = ap (add_item s) (typed_item w text b true h e et)

pub some_fields : (s : Option DescriptorFile) (w : Word) (text b : List ℕ) → says_fields w ≡ true → fields_in w text ≡ Some b → is_typed_raw w b ≡ false → add_item s (item_in w text) ≡ add s (fields w b)
some_fields s w text b h e et = ap (add_item s) (typed_item w text b false h e et)

pub are_fields : (w : Word) (text b : List ℕ) → says_fields w ≡ true → fields_in w text ≡ Some b → is_typed_raw w b ≡ false → IsItem (fields w b)
are_fields w text b h e et = (item_read w text (fields w b) (typed_item w text b false h e et)).is_item

pub languages_item : (text us : List ℕ) → languages_in text ≡ Some us → item_in words.Languages text ≡ Some (languages us)
unfolding item_in
languages_item text us e = ap (option_map languages) e

pub no_languages : (text : List ℕ) → languages_in text ≡ None → item_in words.Languages text ≡ None
unfolding item_in
no_languages text e = ap (option_map languages) e

pub string_item : (text us : List ℕ) → string_in text ≡ Some us → item_in words.String text ≡ Some (string us)
unfolding item_in
string_item text us e = ap (option_map string) e

pub no_string : (text : List ℕ) → string_in text ≡ None → item_in words.String text ≡ None
unfolding item_in
no_string text e = ap (option_map string) e

pub is_item : (w : Word) (text : List ℕ) (item : Item) → item_in w text ≡ Some item → IsItem item
is_item w text item e = (item_read w text item e).is_item

-- ---- a line

pub no_word : (s : Option DescriptorFile) (line : List ℕ) → word_in (first_word line) ≡ None → add_line s line ≡ Err whys.Word
unfolding add_line
no_word s line e = ap (λ (o : Option Word). add_word s o (item_of_line line)) e

pub no_place : (s : Option DescriptorFile) (line : List ℕ) (w : Word) → word_in (first_word line) ≡ Some w → may_stand s w ≡ false → add_line s line ≡ Err whys.Place
unfolding add_line
no_place s line w e may =
    ap (λ (o : Option Word). add_word s o (item_of_line line)) e ∙ ap (λ (b : Bool). cond b (add_item s (item_of_line line)) (Err whys.Place)) may

pub placed : (s : Option DescriptorFile) (line : List ℕ) (w : Word) (found : Option Item) → word_in (first_word line) ≡ Some w → may_stand s w ≡ true → item_of_line line ≡ found
    → add_line s line ≡ add_item s found
unfolding add_line
placed s line w found e may is =
    ap (λ (o : Option Word). add_word s o (item_of_line line)) e ∙ ap (λ (b : Bool). cond b (add_item s (item_of_line line)) (Err whys.Place)) may ∙ ap (add_item s) is

-- where a line was split
split_item : (line first text : List ℕ) (w : Word) → first ≡ first_word line → line ≡ first ++ text → word_in first ≡ Some w → item_of_line line ≡ item_in w text
unfolding item_of_line
split_item line first text w is parts e =
    ap (option_and_then (λ (word : Word). item_in word (drop (length (word_text word)) line))) (ap word_in (sym is) ∙ e)
    ∙ ap (item_in w) (ap (drop (length (word_text w))) (parts ∙ ap (λ (xs : List ℕ). xs ++ text) (word_read first w e)) ∙ drop_front (word_text w) text)

-- a line whose word is none, or may not stand there
pub split_misplaced : (s : Option DescriptorFile) (line first : List ℕ) (why : ListWhy) → first ≡ first_word line → IsMisplaced s (word_in first) why → add_line s line ≡ Err why
split_misplaced s line first why is h = cases (word_in first) refl h
  where
    cases : (o : Option Word) → word_in first ≡ o → IsMisplaced s o why → add_line s line ≡ Err why
    cases None e word = no_word s line (ap word_in (sym is) ∙ e) ∙ ap Err (sym word)
    cases (Some w) e (may, place) = no_place s line w (ap word_in (sym is) ∙ e) may ∙ ap Err (sym place)

pub judged_misplaced : (s : Option DescriptorFile) (line : List ℕ) (o : Option Word) (why : ListWhy) → IsMisplaced s o why → IsJudged s line why
judged_misplaced s line None why is = subst (IsJudged s line) (sym is) tt
judged_misplaced s line (Some w) why (may, is) = subst (IsJudged s line) (sym is) tt

pub split_placed : (s : Option DescriptorFile) (line first text : List ℕ) (w : Word) → first ≡ first_word line → line ≡ first ++ text → word_in first ≡ Some w → may_stand s w ≡ true
    → add_line s line ≡ add_item s (item_in w text)
split_placed s line first text w is parts e may = placed s line w (item_in w text) (ap word_in (sym is) ∙ e) may (split_item line first text w is parts e)

-- memory is asked for behind a word that may stand there
pub split_judged : (r : Result (Unit {0}) ListWhy) (s : Option DescriptorFile) (line first : List ℕ) (w : Word) → first ≡ first_word line → word_in first ≡ Some w → may_stand s w ≡ true
    → IfErr r (λ why. IsJudged s line why)
split_judged (Ok u) s line first w is e may = tt
split_judged (Err why) s line first w is e may = cases why
  where
    place : HasPlace s line
    place = record { word = w; is = ap word_in (sym is) ∙ e; may = may }

    cases : (why : ListWhy) → IsJudged s line why
    cases whys.Memory = place
    cases why = tt
