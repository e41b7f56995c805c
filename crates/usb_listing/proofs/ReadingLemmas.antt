-- A listing read line by line.
use Rattle.std.proofs.Common.{◌≡◌, ◌≢◌, inl, inr, ℕ, suc, ◌+◌, ◌<◌, ◌≤◌, true, false, List, [], ◌∷◌, ◌++◌, Option, Some, None, Result, Ok, Err, length, refl, ap, sym, subst, ◌∙◌, append_assoc, append-nil, length-append, arith, codes}
use Rattle.std.specs.List.{flat_map}
use Rattle.std.specs.Prelude.{IfErr, IfOk}
use Rattle.std.specs.Result.{IsErrAnd}
use Rattle.usb_file_data.specs.declared.file.DescriptorFile.{DescriptorFile}
use Rattle.usb_file_data.specs.File.{file_bytes}
use Rattle.usb_set.proofs.Growth.{flat_map-snoc}
use Rattle.usb_listing.specs.Listing.{file_lines}
use Rattle.usb_listing.specs.declared.draft.Draft.{Draft}
use Rattle.usb_listing.specs.declared.fault.ListFault.{ListFault}
use Rattle.usb_listing.specs.declared.fault.ListWhy.{ListWhy}
use Rattle.usb_listing.specs.declared.fault.ListWhy.TheVariants as whys
use Rattle.usb_listing.specs.Words.{first_word}
use Rattle.usb_listing.specs.Says.{Item, Says, item_line}
use Rattle.usb_listing.specs.Order.{IsOrdered, file_items, items_of}
use Rattle.usb_listing.specs.Listings.{Begins, FirstFaulty, FirstLine, IsBegun, IsPlaced, ListRefused, Lists, RestFaulty, is_whole, lines_of}
use Rattle.usb_listing.specs.declared.assembly.Form.{Form}
use Rattle.usb_listing.specs.inside.Drafts.{AreHeld, HasPlace, IsJudged, Reading, Stops, Takes, TakesLine, Reported, so_far}
use Rattle.usb_listing.specs.inside.Walking.{Refused, count_before, line_read, text_read, add_line}
use Rattle.usb_listing.proofs.FormLemmas.{before_passed, before_read, none_before_none, passed_cut, read_cut, read_none, refused}
use Rattle.usb_listing.proofs.FileLineLemmas.{lines_are}
use Rattle.usb_listing.proofs.MoreLemmas.{AreOrdered}
use Rattle.usb_listing.proofs.WalkLemmas.{Lasts, Makes, made_printable, makes, ordered_of}
use Rattle.usb_listing.proofs.StandLemmas.{may_then}
use Rattle.usb_listing.proofs.WholeLemmas.{whole_file}
use Rattle.usb_listing.proofs.WordLemmas.{word_read}

lines_of-are : (s : Option DescriptorFile) → AreOrdered s → lines_of s ≡ flat_map item_line (items_of s)
lines_of-are None h = refl
lines_of-are (Some f) h = lines_are f h

pub begun_of : (d : Option Draft) → AreHeld d → IsBegun (so_far d)
begun_of None h = tt
begun_of (Some d) h = h.begun

-- the line fits behind those before it
pub lines_more : (s : Option DescriptorFile) (f : DescriptorFile) (item : Item) (line : List ℕ) → AreOrdered s → IsOrdered f → file_items f ≡ items_of s ++ item ∷ [] → Says line item
    → file_lines f ≡ lines_of s ++ (line ++ codes "\n")
lines_more s f item line hs hf e says =
    lines_are f hf ∙ ap (flat_map item_line) e ∙ flat_map-snoc item_line (items_of s) item
    ∙ ap (λ (xs : List ℕ). xs ++ item_line item) (sym (lines_of-are s hs)) ∙ ap (λ (xs : List ℕ). lines_of s ++ xs) (sym says.text)

-- the parts of a text, with one more line in front of what is left
parts_more : (text rest line more : List ℕ) (s : Option DescriptorFile) (f : DescriptorFile) → IsBegun s → text ≡ lines_of s ++ rest → rest ≡ line ++ 10 ∷ more
    → Makes s line (Ok f) → text ≡ file_lines f ++ more
parts_more text rest line more s f begun parts first (front, item, items, says) =
    parts ∙ ap (λ (xs : List ℕ). lines_of s ++ xs) (first ∙ sym (append_assoc line (codes "\n") more))
    ∙ sym (append_assoc (lines_of s) (line ++ codes "\n") more) ∙ ap (λ (xs : List ℕ). xs ++ more) (sym (lines_more s f item line (ordered_of s begun) front.0 items says))

one_more : (s : Option DescriptorFile) (line : List ℕ) (f : DescriptorFile) → Makes s line (Ok f) → length (file_items f) ≡ suc (length (items_of s))
one_more s line f (front, item, items, says) =
    let count : length (file_items f) ≡ length (items_of s) + 1 = ap length items ∙ length-append (items_of s) (item ∷ []) in
    omega (arith, count)

pub reading_next : (form : Form) (text rest more : List ℕ) (old new : Option Draft) (n : ℕ) → Reading form text old rest n → TakesLine form old rest new more
    → length more < length rest → Reading form text new more (n + 1)
reading_next form text rest more old new n r t shorter = cases (line_read form t.line) refl t.takes
  where
    few : n + 1 + length more ≤ length text + 1
    few = let few = r.few in omega (arith, few, shorter)

    cases : (o : Option (List ℕ)) → line_read form t.line ≡ o → Takes o old new → Reading form text new more (n + 1)
    cases None e same = subst (λ (d : Option Draft). Reading form text d more (n + 1)) (sym same) (record {
      parts = r.parts ∙ ap (λ (xs : List ℕ). lines_of (so_far old) ++ xs) (passed_cut form rest t.line more t.cut e);
      lines = λ k.
          let was = r.lines k in
          let one = before_passed form rest t.line more k t.cut e in
          omega (arith, was, one);
      holds = r.holds;
      few = few;
    })
    cases (Some line) e drafted =
        let s = so_far old in
        let f = drafted.file in
        let begun = begun_of old r.holds in
        let cut = read_cut form rest t.line more line t.cut e in
        let print = made_printable s line f drafted.made in
        let made : Makes s line (Ok f) = subst (Makes s line) drafted.made (makes s line begun print) in
        let parts : text_read form text ≡ lines_of (Some f) ++ text_read form more =
        parts_more (text_read form text) (text_read form rest) line (text_read form more) s f begun r.parts cut.parts made in
        let numbers : (k : ℕ) → count_before form text (length (items_of (Some f)) + k) + 1 ≡ n + 1 + count_before form more k = λ k.
        let count : length (file_items f) + k ≡ length (items_of s) + suc k = (let one = one_more s line f made in omega (arith, one)) in
        let was = ap (λ (j : ℕ). count_before form text j + 1) count ∙ r.lines (suc k) in
        let one = before_read form rest t.line more line k t.cut e in
        omega (arith, was, one) in
        record {
          parts = subst (λ (x : Option DescriptorFile). text_read form text ≡ lines_of x ++ text_read form more) (sym drafted.is) parts;
          lines = subst (λ (x : Option DescriptorFile). (k : ℕ) → count_before form text (length (items_of x) + k) + 1 ≡ n + 1 + count_before form more k) (sym drafted.is) numbers;
          holds = drafted.holds;
          few = few;
        }

-- ---- faults

first_longer : (rest line more t : List ℕ) → FirstLine rest line more → FirstLine (rest ++ t) line (more ++ t)
first_longer rest line more t f = record { parts = ap (λ (xs : List ℕ). xs ++ t) f.parts ∙ append_assoc line (10 ∷ more) t; printable = f.printable }

first_lasts : (s : Option DescriptorFile) (rest t : List ℕ) (why : ListWhy) → FirstFaulty s rest why → FirstFaulty s (rest ++ t) why
first_lasts s rest t why h = record { line = h.line; more = h.more ++ t; first = first_longer rest h.line h.more t h.first; fault = h.fault }

pub lasting : (s : Option DescriptorFile) (rest t : List ℕ) (why : ListWhy) → Lasts s rest why → RestFaulty s (rest ++ t) why
lasting s rest t whys.Line (line, more, x, parts, print, bad, other) =
    let is : rest ++ t ≡ line ++ x ∷ (more ++ t) = ap (λ (xs : List ℕ). xs ++ t) parts ∙ append_assoc line (x ∷ more) t in
    let some : rest ++ t ≢ [] = λ e. some_behind line x (more ++ t) (sym is ∙ e) in
    (line, x ∷ (more ++ t), some, is, print, (bad, other))
  where
    some_behind : (line : List ℕ) (x : ℕ) (more : List ℕ) → line ++ x ∷ more ≡ [] → ⊥
    some_behind [] x more e = cc
    some_behind (y ∷ line) x more e = cc
lasting s rest t whys.Word h = first_lasts s rest t whys.Word h
lasting s rest t whys.Place h = first_lasts s rest t whys.Place h
lasting s rest t whys.Field h = first_lasts s rest t whys.Field h
lasting s rest t whys.TooLong h = first_lasts s rest t whys.TooLong h
lasting s rest t whys.Missing h = absurd h
lasting s rest t whys.Memory h = absurd h.fault

-- a fault that was reported is no want of memory
faulty_reported : (s : Option DescriptorFile) (rest : List ℕ) (why : ListWhy) → RestFaulty s rest why → Reported s rest why
faulty_reported s rest whys.Line h = h
faulty_reported s rest whys.Word h = h
faulty_reported s rest whys.Place h = h
faulty_reported s rest whys.Field h = h
faulty_reported s rest whys.TooLong h = h
faulty_reported s rest whys.Missing h = h
faulty_reported s rest whys.Memory h = absurd h.fault

placed_line : (s : Option DescriptorFile) (rest line more : List ℕ) → IsBegun s → FirstLine rest line more → HasPlace s line → IsPlaced s rest
placed_line s rest line more begun first place = record {
  line = line;
  more = more;
  first = first;
  word = place.word;
  word_is = word_read (first_word line) place.word place.is;
  may = may_then s place.word (ordered_of s begun) place.may;
}

pub reported_line : (s : Option DescriptorFile) (rest line more : List ℕ) (why : ListWhy) → IsBegun s → FirstLine rest line more → Stops (add_line s line) why
    → IsJudged s line why → Reported s rest why
reported_line s rest line more why begun first (inl memory) judged =
    subst (Reported s rest) (sym memory) (placed_line s rest line more begun first (subst (IsJudged s line) memory judged))
reported_line s rest line more why begun first (inr refused) judged =
    let made : Lasts s (line ++ 10 ∷ []) why = subst (Makes s line) refused (makes s line begun first.printable) in
    let is : (line ++ 10 ∷ []) ++ more ≡ rest = append_assoc line (10 ∷ []) more ∙ sym first.parts in
    subst (λ (xs : List ℕ). Reported s xs why) is (faulty_reported s ((line ++ 10 ∷ []) ++ more) why (lasting s (line ++ 10 ∷ []) more why made))

-- where the next line is read
begins_at : (form : Form) (text rest : List ℕ) (d : Option Draft) (n : ℕ) → Reading form text d rest n
    → Begins (text_read form text) (so_far d) (text_read form rest) (length (items_of (so_far d)) + 1)
begins_at form text rest d n r = record { begun = begun_of d r.holds; parts = r.parts; line_is = refl }

line_at : (form : Form) (text rest : List ℕ) (d : Option Draft) (n : ℕ) → Reading form text d rest n → count_before form rest 0 ≡ 0
    → n ≡ count_before form text (length (items_of (so_far d))) + 1
line_at form text rest d n r none =
    let here = r.lines 0 in
    let same : length (items_of (so_far d)) + 0 ≡ length (items_of (so_far d)) = omega arith in
    let line : count_before form text (length (items_of (so_far d))) + 1 ≡ n + count_before form rest 0 = ap (λ (j : ℕ). count_before form text j + 1) (sym same) ∙ here in
    omega (arith, line, none)

reported_refused : (text rest : List ℕ) (s : Option DescriptorFile) (n : ℕ) (why : ListWhy) → Begins text s rest n → Reported s rest why → ListRefused text n why
reported_refused text rest s n whys.Line b h = record { so_far = s; rest = rest; begins = b; fault = h }
reported_refused text rest s n whys.Word b h = record { so_far = s; rest = rest; begins = b; fault = h }
reported_refused text rest s n whys.Place b h = record { so_far = s; rest = rest; begins = b; fault = h }
reported_refused text rest s n whys.Field b h = record { so_far = s; rest = rest; begins = b; fault = h }
reported_refused text rest s n whys.TooLong b h = record { so_far = s; rest = rest; begins = b; fault = h }
reported_refused text rest s n whys.Missing b h = record { so_far = s; rest = rest; begins = b; fault = h }
reported_refused text rest s n whys.Memory b h = record { start = record { so_far = s; rest = rest; begins = b }; placed = h }

pub refused_line : (form : Form) (text rest : List ℕ) (d : Option Draft) (n m : ℕ) (why : ListWhy) → Reading form text d rest n → count_before form rest 0 ≡ 0 → m ≡ n
    → Reported (so_far d) (text_read form rest) why → Refused form text m why
refused_line form text rest d n m why r none e report =
    let s = so_far d in
    refused form text (length (items_of s)) m why (e ∙ line_at form text rest d n r none)
    (reported_refused (text_read form text) (text_read form rest) s (length (items_of s) + 1) why (begins_at form text rest d n r) report)

-- ---- the end

lists_whole : (form : Form) (text : List ℕ) (d : Option Draft) (n : ℕ) (f : DescriptorFile) → Reading form text d [] n → so_far d ≡ Some f → is_whole (Some f) ≡ true
    → Lists (text_read form text) f
lists_whole form text d n f r e whole =
    let begun : IsBegun (Some f) = subst IsBegun e (begun_of d r.holds) in
    let parts : text_read form text ≡ file_lines f ++ [] =
    r.parts ∙ ap (λ (s : Option DescriptorFile). lines_of s ++ text_read form []) e ∙ ap (λ (xs : List ℕ). file_lines f ++ xs) (read_none form [] tt) in
    record { lines = parts ∙ append-nil (file_lines f); bytes = file_bytes f; file = whole_file f begun whole }

missing_end : (form : Form) (text : List ℕ) (d : Option Draft) (n : ℕ) → Reading form text d [] n → is_whole (so_far d) ≡ false → Refused form text n whys.Missing
missing_end form text d n r e = refused_line form text [] d n n whys.Missing r (none_before_none form [] tt) refl (read_none form [] tt, e)

pub lists_end : (form : Form) (r : Result DescriptorFile ListFault) (text : List ℕ) (d : Option Draft) (n : ℕ) → Reading form text d [] n → IfOk r (λ f. so_far d ≡ Some f)
    → IfOk r (λ f. is_whole (Some f) ≡ true) → IfOk r (λ f. Lists (text_read form text) f)
lists_end form (Err e) text d n reading is whole = tt
lists_end form (Ok f) text d n reading is whole = lists_whole form text d n f reading is whole

pub refused_end : (form : Form) (r : Result DescriptorFile ListFault) (text : List ℕ) (d : Option Draft) (n : ℕ) → Reading form text d [] n
    → IfErr r (λ fault. is_whole (so_far d) ≡ false) → IfErr r (λ fault. fault ≡ record { line = n; why = whys.Missing })
    → IfErr r (λ fault. Refused form text fault.line fault.why)
refused_end form (Ok f) text d n reading due is = tt
refused_end form (Err e) text d n reading due is = subst (λ (z : ListFault). Refused form text z.line z.why) (sym is) (missing_end form text d n reading due)

pub passed_on : {A : Type 0} (form : Form) (r : Result A ListFault) (text : List ℕ) (e : ListFault) → IsErrAnd r (λ y. y ≡ e) → Refused form text e.line e.why
    → IfErr r (λ fault. Refused form text fault.line fault.why)
passed_on form (Ok x) text e is h = tt
passed_on form (Err y) text e is h = subst (λ (z : ListFault). Refused form text z.line z.why) (sym is) h
