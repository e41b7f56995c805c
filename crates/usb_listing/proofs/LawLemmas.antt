-- Of all texts exactly one holds: a listing, or one fault at one line; and a listing has one file.
use Rattle.std.proofs.Common.{◌≡◌, ◌≢◌, ◌⊎◌, inl, inr, ℕ, ◌+◌, ◌≤◌, ◌==◌, ◌&&◌, Bool, true, false, cond, List, [], ◌∷◌, ◌++◌, Option, Some, None, Result, Ok, Err, length, refl, ap, sym, subst, ◌∙◌, append_assoc, append-nil, length-append, arith}
use Rattle.std.specs.Prelude.{IfErr}
use Rattle.std.specs.List.{list_all}
use Rattle.std.proofs.lemmas.Bool.{and_from, eqb-false, eqb-true}
use Rattle.std.proofs.lemmas.List.Folds.{list_all-append}
use Rattle.usb_file_data.specs.declared.file.DescriptorFile.{DescriptorFile}
use Rattle.usb_file_data.specs.File.{file_bytes}
use Rattle.usb_listing.specs.Listing.{file_lines}
use Rattle.usb_text.specs.Lines.{is_printable}
use Rattle.usb_listing.specs.declared.fault.ListFault.{ListFault}
use Rattle.usb_listing.specs.declared.fault.ListWhy.{ListWhy}
use Rattle.usb_listing.specs.declared.fault.ListWhy.TheVariants as whys
use Rattle.usb_listing.specs.Listings.{ListingOrFault, is_faulty, is_listing, IsBegun, IsLineStart, IsPlaced, ListFaulty, ListRefused, Lists, MayWant, RestFaulty, is_whole, lines_of}
use Rattle.usb_listing.specs.Words.{first_word}
use Rattle.usb_listing.specs.Says.{Item}
use Rattle.usb_listing.specs.Order.{has_over, items_of}
use Rattle.usb_listing.specs.inside.Rows.{word_in, item_of_line}
use Rattle.usb_listing.specs.inside.Walking.{Walk, add_item, add_line, after_line, answer_of, fault_behind, going, grown, stopped, walk, walk_byte, walk_end}
use Rattle.usb_listing.proofs.AnswerLemmas.{answer_faulty, answer_listing, walk_front}
use Rattle.usb_listing.proofs.LessLemmas.{may_is}
use Rattle.usb_listing.proofs.ReadingLemmas.{lasting, lines_more}
use Rattle.usb_listing.proofs.StepLemmas.{placed}
use Rattle.usb_listing.proofs.WalkLemmas.{Makes, Printable, makes, ordered_of, walk_stopped, walk_whole}
use Rattle.usb_listing.proofs.WholeLemmas.{whole_file}
use Rattle.usb_listing.proofs.WordLemmas.{word_again}

-- ---- at most one

pub one_file : (text : List ℕ) (f g : DescriptorFile) → Lists text f → Lists text g → f ≡ g
one_file text f g lf lg =
    ap (λ (r : Result DescriptorFile ListFault). elim r as (λ q. DescriptorFile) [ Ok h ↦ h | Err e ↦ f ]) (sym (answer_listing text f lf) ∙ answer_listing text g lg)

pub one_fault : (text : List ℕ) (m n : ℕ) (v w : ListWhy) → ListFaulty text m v → ListFaulty text n w → (m ≡ n) × (v ≡ w)
one_fault text m n v w lv lw =
    let same : Err (record { line = m; why = v }) ≡ Err (record { line = n; why = w }) = sym (answer_faulty text m v lv) ∙ answer_faulty text n w lw in
    let fault : Result DescriptorFile ListFault → ListFault = λ r. elim r as (λ q. ListFault) [ Ok h ↦ record { line = m; why = v } | Err e ↦ e ] in
    (ap (λ (r : Result DescriptorFile ListFault). (fault r).line) same, ap (λ (r : Result DescriptorFile ListFault). (fault r).why) same)

pub not_both : (text : List ℕ) (f : DescriptorFile) (n : ℕ) (w : ListWhy) → Lists text f → ListFaulty text n w → ⊥
not_both text f n w l lw =
    apart (answer_of text) f (record { line = n; why = w }) (answer_listing text f l) (answer_faulty text n w lw)
  where
    apart : (r : Result DescriptorFile ListFault) (g : DescriptorFile) (e : ListFault) → r ≡ Ok g → r ≡ Err e → ⊥
    apart (Ok h) g e ok err = cc
    apart (Err h) g e ok err = cc

-- ---- at least one

-- what is so of the bytes that were walked
abbrev Walked : List ℕ → Walk → Type 0
Walked text (going s n line) = IsBegun s × (text ≡ lines_of s ++ line) × Printable line × (n ≡ length (items_of s))
Walked text (stopped n why) = (t : List ℕ) → ListFaulty (text ++ t) (n + 1) why

fault_behind_lines : (text : List ℕ) (s : Option DescriptorFile) (n : ℕ) (rest : List ℕ) (why : ListWhy) → IsBegun s → text ≡ lines_of s ++ rest → n ≡ length (items_of s)
    → RestFaulty s rest why → ListFaulty text (n + 1) why
fault_behind_lines text s n rest why begun parts count fault = record {
  so_far = s;
  rest = rest;
  begins = record { begun = begun; parts = parts; line_is = ap (λ (k : ℕ). k + 1) count };
  fault = fault;
}

longer : (text front line more : List ℕ) → text ≡ front ++ line → text ++ more ≡ front ++ (line ++ more)
longer text front line more e = ap (λ (ys : List ℕ). ys ++ more) e ∙ append_assoc front line more

-- what a line feed makes
walked_line : (text : List ℕ) (s : Option DescriptorFile) (n : ℕ) (line : List ℕ) → text ≡ lines_of s ++ line → IsBegun s → n ≡ length (items_of s)
    → (r : Result DescriptorFile ListWhy) → Makes s line r → Walked (text ++ 10 ∷ []) (after_line n r)
walked_line text s n line parts begun count (Ok f) (front, item, items, says) =
    let more : text ++ 10 ∷ [] ≡ file_lines f ++ [] =
    longer text (lines_of s) line (10 ∷ []) parts ∙ sym (lines_more s f item line (ordered_of s begun) front.0 items says) ∙ sym (append-nil (file_lines f)) in
    let one : length (items_of (Some f)) ≡ length (items_of s) + 1 = ap length items ∙ length-append (items_of s) (item ∷ []) in
    (front, more, refl, ap (λ (k : ℕ). k + 1) count ∙ sym one)
walked_line text s n line parts begun count (Err why) h = λ t.
    fault_behind_lines ((text ++ 10 ∷ []) ++ t) s n ((line ++ 10 ∷ []) ++ t) why begun
    (longer (text ++ 10 ∷ []) (lines_of s) (line ++ 10 ∷ []) t (longer text (lines_of s) line (10 ∷ []) parts)) count (lasting s (line ++ 10 ∷ []) t why h)

-- one byte more
walked_byte : (text : List ℕ) (w : Walk) (x : ℕ) → Walked text w → Walked (text ++ x ∷ []) (walk_byte w x)
unfolding walk_byte
walked_byte text (stopped n why) x h = λ t. subst (λ (ys : List ℕ). ListFaulty ys (n + 1) why) (sym (append_assoc text (x ∷ []) t)) (h (x ∷ t))
walked_byte text (going s n line) x (begun, parts, print, count) = cases (is_printable x) (x == 10) refl refl
  where
    cases : (a b : Bool) → is_printable x ≡ a → (x == 10) ≡ b
        → Walked (text ++ x ∷ []) (cond a (going s n (line ++ x ∷ [])) (cond b (after_line n (add_line s line)) (stopped n whys.Line)))
    cases true b ea eb = (
      begun,
      longer text (lines_of s) line (x ∷ []) parts,
      list_all-append is_printable line (x ∷ []) ∙ and_from (list_all is_printable line) (is_printable x && true) print (and_from (is_printable x) true ea refl),
      count,
    )
    cases false true ea eb =
        subst (λ (y : ℕ). Walked (text ++ y ∷ []) (after_line n (add_line s line))) (sym (eqb-true x 10 eb))
        (walked_line text s n line parts begun count (add_line s line) (makes s line begun print))
    cases false false ea eb = λ t.
        let is : (text ++ x ∷ []) ++ t ≡ lines_of s ++ (line ++ x ∷ t) = append_assoc text (x ∷ []) t ∙ longer text (lines_of s) line (x ∷ t) parts in
        fault_behind_lines ((text ++ x ∷ []) ++ t) s n (line ++ x ∷ t) whys.Line begun is count
        (line, x ∷ t, some line t, refl, print, (ea, eqb-false x 10 eb))
      where
        some : (line t : List ℕ) → line ++ x ∷ t ≢ []
        some [] t = λ e. cc
        some (y ∷ line) t = λ e. cc

walked_all : (text rest : List ℕ) (w : Walk) → Walked text w → Walked (text ++ rest) (walk w rest)
walked_all text [] w h = subst (λ (ys : List ℕ). Walked ys w) (sym (append-nil text)) h
walked_all text (x ∷ rest) w h =
    subst (λ (ys : List ℕ). Walked ys (walk (walk_byte w x) rest)) (append_assoc text (x ∷ []) rest) (walked_all (text ++ x ∷ []) rest (walk_byte w x) (walked_byte text w x h))

-- at the end of the text
walked_end : (text : List ℕ) (w : Walk) → Walked text w → ListingOrFault text
walked_end text (stopped n why) h = is_faulty (n + 1) why (subst (λ (ys : List ℕ). ListFaulty ys (n + 1) why) (append-nil text) (h []))
walked_end text (going s n (x ∷ line)) (begun, parts, print, count) =
    is_faulty (n + 1) whys.Line
    (fault_behind_lines text s n (x ∷ line) whys.Line begun parts count (x ∷ line, [], (λ e. cc), sym (append-nil (x ∷ line)), print, tt))
walked_end text (going None n []) (begun, parts, print, count) =
    is_faulty (n + 1) whys.Missing (fault_behind_lines text None n [] whys.Missing begun parts count (refl, refl))
walked_end text (going (Some f) n []) (begun, parts, print, count) = cases (is_whole (Some f)) refl
  where
    cases : (b : Bool) → is_whole (Some f) ≡ b → ListingOrFault text
    cases true e = is_listing f (record { lines = parts ∙ append-nil (file_lines f); bytes = file_bytes f; file = whole_file f begun e })
    cases false e = is_faulty (n + 1) whys.Missing (fault_behind_lines text (Some f) n [] whys.Missing begun parts count (refl, e))

pub listing_or_fault : (text : List ℕ) → ListingOrFault text
listing_or_fault text = walked_end text (walk (going None 0 []) text) (walked_all [] text (going None 0 []) (tt, refl, refl, refl))

-- ---- a listing is refused out of memory alone

pub want_of_memory : (text : List ℕ) (f : DescriptorFile) (line : ℕ) (why : ListWhy) → Lists text f → ListRefused text line why → why ≡ whys.Memory
want_of_memory text f line whys.Line l h = absurd (not_both text f line whys.Line l h)
want_of_memory text f line whys.Word l h = absurd (not_both text f line whys.Word l h)
want_of_memory text f line whys.Place l h = absurd (not_both text f line whys.Place l h)
want_of_memory text f line whys.Field l h = absurd (not_both text f line whys.Field l h)
want_of_memory text f line whys.TooLong l h = absurd (not_both text f line whys.TooLong l h)
want_of_memory text f line whys.Missing l h = absurd (not_both text f line whys.Missing l h)
want_of_memory text f line whys.Memory l h = refl

pub for_memory : (r : Result DescriptorFile ListFault) (text : List ℕ) (f : DescriptorFile) → Lists text f → IfErr r (λ fault. ListRefused text fault.line fault.why)
    → IfErr r (λ fault. fault.why ≡ whys.Memory)
for_memory (Ok g) text f l h = tt
for_memory (Err e) text f l h = want_of_memory text f e.line e.why l h

-- ---- no line behind the first one at fault is reached

-- how many lines stand before the current one, or the one at fault
abbrev lines_walked : Walk → ℕ
lines_walked (going s n line) = n
lines_walked (stopped n why) = n

no_fewer : (w : Walk) (x : ℕ) → lines_walked w ≤ lines_walked (walk_byte w x)
unfolding walk_byte
no_fewer (stopped n why) x = omega arith
no_fewer (going s n line) x = cases (is_printable x) (x == 10)
  where
    fed : (r : Result DescriptorFile ListWhy) → n ≤ lines_walked (after_line n r)
    fed (Ok f) = omega arith
    fed (Err why) = omega arith

    cases : (a b : Bool) → n ≤ lines_walked (cond a (going s n (line ++ x ∷ [])) (cond b (after_line n (add_line s line)) (stopped n whys.Line)))
    cases true b = omega arith
    cases false true = fed (add_line s line)
    cases false false = omega arith

none_fewer : (w : Walk) (text : List ℕ) → lines_walked w ≤ lines_walked (walk w text)
none_fewer w [] = omega arith
none_fewer w (x ∷ text) =
    let one = no_fewer w x in
    let more = none_fewer (walk_byte w x) text in
    omega (arith, one, more)

-- where the answer tells the fault
abbrev reported_line : Result DescriptorFile ListFault → ℕ
reported_line (Ok f) = 0
reported_line (Err e) = e.line

end_reported : (w : Walk) (e : ListFault) → walk_end w ≡ Err e → e.line ≡ lines_walked w + 1
end_reported (stopped n why) e is = sym (ap reported_line is)
end_reported (going s n (x ∷ line)) e is = sym (ap reported_line is)
end_reported (going None n []) e is = sym (ap reported_line is)
end_reported (going (Some f) n []) e is = cases (is_whole (Some f)) is
  where
    cases : (b : Bool) → cond b (Ok f) (Err (fault_behind n whys.Missing)) ≡ Err e → e.line ≡ n + 1
    cases true is = cc
    cases false is = sym (ap reported_line is)

pub reached : (text : List ℕ) (m n : ℕ) (why : ListWhy) → IsLineStart text m → ListFaulty text n why → m ≤ n
unfolding answer_of
reached text m n why start fault =
    let b = start.begins in
    let k = length (items_of start.so_far) in
    let w = walk (going start.so_far k []) start.rest in
    let walked : walk (going None 0 []) text ≡ w = walk_front text start.so_far start.rest m b in
    let report : n ≡ lines_walked w + 1 = end_reported w (record { line = n; why = why }) (sym (ap walk_end walked) ∙ answer_faulty text n why fault) in
    let more : k ≤ lines_walked w = none_fewer (going start.so_far k []) start.rest in
    let line = b.line_is in
    omega (arith, report, more, line)

-- ---- at a line that is judged up to its fields

-- what a line may make whose word may stand there
abbrev IsLate : ListWhy → Type 0
IsLate why = (why ≡ whys.Field) ⊎ (why ≡ whys.TooLong)

abbrev AreLate : Result DescriptorFile ListWhy → Type 0
AreLate (Ok f) = Unit {0}
AreLate (Err why) = IsLate why

added_late : (s : Option DescriptorFile) (found : Option Item) → AreLate (add_item s found)
added_late s None = inl refl
added_late s (Some item) = cases (has_over (grown s item))
  where
    cases : (b : Bool) → AreLate (cond b (Err whys.TooLong) (Ok (grown s item)))
    cases true = inr refl
    cases false = tt

placed_late : (s : Option DescriptorFile) (rest : List ℕ) → IsBegun s → (p : IsPlaced s rest) → AreLate (add_line s p.line)
placed_late s rest begun p =
    let is : word_in (first_word p.line) ≡ Some p.word = ap word_in p.word_is ∙ word_again p.word in
    subst AreLate (sym (placed s p.line p.word (item_of_line p.line) is (may_is s p.word (ordered_of s begun) p.may) refl)) (added_late s (item_of_line p.line))

-- the fault of the line
late_reported : (k n : ℕ) (more : List ℕ) (why : ListWhy) (r : Result DescriptorFile ListWhy) → AreLate r → n ≡ k + 1
    → walk_end (walk (after_line k r) more) ≡ Err (record { line = n; why = why }) → IsLate why
late_reported k n more why (Ok f) late at report =
    let w = walk (going (Some f) (k + 1) []) more in
    let line : n ≡ lines_walked w + 1 = end_reported w (record { line = n; why = why }) report in
    let past : k + 1 ≤ lines_walked w = none_fewer (going (Some f) (k + 1) []) more in
    absurd (omega (arith, at, line, past))
late_reported k n more why (Err v) late at report =
    let same : Err (fault_behind k v) ≡ Err (record { line = n; why = why }) = ap walk_end (sym (walk_stopped k v more)) ∙ report in
    subst IsLate (ap reported_why same) late
  where
    reported_why : Result DescriptorFile ListFault → ListWhy
    reported_why (Ok f) = why
    reported_why (Err e) = e.why

pub judged : (text : List ℕ) (n : ℕ) (why : ListWhy) → MayWant text n → ListFaulty text n why → (why ≡ whys.Field) ⊎ (why ≡ whys.TooLong)
unfolding answer_of
judged text n why wants fault =
    let s = wants.start.so_far in
    let b = wants.start.begins in
    let k = length (items_of s) in
    let p = wants.placed in
    let walked : walk (going None 0 []) text ≡ walk (after_line k (add_line s p.line)) p.more =
    walk_front text s wants.start.rest n b ∙ ap (walk (going s k [])) p.first.parts ∙ walk_whole s k p.line p.more p.first.printable in
    late_reported k n p.more why (add_line s p.line) (placed_late s wants.start.rest b.begun p) b.line_is (ap walk_end (sym walked) ∙ answer_faulty text n why fault)
