-- The lines of an explanation, descriptor by descriptor.
use Rattle.std.proofs.Common.{◌≡◌, ◌≤◌, ◌<◌, ◌⊎◌, inl, inr, ℕ, ◌+◌, Bool, true, count_by, List, [], ◌∷◌, ◌++◌, drop, flat_map, length, take, Some, None, Result, Ok, Err, refl, sym, ap, subst, ◌∙◌, arith, append_assoc, append-nil}
use Rattle.std.proofs.lemmas.Grind.{flat_map-append}
use Rattle.std.proofs.Math.Seq.{take-append_seam}
use Rattle.std.specs.Io.KnownBytes.{Appends, Keeps}
use Rattle.std.specs.Prelude.{IfErr, IsErrAnd}
use Rattle.usb_text.specs.Lines.{is_line_feed}
use Rattle.usb_text.specs.Output.{Held}
use Rattle.usb_text.specs.Shown.{Shown, Number, Bytes, Units, Name, Indent, End, ends, showing_all, with_shown}
use Rattle.usb_text.specs.Written.{LineBytes, PutsLines, WritesLess, WritesLines, Written, is_whole, more_lines, no_lines, written}
use Rattle.usb_text.specs.declared.output.OutFault.{OutFault}
use Rattle.usb_text.specs.declared.output.OutFault.TheVariants as outs
use Rattle.usb_text.proofs.Pages.{appends_nothing, keeps_refl}
use Rattle.usb_text.proofs.ShownLines.{shown_lines}
use Rattle.usb_text.proofs.WrittenLines.{less_more, lines_more, no_lines_written, puts_broken, puts_finished, puts_less, puts_lines, puts_passed, whole_counts}
use Rattle.usb_explain.specs.Descriptors.{found_lines, fields, heading, heading_shown, lines_of}
use Rattle.usb_explain.specs.declared.manner.Manner.{Manner}
use Rattle.usb_explain.specs.Explanations.{EndsBetween, before_fault, beginning, counts_line, descriptors_of, ending, explanation, first_line, found_of, rest_lines}
use Rattle.usb_explain.specs.Containers.{container_of}
use Rattle.usb_explain.specs.Faults.{fault_lines, fault_shown, look_line}
use Rattle.usb_file_data.specs.declared.cause.Found.{Found}
use Rattle.usb_explain.specs.Lines.{place_shown}
use Rattle.usb_explain.specs.LastLines.{count_shown, last_line, remark_count}
use Rattle.usb_remarks.specs.Outline.{Described, bytes_of, outline}
use Rattle.usb_explain.specs.RemarkLines.{remark_lines}
use Rattle.usb_explain.specs.Subjects.{Reading, Subject, subject_of}
use Rattle.usb_explain.specs.inside.Explaining.{Breaking, DoneSoFar, LosesLines, Passing, PassesLines, ShowsEach, ShowsExplanation, StopsAtOne, StopsBetween, StopsExplanation, line_count}

-- ---- how many lines are ended

pub ends_joined : (xs ys : List Shown) → ends (xs ++ ys) ≡ ends xs + ends ys
ends_joined [] ys = omega arith
ends_joined (End ∷ xs) ys = let more = ends_joined xs ys in omega (arith, more)
ends_joined (Number n ∷ xs) ys = ends_joined xs ys
ends_joined (Bytes b ∷ xs) ys = ends_joined xs ys
ends_joined (Units u ∷ xs) ys = ends_joined xs ys
ends_joined (Name n ∷ xs) ys = ends_joined xs ys
ends_joined (Indent n ∷ xs) ys = ends_joined xs ys

counts_joined : (subject : Subject) (xs ys : List Described) → line_count subject (xs ++ ys) ≡ line_count subject xs + line_count subject ys
counts_joined subject xs ys = ap ends (flat_map-append (lines_of subject) xs ys) ∙ ends_joined (flat_map (lines_of subject) xs) (flat_map (lines_of subject) ys)

one_more : (subject : Subject) (xs : List Described) (d : Described) → line_count subject (xs ++ (d ∷ [])) ≡ line_count subject xs + ends (lines_of subject d)
one_more subject xs d = counts_joined subject xs (d ∷ []) ∙ ap (λ l. line_count subject xs + ends l) (append-nil (lines_of subject d))

-- a descriptor has a line at least
heading_has : (subject : Subject) (d : Described) → 0 < ends (heading subject d)
unfolding heading
heading_has subject d =
    let shown = heading_shown d.role subject d ++ place_shown subject.manner.look d.at (length d.bytes) in
    let e : ends (shown ++ End ∷ []) ≡ ends shown + 1 = ends_joined shown (End ∷ []) in omega (arith, e)

block_has : (subject : Subject) (d : Described) → 0 < ends (lines_of subject d)
unfolding lines_of
block_has subject d =
    let head = heading subject d in
    let three = ends_joined (head ++ found_lines d ++ remark_lines d) (fields subject d) in
    let two = ends_joined (head ++ found_lines d) (remark_lines d) in
    let one = ends_joined head (found_lines d) in
    let some = heading_has subject d in
    omega (arith, three, two, one, some)

-- lines that showed this are this many more
pub put_is : (shown : List Shown) (old new : LineBytes) → written new ≡ showing_all with_shown shown (written old) → written new ≡ more_lines (ends shown) (written old)
put_is shown old new e = e ∙ shown_lines shown (written old)

-- ---- a writer that gained no line

gained_none : (utf8 : Bool) (a b : Held) → WritesLines utf8 0 a b → Appends a b []
gained_none utf8 a b w = by w.text w.lines.ended w.lines.whole w.written
  where
    by : (text : List ℕ) → count_by is_line_feed text ≡ 0 → is_whole text ≡ true → Appends a b text → Appends a b []
    by [] ended whole appended = appended
    by (x ∷ xs) ended whole appended = let some = whole_counts x xs whole in absurd (omega (arith, some, ended))

nothing_kept : (a b : Held) → Appends a b [] → Keeps a b
nothing_kept None b p = tt
nothing_kept (Some x) None p = absurd p
nothing_kept (Some x) (Some y) p = p ∙ append-nil x

pub kept_none : (utf8 : Bool) (a b : Held) → WritesLines utf8 0 a b → Keeps a b
kept_none utf8 a b w = nothing_kept a b (gained_none utf8 a b w)

-- ---- between two descriptors

still_between : (subject : Subject) (ds : List Described) (before : Written) (a b c : Held) → StopsBetween subject ds before a b → WritesLines before.utf8 0 b c
    → StopsBetween subject ds before a c
still_between subject ds before a b c (inl none) w = inl (lines_more before.utf8 0 0 a b c none w)
still_between subject ds before a b c (inr some) w =
    let n = before.ended + line_count subject (take some.count ds) in
    let same : n + 0 ≡ n = omega arith in
    inr (record { count = some.count; written = subst (λ (m : ℕ). WritesLines before.utf8 m a c) same (lines_more before.utf8 n 0 a b c some.written w) })

-- the lines were kept, or all were passed on with those of one descriptor more
next_between : (subject : Subject) (ds done : List Described) (before : Written) (put passed : LineBytes) (a b c : Held)
    → StopsBetween subject ds before a b → (written put).utf8 ≡ before.utf8 → PutsLines b c (written put) (written passed) 0
    → (passed ≡ put) ⊎ (passed ≡ no_lines put.utf8) → PutsLines a c before (written passed) (line_count subject done) → take (length done) ds ≡ done
    → StopsBetween subject ds before a c
next_between subject ds done before put passed a b c so same step (inl kept) all first =
    let none : step.gained ≡ 0 = (let parts = step.parts in let e = ap (λ (l : LineBytes). (written l).ended) kept in omega (arith, parts, e)) in
    still_between subject ds before a b c so
    (subst (λ (u : Bool). WritesLines u 0 b c) same (subst (λ (n : ℕ). WritesLines (written put).utf8 n b c) none step.written))
next_between subject ds done before put passed a b c so same step (inr emptied) all first =
    let whole : all.gained ≡ before.ended + line_count subject (take (length done) ds) =
    (let parts = all.parts in let e = ap (λ (l : LineBytes). (written l).ended) emptied in let f = ap (line_count subject) first in omega (arith, parts, e, f)) in
    inr (record { count = length done; written = subst (λ (n : ℕ). WritesLines before.utf8 n a c) whole all.written })

-- the first of two lists
front_of : (ds done rest : List Described) → ds ≡ done ++ rest → take (length done) ds ≡ done
front_of ds done rest e = ap (λ (l : List Described). take (length done) l) e ∙ take-append_seam done rest

-- ---- descriptor by descriptor

none_done : (subject : Subject) (ds : List Described) (now : Held) (lines : Written) → DoneSoFar subject ds ds now now lines lines
none_done subject ds now lines = record {
  done = [];
  parts = refl;
  puts = record { gained = 0; parts = (omega arith); same = refl; written = no_lines_written lines.utf8 now };
  between = inl (no_lines_written lines.utf8 now);
}

module _ (subject : Subject) (ds : List Described) (d : Described) (rest : List Described) (a b : Held) (before : Written) (lines : LineBytes)
    (so : DoneSoFar subject ds (d ∷ rest) a b before (written lines)) where
  one_done : (c : Held) (put passed : LineBytes) → written put ≡ showing_all with_shown (lines_of subject d) (written lines)
      → PassesLines put b passed c → DoneSoFar subject ds rest a c before (written passed)
  one_done c put passed shown step =
      let all = so.done ++ (d ∷ []) in
      let parts : ds ≡ all ++ rest = so.parts ∙ sym (append_assoc so.done (d ∷ []) rest) in
      let more = put_is (lines_of subject d) lines put shown in
      let puts : PutsLines a c before (written passed) (line_count subject all) =
      subst (λ (n : ℕ). PutsLines a c before (written passed) n) (sym (one_more subject so.done d)) (puts_passed (ends (lines_of subject d)) so.puts more step.0) in
      record {
        done = all;
        parts = parts;
        puts = puts;
        between = next_between subject ds all before put passed a b c so.between (ap (λ (w : Written). w.utf8) more ∙ so.puts.same) step.0 step.1 puts (front_of ds all rest parts);
      }

  -- lines are left
  some_left : line_count subject so.done + ends (lines_of subject d) ≤ line_count subject ds
  some_left =
      let parts : line_count subject ds ≡ line_count subject so.done + line_count subject (d ∷ rest) =
      ap (line_count subject) so.parts ∙ counts_joined subject so.done (d ∷ rest) in
      let here = ends_joined (lines_of subject d) (flat_map (lines_of subject) rest) in
      omega (arith, parts, here)

  -- out of memory at a descriptor
  stopped_at : WritesLess before.utf8 (before.ended + line_count subject ds) a b
  stopped_at =
      let more = some_left in
      let some = block_has subject d in
      puts_less (before.ended + line_count subject ds) so.puts (omega (arith, more, some))

  -- a writer that failed after a descriptor was put
  failed_at : (c : Held) (put : LineBytes) → written put ≡ showing_all with_shown (lines_of subject d) (written lines) → LosesLines put b c
      → WritesLess before.utf8 (before.ended + line_count subject ds) a c
  failed_at c put shown less =
      let most = some_left in
      puts_broken (before.ended + line_count subject ds) (puts_lines (ends (lines_of subject d)) so.puts (put_is (lines_of subject d) lines put shown)) less (omega (arith, most))

-- all of them
all_done : (subject : Subject) (ds : List Described) (a b : Held) (before after : Written) → DoneSoFar subject ds [] a b before after
    → PutsLines a b before after (line_count subject ds)
all_done subject ds a b before after so =
    subst (λ (l : List Described). PutsLines a b before after (line_count subject l)) (sym (so.parts ∙ append-nil so.done)) so.puts

-- what a writer holds
module _ {W : Type 0} (holds : W → Held) where
  abbrev passing : Passing LineBytes W
  passing = λ from old to new. PassesLines from (holds old) to (holds new)

  abbrev breaking : Breaking LineBytes W
  breaking = λ from old new. LosesLines from (holds old) (holds new)

  module _ (subject : Subject) (ds : List Described) (a : Held) (before : Written) where
    each_done : (left : List Described) (p : LineBytes) (v : W) (q : LineBytes) (w : W) → DoneSoFar subject ds left a (holds v) before (written p)
        → ShowsEach written with_shown passing subject left p v q w → DoneSoFar subject ds [] a (holds w) before (written q)
    each_done [] p v q w so h =
        subst (λ (l : LineBytes). DoneSoFar subject ds [] a (holds w) before (written l)) (sym h.0)
        (subst (λ (x : W). DoneSoFar subject ds [] a (holds x) before (written p)) (sym h.1) so)
    each_done (d ∷ rest) p v q w so h =
        each_done rest h.next h.mid q w (one_done subject ds d rest a (holds v) before p so (holds h.mid) h.put h.next h.shows h.passes) h.later

    stops_less : (left : List Described) (p : LineBytes) (v w : W) (fault : OutFault) → DoneSoFar subject ds left a (holds v) before (written p)
        → StopsAtOne written with_shown passing breaking subject left p v w fault → WritesLess before.utf8 (before.ended + line_count subject ds) a (holds w)
    stops_less [] p v w fault so h = absurd h
    stops_less (d ∷ rest) p v w fault so (inl h) =
        subst (λ (x : W). WritesLess before.utf8 (before.ended + line_count subject ds) a (holds x)) (sym h.1) (stopped_at subject ds d rest a (holds v) before p so)
    stops_less (d ∷ rest) p v w fault so (inr (inl h)) =
        failed_at subject ds d rest a (holds v) before p so (holds w) h.1.put h.1.shows h.1.breaks
    stops_less (d ∷ rest) p v w fault so (inr (inr h)) =
        stops_less rest h.next h.mid w fault (one_done subject ds d rest a (holds v) before p so (holds h.mid) h.put h.next h.shows h.passes) h.later

    stops_between : (left : List Described) (p : LineBytes) (v w : W) (fault : OutFault) → DoneSoFar subject ds left a (holds v) before (written p)
        → StopsAtOne written with_shown passing breaking subject left p v w fault → fault ≡ outs.Memory → StopsBetween subject ds before a (holds w)
    stops_between [] p v w fault so h memory = absurd h
    stops_between (d ∷ rest) p v w fault so (inl h) memory =
        subst (λ (x : W). StopsBetween subject ds before a (holds x)) (sym h.1) so.between
    stops_between (d ∷ rest) p v w fault so (inr (inl h)) memory = let both : outs.Write ≡ outs.Memory = sym h.0 ∙ memory in cc
    stops_between (d ∷ rest) p v w fault so (inr (inr h)) memory =
        stops_between rest h.next h.mid w fault (one_done subject ds d rest a (holds v) before p so (holds h.mid) h.put h.next h.shows h.passes) h.later memory

-- ---- the whole

manner_kept : (m : Manner) (read : Reading) → (subject_of m read).manner ≡ m
manner_kept m (Ok input) = refl
manner_kept m (Err fault) = refl

-- what was gathered is the subject and the findings of what was read, and the bytes that are described
module _ {S P W : Type 0} (seen : P → S) (showing : Shown → S → S) (passed : Passing P W) (broken : Breaking P W) (m : Manner) (read : Reading) (b : List ℕ)
    (subject : Subject) (found : List Found) (before : List ℕ) (is_subject : subject ≡ subject_of m read) (is_found : found ≡ found_of read) (is_before : before ≡ before_fault read b) where
  pub same_outline : outline subject.manner.speed found before ≡ descriptors_of m read b
  same_outline =
      ap (λ (s : Subject). outline s.manner.speed found before) is_subject ∙ ap (λ (n : Manner). outline n.speed found before) (manner_kept m read)
      ∙ ap (λ (f : List Found). outline m.speed f before) is_found ∙ ap (λ (c : List ℕ). outline m.speed (found_of read) c) is_before

  pub shows_these : (from : P) (old : W) (to : P) (new : W) → ShowsEach seen showing passed subject (outline subject.manner.speed found before) from old to new
      → ShowsEach seen showing passed (subject_of m read) (descriptors_of m read b) from old to new
  shows_these from old to new h =
      subst (λ (s : Subject). ShowsEach seen showing passed s (descriptors_of m read b) from old to new) is_subject
      (subst (λ (ds : List Described). ShowsEach seen showing passed subject ds from old to new) same_outline h)

  pub stops_at_these : (from : P) (old new : W) (fault : OutFault) → StopsAtOne seen showing passed broken subject (outline subject.manner.speed found before) from old new fault
      → StopsAtOne seen showing passed broken (subject_of m read) (descriptors_of m read b) from old new fault
  stops_at_these from old new fault h =
      subst (λ (s : Subject). StopsAtOne seen showing passed broken s (descriptors_of m read b) from old new fault) is_subject
      (subst (λ (ds : List Described). StopsAtOne seen showing passed broken subject ds from old new fault) same_outline h)

first_ends : (m : Manner) (read : Reading) (b : List ℕ) (ds : List Described) → ends (beginning m read b ds) ≡ 1 + line_count (subject_of m read) ds
first_ends m read b ds = ends_joined (first_line (length b)) (flat_map (lines_of (subject_of m read)) ds)

last_has : (findings remarks : ℕ) → 0 < ends (last_line findings remarks)
last_has findings remarks =
    let parts : ends (last_line findings remarks) ≡ ends (count_shown findings ++ count_shown remarks) + 1 =
    ends_joined (count_shown findings ++ count_shown remarks) (End ∷ []) in
    omega (arith, parts)

-- what ends it has a line at least
ending_has : (m : Manner) (read : Reading) (b : List ℕ) (at : ℕ) → 0 < ends (ending m read b at)
unfolding fault_lines
ending_has m (Ok input) b at =
    let rest = rest_lines m.look at (drop at b) in
    let parts = ends_joined rest (counts_line m (Ok input) b) in
    let some = last_has (length (found_of (Ok input))) (remark_count (descriptors_of m (Ok input) b)) in
    omega (arith, parts, some)
ending_has m (Err fault) b at =
    let likeness = look_line m.decoded fault b (container_of b) in
    let parts = ends_joined (fault_lines m.decoded fault b) (rest_lines m.look at (drop at b)) in
    let fault_parts = ends_joined (fault_shown fault) (End ∷ likeness) in
    omega (arith, parts, fault_parts)

-- an explanation whose first line is this
module _ (m : Manner) (read : Reading) (b : List ℕ) (first : Written) (is_first : first ≡ more_lines 1 (written (no_lines m.look.utf8))) where
  abbrev s : Subject
  s = subject_of m read

  abbrev ds : List Described
  ds = descriptors_of m read b

  abbrev total : ℕ
  total = ends (explanation m read b)

  abbrev last : List Shown
  last = ending m read b (length (bytes_of ds))

  total_is : total ≡ first.ended + line_count s ds + ends last
  unfolding explanation
  total_is =
      let parts = ends_joined (beginning m read b ds) last in
      let head = first_ends m read b ds in
      let one : first.ended ≡ 1 = ap (λ (w : Written). w.ended) is_first in
      omega (arith, parts, head, one)

  same_utf8 : first.utf8 ≡ m.look.utf8
  same_utf8 = ap (λ (w : Written). w.utf8) is_first

  -- a writer failed at a descriptor
  explains_less : (a c : Held) → WritesLess first.utf8 (first.ended + line_count s ds) a c → WritesLess m.look.utf8 total a c
  explains_less a c less =
      let most : first.ended + line_count s ds ≤ total = omega (arith, total_is) in
      less_more m.look.utf8 (first.ended + line_count s ds) total a c most (subst (λ (u : Bool). WritesLess u (first.ended + line_count s ds) a c) same_utf8 less)

  -- out of memory at the end
  explains_no_end : (a c : Held) (after : Written) → PutsLines a c first after (line_count s ds) → WritesLess m.look.utf8 total a c
  explains_no_end a c after puts =
      let some = ending_has m read b (length (bytes_of ds)) in
      subst (λ (u : Bool). WritesLess u total a c) same_utf8 (puts_less total puts (omega (arith, total_is, some)))

  all_put : (a c : Held) (put lines : LineBytes) → PutsLines a c first (written lines) (line_count s ds)
      → written put ≡ showing_all with_shown last (written lines) → PutsLines a c first (written put) (line_count s ds + ends last)
  all_put a c put lines puts shown = puts_lines (ends last) puts (put_is last lines put shown)

  explains_whole : (a c d : Held) (put lines : LineBytes) → PutsLines a c first (written lines) (line_count s ds)
      → written put ≡ showing_all with_shown last (written lines) → WritesLines put.utf8 (written put).ended c d → WritesLines m.look.utf8 total a d
  explains_whole a c d put lines puts shown rest =
      subst (λ (u : Bool). WritesLines u total a d) same_utf8 (puts_finished total (all_put a c put lines puts shown) rest (omega (arith, total_is)))

  explains_cut : (a c d : Held) (put lines : LineBytes) → PutsLines a c first (written lines) (line_count s ds)
      → written put ≡ showing_all with_shown last (written lines) → WritesLess put.utf8 (written put).ended c d → WritesLess m.look.utf8 total a d
  explains_cut a c d put lines puts shown less =
      subst (λ (u : Bool). WritesLess u total a d) same_utf8 (puts_broken total (all_put a c put lines puts shown) less (omega (arith, total_is)))

  -- what was written ends between two descriptors
  explains_between : (a c : Held) → StopsBetween s ds first a c → Keeps a c ⊎ EndsBetween m read b a c
  explains_between a c (inl none) = inl (kept_none first.utf8 a c none)
  explains_between a c (inr some) =
      let kept = take some.count ds in
      let one : first.ended ≡ 1 = ap (λ (w : Written). w.ended) is_first in
      let head = first_ends m read b kept in
      let all : first.ended + line_count s kept ≡ ends (beginning m read b kept) = omega (arith, one, head) in
      inr (record { count = some.count; written = subst (λ (n : ℕ). WritesLines m.look.utf8 n a c) all (subst (λ (u : Bool). WritesLines u (first.ended + line_count s kept) a c) same_utf8 some.written) })

-- nothing was written
pub explains_nothing : (m : Manner) (read : Reading) (b : List ℕ) (a : Held) → WritesLess m.look.utf8 (ends (explanation m read b)) a a
unfolding explanation
explains_nothing m read b a =
    let all = descriptors_of m read b in
    let parts = ends_joined (beginning m read b all) (ending m read b (length (bytes_of all))) in
    let head = first_ends m read b all in
    record { front = []; characters = refl; fewer = (omega (arith, parts, head)); written = appends_nothing a a (keeps_refl a) }

-- an explanation that was put on these lines
module _ {W : Type 0} (holds : W → Held) (m : Manner) (read : Reading) (b : List ℕ) (lines : LineBytes) (is : lines ≡ no_lines m.look.utf8) (old : W) where
  begun : (put : LineBytes) → written put ≡ showing_all with_shown (first_line (length b)) (written lines) → written put ≡ more_lines 1 (written (no_lines m.look.utf8))
  begun put e = e ∙ ap (λ (l : LineBytes). more_lines 1 (written l)) is

  gone : (first last : LineBytes) (new : W) → ShowsEach written with_shown (passing holds) (subject_of m read) (descriptors_of m read b) first old last new
      → DoneSoFar (subject_of m read) (descriptors_of m read b) [] (holds old) (holds new) (written first) (written last)
  gone first last new each =
      let s = subject_of m read in let ds = descriptors_of m read b in
      each_done holds s ds (holds old) (written first) ds first old last new (none_done s ds (holds old) (written first)) each

  pub explained : (put : LineBytes) (new : W) (d : Held) → ShowsExplanation written with_shown (passing holds) m read b lines old put new
      → WritesLines put.utf8 (written put).ended (holds new) d → WritesLines m.look.utf8 (ends (explanation m read b)) (holds old) d
  explained put new d shows rest =
      explains_whole m read b (written shows.begun) (begun shows.begun shows.begins) (holds old) (holds new) d put shows.gone
      (all_done _ _ _ _ _ _ (gone shows.begun shows.gone new shows.each)) shows.ended rest

  pub explained_less : (put : LineBytes) (new : W) (d : Held) → ShowsExplanation written with_shown (passing holds) m read b lines old put new
      → WritesLess put.utf8 (written put).ended (holds new) d → WritesLess m.look.utf8 (ends (explanation m read b)) (holds old) d
  explained_less put new d shows less =
      explains_cut m read b (written shows.begun) (begun shows.begun shows.begins) (holds old) (holds new) d put shows.gone
      (all_done _ _ _ _ _ _ (gone shows.begun shows.gone new shows.each)) shows.ended less

  pub stopped_less : (new : W) (fault : OutFault) → StopsExplanation written with_shown (passing holds) (breaking holds) m read b lines old new fault
      → WritesLess m.look.utf8 (ends (explanation m read b)) (holds old) (holds new)
  stopped_less new fault (inl h) =
      subst (λ (x : W). WritesLess m.look.utf8 (ends (explanation m read b)) (holds old) (holds x)) (sym h.1) (explains_nothing m read b (holds old))
  stopped_less new fault (inr (inl h)) =
      explains_no_end m read b (written h.1.begun) (begun h.1.begun h.1.begins) (holds old) (holds new) (written h.1.gone)
      (all_done _ _ _ _ _ _ (gone h.1.begun h.1.gone new h.1.each))
  stopped_less new fault (inr (inr h)) =
      let s = subject_of m read in let ds = descriptors_of m read b in
      explains_less m read b (written h.begun) (begun h.begun h.begins) (holds old) (holds new)
      (stops_less holds s ds (holds old) (written h.begun) ds h.begun old new fault (none_done s ds (holds old) (written h.begun)) h.stops)

  pub stopped_between : (new : W) (fault : OutFault) → StopsExplanation written with_shown (passing holds) (breaking holds) m read b lines old new fault
      → fault ≡ outs.Memory → Keeps (holds old) (holds new) ⊎ EndsBetween m read b (holds old) (holds new)
  stopped_between new fault (inl h) memory = inl (subst (λ (x : W). Keeps (holds old) (holds x)) (sym h.1) (keeps_refl (holds old)))
  stopped_between new fault (inr (inl h)) memory =
      explains_between m read b (written h.1.begun) (begun h.1.begun h.1.begins) (holds old) (holds new) (gone h.1.begun h.1.gone new h.1.each).between
  stopped_between new fault (inr (inr h)) memory =
      let s = subject_of m read in let ds = descriptors_of m read b in
      explains_between m read b (written h.begun) (begun h.begun h.begins) (holds old) (holds new)
      (stops_between holds s ds (holds old) (written h.begun) ds h.begun old new fault (none_done s ds (holds old) (written h.begun)) h.stops memory)

-- ---- faults

-- where memory was wanting, this holds
pub if_memory : {T : Type 0} (P : Type 0) (r : Result T OutFault) → P → IfErr r (λ fault. fault ≡ outs.Memory → P)
if_memory P (Ok v) p = tt
if_memory P (Err fault) p = λ is. p

-- and so it does where the fault is passed on
pub same_memory : {T : Type 0} (P : Type 0) (r : Result T OutFault) (e : OutFault) → IsErrAnd r (λ fault. fault ≡ e) → (e ≡ outs.Memory → P)
    → IfErr r (λ fault. fault ≡ outs.Memory → P)
same_memory P (Ok v) e same p = tt
same_memory P (Err fault) e same p = λ is. p (sym same ∙ is)

-- a write that failed is no want of memory
pub no_memory : {T : Type 0} (P : Type 0) (r : Result T OutFault) → IfErr r (λ fault. fault ≡ outs.Write) → IfErr r (λ fault. fault ≡ outs.Memory → P)
no_memory P (Ok v) p = tt
no_memory P (Err fault) p = λ is. let both : outs.Write ≡ outs.Memory = sym p ∙ is in cc
