-- The descriptors of a walk, and where they stand.
use Rattle.std.proofs.Common.{◌≡◌, ◌≤◌, ℕ, ◌+◌, List, [], ◌∷◌, ◌++◌, flat_map, length, map, take, drop, Option, Some, refl, sym, ap, ap₂, subst, ◌∙◌, arith, append_assoc, length-append}
use Rattle.std.specs.List.{AllByRecursion}
use Rattle.std.proofs.lemmas.List.{take-append-drop}
use Rattle.std.proofs.Math.Seq.{drop-append_seam}
use Rattle.usb_walk.specs.Trees.{TreeDescriptor}
use Rattle.usb_walk.specs.declared.role.Role.{Role}
use Rattle.usb_remarks.specs.declared.outline_state.OutlineState.{OutlineState}
use Rattle.usb_remarks.specs.Outline.{Entry, after_next, bytes_of, end_of, entries, entry_next, findings_of, first_entries, here, left_next, next_ahead, outline, pass_ahead}
use Rattle.usb_remarks.specs.Findings.{found_at}
use Rattle.usb_remarks.specs.OutlineLaws.{AllEachByteOnce, AreNumbered, Cut, Follow, HasItsOwnFindings, span_of}
use Rattle.usb_walk.specs.Roles.{next_role}
use Rattle.usb_remarks.specs.OutlineStates.{start}
use Rattle.usb_remarks.specs.declared.speed.SetSpeed.{SetSpeed}
use Rattle.usb_file_data.specs.declared.cause.Found.{Found}
use Rattle.usb_remarks.proofs.Outlines.{bytes_same, entry_in_tree, entry_span, spans_same}
use Rattle.usb_fields.proofs.Unfolded.{by_each_step}
use Rattle.usb_walk.proofs.WalkSteps.{step_of}
use Rattle.usb_remarks.proofs.OutlineStates.{looked_number, start_at}
use Rattle.usb_remarks.proofs.Telling.{are_numbered, found_front}

-- What a walk shows from here on.
pub record Walk (s : OutlineState) (found : List Found) (ahead : List ℕ) (shown : List Entry) : Type 0 where
  pub rest : List ℕ
  pub end : ℕ
  pub cut : Cut ahead shown rest
  pub spans : Follow s.position.at (map entry_span shown) end
  pub left : List Found
  pub tells : flat_map findings_of shown ++ left ≡ found
  pub numbered : AreNumbered s.descriptors shown

walk_none : (s : OutlineState) (found : List Found) (ahead : List ℕ) → Walk s found ahead []
walk_none s found ahead = record { rest = ahead; end = s.position.at; cut = refl; spans = refl; left = found; tells = refl; numbered = tt }

walk_more : (running : Option SetSpeed) (s : OutlineState) (found : List Found) (ahead : List ℕ) (next : Role × ℕ) (shown : List Entry) → next_role s.position ahead ≡ Some next
    → Walk (after_next running s ahead next) (left_next running s found ahead next) (drop next.1 ahead) shown → Walk s found ahead (entry_next running s found ahead next ∷ shown)
walk_more running s found ahead next shown e w =
    let step = step_of s.position ahead next e in
    let number : (here running s ahead next).descriptors ≡ s.descriptors = looked_number next.0 running ahead s in
    let mine = found_at (here running s ahead next) found in
    let at_after : (after_next running s ahead next).position.at ≡ s.position.at + length (take next.1 ahead) =
    step.at ∙ ap (λ k. s.position.at + k) (sym step.taken) in
    record {
      rest = w.rest;
      end = w.end;
      cut = (sym (take-append-drop next.1 ahead), step.first ∙ sym step.taken, w.cut);
      spans = (step.place, omega (arith, step.taken, step.least), subst (λ k. Follow k (map entry_span shown) w.end) at_after w.spans);
      left = w.left;
      tells = append_assoc mine (flat_map findings_of shown) w.left ∙ ap (λ l. mine ++ l) w.tells ∙ found_front (here running s ahead next) found;
      numbered = (
        subst (λ k. AllByRecursion (λ f. f.descriptor ≡ k) mine) number (are_numbered (here running s ahead next) found),
        subst (λ k. AreNumbered k shown) (ap (λ k. k + 1) number) w.numbered,
      );
    }

-- each walk shows descriptors one after another
pub walk_shows : (n : ℕ) (running : Option SetSpeed) (s : OutlineState) (found : List Found) (ahead : List ℕ) → Walk s found ahead (first_entries n running s found ahead)
walk_shows n running s found ahead =
    by_each_step next_ahead (pass_ahead running) (λ n here shown. Walk here.0 here.1 here.2 shown)
    (λ n here none. walk_none here.0 here.1 here.2) (λ n here next shown is w. walk_more running here.0 here.1 here.2 next shown is w) n (s, found, ahead)

-- what is said of a walk: of the bytes that are left, and of its descriptors
abbrev pub Aim : Type 1
Aim = List ℕ → List TreeDescriptor → Type 0

-- the same of a walk behind these descriptors
abbrev pub adding : Aim → List TreeDescriptor → Aim
adding E before = λ rest c. E rest (before ++ c)

-- a walk of which this holds, whose descriptors have their own findings, and which comes to the end of these
pub record Ended (E : Aim) (s : OutlineState) (found : List Found) (ahead : List ℕ) (shown : List Entry) : Type 0 where
  pub walk : Walk s found ahead shown
  pub aimed : E walk.rest (map entry_in_tree shown)
  pub own : AllByRecursion HasItsOwnFindings shown
  pub all_reported : walk.left ≡ []

pub ended_none : (E : Aim) (s : OutlineState) (found : List Found) → found ≡ [] → E [] [] → Ended E s found [] []
unfolding walk_none
ended_none E s found none aimed = record { walk = walk_none s found []; aimed = aimed; own = tt; all_reported = none }

pub ended_more : (E : Aim) (running : Option SetSpeed) (s : OutlineState) (found : List Found) (ahead : List ℕ) (next : Role × ℕ) (shown : List Entry)
    → next_role s.position ahead ≡ Some next → HasItsOwnFindings (entry_next running s found ahead next)
    → Ended (adding E (entry_in_tree (entry_next running s found ahead next) ∷ [])) (after_next running s ahead next) (left_next running s found ahead next) (drop next.1 ahead) shown
    → Ended E s found ahead (entry_next running s found ahead next ∷ shown)
unfolding walk_more
ended_more E running s found ahead next shown e own ended =
    record { walk = walk_more running s found ahead next shown e ended.walk; aimed = ended.aimed; own = (own, ended.own); all_reported = ended.all_reported }

-- spans end where the lengths add up to
spans_end : (shown : List Entry) (from to : ℕ) → Follow from (map entry_span shown) to → from + length (flat_map (λ d. d.bytes) shown) ≡ to
spans_end [] from to e = omega (arith, e)
spans_end (d ∷ ds) from to f =
    let rest : (from + length d.bytes) + length (flat_map (λ d. d.bytes) ds) ≡ to = spans_end ds (from + length d.bytes) to f.2 in
    let sum : length (d.bytes ++ flat_map (λ d. d.bytes) ds) ≡ length d.bytes + length (flat_map (λ d. d.bytes) ds) = length-append d.bytes (flat_map (λ d. d.bytes) ds) in
    omega (arith, rest, sum)

-- from the first place on they end where the lengths end
pub ends_at : (shown : List Entry) (end : ℕ) → Follow start.position.at (map entry_span shown) end → length (flat_map (λ d. d.bytes) shown) ≡ end
ends_at shown end f = omega (arith, start_at, spans_end shown start.position.at end f)

-- what is cut is all of it
pub cut_parts : (shown : List Entry) (b rest : List ℕ) → Cut b shown rest → b ≡ flat_map (λ d. d.bytes) shown ++ rest
cut_parts [] b rest e = e
cut_parts (d ∷ ds) b rest c =
    c.0 ∙ ap (λ l. d.bytes ++ l) (cut_parts ds d.after rest c.2) ∙ sym (append_assoc d.bytes (flat_map (λ d. d.bytes) ds) rest)

-- what is left behind the front of a list
pub left_behind : (done rest b : List ℕ) (end : ℕ) → b ≡ done ++ rest → length done ≡ end → drop end b ≡ rest
left_behind done rest b end parts ends = subst (λ k. drop k b ≡ rest) ends (ap (λ l. drop (length done) l) parts ∙ drop-append_seam done rest)

-- each byte once, of any bytes
pub once_by : AllEachByteOnce
once_by running found b =
    let es = entries running found b in
    let w = walk_shows (length b) running start found b in
    let ends : length (flat_map (λ e. e.bytes) es) ≡ w.end = ends_at es w.end w.spans in
    let rest : drop w.end b ≡ w.rest = left_behind (flat_map (λ e. e.bytes) es) w.rest b w.end (cut_parts es b w.rest w.cut) ends in
    let bytes_are : bytes_of (outline running found b) ≡ flat_map (λ e. e.bytes) es = bytes_same running es in
    let end : end_of running found b ≡ w.end = ap (λ (l : List ℕ). length l) bytes_are ∙ ends in
    let after : w.rest ≡ drop (end_of running found b) b = sym rest ∙ ap (λ k. drop k b) (sym end) in
    record {
      parts = cut_parts es b w.rest w.cut ∙ ap₂ ◌++◌ (sym bytes_are) after;
      cut = subst (λ l. Cut b es l) after w.cut;
      spans = subst (λ k. Follow 0 (map span_of (outline running found b)) k) (sym end)
          (subst (λ l. Follow 0 l w.end) (sym (spans_same running es)) (subst (λ k. Follow k (map entry_span es) w.end) start_at w.spans));
    }

-- where a walk ends, and what it leaves
pub end_and_rest : (running : Option SetSpeed) (found : List Found) (b : List ℕ) (w : Walk start found b (entries running found b))
    → end_of running found b + length w.rest ≡ length b
end_and_rest running found b w =
    let es = entries running found b in
    let parts : length b ≡ length (flat_map (λ e. e.bytes) es) + length w.rest =
    ap length (cut_parts es b w.rest w.cut) ∙ length-append (flat_map (λ e. e.bytes) es) w.rest in
    ap (λ (l : List ℕ). length l + length w.rest) (bytes_same running es) ∙ sym parts

-- the descriptors of bytes have no more than these
pub bytes_within : (running : Option SetSpeed) (found : List Found) (b : List ℕ) → end_of running found b ≤ length b
bytes_within running found b = omega (arith, end_and_rest running found b (walk_shows (length b) running start found b))
