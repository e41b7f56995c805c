-- Walks that come to the end of the bytes, and their text.
use Rattle.std.proofs.Common.{◌≡◌, ◌≤◌, inr, ℕ, zero, suc, List, [], ◌++◌, flat_map, length, map, drop, Option, Some, None, is_some, refl, sym, ap, subst, ◌∙◌, arith, append-nil, length-drop, ◌∷◌}
use Rattle.usb_walk.specs.declared.role.Role.{Role}
use Rattle.usb_remarks.specs.declared.outline_state.OutlineState.{OutlineState}
use Rattle.usb_remarks.specs.Outline.{Entry, after_next, end_of, entries, entry_next, findings_of, first_entries, left_next, next_ahead, outline, pass_ahead}
use Rattle.usb_remarks.specs.OutlineLaws.{AreNumbered, EachFindingOnce, HasItsOwnFindings, as_in_tree}
use Rattle.usb_remarks.specs.Findings.{IsAtPlace, finding_at}
use Rattle.std.specs.List.{AllByRecursion}
use Rattle.usb_walk.specs.Roles.{next_role}
use Rattle.usb_remarks.specs.OutlineStates.{start}
use Rattle.usb_remarks.specs.declared.speed.SetSpeed.{SetSpeed}
use Rattle.usb_walk.specs.Trees.{tree_descriptors}
use Rattle.usb_file_data.specs.declared.file.Input.{Input}
use Rattle.usb_file_data.specs.Findings.{found_in_order}
use Rattle.usb_walk.proofs.NextRoles.{next_bounds}
use Rattle.usb_fields.proofs.Unfolded.{unfolded_more, unfolded_none}
use Rattle.usb_remarks.proofs.Outlines.{entry_in_tree, found_same, tree_same}
use Rattle.usb_file_data.specs.declared.cause.Found.{Found}
use Rattle.usb_file_data.specs.declared.cause.Cause.{Cause}
use Rattle.usb_file_data.specs.declared.finding.Finding.{Finding}
use Rattle.usb_file_data.specs.Numbers.{rule_numbered}
use Rattle.usb_file_data.specs.Causes.{rule_of}
use Rattle.usb_file_data.proofs.RuleNumbers.{numbered_rule}
use Rattle.std.proofs.lemmas.List.{length-map}
use Rattle.usb_file_data.specs.declared.rule.Rule.{Rule}
use Rattle.usb_file_data.proofs.Sorting.{HasRule, as_many}
use Rattle.usb_remarks.proofs.OutlineStates.{start_number}
use Rattle.usb_remarks.proofs.Telling.{AllAtPlace}
use Rattle.usb_walk.specs.declared.position.Position.{Position}
use Rattle.usb_remarks.proofs.Spans.{Aim, Ended, adding, end_and_rest, ended_more, ended_none}

-- where no bytes are, no descriptor can stand
none_of_nothing : (s : OutlineState) → next_role s.position [] ≡ None
unfolding next_role
none_of_nothing s = refl

-- a walk from here ends so, if it may take as many steps as there are bytes
abbrev pub Ends : Aim → Option SetSpeed → OutlineState → List Found → List ℕ → Type 0
Ends E running s fs ahead = (n : ℕ) → length ahead ≤ n → Ended E s fs ahead (first_entries n running s fs ahead)

pub ends_here : (E : Aim) (running : Option SetSpeed) (s : OutlineState) (fs : List Found) → fs ≡ [] → E [] [] → Ends E running s fs []
ends_here E running s fs none aimed n enough =
    subst (λ l. Ended E s fs [] l) (sym (unfolded_none next_ahead (pass_ahead running) n (s, fs, []) (inr (none_of_nothing s)))) (ended_none E s fs none aimed)

-- a descriptor takes one step, and has two bytes at least
pub ends_behind : (E : Aim) (running : Option SetSpeed) (s : OutlineState) (fs : List Found) (ahead : List ℕ) (next : Role × ℕ) → next_role s.position ahead ≡ Some next
    → HasItsOwnFindings (entry_next running s fs ahead next)
    → Ends (adding E (entry_in_tree (entry_next running s fs ahead next) ∷ [])) running (after_next running s ahead next) (left_next running s fs ahead next) (drop next.1 ahead)
    → Ends E running s fs ahead
ends_behind E running s fs ahead next e own onward zero enough =
    let bounds = next_bounds s.position ahead next e in
    absurd (omega (arith, bounds.0, bounds.1, enough))
ends_behind E running s fs ahead next e own onward (suc n) enough =
    let bounds = next_bounds s.position ahead next e in
    subst (λ l. Ended E s fs ahead l) (sym (unfolded_more next_ahead (pass_ahead running) n (s, fs, ahead) next e))
    (ended_more E running s fs ahead next _ e own (onward n (omega (arith, length-drop next.1 ahead, bounds.0, bounds.1, enough))))

-- a walk over all bytes of an input shows its descriptors
abbrev pub ShowsAll : Input → Aim
ShowsAll input rest shown = (rest ≡ []) × (shown ≡ tree_descriptors input)

-- a walk that leaves nothing comes to the end
pub nothing_left : (running : Option SetSpeed) (input : Input) (b : List ℕ) → Ends (ShowsAll input) running start (found_in_order input) b
    → end_of running (found_in_order input) b ≡ length b
nothing_left running input b leaves =
    let ended = leaves (length b) (omega arith) in
    let none : length ended.walk.rest ≡ 0 = ap length ended.aimed.0 in
    omega (arith, none, end_and_rest running (found_in_order input) b ended.walk)

-- a finding at a place has the number of its rule
has_rule : (p : Position) (role : Role) (finding : Finding) (cause : Cause) → IsAtPlace p role finding cause → HasRule finding
unfolding finding_at
has_rule p role finding cause own =
    ap (λ (f : Finding). is_some (rule_numbered f.rule)) own.0 ∙ ap (λ (o : Option Rule). is_some o) (numbered_rule (rule_of cause))

have_rules : (p : Position) (role : Role) (found : List Found) → AllAtPlace p role found → AllByRecursion (λ f. HasRule f.finding) found
have_rules p role [] own = tt
have_rules p role (f ∷ found) own = (has_rule p role f.finding f.cause own.0, have_rules p role found own.1)

both_all : (P : Found → Type 0) (xs ys : List Found) → AllByRecursion P xs → AllByRecursion P ys → AllByRecursion P (xs ++ ys)
both_all P [] ys one two = two
both_all P (x ∷ xs) ys one two = (one.0, both_all P xs ys one.1 two)

all_have_rules : (shown : List Entry) → AllByRecursion HasItsOwnFindings shown → AllByRecursion (λ f. HasRule f.finding) (flat_map findings_of shown)
all_have_rules [] own = tt
all_have_rules (d ∷ ds) own =
    both_all (λ f. HasRule f.finding) (findings_of d) (flat_map findings_of ds)
    (have_rules d.state.position d.role (findings_of d) own.0) (all_have_rules ds own.1)

without_causes : (found : List Found) → AllByRecursion (λ f. HasRule f.finding) found → AllByRecursion HasRule (map (λ f. f.finding) found)
without_causes [] ruled = tt
without_causes (f ∷ found) ruled = (ruled.0, without_causes found ruled.1)

-- it tells each finding, and has the descriptors of the input's tree
pub record Tells (running : Option SetSpeed) (input : Input) (bytes : List ℕ) : Type 0 where
  pub tells : EachFindingOnce running input bytes
  pub shows : map as_in_tree (outline running (found_in_order input) bytes) ≡ tree_descriptors input

pub all_tells : (running : Option SetSpeed) (input : Input) (b : List ℕ) → Ends (ShowsAll input) running start (found_in_order input) b → Tells running input b
all_tells running input b leaves =
    let found = found_in_order input in
    let ended = leaves (length b) (omega arith) in
    let w = ended.walk in
    let es = entries running found b in
    let report : flat_map findings_of es ≡ found =
    sym (append-nil (flat_map findings_of es)) ∙ ap (λ l. flat_map findings_of es ++ l) (sym ended.all_reported) ∙ w.tells in
    let ruled = without_causes found (subst (λ l. AllByRecursion (λ f. HasRule f.finding) l) report (all_have_rules es ended.own)) in
    record {
      tells = record {
        reported = found_same running es ∙ report;
        own = ended.own;
        numbered = subst (λ k. AreNumbered k es) start_number w.numbered;
        count = sym (length-map found (λ f. f.finding)) ∙ sym (as_many (map (λ f. f.finding) found) ruled);
      };
      shows = tree_same running es ∙ ended.aimed.1;
    }
