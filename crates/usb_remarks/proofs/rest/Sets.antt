-- A walk goes through whole sets, and tells their findings.
use Rattle.std.proofs.Common.{◌≡◌, ◌≤◌, ℕ, ◌+◌, ◌-◌, ◌==◌, ◌&&◌, Bool, true, false, if◌then◌else◌, List, [], ◌∷◌, ◌++◌, flat_map, length, take, not, Option, Some, refl, sym, ap, subst, ◌∙◌, arith, append_assoc, length-append}
use Rattle.std.specs.List.{list_any}
use Rattle.std.proofs.lemmas.Bool.{cond-true, le-leb, eq-eqb, or_parts}
use Rattle.usb_fields.specs.Bytes.{little_endian_at}
use Rattle.usb_file_data.specs.declared.cause.Cause.{Cause}
use Rattle.usb_file_data.specs.declared.cause.Cause.TheVariants as causes
use Rattle.usb_file_data.specs.Causes.{Broken, attributes_cause, broken_by, value_cause}
use Rattle.usb_file_data.specs.Findings.{association_count, at_configuration, extras_in_order, part_of_kind, set_in_order, setting_associations, setting_in_order}
use Rattle.usb_file_data.specs.Places.{at_each, at_each_counted}
use Rattle.usb_file_data.specs.Rules.{has_number_gap, interface_numbers, wrong_attributes, wrong_interface_count, wrong_value}
use Rattle.usb_set.specs.declared.fault.EncodeFault.TheVariants as encoding
use Rattle.usb_set.specs.declared.tree.Configuration.{Configuration}
use Rattle.usb_set.specs.declared.tree.SetKind.{SetKind}
use Rattle.usb_set.specs.declared.tree.SetKind.TheVariants as kinds
use Rattle.usb_set.specs.Descriptors.{configuration_descriptor, descriptor_bytes, type_number}
use Rattle.usb_set.specs.Layout.{set_length, has_long_descriptor, has_typed_raw, set_bytes}
use Rattle.usb_set.specs.inside.Trees.{extra_bytes, setting_bytes}
use Rattle.usb_set.proofs.Items.{two_bytes}
use Rattle.usb_set.proofs.Sets.{length-set_bytes}
use Rattle.usb_set.proofs.Trees.{set_bytes_is, typed_parts}
use Rattle.usb_file_data.specs.File.{has_no_layout, is_other_kind, sets_bytes, whole_set}
use Rattle.usb_file_data.proofs.WholeSets.{no_some}
use Rattle.usb_remarks.specs.declared.speed.SetSpeed.{SetSpeed}
use Rattle.usb_walk.specs.declared.role.Role.{Role}
use Rattle.usb_walk.specs.declared.role.Role.TheVariants as roles
use Rattle.usb_remarks.specs.declared.outline_state.OutlineState.{OutlineState}
use Rattle.usb_walk.specs.Places.{place_in}
use Rattle.usb_remarks.specs.Findings.{IsAtPlace, can_break, finding_at}
use Rattle.usb_walk.specs.Surroundings.{depth_of}
use Rattle.usb_walk.specs.Owners.{of_set, owner_of}
use Rattle.usb_remarks.specs.SetStart.{entered}
use Rattle.usb_walk.specs.Positions.{noted}
use Rattle.usb_remarks.specs.OutlineStates.{passed}
use Rattle.usb_walk.specs.Roles.{outer_role, role_if, role_of}
use Rattle.usb_walk.specs.Trees.{extra_descriptors, set_descriptors, set_descriptors_by, setting_descriptors, tree_descriptor}
use Rattle.usb_remarks.proofs.Spans.{Aim, adding}
use Rattle.usb_remarks.proofs.rest.Steps.{four_parts, length_is}
use Rattle.usb_remarks.proofs.rest.Seen.{Goes, Seen, Step, goes_as, goes_for, goes_twice, seen}
use Rattle.usb_remarks.proofs.rest.Extras.{extras_go, seen_goes, taken}
use Rattle.usb_remarks.proofs.rest.Endpoints.{of_four}
use Rattle.usb_remarks.proofs.rest.Settings.{Out, out, out_at, settings_go}

-- outside of sets
pub outer_at : (s : OutlineState) (d : List ℕ) → s.position.left ≡ 0 → role_of s.position d ≡ outer_role s.position d
unfolding role_of
outer_at s d e = cond-true (s.position.left == 0) _ _ (eq-eqb s.position.left 0 e)

-- a role that asks for two things which hold
pub both_hold : (a b : Bool) (role : Role) → a ≡ true → b ≡ true → role_if (a && b) role ≡ Some role
both_hold a b role h k = rw (h, k) refl

-- ---- the first descriptor of a set

-- how many sets of a kind came
abbrev pub count_in : SetKind → Out → ℕ
count_in kinds.Configuration o = o.mains
count_in kinds.OtherSpeed o = o.others

abbrev pub with_count : SetKind → ℕ → Out → Out
with_count kinds.Configuration n o = record o { mains = n }
with_count kinds.OtherSpeed n o = record o { others = n }

-- a set begins
abbrev begun : SetKind → ℕ → Seen → Seen
begun kind n v = record {
  left = n;
  known = v.known;
  spoken = v.spoken;
  mains = (with_count kind (count_in kind (out v) + 1) (out v)).mains;
  others = (with_count kind (count_in kind (out v) + 1) (out v)).others;
  part = part_of_kind kind;
  number = count_in kind (out v);
  associations = 0;
  settings = 0;
  setting = 0;
  endpoints = 0;
  interface = record { interface = 0; alternate = 0 };
  address = 0;
  below = 2;
}

begun_out : (kind : SetKind) (k n : ℕ) (v : Seen) → out_at k (begun kind n v) ≡ with_count kind (count_in kind (out v) + 1) (out_at k v)
begun_out kinds.Configuration k n v = refl
begun_out kinds.OtherSpeed k n v = refl

pub set_after : (kind : SetKind) (running : Option SetSpeed) (len : ℕ) (body behind : List ℕ) (s : OutlineState)
    → (let d : List ℕ = len ∷ type_number kind ∷ body in
    seen (passed roles.Configuration d (entered roles.Configuration running (d ++ behind) s)) ≡ begun kind (little_endian_at (d ++ behind) 2 - length d) (seen s))
unfolding noted
set_after kinds.Configuration running len body behind s = refl
set_after kinds.OtherSpeed running len body behind s = refl

here_set : (kind : SetKind) (running : Option SetSpeed) (s : OutlineState) (len : ℕ) (body behind : List ℕ) (cause : Cause) → can_break roles.Configuration cause ≡ true
    → (let d : List ℕ = len ∷ type_number kind ∷ body in
    let b = broken_by cause (part_of_kind kind) (count_in kind (out (seen s))) 0 0 in
    IsAtPlace (entered roles.Configuration running (d ++ behind) s).position roles.Configuration b.finding b.cause)
unfolding finding_at place_in
here_set kinds.Configuration running s len body behind cause h = (refl, h)
here_set kinds.OtherSpeed running s len body behind cause h = (refl, h)

-- it belongs to its set
owner_set : (kind : SetKind) (running : Option SetSpeed) (s : OutlineState) (len : ℕ) (body behind : List ℕ)
    → (let d : List ℕ = len ∷ type_number kind ∷ body in
    owner_of (entered roles.Configuration running (d ++ behind) s).position roles.Configuration d ≡ Some (of_set (part_of_kind kind) (count_in kind (out (seen s)))))
unfolding owner_of
owner_set kinds.Configuration running s len body behind = refl
owner_set kinds.OtherSpeed running s len body behind = refl

value_breaks : (is_zero : Bool) → can_break roles.Configuration (if is_zero then causes.ZeroValue else causes.RepeatedValue) ≡ true
unfolding can_break
value_breaks true = refl
value_breaks false = refl

-- either type of its first descriptor begins a set
pub set_role : (s : OutlineState) (kind : SetKind) (len : ℕ) (body : List ℕ) → 9 ≤ length (len ∷ type_number kind ∷ body)
    → length (len ∷ type_number kind ∷ body) ≤ little_endian_at (len ∷ type_number kind ∷ body) 2
    → outer_role s.position (len ∷ type_number kind ∷ body) ≡ Some roles.Configuration
unfolding outer_role
set_role s kinds.Configuration len body least most = both_hold _ _ roles.Configuration (le-leb _ _ least) (le-leb _ _ most)
set_role s kinds.OtherSpeed len body least most = both_hold _ _ roles.Configuration (le-leb _ _ least) (le-leb _ _ most)

-- what stands of a set behind its first descriptor: its extras and its settings
abbrev behind_first : Configuration → List ℕ → List ℕ
behind_first c behind = flat_map extra_bytes c.extras ++ (flat_map setting_bytes c.settings ++ behind)

-- a set whose wTotalLength is the count of its bytes, of which no raw descriptor has a type that a set reads
record IsWhole (c : Configuration) (total : ℕ) : Type 0 where
  raws : has_typed_raw c ≡ false
  length_is : length ((descriptor_bytes (configuration_descriptor c total) ++ flat_map extra_bytes c.extras) ++ flat_map setting_bytes c.settings) ≡ total

whole_sum : (c : Configuration) (total : ℕ) → IsWhole c total
    → (length (descriptor_bytes (configuration_descriptor c total)) + length (flat_map extra_bytes c.extras)) + length (flat_map setting_bytes c.settings) ≡ total
whole_sum c total whole =
    let d : List ℕ = descriptor_bytes (configuration_descriptor c total) in
    let x = flat_map extra_bytes c.extras in
    let y = flat_map setting_bytes c.settings in
    sym (length-append (d ++ x) y ∙ ap (λ n. n + length y) (length-append d x)) ∙ whole.length_is

configuration_step : (running : Option SetSpeed) (before : List Configuration) (c : Configuration) (total : ℕ) (behind : List ℕ) (s : OutlineState) → IsWhole c total → s.position.left ≡ 0
    → Step running s roles.Configuration (descriptor_bytes (configuration_descriptor c total)) (behind_first c behind) (at_configuration (part_of_kind c.kind) before (count_in c.kind (out (seen s))) c)
    (begun c.kind (total - length (descriptor_bytes (configuration_descriptor c total))) (seen s))
    1 (Some (of_set (part_of_kind c.kind) (count_in c.kind (out (seen s)))))
unfolding depth_of can_break
configuration_step running before c total behind s whole outside =
    let body : List ℕ = (configuration_descriptor c total).body in
    let d : List ℕ = descriptor_bytes (configuration_descriptor c total) in
    let after_it = behind_first c behind in
    let b = λ (cause : Cause). broken_by cause (part_of_kind c.kind) (count_in c.kind (out (seen s))) 0 0 in
    let here = here_set c.kind running s (2 + length body) body after_it in
    let count = causes.InterfaceCount c.declared_interfaces (length (interface_numbers c.settings)) in
    let sum = whole_sum c total whole in
    let room : length d ≤ total = omega (arith, sum) in
    record {
      is = outer_at s d outside ∙ set_role s c.kind (2 + length body) body (omega arith) (omega (arith, two_bytes total, room));
      own = of_four (λ b. IsAtPlace (entered roles.Configuration running (d ++ after_it) s).position roles.Configuration b.finding b.cause)
          (wrong_interface_count c) (has_number_gap c) (wrong_attributes c) (wrong_value before c)
          (b count) (b causes.NumberGap) (b (attributes_cause c.attributes)) (b (value_cause c.value)) (here count refl) (here causes.NumberGap refl) (here (attributes_cause c.attributes) refl) (here (value_cause c.value) (value_breaks (c.value == 0)));
      after = set_after c.kind running (2 + length body) body after_it s ∙ ap (λ n. begun c.kind (n - length d) (seen s)) (two_bytes total);
      deep = refl;
      belongs = owner_set c.kind running s (2 + length body) body after_it;
    }

configuration_goes : (E : Aim) (running : Option SetSpeed) (before : List Configuration) (c : Configuration) (total : ℕ) (v : Seen) (behind : List ℕ) (later : List (List Broken))
    → IsWhole c total → v.left ≡ 0
    → Goes (adding E (tree_descriptor roles.Configuration 1 (Some (of_set (part_of_kind c.kind) (count_in c.kind (out v)))) (descriptor_bytes (configuration_descriptor c total)) ∷ [])) running
    (begun c.kind (total - length (descriptor_bytes (configuration_descriptor c total))) v) later (behind_first c behind)
    → Goes E running v (at_configuration (part_of_kind c.kind) before (count_in c.kind (out v)) c ∷ later) (descriptor_bytes (configuration_descriptor c total) ++ behind_first c behind)
configuration_goes E running before c total v behind later whole outside onward =
    let item = configuration_descriptor c total in
    let d = descriptor_bytes item in
    seen_goes E running v (λ v. v.left ≡ 0) roles.Configuration d (behind_first c behind) (λ v. at_configuration (part_of_kind c.kind) before (count_in c.kind (out v)) c)
    (begun c.kind (total - length d)) later (λ v. 1) (λ v. Some (of_set (part_of_kind c.kind) (count_in c.kind (out v))))
    (length_is (2 + length item.body) item.kind item.body (behind_first c behind) refl)
    (λ s p. configuration_step running before c total behind s whole p) outside onward

-- ---- sets

-- A set whose wTotalLength is the count of its bytes. Behind its first descriptor this many bytes are left as the others have.
pub set_goes : (E : Aim) (running : Option SetSpeed) (c : Configuration) (before : List Configuration) (total : ℕ) (v : Seen) (behind : List ℕ) (later : List (List Broken))
    → has_typed_raw c ≡ false → length (set_bytes c total) ≡ total → v.left ≡ 0
    → ((w : Seen) → out w ≡ with_count c.kind (count_in c.kind (out v) + 1) (out v) → Goes (adding E (set_descriptors_by (of_set (part_of_kind c.kind) (count_in c.kind (out v))) c total)) running w later behind)
    → Goes E running v (set_in_order (part_of_kind c.kind) before (count_in c.kind (out v)) c ++ later) (set_bytes c total ++ behind)
set_goes E running c before total v behind later raws all_bytes outside onward =
    let d : List ℕ = descriptor_bytes (configuration_descriptor c total) in
    let x = flat_map extra_bytes c.extras in
    let y = flat_map setting_bytes c.settings in
    let typed = typed_parts c raws in
    let n = association_count c.extras in
    let first = begun c.kind (total - length d) v in
    let part = part_of_kind c.kind in
    let i = count_in c.kind (out v) in
    let one = at_configuration part before i c in
    let two = extras_in_order part i c.settings 0 c.extras in
    let three = λ (k : ℕ). at_each_counted setting_associations (setting_in_order part i c.settings) 0 k c.settings in
    let is : set_bytes c total ≡ (d ++ x) ++ y = set_bytes_is c total in
    let whole : IsWhole c total = record { raws = raws; length_is = ap (λ (l : List ℕ). length l) (sym is) ∙ all_bytes } in
    let sum = whole_sum c total whole in
    let none : n ≡ 0 + n = omega arith in
    let left : (total - length d) - length x ≡ length y = omega (arith, sum) in
    let owner = of_set part i in
    let said : Aim = adding E (tree_descriptor roles.Configuration 1 (Some owner) d ∷ []) in
    let with_extras : Aim = adding said (extra_descriptors 2 owner c.extras) in
    goes_as E running v (one ∷ ((two ++ three n) ++ later)) (one ∷ (two ++ (three (0 + n) ++ later))) (set_bytes c total ++ behind) (d ++ (x ++ (y ++ behind)))
    (ap (λ l. one ∷ l) (append_assoc two (three n) later ∙ ap (λ k. two ++ (three k ++ later)) none)) (ap (λ l. l ++ behind) is ∙ four_parts d x y behind)
    (configuration_goes E running before c total v behind (two ++ (three (0 + n) ++ later)) whole outside
    (extras_go said running c.settings c.extras first (y ++ behind) (three (0 + n) ++ later) typed.0 (omega (arith, sum))
    (settings_go with_extras running c.settings c.settings (taken (length x) n first) behind later typed.1 left
    (λ w e. goes_for (adding E (set_descriptors_by owner c total)) (adding with_extras (flat_map (setting_descriptors owner) c.settings)) running w later behind
    (λ r l h. subst (λ k. E r (tree_descriptor roles.Configuration 1 (Some owner) d ∷ k)) (append_assoc (extra_descriptors 2 owner c.extras) (flat_map (setting_descriptors owner) c.settings) l) h)
    (onward w (e ∙ begun_out c.kind 0 (total - length d) v ∙ ap (λ k. with_count c.kind (i + 1) (out_at k v)) (sym outside)))))))

-- from each state of which this is seen
abbrev pub GoesOut : Aim → Option SetSpeed → Out → List (List Broken) → List ℕ → Type 0
GoesOut E running o later ahead = (v : Seen) → out v ≡ o → Goes E running v later ahead

with_twice : (kind : SetKind) (m n : ℕ) (o : Out) → with_count kind m (with_count kind n o) ≡ with_count kind m o
with_twice kinds.Configuration m n o = refl
with_twice kinds.OtherSpeed m n o = refl

count_of : (kind : SetKind) (n : ℕ) (o : Out) → count_in kind (with_count kind n o) ≡ n
count_of kinds.Configuration n o = refl
count_of kinds.OtherSpeed n o = refl

left_of : (kind : SetKind) (n : ℕ) (o : Out) → (with_count kind n o).left ≡ o.left
left_of kinds.Configuration n o = refl
left_of kinds.OtherSpeed n o = refl

same_kind : (kind other : SetKind) → not (type_number other == type_number kind) ≡ false → other ≡ kind
same_kind kinds.Configuration kinds.Configuration e = refl
same_kind kinds.Configuration kinds.OtherSpeed e = cc
same_kind kinds.OtherSpeed kinds.Configuration e = cc
same_kind kinds.OtherSpeed kinds.OtherSpeed e = refl

-- a set against which no reason stands has no raw descriptor of a type that a set reads
whole_set_goes : (E : Aim) (running : Option SetSpeed) (kind : SetKind) (c : Configuration) (before : List Configuration) (i : ℕ) (o : Out) (v : Seen) (behind : List ℕ) (later : List (List Broken))
    → c.kind ≡ kind → o.left ≡ 0 → has_no_layout c ≡ false → out v ≡ with_count kind i o
    → GoesOut (adding E (set_descriptors (part_of_kind kind) i c)) running (with_count kind (i + 1) o) later behind
    → Goes E running v (set_in_order (part_of_kind kind) before i c ++ later) (whole_set c ++ behind)
unfolding whole_set
whole_set_goes E running kind c before i o v behind later same outside allowed is onward =
    let long = no_some (has_long_descriptor c) encoding.Tail _ allowed in
    let typed = no_some (has_typed_raw c) encoding.RawKind _ long.1 in
    let count : count_in c.kind (out v) ≡ i = ap (λ k. count_in k (out v)) same ∙ ap (λ o. count_in kind o) is ∙ count_of kind i o in
    let left : v.left ≡ 0 = ap (λ (o : Out). o.left) is ∙ left_of kind i o ∙ outside in
    let mine : set_descriptors (part_of_kind kind) i c ≡ set_descriptors (part_of_kind c.kind) (count_in c.kind (out v)) c =
    ap (λ k. set_descriptors (part_of_kind k) i c) (sym same) ∙ ap (λ n. set_descriptors (part_of_kind c.kind) n c) (sym count) in
    goes_as E running v (set_in_order (part_of_kind kind) before i c ++ later) (set_in_order (part_of_kind c.kind) before (count_in c.kind (out v)) c ++ later)
    (set_bytes c (set_length c) ++ behind) (set_bytes c (set_length c) ++ behind)
    (ap (λ k. set_in_order (part_of_kind k) before i c ++ later) (sym same) ∙ ap (λ n. set_in_order (part_of_kind c.kind) before n c ++ later) (sym count)) refl
    (set_goes E running c before (set_length c) v behind later typed.0 (length-set_bytes c (set_length c) 0) left
    (λ w e. subst (λ l. Goes (adding E l) running w later behind) mine
    (onward w (e ∙ ap (λ n. with_count c.kind (n + 1) (out v)) count ∙ ap (λ k. with_count k (i + 1) (out v)) same ∙ ap (λ o. with_count kind (i + 1) o) is
    ∙ with_twice kind (i + 1) i o))))

-- sets one after another
pub sets_go : (E : Aim) (running : Option SetSpeed) (kind : SetKind) (all sets : List Configuration) (i : ℕ) (o : Out) (behind : List ℕ) (later : List (List Broken)) → o.left ≡ 0
    → list_any has_no_layout sets ≡ false → list_any (is_other_kind kind) sets ≡ false → ((n : ℕ) → GoesOut (adding E (at_each (set_descriptors (part_of_kind kind)) i sets)) running (with_count kind n o) later behind)
    → GoesOut E running (with_count kind i o) (at_each (λ i c. set_in_order (part_of_kind kind) (take i all) i c) i sets ++ later) (sets_bytes sets ++ behind)
sets_go E running kind all [] i o behind later outside allowed right onward v is = onward i v is
sets_go E running kind all (c ∷ sets) i o behind later outside allowed right onward v is =
    let each = or_parts (has_no_layout c) (list_any has_no_layout sets) allowed in
    let same = or_parts (is_other_kind kind c) (list_any (is_other_kind kind) sets) right in
    let one = set_in_order (part_of_kind kind) (take i all) i c in
    let rest = at_each (λ i c. set_in_order (part_of_kind kind) (take i all) i c) (i + 1) sets in
    goes_as E running v ((one ++ rest) ++ later) (one ++ (rest ++ later)) ((whole_set c ++ sets_bytes sets) ++ behind) (whole_set c ++ (sets_bytes sets ++ behind))
    (append_assoc one rest later) (append_assoc (whole_set c) (sets_bytes sets) behind)
    (whole_set_goes E running kind c (take i all) i o v (sets_bytes sets ++ behind) (rest ++ later) (same_kind kind c.kind same.0) outside each.0 is
    (sets_go (adding E (set_descriptors (part_of_kind kind) i c)) running kind all sets (i + 1) o behind later outside each.1 same.1
    (λ n w at. goes_twice E running w later behind (set_descriptors (part_of_kind kind) i c) (at_each (set_descriptors (part_of_kind kind)) (i + 1) sets) (onward n w at))))
