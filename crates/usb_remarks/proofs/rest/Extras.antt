-- A walk goes through the extras of a set, and tells their findings.
use Rattle.std.proofs.Common.{◌≡◌, ◌≤◌, ℕ, ◌+◌, ◌-◌, Bool, true, false, List, [], ◌∷◌, ◌++◌, flat_map, if◌then◌else◌, length, Option, Some, ◌==◌, refl, sym, ap, subst, ◌∙◌, arith, append_assoc, length-append}
use Rattle.std.specs.List.{list_any}
use Rattle.std.proofs.lemmas.Bool.{le-leb, ne_eqb, or_parts}
use Rattle.std.proofs.lemmas.List.Concat.{flat_map-append}
use Rattle.usb_file_data.specs.declared.cause.Cause.TheVariants as causes
use Rattle.usb_file_data.specs.Causes.{Broken, association_cause, broken_by}
use Rattle.usb_file_data.specs.Findings.{association_count, at_extra, extras_in_order}
use Rattle.usb_file_data.specs.Rules.{binds_missing_interface}
use Rattle.usb_set.specs.declared.extra.Association.{Association}
use Rattle.usb_set.specs.declared.extra.Extra.{Extra}
use Rattle.usb_set.specs.declared.extra.Extra.TheVariants as extras
use Rattle.usb_set.specs.declared.extra.Raw.{Raw}
use Rattle.usb_set.specs.declared.tree.Setting.{Setting}
use Rattle.usb_set.specs.Descriptors.{association_descriptor, descriptor_bytes, extra_descriptor, raw_descriptor}
use Rattle.usb_set.specs.Layout.{is_typed, is_typed_raw}
use Rattle.usb_set.specs.Owners.{association_in}
use Rattle.usb_set.specs.inside.Trees.{extra_bytes}
use Rattle.usb_set.proofs.ExtraLemmas.{untyped}
use Rattle.usb_walk.specs.Trees.{descriptor_length, extra_depth, extra_descriptors, extra_in_tree, extra_owner, extra_role, tree_descriptor}
use Rattle.usb_walk.specs.declared.role.Role.{Role}
use Rattle.usb_walk.specs.declared.role.Role.TheVariants as roles
use Rattle.usb_remarks.specs.declared.outline_state.OutlineState.{OutlineState}
use Rattle.usb_walk.specs.Places.{place_in}
use Rattle.usb_remarks.specs.Findings.{IsAtPlace, can_break, finding_at}
use Rattle.usb_walk.specs.Surroundings.{depth_of}
use Rattle.usb_walk.specs.Owners.{owner_of, part_in}
use Rattle.usb_walk.specs.declared.owner.DescriptorOwner.{DescriptorOwner}
use Rattle.usb_walk.specs.Positions.{noted}
use Rattle.usb_walk.specs.Roles.{inner_role, typed_role}
use Rattle.usb_remarks.specs.declared.speed.SetSpeed.{SetSpeed}
use Rattle.usb_remarks.proofs.Spans.{Aim, adding}
use Rattle.usb_remarks.proofs.rest.Steps.{inner_at, length_is}
use Rattle.usb_remarks.proofs.rest.Seen.{Goes, Seen, Step, goes_as, of_when, one_goes, seen, whose}

-- ---- a descriptor by what is seen before it

-- where this holds of what is seen
pub seen_goes : (E : Aim) (running : Option SetSpeed) (v : Seen) (P : Seen → Type 0) (role : Role) (d behind : List ℕ) (mine : Seen → List Broken) (w : Seen → Seen) (later : List (List Broken))
    (depth : Seen → ℕ) (owner : Seen → Option DescriptorOwner)
    → descriptor_length (d ++ behind) ≡ Some (length d) → ((s : OutlineState) → P (seen s) → Step running s role d behind (mine (seen s)) (w (seen s)) (depth (seen s)) (owner (seen s)))
    → P v → Goes (adding E (tree_descriptor role (depth v) (owner v) d ∷ [])) running (w v) later behind → Goes E running v (mine v ∷ later) (d ++ behind)
seen_goes E running v P role d behind mine w later depth owner e step holds onward =
    one_goes E running v (w v) role d behind (mine v) later (depth v) (owner v) e
    (λ s is. subst (λ v. Step running s role d behind (mine v) (w v) (depth v) (owner v)) is (step s (subst P (sym is) holds))) onward

association_breaks : (none : Bool) → can_break roles.Association (if none then causes.NoInterface else causes.MissingInterface) ≡ true
unfolding can_break
association_breaks true = refl
association_breaks false = refl

-- ---- what is left

-- this many bytes of the set are taken
abbrev pub less : ℕ → Seen → Seen
less n v = record v { left = v.left - n }

-- the same with this many associations
abbrev pub taken : ℕ → ℕ → Seen → Seen
taken n c v = record v { left = v.left - n; associations = v.associations + c }

pub same_taken : (v : Seen) (left count n c : ℕ) → left ≡ v.left - n → count ≡ v.associations + c → record v { left = left; associations = count } ≡ taken n c v
same_taken v left count n c e f =
    ap (λ k. record v { left = k; associations = count }) e ∙ ap (λ k. record v { left = v.left - n; associations = k }) f

-- ---- an extra

-- it is taken
abbrev after_extra : Extra → Seen → Seen
after_extra x v = taken (length (extra_bytes x)) (length (association_in x)) v

not_eleven : (kind : ℕ) → is_typed kind ≡ false → kind ≡ 11 → ⊥
not_eleven kind e is = let no : true ≡ false = ap is_typed (sym is) ∙ e in cc

raw_role : (s : OutlineState) (r : Raw) → is_typed r.kind ≡ false → inner_role s.position (descriptor_bytes (raw_descriptor r)) ≡ Some roles.Raw
unfolding inner_role
raw_role s r e =
    let is = untyped r.kind e in
    rw (ne_eqb r.kind 2 is.two, ne_eqb r.kind 7 is.seven, ne_eqb r.kind 4 is.four, ne_eqb r.kind 5 is.five, ne_eqb r.kind 11 (not_eleven r.kind e)) refl

association_role : (s : OutlineState) (a : Association) → inner_role s.position (descriptor_bytes (association_descriptor a)) ≡ Some roles.Association
unfolding inner_role
association_role s a = ap (λ b. Some (typed_role b roles.Association)) (le-leb 8 (length (descriptor_bytes (association_descriptor a))) (omega arith))

extra_step : (running : Option SetSpeed) (settings : List Setting) (x : Extra) (behind : List ℕ) (s : OutlineState) → is_typed_raw x ≡ false → length (extra_bytes x) ≤ s.position.left
    → Step running s (extra_role x) (extra_bytes x) behind (at_extra (part_in s.position) s.position.set settings s.position.associations x)
    (after_extra x (seen s)) (extra_depth s.position.below x) (Some (extra_owner (whose (seen s)) x))
unfolding noted depth_of owner_of finding_at place_in
extra_step running settings (extras.Raw r) behind s e room =
    let same : s.position.associations ≡ s.position.associations + 0 = omega arith in
    record {
      is = inner_at s (extra_bytes (extras.Raw r)) s.position.left refl (omega arith) room ∙ raw_role s r e;
      own = tt;
      after = same_taken (seen s) (s.position.left - length (extra_bytes (extras.Raw r))) s.position.associations (length (extra_bytes (extras.Raw r))) 0 refl same;
      deep = refl;
      belongs = refl;
    }
extra_step running settings (extras.Association a) behind s e room =
    let d = extra_bytes (extras.Association a) in
    let b = broken_by (association_cause a) (part_in s.position) s.position.set s.position.associations 0 in
    record {
      is = inner_at s d s.position.left refl (omega arith) room ∙ association_role s a;
      own = of_when (λ b. IsAtPlace s.position roles.Association b.finding b.cause) (binds_missing_interface settings a) b (refl, association_breaks (a.count == 0));
      after = refl;
      deep = refl;
      belongs = refl;
    }

extra_goes : (E : Aim) (running : Option SetSpeed) (settings : List Setting) (x : Extra) (v : Seen) (behind : List ℕ) (later : List (List Broken)) → is_typed_raw x ≡ false
    → length (extra_bytes x) ≤ v.left
    → Goes (adding E (tree_descriptor (extra_role x) (extra_depth v.below x) (Some (extra_owner (whose v) x)) (extra_bytes x) ∷ [])) running (after_extra x v) later behind
    → Goes E running v (at_extra v.part v.number settings v.associations x ∷ later) (extra_bytes x ++ behind)
extra_goes E running settings x v behind later e room onward =
    let item = extra_descriptor x in
    seen_goes E running v (λ v. length (extra_bytes x) ≤ v.left) (extra_role x) (extra_bytes x) behind (λ v. at_extra v.part v.number settings v.associations x)
    (after_extra x) later (λ v. extra_depth v.below x) (λ v. Some (extra_owner (whose v) x)) (length_is (2 + length item.body) item.kind item.body behind refl)
    (λ s p. extra_step running settings x behind s e p) room onward

-- ---- extras one after another

pub count_append : (xs ys : List Extra) → association_count (xs ++ ys) ≡ association_count xs + association_count ys
count_append xs ys = ap (λ (l : List Association). length l) (flat_map-append association_in xs ys) ∙ length-append (flat_map association_in xs) (flat_map association_in ys)

pub extras_go : (E : Aim) (running : Option SetSpeed) (settings : List Setting) (xs : List Extra) (v : Seen) (behind : List ℕ) (later : List (List Broken)) → list_any is_typed_raw xs ≡ false
    → length (flat_map extra_bytes xs) ≤ v.left
    → Goes (adding E (extra_descriptors v.below (whose v) xs)) running (taken (length (flat_map extra_bytes xs)) (association_count xs) v) later behind
    → Goes E running v (extras_in_order v.part v.number settings v.associations xs ++ later) (flat_map extra_bytes xs ++ behind)
extras_go E running settings [] v behind later e room onward =
    subst (λ w. Goes E running w later behind) (sym (same_taken v v.left v.associations 0 0 (omega arith) (omega arith))) onward
extras_go E running settings (x ∷ xs) v behind later e room onward =
    let each = or_parts (is_typed_raw x) (list_any is_typed_raw xs) e in
    let d = extra_bytes x in
    let more = flat_map extra_bytes xs in
    let n = length (association_in x) in
    let one = at_extra v.part v.number settings v.associations x in
    let rest = extras_in_order v.part v.number settings (v.associations + n) xs in
    let sum : length (d ++ more) ≡ length d + length more = length-append d more in
    let count : association_count (x ∷ xs) ≡ n + association_count xs = length-append (association_in x) (flat_map association_in xs) in
    let said : Aim = adding E (extra_in_tree v.below (whose v) x ∷ []) in
    goes_as E running v (one ∷ (rest ++ later)) (one ∷ (rest ++ later)) ((d ++ more) ++ behind) (d ++ (more ++ behind)) refl (append_assoc d more behind)
    (extra_goes E running settings x v (more ++ behind) (rest ++ later) each.0 (omega (arith, room, sum))
    (extras_go said running settings xs (after_extra x v) behind later each.1 (omega (arith, room, sum))
    (subst (λ (w : Seen). Goes (adding said (extra_descriptors v.below (whose v) xs)) running w later behind)
    (sym (same_taken v ((v.left - length d) - length more) ((v.associations + n) + association_count xs) (length (d ++ more)) (association_count (x ∷ xs)) (omega (arith, sum)) (omega (arith, count)))) onward)))
