-- A walk goes through the settings of a set, and tells their findings.
use Rattle.std.proofs.Common.{◌≡◌, ℕ, ◌+◌, ◌-◌, Bool, false, List, [], ◌∷◌, ◌++◌, flat_map, length, take, Option, Some, refl, ap, subst, ◌∙◌, arith, append_assoc, length-append}
use Rattle.std.specs.List.{AllByRecursion, list_any}
use Rattle.std.proofs.lemmas.Bool.{le-leb, or_parts}
use Rattle.usb_file_data.specs.declared.cause.Cause.{Cause}
use Rattle.usb_file_data.specs.declared.cause.Cause.TheVariants as causes
use Rattle.usb_file_data.specs.Causes.{Broken, broken_by}
use Rattle.usb_file_data.specs.Findings.{association_count, at_interface, endpoint_associations, endpoint_in_order, extras_in_order, setting_associations, setting_in_order}
use Rattle.usb_file_data.specs.Places.{at_each_counted, when}
use Rattle.usb_file_data.specs.Rules.{lacks_default_setting, repeats_setting, wrong_endpoint_count}
use Rattle.usb_set.specs.declared.tree.Endpoint.{Endpoint}
use Rattle.usb_set.specs.declared.tree.Setting.{Setting}
use Rattle.usb_set.specs.Descriptors.{descriptor_bytes, interface_descriptor}
use Rattle.usb_set.specs.inside.Trees.{endpoint_bytes, extra_bytes, is_setting_typed, setting_bytes}
use Rattle.usb_set.proofs.Trees.{setting_typed_parts}
use Rattle.usb_walk.specs.declared.role.Role.TheVariants as roles
use Rattle.usb_remarks.specs.declared.outline_state.OutlineState.{OutlineState}
use Rattle.usb_walk.specs.Places.{place_in}
use Rattle.usb_remarks.specs.Findings.{IsAtPlace, can_break, finding_at}
use Rattle.usb_walk.specs.Surroundings.{depth_of}
use Rattle.usb_walk.specs.Owners.{of_interface, of_set, owner_of, part_in}
use Rattle.usb_walk.specs.declared.owner.DescriptorOwner.{DescriptorOwner}
use Rattle.usb_walk.specs.Positions.{noted}
use Rattle.usb_walk.specs.Roles.{inner_role, typed_role}
use Rattle.usb_remarks.specs.declared.speed.SetSpeed.{SetSpeed}
use Rattle.usb_walk.specs.Trees.{TreeDescriptor, endpoint_descriptors, extra_descriptors, setting_descriptors, tree_descriptor}
use Rattle.usb_remarks.proofs.Spans.{Aim, adding}
use Rattle.usb_remarks.proofs.rest.Steps.{four_parts, inner_at, length_is}
use Rattle.usb_remarks.proofs.rest.Seen.{Goes, Seen, Step, goes_as, goes_for, of_both, of_when, seen}
use Rattle.usb_remarks.proofs.rest.Extras.{count_append, extras_go, seen_goes, taken}
use Rattle.usb_remarks.proofs.rest.Endpoints.{endpoints_go}

-- ---- an interface

interface_role : (s : OutlineState) (t : Setting) → inner_role s.position (descriptor_bytes (interface_descriptor t)) ≡ Some roles.Interface
unfolding inner_role
interface_role s t = ap (λ b. Some (typed_role b roles.Interface)) (le-leb 9 (length (descriptor_bytes (interface_descriptor t))) (omega arith))

-- a setting begins
abbrev begun_setting : Setting → ℕ → Seen → Seen
begun_setting t n v = record v {
  left = v.left - n;
  settings = v.settings + 1;
  setting = v.settings;
  endpoints = 0;
  interface = record { interface = t.number; alternate = t.alternate };
  address = 0;
  below = 3;
}

-- an interface of the set that is seen
abbrev interface_in : Setting → Seen → DescriptorOwner
interface_in t v = of_interface (of_set v.part v.number) t.number t.alternate

-- what breaks three rules
of_three : (P : Broken → Type 0) (a b c : Bool) (f g h : Broken) → P f → P g → P h → AllByRecursion P (when a f ++ when b g ++ when c h)
of_three P a b c f g h one two three =
    of_both P (when a f ++ when b g) (when c h) (of_both P (when a f) (when b g) (of_when P a f one) (of_when P b g two)) (of_when P c h three)

-- what stands of its set behind an interface: its extras, its endpoints, and the settings behind it
abbrev behind_interface : Setting → List Setting → List ℕ → List ℕ
behind_interface t ts behind = flat_map extra_bytes t.extras ++ (flat_map endpoint_bytes t.endpoints ++ (flat_map setting_bytes ts ++ behind))

setting_sum : (t : Setting) (ts : List Setting)
    → length (flat_map setting_bytes (t ∷ ts)) ≡ length (descriptor_bytes (interface_descriptor t))
    + (length (flat_map extra_bytes t.extras) + (length (flat_map endpoint_bytes t.endpoints) + length (flat_map setting_bytes ts)))
setting_sum t ts =
    let d = descriptor_bytes (interface_descriptor t) in
    let x = flat_map extra_bytes t.extras in
    let y = flat_map endpoint_bytes t.endpoints in
    let more = flat_map setting_bytes ts in
    let sum : length (((d ++ x) ++ y) ++ more) ≡ ((length d + length x) + length y) + length more =
    length-append ((d ++ x) ++ y) more ∙ ap (λ n. n + length more) (length-append (d ++ x) y ∙ ap (λ n. n + length y) (length-append d x)) in
    omega (arith, sum)

interface_step : (running : Option SetSpeed) (all : List Setting) (t : Setting) (ts : List Setting) (behind : List ℕ) (s : OutlineState)
    → s.position.left ≡ length (flat_map setting_bytes (t ∷ ts))
    → Step running s roles.Interface (descriptor_bytes (interface_descriptor t)) (behind_interface t ts behind) (at_interface (part_in s.position) s.position.set all s.position.settings t)
    (begun_setting t (length (descriptor_bytes (interface_descriptor t))) (seen s)) 2 (Some (interface_in t (seen s)))
unfolding noted depth_of owner_of finding_at place_in can_break
interface_step running all t ts behind s left =
    let d = descriptor_bytes (interface_descriptor t) in
    let j = s.position.settings in
    let b = λ (cause : Cause). broken_by cause (part_in s.position) s.position.set j 0 in
    let count = causes.EndpointCount t.declared_endpoints (length t.endpoints) in
    let sum = setting_sum t ts in
    record {
      is = inner_at s d s.position.left refl (omega arith) (omega (arith, left, sum)) ∙ interface_role s t;
      own = of_three (λ b. IsAtPlace s.position roles.Interface b.finding b.cause)
          (repeats_setting (take j all) t) (lacks_default_setting all (take j all) t) (wrong_endpoint_count t)
          (b causes.RepeatedSetting) (b causes.NoDefaultSetting) (b count) (refl, refl) (refl, refl) (refl, refl);
      after = refl;
      deep = refl;
      belongs = refl;
    }

interface_goes : (E : Aim) (running : Option SetSpeed) (all : List Setting) (t : Setting) (ts : List Setting) (v : Seen) (behind : List ℕ) (later : List (List Broken))
    → v.left ≡ length (flat_map setting_bytes (t ∷ ts))
    → Goes (adding E (tree_descriptor roles.Interface 2 (Some (interface_in t v)) (descriptor_bytes (interface_descriptor t)) ∷ [])) running
    (begun_setting t (length (descriptor_bytes (interface_descriptor t))) v) later (behind_interface t ts behind)
    → Goes E running v (at_interface v.part v.number all v.settings t ∷ later) (descriptor_bytes (interface_descriptor t) ++ behind_interface t ts behind)
interface_goes E running all t ts v behind later left onward =
    let item = interface_descriptor t in
    let d = descriptor_bytes item in
    seen_goes E running v (λ v. v.left ≡ length (flat_map setting_bytes (t ∷ ts))) roles.Interface d (behind_interface t ts behind)
    (λ v. at_interface v.part v.number all v.settings t) (begun_setting t (length d)) later (λ v. 2) (λ v. Some (interface_in t v))
    (length_is (2 + length item.body) item.kind item.body (behind_interface t ts behind) refl) (λ s p. interface_step running all t ts behind s p) left onward

-- ---- settings one after another, each with its extras and its endpoints

-- what is seen outside of sets
pub record Out : Type 0 where
  pub left : ℕ
  pub known : Bool
  pub spoken : Bool
  pub mains : ℕ
  pub others : ℕ

abbrev pub out : Seen → Out
out v = record { left = v.left; known = v.known; spoken = v.spoken; mains = v.mains; others = v.others }

abbrev pub out_at : ℕ → Seen → Out
out_at n v = record (out v) { left = n }

five_parts : {A : Type 0} (a b c d e : List A) → (((a ++ b) ++ c) ++ d) ++ e ≡ a ++ (b ++ (c ++ (d ++ e)))
five_parts a b c d e = append_assoc ((a ++ b) ++ c) d e ∙ four_parts a b c (d ++ e)

-- descriptors of a setting and of those behind it
setting_joined : (set : DescriptorOwner) (t : Setting) (ts : List Setting) (c : List TreeDescriptor)
    → (let owner = of_interface set t.number t.alternate in
    flat_map (setting_descriptors set) (t ∷ ts) ++ c
    ≡ tree_descriptor roles.Interface 2 (Some owner) (descriptor_bytes (interface_descriptor t))
    ∷ (extra_descriptors 3 owner t.extras ++ (flat_map (endpoint_descriptors owner) t.endpoints ++ (flat_map (setting_descriptors set) ts ++ c))))
setting_joined set t ts c =
    let owner = of_interface set t.number t.alternate in
    let one = tree_descriptor roles.Interface 2 (Some owner) (descriptor_bytes (interface_descriptor t)) in
    let x = extra_descriptors 3 owner t.extras in
    let y = flat_map (endpoint_descriptors owner) t.endpoints in
    append_assoc (setting_descriptors set t) (flat_map (setting_descriptors set) ts) c
    ∙ ap (λ l. one ∷ l) (append_assoc x y (flat_map (setting_descriptors set) ts ++ c))

pub settings_go : (E : Aim) (running : Option SetSpeed) (all : List Setting) (ts : List Setting) (v : Seen) (behind : List ℕ) (later : List (List Broken))
    → list_any is_setting_typed ts ≡ false → v.left ≡ length (flat_map setting_bytes ts)
    → ((w : Seen) → out w ≡ out_at 0 v → Goes (adding E (flat_map (setting_descriptors (of_set v.part v.number)) ts)) running w later behind)
    → Goes E running v (at_each_counted setting_associations (setting_in_order v.part v.number all) v.settings v.associations ts ++ later) (flat_map setting_bytes ts ++ behind)
settings_go E running all [] v behind later typed none onward = onward v (ap (λ n. out_at n v) none)
settings_go E running all (t ∷ ts) v behind later typed whole onward =
    let each = or_parts (is_setting_typed t) (list_any is_setting_typed ts) typed in
    let parts = setting_typed_parts t each.0 in
    let d = descriptor_bytes (interface_descriptor t) in
    let x = flat_map extra_bytes t.extras in
    let y = flat_map endpoint_bytes t.endpoints in
    let more = flat_map setting_bytes ts in
    let inner = flat_map (λ (e : Endpoint). e.extras) t.endpoints in
    let n = association_count t.extras in
    let m = association_count inner in
    let j = v.settings in
    let begun = begun_setting t (length d) v in
    let set = of_set v.part v.number in
    let owner = interface_in t v in
    let passed = taken (length x) n begun in
    let one = at_interface v.part v.number all j t in
    let two = extras_in_order v.part v.number all v.associations t.extras in
    let three = at_each_counted endpoint_associations (endpoint_in_order v.part v.number all j t) 0 (v.associations + n) t.endpoints in
    let four = λ (k : ℕ). at_each_counted setting_associations (setting_in_order v.part v.number all) (j + 1) k ts in
    let rest = four (v.associations + setting_associations t) in
    let sum = setting_sum t ts in
    let count : v.associations + setting_associations t ≡ (v.associations + n) + m = omega (arith, count_append t.extras inner) in
    let left : ((v.left - length d) - length x) - length y ≡ length more = omega (arith, whole, sum) in
    let said : Aim = adding E (tree_descriptor roles.Interface 2 (Some owner) d ∷ []) in
    let with_extras : Aim = adding said (extra_descriptors 3 owner t.extras) in
    let with_endpoints : Aim = adding with_extras (flat_map (endpoint_descriptors owner) t.endpoints) in
    goes_as E running v (one ∷ (((two ++ three) ++ rest) ++ later)) (one ∷ (two ++ (three ++ (rest ++ later))))
    ((((d ++ x) ++ y) ++ more) ++ behind) (d ++ (x ++ (y ++ (more ++ behind)))) (ap (λ l. one ∷ l) (four_parts two three rest later)) (five_parts d x y more behind)
    (interface_goes E running all t ts v behind (two ++ (three ++ (rest ++ later))) whole
    (extras_go said running all t.extras begun (y ++ (more ++ behind)) (three ++ (rest ++ later)) parts.0 (omega (arith, whole, sum))
    (endpoints_go with_extras running all j t t.endpoints 0 passed (more ++ behind) (rest ++ later) parts.1 (omega arith) (omega (arith, whole, sum))
    (λ o w a. let u : Seen = record (taken (length y) m passed) { setting = j; endpoints = o; below = w; address = a } in
    goes_as with_endpoints running u (rest ++ later) (four ((v.associations + n) + m) ++ later) (more ++ behind) (more ++ behind) (ap (λ k. four k ++ later) count) refl
    (settings_go with_endpoints running all ts u behind later each.1 left
    (λ w e. goes_for (adding E (flat_map (setting_descriptors set) (t ∷ ts))) (adding with_endpoints (flat_map (setting_descriptors set) ts)) running w later behind
    (λ r c h. subst (λ l. E r l) (setting_joined set t ts c) h) (onward w e)))))))
