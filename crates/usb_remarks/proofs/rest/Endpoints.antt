-- A walk goes through the endpoints of a setting, and tells their findings.
use Rattle.std.proofs.Common.{◌≡◌, ◌≤◌, ◌<◌, ℕ, ◌+◌, ◌-◌, ◌&&◌, Bool, true, false, List, [], ◌∷◌, ◌++◌, flat_map, length, nat_le, take, Option, Some, refl, sym, ap, subst, ◌∙◌, append_assoc, arith, length-append}
use Rattle.std.specs.List.{AllByRecursion, list_any}
use Rattle.std.proofs.lemmas.Bool.{le-leb, or_parts}
use Rattle.usb_file_data.specs.declared.cause.Cause.{Cause}
use Rattle.usb_file_data.specs.declared.cause.Cause.TheVariants as causes
use Rattle.usb_file_data.specs.Causes.{Broken, address_cause, broken_by}
use Rattle.usb_file_data.specs.Findings.{association_count, at_endpoint, endpoint_associations, endpoint_in_order, extras_in_order}
use Rattle.usb_file_data.specs.Places.{at_each_counted, when}
use Rattle.usb_file_data.specs.Rules.{repeats_address, shares_address, wrong_address, wrong_packet_size}
use Rattle.usb_set.specs.declared.tree.Endpoint.{Endpoint}
use Rattle.usb_set.specs.declared.tree.Setting.{Setting}
use Rattle.usb_set.specs.Descriptors.{descriptor_bytes, endpoint_descriptor}
use Rattle.usb_set.specs.inside.Trees.{endpoint_bytes, extra_bytes, is_endpoint_typed}
use Rattle.usb_walk.specs.declared.role.Role.TheVariants as roles
use Rattle.usb_remarks.specs.declared.outline_state.OutlineState.{OutlineState}
use Rattle.usb_walk.specs.Places.{place_in}
use Rattle.usb_remarks.specs.Findings.{IsAtPlace, can_break, finding_at}
use Rattle.usb_walk.specs.Surroundings.{depth_of}
use Rattle.usb_walk.specs.Owners.{of_endpoint, owner_of, part_in}
use Rattle.usb_walk.specs.Positions.{noted}
use Rattle.usb_walk.specs.Roles.{inner_role, typed_role}
use Rattle.usb_remarks.specs.declared.speed.SetSpeed.{SetSpeed}
use Rattle.usb_walk.specs.Trees.{endpoint_descriptors, tree_descriptor}
use Rattle.usb_remarks.proofs.Spans.{Aim, adding}
use Rattle.usb_remarks.proofs.rest.Steps.{four_parts, inner_at, length_is}
use Rattle.usb_remarks.proofs.rest.Seen.{Goes, Seen, Step, goes_as, goes_twice, of_both, of_when, seen, whose_interface}
use Rattle.usb_remarks.proofs.rest.Extras.{count_append, extras_go, less, same_taken, seen_goes, taken}

-- ---- its descriptor

both_true : (a b : Bool) → a ≡ true → b ≡ true → (a && b) ≡ true
both_true a b h k = rw (h, k) refl

endpoint_role : (s : OutlineState) (e : Endpoint) → 0 < s.position.settings → inner_role s.position (descriptor_bytes (endpoint_descriptor e)) ≡ Some roles.Endpoint
unfolding inner_role
endpoint_role s e h =
    let n = length (descriptor_bytes (endpoint_descriptor e)) in
    ap (λ b. Some (typed_role b roles.Endpoint)) (both_true (nat_le 1 s.position.settings) (nat_le 7 n) (le-leb 1 s.position.settings (omega (arith, h))) (le-leb 7 n (omega arith)))

-- the endpoint of this number in a setting is next
abbrev pub at_setting : ℕ → ℕ → Seen → Seen
at_setting j k v = record v { setting = j; endpoints = k }

-- an endpoint of this address came last of what owns others
abbrev owned : ℕ → Seen → Seen
owned address v = record v { address = address; below = 4 }

-- what breaks four rules
pub of_four : (P : Broken → Type 0) (a b c d : Bool) (f g h i : Broken) → P f → P g → P h → P i → AllByRecursion P (when a f ++ when b g ++ when c h ++ when d i)
of_four P a b c d f g h i one two three four =
    of_both P (when a f ++ when b g ++ when c h) (when d i)
    (of_both P (when a f ++ when b g) (when c h) (of_both P (when a f) (when b g) (of_when P a f one) (of_when P b g two)) (of_when P c h three)) (of_when P d i four)

endpoint_step : (running : Option SetSpeed) (before : List Setting) (t : Setting) (e : Endpoint) (behind : List ℕ) (s : OutlineState)
    → (0 < s.position.settings) × (length (descriptor_bytes (endpoint_descriptor e)) ≤ s.position.left)
    → Step running s roles.Endpoint (descriptor_bytes (endpoint_descriptor e)) behind (at_endpoint (part_in s.position) s.position.set before s.position.setting t s.position.endpoints e)
    (at_setting s.position.setting (s.position.endpoints + 1) (owned e.address (less (length (descriptor_bytes (endpoint_descriptor e))) (seen s)))) 3
    (Some (of_endpoint (whose_interface (seen s)) e.address))
unfolding noted depth_of owner_of finding_at place_in can_break
endpoint_step running before t e behind s p =
    let d = descriptor_bytes (endpoint_descriptor e) in
    let b = λ (cause : Cause). broken_by cause (part_in s.position) s.position.set s.position.setting s.position.endpoints in
    record {
      is = inner_at s d s.position.left refl (omega arith) p.1 ∙ endpoint_role s e p.0;
      own = of_four (λ b. IsAtPlace s.position roles.Endpoint b.finding b.cause)
          (wrong_address e.address) (repeats_address (take s.position.endpoints t.endpoints) e) (shares_address before t e) (wrong_packet_size e.max_packet)
          (b (address_cause e.address)) (b causes.RepeatedAddress) (b causes.SharedAddress) (b causes.PacketSize) (refl, refl) (refl, refl) (refl, refl) (refl, refl);
      after = refl;
      deep = refl;
      belongs = refl;
    }

endpoint_goes : (E : Aim) (running : Option SetSpeed) (before : List Setting) (j : ℕ) (t : Setting) (k : ℕ) (e : Endpoint) (v : Seen) (behind : List ℕ) (later : List (List Broken))
    → 0 < v.settings → length (descriptor_bytes (endpoint_descriptor e)) ≤ v.left
    → Goes (adding E (tree_descriptor roles.Endpoint 3 (Some (of_endpoint (whose_interface v) e.address)) (descriptor_bytes (endpoint_descriptor e)) ∷ [])) running
    (at_setting j (k + 1) (owned e.address (less (length (descriptor_bytes (endpoint_descriptor e))) v))) later behind
    → Goes E running (at_setting j k v) (at_endpoint v.part v.number before j t k e ∷ later) (descriptor_bytes (endpoint_descriptor e) ++ behind)
endpoint_goes E running before j t k e v behind later some room onward =
    let item = endpoint_descriptor e in
    let d = descriptor_bytes item in
    seen_goes E running (at_setting j k v) (λ v. (0 < v.settings) × (length d ≤ v.left)) roles.Endpoint d behind (λ v. at_endpoint v.part v.number before v.setting t v.endpoints e)
    (λ v. at_setting v.setting (v.endpoints + 1) (owned e.address (less (length d) v))) later (λ v. 3) (λ v. Some (of_endpoint (whose_interface v) e.address)) (length_is (2 + length item.body) item.kind item.body behind refl)
    (λ s p. endpoint_step running before t e behind s p) (some, room) onward

-- ---- endpoints one after another, each with its extras

pub endpoints_go : (E : Aim) (running : Option SetSpeed) (settings : List Setting) (j : ℕ) (t : Setting) (es : List Endpoint) (k : ℕ) (v : Seen) (behind : List ℕ) (later : List (List Broken))
    → list_any is_endpoint_typed es ≡ false → 0 < v.settings → length (flat_map endpoint_bytes es) ≤ v.left
    → ((o w a : ℕ) → Goes (adding E (flat_map (endpoint_descriptors (whose_interface v)) es)) running
    (record (taken (length (flat_map endpoint_bytes es)) (association_count (flat_map (λ e. e.extras) es)) v) { setting = j; endpoints = o; below = w; address = a }) later behind)
    → Goes E running (at_setting j k v) (at_each_counted endpoint_associations (endpoint_in_order v.part v.number settings j t) k v.associations es ++ later)
    (flat_map endpoint_bytes es ++ behind)
endpoints_go E running settings j t [] k v behind later typed some room onward =
    subst (λ w. Goes E running (at_setting j k w) later behind) (sym (same_taken v v.left v.associations 0 0 (omega arith) (omega arith))) (onward k v.below v.address)
endpoints_go E running settings j t (e ∷ es) k v behind later typed some room onward =
    let each = or_parts (is_endpoint_typed e) (list_any is_endpoint_typed es) typed in
    let d = descriptor_bytes (endpoint_descriptor e) in
    let x = flat_map extra_bytes e.extras in
    let more = flat_map endpoint_bytes es in
    let n = association_count e.extras in
    let m = association_count (flat_map (λ (e : Endpoint). e.extras) es) in
    let u = owned e.address (less (length d) v) in
    let mine = endpoint_descriptors (whose_interface v) in
    let one = at_endpoint v.part v.number (take j settings) j t k e in
    let two = extras_in_order v.part v.number settings v.associations e.extras in
    let rest = at_each_counted endpoint_associations (endpoint_in_order v.part v.number settings j t) (k + 1) (v.associations + n) es in
    let sum : length ((d ++ x) ++ more) ≡ (length d + length x) + length more = length-append (d ++ x) more ∙ ap (λ n. n + length more) (length-append d x) in
    let count = count_append e.extras (flat_map (λ (e : Endpoint). e.extras) es) in
    let said : Aim = adding E (tree_descriptor roles.Endpoint 3 (Some (of_endpoint (whose_interface v) e.address)) d ∷ []) in
    let all : Aim = adding E (mine e) in
    goes_as E running (at_setting j k v) (one ∷ ((two ++ rest) ++ later)) (one ∷ (two ++ (rest ++ later))) (((d ++ x) ++ more) ++ behind) (d ++ (x ++ (more ++ behind)))
    (ap (λ l. one ∷ l) (append_assoc two rest later)) (four_parts d x more behind)
    (endpoint_goes E running (take j settings) j t k e v (x ++ (more ++ behind)) (two ++ (rest ++ later)) some (omega (arith, room, sum))
    (extras_go said running settings e.extras (at_setting j (k + 1) u) (more ++ behind) (rest ++ later) each.0 (omega (arith, room, sum))
    (endpoints_go all running settings j t es (k + 1) (taken (length x) n u) behind later each.1 some (omega (arith, room, sum))
    (λ o w a. subst (λ v. Goes (adding all (flat_map mine es)) running (record v { setting = j; endpoints = o; below = w; address = a }) later behind)
    (sym (same_taken v (((v.left - length d) - length x) - length more) ((v.associations + n) + m) (length ((d ++ x) ++ more)) (association_count (e.extras ++ flat_map (λ (e : Endpoint). e.extras) es))
    (omega (arith, sum)) (omega (arith, count))))
    (goes_twice E running (record (taken (length ((d ++ x) ++ more)) (association_count (e.extras ++ flat_map (λ (e : Endpoint). e.extras) es)) v) { setting = j; endpoints = o; below = w; address = a })
    later behind (mine e) (flat_map mine es) (onward o w a))))))
