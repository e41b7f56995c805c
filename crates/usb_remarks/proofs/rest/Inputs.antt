-- A walk over an input leaves nothing, tells each finding, and shows the input's tree.
use Rattle.std.proofs.Common.{◌≡◌, ◌<◌, ℕ, ◌+◌, ◌-◌, ◌*◌, ◌%◌, ◌==◌, ◌&&◌, ◌||◌, Bool, true, false, not, if◌then◌else◌, List, [], ◌∷◌, ◌++◌, length, map, take, Option, Some, None, refl, sym, ap, subst, ◌∙◌, arith, append_assoc, append-nil, inl, inr}
use Rattle.std.specs.List.{AllByRecursion, flat_map, list_any}
use Rattle.std.proofs.lemmas.Bool.{eq-eqb, le-leb, or_parts}
use Rattle.usb_fields.specs.Bytes.{little_endian}
use Rattle.usb_fields.specs.Fields.{fields_bytes}
use Rattle.usb_fields.specs.declared.device.DeviceDescriptor.{DeviceDescriptor}
use Rattle.usb_fields.specs.declared.qualifier.Qualifier.{Qualifier}
use Rattle.usb_fields.specs.Device.{device_bytes, device_fields, qualifier_bytes, qualifier_fields}
use Rattle.usb_fields.specs.Units.{units_bytes}
use Rattle.usb_file_data.specs.declared.cause.Found.{Found}
use Rattle.usb_file_data.specs.declared.finding.Part.TheVariants as parts
use Rattle.usb_file_data.specs.declared.cause.Cause.TheVariants as causes
use Rattle.usb_file_data.specs.Causes.{Broken, broken_by, device_cause, qualifier_cause}
use Rattle.usb_file_data.specs.Findings.{at_device, at_qualifier, broken_in_order, file_in_order, found_from, found_in_order, other_in_order, part_in_order, part_of_kind, set_in_order, without_sets}
use Rattle.usb_file_data.specs.Places.{at_each}
use Rattle.usb_file_data.specs.Rules.{wrong_device, wrong_dumped_device, wrong_qualifier}
use Rattle.usb_set.specs.declared.tree.Configuration.{Configuration}
use Rattle.usb_set.specs.declared.tree.SetKind.{SetKind}
use Rattle.usb_set.specs.declared.tree.SetKind.TheVariants as kinds
use Rattle.usb_set.specs.Layout.{set_length, Layout, set_bytes}
use Rattle.usb_set.proofs.Sets.{length-set_bytes}
use Rattle.usb_file_data.specs.declared.file.DescriptorFile.{DescriptorFile}
use Rattle.usb_file_data.specs.declared.file.Other.{Other}
use Rattle.usb_file_data.specs.declared.file.Strings.{Strings}
use Rattle.usb_file_data.specs.File.{File, are_wrong_strings, each_string_bytes, file_bytes, has_no_layout, is_other_kind, other_bytes, sets_bytes, strings_bytes, named_indices, other_sets}
use Rattle.usb_file_data.specs.declared.file.Input.{Input}
use Rattle.usb_file_data.specs.declared.file.Input.TheVariants as inputs
use Rattle.usb_file_data.specs.Inputs.{Dump, IsInput}
use Rattle.usb_file_data.proofs.Counts.{all_strings}
use Rattle.usb_file_data.proofs.Units.{length-units_bytes}
use Rattle.usb_walk.specs.Trees.{descriptor_length, other_descriptors, set_descriptors, set_descriptors_by, string_descriptors, text_descriptor, tree_descriptor}
use Rattle.usb_remarks.specs.declared.speed.SetSpeed.{SetSpeed}
use Rattle.usb_walk.specs.declared.role.Role.{Role}
use Rattle.usb_walk.specs.declared.role.Role.TheVariants as roles
use Rattle.usb_remarks.specs.declared.outline_state.OutlineState.{OutlineState}
use Rattle.usb_walk.specs.Places.{place_in}
use Rattle.usb_remarks.specs.Findings.{IsAtPlace, can_break, finding_at}
use Rattle.usb_walk.specs.Surroundings.{depth_of}
use Rattle.usb_remarks.specs.OutlineLaws.{WholeHasNoRest, WholeShowsTree, WholeReportsFindings}
use Rattle.usb_walk.specs.Owners.{of_set, owner_of}
use Rattle.usb_remarks.specs.SetStart.{entered}
use Rattle.usb_walk.specs.Positions.{noted}
use Rattle.usb_remarks.specs.OutlineStates.{passed, start}
use Rattle.usb_walk.specs.Roles.{is_alone, outer_role, role_if, role_of, string_role}
use Rattle.usb_file_data.specs.Likeness.{names_languages}
use Rattle.usb_remarks.proofs.Spans.{Aim, adding}
use Rattle.usb_remarks.proofs.OutlineStates.{start_number}
use Rattle.usb_remarks.proofs.Telling.{AllBrokenAt, Reported}
use Rattle.usb_remarks.proofs.rest.Walks.{Ends, ShowsAll, Tells, all_tells, ends_here, nothing_left}
use Rattle.usb_remarks.proofs.rest.Steps.{behind_one, goes_on, left_one, length_is}
use Rattle.usb_remarks.proofs.rest.Seen.{goes_as, left_reported, of_both, of_when, own_reported, seen}
use Rattle.usb_remarks.proofs.rest.Settings.{Out, out}
use Rattle.usb_remarks.proofs.rest.Sets.{GoesOut, both_hold, count_in, outer_at, set_goes, sets_go}

-- ---- descriptors outside of sets

-- outside of sets: whether the device and the language list came, and how many sets of each part
abbrev pub outside : Bool → Bool → ℕ → ℕ → Out
outside known spoken mains others = record { left = 0; known = known; spoken = spoken; mains = mains; others = others }

-- where nothing more is to be found, nothing is
pub reported_nothing : (n : ℕ) (fs : List Found) → Reported n [] fs → fs ≡ []
reported_nothing n fs (inl e) = e
reported_nothing n fs (inr e) = e

-- the end of the bytes
at_end : (E : Aim) (running : Option SetSpeed) (o : Out) → E [] [] → GoesOut E running o [] []
at_end E running o aimed v e s fs same report = ends_here E running s fs (reported_nothing s.descriptors fs report) aimed

-- a descriptor outside of sets
pub record OutStep (running : Option SetSpeed) (s : OutlineState) (role : Role) (d behind : List ℕ) (mine : List Broken) (o : Out) : Type 0 where
  pub is : role_of s.position d ≡ Some role
  pub own : AllBrokenAt (entered role running (d ++ behind) s).position role mine
  pub after : out (seen (passed role d (entered role running (d ++ behind) s))) ≡ o
  pub deep : depth_of (entered role running (d ++ behind) s).position role ≡ 0
  pub belongs : owner_of (entered role running (d ++ behind) s).position role d ≡ None

pub out_goes : (E : Aim) (running : Option SetSpeed) (o p : Out) (role : Role) (d behind : List ℕ) (mine : List Broken) (later : List (List Broken)) → descriptor_length (d ++ behind) ≡ Some (length d)
    → ((s : OutlineState) → out (seen s) ≡ o → OutStep running s role d behind mine p) → GoesOut (adding E (tree_descriptor role 0 None d ∷ [])) running p later behind
    → GoesOut E running o (mine ∷ later) (d ++ behind)
out_goes E running o p role d behind mine later e step onward v is s fs same report =
    let one = step s (ap (λ v. out v) same ∙ is) in
    let next = behind_one running s role d behind in
    goes_on E running s fs d behind role 0 None e one.is one.deep one.belongs (own_reported running s fs role (d ++ behind) mine later one.own report)
    (onward (seen next) one.after next (left_one running s fs role d behind) refl (left_reported running s fs role d behind mine later report))

-- ---- the device

pub device_role : (d : DeviceDescriptor) → role_of start.position (device_bytes d) ≡ Some roles.Device
unfolding start role_of outer_role
device_role d = refl

pub device_after : (d ahead : List ℕ) (running : Option SetSpeed)
    → out (seen (passed roles.Device d (entered roles.Device running ahead start))) ≡ outside true false 0 0
unfolding start noted
device_after d ahead running = let none : 0 - length d ≡ 0 = omega arith in ap (λ n. record (outside true false 0 0) { left = n }) none

abbrev device_findings : Bool → DeviceDescriptor → List Configuration → List Broken
device_findings is_dump d sets = without_sets parts.Main sets ++ at_device is_dump d

device_depth : (running : Option SetSpeed) (ahead : List ℕ) → depth_of (entered roles.Device running ahead start).position roles.Device ≡ 0
unfolding depth_of
device_depth running ahead = refl

device_owner : (running : Option SetSpeed) (d ahead : List ℕ) → owner_of (entered roles.Device running ahead start).position roles.Device d ≡ None
unfolding owner_of
device_owner running d ahead = refl

device_goes : (E : Aim) (running : Option SetSpeed) (fs : List Found) (d : DeviceDescriptor) (sets : List Configuration) (is_dump : Bool) (behind : List ℕ) (later : List (List Broken))
    → GoesOut (adding E (tree_descriptor roles.Device 0 None (device_bytes d) ∷ [])) running (outside true false 0 0) later behind
    → Reported start.descriptors (device_findings is_dump d sets ∷ later) fs → Ends E running start fs (device_bytes d ++ behind)
unfolding finding_at place_in can_break
device_goes E running fs d sets is_dump behind later onward report =
    let b = device_bytes d in
    let mine = device_findings is_dump d sets in
    let next = behind_one running start roles.Device b behind in
    let P = λ (b : Broken). IsAtPlace (entered roles.Device running (device_bytes d ++ behind) start).position roles.Device b.finding b.cause in
    let own : AllByRecursion P mine =
    of_both P (without_sets parts.Main sets) (at_device is_dump d) (of_when P (length sets == 0) (broken_by causes.NoConfiguration parts.Main 0 0 0) (refl, refl))
    (of_when P (if is_dump then wrong_dumped_device d else wrong_device d) (broken_by (device_cause is_dump d) parts.Device 0 0 0) (refl, refl)) in
    goes_on E running start fs b behind roles.Device 0 None (length_is 18 1 (fields_bytes device_fields d) behind refl) (device_role d)
    (device_depth running (b ++ behind)) (device_owner running b (b ++ behind)) (own_reported running start fs roles.Device (b ++ behind) mine later own report)
    (onward (seen next) (device_after b (b ++ behind) running) next (left_one running start fs roles.Device b behind) refl (left_reported running start fs roles.Device b behind mine later report))

-- ---- the other speed

pub qualifier_role : (s : OutlineState) (q : Qualifier) → s.position.has_device ≡ true → outer_role s.position (qualifier_bytes q) ≡ Some roles.Qualifier
unfolding outer_role
qualifier_role s q e = both_hold (s.position.has_device) true roles.Qualifier e refl

-- outside of sets nothing is left of one
pub nothing_less : (o : Out) (s : OutlineState) (n : ℕ) → o.left ≡ 0 → out (seen s) ≡ o → record (out (seen s)) { left = s.position.left - n } ≡ o
nothing_less o s n none e =
    let left : s.position.left ≡ 0 = ap (λ (o : Out). o.left) e ∙ none in
    let same : s.position.left - n ≡ s.position.left = omega (arith, left) in
    ap (λ k. record (out (seen s)) { left = k }) same ∙ e

qualifier_step : (running : Option SetSpeed) (other : Other) (spoken : Bool) (m n : ℕ) (behind : List ℕ) (s : OutlineState) → out (seen s) ≡ outside true spoken m n
    → OutStep running s roles.Qualifier (qualifier_bytes other.qualifier) behind (without_sets parts.Other other.sets ++ at_qualifier other.qualifier) (outside true spoken m n)
unfolding noted depth_of owner_of finding_at place_in can_break
qualifier_step running other spoken m n behind s e =
    let d = qualifier_bytes other.qualifier in
    let P = λ (b : Broken). IsAtPlace (entered roles.Qualifier running (d ++ behind) s).position roles.Qualifier b.finding b.cause in
    record {
      is = outer_at s d (ap (λ (o : Out). o.left) e) ∙ qualifier_role s other.qualifier (ap (λ (o : Out). o.known) e);
      own = of_both P (without_sets parts.Other other.sets) (at_qualifier other.qualifier) (of_when P (length other.sets == 0) (broken_by causes.NoConfiguration parts.Other 0 0 0) (refl, refl))
          (of_when P (wrong_qualifier other.qualifier) (broken_by (qualifier_cause other.qualifier) parts.Other 0 0 0) (refl, refl));
      after = nothing_less (outside true spoken m n) s (length d) refl e;
      deep = refl;
      belongs = refl;
    }

other_goes : (E : Aim) (running : Option SetSpeed) (spoken : Bool) (m : ℕ) (other : Option Other) (behind : List ℕ) (later : List (List Broken))
    → list_any (is_other_kind kinds.OtherSpeed) (other_sets other) ≡ false → list_any has_no_layout (other_sets other) ≡ false
    → ((n : ℕ) → GoesOut (adding E (other_descriptors other)) running (outside true spoken m n) later behind)
    → GoesOut E running (outside true spoken m 0) (other_in_order other ++ later) (other_bytes other ++ behind)
other_goes E running spoken m None behind later right allowed onward v is = onward 0 v is
other_goes E running spoken m (Some o) behind later right allowed onward v is =
    let one = without_sets parts.Other o.sets ++ at_qualifier o.qualifier in
    let rest = part_in_order parts.Other o.sets in
    goes_as E running v (one ∷ (rest ++ later)) (one ∷ (rest ++ later)) ((qualifier_bytes o.qualifier ++ sets_bytes o.sets) ++ behind) (qualifier_bytes o.qualifier ++ (sets_bytes o.sets ++ behind))
    refl (append_assoc (qualifier_bytes o.qualifier) (sets_bytes o.sets) behind)
    (out_goes E running (outside true spoken m 0) (outside true spoken m 0) roles.Qualifier (qualifier_bytes o.qualifier) (sets_bytes o.sets ++ behind) one (rest ++ later)
    (length_is 10 6 (fields_bytes qualifier_fields o.qualifier) (sets_bytes o.sets ++ behind) refl)
    (λ s e. qualifier_step running o spoken m 0 (sets_bytes o.sets ++ behind) s e)
    (sets_go (adding E (tree_descriptor roles.Qualifier 0 None (qualifier_bytes o.qualifier) ∷ [])) running kinds.OtherSpeed o.sets o.sets 0 (outside true spoken m 0) behind later refl allowed right onward) v is)

-- ---- strings

-- the length of a string descriptor is even
even : (n k : ℕ) → n ≡ 2 + 2 * k → (n % 2 == 0) ≡ true
even n k e = eq-eqb (n % 2) 0 (omega (arith, e))

-- a role that asks for one thing which holds
holds : (a : Bool) (role : Role) → a ≡ true → role_if a role ≡ Some role
holds a role h = rw h refl

languages_role : (s : OutlineState) (u : List ℕ) → s.position.has_device ≡ true → s.position.has_languages ≡ false → 0 < length u
    → outer_role s.position (units_bytes u) ≡ Some roles.Languages
unfolding outer_role
languages_role s u known e some =
    ap (λ b. string_role (b || is_alone s.position (units_bytes u)) (length (units_bytes u))) e
    ∙ ap (λ k. string_role (not k && not (names_languages (units_bytes u))) (length (units_bytes u))) known
    ∙ both_hold _ _ roles.Languages (even (length (units_bytes u)) (length u) (length-units_bytes u))
    (le-leb 4 (length (units_bytes u)) (omega (arith, length-units_bytes u, some)))

text_role : (s : OutlineState) (u : List ℕ) → s.position.has_languages ≡ true → outer_role s.position (units_bytes u) ≡ Some roles.Text
unfolding outer_role
text_role s u e =
    ap (λ b. string_role (b || is_alone s.position (units_bytes u)) (length (units_bytes u))) e
    ∙ holds _ roles.Text (even (length (units_bytes u)) (length u) (length-units_bytes u))

pub languages_step : (running : Option SetSpeed) (u behind : List ℕ) (m n : ℕ) (s : OutlineState) → 0 < length u → out (seen s) ≡ outside true false m n
    → OutStep running s roles.Languages (units_bytes u) behind [] (outside true true m n)
unfolding noted depth_of owner_of
languages_step running u behind m n s some e = record {
  is = outer_at s (units_bytes u) (ap (λ (o : Out). o.left) e) ∙ languages_role s u (ap (λ (o : Out). o.known) e) (ap (λ (o : Out). o.spoken) e) some;
  own = tt;
  after = ap (λ (o : Out). record o { spoken = true }) (nothing_less (outside true false m n) s (length (units_bytes u)) refl e);
  deep = refl;
  belongs = refl;
}

pub text_step : (running : Option SetSpeed) (u behind : List ℕ) (known : Bool) (m n : ℕ) (s : OutlineState) → out (seen s) ≡ outside known true m n
    → OutStep running s roles.Text (units_bytes u) behind [] (outside known true m n)
unfolding noted depth_of owner_of
text_step running u behind known m n s e = record {
  is = outer_at s (units_bytes u) (ap (λ (o : Out). o.left) e) ∙ text_role s u (ap (λ (o : Out). o.spoken) e);
  own = tt;
  after = nothing_less (outside known true m n) s (length (units_bytes u)) refl e;
  deep = refl;
  belongs = refl;
}

pub units_length : (u : List ℕ) → 2 + 2 * length u ≡ 2 + length (flat_map little_endian u)
units_length u = omega (arith, length-units_bytes u)

-- strings behind the language list, up to the end
texts_go : (E : Aim) (running : Option SetSpeed) (known : Bool) (m n : ℕ) (texts : List (List ℕ)) → E [] (map text_descriptor texts)
    → GoesOut E running (outside known true m n) [] (each_string_bytes texts)
texts_go E running known m n [] aimed = at_end E running (outside known true m n) aimed
texts_go E running known m n (u ∷ texts) aimed =
    out_goes E running (outside known true m n) (outside known true m n) roles.Text (units_bytes u) (each_string_bytes texts) [] []
    (length_is (2 + 2 * length u) 3 (flat_map little_endian u) (each_string_bytes texts) (units_length u))
    (λ s e. text_step running u (each_string_bytes texts) known m n s e) (texts_go (adding E (text_descriptor u ∷ [])) running known m n texts aimed)

-- a language list has one language at least, as the walk asks of it
strings_go : (E : Aim) (running : Option SetSpeed) (m n count : ℕ) (strings : Option Strings) → are_wrong_strings count strings ≡ false → E [] (string_descriptors strings)
    → GoesOut E running (outside true false m n) [] (strings_bytes strings)
strings_go E running m n count None right aimed = at_end E running (outside true false m n) aimed
strings_go E running m n count (Some strings) right aimed =
    let u = strings.languages in
    out_goes E running (outside true false m n) (outside true true m n) roles.Languages (units_bytes u) (each_string_bytes strings.texts) [] []
    (length_is (2 + 2 * length u) 3 (flat_map little_endian u) (each_string_bytes strings.texts) (units_length u))
    (λ s e. languages_step running u (each_string_bytes strings.texts) m n s (all_strings count strings right).follow.spoken e)
    (texts_go (adding E (tree_descriptor roles.Languages 0 None (units_bytes u) ∷ [])) running true m n strings.texts aimed)

-- ---- inputs

-- at the first byte all of them are to come
all_to_come : (all broken : List (List Broken)) (fs : List Found) → fs ≡ found_from 0 all → all ≡ broken → Reported start.descriptors broken fs
all_to_come all broken fs e same = inl (e ∙ ap (λ l. found_from 0 l) same ∙ ap (λ n. found_from n broken) (sym start_number))

no_sets : (kind : SetKind) → count_in kind (out (seen start)) ≡ 0
unfolding start
no_sets kinds.Configuration = refl
no_sets kinds.OtherSpeed = refl

pub start_outside : start.position.left ≡ 0
unfolding start
start_outside = refl

set_leaves : (running : Option SetSpeed) (c : Configuration) (b : List ℕ) → Layout c b
    → Ends (ShowsAll (inputs.Set c)) running start (found_in_order (inputs.Set c)) b
set_leaves running c b layout =
    let before = take 0 (c ∷ []) in
    let part = part_of_kind c.kind in
    let goal = ShowsAll (inputs.Set c) in
    let total : length b ≡ set_length c = ap (λ (l : List ℕ). length l) layout.bytes ∙ length-set_bytes c (length b) 0 in
    let said = λ (n : ℕ). set_descriptors_by (of_set part n) c (length b) in
    let entries : said (count_in c.kind (out (seen start))) ++ [] ≡ set_descriptors part 0 c =
    append-nil (said (count_in c.kind (out (seen start)))) ∙ ap (λ n. said n) (no_sets c.kind) ∙ ap (λ n. set_descriptors_by (of_set part 0) c n) total in
    subst (λ l. Ends goal running start (found_in_order (inputs.Set c)) l) (append-nil (set_bytes c (length b)) ∙ sym layout.bytes)
    (set_goes goal running c before (length b) (seen start) [] [] layout.raws_are_raw (ap (λ (l : List ℕ). length l) (sym layout.bytes)) start_outside
    (λ w e. at_end (adding goal (said (count_in c.kind (out (seen start))))) running (out w) (refl, entries) w refl) start (found_in_order (inputs.Set c)) refl
    (all_to_come (broken_in_order (inputs.Set c)) (set_in_order part before (count_in c.kind (out (seen start))) c ++ []) (found_in_order (inputs.Set c)) refl
    (ap (λ n. set_in_order part before n c ++ []) (sym (no_sets c.kind)))))

-- the parts of a file in their order: a qualifier stands behind the device, and the language list before strings
file_leaves : (running : Option SetSpeed) (f : DescriptorFile) (b : List ℕ) → File f b → Ends (ShowsAll (inputs.File f)) running start (found_in_order (inputs.File f)) b
file_leaves running f b file =
    let d = device_bytes f.device in
    let sets = sets_bytes f.sets in
    let other = other_bytes f.other in
    let strings = strings_bytes f.strings in
    let one = device_findings false f.device f.sets in
    let two = part_in_order parts.Main f.sets in
    let three = other_in_order f.other in
    let layouts = or_parts (list_any has_no_layout f.sets) (list_any has_no_layout (other_sets f.other)) file.layouts in
    let right = or_parts (list_any (is_other_kind kinds.Configuration) f.sets) (list_any (is_other_kind kinds.OtherSpeed) (other_sets f.other)) file.kinds in
    let parts_of : file_bytes f ≡ d ++ (sets ++ (other ++ strings)) = append_assoc (d ++ sets) other strings ∙ append_assoc d sets (other ++ strings) in
    let all = found_in_order (inputs.File f) in
    let in_parts : file_in_order false f ≡ one ∷ (two ++ (three ++ [])) = ap (λ l. one ∷ (two ++ l)) (sym (append-nil three)) in
    let goal = ShowsAll (inputs.File f) in
    let with_device : Aim = adding goal (tree_descriptor roles.Device 0 None d ∷ []) in
    let with_main : Aim = adding with_device (at_each (set_descriptors parts.Main) 0 f.sets) in
    let with_other : Aim = adding with_main (other_descriptors f.other) in
    let main = at_each (set_descriptors parts.Main) 0 f.sets in
    let joined : main ++ (other_descriptors f.other ++ string_descriptors f.strings) ≡ (main ++ other_descriptors f.other) ++ string_descriptors f.strings =
    sym (append_assoc main (other_descriptors f.other) (string_descriptors f.strings)) in
    subst (λ l. Ends goal running start all l) (sym (file.bytes ∙ parts_of))
    (device_goes goal running all f.device f.sets false (sets ++ (other ++ strings)) (two ++ (three ++ []))
    (sets_go with_device running kinds.Configuration f.sets f.sets 0 (outside true false 0 0) (other ++ strings) (three ++ []) refl layouts.0 right.0
    (λ m. other_goes with_main running false m f.other strings [] right.1 layouts.1
    (λ n. strings_go with_other running m n (length (named_indices f)) f.strings file.texts (refl, ap (λ l. tree_descriptor roles.Device 0 None d ∷ l) joined))))
    (all_to_come (file_in_order false f) (one ∷ (two ++ (three ++ []))) all refl in_parts))

dump_leaves : (running : Option SetSpeed) (f : DescriptorFile) (b : List ℕ) → Dump f b → Ends (ShowsAll (inputs.Dump f)) running start (found_in_order (inputs.Dump f)) b
dump_leaves running f b dump =
    let d = device_bytes f.device in
    let sets = sets_bytes f.sets in
    let one = device_findings true f.device f.sets in
    let two = part_in_order parts.Main f.sets in
    let parts_of : b ≡ d ++ (sets ++ []) = dump.bytes ∙ ap (λ l. d ++ l) (sym (append-nil sets)) in
    let all = found_in_order (inputs.Dump f) in
    let in_parts : file_in_order true f ≡ one ∷ (two ++ []) = ap (λ o. one ∷ (two ++ other_in_order o)) dump.no_other in
    let goal = ShowsAll (inputs.Dump f) in
    let with_device : Aim = adding goal (tree_descriptor roles.Device 0 None d ∷ []) in
    let with_main : Aim = adding with_device (at_each (set_descriptors parts.Main) 0 f.sets) in
    subst (λ l. Ends goal running start all l) (sym parts_of)
    (device_goes goal running all f.device f.sets true (sets ++ []) (two ++ [])
    (sets_go with_device running kinds.Configuration f.sets f.sets 0 (outside true false 0 0) [] [] refl dump.layouts dump.kinds
    (λ m. at_end with_main running (outside true false m 0)
    (refl, ap (λ l. tree_descriptor roles.Device 0 None d ∷ l) (append-nil (at_each (set_descriptors parts.Main) 0 f.sets)))))
    (all_to_come (file_in_order true f) (one ∷ (two ++ [])) all refl in_parts))

input_leaves : (running : Option SetSpeed) (input : Input) (b : List ℕ) → IsInput input b → Ends (ShowsAll input) running start (found_in_order input) b
input_leaves running (inputs.Set set) b is = set_leaves running set b is
input_leaves running (inputs.File file) b is = file_leaves running file b is
input_leaves running (inputs.Dump file) b is = dump_leaves running file b is

pub whole_has_no_rest : WholeHasNoRest
whole_has_no_rest running input b is = nothing_left running input b (input_leaves running input b is)

all_is_reported : (running : Option SetSpeed) (input : Input) (b : List ℕ) → IsInput input b → Tells running input b
all_is_reported running input b is = all_tells running input b (input_leaves running input b is)

pub whole_tells : WholeReportsFindings
whole_tells running input b is = (all_is_reported running input b is).tells

pub whole_shows : WholeShowsTree
whole_shows running input b is = (all_is_reported running input b is).shows
