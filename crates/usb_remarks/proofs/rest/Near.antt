-- A walk over bytes with the fault of a set comes up to that fault.
use Rattle.std.proofs.Common.{◌≡◌, ◌≤◌, ◌<◌, ℕ, zero, suc, ◌+◌, ◌-◌, ◌*◌, ◌==◌, ◌&&◌, ◌||◌, Bool, true, false, if◌then◌else◌, List, [], ◌∷◌, ◌++◌, flat_map, length, take, drop, nat_le, nat_lt, Option, Some, None, refl, sym, ap, subst, ◌∙◌, arith, inl, inr, append_assoc, append-nil, length-append}
use Rattle.std.specs.List.{AllByRecursion}
use Rattle.std.proofs.Math.Seq.{drop-nil, take-append_seam}
use Rattle.std.proofs.lemmas.Bool.{cond-false, eq-eqb, eqb-true}
use Rattle.std.proofs.lemmas.Bool.Decides.{nat_tests}
use Rattle.std.proofs.lemmas.Option.{none-some}
use Rattle.usb_fields.specs.Bytes.{AreBytes}
use Rattle.usb_file_data.specs.declared.cause.Found.{Found}
use Rattle.usb_set.specs.declared.fault.SetWhy.{SetWhy}
use Rattle.usb_set.specs.declared.fault.SetWhy.TheVariants as whys
use Rattle.usb_set.specs.declared.tree.SetKind.{SetKind}
use Rattle.usb_set.specs.declared.tree.SetKind.TheVariants as kinds
use Rattle.usb_set.specs.Descriptors.{Descriptor, descriptor_bytes, type_number}
use Rattle.usb_set.specs.Faults.{AreItems, Fault, Faulty, IsHeader, IsOpen, Reaches, header_fault, is_interface, is_set_type, item_fault, joined, total_of}
use Rattle.usb_set.specs.inside.Reading.{Reading, first, later, whole, faulty, first_byte, reading_of}
use Rattle.usb_set.proofs.ByteByByte.{header_long, whole_length}
use Rattle.usb_set.proofs.Sound.{Sound, sound}
use Rattle.usb_set.proofs.Stands.{item_within}
use Rattle.usb_file_data.proofs.Lists.{bytes_behind}
use Rattle.usb_remarks.specs.declared.speed.SetSpeed.{SetSpeed}
use Rattle.usb_walk.specs.declared.role.Role.{Role}
use Rattle.usb_walk.specs.declared.role.Role.TheVariants.{Device, Qualifier, Association, Interface, Endpoint, Raw, Languages, Text}
use Rattle.usb_walk.specs.declared.role.Role.TheVariants as roles
use Rattle.usb_remarks.specs.declared.outline_state.OutlineState.{OutlineState}
use Rattle.usb_remarks.specs.OutlineLaws.{Cut, HasItsOwnFindings}
use Rattle.usb_remarks.specs.Outline.{Entry, findings_of, first_entries}
use Rattle.usb_remarks.specs.Findings.{found_at}
use Rattle.usb_remarks.specs.SetStart.{entered}
use Rattle.usb_walk.specs.Positions.{noted}
use Rattle.usb_remarks.specs.OutlineStates.{passed}
use Rattle.usb_walk.specs.Roles.{inner_role, typed_role}
use Rattle.usb_remarks.specs.Uncovered.{uncovered_in_set}
use Rattle.usb_remarks.proofs.Spans.{Aim, walk_shows}
use Rattle.usb_remarks.proofs.Telling.{AllAtPlace, none_at}
use Rattle.usb_remarks.proofs.rest.Walks.{Ends}
use Rattle.usb_remarks.proofs.rest.Seen.{Seen}
use Rattle.usb_remarks.proofs.rest.Sets.{outer_at, set_after, set_role}
use Rattle.usb_remarks.proofs.rest.Steps.{behind_one, goes_on, inner_at, left_one, length_is}

-- no more bytes are left than this many
abbrev pub few : ℕ → Aim
few k = λ rest entries. length rest ≤ k

-- a walk from here leaves no more bytes than this many, where nothing is found
abbrev pub EndsFew : ℕ → Option SetSpeed → OutlineState → List ℕ → Type 0
EndsFew k running s ahead = (fs : List Found) → fs ≡ [] → Ends (few k) running s fs ahead

pub nil_behind : (running : Option SetSpeed) (s : OutlineState) (fs : List Found) (role : Role) (d behind : List ℕ) → fs ≡ [] → left_one running s fs role d behind ≡ []
nil_behind running s fs role d behind nil =
    let begun = entered role running (d ++ behind) s in
    ap (λ l. drop (length (found_at begun l)) l) nil ∙ drop-nil (length (found_at begun []))

nil_after : (xs ys : List Found) → xs ++ ys ≡ [] → ys ≡ []
nil_after [] ys e = e
nil_after (x ∷ xs) ys e = absurd (cc)

-- ---- few bytes

cut_rest : (shown : List Entry) (b rest : List ℕ) → Cut b shown rest → length rest ≤ length b
cut_rest [] b rest e = omega (arith, ap (λ (l : List ℕ). length l) e)
cut_rest (d ∷ ds) b rest c =
    omega (arith, ap (λ (l : List ℕ). length l) c.0, length-append d.bytes d.after, cut_rest ds d.after rest c.2)

nil_before : (xs ys : List Found) → xs ++ ys ≡ [] → xs ≡ []
nil_before [] ys e = refl
nil_before (x ∷ xs) ys e = absurd (cc)

-- where nothing is found, each descriptor has its own findings
own_of_none : (shown : List Entry) → flat_map findings_of shown ≡ [] → AllByRecursion HasItsOwnFindings shown
own_of_none [] none = tt
own_of_none (d ∷ ds) none =
    let here = nil_before (findings_of d) (flat_map findings_of ds) none in (
      subst (λ l. AllAtPlace d.state.position d.role l) (sym here) tt,
      own_of_none ds (nil_after (findings_of d) (flat_map findings_of ds) none),
    )

-- of few bytes few are left
pub few_left : (k : ℕ) (running : Option SetSpeed) (s : OutlineState) (ahead : List ℕ) → length ahead ≤ k → EndsFew k running s ahead
few_left k running s ahead le fs nil n enough =
    let es = first_entries n running s fs ahead in
    let w = walk_shows n running s fs ahead in
    let none = w.tells ∙ nil in
    record {
      walk = w;
      aimed = omega (arith, le, cut_rest es ahead w.rest w.cut);
      own = own_of_none es (nil_before (flat_map findings_of es) w.left none);
      all_reported = nil_after (flat_map findings_of es) w.left none;
    }

taken : (n : ℕ) (b : List ℕ) → length (take n b) ≤ n
taken zero b = omega arith
taken (suc n) [] = omega arith
taken (suc n) (x ∷ b) = omega (arith, taken n b)

pub few_taken : (k n : ℕ) (b : List ℕ) → n ≤ k → length (take n b) ≤ k
few_taken k n b le = omega (arith, le, taken n b)

-- a descriptor that is cut off has at most 254 bytes
pub below_length : (b : List ℕ) → AreBytes b → length b < first_byte b → length b ≤ 254
below_length [] h short = omega arith
below_length (len ∷ b) h short = omega (arith, h.0, short)

-- ---- descriptors in a set

-- roles in a set behind its first descriptor
abbrev Stays : Role → Type 0
Stays Association = Unit {0}
Stays Interface = Unit {0}
Stays Endpoint = Unit {0}
Stays Raw = Unit {0}
Stays role = ⊥

typed_stays : (holds : Bool) (role : Role) → Stays role → Stays (typed_role holds role)
typed_stays true role h = h
typed_stays false role h = tt

record Inner (s : OutlineState) (d : List ℕ) : Type 0 where
  role : Role
  is : inner_role s.position d ≡ Some role
  stays : Stays role

chosen : (a b c : Bool) (x y z : Role) → Stays x → Stays y → Stays z
    → (role : Role) × ((if a then Some x else if b then Some y else if c then Some z else Some Raw) ≡ Some role) × Stays role
chosen true b c x y z hx hy hz = (x, refl, hx)
chosen false true c x y z hx hy hz = (y, refl, hy)
chosen false false true x y z hx hy hz = (z, refl, hz)
chosen false false false x y z hx hy hz = (Raw, refl, tt)

inner : (s : OutlineState) (len kind : ℕ) (body : List ℕ) → is_set_type kind ≡ false → Inner s (len ∷ kind ∷ body)
unfolding inner_role
inner s len kind body e =
    let n = length (len ∷ kind ∷ body) in
    let nine = nat_le 9 n in
    let seven = nat_le 1 s.position.settings && nat_le 7 n in
    let eight = nat_le 8 n in
    let one = chosen (kind == 4) (kind == 5) (kind == 11) (typed_role nine Interface) (typed_role seven Endpoint) (typed_role eight Association)
    (typed_stays nine Interface tt) (typed_stays seven Endpoint tt) (typed_stays eight Association tt) in
    record { role = one.0; is = cond-false (is_set_type kind) None _ e ∙ one.1; stays = one.2 }

left_behind : (role : Role) → Stays role → (running : Option SetSpeed) (d ahead : List ℕ) (s : OutlineState)
    → (passed role d (entered role running ahead s)).position.left ≡ s.position.left - length d
unfolding noted
left_behind Device h running d ahead s = absurd h
left_behind Qualifier h running d ahead s = absurd h
left_behind roles.Configuration h running d ahead s = absurd h
left_behind Association h running d ahead s = refl
left_behind Interface h running d ahead s = refl
left_behind Endpoint h running d ahead s = refl
left_behind Raw h running d ahead s = refl
left_behind Languages h running d ahead s = absurd h
left_behind Text h running d ahead s = absurd h

no_other_fault : (a b c : Bool) (x y z : SetWhy) (rest : Option SetWhy)
    → (if a then Some x else if b then Some y else if c then Some z else rest) ≡ None → c ≡ false
no_other_fault true b c x y z rest e = absurd (none-some x (sym e))
no_other_fault false true c x y z rest e = absurd (none-some y (sym e))
no_other_fault false false true x y z rest e = absurd (none-some z (sym e))
no_other_fault false false false x y z rest e = refl

not_nested : (room : ℕ) (in_setting : Bool) (len kind : ℕ) (body : List ℕ) → item_fault room in_setting (len ∷ kind ∷ body) ≡ None → is_set_type kind ≡ false
not_nested room in_setting len kind body e =
    no_other_fault (nat_lt len 2) (nat_lt room len) (is_set_type kind) whys.ItemLength whys.Over whys.Nested _ e

-- from each state where so much of a set is left, no more bytes than this many are left of these
abbrev pub GoesFew : ℕ → Option SetSpeed → ℕ → List ℕ → Type 0
GoesFew k running room ahead = (s : OutlineState) → s.position.left ≡ room → EndsFew k running s ahead

item_goes : (k : ℕ) (running : Option SetSpeed) (room : ℕ) (in_setting : Bool) (item : Descriptor) (behind : List ℕ) → item_fault room in_setting (descriptor_bytes item) ≡ None
    → GoesFew k running (room - length (descriptor_bytes item)) behind → GoesFew k running room (descriptor_bytes item ++ behind)
item_goes k running room in_setting item behind fine onward s left fs nil =
    let d = descriptor_bytes item in
    let len = 2 + length item.body in
    let one = inner s len item.kind item.body (not_nested room in_setting len item.kind item.body fine) in
    let within : length d ≤ room = item_within room in_setting d fine (eq-eqb (length (item.kind ∷ item.body) + 1) len (omega arith)) in
    goes_on (few k) running s fs d behind one.role _ _ (length_is len item.kind item.body behind refl) (inner_at s d room left (omega arith) within ∙ one.is) refl refl (none_at (entered one.role running (d ++ behind) s) one.role fs nil)
    (onward (behind_one running s one.role d behind)
    (left_behind one.role one.stays running d (d ++ behind) s ∙ ap (λ k. k - length d) left)
    (left_one running s fs one.role d behind) (nil_behind running s fs one.role d behind nil))

items_go : (k : ℕ) (running : Option SetSpeed) (room : ℕ) (in_setting : Bool) (items : List Descriptor) (behind : List ℕ) → AreItems room in_setting items
    → ((s : OutlineState) → EndsFew k running s behind) → GoesFew k running room (joined items ++ behind)
items_go k running room in_setting [] behind are onward s left = onward s
items_go k running room in_setting (item ∷ items) behind are onward s left =
    let d = descriptor_bytes item in
    subst (λ l. EndsFew k running s l) (sym (append_assoc d (joined items) behind))
    (item_goes k running room in_setting item (joined items ++ behind) are.0
    (items_go k running (room - length d) (in_setting || is_interface item) items behind are.1 onward) s left)

-- ---- the first descriptor of a set

set_kind : (kind : ℕ) → is_set_type kind ≡ true → (k : SetKind) × (type_number k ≡ kind)
set_kind kind e = by_test (kind == 2) refl
  where
    by_test : (b : Bool) → (kind == 2) ≡ b → (k : SetKind) × (type_number k ≡ kind)
    by_test true two = (kinds.Configuration, sym (eqb-true kind 2 two))
    by_test false two = (kinds.OtherSpeed, sym (eqb-true kind 7 (sym (ap (λ b. b || (kind == 7)) two) ∙ e)))

record Header (header : List ℕ) : Type 0 where
  kind : SetKind
  body : List ℕ
  is : header ≡ (2 + length body) ∷ type_number kind ∷ body
  least : 9 ≤ length header
  most : length header ≤ total_of header

no_header_fault : (a b c : Bool) (x y z : Fault) → (if a then Some x else if b then (if c then Some y else None) else Some z) ≡ None
    → (b ≡ true) × (c ≡ false)
no_header_fault true b c x y z e = absurd (none-some x (sym e))
no_header_fault false true true x y z e = absurd (none-some y (sym e))
no_header_fault false true false x y z e = (refl, refl)
no_header_fault false false c x y z e = absurd (none-some z (sym e))

not_below : (a b : ℕ) → nat_lt a b ≡ false → b ≤ a
not_below a b e = grind (arith, nat_tests)

header_parts : (header : List ℕ) → IsHeader header → Header header
header_parts [] h = absurd (omega (arith, header_long [] h.no_fault h.whole))
header_parts (len ∷ []) h = absurd (omega (arith, header_long (len ∷ []) h.no_fault h.whole))
header_parts (len ∷ kind ∷ []) h = absurd (omega (arith, header_long (len ∷ kind ∷ []) h.no_fault h.whole))
header_parts (len ∷ kind ∷ low ∷ []) h = absurd (omega (arith, header_long (len ∷ kind ∷ low ∷ []) h.no_fault h.whole))
header_parts (len ∷ kind ∷ low ∷ high ∷ body) h =
    let all = len ∷ kind ∷ low ∷ high ∷ body in
    let fine = no_header_fault (nat_lt len 9) (is_set_type kind) (nat_lt (low + 256 * high) len) (0, whys.HeaderLength) (2, whys.Total) (1, whys.HeaderKind) h.no_fault in
    let k = set_kind kind fine.0 in
    let long : length all ≡ len = whole_length all h.whole in
    let rest : List ℕ = low ∷ high ∷ body in
    let counts : len ≡ 2 + length rest = omega (arith, long) in
    let total : len ≤ low + 256 * high = not_below (low + 256 * high) len fine.1 in
    record {
      kind = k.0;
      body = rest;
      is = ap (λ n. n ∷ kind ∷ rest) counts ∙ ap (λ n. (2 + length rest) ∷ n ∷ rest) (sym k.1);
      least = header_long all h.no_fault h.whole;
      most = omega (arith, long, total);
    }

total_before : (len kind : ℕ) (body behind : List ℕ) → 9 ≤ length (len ∷ kind ∷ body) → total_of ((len ∷ kind ∷ body) ++ behind) ≡ total_of (len ∷ kind ∷ body)
total_before len kind [] behind least = absurd (omega arith)
total_before len kind (low ∷ []) behind least = absurd (omega arith)
total_before len kind (low ∷ high ∷ body) behind least = refl

begun_goes : (k : ℕ) (running : Option SetSpeed) (kind : SetKind) (body behind : List ℕ) (s : OutlineState) → s.position.left ≡ 0
    → (let d : List ℕ = (2 + length body) ∷ type_number kind ∷ body in
    9 ≤ length d → length d ≤ total_of d → GoesFew k running (total_of d - length d) behind → EndsFew k running s (d ++ behind))
begun_goes k running kind body behind s outside least most onward fs nil =
    let len = 2 + length body in
    let d : List ℕ = len ∷ type_number kind ∷ body in
    goes_on (few k) running s fs d behind roles.Configuration _ _ (length_is len (type_number kind) body behind refl)
    (outer_at s d outside ∙ set_role s kind len body least most) refl refl
    (none_at (entered roles.Configuration running (d ++ behind) s) roles.Configuration fs nil)
    (onward (behind_one running s roles.Configuration d behind)
    (ap (λ (v : Seen). v.left) (set_after kind running len body behind s) ∙ ap (λ n. n - length d) (total_before len (type_number kind) body behind least))
    (left_one running s fs roles.Configuration d behind) (nil_behind running s fs roles.Configuration d behind nil))

header_goes : (k : ℕ) (running : Option SetSpeed) (header behind : List ℕ) (s : OutlineState) → s.position.left ≡ 0 → IsHeader header
    → GoesFew k running (total_of header - length header) behind → EndsFew k running s (header ++ behind)
header_goes k running header behind s outside is onward =
    let h = header_parts header is in
    subst (λ l. EndsFew k running s (l ++ behind)) (sym h.is)
    (begun_goes k running h.kind h.body behind s outside (subst (λ l. 9 ≤ length l) h.is h.least) (subst (λ l. length l ≤ total_of l) h.is h.most)
    (subst (λ l. GoesFew k running (total_of l - length l) behind) h.is onward))

-- ---- sets

-- so it is from each state outside of sets
abbrev pub OutFew : ℕ → Option SetSpeed → List ℕ → Type 0
OutFew k running ahead = GoesFew k running 0 ahead

pub reached : (k : ℕ) (running : Option SetSpeed) (b header : List ℕ) (items : List Descriptor) (place : ℕ) (rest cur : List ℕ)
    → Reaches b header items place rest → length cur ≤ k → OutFew k running (header ++ joined items ++ cur)
reached k running b header items place rest cur r lt s outside =
    subst (λ l. EndsFew k running s l) (sym (append_assoc header (joined items) cur))
    (header_goes k running header (joined items ++ cur) s outside r.is_header
    (items_go k running (total_of header - length header) false items cur r.are_items (λ t. few_left k running t cur lt)))

-- up to the place of the rest
pub reached_place : (k : ℕ) (running : Option SetSpeed) (b header : List ℕ) (items : List Descriptor) (place : ℕ) (rest : List ℕ)
    → Reaches b header items place rest → OutFew k running (take place b)
reached_place k running b header items place rest r s outside =
    let front = header ++ joined items in
    let ends : length front ≡ place = length-append header (joined items) ∙ sym r.ends in
    let is : take place b ≡ front ++ [] =
    ap (λ l. take place l) r.parts ∙ ap (λ k. take k (front ++ rest)) (sym ends) ∙ take-append_seam front rest ∙ sym (append-nil front) in
    subst (λ l. EndsFew k running s l) (sym is) (reached k running b header items place rest [] r (omega arith) s outside)

-- a fault of the first descriptor is no further on than bytes may be left before it
abbrev IsNear : Option Fault → Type 0
IsNear None = Unit {0}
IsNear (Some fault) = fault.0 ≤ uncovered_in_set fault.1

first_near : (a b c : Bool) → IsNear (if a then Some (0, whys.HeaderLength) else if b then (if c then Some (2, whys.Total) else None) else Some (1, whys.HeaderKind))
first_near true b c = omega arith
first_near false true true = omega arith
first_near false true false = tt
first_near false false c = omega arith

header_near : (b : List ℕ) → IsNear (header_fault b)
header_near [] = tt
header_near (len ∷ []) = first_near (nat_lt len 9) true false
header_near (len ∷ kind ∷ []) = first_near (nat_lt len 9) (is_set_type kind) false
header_near (len ∷ kind ∷ low ∷ []) = first_near (nat_lt len 9) (is_set_type kind) false
header_near (len ∷ kind ∷ low ∷ high ∷ b) = first_near (nat_lt len 9) (is_set_type kind) (nat_lt (low + 256 * high) len)

pub faulty_few : (running : Option SetSpeed) (b : List ℕ) (place : ℕ) (why : SetWhy) → Faulty b place why → OutFew (uncovered_in_set why) running (take place b)
faulty_few running b place why (inl e) s outside =
    few_left (uncovered_in_set why) running s (take place b) (few_taken (uncovered_in_set why) place b (subst (λ o. IsNear o) e (header_near b)))
faulty_few running b place why (inr h) s outside = reached_place (uncovered_in_set why) running b h.header h.items place h.rest h.reaches s outside

-- bytes that are open end in a descriptor
open_by : (running : Option SetSpeed) (b : List ℕ) (r : Reading) → AreBytes b → IsOpen b → Sound b r → OutFew 254 running b
open_by running b (first cur) h waits is s outside =
    few_left 254 running s b (below_length b h (subst (λ l. length l < first_byte l) (sym is.same) is.short))
open_by running b (later c total place cur) h waits is s outside =
    let front = is.header ++ joined is.items in
    let behind = bytes_behind front cur (subst AreBytes is.reaches.parts h) in
    subst (λ l. EndsFew 254 running s l) (sym is.reaches.parts)
    (reached 254 running b is.header is.items place cur cur is.reaches (below_length cur behind is.short) s outside)
open_by running b (whole c place) h waits is s outside = absurd (waits.no_layout c place is)
open_by running b (faulty place why) h waits is s outside = absurd (waits.no_fault place why is)

pub open_few : (running : Option SetSpeed) (b : List ℕ) → AreBytes b → IsOpen b → OutFew 254 running b
open_few running b h waits = open_by running b (reading_of b) h waits (sound b h)
