-- A walk over bytes that are no input comes up to their fault.
use Rattle.std.proofs.Common.{◌≡◌, ◌≤◌, ◌<◌, ℕ, zero, suc, ◌+◌, ◌*◌, ◌||◌, Bool, true, false, if◌then◌else◌, List, [], ◌∷◌, ◌++◌, length, slice_index, take, nat_lt, Option, Some, None, is_some, refl, sym, ap, subst, ◌∙◌, arith, inl, inr, ◌⊎◌, append_assoc, append-nil}
use Rattle.std.specs.List.{flat_map, list_any}
use Rattle.std.proofs.Math.Seq.{take-append-add, take-append_seam, take-length}
use Rattle.std.proofs.lemmas.Bool.{or_parts}
use Rattle.std.proofs.lemmas.Bool.Decides.{nat_tests}
use Rattle.usb_fields.specs.Bytes.{AreBytes, little_endian}
use Rattle.usb_fields.specs.Fields.{fields_bytes}
use Rattle.usb_fields.specs.declared.device.DeviceDescriptor.{DeviceDescriptor}
use Rattle.usb_fields.specs.declared.qualifier.Qualifier.{Qualifier}
use Rattle.usb_fields.specs.Device.{device_bytes, device_fault, device_fields, qualifier_bytes, qualifier_fault, qualifier_fields}
use Rattle.usb_fields.specs.Units.{units_bytes}
use Rattle.usb_set.specs.declared.tree.Configuration.{Configuration}
use Rattle.usb_set.specs.declared.tree.SetKind.{SetKind}
use Rattle.usb_set.specs.declared.tree.SetKind.TheVariants as kinds
use Rattle.usb_set.specs.declared.fault.SetFault.{SetFault}
use Rattle.usb_set.specs.Decoding.{StartsAt, WantsMemory}
use Rattle.usb_set.specs.Layout.{Layout, set_bytes}
use Rattle.usb_file_data.specs.declared.file.DescriptorFile.{DescriptorFile}
use Rattle.usb_file_data.specs.declared.file.Other.{Other}
use Rattle.usb_file_data.specs.declared.file.Strings.{Strings}
use Rattle.usb_file_data.specs.File.{each_string_bytes, file_bytes, has_no_layout, is_other_kind, other_bytes, sets_bytes, strings_bytes, other_sets}
use Rattle.usb_file_data.specs.Front.{IsFront, IsInOrder, IsPartStart}
use Rattle.usb_file_data.proofs.Lists.{bytes_behind}
use Rattle.usb_file_data.specs.declared.fault.FileWhy.{FileWhy}
use Rattle.usb_file_data.specs.declared.fault.FileWhy.TheVariants as files
use Rattle.usb_file_data.specs.declared.fault.InputFault.{InputFault}
use Rattle.usb_file_data.specs.declared.fault.InputFault.TheVariants as faults
use Rattle.usb_file_data.specs.FileFaults.{FileFaulty, NextPart, a_set, a_qualifier, the_languages, a_string, the_end, PartFaulty, SetFaulty, fixed_fault, is_no_string, string_fault}
use Rattle.usb_file_data.specs.Inputs.{DeviceRefused, HasFault, InputRefused}
use Rattle.usb_walk.specs.declared.role.Role.TheVariants as roles
use Rattle.usb_remarks.specs.declared.outline_state.OutlineState.{OutlineState}
use Rattle.usb_remarks.specs.FaultPlaces.{place_of_fault}
use Rattle.usb_remarks.specs.OutlineLaws.{BrokenCoversUpToFault}
use Rattle.usb_walk.specs.Positions.{noted}
use Rattle.usb_remarks.specs.SetStart.{entered}
use Rattle.usb_remarks.specs.OutlineStates.{start}
use Rattle.usb_remarks.proofs.Telling.{none_at}
use Rattle.usb_remarks.specs.Uncovered.{uncovered_in_file, uncovered_in_set, most_uncovered}
use Rattle.usb_remarks.specs.declared.speed.SetSpeed.{SetSpeed}
use Rattle.usb_remarks.proofs.Spans.{end_and_rest}
use Rattle.usb_remarks.proofs.rest.Steps.{behind_one, goes_on, left_one, length_is}
use Rattle.usb_remarks.proofs.rest.Seen.{seen}
use Rattle.usb_remarks.proofs.rest.Settings.{Out, out}
use Rattle.usb_remarks.proofs.rest.Sets.{outer_at, set_goes, sets_go, with_count}
use Rattle.usb_remarks.proofs.rest.Inputs.{device_after, device_role, languages_step, nothing_less, out_goes, outside, qualifier_role, start_outside, text_step, reported_nothing, units_length}
use Rattle.usb_remarks.proofs.rest.Near.{EndsFew, OutFew, faulty_few, few, few_left, few_taken, nil_behind, open_few, reached_place}

-- a byte; where there is none it reads as 0
byte_fits : (b : List ℕ) (at : ℕ) → AreBytes b → slice_index b at < 256
byte_fits [] at h = omega arith
byte_fits (x ∷ b) zero h = h.0
byte_fits (x ∷ b) (suc at) h = byte_fits b at h.1

-- ---- the front of a file

-- from each state outside of sets of which this is seen, few bytes are left of these
abbrev FewFrom : ℕ → Option SetSpeed → Out → List ℕ → Type 0
FewFrom k running o ahead = (s : OutlineState) → out (seen s) ≡ o → EndsFew k running s ahead

device_few : (k : ℕ) (running : Option SetSpeed) (d : DeviceDescriptor) (behind : List ℕ) → FewFrom k running (outside true false 0 0) behind → EndsFew k running start (device_bytes d ++ behind)
device_few k running d behind onward fs nil =
    let b = device_bytes d in
    goes_on (few k) running start fs b behind roles.Device _ _ (length_is 18 1 (fields_bytes device_fields d) behind refl) (device_role d) refl refl
    (none_at (entered roles.Device running (b ++ behind) start) roles.Device fs nil)
    (onward (behind_one running start roles.Device b behind) (device_after b (b ++ behind) running)
    (left_one running start fs roles.Device b behind) (nil_behind running start fs roles.Device b behind nil))

sets_few : (k : ℕ) (running : Option SetSpeed) (kind : SetKind) (sets : List Configuration) (i : ℕ) (o : Out) (behind : List ℕ) → o.left ≡ 0
    → list_any has_no_layout sets ≡ false → list_any (is_other_kind kind) sets ≡ false → ((n : ℕ) → FewFrom k running (with_count kind n o) behind)
    → FewFrom k running (with_count kind i o) (sets_bytes sets ++ behind)
sets_few k running kind sets i o behind left allowed right onward s e fs nil =
    sets_go (few k) running kind sets sets i o behind [] left allowed right (λ n v is t gs same report. onward n t (ap (λ v. out v) same ∙ is) gs (reported_nothing t.descriptors gs report))
    (seen s) e s fs refl (inr nil)

qualifier_few : (k : ℕ) (running : Option SetSpeed) (q : Qualifier) (m : ℕ) (behind : List ℕ) → FewFrom k running (outside true false m 0) behind
    → FewFrom k running (outside true false m 0) (qualifier_bytes q ++ behind)
unfolding noted
qualifier_few k running q m behind onward s e fs nil =
    let d = qualifier_bytes q in
    goes_on (few k) running s fs d behind roles.Qualifier _ _ (length_is 10 6 (fields_bytes qualifier_fields q) behind refl)
    (outer_at s d (ap (λ (o : Out). o.left) e) ∙ qualifier_role s q (ap (λ (o : Out). o.known) e)) refl refl
    (none_at (entered roles.Qualifier running (d ++ behind) s) roles.Qualifier fs nil)
    (onward (behind_one running s roles.Qualifier d behind) (nothing_less (outside true false m 0) s (length d) refl e)
    (left_one running s fs roles.Qualifier d behind) (nil_behind running s fs roles.Qualifier d behind nil))

other_few : (k : ℕ) (running : Option SetSpeed) (m : ℕ) (other : Option Other) (behind : List ℕ)
    → list_any has_no_layout (other_sets other) ≡ false → list_any (is_other_kind kinds.OtherSpeed) (other_sets other) ≡ false
    → ((n : ℕ) → FewFrom k running (outside true false m n) behind) → FewFrom k running (outside true false m 0) (other_bytes other ++ behind)
other_few k running m None behind allowed right onward s e = onward 0 s e
other_few k running m (Some o) behind allowed right onward s e =
    subst (λ l. EndsFew k running s l) (sym (append_assoc (qualifier_bytes o.qualifier) (sets_bytes o.sets) behind))
    (qualifier_few k running o.qualifier m (sets_bytes o.sets ++ behind)
    (sets_few k running kinds.OtherSpeed o.sets 0 (outside true false m 0) behind refl allowed right onward) s e)

-- outside of sets nothing of one is left
out_few : (k : ℕ) (running : Option SetSpeed) (known spoken : Bool) (m n : ℕ) (behind : List ℕ) → OutFew k running behind → FewFrom k running (outside known spoken m n) behind
out_few k running known spoken m n behind onward s e = onward s (ap (λ (o : Out). o.left) e)

texts_few : (k : ℕ) (running : Option SetSpeed) (m n : ℕ) (texts : List (List ℕ)) (behind : List ℕ) → OutFew k running behind
    → FewFrom k running (outside true true m n) (each_string_bytes texts ++ behind)
texts_few k running m n [] behind onward s e = out_few k running true true m n behind onward s e
texts_few k running m n (u ∷ texts) behind onward s e =
    let o = outside true true m n in
    let more = each_string_bytes texts ++ behind in
    subst (λ l. EndsFew k running s l) (sym (append_assoc (units_bytes u) (each_string_bytes texts) behind))
    (λ fs nil. out_goes (few k) running o o roles.Text (units_bytes u) more [] [] (length_is (2 + 2 * length u) 3 (flat_map little_endian u) more (units_length u))
    (λ t is. text_step running u more true m n t is)
    (λ v is t gs same report. texts_few k running m n texts behind onward t (ap (λ v. out v) same ∙ is) gs (reported_nothing t.descriptors gs report)) (seen s) e s fs refl (inr nil))

-- there is a language, if there are strings
abbrev AreSpoken : Option Strings → Type 0
AreSpoken None = Unit {0}
AreSpoken (Some s) = 0 < length s.languages

strings_few : (k : ℕ) (running : Option SetSpeed) (m n : ℕ) (strings : Option Strings) (behind : List ℕ) → AreSpoken strings → OutFew k running behind
    → FewFrom k running (outside true false m n) (strings_bytes strings ++ behind)
strings_few k running m n None behind spoken onward s e = out_few k running true false m n behind onward s e
strings_few k running m n (Some strings) behind spoken onward s e =
    let u = strings.languages in
    let more = each_string_bytes strings.texts ++ behind in
    subst (λ l. EndsFew k running s l) (sym (append_assoc (units_bytes u) (each_string_bytes strings.texts) behind))
    (λ fs nil. out_goes (few k) running (outside true false m n) (outside true true m n) roles.Languages (units_bytes u) more [] []
    (length_is (2 + 2 * length u) 3 (flat_map little_endian u) more (units_length u)) (λ t is. languages_step running u more m n t spoken is)
    (λ v is t gs same report. texts_few k running m n strings.texts behind onward t (ap (λ v. out v) same ∙ is) gs (reported_nothing t.descriptors gs report)) (seen s) e s fs refl (inr nil))

spoken_in : (f : DescriptorFile) (other : Option Other) (strings : Option Strings) → IsInOrder f other strings → AreSpoken strings
spoken_in f None None order = tt
spoken_in f (Some o) None order = tt
spoken_in f None (Some s) order = order.1.spoken
spoken_in f (Some o) (Some s) order = order.2.spoken

-- the parts of a front, and few bytes behind them
front_few : (k : ℕ) (running : Option SetSpeed) (f : DescriptorFile) (behind : List ℕ) → IsFront f → OutFew k running behind
    → EndsFew k running start (file_bytes f ++ behind)
front_few k running f behind is onward =
    let d = device_bytes f.device in
    let sets = sets_bytes f.sets in
    let other = other_bytes f.other in
    let strings = strings_bytes f.strings in
    let layouts = or_parts (list_any has_no_layout f.sets) (list_any has_no_layout (other_sets f.other)) is.layouts in
    let right = or_parts (list_any (is_other_kind kinds.Configuration) f.sets) (list_any (is_other_kind kinds.OtherSpeed) (other_sets f.other)) is.kinds in
    let parts_of : file_bytes f ++ behind ≡ d ++ (sets ++ (other ++ (strings ++ behind))) =
    append_assoc (d ++ sets ++ other) strings behind ∙ append_assoc (d ++ sets) other (strings ++ behind) ∙ append_assoc d sets (other ++ (strings ++ behind)) in
    subst (λ l. EndsFew k running start l) (sym parts_of)
    (device_few k running f.device (sets ++ (other ++ (strings ++ behind)))
    (sets_few k running kinds.Configuration f.sets 0 (outside true false 0 0) (other ++ (strings ++ behind)) refl layouts.0 right.0
    (λ m. other_few k running m f.other (strings ++ behind) layouts.1 right.1
    (λ n. strings_few k running m n f.strings behind (spoken_in f f.other f.strings is.order) onward))))

-- ---- the part at fault

-- a fault of a part is no further on than bytes may be left before it
abbrev IsNear : Option (ℕ × FileWhy) → Type 0
IsNear None = Unit {0}
IsNear (Some fault) = fault.0 ≤ uncovered_in_file fault.1

fixed_by : (short wrong : Bool) (n : ℕ) (why : FileWhy) → (short ≡ true → n ≤ 254) → IsNear (if short then Some (n, files.Truncated) else if wrong then Some (0, why) else None)
fixed_by true wrong n why le = le refl
fixed_by false true n why le = omega arith
fixed_by false false n why le = tt

below : (n long : ℕ) → long < 256 → nat_lt n long ≡ true → n ≤ 254
below n long lt e = grind (arith, nat_tests)

-- that of a descriptor of fixed length
fixed_few : (running : Option SetSpeed) (long : ℕ) (wrong : Bool) (why tells : FileWhy) (b : List ℕ) (place : ℕ) (s : OutlineState) → long < 256
    → fixed_fault long wrong why b ≡ Some (place, tells) → EndsFew (uncovered_in_file tells) running s (take place b)
fixed_few running long wrong why tells b place s lt e =
    few_left (uncovered_in_file tells) running s (take place b)
    (few_taken (uncovered_in_file tells) place b (subst (λ o. IsNear o) e (fixed_by (nat_lt (length b) long) wrong (length b) why (below (length b) long lt))))

string_by : (wrong short : Bool) (n : ℕ) → (short ≡ true → n ≤ 254) → IsNear (if wrong then Some (0, files.Text) else if short then Some (n, files.Truncated) else None)
string_by true short n le = omega arith
string_by false true n le = le refl
string_by false false n le = tt

cut_short : (n len : ℕ) → len < 256 → (nat_lt n 2 || nat_lt n len) ≡ true → n ≤ 254
cut_short n len lt e = grind (arith, nat_tests)

-- that of a string
string_few : (running : Option SetSpeed) (least : ℕ) (why : FileWhy) (b : List ℕ) (place : ℕ) (s : OutlineState) → AreBytes b
    → string_fault least b ≡ Some (place, why) → EndsFew (uncovered_in_file why) running s (take place b)
string_few running least why b place s h e =
    let len = slice_index b 0 in
    few_left (uncovered_in_file why) running s (take place b)
    (few_taken (uncovered_in_file why) place b
    (subst (λ o. IsNear o) e (string_by (is_no_string least b) (nat_lt (length b) 2 || nat_lt (length b) len) (length b) (cut_short (length b) len (byte_fits b 0 h)))))

-- a set of a file
set_few : (running : Option SetSpeed) (kind : SetKind) (b : List ℕ) (place : ℕ) (why : FileWhy) → AreBytes b → SetFaulty kind b place why → OutFew (uncovered_in_file why) running (take place b)
set_few running kind b place files.Device h is s outside = absurd is
set_few running kind b place (files.Set why) h is s outside = faulty_few running b place why is s outside
set_few running kind b place files.SetKind h is s outside = few_left 1 running s (take place b) (few_taken 1 place b (omega (arith, is.4)))
set_few running kind b place files.Qualifier h is s outside = absurd is
set_few running kind b place files.Text h is s outside = absurd is
set_few running kind b place files.Truncated h is s outside =
    subst (λ l. EndsFew 254 running s l) (sym (ap (λ n. take n b) is.1 ∙ take-length b)) (open_few running b h is.0 s outside)
set_few running kind b place files.Trailing h is s outside = absurd is
set_few running kind b place files.Memory h is s outside = absurd is

part_few : (running : Option SetSpeed) (part : NextPart) (b : List ℕ) (place : ℕ) (why : FileWhy) → AreBytes b → PartFaulty part b place why
    → OutFew (uncovered_in_file why) running (take place b)
part_few running (a_set kind) b place why h is s outside = set_few running kind b place why h is s outside
part_few running a_qualifier b place why h is s outside = fixed_few running 10 (is_some (qualifier_fault (take 10 b))) files.Qualifier why b place s (omega arith) is
part_few running the_languages b place why h is s outside = string_few running 4 why b place s h is
part_few running a_string b place why h is s outside = string_few running 2 why b place s h is
part_few running the_end [] place why h is s outside = absurd is
part_few running the_end (x ∷ b) place why h is s outside = few_left (uncovered_in_file why) running s (take place (x ∷ b)) (few_taken (uncovered_in_file why) place (x ∷ b) (omega (arith, is.0)))

-- ---- inputs that were refused

file_few : (running : Option SetSpeed) (b : List ℕ) (at : ℕ) (why : FileWhy) → AreBytes b → FileFaulty b at why → EndsFew (uncovered_in_file why) running start (take at b)
file_few running b at why h (inl e) = fixed_few running 18 (is_some (device_fault (take 18 b))) files.Device why b at start (omega arith) e
file_few running b at why h (inr p) =
    let front = file_bytes p.front in
    let is : take at b ≡ front ++ take p.place p.rest =
    ap (λ l. take at l) p.splits.parts ∙ ap (λ n. take n (front ++ p.rest)) p.at_is ∙ take-append-add front p.rest p.place in
    let behind = bytes_behind front p.rest (subst AreBytes p.splits.parts h) in
    subst (λ l. EndsFew (uncovered_in_file why) running start l) (sym is)
    (front_few (uncovered_in_file why) running p.front (take p.place p.rest) p.splits.is_front (part_few running p.part p.rest p.place why behind p.fault))

start_few : (k : ℕ) (running : Option SetSpeed) (b : List ℕ) (at : ℕ) → IsPartStart b at → EndsFew k running start (take at b)
start_few k running b at p =
    let front = file_bytes p.front in
    let is : take at b ≡ front ++ [] =
    ap (λ l. take at l) p.splits.parts ∙ ap (λ n. take n (front ++ p.rest)) p.at_is ∙ take-append_seam front p.rest ∙ sym (append-nil front) in
    subst (λ l. EndsFew k running start l) (sym is) (front_few k running p.front [] p.splits.is_front (λ s e. few_left k running s [] (omega arith)))

refused_few : (running : Option SetSpeed) (b : List ℕ) (at : ℕ) (why : FileWhy) → AreBytes b → DeviceRefused b at why → EndsFew (uncovered_in_file why) running start (take at b)
refused_few running b at files.Device h is = file_few running b at files.Device h is.0
refused_few running b at (files.Set why) h is = file_few running b at (files.Set why) h is.0
refused_few running b at files.SetKind h is = file_few running b at files.SetKind h is.0
refused_few running b at files.Qualifier h is = file_few running b at files.Qualifier h is.0
refused_few running b at files.Text h is = file_few running b at files.Text h is.0
refused_few running b at files.Truncated h is = file_few running b at files.Truncated h is.0
refused_few running b at files.Trailing h is = file_few running b at files.Trailing h is.0
refused_few running b at files.Memory h is = start_few 0 running b at is

-- a whole set, and bytes behind it
layout_few : (k : ℕ) (running : Option SetSpeed) (c : Configuration) (b : List ℕ) → Layout c b → EndsFew k running start b
layout_few k running c b layout =
    subst (λ l. EndsFew k running start l) (append-nil (set_bytes c (length b)) ∙ sym layout.bytes)
    (λ fs nil. set_goes (few k) running c [] (length b) (seen start) [] [] layout.raws_are_raw (ap (λ (l : List ℕ). length l) (sym layout.bytes)) start_outside
    (λ v e s gs same report. few_left k running s [] (omega arith) gs (reported_nothing s.descriptors gs report)) start fs refl (inr nil))

wants_few : (k : ℕ) (running : Option SetSpeed) (b : List ℕ) (at : ℕ) (rest : List ℕ) → StartsAt b at rest → EndsFew k running start (take at b)
wants_few k running b at rest (inl first) = few_left k running start (take at b) (few_taken k at b (omega (arith, first.0)))
wants_few k running b at rest (inr later) = reached_place k running b later.0 later.1 at rest later.2 start start_outside

one_set_few : (running : Option SetSpeed) (b : List ℕ) (fault : SetFault) → AreBytes b → HasFault b fault ⊎ WantsMemory [] b fault
    → EndsFew (uncovered_in_set fault.why) running start (take fault.at b)
one_set_few running b fault h (inl (inl is)) = faulty_few running b fault.at fault.why is start start_outside
one_set_few running b fault h (inl (inr is)) =
    subst (λ (f : SetFault). EndsFew (uncovered_in_set f.why) running start (take f.at b)) (sym is.0)
    (subst (λ l. EndsFew 254 running start l) (sym (take-length b)) (open_few running b h is.1 start start_outside))
one_set_few running b fault h (inr wants) = wants_few (uncovered_in_set fault.why) running b fault.at (wants.item ++ wants.rest) wants.starts

pub input_few : (running : Option SetSpeed) (b : List ℕ) (fault : InputFault) → AreBytes b → InputRefused b fault
    → EndsFew (most_uncovered fault) running start (take (place_of_fault fault) b)
input_few running b (faults.Set fault) h is = one_set_few running b fault h is.1
input_few running b (faults.Trailing at) h is = layout_few 0 running is.1.set (take at b) is.1.layout
input_few running b (faults.File fault) h is = refused_few running b fault.at fault.why h is.1

pub broken_covers : BrokenCoversUpToFault
broken_covers running fault b h is =
    let before = take (place_of_fault fault) b in
    let ended = input_few running b fault h is [] refl (length before) (omega arith) in
    let few_are : length ended.walk.rest ≤ most_uncovered fault = ended.aimed in
    omega (arith, few_are, end_and_rest running [] before ended.walk)
