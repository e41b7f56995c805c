-- Where bytes look like a dump and more, those before their fault are a dump.
use Rattle.std.proofs.Common.{◌≡◌, ℕ, zero, suc, ◌+◌, ◌==◌, ◌||◌, Bool, true, false, if◌then◌else◌, List, [], ◌∷◌, ◌++◌, length, take, drop, slice_index, Option, Some, None, refl, ap, sym, subst, ◌∙◌, arith, inl, inr, ◌⊎◌, append_assoc, append-nil, length-append}
use Rattle.std.specs.Prelude.{◌&&◌, is_some, nat_le, nat_lt, not}
use Rattle.std.proofs.Math.Seq.{drop-append_seam, take-append_seam}
use Rattle.std.proofs.lemmas.List.{take-append-drop}
use Rattle.std.proofs.lemmas.Bool.{and_parts}
use Rattle.std.proofs.lemmas.Bool.Decides.{nat_tests}
use Rattle.usb_fields.specs.Bytes.{AreBytes, little_endian_at}
use Rattle.usb_fields.specs.Device.{device_bytes, device_fault, qualifier_fault}
use Rattle.usb_set.specs.declared.tree.Configuration.{Configuration}
use Rattle.usb_set.specs.Layout.{set_length}
use Rattle.usb_set.proofs.Items.{two_bytes}
use Rattle.usb_set.proofs.Sets.{length-set_bytes}
use Rattle.usb_file_data.specs.declared.file.DescriptorFile.{DescriptorFile}
use Rattle.usb_file_data.specs.declared.file.Other.{Other}
use Rattle.usb_file_data.specs.declared.file.Strings.{Strings}
use Rattle.usb_file_data.specs.File.{named_indices, file_bytes, other_bytes, sets_bytes, strings_bytes, whole_set, File}
use Rattle.usb_file_data.specs.Front.{IsInOrder, Splits}
use Rattle.usb_file_data.proofs.Lists.{bytes_before}
use Rattle.usb_file_data.specs.declared.fault.FileWhy.{FileWhy}
use Rattle.usb_file_data.specs.declared.fault.FileWhy.TheVariants as files
use Rattle.usb_file_data.specs.declared.fault.FileFault.{FileFault}
use Rattle.usb_file_data.specs.declared.likeness.Likeness.{Likeness}
use Rattle.usb_file_data.specs.declared.likeness.Likeness.TheVariants as likes
use Rattle.usb_file_data.specs.Inputs.{Dump}
use Rattle.usb_file_data.specs.FileFaults.{FaultyPart, FileFaulty, IsNext, LanguagesAreNext, MissesString, NextPart, PartFaulty, QualifierIsNext, a_qualifier, a_set, a_string, is_no_string, the_end, the_languages}
use Rattle.usb_file_data.specs.Likeness.{DumpGoesOn, DumpsAreSeen, DumpsEndAtFaults, IsDumpBefore, after_sets, file_likeness, goes_on_after_dump, is_bos, is_empty_string, is_fragment, is_packet, is_report, is_string, is_text, is_usbmon_frame}
use Rattle.usb_file.proofs.Dumps.{is_dump}
use Rattle.usb_file.proofs.Ends.{is_file}
use Rattle.usb_file.proofs.Paths.{behind, device_first}
use Rattle.usb_file_data.proofs.Longest.{set_count}

-- ---- past sets

-- the bytes after one set
abbrev pub past : List ℕ → List ℕ
past b = drop (little_endian_at b 2) b

-- one set first
first_set : (n : ℕ) (b : List ℕ) → after_sets (suc n) b ≡ after_sets n (past b)
unfolding after_sets
first_set zero b = refl
first_set (suc n) b = ap past (first_set n b)

none_past : (b : List ℕ) → after_sets 0 b ≡ b
unfolding after_sets
none_past b = refl

-- wTotalLength of a whole set is the count of its bytes
total_of : (c : Configuration) (more : List ℕ) → little_endian_at (whole_set c ++ more) 2 ≡ length (whole_set c)
unfolding whole_set
total_of c more = two_bytes (set_length c) ∙ sym (length-set_bytes c (set_length c) 0)

past_set : (c : Configuration) (more : List ℕ) → past (whole_set c ++ more) ≡ more
past_set c more = ap (λ n. drop n (whole_set c ++ more)) (total_of c more) ∙ drop-append_seam (whole_set c) more

past_sets : (sets : List Configuration) (more : List ℕ) → after_sets (length sets) (sets_bytes sets ++ more) ≡ more
past_sets [] more = none_past more
past_sets (c ∷ sets) more =
    first_set (length sets) (sets_bytes (c ∷ sets) ++ more)
    ∙ ap (λ l. after_sets (length sets) (past l)) (append_assoc (whole_set c) (sets_bytes sets) more)
    ∙ ap (λ l. after_sets (length sets) l) (past_set c (sets_bytes sets ++ more))
    ∙ past_sets sets more

-- ---- which part is at fault

-- strings are there
abbrev pub HasStrings : DescriptorFile → Type 0
HasStrings f = f.strings ≡ None → ⊥

-- a string descriptor was expected, and the fault is where it should begin
record TextIsDue (f : DescriptorFile) (rest : List ℕ) (place : ℕ) : Type 0 where
  at_start : place ≡ 0
  due : LanguagesAreNext f rest ⊎ HasStrings f

-- the fault of a descriptor of fixed length, and that of a string, by what they depend on
abbrev pub fixed_by : Bool → Bool → ℕ → FileWhy → Option (ℕ × FileWhy)
fixed_by short wrong n why = if short then Some (n, files.Truncated) else if wrong then Some (0, why) else None

abbrev pub string_by : Bool → Bool → ℕ → Option (ℕ × FileWhy)
string_by wrong short n = if wrong then Some (0, files.Text) else if short then Some (n, files.Truncated) else None

-- the place of a fault, and why
abbrev place_in : Option (ℕ × FileWhy) → ℕ
place_in None = 0
place_in (Some fault) = fault.0

abbrev why_in : Option (ℕ × FileWhy) → FileWhy
why_in None = files.Memory
why_in (Some fault) = fault.1

truncated_apart : files.Truncated ≡ files.Text → ⊥
truncated_apart e = cc

memory_apart : files.Memory ≡ files.Text → ⊥
memory_apart e = cc

no_fixed_text : (short wrong : Bool) (n place : ℕ) (why : FileWhy) → (why ≡ files.Text → ⊥) → fixed_by short wrong n why ≡ Some (place, files.Text) → ⊥
no_fixed_text true wrong n place why apart e = truncated_apart (ap why_in e)
no_fixed_text false true n place why apart e = apart (ap why_in e)
no_fixed_text false false n place why apart e = memory_apart (ap why_in e)

text_at : (wrong short : Bool) (n place : ℕ) → string_by wrong short n ≡ Some (place, files.Text) → place ≡ 0
text_at true short n place e = sym (ap place_in e)
text_at false true n place e = absurd (truncated_apart (ap why_in e))
text_at false false n place e = absurd (memory_apart (ap why_in e))

device_apart : files.Device ≡ files.Text → ⊥
device_apart e = cc

qualifier_apart : files.Qualifier ≡ files.Text → ⊥
qualifier_apart e = cc

some_strings : (count : ℕ) (strings : Option Strings) → MissesString count strings → strings ≡ None → ⊥
some_strings count None misses e = misses
some_strings count (Some s) misses e = cc

text_due : (part : NextPart) (f : DescriptorFile) (rest : List ℕ) (place : ℕ) → IsNext part f rest → PartFaulty part rest place files.Text → TextIsDue f rest place
text_due (a_set kind) f rest place next fault = absurd fault
text_due a_qualifier f rest place next fault =
    absurd (no_fixed_text (nat_lt (length rest) 10) (is_some (qualifier_fault (take 10 rest))) (length rest) place files.Qualifier qualifier_apart fault)
text_due the_languages f rest place next fault = record {
  at_start = text_at (is_no_string 4 rest) (nat_lt (length rest) 2 || nat_lt (length rest) (slice_index rest 0)) (length rest) place fault;
  due = inl next;
}
text_due a_string f rest place next fault = record {
  at_start = text_at (is_no_string 2 rest) (nat_lt (length rest) 2 || nat_lt (length rest) (slice_index rest 0)) (length rest) place fault;
  due = inr (some_strings (length (named_indices f)) f.strings next);
}
text_due the_end f [] place next fault = absurd fault
text_due the_end f (x ∷ rest) place next fault = absurd (no_text fault.1)
  where
    no_text : files.Text ≡ files.Trailing → ⊥
    no_text e = cc

-- ---- all sets of the device are there

all_before : (f : DescriptorFile) (other : Option Other) (strings : Option Strings) → IsInOrder f other strings → (strings ≡ None → ⊥) → length f.sets ≡ f.device.configurations
all_before f other None order some = absurd (some refl)
all_before f None (Some s) order some = order.0
all_before f (Some o) (Some s) order some = order.0

all_due : (f : DescriptorFile) (rest : List ℕ) → IsInOrder f f.other f.strings → LanguagesAreNext f rest ⊎ HasStrings f → length f.sets ≡ f.device.configurations
all_due f rest order (inl next) = set_count f f.other next.all
all_due f rest order (inr some) = all_before f f.other f.strings order some

-- ---- nothing else is before the fault

no_other : (other : Option Other) → length (other_bytes other) ≡ 0 → other ≡ None
no_other None e = refl
no_other (Some o) e = absurd (omega (arith, e))

no_strings : (strings : Option Strings) → length (strings_bytes strings) ≡ 0 → strings ≡ None
no_strings None e = refl
no_strings (Some s) e = absurd (omega (arith, e))

-- what follows the device descriptor and its sets
sets_behind : (f : DescriptorFile) (rest : List ℕ) → length f.sets ≡ f.device.configurations
    → (let b = device_bytes f.device ++ behind f rest in after_sets (slice_index b 17) (drop 18 b) ≡ other_bytes f.other ++ (strings_bytes f.strings ++ rest))
sets_behind f rest all =
    ap (λ n. after_sets n (behind f rest)) (sym all) ∙ past_sets f.sets (other_bytes f.other ++ (strings_bytes f.strings ++ rest))

same_numbers : (m n : ℕ) → (m == n) ≡ true → m ≡ n
same_numbers m n e = grind (arith, nat_tests)

no_length : (a b c : List ℕ) → length c ≡ length (a ++ (b ++ c)) → (length a ≡ 0) × (length b ≡ 0)
no_length a b c e =
    let sum : length (a ++ (b ++ c)) ≡ length a + (length b + length c) = length-append a (b ++ c) ∙ ap (λ n. length a + n) (length-append b c) in
    (omega (arith, e, sum), omega (arith, e, sum))

dump_of : (f : DescriptorFile) (b rest : List ℕ) → AreBytes b → Splits b f rest → LanguagesAreNext f rest ⊎ HasStrings f → f.other ≡ None → f.strings ≡ None
    → Dump f (file_bytes f)
dump_of f b rest fits splits (inr some) bare none = absurd (some none)
dump_of f b rest fits splits (inl next) bare none =
    is_dump f (file_bytes f) (bytes_before (file_bytes f) rest (subst AreBytes splits.parts fits))
    (record { is_front = splits.is_front; parts = sym (append-nil (file_bytes f)) })
    (record { all = next.all; no_strings = next.no_strings; no_qualifier = λ _ _. refl; named = next.named })
    bare

dump_before : (f : DescriptorFile) (b rest : List ℕ) (at : ℕ) → AreBytes b → Splits b f rest → at ≡ length (file_bytes f) → LanguagesAreNext f rest ⊎ HasStrings f
    → goes_on_after_dump files.Text at b ≡ true → DumpGoesOn b (record { at = at; why = files.Text }) (length (drop at b))
dump_before f b rest at fits splits at_is due goes =
    let all = all_due f rest splits.is_front.order due in
    let is : b ≡ device_bytes f.device ++ behind f rest = splits.parts ∙ device_first f rest in
    let left : drop at b ≡ rest = ap (λ n. drop n b) at_is ∙ ap (λ l. drop (length (file_bytes f)) l) splits.parts ∙ drop-append_seam (file_bytes f) rest in
    let before : take at b ≡ file_bytes f = ap (λ n. take n b) at_is ∙ ap (λ l. take (length (file_bytes f)) l) splits.parts ∙ take-append_seam (file_bytes f) rest in
    let sets : after_sets (slice_index b 17) (drop 18 b) ≡ other_bytes f.other ++ (strings_bytes f.strings ++ rest) =
    ap (λ l. after_sets (slice_index l 17) (drop 18 l)) is ∙ sets_behind f rest all in
    let same = (and_parts (length (drop at b) == length (after_sets (slice_index b 17) (drop 18 b))) (not (is_empty_string (drop at b))) goes).0 in
    let nothing = no_length (other_bytes f.other) (strings_bytes f.strings) rest
    (ap length (sym left) ∙ same_numbers (length (drop at b)) (length (after_sets (slice_index b 17) (drop 18 b))) same ∙ ap length sets) in
    record {
      file = f;
      dump = subst (λ l. Dump f l) (sym before) (dump_of f b rest fits splits due (no_other f.other nothing.0) (no_strings f.strings nothing.1));
      more = ap length splits.parts ∙ length-append (file_bytes f) rest ∙ ap (λ n. n + length rest) (sym at_is) ∙ ap (λ l. at + length l) (sym left);
    }

part_goes_on : (b : List ℕ) (at : ℕ) → AreBytes b → FaultyPart b at files.Text → goes_on_after_dump files.Text at b ≡ true → DumpGoesOn b (record { at = at; why = files.Text }) (length (drop at b))
part_goes_on b at fits y goes =
    let due = text_due y.part y.front y.rest y.place y.next y.fault in
    dump_before y.front b y.rest at fits y.splits (omega (arith, y.at_is, due.at_start)) due.due goes

-- ---- before a wrong qualifier

-- a qualifier was expected, and the fault is where it begins
record QualifierIsDue (f : DescriptorFile) (rest : List ℕ) (place : ℕ) : Type 0 where
  at_start : place ≡ 0
  next : QualifierIsNext f rest

truncated_no_qualifier : files.Truncated ≡ files.Qualifier → ⊥
truncated_no_qualifier e = cc

memory_no_qualifier : files.Memory ≡ files.Qualifier → ⊥
memory_no_qualifier e = cc

text_no_qualifier : files.Text ≡ files.Qualifier → ⊥
text_no_qualifier e = cc

device_no_qualifier : files.Device ≡ files.Qualifier → ⊥
device_no_qualifier e = cc

wrong_at : (short wrong : Bool) (n place : ℕ) → fixed_by short wrong n files.Qualifier ≡ Some (place, files.Qualifier) → place ≡ 0
wrong_at true wrong n place e = absurd (truncated_no_qualifier (ap why_in e))
wrong_at false true n place e = sym (ap place_in e)
wrong_at false false n place e = absurd (memory_no_qualifier (ap why_in e))

no_device_qualifier : (short wrong : Bool) (n place : ℕ) → fixed_by short wrong n files.Device ≡ Some (place, files.Qualifier) → ⊥
no_device_qualifier true wrong n place e = truncated_no_qualifier (ap why_in e)
no_device_qualifier false true n place e = device_no_qualifier (ap why_in e)
no_device_qualifier false false n place e = memory_no_qualifier (ap why_in e)

no_string_qualifier : (wrong short : Bool) (n place : ℕ) → string_by wrong short n ≡ Some (place, files.Qualifier) → ⊥
no_string_qualifier true short n place e = text_no_qualifier (ap why_in e)
no_string_qualifier false true n place e = truncated_no_qualifier (ap why_in e)
no_string_qualifier false false n place e = memory_no_qualifier (ap why_in e)

qualifier_due : (part : NextPart) (f : DescriptorFile) (rest : List ℕ) (place : ℕ) → IsNext part f rest → PartFaulty part rest place files.Qualifier → QualifierIsDue f rest place
qualifier_due (a_set kind) f rest place next fault = absurd fault
qualifier_due a_qualifier f rest place next fault = record {
  at_start = wrong_at (nat_lt (length rest) 10) (is_some (qualifier_fault (take 10 rest))) (length rest) place fault;
  next = next;
}
qualifier_due the_languages f rest place next fault =
    absurd (no_string_qualifier (is_no_string 4 rest) (nat_lt (length rest) 2 || nat_lt (length rest) (slice_index rest 0)) (length rest) place fault)
qualifier_due a_string f rest place next fault =
    absurd (no_string_qualifier (is_no_string 2 rest) (nat_lt (length rest) 2 || nat_lt (length rest) (slice_index rest 0)) (length rest) place fault)
qualifier_due the_end f [] place next fault = absurd fault
qualifier_due the_end f (x ∷ rest) place next fault = absurd (no_qualifier fault.1)
  where
    no_qualifier : files.Qualifier ≡ files.Trailing → ⊥
    no_qualifier e = cc

-- a device and its sets are a file where no index is named, and else a dump
file_or_dump : (named : ℕ) (f : DescriptorFile) (b : List ℕ) → length (named_indices f) ≡ named → AreBytes b → Splits b f [] → length f.sets ≡ f.device.configurations → f.other ≡ None → f.strings ≡ None
    → Dump f b ⊎ (File f b × (f.other ≡ None) × (f.strings ≡ None))
file_or_dump zero f b named fits splits all bare none = inr (
  is_file f b (record {
    counts = rw bare (grind (arith, nat_tests, all));
    texts = rw (none, named) refl;
    no_qualifier = λ _ _. refl;
  }) splits.is_front splits.parts fits,
  bare,
  none,
)
file_or_dump (suc n) f b named fits splits all bare none =
    inl (is_dump f b fits splits (record { all = rw bare all; no_strings = none; no_qualifier = λ _ _. refl; named = omega (arith, named) }) bare)

qualifier_goes_on : (b : List ℕ) (at : ℕ) → AreBytes b → FaultyPart b at files.Qualifier → DumpGoesOn b (record { at = at; why = files.Qualifier }) (length (drop at b))
qualifier_goes_on b at fits y =
    let f = y.front in
    let due = qualifier_due y.part f y.rest y.place y.next y.fault in
    let at_is : at ≡ length (file_bytes f) = omega (arith, y.at_is, due.at_start) in
    let left : drop at b ≡ y.rest = ap (λ n. drop n b) at_is ∙ ap (λ l. drop (length (file_bytes f)) l) y.splits.parts ∙ drop-append_seam (file_bytes f) y.rest in
    let before : take at b ≡ file_bytes f = ap (λ n. take n b) at_is ∙ ap (λ l. take (length (file_bytes f)) l) y.splits.parts ∙ take-append_seam (file_bytes f) y.rest in
    record {
      file = f;
      dump = subst (λ l. IsDumpBefore files.Qualifier f l) (sym before)
          (file_or_dump (length (named_indices f)) f (file_bytes f) refl (bytes_before (file_bytes f) y.rest (subst AreBytes y.splits.parts fits))
          (record { is_front = y.splits.is_front; parts = sym (append-nil (file_bytes f)) }) due.next.all due.next.no_other due.next.no_strings);
      more = ap length y.splits.parts ∙ length-append (file_bytes f) y.rest ∙ ap (λ n. n + length y.rest) (sym at_is) ∙ ap (λ l. at + length l) (sym left);
    }

-- ---- the likeness

chosen : (t g u q k s r p : Bool) (m j i n : ℕ)
    → (if t then Some likes.Text else if g then Some (likes.DumpAndMore m) else if u then Some (likes.UsbmonFrame j) else if q then Some (likes.Packet i) else if k then Some likes.Bos else if s then Some likes.StringDescriptor else if r then Some likes.Report else if p then Some likes.Fragment else None) ≡ Some (likes.DumpAndMore n)
    → (g ≡ true) × (m ≡ n)
chosen true g u q k s r p m j i n e = absurd (text_apart e)
  where
    text_apart : Some likes.Text ≡ Some (likes.DumpAndMore n) → ⊥
    text_apart e = cc
chosen false true u q k s r p m j i n e = (refl, cc)
chosen false false true q k s r p m j i n e = (cc, cc)
chosen false false false true k s r p m j i n e = (cc, cc)
chosen false false false false true s r p m j i n e = (cc, cc)
chosen false false false false false true r p m j i n e = (cc, cc)
chosen false false false false false false true p m j i n e = (cc, cc)
chosen false false false false false false false true m j i n e = (cc, cc)
chosen false false false false false false false false m j i n e = (cc, cc)

likened : (fault : FileFault) (b : List ℕ) (n : ℕ) → file_likeness fault b ≡ Some (likes.DumpAndMore n)
    → (goes_on_after_dump fault.why fault.at b ≡ true) × (length (drop fault.at b) ≡ n)
likened fault [] n e = absurd (nothing_apart e)
  where
    nothing_apart : Some likes.Nothing ≡ Some (likes.DumpAndMore n) → ⊥
    nothing_apart e = cc
likened fault (x ∷ rest) n e =
    let b = x ∷ rest in
    chosen (is_text b) (goes_on_after_dump fault.why fault.at b) (is_usbmon_frame b) (is_packet b) (is_bos b) (is_string b) (is_report b) (is_fragment b) (length (drop fault.at b)) (length (drop 64 b)) (slice_index b 1) n e

untrue : false ≡ true → ⊥
untrue e = cc

file_goes_on : (b : List ℕ) (at : ℕ) (why : FileWhy) → AreBytes b → FileFaulty b at why → goes_on_after_dump why at b ≡ true → DumpGoesOn b (record { at = at; why = why }) (length (drop at b))
file_goes_on b at files.Text fits (inl device) goes =
    absurd (no_fixed_text (nat_lt (length b) 18) (is_some (device_fault (take 18 b))) (length b) at files.Device device_apart device)
file_goes_on b at files.Text fits (inr part) goes = part_goes_on b at fits part goes
file_goes_on b at files.Device fits faulty goes = absurd (untrue goes)
file_goes_on b at (files.Set why) fits faulty goes = absurd (untrue goes)
file_goes_on b at files.SetKind fits faulty goes = absurd (untrue goes)
file_goes_on b at files.Qualifier fits (inl device) goes =
    absurd (no_device_qualifier (nat_lt (length b) 18) (is_some (device_fault (take 18 b))) (length b) at device)
file_goes_on b at files.Qualifier fits (inr part) goes = qualifier_goes_on b at fits part
file_goes_on b at files.Truncated fits faulty goes = absurd (untrue goes)
file_goes_on b at files.Trailing fits faulty goes = absurd (untrue goes)
file_goes_on b at files.Memory fits faulty goes = absurd (untrue goes)

pub dumps_end : DumpsEndAtFaults
dumps_end b fault n fits faulty e =
    let is = likened fault b n e in
    subst (λ n. DumpGoesOn b fault n) is.1 (file_goes_on b fault.at fault.why fits faulty is.0)

-- ---- a dump is seen

goes_where : (n : ℕ) (text goes : Bool) (more : Option Likeness) → text ≡ false → goes ≡ true
    → (if text then Some likes.Text else if goes then Some (likes.DumpAndMore n) else more) ≡ Some (likes.DumpAndMore n)
goes_where n false true more none e = refl
goes_where n false false more none e = absurd (untrue e)
goes_where n true goes more none e = absurd (untrue (sym none))

-- a device descriptor is no text: its first byte is none
never_text : (long : Bool) → (long && false) ≡ false
never_text true = refl
never_text false = refl

equal_numbers : (m n : ℕ) → m ≡ n → (m == n) ≡ true
equal_numbers m n e = grind (arith, nat_tests)

both_true : (p q : Bool) → p ≡ true → q ≡ false → (p && not q) ≡ true
both_true true false e h = refl
both_true true true e h = absurd (untrue (sym h))
both_true false q e h = absurd (untrue e)

pub dumps_are_seen : DumpsAreSeen
dumps_are_seen f b at dump filled =
    let rest = drop at b in
    let more = sets_bytes f.sets ++ rest in
    let l = device_bytes f.device ++ more in
    let is : b ≡ l = sym (take-append-drop at b) ∙ ap (λ a. a ++ rest) dump.bytes ∙ append_assoc (device_bytes f.device) (sets_bytes f.sets) rest in
    let left : after_sets f.device.configurations more ≡ rest = ap (λ n. after_sets n more) (sym dump.counts) ∙ past_sets f.sets rest in
    let same : length (drop at l) ≡ length (after_sets f.device.configurations more) = ap (λ a. length (drop at a)) (sym is) ∙ ap length (sym left) in
    subst (λ a. file_likeness (record { at = at; why = files.Text }) a ≡ Some (likes.DumpAndMore (length (drop at a)))) (sym is)
    (goes_where (length (drop at l)) (is_text l) ((length (drop at l) == length (after_sets f.device.configurations more)) && not (is_empty_string (drop at l))) _
    (never_text (nat_le 2 (length l)))
    (both_true _ (is_empty_string (drop at l)) (equal_numbers (length (drop at l)) (length (after_sets f.device.configurations more)) same)
    (ap (λ a. is_empty_string (drop at a)) (sym is) ∙ filled)))
