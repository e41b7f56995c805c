-- What is kept beside a file so far, with one more descriptor.
use Rattle.std.proofs.Common.{◌≡◌, ℕ, ◌+◌, ◌*◌, ◌<◌, ◌≤◌, ◌||◌, ltb, Bool, true, false, List, [], ◌∷◌, ◌++◌, Option, Some, None, is_some, Result, Ok, Err, length, drop, slice_index, refl, ap, sym, subst, ◌∙◌, arith}
use Rattle.std.specs.List.{list_any}
use Rattle.std.specs.Prelude.{OnOk}
use Rattle.std.proofs.lemmas.Bool.{le-ltb, ltb-false, lt-ltb, or_from, or_parts}
use Rattle.std.proofs.lemmas.List.Folds.{list_any-append}
use Rattle.usb_fields.specs.Bytes.{AreBytes}
use Rattle.usb_fields.specs.declared.device.DeviceDescriptor.{DeviceDescriptor}
use Rattle.usb_fields.specs.declared.fault.FieldFault.{FieldFault}
use Rattle.usb_fields.specs.declared.qualifier.Qualifier.{Qualifier}
use Rattle.usb_fields.specs.Device.{device_bytes, device_fault, qualifier_bytes, qualifier_fault}
use Rattle.usb_set.specs.declared.tree.Configuration.{Configuration}
use Rattle.usb_set.specs.Building.{Adds, BeginsWith}
use Rattle.usb_set.specs.Descriptors.{Descriptor, configuration_descriptor, descriptor_bytes, type_number}
use Rattle.usb_set.specs.Layout.{set_length, has_typed_raw, later_descriptors}
use Rattle.usb_set.specs.inside.Reading.{attach, configuration_of, with_last}
use Rattle.usb_set.proofs.Adding.{add_is, add_typed, begin_is, one_tree}
use Rattle.usb_file_data.specs.declared.file.DescriptorFile.{DescriptorFile}
use Rattle.usb_file_data.specs.declared.file.Other.{Other}
use Rattle.usb_file_data.specs.declared.file.Strings.{Strings}
use Rattle.usb_file_data.specs.File.{named_indices, other_sets}
use Rattle.usb_listing.specs.declared.draft.Draft.{Draft}
use Rattle.usb_listing.specs.declared.word.Word.{Word}
use Rattle.usb_listing.specs.declared.word.Word.TheVariants as words
use Rattle.usb_listing.specs.Says.{IsItem, fields, languages, string}
use Rattle.usb_listing.specs.Order.{IsOrdered, has_over, is_over}
use Rattle.usb_listing.specs.Listings.{IsBegun}
use Rattle.usb_listing.specs.inside.Drafts.{Fits, Holds, IsDraft, IsFirst, Joins, JoinsLast, strings_total, work_with}
use Rattle.usb_listing.specs.inside.Growing.{descriptor_of, device_of, file_and, joined_to, last_of, length_of, may_follow, may_follow_sets, open_sets, qualifier_of, set_and, with_sets, with_string}
use Rattle.usb_listing.specs.inside.Walking.{file_of}
use Rattle.usb_listing.proofs.MoreLemmas.{device_read, device_written, joins_last, joins_word, more, no_string, place, qualifier_read, qualifier_written}
use Rattle.usb_listing.proofs.PartLemmas.{any_parts, kind_of, last_push, made, opened, over_here, over_open}
use Rattle.usb_listing.proofs.SaysLemmas.{few_bytes}
use Rattle.usb_listing.proofs.SetLemmas.{IsInner, begins, joined, later, set_word}
use Rattle.usb_set.proofs.Growth.{list_any-snoc}
use Rattle.usb_set.proofs.Items.{with_last-snoc}

-- how many bytes the last set of a file has
abbrev pub work_of : DescriptorFile → ℕ
work_of f = length_of (last_of (open_sets f f.other))

-- with one more descriptor the last set has this many bytes, and is over where these are
pub record Counts (f : DescriptorFile) (w : Word) (b : List ℕ) : Type 0 where
  pub work : work_of (file_and (fields w b) f) ≡ work_with (work_of f) w (length b)
  pub over : has_over (file_and (fields w b) f) ≡ ltb 65535 (work_with (work_of f) w (length b))
  pub fits : Fits w b f
  pub total : strings_total (file_and (fields w b) f) (file_and (fields w b) f).strings ≡ strings_total f f.strings

-- sets of the current part of a file
work_open : (d : DeviceDescriptor) (ss : List Configuration) (o : Option Other) (cs : List Configuration) → work_of (with_sets cs (made d ss o None) o) ≡ length_of (last_of cs)
work_open d ss None cs = refl
work_open d ss (Some o) cs = refl

none_over : (a b c : Bool) → (a || b) ≡ false → (b ≡ false → c ≡ false) → (a || c) ≡ false
none_over true b c e h = cc
none_over false b c e h = h e

first_counts : (d : DeviceDescriptor) (ss : List Configuration) (o : Option Other) (b : List ℕ) → has_over (made d ss o None) ≡ false → IsItem (fields (set_word (kind_of o)) b)
    → (work_of (with_sets (open_sets (made d ss o None) o ++ configuration_of b ∷ []) (made d ss o None) o) ≡ length b)
    × (has_over (with_sets (open_sets (made d ss o None) o ++ configuration_of b ∷ []) (made d ss o None) o) ≡ ltb 65535 (length b)) × IsFirst b
first_counts d ss o b over is =
    let g = begins (kind_of o) b is in
    let few = few_bytes (set_word (kind_of o)) b is in
    let cs = open_sets (made d ss o None) o in
    let count = g.count in
    let short : is_over (configuration_of b) ≡ false = le-ltb 65535 _ (omega (arith, count, few)) in (
      work_open d ss o (cs ++ configuration_of b ∷ []) ∙ ap length_of (last_push cs (configuration_of b)) ∙ count,
      over_open d ss o (cs ++ configuration_of b ∷ [])
          ∙ none_over _ _ _ (sym (over_here d ss o) ∙ over) (λ all. list_any-snoc is_over cs (configuration_of b) all short)
          ∙ sym (le-ltb 65535 (length b) (omega (arith, few))),
      g.first,
    )

last_over : (a b c : Bool) → (a || b) ≡ false → b ≡ false → (a || c) ≡ c
last_over true b c e h = cc
last_over false b c e h = refl

any_last : (front : List Configuration) (c new : Configuration) → list_any is_over (front ++ c ∷ []) ≡ false → list_any is_over (front ++ new ∷ []) ≡ is_over new
any_last front c new e = list_any-append is_over front (new ∷ []) ∙ at (list_any is_over front) (is_over new) (any_parts is_over front c e).0
  where
    at : (a n : Bool) → a ≡ false → (a || (n || false)) ≡ n
    at true n e = cc
    at false true e = refl
    at false false e = refl

inner_counts : (d : DeviceDescriptor) (ss : List Configuration) (o : Option Other) (w : Word) (b : List ℕ) → IsOrdered (made d ss o None) → has_over (made d ss o None) ≡ false
    → IsItem (fields w b) → IsInner w → may_follow_sets w (made d ss o None) o ≡ true
    → (work_of (file_and (fields w b) (made d ss o None)) ≡ work_of (made d ss o None) + length b)
    × (has_over (file_and (fields w b) (made d ss o None)) ≡ ltb 65535 (work_of (made d ss o None) + length b)) × JoinsLast b (open_sets (made d ss o None) o)
inner_counts d ss o w b h over is inner may =
    let l = later w b is inner in
    let cs = open_sets (made d ss o None) o in
    let at = place w b l (made d ss o None) o inner may in
    let p = opened d ss o h in
    let raws = (any_parts has_typed_raw at.front at.set (subst (λ (xs : List Configuration). list_any has_typed_raw xs ≡ false) at.is p.1.raws)).1 in
    let count = (joined w b l at.set at.belongs raws).count in
    let old : work_of (made d ss o None) ≡ set_length at.set = ap length_of (ap last_of at.is ∙ last_push at.front at.set) in
    let new_sets : with_last (set_and b) cs ≡ at.front ++ set_and b at.set ∷ [] = ap (with_last (set_and b)) at.is ∙ with_last-snoc (set_and b) at.front at.set in
    let new : file_and (fields w b) (made d ss o None) ≡ with_sets (at.front ++ set_and b at.set ∷ []) (made d ss o None) o =
    joins_word w inner b (made d ss o None) ∙ ap (λ (xs : List Configuration). with_sets xs (made d ss o None) o) new_sets in
    let none = sym (over_here d ss o) ∙ over in
    let parts = or_parts _ _ none in (
      ap work_of new ∙ work_open d ss o _ ∙ ap length_of (last_push at.front (set_and b at.set)) ∙ count ∙ ap (λ (n : ℕ). n + length b) (sym old),
      ap has_over new ∙ over_open d ss o _
          ∙ last_over _ _ _ none parts.1
          ∙ any_last at.front at.set (set_and b at.set) (ap (list_any is_over) (sym at.is) ∙ parts.1)
          ∙ ap (ltb 65535) (count ∙ ap (λ (n : ℕ). n + length b) (sym old)),
      joins_last w b l cs at p.1.raws,
    )

keeps : (d : DeviceDescriptor) (ss : List Configuration) (o : Option Other) (b : List ℕ) → strings_total (joined_to b (made d ss o None)) (joined_to b (made d ss o None)).strings ≡ 0
keeps d ss None b = refl
keeps d ss (Some o) b = refl

sets_count : (d : DeviceDescriptor) (ss : List Configuration) (o : Option Other) (w : Word) (b : List ℕ) → IsOrdered (made d ss o None) → has_over (made d ss o None) ≡ false
    → IsItem (fields w b) → may_follow_sets w (made d ss o None) o ≡ true → Counts (made d ss o None) w b
unfolding file_and
sets_count d ss o words.Device b h over is may = absurd (let no = may in cc)
sets_count d ss None words.Configuration b h over is may = let c = first_counts d ss None b over is in record { work = c.0; over = c.1; fits = c.2; total = refl }
sets_count d ss (Some o) words.Configuration b h over is may = absurd (let no = may in cc)
sets_count d ss None words.OtherSpeed b h over is may = absurd (let no = may in cc)
sets_count d ss (Some o) words.OtherSpeed b h over is may = let c = first_counts d ss (Some o) b over is in record { work = c.0; over = c.1; fits = c.2; total = refl }
sets_count d ss o words.Interface b h over is may = let c = inner_counts d ss o words.Interface b h over is tt may in record { work = c.0; over = c.1; fits = c.2; total = keeps d ss o b }
sets_count d ss o words.Endpoint b h over is may = let c = inner_counts d ss o words.Endpoint b h over is tt may in record { work = c.0; over = c.1; fits = c.2; total = keeps d ss o b }
sets_count d ss o (words.Extra x) b h over is may = let c = inner_counts d ss o (words.Extra x) b h over is tt may in record { work = c.0; over = c.1; fits = c.2; total = keeps d ss o b }
sets_count d ss None words.Qualifier b h over is may = record { work = refl; over = or_from _ _ (or_parts _ _ over).0 refl; fits = is; total = refl }
sets_count d ss (Some o) words.Qualifier b h over is may = absurd (let no = may in cc)
sets_count d ss o words.Languages b h over is may = absurd is.1
sets_count d ss o words.String b h over is may = absurd is.1

file_count : (d : DeviceDescriptor) (ss : List Configuration) (o : Option Other) (s : Option Strings) (w : Word) (b : List ℕ) → IsOrdered (made d ss o s) → has_over (made d ss o s) ≡ false
    → IsItem (fields w b) → may_follow w (made d ss o s) s ≡ true → Counts (made d ss o s) w b
file_count d ss o None w b h over is may = sets_count d ss o w b h over is may
file_count d ss o (Some s) w b h over is may = absurd (no_string (made d ss o (Some s)) s w b is may)

pub counts : (f : DescriptorFile) (w : Word) (b : List ℕ) → IsBegun (Some f) → IsItem (fields w b) → may_follow w f f.strings ≡ true → Counts f w b
counts f w b begun is may = file_count f.device f.sets f.other f.strings w b begun.0 begun.1 is may

-- ---- drafts

-- bytes that may follow fit the file
pub fits : (f : Draft) (w : Word) (b : List ℕ) → Holds f → IsItem (fields w b) → may_follow w f.file f.file.strings ≡ true → Fits w b f.file
fits f w b holds is may = (counts f.file w b holds.begun is may).fits

pub described_draft : (old new : Draft) (w : Word) (b : List ℕ) → Holds old → IsItem (fields w b) → may_follow w old.file old.file.strings ≡ true → new.file ≡ file_and (fields w b) old.file
    → new.work ≡ work_with old.work w (length b) → new.work ≤ 65535 → new.total ≡ old.total → IsDraft (file_and (fields w b) old.file) new
described_draft old new w b holds is may file work few total =
    let c = counts old.file w b holds.begun is may in
    let m = more (Some old.file) (fields w b) holds.begun.0 is may in
    let n : new.work ≡ work_with (work_of old.file) w (length b) = work ∙ ap (λ (k : ℕ). work_with k w (length b)) holds.work in
    let short : has_over (file_and (fields w b) old.file) ≡ false = c.over ∙ le-ltb 65535 _ (omega (arith, n, few)) in
    record {
      file = file;
      holds = record {
        begun = subst (λ (f : DescriptorFile). IsBegun (Some f)) (sym file) (m.ordered, short);
        work = n ∙ sym c.work ∙ ap work_of (sym file);
        total = total ∙ holds.total ∙ sym c.total ∙ ap (λ (f : DescriptorFile). strings_total f f.strings) (sym file);
      };
    }

pub described_over : (old : Draft) (w : Word) (b : List ℕ) → Holds old → IsItem (fields w b) → may_follow w old.file old.file.strings ≡ true → 65535 < work_with old.work w (length b)
    → has_over (file_and (fields w b) old.file) ≡ true
described_over old w b holds is may over =
    let c = counts old.file w b holds.begun is may in
    let n = holds.work in
    c.over ∙ ap (λ (k : ℕ). ltb 65535 (work_with k w (length b))) (sym n) ∙ lt-ltb 65535 _ over

last_short : (cs : List Configuration) → list_any is_over cs ≡ false → length_of (last_of cs) ≤ 65535
last_short [] e = omega arith
last_short (c ∷ []) e = ltb-false 65535 (set_length c) (or_parts (is_over c) false e).0
last_short (c ∷ x ∷ cs) e = last_short (x ∷ cs) (or_parts (is_over c) (list_any is_over (x ∷ cs)) e).1

open_short : (f : DescriptorFile) (o : Option Other) → (list_any is_over f.sets || list_any is_over (other_sets o)) ≡ false → list_any is_over (open_sets f o) ≡ false
open_short f None e = (or_parts _ _ e).0
open_short f (Some o) e = (or_parts _ _ e).1

pub draft_short : (old : Draft) → Holds old → old.work ≤ 65535
draft_short old holds = let n = holds.work in let few = last_short (open_sets old.file old.file.other) (open_short old.file old.file.other holds.begun.1) in omega (arith, n, few)

pub few_languages : (us : List ℕ) → IsItem (languages us) → length us ≤ 126
few_languages us is = let n = is.0.0 in omega (arith, n)

pub languages_draft : (old new : Draft) (us : List ℕ) → Holds old → IsItem (languages us) → may_follow words.Languages old.file old.file.strings ≡ true
    → new.file ≡ file_and (languages us) old.file → new.total ≡ length us * length (named_indices old.file) → new.work ≡ old.work → IsDraft (file_and (languages us) old.file) new
unfolding file_and
languages_draft old new us holds is may file total work =
    let m = more (Some old.file) (languages us) holds.begun.0 is may in
    record {
      file = file;
      holds = record {
        begun = subst (λ (f : DescriptorFile). IsBegun (Some f)) (sym file) (m.ordered, holds.begun.1);
        work = work ∙ holds.work ∙ ap work_of (sym file);
        total = total ∙ ap (λ (f : DescriptorFile). strings_total f f.strings) (sym file);
      };
    }

-- a string follows only languages
pub string_some : (f : DescriptorFile) (s : Option Strings) → may_follow words.String f s ≡ true → is_some s ≡ true
string_some f None may = cc
string_some f (Some s) may = refl

string_same : (f : DescriptorFile) (s : Option Strings) (us : List ℕ) → (has_over (with_string us f s) ≡ has_over f) × (work_of (with_string us f s) ≡ work_of f)
string_same f None us = (refl, refl)
string_same f (Some s) us = (refl, refl)

string_total : (d : DeviceDescriptor) (ss : List Configuration) (o : Option Other) (s : Option Strings) (us : List ℕ)
    → strings_total (with_string us (made d ss o s) s) (with_string us (made d ss o s) s).strings ≡ strings_total (made d ss o s) s
string_total d ss o None us = refl
string_total d ss o (Some s) us = refl

pub string_draft : (old new : Draft) (us : List ℕ) → Holds old → IsItem (string us) → may_follow words.String old.file old.file.strings ≡ true
    → new.file ≡ with_string us old.file old.file.strings → new.total ≡ old.total → new.work ≡ old.work → IsDraft (file_and (string us) old.file) new
unfolding file_and
string_draft old new us holds is may file total work =
    let f = old.file in
    let m = more (Some f) (string us) holds.begun.0 is may in
    let same = string_same f f.strings us in
    record {
      file = file;
      holds = record {
        begun = subst (λ (g : DescriptorFile). IsBegun (Some g)) (sym file) (m.ordered, same.0 ∙ holds.begun.1);
        work = work ∙ holds.work ∙ sym same.1 ∙ ap work_of (sym file);
        total = total ∙ holds.total ∙ sym (string_total f.device f.sets f.other f.strings us) ∙ ap (λ (g : DescriptorFile). strings_total g g.strings) (sym file);
      };
    }

pub string_draft_if : {E : Type 0} (r : Result (Unit {0}) E) (old : Draft) (file : DescriptorFile) (us : List ℕ) → Holds old → IsItem (string us)
    → may_follow words.String old.file old.file.strings ≡ true → OnOk r (file ≡ with_string us old.file old.file.strings)
    → OnOk r (IsDraft (file_and (string us) old.file) (record { file = file; work = old.work; total = old.total }))
string_draft_if (Err e) old file us holds is may h = tt
string_draft_if (Ok u) old file us holds is may h = string_draft old (record { file = file; work = old.work; total = old.total }) us holds is may h refl refl

-- the draft that a device descriptor begins
pub first_draft : (d : Draft) (device : DeviceDescriptor) (b : List ℕ) → IsItem (fields words.Device b) → b ≡ device_bytes device → d.file ≡ record { device = device; sets = []; other = None; strings = None }
    → d.work ≡ 0 → d.total ≡ 0 → IsDraft (file_of b) d
first_draft d device b is same file work total =
    let whole : device_of b ≡ device = ap device_of same ∙ device_read device in
    let file_is : d.file ≡ file_of b = file ∙ (λ i. record { device = sym whole i; sets = []; other = None; strings = None }) in
    let m = more None (fields words.Device b) tt is refl in
    record {
      file = file_is;
      holds = record {
        begun = subst (λ (f : DescriptorFile). IsBegun (Some f)) (sym file_is) (m.ordered, refl);
        work = work ∙ ap work_of (sym file_is);
        total = total ∙ ap (λ (f : DescriptorFile). strings_total f f.strings) (sym file_is);
      };
    }

-- bytes of a device descriptor or a qualifier have no fault
pub device_fine : (b : List ℕ) (fault : FieldFault) → IsItem (fields words.Device b) → device_fault b ≡ Some fault → ⊥
device_fine b fault is e =
    let none : device_fault (device_bytes (device_of b)) ≡ None = refl in let z = sym (ap device_fault (device_written b is) ∙ e) ∙ none in cc

pub qualifier_fine : (b : List ℕ) (fault : FieldFault) → IsItem (fields words.Qualifier b) → qualifier_fault b ≡ Some fault → ⊥
qualifier_fine b fault is e =
    let none : qualifier_fault (qualifier_bytes (qualifier_of b)) ≡ None = refl in let z = sym (ap qualifier_fault (qualifier_written b is) ∙ e) ∙ none in cc

pub qualifier_is : (b : List ℕ) (q : Qualifier) → b ≡ qualifier_bytes q → q ≡ qualifier_of b
qualifier_is b q same = sym (ap qualifier_of same ∙ qualifier_read q)

-- ---- sets

pub first_is : (b : List ℕ) (c : Configuration) → BeginsWith b c → has_typed_raw c ≡ false → AreBytes b → IsFirst b → c ≡ configuration_of b
first_is b c begins raws fits is =
    let g = begin_is b fits is.long is.whole is.kind in
    one_tree c (configuration_of b) raws refl (same_head c (configuration_of b) begins.total g.total (begins.head ∙ sym g.head)) (begins.later ∙ sym g.later)
  where
    same_head : (c e : Configuration) (m n : ℕ) → descriptor_bytes (configuration_descriptor c m) ≡ descriptor_bytes (configuration_descriptor e n)
        → configuration_descriptor c 0 ≡ configuration_descriptor e 0
    same_head c e m n same =
        let kind : type_number c.kind ≡ type_number e.kind = ap (λ (xs : List ℕ). slice_index xs 1) same in
        let body = ap (drop 4) same in
        λ i. record { kind = kind i; body = 0 ∷ 0 ∷ body i }

pub joined_is : (b : List ℕ) (old new : Configuration) → Adds old b new → (has_typed_raw old ≡ false → has_typed_raw new ≡ false) → AreBytes b → Joins b old → new ≡ set_and b old
unfolding set_and
joined_is b old new adds raws fits j =
    let a = add_is old b (length b) fits j.whole j.fine in
    let same : adds.item ≡ a.item = ap descriptor_of (adds.bytes ∙ sym a.bytes) in
    one_tree new (attach old (descriptor_of b)) (raws j.raws) (add_typed old b (length b) j.whole j.fine j.raws) (adds.head 0 ∙ sym (a.head 0))
    (adds.later ∙ ap (λ (x : Descriptor). later_descriptors old ++ x ∷ []) same ∙ sym a.later)
