-- A file put together from the parts that were read.
use Rattle.std.proofs.Common.{◌≡◌, ◌≢◌, ℕ, cond, ltb, take, ◌+◌, ◌*◌, ◌<◌, ◌≤◌, inl, inr, Bool, true, false, ◌||◌, List, [], ◌∷◌, ◌++◌, length, drop, Option, Some, None, refl, ap, sym, subst, ◌∙◌, arith, append_assoc, length-append}
use Rattle.std.specs.Prelude.{is_some, slice_index}
use Rattle.std.specs.List.{list_any}
use Rattle.std.proofs.lemmas.List.{append-nil, take-append-drop}
use Rattle.std.proofs.lemmas.Bool.{ltb-false, or_from, or_parts}
use Rattle.usb_fields.specs.declared.device.DeviceDescriptor.{DeviceDescriptor}
use Rattle.usb_fields.specs.declared.qualifier.Qualifier.{Qualifier}
use Rattle.usb_fields.specs.Device.{device_bytes, device_fault, qualifier_bytes, qualifier_fault}
use Rattle.usb_fields.specs.Units.{units_bytes}
use Rattle.usb_set.specs.declared.tree.SetKind.{SetKind}
use Rattle.usb_set.specs.declared.tree.SetKind.TheVariants as kinds
use Rattle.usb_set.specs.declared.tree.Configuration.{Configuration}
use Rattle.usb_file_data.specs.declared.file.DescriptorFile.{DescriptorFile}
use Rattle.usb_file_data.specs.declared.file.Other.{Other}
use Rattle.usb_file_data.specs.declared.file.Strings.{Strings}
use Rattle.usb_file_data.specs.File.{named_indices, File, file_bytes, sets_bytes, other_bytes, each_string_bytes, is_other_kind, has_no_layout, are_wrong_strings}
use Rattle.usb_file_data.specs.declared.fault.FileWhy.{FileWhy}
use Rattle.usb_file_data.specs.declared.fault.FileWhy.TheVariants as files
use Rattle.usb_file_data.specs.Front.{IsPartStart, with_strings}
use Rattle.usb_file_data.specs.FileFaults.{NextPart, a_set, a_qualifier, the_languages, a_string, the_end, begins_qualifier, IsNext, NoQualifierIsNext, EndIsNext, is_no_string, string_fault, fixed_fault, PartFaulty, FaultyPart}
use Rattle.usb_file_data.specs.Inputs.{DeviceRefused}
use Rattle.usb_file.specs.inside.Reading.{PartLaws, ReadSoFar, SetsRead, Behind, SetRefused, ReadsSets, SetsRefused, ReadsQualifier, ReadsOther, OtherRefused, no_qualifier, no_set, ReadsString, StringRefused, ReadsDueStrings, ReadsStrings, StringsRefused, ends_as_dump, no_languages, no_string}
use Rattle.usb_fields.specs.Bytes.{AreBytes}
use Rattle.usb_file_data.proofs.Lists.{behind_main, behind_other, drop_more}
use Rattle.usb_file_data.proofs.Units.{length-units_bytes}
use Rattle.usb_file_data.proofs.Fronts.{Grown, grow_qualifier, grow_languages, grow_strings}
use Rattle.usb_file.proofs.Next.{right_count, right_none, right_strings, not_none}
use Rattle.usb_file.proofs.Ends.{is_file, bytes_left, drop_all}
use Rattle.usb_file.proofs.Complete.{no_device_fault}
use Rattle.usb_file.proofs.Dumps.{dump_splits, end_apart, no_dump, qualifier_apart, set_apart, string_apart}
use Rattle.usb_file.proofs.Paths.{all_again}

-- a file by its parts
abbrev made : DeviceDescriptor → List Configuration → Option Other → Option Strings → DescriptorFile
made d ss o s = record { device = d; sets = ss; other = o; strings = s }

within_whole : (b p r : List ℕ) (end : ℕ) → b ≡ p ++ r → end ≡ length p → end ≤ length b
within_whole b p r end h e = omega (arith, ap length h, length-append p r, e)

-- more of the file: these bytes
more_read : (b : List ℕ) (f g : DescriptorFile) (place end : ℕ) (p : List ℕ) → ReadSoFar b f place → Grown f g p → drop place b ≡ p ++ drop end b → end ≡ place + length p → ReadSoFar b g end
more_read b f g place end p so_far grown parts ends =
    let whole : b ≡ file_bytes g ++ drop end b =
    so_far.splits.parts ∙ ap (λ x. file_bytes f ++ x) parts ∙ sym (append_assoc (file_bytes f) p (drop end b)) ∙ ap (λ x. x ++ drop end b) (sym grown.bytes) in
    let ends_of : end ≡ length (file_bytes g) = omega (arith, so_far.ends, ends, ap length grown.bytes, length-append (file_bytes f) p) in
    record { splits = record { is_front = grown.is_front; parts = whole }; ends = ends_of; within = within_whole b (file_bytes g) (drop end b) end whole ends_of; fits = so_far.fits }

-- ---- faults

starts : (b : List ℕ) (f : DescriptorFile) (place : ℕ) → ReadSoFar b f place → IsPartStart b place
starts b f place so_far = record { front = f; rest = drop place b; splits = so_far.splits; at_is = so_far.ends }

-- the part that comes next is at fault
faulty_part : (b : List ℕ) (f : DescriptorFile) (place at : ℕ) (d : NextPart) (why : FileWhy) → ReadSoFar b f place → IsNext d f (drop place b)
    → Behind place (λ n. PartFaulty d (drop place b) n why) at → FaultyPart b at why
faulty_part b f place at d why so_far next h = record {
  front = f;
  rest = drop place b;
  splits = so_far.splits;
  part = d;
  next = next;
  place = h.count;
  fault = h.holds;
  at_is = h.at_is ∙ ap (λ n. n + h.count) so_far.ends;
}

-- the part that comes next is at fault, and the bytes are no dump
refused : (laws : PartLaws) (b : List ℕ) (at : ℕ) (why : FileWhy) → why ≢ files.Memory → (y : FaultyPart b at why)
    → (y.part ≡ the_languages → y.rest ≡ [] → y.front.other ≡ None → ⊥) → DeviceRefused b at why
refused laws b at files.Memory not y elsewhere = absurd (not refl)
refused laws b at why not y elsewhere = (inr y, no_dump laws b at _ y elsewhere)

reported_why : (n at : ℕ) (w why : FileWhy) (o : Option (ℕ × FileWhy)) → o ≡ Some (n, w) → o ≡ Some (at, why) → w ≡ why
reported_why n at w why o h k =
    let found : ℕ × FileWhy = (n, w) in
    let report : ℕ × FileWhy = (at, why) in
    let pairs : found ≡ report = cc in
    ap (λ (p : ℕ × FileWhy). p.1) pairs

-- a descriptor of known length never reports *out of memory*
fixed_memory : (long : ℕ) (wrong : Bool) (tells : FileWhy) (rest : List ℕ) (at : ℕ) (why : FileWhy) → fixed_fault long wrong tells rest ≡ Some (at, why)
    → tells ≢ files.Memory → why ≢ files.Memory
fixed_memory long wrong tells rest at why h not = cases (ltb (length rest) long) wrong h
  where
    cases : (short wrong : Bool) → cond {A = Option (ℕ × FileWhy)} short (Some (length rest, files.Truncated)) (cond {A = Option (ℕ × FileWhy)} wrong (Some (0, tells)) None) ≡ Some (at, why) → why ≢ files.Memory
    cases true wrong h e = let same : files.Truncated ≡ files.Memory = reported_why (length rest) at files.Truncated why (Some (length rest, files.Truncated)) refl h ∙ e in cc
    cases false true h e = not (reported_why 0 at tells why (Some (0, tells)) refl h ∙ e)
    cases false false h e = cc

string_memory : (least : ℕ) (rest : List ℕ) (at : ℕ) (why : FileWhy) → string_fault least rest ≡ Some (at, why) → why ≢ files.Memory
string_memory least rest at why h = cases (is_no_string least rest) (ltb (length rest) 2 || ltb (length rest) (slice_index rest 0)) h
  where
    cases : (wrong short : Bool) → cond {A = Option (ℕ × FileWhy)} wrong (Some (0, files.Text)) (cond {A = Option (ℕ × FileWhy)} short (Some (length rest, files.Truncated)) None) ≡ Some (at, why) → why ≢ files.Memory
    cases true short h e = let same : files.Text ≡ files.Memory = reported_why 0 at files.Text why (Some (0, files.Text)) refl h ∙ e in cc
    cases false true h e = let same : files.Truncated ≡ files.Memory = reported_why (length rest) at files.Truncated why (Some (length rest, files.Truncated)) refl h ∙ e in cc
    cases false false h e = cc

-- a set is refused
set_refused : (laws : PartLaws) (kind : SetKind) (b : List ℕ) (f : DescriptorFile) (place at : ℕ) (why : FileWhy) → ReadSoFar b f place → IsNext (a_set kind) f (drop place b)
    → Behind place (λ n. SetRefused kind (drop place b) n why) at → DeviceRefused b at why
unfolding faulty_part
set_refused laws kind b f place at files.Memory so_far next h = subst (IsPartStart b) (omega (arith, h.at_is, h.holds)) (starts b f place so_far)
set_refused laws kind b f place at why so_far next h =
    let part = faulty_part b f place at (a_set kind) _ so_far next h in
    (inr part, no_dump laws b at _ part (λ e _ _. set_apart kind e))

-- a string descriptor is refused
string_refused : (laws : PartLaws) (b : List ℕ) (f : DescriptorFile) (place at : ℕ) (why : FileWhy) (least : ℕ) (d : NextPart) → ReadSoFar b f place → IsNext d f (drop place b)
    → ((n : ℕ) (why : FileWhy) → string_fault least (drop place b) ≡ Some (n, why) → PartFaulty d (drop place b) n why)
    → (d ≡ the_languages → drop place b ≡ [] → f.other ≡ None → ⊥)
    → Behind place (λ n. StringRefused least (drop place b) n why) at → DeviceRefused b at why
unfolding faulty_part
string_refused laws b f place at files.Memory least d so_far next part elsewhere h = subst (IsPartStart b) (omega (arith, h.at_is, h.holds)) (starts b f place so_far)
string_refused laws b f place at why least d so_far next part elsewhere h =
    refused laws b at _ (string_memory least (drop place b) h.count _ h.holds)
    (faulty_part b f place at d _ so_far next (record { count = h.count; holds = part h.count _ h.holds; at_is = h.at_is })) elsewhere

-- ---- the device and its sets

begun : (b : List ℕ) (d : DeviceDescriptor) → AreBytes b → 18 ≤ length b → take 18 b ≡ device_bytes d → ReadSoFar b (made d [] None None) 18
begun b d fits long h = record {
  splits = record {
    is_front = record { kinds = refl; layouts = refl; order = omega arith };
    parts = sym (take-append-drop 18 b) ∙ ap (λ x. x ++ drop 18 b) h;
  };
  ends = refl;
  within = long;
  fits = fits;
}

pub main_read : (b : List ℕ) (d : DeviceDescriptor) (ss : List Configuration) (end : ℕ) → AreBytes b → 18 ≤ length b → take 18 b ≡ device_bytes d
    → ReadsSets kinds.Configuration b 18 ss end → length ss ≤ d.configurations → ReadSoFar b (made d ss None None) end
main_read b d ss end fits long h reads few =
    more_read b (made d [] None None) (made d ss None None) 18 end (sets_bytes ss) (begun b d fits long h)
    (record {
      is_front = record { kinds = or_from _ _ reads.kinds refl; layouts = or_from _ _ reads.layouts refl; order = few };
      bytes = behind_main (device_bytes d) [] (sets_bytes ss) [] [] (sets_bytes ss) refl refl refl;
    }) reads.all.parts reads.all.ends

pub device_refused : (b : List ℕ) (at : ℕ) (why : FileWhy) → fixed_fault 18 (is_some (device_fault (take 18 b))) files.Device b ≡ Some (at, why) → DeviceRefused b at why
device_refused b at files.Memory h = absurd (fixed_memory 18 (is_some (device_fault (take 18 b))) files.Device b at files.Memory h (λ e. cc) refl)
device_refused b at why h = (inl h, λ f dump. no_device_fault b f [] at _ (dump_splits f b dump) h)

pub main_refused : (laws : PartLaws) (b : List ℕ) (d : DeviceDescriptor) (ss : List Configuration) (at : ℕ) (why : FileWhy) → AreBytes b → 18 ≤ length b → take 18 b ≡ device_bytes d
    → SetsRefused kinds.Configuration d.configurations b 18 ss at why → DeviceRefused b at why
main_refused laws b d ss at why fits long h refused =
    let few = refused.few in
    set_refused laws kinds.Configuration b (made d ss None None) refused.end at why (main_read b d ss refused.end fits long h refused.reads (omega arith)) refused.few refused.refused

-- ---- the other speed

qualifier_read : (b : List ℕ) (d : DeviceDescriptor) (ss : List Configuration) (place : ℕ) (q : Qualifier) → ReadSoFar b (made d ss None None) place → length ss ≡ d.configurations
    → ReadsQualifier b place q → ReadSoFar b (made d ss (Some (record { qualifier = q; sets = [] })) None) (place + 10)
qualifier_read b d ss place q so_far full reads =
    more_read b (made d ss None None) (made d ss (Some (record { qualifier = q; sets = [] })) None) place (place + 10) (qualifier_bytes q) so_far
    (grow_qualifier (made d ss None None) q so_far.splits.is_front full refl refl)
    (sym (take-append-drop 10 (drop place b)) ∙ ap (λ x. x ++ drop 10 (drop place b)) reads.bytes ∙ ap (λ x. qualifier_bytes q ++ x) (drop_more place 10 b)) refl

speed_read : (b : List ℕ) (d : DeviceDescriptor) (ss : List Configuration) (place : ℕ) (q : Qualifier) (os : List Configuration) (end : ℕ) → ReadSoFar b (made d ss None None) place
    → length ss ≡ d.configurations → ReadsQualifier b place q → ReadsSets kinds.OtherSpeed b (place + 10) os end → length os ≤ q.configurations
    → ReadSoFar b (made d ss (Some (record { qualifier = q; sets = os })) None) end
speed_read b d ss place q os end so_far full reads sets few =
    let bare : Other = record { qualifier = q; sets = [] } in
    let o : Other = record { qualifier = q; sets = os } in
    let before = qualifier_read b d ss place q so_far full reads in
    let ks = or_parts (list_any (is_other_kind kinds.Configuration) ss) false before.splits.is_front.kinds in
    let ls = or_parts (list_any has_no_layout ss) false before.splits.is_front.layouts in
    more_read b (made d ss (Some bare) None) (made d ss (Some o) None) (place + 10) end (sets_bytes os) before
    (record {
      is_front = record { kinds = or_from _ _ ks.0 sets.kinds; layouts = or_from _ _ ls.0 sets.layouts; order = (full, few) };
      bytes = behind_other (device_bytes d) (sets_bytes ss) (other_bytes (Some bare)) (other_bytes (Some o)) [] (sets_bytes os)
          (sym (ap (λ x. x ++ sets_bytes os) (append-nil (qualifier_bytes q)))) refl;
    }) sets.all.parts sets.all.ends

pub other_refused : (laws : PartLaws) (b : List ℕ) (d : DeviceDescriptor) (ss : List Configuration) (place at : ℕ) (why : FileWhy) → ReadSoFar b (made d ss None None) place → length ss ≡ d.configurations
    → OtherRefused b place at why → DeviceRefused b at why
unfolding faulty_part
other_refused laws b d ss place at why so_far full (no_qualifier begins h) =
    refused laws b at why (fixed_memory 10 (is_some (qualifier_fault (take 10 (drop place b)))) files.Qualifier (drop place b) h.count why h.holds (λ e. cc))
    (faulty_part b (made d ss None None) place at a_qualifier why so_far (record { all = full; no_other = refl; no_strings = refl; begins = begins }) h) (λ e _ _. qualifier_apart e)
other_refused laws b d ss place at why so_far full (no_set q os begins reads h) =
    let few = h.few in
    set_refused laws kinds.OtherSpeed b (made d ss (Some (record { qualifier = q; sets = os })) None) h.end at why
    (speed_read b d ss place q os h.end so_far full reads h.reads (omega arith)) h.few h.refused

-- ---- all sets were read

pub sets_read : (b : List ℕ) (d : DeviceDescriptor) (ss : List Configuration) (place : ℕ) (o : Option Other) (end : ℕ) → ReadSoFar b (made d ss None None) place → length ss ≡ d.configurations
    → ReadsOther b place o end → SetsRead b (made d ss o None) end
sets_read b d ss place None end so_far full reads = record {
  so_far = subst (ReadSoFar b (made d ss None None)) (sym reads.1) so_far;
  all = full;
  no_strings = refl;
  no_qualifier = λ _ _. subst (λ n. begins_qualifier (drop n b) ≡ false) (sym reads.1) reads.0;
}
sets_read b d ss place (Some o) end so_far full reads = record {
  so_far = speed_read b d ss place o.qualifier o.sets end so_far full reads.qualifier reads.sets (omega (arith, reads.all));
  all = (full, reads.all);
  no_strings = refl;
  no_qualifier = λ n _. absurd (not_none o (Some o) refl n);
}

-- ---- the strings

languages_read : (b : List ℕ) (f : DescriptorFile) (place : ℕ) (u : List ℕ) (start : ℕ) → SetsRead b f place → 0 < length (named_indices f) → Behind place (ReadsString 4 (drop place b) u) start
    → ReadSoFar b (with_strings (record { languages = u; texts = [] }) f) start
languages_read b f place u start sets named h =
    let enough = h.holds.enough in
    let ends = h.holds.ends in
    more_read b f (with_strings (record { languages = u; texts = [] }) f) place start (units_bytes u) sets.so_far
    (grow_languages f u sets.so_far.splits.is_front sets.all sets.no_strings named (omega arith) h.holds.short)
    (h.holds.parts ∙ ap (λ x. units_bytes u ++ x) (drop_more place h.count b) ∙ ap (λ n. units_bytes u ++ drop n b) (sym h.at_is))
    (omega (arith, h.at_is, length-units_bytes u))

due_strings_read : (b : List ℕ) (f : DescriptorFile) (place : ℕ) (u : List ℕ) (start : ℕ) (texts : List (List ℕ)) (end : ℕ) → SetsRead b f place → 0 < length (named_indices f)
    → Behind place (ReadsString 4 (drop place b) u) start → ReadsDueStrings b start texts end → length texts ≤ length u * length (named_indices f)
    → ReadSoFar b (with_strings (record { languages = u; texts = texts }) f) end
due_strings_read b f place u start texts end sets named h reads few =
    let bare : Strings = record { languages = u; texts = [] } in
    let s : Strings = record { languages = u; texts = texts } in
    let enough = h.holds.enough in
    let ends = h.holds.ends in
    let before = languages_read b f place u start sets named h in
    more_read b (with_strings bare f) (with_strings s f) start end (each_string_bytes texts) before
    (grow_strings (with_strings bare f) s (each_string_bytes texts) before.splits.is_front (all_again f bare f.other sets.all)
    (record { named = named; spoken = omega arith; few = few; short = or_from _ _ h.holds.short reads.short })
    (sym (ap (λ x. x ++ each_string_bytes texts) (append-nil (units_bytes u))))) reads.all.parts reads.all.ends

pub strings_refused : (laws : PartLaws) (b : List ℕ) (f : DescriptorFile) (place at : ℕ) (why : FileWhy) → SetsRead b f place
    → (0 < length (named_indices f) → drop place b ≡ [] → f.other ≡ None → ⊥) → StringsRefused (length (named_indices f)) b place at why → DeviceRefused b at why
strings_refused laws b f place at why sets elsewhere (no_languages named h) =
    string_refused laws b f place at why 4 the_languages sets.so_far (record { all = sets.all; no_strings = sets.no_strings; no_qualifier = sets.no_qualifier; named = named }) (λ n why x. x)
    (λ _. elsewhere named) h
strings_refused laws b f place at why sets elsewhere (no_string u start texts named languages h) =
    let few = h.few in
    string_refused laws b (with_strings (record { languages = u; texts = texts }) f) h.end at why 2 a_string
    (due_strings_read b f place u start texts h.end sets named languages h.reads (omega arith)) h.few (λ n why x. x) (λ e _ _. string_apart e) h.refused

-- ---- the end

-- a prefix was read after which the file must end
pub record AllRead (b : List ℕ) (f : DescriptorFile) (place : ℕ) : Type 0 where
  pub so_far : ReadSoFar b f place
  pub next : EndIsNext f (drop place b)

pub strings_read : (b : List ℕ) (f : DescriptorFile) (place : ℕ) (s : Option Strings) (end : ℕ) → SetsRead b f place → ReadsStrings (length (named_indices f)) b place s end
    → AllRead b (record f { strings = s }) end
strings_read b f place None end sets reads =
    let same : f ≡ record f { strings = None } = ap (λ s. record f { strings = s }) sets.no_strings in
    let no_qualifier = subst (λ n. NoQualifierIsNext f (drop n b)) (sym reads.1) sets.no_qualifier in
    subst (λ g. AllRead b g end) same (record {
      so_far = subst (ReadSoFar b f) (sym reads.1) sets.so_far;
      next = record {
        counts = right_count f sets.all;
        texts = subst (λ s. are_wrong_strings (length (named_indices f)) s ≡ false) (sym sets.no_strings) (right_none (length (named_indices f)) reads.0);
        no_qualifier = no_qualifier;
      };
    })
strings_read b f place (Some s) end sets reads =
    let enough = reads.languages.holds.enough in
    let ends = reads.languages.holds.ends in
    let named = reads.named in
    record {
      so_far = due_strings_read b f place s.languages reads.start s.texts end sets reads.named reads.languages reads.texts (omega (arith, reads.all));
      next = record {
        counts = right_count (with_strings s f) (all_again f s f.other sets.all);
        texts = right_strings (length (named_indices f)) s (record {
          follow = record { named = named; spoken = omega arith; few = omega (arith, reads.all); short = or_from _ _ reads.languages.holds.short reads.texts.short };
          whole = reads.all;
        });
        no_qualifier = λ _ n. absurd (not_none s (Some s) refl n);
      };
    }

pub whole_file : (b : List ℕ) (f : DescriptorFile) (place : ℕ) → AllRead b f place → length b ≤ place → File f b
whole_file b f place read long =
    let none = drop_all place b long in
    is_file f b (subst (EndIsNext f) none read.next) read.so_far.splits.is_front (subst (λ r. b ≡ file_bytes f ++ r) none read.so_far.splits.parts) read.so_far.fits

pub trailing : (laws : PartLaws) (b : List ℕ) (f : DescriptorFile) (place : ℕ) → AllRead b f place → place < length b → DeviceRefused b place files.Trailing
unfolding faulty_part
trailing laws b f place read long =
    let part = faulty_part b f place place the_end files.Trailing read.so_far read.next (record { count = 0; holds = bytes_left place b long; at_is = omega arith }) in
    (inr part, no_dump laws b place files.Trailing part (λ e _ _. end_apart e))

-- ---- a dump

-- bytes after which a dump does not end, where the device has no other speed and names an index
pub is_elsewhere : (count : ℕ) (other : Option Other) (rest : List ℕ) → ends_as_dump count other rest ≡ false → 0 < count → rest ≡ [] → other ≡ None → ⊥
is_elsewhere count None [] h named none no_other = absurd (omega (arith, named, ltb-false 0 count h))
is_elsewhere count None (x ∷ rest) h named none no_other = cc
is_elsewhere count (Some o) rest h named none no_other = cc
