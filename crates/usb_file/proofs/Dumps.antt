-- What a dump is among the prefixes of files.
use Rattle.std.proofs.Common.{◌≡◌, ℕ, List, [], ◌++◌, length, None, refl, ap, sym, subst, ◌∙◌, arith}
use Rattle.std.specs.List.{list_any}
use Rattle.std.proofs.lemmas.List.{append-nil}
use Rattle.std.proofs.lemmas.Bool.{or_from, or_parts}
use Rattle.usb_fields.specs.Bytes.{AreBytes}
use Rattle.usb_fields.specs.Device.{device_bytes}
use Rattle.usb_set.specs.declared.tree.SetKind.{SetKind}
use Rattle.usb_set.specs.declared.tree.SetKind.TheVariants as kinds
use Rattle.usb_file_data.specs.declared.file.DescriptorFile.{DescriptorFile}
use Rattle.usb_file_data.specs.File.{other_sets, file_bytes, sets_bytes, other_bytes, strings_bytes, is_other_kind, has_no_layout}
use Rattle.usb_file_data.specs.Front.{AllSets, IsInOrder, Splits}
use Rattle.usb_file_data.specs.declared.fault.FileWhy.{FileWhy}
use Rattle.usb_file_data.specs.declared.fault.FileWhy.TheVariants as files
use Rattle.usb_file_data.specs.Inputs.{Dump, IsNoDump, DeviceRefused}
use Rattle.usb_file_data.specs.FileFaults.{FaultyPart, LanguagesAreNext, ReadRefused, a_qualifier, a_set, a_string, the_end, the_languages}
use Rattle.usb_file.specs.inside.Reading.{next_part, PartLaws}
use Rattle.usb_file.proofs.Next.{next_is}
use Rattle.usb_file.proofs.Paths.{stuck_by_fault, two_fronts}
use Rattle.usb_file.proofs.Complete.{fault_of}

-- ---- the language list is no other part

pub set_apart : (kind : SetKind) → a_set kind ≡ the_languages → ⊥
set_apart kind e = cc

pub qualifier_apart : a_qualifier ≡ the_languages → ⊥
qualifier_apart e = cc

pub string_apart : a_string ≡ the_languages → ⊥
string_apart e = cc

pub end_apart : the_end ≡ the_languages → ⊥
end_apart e = cc

-- ---- dumps among prefixes

-- nothing is after the sets of a file without another speed and without strings
bare_bytes : (f : DescriptorFile) → f.other ≡ None → f.strings ≡ None → file_bytes f ++ [] ≡ device_bytes f.device ++ sets_bytes f.sets
bare_bytes f no_other no_strings =
    append-nil (file_bytes f)
    ∙ ap (λ o. device_bytes f.device ++ sets_bytes f.sets ++ other_bytes o ++ strings_bytes f.strings) no_other
    ∙ ap (λ s. device_bytes f.device ++ sets_bytes f.sets ++ [] ++ strings_bytes s) no_strings
    ∙ append-nil (device_bytes f.device ++ sets_bytes f.sets ++ [])
    ∙ append-nil (device_bytes f.device ++ sets_bytes f.sets)

-- a dump is a prefix of a file
pub dump_splits : (f : DescriptorFile) (b : List ℕ) → Dump f b → Splits b f []
dump_splits f b dump = record {
  is_front = record {
    kinds = or_from _ _ dump.kinds (ap (λ o. list_any (is_other_kind kinds.OtherSpeed) (other_sets o)) dump.no_other);
    layouts = or_from _ _ dump.layouts (ap (λ o. list_any has_no_layout (other_sets o)) dump.no_other);
    order = subst (λ o. IsInOrder f o f.strings) (sym dump.no_other) (subst (λ s. IsInOrder f None s) (sym dump.no_strings) (omega (arith, dump.counts)));
  };
  parts = dump.bytes ∙ sym (bare_bytes f dump.no_other dump.no_strings);
}

-- after which the language list comes next
dump_next : (f : DescriptorFile) (b : List ℕ) → Dump f b → LanguagesAreNext f []
dump_next f b dump = record {
  all = subst (AllSets f) (sym dump.no_other) dump.counts;
  no_strings = dump.no_strings;
  no_qualifier = λ _ _. refl;
  named = dump.named;
}

-- and isn't there
pub dump_fault : (f : DescriptorFile) (b : List ℕ) → Dump f b → FaultyPart b (length b) files.Truncated
dump_fault f b dump =
    let splits = dump_splits f b dump in
    let long : b ≡ file_bytes f = splits.parts ∙ append-nil (file_bytes f) in
    record {
      front = f;
      rest = [];
      splits = splits;
      part = the_languages;
      next = dump_next f b dump;
      place = 0;
      fault = refl;
      at_is = omega (arith, ap length long);
    }

-- bytes of which another part is at fault are no dump
pub no_dump : (laws : PartLaws) (b : List ℕ) (at : ℕ) (why : FileWhy) (y : FaultyPart b at why)
    → (y.part ≡ the_languages → y.rest ≡ [] → y.front.other ≡ None → ⊥) → IsNoDump b
unfolding dump_fault
no_dump laws b at why y elsewhere g dump =
    let x = dump_fault g b dump in
    let same = two_fronts laws b y.front g y.rest [] dump.fits y.splits x.splits
    (stuck_by_fault laws y.front y.rest y.place why (fault_of b at why y)) (stuck_by_fault laws g [] 0 files.Truncated (fault_of b (length b) files.Truncated x)) in
    let part : y.part ≡ the_languages =
    sym (next_is y.part y.front y.rest y.splits.is_front y.next) ∙ ap (λ f. next_part f y.rest) same.0 ∙ ap (λ r. next_part g r) same.1
    ∙ next_is the_languages g [] x.splits.is_front x.next in
    elsewhere part same.1 (ap (λ f. f.other) same.0 ∙ dump.no_other)

-- bytes are one dump at most
pub one_dump : (laws : PartLaws) (b : List ℕ) (f g : DescriptorFile) → Dump f b → Dump g b → f ≡ g
unfolding dump_fault
one_dump laws b f g dump other =
    let x = dump_fault f b dump in
    let y = dump_fault g b other in
    (two_fronts laws b f g [] [] dump.fits x.splits y.splits
    (stuck_by_fault laws f [] 0 files.Truncated (fault_of b (length b) files.Truncated x)) (stuck_by_fault laws g [] 0 files.Truncated (fault_of b (length b) files.Truncated y))).0

-- bytes that end where the language list comes next, and have no other speed, are a dump
pub is_dump : (f : DescriptorFile) (b : List ℕ) → AreBytes b → Splits b f [] → LanguagesAreNext f [] → f.other ≡ None → Dump f b
is_dump f b fits splits next no_other =
    let ks = or_parts (list_any (is_other_kind kinds.Configuration) f.sets) (list_any (is_other_kind kinds.OtherSpeed) (other_sets f.other)) splits.is_front.kinds in
    let ls = or_parts (list_any has_no_layout f.sets) (list_any has_no_layout (other_sets f.other)) splits.is_front.layouts in
    record {
      bytes = splits.parts ∙ bare_bytes f no_other next.no_strings;
      fits = fits;
      counts = subst (AllSets f) no_other next.all;
      kinds = ks.0;
      layouts = ls.0;
      named = next.named;
      no_other = no_other;
      no_strings = next.no_strings;
    }

-- what is refused as a file or a dump is refused as a file
pub still_refused : (b : List ℕ) (at : ℕ) (why : FileWhy) → DeviceRefused b at why → ReadRefused b at why
still_refused b at files.Memory h = h
still_refused b at why h = h.0
