-- Whatever is replied, an enumeration that succeeds gives the file whose bytes were read.
use Rattle.std.proofs.Common.{◌≡◌, ℕ, ◌*◌, ◌<◌, ◌≤◌, ◌==◌, Bool, true, false, not, ◌&&◌, ◌||◌, if◌then◌else◌, nat_lt, List, [], ◌∷◌, ◌++◌, length, take, refl, ap, sym, ◌∙◌, arith, subst, append_assoc, length-append, lit≤}
use Rattle.std.specs.Prelude.{Option, Some, None, IsTrue}
use Rattle.std.proofs.lemmas.Bool.Decides.{nat_tests}
use Rattle.std.proofs.lemmas.List.{append-nil}
use Rattle.std.proofs.lemmas.Bool.{or_parts, or_from}
use Rattle.std.specs.List.{list_any}
use Rattle.usb_fields.specs.Bytes.{AreBytes}
use Rattle.usb_host.specs.declared.choice.Terms.{Terms}
use Rattle.usb_host.specs.declared.choice.NamedStrings.{NamedStrings}
use Rattle.usb_host.specs.declared.choice.NamedStrings.TheVariants.{Needed, Wanted, Skipped}
use Rattle.usb_host.specs.Terms.{IsReport, is_asked}
use Rattle.usb_fields.specs.Units.{units_bytes}
use Rattle.usb_fields.specs.declared.device.DeviceDescriptor.{DeviceDescriptor}
use Rattle.usb_fields.specs.declared.qualifier.Qualifier.{Qualifier}
use Rattle.usb_set.specs.declared.tree.SetKind.{SetKind}
use Rattle.usb_set.specs.declared.tree.SetKind.TheVariants as kinds
use Rattle.usb_set.specs.declared.tree.Configuration.{Configuration}
use Rattle.usb_set.specs.Layout.{Layout}
use Rattle.usb_set.specs.Descriptors.{type_number}
use Rattle.usb_file_data.specs.declared.file.DescriptorFile.{DescriptorFile}
use Rattle.usb_file_data.specs.declared.file.Other.{Other}
use Rattle.usb_file_data.specs.declared.file.Strings.{Strings}
use Rattle.usb_file_data.specs.File.{File, has_wrong_count, is_other_miscounted, are_wrong_strings, has_long_string, is_other_kind, is_long_string, named_indices}
use Rattle.usb_file_data.specs.Front.{AllSets, StringsFollow, other_with, with_set, with_qualifier, with_strings}
use Rattle.usb_file_data.proofs.Fronts.{Grown, grow_main, grow_other, grow_qualifier, grow_languages, grow_string}
use Rattle.usb_host.specs.declared.reply.Reply.{Reply}
use Rattle.usb_host.specs.declared.reply.Reply.TheVariants.{Bytes, Done, Refused}
use Rattle.usb_host.specs.Place.{Place, First, Address, Device, Header, Set, Qualifier as SecondSpeed, Languages, Text, Configure, Reported, Stopped}
use Rattle.usb_host.specs.Read.{same_bytes, device_of, qualifier_of, units_of, is_first, may_have_second, total_in}
use Rattle.usb_host.specs.Order.{is_first_zero, sets_of, declared_sets, texts_due, strings_due, after_sets, sets_due, device_leads, header_leads, set_leads, qualifier_leads, languages_lead, text_leads, bytes_lead, done_leads, refused_leads, counted, is_of_strings, is_spared, next, spared, stand_in, stand_in_bytes}
use Rattle.usb_host.specs.Gathered.{part_of, parts_of, reached}
use Rattle.usb_host.specs.inside.Sound.{IsRead, MainDone, InSets, SetsDone, InStrings, Holds}
use Rattle.usb_host.proofs.SpareLemmas.{left_of, right_of, spares_strings}
use Rattle.usb_host.proofs.ReadLemmas.{device_written, qualifier_written, units_read, units_written}
use Rattle.usb_set.proofs.Growth.{list_any-snoc}

if_holds : (texts : NamedStrings) (b : List ℕ) (t : Bool) (x y : Place) → (t ≡ true → Holds texts x b) → (t ≡ false → Holds texts y b) →
    Holds texts (if t then x else y) b
if_holds texts b true x y p q = p refl
if_holds texts b false x y p q = q refl

counts_of : (f : DescriptorFile) (o : Option Other) → AllSets f o → (not (length f.sets == f.device.configurations)) ≡ false × (is_other_miscounted o ≡ false)
counts_of f None all = (grind (arith, nat_tests), refl)
counts_of f (Some o) all = (let a = all.0 in let b = all.1 in (grind (arith, nat_tests), grind (arith, nat_tests)))

none_wrong : (a b : Bool) → a ≡ false → b ≡ false → (a || b) ≡ false
none_wrong false false p q = refl
none_wrong false true p q = cc
none_wrong true b p q = cc

well_counted : (f : DescriptorFile) → AllSets f f.other → has_wrong_count f ≡ false
well_counted f all = (let c = counts_of f f.other all in none_wrong _ _ c.0 c.1)

is_file : (f : DescriptorFile) (b : List ℕ) → IsRead f b → AllSets f f.other → are_wrong_strings (length (named_indices f)) f.strings ≡ false → AreBytes b → File f b
is_file f b read all texts fits =
    record {
      bytes = read.bytes;
      fits = fits;
      counts = well_counted f all;
      kinds = read.is_front.kinds;
      layouts = read.is_front.layouts;
      texts = texts;
    }

strings_right : (count : ℕ) (s : Strings) → StringsFollow count s → (nat_lt (length s.texts) (length s.languages * count)) ≡ false → are_wrong_strings count (Some s) ≡ false
strings_right count s follow full =
    let few = follow.few in
    let named = follow.named in
    let spoken = follow.spoken in
    let at_least : length s.languages * count ≤ length s.texts = grind (arith, nat_tests) in
    let as_many : length s.texts ≡ length s.languages * count = omega arith in
    let test : not (length s.texts == length s.languages * count) ≡ false = grind (arith, nat_tests) in
    let some_named : (count == 0) ≡ false = grind (arith, nat_tests) in
    let some_language : (length s.languages == 0) ≡ false = grind (arith, nat_tests) in
    none_wrong _ _ (none_wrong _ _ (none_wrong _ _ some_named some_language) follow.short) test

same_kind : (kind : SetKind) (c : Configuration) → (type_number c.kind == type_number kind) ≡ true → is_other_kind kind c ≡ false
same_kind kind c e = ap not e

grown : (f g : DescriptorFile) (b p : List ℕ) → IsRead f b → Grown f g p → IsRead g (b ++ p)
grown f g b p read more = record { is_front = more.is_front; bytes = ap (λ x. x ++ p) read.bytes ∙ sym more.bytes }

-- a file is a report where strings are asked for
is_report : (texts : NamedStrings) (f : DescriptorFile) (b : List ℕ) → IsTrue (is_asked texts) → File f b → IsReport texts f b
is_report Needed f b asked file = file
is_report Wanted f b asked file = file
is_report Skipped f b asked file = absurd (cc)

strings_hold : (terms : Terms) (f : DescriptorFile) (b : List ℕ) → SetsDone f b → Holds terms.choice.strings (strings_due terms f) b
strings_hold terms f b h = by_choice terms.choice.strings
  where
    none_named : (texts : NamedStrings) → IsTrue (is_asked texts) → (length (named_indices f) == 0) ≡ true → Holds texts (Configure f) b
    none_named texts asked none = (
      h.read,
      λ fits. is_report texts f b asked
          (is_file f b h.read h.all (subst (λ x. are_wrong_strings (length (named_indices f)) x ≡ false) (sym h.no_strings) (ap not none)) fits),
    )

    asked_for : (texts : NamedStrings) → IsTrue (is_asked texts) →
        Holds texts (if length (named_indices f) == 0 then Configure f else Languages f (named_indices f)) b
    asked_for texts asked =
        if_holds texts b (length (named_indices f) == 0) (Configure f) (Languages f (named_indices f))
        (λ none. none_named texts asked none) (λ some. (h, grind (arith, nat_tests), refl, asked))

    by_choice : (texts : NamedStrings) →
        Holds texts (if not (is_asked texts) || (length (named_indices f) == 0) then Configure f else Languages f (named_indices f)) b
    by_choice Needed = asked_for Needed refl
    by_choice Wanted = asked_for Wanted refl
    by_choice Skipped = (
      h.read,
      λ fits. record { is_front = h.read.is_front; all = h.all; no_strings = h.no_strings; bytes = h.read.bytes; fits = fits },
    )

all_again : (s : Strings) (f : DescriptorFile) (o : Option Other) → AllSets f o → AllSets (with_strings s f) o
all_again s f None a = a
all_again s f (Some o) a = a

texts_hold : (texts : NamedStrings) (f : DescriptorFile) (s : Strings) (named b : List ℕ) → IsTrue (is_asked texts) → InStrings f s named b →
    Holds texts (texts_due f s named) b
texts_hold texts f s named b asked h =
    if_holds texts b (nat_lt (length s.texts) (length s.languages * length named)) (Text f s named) (Configure (with_strings s f))
    (λ more. (h, grind (arith, nat_tests), asked))
    (λ full. (
      h.read,
      λ fits. is_report texts (with_strings s f) b asked
          (is_file (with_strings s f) b h.read (all_again s f f.other h.all)
          (strings_right (length (named_indices f)) s h.follow (subst (λ x. nat_lt (length s.texts) (length s.languages * length x) ≡ false) h.is_named full))
          fits),
    ))

all_main : (f : DescriptorFile) → f.other ≡ None → length f.sets ≡ f.device.configurations → AllSets f f.other
all_main f none e = subst (λ x. AllSets f x) (sym none) e

after_holds : (terms : Terms) (kind : SetKind) (f : DescriptorFile) (b : List ℕ) → InSets kind f b → nat_lt (length (sets_of kind f)) (declared_sets kind f) ≡ false →
    Holds terms.choice.strings (after_sets terms kind f) b
after_holds terms kinds.Configuration f b h full =
    let few = h.few in
    let all : length f.sets ≡ f.device.configurations = grind (arith, nat_tests) in
    if_holds terms.choice.strings b (terms.choice.other_speed && may_have_second terms.speed f.device) (SecondSpeed f) (strings_due terms f)
    (λ may. record { read = h.read; all = all; no_other = h.no_other; no_strings = h.no_strings })
    (λ none. strings_hold terms f b (record { read = h.read; all = all_main f h.no_other all; no_strings = h.no_strings }))
after_holds terms kinds.OtherSpeed f b h full =
    let few = h.few in
    let is = h.is_other in
    let main = h.all in
    let full' = rw is at full in
    let all : length h.other.sets ≡ h.other.qualifier.configurations = grind (arith, nat_tests) in
    strings_hold terms f b (record { read = h.read; all = subst (λ x. AllSets f x) (sym is) (main, all); no_strings = h.no_strings })

sets_hold : (terms : Terms) (kind : SetKind) (f : DescriptorFile) (b : List ℕ) → InSets kind f b → Holds terms.choice.strings (sets_due terms kind f) b
sets_hold terms kind f b h =
    if_holds terms.choice.strings b (nat_lt (length (sets_of kind f)) (declared_sets kind f)) (Header kind f) (after_sets terms kind f)
    (λ more. (h, grind (arith, nat_tests)))
    (λ full. after_holds terms kind f b h full)

-- one set more
set_holds_in : (kind : SetKind) (f : DescriptorFile) (c : Configuration) (b p : List ℕ) → InSets kind f b → length (sets_of kind f) < declared_sets kind f →
    Layout c p → is_other_kind kind c ≡ false → InSets kind (with_set kind c f) (b ++ p)
set_holds_in kinds.Configuration f c b p h below layout kind_is =
    record {
      read = grown f _ b p h.read (grow_main f c p h.read.is_front h.no_other h.no_strings below layout kind_is);
      no_other = h.no_other;
      no_strings = h.no_strings;
      few = size f.sets below;
    }
  where
    size : (cs : List Configuration) → length cs < f.device.configurations → length (cs ++ c ∷ []) ≤ f.device.configurations
    size cs l = (let n = length-append cs (c ∷ []) in omega arith)
set_holds_in kinds.OtherSpeed f c b p h below layout kind_is =
    let o = h.other in
    let below_o : length o.sets < o.qualifier.configurations = rw h.is_other at below in
    record {
      read = grown f _ b p h.read (grow_other f o c p h.read.is_front h.all h.is_other h.no_strings below_o layout kind_is);
      all = h.all;
      other = record o { sets = o.sets ++ c ∷ [] };
      is_other = ap (other_with c) h.is_other;
      no_strings = h.no_strings;
      few = size o.sets below_o;
    }
  where
    size : (cs : List Configuration) → length cs < h.other.qualifier.configurations → length (cs ++ c ∷ []) ≤ h.other.qualifier.configurations
    size cs l = (let n = length-append cs (c ∷ []) in omega arith)

device_holds : (terms : Terms) (place : Place) (first b : List ℕ) (o : Option DeviceDescriptor) → device_of b ≡ o →
    Holds terms.choice.strings (device_leads terms place first b o) b
device_holds terms place first b None e = tt
device_holds terms place first b (Some d) e =
    if_holds terms.choice.strings b (same_bytes (take 8 b) first && not (d.configurations == 0)) _ _
    (λ t. sets_hold terms kinds.Configuration (record { device = d; sets = []; other = None; strings = None }) b
    (record { read = record { is_front = record { kinds = refl; layouts = refl; order = omega arith }; bytes = device_written b d e }; no_other = refl; no_strings = refl; few = omega arith }))
    (λ t. tt)

header_holds : (texts : NamedStrings) (place : Place) (kind : SetKind) (f : DescriptorFile) (b : List ℕ) (o : Option ℕ) → Holds texts (Header kind f) b →
    Holds texts (header_leads place kind f o) b
header_holds texts place kind f b None h = tt
header_holds texts place kind f b (Some total) h = h

-- a set whose layout these bytes are
pub set_holds : (terms : Terms) (place : Place) (kind : SetKind) (f : DescriptorFile) (total count : ℕ) (b p : List ℕ) (o : Option Configuration) →
    ((c : Configuration) → o ≡ Some c → Layout c p) → Holds terms.choice.strings (Set kind f total) b →
    Holds terms.choice.strings (set_leads terms place kind f total count o) (b ++ p)
set_holds terms place kind f total count b p None e h = tt
set_holds terms place kind f total count b p (Some c) e h =
    if_holds terms.choice.strings (b ++ p) ((count == total) && (type_number c.kind == type_number kind) && not (is_first_zero kind (sets_of kind f) c)) _ _
    (λ t. sets_hold terms kind (with_set kind c f) (b ++ p)
    (set_holds_in kind f c b p h.0 h.1 (e c refl) (same_kind kind c (right_of (count == total) _ (left_of _ _ t)))))
    (λ t. tt)

qualifier_holds : (terms : Terms) (place : Place) (f : DescriptorFile) (b p : List ℕ) (o : Option Qualifier) → qualifier_of p ≡ o → MainDone f b →
    Holds terms.choice.strings (qualifier_leads terms place f o) (b ++ p)
qualifier_holds terms place f b p None e h = tt
qualifier_holds terms place f b p (Some q) e h =
    let g : DescriptorFile = with_qualifier q f in
    let more : Grown f g p = subst (λ x. Grown f g x) (sym (qualifier_written p q e)) (grow_qualifier f q h.read.is_front h.all h.no_other h.no_strings) in
    sets_hold terms kinds.OtherSpeed g (b ++ p)
    (record {
      read = grown f g b p h.read more;
      all = h.all;
      other = record { qualifier = q; sets = [] };
      is_other = refl;
      no_strings = h.no_strings;
      few = omega arith;
    })

not_long : (u : List ℕ) → length u ≤ 126 → is_long_string u ≡ false
not_long u few = grind (arith, nat_tests)

languages_hold : (texts : NamedStrings) (place : Place) (f : DescriptorFile) (named b p : List ℕ) (o : Option (List ℕ)) → units_of p ≡ o →
    Holds texts (Languages f named) b → Holds texts (languages_lead place f named o) (b ++ p)
languages_hold texts place f named b p None e h = tt
languages_hold texts place f named b p (Some []) e h = tt
languages_hold texts place f named b p (Some (l ∷ ls)) e h =
    let r = units_written p (l ∷ ls) e in
    let s : Strings = record { languages = l ∷ ls; texts = [] } in
    let g : DescriptorFile = with_strings s f in
    let short = not_long (l ∷ ls) r.1 in
    let more : Grown f g p = subst (λ x. Grown f g x) (sym r.0)
    (grow_languages f (l ∷ ls) h.0.read.is_front h.0.all h.0.no_strings h.1 (omega arith) short) in
    texts_hold texts f s named (b ++ p) h.3
    (record {
      read = grown f g b p h.0.read more;
      all = h.0.all;
      follow = record { named = h.1; spoken = omega arith; few = omega arith; short = none_wrong _ _ short refl };
      is_named = h.2;
    })

text_holds : (texts : NamedStrings) (place : Place) (f : DescriptorFile) (s : Strings) (named b p : List ℕ) (o : Option (List ℕ)) → units_of p ≡ o →
    Holds texts (Text f s named) b → Holds texts (text_leads place f s named o) (b ++ p)
text_holds texts place f s named b p None e h = tt
text_holds texts place f s named b p (Some u) e h =
    let r = units_written p u e in
    let g : DescriptorFile = with_strings s f in
    let t : Strings = record s { texts = s.texts ++ u ∷ [] } in
    let g' : DescriptorFile = with_strings t f in
    let short = not_long u r.1 in
    let i = h.0 in
    let below : length s.texts < length s.languages * length (named_indices f) = subst (λ x. length s.texts < length s.languages * length x) i.is_named h.1 in
    let size = length-append s.texts (u ∷ []) in
    let more : Grown g g' p = subst (λ x. Grown g g' x) (sym r.0)
    (grow_string g s u i.read.is_front (all_again s f f.other i.all) refl i.follow below short) in
    texts_hold texts f t named (b ++ p) h.2
    (record {
      read = grown g g' b p i.read more;
      all = i.all;
      follow = record {
        named = i.follow.named;
        spoken = i.follow.spoken;
        few = omega arith;
        short = long_more i.follow.short short;
      };
      is_named = i.is_named;
    })
  where
    long_more : has_long_string (Some s) ≡ false → is_long_string u ≡ false → has_long_string (Some (record s { texts = s.texts ++ u ∷ [] })) ≡ false
    long_more long short =
        let parts = or_parts (is_long_string s.languages) (list_any is_long_string s.texts) long in
        or_from _ _ parts.0 (list_any-snoc is_long_string s.texts u parts.1 short)

-- nothing more was read
same : (texts : NamedStrings) (place : Place) (b : List ℕ) → Holds texts place b → Holds texts place (b ++ [])
same texts place b h = subst (λ x. Holds texts place x) (sym (append-nil b)) h

-- a stand-in, after its bytes
stands_in : (texts : NamedStrings) (place : Place) (b : List ℕ) → is_of_strings place ≡ true → Holds texts place b →
    Holds texts (stand_in place) (b ++ stand_in_bytes place)
stands_in texts (Languages f named) b is h =
    languages_hold texts (Languages f named) f named b (units_bytes (0x0409 ∷ [])) (Some (0x0409 ∷ [])) (units_read (0x0409 ∷ []) (lit≤ tt)) h
stands_in texts (Text f s named) b is h = text_holds texts (Text f s named) f s named b (units_bytes []) (Some []) (units_read [] (lit≤ tt)) h
stands_in texts First b is h = absurd (cc)
stands_in texts (Address first) b is h = absurd (cc)
stands_in texts (Device first) b is h = absurd (cc)
stands_in texts (Header kind f) b is h = absurd (cc)
stands_in texts (Set kind f total) b is h = absurd (cc)
stands_in texts (SecondSpeed f) b is h = absurd (cc)
stands_in texts (Configure f) b is h = absurd (cc)
stands_in texts (Reported f) b is h = absurd (cc)
stands_in texts (Stopped trouble) b is h = absurd (cc)

-- where a read leads to, and what counts of it
spared_holds : (texts : NamedStrings) (here there : Place) (b part : List ℕ) → Holds texts here b → Holds texts there (b ++ part) →
    Holds texts (spared texts here there) (b ++ counted texts here there part)
spared_holds texts here there b part h on = by_test (is_spared texts here there) (λ t. spares_strings texts here there t)
  where
    by_test : (t : Bool) → (t ≡ true → is_of_strings here ≡ true) →
        Holds texts (if t then stand_in here else there) (b ++ (if t then stand_in_bytes here else part))
    by_test true strings = stands_in texts here b (strings refl) h
    by_test false strings = on

-- the same of a place whose reads are never passed over
pub kept_whole : (texts : NamedStrings) (here there : Place) (b : List ℕ) → is_of_strings here ≡ false → Holds texts there b → Holds texts (spared texts here there) b
kept_whole texts here there b none on = by_test (is_spared texts here there) (λ t. spares_strings texts here there t)
  where
    by_test : (t : Bool) → (t ≡ true → is_of_strings here ≡ true) → Holds texts (if t then stand_in here else there) b
    by_test true strings = absurd (let e = sym none ∙ strings refl in cc)
    by_test false strings = on

pub bytes_hold : (terms : Terms) (place : Place) (x b : List ℕ) → Holds terms.choice.strings place b →
    Holds terms.choice.strings (spared terms.choice.strings place (bytes_lead terms place x)) (b ++ part_of terms place (Bytes x))
bytes_hold terms First x b h =
    kept_whole terms.choice.strings First (bytes_lead terms First x) (b ++ []) refl
    (if_holds terms.choice.strings (b ++ []) (is_first terms.speed x) (Address x) _ (λ t. append-nil b ∙ h) (λ t. tt))
bytes_hold terms (Device first) x b h =
    kept_whole terms.choice.strings (Device first) (bytes_lead terms (Device first) x) (b ++ x) refl
    (subst (λ y. Holds terms.choice.strings (device_leads terms (Device first) first x (device_of x)) (y ++ x)) (sym h)
    (device_holds terms (Device first) first x (device_of x) refl))
bytes_hold terms (Header kind f) x b h =
    kept_whole terms.choice.strings (Header kind f) (bytes_lead terms (Header kind f) x) (b ++ []) refl
    (same terms.choice.strings (header_leads (Header kind f) kind f (total_in (type_number kind) x)) b
    (header_holds terms.choice.strings (Header kind f) kind f b (total_in (type_number kind) x) h))
bytes_hold terms (SecondSpeed f) x b h =
    kept_whole terms.choice.strings (SecondSpeed f) (bytes_lead terms (SecondSpeed f) x) (b ++ x) refl
    (qualifier_holds terms (SecondSpeed f) f b x (qualifier_of x) refl h)
bytes_hold terms (Languages f named) x b h =
    spared_holds terms.choice.strings (Languages f named) (bytes_lead terms (Languages f named) x) b x h
    (languages_hold terms.choice.strings (Languages f named) f named b x (units_of x) refl h)
bytes_hold terms (Text f s named) x b h =
    spared_holds terms.choice.strings (Text f s named) (bytes_lead terms (Text f s named) x) b x h
    (text_holds terms.choice.strings (Text f s named) f s named b x (units_of x) refl h)
bytes_hold terms (Address first) x b h = kept_whole terms.choice.strings (Address first) (bytes_lead terms (Address first) x) (b ++ []) refl tt
bytes_hold terms (Set kind f total) x b h = kept_whole terms.choice.strings (Set kind f total) (bytes_lead terms (Set kind f total) x) (b ++ x) refl tt
bytes_hold terms (Configure f) x b h = kept_whole terms.choice.strings (Configure f) (bytes_lead terms (Configure f) x) (b ++ []) refl tt
bytes_hold terms (Reported f) x b h = kept_whole terms.choice.strings (Reported f) (bytes_lead terms (Reported f) x) (b ++ []) refl tt
bytes_hold terms (Stopped trouble) x b h = kept_whole terms.choice.strings (Stopped trouble) (bytes_lead terms (Stopped trouble) x) (b ++ []) refl tt

-- a set, whose read is never passed over
pub set_kept_whole : (terms : Terms) (kind : SetKind) (f : DescriptorFile) (total : ℕ) (there : Place) (b : List ℕ) → Holds terms.choice.strings there b →
    Holds terms.choice.strings (spared terms.choice.strings (Set kind f total) there) b
set_kept_whole terms kind f total there b on = kept_whole terms.choice.strings (Set kind f total) there b refl on

done_there : (texts : NamedStrings) (place : Place) (b : List ℕ) → Holds texts place b → Holds texts (done_leads place) b
done_there texts (Address first) b h = h
done_there texts (Configure f) b h = h
done_there texts place b h = tt

pub done_holds : (terms : Terms) (place : Place) (b : List ℕ) → Holds terms.choice.strings place b →
    Holds terms.choice.strings (spared terms.choice.strings place (done_leads place)) (b ++ part_of terms place Done)
done_holds terms place b h =
    spared_holds terms.choice.strings place (done_leads place) b [] h
    (same terms.choice.strings (done_leads place) b (done_there terms.choice.strings place b h))

refused_there : (terms : Terms) (place : Place) (b : List ℕ) → Holds terms.choice.strings place b → Holds terms.choice.strings (refused_leads terms place) b
refused_there terms (SecondSpeed f) b h = strings_hold terms f b (record { read = h.read; all = all_main f h.no_other h.all; no_strings = h.no_strings })
refused_there terms place b h = tt

pub refused_holds : (terms : Terms) (place : Place) (b : List ℕ) → Holds terms.choice.strings place b →
    Holds terms.choice.strings (spared terms.choice.strings place (refused_leads terms place)) (b ++ part_of terms place Refused)
refused_holds terms place b h =
    spared_holds terms.choice.strings place (refused_leads terms place) b [] h
    (same terms.choice.strings (refused_leads terms place) b (refused_there terms place b h))

module _ (set_of : List ℕ → Option Configuration) (terms : Terms) (right : (b : List ℕ) (c : Configuration) → set_of b ≡ Some c → Layout c b) where
  abbrev At : Place → List ℕ → Type 0
  At place b = Holds terms.choice.strings place b

  holds_on : (place : Place) (r : Reply) (b : List ℕ) → At place b → At (next set_of terms place r) (b ++ part_of terms place r)
  holds_on (Reported f) (Bytes x) b h = kept_whole terms.choice.strings (Reported f) (Reported f) (b ++ []) refl (same terms.choice.strings (Reported f) b h)
  holds_on (Reported f) Done b h = spared_holds terms.choice.strings (Reported f) (Reported f) b [] h (same terms.choice.strings (Reported f) b h)
  holds_on (Reported f) Refused b h = spared_holds terms.choice.strings (Reported f) (Reported f) b [] h (same terms.choice.strings (Reported f) b h)
  holds_on (Stopped trouble) r b h = kept_whole terms.choice.strings (Stopped trouble) (Stopped trouble) (b ++ part_of terms (Stopped trouble) r) refl tt
  holds_on (Set kind f total) (Bytes x) b h =
      set_kept_whole terms kind f total (set_leads terms (Set kind f total) kind f total (length x) (set_of x)) (b ++ x)
      (set_holds terms (Set kind f total) kind f total (length x) b x (set_of x) (λ c e. right x c e) h)
  holds_on place (Bytes x) b h = bytes_hold terms place x b h
  holds_on place Done b h = done_holds terms place b h
  holds_on place Refused b h = refused_holds terms place b h

  holds_all : (place : Place) (rs : List Reply) (b : List ℕ) → At place b → At (reached set_of terms place rs) (b ++ parts_of set_of terms place rs)
  holds_all place [] b h = same terms.choice.strings place b h
  holds_all place (r ∷ rs) b h =
      subst (λ x. At (reached set_of terms (next set_of terms place r) rs) x)
      (append_assoc b (part_of terms place r) (parts_of set_of terms (next set_of terms place r) rs))
      (holds_all (next set_of terms place r) rs (b ++ part_of terms place r) (holds_on place r b h))

  pub reports : (rs : List Reply) (g : DescriptorFile) → reached set_of terms First rs ≡ Reported g → AreBytes (parts_of set_of terms First rs) →
      IsReport terms.choice.strings g (parts_of set_of terms First rs)
  reports rs g e = (subst (λ place. At place (parts_of set_of terms First rs)) e (holds_all First rs [] refl)).1
