-- What was written of a file so far, line by line.
use Rattle.std.proofs.Common.{◌≡◌, inl, inr, ℕ, ◌+◌, true, List, [], ◌∷◌, ◌++◌, Option, Some, None, is_none, length, refl, ap, sym, subst, ◌∙◌, append-nil, append_assoc, arith}
use Rattle.std.proofs.lemmas.List.{nil_from_length, same_from_push}
use Rattle.usb_fields.specs.declared.device.DeviceDescriptor.{DeviceDescriptor}
use Rattle.usb_fields.specs.declared.qualifier.Qualifier.{Qualifier}
use Rattle.usb_fields.specs.Device.{device_bytes, qualifier_bytes}
use Rattle.usb_set.specs.declared.tree.Configuration.{Configuration}
use Rattle.usb_set.proofs.Growth.{flat_map-snoc}
use Rattle.usb_set.proofs.Items.{with_last-snoc}
use Rattle.usb_file_data.specs.declared.file.DescriptorFile.{DescriptorFile}
use Rattle.usb_file_data.specs.declared.file.Other.{Other}
use Rattle.usb_file_data.specs.declared.file.Strings.{Strings}
use Rattle.usb_file_data.specs.File.{other_bytes, other_sets, sets_bytes, whole_set}
use Rattle.usb_file_data.proofs.Lists.{length-push}
use Rattle.usb_listing.specs.declared.byte_assembly.Part.TheVariants as parts
use Rattle.usb_listing.specs.declared.draft.Draft.{Draft}
use Rattle.usb_listing.specs.Listings.{IsBegun}
use Rattle.usb_listing.specs.inside.Drafts.{Holds, strings_total}
use Rattle.usb_listing.specs.inside.Growing.{joined_to, last_of, length_of, open_sets, set_and}
use Rattle.usb_listing.specs.inside.Thinning.{Writes, WritesDraft, WritesIf, file_part, head_bytes, last_bytes, whole_or, with_open}
use Rattle.usb_listing.proofs.PartLemmas.{made}
use Rattle.usb_listing.proofs.LetGoLemmas.{let_go, strings_open}
use Rattle.usb_listing.proofs.LikeLemmas.{Like, LikeOther, last_open, like_more, like_trans}

-- ---- the bytes of the parts that are whole

abbrev pub front_bytes : DescriptorFile → List ℕ
front_bytes f = device_bytes f.device ++ sets_bytes f.sets ++ other_bytes f.other

-- a file with one more set, or without
abbrev pub open_with : Option Configuration → DescriptorFile → DescriptorFile
open_with None f = f
open_with (Some c) f = with_open c f

-- Of the file, which was read so far, this is kept, and this was written: all but the last set of its part.
pub record Onto (f h : DescriptorFile) (out : List ℕ) : Type 0 where
  pub whole : DescriptorFile
  pub thinned : DescriptorFile
  pub like : Like whole thinned
  pub last : Option Configuration
  pub file_is : f ≡ open_with last whole
  pub thin_is : h ≡ open_with last thinned
  pub only : last ≡ None → open_sets whole whole.other ≡ []
  pub bytes : out ≡ front_bytes whole

front_open : (d : DeviceDescriptor) (ss : List Configuration) (o : Option Other) (s : Option Strings) (c : Configuration)
    → front_bytes (made d ss o s) ++ whole_set c ≡ front_bytes (with_open c (made d ss o s))
front_open d ss None s c =
    ap (λ (xs : List ℕ). xs ++ whole_set c) (append-nil (device_bytes d ++ sets_bytes ss))
    ∙ append_assoc (device_bytes d) (sets_bytes ss) (whole_set c)
    ∙ ap (λ (xs : List ℕ). device_bytes d ++ xs) (sym (flat_map-snoc whole_set ss c))
    ∙ sym (append-nil (device_bytes d ++ sets_bytes (ss ++ c ∷ [])))
front_open d ss (Some o) s c =
    let front = device_bytes d ++ sets_bytes ss in
    let q = qualifier_bytes o.qualifier in
    append_assoc front (q ++ sets_bytes o.sets) (whole_set c)
    ∙ ap (λ (xs : List ℕ). front ++ xs) (append_assoc q (sets_bytes o.sets) (whole_set c) ∙ ap (λ (xs : List ℕ). q ++ xs) (sym (flat_map-snoc whole_set o.sets c)))

pub onto_like : (f h : DescriptorFile) (out : List ℕ) → Onto f h out → Like f h
onto_like f h out o = cases o.last o.file_is o.thin_is
  where
    cases : (last : Option Configuration) → f ≡ open_with last o.whole → h ≡ open_with last o.thinned → Like f h
    cases None fe he = subst (λ (x : DescriptorFile). Like x h) (sym fe) (subst (Like o.whole) (sym he) o.like)
    cases (Some c) fe he = subst (λ (x : DescriptorFile). Like x h) (sym fe) (subst (Like (with_open c o.whole)) (sym he) (like_more o.whole o.thinned c o.like))

-- no set of the one, none of the other
none_open : (d e : DeviceDescriptor) (ss es : List Configuration) (o p : Option Other) (s t : Option Strings) → Like (made d ss o s) (made e es p t)
    → open_sets (made d ss o s) o ≡ [] → open_sets (made e es p t) p ≡ []
none_open d e ss es None None s t l none = nil_from_length es (sym l.sets ∙ ap length none)
none_open d e ss es (Some o) (Some p) s t l none = nil_from_length p.sets (sym l.other.1 ∙ ap length none)
none_open d e ss es None (Some p) s t l none = absurd l.other
none_open d e ss es (Some o) None s t l none = absurd l.other

pub open_last : (f : DescriptorFile) (c : Configuration) → last_of (open_sets (with_open c f) (with_open c f).other) ≡ Some c
open_last f c = last_open f.device f.sets f.other f.strings c

pub last_here : (f F : DescriptorFile) (last : Option Configuration) → f ≡ open_with last F → (last ≡ None → open_sets F F.other ≡ []) → last_of (open_sets f f.other) ≡ last
last_here f F None e only = ap (λ (x : DescriptorFile). last_of (open_sets x x.other)) e ∙ ap last_of (only refl)
last_here f F (Some c) e only = ap (λ (x : DescriptorFile). last_of (open_sets x x.other)) e ∙ open_last F c

thin_only : (f h : DescriptorFile) (out : List ℕ) (o : Onto f h out) → o.last ≡ None → open_sets o.thinned o.thinned.other ≡ []
thin_only f h out o e =
    none_open o.whole.device o.thinned.device o.whole.sets o.thinned.sets o.whole.other o.thinned.other o.whole.strings o.thinned.strings o.like (o.only e)

pub onto_last : (f h : DescriptorFile) (out : List ℕ) → Onto f h out → last_of (open_sets f f.other) ≡ last_of (open_sets h h.other)
onto_last f h out o = last_here f o.whole o.last o.file_is o.only ∙ sym (last_here h o.thinned o.last o.thin_is (thin_only f h out o))

-- with the last set, all of the file but the strings is written
pub front_last : (f h : DescriptorFile) (out : List ℕ) → Onto f h out → out ++ last_bytes (open_sets h h.other) ≡ front_bytes f
front_last f h out o =
    ap (λ (x : Option Configuration). out ++ whole_or x) (last_here h o.thinned o.last o.thin_is (thin_only f h out o))
    ∙ ap (λ (xs : List ℕ). xs ++ whole_or o.last) o.bytes ∙ cases o.last ∙ ap front_bytes (sym o.file_is)
  where
    cases : (last : Option Configuration) → front_bytes o.whole ++ whole_or last ≡ front_bytes (open_with last o.whole)
    cases None = append-nil (front_bytes o.whole)
    cases (Some c) = front_open o.whole.device o.whole.sets o.whole.other o.whole.strings c

-- ---- one set more

qualifier_or : Qualifier → Option Other → Qualifier
qualifier_or q None = q
qualifier_or q (Some o) = o.qualifier

same_open : (d e : DeviceDescriptor) (ss es : List Configuration) (o p : Option Other) (s t : Option Strings) (a b : Configuration)
    → with_open a (made d ss o s) ≡ with_open b (made e es p t) → (made d ss o s ≡ made e es p t) × (a ≡ b)
unfolding qualifier_or
same_open d e ss es None None s t a b same =
    let p = same_from_push ss es a b (ap (λ (x : DescriptorFile). x.sets) same) in
    let device = ap (λ (x : DescriptorFile). x.device) same in
    let strings = ap (λ (x : DescriptorFile). x.strings) same in
    ((λ i. made (device i) (p.0 i) None (strings i)), p.1)
same_open d e ss es (Some o) (Some r) s t a b same =
    let p = same_from_push o.sets r.sets a b (ap (λ (x : DescriptorFile). other_sets x.other) same) in
    let q : o.qualifier ≡ r.qualifier = ap (λ (x : DescriptorFile). qualifier_or o.qualifier x.other) same in
    let device = ap (λ (x : DescriptorFile). x.device) same in
    let sets = ap (λ (x : DescriptorFile). x.sets) same in
    let strings = ap (λ (x : DescriptorFile). x.strings) same in
    ((λ i. made (device i) (sets i) (Some (record { qualifier = q i; sets = p.0 i })) (strings i)), p.1)
same_open d e ss es None (Some r) s t a b same = absurd (let no = ap (λ (x : DescriptorFile). is_none x.other) same in cc)
same_open d e ss es (Some o) None s t a b same = absurd (let no = ap (λ (x : DescriptorFile). is_none x.other) same in cc)

open_same : (f g : DescriptorFile) (a b : Configuration) → with_open a f ≡ with_open b g → (f ≡ g) × (a ≡ b)
open_same f g a b same = same_open f.device g.device f.sets g.sets f.other g.other f.strings g.strings a b same

pub count_more : (d : DeviceDescriptor) (ss : List Configuration) (o : Option Other) (s : Option Strings) (c : Configuration)
    → length (open_sets (with_open c (made d ss o s)) (with_open c (made d ss o s)).other) ≡ length (open_sets (made d ss o s) o) + 1
count_more d ss None s c = length-push ss c
count_more d ss (Some o) s c = length-push o.sets c

part_same : (d : DeviceDescriptor) (ss : List Configuration) (o : Option Other) (s : Option Strings) (c : Configuration)
    → file_part (with_open c (made d ss o s)).other ≡ file_part o
part_same d ss None s c = refl
part_same d ss (Some o) s c = refl

pub joined_open : (d : DeviceDescriptor) (ss : List Configuration) (o : Option Other) (s : Option Strings) (c : Configuration) (b : List ℕ)
    → joined_to b (with_open c (made d ss o s)) ≡ with_open (set_and b c) (made d ss o s)
joined_open d ss None s c b = ap (λ (cs : List Configuration). made d cs None s) (with_last-snoc (set_and b) ss c)
joined_open d ss (Some o) s c b = ap (λ (cs : List Configuration). made d ss (Some (record o { sets = cs })) s) (with_last-snoc (set_and b) o.sets c)

-- ---- after a line

-- what is kept and written once a line was read that makes this file
pub record After (f : DescriptorFile) (new : Option Draft) (out : List ℕ) : Type 0 where
  pub draft : Draft
  pub is : new ≡ Some draft
  pub holds : Holds draft
  pub onto : Onto f draft.file out

-- no part begins: the last set is another
pub same_part : (f h : DescriptorFile) (out : List ℕ) (o : Onto f h out) (c b : Configuration) (m : Draft) (new : Option Draft) (is : List ℕ) → o.last ≡ Some c
    → Holds m → m.file ≡ with_open b o.thinned → WritesIf (file_part h.other) (length (open_sets h h.other)) (Some m) new out is → After (with_open b o.whole) new is
same_part f h out o c b m new is some holds file w =
    let H = o.thinned in
    let here : h ≡ with_open c H = o.thin_is ∙ ap (λ (x : Option Configuration). open_with x H) some in
    let part : file_part m.file.other ≡ file_part h.other =
    ap (λ (x : DescriptorFile). file_part x.other) file ∙ part_same H.device H.sets H.other H.strings b
    ∙ sym (part_same H.device H.sets H.other H.strings c) ∙ ap (λ (x : DescriptorFile). file_part x.other) (sym here) in
    let count : length (open_sets m.file m.file.other) ≡ length (open_sets h h.other) =
    ap (λ (x : DescriptorFile). length (open_sets x x.other)) file ∙ count_more H.device H.sets H.other H.strings b
    ∙ sym (count_more H.device H.sets H.other H.strings c) ∙ ap (λ (x : DescriptorFile). length (open_sets x x.other)) (sym here) in
    let same = w.same part count in
    record {
      draft = m;
      is = same.0;
      holds = holds;
      onto = record { whole = o.whole; thinned = H; like = o.like; last = Some b; file_is = refl; thin_is = file; only = λ e. absurd (let no = ap is_none e in cc); bytes = same.1 ∙ o.bytes };
    }

-- a set begins
pub set_begun : (f h : DescriptorFile) (out : List ℕ) → Onto f h out → (b : Configuration) (m : Draft) (new : Option Draft) (is : List ℕ) → h.strings ≡ None
    → Holds m → m.file ≡ with_open b h → WritesIf (file_part h.other) (length (open_sets h h.other)) (Some m) new out is → After (with_open b f) new is
set_begun f h out o b m new is none holds file w = cases written.2
  where
    count : length (open_sets m.file m.file.other) ≡ length (open_sets h h.other) + 1
    count = ap (λ (x : DescriptorFile). length (open_sets x x.other)) file ∙ count_more h.device h.sets h.other h.strings b

    written : WritesDraft (Some m) new out is
    written = w.begun (inr (λ e. absurd (omega (arith, count, e))))

    cases : Writes m.file written.0 out is → After (with_open b f) new is
    cases (inl head) = absurd (let no = ap length head.none in omega (arith, count, no))
    cases (inr ws) =
        let same = open_same ws.front h ws.set b (sym ws.old_is ∙ file) in
        let begun : IsBegun (Some (with_open ws.set ws.front)) = subst (λ (x : DescriptorFile). IsBegun (Some x)) ws.old_is holds.begun in
        let go = let_go ws.front ws.thinned ws.set ws.thins (ap (λ (x : DescriptorFile). x.strings) same.0 ∙ none) begun in
        let like : Like h ws.thinned = subst (λ (x : DescriptorFile). Like x ws.thinned) same.0 go.like in
        let file_now : written.0 ≡ with_open b ws.thinned = ws.new_is ∙ ap (λ (x : Configuration). with_open x ws.thinned) same.1 in
        let strings_now : written.0.strings ≡ None =
        ap (λ (x : DescriptorFile). x.strings) file_now ∙ strings_open ws.thinned.device ws.thinned.sets ws.thinned.other ws.thinned.strings b ∙ sym like.strings ∙ none in
        let strings_then : m.file.strings ≡ None = ap (λ (x : DescriptorFile). x.strings) file ∙ strings_open h.device h.sets h.other h.strings b ∙ none in
        record {
          draft = record m { file = written.0 };
          is = written.1;
          holds = record {
            begun = subst (λ (x : DescriptorFile). IsBegun (Some x)) (sym ws.new_is) go.begun;
            work = holds.work ∙ ap length_of (ap (λ (x : DescriptorFile). last_of (open_sets x x.other)) file ∙ open_last h b
                ∙ sym (ap (λ (x : DescriptorFile). last_of (open_sets x x.other)) file_now ∙ open_last ws.thinned b));
            total = holds.total ∙ ap (strings_total m.file) strings_then ∙ sym (ap (strings_total written.0) strings_now);
          };
          onto = record {
            whole = f;
            thinned = ws.thinned;
            like = like_trans f h ws.thinned (onto_like f h out o) like;
            last = Some b;
            file_is = refl;
            thin_is = file_now;
            only = λ e. absurd (let no = ap is_none e in cc);
            bytes = ws.bytes ∙ ap (λ (x : DescriptorFile). out ++ last_bytes (open_sets x x.other)) same.0 ∙ front_last f h out o;
          };
        }

-- the other speed begins
abbrev pub with_qualifier : Qualifier → DescriptorFile → DescriptorFile
with_qualifier q f = record f { other = Some (record { qualifier = q; sets = [] }) }

pub like_qualifier : (d e : DeviceDescriptor) (ss es : List Configuration) (o p : Option Other) (s t : Option Strings) (q : Qualifier) → is_none o ≡ true
    → Like (made d ss o s) (made e es p t) → Like (with_qualifier q (made d ss o s)) (with_qualifier q (made e es p t))
like_qualifier d e ss es None None s t q none l = record { device = l.device; strings = l.strings; sets = l.sets; other = (refl, refl); over = l.over; named = l.named }
like_qualifier d e ss es (Some o) p s t q none l = cc
like_qualifier d e ss es None (Some p) s t q none l = absurd l.other

pub other_none : (o : Option Other) → is_none o ≡ true → o ≡ None
other_none None e = refl
other_none (Some o) e = cc

pub like_none : (f h : DescriptorFile) → Like f h → is_none f.other ≡ true → is_none h.other ≡ true
like_none f h l e = cases f.other h.other l.other e
  where
    cases : (o p : Option Other) → LikeOther o p → is_none o ≡ true → is_none p ≡ true
    cases None None x e = refl
    cases (Some o) p x e = cc
    cases None (Some p) x e = absurd x

pub qualifier_begun : (f h : DescriptorFile) (out : List ℕ) → Onto f h out → (q : Qualifier) (m : Draft) (new : Option Draft) (is : List ℕ) → is_none f.other ≡ true
    → Holds m → m.file ≡ with_qualifier q h → WritesIf (file_part h.other) (length (open_sets h h.other)) (Some m) new out is → After (with_qualifier q f) new is
qualifier_begun f h out o q m new is none holds file w = cases written.2
  where
    like : Like f h
    like = onto_like f h out o

    h_none : h.other ≡ None
    h_none = other_none h.other (like_none f h like none)

    f_none : f.other ≡ None
    f_none = other_none f.other none

    part : file_part m.file.other ≡ parts.OtherSpeed
    part = ap (λ (x : DescriptorFile). file_part x.other) file

    was : file_part h.other ≡ parts.Device
    was = ap file_part h_none

    written : WritesDraft (Some m) new out is
    written = w.begun (inl (λ e. absurd (let no = sym part ∙ e ∙ was in cc)))

    cases : Writes m.file written.0 out is → After (with_qualifier q f) new is
    cases (inr ws) =
        absurd (let no = ap (λ (x : DescriptorFile). length (open_sets x x.other)) (sym file ∙ ws.old_is) ∙ count_more ws.front.device ws.front.sets ws.front.other ws.front.strings ws.set in omega (arith, no))
    cases (inl head) =
        let last : last_bytes h.sets ≡ last_bytes (open_sets h h.other) = ap (λ (x : Option Other). last_bytes (open_sets h x)) (sym h_none) in
        let front : front_bytes f ≡ device_bytes f.device ++ sets_bytes f.sets =
        ap (λ (x : Option Other). device_bytes f.device ++ sets_bytes f.sets ++ other_bytes x) f_none ∙ append-nil (device_bytes f.device ++ sets_bytes f.sets) in
        let bytes : is ≡ front_bytes (with_qualifier q f) =
        head.bytes ∙ ap (λ (x : DescriptorFile). out ++ head_bytes x x.other) file
        ∙ sym (append_assoc out (last_bytes h.sets) (qualifier_bytes q))
        ∙ ap (λ (xs : List ℕ). (out ++ xs) ++ qualifier_bytes q) last
        ∙ ap (λ (xs : List ℕ). xs ++ qualifier_bytes q) (front_last f h out o ∙ front)
        ∙ ap (λ (xs : List ℕ). device_bytes f.device ++ sets_bytes f.sets ++ xs) (sym (append-nil (qualifier_bytes q))) in
        record {
          draft = record m { file = written.0 };
          is = written.1;
          holds = subst (λ (x : DescriptorFile). Holds (record m { file = x })) (sym head.same) holds;
          onto = record {
            whole = with_qualifier q f;
            thinned = with_qualifier q h;
            like = like_qualifier f.device h.device f.sets h.sets f.other h.other f.strings h.strings q none like;
            last = None;
            file_is = refl;
            thin_is = head.same ∙ file;
            only = λ e. refl;
            bytes = bytes;
          };
        }
