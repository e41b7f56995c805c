-- A line that is taken into what is kept of a file is one of the file.
use Rattle.std.proofs.Common.{◌≡◌, inl, inr, ℕ, ◌==◌, not, Bool, true, false, cond, List, [], ◌∷◌, ◌++◌, Option, Some, None, Result, Ok, Err, length, refl, ap, sym, subst, ◌∙◌, append-nil, arith}
use Rattle.std.proofs.lemmas.Bool.{and_parts}
use Rattle.usb_fields.specs.declared.device.DeviceDescriptor.{DeviceDescriptor}
use Rattle.usb_fields.specs.Device.{device_bytes}
use Rattle.usb_set.specs.declared.tree.Configuration.{Configuration}
use Rattle.usb_set.specs.inside.Reading.{configuration_of}
use Rattle.usb_file_data.specs.declared.file.DescriptorFile.{DescriptorFile}
use Rattle.usb_file_data.specs.declared.file.Other.{Other}
use Rattle.usb_file_data.specs.declared.file.Strings.{Strings}
use Rattle.usb_listing.specs.declared.byte_assembly.Part.TheVariants as parts
use Rattle.usb_listing.specs.declared.draft.Draft.{Draft}
use Rattle.usb_listing.specs.declared.assembly.Form.{Form}
use Rattle.usb_listing.specs.declared.fault.ListWhy.{ListWhy}
use Rattle.usb_listing.specs.declared.fault.ListWhy.TheVariants as whys
use Rattle.usb_listing.specs.declared.word.Word.{Word}
use Rattle.usb_listing.specs.declared.word.Word.TheVariants as words
use Rattle.usb_listing.specs.Words.{first_word}
use Rattle.usb_listing.specs.Order.{has_over}
use Rattle.usb_listing.specs.Says.{IsItem, Item, fields, item_word, languages, string}
use Rattle.usb_listing.specs.inside.Drafts.{AreHeld, Drafted, Holds, Takes, TakesLine, so_far, strings_total}
use Rattle.usb_listing.specs.inside.Growing.{device_of, file_and, has_interface, joined_to, last_of, length_of, may_follow, may_follow_sets, may_stand, open_sets, qualifier_of, set_and, with_string}
use Rattle.usb_listing.specs.inside.Rows.{item_of_line, word_in}
use Rattle.usb_listing.specs.inside.Thinning.{Writes, WritesDraft, WritesIf, file_part, head_bytes, open_count, part_of, with_open}
use Rattle.usb_listing.specs.inside.Walking.{add_item, add_line, add_word, file_of, grown, line_read}
use Rattle.usb_listing.proofs.PartLemmas.{made}
use Rattle.usb_listing.proofs.SetLemmas.{IsInner}
use Rattle.usb_listing.proofs.MoreLemmas.{joins_word}
use Rattle.usb_listing.proofs.SaysLemmas.{read_is_said, said_word}
use Rattle.usb_listing.proofs.StepLemmas.{placed}
use Rattle.usb_listing.proofs.WalkLemmas.{Makes, made_printable, makes, same_word}
use Rattle.usb_listing.proofs.WordLemmas.{word_again, word_read}
use Rattle.usb_listing.proofs.LikeLemmas.{Like, like_refl, may_same}
use Rattle.usb_listing.proofs.OntoLemmas.{After, Onto, count_more, front_bytes, joined_open, last_here, onto_last, onto_like, open_with, qualifier_begun, same_part, set_begun}

-- ---- strings

abbrev pub spoken : Option Strings → DescriptorFile → DescriptorFile
spoken s f = record f { strings = s }

open_spoken : (d : DeviceDescriptor) (ss : List Configuration) (o : Option Other) (s t : Option Strings) → open_sets (made d ss o s) o ≡ open_sets (made d ss o t) o
open_spoken d ss None s t = refl
open_spoken d ss (Some o) s t = refl

spoken_open : (last : Option Configuration) (d : DeviceDescriptor) (ss : List Configuration) (o : Option Other) (s t : Option Strings)
    → spoken t (open_with last (made d ss o s)) ≡ open_with last (made d ss o t)
spoken_open None d ss o s t = refl
spoken_open (Some c) d ss None s t = refl
spoken_open (Some c) d ss (Some o) s t = refl

pub like_spoken : (s : Option Strings) (f h : DescriptorFile) → Like f h → Like (spoken s f) (spoken s h)
like_spoken s f h l = record { device = l.device; strings = refl; sets = l.sets; other = l.other; over = l.over; named = l.named }

strings_said : (f h : DescriptorFile) (out : List ℕ) → Onto f h out → (s : Option Strings) (m : Draft) (new : Option Draft) (is : List ℕ)
    → Holds m → m.file ≡ spoken s h → WritesIf (file_part h.other) (length (open_sets h h.other)) (Some m) new out is → After (spoken s f) new is
strings_said f h out o s m new is holds file w =
    let F = o.whole in
    let H = o.thinned in
    let same = w.same (ap (λ (x : DescriptorFile). file_part x.other) file)
    (ap (λ (x : DescriptorFile). length (open_sets x x.other)) file ∙ ap length (open_spoken h.device h.sets h.other s h.strings)) in
    record {
      draft = m;
      is = same.0;
      holds = holds;
      onto = record {
        whole = spoken s F;
        thinned = spoken s H;
        like = like_spoken s F H o.like;
        last = o.last;
        file_is = ap (spoken s) o.file_is ∙ spoken_open o.last F.device F.sets F.other F.strings s;
        thin_is = file ∙ ap (spoken s) o.thin_is ∙ spoken_open o.last H.device H.sets H.other H.strings s;
        only = λ e. open_spoken F.device F.sets F.other s F.strings ∙ o.only e;
        bytes = same.1 ∙ o.bytes;
      };
    }

abbrev pub string_new : List ℕ → Option Strings → Option Strings
string_new us None = None
string_new us (Some s) = Some (record s { texts = s.texts ++ us ∷ [] })

pub string_is : (d : DeviceDescriptor) (ss : List Configuration) (o : Option Other) (s : Option Strings) (us : List ℕ)
    → with_string us (made d ss o s) s ≡ spoken (string_new us s) (made d ss o s)
string_is d ss o None us = refl
string_is d ss o (Some s) us = refl

-- ---- where a descriptor may stand

unspoken : (f : DescriptorFile) (w : Word) (s : Option Strings) → (w ≡ words.String → ⊥) → may_follow w f s ≡ true → s ≡ None
unspoken f w None other may = refl
unspoken f words.String (Some s) other may = absurd (other refl)
unspoken f w (Some s) other may = cc

pub no_device : (f : DescriptorFile) (s : Option Strings) → may_follow words.Device f s ≡ true → ⊥
no_device f None may = cc
no_device f (Some s) may = cc

pub may_in : (f : DescriptorFile) (w : Word) (s : Option Strings) → (w ≡ words.String → ⊥) → may_follow w f s ≡ true → may_follow_sets w f f.other ≡ true
may_in f w s other may = ap (may_follow w f) (sym (unspoken f w s other may)) ∙ may

last_nil : {A : Type 0} (xs : List A) → last_of xs ≡ None → xs ≡ []
last_nil [] e = refl
last_nil (x ∷ []) e = cc
last_nil (x ∷ y ∷ xs) e = let no = last_nil (y ∷ xs) e in cc

none_due : (xs : List Configuration) → not (length xs == 0) ≡ true → last_of xs ≡ None → ⊥
none_due xs some e = let no = sym (ap (λ (ys : List Configuration). not (length ys == 0)) (last_nil xs e)) ∙ some in cc

pub inner_last : (f : DescriptorFile) (w : Word) → IsInner w → may_follow_sets w f f.other ≡ true → last_of (open_sets f f.other) ≡ None → ⊥
inner_last f words.Interface inner may e = none_due (open_sets f f.other) may e
inner_last f (words.Extra x) inner may e = none_due (open_sets f f.other) may e
inner_last f words.Endpoint inner may e = let no = sym (ap has_interface e) ∙ may in cc
inner_last f w inner may e = absurd inner

inner_after : (f h : DescriptorFile) (out : List ℕ) → Onto f h out → (w : Word) → IsInner w → (b : List ℕ) (m : Draft) (new : Option Draft) (is : List ℕ) → may_follow_sets w f f.other ≡ true
    → Holds m → m.file ≡ file_and (fields w b) h → WritesIf (file_part h.other) (length (open_sets h h.other)) (Some m) new out is → After (file_and (fields w b) f) new is
inner_after f h out o w inner b m new is may holds file wr = cases o.last refl
  where
    F : DescriptorFile
    F = o.whole

    H : DescriptorFile
    H = o.thinned

    joined : (g G : DescriptorFile) (c : Configuration) → g ≡ with_open c G → file_and (fields w b) g ≡ with_open (set_and b c) G
    joined g G c e = joins_word w inner b g ∙ ap (joined_to b) e ∙ joined_open G.device G.sets G.other G.strings c b

    cases : (last : Option Configuration) → o.last ≡ last → After (file_and (fields w b) f) new is
    cases None e = absurd (inner_last f w inner may (last_here f o.whole o.last o.file_is o.only ∙ e))
    cases (Some c) e =
        subst (λ (x : DescriptorFile). After x new is) (sym (joined f o.whole c (o.file_is ∙ ap (λ (x : Option Configuration). open_with x o.whole) e)))
        (same_part f h out o c (set_and b c) m new is e holds (file ∙ joined h o.thinned c (o.thin_is ∙ ap (λ (x : Option Configuration). open_with x o.thinned) e)) wr)

-- a descriptor that was added
item_after : (f h : DescriptorFile) (out : List ℕ) → Onto f h out → (item : Item) (m : Draft) (new : Option Draft) (is : List ℕ) → IsItem item → may_stand (Some f) (item_word item) ≡ true
    → Holds m → m.file ≡ file_and item h → WritesIf (file_part h.other) (length (open_sets h h.other)) (Some m) new out is → After (file_and item f) new is
unfolding file_and
item_after f h out o (fields words.Device b) m new is item may holds file w = absurd (no_device f f.strings may)
item_after f h out o (fields words.Configuration b) m new is item may holds file w =
    set_begun f h out o (configuration_of b) m new is (sym (onto_like f h out o).strings ∙ unspoken f words.Configuration f.strings (λ e. cc) may) holds file w
item_after f h out o (fields words.OtherSpeed b) m new is item may holds file w =
    set_begun f h out o (configuration_of b) m new is (sym (onto_like f h out o).strings ∙ unspoken f words.OtherSpeed f.strings (λ e. cc) may) holds file w
item_after f h out o (fields words.Qualifier b) m new is item may holds file w =
    qualifier_begun f h out o (qualifier_of b) m new is (and_parts _ _ (may_in f words.Qualifier f.strings (λ e. cc) may)).0 holds file w
item_after f h out o (fields words.Interface b) m new is item may holds file w =
    inner_after f h out o words.Interface tt b m new is (may_in f words.Interface f.strings (λ e. cc) may) holds file w
item_after f h out o (fields words.Endpoint b) m new is item may holds file w =
    inner_after f h out o words.Endpoint tt b m new is (may_in f words.Endpoint f.strings (λ e. cc) may) holds file w
item_after f h out o (fields (words.Extra x) b) m new is item may holds file w =
    inner_after f h out o (words.Extra x) tt b m new is (may_in f (words.Extra x) f.strings (λ e. cc) may) holds file w
item_after f h out o (fields words.Languages b) m new is item may holds file w = absurd item.1
item_after f h out o (fields words.String b) m new is item may holds file w = absurd item.1
item_after f h out o (languages us) m new is item may holds file w = strings_said f h out o (Some (record { languages = us; texts = [] })) m new is holds file w
item_after f h out o (string us) m new is item may holds file w =
    let same = (onto_like f h out o).strings in
    subst (λ (x : DescriptorFile). After x new is) (sym (string_is f.device f.sets f.other f.strings us))
    (strings_said f h out o (string_new us f.strings) m new is holds
    (file ∙ string_is h.device h.sets h.other h.strings us ∙ ap (λ (s : Option Strings). spoken (string_new us s) h) (sym same)) w)

-- ---- the device

device_after : (m : Draft) (new : Option Draft) (is b : List ℕ) → Holds m → m.file ≡ file_of b → WritesIf parts.Nothing 0 (Some m) new [] is → After m.file new is
device_after m new is b holds file w = cases written.2
  where
    part : file_part m.file.other ≡ parts.Device
    part = ap (λ (x : DescriptorFile). file_part x.other) file

    written : WritesDraft (Some m) new [] is
    written = w.begun (inl (λ e. absurd (let no = sym part ∙ e in cc)))

    cases : Writes m.file written.0 [] is → After m.file new is
    cases (inr ws) =
        absurd (let no = ap (λ (x : DescriptorFile). length (open_sets x x.other)) (sym file ∙ ws.old_is) ∙ count_more ws.front.device ws.front.sets ws.front.other ws.front.strings ws.set in omega (arith, no))
    cases (inl head) = record {
      draft = record m { file = written.0 };
      is = written.1;
      holds = subst (λ (x : DescriptorFile). Holds (record m { file = x })) (sym head.same) holds;
      onto = record {
        whole = m.file;
        thinned = m.file;
        like = like_refl m.file;
        last = None;
        file_is = refl;
        thin_is = head.same;
        only = λ e. head.none;
        bytes = head.bytes ∙ ap (λ (x : DescriptorFile). head_bytes x x.other) file
            ∙ sym (append-nil (device_bytes (device_of b) ++ []) ∙ append-nil (device_bytes (device_of b)))
            ∙ ap front_bytes (sym file);
      };
    }

-- ---- a line

-- the line says a descriptor that may stand there, and makes this file
record MadeOf (s : Option DescriptorFile) (line : List ℕ) (g : DescriptorFile) : Type 0 where
  pub item : Item
  pub found : item_of_line line ≡ Some item
  pub may : may_stand s (item_word item) ≡ true
  pub is : g ≡ grown s item

made_of : (s : Option DescriptorFile) (line : List ℕ) (g : DescriptorFile) → add_line s line ≡ Ok g → MadeOf s line g
unfolding add_line
made_of s line g e = by_word (word_in (first_word line)) refl e
  where
    by_over : (item : Item) → item_of_line line ≡ Some item → may_stand s (item_word item) ≡ true → (b : Bool) → cond b (Err whys.TooLong) (Ok (grown s item)) ≡ Ok g → MadeOf s line g
    by_over item ei may true e = cc
    by_over item ei may false e = record { item = item; found = ei; may = may; is = sym (ap (λ (r : Result DescriptorFile ListWhy). ok_or (grown s item) r) e) }
      where
        ok_or : DescriptorFile → Result DescriptorFile ListWhy → DescriptorFile
        ok_or d (Ok x) = x
        ok_or d (Err why) = d

    by_item : (w : Word) → word_in (first_word line) ≡ Some w → may_stand s w ≡ true → (o : Option Item) → item_of_line line ≡ o → add_item s o ≡ Ok g → MadeOf s line g
    by_item w ew may None ei e = cc
    by_item w ew may (Some item) ei e =
        by_over item ei (ap (may_stand s) (same_word line item w (read_is_said line item ei) (word_read (first_word line) w ew)) ∙ may) (has_over (grown s item)) e

    by_place : (w : Word) → word_in (first_word line) ≡ Some w → (b : Bool) → may_stand s w ≡ b → cond b (add_item s (item_of_line line)) (Err whys.Place) ≡ Ok g → MadeOf s line g
    by_place w ew true may e = by_item w ew may (item_of_line line) refl e
    by_place w ew false may e = cc

    by_word : (o : Option Word) → word_in (first_word line) ≡ o → add_word s o (item_of_line line) ≡ Ok g → MadeOf s line g
    by_word None ew e = cc
    by_word (Some w) ew e = by_place w ew (may_stand s w) refl e

-- what is kept of the file that was read, and the bytes
abbrev pub OntoDraft : Option Draft → Option Draft → List ℕ → Type 0
OntoDraft None None out = out ≡ []
OntoDraft (Some whole) (Some kept) out = Onto whole.file kept.file out
OntoDraft None (Some kept) out = ⊥
OntoDraft (Some whole) None out = ⊥

-- the line was one of the file
pub record LineTaken (old : Option Draft) (line : List ℕ) (new : Option Draft) (out : List ℕ) : Type 0 where
  pub whole : Option Draft
  pub drafted : Drafted (add_line (so_far old) line) whole
  pub onto : OntoDraft whole new out
  pub held : AreHeld new

-- the draft of a file
abbrev draft_of : DescriptorFile → Draft
draft_of f = record { file = f; work = length_of (last_of (open_sets f f.other)); total = strings_total f f.strings }

after_onto : (f : DescriptorFile) (new : Option Draft) (out : List ℕ) → After f new out → OntoDraft (Some (draft_of f)) new out × AreHeld new
after_onto f new out a = subst (λ (x : Option Draft). OntoDraft (Some (draft_of f)) x out × AreHeld x) (sym a.is) (a.onto, a.holds)

file_taken : (whole kept m : Draft) (line : List ℕ) (new : Option Draft) (out is : List ℕ) → Onto whole.file kept.file out → Holds whole → Holds kept → Holds m
    → add_line (Some kept.file) line ≡ Ok m.file → WritesIf (file_part kept.file.other) (length (open_sets kept.file kept.file.other)) (Some m) new out is → LineTaken (Some whole) line new is
file_taken whole kept m line new out is o hw hk hm made w =
    let f = whole.file in
    let h = kept.file in
    let x = made_of (Some h) line m.file made in
    let says = read_is_said line x.item x.found in
    let may : may_stand (Some f) (item_word x.item) ≡ true = may_same f h (item_word x.item) (onto_like f h out o) (onto_last f h out o) ∙ x.may in
    let a = item_after f h out o x.item m new is says.is_item may hm x.is w in
    let g = file_and x.item f in
    let short : has_over g ≡ false = (onto_like g a.draft.file is a.onto).over ∙ a.holds.begun.1 in
    let word : word_in (first_word line) ≡ Some (item_word x.item) = ap word_in (said_word line x.item says) ∙ word_again (item_word x.item) in
    let ok : add_line (Some f) line ≡ Ok g =
    placed (Some f) line (item_word x.item) (Some x.item) word may x.found ∙ ap (λ (b : Bool). cond b (Err whys.TooLong) (Ok g)) short in
    let begun : Makes (Some f) line (Ok g) = subst (Makes (Some f) line) ok (makes (Some f) line hw.begun (made_printable (Some f) line g ok)) in
    let both = after_onto g new is a in
    record {
      whole = Some (draft_of g);
      drafted = record { file = g; is = refl; made = ok; holds = record { begun = begun.0; work = refl; total = refl } };
      onto = both.0;
      held = both.1;
    }

first_taken : (m : Draft) (line : List ℕ) (new : Option Draft) (is : List ℕ) → Holds m → add_line None line ≡ Ok m.file → WritesIf parts.Nothing 0 (Some m) new [] is → LineTaken None line new is
first_taken m line new is hm made w = cases x.item x.may x.is
  where
    x : MadeOf None line m.file
    x = made_of None line m.file made

    cases : (item : Item) → may_stand None (item_word item) ≡ true → m.file ≡ grown None item → LineTaken None line new is
    cases (fields words.Device b) may file =
        let both = after_onto m.file new is (device_after m new is b hm file w) in
        record {
          whole = Some (draft_of m.file);
          drafted = record { file = m.file; is = refl; made = made; holds = record { begun = hm.begun; work = refl; total = refl } };
          onto = both.0;
          held = both.1;
        }
    cases (fields w b) may file = cc
    cases (languages us) may file = cc
    cases (string us) may file = cc

pub line_taken : (whole kept middle new : Option Draft) (line out is : List ℕ) → OntoDraft whole kept out → AreHeld whole → AreHeld kept → Drafted (add_line (so_far kept) line) middle
    → WritesIf (part_of kept) (open_count kept) middle new out is → LineTaken whole line new is
line_taken None None (Some m) new line out is o hw hk d w =
    first_taken m line new is d.holds (d.made ∙ ap (λ (x : Option DescriptorFile). ok_of m.file x) (sym d.is)) (subst (λ (xs : List ℕ). WritesIf parts.Nothing 0 (Some m) new xs is) o w)
  where
    ok_of : DescriptorFile → Option DescriptorFile → Result DescriptorFile ListWhy
    ok_of g None = Ok g
    ok_of g (Some x) = Ok x
line_taken (Some whole) (Some kept) (Some m) new line out is o hw hk d w =
    file_taken whole kept m line new out is o hw hk d.holds (d.made ∙ ap (λ (x : Option DescriptorFile). ok_of m.file x) (sym d.is)) w
  where
    ok_of : DescriptorFile → Option DescriptorFile → Result DescriptorFile ListWhy
    ok_of g None = Ok g
    ok_of g (Some x) = Ok x
line_taken None (Some kept) middle new line out is o hw hk d w = absurd o
line_taken (Some whole) None middle new line out is o hw hk d w = absurd o
line_taken whole kept None new line out is o hw hk d w = absurd (let no = d.is in cc)

-- what a line left of the text, where it was dropped too
pub record Taken (form : Form) (old : Option Draft) (rest : List ℕ) (new : Option Draft) (more out : List ℕ) : Type 0 where
  pub whole : Option Draft
  pub takes : TakesLine form old rest whole more
  pub onto : OntoDraft whole new out
  pub held : AreHeld new

pub taken : (form : Form) (whole kept middle new : Option Draft) (rest more out is : List ℕ) → OntoDraft whole kept out → AreHeld whole → AreHeld kept → TakesLine form kept rest middle more
    → WritesIf (part_of kept) (open_count kept) middle new out is → Taken form whole rest new more is
taken form whole kept middle new rest more out is o hw hk t w = cases (line_read form t.line) refl t.takes
  where
    cases : (read : Option (List ℕ)) → line_read form t.line ≡ read → Takes read kept middle → Taken form whole rest new more is
    cases None e same =
        let kept_on = w.same (ap part_of same) (ap open_count same) in
        let onto : OntoDraft whole new is =
        subst (λ (x : Option Draft). OntoDraft whole x is) (sym (kept_on.0 ∙ same)) (subst (OntoDraft whole kept) (sym kept_on.1) o) in
        record {
          whole = whole;
          takes = record { line = t.line; cut = t.cut; takes = subst (λ (r : Option (List ℕ)). Takes r whole whole) (sym e) refl };
          onto = onto;
          held = subst AreHeld (sym (kept_on.0 ∙ same)) hk;
        }
    cases (Some line) e drafted =
        let l = line_taken whole kept middle new line out is o hw hk drafted w in
        record {
          whole = l.whole;
          takes = record { line = t.line; cut = t.cut; takes = subst (λ (r : Option (List ℕ)). Takes r whole l.whole) (sym e) l.drafted };
          onto = l.onto;
          held = l.held;
        }
