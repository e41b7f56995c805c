-- The bytes of the file that a text lists, and why it lists none.
use Rattle.std.proofs.Common.{◌≡◌, ◌≢◌, ℕ, ◌+◌, ◌<◌, true, false, List, [], ◌++◌, Option, Some, None, Result, Ok, Err, length, refl, ap, sym, subst, ◌∙◌}
use Rattle.std.specs.Prelude.{IfErr, IfOk}
use Rattle.std.specs.Result.{IsErrAnd}
use Rattle.std.proofs.lemmas.Bool.{and_parts}
use Rattle.usb_set.specs.declared.tree.Configuration.{Configuration}
use Rattle.usb_set.specs.inside.Reading.{configuration_of}
use Rattle.usb_file_data.specs.declared.file.DescriptorFile.{DescriptorFile}
use Rattle.usb_file_data.specs.declared.file.Strings.{Strings}
use Rattle.usb_file_data.specs.File.{File, file_bytes, strings_bytes}
use Rattle.usb_listing.specs.declared.assembly.Form.{Form}
use Rattle.usb_listing.specs.declared.draft.Draft.{Draft}
use Rattle.usb_listing.specs.declared.fault.ListFault.{ListFault}
use Rattle.usb_listing.specs.declared.fault.ListWhy.{ListWhy}
use Rattle.usb_listing.specs.declared.fault.ListWhy.TheVariants as whys
use Rattle.usb_listing.specs.Comments.{CommentedFaulty, CommentedRefused, uncommented}
use Rattle.usb_listing.specs.Listings.{ListRefused}
use Rattle.usb_listing.proofs.LawLemmas.{want_of_memory}
use Rattle.usb_listing.specs.declared.word.Word.{Word}
use Rattle.usb_listing.specs.declared.word.Word.TheVariants as words
use Rattle.usb_listing.specs.Listings.{IsBegun, IsBytesOf, ListFaulty, Lists, is_whole}
use Rattle.usb_listing.specs.Order.{MayStand, has_over}
use Rattle.usb_listing.specs.Says.{IsItem, Item, fields, item_word, languages, string}
use Rattle.usb_listing.specs.inside.Drafts.{AreHeld, Reading, Reported, so_far}
use Rattle.usb_listing.specs.inside.Growing.{file_and, joined_to, may_follow_sets, may_stand, open_sets, qualifier_of, set_and}
use Rattle.usb_listing.specs.inside.Thinning.{Finished, ReadsOn, last_bytes, with_open}
use Rattle.usb_listing.specs.inside.Walking.{Refused, count_before, text_read}
use Rattle.usb_listing.proofs.SetLemmas.{IsInner}
use Rattle.usb_listing.proofs.MoreLemmas.{joins_word, more}
use Rattle.usb_listing.proofs.LessLemmas.{may_is, next}
use Rattle.usb_listing.proofs.StandLemmas.{may_then}
use Rattle.usb_listing.proofs.ReadingLemmas.{lists_end, reading_next, refused_end, refused_line}
use Rattle.usb_listing.proofs.WholeLemmas.{whole_file}
use Rattle.usb_listing.proofs.LikeLemmas.{like_more, may_same, whole_same}
use Rattle.usb_listing.proofs.OntoLemmas.{Onto, front_bytes, front_last, joined_open, last_here, like_qualifier, onto_last, onto_like, open_with}
use Rattle.usb_listing.proofs.TakenLemmas.{OntoDraft, inner_last, may_in, no_device, string_is, taken}

-- ---- whether one descriptor more makes a set too long

inner_over : (f h : DescriptorFile) (out : List ℕ) → Onto f h out → (w : Word) → IsInner w → (b : List ℕ) → may_follow_sets w f f.other ≡ true
    → has_over (file_and (fields w b) f) ≡ has_over (file_and (fields w b) h)
inner_over f h out o w inner b may = cases o.last refl
  where
    joined : (g G : DescriptorFile) (c : Configuration) → g ≡ with_open c G → file_and (fields w b) g ≡ with_open (set_and b c) G
    joined g G c e = joins_word w inner b g ∙ ap (joined_to b) e ∙ joined_open G.device G.sets G.other G.strings c b

    cases : (last : Option Configuration) → o.last ≡ last → has_over (file_and (fields w b) f) ≡ has_over (file_and (fields w b) h)
    cases None e = absurd (inner_last f w inner may (last_here f o.whole o.last o.file_is o.only ∙ e))
    cases (Some c) e =
        ap has_over (joined f o.whole c (o.file_is ∙ ap (λ (x : Option Configuration). open_with x o.whole) e))
        ∙ (like_more o.whole o.thinned (set_and b c) o.like).over
        ∙ sym (ap has_over (joined h o.thinned c (o.thin_is ∙ ap (λ (x : Option Configuration). open_with x o.thinned) e)))

over_same : (f h : DescriptorFile) (out : List ℕ) → Onto f h out → (item : Item) → IsItem item → may_stand (Some f) (item_word item) ≡ true
    → has_over (file_and item f) ≡ has_over (file_and item h)
unfolding file_and
over_same f h out o (fields words.Device b) is may = absurd (no_device f f.strings may)
over_same f h out o (fields words.Configuration b) is may = (like_more f h (configuration_of b) (onto_like f h out o)).over
over_same f h out o (fields words.OtherSpeed b) is may = (like_more f h (configuration_of b) (onto_like f h out o)).over
over_same f h out o (fields words.Qualifier b) is may =
    (like_qualifier f.device h.device f.sets h.sets f.other h.other f.strings h.strings (qualifier_of b) (and_parts _ _ (may_in f words.Qualifier f.strings (λ e. cc) may)).0
    (onto_like f h out o)).over
over_same f h out o (fields words.Interface b) is may = inner_over f h out o words.Interface tt b (may_in f words.Interface f.strings (λ e. cc) may)
over_same f h out o (fields words.Endpoint b) is may = inner_over f h out o words.Endpoint tt b (may_in f words.Endpoint f.strings (λ e. cc) may)
over_same f h out o (fields (words.Extra x) b) is may = inner_over f h out o (words.Extra x) tt b (may_in f (words.Extra x) f.strings (λ e. cc) may)
over_same f h out o (fields words.Languages b) is may = absurd is.1
over_same f h out o (fields words.String b) is may = absurd is.1
over_same f h out o (languages us) is may = (onto_like f h out o).over
over_same f h out o (string us) is may =
    ap has_over (string_is f.device f.sets f.other f.strings us) ∙ (onto_like f h out o).over ∙ sym (ap has_over (string_is h.device h.sets h.other h.strings us))

-- ---- faults

reported_file : (f h : DescriptorFile) (out : List ℕ) → Onto f h out → IsBegun (Some f) → IsBegun (Some h) → (rest : List ℕ) (why : ListWhy) → Reported (Some h) rest why → Reported (Some f) rest why
reported_file f h out o bf bh rest why report = cases why report
  where
    stands : (w : Word) → may_stand (Some f) w ≡ may_stand (Some h) w
    stands w = may_same f h w (onto_like f h out o) (onto_last f h out o)

    onward : (w : Word) → MayStand (Some h) w → MayStand (Some f) w
    onward w m = may_then (Some f) w bf.0 (may_same f h w (onto_like f h out o) (onto_last f h out o) ∙ may_is (Some h) w bh.0 m)

    back : (w : Word) → MayStand (Some f) w → MayStand (Some h) w
    back w m = may_then (Some h) w bh.0 (sym (may_same f h w (onto_like f h out o) (onto_last f h out o)) ∙ may_is (Some f) w bf.0 m)

    cases : (why : ListWhy) → Reported (Some h) rest why → Reported (Some f) rest why
    cases whys.Line t = t
    cases whys.Word t = record { line = t.line; more = t.more; first = t.first; fault = t.fault }
    cases whys.Place t = record { line = t.line; more = t.more; first = t.first; fault = (t.fault.0, t.fault.1, λ m. t.fault.2 (back t.fault.0 m)) }
    cases whys.Field t = record { line = t.line; more = t.more; first = t.first; fault = (t.fault.0, t.fault.1, onward t.fault.0 t.fault.2, t.fault.3) }
    cases whys.TooLong t =
        let item = t.fault.0 in
        let n = next (Some h) item t.fault.1 bh.0 t.fault.3 in
        let may : may_stand (Some f) (item_word item) ≡ true = stands (item_word item) ∙ n.may in
        record {
          line = t.line;
          more = t.more;
          first = t.first;
          fault = (item, file_and item f, t.fault.2, more (Some f) item bf.0 n.is_item may, over_same f h out o item n.is_item may ∙ ap has_over n.is ∙ t.fault.4);
        }
    cases whys.Missing t = (t.0, whole_same f h bf bh (onto_like f h out o) ∙ t.1)
    cases whys.Memory t = record { line = t.line; more = t.more; first = t.first; word = t.word; word_is = t.word_is; may = onward t.word t.may }

reported_same : (whole kept : Option Draft) (out : List ℕ) → OntoDraft whole kept out → AreHeld whole → AreHeld kept → (rest : List ℕ) (why : ListWhy)
    → Reported (so_far kept) rest why → Reported (so_far whole) rest why
reported_same None None out o hw hk rest why t = t
reported_same (Some whole) (Some kept) out o hw hk rest why t = reported_file whole.file kept.file out o hw.begun hk.begun rest why t
reported_same None (Some kept) out o hw hk rest why t = absurd o
reported_same (Some whole) None out o hw hk rest why t = absurd o

-- ---- all lines

-- the file that was read up to a line of the text, what is kept of it, and what was written
pub record ReadOnto (form : Form) (text : List ℕ) (kept : Option Draft) (rest : List ℕ) (line : ℕ) (out : List ℕ) : Type 0 where
  pub whole : Option Draft
  pub reading : Reading form text whole rest line
  pub onto : OntoDraft whole kept out
  pub held : AreHeld kept

pub read_next : (form : Form) (text rest more : List ℕ) (old new : Option Draft) (n : ℕ) (out is : List ℕ) → ReadOnto form text old rest n out → ReadsOn form old rest new more out is
    → length more < length rest → ReadOnto form text new more (n + 1) is
read_next form text rest more old new n out is r on shorter =
    let t = taken form r.whole old on.middle new rest more out is r.onto r.reading.holds r.held on.takes on.writes in
    record { whole = t.whole; reading = reading_next form text rest more r.whole t.whole n r.reading t.takes shorter; onto = t.onto; held = t.held }

pub refused_on : (form : Form) (text rest : List ℕ) (d : Option Draft) (n m : ℕ) (why : ListWhy) (out : List ℕ) → ReadOnto form text d rest n out → (why ≢ whys.Memory → count_before form rest 0 ≡ 0)
    → m ≡ n → (why ≢ whys.Memory → Reported (so_far d) (text_read form rest) why) → why ≢ whys.Memory → Refused form text m why
refused_on form text rest d n m why out r none e report other =
    refused_line form text rest r.whole n m why r.reading (none other) e (reported_same r.whole d out r.onto r.reading.holds r.held (text_read form rest) why (report other))

pub passed_why : {A : Type 0} (form : Form) (r : Result A ListFault) (text : List ℕ) (e : ListFault) → IsErrAnd r (λ y. y ≡ e) → (e.why ≢ whys.Memory → Refused form text e.line e.why)
    → IfErr r (λ fault. fault.why ≢ whys.Memory → Refused form text fault.line fault.why)
passed_why form (Ok x) text e is h = tt
passed_why form (Err y) text e is h = subst (λ (z : ListFault). z.why ≢ whys.Memory → Refused form text z.line z.why) (sym is) h

-- ---- the end

end_bytes : (f h : DescriptorFile) (out is : List ℕ) → Onto f h out → is ≡ out ++ last_bytes (open_sets h h.other) ++ strings_bytes h.strings → is ≡ file_bytes f
end_bytes f h out is o e =
    e ∙ ap (λ (xs : List ℕ). xs ++ strings_bytes h.strings) (front_last f h out o) ∙ ap (λ (s : Option Strings). front_bytes f ++ strings_bytes s) (sym (onto_like f h out o).strings)

bytes_end : (form : Form) (text : List ℕ) (d : Option Draft) (n : ℕ) (out is : List ℕ) → ReadOnto form text d [] n out → Finished d out is → IsBytesOf (text_read form text) is
bytes_end form text d n out is r e = cases r.whole d r.reading r.onto r.held e
  where
    cases : (whole d : Option Draft) → Reading form text whole [] n → OntoDraft whole d out → AreHeld d → Finished d out is → IsBytesOf (text_read form text) is
    cases (Some whole) (Some kept) reading o hk e =
        let f = whole.file in
        let h = kept.file in
        let same : h ≡ e.file = ap (λ (x : Option DescriptorFile). unwrap h x) e.draft_is in
        let due : is_whole (Some f) ≡ true = whole_same f h reading.holds.begun hk.begun (onto_like f h out o) ∙ ap (λ (x : DescriptorFile). is_whole (Some x)) same ∙ e.whole in
        let bytes : is ≡ file_bytes f =
        end_bytes f h out is o (e.bytes ∙ ap (λ (x : DescriptorFile). out ++ last_bytes (open_sets x x.other) ++ strings_bytes x.strings) (sym same)) in
        record { file = f; lists = lists_end form (Ok f) text (Some whole) n reading refl due; bytes = subst (File f) (sym bytes) (whole_file f reading.holds.begun due) }
      where
        unwrap : DescriptorFile → Option DescriptorFile → DescriptorFile
        unwrap x None = x
        unwrap x (Some y) = y
    cases None None reading o hk e = absurd (let no = e.draft_is in cc)
    cases None (Some kept) reading o hk e = absurd o
    cases (Some whole) None reading o hk e = absurd o

pub read_end : {E : Type 0} {B : Type 0} (items : B → List ℕ) (form : Form) (r : Result B E) (text : List ℕ) (d : Option Draft) (n : ℕ) (out : List ℕ) → ReadOnto form text d [] n out
    → IfOk r (λ b. Finished d out (items b)) → IfOk r (λ b. IsBytesOf (text_read form text) (items b))
read_end items form (Err e) text d n out r h = tt
read_end items form (Ok b) text d n out r h = bytes_end form text d n out (items b) r h

missing_same : (whole kept : Option Draft) (out : List ℕ) → OntoDraft whole kept out → AreHeld whole → AreHeld kept → is_whole (so_far kept) ≡ false → is_whole (so_far whole) ≡ false
missing_same None None out o hw hk e = e
missing_same (Some whole) (Some kept) out o hw hk e = whole_same whole.file kept.file hw.begun hk.begun (onto_like whole.file kept.file out o) ∙ e
missing_same None (Some kept) out o hw hk e = absurd o
missing_same (Some whole) None out o hw hk e = absurd o

pub refused_missing : {B : Type 0} (form : Form) (r : Result B ListFault) (text : List ℕ) (d : Option Draft) (n : ℕ) (out : List ℕ) → ReadOnto form text d [] n out
    → IfErr r (λ fault. fault.why ≢ whys.Memory → is_whole (so_far d) ≡ false) → IfErr r (λ fault. fault.why ≢ whys.Memory → fault ≡ record { line = n; why = whys.Missing })
    → IfErr r (λ fault. fault.why ≢ whys.Memory → Refused form text fault.line fault.why)
refused_missing form (Ok b) text d n out r due is = tt
refused_missing form (Err e) text d n out r due is =
    λ other. refused_end form (Err e) text r.whole n r.reading (missing_same r.whole d out r.onto r.reading.holds r.held (due other)) (is other)

-- ---- why no bytes are reported

is_faulty : (text : List ℕ) (line : ℕ) (why : ListWhy) → why ≢ whys.Memory → ListRefused text line why → ListFaulty text line why
is_faulty text line whys.Memory other h = absurd (other refl)
is_faulty text line why other h = h

want : (text : List ℕ) (f : DescriptorFile) (line : ℕ) (why : ListWhy) → Lists text f → (why ≢ whys.Memory → ListRefused text line why) → why ≡ whys.Memory
want text f line whys.Memory l h = refl
want text f line whys.Line l h = want_of_memory text f line whys.Line l (h (λ e. cc))
want text f line whys.Word l h = want_of_memory text f line whys.Word l (h (λ e. cc))
want text f line whys.Place l h = want_of_memory text f line whys.Place l (h (λ e. cc))
want text f line whys.Field l h = want_of_memory text f line whys.Field l (h (λ e. cc))
want text f line whys.TooLong l h = want_of_memory text f line whys.TooLong l (h (λ e. cc))
want text f line whys.Missing l h = want_of_memory text f line whys.Missing l (h (λ e. cc))

pub exact_faulty : {B : Type 0} (r : Result B ListFault) (text : List ℕ) → IfErr r (λ fault. fault.why ≢ whys.Memory → ListRefused text fault.line fault.why)
    → IfErr r (λ fault. fault.why ≢ whys.Memory → ListFaulty text fault.line fault.why)
exact_faulty (Ok b) text h = tt
exact_faulty (Err e) text h = λ other. is_faulty text e.line e.why other (h other)

pub exact_only : {B : Type 0} (r : Result B ListFault) (text : List ℕ) (f : DescriptorFile) → Lists text f → IfErr r (λ fault. fault.why ≢ whys.Memory → ListRefused text fault.line fault.why)
    → IfErr r (λ fault. fault.why ≡ whys.Memory)
exact_only (Ok b) text f l h = tt
exact_only (Err e) text f l h = want text f e.line e.why l h

-- the line among those that are kept
kept_faulty : (text : List ℕ) (line : ℕ) (why : ListWhy) → why ≢ whys.Memory → CommentedRefused text line why → CommentedFaulty text line why
kept_faulty text line why other h = record { kept = h.kept; holds = is_faulty (uncommented text) (h.kept + 1) why other h.holds; line_is = h.line_is }

kept_want : (text : List ℕ) (f : DescriptorFile) (line : ℕ) (why : ListWhy) → Lists (uncommented text) f → (why ≢ whys.Memory → CommentedRefused text line why) → why ≡ whys.Memory
kept_want text f line whys.Memory l h = refl
kept_want text f line whys.Line l h = let k = h (λ e. cc) in want_of_memory (uncommented text) f (k.kept + 1) whys.Line l k.holds
kept_want text f line whys.Word l h = let k = h (λ e. cc) in want_of_memory (uncommented text) f (k.kept + 1) whys.Word l k.holds
kept_want text f line whys.Place l h = let k = h (λ e. cc) in want_of_memory (uncommented text) f (k.kept + 1) whys.Place l k.holds
kept_want text f line whys.Field l h = let k = h (λ e. cc) in want_of_memory (uncommented text) f (k.kept + 1) whys.Field l k.holds
kept_want text f line whys.TooLong l h = let k = h (λ e. cc) in want_of_memory (uncommented text) f (k.kept + 1) whys.TooLong l k.holds
kept_want text f line whys.Missing l h = let k = h (λ e. cc) in want_of_memory (uncommented text) f (k.kept + 1) whys.Missing l k.holds

pub commented_faulty : {B : Type 0} (r : Result B ListFault) (text : List ℕ) → IfErr r (λ fault. fault.why ≢ whys.Memory → CommentedRefused text fault.line fault.why)
    → IfErr r (λ fault. fault.why ≢ whys.Memory → CommentedFaulty text fault.line fault.why)
commented_faulty (Ok b) text h = tt
commented_faulty (Err e) text h = λ other. kept_faulty text e.line e.why other (h other)

pub commented_only : {B : Type 0} (r : Result B ListFault) (text : List ℕ) (f : DescriptorFile) → Lists (uncommented text) f
    → IfErr r (λ fault. fault.why ≢ whys.Memory → CommentedRefused text fault.line fault.why) → IfErr r (λ fault. fault.why ≡ whys.Memory)
commented_only (Ok b) text f l h = tt
commented_only (Err e) text f l h = kept_want text f e.line e.why l h
