-- A host that reports a file was given its bytes.
use Rattle.std.proofs.Common.{◌≡◌, ℕ, suc, lit<, ◌+◌, ◌||◌, ◌&&◌, ◌≤◌, ◌==◌, nat_lt, Bool, true, false, if◌then◌else◌, List, [], ◌∷◌, ◌++◌, length, inl, inr, refl, ap, sym, ◌∙◌, arith, subst, length-append}
use Rattle.std.specs.Prelude.{Option, Some, Result, Ok, Err}
use Rattle.std.proofs.lemmas.Bool.Decides.{nat_tests}
use Rattle.std.proofs.lemmas.List.{append-nil, nil_from_length}
use Rattle.usb_fields.specs.Bytes.{AreBytes}
use Rattle.usb_fields.specs.declared.packet.Speed.{Speed}
use Rattle.usb_fields.specs.Packets.{Sent, Reply as Answer}
use Rattle.usb_set.specs.declared.tree.Configuration.{Configuration}
use Rattle.usb_set.specs.declared.fault.SetFault.{SetFault}
use Rattle.usb_set.specs.declared.decoder.Progress.{Progress}
use Rattle.usb_set.specs.declared.decoder.Progress.TheVariants.{More, Done}
use Rattle.usb_set.specs.Layout.{Layout}
use Rattle.usb_set.specs.Decoding.{Decoding, gathers, has, refused, Answers}
use Rattle.usb_set.specs.Faults.{Begins}
use Rattle.usb_file_data.specs.declared.file.DescriptorFile.{DescriptorFile}
use Rattle.usb_host.specs.declared.choice.NamedStrings.{NamedStrings}
use Rattle.usb_host.specs.declared.choice.Choice.{Choice}
use Rattle.usb_host.specs.declared.choice.Terms.{Terms}
use Rattle.usb_host.specs.Terms.{IsReport}
use Rattle.usb_host.specs.declared.reply.Reply.TheVariants as replied
use Rattle.usb_host.specs.declared.why.Why.{Why}
use Rattle.usb_host.specs.declared.why.Why.TheVariants.{NoAnswer, Busy, Stalled, TooLong, Unexpected, Malformed, Memory}
use Rattle.usb_host.specs.declared.transfer.TransferStage.{TransferStage}
use Rattle.usb_host.specs.declared.transfer.TransferStage.TheVariants.{Setup, DataIn, DataOut, StatusOut, StatusIn, Completed, Failed}
use Rattle.usb_host.specs.Limits.{LimitView}
use Rattle.usb_host.specs.Transfer.{TransferView, HeardView, Goes, Brings, Completes, Fails, taken, token_due, addressed}
use Rattle.usb_host.specs.declared.step.Trouble.{Trouble}
use Rattle.usb_host.specs.Place.{Place, First, Address, Device, Header, Set, Qualifier, Languages, Text, Configure, Reported, Stopped}
use Rattle.usb_host.specs.Keeping as kept
use Rattle.usb_host.specs.Order.{bytes_lead, set_leads, done_leads, refused_leads, counted, is_of_strings, is_spared, spared, stand_in_bytes}
use Rattle.usb_host.specs.Keeping.{Kept, is_over, set_kept}
use Rattle.usb_host.specs.Gathered.{Came, no_bytes, came_by, came_in, part_of}
use Rattle.usb_host.specs.Steps.{HostPhase, ResetDue, Reading, Ended, HostView, WantsSent, blames_bus, chosen_host, completed_leads, enter, goes_on, outcome_of, read_leads, sends, settled, terms_of, wanted, KeepsReceived, TakesReceived, TakesIn}
use Rattle.usb_host.specs.Cost.{BringsBytes}
use Rattle.usb_host.specs.Laws.{Asks, ChosenHostsReportWhatCame}
use Rattle.usb_host.specs.inside.Reads.{IsGoing}
use Rattle.usb_host.specs.inside.Sound.{FitsPlace, Holds}
use Rattle.usb_host.proofs.AskingLemmas.{wants_reset, reset_is}
use Rattle.usb_host.proofs.LowerLemmas.{HasBytesOf, fits_bytes, fits_set, receives_bytes}
use Rattle.usb_host.proofs.PartLemmas.{bytes_hold, kept_whole, refused_holds, set_holds, set_kept_whole}
use Rattle.usb_host.proofs.TakeLemmas.{StageOf, heeds, going_on}
use Rattle.usb_fields.proofs.ByteParts.{bytes_append}
use Rattle.usb_set.proofs.Sound.{Begins-more}

-- ---- what is kept of a read says the same as its bytes

abbrev KeptFrom : List ℕ → Kept → Type 0
KeptFrom read (kept.Bytes bytes) = bytes ≡ read
KeptFrom read (kept.Set (gathers s) over) = (s ≡ read) × (over ≡ false)
KeptFrom read (kept.Set (has c) over) = (n : ℕ) × Begins read c n × (over ≡ nat_lt n (length read))
KeptFrom read (kept.Set (refused fault) over) = Unit {0}

pub begins_within : (b : List ℕ) (c : Configuration) (n : ℕ) → Begins b c n → n ≤ length b
begins_within b c n h = (let all = ap length h.parts in let sum = length-append h.front h.rest in let ends = h.ends in omega arith)

pub over_more : (over : Bool) (n size more : ℕ) → n ≤ size → over ≡ nat_lt n size → (over || nat_lt 0 more) ≡ nat_lt n (size + more)
over_more over n size more within e = grind (arith, nat_tests)

pub over_first : (used size count more : ℕ) → count ≡ size → nat_lt used more ≡ nat_lt (count + used) (size + more)
over_first used size count more e = grind (arith, nat_tests)

fed : (read piece : List ℕ) (d e : Decoding) (over now : Bool) (result : Result Progress SetFault) → KeptFrom read (kept.Set d over) → Answers d piece result e →
    now ≡ is_over over result (length piece) → KeptFrom (read ++ piece) (kept.Set e now)
fed read piece (gathers s) e over now (Ok More) (same, none) (open_, is) at =
    subst (λ d. KeptFrom (read ++ piece) (kept.Set d now)) (sym is) (ap (λ x. x ++ piece) same, at ∙ none)
fed read piece (gathers s) e over now (Ok (Done used)) (same, none) (c, begins, within, is) at =
    let size = length-append read piece in
    let count : length s ≡ length read = ap length same in
    let over_is : now ≡ nat_lt (length s + used) (length (read ++ piece)) =
    at ∙ ap (λ o. o || nat_lt used (length piece)) none ∙ over_first used (length read) (length s) (length piece) count ∙ ap (λ n. nat_lt (length s + used) n) (sym size) in
    subst (λ d. KeptFrom (read ++ piece) (kept.Set d now)) (sym is) (length s + used, subst (λ x. Begins (x ++ piece) c (length s + used)) same begins, over_is)
fed read piece (gathers s) e over now (Err fault) is (new, why) at = subst (λ d. KeptFrom (read ++ piece) (kept.Set d now)) (sym new) tt
fed read piece (has c) e over now result (n, begins, is) (r, new) at =
    let size = length-append read piece in
    let over_is : now ≡ nat_lt n (length (read ++ piece)) =
    at ∙ ap (λ x. is_over over x (length piece)) r ∙ over_more over n (length read) (length piece) (begins_within read c n begins) is ∙ ap (λ x. nat_lt n x) (sym size) in
    subst (λ d. KeptFrom (read ++ piece) (kept.Set d now)) (sym new) (n, Begins-more read piece c n begins, over_is)
fed read piece (refused fault) e over now result is (r, new) at = subst (λ d. KeptFrom (read ++ piece) (kept.Set d now)) (sym new) tt

brought : (place : Place) (read piece : List ℕ) (old new : Kept) (result : Result Progress SetFault) → FitsPlace place old → KeptFrom read old →
    KeepsReceived old (Brings piece) result new → FitsPlace place new × KeptFrom (read ++ piece) new
brought place read piece (kept.Bytes b) (kept.Bytes new) result fits is keeps = (fits_bytes place b new fits, keeps ∙ ap (λ x. x ++ piece) is)
brought place read piece (kept.Bytes b) (kept.Set new now) result fits is keeps = absurd (keeps)
brought place read piece (kept.Set d over) (kept.Bytes new) result fits is keeps = absurd (keeps)
brought place read piece (kept.Set d over) (kept.Set new now) result fits is keeps =
    (fits_set place d new over now fits, fed read piece d new over now result is keeps.0 keeps.1)

-- the set that a decoder has, and behind whose end nothing came, is laid out as it was read
set_read : (read : List ℕ) (d : Decoding) (over : Bool) (c : Configuration) → KeptFrom read (kept.Set d over) → set_kept d over ≡ Some c → Layout c read
set_read read (gathers s) over c is e = absurd (cc)
set_read read (refused fault) over c is e = absurd (cc)
set_read read (has d) true c is e = absurd (cc)
set_read read (has d) false c (n, begins, all) e =
    let same : d ≡ c = cc in
    let within = begins_within read d n begins in
    let whole : n ≡ length read = grind (arith, nat_tests) in
    let parts = ap length begins.parts in
    let sum = length-append begins.front begins.rest in
    let ends = begins.ends in
    let none : begins.rest ≡ [] = nil_from_length begins.rest (omega arith) in
    let front : read ≡ begins.front = begins.parts ∙ ap (λ x. begins.front ++ x) none ∙ append-nil begins.front in
    subst (λ x. Layout x read) same (subst (λ x. Layout d x) (sym front) begins.layout)

-- ---- what holds of a phase after the bytes that came

-- and of a read of strings that bytes are asked for
abbrev Agrees : NamedStrings → HostPhase → Came → Type 0
Agrees texts ResetDue came = Unit {0}
Agrees texts (Reading place t k) came =
    Holds texts place came.whole × FitsPlace place k × KeptFrom came.read k × (is_of_strings place ≡ true → (t.request.length == 0) ≡ false)
Agrees texts (Ended place) came = Holds texts place came.whole

-- and these are bytes
abbrev Fits : Came → Type 0
Fits came = AreBytes came.whole × AreBytes came.read

begins_at : (texts : NamedStrings) (limits : LimitView) (place : Place) (whole : List ℕ) → Holds texts place whole →
    Agrees texts (enter limits place) (record { whole = whole; read = [] })
begins_at texts limits First whole h = (h, tt, refl, λ e. absurd (cc))
begins_at texts limits (Address first) whole h = (h, tt, refl, λ e. absurd (cc))
begins_at texts limits (Device first) whole h = (h, tt, refl, λ e. absurd (cc))
begins_at texts limits (Header kind f) whole h = (h, tt, refl, λ e. absurd (cc))
begins_at texts limits (Set kind f total) whole h = (h, tt, (refl, refl), λ e. absurd (cc))
begins_at texts limits (Qualifier f) whole h = (h, tt, refl, λ e. absurd (cc))
begins_at texts limits (Languages f named) whole h = (h, tt, refl, λ e. refl)
begins_at texts limits (Text f s named) whole h = (h, tt, refl, λ e. refl)
begins_at texts limits (Configure f) whole h = (h, tt, refl, λ e. absurd (cc))
begins_at texts limits (Reported f) whole h = h
begins_at texts limits (Stopped trouble) whole h = tt

-- a read that has completed
done_there : (terms : Terms) (place : Place) (whole read : List ℕ) → Holds terms.choice.strings place whole →
    Holds terms.choice.strings (done_leads place) (whole ++ part_of terms place (replied.Bytes read))
done_there terms (Address first) whole read h = subst (λ x. Holds terms.choice.strings (Device first) x) (sym (append-nil whole)) h
done_there terms (Configure f) whole read h = subst (λ x. Holds terms.choice.strings (Reported f) x) (sym (append-nil whole)) h
done_there terms place whole read h = tt

read_there : (terms : Terms) (place : Place) (count : ℕ) (k : Kept) (whole read : List ℕ) → Holds terms.choice.strings place whole → FitsPlace place k → KeptFrom read k →
    Holds terms.choice.strings (spared terms.choice.strings place (read_leads terms place count k)) (whole ++ part_of terms place (replied.Bytes read))
read_there terms place count (kept.Bytes bytes) whole read h fits is =
    subst (λ x. Holds terms.choice.strings (spared terms.choice.strings place (read_leads terms place count (kept.Bytes bytes))) (whole ++ part_of terms place (replied.Bytes x)))
    is (bytes_hold terms place bytes whole h)
read_there terms (Set kind f total) count (kept.Set d over) whole read h fits is =
    set_kept_whole terms kind f total (set_leads terms (Set kind f total) kind f total count (set_kept d over)) (whole ++ read)
    (set_holds terms (Set kind f total) kind f total count whole read (set_kept d over) (λ c e. set_read read d over c is e) h)
read_there terms place count (kept.Set d over) whole read h fits is = absurd (fits)

-- no strings are read where nothing is asked for
not_of_strings : (strings none : Bool) → (strings ≡ true → none ≡ false) → none ≡ true → strings ≡ false
not_of_strings true none asks e = absurd (let f = asks refl in cc)
not_of_strings false none asks e = refl

completed_there : (terms : Terms) (place : Place) (t : TransferView) (k : Kept) (whole read : List ℕ) → Agrees terms.choice.strings (Reading place t k) (record { whole = whole; read = read }) →
    Holds terms.choice.strings (spared terms.choice.strings place (completed_leads terms place t k)) (whole ++ part_of terms place (replied.Bytes read))
completed_there terms place t k whole read (h, fits, is, asks) = by_length (t.request.length == 0) refl
  where
    by_length : (z : Bool) → (t.request.length == 0) ≡ z →
        Holds terms.choice.strings (spared terms.choice.strings place (if z then done_leads place else read_leads terms place t.kept k))
        (whole ++ part_of terms place (replied.Bytes read))
    by_length true e =
        kept_whole terms.choice.strings place (done_leads place) (whole ++ part_of terms place (replied.Bytes read))
        (not_of_strings (is_of_strings place) (t.request.length == 0) asks e) (done_there terms place whole read h)
    by_length false e = read_there terms place t.kept k whole read h fits is

stand_in_fits : (place : Place) → AreBytes (stand_in_bytes place)
stand_in_fits (Languages f named) = (lit< tt, (lit< tt, (lit< tt, (lit< tt, tt))))
stand_in_fits (Text f s named) = (lit< tt, (lit< tt, tt))
stand_in_fits place = tt

counted_fits : (texts : NamedStrings) (here there : Place) (b : List ℕ) → AreBytes b → AreBytes (counted texts here there b)
counted_fits texts here there b fits = by_test (is_spared texts here there)
  where
    by_test : (t : Bool) → AreBytes (if t then stand_in_bytes here else b)
    by_test true = stand_in_fits here
    by_test false = fits

part_fits : (terms : Terms) (place : Place) (read : List ℕ) → AreBytes read → AreBytes (part_of terms place (replied.Bytes read))
part_fits terms (Device first) read fits = fits
part_fits terms (Set kind f total) read fits = fits
part_fits terms (Qualifier f) read fits = fits
part_fits terms (Languages f named) read fits = counted_fits terms.choice.strings (Languages f named) (bytes_lead terms (Languages f named) read) read fits
part_fits terms (Text f s named) read fits = counted_fits terms.choice.strings (Text f s named) (bytes_lead terms (Text f s named) read) read fits
part_fits terms place read fits = tt

came_fits : (terms : Terms) (place : Place) (received : HeardView) (came : Came) → HasBytesOf received → Fits came → Fits (came_by terms place received came)
came_fits terms place Goes came bytes fits = fits
came_fits terms place (Brings piece) came bytes fits = (fits.0, bytes_append came.read piece fits.1 bytes)
came_fits terms place Completes came bytes fits =
    (bytes_append came.whole (part_of terms place (replied.Bytes came.read)) fits.0 (part_fits terms place came.read fits.1), tt)
came_fits terms place (Fails Stalled) came bytes fits = (
  bytes_append came.whole (part_of terms place replied.Refused) fits.0
      (counted_fits terms.choice.strings place (refused_leads terms place) [] tt),
  tt,
)
came_fits terms place (Fails NoAnswer) came bytes fits = (fits.0, tt)
came_fits terms place (Fails Busy) came bytes fits = (fits.0, tt)
came_fits terms place (Fails TooLong) came bytes fits = (fits.0, tt)
came_fits terms place (Fails Unexpected) came bytes fits = (fits.0, tt)
came_fits terms place (Fails Malformed) came bytes fits = (fits.0, tt)
came_fits terms place (Fails Memory) came bytes fits = (fits.0, tt)

-- ---- an answer

module _ (limits : LimitView) (terms : Terms) (place : Place) where
  abbrev asked : NamedStrings
  asked = terms.choice.strings

  goes_agreeing : (received : HeardView) (t : TransferView) (old k : Kept) (result : Result Progress SetFault) (came : Came) → StageOf received t.stage →
      KeepsReceived old received result k → Agrees asked (Reading place t old) came → Agrees asked (goes_on limits terms place t k t.stage) (came_by terms place received came)
  goes_agreeing Goes t old k result came stage keeps agrees =
      subst (λ p. Agrees asked p came) (sym (going_on limits terms place t k t.stage stage))
      (subst (λ x. Agrees asked (Reading place t x) came) (sym keeps) agrees)
  goes_agreeing (Brings piece) t old k result came stage keeps (h, fits, is, asks) =
      subst (λ p. Agrees asked p (came_by terms place (Brings piece) came)) (sym (going_on limits terms place t k t.stage stage))
      (let b = brought place came.read piece old k result fits is keeps in (h, b.0, b.1, asks))
  goes_agreeing Completes t old k result came stage keeps agrees =
      subst (λ s. Agrees asked (goes_on limits terms place t k s) (came_by terms place Completes came)) (sym stage)
      (begins_at asked limits (spared asked place (completed_leads terms place t k)) (came.whole ++ part_of terms place (replied.Bytes came.read))
      (completed_there terms place t k came.whole came.read (subst (λ x. Agrees asked (Reading place t x) came) (sym keeps) agrees)))
  goes_agreeing (Fails why) t old k result came stage keeps (h, fits, is, asks) =
      subst (λ s. Agrees asked (goes_on limits terms place t k s) (came_by terms place (Fails why) came)) (sym stage) (by_why why)
    where
      by_why : (w : Why) → Agrees asked (goes_on limits terms place t k (Failed w)) (came_by terms place (Fails w) came)
      by_why Stalled =
          begins_at asked limits (spared asked place (refused_leads terms place)) (came.whole ++ part_of terms place replied.Refused)
          (refused_holds terms place came.whole h)
      by_why NoAnswer = tt
      by_why Busy = tt
      by_why TooLong = tt
      by_why Unexpected = tt
      by_why Malformed = tt
      by_why Memory = tt

  takes_agreeing : (t : TransferView) (k : Kept) (answer : Answer) (new : HostPhase) (before after : List Trouble) (came : Came) → IsGoing t.stage →
      TakesReceived limits terms place k (taken t answer) new before after → Agrees asked (Reading place t k) came →
      Agrees asked new (came_by terms place (taken t answer).received came)
  takes_agreeing t k answer new b a came going (result, after, keeps, inl (wants, e, same)) agrees =
      subst (λ p. Agrees asked p (came_by terms place (taken t answer).received came)) (sym e) tt
  takes_agreeing t k answer new b a came going (result, after, keeps, inr (fine, e, adds)) (h, fits, is, asks) =
      let heed = heeds t answer going in
      subst (λ p. Agrees asked p (came_by terms place (taken t answer).received came)) (sym e)
      (goes_agreeing (taken t answer).received (taken t answer).transfer k after result came heed.stage keeps
      (h, fits, is, subst (λ q. is_of_strings place ≡ true → (q.length == 0) ≡ false) (sym heed.request) asks))

-- a transfer that sends something goes on
going_by : (t : TransferView) (sent : Sent) (stage : TransferStage) → sends (addressed t.address (token_due t [] stage)) ≡ WantsSent sent → IsGoing stage
going_by t sent Setup e = tt
going_by t sent DataIn e = tt
going_by t sent DataOut e = tt
going_by t sent StatusOut e = tt
going_by t sent StatusIn e = tt
going_by t sent Completed e = absurd (cc)
going_by t sent (Failed why) e = absurd (cc)

settled_agreeing : (texts : NamedStrings) (attempts resets : ℕ) (p : HostPhase) (came : Came) → Agrees texts p came → Agrees texts (settled attempts resets p) came
settled_agreeing texts attempts resets ResetDue came h = h
settled_agreeing texts attempts resets (Reading place t k) came h = h
settled_agreeing texts attempts resets (Ended (Stopped trouble)) came h = by_test (blames_bus trouble.why && nat_lt resets attempts)
  where
    by_test : (b : Bool) → Agrees texts (if b then ResetDue else Ended (Stopped trouble)) came
    by_test true = tt
    by_test false = tt
settled_agreeing texts attempts resets (Ended place) came h = h

answered : (v w : HostView) (p : HostPhase) (sent : Sent) (answer : Answer) (came : Came) → wanted p ≡ WantsSent sent → BringsBytes answer → TakesIn v p answer w →
    Agrees v.choice.strings p came × Fits came →
    (let now = came_in (terms_of v) p answer came in (w.choice ≡ v.choice) × Agrees v.choice.strings w.phase now × Fits now)
answered v w ResetDue sent answer came asks bytes takes h = absurd (cc)
answered v w (Ended place) sent answer came asks bytes takes h = absurd (cc)
answered v w (Reading place t k) sent answer came asks bytes (phase, received, e) (agrees, fits) =
    let now = came_by (terms_of v) place (taken t answer).received came in (
      ap (λ x. x.choice) e,
      subst (λ x. Agrees v.choice.strings x.phase now) (sym e)
          (settled_agreeing v.choice.strings v.limits.attempts v.resets phase now
          (takes_agreeing v.limits (terms_of v) place t k answer phase v.forgiven w.forgiven came (going_by t sent t.stage asks) received agrees)),
      came_fits (terms_of v) place (taken t answer).received came (receives_bytes t t.stage answer bytes) fits,
    )

-- ---- all answers

module _ (limits : LimitView) (speed : Speed) (choice : Choice) where
  abbrev AllAgree : HostView → Came → Type 0
  AllAgree v came = (v.choice ≡ choice) × Agrees choice.strings v.phase came × Fits came

  all_agree : (earlier : List HostView) (n : ℕ) (came : Came) (last : HostView) → Asks (chosen_host limits speed choice) earlier n came last → AllAgree last came
  all_agree [] n came last (e, none, nothing) =
      subst (λ c. AllAgree last c) (sym nothing) (subst (λ v. AllAgree v no_bytes) (sym e) (refl, tt, (tt, tt)))
  all_agree (v ∷ earlier) n came last (inl (wants, e, nothing, (before, more))) =
      let is : last ≡ record v { resets = suc v.resets; phase = enter v.limits First; forgiven = [] } = e ∙ reset_is v (wants_reset v.phase wants) in
      subst (λ c. AllAgree last c) (sym nothing)
      (subst (λ w. AllAgree w no_bytes) (sym is)
      ((all_agree earlier n before v more).0, begins_at choice.strings v.limits First [] refl, (tt, tt)))
  all_agree (v ∷ earlier) n came last (inr (m, sent, answer, before, count, asks, bytes, takes, adds, more)) =
      let (same, agrees, fits) = all_agree earlier m before v more in
      let (still, now, fit) = answered v last v.phase sent answer before asks bytes takes
      (subst (λ c. Agrees c.strings v.phase before) (sym same) agrees, fits) in
      subst (λ c. AllAgree last c) (sym adds)
      (still ∙ same, subst (λ c. Agrees c.strings last.phase (came_in (terms_of v) v.phase answer before)) same now, fit)

abbrev file_in : DescriptorFile → Option (Result DescriptorFile Trouble) → DescriptorFile
file_in g (Some (Ok f)) = f
file_in g o = g

reported : (texts : NamedStrings) (p : HostPhase) (came : Came) (g : DescriptorFile) → outcome_of p ≡ Some (Ok g) → Agrees texts p came → AreBytes came.whole →
    IsReport texts g came.whole
reported texts ResetDue came g e h fits = absurd (cc)
reported texts (Reading place t k) came g e h fits = absurd (cc)
reported texts (Ended (Reported f)) came g e h fits = subst (λ x. IsReport texts x came.whole) (ap (file_in g) e) (h.1 fits)
reported texts (Ended (Stopped trouble)) came g e h fits = absurd (cc)
reported texts (Ended place) came g e h fits = absurd (cc)

pub reports_came : ChosenHostsReportWhatCame
reports_came limits speed choice earlier n came last g asks e =
    let (same, agrees, fits) = all_agree limits speed choice earlier n came last asks in
    reported choice.strings last.phase came g e agrees fits.0
