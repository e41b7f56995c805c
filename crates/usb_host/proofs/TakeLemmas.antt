-- What a transfer makes of an answer, and a host of that.
use Rattle.std.proofs.Common.{◌≡◌, ℕ, ◌++◌, ◌-◌, ◌+◌, ◌≤◌, ◌==◌, ◌||◌, Bool, true, false, if◌then◌else◌, nat_lt, List, [], ◌∷◌, length, inl, inr, refl, ap, sym, ◌∙◌, arith, subst}
use Rattle.std.specs.Prelude.{Option, Some, None, Result, Ok}
use Rattle.std.proofs.lemmas.Bool.Decides.{nat_tests}
use Rattle.std.proofs.lemmas.List.{append-nil}
use Rattle.usb_host.specs.declared.choice.NamedStrings.{NamedStrings}
use Rattle.usb_host.specs.declared.choice.Terms.{Terms}
use Rattle.usb_host.specs.declared.step.Trouble.{Trouble}
use Rattle.usb_fields.specs.declared.setup.Direction.{Direction}
use Rattle.usb_fields.specs.declared.setup.Direction.TheVariants as directions
use Rattle.usb_fields.specs.declared.packet.Toggle.TheVariants.{Data0, Data1}
use Rattle.usb_fields.specs.Setup.{direction_of}
use Rattle.usb_fields.specs.Packets.{is_same_toggle, Reply as Answer, AckReply, NakReply, StallReply, DataReply, NoReply}
use Rattle.usb_set.specs.declared.fault.SetFault.{SetFault}
use Rattle.usb_set.specs.declared.decoder.Progress.{Progress}
use Rattle.usb_set.specs.declared.decoder.Progress.TheVariants.{More}
use Rattle.usb_host.specs.declared.why.Why.{Why}
use Rattle.usb_host.specs.declared.why.Why.TheVariants.{NoAnswer, Busy, Stalled, TooLong, Unexpected, Malformed, Memory}
use Rattle.usb_host.specs.declared.transfer.TransferStage.{TransferStage}
use Rattle.usb_host.specs.declared.transfer.TransferStage.TheVariants.{Setup, DataIn, DataOut, StatusOut, StatusIn, Completed, Failed}
use Rattle.usb_host.specs.Limits.{LimitView}
use Rattle.usb_host.specs.Transfer.{TransferView, HeardView, Goes, Brings, Completes, Fails, Taken, taken, taken_at, struck, delayed, completed, failed, kept_packet, data_stage}
use Rattle.usb_host.specs.Place.{Place}
use Rattle.usb_host.specs.Keeping.{Kept}
use Rattle.usb_host.specs.Keeping as kept
use Rattle.usb_host.specs.declared.current_read.Ending.{Ending}
use Rattle.usb_host.specs.declared.current_read.Ending.TheVariants as endings
use Rattle.usb_host.specs.Order.{forgiven_by, refused_leads, spared, stopped}
use Rattle.usb_host.specs.Steps.{Reading, Ended, completed_leads, enter, goes_on, passes_over, Grows, KeepsReceived, LacksMemory, TakesReceived}
use Rattle.usb_host.specs.inside.Sound.{IsGood, FitsPlace, KeepsBytes}
use Rattle.usb_host.specs.Cost.{cost, price, BringsBytes}
use Rattle.usb_host.specs.inside.Places.{Adds, HasRoom, Leads, is_end}
use Rattle.usb_host.specs.inside.Reads.{IsGoing, IsCounted, EndsBy, TakesProgress, LeadsOn, standing}
use Rattle.usb_host.proofs.LowerLemmas.{receives_bytes, kept_steady, completed_low}
use Rattle.usb_host.proofs.CostLemmas.{Fits, refused_falls, spared_falls}
use Rattle.usb_host.proofs.LeadLemmas.{goes_on_there}

-- the stage, by what was received
abbrev pub StageOf : HeardView → TransferStage → Type 0
StageOf Goes s = IsGoing s
StageOf (Brings bytes) s = IsGoing s
StageOf Completes s = s ≡ Completed
StageOf (Fails why) s = s ≡ Failed why

-- the count of bytes, by what was received: it never falls, and no more are kept than were asked for
abbrev pub CountOf : TransferView → HeardView → TransferView → Type 0
CountOf t Goes u = t.kept ≤ u.kept
CountOf t (Brings bytes) u = (u.kept ≡ t.kept + length bytes) × (t.kept + length bytes ≤ t.request.length)
CountOf t Completes u = Unit {0}
CountOf t (Fails why) u = Unit {0}

-- what a transfer that goes on makes of an answer
pub record Heeds (t : TransferView) (x : Taken) : Type 0 where
  pub stage : StageOf x.received x.transfer.stage
  pub count : CountOf t x.received x.transfer
  pub request : x.transfer.request ≡ t.request

if_heeds : (t : TransferView) (b : Bool) (x y : Taken) → (b ≡ true → Heeds t x) → (b ≡ false → Heeds t y) → Heeds t (if b then x else y)
if_heeds t true x y p q = p refl
if_heeds t false x y p q = q refl

heeds_failed : (t : TransferView) (why : Why) → Heeds t (failed t why)
heeds_failed t why = record { stage = refl; count = tt; request = refl }

heeds_struck : (t : TransferView) → IsGoing t.stage → Heeds t (struck t)
heeds_struck t going = if_heeds t (nat_lt t.strikes 2) _ _ (λ e. record { stage = going; count = omega arith; request = refl }) (λ e. heeds_failed t NoAnswer)

heeds_delayed : (t : TransferView) → IsGoing t.stage → Heeds t (delayed t)
heeds_delayed t going = if_heeds t (nat_lt t.nak_count t.naks) _ _ (λ e. record { stage = going; count = omega arith; request = refl }) (λ e. heeds_failed t Busy)

heeds_completed : (t : TransferView) → Heeds t (completed t)
heeds_completed t = record { stage = refl; count = tt; request = refl }

if_going : (b : Bool) (x y : TransferStage) → IsGoing x → IsGoing y → IsGoing (if b then x else y)
if_going true x y p q = p
if_going false x y p q = q

data_going : (d : Direction) → IsGoing (data_stage d)
data_going directions.In = tt
data_going directions.Out = tt

heeds_data : (t : TransferView) (bytes : List ℕ) → nat_lt t.request.length (t.kept + length bytes) ≡ false → Heeds t (kept_packet t bytes)
heeds_data t bytes within = record {
  stage = if_going (nat_lt (length bytes) t.packet || (t.kept + length bytes == t.request.length)) StatusOut DataIn tt tt;
  count = (refl, grind (arith, nat_tests));
  request = refl;
}

heeds_at : (t : TransferView) (stage : TransferStage) (answer : Answer) → t.stage ≡ stage → IsGoing t.stage → Heeds t (taken_at t stage answer)
heeds_at t Setup AckReply e going = record {
  stage = if_going (t.request.length == 0) StatusIn (data_stage (direction_of t.request.request_type)) tt (data_going (direction_of t.request.request_type));
  count = omega arith;
  request = refl;
}
heeds_at t Setup NakReply e going = heeds_failed t Unexpected
heeds_at t Setup StallReply e going = heeds_failed t Unexpected
heeds_at t Setup (DataReply toggle bytes) e going = heeds_failed t Unexpected
heeds_at t Setup NoReply e going = heeds_struck t going
heeds_at t DataIn AckReply e going = heeds_failed t Unexpected
heeds_at t DataIn NakReply e going = heeds_delayed t going
heeds_at t DataIn StallReply e going = heeds_failed t Stalled
heeds_at t DataIn (DataReply toggle bytes) e going =
    if_heeds t (nat_lt t.packet (length bytes)) _ _ (λ long. heeds_failed t TooLong)
    (λ short. if_heeds t (is_same_toggle toggle t.awaited) _ _
    (λ new. if_heeds t (nat_lt t.request.length (t.kept + length bytes)) _ _ (λ past. heeds_failed t TooLong) (λ within. heeds_data t bytes within))
    (λ again. heeds_struck t going))
heeds_at t DataIn NoReply e going = heeds_struck t going
heeds_at t DataOut AckReply e going = heeds_failed t Unexpected
heeds_at t DataOut NakReply e going = heeds_delayed t going
heeds_at t DataOut StallReply e going = heeds_failed t Stalled
heeds_at t DataOut (DataReply toggle bytes) e going = heeds_failed t Unexpected
heeds_at t DataOut NoReply e going = heeds_struck t going
heeds_at t StatusOut AckReply e going = heeds_completed t
heeds_at t StatusOut NakReply e going = heeds_delayed t going
heeds_at t StatusOut StallReply e going = heeds_failed t Stalled
heeds_at t StatusOut (DataReply toggle bytes) e going = heeds_failed t Unexpected
heeds_at t StatusOut NoReply e going = heeds_struck t going
heeds_at t StatusIn AckReply e going = heeds_failed t Unexpected
heeds_at t StatusIn NakReply e going = heeds_delayed t going
heeds_at t StatusIn StallReply e going = heeds_failed t Stalled
heeds_at t StatusIn (DataReply toggle (x ∷ bytes)) e going = heeds_failed t TooLong
heeds_at t StatusIn (DataReply Data0 []) e going = heeds_struck t going
heeds_at t StatusIn (DataReply Data1 []) e going = heeds_completed t
heeds_at t StatusIn NoReply e going = heeds_struck t going
heeds_at t Completed answer e going = absurd (subst (λ s. IsGoing s) e going)
heeds_at t (Failed why) answer e going = absurd (subst (λ s. IsGoing s) e going)

pub heeds : (t : TransferView) (answer : Answer) → IsGoing t.stage → Heeds t (taken t answer)
heeds t answer going = heeds_at t t.stage answer refl going

-- new bytes have room
room_by : (t u : TransferView) (k : Kept) (received : HeardView) (bytes : List ℕ) → IsCounted t k → CountOf t received u → received ≡ Brings bytes → HasRoom k (length bytes)
room_by t u (kept.Set d over) received bytes counted count e = tt
room_by t u (kept.Bytes b) received bytes counted count e =
    let n : CountOf t (Brings bytes) u = subst (λ h. CountOf t h u) e count in
    let a = counted.0 in
    let m = counted.1 in
    let f = n.1 in
    omega arith

pub room : (t : TransferView) (k : Kept) (answer : Answer) (bytes : List ℕ) → IsGoing t.stage → IsCounted t k → (taken t answer).received ≡ Brings bytes → HasRoom k (length bytes)
room t k answer bytes going counted e = room_by t (taken t answer).transfer k (taken t answer).received bytes counted (heeds t answer going).count e

-- what is kept stays what its place wants
pub receives_steady : (place : Place) (t : TransferView) (old new : Kept) (answer : Answer) (u : TransferView) (ending : Option Ending) → FitsPlace place old → KeepsBytes old →
    BringsBytes answer → TakesProgress old (taken t answer) u new ending → FitsPlace place new × KeepsBytes new
receives_steady place t old new answer u ending fits are bytes (is, (result, keeps, ends)) =
    kept_steady place old new (taken t answer).received result fits are (receives_bytes t t.stage answer bytes) keeps

-- where a read leads to is good
leads_good : (texts : NamedStrings) (received : HeardView) (here target next : Place) (before after : List Trouble) → IsGood here → Fits (cost here - price here) target →
    Leads texts received here target next before after → IsGood next
leads_good texts received here target next b a good fits (inl (grows, e, same)) = subst (λ x. IsGood x) (sym e) tt
leads_good texts received here target next b a good fits (inr (e, adds)) = subst (λ x. IsGood x) (sym e) (spared_falls texts here target good fits).0

pub next_good : (terms : Terms) (place : Place) (t : TransferView) (k : Kept) (ending : Ending) (next : Place) (before after : List Trouble) →
    IsGood place → FitsPlace place k → KeepsBytes k → LeadsOn terms place t k ending next before after → IsGood next
next_good terms place t k endings.Completed next b a good fits are leads =
    leads_good terms.choice.strings Completes place (completed_leads terms place t k) next b a good (completed_low terms place t k good fits are) leads
next_good terms place t k (endings.Failed Stalled) next b a good fits are leads =
    leads_good terms.choice.strings (Fails Stalled) place (refused_leads terms place) next b a good (refused_falls terms place good) leads
next_good terms place t k (endings.Failed NoAnswer) next b a good fits are (e, same) = subst (λ x. IsGood x) (sym e) tt
next_good terms place t k (endings.Failed Busy) next b a good fits are (e, same) = subst (λ x. IsGood x) (sym e) tt
next_good terms place t k (endings.Failed TooLong) next b a good fits are (e, same) = subst (λ x. IsGood x) (sym e) tt
next_good terms place t k (endings.Failed Unexpected) next b a good fits are (e, same) = subst (λ x. IsGood x) (sym e) tt
next_good terms place t k (endings.Failed Malformed) next b a good fits are (e, same) = subst (λ x. IsGood x) (sym e) tt
next_good terms place t k (endings.Failed Memory) next b a good fits are (e, same) = subst (λ x. IsGood x) (sym e) tt

-- ---- what a host takes

pub going_on : (limits : LimitView) (terms : Terms) (place : Place) (t : TransferView) (k : Kept) (stage : TransferStage) → IsGoing stage →
    goes_on limits terms place t k stage ≡ Reading place t k
going_on limits terms place t k Setup going = refl
going_on limits terms place t k DataIn going = refl
going_on limits terms place t k DataOut going = refl
going_on limits terms place t k StatusOut going = refl
going_on limits terms place t k StatusIn going = refl
going_on limits terms place t k Completed going = absurd (going)
going_on limits terms place t k (Failed why) going = absurd (going)

passing_on : (terms : Terms) (place : Place) (t : TransferView) (k : Kept) (stage : TransferStage) → IsGoing stage → passes_over terms place t k stage ≡ []
passing_on terms place t k Setup going = refl
passing_on terms place t k DataIn going = refl
passing_on terms place t k DataOut going = refl
passing_on terms place t k StatusOut going = refl
passing_on terms place t k StatusIn going = refl
passing_on terms place t k Completed going = absurd (going)
passing_on terms place t k (Failed why) going = absurd (going)

-- nothing is added
adds_none : (before after more : List Trouble) → after ≡ before → more ≡ [] → after ≡ before ++ more
adds_none before after more same none = same ∙ sym (append-nil before) ∙ ap (λ x. before ++ x) (sym none)

module _ (limits : LimitView) (terms : Terms) (place : Place) where
  -- the read goes on
  takes_on : (old : Kept) (by : Taken) (k : Kept) (received : HeardView) (result : Result Progress SetFault) (before after : List Trouble) →
      by.received ≡ received → StageOf received by.transfer.stage → KeepsReceived old received result k → EndsBy old received result None → after ≡ before →
      TakesReceived limits terms place old by (Reading place by.transfer k) before after
  takes_on old by k Goes result b a e stage keeps fine same = (
    result,
    k,
    subst (λ h. KeepsReceived old h result k) (sym e) keeps,
    inr (
      subst (λ h. LacksMemory h old result → ⊥) (sym e) (λ lacks. lacks),
      sym (going_on limits terms place by.transfer k by.transfer.stage stage),
      adds_none b a (passes_over terms place by.transfer k by.transfer.stage) same (passing_on terms place by.transfer k by.transfer.stage stage),
    ),
  )
  takes_on old by k (Brings bytes) result b a e stage keeps fine same = (
    result,
    k,
    subst (λ h. KeepsReceived old h result k) (sym e) keeps,
    inr (
      subst (λ h. LacksMemory h old result → ⊥) (sym e) fine,
      sym (going_on limits terms place by.transfer k by.transfer.stage stage),
      adds_none b a (passes_over terms place by.transfer k by.transfer.stage) same (passing_on terms place by.transfer k by.transfer.stage stage),
    ),
  )
  takes_on old by k Completes result b a e stage keeps fine same = absurd (fine)
  takes_on old by k (Fails why) result b a e stage keeps fine same = absurd (fine)

  -- the read ends, and leads where what was received leads, or finds no memory
  leads_end : (old : Kept) (by : Taken) (k : Kept) (received : HeardView) (result : Result Progress SetFault) (target next : Place) (before after : List Trouble) →
      by.received ≡ received → KeepsReceived old received result k → (LacksMemory received old result → ⊥) →
      goes_on limits terms place by.transfer k by.transfer.stage ≡ enter limits (spared terms.choice.strings place target) →
      passes_over terms place by.transfer k by.transfer.stage ≡ forgiven_by terms.choice.strings place target →
      Leads terms.choice.strings received place target next before after → TakesReceived limits terms place old by (enter limits next) before after
  leads_end old by k received result target next b a e keeps fine goes passes (inl (grows, m, same)) = (
    result,
    k,
    subst (λ h. KeepsReceived old h result k) (sym e) keeps,
    inl (
      inr (
        subst (λ h. Grows terms.choice.strings h place) (sym e) grows.0,
        λ ends. goes_on_there limits (spared terms.choice.strings place target) (stopped place Malformed) grows.1 (sym goes ∙ ends),
      ),
      ap (λ x. enter limits x) m,
      same,
    ),
  )
  leads_end old by k received result target next b a e keeps fine goes passes (inr (m, adds)) = (
    result,
    k,
    subst (λ h. KeepsReceived old h result k) (sym e) keeps,
    inr (
      subst (λ h. LacksMemory h old result → ⊥) (sym e) fine,
      ap (λ x. enter limits x) m ∙ sym goes,
      adds ∙ ap (λ x. b ++ x) (sym passes),
    ),
  )

  -- the read ends here
  stops_end : (old : Kept) (by : Taken) (k : Kept) (why : Why) (result : Result Progress SetFault) (next : Place) (before after : List Trouble) →
      by.received ≡ Fails why → by.transfer.stage ≡ Failed why → KeepsReceived old (Fails why) result k →
      goes_on limits terms place by.transfer k (Failed why) ≡ Ended (stopped place why) → passes_over terms place by.transfer k (Failed why) ≡ [] →
      (next ≡ stopped place why) × (after ≡ before) → TakesReceived limits terms place old by (enter limits next) before after
  stops_end old by k why result next b a e stage keeps goes passes (m, same) = (
    result,
    k,
    subst (λ h. KeepsReceived old h result k) (sym e) keeps,
    inr (
      subst (λ h. LacksMemory h old result → ⊥) (sym e) (λ lacks. lacks),
      ap (λ x. enter limits x) m ∙ sym goes ∙ ap (λ x. goes_on limits terms place by.transfer k x) (sym stage),
      adds_none b a (passes_over terms place by.transfer k by.transfer.stage) same (ap (λ x. passes_over terms place by.transfer k x) stage ∙ passes),
    ),
  )

  fails_end : (old : Kept) (by : Taken) (k : Kept) (why : Why) (result : Result Progress SetFault) (next : Place) (before after : List Trouble) →
      by.received ≡ Fails why → by.transfer.stage ≡ Failed why → KeepsReceived old (Fails why) result k →
      LeadsOn terms place by.transfer k (endings.Failed why) next before after → TakesReceived limits terms place old by (enter limits next) before after
  fails_end old by k Stalled result next b a e stage keeps leads =
      leads_end old by k (Fails Stalled) result (refused_leads terms place) next b a e keeps (λ lacks. lacks)
      (ap (λ x. goes_on limits terms place by.transfer k x) stage) (ap (λ x. passes_over terms place by.transfer k x) stage) leads
  fails_end old by k NoAnswer result next b a e stage keeps ends = stops_end old by k NoAnswer result next b a e stage keeps refl refl ends
  fails_end old by k Busy result next b a e stage keeps ends = stops_end old by k Busy result next b a e stage keeps refl refl ends
  fails_end old by k TooLong result next b a e stage keeps ends = stops_end old by k TooLong result next b a e stage keeps refl refl ends
  fails_end old by k Unexpected result next b a e stage keeps ends = stops_end old by k Unexpected result next b a e stage keeps refl refl ends
  fails_end old by k Malformed result next b a e stage keeps ends = stops_end old by k Malformed result next b a e stage keeps refl refl ends
  fails_end old by k Memory result next b a e stage keeps ends = stops_end old by k Memory result next b a e stage keeps refl refl ends

  takes_end : (old : Kept) (by : Taken) (k : Kept) (received : HeardView) (result : Result Progress SetFault) (ending : Ending) (next : Place) (before after : List Trouble) →
      by.received ≡ received → StageOf received by.transfer.stage → KeepsReceived old received result k → EndsBy old received result (Some ending) →
      LeadsOn terms place by.transfer k ending next before after → TakesReceived limits terms place old by (enter limits next) before after
  takes_end old by k Goes result ending next b a e stage keeps ends leads = absurd (ends)
  takes_end old by k (Brings bytes) result endings.Completed next b a e stage keeps ends leads = absurd (ends)
  takes_end old by k (Brings bytes) result (endings.Failed why) next b a e stage keeps ends leads =
      let (m, same) = subst (λ w. LeadsOn terms place by.transfer k (endings.Failed w) next b a) ends.0 leads in (
        result,
        k,
        subst (λ h. KeepsReceived old h result k) (sym e) keeps,
        inl (inl (subst (λ h. LacksMemory h old result) (sym e) ends.1), ap (λ x. enter limits x) m, same),
      )
  takes_end old by k Completes result endings.Completed next b a e stage keeps ends leads =
      leads_end old by k Completes result (completed_leads terms place by.transfer k) next b a e keeps (λ lacks. lacks)
      (ap (λ x. goes_on limits terms place by.transfer k x) stage) (ap (λ x. passes_over terms place by.transfer k x) stage) leads
  takes_end old by k Completes result (endings.Failed why) next b a e stage keeps ends leads = absurd (ends)
  takes_end old by k (Fails why) result endings.Completed next b a e stage keeps ends leads = absurd (ends)
  takes_end old by k (Fails why) result (endings.Failed w) next b a e stage keeps ends leads =
      fails_end old by k why result next b a e stage keeps (subst (λ x. LeadsOn terms place by.transfer k (endings.Failed x) next b a) ends leads)

  -- both, for what a read received
  pub receives_on : (t u : TransferView) (old k : Kept) (answer : Answer) (before after : List Trouble) → IsGoing t.stage → is_end place ≡ false →
      TakesProgress old (taken t answer) u k None → after ≡ before → TakesReceived limits terms place old (taken t answer) (standing place u k) before after
  receives_on t u old k answer b a going reads (is, (result, keeps, ends)) same =
      let on = takes_on old (taken t answer) k (taken t answer).received result b a refl (heeds t answer going).stage keeps ends same in
      let here : Reading place (taken t answer).transfer k ≡ standing place u k = ap (λ x. Reading place x k) (sym is) ∙ sym (ap (λ b. if b then Ended place else Reading place u k) reads) in
      subst (λ x. TakesReceived limits terms place old (taken t answer) x b a) here on

  pub receives_end : (t u : TransferView) (old k : Kept) (answer : Answer) (ending : Ending) (next : Place) (before after : List Trouble) →
      IsGoing t.stage → TakesProgress old (taken t answer) u k (Some ending) → LeadsOn terms place u k ending next before after →
      TakesReceived limits terms place old (taken t answer) (enter limits next) before after
  receives_end t u old k answer ending next b a going (is, (result, keeps, ends)) leads =
      takes_end old (taken t answer) k (taken t answer).received result ending next b a refl (heeds t answer going).stage keeps ends
      (subst (λ x. LeadsOn terms place x k ending next b a) is leads)

-- what is received where new bytes are kept, and memory was not wanting
pub receives_brings : (by : Taken) (old new : Kept) (bytes : List ℕ) → Brings bytes ≡ by.received → Adds old bytes false new →
    (x : Result Progress SetFault) × KeepsReceived old by.received x new × EndsBy old by.received x None
receives_brings by old new bytes e (x, keeps, fine) = subst (λ h. (x : Result Progress SetFault) × KeepsReceived old h x new × EndsBy old h x None) e (x, keeps, fine)

-- what is received where no bytes are kept
pub receives_goes : (by : Taken) (old : Kept) → Goes ≡ by.received → (x : Result Progress SetFault) × KeepsReceived old by.received x old × EndsBy old by.received x None
receives_goes by old e = subst (λ h. (x : Result Progress SetFault) × KeepsReceived old h x old × EndsBy old h x None) e (Ok More, refl, tt)

pub receives_completes : (by : Taken) (old : Kept) → Completes ≡ by.received →
    (x : Result Progress SetFault) × KeepsReceived old by.received x old × EndsBy old by.received x (Some endings.Completed)
receives_completes by old e = subst (λ h. (x : Result Progress SetFault) × KeepsReceived old h x old × EndsBy old h x (Some endings.Completed)) e (Ok More, refl, tt)

pub receives_fails : (by : Taken) (old : Kept) (why : Why) → Fails why ≡ by.received →
    (x : Result Progress SetFault) × KeepsReceived old by.received x old × EndsBy old by.received x (Some (endings.Failed why))
receives_fails by old why e =
    subst (λ h. (x : Result Progress SetFault) × KeepsReceived old h x old × EndsBy old h x (Some (endings.Failed why))) e (Ok More, refl, refl)
