-- What holds of a current read still holds of the one that an answer leads to.
use Rattle.std.proofs.Common.{◌≡◌, ℕ, ◌+◌, ◌<◌, ◌≤◌, ◌&&◌, Bool, true, false, if◌then◌else◌, nat_lt, List, [], ◌++◌, length, refl, ap, sym, ◌∙◌, arith, subst, length-append}
use Rattle.std.specs.Prelude.{Some, None, IsSome, Result}
use Rattle.std.proofs.lemmas.Bool.Decides.{nat_tests}
use Rattle.usb_fields.specs.Packets.{Reply as Answer}
use Rattle.usb_host.specs.declared.choice.Terms.{Terms}
use Rattle.usb_host.specs.declared.step.Trouble.{Trouble}
use Rattle.usb_set.specs.declared.fault.SetFault.{SetFault}
use Rattle.usb_set.specs.declared.decoder.Progress.{Progress}
use Rattle.usb_host.specs.declared.transfer.TransferStage.{TransferStage}
use Rattle.usb_host.specs.declared.transfer.TransferStage.TheVariants.{Setup, DataIn, DataOut, StatusOut, StatusIn, Completed, Failed}
use Rattle.usb_host.specs.Transfer.{left, TransferView, HeardView, Goes, Brings, Completes, Fails, taken, due, token_due, addressed}
use Rattle.usb_host.specs.Limits.{LimitView}
use Rattle.usb_host.specs.Place.{Place, First, Address, Device, Header, Set, Qualifier, Languages, Text, Configure, Reported, Stopped}
use Rattle.usb_host.specs.Keeping.{Kept}
use Rattle.usb_host.specs.Keeping as kept
use Rattle.usb_host.specs.declared.current_read.Ending.{Ending}
use Rattle.usb_host.specs.Steps.{HostPhase, Reading, Ended, HostView, outcome_at, outcome_of, enter, settled, terms_of, KeepsReceived, TakesReceived, TakesIn, Takes}
use Rattle.usb_host.specs.inside.Sound.{IsGood, IsSteady}
use Rattle.usb_host.specs.Cost.{BringsBytes, left_to_ask}
use Rattle.usb_host.specs.inside.Places.{is_end, is_bus_trouble}
use Rattle.usb_host.specs.inside.Reads.{IsGoing, IsCounted, IsReading, IsStanding, EndsBy, TakesProgress, GoesOn, standing, IsPhase, phase_in}
use Rattle.usb_host.proofs.LowerLemmas.{asks_less}
use Rattle.usb_host.proofs.TakeLemmas.{StageOf, CountOf, heeds, receives_steady, receives_on, receives_end, next_good}

-- ---- a read that goes on

-- the count stays at least that of what is kept
counted_still : (t u : TransferView) (k : Kept) → IsCounted t k → t.kept ≤ u.kept → u.request ≡ t.request → IsCounted u k
counted_still t u (kept.Bytes b) (count, most) more request = (omega arith, subst (λ q. q.length ≤ 255) (sym request) most)
counted_still t u (kept.Set d over) counted more request = tt

grow : (b new bytes : List ℕ) (count after : ℕ) → length b ≤ count → after ≡ count + length bytes → new ≡ b ++ bytes → length new ≤ after
grow b new bytes count after within is keeps =
    let long : length new ≡ length b + length bytes = ap length keeps ∙ length-append b bytes in
    omega arith

counted_on : (t u : TransferView) (old k : Kept) (received : HeardView) (result : Result Progress SetFault) → IsCounted t old → CountOf t received u →
    u.request ≡ t.request → KeepsReceived old received result k → EndsBy old received result None → IsCounted u k
counted_on t u old k Goes result counted count request keeps ends =
    subst (λ x. IsCounted u x) (sym keeps) (counted_still t u old counted count request)
counted_on t u (kept.Bytes b) (kept.Bytes new) (Brings bytes) result (counted, most) count request keeps ends =
    (grow b new bytes t.kept u.kept counted count.0 keeps, subst (λ q. q.length ≤ 255) (sym request) most)
counted_on t u (kept.Bytes b) (kept.Set d over) (Brings bytes) result counted count request keeps ends = absurd (keeps)
counted_on t u (kept.Set d over) (kept.Bytes new) (Brings bytes) result counted count request keeps ends = absurd (keeps)
counted_on t u (kept.Set d over) (kept.Set e again) (Brings bytes) result counted count request keeps ends = tt
counted_on t u old k Completes result counted count request keeps ends = absurd (ends)
counted_on t u old k (Fails why) result counted count request keeps ends = absurd (ends)

-- its transfer goes on
going_on : (old : Kept) (received : HeardView) (result : Result Progress SetFault) (u : TransferView) → StageOf received u.stage → EndsBy old received result None →
    IsGoing u.stage
going_on old Goes result u stage ends = stage
going_on old (Brings bytes) result u stage ends = stage
going_on old Completes result u stage ends = absurd (ends)
going_on old (Fails why) result u stage ends = absurd (ends)

pub still_reading : (place : Place) (t u : TransferView) (old k : Kept) (answer : Answer) → IsReading place t old → BringsBytes answer →
    TakesProgress old (taken t answer) u k None → IsReading place u k
still_reading place t u old k answer is bytes (same, (result, keeps, ends)) =
    let h = heeds t answer is.going in
    let steady = receives_steady place t old k answer u None is.fits is.bytes bytes (same, (result, keeps, ends)) in
    let reads : IsReading place (taken t answer).transfer k = record {
      good = is.good;
      is_read = is.is_read;
      fits = steady.0;
      bytes = steady.1;
      going = going_on old (taken t answer).received result (taken t answer).transfer h.stage ends;
      counted = counted_on t (taken t answer).transfer old k (taken t answer).received result is.counted h.count h.request keeps ends;
    } in
    subst (λ x. IsReading place x k) (sym same) reads

-- a transfer that goes on has a next transaction
pub going_due : (t : TransferView) → IsGoing t.stage → IsSome (due t)
going_due t going = by_stage t.stage going
  where
    by_stage : (stage : TransferStage) → IsGoing stage → IsSome (addressed t.address (token_due t [] stage))
    by_stage Setup going = refl
    by_stage DataIn going = refl
    by_stage DataOut going = refl
    by_stage StatusOut going = refl
    by_stage StatusIn going = refl
    by_stage Completed going = absurd (going)
    by_stage (Failed why) going = absurd (going)

-- ---- a read that begins

pub enters_standing : (limits : LimitView) (place : Place) → IsGood place → IsStanding (enter limits place)
enters_standing limits First good = record { good = good; is_read = refl; fits = tt; bytes = tt; going = tt; counted = (omega arith, omega arith) }
enters_standing limits (Address first) good = record { good = good; is_read = refl; fits = tt; bytes = tt; going = tt; counted = (omega arith, omega arith) }
enters_standing limits (Device first) good = record { good = good; is_read = refl; fits = tt; bytes = tt; going = tt; counted = (omega arith, omega arith) }
enters_standing limits (Header kind f) good = record { good = good; is_read = refl; fits = tt; bytes = tt; going = tt; counted = (omega arith, omega arith) }
enters_standing limits (Set kind f total) good = record { good = good; is_read = refl; fits = tt; bytes = tt; going = tt; counted = tt }
enters_standing limits (Qualifier f) good = record { good = good; is_read = refl; fits = tt; bytes = tt; going = tt; counted = (omega arith, omega arith) }
enters_standing limits (Languages f named) good = record { good = good; is_read = refl; fits = tt; bytes = tt; going = tt; counted = (omega arith, omega arith) }
enters_standing limits (Text f s named) good = record { good = good; is_read = refl; fits = tt; bytes = tt; going = tt; counted = (omega arith, omega arith) }
enters_standing limits (Configure f) good = record { good = good; is_read = refl; fits = tt; bytes = tt; going = tt; counted = (omega arith, omega arith) }
enters_standing limits (Reported f) good = tt
enters_standing limits (Stopped trouble) good = tt

-- a place with its read stands as such
stands_here : (place : Place) (t : TransferView) (k : Kept) → is_end place ≡ false → IsReading place t k → IsStanding (standing place t k)
stands_here place t k reads is = subst (λ b. IsStanding (if b then Ended place else Reading place t k)) (sym reads) is

-- ---- what a host takes, by what its read received

pub takes_on : (limits : LimitView) (terms : Terms) (place : Place) (t u : TransferView) (old k : Kept) (answer : Answer) (before after : List Trouble) →
    IsReading place t old → BringsBytes answer → TakesProgress old (taken t answer) u k None → after ≡ before →
    TakesReceived limits terms place old (taken t answer) (standing place u k) before after × IsStanding (standing place u k)
takes_on limits terms place t u old k answer b a is bytes receives_reply same = (
  receives_on limits terms place t u old k answer b a is.going is.is_read receives_reply same,
  stands_here place u k is.is_read (still_reading place t u old k answer is bytes receives_reply),
)

pub takes_end : (limits : LimitView) (terms : Terms) (place : Place) (t u : TransferView) (old k : Kept) (answer : Answer) (ending : Ending) (next : Place)
    (new : HostPhase) (before after : List Trouble) → IsReading place t old → BringsBytes answer → TakesProgress old (taken t answer) u k (Some ending) →
    GoesOn limits terms place u k ending next new before after →
    TakesReceived limits terms place old (taken t answer) new before after × IsStanding new
takes_end limits terms place t u old k answer ending next new b a is bytes receives_reply goes =
    let steady = receives_steady place t old k answer u (Some ending) is.fits is.bytes bytes receives_reply in
    let good = next_good terms place u k ending next b a is.good steady.0 steady.1 goes.leads in
    subst (λ x. TakesReceived limits terms place old (taken t answer) x b a × IsStanding x) (sym goes.enters)
    (receives_end limits terms place t u old k answer ending next b a is.going receives_reply goes.leads, enters_standing limits next good)

-- the same of a place and troubles that an answer has left as they were

pub goes_there : (limits : LimitView) (terms : Terms) (here place : Place) (t u : TransferView) (old k : Kept) (answer : Answer) (before after : List Trouble) →
    IsReading place t old → BringsBytes answer → TakesProgress old (taken t answer) u k None → here ≡ place → after ≡ before →
    TakesReceived limits terms place old (taken t answer) (standing here u k) before after × IsStanding (standing here u k)
goes_there limits terms here place t u old k answer b a is bytes receives_reply there same =
    subst (λ p. TakesReceived limits terms place old (taken t answer) (standing p u k) b a × IsStanding (standing p u k)) (sym there)
    (takes_on limits terms place t u old k answer b a is bytes receives_reply same)

pub ends_there : (limits : LimitView) (terms : Terms) (here place : Place) (t u : TransferView) (old k : Kept) (answer : Answer) (ending : Ending) (next : Place)
    (new : HostPhase) (before between after : List Trouble) → IsReading place t old → BringsBytes answer → TakesProgress old (taken t answer) u k (Some ending) →
    here ≡ place → between ≡ before → GoesOn limits terms here u k ending next new between after →
    TakesReceived limits terms place old (taken t answer) new before after × IsStanding new
ends_there limits terms here place t u old k answer ending next new b m a is bytes receives_reply there same goes =
    takes_end limits terms place t u old k answer ending next new b a is bytes receives_reply
    (subst (λ x. GoesOn limits terms place u k ending next new x a) same (subst (λ p. GoesOn limits terms p u k ending next new m a) there goes))

-- ---- what comes of trouble for which the bus is to blame

-- a reset is requested, where attempts are left
pub settles : (attempts resets : ℕ) (place : Place) (t : TransferView) (k : Kept) →
    phase_in (is_bus_trouble place && nat_lt resets attempts) place t k ≡ settled attempts resets (standing place t k)
settles attempts resets First t k = refl
settles attempts resets (Address first) t k = refl
settles attempts resets (Device first) t k = refl
settles attempts resets (Header kind f) t k = refl
settles attempts resets (Set kind f total) t k = refl
settles attempts resets (Qualifier f) t k = refl
settles attempts resets (Languages f named) t k = refl
settles attempts resets (Text f s named) t k = refl
settles attempts resets (Configure f) t k = refl
settles attempts resets (Reported f) t k = refl
settles attempts resets (Stopped trouble) t k = refl

-- a current read has reported no trouble
pub no_trouble : (place : Place) → is_end place ≡ false → is_bus_trouble place ≡ false
no_trouble First reads = refl
no_trouble (Address first) reads = refl
no_trouble (Device first) reads = refl
no_trouble (Header kind f) reads = refl
no_trouble (Set kind f total) reads = refl
no_trouble (Qualifier f) reads = refl
no_trouble (Languages f named) reads = refl
no_trouble (Text f s named) reads = refl
no_trouble (Configure f) reads = refl
no_trouble (Reported f) reads = refl
no_trouble (Stopped trouble) reads = absurd (let no : true ≡ false = reads in cc)

-- ---- a whole host

-- what stands is what holds of a host, where no reset is requested, or attempts are left
phase_stands : (attempts resets : ℕ) (end : Bool) (place : Place) (t : TransferView) (k : Kept) → IsStanding (if end then Ended place else Reading place t k) →
    IsPhase attempts resets (if end then Ended place else Reading place t k)
phase_stands attempts resets true place t k is = tt
phase_stands attempts resets false place t k is = is

last : (a b : Bool) → true ≡ (a && b) → b ≡ true
last true b e = sym e
last false b e = absurd (let no : true ≡ false = e in cc)

pub host_stands : (attempts resets : ℕ) (due : Bool) (place : Place) (t : TransferView) (k : Kept) → due ≡ (is_bus_trouble place && nat_lt resets attempts) →
    IsStanding (standing place t k) → IsPhase attempts resets (phase_in due place t k)
host_stands attempts resets false place t k e is = phase_stands attempts resets (is_end place) place t k is
host_stands attempts resets true place t k e is = (let few = last (is_bus_trouble place) (nat_lt resets attempts) e in grind (arith, nat_tests))

pub reads_here : (due : Bool) (place : Place) (t : TransferView) (k : Kept) → due ≡ false → is_end place ≡ false → phase_in due place t k ≡ Reading place t k
reads_here due place t k not_due reads =
    ap (λ b. phase_in b place t k) not_due ∙ ap (λ b. if b then Ended place else Reading place t k) reads

pub reads_sound : (attempts resets : ℕ) (due : Bool) (place : Place) (t : TransferView) (k : Kept) → due ≡ false → is_end place ≡ false →
    IsPhase attempts resets (phase_in due place t k) → IsReading place t k
reads_sound attempts resets due place t k not_due reads is = subst (λ x. IsPhase attempts resets x) (reads_here due place t k not_due reads) is

pub host_takes : (v : HostView) (place here : Place) (t u : TransferView) (k j : Kept) (answer : Answer) (due : Bool) (after : List Trouble) → v.phase ≡ Reading place t k →
    TakesReceived v.limits (terms_of v) place k (taken t answer) (standing here u j) v.forgiven after → due ≡ (is_bus_trouble here && nat_lt v.resets v.limits.attempts) →
    Takes v answer (record v { phase = phase_in due here u j; forgiven = after })
host_takes v place here t u k j answer due after at takes is =
    subst (λ x. TakesIn v x answer (record v { phase = phase_in due here u j; forgiven = after })) (sym at) (
      standing here u j,
      takes,
      ap (λ b. record v { phase = phase_in b here u j; forgiven = after }) is
          ∙ ap (λ x. record v { phase = x; forgiven = after }) (settles v.limits.attempts v.resets here u j),
    )

pub host_asks_less : (v w : HostView) (place : Place) (t : TransferView) (k : Kept) (answer : Answer) → v.phase ≡ Reading place t k → IsReading place t k →
    BringsBytes answer → left (taken t answer).transfer < left t → Takes v answer w → left_to_ask w < left_to_ask v
host_asks_less v w place t k answer at is bytes fewer takes =
    (asks_less.takes v w place t k answer at (subst (λ x. IsSteady x) (sym at) (is.good, is.fits, is.bytes)) bytes fewer takes).1

-- the outcome of a place with its read is that of the place
pub outcome_there : (place : Place) (t : TransferView) (k : Kept) → outcome_of (standing place t k) ≡ outcome_at place
outcome_there (Reported f) t k = refl
outcome_there (Stopped trouble) t k = refl
outcome_there First t k = refl
outcome_there (Address first) t k = refl
outcome_there (Device first) t k = refl
outcome_there (Header kind f) t k = refl
outcome_there (Set kind f total) t k = refl
outcome_there (Qualifier f) t k = refl
outcome_there (Languages f named) t k = refl
outcome_there (Text f s named) t k = refl
outcome_there (Configure f) t k = refl
