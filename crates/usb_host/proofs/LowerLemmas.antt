-- A host asks for fewer and fewer transactions.
use Rattle.std.proofs.Common.{◌≡◌, ℕ, suc, ◌+◌, ◌-◌, ◌*◌, ◌/◌, ◌<◌, ◌≤◌, ◌==◌, Bool, true, false, ◌&&◌, if◌then◌else◌, nat_lt, List, [], ◌∷◌, length, inl, inr, refl, ap, sym, ◌∙◌, arith, subst}
use Rattle.std.specs.Prelude.{Result}
use Rattle.std.proofs.Math.Nat.{mul-le-mul_right}
use Rattle.usb_fields.specs.Bytes.{AreBytes}
use Rattle.usb_host.specs.declared.choice.Terms.{Terms}
use Rattle.usb_host.specs.declared.step.Trouble.{Trouble}
use Rattle.usb_fields.specs.declared.setup.Setup.{Setup as SetupPacket}
use Rattle.usb_fields.specs.declared.packet.Toggle.TheVariants.{Data0, Data1}
use Rattle.usb_fields.specs.Packets.{is_same_toggle, Reply as Answer, NakReply, DataReply, NoReply}
use Rattle.usb_set.specs.declared.fault.SetFault.{SetFault}
use Rattle.usb_set.specs.declared.decoder.Progress.{Progress}
use Rattle.usb_set.specs.Decoding.{Decoding}
use Rattle.usb_host.specs.declared.why.Why.TheVariants.{NoAnswer, Busy, Stalled, TooLong, Unexpected, Malformed, Memory}
use Rattle.usb_host.specs.declared.transfer.TransferStage.{TransferStage}
use Rattle.usb_host.specs.declared.transfer.TransferStage.TheVariants.{Setup, DataIn, DataOut, StatusOut, StatusIn, Completed, Failed}
use Rattle.usb_host.specs.Limits.{LimitView}
use Rattle.usb_host.specs.Transfer.{TransferView, HeardView, Goes, Brings, Completes, Fails, Taken, taken, taken_at, begun, left}
use Rattle.usb_host.specs.Plan.{Plan, Begin, Success, GivesUp}
use Rattle.usb_host.specs.Place.{Place, First, Set, Stopped}
use Rattle.usb_host.specs.Keeping as kept
use Rattle.usb_host.specs.Order.{asks, done_leads, refused_leads, spared}
use Rattle.usb_host.specs.Keeping.{Kept, nothing_kept, set_kept}
use Rattle.usb_host.specs.Steps.{HostPhase, ResetDue, Reading, Ended, HostView, entered, enter, reset_in, reset, blames_bus, settled, terms_of, read_leads, completed_leads, goes_on, KeepsReceived, TakesReceived, TakesIn, Takes}
use Rattle.usb_host.specs.Cost.{cost, price, most_in_attempt, left_in_attempt, left_to_ask, BringsBytes}
use Rattle.usb_host.specs.inside.Sound.{IsGood, FitsPlace, KeepsBytes, IsSteady, AsksLess}
use Rattle.usb_host.proofs.CostLemmas.{Fits, bytes_fall, done_falls, refused_falls, spared_falls, set_fits, Pays, pays, priced}
use Rattle.usb_fields.proofs.ByteParts.{bytes_append}

left_begun : (to packet naks : ℕ) (q : SetupPacket) → left (begun to packet naks q) ≤ (q.length / packet + 3) * (naks + 3)
unfolding left
left_begun to packet naks q = (let e : q.length - 0 ≡ q.length = omega arith in rw e (omega arith))

pub fits_bytes : (place : Place) (b b' : List ℕ) → FitsPlace place (kept.Bytes b) → FitsPlace place (kept.Bytes b')
fits_bytes (Set kind f total) b b' h = h
fits_bytes place b b' h = tt

pub fits_set : (place : Place) (d d' : Decoding) (o o' : Bool) → FitsPlace place (kept.Set d o) → FitsPlace place (kept.Set d' o')
fits_set (Set kind f total) d d' o o' h = tt
fits_set place d d' o o' h = h

pub fits_nothing : (place : Place) → FitsPlace place (nothing_kept place)
fits_nothing (Set kind f total) = tt
fits_nothing place = tt

bytes_nothing : (place : Place) → KeepsBytes (nothing_kept place)
bytes_nothing (Set kind f total) = tt
bytes_nothing place = tt

-- what a transfer brings are bytes where the packet had bytes
abbrev pub HasBytesOf : HeardView → Type 0
HasBytesOf (Brings bytes) = AreBytes bytes
HasBytesOf _ = Unit {0}

if_bytes : (b : Bool) (x y : Taken) → HasBytesOf x.received → HasBytesOf y.received → HasBytesOf (if b then x else y).received
if_bytes true x y p q = p
if_bytes false x y p q = q

pub receives_bytes : (t : TransferView) (stage : TransferStage) (answer : Answer) → BringsBytes answer → HasBytesOf (taken_at t stage answer).received
receives_bytes t Setup NoReply w = if_bytes (nat_lt t.strikes 2) _ _ tt tt
receives_bytes t DataIn NakReply w = if_bytes (nat_lt t.nak_count t.naks) _ _ tt tt
receives_bytes t DataIn (DataReply toggle bytes) w =
    if_bytes (nat_lt t.packet (length bytes)) _ _ tt
    (if_bytes (is_same_toggle toggle t.awaited) _ _
    (if_bytes (nat_lt t.request.length (t.kept + length bytes)) _ _ tt w) (if_bytes (nat_lt t.strikes 2) _ _ tt tt))
receives_bytes t DataIn NoReply w = if_bytes (nat_lt t.strikes 2) _ _ tt tt
receives_bytes t DataOut NakReply w = if_bytes (nat_lt t.nak_count t.naks) _ _ tt tt
receives_bytes t DataOut NoReply w = if_bytes (nat_lt t.strikes 2) _ _ tt tt
receives_bytes t StatusOut NakReply w = if_bytes (nat_lt t.nak_count t.naks) _ _ tt tt
receives_bytes t StatusOut NoReply w = if_bytes (nat_lt t.strikes 2) _ _ tt tt
receives_bytes t StatusIn NakReply w = if_bytes (nat_lt t.nak_count t.naks) _ _ tt tt
receives_bytes t StatusIn (DataReply toggle (x ∷ bytes)) w = tt
receives_bytes t StatusIn (DataReply Data0 []) w = if_bytes (nat_lt t.strikes 2) _ _ tt tt
receives_bytes t StatusIn (DataReply Data1 []) w = tt
receives_bytes t StatusIn NoReply w = if_bytes (nat_lt t.strikes 2) _ _ tt tt
receives_bytes t _ _ w = tt

-- what is kept stays steady
pub kept_steady : (place : Place) (old new : Kept) (received : HeardView) (result : Result Progress SetFault) → FitsPlace place old → KeepsBytes old → HasBytesOf received →
    KeepsReceived old received result new → FitsPlace place new × KeepsBytes new
kept_steady place old new Goes result fits bytes w e = (subst (λ x. FitsPlace place x) (sym e) fits, subst (λ x. KeepsBytes x) (sym e) bytes)
kept_steady place old new Completes result fits bytes w e = (subst (λ x. FitsPlace place x) (sym e) fits, subst (λ x. KeepsBytes x) (sym e) bytes)
kept_steady place old new (Fails why) result fits bytes w e = (subst (λ x. FitsPlace place x) (sym e) fits, subst (λ x. KeepsBytes x) (sym e) bytes)
kept_steady place (kept.Bytes b) (kept.Bytes new) (Brings piece) result fits bytes w e = (fits_bytes place b new fits, subst (λ x. AreBytes x) (sym e) (bytes_append b piece bytes w))
kept_steady place (kept.Bytes b) (kept.Set new now) (Brings piece) result fits bytes w e = absurd (e)
kept_steady place (kept.Set d over) (kept.Bytes new) (Brings piece) result fits bytes w e = absurd (e)
kept_steady place (kept.Set d over) (kept.Set new now) (Brings piece) result fits bytes w e = (fits_set place d new over now fits, tt)

-- a read that begins
begins_low : (address naks : ℕ) (place : Place) (p : Plan) → asks address place ≡ p → IsGood place →
    IsSteady (entered naks place p) × (left_in_attempt naks (entered naks place p) ≤ cost place * (naks + 3))
begins_low address naks place (Begin to packet q) e good =
    let paid : Pays (Begin to packet q) (price place) = subst (λ x. Pays x (price place)) e (pays address place good) in
    let begun_left = left_begun to packet naks q in
    let top = priced place good in
    let price_is : (q.length / packet + 3) * (naks + 3) ≤ price place * (naks + 3) = mul-le-mul_right (naks + 3) paid.1 in
    let whole : price place * (naks + 3) + (cost place - price place) * (naks + 3) ≡ cost place * (naks + 3) = split (price place) (cost place) top in
    ((good, fits_nothing place, bytes_nothing place), omega arith)
  where
    split : (p k : ℕ) → p ≤ k → p * (naks + 3) + (k - p) * (naks + 3) ≡ k * (naks + 3)
    split p k h = (let e : k ≡ p + (k - p) = omega arith in let d : (p + (k - p)) * (naks + 3) ≡ p * (naks + 3) + (k - p) * (naks + 3) = grind arith in sym d ∙ ap (λ x. x * (naks + 3)) (sym e))
begins_low address naks place Success e good = (tt, omega arith)
begins_low address naks place (GivesUp why) e good = (tt, omega arith)

enters_low : (limits : LimitView) (k : ℕ) (place : Place) → Fits k place →
    IsSteady (enter limits place) × (left_in_attempt limits.naks (enter limits place) ≤ k * (limits.naks + 3))
enters_low limits k place fits =
    let b = begins_low limits.address limits.naks place (asks limits.address place) refl fits.0 in
    let m : cost place * (limits.naks + 3) ≤ k * (limits.naks + 3) = mul-le-mul_right (limits.naks + 3) fits.1 in
    let n = b.1 in
    (b.0, omega arith)

-- a reset leaves nothing of the attempt
settled_low : (attempts resets naks : ℕ) (new : HostPhase) → IsSteady new →
    IsSteady (settled attempts resets new) × (left_in_attempt naks (settled attempts resets new) ≤ left_in_attempt naks new)
settled_low attempts resets naks ResetDue s = (s, omega arith)
settled_low attempts resets naks (Reading place t k) s = (s, omega arith)
settled_low attempts resets naks (Ended (Stopped trouble)) s = by_test (blames_bus trouble.why && nat_lt resets attempts)
  where
    by_test : (b : Bool) → (let x = if b then ResetDue else Ended (Stopped trouble) in IsSteady x × (left_in_attempt naks x ≤ 0))
    by_test true = (tt, omega arith)
    by_test false = (tt, omega arith)
settled_low attempts resets naks (Ended place) s = (s, omega arith)

-- where bytes lead to that have all come
reads_low : (terms : Terms) (place : Place) (count : ℕ) (k : Kept) → IsGood place → FitsPlace place k → KeepsBytes k →
    Fits (cost place - price place) (read_leads terms place count k)
reads_low terms place count (kept.Bytes bytes) good fits are = bytes_fall terms place bytes good are
reads_low terms (Set kind f total) count (kept.Set d over) good fits are =
    set_fits terms (cost (Set kind f total) - 8194) (Set kind f total) kind f total count (set_kept d over) good.0 good.1 (omega arith)
reads_low terms place count (kept.Set d over) good fits are = absurd (fits)

pub completed_low : (terms : Terms) (place : Place) (t : TransferView) (k : Kept) → IsGood place → FitsPlace place k → KeepsBytes k →
    Fits (cost place - price place) (completed_leads terms place t k)
completed_low terms place t k good fits are = by_length (t.request.length == 0)
  where
    by_length : (z : Bool) → Fits (cost place - price place) (if z then done_leads place else read_leads terms place t.kept k)
    by_length true = done_falls place good
    by_length false = reads_low terms place t.kept k good fits are

goes_low : (limits : LimitView) (terms : Terms) (place : Place) (t t' : TransferView) (k : Kept) (stage : TransferStage) → IsGood place → FitsPlace place k → KeepsBytes k →
    left t' < left t →
    IsSteady (goes_on limits terms place t' k stage)
    × (left_in_attempt limits.naks (goes_on limits terms place t' k stage) < left t + (cost place - price place) * (limits.naks + 3))
goes_low limits terms place t t' k Completed good fits are less =
    let texts = terms.choice.strings in
    let low = spared_falls texts place (completed_leads terms place t' k) good (completed_low terms place t' k good fits are) in
    let y = enters_low limits (cost place - price place) (spared texts place (completed_leads terms place t' k)) low in
    let z = y.1 in
    (y.0, omega arith)
goes_low limits terms place t t' k (Failed Stalled) good fits are less =
    let texts = terms.choice.strings in
    let low = spared_falls texts place (refused_leads terms place) good (refused_falls terms place good) in
    let y = enters_low limits (cost place - price place) (spared texts place (refused_leads terms place)) low in
    let z = y.1 in
    (y.0, omega arith)
goes_low limits terms place t t' k (Failed NoAnswer) good fits are less = (tt, omega arith)
goes_low limits terms place t t' k (Failed Busy) good fits are less = (tt, omega arith)
goes_low limits terms place t t' k (Failed TooLong) good fits are less = (tt, omega arith)
goes_low limits terms place t t' k (Failed Unexpected) good fits are less = (tt, omega arith)
goes_low limits terms place t t' k (Failed Malformed) good fits are less = (tt, omega arith)
goes_low limits terms place t t' k (Failed Memory) good fits are less = (tt, omega arith)
goes_low limits terms place t t' k Setup good fits are less = ((good, fits, are), omega arith)
goes_low limits terms place t t' k DataIn good fits are less = ((good, fits, are), omega arith)
goes_low limits terms place t t' k DataOut good fits are less = ((good, fits, are), omega arith)
goes_low limits terms place t t' k StatusOut good fits are less = ((good, fits, are), omega arith)
goes_low limits terms place t t' k StatusIn good fits are less = ((good, fits, are), omega arith)

pub takes_low : (limits : LimitView) (terms : Terms) (place : Place) (t : TransferView) (k : Kept) (answer : Answer) (new : HostPhase) (before after : List Trouble) → IsSteady (Reading place t k) →
    BringsBytes answer → left (taken t answer).transfer < left t → TakesReceived limits terms place k (taken t answer) new before after →
    IsSteady new × (left_in_attempt limits.naks new < left_in_attempt limits.naks (Reading place t k))
takes_low limits terms place t k answer new b a steady bytes less (result, after, keeps, inl (wants, e, same)) =
    subst (λ x. IsSteady x × (left_in_attempt limits.naks x < left_in_attempt limits.naks (Reading place t k))) (sym e) (tt, omega arith)
takes_low limits terms place t k answer new b a steady bytes less (result, after, keeps, inr (fine, e, adds)) =
    let by = taken t answer in
    let still = kept_steady place k after by.received result steady.1 steady.2 (receives_bytes t t.stage answer bytes) keeps in
    subst (λ x. IsSteady x × (left_in_attempt limits.naks x < left_in_attempt limits.naks (Reading place t k))) (sym e)
    (goes_low limits terms place t by.transfer after by.transfer.stage steady.0 still.0 still.1 less)

-- a whole host
abbrev pub Lower : HostView → HostView → Type 0
Lower v w = IsSteady w.phase × (left_to_ask w < left_to_ask v)

takes_lower : (v w : HostView) (place : Place) (t : TransferView) (k : Kept) (answer : Answer) → v.phase ≡ Reading place t k → IsSteady v.phase →
    BringsBytes answer → left (taken t answer).transfer < left t → Takes v answer w → Lower v w
takes_lower v w place t k answer at steady bytes less takes =
    let is : TakesIn v (Reading place t k) answer w = subst (λ x. TakesIn v x answer w) at takes in
    let low = takes_low v.limits (terms_of v) place t k answer is.0 v.forgiven w.forgiven (subst (λ x. IsSteady x) at steady) bytes less is.1 in
    let rest = settled_low v.limits.attempts v.resets v.limits.naks is.0 low.0 in
    let below = low.1 in
    let at_most = rest.1 in
    let whole : left_in_attempt v.limits.naks v.phase ≡ left_in_attempt v.limits.naks (Reading place t k) = ap (left_in_attempt v.limits.naks) at in
    subst (λ x. Lower v x) (sym is.2) (rest.0, omega arith)

resets_lower : (v : HostView) → v.phase ≡ ResetDue → v.resets < v.limits.attempts → IsSteady (reset v).phase × (left_to_ask (reset v) ≤ left_to_ask v)
resets_lower v at below =
    let b = enters_low v.limits 5273453 First (tt, omega arith) in
    let low = b.1 in
    let one : (v.limits.attempts - v.resets) * most_in_attempt v.limits.naks ≡ (v.limits.attempts - suc v.resets) * most_in_attempt v.limits.naks + most_in_attempt v.limits.naks =
    again v.limits.attempts v.resets (most_in_attempt v.limits.naks) below in
    let is : reset v ≡ reset_in v ResetDue = ap (reset_in v) at in
    subst (λ x. IsSteady x.phase × (left_to_ask x ≤ left_to_ask v)) (sym is) (b.0, omega arith)
  where
    again : (l r k : ℕ) → r < l → (l - r) * k ≡ (l - suc r) * k + k
    again l r k h = (let e : l - r ≡ suc (l - suc r) = omega arith in rw e (grind arith))

pub asks_less : AsksLess
asks_less = record {
  at_most = λ limits speed choice.
      (let e : limits.attempts - 0 ≡ limits.attempts = omega arith in
      let m : (limits.attempts - 0) * most_in_attempt limits.naks ≡ limits.attempts * most_in_attempt limits.naks = ap (λ x. x * most_in_attempt limits.naks) e in
      omega arith);
  resets = resets_lower;
  takes = takes_lower;
}
