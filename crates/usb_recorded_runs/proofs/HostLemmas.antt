-- What holds of the transfers of a host holds after it has taken an answer.
use Rattle.std.proofs.Common.{◌≡◌, ◌⊎◌, ◌==◌, ◌&&◌, ◌||◌, ◌≤◌, ◌+◌, nat_lt, ℕ, Bool, true, false, if◌then◌else◌, List, [], ◌∷◌, length, inl, inr, refl, sym, ◌∙◌, ap, subst, arith}
use Rattle.std.specs.Prelude.{Option, Some, None, Result}
use Rattle.std.proofs.lemmas.Bool.Decides.{nat_tests}
use Rattle.usb_fields.specs.declared.packet.Toggle.{Toggle}
use Rattle.usb_fields.specs.declared.packet.Toggle.TheVariants.{Data0, Data1}
use Rattle.usb_fields.specs.declared.setup.Direction.TheVariants.{In}
use Rattle.usb_fields.specs.declared.setup.Setup.{Setup}
use Rattle.usb_fields.specs.Setup.{direction_of, setup_bytes, setup_of}
use Rattle.usb_fields.specs.Packets.{AckReply, DataReply, NakReply, NoReply, Reply, Sent, StallReply, is_same_toggle}
use Rattle.usb_set.specs.declared.fault.SetFault.{SetFault}
use Rattle.usb_set.specs.declared.decoder.Progress.{Progress}
use Rattle.usb_capture.specs.Events.{setup_at}
use Rattle.usb_capture.specs.Findings.{reads_status}
use Rattle.usb_capture.specs.Readings.{reads_descriptor}
use Rattle.usb_host.specs.Keeping as kept
use Rattle.usb_host.specs.Keeping.{Keeps, Kept, nothing_kept}
use Rattle.usb_host.specs.Limits.{LimitView}
use Rattle.usb_host.specs.declared.choice.Terms.{Terms}
use Rattle.usb_host.specs.declared.step.Trouble.{Trouble}
use Rattle.usb_host.specs.Order.{asks, refused_leads, spared}
use Rattle.usb_host.specs.Place.{Place, First, Address, Device, Header, Set, Qualifier, Languages, Text, Configure, Reported, Stopped}
use Rattle.usb_host.specs.Plan.{Plan, Begin, Success, GivesUp}
use Rattle.usb_host.specs.Read.{get_descriptor}
use Rattle.usb_host.specs.Steps.{Ended, HostPhase, HostView, KeepsReceived, Reading, ResetDue, TakesReceived, TakesIn, WantsReset, blames_bus, completed_leads, enter, entered, goes_on, reset, reset_in, sends, settled, terms_of, wanted}
use Rattle.usb_host.specs.Transfer.{Taken, TransferView, begun, completed, delayed, due, failed, kept_packet, moved, stage_after_setup, struck, taken, taken_at, taken_data, taken_status}
use Rattle.usb_host.specs.declared.transfer.TransferStage.{TransferStage}
use Rattle.usb_host.specs.declared.transfer.TransferStage.TheVariants as stages
use Rattle.usb_host.specs.declared.why.Why.{Why}
use Rattle.usb_host.specs.declared.why.Why.TheVariants as whys
use Rattle.usb_recorded_runs.proofs.PlaceLemmas.{FirstTells, KnowsSize, completed_know, stalled_know}

-- A host that enumerates asks for a descriptor, or for no data, and never for a status.
pub record IsAsked (q : Setup) : Type 0 where
  pub brings : (direction_of q.request_type ≡ In) ⊎ (q.length ≡ 0)
  pub reads : (reads_descriptor (setup_of (setup_bytes q)) ≡ true) ⊎ (q.length ≡ 0)
  pub other : reads_status (setup_at (setup_bytes q) 0) ≡ false

module _ (size : ℕ) where
  -- a packet size that is known, but where a device has no address yet, of which no more than eight bytes are asked, and no more than the
  -- size that a host takes it to have
  abbrev pub SizeIsKnown : ℕ → ℕ → Setup → Type 0
  SizeIsKnown address packet q = ((address ≡ 0) × (q.length ≤ 8) × (q.length ≤ packet)) ⊎ (packet ≡ size)

  abbrev AllAsked : Plan → Type 0
  AllAsked (Begin address packet q) = IsAsked q × SizeIsKnown address packet q
  AllAsked Success = Unit {0}
  AllAsked (GivesUp why) = Unit {0}

  asks_so : (address : ℕ) (place : Place) → KnowsSize size place → AllAsked (asks address place)
  asks_so address First is = (record { brings = inl refl; reads = inl refl; other = refl }, inl (refl, omega arith, omega arith))
  asks_so address (Address first) is = (record { brings = inr refl; reads = inr refl; other = refl }, inl (refl, omega arith, omega arith))
  asks_so address (Device first) is = (record { brings = inl refl; reads = inl refl; other = refl }, inr is)
  asks_so address (Header kind f) is = (record { brings = inl refl; reads = inl refl; other = refl }, inr is)
  asks_so address (Set kind f total) is = (record { brings = inl refl; reads = inl refl; other = refl }, inr is)
  asks_so address (Qualifier f) is = (record { brings = inl refl; reads = inl refl; other = refl }, inr is)
  asks_so address (Languages f named) is = (record { brings = inl refl; reads = inl refl; other = refl }, inr is)
  asks_so address (Text f s named) is = (record { brings = inl refl; reads = inl refl; other = refl }, inr is)
  asks_so address (Configure f) is = (record { brings = inr refl; reads = inr refl; other = refl }, inr is)
  asks_so address (Reported f) is = tt
  asks_so address (Stopped trouble) is = tt

  -- ---- the first eight bytes, which come in one packet

  abbrev first_request : Setup
  first_request = get_descriptor 1 0 0 8

  abbrev FirstBytes : Kept → Type 0
  FirstBytes k = (b : List ℕ) → k ≡ kept.Bytes b → FirstTells size b

  -- by the stage, where this many bytes have come
  abbrev KeptSo : TransferStage → ℕ → Kept → Type 0
  KeptSo stages.Setup count k = (k ≡ kept.Bytes []) × (count ≡ 0)
  KeptSo stages.DataIn count k = (k ≡ kept.Bytes []) × (count ≡ 0)
  KeptSo stages.DataOut count k = Unit {0}
  KeptSo stages.StatusOut count k = FirstBytes k
  KeptSo stages.StatusIn count k = FirstBytes k
  KeptSo stages.Completed count k = FirstBytes k
  KeptSo (stages.Failed why) count k = Unit {0}

  pub record ReadsFirst (t : TransferView) (k : Kept) : Type 0 where
    pub request_is : t.request ≡ first_request
    pub packet_is : t.packet ≡ 8
    pub has : KeptSo t.stage t.kept k

  -- of a packet that may come
  abbrev pub MayCome : Reply → Type 0
  MayCome (DataReply toggle bytes) = FirstTells size bytes
  MayCome reply = Unit {0}

  module _ (t : TransferView) (k : Kept) (request_is : t.request ≡ first_request) (packet_is : t.packet ≡ 8) where
    abbrev ReadsOn : Taken → Kept → Type 0
    ReadsOn by new = ReadsFirst by.transfer new

    abbrev Keeping : Taken → Type 0
    Keeping by = (result : Result Progress SetFault) (new : Kept) → KeepsReceived k by.received result new → ReadsOn by new

    either_keeps : (c : Bool) (x y : Taken) → (c ≡ true → Keeping x) → (c ≡ false → Keeping y) → Keeping (if c then x else y)
    either_keeps true x y p q = p refl
    either_keeps false x y p q = q refl

    failed_keeps : (why : Why) → Keeping (failed t why)
    failed_keeps why result new same = record { request_is = request_is; packet_is = packet_is; has = tt }

    module _ (has : KeptSo t.stage t.kept k) where
      struck_keeps : Keeping (struck t)
      struck_keeps = either_keeps (nat_lt t.strikes 2) _ (failed t whys.NoAnswer)
          (λ c result new same. record { request_is = request_is; packet_is = packet_is; has = subst (KeptSo t.stage t.kept) (sym same) has }) (λ c. failed_keeps whys.NoAnswer)

      delayed_keeps : Keeping (delayed t)
      delayed_keeps = either_keeps (nat_lt t.nak_count t.naks) _ (failed t whys.Busy)
          (λ c result new same. record { request_is = request_is; packet_is = packet_is; has = subst (KeptSo t.stage t.kept) (sym same) has }) (λ c. failed_keeps whys.Busy)

    -- The packet ends the data stage.
    bytes_kept : (bytes : List ℕ) (result : Result Progress SetFault) (old next : Kept) → old ≡ kept.Bytes [] → FirstTells size bytes
        → Keeps old bytes result next → FirstBytes next
    bytes_kept bytes result old next none tells keeps = of next (subst (λ o. Keeps o bytes result next) none keeps)
      where
        of : (next : Kept) → Keeps (kept.Bytes []) bytes result next → FirstBytes next
        of (kept.Bytes b) same = λ c e. let is : b ≡ c = cc in subst (FirstTells size) (sym same ∙ is) tells
        of (kept.Set d over) same = absurd same

    not_more : (n : ℕ) → nat_lt 8 n ≡ false → (nat_lt n 8 || (0 + n == 8)) ≡ false → ⊥
    not_more n few last = grind (arith, nat_tests)

    kept_keeps : (bytes : List ℕ) → k ≡ kept.Bytes [] → t.kept ≡ 0 → FirstTells size bytes → nat_lt t.packet (length bytes) ≡ false → Keeping (kept_packet t bytes)
    kept_keeps bytes none zero tells few result next keeps = record { request_is = request_is; packet_is = packet_is; has = of (nat_lt (length bytes) t.packet || (t.kept + length bytes == t.request.length)) refl }
      where
        of : (last : Bool) → (nat_lt (length bytes) t.packet || (t.kept + length bytes == t.request.length)) ≡ last
            → KeptSo (if last then stages.StatusOut else stages.DataIn) (t.kept + length bytes) next
        of true e = bytes_kept bytes result k next none tells keeps
        of false e =
            absurd (not_more (length bytes) (subst (λ p. nat_lt p (length bytes) ≡ false) packet_is few)
            (subst (λ q. (nat_lt (length bytes) 8 || (0 + length bytes == q.length)) ≡ false) request_is
            (subst (λ m. (nat_lt (length bytes) 8 || (m + length bytes == t.request.length)) ≡ false) zero
            (subst (λ p. (nat_lt (length bytes) p || (t.kept + length bytes == t.request.length)) ≡ false) packet_is e))))

    data_keeps : (toggle : Toggle) (bytes : List ℕ) → KeptSo t.stage t.kept k → k ≡ kept.Bytes [] → t.kept ≡ 0 → FirstTells size bytes → Keeping (taken_data t toggle bytes)
    data_keeps toggle bytes has none zero tells =
        either_keeps (nat_lt t.packet (length bytes)) (failed t whys.TooLong) _ (λ c. failed_keeps whys.TooLong)
        (λ few. either_keeps (is_same_toggle toggle t.awaited) _ (struck t)
        (λ c. either_keeps (nat_lt t.request.length (t.kept + length bytes)) (failed t whys.TooLong) (kept_packet t bytes) (λ d. failed_keeps whys.TooLong)
        (λ d. kept_keeps bytes none zero tells few))
        (λ c. struck_keeps has))

    status_keeps : (toggle : Toggle) (bytes : List ℕ) → KeptSo t.stage t.kept k → FirstBytes k → Keeping (taken_status t toggle bytes)
    status_keeps Data0 (byte ∷ bytes) has first = failed_keeps whys.TooLong
    status_keeps Data1 (byte ∷ bytes) has first = failed_keeps whys.TooLong
    status_keeps Data0 [] has first = struck_keeps has
    status_keeps Data1 [] has first = λ result next same. record { request_is = request_is; packet_is = packet_is; has = subst FirstBytes (sym same) first }

    completed_keeps : FirstBytes k → Keeping (completed t)
    completed_keeps first result next same = record { request_is = request_is; packet_is = packet_is; has = subst FirstBytes (sym same) first }

    setup_keeps : KeptSo stages.Setup t.kept k → Keeping (moved t (stage_after_setup t.request))
    setup_keeps has result next same = record {
      request_is = request_is;
      packet_is = packet_is;
      has = subst (λ q. KeptSo (stage_after_setup q) t.kept next) (sym request_is) (same ∙ has.0, has.1);
    }

    taken_keeps : (stage : TransferStage) (reply : Reply) → t.stage ≡ stage → KeptSo stage t.kept k → (stage ≡ stages.DataIn → MayCome reply) → Keeping (taken_at t stage reply)
    taken_keeps stages.Setup AckReply at has may = setup_keeps has
    taken_keeps stages.Setup NakReply at has may = failed_keeps whys.Unexpected
    taken_keeps stages.Setup StallReply at has may = failed_keeps whys.Unexpected
    taken_keeps stages.Setup (DataReply toggle bytes) at has may = failed_keeps whys.Unexpected
    taken_keeps stages.Setup NoReply at has may = struck_keeps (subst (λ s. KeptSo s t.kept k) (sym at) has)
    taken_keeps stages.DataIn AckReply at has may = failed_keeps whys.Unexpected
    taken_keeps stages.DataIn NakReply at has may = delayed_keeps (subst (λ s. KeptSo s t.kept k) (sym at) has)
    taken_keeps stages.DataIn StallReply at has may = failed_keeps whys.Stalled
    taken_keeps stages.DataIn (DataReply toggle bytes) at has may = data_keeps toggle bytes (subst (λ s. KeptSo s t.kept k) (sym at) has) has.0 has.1 (may refl)
    taken_keeps stages.DataIn NoReply at has may = struck_keeps (subst (λ s. KeptSo s t.kept k) (sym at) has)
    taken_keeps stages.DataOut AckReply at has may = failed_keeps whys.Unexpected
    taken_keeps stages.DataOut NakReply at has may = delayed_keeps (subst (λ s. KeptSo s t.kept k) (sym at) has)
    taken_keeps stages.DataOut StallReply at has may = failed_keeps whys.Stalled
    taken_keeps stages.DataOut (DataReply toggle bytes) at has may = failed_keeps whys.Unexpected
    taken_keeps stages.DataOut NoReply at has may = struck_keeps (subst (λ s. KeptSo s t.kept k) (sym at) has)
    taken_keeps stages.StatusOut AckReply at has may = completed_keeps has
    taken_keeps stages.StatusOut NakReply at has may = delayed_keeps (subst (λ s. KeptSo s t.kept k) (sym at) has)
    taken_keeps stages.StatusOut StallReply at has may = failed_keeps whys.Stalled
    taken_keeps stages.StatusOut (DataReply toggle bytes) at has may = failed_keeps whys.Unexpected
    taken_keeps stages.StatusOut NoReply at has may = struck_keeps (subst (λ s. KeptSo s t.kept k) (sym at) has)
    taken_keeps stages.StatusIn AckReply at has may = failed_keeps whys.Unexpected
    taken_keeps stages.StatusIn NakReply at has may = delayed_keeps (subst (λ s. KeptSo s t.kept k) (sym at) has)
    taken_keeps stages.StatusIn StallReply at has may = failed_keeps whys.Stalled
    taken_keeps stages.StatusIn (DataReply toggle bytes) at has may = status_keeps toggle bytes (subst (λ s. KeptSo s t.kept k) (sym at) has) has
    taken_keeps stages.StatusIn NoReply at has may = struck_keeps (subst (λ s. KeptSo s t.kept k) (sym at) has)
    taken_keeps stages.Completed reply at has may = λ result next same. record { request_is = request_is; packet_is = packet_is; has = subst (λ s. KeptSo s t.kept next) (sym at) (subst FirstBytes (sym same) has) }
    taken_keeps (stages.Failed why) reply at has may = λ result next same. record { request_is = request_is; packet_is = packet_is; has = subst (λ s. KeptSo s t.kept next) (sym at) tt }

  first_taken : (t : TransferView) (k : Kept) (reply : Reply) (result : Result Progress SetFault) (next : Kept) → ReadsFirst t k → (t.stage ≡ stages.DataIn → MayCome reply)
      → KeepsReceived k (taken t reply).received result next → ReadsFirst (taken t reply).transfer next
  first_taken t k reply result next reads may keeps = taken_keeps t k reads.request_is reads.packet_is t.stage reply refl reads.has may result next keeps

  -- ---- a host

  -- for what holds of each new transfer
  module _ (P : TransferView → Type 0) (fresh : (address packet naks : ℕ) (request : Setup) → IsAsked request → SizeIsKnown address packet request → P (begun address packet naks request)) where
    pub record Works (place : Place) (t : TransferView) (k : Kept) : Type 0 where
      pub holds : P t
      pub knows : KnowsSize size place
      pub first : place ≡ First → ReadsFirst t k

    -- This holds of the current transfer, if one is.
    abbrev pub InWork : HostPhase → Type 0
    InWork ResetDue = Unit {0}
    InWork (Reading place transfer kept) = Works place transfer kept
    InWork (Ended place) = Unit {0}

    same_begin : (address packet other most : ℕ) (q r : Setup) → Begin address packet q ≡ Begin other most r → (packet ≡ most) × (q ≡ r)
    same_begin address packet other most q r e = ((let w : packet ≡ most = cc in w), (let w : q ≡ r = cc in w))

    entered_works : (naks : ℕ) (place : Place) (plan : Plan) → AllAsked plan → KnowsSize size place → (place ≡ First → plan ≡ Begin 0 8 first_request)
        → InWork (entered naks place plan)
    entered_works naks place (Begin address packet q) asked knows first = record {
      holds = fresh address packet naks q asked.0 asked.1;
      knows = knows;
      first = λ at.
          let same = same_begin address packet 0 8 q first_request (first at) in
          record { request_is = same.1; packet_is = same.0; has = (ap nothing_kept at, refl) };
    }
    entered_works naks place Success asked knows first = tt
    entered_works naks place (GivesUp why) asked knows first = tt

    enter_works : (limits : LimitView) (place : Place) → KnowsSize size place → InWork (enter limits place)
    enter_works limits place knows =
        entered_works limits.naks place (asks limits.address place) (asks_so limits.address place knows) knows (λ at. ap (asks limits.address) at)

    goes_works : (limits : LimitView) (terms : Terms) (place : Place) (t : TransferView) (k : Kept) (stage : TransferStage) → t.stage ≡ stage → Works place t k
        → InWork (goes_on limits terms place t k stage)
    goes_works limits terms place t k stages.Completed at works =
        enter_works limits (spared terms.choice.strings place (completed_leads terms place t k))
        (completed_know size terms place t k works.knows (λ is. let has : KeptSo stages.Completed t.kept k = subst (λ s. KeptSo s t.kept k) at (works.first is).has in has))
    goes_works limits terms place t k (stages.Failed whys.Stalled) at works =
        enter_works limits (spared terms.choice.strings place (refused_leads terms place)) (stalled_know size terms place works.knows)
    goes_works limits terms place t k (stages.Failed whys.NoAnswer) at works = tt
    goes_works limits terms place t k (stages.Failed whys.Busy) at works = tt
    goes_works limits terms place t k (stages.Failed whys.TooLong) at works = tt
    goes_works limits terms place t k (stages.Failed whys.Unexpected) at works = tt
    goes_works limits terms place t k (stages.Failed whys.Malformed) at works = tt
    goes_works limits terms place t k (stages.Failed whys.Memory) at works = tt
    goes_works limits terms place t k stages.Setup at works = works
    goes_works limits terms place t k stages.DataIn at works = works
    goes_works limits terms place t k stages.DataOut at works = works
    goes_works limits terms place t k stages.StatusOut at works = works
    goes_works limits terms place t k stages.StatusIn at works = works

    received_works : (limits : LimitView) (terms : Terms) (place : Place) (t : TransferView) (old : Kept) (reply : Reply) (new : HostPhase) (before after : List Trouble)
        → P (taken t reply).transfer → KnowsSize size place → (place ≡ First → ReadsFirst t old) → (place ≡ First → t.stage ≡ stages.DataIn → MayCome reply)
        → TakesReceived limits terms place old (taken t reply) new before after → InWork new
    received_works limits terms place t old reply new b a holds knows first may (result, k, keeps, inl (lacks, e, same)) = subst InWork (sym e) tt
    received_works limits terms place t old reply new b a holds knows first may (result, k, keeps, inr (lacks, e, adds)) =
        subst InWork (sym e)
        (goes_works limits terms place (taken t reply).transfer k (taken t reply).transfer.stage refl
        (record { holds = holds; knows = knows; first = λ at. first_taken t old reply result k (first at) (may at) keeps }))

    either_works : (c : Bool) (x y : HostPhase) → InWork x → InWork y → InWork (if c then x else y)
    either_works true x y p q = p
    either_works false x y p q = q

    settled_works : (attempts resets : ℕ) (phase : HostPhase) → InWork phase → InWork (settled attempts resets phase)
    settled_works attempts resets ResetDue h = tt
    settled_works attempts resets (Reading place t k) h = h
    settled_works attempts resets (Ended First) h = tt
    settled_works attempts resets (Ended (Address first)) h = tt
    settled_works attempts resets (Ended (Device first)) h = tt
    settled_works attempts resets (Ended (Header kind f)) h = tt
    settled_works attempts resets (Ended (Set kind f total)) h = tt
    settled_works attempts resets (Ended (Qualifier f)) h = tt
    settled_works attempts resets (Ended (Languages f named)) h = tt
    settled_works attempts resets (Ended (Text f s named)) h = tt
    settled_works attempts resets (Ended (Configure f)) h = tt
    settled_works attempts resets (Ended (Reported f)) h = tt
    settled_works attempts resets (Ended (Stopped trouble)) h =
        either_works (blames_bus trouble.why && nat_lt resets attempts) ResetDue (Ended (Stopped trouble)) tt tt

    pub takes_works : (v w : HostView) (place : Place) (t : TransferView) (k : Kept) (reply : Reply) → P (taken t reply).transfer → KnowsSize size place
        → (place ≡ First → ReadsFirst t k) → (place ≡ First → t.stage ≡ stages.DataIn → MayCome reply) → TakesIn v (Reading place t k) reply w → InWork w.phase
    takes_works v w place t k reply holds knows first may (phase, received, e) =
        subst (λ u. InWork u.phase) (sym e)
        (settled_works v.limits.attempts v.resets phase
        (received_works v.limits (terms_of v) place t k reply phase v.forgiven w.forgiven holds knows first may received))

    no_reset : (o : Option Sent) → sends o ≡ WantsReset → ⊥
    no_reset None e = let w : ⊥ = cc in w
    no_reset (Some sent) e = let w : ⊥ = cc in w

    reset_in_works : (v : HostView) (phase : HostPhase) → wanted phase ≡ WantsReset → InWork (reset_in v phase).phase
    reset_in_works v ResetDue e = enter_works v.limits First tt
    reset_in_works v (Reading place t k) e = absurd (no_reset (due t) e)
    reset_in_works v (Ended place) e = absurd (let w : ⊥ = cc in w)

    pub reset_works : (v w : HostView) → wanted v.phase ≡ WantsReset → w ≡ reset v → InWork w.phase
    reset_works v w wants is = subst (λ u. InWork u.phase) (sym is) (reset_in_works v v.phase wants)
