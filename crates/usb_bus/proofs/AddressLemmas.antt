-- The addresses that a host asks at have 7 bits, and what it sends is legal.
use Rattle.std.proofs.Common.{◌≡◌, ◌≤◌, ◌<◌, ◌+◌, ◌&&◌, nat_lt, ℕ, zero, suc, List, [], ◌∷◌, length, take, drop, Bool, true, false, if◌then◌else◌, inl, inr, refl, sym, subst, arith}
use Rattle.usb_fields.specs.Packets.{Sent, SetupToken, InToken, OutToken, Reply, AckReply, NakReply, StallReply, DataReply, NoReply, is_same_toggle}
use Rattle.usb_fields.specs.Setup.{setup_bytes}
use Rattle.usb_fields.specs.declared.packet.Toggle.{Toggle}
use Rattle.usb_fields.specs.declared.packet.Toggle.TheVariants.{Data0, Data1}
use Rattle.usb_host.specs.Keeping.{Kept}
use Rattle.usb_host.specs.Limits.{LimitView}
use Rattle.usb_host.specs.declared.choice.Terms.{Terms}
use Rattle.usb_host.specs.declared.step.Trouble.{Trouble}
use Rattle.usb_host.specs.Order.{asks, refused_leads, spared}
use Rattle.usb_host.specs.Place.{Place, First, Address, Device, Header, Set, Qualifier, Languages, Text, Configure, Reported, Stopped}
use Rattle.usb_host.specs.Plan.{Plan, Begin, Success, GivesUp}
use Rattle.usb_host.specs.Steps.{HostPhase, HostView, ResetDue, Reading, Ended, WantsSent, TakesIn, Takes, TakesReceived, blames_bus, completed_leads, enter, entered, goes_on, reset, reset_in, sends, settled, wanted, terms_of}
use Rattle.usb_host.specs.Transfer.{Taken, TransferView, addressed, delayed, failed, kept_packet, struck, taken, taken_at, taken_data, taken_status, token_due, packet_due}
use Rattle.usb_host.specs.declared.transfer.TransferStage.{TransferStage}
use Rattle.usb_host.specs.declared.transfer.TransferStage.TheVariants as stages
use Rattle.usb_host.specs.declared.why.Why.TheVariants as whys
use Rattle.usb_bus.specs.Damaged.{IsLegalSent}
use Rattle.usb_bus.specs.inside.Addresses.{AddressFits, AsksWithin}

-- ---- a transfer keeps its address

either_address : (c : Bool) (x y : Taken) (n : ℕ) → x.transfer.address ≡ n → y.transfer.address ≡ n → (if c then x else y).transfer.address ≡ n
either_address true x y n p q = p
either_address false x y n p q = q

struck_address : (t : TransferView) → (struck t).transfer.address ≡ t.address
struck_address t = either_address (nat_lt t.strikes 2) _ (failed t whys.NoAnswer) t.address refl refl

delayed_address : (t : TransferView) → (delayed t).transfer.address ≡ t.address
delayed_address t = either_address (nat_lt t.nak_count t.naks) _ (failed t whys.Busy) t.address refl refl

data_address : (t : TransferView) (toggle : Toggle) (bytes : List ℕ) → (taken_data t toggle bytes).transfer.address ≡ t.address
data_address t toggle bytes =
    either_address (nat_lt t.packet (length bytes)) (failed t whys.TooLong) _ t.address refl
    (either_address (is_same_toggle toggle t.awaited) _ (struck t) t.address
    (either_address (nat_lt t.request.length (t.kept + length bytes)) (failed t whys.TooLong) (kept_packet t bytes) t.address refl refl)
    (struck_address t))

status_address : (t : TransferView) (toggle : Toggle) (bytes : List ℕ) → (taken_status t toggle bytes).transfer.address ≡ t.address
status_address t Data0 (byte ∷ bytes) = refl
status_address t Data1 (byte ∷ bytes) = refl
status_address t Data0 [] = struck_address t
status_address t Data1 [] = refl

taken_address : (t : TransferView) (stage : TransferStage) (reply : Reply) → (taken_at t stage reply).transfer.address ≡ t.address
taken_address t stages.Setup AckReply = refl
taken_address t stages.Setup NakReply = refl
taken_address t stages.Setup StallReply = refl
taken_address t stages.Setup (DataReply toggle bytes) = refl
taken_address t stages.Setup NoReply = struck_address t
taken_address t stages.DataIn AckReply = refl
taken_address t stages.DataIn NakReply = delayed_address t
taken_address t stages.DataIn StallReply = refl
taken_address t stages.DataIn (DataReply toggle bytes) = data_address t toggle bytes
taken_address t stages.DataIn NoReply = struck_address t
taken_address t stages.DataOut AckReply = refl
taken_address t stages.DataOut NakReply = delayed_address t
taken_address t stages.DataOut StallReply = refl
taken_address t stages.DataOut (DataReply toggle bytes) = refl
taken_address t stages.DataOut NoReply = struck_address t
taken_address t stages.StatusOut AckReply = refl
taken_address t stages.StatusOut NakReply = delayed_address t
taken_address t stages.StatusOut StallReply = refl
taken_address t stages.StatusOut (DataReply toggle bytes) = refl
taken_address t stages.StatusOut NoReply = struck_address t
taken_address t stages.StatusIn AckReply = refl
taken_address t stages.StatusIn NakReply = delayed_address t
taken_address t stages.StatusIn StallReply = refl
taken_address t stages.StatusIn (DataReply toggle bytes) = status_address t toggle bytes
taken_address t stages.StatusIn NoReply = struck_address t
taken_address t stages.Completed reply = refl
taken_address t (stages.Failed why) reply = refl

-- ---- and so does a host

abbrev PlanFits : Plan → Type 0
PlanFits (Begin address packet q) = address < 128
PlanFits Success = Unit {0}
PlanFits (GivesUp why) = Unit {0}

asks_fits : (address : ℕ) (place : Place) → address < 128 → PlanFits (asks address place)
asks_fits address First below = omega arith
asks_fits address (Address first) below = omega arith
asks_fits address (Device first) below = below
asks_fits address (Header kind f) below = below
asks_fits address (Set kind f total) below = below
asks_fits address (Qualifier f) below = below
asks_fits address (Languages f named) below = below
asks_fits address (Text f s named) below = below
asks_fits address (Configure f) below = below
asks_fits address (Reported f) below = tt
asks_fits address (Stopped trouble) below = tt

entered_fits : (naks : ℕ) (place : Place) (plan : Plan) → PlanFits plan → AddressFits (entered naks place plan)
entered_fits naks place (Begin address packet q) h = h
entered_fits naks place Success h = tt
entered_fits naks place (GivesUp why) h = tt

enter_fits : (limits : LimitView) (place : Place) → limits.address < 128 → AddressFits (enter limits place)
enter_fits limits place below = entered_fits limits.naks place (asks limits.address place) (asks_fits limits.address place below)

goes_fits : (limits : LimitView) (terms : Terms) (place : Place) (t : TransferView) (k : Kept) (stage : TransferStage) → limits.address < 128 → t.address < 128
    → AddressFits (goes_on limits terms place t k stage)
goes_fits limits terms place t k stages.Completed below low = enter_fits limits (spared terms.choice.strings place (completed_leads terms place t k)) below
goes_fits limits terms place t k (stages.Failed whys.Stalled) below low = enter_fits limits (spared terms.choice.strings place (refused_leads terms place)) below
goes_fits limits terms place t k (stages.Failed whys.NoAnswer) below low = tt
goes_fits limits terms place t k (stages.Failed whys.Busy) below low = tt
goes_fits limits terms place t k (stages.Failed whys.TooLong) below low = tt
goes_fits limits terms place t k (stages.Failed whys.Unexpected) below low = tt
goes_fits limits terms place t k (stages.Failed whys.Malformed) below low = tt
goes_fits limits terms place t k (stages.Failed whys.Memory) below low = tt
goes_fits limits terms place t k stages.Setup below low = low
goes_fits limits terms place t k stages.DataIn below low = low
goes_fits limits terms place t k stages.DataOut below low = low
goes_fits limits terms place t k stages.StatusOut below low = low
goes_fits limits terms place t k stages.StatusIn below low = low

received_fits_in : (limits : LimitView) (terms : Terms) (place : Place) (old : Kept) (by : Taken) (new : HostPhase) (before after : List Trouble) → limits.address < 128
    → by.transfer.address < 128 → TakesReceived limits terms place old by new before after → AddressFits new
received_fits_in limits terms place old by new b a below low (result, k, keeps, inl (lacks, e, same)) = subst AddressFits (sym e) tt
received_fits_in limits terms place old by new b a below low (result, k, keeps, inr (lacks, e, adds)) =
    subst AddressFits (sym e) (goes_fits limits terms place by.transfer k by.transfer.stage below low)

either_phase : (c : Bool) (x y : HostPhase) → AddressFits x → AddressFits y → AddressFits (if c then x else y)
either_phase true x y p q = p
either_phase false x y p q = q

settled_fits : (attempts resets : ℕ) (phase : HostPhase) → AddressFits phase → AddressFits (settled attempts resets phase)
settled_fits attempts resets ResetDue h = tt
settled_fits attempts resets (Reading place t k) h = h
settled_fits attempts resets (Ended First) h = tt
settled_fits attempts resets (Ended (Address first)) h = tt
settled_fits attempts resets (Ended (Device first)) h = tt
settled_fits attempts resets (Ended (Header kind f)) h = tt
settled_fits attempts resets (Ended (Set kind f total)) h = tt
settled_fits attempts resets (Ended (Qualifier f)) h = tt
settled_fits attempts resets (Ended (Languages f named)) h = tt
settled_fits attempts resets (Ended (Text f s named)) h = tt
settled_fits attempts resets (Ended (Configure f)) h = tt
settled_fits attempts resets (Ended (Reported f)) h = tt
settled_fits attempts resets (Ended (Stopped trouble)) h =
    either_phase (blames_bus trouble.why && nat_lt resets attempts) ResetDue (Ended (Stopped trouble)) tt tt

takes_fits : (v w : HostView) (phase : HostPhase) (reply : Reply) → v.phase ≡ phase → AsksWithin v → AddressFits phase → TakesIn v phase reply w → AsksWithin w
takes_fits v w ResetDue reply at h low e = subst AsksWithin (sym e) h
takes_fits v w (Ended place) reply at h low e = subst AsksWithin (sym e) h
takes_fits v w (Reading place t k) reply at h low (phase, received, e) =
    let keeps = taken_address t t.stage reply in
    let there : (taken t reply).transfer.address < 128 = subst (λ n. n < 128) (sym keeps) low in
    subst AsksWithin (sym e)
    (record {
      limits = h.limits;
      phase = settled_fits v.limits.attempts v.resets phase (received_fits_in v.limits (terms_of v) place k (taken t reply) phase v.forgiven w.forgiven h.limits there received);
    })

pub take_within : (v w : HostView) (reply : Reply) → AsksWithin v → Takes v reply w → AsksWithin w
take_within v w reply h takes = takes_fits v w v.phase reply refl h h.phase takes

reset_fits : (v : HostView) (phase : HostPhase) → AsksWithin v → AsksWithin (reset_in v phase)
reset_fits v ResetDue h = record { limits = h.limits; phase = enter_fits v.limits First h.limits }
reset_fits v (Reading place t k) h = h
reset_fits v (Ended place) h = h

pub reset_within : (v w : HostView) → AsksWithin v → w ≡ reset v → AsksWithin w
reset_within v w h is = subst AsksWithin (sym is) (reset_fits v v.phase h)

-- ---- what it sends

none_taken : (n k : ℕ) → length {A = ℕ} (take n (drop k [])) ≤ 1024
none_taken zero zero = omega arith
none_taken zero (suc k) = omega arith
none_taken (suc n) zero = omega arith
none_taken (suc n) (suc k) = omega arith

legal_token : (t : TransferView) (stage : TransferStage) (sent : Sent) → t.address < 128 → sends (addressed t.address (token_due t [] stage)) ≡ WantsSent sent → IsLegalSent sent
legal_token t stages.Setup sent low e =
    let same : record { address = t.address; token = SetupToken (setup_bytes t.request) } ≡ sent = cc in subst IsLegalSent same (record { address = low; bytes = refl })
legal_token t stages.DataIn sent low e =
    let same : record { address = t.address; token = InToken } ≡ sent = cc in subst IsLegalSent same (record { address = low; bytes = tt })
legal_token t stages.DataOut sent low e =
    let same : record { address = t.address; token = OutToken t.awaited (packet_due t []) } ≡ sent = cc in
    subst IsLegalSent same (record { address = low; bytes = none_taken t.packet t.kept })
legal_token t stages.StatusOut sent low e =
    let same : record { address = t.address; token = OutToken Data1 [] } ≡ sent = cc in subst IsLegalSent same (record { address = low; bytes = omega arith })
legal_token t stages.StatusIn sent low e =
    let same : record { address = t.address; token = InToken } ≡ sent = cc in subst IsLegalSent same (record { address = low; bytes = tt })
legal_token t stages.Completed sent low e = absurd (cc)
legal_token t (stages.Failed why) sent low e = absurd (cc)

legal_in : (phase : HostPhase) (sent : Sent) → AddressFits phase → wanted phase ≡ WantsSent sent → IsLegalSent sent
legal_in ResetDue sent h e = absurd (cc)
legal_in (Reading place t k) sent h e = legal_token t t.stage sent h e
legal_in (Ended place) sent h e = absurd (cc)

pub legal_due : (v : HostView) (sent : Sent) → AsksWithin v → wanted v.phase ≡ WantsSent sent → IsLegalSent sent
legal_due v sent h e = legal_in v.phase sent h.phase e
