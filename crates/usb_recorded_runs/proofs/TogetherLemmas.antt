-- Both ends of a run in one transfer: a device stalls what it refuses and nothing else, and after a data stage the host has all of the answer.
use Rattle.std.proofs.Common.{◌≡◌, ◌⊎◌, inl, inr, ◌==◌, ◌||◌, ◌<◌, ◌≤◌, ◌+◌, ◌-◌, ◌*◌, min, nat_lt, ℕ, zero, suc, Bool, true, false, if◌then◌else◌, List, [], ◌∷◌, length, take, drop, refl, sym, ◌∙◌, ap, subst, arith}
use Rattle.std.specs.Prelude.{Some, slice_get}
use Rattle.std.proofs.lemmas.Bool.Decides.{nat_tests}
use Rattle.std.proofs.lemmas.List.{length-drop, length-take}
use Rattle.usb_fields.specs.declared.packet.Toggle.{Toggle}
use Rattle.usb_fields.specs.declared.packet.Toggle.TheVariants.{Data0, Data1}
use Rattle.usb_fields.specs.declared.setup.Direction.TheVariants as directions
use Rattle.usb_fields.specs.declared.setup.Setup.{Setup}
use Rattle.usb_fields.specs.Packets.{AckReply, DataReply, InToken, NakReply, NoReply, OutToken, Reply, StallReply, flipped, is_same_toggle, packets, toggle_of}
use Rattle.usb_fields.specs.Setup.{direction_of, setup_bytes, setup_of}
use Rattle.usb_fields.proofs.PacketLemmas.{packets-at}
use Rattle.usb_host.specs.declared.transfer.TransferStage.{TransferStage}
use Rattle.usb_host.specs.declared.transfer.TransferStage.TheVariants as stages
use Rattle.usb_host.specs.Transfer.{TransferView, data_stage, stage_after_setup}
use Rattle.usb_device.specs.declared.state.State.{State}
use Rattle.usb_device.specs.Requests.{Bytes, Done, Outcome, Refused, Takes}
use Rattle.usb_device.specs.Step.{DeviceStage, DeviceView, Sending, Served, StatusIn, acked, acked_stage, next_packet, next_stage, replies, served, served_here, served_in, served_out}
use Rattle.usb_device.specs.Step as device
use Rattle.usb_device.specs.States as states
use Rattle.usb_bus.specs.Beside.{IsTable}
use Rattle.usb_bus.specs.declared.fate.Fate.{Fate}
use Rattle.usb_bus.specs.declared.fate.Fate.TheVariants as fates
use Rattle.usb_bus.specs.Bus.{acknowledges, brought}
use Rattle.usb_bus.specs.Converse.{AskedView, state_after}
use Rattle.usb_bus.specs.Exchanges.{is_lost_down}
use Rattle.usb_capture.specs.declared.control_transfer.ControlTransfer.{ControlTransfer}
use Rattle.usb_capture.specs.declared.ending.Ending.TheVariants as endings
use Rattle.usb_capture.specs.declared.transaction.Transaction.{Transaction}
use Rattle.usb_capture.specs.BusTransfers.{ended_so}
use Rattle.usb_capture.specs.Readings.{reads_descriptor}
use Rattle.usb_recorded_runs.proofs.DeviceLemmas.{IsEmpty, IsNext, IsPacket, IsSent, acked_so, in_toggle, none_some}
use Rattle.usb_recorded_runs.proofs.HostLemmas.{IsAsked, SizeIsKnown}

-- the request that comes of the bytes of a SETUP
abbrev pub sent_setup : Setup → Setup
sent_setup q = setup_of (setup_bytes q)

pub sent_length : (q : Setup) → (sent_setup q).length ≡ q.length
sent_length q = omega arith

-- ---- a packet by its place

at_place : (k : ℕ) (xs : List (List ℕ)) (p : List ℕ) → slice_get xs k ≡ Some p → drop k xs ≡ p ∷ drop (suc k) xs
at_place k [] p at = cc
at_place zero (x ∷ xs) p at = let same : x ≡ p = cc in ap (λ y. y ∷ xs) same
at_place (suc k) (x ∷ xs) p at = at_place k xs p at

first_of : (p b : List ℕ) (xs rest : List (List ℕ)) → p ∷ xs ≡ b ∷ rest → p ≡ b
first_of p b xs rest e = cc

-- ---- tests

pub or_cases : (a b : Bool) → (a || b) ≡ true → (a ≡ true) ⊎ (b ≡ true)
or_cases true b e = inl refl
or_cases false b e = inr e

pub less_so : (m n : ℕ) → nat_lt m n ≡ true → m < n
less_so m n e = grind (arith, nat_tests)

pub not_less : (m n : ℕ) → nat_lt m n ≡ false → n ≤ m
not_less m n e = grind (arith, nat_tests)

pub same_so : (m n : ℕ) → (m == n) ≡ true → m ≡ n
same_so m n e = grind (arith, nat_tests)

pub not_same : (m n : ℕ) → (m == n) ≡ false → m ≡ n → ⊥
not_same m n e is = grind (arith, nat_tests)

-- ---- how a transfer has ended

module _ (table : State → Setup → Outcome) where
  -- Some requests since a bus reset lead to this state.
  abbrev pub IsReached : State → Type 0
  IsReached s = (requests : List AskedView) × (state_after table states.zero requests ≡ s)

  -- of a device with this address
  pub record IsAt (address : ℕ) (s : State) : Type 0 where
    pub reached : IsReached s
    pub address_is : address ≡ s.address

-- what is known of a transfer of this address
module _ (table : State → Setup → Outcome) (address : ℕ) where
  -- A device refuses the request, in one of its states, and no bytes have come.
  pub record IsRefused (q : Setup) (count : ℕ) : Type 0 where
    pub state : State
    pub is_at : IsAt table address state
    pub answers : table state q ≡ Refused
    pub count_is : count ≡ 0

  -- It carries out the request, which has no data.
  pub record IsCarriedOut (q : Setup) (count : ℕ) : Type 0 where
    pub state : State
    pub is_at : IsAt table address state
    pub next : State
    pub answers : table state q ≡ Done next
    pub none : q.length ≡ 0
    pub count_is : count ≡ 0

  -- It answers the request for a descriptor with so many bytes.
  pub record IsWhole (q : Setup) (count : ℕ) : Type 0 where
    pub state : State
    pub is_at : IsAt table address state
    pub all : List ℕ
    pub answers : table state q ≡ Bytes all
    pub reads : reads_descriptor q ≡ true
    pub count_is : count ≡ length all

  pub record HasEnded (t : ControlTransfer) : Type 0 where
    pub end_is : (t.ending ≡ endings.Unseen) ⊎ ((t.ending ≡ endings.Stall) ⊎ (t.ending ≡ endings.Done))
    pub refused : t.ending ≡ endings.Stall → IsRefused t.setup t.length
    pub whole : t.ending ≡ endings.Done → IsCarriedOut t.setup t.length ⊎ IsWhole t.setup t.length

  stall_done : {A : Type 0} → endings.Stall ≡ endings.Done → A
  stall_done e = absurd (let w : ⊥ = cc in w)

  unseen_stall : {A : Type 0} → endings.Unseen ≡ endings.Stall → A
  unseen_stall e = absurd (let w : ⊥ = cc in w)

  unseen_done : {A : Type 0} → endings.Unseen ≡ endings.Done → A
  unseen_done e = absurd (let w : ⊥ = cc in w)

  pub stall_ended : (t : Transaction) (transfer : ControlTransfer) → IsRefused transfer.setup transfer.length → HasEnded (ended_so t endings.Stall transfer)
  stall_ended t transfer refused = record { end_is = inr (inl refl); refused = λ e. refused; whole = stall_done }

  pub done_ended : (t : Transaction) (transfer : ControlTransfer)
      → IsCarriedOut transfer.setup transfer.length ⊎ IsWhole transfer.setup transfer.length → HasEnded (ended_so t endings.Done transfer)
  done_ended t transfer whole = record { end_is = inr (inr refl); refused = λ e. stall_done (sym e); whole = λ e. whole }

  pub unseen_ended : (transfer : ControlTransfer) → transfer.ending ≡ endings.Unseen → HasEnded transfer
  unseen_ended transfer unseen = record { end_is = inl unseen; refused = λ e. unseen_stall (sym unseen ∙ e); whole = λ e. unseen_done (sym unseen ∙ e) }

-- ---- both ends

module _ (table : State → Setup → Outcome) (cut : ℕ) where
  -- a device after its answer, where the host's ACK of it may reach it
  abbrev pub after_answer : Fate → Served → DeviceView
  after_answer fate r = if acknowledges fate r.reply then acked table cut r.device else r.device

-- of a transfer of this address
module _ (table : State → Setup → Outcome) (cut at_address : ℕ) where
  -- In the data stage so many whole packets of the answer have come to the host, which awaits more. The device counts as many as
  -- acknowledged, or one fewer.
  pub record InStep (asked : Setup) (awaited : Toggle) (kept : ℕ) (q : Setup) (all : List ℕ) (k : ℕ) : Type 0 where
    pub same : q ≡ sent_setup asked
    pub state : State
    pub is_at : IsAt table at_address state
    pub answers : table state q ≡ Bytes all
    pub reads : reads_descriptor q ≡ true
    pub count : ℕ
    pub counted : (count ≡ k) ⊎ (count ≡ suc k)
    pub awaits : awaited ≡ toggle_of count
    pub kept_is : kept ≡ count * cut
    pub within : kept ≤ length all
    pub more : kept < q.length

  abbrev pub TogetherIn : Setup → Toggle → ℕ → DeviceStage → Type 0
  TogetherIn asked awaited kept (Sending q all k) = InStep asked awaited kept q all k
  TogetherIn asked awaited kept (device.Halted refused) = IsRefused table at_address (sent_setup asked) kept
  TogetherIn asked awaited kept stage = ⊥

  -- It has sent its data, though the ACK of the last packet may not have come.
  abbrev pub HasSent : DeviceStage → Type 0
  HasSent (Sending q all k) = Unit {0}
  HasSent (device.StatusOut q) = Unit {0}
  HasSent device.Over = Unit {0}
  HasSent stage = ⊥

  -- It carries out a request without data, or refuses it.
  abbrev pub CarriesOut : Setup → ℕ → DeviceStage → Type 0
  CarriesOut asked kept (StatusIn q carried) = IsCarriedOut table at_address (sent_setup asked) kept
  CarriesOut asked kept (device.Halted refused) = IsRefused table at_address (sent_setup asked) kept
  CarriesOut asked kept stage = ⊥

  abbrev pub TogetherBy : TransferStage → Setup → Toggle → ℕ → DeviceStage → Type 0
  TogetherBy stages.DataIn q awaited kept d = TogetherIn q awaited kept d
  TogetherBy stages.StatusOut q awaited kept d = HasSent d × IsWhole table at_address (sent_setup q) kept
  TogetherBy stages.StatusIn q awaited kept d = CarriesOut q kept d
  TogetherBy stage q awaited kept d = Unit {0}

  -- ---- after an answer

  -- after a packet that came, which the host takes for the next one or not
  pub record Took (toggle : Toggle) (bytes : List ℕ) (packet : ℕ) (awaited : Toggle) (kept : ℕ) (asked : Setup) (d : DeviceStage) : Type 0 where
    pub next_so : is_same_toggle toggle awaited ≡ true → kept + length bytes ≤ asked.length → (last : Bool)
        → (nat_lt (length bytes) packet || (kept + length bytes == asked.length)) ≡ last
        → TogetherBy (if last then stages.StatusOut else stages.DataIn) asked (flipped awaited) (kept + length bytes) d
    pub again_so : is_same_toggle toggle awaited ≡ false → TogetherIn asked awaited kept d

  abbrev pub AfterIn : (DeviceStage → Type 0) → (Toggle → List ℕ → DeviceStage → Type 0) → Reply → DeviceStage → Type 0
  AfterIn P Q (DataReply toggle bytes) d = Q toggle bytes d
  AfterIn P Q reply d = P d

  abbrev pub TogetherAfter : TransferStage → Reply → DeviceStage → TransferView → Type 0
  TogetherAfter stages.DataIn reply d t =
      AfterIn (TogetherIn t.request t.awaited t.kept) (λ toggle bytes stage. Took toggle bytes t.packet t.awaited t.kept t.request stage) reply d
  TogetherAfter stages.StatusOut reply d t = HasSent d × IsWhole table at_address (sent_setup t.request) t.kept
  TogetherAfter stages.StatusIn reply d t = AfterIn (CarriesOut t.request t.kept) (λ toggle bytes stage. toggle ≡ Data1) reply d
  TogetherAfter stage reply d t = Unit {0}

  -- after a transaction: both ends are together, and a STALL in it is a refusal
  pub record StaysTogether (stage : TransferStage) (came : Reply) (d : DeviceStage) (t : TransferView) : Type 0 where
    pub together : TogetherAfter stage came d t
    pub refuses : came ≡ StallReply → IsRefused table at_address (sent_setup t.request) t.kept

  pub nothing_after : (stage : TransferStage) (d : DeviceStage) (t : TransferView) → TogetherBy stage t.request t.awaited t.kept d
      → TogetherAfter stage NoReply d t
  nothing_after stages.DataIn d t h = h
  nothing_after stages.StatusOut d t h = h
  nothing_after stages.StatusIn d t h = h
  nothing_after stage d t h = tt

  module _ (is_table : IsTable table) (some : 8 ≤ cut) where
    -- ---- what the device does at an IN

    -- a packet that comes after whole ones
    abbrev packet_at : List ℕ → ℕ → List ℕ
    packet_at all k = take cut (drop (k * cut) all)

    abbrev IsThere : Setup → List ℕ → ℕ → Type 0
    IsThere q all k = slice_get (packets all cut q.length) k ≡ Some (packet_at all k)

    -- the packet that the host awaits
    next_there : (asked : Setup) (awaited : Toggle) (kept : ℕ) (q : Setup) (all : List ℕ) (k : ℕ) (step : InStep asked awaited kept q all k)
        → IsThere q all step.count
    next_there asked awaited kept q all k step =
        packets-at all cut q.length step.count (omega (arith, some)) (subst (λ n. n ≤ length all) step.kept_is step.within)
        (subst (λ n. n < q.length) step.kept_is step.more)

    fewer : (k : ℕ) → k * cut ≤ suc k * cut
    fewer k = grind arith

    -- and the one that the device sends
    sent_there : (asked : Setup) (awaited : Toggle) (kept : ℕ) (q : Setup) (all : List ℕ) (k : ℕ) → InStep asked awaited kept q all k → IsThere q all k
    sent_there asked awaited kept q all k step = of step.counted
      where
        of : (step.count ≡ k) ⊎ (step.count ≡ suc k) → IsThere q all k
        of (inl same) = subst (IsThere q all) same (next_there asked awaited kept q all k step)
        of (inr ahead) =
            let place : kept ≡ suc k * cut = step.kept_is ∙ ap (λ n. n * cut) ahead in
            packets-at all cut q.length k (omega (arith, some)) (omega (arith, fewer k, place, step.within)) (omega (arith, fewer k, place, step.more))

    -- nothing changes but where there is a STALL, which is a refusal
    pub record AtIn (P : DeviceStage → Type 0) (asked : Setup) (kept : ℕ) (r : Served) : Type 0 where
      pub holds : P r.device.stage
      pub refuses : r.reply ≡ StallReply → IsRefused table at_address (sent_setup asked) kept

    either_in : (P : DeviceStage → Type 0) (asked : Setup) (kept : ℕ) (c : Bool) (x y : Served) → AtIn P asked kept x → AtIn P asked kept y
        → AtIn P asked kept (if c then x else y)
    either_in P asked kept true x y p q = p
    either_in P asked kept false x y p q = q

    nak_stall : {A : Type 0} → NakReply ≡ StallReply → A
    nak_stall e = absurd (let w : ⊥ = cc in w)

    none_stall : {A : Type 0} → NoReply ≡ StallReply → A
    none_stall e = absurd (let w : ⊥ = cc in w)

    ack_stall : {A : Type 0} → AckReply ≡ StallReply → A
    ack_stall e = absurd (let w : ⊥ = cc in w)

    data_stall : {A : Type 0} (toggle : Toggle) (bytes : List ℕ) → DataReply toggle bytes ≡ StallReply → A
    data_stall toggle bytes e = absurd (let w : ⊥ = cc in w)

    stage_in_data : (asked : Setup) (awaited : Toggle) (kept : ℕ) (s : State) (stage : DeviceStage) → TogetherIn asked awaited kept stage
        → AtIn (TogetherIn asked awaited kept) asked kept (served_in table cut s stage)
    stage_in_data asked awaited kept s (Sending q all k) step =
        let there = at_place k (packets all cut q.length) (packet_at all k) (sent_there asked awaited kept q all k step) in
        subst (λ left. AtIn (TogetherIn asked awaited kept) asked kept (next_packet s (Sending q all k) k left)) (sym there)
        (record { holds = step; refuses = data_stall (toggle_of k) (packet_at all k) })
    stage_in_data asked awaited kept s (device.Halted refused) step = record { holds = step; refuses = λ e. step }
    stage_in_data asked awaited kept s stage step = absurd step

    stage_in_status : (asked : Setup) (kept : ℕ) (s : State) (stage : DeviceStage) → CarriesOut asked kept stage
        → AtIn (CarriesOut asked kept) asked kept (served_in table cut s stage)
    stage_in_status asked kept s (StatusIn q carried) step = record { holds = step; refuses = data_stall Data1 [] }
    stage_in_status asked kept s (device.Halted refused) step = record { holds = step; refuses = λ e. step }
    stage_in_status asked kept s stage step = absurd step

    served_at_in : (P : DeviceStage → Type 0) (asked : Setup) (kept : ℕ) (d : DeviceView) (address : ℕ) (ready : Bool) → P d.stage
        → AtIn P asked kept (served_in table cut d.state d.stage) → AtIn P asked kept (served table cut d (record { address = address; token = InToken }) ready)
    served_at_in P asked kept d address ready holds at =
        either_in P asked kept (address == d.state.address) (served_here table cut d InToken ready) (replies NoReply d.state d.stage false) (of ready)
        (record { holds = holds; refuses = none_stall })
      where
        of : (ready : Bool) → AtIn P asked kept (served_here table cut d InToken ready)
        of true = at
        of false = record { holds = holds; refuses = nak_stall }

    -- ---- a packet that was received

    -- the stage after it, where the ACK of it is lost or not
    abbrev later_stage : Bool → DeviceStage → DeviceStage
    later_stage true stage = stage
    later_stage false stage = acked_stage table cut stage

    sent_left : (q : Setup) (all : List ℕ) (k : ℕ) (left : List (List ℕ)) → HasSent (next_stage q all k left)
    sent_left q all k [] = tt
    sent_left q all k (p ∷ rest) = tt

    sent_later : (lost : Bool) (q : Setup) (all : List ℕ) (k : ℕ) → HasSent (later_stage lost (Sending q all k))
    sent_later true q all k = tt
    sent_later false q all k = sent_left q all k (drop (suc k) (packets all cut q.length))

    -- the host has one packet more than the device counted before
    ahead_later : (lost : Bool) (asked : Setup) (awaited : Toggle) (kept : ℕ) (q : Setup) (all : List ℕ) (k : ℕ)
        (step : InStep asked awaited kept q all k) → step.count ≡ suc k → TogetherIn asked awaited kept (later_stage lost (Sending q all k))
    ahead_later true asked awaited kept q all k step ahead = step
    ahead_later false asked awaited kept q all k step ahead =
        let there = subst (IsThere q all) ahead (next_there asked awaited kept q all k step) in
        subst (λ left. TogetherIn asked awaited kept (next_stage q all k left))
        (sym (at_place (suc k) (packets all cut q.length) (packet_at all (suc k)) there))
        (record {
          same = step.same;
          state = step.state;
          is_at = step.is_at;
          answers = step.answers;
          reads = step.reads;
          count = suc k;
          counted = inl refl;
          awaits = step.awaits ∙ ap toggle_of ahead;
          kept_is = step.kept_is ∙ ap (λ n. n * cut) ahead;
          within = step.within;
          more = step.more;
        })

    own_same : (toggle : Toggle) → is_same_toggle toggle toggle ≡ true
    own_same Data0 = refl
    own_same Data1 = refl

    other_same : (toggle : Toggle) → is_same_toggle toggle (flipped toggle) ≡ false
    other_same Data0 = refl
    other_same Data1 = refl

    true_false : {A : Type 0} (c : Bool) → c ≡ true → c ≡ false → A
    true_false c is not_so = absurd (let w : true ≡ false = sym is ∙ not_so in let v : ⊥ = cc in v)

    or_parts : (a b : Bool) → (a || b) ≡ false → (a ≡ false) × (b ≡ false)
    or_parts false false e = (refl, refl)
    or_parts a b e = absurd (let w : ⊥ = cc in w)

    -- Where the host leaves the data stage, it has all of the answer.
    all_came : (address packet : ℕ) (asked q : Setup) (all : List ℕ) (kept n : ℕ) → SizeIsKnown cut address packet asked → q ≡ sent_setup asked
        → length all ≤ q.length → kept ≤ length all → n ≡ min cut (length all - kept) → (n < packet) ⊎ (kept + n ≡ asked.length) → kept + n ≡ length all
    all_came address packet asked q all kept n (inl few) same fits within n_is last =
        omega (arith, some, few.1, ap (λ r. r.length) same, sent_length asked, fits, within, n_is)
    all_came address packet asked q all kept n (inr own) same fits within n_is (inl short) = omega (arith, own, short, within, n_is)
    all_came address packet asked q all kept n (inr own) same fits within n_is (inr full) =
        omega (arith, full, ap (λ r. r.length) same, sent_length asked, fits, within, n_is)

    -- Where it stays, a whole packet has come, and there are more.
    more_come : (address packet : ℕ) (asked q : Setup) (all : List ℕ) (kept n : ℕ) → SizeIsKnown cut address packet asked → kept ≤ length all
        → n ≡ min cut (length all - kept) → packet ≤ n → kept + n < asked.length → n ≡ cut
    more_come address packet asked q all kept n (inl few) within n_is whole more = absurd (let w : ⊥ = omega (arith, few.2, whole, more) in w)
    more_come address packet asked q all kept n (inr own) within n_is whole more = omega (arith, own, within, n_is, whole)

    one_more : (k : ℕ) → suc k * cut ≡ k * cut + cut
    one_more k = grind arith

    took_next : (address packet : ℕ) (asked : Setup) (awaited : Toggle) (kept : ℕ) (q : Setup) (all : List ℕ) (k : ℕ) (lost : Bool) (toggle : Toggle)
        (bytes : List ℕ) (rest : List (List ℕ)) → SizeIsKnown cut address packet asked → InStep asked awaited kept q all k → toggle ≡ toggle_of k → drop k (packets all cut q.length) ≡ bytes ∷ rest
        → Took toggle bytes packet awaited kept asked (later_stage lost (Sending q all k))
    took_next address packet asked awaited kept q all k lost toggle bytes rest size_is step is due = of step.counted
      where
        place : List ℕ
        place = packet_at all k

        bytes_are : place ≡ bytes
        bytes_are =
            first_of place bytes (drop (suc k) (packets all cut q.length)) rest
            (sym (at_place k (packets all cut q.length) place (sent_there asked awaited kept q all k step)) ∙ due)

        n : ℕ
        n = length bytes

        n_is : n ≡ min cut (length all - k * cut)
        n_is = ap length (sym bytes_are) ∙ length-take cut (drop (k * cut) all) ∙ ap (min cut) (length-drop (k * cut) all)

        fits : length all ≤ q.length
        fits = is_table.fits step.state q all step.answers

        of : (step.count ≡ k) ⊎ (step.count ≡ suc k) → Took toggle bytes packet awaited kept asked (later_stage lost (Sending q all k))
        of (inl same) = record {
          next_so = next;
          again_so = λ other.
              true_false (is_same_toggle toggle awaited) (ap (is_same_toggle toggle) (step.awaits ∙ ap toggle_of same ∙ sym is) ∙ own_same toggle) other;
        }
          where
            kept_is : kept ≡ k * cut
            kept_is = step.kept_is ∙ ap (λ m. m * cut) same

            size : n ≡ min cut (length all - kept)
            size = n_is ∙ ap (λ m. min cut (length all - m)) (sym kept_is)

            next : is_same_toggle toggle awaited ≡ true → kept + n ≤ asked.length → (last : Bool) → (nat_lt n packet || (kept + n == asked.length)) ≡ last
                → TogetherBy (if last then stages.StatusOut else stages.DataIn) asked (flipped awaited) (kept + n) (later_stage lost (Sending q all k))
            next toggles within true e = (
              sent_later lost q all k,
              record {
                state = step.state;
                is_at = step.is_at;
                all = all;
                answers = ap (table step.state) (sym step.same) ∙ step.answers;
                reads = ap reads_descriptor (sym step.same) ∙ step.reads;
                count_is = all_came address packet asked q all kept n size_is step.same fits step.within size
                    (left (or_cases (nat_lt n packet) (kept + n == asked.length) e));
              },
            )
              where
                left : (nat_lt n packet ≡ true) ⊎ ((kept + n == asked.length) ≡ true) → (n < packet) ⊎ (kept + n ≡ asked.length)
                left (inl short) = inl (less_so n packet short)
                left (inr full) = inr (same_so (kept + n) asked.length full)
            next toggles within false e =
                let parts = or_parts (nat_lt n packet) (kept + n == asked.length) e in
                let more : kept + n < asked.length = of_more (not_same (kept + n) asked.length parts.1) in
                let whole : n ≡ cut = more_come address packet asked q all kept n size_is step.within size (not_less n packet parts.0) more in
                ahead_later lost asked (flipped awaited) (kept + n) q all k (record {
                  same = step.same;
                  state = step.state;
                  is_at = step.is_at;
                  answers = step.answers;
                  reads = step.reads;
                  count = suc k;
                  counted = inr refl;
                  awaits = ap flipped (step.awaits ∙ ap toggle_of same);
                  kept_is = omega (arith, kept_is, whole, one_more k);
                  within = omega (arith, size, step.within);
                  more = omega (arith, more, ap (λ r. r.length) step.same, sent_length asked);
                }) refl
              where
                of_more : (kept + n ≡ asked.length → ⊥) → kept + n < asked.length
                of_more other = grind (arith, nat_tests)
        of (inr ahead) =
            let awaits : awaited ≡ toggle_of (suc k) = step.awaits ∙ ap toggle_of ahead in
            record {
              next_so = λ same. true_false (is_same_toggle toggle awaited) same (ap (is_same_toggle toggle) (awaits ∙ ap flipped (sym is)) ∙ other_same toggle);
              again_so = λ other. ahead_later lost asked awaited kept q all k step ahead;
            }

    -- A device together with the host sends a packet of its data stage.
    none_elsewhere : (asked : Setup) (awaited : Toggle) (kept : ℕ) (old new : DeviceStage) (toggle : Toggle) (bytes : List ℕ)
        → IsEmpty table cut old new bytes → in_toggle old ≡ Some toggle → TogetherIn asked awaited kept old → ⊥
    none_elsewhere asked awaited kept (Sending q all k) new toggle bytes empty sends step = empty.was
    none_elsewhere asked awaited kept (device.Halted refused) new toggle bytes empty sends step = none_some toggle ⊥ sends
    none_elsewhere asked awaited kept stage new toggle bytes empty sends step = step

    took_packet : (address packet : ℕ) (asked : Setup) (awaited : Toggle) (kept : ℕ) (old : DeviceStage) (new : DeviceView) (toggle : Toggle)
        (bytes : List ℕ) (lost : Bool) → SizeIsKnown cut address packet asked → TogetherIn asked awaited kept old → IsPacket table cut old new toggle bytes
        → Took toggle bytes packet awaited kept asked (later_stage lost new.stage)
    took_packet address packet asked awaited kept old new toggle bytes lost size_is together p = of p.which
      where
        of : IsNext table cut old new.stage toggle bytes ⊎ IsEmpty table cut old new.stage bytes
            → Took toggle bytes packet awaited kept asked (later_stage lost new.stage)
        of (inl next) =
            subst (λ g. Took toggle bytes packet awaited kept asked (later_stage lost g)) (sym next.is)
            (took_next address packet asked awaited kept next.request next.all next.acked_ones lost toggle bytes next.later size_is
            (subst (TogetherIn asked awaited kept) next.was together) next.toggle_is next.due)
        of (inr empty) = absurd (none_elsewhere asked awaited kept old new.stage toggle bytes empty p.was together)

    status_toggle : (asked : Setup) (kept : ℕ) (old : DeviceStage) (toggle : Toggle) → CarriesOut asked kept old → in_toggle old ≡ Some toggle → toggle ≡ Data1
    status_toggle asked kept (StatusIn q carried) toggle carries is = let e : Data1 ≡ toggle = cc in sym e
    status_toggle asked kept (device.Halted refused) toggle carries is = none_some toggle _ is
    status_toggle asked kept stage toggle carries is = absurd carries

    -- A device that sends a packet in the status stage carries out the request.
    pub status_carries : (asked : Setup) (kept : ℕ) (old : DeviceStage) (toggle : Toggle) → CarriesOut asked kept old → in_toggle old ≡ Some toggle
        → IsCarriedOut table at_address (sent_setup asked) kept
    status_carries asked kept (StatusIn q carried) toggle carries is = carries
    status_carries asked kept (device.Halted refused) toggle carries is = none_some toggle _ is
    status_carries asked kept stage toggle carries is = absurd carries

    -- ---- a transaction

    -- an IN, of which a packet comes so
    in_after : (P : DeviceStage → Type 0) (Q : Toggle → List ℕ → DeviceStage → Type 0) (asked : Setup) (kept_bytes : ℕ) (fate : Fate) (old : DeviceStage)
        (reply : Reply) (new : DeviceView) → is_lost_down fate ≡ false → AtIn P asked kept_bytes (record { reply = reply; device = new })
        → IsSent table cut old new reply
        → ((toggle : Toggle) (bytes : List ℕ) (lost : Bool) → IsPacket table cut old new toggle bytes → Q toggle bytes (later_stage lost new.stage))
        → AfterIn P Q (brought fate reply) (after_answer table cut fate (record { reply = reply; device = new })).stage
        × (brought fate reply ≡ StallReply → IsRefused table at_address (sent_setup asked) kept_bytes)
    in_after P Q asked kept_bytes fates.LostDown old reply new kept at sent takes = absurd (let w : ⊥ = cc in w)
    in_after P Q asked kept_bytes fates.LostUp old reply new kept at sent takes = (at.holds, none_stall)
    in_after P Q asked kept_bytes fates.LostAck old (DataReply toggle bytes) new kept at sent takes = (takes toggle bytes true sent, data_stall toggle bytes)
    in_after P Q asked kept_bytes fates.Pass old (DataReply toggle bytes) new kept at sent takes =
        (subst (Q toggle bytes) (sym (acked_so table cut new sent.waits)) (takes toggle bytes false sent), data_stall toggle bytes)
    in_after P Q asked kept_bytes fates.Busy old (DataReply toggle bytes) new kept at sent takes =
        (subst (Q toggle bytes) (sym (acked_so table cut new sent.waits)) (takes toggle bytes false sent), data_stall toggle bytes)
    in_after P Q asked kept_bytes fate old reply new kept at sent takes = (at.holds, at.refuses)

    pub data_together : (t : TransferView) (d : DeviceView) (fate : Fate) (ready : Bool) → is_lost_down fate ≡ false
        → SizeIsKnown cut t.address t.packet t.request → TogetherIn t.request t.awaited t.kept d.stage
        → (let r = served table cut d (record { address = t.address; token = InToken }) ready in
        IsSent table cut d.stage r.device r.reply → StaysTogether stages.DataIn (brought fate r.reply) (after_answer table cut fate r).stage t)
    data_together t d fate ready kept size_is both sent =
        let P = TogetherIn t.request t.awaited t.kept in
        let r = served table cut d (record { address = t.address; token = InToken }) ready in
        let after = in_after P (λ toggle bytes stage. Took toggle bytes t.packet t.awaited t.kept t.request stage)
        t.request t.kept fate d.stage r.reply r.device kept
        (served_at_in P t.request t.kept d t.address ready both (stage_in_data t.request t.awaited t.kept d.state d.stage both)) sent
        (λ toggle bytes lost. took_packet t.address t.packet t.request t.awaited t.kept d.stage r.device toggle bytes lost size_is both) in
        record { together = after.0; refuses = after.1 }

    pub status_in_together : (t : TransferView) (d : DeviceView) (fate : Fate) (ready : Bool) → is_lost_down fate ≡ false → CarriesOut t.request t.kept d.stage
        → (let r = served table cut d (record { address = t.address; token = InToken }) ready in
        IsSent table cut d.stage r.device r.reply → StaysTogether stages.StatusIn (brought fate r.reply) (after_answer table cut fate r).stage t)
    status_in_together t d fate ready kept both sent =
        let P = CarriesOut t.request t.kept in
        let r = served table cut d (record { address = t.address; token = InToken }) ready in
        let after = in_after P (λ toggle bytes stage. toggle ≡ Data1) t.request t.kept fate d.stage r.reply r.device kept
        (served_at_in P t.request t.kept d t.address ready both (stage_in_status t.request t.kept d.state d.stage both)) sent
        (λ toggle bytes lost p. status_toggle t.request t.kept d.stage toggle both p.was) in
        record { together = after.0; refuses = after.1 }

    -- the empty OUT of the status stage
    abbrev IsQuiet : Reply → Type 0
    IsQuiet StallReply = ⊥
    IsQuiet (DataReply toggle bytes) = ⊥
    IsQuiet reply = Unit {0}

    record AtOut (r : Served) : Type 0 where
      holds : HasSent r.device.stage
      quiet : IsQuiet r.reply

    either_out : (c : Bool) (x y : Served) → AtOut x → AtOut y → AtOut (if c then x else y)
    either_out true x y p q = p
    either_out false x y p q = q

    stage_out : (s : State) (stage : DeviceStage) → HasSent stage → AtOut (served_out table cut s stage Data1 [])
    stage_out s (Sending q all k) sent = record { holds = tt; quiet = tt }
    stage_out s (device.StatusOut q) sent = record { holds = tt; quiet = tt }
    stage_out s device.Over sent = record { holds = tt; quiet = tt }
    stage_out s stage sent = absurd sent

    served_at_out : (d : DeviceView) (address : ℕ) (ready : Bool) → HasSent d.stage
        → AtOut (served table cut d (record { address = address; token = OutToken Data1 [] }) ready)
    served_at_out d address ready sent =
        either_out (address == d.state.address) (served_here table cut d (OutToken Data1 []) ready) (replies NoReply d.state d.stage false) (of ready)
        (record { holds = sent; quiet = tt })
      where
        of : (ready : Bool) → AtOut (served_here table cut d (OutToken Data1 []) ready)
        of true = stage_out d.state d.stage sent
        of false = record { holds = sent; quiet = tt }

    out_after : {A : Type 0} (fate : Fate) (reply : Reply) (new : DeviceView) → is_lost_down fate ≡ false → HasSent new.stage → IsQuiet reply
        → HasSent (after_answer table cut fate (record { reply = reply; device = new })).stage × (brought fate reply ≡ StallReply → A)
    out_after fates.LostDown reply new kept holds quiet = absurd (let w : ⊥ = cc in w)
    out_after fates.LostUp reply new kept holds quiet = (holds, none_stall)
    out_after fate StallReply new kept holds quiet = absurd quiet
    out_after fate (DataReply toggle bytes) new kept holds quiet = absurd quiet
    out_after fate AckReply new kept holds quiet = (holds, ack_stall)
    out_after fate NakReply new kept holds quiet = (holds, nak_stall)
    out_after fate NoReply new kept holds quiet = (holds, none_stall)

    pub status_out_together : (t : TransferView) (d : DeviceView) (fate : Fate) (ready : Bool) → is_lost_down fate ≡ false
        → HasSent d.stage × IsWhole table at_address (sent_setup t.request) t.kept
        → (let r = served table cut d (record { address = t.address; token = OutToken Data1 [] }) ready in
        StaysTogether stages.StatusOut (brought fate r.reply) (after_answer table cut fate r).stage t)
    status_out_together t d fate ready kept both =
        let r = served table cut d (record { address = t.address; token = OutToken Data1 [] }) ready in
        let held = served_at_out d t.address ready both.0 in
        let after = out_after {A = IsRefused table at_address (sent_setup t.request) t.kept} fate r.reply r.device kept held.holds held.quiet in
        record { together = (after.0, both.1); refuses = after.1 }

    -- ---- a SETUP that the device has taken

    pub begun_together : (q : Setup) (s : State) (stage : DeviceStage) → IsAsked q → IsAt table at_address s
        → stage ≡ device.begun (sent_setup q) (table s (sent_setup q)) → TogetherBy (stage_after_setup q) q Data1 0 stage
    begun_together q s stage asked is_at is =
        subst (TogetherBy (stage_after_setup q) q Data1 0) (sym is) (of (q.length == 0) refl asked.brings asked.reads (table s r) refl)
      where
        r : Setup
        r = sent_setup q

        in_out : directions.In ≡ directions.Out → ⊥
        in_out e = let w : ⊥ = cc in w

        none_sent : q.length ≡ 0 → 0 < r.length → ⊥
        none_sent none positive = let w : ⊥ = omega (arith, none, positive, sent_length q) in w

        refused : table s r ≡ Refused → IsRefused table at_address r 0
        refused e = record { state = s; is_at = is_at; answers = e; count_is = refl }

        carries : q.length ≡ 0 → (o : Outcome) → table s r ≡ o → CarriesOut q 0 (device.begun r o)
        carries none (Bytes all) e = absurd (none_sent none ((is_table.answering s r).bytes all e).0)
        carries none (Done next) e = record { state = s; is_at = is_at; next = next; answers = e; none = sent_length q ∙ none; count_is = refl }
        carries none Refused e = refused e
        carries none (Takes judge) e = absurd (none_sent none ((is_table.answering s r).takes judge e).0)

        reads : (q.length ≡ 0 → ⊥) → direction_of q.request_type ≡ directions.In → reads_descriptor r ≡ true → (o : Outcome) → table s r ≡ o
            → TogetherIn q Data1 0 (device.begun r o)
        reads positive way of_descriptor (Bytes all) e = record {
          same = refl;
          state = s;
          is_at = is_at;
          answers = e;
          reads = of_descriptor;
          count = 0;
          counted = inl refl;
          awaits = refl;
          kept_is = omega arith;
          within = omega arith;
          more = ((is_table.answering s r).bytes all e).0;
        }
        reads positive way of_descriptor (Done next) e = absurd (positive (sym (sent_length q) ∙ (is_table.answering s r).done next e))
        reads positive way of_descriptor Refused e = refused e
        reads positive way of_descriptor (Takes judge) e = absurd (in_out (sym way ∙ ((is_table.answering s r).takes judge e).1))

        of : (none : Bool) → (q.length == 0) ≡ none → (direction_of q.request_type ≡ directions.In) ⊎ (q.length ≡ 0)
            → (reads_descriptor r ≡ true) ⊎ (q.length ≡ 0) → (o : Outcome) → table s r ≡ o
            → TogetherBy (if none then stages.StatusIn else data_stage (direction_of q.request_type)) q Data1 0 (device.begun r o)
        of true z brings reading o e = carries (same_so q.length 0 z) o e
        of false z (inl way) (inl of_descriptor) o e =
            subst (λ w. TogetherBy (data_stage w) q Data1 0 (device.begun r o)) (sym way) (reads (not_same q.length 0 z) way of_descriptor o e)
        of false z (inr none) reading o e = absurd (not_same q.length 0 z none)
        of false z (inl way) (inr none) o e = absurd (not_same q.length 0 z none)
