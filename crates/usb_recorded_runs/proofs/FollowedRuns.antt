-- In a run, what a host has read is kept in the recording.
use Rattle.std.proofs.Common.{◌≡◌, ◌⊎◌, inl, inr, ◌==◌, ◌&&◌, ◌<◌, ◌≤◌, ◌+◌, ◌-◌, ◌*◌, ◌/◌, ◌%◌, nat_lt, ℕ, Bool, true, false, not, if◌then◌else◌, List, [], ◌∷◌, ◌++◌, length, refl, sym, ◌∙◌, ap, subst, arith}
use Rattle.std.specs.Prelude.{Option, Some, None, Result, Ok, slice_index, unwrap_or}
use Rattle.std.specs.List.{AllByRecursion}
use Rattle.std.specs.Option.{option_to_list}
use Rattle.std.proofs.lemmas.Bool.Decides.{nat_tests}
use Rattle.std.proofs.lemmas.List.{append-nil}
use Rattle.usb_fields.specs.declared.setup.Direction.TheVariants as directions
use Rattle.usb_fields.specs.declared.setup.Setup.{Setup}
use Rattle.usb_fields.specs.Packets.{NoReply, Reply, Sent}
use Rattle.usb_fields.specs.Setup.{direction_of}
use Rattle.usb_set.specs.Descriptors.{type_number}
use Rattle.usb_set.specs.declared.fault.SetFault.{SetFault}
use Rattle.usb_set.specs.declared.decoder.Progress.{Progress}
use Rattle.usb_set.specs.declared.tree.SetKind.{SetKind}
use Rattle.usb_file_data.specs.declared.file.DescriptorFile.{DescriptorFile}
use Rattle.usb_file_data.specs.File.{has_wrong_kind, named_indices}
use Rattle.usb_host.specs.declared.choice.NamedStrings.{NamedStrings}
use Rattle.usb_host.specs.declared.choice.Terms.{Terms}
use Rattle.usb_host.specs.declared.transfer.TransferStage.{TransferStage}
use Rattle.usb_host.specs.declared.transfer.TransferStage.TheVariants as stages
use Rattle.usb_host.specs.declared.why.Why.TheVariants as whys
use Rattle.usb_host.specs.Keeping.{Kept, nothing_kept}
use Rattle.usb_host.specs.Limits.{IsInRange, LimitView}
use Rattle.usb_host.specs.Order.{asks, done_leads, ends_lacking, refused_leads, sets_of, spared, stand_in}
use Rattle.usb_host.specs.Place.{Place, First, Address, Device, Header, Set, Qualifier, Languages, Text, Configure, Reported, Stopped}
use Rattle.usb_host.specs.Plan.{Plan, Begin, Success, GivesUp}
use Rattle.usb_host.specs.Read.{get_descriptor}
use Rattle.usb_host.specs.Steps.{Ended, HostPhase, HostView, Reading, ResetDue, TakesIn, KeepsReceived, WantsReset, WantsSent, blames_bus, completed_leads, enter, entered, goes_on, read_leads, reset, reset_in, sends, settled, terms_of, wanted, outcome_of}
use Rattle.usb_host.specs.Terms.{forgives_any}
use Rattle.usb_host.specs.Transfer.{TransferView, addressed, taken, token_due}
use Rattle.usb_device.specs.Descriptors.{descriptor}
use Rattle.usb_device.specs.Requests.{answer}
use Rattle.usb_device.specs.Step.{DeviceView}
use Rattle.usb_device.specs.States as states
use Rattle.usb_bus.specs.declared.fate.Fate.{Fate}
use Rattle.usb_bus.specs.declared.fate.Fate.TheVariants as fates
use Rattle.usb_bus.specs.Beside.{IsTable}
use Rattle.usb_bus.specs.Bus.{brought, carried}
use Rattle.usb_bus.specs.Enumerate.{IsTransactionAt, Pair, RunsAt, answered}
use Rattle.usb_bus.specs.Exchanges.{is_lost_ack, is_lost_down}
use Rattle.usb_bus.specs.Log.{count_before}
use Rattle.usb_bus.specs.Run.{fate_at}
use Rattle.usb_capture.specs.declared.control_transfer.ControlTransfer.{ControlTransfer}
use Rattle.usb_capture.specs.declared.transaction.Transaction.{Transaction}
use Rattle.usb_capture.specs.BusTransfers.{Pipes, none_open, pipes_after, pipes_in, transfer_over, transfers_in}
use Rattle.usb_capture.specs.DeviceReadings.{current_after}
use Rattle.usb_capture.specs.Findings.{asked_of, is_same, sets_address}
use Rattle.usb_capture.specs.Readings.{is_done, is_reading, is_whole, reads_descriptor}
use Rattle.usb_capture.proofs.Folds.{after_push, given_push}
use Rattle.usb_recorded_runs.specs.Exchanges.{Exchange, exchange_in, exchanges, packets_in, received, transaction_of}
use Rattle.usb_recorded_runs.proofs.AnswerLemmas.{described_by}
use Rattle.usb_recorded_runs.proofs.DescribedFiles.{Reads, reads_kept}
use Rattle.usb_recorded_runs.proofs.FollowLemmas.{After, AfterBy, Follows, FollowsBy, IsOver, SameBytes, silent_follows, taken_follows, token_of}
use Rattle.usb_recorded_runs.proofs.KeptParts.{Has, arrives, at_address, current_both, same_device, stays}
use Rattle.usb_recorded_runs.proofs.KnownRuns.{IsLegalSent, IsSmall, all_front, all_last, due_low, one_received, received_push, run_right}
use Rattle.usb_recorded_runs.proofs.LengthLemmas.{IsShortIn}
use Rattle.usb_recorded_runs.proofs.PipeLemmas.{Sound}
use Rattle.usb_recorded_runs.proofs.PlaceParts.{Fits, HasFile, HasParts, HasStrings, IsOfDevice, asks_for, done_parts, parts_stay, read_parts, refused_parts}
use Rattle.usb_recorded_runs.proofs.ReceivedLemmas.{received_in}
use Rattle.usb_recorded_runs.proofs.RequestRuns.{AsksFor, IsAskedAt, all_of, ordered_run, recorded, token_asks}
use Rattle.usb_recorded_runs.proofs.RequestedLemmas.{Asks, HasRequest, InOrder, IsLong, IsOf, all_requests, over_address, plan_of, plan_taken}
use Rattle.usb_recorded_runs.proofs.RunLemmas.{all_append}
use Rattle.usb_recorded_runs.proofs.SizeLemmas.{IsFront, IsSound}
use Rattle.usb_recorded_runs.proofs.TransferLemmas.{descriptor_type, front_type}

false_true : {A : Type 0} → false ≡ true → A
false_true e = absurd (let w : ⊥ = cc in w)

-- ---- what a place asks for

-- Requests bring data, or have none.
abbrev PlanBrings : Plan → Type 0
PlanBrings (Begin address packet q) = (direction_of q.request_type ≡ directions.In) ⊎ (q.length ≡ 0)
PlanBrings Success = Unit {0}
PlanBrings (GivesUp why) = Unit {0}

plan_brings : (address : ℕ) (place : Place) → PlanBrings (asks address place)
plan_brings address First = inl refl
plan_brings address (Address first) = inr refl
plan_brings address (Device first) = inl refl
plan_brings address (Header kind f) = inl refl
plan_brings address (Set kind f total) = inl refl
plan_brings address (Qualifier f) = inl refl
plan_brings address (Languages f named) = inl refl
plan_brings address (Text f s named) = inl refl
plan_brings address (Configure f) = inr refl
plan_brings address (Reported f) = tt
plan_brings address (Stopped trouble) = tt

-- A device's descriptors are read at its address.
record AsksHere (address : ℕ) (value index : ℕ) (at : ℕ) (q : Setup) : Type 0 where
  here : at ≡ address
  reads : reads_descriptor (recorded q) ≡ true
  value_is : (recorded q).value ≡ value
  index_is : (recorded q).index ≡ index

abbrev PlanFor : ℕ → ℕ × ℕ → Plan → Type 0
PlanFor address asked (Begin at packet q) = AsksHere address asked.0 asked.1 at q
PlanFor address asked Success = Unit {0}
PlanFor address asked (GivesUp why) = Unit {0}

module _ (f : DescriptorFile) (address : ℕ) where
  plan_for : (place : Place) → IsOfDevice f address place → PlanFor address (asks_for f address place) (asks address place)
  plan_for First is = absurd is
  plan_for (Address first) is = absurd is
  plan_for (Device first) is = record { here = refl; reads = refl; value_is = omega arith; index_is = omega arith }
  plan_for (Header kind g) is = record { here = refl; reads = refl; value_is = omega arith; index_is = omega arith }
  plan_for (Set kind g total) is = record { here = refl; reads = refl; value_is = omega arith; index_is = omega arith }
  plan_for (Qualifier g) is = record { here = refl; reads = refl; value_is = omega arith; index_is = omega arith }
  plan_for (Languages g named) is = record { here = refl; reads = refl; value_is = omega arith; index_is = omega arith }
  plan_for (Text g s named) is = record { here = refl; reads = refl; value_is = omega arith; index_is = omega arith }
  plan_for (Configure g) is = absurd is
  plan_for (Reported g) is = absurd is
  plan_for (Stopped trouble) is = absurd is

  abbrev AtAddress : Plan → Type 0
  AtAddress (Begin at packet q) = (at ≡ 0) ⊎ (at ≡ address)
  AtAddress Success = Unit {0}
  AtAddress (GivesUp why) = Unit {0}

  plan_at : (place : Place) → AtAddress (asks address place)
  plan_at First = inl refl
  plan_at (Address first) = inl refl
  plan_at (Device first) = inr refl
  plan_at (Header kind g) = inr refl
  plan_at (Set kind g total) = inr refl
  plan_at (Qualifier g) = inr refl
  plan_at (Languages g named) = inr refl
  plan_at (Text g s named) = inr refl
  plan_at (Configure g) = inr refl
  plan_at (Reported g) = tt
  plan_at (Stopped trouble) = tt

-- ---- a transfer that has begun

nothing_yet : (place : Place) → SameBytes (nothing_kept place) []
nothing_yet First = refl
nothing_yet (Address first) = refl
nothing_yet (Device first) = refl
nothing_yet (Header kind f) = refl
nothing_yet (Set kind f total) = tt
nothing_yet (Qualifier f) = refl
nothing_yet (Languages f named) = refl
nothing_yet (Text f s named) = refl
nothing_yet (Configure f) = refl
nothing_yet (Reported f) = refl
nothing_yet (Stopped trouble) = refl

-- what a host sends
same_sent : (s sent : Sent) → WantsSent s ≡ WantsSent sent → sent ≡ s
same_sent s sent e = cc

due_token : (t : TransferView) (stage : TransferStage) (sent : Sent) → sends (addressed t.address (token_due t [] stage)) ≡ WantsSent sent → (stage ≡ stages.DataOut → ⊥)
    → (sent ≡ record { address = t.address; token = token_of t stage }) × (stage ≡ stages.Completed → ⊥)
due_token t stages.Setup sent e other = (same_sent _ sent e, λ at. let w : ⊥ = cc in w)
due_token t stages.DataIn sent e other = (same_sent _ sent e, λ at. let w : ⊥ = cc in w)
due_token t stages.DataOut sent e other = absurd (other refl)
due_token t stages.StatusOut sent e other = (same_sent _ sent e, λ at. let w : ⊥ = cc in w)
due_token t stages.StatusIn sent e other = (same_sent _ sent e, λ at. let w : ⊥ = cc in w)
due_token t stages.Completed sent e other = absurd (let w : ⊥ = cc in w)
due_token t (stages.Failed why) sent e other = absurd (let w : ⊥ = cc in w)

-- ---- a step of both

module _ (f : DescriptorFile) (size : 8 ≤ f.device.packet) (kinds_right : has_wrong_kind f ≡ false) (limits : LimitView) (range : 1 ≤ limits.address) where
  abbrev a : ℕ
  a = limits.address

  abbrev Parts : List ControlTransfer → Place → Type 0
  Parts K place = HasParts f a K place

  abbrev pub FollowedIn : List ControlTransfer → Pipes → HostPhase → Type 0
  FollowedIn K pipes ResetDue = Unit {0}
  FollowedIn K pipes (Reading place t k) = Follows t k pipes × Parts K place
  FollowedIn K pipes (Ended place) = Parts K place

  entered_followed : (K : List ControlTransfer) (pipes : Pipes) (place : Place) (plan : Plan) → Parts K place → FollowedIn K pipes (entered limits.naks place plan)
  entered_followed K pipes place (Begin address packet q) parts = ((refl, refl, nothing_yet place), parts)
  entered_followed K pipes place Success parts = parts
  entered_followed K pipes place (GivesUp why) parts = parts

  enter_followed : (K : List ControlTransfer) (pipes : Pipes) (place : Place) → Parts K place → FollowedIn K pipes (enter limits place)
  enter_followed K pipes place parts = entered_followed K pipes place (asks a place) parts

  -- with what a transaction gives
  module _ (K : List ControlTransfer) (each : AllByRecursion (Reads f) K) (o : Option ControlTransfer)
      (new : (t : ControlTransfer) → o ≡ Some t → IsSound f.device.packet (described_by f) t × IsAskedAt t.device t.setup) where
    abbrev now : List ControlTransfer
    now = current_after K (option_to_list o)

    abbrev IsHere : ℕ → Type 0
    IsHere address = (t : ControlTransfer) → o ≡ Some t → t.device ≡ address

    one_reads : (t : ControlTransfer) → o ≡ Some t → is_reading t ≡ true → Reads f t
    one_reads t e read = let known = new t e in record { is_read = read; sound = known.0; asked = known.1 }

    -- what was kept stays
    stays_now : (address : ℕ) → IsHere address → address ≡ a → (value index : ℕ) → Has K (at_address a value index) → Has now (at_address a value index)
    stays_now address here is value index has = of o refl
      where
        of : (p : Option ControlTransfer) → o ≡ p → Has (current_after K (option_to_list p)) (at_address a value index)
        of None e = has
        of (Some t) e = stays (at_address a value index) t K (same_device f size t K (one_reads t e) each) (gives (sets_address t.setup) refl) has
          where
            gives : (c : Bool) → sets_address t.setup ≡ c → sets_address t.setup ≡ false
            gives false is_so = is_so
            gives true is_so = absurd (let w : ⊥ = omega (arith, range, (new t e).1.first is_so, here t e, is) in w)

    module _ (t : TransferView) (here : IsHere t.address) (place : Place) (plan : asks a place ≡ plan_of t) (long : IsLong place) where
      at_own : IsOfDevice f a place → AsksHere a (asks_for f a place).0 (asks_for f a place).1 t.address t.request
      at_own is = let w : PlanFor a (asks_for f a place) (plan_of t) = subst (PlanFor a (asks_for f a place)) plan (plan_for f a place is) in w

      parts_now : Parts K place → Parts now place
      parts_now parts = of place plan parts
        where
          stay : (address packet : ℕ) (q : Setup) → Begin a packet q ≡ plan_of t → (value index : ℕ) → Has K (at_address a value index) → Has now (at_address a value index)
          stay address packet q e = stays_now t.address here (let w : t.address ≡ a = cc in w)

          of : (place : Place) → asks a place ≡ plan_of t → Parts K place → Parts now place
          of First e parts = tt
          of (Address early) e parts = tt
          of (Device early) e parts = tt
          of (Header kind g) e parts = parts_stay f a K now (stay a _ _ e) (Header kind g) parts
          of (Set kind g total) e parts = parts_stay f a K now (stay a _ _ e) (Set kind g total) parts
          of (Qualifier g) e parts = parts_stay f a K now (stay a _ _ e) (Qualifier g) parts
          of (Languages g named) e parts = parts_stay f a K now (stay a _ _ e) (Languages g named) parts
          of (Text g s named) e parts = parts_stay f a K now (stay a _ _ e) (Text g s named) parts
          of (Configure g) e parts = parts_stay f a K now (stay a _ _ e) (Configure g) parts
          of (Reported g) e parts = absurd (let w : ⊥ = cc in w)
          of (Stopped trouble) e parts = tt

      -- a read that is done
      module _ (count : ℕ) (k : Kept) (over : IsOver t.address count t.request k o) where
        abbrev T : ControlTransfer
        T = over.transfer

        known : IsSound f.device.packet (described_by f) T × IsAskedAt T.device T.setup
        known = new T over.over_is

        all_true : (x y z w : Bool) → x ≡ true → y ≡ true → z ≡ true → w ≡ true → (x && y && z && w) ≡ true
        all_true true true true true p q r s = refl
        all_true false y z w p q r s = false_true p
        all_true true false z w p q r s = false_true q
        all_true true true false w p q r s = false_true r
        all_true true true true false p q r s = false_true s

        same_so : (m n : ℕ) → m ≡ n → (m == n) ≡ true
        same_so m n e = grind (arith, nat_tests)

        module _ (is : IsOfDevice f a place) where
          asked : AsksHere a (asks_for f a place).0 (asks_for f a place).1 t.address t.request
          asked = at_own is

          value_is : T.setup.value ≡ (asks_for f a place).0
          value_is = ap (λ q. q.value) over.is.setup_is ∙ asked.value_is

          index_is : T.setup.index ≡ (asks_for f a place).1
          index_is = ap (λ q. q.index) over.is.setup_is ∙ asked.index_is

          reads_it : reads_descriptor T.setup ≡ true
          reads_it = ap reads_descriptor over.is.setup_is ∙ asked.reads

          front : IsFront T.data (described_by f T.setup)
          front = known.0.front reads_it (ap is_done over.done) (ap not over.is.uncut)

          kept_now : (terms : Terms) → is_whole ((asks_for f a place).0 / 256) T.data ≡ true → Has now (at_address a (asks_for f a place).0 (asks_for f a place).1)
          kept_now terms whole =
              let reading : is_reading T ≡ true =
              all_true (reads_descriptor T.setup) (is_done T.ending) (not T.is_cut) (is_whole (T.setup.value / 256) T.data) reads_it (ap is_done over.done) (ap not over.is.uncut)
              (ap (λ v. is_whole (v / 256) T.data) value_is ∙ whole) in
              let wanted_one = at_address a (asks_for f a place).0 (asks_for f a place).1 in
              let it : is_same (asked_of T) wanted_one ≡ true =
              all_true (T.bus == 0) (T.device == a) (T.setup.value == (asks_for f a place).0) (T.setup.index == (asks_for f a place).1) (same_so T.bus 0 over.is.bus_is)
              (same_so T.device a (over.is.device_is ∙ asked.here)) (same_so T.setup.value (asks_for f a place).0 value_is) (same_so T.setup.index (asks_for f a place).1 index_is) in
              subst (λ p. Has (current_after K (option_to_list p)) wanted_one) (sym over.over_is) (arrives wanted_one T K reading it)

          typed : 1 < length T.data → slice_index T.data 1 ≡ (asks_for f a place).0 / 256
          typed some =
              front_type (T.setup.value / 256) (descriptor f (T.setup.value / 256) (T.setup.value % 256) T.setup.index) T.data
              (descriptor_type f (T.setup.value / 256) (T.setup.value % 256) T.setup.index kinds_right) front some
              ∙ ap (λ v. v / 256) value_is

          described_same : (value index : ℕ) (q : Setup) → T.setup.value ≡ value → T.setup.index ≡ index → q.value ≡ value → q.index ≡ index → described_by f T.setup ≡ described_by f q
          described_same value index q v i w j =
              ap (λ x. unwrap_or (descriptor f (x / 256) (x % 256) T.setup.index) []) (v ∙ sym w)
              ∙ ap (λ x. unwrap_or (descriptor f (q.value / 256) (q.value % 256) x) []) (i ∙ sym j)

          set_front : (kind : SetKind) (n : ℕ) → asks_for f a place ≡ (type_number kind * 256 + n, 0) → IsFront T.data (described_by f (get_descriptor (type_number kind) n 0 0))
          set_front kind n same =
              subst (IsFront T.data) (described_same (type_number kind * 256 + n) 0 (get_descriptor (type_number kind) n 0 0) (value_is ∙ ap (λ p. p.0) same) (index_is ∙ ap (λ p. p.1) same) refl refl) front

        fits_at : (terms : Terms) (here : Place) → place ≡ here → Fits f a now terms here T.data
        fits_at terms (Header kind g) e = set_front (subst (IsOfDevice f a) (sym e) tt) kind (length (sets_of kind g)) (ap (asks_for f a) e)
        fits_at terms (Set kind g total) e = set_front (subst (IsOfDevice f a) (sym e) tt) kind (length (sets_of kind g)) (ap (asks_for f a) e)
        fits_at terms First e = tt
        fits_at terms (Address early) e = tt
        fits_at terms (Device early) e = tt
        fits_at terms (Qualifier g) e = tt
        fits_at terms (Languages g named) e = tt
        fits_at terms (Text g s named) e = tt
        fits_at terms (Configure g) e = tt
        fits_at terms (Reported g) e = tt
        fits_at terms (Stopped trouble) e = tt

        reads_now : (terms : Terms) → Parts now place → Parts now (read_leads terms place count k)
        reads_now terms parts = read_parts f a now terms place count k T.data over.is.bytes over.is.count_is long parts (fits_at terms place refl) (λ is some. typed is some) (λ is whole. kept_now is terms whole)

      -- where a transfer leads to
      completed_parts : (terms : Terms) (k : Kept) → Parts K place → ((t.request.length == 0) ≡ true) ⊎ IsOver t.address t.kept t.request k o → Parts now (completed_leads terms place t k)
      completed_parts terms k parts (inl none) =
          subst (λ c. Parts now (if c then done_leads place else read_leads terms place t.kept k)) (sym none) (done_parts f a now place (parts_now parts))
      completed_parts terms k parts (inr over) = of (t.request.length == 0)
        where
          of : (c : Bool) → Parts now (if c then done_leads place else read_leads terms place t.kept k)
          of true = done_parts f a now place (parts_now parts)
          of false = reads_now t.kept k over terms (parts_now parts)

      -- Nothing is passed over.
      not_spared : (texts : NamedStrings) (there : Place) → forgives_any texts ≡ false → Parts now there → Parts now (spared texts place there)
      not_spared texts there none parts = subst (λ c. Parts now (if c && ends_lacking place there then stand_in place else there)) (sym none) parts

      goes_followed : (terms : Terms) (pipes : Pipes) (k : Kept) (stage : TransferStage) → forgives_any terms.choice.strings ≡ false → Parts K place
          → t.stage ≡ stage → AfterBy stage t.address t.awaited t.kept t.request k pipes o → FollowedIn now pipes (goes_on limits terms place t k stage)
      goes_followed terms pipes k stages.Completed none parts at after =
          enter_followed now pipes (spared terms.choice.strings place (completed_leads terms place t k)) (not_spared terms.choice.strings (completed_leads terms place t k) none (completed_parts terms k parts after))
      goes_followed terms pipes k (stages.Failed whys.Stalled) none parts at after =
          enter_followed now pipes (spared terms.choice.strings place (refused_leads terms place))
          (not_spared terms.choice.strings (refused_leads terms place) none (refused_parts f a now terms place (parts_now parts)))
      goes_followed terms pipes k (stages.Failed whys.NoAnswer) none parts at after = tt
      goes_followed terms pipes k (stages.Failed whys.Busy) none parts at after = tt
      goes_followed terms pipes k (stages.Failed whys.TooLong) none parts at after = tt
      goes_followed terms pipes k (stages.Failed whys.Unexpected) none parts at after = tt
      goes_followed terms pipes k (stages.Failed whys.Malformed) none parts at after = tt
      goes_followed terms pipes k (stages.Failed whys.Memory) none parts at after = tt
      goes_followed terms pipes k stages.Setup none parts at after = (subst (λ s. FollowsBy s t.address t.awaited t.kept t.request k pipes) (sym at) after, parts_now parts)
      goes_followed terms pipes k stages.DataIn none parts at after = (subst (λ s. FollowsBy s t.address t.awaited t.kept t.request k pipes) (sym at) after, parts_now parts)
      goes_followed terms pipes k stages.DataOut none parts at after = (subst (λ s. FollowsBy s t.address t.awaited t.kept t.request k pipes) (sym at) after, parts_now parts)
      goes_followed terms pipes k stages.StatusOut none parts at after = (subst (λ s. FollowsBy s t.address t.awaited t.kept t.request k pipes) (sym at) after, parts_now parts)
      goes_followed terms pipes k stages.StatusIn none parts at after = (subst (λ s. FollowsBy s t.address t.awaited t.kept t.request k pipes) (sym at) after, parts_now parts)

    either_followed : (pipes : Pipes) (c : Bool) (x y : HostPhase) → FollowedIn now pipes x → FollowedIn now pipes y → FollowedIn now pipes (if c then x else y)
    either_followed pipes true x y p q = p
    either_followed pipes false x y p q = q

    settled_followed : (pipes : Pipes) (attempts resets : ℕ) (phase : HostPhase) → FollowedIn now pipes phase → FollowedIn now pipes (settled attempts resets phase)
    settled_followed pipes attempts resets ResetDue h = tt
    settled_followed pipes attempts resets (Reading place t k) h = h
    settled_followed pipes attempts resets (Ended First) h = h
    settled_followed pipes attempts resets (Ended (Address first)) h = h
    settled_followed pipes attempts resets (Ended (Device first)) h = h
    settled_followed pipes attempts resets (Ended (Header kind g)) h = h
    settled_followed pipes attempts resets (Ended (Set kind g total)) h = h
    settled_followed pipes attempts resets (Ended (Qualifier g)) h = h
    settled_followed pipes attempts resets (Ended (Languages g named)) h = h
    settled_followed pipes attempts resets (Ended (Text g s named)) h = h
    settled_followed pipes attempts resets (Ended (Configure g)) h = h
    settled_followed pipes attempts resets (Ended (Reported g)) h = h
    settled_followed pipes attempts resets (Ended (Stopped trouble)) h =
        either_followed pipes (blames_bus trouble.why && nat_lt resets attempts) ResetDue (Ended (Stopped trouble)) tt tt

    -- a host that takes an answer, where this is known of its transfer after it
    takes_followed : (v w : HostView) (place : Place) (t : TransferView) (old : Kept) (reply : Reply) (pipes : Pipes) → v.limits ≡ limits → forgives_any v.choice.strings ≡ false
        → Asks limits place t → IsHere t.address → Parts K place
        → ((result : Result Progress SetFault) (new : Kept) → KeepsReceived old (taken t reply).received result new → After (taken t reply).transfer new pipes o)
        → TakesIn v (Reading place t old) reply w → FollowedIn now pipes w.phase
    takes_followed v w place t old reply pipes same none asked here parts taking (phase, (result, k, keeps, inl (lacks, is, stay)), e) =
        subst (λ u. FollowedIn now pipes u.phase) (sym e) (settled_followed pipes v.limits.attempts v.resets phase (subst (FollowedIn now pipes) (sym is) tt))
    takes_followed v w place t old reply pipes same none asked here parts taking (phase, (result, k, keeps, inr (lacks, is, adds)), e) =
        let next = (taken t reply).transfer in
        let plan = asked.plan ∙ sym (plan_taken t reply) in
        let at : next.address ≡ t.address = (let w : Begin next.address next.packet next.request ≡ Begin t.address t.packet t.request = plan_taken t reply in cc) in
        subst (λ u. FollowedIn now pipes u.phase) (sym e)
        (settled_followed pipes v.limits.attempts v.resets phase
        (subst (FollowedIn now pipes) (sym is)
        (subst (λ l. FollowedIn now pipes (goes_on l (terms_of v) place next k next.stage)) (sym same)
        (goes_followed next (λ u is_so. here u is_so ∙ sym at) place plan asked.long (terms_of v) pipes k next.stage none parts refl (taking result k keeps)))))

  reset_in_followed : (K : List ControlTransfer) (pipes : Pipes) (v : HostView) (phase : HostPhase) → v.limits ≡ limits → wanted phase ≡ WantsReset → v.phase ≡ phase → FollowedIn K pipes phase
      → FollowedIn K pipes (reset_in v phase).phase
  reset_in_followed K pipes v ResetDue same e at h = subst (λ l. FollowedIn K pipes (enter l First)) (sym same) (enter_followed K pipes First tt)
  reset_in_followed K pipes v (Reading place t k) same e at h = subst (FollowedIn K pipes) (sym at) h
  reset_in_followed K pipes v (Ended place) same e at h = subst (FollowedIn K pipes) (sym at) h

  pub reset_followed : (K : List ControlTransfer) (pipes : Pipes) (v w : HostView) → v.limits ≡ limits → wanted v.phase ≡ WantsReset → w ≡ reset v → FollowedIn K pipes v.phase
      → FollowedIn K pipes w.phase
  reset_followed K pipes v w same e is h = subst (λ u. FollowedIn K pipes u.phase) (sym is) (reset_in_followed K pipes v v.phase same e refl h)

-- a host that has succeeded is at the end of its order
pub ended_parts : (f : DescriptorFile) (size : 8 ≤ f.device.packet) (right : has_wrong_kind f ≡ false) (limits : LimitView) (range : 1 ≤ limits.address) (K : List ControlTransfer) (pipes : Pipes)
    (g : DescriptorFile) (phase : HostPhase) → outcome_of phase ≡ Some (Ok g) → FollowedIn f size right limits range K pipes phase
    → HasFile f limits.address K g × HasStrings f limits.address K (named_indices g) g.strings
ended_parts f size right limits range K pipes g ResetDue e has = absurd (let w : ⊥ = cc in w)
ended_parts f size right limits range K pipes g (Reading place t k) e has = absurd (let w : ⊥ = cc in w)
ended_parts f size right limits range K pipes g (Ended First) e has = absurd (let w : ⊥ = cc in w)
ended_parts f size right limits range K pipes g (Ended (Address early)) e has = absurd (let w : ⊥ = cc in w)
ended_parts f size right limits range K pipes g (Ended (Device early)) e has = absurd (let w : ⊥ = cc in w)
ended_parts f size right limits range K pipes g (Ended (Header kind h)) e has = absurd (let w : ⊥ = cc in w)
ended_parts f size right limits range K pipes g (Ended (Set kind h total)) e has = absurd (let w : ⊥ = cc in w)
ended_parts f size right limits range K pipes g (Ended (Qualifier h)) e has = absurd (let w : ⊥ = cc in w)
ended_parts f size right limits range K pipes g (Ended (Languages h named)) e has = absurd (let w : ⊥ = cc in w)
ended_parts f size right limits range K pipes g (Ended (Text h s named)) e has = absurd (let w : ⊥ = cc in w)
ended_parts f size right limits range K pipes g (Ended (Configure h)) e has = absurd (let w : ⊥ = cc in w)
ended_parts f size right limits range K pipes g (Ended (Reported h)) e has =
    let same : h ≡ g = cc in subst (λ x. HasFile f limits.address K x × HasStrings f limits.address K (named_indices x) x.strings) same has
ended_parts f size right limits range K pipes g (Ended (Stopped trouble)) e has = absurd (let w : ⊥ = cc in w)

-- ---- a run

last_of : (P : ControlTransfer → Type 0) (xs : List ControlTransfer) (o : Option ControlTransfer) (t : ControlTransfer) → AllByRecursion P (xs ++ option_to_list o) → o ≡ Some t → P t
last_of P [] None t each e = absurd (let w : ⊥ = cc in w)
last_of P [] (Some u) t each e = let same : u ≡ t = cc in subst P same each.0
last_of P (x ∷ xs) o t each e = last_of P xs o t each.1 e

module _ (f : DescriptorFile) (kept_table : IsTable (answer f)) (list : List Fate) (times : ℕ → Option ℕ) (size : 8 ≤ f.device.packet) (kinds_right : has_wrong_kind f ≡ false)
    (limits : LimitView) (range : IsInRange limits.address limits.attempts) where
  abbrev made_of : DeviceView → Sent → Fate → Exchange
  made_of d sent fate = record { fate = fate; sent = sent; address = d.state.address; answered = answered f d sent fate }

  abbrev kept_in : List Transaction → List ControlTransfer
  kept_in ts = current_after [] (transfers_in ts)

  abbrev pub Followed : List Transaction → HostPhase → Type 0
  Followed ts phase = FollowedIn f size kinds_right limits range.address_from (kept_in ts) (pipes_in ts) phase

  came_same : (d : DeviceView) (sent : Sent) (fate : Fate) → (carried (answer f) f.device.packet d sent fate).reply ≡ brought fate (answered f d sent fate)
  came_same d sent fates.Pass = refl
  came_same d sent fates.Busy = refl
  came_same d sent fates.LostUp = refl
  came_same d sent fates.LostAck = refl
  came_same d sent fates.LostDown = refl

  small_at : (place : Place) (t : TransferView) → Asks limits place t → t.address < 256
  small_at place t asked = of (let w : AtAddress f limits.address (plan_of t) = subst (AtAddress f limits.address) asked.plan (plan_at f limits.address place) in w)
    where
      of : (t.address ≡ 0) ⊎ (t.address ≡ limits.address) → t.address < 256
      of (inl zero) = omega (arith, zero)
      of (inr own) = omega (arith, own, range.address_to)

  brings_at : (place : Place) (t : TransferView) → Asks limits place t → (direction_of t.request.request_type ≡ directions.In) ⊎ (t.request.length ≡ 0)
  brings_at place t asked = let w : PlanBrings (plan_of t) = subst PlanBrings asked.plan (plan_brings limits.address place) in w

  -- what is known before a transaction
  record Knows (ts : List Transaction) (x : Pair) : Type 0 where
    sound : Sound (pipes_in ts)
    transfers : AllByRecursion (IsSound f.device.packet (described_by f)) (transfers_in ts)
    asked : AllByRecursion (IsOf IsAskedAt) ts
    order : InOrder limits x.host.phase
    limits_are : x.host.limits ≡ limits
    needs : forgives_any x.host.choice.strings ≡ false
    followed : Followed ts x.host.phase

  each_of : (ts : List Transaction) (x : Pair) → Knows ts x → AllByRecursion (Reads f) (kept_in ts)
  each_of ts x known = reads_kept f (transfers_in ts) known.transfers (all_requests IsAskedAt ts known.asked)

  -- a transaction whose token arrives
  kept_followed : (x last : Pair) (fate : Fate) (made : IsTransactionAt (answer f) f.device.packet fate x last) (ts : List Transaction) (number : ℕ) → IsLegalSent made.sent → Knows ts x
      → IsOf IsAskedAt (transaction_of number (times number) (made_of x.device made.sent fate))
      → AllByRecursion (IsSound f.device.packet (described_by f)) (transfers_in (ts ++ transaction_of number (times number) (made_of x.device made.sent fate) ∷ []))
      → Followed (ts ++ transaction_of number (times number) (made_of x.device made.sent fate) ∷ []) last.host.phase
  kept_followed x last fate made ts number legal known is_of sounds = of x.host.phase made.due made.host known.order known.followed
    where
      came : Reply
      came = brought fate (answered f x.device made.sent fate)

      recorded_of : Sent → Transaction
      recorded_of s = received_in number (times number) s.address s.token (is_lost_ack fate) came

      of : (phase : HostPhase) → wanted phase ≡ WantsSent made.sent → TakesIn x.host phase (carried (answer f) f.device.packet x.device made.sent fate).reply last.host → InOrder limits phase
          → Followed ts phase → Followed (ts ++ recorded_of made.sent ∷ []) last.host.phase
      of ResetDue due takes order followed = absurd (let w : ⊥ = cc in w)
      of (Ended place) due takes order followed = absurd (let w : ⊥ = cc in w)
      of (Reading place t k) due takes order followed =
          subst (λ u. Followed (ts ++ u ∷ []) last.host.phase) (sym received_is)
          (subst (λ p. FollowedIn f size kinds_right limits range.address_from (kept_in (ts ++ R ∷ [])) p last.host.phase) (sym (after_push pipes_after transfer_over none_open ts R))
          (subst (λ l. FollowedIn f size kinds_right limits range.address_from l (pipes_after R (pipes_in ts)) last.host.phase) (sym kept_is)
          (takes_followed f size kinds_right limits range.address_from (kept_in ts) (each_of ts x known) o new x.host last.host place t k came (pipes_after R (pipes_in ts)) known.limits_are known.needs order here followed.1
          (taken_follows number (times number) t k (is_lost_ack fate) (pipes_in ts) known.sound (small_at place t order) t.stage refl followed.0
          (due_low f kept_table list times t t.stage made.sent due legal.bytes) (brings_at place t order) token.1 came)
          (subst (λ r. TakesIn x.host (Reading place t k) r last.host) (came_same x.device made.sent fate) takes))))
        where
          token : (made.sent ≡ record { address = t.address; token = token_of t t.stage }) × (t.stage ≡ stages.Completed → ⊥)
          token = due_token t t.stage made.sent due (λ out. let w : ⊥ = subst (λ s. FollowsBy s t.address t.awaited t.kept t.request k (pipes_in ts)) out followed.0 in w)

          R : Transaction
          R = recorded_of (record { address = t.address; token = token_of t t.stage })

          received_is : recorded_of made.sent ≡ R
          received_is = ap recorded_of token.0

          o : Option ControlTransfer
          o = transfer_over R (pipes_in ts)

          given_is : transfers_in (ts ++ R ∷ []) ≡ transfers_in ts ++ option_to_list o
          given_is = given_push pipes_after transfer_over none_open ts R

          kept_is : kept_in (ts ++ R ∷ []) ≡ current_after (kept_in ts) (option_to_list o)
          kept_is = ap (current_after []) given_is ∙ current_both [] (transfers_in ts) (option_to_list o)

          R_asked : IsOf IsAskedAt R
          R_asked = subst (IsOf IsAskedAt) received_is is_of

          new : (u : ControlTransfer) → o ≡ Some u → IsSound f.device.packet (described_by f) u × IsAskedAt u.device u.setup
          new u e = (
            last_of (IsSound f.device.packet (described_by f)) (transfers_in ts) o u
                (subst (AllByRecursion (IsSound f.device.packet (described_by f))) given_is (subst (λ r. AllByRecursion (IsSound f.device.packet (described_by f)) (transfers_in (ts ++ r ∷ []))) received_is sounds)) e,
            last_of (HasRequest IsAskedAt) (transfers_in ts) o u
                (subst (AllByRecursion (HasRequest IsAskedAt)) given_is (all_requests IsAskedAt (ts ++ R ∷ []) (all_append (IsOf IsAskedAt) ts (R ∷ []) known.asked (R_asked, tt)))) e,
          )

          here : (u : ControlTransfer) → o ≡ Some u → u.device ≡ t.address
          here u e = over_address IsAskedAt ts R u known.asked R_asked e

  -- and one whose token is lost
  lost_followed : (x last : Pair) (made : IsTransactionAt (answer f) f.device.packet fates.LostDown x last) (ts : List Transaction) → Knows ts x → Followed (ts ++ []) last.host.phase
  lost_followed x last made ts known = subst (λ us. Followed us last.host.phase) (sym (append-nil ts)) (of x.host.phase made.due made.host known.order known.followed)
    where
      of : (phase : HostPhase) → wanted phase ≡ WantsSent made.sent → TakesIn x.host phase NoReply last.host → InOrder limits phase → Followed ts phase → Followed ts last.host.phase
      of ResetDue due takes order followed = absurd (let w : ⊥ = cc in w)
      of (Ended place) due takes order followed = absurd (let w : ⊥ = cc in w)
      of (Reading place t k) due takes order followed =
          takes_followed f size kinds_right limits range.address_from (kept_in ts) (each_of ts x known) None (λ u e. absurd (let w : ⊥ = cc in w)) x.host last.host place t k NoReply (pipes_in ts) known.limits_are known.needs order
          (λ u e. absurd (let w : ⊥ = cc in w)) followed.1
          (silent_follows t k (pipes_in ts) t.stage refl followed.0
          (due_token t t.stage made.sent due (λ out. let w : ⊥ = subst (λ s. FollowsBy s t.address t.awaited t.kept t.request k (pipes_in ts)) out followed.0 in w)).1)
          takes

  one_followed : (x last : Pair) (fate : Fate) (made : IsTransactionAt (answer f) f.device.packet fate x last) (ts : List Transaction) (number : ℕ) → IsSmall (made_of x.device made.sent fate) → Knows ts x
      → (is_lost_down fate ≡ false → IsOf IsAskedAt (transaction_of number (times number) (made_of x.device made.sent fate)))
      → AllByRecursion (IsSound f.device.packet (described_by f)) (transfers_in (ts ++ one_received times number (made_of x.device made.sent fate)))
      → Followed (ts ++ one_received times number (made_of x.device made.sent fate)) last.host.phase
  one_followed x last fates.Pass made ts number small known is_of sounds = kept_followed x last fates.Pass made ts number (small refl) known (is_of refl) sounds
  one_followed x last fates.Busy made ts number small known is_of sounds = kept_followed x last fates.Busy made ts number (small refl) known (is_of refl) sounds
  one_followed x last fates.LostUp made ts number small known is_of sounds = kept_followed x last fates.LostUp made ts number (small refl) known (is_of refl) sounds
  one_followed x last fates.LostAck made ts number small known is_of sounds = kept_followed x last fates.LostAck made ts number (small refl) known (is_of refl) sounds
  one_followed x last fates.LostDown made ts number small known is_of sounds = lost_followed x last made ts known

  takes_choice : (v w : HostView) (phase : HostPhase) (reply : Reply) → TakesIn v phase reply w → w.choice ≡ v.choice
  takes_choice v w ResetDue reply is = ap (λ u. u.choice) is
  takes_choice v w (Ended place) reply is = ap (λ u. u.choice) is
  takes_choice v w (Reading place t k) reply (phase, received, e) = ap (λ u. u.choice) e

  reset_choice : (v : HostView) (phase : HostPhase) → (reset_in v phase).choice ≡ v.choice
  reset_choice v ResetDue = refl
  reset_choice v (Reading place t k) = refl
  reset_choice v (Ended place) = refl

  pub record FollowedRun (new : Pair) (earlier : List Pair) (n : ℕ) (last : Pair) : Type 0 where
    pub followed : Followed (received times 1 (exchanges f list earlier n)) last.host.phase
    pub choice : last.host.choice ≡ new.host.choice

  pub followed_run : (new : Pair) (earlier : List Pair) (n : ℕ) (last : Pair) → new.host.phase ≡ ResetDue → new.device.state ≡ states.zero → new.host.limits ≡ limits → forgives_any new.host.choice.strings ≡ false
      → RunsAt (answer f) f.device.packet list new earlier n last → AllByRecursion IsSmall (exchanges f list earlier n)
      → AllByRecursion (IsShortIn f.device.packet) (exchanges f list earlier n) → FollowedRun new earlier n last
  followed_run new [] n last due first own needs (same, none) small short = record {
    followed = subst (λ y. Followed [] y.host.phase) (sym same) (subst (Followed []) (sym due) tt);
    choice = ap (λ y. y.host.choice) same;
  }
  followed_run new (x ∷ earlier) n last due first own needs (inl (reset_is, run)) small short =
      let list_is : exchanges f list (x ∷ earlier) n ≡ exchanges f list earlier n =
      ap (λ w. exchanges f list earlier (count_before w n) ++ exchange_in f list n x.device w) reset_is.due ∙ append-nil (exchanges f list earlier n) in
      let before = followed_run new earlier n x due first own needs run (subst (AllByRecursion IsSmall) list_is small) (subst (AllByRecursion (IsShortIn f.device.packet)) list_is short) in
      let ordered = ordered_run f list new earlier n x due run in
      record {
        followed = subst (λ xs. Followed (received times 1 xs) last.host.phase) (sym list_is)
            (reset_followed f size kinds_right limits range.address_from (kept_in (received times 1 (exchanges f list earlier n))) (pipes_in (received times 1 (exchanges f list earlier n))) x.host last.host
            (ordered.limits ∙ own) reset_is.due reset_is.host before.followed);
        choice = ap (λ u. u.choice) reset_is.host ∙ reset_choice x.host x.host.phase ∙ before.choice;
      }
  followed_run new (x ∷ earlier) n last due first own needs (inr (m, same, made, run)) small short =
      let back : n - 1 ≡ m = omega (arith, same) in
      let xs = exchanges f list earlier m in
      let one = made_of x.device made.sent (fate_at list m) in
      let list_is : exchanges f list (x ∷ earlier) n ≡ xs ++ one ∷ [] =
      ap (λ w. exchanges f list earlier (count_before w n) ++ exchange_in f list n x.device w) made.due
      ∙ ap (λ k. exchanges f list earlier k ++ made_of x.device made.sent (fate_at list k) ∷ []) back in
      let all = subst (AllByRecursion IsSmall) list_is small in
      let all_short = subst (AllByRecursion (IsShortIn f.device.packet)) list_is short in
      let small_then = all_front IsSmall xs (one ∷ []) all in
      let short_then = all_front (IsShortIn f.device.packet) xs (one ∷ []) all_short in
      let before = followed_run new earlier m x due first own needs run small_then short_then in
      let right = run_right f kept_table list times new earlier m x due first run small_then short_then in
      let after = run_right f kept_table list times new (x ∷ earlier) n last due first (inr (m, same, made, run)) small short in
      let ordered = ordered_run f list new earlier m x due run in
      let ordered_then = ordered_run f list new (x ∷ earlier) n last due (inr (m, same, made, run)) in
      let ts = received times 1 xs in
      let number = 1 + length (packets_in xs) in
      let limits_are = ordered.limits ∙ own in
      let known : Knows ts x = record {
        sound = right.sound;
        transfers = right.transfers;
        asked = all_of times 1 xs ordered.asked;
        order = subst (λ l. InOrder l x.host.phase) limits_are ordered.order;
        limits_are = limits_are;
        needs = ap (λ c. forgives_any c.strings) before.choice ∙ needs;
        followed = before.followed;
      } in
      let sounds = subst (λ us. AllByRecursion (IsSound f.device.packet (described_by f)) (transfers_in us)) (received_push times 1 xs one)
      (subst (λ es. AllByRecursion (IsSound f.device.packet (described_by f)) (transfers_in (received times 1 es))) list_is after.transfers) in
      let one_asks = all_last AsksFor xs one (subst (AllByRecursion AsksFor) list_is ordered_then.asked) in
      record {
        followed = subst (λ es. Followed (received times 1 es) last.host.phase) (sym list_is)
            (subst (λ us. Followed us last.host.phase) (sym (received_push times 1 xs one))
            (one_followed x last (fate_at list m) made ts number (all_last IsSmall xs one all) known
            (λ arrived. token_asks one.sent.token one.sent.address (brought one.fate one.answered) one_asks) sounds));
        choice = takes_choice x.host last.host x.host.phase _ made.host ∙ before.choice;
      }
