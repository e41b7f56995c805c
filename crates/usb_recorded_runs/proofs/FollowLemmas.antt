-- The transfer of a host, and the one that a recorder has open at its address: the recorder has the bytes that the host has kept.
use Rattle.std.proofs.Common.{◌≡◌, ◌⊎◌, inl, inr, ◌==◌, ◌||◌, ◌<◌, ◌≤◌, ◌+◌, nat_le, nat_lt, ℕ, Bool, true, false, if◌then◌else◌, List, [], ◌∷◌, ◌++◌, length, refl, sym, ◌∙◌, ap, subst, arith, length-append}
use Rattle.std.specs.Prelude.{Option, Some, None, Result}
use Rattle.std.proofs.lemmas.Bool.Decides.{nat_tests}
use Rattle.std.proofs.lemmas.List.{get_or-set_same}
use Rattle.usb_fields.specs.declared.packet.Toggle.{Toggle}
use Rattle.usb_fields.specs.declared.packet.Toggle.TheVariants.{Data0, Data1}
use Rattle.usb_fields.specs.declared.setup.Direction.{Direction}
use Rattle.usb_fields.specs.declared.setup.Direction.TheVariants as directions
use Rattle.usb_fields.specs.declared.setup.Setup.{Setup}
use Rattle.usb_fields.specs.Packets.{AckReply, DataReply, InToken, NakReply, NoReply, OutToken, Reply, SetupToken, StallReply, Token, flipped, is_same_toggle}
use Rattle.usb_fields.specs.Setup.{direction_of, setup_bytes}
use Rattle.usb_set.specs.declared.fault.SetFault.{SetFault}
use Rattle.usb_set.specs.declared.decoder.Progress.{Progress}
use Rattle.usb_host.specs.declared.transfer.TransferStage.{TransferStage}
use Rattle.usb_host.specs.declared.transfer.TransferStage.TheVariants as stages
use Rattle.usb_host.specs.declared.why.Why.{Why}
use Rattle.usb_host.specs.declared.why.Why.TheVariants as whys
use Rattle.usb_host.specs.Keeping as kept
use Rattle.usb_host.specs.Keeping.{Keeps, Kept}
use Rattle.usb_host.specs.Steps.{KeepsReceived}
use Rattle.usb_host.specs.Transfer.{Taken, TransferView, completed, data_stage, delayed, failed, kept_packet, moved, stage_after_setup, struck, taken_at, taken_data, taken_status}
use Rattle.usb_bus.specs.Wire.{data_kind}
use Rattle.usb_capture.specs.declared.control_transfer.ControlTransfer.{ControlTransfer}
use Rattle.usb_capture.specs.declared.data_toggle.DataToggle.{DataToggle}
use Rattle.usb_capture.specs.declared.data_toggle.Part.{Part}
use Rattle.usb_capture.specs.declared.data_toggle.Part.TheVariants as parts
use Rattle.usb_capture.specs.declared.ending.Ending.TheVariants as endings
use Rattle.usb_capture.specs.declared.transaction.Transaction.{Transaction}
use Rattle.usb_capture.specs.BusTransfers.{Pipes, begun_by, closed, data_direction, ended_so, first_toggle, has_toggle, over_by, over_with_part, part_in, pipes_after, pipes_by, pipes_with, request_of, toggle_after, toggle_at, transfer_over, with_bytes, with_open}
use Rattle.usb_capture.specs.Transfers.{open_with, without}
use Rattle.usb_capture.proofs.OpenTransfers.{push_found, without_none}
use Rattle.usb_recorded_runs.proofs.PipeLemmas.{Sound}
use Rattle.usb_recorded_runs.proofs.ReceivedLemmas.{received_in}
use Rattle.usb_recorded_runs.proofs.RequestRuns.{recorded}

-- what a host has kept, beside bytes: those of a set are in its decoder
abbrev pub SameBytes : Kept → List ℕ → Type 0
SameBytes (kept.Bytes b) data_bytes = b ≡ data_bytes
SameBytes (kept.Set d over) data_bytes = Unit {0}

-- what a recorder knows of the transfer, by the host's address, how many bytes it has kept, its request and those bytes
pub record IsOf (address count : ℕ) (request : Setup) (k : Kept) (transfer : ControlTransfer) : Type 0 where
  pub bus_is : transfer.bus ≡ 0
  pub device_is : transfer.device ≡ address
  pub setup_is : transfer.setup ≡ recorded request
  pub uncut : transfer.is_cut ≡ false
  pub bytes : SameBytes k transfer.data
  pub count_is : length transfer.data ≡ count

-- It is open, and the next packet is the one that the host awaits.
pub record IsOpen (address : ℕ) (awaited : Toggle) (count : ℕ) (request : Setup) (k : Kept) (pipes : Pipes) : Type 0 where
  pub transfer : ControlTransfer
  pub found : open_with address pipes.held ≡ Some transfer
  pub is : IsOf address count request k transfer
  pub way : data_direction transfer.setup ≡ directions.In
  pub next_is : (toggle_at address pipes).next ≡ awaited
  pub low : request.length < 65536

-- by the stage of the host's transfer
abbrev pub FollowsBy : TransferStage → ℕ → Toggle → ℕ → Setup → Kept → Pipes → Type 0
FollowsBy stages.Setup address awaited count request k pipes = (awaited ≡ Data1) × (count ≡ 0) × SameBytes k []
FollowsBy stages.DataIn address awaited count request k pipes = IsOpen address awaited count request k pipes
FollowsBy stages.DataOut address awaited count request k pipes = ⊥
FollowsBy stages.StatusOut address awaited count request k pipes = IsOpen address awaited count request k pipes
FollowsBy stages.StatusIn address awaited count request k pipes = (request.length == 0) ≡ true
FollowsBy stages.Completed address awaited count request k pipes = Unit {0}
FollowsBy (stages.Failed why) address awaited count request k pipes = Unit {0}

abbrev pub Follows : TransferView → Kept → Pipes → Type 0
Follows t k pipes = FollowsBy t.stage t.address t.awaited t.kept t.request k pipes

-- and after a transaction, with which this one is over: a read that has completed is done
pub record IsOver (address count : ℕ) (request : Setup) (k : Kept) (over : Option ControlTransfer) : Type 0 where
  pub transfer : ControlTransfer
  pub over_is : over ≡ Some transfer
  pub is : IsOf address count request k transfer
  pub done : transfer.ending ≡ endings.Done

abbrev pub AfterBy : TransferStage → ℕ → Toggle → ℕ → Setup → Kept → Pipes → Option ControlTransfer → Type 0
AfterBy stages.Completed address awaited count request k pipes over = ((request.length == 0) ≡ true) ⊎ IsOver address count request k over
AfterBy stages.Setup address awaited count request k pipes over = FollowsBy stages.Setup address awaited count request k pipes
AfterBy stages.DataIn address awaited count request k pipes over = FollowsBy stages.DataIn address awaited count request k pipes
AfterBy stages.DataOut address awaited count request k pipes over = FollowsBy stages.DataOut address awaited count request k pipes
AfterBy stages.StatusOut address awaited count request k pipes over = FollowsBy stages.StatusOut address awaited count request k pipes
AfterBy stages.StatusIn address awaited count request k pipes over = FollowsBy stages.StatusIn address awaited count request k pipes
AfterBy (stages.Failed why) address awaited count request k pipes over = Unit {0}

abbrev pub After : TransferView → Kept → Pipes → Option ControlTransfer → Type 0
After t k pipes over = AfterBy t.stage t.address t.awaited t.kept t.request k pipes over

same_toggles : (toggle next : Toggle) → has_toggle (data_kind toggle) next ≡ is_same_toggle toggle next
same_toggles Data0 Data0 = refl
same_toggles Data0 Data1 = refl
same_toggles Data1 Data0 = refl
same_toggles Data1 Data1 = refl

-- which packet a host sends by the stage of its transfer
abbrev pub token_of : TransferView → TransferStage → Token
token_of t stages.Setup = SetupToken (setup_bytes t.request)
token_of t stages.StatusOut = OutToken Data1 []
token_of t stage = InToken

-- ---- what a recorder makes of a transaction of the open transfer

module _ (T : Transaction) (pipes : Pipes) (sound : Sound pipes) (small : T.to.address < 256) (transfer : ControlTransfer) (found : open_with T.to.address pipes.held ≡ Some transfer)
    (no_request : request_of T ≡ None) where
  abbrev part_now : Part
  part_now = part_in (data_direction transfer.setup) (toggle_at T.to.address pipes) T

  after_is : (part : Part) → part_now ≡ part
      → pipes_after T pipes ≡ pipes_with part T transfer (toggle_after part T (toggle_at T.to.address pipes)) (closed T.to.address pipes)
  after_is part is =
      ap (λ r. pipes_by r (open_with T.to.address pipes.held) T (closed T.to.address pipes)) no_request
      ∙ ap (λ o. pipes_by None o T (closed T.to.address pipes)) found
      ∙ ap (λ p. pipes_with p T transfer (toggle_after p T (toggle_at T.to.address pipes)) (closed T.to.address pipes)) is

  pub over_is : (part : Part) → part_now ≡ part → transfer_over T pipes ≡ over_with_part part T transfer
  over_is part is =
      ap (λ r. over_by r (open_with T.to.address pipes.held) T pipes) no_request
      ∙ ap (λ o. over_by None o T pipes) found
      ∙ ap (λ p. over_with_part p T transfer) is

  -- held again
  held_again : (new : ControlTransfer) (toggle : DataToggle) → open_with T.to.address (with_open T.to.address new toggle (closed T.to.address pipes)).held ≡ Some new
  held_again new toggle = push_found T.to.address (without T.to.address pipes.held) new (without_none T.to.address pipes.held sound.once)

  toggle_again : (new : ControlTransfer) (toggle : DataToggle) → toggle_at T.to.address (with_open T.to.address new toggle (closed T.to.address pipes)) ≡ toggle
  toggle_again new toggle = get_or-set_same pipes.toggles T.to.address toggle first_toggle (subst (λ n. T.to.address < n) (sym sound.room) small)

  module _ (awaited : Toggle) (count : ℕ) (request : Setup) (k : Kept) (is : IsOf T.to.address count request k transfer) (way : data_direction transfer.setup ≡ directions.In)
      (next_is : (toggle_at T.to.address pipes).next ≡ awaited) (low : request.length < 65536) where
    -- It goes on as it was.
    stays_open : part_now ≡ parts.Neither → IsOpen T.to.address awaited count request k (pipes_after T pipes)
    stays_open neither =
        let toggle = toggle_after parts.Neither T (toggle_at T.to.address pipes) in
        subst (IsOpen T.to.address awaited count request k) (sym (after_is parts.Neither neither))
        (record {
          transfer = transfer;
          found = held_again transfer toggle;
          is = is;
          way = way;
          next_is = ap (λ g. g.next) (toggle_again transfer toggle) ∙ next_is;
          low = low;
        })

-- ---- a packet of the data stage

record Grows (bytes : List ℕ) (transfer new : ControlTransfer) : Type 0 where
  bus_same : new.bus ≡ transfer.bus
  device_same : new.device ≡ transfer.device
  setup_same : new.setup ≡ transfer.setup
  cut_same : new.is_cut ≡ transfer.is_cut
  data_is : new.data ≡ transfer.data ++ bytes

grows : (bytes : List ℕ) (transfer : ControlTransfer) → length transfer.data + length bytes ≤ 65535 → Grows bytes transfer (with_bytes bytes transfer)
grows bytes transfer few = of (nat_le (length transfer.data + length bytes) 65535) _ _ (is_few (length transfer.data + length bytes) few)
    (record { bus_same = refl; device_same = refl; setup_same = refl; cut_same = refl; data_is = refl })
  where
    is_few : (n : ℕ) → n ≤ 65535 → nat_le n 65535 ≡ true
    is_few n few = grind (arith, nat_tests)

    of : (c : Bool) (x y : ControlTransfer) → c ≡ true → Grows bytes transfer x → Grows bytes transfer (if c then x else y)
    of true x y e g = g
    of false x y e g = absurd (let w : ⊥ = cc in w)

kept_more : (k new : Kept) (bytes data_bytes : List ℕ) (result : Result Progress SetFault) → Keeps k bytes result new → SameBytes k data_bytes → SameBytes new (data_bytes ++ bytes)
kept_more (kept.Bytes b) (kept.Bytes c) bytes data_bytes result keeps same = keeps ∙ ap (λ x. x ++ bytes) same
kept_more (kept.Bytes b) (kept.Set d over) bytes data_bytes result keeps same = tt
kept_more (kept.Set d over) (kept.Bytes c) bytes data_bytes result keeps same = absurd keeps
kept_more (kept.Set d over) (kept.Set e now) bytes data_bytes result keeps same = tt

-- ---- a transaction of both

module _ (number : ℕ) (time : Option ℕ) (t : TransferView) (k : Kept) (lost : Bool) (pipes : Pipes) (sound : Sound pipes) (small : t.address < 256) where
  abbrev pub received_by : TransferStage → Reply → Transaction
  received_by stage came = received_in number time t.address (token_of t stage) lost came

  abbrev pub pipes_then : TransferStage → Reply → Pipes
  pipes_then stage came = pipes_after (received_by stage came) pipes

  abbrev pub over_then : TransferStage → Reply → Option ControlTransfer
  over_then stage came = transfer_over (received_by stage came) pipes

  abbrev pub Taking : TransferStage → Reply → Taken → Type 0
  Taking stage came by = (result : Result Progress SetFault) (new : Kept) → KeepsReceived k by.received result new → After by.transfer new (pipes_then stage came) (over_then stage came)

  module _ (stage : TransferStage) (came : Reply) where
    either_taking : (c : Bool) (x y : Taken) → (c ≡ true → Taking stage came x) → (c ≡ false → Taking stage came y) → Taking stage came (if c then x else y)
    either_taking true x y p q = p refl
    either_taking false x y p q = q refl

    failed_taking : (why : Why) → Taking stage came (failed t why)
    failed_taking why result new same = tt

    -- Nothing changes.
    abbrev Still : Type 0
    Still = (new : Kept) → new ≡ k → AfterBy t.stage t.address t.awaited t.kept t.request new (pipes_then stage came) (over_then stage came)

    struck_taking : Still → Taking stage came (struck t)
    struck_taking still = either_taking (nat_lt t.strikes 2) _ (failed t whys.NoAnswer) (λ c result new same. still new same) (λ c. failed_taking whys.NoAnswer)

    delayed_taking : Still → Taking stage came (delayed t)
    delayed_taking still = either_taking (nat_lt t.nak_count t.naks) _ (failed t whys.Busy) (λ c result new same. still new same) (λ c. failed_taking whys.Busy)

    data_still : t.stage ≡ stages.DataIn → IsOpen t.address t.awaited t.kept t.request k (pipes_then stage came) → Still
    data_still at opens new same =
        subst (λ s. AfterBy s t.address t.awaited t.kept t.request new (pipes_then stage came) (over_then stage came)) (sym at)
        (subst (λ n. IsOpen t.address t.awaited t.kept t.request n (pipes_then stage came)) (sym same) opens)

    status_still : t.stage ≡ stages.StatusOut → IsOpen t.address t.awaited t.kept t.request k (pipes_then stage came) → Still
    status_still at opens new same =
        subst (λ s. AfterBy s t.address t.awaited t.kept t.request new (pipes_then stage came) (over_then stage came)) (sym at)
        (subst (λ n. IsOpen t.address t.awaited t.kept t.request n (pipes_then stage came)) (sym same) opens)

    setup_still : t.stage ≡ stages.Setup → (t.awaited ≡ Data1) × (t.kept ≡ 0) × SameBytes k [] → Still
    setup_still at follows new same =
        subst (λ s. AfterBy s t.address t.awaited t.kept t.request new (pipes_then stage came) (over_then stage came)) (sym at)
        (follows.0, follows.1, subst (λ n. SameBytes n []) (sym same) follows.2)

    none_still : t.stage ≡ stages.StatusIn → (t.request.length == 0) ≡ true → Still
    none_still at none new same = subst (λ s. AfterBy s t.address t.awaited t.kept t.request new (pipes_then stage came) (over_then stage came)) (sym at) none

  -- ---- after the ACK of a SETUP

  setup_taking : (t.awaited ≡ Data1) × (t.kept ≡ 0) × SameBytes k [] → t.request.length < 65536 → (direction_of t.request.request_type ≡ directions.In) ⊎ (t.request.length ≡ 0)
      → Taking stages.Setup AckReply (moved t (stage_after_setup t.request))
  setup_taking follows low brings result new same = of (t.request.length == 0) (direction_of t.request.request_type) refl refl
    where
      T : Transaction
      T = received_by stages.Setup AckReply

      begun_so : ControlTransfer
      begun_so = begun_by T (recorded t.request)

      same_length : (recorded t.request).length ≡ t.request.length
      same_length = omega arith

      some : (n : ℕ) → n ≡ 0 → (n == 0) ≡ false → ⊥
      some n none e = grind (arith, nat_tests)

      not_out : (direction_of t.request.request_type ≡ directions.In) ⊎ (t.request.length ≡ 0) → (t.request.length == 0) ≡ false → direction_of t.request.request_type ≡ directions.Out → ⊥
      not_out (inl is) e way = (let same : directions.In ≡ directions.Out = sym is ∙ way in let w : ⊥ = cc in w)
      not_out (inr none) e way = some t.request.length none e

      of : (none : Bool) (direction : Direction) → (t.request.length == 0) ≡ none → direction_of t.request.request_type ≡ direction
          → AfterBy (if none then stages.StatusIn else data_stage direction) t.address t.awaited t.kept t.request new (pipes_then stages.Setup AckReply) (over_then stages.Setup AckReply)
      of true direction e way = e
      of false directions.Out e way = absurd (not_out brings e way)
      of false directions.In e way = record {
        transfer = begun_so;
        found = push_found t.address (without t.address pipes.held) begun_so (without_none t.address pipes.held sound.once);
        is = record { bus_is = refl; device_is = refl; setup_is = refl; uncut = refl; bytes = subst (λ n. SameBytes n []) (sym same) follows.2; count_is = sym follows.1 };
        way =
            ap (λ n. if n == 0 then directions.Out else direction_of t.request.request_type) same_length
            ∙ ap (λ c. if c then directions.Out else direction_of t.request.request_type) e ∙ way;
        next_is = ap (λ g. g.next) (get_or-set_same pipes.toggles t.address first_toggle first_toggle (subst (λ n. t.address < n) (sym sound.room) small)) ∙ sym follows.0;
        low = low;
      }

  -- ---- where a transfer is open

  module _ (o : IsOpen t.address t.awaited t.kept t.request k pipes) where
    abbrev way_of : Direction
    way_of = data_direction o.transfer.setup

    abbrev PartIs : TransferStage → Reply → Part → Type 0
    PartIs stage came part = part_in way_of (toggle_at t.address pipes) (received_by stage came) ≡ part

    -- It goes on as it was.
    neither : (stage : TransferStage) (came : Reply) → request_of (received_by stage came) ≡ None → PartIs stage came parts.Neither
        → IsOpen t.address t.awaited t.kept t.request k (pipes_then stage came)
    neither stage came no_request is =
        stays_open (received_by stage came) pipes sound small o.transfer o.found no_request t.awaited t.kept t.request k o.is o.way o.next_is o.low is

    -- the part that a data packet is
    data_part : (toggle : Toggle) (bytes : List ℕ) (is_next : Bool) → has_toggle (data_kind toggle) (toggle_at t.address pipes).next ≡ is_next
        → PartIs stages.DataIn (DataReply toggle bytes) (if is_next then parts.Data else parts.Neither)
    data_part toggle bytes is_next e =
        ap (λ d. part_in d (toggle_at t.address pipes) (received_by stages.DataIn (DataReply toggle bytes))) o.way ∙ of lost ∙ ap (λ c. if c then parts.Data else parts.Neither) e
      where
        of : (lost : Bool) → part_in directions.In (toggle_at t.address pipes) (received_in number time t.address InToken lost (DataReply toggle bytes))
            ≡ (if has_toggle (data_kind toggle) (toggle_at t.address pipes).next then parts.Data else parts.Neither)
        of true = refl
        of false = refl

    next_same : (toggle : Toggle) → has_toggle (data_kind toggle) (toggle_at t.address pipes).next ≡ is_same_toggle toggle t.awaited
    next_same toggle = same_toggles toggle (toggle_at t.address pipes).next ∙ ap (is_same_toggle toggle) o.next_is

    -- The next packet is kept by both.
    kept_taking : (toggle : Toggle) (bytes : List ℕ) → is_same_toggle toggle t.awaited ≡ true → t.kept + length bytes ≤ t.request.length
        → Taking stages.DataIn (DataReply toggle bytes) (kept_packet t bytes)
    kept_taking toggle bytes is few result new keeps = of (nat_lt (length bytes) t.packet || (t.kept + length bytes == t.request.length))
      where
        T : Transaction
        T = received_by stages.DataIn (DataReply toggle bytes)

        grown : Grows bytes o.transfer (with_bytes bytes o.transfer)
        grown = grows bytes o.transfer (omega (arith, few, o.low, o.is.count_is))

        toggle_now : DataToggle
        toggle_now = toggle_after parts.Data T (toggle_at t.address pipes)

        part : PartIs stages.DataIn (DataReply toggle bytes) parts.Data
        part = data_part toggle bytes true (next_same toggle ∙ is)

        opens : IsOpen t.address (flipped t.awaited) (t.kept + length bytes) t.request new (pipes_then stages.DataIn (DataReply toggle bytes))
        opens =
            subst (IsOpen t.address (flipped t.awaited) (t.kept + length bytes) t.request new) (sym (after_is T pipes sound small o.transfer o.found refl parts.Data part))
            (record {
              transfer = with_bytes bytes o.transfer;
              found = held_again T pipes sound small o.transfer o.found refl (with_bytes bytes o.transfer) toggle_now;
              is = record {
                bus_is = grown.bus_same ∙ o.is.bus_is;
                device_is = grown.device_same ∙ o.is.device_is;
                setup_is = grown.setup_same ∙ o.is.setup_is;
                uncut = grown.cut_same ∙ o.is.uncut;
                bytes = subst (SameBytes new) (sym grown.data_is) (kept_more k new bytes o.transfer.data result keeps o.is.bytes);
                count_is = ap length grown.data_is ∙ length-append o.transfer.data bytes ∙ ap (λ n. n + length bytes) o.is.count_is;
              };
              way = ap data_direction grown.setup_same ∙ o.way;
              next_is = ap (λ g. g.next) (toggle_again T pipes sound small o.transfer o.found refl (with_bytes bytes o.transfer) toggle_now) ∙ ap flipped o.next_is;
              low = o.low;
            })

        of : (last : Bool) → AfterBy (if last then stages.StatusOut else stages.DataIn) t.address (flipped t.awaited) (t.kept + length bytes) t.request new
            (pipes_then stages.DataIn (DataReply toggle bytes)) (over_then stages.DataIn (DataReply toggle bytes))
        of true = opens
        of false = opens

    not_more : (m n : ℕ) → nat_lt m n ≡ false → n ≤ m
    not_more m n e = grind (arith, nat_tests)

    data_taking : t.stage ≡ stages.DataIn → (toggle : Toggle) (bytes : List ℕ) → Taking stages.DataIn (DataReply toggle bytes) (taken_data t toggle bytes)
    data_taking at toggle bytes =
        let stage = stages.DataIn in
        let came = DataReply toggle bytes in
        either_taking stage came (nat_lt t.packet (length bytes)) (failed t whys.TooLong) _ (λ c. failed_taking stage came whys.TooLong)
        (λ c. either_taking stage came (is_same_toggle toggle t.awaited) _ (struck t)
        (λ is. either_taking stage came (nat_lt t.request.length (t.kept + length bytes)) (failed t whys.TooLong) (kept_packet t bytes) (λ many. failed_taking stage came whys.TooLong)
        (λ few. kept_taking toggle bytes is (not_more t.request.length (t.kept + length bytes) few)))
        (λ other. struck_taking stage came (data_still stage came at (neither stage came refl (data_part toggle bytes false (next_same toggle ∙ other))))))

    -- The status stage ends the transfer.
    done_taking : Taking stages.StatusOut AckReply (completed t)
    done_taking result new same = inr (record {
      transfer = ended_so T endings.Done o.transfer;
      over_is = over_is T pipes sound small o.transfer o.found refl (parts.Status endings.Done) part;
      is = record {
        bus_is = o.is.bus_is;
        device_is = o.is.device_is;
        setup_is = o.is.setup_is;
        uncut = o.is.uncut;
        bytes = subst (λ n. SameBytes n o.transfer.data) (sym same) o.is.bytes;
        count_is = o.is.count_is;
      };
      done = refl;
    })
      where
        T : Transaction
        T = received_by stages.StatusOut AckReply

        part : PartIs stages.StatusOut AckReply (parts.Status endings.Done)
        part = ap (λ d. part_in d (toggle_at t.address pipes) (received_by stages.StatusOut AckReply)) o.way

    status_neither : (came : Reply) → part_in directions.In (toggle_at t.address pipes) (received_by stages.StatusOut came) ≡ parts.Neither → PartIs stages.StatusOut came parts.Neither
    status_neither came e = ap (λ d. part_in d (toggle_at t.address pipes) (received_by stages.StatusOut came)) o.way ∙ e

  in_taking : t.stage ≡ stages.DataIn → IsOpen t.address t.awaited t.kept t.request k pipes → (came : Reply) → Taking stages.DataIn came (taken_at t stages.DataIn came)
  in_taking at o AckReply = failed_taking stages.DataIn AckReply whys.Unexpected
  in_taking at o NakReply = delayed_taking stages.DataIn NakReply (data_still stages.DataIn NakReply at (neither o stages.DataIn NakReply refl refl))
  in_taking at o StallReply = failed_taking stages.DataIn StallReply whys.Stalled
  in_taking at o (DataReply toggle bytes) = data_taking o at toggle bytes
  in_taking at o NoReply = struck_taking stages.DataIn NoReply (data_still stages.DataIn NoReply at (neither o stages.DataIn NoReply refl refl))

  out_taking : t.stage ≡ stages.StatusOut → IsOpen t.address t.awaited t.kept t.request k pipes → (came : Reply) → Taking stages.StatusOut came (taken_at t stages.StatusOut came)
  out_taking at o AckReply = done_taking o
  out_taking at o NakReply = delayed_taking stages.StatusOut NakReply (status_still stages.StatusOut NakReply at (neither o stages.StatusOut NakReply refl (status_neither o NakReply refl)))
  out_taking at o StallReply = failed_taking stages.StatusOut StallReply whys.Stalled
  out_taking at o (DataReply toggle bytes) = failed_taking stages.StatusOut (DataReply toggle bytes) whys.Unexpected
  out_taking at o NoReply = struck_taking stages.StatusOut NoReply (status_still stages.StatusOut NoReply at (neither o stages.StatusOut NoReply refl (status_neither o NoReply refl)))

  empty_taking : (toggle : Toggle) (bytes came_bytes : List ℕ) → t.stage ≡ stages.StatusIn → (t.request.length == 0) ≡ true
      → Taking stages.StatusIn (DataReply toggle came_bytes) (taken_status t toggle bytes)
  empty_taking Data0 (byte ∷ bytes) came at none = failed_taking stages.StatusIn (DataReply Data0 came) whys.TooLong
  empty_taking Data1 (byte ∷ bytes) came at none = failed_taking stages.StatusIn (DataReply Data1 came) whys.TooLong
  empty_taking Data0 [] came at none = struck_taking stages.StatusIn (DataReply Data0 came) (none_still stages.StatusIn (DataReply Data0 came) at none)
  empty_taking Data1 [] came at none = λ result new same. inl none

  none_taking : t.stage ≡ stages.StatusIn → (t.request.length == 0) ≡ true → (came : Reply) → Taking stages.StatusIn came (taken_at t stages.StatusIn came)
  none_taking at none AckReply = failed_taking stages.StatusIn AckReply whys.Unexpected
  none_taking at none NakReply = delayed_taking stages.StatusIn NakReply (none_still stages.StatusIn NakReply at none)
  none_taking at none StallReply = failed_taking stages.StatusIn StallReply whys.Stalled
  none_taking at none (DataReply toggle bytes) = empty_taking toggle bytes bytes at none
  none_taking at none NoReply = struck_taking stages.StatusIn NoReply (none_still stages.StatusIn NoReply at none)

  first_taking : t.stage ≡ stages.Setup → (t.awaited ≡ Data1) × (t.kept ≡ 0) × SameBytes k [] → t.request.length < 65536
      → (direction_of t.request.request_type ≡ directions.In) ⊎ (t.request.length ≡ 0) → (came : Reply) → Taking stages.Setup came (taken_at t stages.Setup came)
  first_taking at follows low brings AckReply = setup_taking follows low brings
  first_taking at follows low brings NakReply = failed_taking stages.Setup NakReply whys.Unexpected
  first_taking at follows low brings StallReply = failed_taking stages.Setup StallReply whys.Unexpected
  first_taking at follows low brings (DataReply toggle bytes) = failed_taking stages.Setup (DataReply toggle bytes) whys.Unexpected
  first_taking at follows low brings NoReply = struck_taking stages.Setup NoReply (setup_still stages.Setup NoReply at follows)

  -- What is known of a transfer under way is known after its next transaction.
  pub taken_follows : (stage : TransferStage) → t.stage ≡ stage → FollowsBy stage t.address t.awaited t.kept t.request k pipes
      → (stage ≡ stages.Setup → t.request.length < 65536) → (direction_of t.request.request_type ≡ directions.In) ⊎ (t.request.length ≡ 0) → (stage ≡ stages.Completed → ⊥) → (came : Reply) → Taking stage came (taken_at t stage came)
  taken_follows stages.Setup at follows low brings going came = first_taking at follows (low refl) brings came
  taken_follows stages.DataIn at follows low brings going came = in_taking at follows came
  taken_follows stages.DataOut at follows low brings going came = absurd follows
  taken_follows stages.StatusOut at follows low brings going came = out_taking at follows came
  taken_follows stages.StatusIn at follows low brings going came = none_taking at follows came
  taken_follows stages.Completed at follows low brings going came = absurd (going refl)
  taken_follows (stages.Failed why) at follows low brings going came = λ result new same. subst (λ s. AfterBy s t.address t.awaited t.kept t.request new (pipes_then (stages.Failed why) came) (over_then (stages.Failed why) came)) (sym at) tt

-- ---- a transaction of which nothing is received

module _ (t : TransferView) (k : Kept) (pipes : Pipes) where
  abbrev Silent : Taken → Type 0
  Silent by = (result : Result Progress SetFault) (new : Kept) → KeepsReceived k by.received result new → After by.transfer new pipes None

  either_silent : (c : Bool) (x y : Taken) → Silent x → Silent y → Silent (if c then x else y)
  either_silent true x y p q = p
  either_silent false x y p q = q

  struck_silent : ((new : Kept) → new ≡ k → AfterBy t.stage t.address t.awaited t.kept t.request new pipes None) → Silent (struck t)
  struck_silent still = either_silent (nat_lt t.strikes 2) _ (failed t whys.NoAnswer) (λ result new same. still new same) (λ result new same. tt)

  open_silent : (stage : TransferStage) → t.stage ≡ stage → ((n : Kept) → IsOpen t.address t.awaited t.kept t.request n pipes → AfterBy stage t.address t.awaited t.kept t.request n pipes None)
      → IsOpen t.address t.awaited t.kept t.request k pipes → Silent (struck t)
  open_silent stage at is o = struck_silent (λ new same. subst (λ s. AfterBy s t.address t.awaited t.kept t.request new pipes None) (sym at) (is new (subst (λ n. IsOpen t.address t.awaited t.kept t.request n pipes) (sym same) o)))

  pub silent_follows : (stage : TransferStage) → t.stage ≡ stage → FollowsBy stage t.address t.awaited t.kept t.request k pipes → (stage ≡ stages.Completed → ⊥) → Silent (taken_at t stage NoReply)
  silent_follows stages.Setup at follows going =
      struck_silent (λ new same. subst (λ s. AfterBy s t.address t.awaited t.kept t.request new pipes None) (sym at) (follows.0, follows.1, subst (λ n. SameBytes n []) (sym same) follows.2))
  silent_follows stages.DataIn at follows going = open_silent stages.DataIn at (λ n o. o) follows
  silent_follows stages.DataOut at follows going = absurd follows
  silent_follows stages.StatusOut at follows going = open_silent stages.StatusOut at (λ n o. o) follows
  silent_follows stages.StatusIn at follows going = struck_silent (λ new same. subst (λ s. AfterBy s t.address t.awaited t.kept t.request new pipes None) (sym at) follows)
  silent_follows stages.Completed at follows going = absurd (going refl)
  silent_follows (stages.Failed why) at follows going = λ result new same. subst (λ s. AfterBy s t.address t.awaited t.kept t.request new pipes None) (sym at) tt
