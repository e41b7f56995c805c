-- The step of a run that is a transaction: what is known of the transfer that is open, before it and after it.
use Rattle.std.proofs.Common.{◌≡◌, ◌⊎◌, inl, inr, ◌==◌, ◌||◌, ◌<◌, ◌≤◌, ◌+◌, ◌/◌, nat_lt, ℕ, suc, Bool, true, false, if◌then◌else◌, List, [], ◌∷◌, ◌++◌, length, take, drop, refl, sym, ◌∙◌, ap, subst, arith, length-append}
use Rattle.std.specs.Prelude.{Option, Some, slice_index}
use Rattle.std.proofs.lemmas.Bool.Decides.{nat_tests}
use Rattle.std.proofs.lemmas.List.{append-nil}
use Rattle.usb_fields.specs.declared.packet.Toggle.{Toggle}
use Rattle.usb_fields.specs.declared.packet.Toggle.TheVariants.{Data0, Data1}
use Rattle.usb_fields.specs.declared.setup.Direction.TheVariants as directions
use Rattle.usb_fields.specs.declared.setup.Setup.{Setup}
use Rattle.usb_fields.specs.Packets.{AckReply, DataReply, InToken, NakReply, NoReply, OutToken, Reply, Sent, SetupToken, StallReply, Token, flipped, is_same_toggle, joined, packets, toggle_of}
use Rattle.usb_fields.specs.Setup.{direction_of, setup_bytes, setup_of}
use Rattle.usb_host.specs.declared.transfer.TransferStage.{TransferStage}
use Rattle.usb_host.specs.declared.transfer.TransferStage.TheVariants as stages
use Rattle.usb_host.specs.declared.why.Why.{Why}
use Rattle.usb_host.specs.declared.why.Why.TheVariants as whys
use Rattle.usb_host.specs.Steps.{WantsSent, sends}
use Rattle.usb_host.specs.Transfer.{Taken, TransferView, addressed, begun, data_stage, delayed, failed, kept_packet, stage_after_setup, struck, moved, taken_at, taken_data, taken_status, token_due, with_packet, completed}
use Rattle.usb_device.specs.declared.state.State.{State}
use Rattle.usb_device.specs.Requests.{Bytes, Done, Outcome, Refused, Takes}
use Rattle.usb_device.specs.Step.{DeviceStage, DeviceView, Sending, Served, StatusIn, acked, acked_stage, acked_state, next_stage, replies, served, served_here}
use Rattle.usb_device.specs.Step as device
use Rattle.usb_bus.specs.Beside.{IsTable}
use Rattle.usb_bus.specs.declared.fate.Fate.{Fate}
use Rattle.usb_bus.specs.declared.fate.Fate.TheVariants as fates
use Rattle.usb_bus.specs.Bus.{acknowledges, brought}
use Rattle.usb_bus.specs.Damaged.{is_ready}
use Rattle.usb_bus.specs.Exchanges.{is_lost_ack, is_lost_down}
use Rattle.usb_bus.specs.Wire.{data_kind}
use Rattle.usb_capture.specs.declared.control_transfer.ControlTransfer.{ControlTransfer}
use Rattle.usb_capture.specs.declared.ending.Ending.TheVariants as endings
use Rattle.usb_capture.specs.declared.ending.Ending.TheVariants.{Unseen}
use Rattle.usb_capture.specs.declared.transaction.Transaction.{Transaction}
use Rattle.usb_capture.specs.BusTransfers.{Going, Pipes, begun_by, data_direction, ended_so, first_toggle, has_toggle, pipes_after, toggle_at, transfer_over, with_bytes}
use Rattle.usb_capture.specs.Events.{setup_at}
use Rattle.usb_capture.specs.Findings.{reads_status}
use Rattle.usb_capture.specs.PacketFindings.{has_wrong_toggle, is_early}
use Rattle.usb_recorded_runs.proofs.HostLemmas.{IsAsked, MayCome, SizeIsKnown}
use Rattle.usb_recorded_runs.proofs.PipeLemmas.{OpenAt, Sound}
use Rattle.usb_host.specs.Read.{get_descriptor}
use Rattle.usb_capture.specs.Readings.{reads_descriptor}
use Rattle.usb_recorded_runs.proofs.PlaceLemmas.{FirstTells}
use Rattle.usb_recorded_runs.proofs.DeviceLemmas.{Follows, IsElsewhere, IsEmpty, IsNext, IsSent, acked_flips, acked_so, in_toggle, none_some, served_sends}
use Rattle.usb_recorded_runs.proofs.DirectionLemmas.{Lacks, NotMisdirected, data_right, status_in_other, status_out_other, status_right}
use Rattle.usb_recorded_runs.proofs.FrontLemmas.{front_more}
use Rattle.usb_recorded_runs.proofs.ReceivedLemmas.{EndsWhole, Goes, IsNoData, NotEarly, Right, bytes_cases, bytes_count, bytes_cut, bytes_keep, bytes_total, received_in, packet_in, quiet_in, right_at, setup_right, status_in, status_out, with_again, with_next}
use Rattle.usb_recorded_runs.proofs.SizeLemmas.{Fronts, IfOver, IsSound, Tells, Reported, nothing_tells, reported_over, unseen_over}
use Rattle.usb_recorded_runs.proofs.TogetherLemmas.{HasEnded, IsCarriedOut, IsReached, IsRefused, IsWhole, TogetherAfter, TogetherBy, Took, after_answer, begun_together, data_together, done_ended, less_so, not_less, not_same, or_cases, same_so, sent_length, sent_setup, stall_ended, status_carries, status_in_together, status_out_together, unseen_ended}

-- which way data go by the request that was recorded
none_way : (q : Setup) → q.length ≡ 0 → data_direction (setup_at (setup_bytes q) 0) ≡ directions.Out
none_way q none = ap (λ n. if n == 0 then directions.Out else direction_of q.request_type) (sent_length q ∙ none)

some_way : (q : Setup) → (q.length == 0) ≡ false → direction_of q.request_type ≡ directions.In → data_direction (setup_at (setup_bytes q) 0) ≡ directions.In
some_way q some way =
    ap (λ n. if n == 0 then directions.Out else direction_of q.request_type) (sent_length q)
    ∙ ap (λ c. if c then directions.Out else direction_of q.request_type) some ∙ way

some_length : (n : ℕ) → (n == 0) ≡ false → 0 < n
some_length n some = grind (arith, nat_tests)

some_sent : (q : Setup) → (q.length == 0) ≡ false → 0 < (sent_setup q).length
some_sent q some = omega (arith, some_length q.length some, sent_length q)

-- Where a host stays in the data stage, a whole packet has come, and there are more.
stays_whole : (n packet m l : ℕ) → (nat_lt n packet || (m == l)) ≡ false → packet ≤ n
stays_whole n packet m l e = grind (arith, nat_tests)

stays_more : (n packet m l : ℕ) → (nat_lt n packet || (m == l)) ≡ false → m ≤ l → m < l
stays_more n packet m l e few = grind (arith, nat_tests)

-- a transfer that has just begun: its request, the toggle that it awaits, and how many bytes have come
pub record Begins (q : Setup) (awaited : Toggle) (kept : ℕ) : Type 0 where
  pub asked : IsAsked q
  pub awaits : awaited ≡ Data1
  pub none : kept ≡ 0

-- at this stage such a transfer may be
abbrev pub MayBeBy : TransferStage → Setup → Toggle → ℕ → Type 0
MayBeBy stages.Setup q awaited kept = Begins q awaited kept
MayBeBy stages.DataOut q awaited kept = ⊥
MayBeBy stage q awaited kept = Unit {0}

abbrev pub MayBe : TransferStage → TransferView → Type 0
MayBe stage t = MayBeBy stage t.request t.awaited t.kept

-- ---- what a recorder knows of the transfer that is open

-- Of the next packet it knows the toggle, or that the one before may come again.
abbrev pub InTime : DeviceStage → Going → Type 0
InTime stage going = (toggle : Toggle) → in_toggle stage ≡ Some toggle → (toggle ≡ going.toggle.next) ⊎ (going.toggle.may_repeat ≡ true)

-- ---- a transaction of both ends

begun_first : (q : Setup) (o : Outcome) (toggle : Toggle) → in_toggle (device.begun q o) ≡ Some toggle → toggle ≡ Data1
begun_first q (Bytes bytes) toggle is = let e : Data1 ≡ toggle = cc in sym e
begun_first q (Done next) toggle is = let e : Data1 ≡ toggle = cc in sym e
begun_first q Refused toggle is = none_some toggle _ is
begun_first q (Takes judge) toggle is = none_some toggle _ is

flips_next : (toggle next : Toggle) → has_toggle (data_kind toggle) next ≡ true → flipped toggle ≡ flipped next
flips_next Data0 Data0 is = refl
flips_next Data1 Data1 is = refl
flips_next Data0 Data1 is = absurd (let w : ⊥ = cc in w)
flips_next Data1 Data0 is = absurd (let w : ⊥ = cc in w)

flips_again : (toggle next : Toggle) → has_toggle (data_kind toggle) next ≡ false → flipped toggle ≡ next
flips_again Data0 Data1 is = refl
flips_again Data1 Data0 is = refl
flips_again Data0 Data0 is = absurd (let w : ⊥ = cc in w)
flips_again Data1 Data1 is = absurd (let w : ⊥ = cc in w)

module _ (table : State → Setup → Outcome) (cut : ℕ) (described : Setup → List ℕ)
    (fronts : (s : State) (q : Setup) (bytes : List ℕ) → table s q ≡ Bytes bytes → (m : ℕ) →
    Fronts cut described q (joined (take m (packets bytes cut q.length)))) (is_table : IsTable table) where
  -- what is known of a transfer that is over, of a device whose packets have eight bytes at least
  abbrev pub IsOver : ℕ → ControlTransfer → Type 0
  IsOver address transfer = IsSound cut described transfer × (8 ≤ cut → HasEnded table address transfer)

  stall_over : (address : ℕ) (t : Transaction) (transfer : ControlTransfer) → Reported cut described transfer
      → (8 ≤ cut → IsRefused table address transfer.setup transfer.length) → IsOver address (ended_so t endings.Stall transfer)
  stall_over address t transfer report refused =
      (reported_over cut described t endings.Stall transfer report, λ some. stall_ended table address t transfer (refused some))

  done_over : (address : ℕ) (t : Transaction) (transfer : ControlTransfer) → Reported cut described transfer
      → (8 ≤ cut → IsCarriedOut table address transfer.setup transfer.length ⊎ IsWhole table address transfer.setup transfer.length)
      → IsOver address (ended_so t endings.Done transfer)
  done_over address t transfer report whole =
      (reported_over cut described t endings.Done transfer report, λ some. done_ended table address t transfer (whole some))

  not_seen : (address : ℕ) (transfer : ControlTransfer) → transfer.ending ≡ Unseen → IsOver address transfer
  not_seen address transfer unseen = (unseen_over cut described transfer unseen, λ some. unseen_ended table address transfer unseen)

  -- what is refused is the request of the transfer, of which so many bytes have come
  refused_so : (address : ℕ) (q : Setup) (kept : ℕ) (transfer : ControlTransfer) → transfer.setup ≡ sent_setup q → transfer.length ≡ kept
      → IsRefused table address (sent_setup q) kept → IsRefused table address transfer.setup transfer.length
  refused_so address q kept transfer setup_is count_is refused =
      subst (λ s. IsRefused table address s transfer.length) (sym setup_is) (subst (IsRefused table address (sent_setup q)) (sym count_is) refused)

  -- ---- what a recorder has of the bytes

  -- this many packets of the answer to this request
  pub record HasCome (q : Setup) (all : List ℕ) (count : ℕ) (going : Going) : Type 0 where
    pub setup_is : going.transfer.setup ≡ q
    pub other : reads_status going.transfer.setup ≡ false
    pub state : State
    pub answers : table state q ≡ Bytes all
    pub data_is : (going.transfer.is_cut ≡ true) ⊎ (going.transfer.data ≡ joined (take count (packets all cut q.length)))
    pub few : going.transfer.length ≤ length (joined (take count (packets all cut q.length)))
    pub next_is : going.toggle.next ≡ toggle_of count

  -- as many as the device has received an ACK of, or one more
  pub record Reads (q : Setup) (all : List ℕ) (acked_ones : ℕ) (going : Going) : Type 0 where
    pub count : ℕ
    pub counted : (count ≡ acked_ones) ⊎ (count ≡ suc acked_ones)
    pub came : HasCome q all count going

  abbrev pub Content : DeviceStage → Going → Type 0
  Content (Sending q all acked_ones) going = Reads q all acked_ones going
  Content stage going = Reported cut described going.transfer

  come_reported : (q : Setup) (all : List ℕ) (count : ℕ) (going : Going) → HasCome q all count going → Reported cut described going.transfer
  come_reported q all count going came = record {
    tells = tells came.data_is;
    few = subst (λ s. going.transfer.length ≤ s.length) (sym came.setup_is) (omega (arith, came.few, (fronts came.state q all came.answers count).few));
    asked = came.other;
  }
    where
      tells : (going.transfer.is_cut ≡ true) ⊎ (going.transfer.data ≡ joined (take count (packets all cut q.length)))
          → (going.transfer.is_cut ≡ true) ⊎ Tells cut described going.transfer.setup going.transfer.data
      tells (inl is) = inl is
      tells (inr data_is) =
          inr (subst (λ s. Tells cut described s going.transfer.data) (sym came.setup_is)
          (subst (Tells cut described q) (sym data_is) (fronts came.state q all came.answers count).tells))

  content_reported : (stage : DeviceStage) (going : Going) → Content stage going → Reported cut described going.transfer
  content_reported (Sending q all acked_ones) going reads = come_reported q all reads.count going reads.came
  content_reported device.Idle going report = report
  content_reported (device.Halted refused) going report = report
  content_reported (device.StatusOut q) going report = report
  content_reported device.Over going report = report
  content_reported (StatusIn q carried) going report = report
  content_reported (device.Receiving q got) going report = report
  content_reported (device.Written q got) going report = report

  reported_content : (stage : DeviceStage) (going : Going) → IsElsewhere stage → Reported cut described going.transfer → Content stage going
  reported_content (Sending q all acked_ones) going elsewhere report = absurd elsewhere
  reported_content device.Idle going elsewhere report = report
  reported_content (device.Halted refused) going elsewhere report = report
  reported_content (device.StatusOut q) going elsewhere report = report
  reported_content device.Over going elsewhere report = report
  reported_content (StatusIn q carried) going elsewhere report = report
  reported_content (device.Receiving q got) going elsewhere report = report
  reported_content (device.Written q got) going elsewhere report = report

  -- no packet was received
  content_stays : (old new : DeviceStage) (going : Going) → (new ≡ old) ⊎ IsElsewhere new → Content old going → Content new going
  content_stays old new going (inl same) content = subst (λ s. Content s going) (sym same) content
  content_stays old new going (inr elsewhere) content = reported_content new going elsewhere (content_reported old going content)

  -- the stage after the ACK of a packet
  content_acked : (q : Setup) (all : List ℕ) (acked_ones : ℕ) (left : List (List ℕ)) (going : Going) → HasCome q all (suc acked_ones) going
      → Content (next_stage q all acked_ones left) going
  content_acked q all acked_ones [] going came = come_reported q all (suc acked_ones) going came
  content_acked q all acked_ones (p ∷ rest) going came = record { count = suc acked_ones; counted = inl refl; came = came }

  -- of a packet that was received, where the ACK of it is lost or not
  abbrev After : Bool → DeviceStage → Going → Type 0
  After true stage going = Content stage going
  After false stage going = Content (acked_stage table cut stage) going

  come_after : (lost : Bool) (q : Setup) (all : List ℕ) (acked_ones : ℕ) (going : Going) → HasCome q all (suc acked_ones) going → After lost (Sending q all acked_ones) going
  come_after true q all acked_ones going came = record { count = suc acked_ones; counted = inr refl; came = came }
  come_after false q all acked_ones going came = content_acked q all acked_ones (drop (suc acked_ones) (packets all cut q.length)) going came

  own_toggle : (toggle : Toggle) → has_toggle (data_kind toggle) toggle ≡ true
  own_toggle Data0 = refl
  own_toggle Data1 = refl

  other_toggle : (toggle : Toggle) → has_toggle (data_kind toggle) (flipped toggle) ≡ false
  other_toggle Data0 = refl
  other_toggle Data1 = refl

  -- the next packet
  next_come : (lost : Bool) (q : Setup) (all : List ℕ) (k : ℕ) (bytes : List ℕ) (rest : List (List ℕ)) (going : Going)
      → drop k (packets all cut q.length) ≡ bytes ∷ rest → HasCome q all k going → HasCome q all (suc k) (with_next bytes lost going)
  next_come lost q all k bytes rest going due came = record {
    setup_is = bytes_keep bytes going.transfer ∙ came.setup_is;
    other = ap reads_status (bytes_keep bytes going.transfer) ∙ came.other;
    state = came.state;
    answers = came.answers;
    data_is = grown came.data_is (bytes_cases bytes going.transfer);
    few = omega (arith, bytes_count bytes going.transfer, came.few, ap length more, length-append (joined (take k (packets all cut q.length))) bytes);
    next_is = ap flipped came.next_is;
  }
    where
      more : joined (take (suc k) (packets all cut q.length)) ≡ joined (take k (packets all cut q.length)) ++ bytes
      more = front_more k (packets all cut q.length) bytes rest due

      grown : (going.transfer.is_cut ≡ true) ⊎ (going.transfer.data ≡ joined (take k (packets all cut q.length)))
          → ((with_bytes bytes going.transfer).is_cut ≡ true) ⊎ ((with_bytes bytes going.transfer).data ≡ going.transfer.data ++ bytes)
          → ((with_bytes bytes going.transfer).is_cut ≡ true) ⊎ ((with_bytes bytes going.transfer).data ≡ joined (take (suc k) (packets all cut q.length)))
      grown (inl is) either = inl (bytes_cut bytes going.transfer is)
      grown (inr data_is) (inl is) = inl is
      grown (inr data_is) (inr grows) = inr (grows ∙ ap (λ d. d ++ bytes) data_is ∙ sym more)

  packet_next : (lost : Bool) (q : Setup) (all : List ℕ) (k : ℕ) (bytes : List ℕ) (rest : List (List ℕ)) (going : Going)
      → drop k (packets all cut q.length) ≡ bytes ∷ rest → has_toggle (data_kind (toggle_of k)) going.toggle.next ≡ true → Content (Sending q all k) going
      → After lost (Sending q all k) (with_next bytes lost going)
  packet_next lost q all k bytes rest going due is reads = of reads.counted
    where
      of : (reads.count ≡ k) ⊎ (reads.count ≡ suc k) → After lost (Sending q all k) (with_next bytes lost going)
      of (inl same) = come_after lost q all k (with_next bytes lost going) (next_come lost q all k bytes rest going due (subst (λ n. HasCome q all n going) same reads.came))
      of (inr ahead) =
          let next : going.toggle.next ≡ flipped (toggle_of k) = reads.came.next_is ∙ ap toggle_of ahead in
          absurd (let e : true ≡ false = sym is ∙ ap (has_toggle (data_kind (toggle_of k))) next ∙ other_toggle (toggle_of k) in let w : ⊥ = cc in w)

  packet_again : (lost : Bool) (q : Setup) (all : List ℕ) (k : ℕ) (going : Going)
      → has_toggle (data_kind (toggle_of k)) going.toggle.next ≡ false → Content (Sending q all k) going → After lost (Sending q all k) (with_again lost going)
  packet_again lost q all k going is reads = of reads.counted
    where
      of : (reads.count ≡ k) ⊎ (reads.count ≡ suc k) → After lost (Sending q all k) (with_again lost going)
      of (inl same) =
          let next : going.toggle.next ≡ toggle_of k = reads.came.next_is ∙ ap toggle_of same in
          absurd (let e : true ≡ false = sym (own_toggle (toggle_of k)) ∙ ap (has_toggle (data_kind (toggle_of k))) (sym next) ∙ is in let w : ⊥ = cc in w)
      of (inr ahead) =
          let came : HasCome q all (suc k) going = subst (λ n. HasCome q all n going) ahead reads.came in
          come_after lost q all k (with_again lost going) (record {
            setup_is = came.setup_is;
            other = came.other;
            state = came.state;
            answers = came.answers;
            data_is = came.data_is;
            few = came.few;
            next_is = came.next_is;
          })

  reported_bytes : (bytes : List ℕ) (transfer : ControlTransfer) → bytes ≡ [] → Reported cut described transfer → Reported cut described (with_bytes bytes transfer)
  reported_bytes bytes transfer none report = record {
    tells = of report.tells (bytes_cases bytes transfer);
    few = subst (λ s. (with_bytes bytes transfer).length ≤ s.length) (sym (bytes_keep bytes transfer))
        (omega (arith, bytes_count bytes transfer, report.few, ap length none));
    asked = ap reads_status (bytes_keep bytes transfer) ∙ report.asked;
  }
    where
      of : (transfer.is_cut ≡ true) ⊎ Tells cut described transfer.setup transfer.data
          → ((with_bytes bytes transfer).is_cut ≡ true) ⊎ ((with_bytes bytes transfer).data ≡ transfer.data ++ bytes)
          → ((with_bytes bytes transfer).is_cut ≡ true) ⊎ Tells cut described (with_bytes bytes transfer).setup (with_bytes bytes transfer).data
      of (inl is) either = inl (bytes_cut bytes transfer is)
      of (inr tells) (inl is) = inl is
      of (inr tells) (inr grows) =
          let same : (with_bytes bytes transfer).data ≡ transfer.data = grows ∙ ap (λ b. transfer.data ++ b) none ∙ append-nil transfer.data in
          inr (subst (λ s. Tells cut described s (with_bytes bytes transfer).data) (sym (bytes_keep bytes transfer)) (subst (Tells cut described transfer.setup) (sym same) tells))

  reported_after : (lost : Bool) (stage : DeviceStage) (going : Going) → IsElsewhere stage → IsElsewhere (acked_stage table cut stage) → Reported cut described going.transfer → After lost stage going
  reported_after true stage going elsewhere acked_is report = reported_content stage going elsewhere report
  reported_after false stage going elsewhere acked_is report = reported_content (acked_stage table cut stage) going acked_is report

  -- what is known of the bytes after a packet that was received
  module _ (old new : DeviceStage) (toggle : Toggle) (bytes : List ℕ) (lost : Bool) (going : Going) (content : Content old going) where
    received_next : IsNext table cut old new toggle bytes ⊎ IsEmpty table cut old new bytes → (new ≡ old) ⊎ IsElsewhere new
        → has_toggle (data_kind toggle) going.toggle.next ≡ true → After lost new (with_next bytes lost going)
    received_next (inl next) stays is =
        subst (λ s. After lost s (with_next bytes lost going)) (sym next.is)
        (packet_next lost next.request next.all next.acked_ones bytes next.later going next.due
        (subst (λ t. has_toggle (data_kind t) going.toggle.next ≡ true) next.toggle_is is) (subst (λ s. Content s going) next.was content))
    received_next (inr empty) stays is = reported_after lost new (with_next bytes lost going) (elsewhere stays) empty.acked_is (reported_bytes bytes going.transfer empty.none (content_reported old going content))
      where
        elsewhere : (new ≡ old) ⊎ IsElsewhere new → IsElsewhere new
        elsewhere (inl same) = subst IsElsewhere (sym same) empty.was
        elsewhere (inr other) = other

    received_again : IsNext table cut old new toggle bytes ⊎ IsEmpty table cut old new bytes → (new ≡ old) ⊎ IsElsewhere new
        → has_toggle (data_kind toggle) going.toggle.next ≡ false → After lost new (with_again lost going)
    received_again (inl next) stays is =
        subst (λ s. After lost s (with_again lost going)) (sym next.is)
        (packet_again lost next.request next.all next.acked_ones going
        (subst (λ t. has_toggle (data_kind t) going.toggle.next ≡ false) next.toggle_is is) (subst (λ s. Content s going) next.was content))
    received_again (inr empty) stays is = reported_after lost new (with_again lost going) (elsewhere stays) empty.acked_is (content_reported old going content)
      where
        elsewhere : (new ≡ old) ⊎ IsElsewhere new → IsElsewhere new
        elsewhere (inl same) = subst IsElsewhere (sym same) empty.was
        elsewhere (inr other) = other

  -- ---- by the stage of the host's transfer

  -- this toggle is awaited, and this many bytes have come
  pub record InData (stage : DeviceStage) (awaited : Toggle) (kept : ℕ) (q : Setup) (going : Going) : Type 0 where
    pub way : Goes directions.In going
    pub in_time : InTime stage going
    pub content : Content stage going
    pub next_is : going.toggle.next ≡ awaited
    pub count_is : going.transfer.length ≡ kept
    pub setup_is : going.transfer.setup ≡ sent_setup q
    pub low : q.length < 65536

  pub record InStatusOut (address : ℕ) (kept : ℕ) (q : Setup) (going : Going) : Type 0 where
    pub way : Goes directions.In going
    pub report : Reported cut described going.transfer
    pub whole : EndsWhole cut address going
    pub count_is : going.transfer.length ≡ kept
    pub setup_is : going.transfer.setup ≡ sent_setup q

  pub record InStatusIn (stage : DeviceStage) (q : Setup) (going : Going) : Type 0 where
    pub way : Goes directions.Out going
    pub first : (toggle : Toggle) → in_toggle stage ≡ Some toggle → toggle ≡ Data1
    pub report : Reported cut described going.transfer
    pub setup_is : going.transfer.setup ≡ sent_setup q
    pub none : q.length ≡ 0

  -- by the stage of a transfer, with its address, the toggle that it awaits, how many bytes have come, and its request
  abbrev pub FitsBy : TransferStage → DeviceStage → ℕ → Toggle → ℕ → Setup → Going → Type 0
  FitsBy stages.Setup stage address awaited kept q going = Unit {0}
  FitsBy stages.DataIn stage address awaited kept q going = InData stage awaited kept q going × Lacks cut address going
  FitsBy stages.DataOut stage address awaited kept q going = Unit {0}
  FitsBy stages.StatusOut stage address awaited kept q going = InStatusOut address kept q going
  FitsBy stages.StatusIn stage address awaited kept q going = InStatusIn stage q going
  FitsBy stages.Completed stage address awaited kept q going = Unit {0}
  FitsBy (stages.Failed why) stage address awaited kept q going = Unit {0}

  abbrev pub Fits : TransferStage → DeviceStage → TransferView → Going → Type 0
  Fits at stage t going = FitsBy at stage t.address t.awaited t.kept t.request going

  -- the same after a packet that was received, which the host takes for the next one or not
  pub record AfterPacket (toggle : Toggle) (bytes : List ℕ) (stage : DeviceStage) (address : ℕ) (awaited : Toggle) (kept : ℕ) (q : Setup) (going : Going) : Type 0 where
    pub took : is_same_toggle toggle awaited ≡ true → kept + length bytes ≤ q.length
        → InData stage (flipped awaited) (kept + length bytes) q going × (going.toggle.last ≡ length bytes)
    pub again_so : is_same_toggle toggle awaited ≡ false → InData stage awaited kept q going × Lacks cut address going

  -- and after any answer in the data stage
  abbrev pub AfterData : Reply → DeviceStage → TransferView → Going → Type 0
  AfterData (DataReply toggle bytes) stage t going = AfterPacket toggle bytes stage t.address t.awaited t.kept t.request going
  AfterData reply stage t going = InData stage t.awaited t.kept t.request going × Lacks cut t.address going

  abbrev pub AfterReply : TransferStage → Reply → DeviceStage → TransferView → Going → Type 0
  AfterReply stages.DataIn reply stage t going = AfterData reply stage t going
  AfterReply stages.Setup reply stage t going = Unit {0}
  AfterReply stages.DataOut reply stage t going = Unit {0}
  AfterReply stages.StatusOut reply stage t going = InStatusOut t.address t.kept t.request going
  AfterReply stages.StatusIn reply stage t going = InStatusIn stage t.request going
  AfterReply stages.Completed reply stage t going = Unit {0}
  AfterReply (stages.Failed why) reply stage t going = Unit {0}

  pub after_none : (stage : TransferStage) (d : DeviceStage) (t : TransferView) (going : Going) → Fits stage d t going → AfterReply stage NoReply d t going
  after_none stages.Setup d t going h = h
  after_none stages.DataIn d t going h = h
  after_none stages.DataOut d t going h = h
  after_none stages.StatusOut d t going h = h
  after_none stages.StatusIn d t going h = h
  after_none stages.Completed d t going h = h
  after_none (stages.Failed why) d t going h = h

  -- A device in its data stage answers the host's request.
  abbrev pub AsksSame : TransferStage → Setup → DeviceStage → Type 0
  AsksSame stages.DataIn asked d =
      (q : Setup) (all : List ℕ) (k : ℕ) → d ≡ Sending q all k → (q ≡ setup_of (setup_bytes asked)) × ((s : State) × (table s q ≡ Bytes all))
  AsksSame stage asked d = Unit {0}

  -- a host's transfer, the stage of a device, and what is open at the transfer's address
  pub record Agrees (stage : TransferStage) (t : TransferView) (d : DeviceStage) (pipes : Pipes) : Type 0 where
    pub may_be : MayBe stage t
    pub size_is : SizeIsKnown cut t.address t.packet t.request
    pub same : AsksSame stage t.request d
    pub both : 8 ≤ cut → TogetherBy table cut t.address stage t.request t.awaited t.kept d
    pub fits : OpenAt t.address (Fits stage d t) pipes

  abbrev pub Agree : DeviceStage → Pipes → TransferView → Type 0
  Agree d pipes t = Agrees t.stage t d pipes

  pub fresh_agrees : (d : DeviceStage) (pipes : Pipes) (address packet naks : ℕ) (q : Setup) → IsAsked q → SizeIsKnown cut address packet q
      → Agree d pipes (begun address packet naks q)
  fresh_agrees d pipes address packet naks q asked size_is =
      record { may_be = record { asked = asked; awaits = refl; none = refl }; size_is = size_is; same = tt; both = λ some. tt; fits = λ transfer is. tt }

  module _ (d : DeviceStage) (pipes : Pipes) (t : TransferView) (size_is : SizeIsKnown cut t.address t.packet t.request) where
    failed_agrees : (why : Why) → Agree d pipes (failed t why).transfer
    failed_agrees why = record { may_be = tt; size_is = size_is; same = tt; both = λ some. tt; fits = λ transfer is. tt }

    either_agrees : (c : Bool) (x y : Taken) → (c ≡ true → Agree d pipes x.transfer) → (c ≡ false → Agree d pipes y.transfer) → Agree d pipes (if c then x else y).transfer
    either_agrees true x y p q = p refl
    either_agrees false x y p q = q refl

    module _ (still : Agrees t.stage t d pipes) where
      struck_agrees : Agree d pipes (struck t).transfer
      struck_agrees = either_agrees (nat_lt t.strikes 2) _ (failed t whys.NoAnswer)
          (λ c. record { may_be = still.may_be; size_is = size_is; same = still.same; both = still.both; fits = still.fits }) (λ c. failed_agrees whys.NoAnswer)

      delayed_agrees : Agree d pipes (delayed t).transfer
      delayed_agrees = either_agrees (nat_lt t.nak_count t.naks) _ (failed t whys.Busy)
          (λ c. record { may_be = still.may_be; size_is = size_is; same = still.same; both = still.both; fits = still.fits }) (λ c. failed_agrees whys.Busy)

    -- The data stage ends with all bytes, or with a packet that is shorter than a whole one.
    ends_whole : (n : ℕ) (going : Going) → InData d (flipped t.awaited) (t.kept + n) t.request going → going.toggle.last ≡ n
        → (nat_lt n t.packet ≡ true) ⊎ ((t.kept + n == t.request.length) ≡ true) → EndsWhole cut t.address going
    ends_whole n going h last (inl short) = of size_is
      where
        of : SizeIsKnown cut t.address t.packet t.request → EndsWhole cut t.address going
        of (inl few) = inl few.0
        of (inr own) = inr (inl (omega (arith, less_so n t.packet short, own, last)))
    ends_whole n going h last (inr all) = inr (inr (omega (arith, same_so (t.kept + n) t.request.length all, h.count_is, ap (λ q. q.length) h.setup_is, sent_length t.request)))

    lacks_more : (n : ℕ) (going : Going) → (nat_lt n t.packet || (t.kept + n == t.request.length)) ≡ false → t.kept + n ≤ t.request.length
        → InData d (flipped t.awaited) (t.kept + n) t.request going → going.toggle.last ≡ n → Lacks cut t.address going
    lacks_more n going e few h last = record {
      more = omega (arith, stays_more n t.packet (t.kept + n) t.request.length e few, h.count_is, ap (λ q. q.length) h.setup_is, sent_length t.request);
      whole = inr (of size_is);
    }
      where
        of : SizeIsKnown cut t.address t.packet t.request → (t.address ≡ 0) ⊎ (cut ≤ going.toggle.last)
        of (inl first) = inl first.0
        of (inr own) = inr (omega (arith, stays_whole n t.packet (t.kept + n) t.request.length e, own, last))

    after_data : (n : ℕ) (last : Bool) (going : Going) → (nat_lt n t.packet || (t.kept + n == t.request.length)) ≡ last → t.kept + n ≤ t.request.length
        → InData d (flipped t.awaited) (t.kept + n) t.request going × (going.toggle.last ≡ n) → Fits (if last then stages.StatusOut else stages.DataIn) d (with_packet t n) going
    after_data n true going e few h = record {
      way = h.0.way;
      report = content_reported d going h.0.content;
      whole = ends_whole n going h.0 h.1 (or_cases (nat_lt n t.packet) (t.kept + n == t.request.length) e);
      count_is = h.0.count_is;
      setup_is = h.0.setup_is;
    }
    after_data n false going e few h = (h.0, lacks_more n going e few h.0 h.1)

    may_after : (last : Bool) (awaited : Toggle) (kept : ℕ) → MayBeBy (if last then stages.StatusOut else stages.DataIn) t.request awaited kept
    may_after true awaited kept = tt
    may_after false awaited kept = tt

    same_after : (last : Bool) → AsksSame stages.DataIn t.request d → AsksSame (if last then stages.StatusOut else stages.DataIn) t.request d
    same_after true same = tt
    same_after false same = same

    kept_agrees : (toggle : Toggle) (bytes : List ℕ) → AsksSame stages.DataIn t.request d → (8 ≤ cut → Took table cut t.address toggle bytes t.packet t.awaited t.kept t.request d) → OpenAt t.address (AfterPacket toggle bytes d t.address t.awaited t.kept t.request) pipes → is_same_toggle toggle t.awaited ≡ true
        → nat_lt t.request.length (t.kept + length bytes) ≡ false → Agree d pipes (kept_packet t bytes).transfer
    kept_agrees toggle bytes same took after is few =
        let last = nat_lt (length bytes) t.packet || (t.kept + length bytes == t.request.length) in
        record {
          may_be = may_after last (flipped t.awaited) (t.kept + length bytes);
          size_is = size_is;
          same = same_after last same;
          both = λ some. (took some).next_so is (not_less t.request.length (t.kept + length bytes) few) last refl;
          fits = λ transfer found. after_data (length bytes) last (record { transfer = transfer; toggle = toggle_at t.address pipes }) refl
              (not_less t.request.length (t.kept + length bytes) few)
              ((after transfer found).took is (not_less t.request.length (t.kept + length bytes) few));
        }

    data_agrees : (toggle : Toggle) (bytes : List ℕ) → t.stage ≡ stages.DataIn → AsksSame stages.DataIn t.request d
        → (8 ≤ cut → Took table cut t.address toggle bytes t.packet t.awaited t.kept t.request d)
        → OpenAt t.address (AfterPacket toggle bytes d t.address t.awaited t.kept t.request) pipes → Agree d pipes (taken_data t toggle bytes).transfer
    data_agrees toggle bytes at same took after =
        either_agrees (nat_lt t.packet (length bytes)) (failed t whys.TooLong) _ (λ c. failed_agrees whys.TooLong)
        (λ c. either_agrees (is_same_toggle toggle t.awaited) _ (struck t)
        (λ is. either_agrees (nat_lt t.request.length (t.kept + length bytes)) (failed t whys.TooLong) (kept_packet t bytes) (λ many. failed_agrees whys.TooLong)
        (λ few. kept_agrees toggle bytes same took after is few))
        (λ other. struck_agrees (subst (λ s. Agrees s t d pipes) (sym at)
        (record { may_be = tt; size_is = size_is; same = same; both = λ some. (took some).again_so other; fits = λ transfer found. (after transfer found).again_so other }))))

    status_agrees : (toggle : Toggle) (bytes : List ℕ) → ((8 ≤ cut → TogetherBy table cut t.address t.stage t.request t.awaited t.kept d) → Agrees t.stage t d pipes)
        → (8 ≤ cut → toggle ≡ Data1) → Agree d pipes (taken_status t toggle bytes).transfer
    status_agrees Data0 (byte ∷ bytes) still first = failed_agrees whys.TooLong
    status_agrees Data1 (byte ∷ bytes) still first = failed_agrees whys.TooLong
    status_agrees Data0 [] still first = struck_agrees (still (λ some. absurd (let e : Data0 ≡ Data1 = first some in let w : ⊥ = cc in w)))
    status_agrees Data1 [] still first = record { may_be = tt; size_is = size_is; same = tt; both = λ some. tt; fits = λ transfer is. tt }

  -- They agree after an answer, if they do where it changes nothing and after the ACK of a SETUP.
  module _ (d : DeviceStage) (pipes : Pipes) (t : TransferView) (size_is : SizeIsKnown cut t.address t.packet t.request) (stage : TransferStage) (at : t.stage ≡ stage)
      (may : MayBe stage t) (same : AsksSame stage t.request d) where
    still_so : (8 ≤ cut → TogetherBy table cut t.address stage t.request t.awaited t.kept d) → OpenAt t.address (Fits stage d t) pipes → Agree d pipes t
    still_so both fits = subst (λ s. Agrees s t d pipes) (sym at) (record { may_be = may; size_is = size_is; same = same; both = both; fits = fits })

    failed_so : (why : Why) → Agree d pipes (failed t why).transfer
    failed_so why = failed_agrees d pipes t size_is why

    struck_so : (8 ≤ cut → TogetherBy table cut t.address stage t.request t.awaited t.kept d) → OpenAt t.address (Fits stage d t) pipes → Agree d pipes (struck t).transfer
    struck_so both fits = struck_agrees d pipes t size_is (still_so both fits)

    delayed_so : (8 ≤ cut → TogetherBy table cut t.address stage t.request t.awaited t.kept d) → OpenAt t.address (Fits stage d t) pipes → Agree d pipes (delayed t).transfer
    delayed_so both fits = delayed_agrees d pipes t size_is (still_so both fits)

    completed_so : Agree d pipes (completed t).transfer
    completed_so = record { may_be = tt; size_is = size_is; same = tt; both = λ some. tt; fits = λ transfer is. tt }

    moved_so : Agrees (stage_after_setup t.request) t d pipes → Agree d pipes (moved t (stage_after_setup t.request)).transfer
    moved_so next = record { may_be = next.may_be; size_is = size_is; same = next.same; both = next.both; fits = next.fits }

  pub taken_agrees : (d : DeviceStage) (pipes : Pipes) (t : TransferView) (size_is : SizeIsKnown cut t.address t.packet t.request) (stage : TransferStage) (came : Reply) → t.stage ≡ stage
      → MayBe stage t → AsksSame stage t.request d → (8 ≤ cut → TogetherAfter table cut t.address stage came d t) → OpenAt t.address (AfterReply stage came d t) pipes
      → (stage ≡ stages.Setup → came ≡ AckReply → Agrees (stage_after_setup t.request) t d pipes) → Agree d pipes (taken_at t stage came).transfer
  taken_agrees d pipes t size_is stages.Setup AckReply at may same both after acks = moved_so d pipes t size_is stages.Setup at may same (acks refl refl)
  taken_agrees d pipes t size_is stages.Setup NakReply at may same both after acks = failed_so d pipes t size_is stages.Setup at may same whys.Unexpected
  taken_agrees d pipes t size_is stages.Setup StallReply at may same both after acks = failed_so d pipes t size_is stages.Setup at may same whys.Unexpected
  taken_agrees d pipes t size_is stages.Setup (DataReply toggle bytes) at may same both after acks = failed_so d pipes t size_is stages.Setup at may same whys.Unexpected
  taken_agrees d pipes t size_is stages.Setup NoReply at may same both after acks = struck_so d pipes t size_is stages.Setup at may same both after
  taken_agrees d pipes t size_is stages.DataIn AckReply at may same both after acks = failed_so d pipes t size_is stages.DataIn at may same whys.Unexpected
  taken_agrees d pipes t size_is stages.DataIn NakReply at may same both after acks = delayed_so d pipes t size_is stages.DataIn at may same both after
  taken_agrees d pipes t size_is stages.DataIn StallReply at may same both after acks = failed_so d pipes t size_is stages.DataIn at may same whys.Stalled
  taken_agrees d pipes t size_is stages.DataIn (DataReply toggle bytes) at may same both after acks = data_agrees d pipes t size_is toggle bytes at same both after
  taken_agrees d pipes t size_is stages.DataIn NoReply at may same both after acks = struck_so d pipes t size_is stages.DataIn at may same both after
  taken_agrees d pipes t size_is stages.DataOut came at may same both after acks = absurd may
  taken_agrees d pipes t size_is stages.StatusOut AckReply at may same both after acks = completed_so d pipes t size_is stages.StatusOut at may same
  taken_agrees d pipes t size_is stages.StatusOut NakReply at may same both after acks = delayed_so d pipes t size_is stages.StatusOut at may same both after
  taken_agrees d pipes t size_is stages.StatusOut StallReply at may same both after acks = failed_so d pipes t size_is stages.StatusOut at may same whys.Stalled
  taken_agrees d pipes t size_is stages.StatusOut (DataReply toggle bytes) at may same both after acks = failed_so d pipes t size_is stages.StatusOut at may same whys.Unexpected
  taken_agrees d pipes t size_is stages.StatusOut NoReply at may same both after acks = struck_so d pipes t size_is stages.StatusOut at may same both after
  taken_agrees d pipes t size_is stages.StatusIn AckReply at may same both after acks = failed_so d pipes t size_is stages.StatusIn at may same whys.Unexpected
  taken_agrees d pipes t size_is stages.StatusIn NakReply at may same both after acks = delayed_so d pipes t size_is stages.StatusIn at may same both after
  taken_agrees d pipes t size_is stages.StatusIn StallReply at may same both after acks = failed_so d pipes t size_is stages.StatusIn at may same whys.Stalled
  taken_agrees d pipes t size_is stages.StatusIn (DataReply toggle bytes) at may same both after acks = status_agrees d pipes t size_is toggle bytes (λ still. still_so d pipes t size_is stages.StatusIn at may same (λ some. subst (λ g. TogetherBy table cut t.address g t.request t.awaited t.kept d) at (still some)) after) both
  taken_agrees d pipes t size_is stages.StatusIn NoReply at may same both after acks = struck_so d pipes t size_is stages.StatusIn at may same both after
  taken_agrees d pipes t size_is stages.Completed came at may same both after acks = still_so d pipes t size_is stages.Completed at may same both after
  taken_agrees d pipes t size_is (stages.Failed why) came at may same both after acks = still_so d pipes t size_is (stages.Failed why) at may same both after

  module _ (number : ℕ) (time : Option ℕ) (address : ℕ) (small : address < 256) (pipes : Pipes) (sound : Sound pipes) where
    -- an IN of the data stage
    module _ (t : TransferView) where
      abbrev P : DeviceStage → Going → Type 0
      P old going = InData old t.awaited t.kept t.request going × Lacks cut t.address going

      same_toggles : (toggle next : Toggle) → has_toggle (data_kind toggle) next ≡ is_same_toggle toggle next
      same_toggles Data0 Data0 = refl
      same_toggles Data0 Data1 = refl
      same_toggles Data1 Data0 = refl
      same_toggles Data1 Data1 = refl

      same_next : (toggle : Toggle) (old : DeviceStage) (going : Going) → P old going → has_toggle (data_kind toggle) going.toggle.next ≡ is_same_toggle toggle t.awaited
      same_next toggle old going h = same_toggles toggle going.toggle.next ∙ ap (is_same_toggle toggle) h.0.next_is

      true_false : {A : Type 0} (c d : Bool) → c ≡ d → c ≡ true → d ≡ false → A
      true_false c d e yes_so no_so = absurd (let w : true ≡ false = sym yes_so ∙ e ∙ no_so in let v : ⊥ = cc in v)

      next_packet_so : (toggle : Toggle) (bytes : List ℕ) (lost : Bool) (old new : DeviceStage) (going : Going) → P old going → InTime new (with_next bytes lost going)
          → Content new (with_next bytes lost going) → has_toggle (data_kind toggle) going.toggle.next ≡ true
          → AfterPacket toggle bytes new t.address t.awaited t.kept t.request (with_next bytes lost going)
      next_packet_so toggle bytes lost old new going h in_time content is = record {
        took = λ same few. (
          record {
            way = ap data_direction (bytes_keep bytes going.transfer) ∙ h.0.way;
            in_time = in_time;
            content = content;
            next_is = ap flipped h.0.next_is;
            count_is = bytes_total bytes going.transfer (omega (arith, few, h.0.low, h.0.count_is)) ∙ ap (λ n. n + length bytes) h.0.count_is;
            setup_is = bytes_keep bytes going.transfer ∙ h.0.setup_is;
            low = h.0.low;
          },
          refl,
        );
        again_so = λ other. true_false (has_toggle (data_kind toggle) going.toggle.next) (is_same_toggle toggle t.awaited) (same_next toggle old going h) is other;
      }

      again_packet_so : (toggle : Toggle) (bytes : List ℕ) (lost : Bool) (old new : DeviceStage) (going : Going) → P old going → InTime new (with_again lost going)
          → Content new (with_again lost going) → has_toggle (data_kind toggle) going.toggle.next ≡ false
          → AfterPacket toggle bytes new t.address t.awaited t.kept t.request (with_again lost going)
      again_packet_so toggle bytes lost old new going h in_time content is = record {
        took = λ same few. true_false (is_same_toggle toggle t.awaited) (has_toggle (data_kind toggle) going.toggle.next) (sym (same_next toggle old going h)) same is;
        again_so = λ other. (
          record {
            way = h.0.way;
            in_time = in_time;
            content = content;
            next_is = h.0.next_is;
            count_is = h.0.count_is;
            setup_is = h.0.setup_is;
            low = h.0.low;
          },
          record { more = h.1.more; whole = h.1.whole },
        );
      }

    data_step : (t : TransferView) (fate : Fate) (old : DeviceStage) (reply : Reply) (new : DeviceView) → is_lost_down fate ≡ false → Follows old new.stage
        → (new.stage ≡ old) ⊎ IsElsewhere new.stage → IsSent table cut old new reply → OpenAt address (P t old) pipes
        → (8 ≤ cut → brought fate reply ≡ StallReply → IsRefused table address (sent_setup t.request) t.kept)
        → Right cut (IsOver address) (received_in number time address InToken (is_lost_ack fate) (brought fate reply))
        (AfterData (brought fate reply) (after_answer table cut fate (record { reply = reply; device = new })).stage t) pipes
    data_step t fate old reply new kept follows stays_so sent opens refuses = of fate reply kept sent refuses
      where
        Before : Going → Type 0
        Before = P t old

        stays : (going : Going) → Before going → P t new.stage going
        stays going h = (
          record {
            way = h.0.way;
            in_time = λ toggle is. h.0.in_time toggle (follows toggle is);
            content = content_stays old new.stage going stays_so h.0.content;
            next_is = h.0.next_is;
            count_is = h.0.count_is;
            setup_is = h.0.setup_is;
            low = h.0.low;
          },
          h.1,
        )

        quiet : (lost : Bool) (came : Reply) → IsNoData came → (8 ≤ cut → came ≡ StallReply → IsRefused table address (sent_setup t.request) t.kept)
            → Right cut (IsOver address) (received_in number time address InToken lost came) (P t new.stage) pipes
        quiet lost came none refused = quiet_in cut (IsOver address) number time address small pipes sound Before (P t new.stage) lost came none opens
            (λ u going h is. stall_over address u going.transfer (content_reported old going h.0.content)
            (λ some. refused_so address t.request t.kept going.transfer h.0.setup_is h.0.count_is (refused some is))) stays

        unreceived : (toggle : Toggle) (bytes : List ℕ) → IsSent table cut old new (DataReply toggle bytes)
            → Right cut (IsOver address) (received_in number time address InToken true (DataReply toggle bytes)) (AfterPacket toggle bytes new.stage t.address t.awaited t.kept t.request) pipes
        unreceived toggle bytes sent = packet_in cut (IsOver address) number time address small pipes sound toggle bytes Before (AfterPacket toggle bytes new.stage t.address t.awaited t.kept t.request) opens
            (λ going h. h.0.way) (λ going h. h.0.in_time toggle sent.was) true (λ going h. (
              λ e. next_packet_so t toggle bytes true old new.stage going h (λ other is. inr refl) (received_next old new.stage toggle bytes true going h.0.content sent.which stays_so e) e,
              λ e. again_packet_so t toggle bytes true old new.stage going h (λ other is. inr refl) (received_again old new.stage toggle bytes true going h.0.content sent.which stays_so e) e,
            ))

        received : (toggle : Toggle) (bytes : List ℕ) → IsSent table cut old new (DataReply toggle bytes)
            → Right cut (IsOver address) (received_in number time address InToken false (DataReply toggle bytes)) (AfterPacket toggle bytes (acked table cut new).stage t.address t.awaited t.kept t.request) pipes
        received toggle bytes sent = packet_in cut (IsOver address) number time address small pipes sound toggle bytes Before (AfterPacket toggle bytes (acked table cut new).stage t.address t.awaited t.kept t.request) opens
            (λ going h. h.0.way) (λ going h. h.0.in_time toggle sent.was) false (λ going h. (
              λ e. next_packet_so t toggle bytes false old (acked table cut new).stage going h
                  (λ other is. inl (acked_flips table cut new toggle other sent.waits sent.is is ∙ flips_next toggle going.toggle.next e))
                  (subst (λ s. Content s (with_next bytes false going)) (sym (acked_so table cut new sent.waits))
                  (received_next old new.stage toggle bytes false going h.0.content sent.which stays_so e)) e,
              λ e. again_packet_so t toggle bytes false old (acked table cut new).stage going h
                  (λ other is. inl (acked_flips table cut new toggle other sent.waits sent.is is ∙ flips_again toggle going.toggle.next e))
                  (subst (λ s. Content s (with_again false going)) (sym (acked_so table cut new sent.waits))
                  (received_again old new.stage toggle bytes false going h.0.content sent.which stays_so e)) e,
            ))

        of : (fate : Fate) (reply : Reply) → is_lost_down fate ≡ false → IsSent table cut old new reply → (8 ≤ cut → brought fate reply ≡ StallReply → IsRefused table address (sent_setup t.request) t.kept)
            → Right cut (IsOver address) (received_in number time address InToken (is_lost_ack fate) (brought fate reply))
            (AfterData (brought fate reply) (after_answer table cut fate (record { reply = reply; device = new })).stage t) pipes
        of fates.LostDown reply kept sent refused = absurd (let w : ⊥ = cc in w)
        of fates.LostUp reply kept sent refused = quiet false NoReply tt refused
        of fates.LostAck (DataReply toggle bytes) kept sent refused = unreceived toggle bytes sent
        of fates.LostAck AckReply kept sent refused = quiet true AckReply tt refused
        of fates.LostAck NakReply kept sent refused = quiet true NakReply tt refused
        of fates.LostAck StallReply kept sent refused = quiet true StallReply tt refused
        of fates.LostAck NoReply kept sent refused = quiet true NoReply tt refused
        of fates.Pass (DataReply toggle bytes) kept sent refused = received toggle bytes sent
        of fates.Pass AckReply kept sent refused = quiet false AckReply tt refused
        of fates.Pass NakReply kept sent refused = quiet false NakReply tt refused
        of fates.Pass StallReply kept sent refused = quiet false StallReply tt refused
        of fates.Pass NoReply kept sent refused = quiet false NoReply tt refused
        of fates.Busy (DataReply toggle bytes) kept sent refused = received toggle bytes sent
        of fates.Busy AckReply kept sent refused = quiet false AckReply tt refused
        of fates.Busy NakReply kept sent refused = quiet false NakReply tt refused
        of fates.Busy StallReply kept sent refused = quiet false StallReply tt refused
        of fates.Busy NoReply kept sent refused = quiet false NoReply tt refused

    -- an IN of the status stage
    status_step : (q : Setup) (kept_bytes : ℕ) (fate : Fate) (old : DeviceStage) (reply : Reply) (new : DeviceView) → is_lost_down fate ≡ false → Follows old new.stage → (new.stage ≡ old) ⊎ IsElsewhere new.stage
        → IsSent table cut old new reply
        → OpenAt address (InStatusIn old q) pipes → (8 ≤ cut → brought fate reply ≡ StallReply → IsRefused table address (sent_setup q) kept_bytes)
        → (8 ≤ cut → (toggle : Toggle) → in_toggle old ≡ Some toggle → IsCarriedOut table address (sent_setup q) kept_bytes)
        → Right cut (IsOver address) (received_in number time address InToken (is_lost_ack fate) (brought fate reply)) (InStatusIn (after_answer table cut fate (record { reply = reply; device = new })).stage q) pipes
    status_step q kept_bytes fate old reply new kept follows stays_so sent opens refuses carries = of fate reply kept sent refuses
      where
        P : Going → Type 0
        P = InStatusIn old q

        none_came : (going : Going) → P going → going.transfer.length ≡ 0
        none_came going h =
            let none : going.transfer.setup.length ≡ 0 = ap (λ r. r.length) h.setup_is ∙ sent_length q ∙ h.none in
            omega (arith, none, h.report.few)

        quiet : (lost : Bool) (came : Reply) → IsNoData came → (8 ≤ cut → came ≡ StallReply → IsRefused table address (sent_setup q) kept_bytes)
            → Right cut (IsOver address) (received_in number time address InToken lost came) (InStatusIn new.stage q) pipes
        quiet lost came none refused = quiet_in cut (IsOver address) number time address small pipes sound P (InStatusIn new.stage q) lost came none opens
            (λ u going h is. stall_over address u going.transfer h.report (λ some.
            let r = refused some is in
            refused_so address q kept_bytes going.transfer h.setup_is (none_came going h ∙ sym r.count_is) r))
            (λ going h. record { way = h.way; first = λ toggle is. h.first toggle (follows toggle is); report = h.report; setup_is = h.setup_is; none = h.none })

        carried_so : (going : Going) → P going → IsCarriedOut table address (sent_setup q) kept_bytes
            → IsCarriedOut table address going.transfer.setup going.transfer.length
        carried_so going h is =
            subst (λ s. IsCarriedOut table address s going.transfer.length) (sym h.setup_is)
            (subst (IsCarriedOut table address (sent_setup q)) (is.count_is ∙ sym (none_came going h)) is)

        zero_one : Data0 ≡ Data1 → ⊥
        zero_one e = let w : ⊥ = cc in w

        packet : (lost : Bool) (toggle : Toggle) (bytes : List ℕ) (Q : Going → Type 0) → IsSent table cut old new (DataReply toggle bytes) → Right cut (IsOver address) (received_in number time address InToken lost (DataReply toggle bytes)) Q pipes
        packet lost Data1 bytes Q sent = status_in cut (IsOver address) number time address small pipes sound P Q lost bytes opens (λ going h. h.way)
            (λ u going h. done_over address u going.transfer h.report (λ some. inl (carried_so going h (carries some Data1 sent.was))))
        packet lost Data0 bytes Q sent = right_at cut (IsOver address) (received_in number time address InToken lost (DataReply Data0 bytes)) P Q pipes sound refl opens (λ going unended h. absurd (zero_one (h.first Data0 sent.was)))

        of : (fate : Fate) (reply : Reply) → is_lost_down fate ≡ false → IsSent table cut old new reply → (8 ≤ cut → brought fate reply ≡ StallReply → IsRefused table address (sent_setup q) kept_bytes)
            → Right cut (IsOver address) (received_in number time address InToken (is_lost_ack fate) (brought fate reply)) (InStatusIn (after_answer table cut fate (record { reply = reply; device = new })).stage q) pipes
        of fates.LostDown reply kept sent refused = absurd (let w : ⊥ = cc in w)
        of fates.LostUp reply kept sent refused = quiet false NoReply tt refused
        of fates.LostAck (DataReply toggle bytes) kept sent refused = packet true toggle bytes (InStatusIn new.stage q) sent
        of fates.LostAck AckReply kept sent refused = quiet true AckReply tt refused
        of fates.LostAck NakReply kept sent refused = quiet true NakReply tt refused
        of fates.LostAck StallReply kept sent refused = quiet true StallReply tt refused
        of fates.LostAck NoReply kept sent refused = quiet true NoReply tt refused
        of fates.Pass (DataReply toggle bytes) kept sent refused = packet false toggle bytes (InStatusIn (acked table cut new).stage q) sent
        of fates.Pass AckReply kept sent refused = quiet false AckReply tt refused
        of fates.Pass NakReply kept sent refused = quiet false NakReply tt refused
        of fates.Pass StallReply kept sent refused = quiet false StallReply tt refused
        of fates.Pass NoReply kept sent refused = quiet false NoReply tt refused
        of fates.Busy (DataReply toggle bytes) kept sent refused = packet false toggle bytes (InStatusIn (acked table cut new).stage q) sent
        of fates.Busy AckReply kept sent refused = quiet false AckReply tt refused
        of fates.Busy NakReply kept sent refused = quiet false NakReply tt refused
        of fates.Busy StallReply kept sent refused = quiet false StallReply tt refused
        of fates.Busy NoReply kept sent refused = quiet false NoReply tt refused

  -- After the ACK of a SETUP that came, a device has begun its transfer.
  setup_stage : (d : DeviceView) (q : Setup) (address : ℕ) (fate : Fate) → is_lost_down fate ≡ false
      → (let r = served table cut d (record { address = address; token = SetupToken (setup_bytes q) }) (is_ready fate) in
      brought fate r.reply ≡ AckReply → (after_answer table cut fate r).stage ≡ device.begun (setup_of (setup_bytes q)) (table d.state (setup_of (setup_bytes q))))
  setup_stage d q address fate kept = of fate (address == d.state.address) kept
    where
      of : (fate : Fate) (here : Bool) → is_lost_down fate ≡ false
          → (let r = if here then served_here table cut d (SetupToken (setup_bytes q)) (is_ready fate) else replies NoReply d.state d.stage false in
          brought fate r.reply ≡ AckReply → (after_answer table cut fate r).stage ≡ device.begun (setup_of (setup_bytes q)) (table d.state (setup_of (setup_bytes q))))
      of fates.Pass true kept acks = refl
      of fates.Busy true kept acks = refl
      of fates.LostAck true kept acks = refl
      of fates.LostUp here kept acks = absurd (let w : ⊥ = cc in w)
      of fates.LostDown here kept acks = absurd (let w : ⊥ = cc in w)
      of fates.Pass false kept acks = absurd (let w : ⊥ = cc in w)
      of fates.Busy false kept acks = absurd (let w : ⊥ = cc in w)
      of fates.LostAck false kept acks = absurd (let w : ⊥ = cc in w)

  begun_reported : (q : Setup) (t : Transaction) → reads_status q ≡ false → Reported cut described (begun_by t q)
  begun_reported q t other = record { tells = inr (nothing_tells cut described q); few = omega arith; asked = other }

  begun_content : (s : State) (q : Setup) (o : Outcome) (t : Transaction) → reads_status q ≡ false → table s q ≡ o
      → Content (device.begun q o) (record { transfer = begun_by t q; toggle = first_toggle })
  begun_content s q (Bytes bytes) t other e = record {
    count = 0;
    counted = inl refl;
    came = record { setup_is = refl; other = other; state = s; answers = e; data_is = inr refl; few = omega arith; next_is = refl };
  }
  begun_content s q (Done next) t other e = begun_reported q t other
  begun_content s q Refused t other e = begun_reported q t other
  begun_content s q (Takes judge) t other e = begun_reported q t other

  -- what is open then, and at which stage the host's transfer is
  pub record AfterSetup (tv : TransferView) (at : TransferStage) (stage : DeviceStage) (going : Going) : Type 0 where
    pub may_be : MayBe at tv
    pub same : AsksSame at tv.request stage
    pub fits : Fits at stage tv going

  begun_same : (q : Setup) (o : Outcome) (r : Setup) (all : List ℕ) (k : ℕ) → device.begun q o ≡ Sending r all k → (r ≡ q) × (o ≡ Bytes all)
  begun_same q (Bytes bytes) r all k e = ((let w : r ≡ q = cc in w), (let w : Bytes bytes ≡ Bytes all = cc in w))
  begun_same q (Done next) r all k e = absurd (let w : ⊥ = cc in w)
  begun_same q Refused r all k e = absurd (let w : ⊥ = cc in w)
  begun_same q (Takes judge) r all k e = absurd (let w : ⊥ = cc in w)

  after_setup : (tv : TransferView) (s : State) (stage : DeviceStage) (t : Transaction) → Begins tv.request tv.awaited tv.kept → tv.request.length < 65536
      → stage ≡ device.begun (setup_of (setup_bytes tv.request)) (table s (setup_of (setup_bytes tv.request)))
      → AfterSetup tv (stage_after_setup tv.request) stage (record { transfer = begun_by t (setup_at (setup_bytes tv.request) 0); toggle = first_toggle })
  after_setup tv s stage t begins low is_begun = of (tv.request.length == 0) refl begins.asked.brings
    where
      q : Setup
      q = tv.request

      begun_so : Going
      begun_so = record { transfer = begun_by t (setup_at (setup_bytes q) 0); toggle = first_toggle }

      first : (toggle : Toggle) → in_toggle stage ≡ Some toggle → toggle ≡ Data1
      first toggle is =
          begun_first (setup_of (setup_bytes q)) (table s (setup_of (setup_bytes q))) toggle (subst (λ g. in_toggle g ≡ Some toggle) is_begun is)

      content : Content stage begun_so
      content = subst (λ g. Content g begun_so) (sym is_begun) (begun_content s (setup_of (setup_bytes q)) (table s (setup_of (setup_bytes q))) t begins.asked.other refl)

      same : AsksSame stages.DataIn q stage
      same r all k e =
          let is = begun_same (setup_of (setup_bytes q)) (table s (setup_of (setup_bytes q))) r all k (sym is_begun ∙ e) in
          (is.0, (s, ap (table s) is.0 ∙ is.1))

      of : (none : Bool) → (q.length == 0) ≡ none → (direction_of q.request_type ≡ directions.In) ⊎ (q.length ≡ 0)
          → AfterSetup tv (if none then stages.StatusIn else data_stage (direction_of q.request_type)) stage begun_so
      of true e brings = record {
        may_be = tt;
        same = tt;
        fits = record {
          way = none_way q (same_so q.length 0 e);
          first = first;
          report = begun_reported (setup_at (setup_bytes q) 0) t begins.asked.other;
          setup_is = refl;
          none = same_so q.length 0 e;
        };
      }
      of false e (inl way) = subst (λ w. AfterSetup tv (data_stage w) stage begun_so) (sym way) (record {
        may_be = tt;
        same = same;
        fits = (
          record {
            way = some_way q e way;
            in_time = λ toggle is. inl (first toggle is);
            content = content;
            next_is = sym begins.awaits;
            count_is = sym begins.none;
            setup_is = refl;
            low = low;
          },
          record { more = some_sent q e; whole = inl refl },
        );
      })
      of false e (inr none) = absurd (not_same q.length 0 e none)

  -- a device that answers the same request after the ACK of a packet
  next_same : (q : Setup) (all : List ℕ) (k : ℕ) (left : List (List ℕ)) (r : Setup) (more : List ℕ) (m : ℕ) → next_stage q all k left ≡ Sending r more m → (r ≡ q) × (more ≡ all)
  next_same q all k [] r more m e = absurd (let w : ⊥ = cc in w)
  next_same q all k (p ∷ rest) r more m e = ((let w : r ≡ q = cc in w), (let w : more ≡ all = cc in w))

  acked_same : (asked : Setup) (stage : DeviceStage) → AsksSame stages.DataIn asked stage → AsksSame stages.DataIn asked (acked_stage table cut stage)
  acked_same asked (Sending q all k) same r more m e =
      let is = next_same q all k (drop (suc k) (packets all cut q.length)) r more m e in
      let was = same q all k refl in
      (is.0 ∙ was.0, (was.1.0, ap (λ x. table was.1.0 x) is.0 ∙ was.1.1 ∙ ap (λ b. Bytes b) (sym is.1)))
  acked_same asked device.Idle same r more m e = absurd (let w : ⊥ = cc in w)
  acked_same asked (device.Halted refused) same r more m e = absurd (let w : ⊥ = cc in w)
  acked_same asked (device.StatusOut q) same r more m e = absurd (let w : ⊥ = cc in w)
  acked_same asked device.Over same r more m e = absurd (let w : ⊥ = cc in w)
  acked_same asked (StatusIn q carried) same r more m e = absurd (let w : ⊥ = cc in w)
  acked_same asked (device.Receiving q got) same r more m e = absurd (let w : ⊥ = cc in w)
  acked_same asked (device.Written q got) same r more m e = absurd (let w : ⊥ = cc in w)

  elsewhere_same : (asked : Setup) (stage : DeviceStage) → IsElsewhere stage → AsksSame stages.DataIn asked stage
  elsewhere_same asked stage elsewhere r more m e = absurd (subst IsElsewhere e elsewhere)

  stays_same : (asked : Setup) (old new : DeviceStage) → (new ≡ old) ⊎ IsElsewhere new → AsksSame stages.DataIn asked old → AsksSame stages.DataIn asked new
  stays_same asked old new (inl is) same = subst (AsksSame stages.DataIn asked) (sym is) same
  stays_same asked old new (inr elsewhere) same = elsewhere_same asked new elsewhere

  answer_same : (asked : Setup) (received : Bool) (d : DeviceView) → AsksSame stages.DataIn asked d.stage
      → AsksSame stages.DataIn asked (if received then acked table cut d else d).stage
  answer_same asked false d same = same
  answer_same asked true d same = of d.pending refl
    where
      of : (waits : Bool) → d.pending ≡ waits → AsksSame stages.DataIn asked (if waits then (record { state = acked_state table cut d.state d.stage; stage = acked_stage table cut d.stage; pending = false }) else d).stage
      of true e = acked_same asked d.stage same
      of false e = same

  -- ---- the packet size that the first bytes have

  none_more : (xs : List ℕ) → length xs ≡ 0 → xs ≡ []
  none_more [] e = refl
  none_more (x ∷ xs) e = absurd (let w : ⊥ = omega (arith, e) in w)

  packet_tells : (old new : DeviceStage) (toggle : Toggle) (bytes : List ℕ) → AsksSame stages.DataIn (get_descriptor 1 0 0 8) old
      → IsNext table cut old new toggle bytes ⊎ IsEmpty table cut old new bytes → FirstTells cut bytes
  packet_tells old new toggle bytes same (inl next) long =
      let asked = same next.request next.all next.acked_ones next.was in
      let ps = packets next.all cut next.request.length in
      let known = fronts asked.1.0 next.request next.all asked.1.1 (suc next.acked_ones) in
      let more : joined (take (suc next.acked_ones) ps) ≡ joined (take next.acked_ones ps) ++ bytes = front_more next.acked_ones ps bytes next.later next.due in
      let few : length (joined (take (suc next.acked_ones) ps)) ≤ 8 = subst (λ q. length (joined (take (suc next.acked_ones) ps)) ≤ q.length) asked.0 known.few in
      let none : joined (take next.acked_ones ps) ≡ [] =
      none_more (joined (take next.acked_ones ps)) (omega (arith, few, long, ap length more, length-append (joined (take next.acked_ones ps)) bytes)) in
      let all : joined (take (suc next.acked_ones) ps) ≡ bytes = more ∙ ap (λ b. b ++ bytes) none in
      subst (λ b. slice_index b 7 ≡ cut) all
      (known.long (ap reads_descriptor asked.0) (ap (λ q. q.value / 256 == 1) asked.0) (omega (arith, long, ap length all)))
  packet_tells old new toggle bytes same (inr empty) long = absurd (let w : ⊥ = omega (arith, long, ap length empty.none) in w)

  comes_tell : (fate : Fate) (old : DeviceStage) (reply : Reply) (new : DeviceView) → AsksSame stages.DataIn (get_descriptor 1 0 0 8) old → IsSent table cut old new reply
      → MayCome cut (brought fate reply)
  comes_tell fates.LostUp old reply new same sent = tt
  comes_tell fates.Pass old (DataReply toggle bytes) new same sent = packet_tells old new.stage toggle bytes same sent.which
  comes_tell fates.Busy old (DataReply toggle bytes) new same sent = packet_tells old new.stage toggle bytes same sent.which
  comes_tell fates.LostDown old (DataReply toggle bytes) new same sent = packet_tells old new.stage toggle bytes same sent.which
  comes_tell fates.LostAck old (DataReply toggle bytes) new same sent = packet_tells old new.stage toggle bytes same sent.which
  comes_tell fate old reply new same sent = tt

  setup_address : (d : DeviceView) (q : Setup) (address : ℕ) (fate : Fate) → is_lost_down fate ≡ false
      → (let r = served table cut d (record { address = address; token = SetupToken (setup_bytes q) }) (is_ready fate) in
      brought fate r.reply ≡ AckReply → address ≡ d.state.address)
  setup_address d q address fate kept acks = same_so address d.state.address (of fate (address == d.state.address) refl kept acks)
    where
      of : (fate : Fate) (here : Bool) → (address == d.state.address) ≡ here → is_lost_down fate ≡ false
          → (let r = if here then served_here table cut d (SetupToken (setup_bytes q)) (is_ready fate) else replies NoReply d.state d.stage false in
          brought fate r.reply ≡ AckReply → (address == d.state.address) ≡ true)
      of fates.Pass true e kept acks = e
      of fates.Busy true e kept acks = e
      of fates.LostAck true e kept acks = e
      of fates.LostUp here e kept acks = absurd (let w : ⊥ = cc in w)
      of fates.LostDown here e kept acks = absurd (let w : ⊥ = cc in w)
      of fates.Pass false e kept acks = absurd (let w : ⊥ = cc in w)
      of fates.Busy false e kept acks = absurd (let w : ⊥ = cc in w)
      of fates.LostAck false e kept acks = absurd (let w : ⊥ = cc in w)

  -- what was received of a transaction of this host's transfer with a device that is so: nothing wrong is found in it, and the three agree
  -- after it
  module _ (d : DeviceView) (reached : IsReached table d.state) (fate : Fate) (kept : is_lost_down fate ≡ false) (number : ℕ) (time : Option ℕ)
      (pipes : Pipes) (sound : Sound pipes) (t : TransferView) (small : t.address < 256)
      (low : t.stage ≡ stages.Setup → t.request.length < 65536) where
    abbrev sent_to : Token → Sent
    sent_to token = record { address = t.address; token = token }

    abbrev answer_to : Token → Served
    answer_to token = served table cut d (sent_to token) (is_ready fate)

    abbrev received_of : Token → Transaction
    received_of token = received_in number time t.address token (is_lost_ack fate) (brought fate (answer_to token).reply)

    abbrev later : Token → DeviceStage
    later token = (after_answer table cut fate (answer_to token)).stage

    pub record Steps (stage : TransferStage) (token : Token) : Type 0 where
      pub right : has_wrong_toggle (received_of token) pipes ≡ false
      pub over : IfOver (IsOver t.address) (transfer_over (received_of token) pipes)
      pub not_early : NotEarly cut t.address (λ known. is_early known (received_of token) pipes)
      pub directed : NotMisdirected cut (received_of token) pipes
      pub sound_then : Sound (pipes_after (received_of token) pipes)
      pub agrees : Agree (later token) (pipes_after (received_of token) pipes) (taken_at t stage (brought fate (answer_to token).reply)).transfer
      pub may_come : stage ≡ stages.DataIn → t.request ≡ get_descriptor 1 0 0 8 → MayCome cut (brought fate (answer_to token).reply)

    -- at a stage where nothing is known of an ACK
    step_at : (stage : TransferStage) (token : Token) → t.stage ≡ stage → (stage ≡ stages.Setup → ⊥) → SizeIsKnown cut t.address t.packet t.request → MayBe stage t
        → AsksSame stage t.request (later token) → (8 ≤ cut → TogetherAfter table cut t.address stage (brought fate (answer_to token).reply) (later token) t) → Right cut (IsOver t.address) (received_of token) (AfterReply stage (brought fate (answer_to token).reply) (later token) t) pipes
        → NotMisdirected cut (received_of token) pipes
        → (stage ≡ stages.DataIn → t.request ≡ get_descriptor 1 0 0 8 → MayCome cut (brought fate (answer_to token).reply)) → Steps stage token
    step_at stage token at other size_is may same both right directed comes =
        record {
          right = right.0;
          over = right.1;
          not_early = right.2;
          directed = directed;
          sound_then = right.3.0;
          agrees = taken_agrees (later token) (pipes_after (received_of token) pipes) t size_is stage (brought fate (answer_to token).reply) at may same both right.3.1 (λ is. absurd (other is));
          may_come = comes;
        }

    setup_step : t.stage ≡ stages.Setup → SizeIsKnown cut t.address t.packet t.request → MayBe stages.Setup t → Steps stages.Setup (SetupToken (setup_bytes t.request))
    setup_step at size_is may =
        let token = SetupToken (setup_bytes t.request) in
        let came = brought fate (answer_to token).reply in
        let right : Right cut (IsOver t.address) (received_of token) (λ going. Unit {0}) pipes = setup_right cut (IsOver t.address) number time t.address small pipes sound t.request (is_lost_ack fate) came (λ going. Unit {0}) (not_seen t.address) tt in
        record {
          right = right.0;
          over = right.1;
          not_early = right.2;
          directed = λ known own none. refl;
          sound_then = right.3.0;
          agrees = taken_agrees (later token) (pipes_after (received_of token) pipes) t size_is stages.Setup came at may tt (λ some. tt) right.3.1
              (λ is acks.
              let begun_so = setup_stage d t.request t.address fate kept acks in
              let after = after_setup t d.state (later token) (received_of token) may (low at) begun_so in
              let both : 8 ≤ cut → TogetherBy table cut t.address (stage_after_setup t.request) t.request Data1 0 (later token) =
              (λ some. begun_together table cut t.address is_table some t.request d.state (later token) may.asked
              (record { reached = reached; address_is = setup_address d t.request t.address fate kept acks }) begun_so) in
              record {
                may_be = after.may_be;
                size_is = size_is;
                same = after.same;
                both = λ some. subst (λ g. TogetherBy table cut t.address (stage_after_setup t.request) t.request g t.kept (later token)) (sym may.awaits)
                    (subst (λ n. TogetherBy table cut t.address (stage_after_setup t.request) t.request Data1 n (later token)) (sym may.none) (both some));
                fits = (setup_right cut (IsOver t.address) number time t.address small pipes sound t.request (is_lost_ack fate) came (Fits (stage_after_setup t.request) (later token) t) (not_seen t.address) after.fits).3.1;
              });
          may_come = λ e. absurd (let w : ⊥ = cc in w);
        }

    same_sent : (s sent : Sent) → WantsSent s ≡ WantsSent sent → sent ≡ s
    same_sent s sent e = cc

    pub step : (stage : TransferStage) (sent : Sent) → t.stage ≡ stage → sends (addressed t.address (token_due t [] stage)) ≡ WantsSent sent → Agrees stage t d.stage pipes
        → (token : Token) × (sent ≡ sent_to token) × Steps stage token
    step stages.Setup sent at due agrees = (SetupToken (setup_bytes t.request), same_sent _ sent due, setup_step at agrees.size_is agrees.may_be)
    step stages.DataIn sent at due agrees =
        let sends = served_sends table cut d t.address (is_ready fate) in
        let r = answer_to InToken in
        let still = stays_same t.request d.stage r.device.stage sends.stays agrees.same in
        let both = λ (some : 8 ≤ cut). data_together table cut t.address is_table some t d fate (is_ready fate) kept agrees.size_is (agrees.both some) sends.sent in (
          InToken,
          same_sent _ sent due,
          step_at stages.DataIn InToken at (λ e. let w : ⊥ = cc in w) agrees.size_is tt (answer_same t.request (acknowledges fate r.reply) r.device still) (λ some. (both some).together)
              (data_step number time t.address small pipes sound t fate d.stage r.reply r.device kept sends.follows sends.stays sends.sent agrees.fits (λ some. (both some).refuses))
              (data_right cut (received_of InToken) (Fits stages.DataIn d.stage t) pipes refl agrees.fits (λ going h. h.1))
              (λ e is. comes_tell fate d.stage r.reply r.device (subst (λ q. AsksSame stages.DataIn q d.stage) is agrees.same) sends.sent),
        )
    step stages.StatusIn sent at due agrees =
        let sends = served_sends table cut d t.address (is_ready fate) in
        let both = λ (some : 8 ≤ cut). status_in_together table cut t.address is_table some t d fate (is_ready fate) kept (agrees.both some) sends.sent in (
          InToken,
          same_sent _ sent due,
          step_at stages.StatusIn InToken at (λ e. let w : ⊥ = cc in w) agrees.size_is tt tt (λ some. (both some).together)
              (status_step number time t.address small pipes sound t.request t.kept fate d.stage (answer_to InToken).reply (answer_to InToken).device kept sends.follows sends.stays sends.sent agrees.fits (λ some. (both some).refuses)
              (λ some toggle. status_carries table cut t.address is_table some t.request t.kept d.stage toggle (agrees.both some)))
              (status_right cut (received_of InToken) directions.Out (Fits stages.StatusIn d.stage t) pipes refl agrees.fits (λ going h. h.way)
              (λ toggle. status_in_other number time t.address toggle (is_lost_ack fate) (brought fate (answer_to InToken).reply)))
              (λ e. absurd (let w : ⊥ = cc in w)),
        )
    step stages.StatusOut sent at due agrees =
        let came = brought fate (answer_to (OutToken Data1 [])).reply in
        let Fitting = InStatusOut t.address t.kept t.request in
        let both = λ (some : 8 ≤ cut). status_out_together table cut t.address is_table some t d fate (is_ready fate) kept (agrees.both some) in (
          OutToken Data1 [],
          same_sent _ sent due,
          step_at stages.StatusOut (OutToken Data1 []) at (λ e. let w : ⊥ = cc in w) agrees.size_is tt tt (λ some. (both some).together)
              (status_out cut (IsOver t.address) number time t.address small pipes sound Fitting Fitting agrees.fits (λ going h. h.way)
              (λ u going h. done_over t.address u going.transfer h.report (λ some.
              inr (subst (λ q. IsWhole table t.address q going.transfer.length) (sym h.setup_is)
              (subst (IsWhole table t.address (sent_setup t.request)) (sym h.count_is) (agrees.both some).1))))
              (λ going h. h.whole)
              (λ going h. record { way = h.way; report = h.report; whole = h.whole; count_is = h.count_is; setup_is = h.setup_is }) (is_lost_ack fate) came
              (λ u going h is. stall_over t.address u going.transfer h.report
              (λ some. refused_so t.address t.request t.kept going.transfer h.setup_is h.count_is ((both some).refuses is))))
              (status_right cut (received_of (OutToken Data1 [])) directions.In Fitting pipes refl agrees.fits (λ going h. h.way)
              (λ toggle. status_out_other number time t.address toggle (is_lost_ack fate) came))
              (λ e. absurd (let w : ⊥ = cc in w)),
        )
    step stages.DataOut sent at due agrees = absurd agrees.may_be
    step stages.Completed sent at due agrees = absurd (let w : ⊥ = cc in w)
    step (stages.Failed why) sent at due agrees = absurd (let w : ⊥ = cc in w)
