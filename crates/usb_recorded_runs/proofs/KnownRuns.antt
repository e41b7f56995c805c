-- In a run of both ends from a new pair on, no toggle is wrong, and no transfer says another packet size than the device's own.
use Rattle.std.proofs.Common.{◌≡◌, ◌<◌, ◌≤◌, ◌+◌, ◌-◌, ◌/◌, ℕ, false, List, [], ◌∷◌, ◌++◌, append_assoc, length, take, inl, inr, refl, sym, ◌∙◌, ap, subst, arith, length-append}
use Rattle.std.specs.Prelude.{Option, Some, None}
use Rattle.std.specs.List.{AllByRecursion}
use Rattle.std.specs.Option.{option_to_list}
use Rattle.std.proofs.lemmas.List.{append-nil}
use Rattle.usb_wire.specs.Packets.{AreBytes, IsLegal, PacketView}
use Rattle.usb_fields.specs.declared.setup.Setup.{Setup}
use Rattle.usb_fields.specs.Setup.{setup_bytes}
use Rattle.usb_fields.specs.Packets.{InToken, NoReply, OutToken, Sent, SetupToken, Token, joined, packets}
use Rattle.usb_file_data.specs.declared.file.DescriptorFile.{DescriptorFile}
use Rattle.usb_host.specs.declared.transfer.TransferStage.{TransferStage}
use Rattle.usb_host.specs.declared.transfer.TransferStage.TheVariants as stages
use Rattle.usb_host.specs.Steps.{Ended, HostPhase, Reading, ResetDue, TakesIn, WantsSent, sends, wanted}
use Rattle.usb_host.specs.Transfer.{TransferView, addressed, token_due}
use Rattle.usb_device.specs.declared.state.State.{State}
use Rattle.usb_device.specs.Requests.{Bytes, Outcome, answer}
use Rattle.usb_device.specs.States as states
use Rattle.usb_device.specs.Step.{DeviceStage, DeviceView, Served, served}
use Rattle.usb_bus.specs.declared.fate.Fate.{Fate}
use Rattle.usb_bus.specs.declared.fate.Fate.TheVariants as fates
use Rattle.usb_bus.specs.Beside.{IsTable}
use Rattle.usb_bus.specs.Bus.{brought, carried}
use Rattle.usb_bus.specs.Damaged.{is_ready}
use Rattle.usb_bus.specs.Enumerate.{IsTransactionAt, Pair, RunsAt, answered}
use Rattle.usb_bus.specs.Exchanges.{is_lost_ack, is_lost_down, is_lost_up}
use Rattle.usb_bus.specs.Log.{count_before}
use Rattle.usb_bus.specs.Run.{fate_at}
use Rattle.usb_bus.specs.Wire.{ack_packet, data_packet, reply_packet, token_packet}
use Rattle.usb_capture.specs.declared.control_transfer.ControlTransfer.{ControlTransfer}
use Rattle.usb_capture.specs.declared.packet_finding.PacketFinding.{PacketFinding}
use Rattle.usb_capture.specs.declared.packet_finding.PacketFinding.TheVariants.{Long, NoShortPacket, StatusDirection, Toggle}
use Rattle.usb_capture.specs.declared.transaction.Transaction.{Transaction}
use Rattle.usb_capture.specs.BusTransfers.{Pipes, none_open, pipes_after, pipes_in, toggle_at, transfer_over, transfers_in}
use Rattle.usb_capture.specs.PacketFindings.{has_wrong_toggle, is_early, is_found, is_misdirected}
use Rattle.usb_capture.specs.PacketSizes.{size_at, sizes_in}
use Rattle.usb_capture.proofs.Folds.{after_push, given_push}
use Rattle.usb_recorded_runs.specs.Exchanges.{Exchange, arriving, exchange_in, exchanges, received, packets_in, packets_of, transaction_of, unless_lost}
use Rattle.usb_recorded_runs.specs.Findings.{IsFreeAfter}
use Rattle.usb_recorded_runs.proofs.HostLemmas.{InWork, reset_works, takes_works}
use Rattle.usb_recorded_runs.proofs.PipeLemmas.{IsOwn, Sound, own_over, sound_first}
use Rattle.usb_recorded_runs.proofs.RecordedLemmas.{IsRegular}
use Rattle.usb_recorded_runs.proofs.AnswerLemmas.{all_fronts, described_by}
use Rattle.usb_recorded_runs.proofs.ReceivedLemmas.{received_in}
use Rattle.usb_recorded_runs.proofs.LengthLemmas.{IsShortIn, one_not_long}
use Rattle.usb_recorded_runs.proofs.ReachedLemmas.{answer_reached, first_reached}
use Rattle.usb_recorded_runs.proofs.SizeLemmas.{Fronts, IfOver, IsSound, all_says, own_size}
use Rattle.usb_recorded_runs.proofs.TogetherLemmas.{HasEnded, IsReached, after_answer, nothing_after}
use Rattle.usb_recorded_runs.proofs.StepLemmas.{Agree, IsOver, after_none, fresh_agrees, step, taken_agrees}

-- ---- lists

free_push : (finding : PacketFinding) (before ts : List Transaction) (t : Transaction) → IsFreeAfter finding before ts → is_found finding (before ++ ts) t ≡ false
    → IsFreeAfter finding before (ts ++ t ∷ [])
free_push finding before [] t free last = (subst (λ b. is_found finding b t ≡ false) (append-nil before) last, tt)
free_push finding before (u ∷ ts) t free last =
    (free.0, free_push finding (before ++ u ∷ []) ts t free.1 (subst (λ b. is_found finding b t ≡ false) (sym (append_assoc before (u ∷ []) ts)) last))

-- one exchange more
module _ (times : ℕ → Option ℕ) where
  abbrev pub one_received : ℕ → Exchange → List Transaction
  one_received number x = unless_lost (is_lost_down x.fate) (transaction_of number (times number) x)

  pub received_push : (number : ℕ) (xs : List Exchange) (x : Exchange)
      → received times number (xs ++ x ∷ []) ≡ received times number xs ++ one_received (number + length (packets_in xs)) x
  received_push number [] x =
      let same : number ≡ number + 0 = omega arith in
      append-nil (one_received number x) ∙ ap (λ n. one_received n x) same
  received_push number (y ∷ xs) x =
      let first = one_received number y in
      let after = number + length (packets_of y) in
      let same : after + length (packets_in xs) ≡ number + length (packets_of y ++ packets_in xs) = omega (arith, length-append (packets_of y) (packets_in xs)) in
      ap (λ ts. first ++ ts) (received_push after xs x ∙ ap (λ n. received times after xs ++ one_received n x) same)
      ∙ sym (append_assoc first (received times after xs) (one_received (number + length (packets_of y ++ packets_in xs)) x))

-- ---- addresses

-- A token that arrives has an address of 7 bits, and a SETUP has bytes.
abbrev HasBytes : Token → Type 0
HasBytes (SetupToken bytes) = AreBytes bytes
HasBytes InToken = Unit {0}
HasBytes (OutToken toggle bytes) = Unit {0}

pub record IsLegalSent (sent : Sent) : Type 0 where
  pub address : sent.address < 128
  pub bytes : HasBytes sent.token

abbrev pub IsSmall : Exchange → Type 0
IsSmall x = is_lost_down x.fate ≡ false → IsLegalSent x.sent

pub all_small : (xs : List Exchange) → AllByRecursion IsRegular xs → AllByRecursion IsSmall xs
all_small [] regular = tt
all_small (x ∷ xs) regular = (λ kept. small x kept regular.0.legal, all_small xs regular.1)
  where
    bytes : (address : ℕ) (token : Token) (rest : List PacketView) → AllByRecursion IsLegal (token_packet (record { address = address; token = token }) ∷ (arriving false (data_packet token) ++ rest))
        → IsLegalSent (record { address = address; token = token })
    bytes address (SetupToken data_bytes) rest legal = record { address = legal.0.0; bytes = legal.1.0.0 }
    bytes address InToken rest legal = record { address = legal.0.0; bytes = tt }
    bytes address (OutToken toggle data_bytes) rest legal = record { address = legal.0.0; bytes = tt }

    small : (x : Exchange) → is_lost_down x.fate ≡ false → AllByRecursion IsLegal (packets_of x) → IsLegalSent x.sent
    small x kept legal =
        let rest = arriving (is_lost_up x.fate) (reply_packet x.answered) ++ arriving (is_lost_ack x.fate) (ack_packet (brought x.fate x.answered)) in
        bytes x.sent.address x.sent.token rest
        (subst (λ lost. AllByRecursion IsLegal (arriving lost (Some (token_packet x.sent)) ++ (arriving lost (data_packet x.sent.token) ++ rest))) kept legal)

pub all_front : {A : Type 0} (P : A → Type 0) (xs ys : List A) → AllByRecursion P (xs ++ ys) → AllByRecursion P xs
all_front P [] ys each = tt
all_front P (x ∷ xs) ys each = (each.0, all_front P xs ys each.1)

pub all_last : {A : Type 0} (P : A → Type 0) (xs : List A) (x : A) → AllByRecursion P (xs ++ x ∷ []) → P x
all_last P [] x each = each.0
all_last P (y ∷ xs) x each = all_last P xs x each.1

-- ---- a run

module _ (f : DescriptorFile) (kept_table : IsTable (answer f)) (list : List Fate) (times : ℕ → Option ℕ) where
  abbrev table : State → Setup → Outcome
  table = answer f

  abbrev cut : ℕ
  cut = f.device.packet

  abbrev described : Setup → List ℕ
  described = described_by f

  pub tells : (s : State) (q : Setup) (bytes : List ℕ) → answer f s q ≡ Bytes bytes → (m : ℕ) → Fronts f.device.packet (described_by f) q (joined (take m (packets bytes f.device.packet q.length)))
  tells s q bytes e m = all_fronts f s q bytes e (kept_table.fits s q bytes e) m

  abbrev made_of : DeviceView → Sent → Fate → Exchange
  made_of d sent fate = record { fate = fate; sent = sent; address = d.state.address; answered = answered f d sent fate }

  carried_kept : (d : DeviceView) (sent : Sent) (fate : Fate) → is_lost_down fate ≡ false
      → carried table cut d sent fate ≡ (let r = served table cut d sent (is_ready fate) in record { reply = brought fate r.reply; device = after_answer table cut fate r })
  carried_kept d sent fates.Pass kept = refl
  carried_kept d sent fates.Busy kept = refl
  carried_kept d sent fates.LostUp kept = refl
  carried_kept d sent fates.LostAck kept = refl
  carried_kept d sent fates.LostDown kept = absurd (let w : ⊥ = cc in w)

  answered_kept : (d : DeviceView) (sent : Sent) (fate : Fate) → is_lost_down fate ≡ false → answered f d sent fate ≡ (served table cut d sent (is_ready fate)).reply
  answered_kept d sent fates.Pass kept = refl
  answered_kept d sent fates.Busy kept = refl
  answered_kept d sent fates.LostUp kept = refl
  answered_kept d sent fates.LostAck kept = refl
  answered_kept d sent fates.LostDown kept = absurd (let w : ⊥ = cc in w)

  abbrev Known : DeviceStage → Pipes → HostPhase → Type 0
  Known d pipes phase = InWork cut (Agree table cut described tells kept_table d pipes) (fresh_agrees table cut described tells kept_table d pipes) phase

  -- after these transactions
  pub record IsRight (ts : List Transaction) (last : Pair) : Type 0 where
    pub toggles : IsFreeAfter Toggle [] ts
    pub lengths : IsFreeAfter Long [] ts
    pub endings : IsFreeAfter NoShortPacket [] ts
    pub directions : IsFreeAfter StatusDirection [] ts
    pub transfers : AllByRecursion (IsSound cut described) (transfers_in ts)
    pub ended : 8 ≤ cut → AllByRecursion (λ t. HasEnded table t.device t) (transfers_in ts)
    pub own : AllByRecursion (λ t. IsOwn t.device t) (transfers_in ts)
    pub reached : IsReached table last.device.state
    pub sound : Sound (pipes_in ts)
    pub known : Known last.device.stage (pipes_in ts) last.host.phase

  low_small : (address : ℕ) → address < 128 → address < 256
  low_small address low = omega (arith, low)

  all_over : (P : ControlTransfer → Type 0) (ts : List ControlTransfer) (o : Option ControlTransfer) → AllByRecursion P ts → IfOver P o → AllByRecursion P (ts ++ option_to_list o)
  all_over P [] None each over = tt
  all_over P [] (Some t) each over = (over, tt)
  all_over P (first ∷ ts) o each over = (each.0, all_over P ts o each.1 over)

  over_sound : (address : ℕ) (o : Option ControlTransfer) → IfOver (IsOver table cut described tells kept_table address) o → IfOver (IsSound cut described) o
  over_sound address None over = tt
  over_sound address (Some t) over = over.0

  over_own : (address : ℕ) (o : Option ControlTransfer) → IfOver (IsOwn address) o → IfOver (λ t. IsOwn t.device t) o
  over_own address None own = tt
  over_own address (Some t) own = subst (λ a. IsOwn a t) (sym own.device_is) own

  over_ended : (address : ℕ) (o : Option ControlTransfer) → IfOver (IsOwn address) o → IfOver (IsOver table cut described tells kept_table address) o
      → 8 ≤ cut → IfOver (λ t. HasEnded table t.device t) o
  over_ended address None own over some = tt
  over_ended address (Some t) own over some = subst (λ a. HasEnded table a t) (sym own.device_is) (over.1 some)

  size_zero : (address : ℕ) (sizes : List ℕ) → address ≡ 0 → size_at address sizes ≡ 0
  size_zero address sizes zero = ap (λ a. size_at a sizes) zero

  pub setup_low : (q : Setup) (sent : Sent) → sent.token ≡ SetupToken (setup_bytes q) → HasBytes sent.token → q.length < 65536
  setup_low q sent is bytes =
      let each : AreBytes (setup_bytes q) = subst HasBytes is bytes in
      let high : q.length / 256 < 256 = each.1.1.1.1.1.1.1.0 in omega (arith, high)

  pub due_low : (t : TransferView) (stage : TransferStage) (sent : Sent) → sends (addressed t.address (token_due t [] stage)) ≡ WantsSent sent → HasBytes sent.token
      → stage ≡ stages.Setup → t.request.length < 65536
  due_low t stages.Setup sent e bytes at =
      setup_low t.request sent (let same : record { address = t.address; token = SetupToken (setup_bytes t.request) } ≡ sent = cc in ap (λ z. z.token) (sym same)) bytes
  due_low t stages.DataIn sent e bytes at = absurd (let w : ⊥ = cc in w)
  due_low t stages.DataOut sent e bytes at = absurd (let w : ⊥ = cc in w)
  due_low t stages.StatusOut sent e bytes at = absurd (let w : ⊥ = cc in w)
  due_low t stages.StatusIn sent e bytes at = absurd (let w : ⊥ = cc in w)
  due_low t stages.Completed sent e bytes at = absurd (let w : ⊥ = cc in w)
  due_low t (stages.Failed why) sent e bytes at = absurd (let w : ⊥ = cc in w)

  below : (address : ℕ) (s sent : Sent) → WantsSent s ≡ WantsSent sent → s.address ≡ address → sent.address < 128 → address < 256
  below address s sent e is low = let same : s ≡ sent = cc in let there : sent.address ≡ address = ap (λ z. z.address) (sym same) ∙ is in omega (arith, low, there)

  due_small : (t : TransferView) (stage : TransferStage) (sent : Sent) → sends (addressed t.address (token_due t [] stage)) ≡ WantsSent sent → sent.address < 128 → t.address < 256
  due_small t stages.Setup sent e low = below t.address _ sent e refl low
  due_small t stages.DataIn sent e low = below t.address _ sent e refl low
  due_small t stages.DataOut sent e low = below t.address _ sent e refl low
  due_small t stages.StatusOut sent e low = below t.address _ sent e refl low
  due_small t stages.StatusIn sent e low = below t.address _ sent e refl low
  due_small t stages.Completed sent e low = absurd (let w : ⊥ = cc in w)
  due_small t (stages.Failed why) sent e low = absurd (let w : ⊥ = cc in w)

  -- a transaction whose token arrives
  kept_right : (x last : Pair) (fate : Fate) (made : IsTransactionAt table cut fate x last) (ts : List Transaction) (number : ℕ) → is_lost_down fate ≡ false → IsSmall (made_of x.device made.sent fate) → IsShortIn cut (made_of x.device made.sent fate)
      → IsRight ts x → IsRight (ts ++ transaction_of number (times number) (made_of x.device made.sent fate) ∷ []) last
  kept_right x last fate made ts number kept small short right = of x.host.phase made.due made.host right.known
    where
      d : DeviceView
      d = x.device

      T : Transaction
      T = transaction_of number (times number) (made_of d made.sent fate)

      after : pipes_in (ts ++ T ∷ []) ≡ pipes_after T (pipes_in ts)
      after = after_push pipes_after transfer_over none_open ts T

      comes : carried table cut d made.sent fate ≡ (let r = served table cut d made.sent (is_ready fate) in record { reply = brought fate r.reply; device = after_answer table cut fate r })
      comes = carried_kept d made.sent fate kept

      of : (phase : HostPhase) → wanted phase ≡ WantsSent made.sent → TakesIn x.host phase (carried table cut d made.sent fate).reply last.host → Known d.stage (pipes_in ts) phase
          → IsRight (ts ++ T ∷ []) last
      of ResetDue due takes known = absurd (let w : ⊥ = cc in w)
      of (Ended place) due takes known = absurd (let w : ⊥ = cc in w)
      of (Reading place t k) due takes known =
          let legal = small kept in
          let agrees = known.holds in
          let below : t.address < 256 = due_small t t.stage made.sent due legal.address in
          let own = own_size cut (transfers_in ts) made.sent.address (all_says cut described (transfers_in ts) right.transfers) (low_small made.sent.address legal.address) in
          let stepped = step table cut described tells kept_table d right.reached fate kept number (times number) (pipes_in ts) right.sound t below (due_low t t.stage made.sent due legal.bytes) t.stage made.sent refl due agrees in
          let token = stepped.0 in
          let sent_is : made.sent ≡ record { address = t.address; token = token } = stepped.1 in
          let r : Served = served table cut d (record { address = t.address; token = token }) (is_ready fate) in
          let received_is : T ≡ received_in number (times number) t.address token (is_lost_ack fate) (brought fate r.reply) =
          ap (λ s. transaction_of number (times number) (made_of d s fate)) sent_is
          ∙ ap (λ a. received_in number (times number) t.address token (is_lost_ack fate) (brought fate a)) (answered_kept d (record { address = t.address; token = token }) fate kept) in
          let served_is : carried table cut d made.sent fate ≡ record { reply = brought fate r.reply; device = after_answer table cut fate r } =
          ap (λ s. carried table cut d s fate) sent_is ∙ carried_kept d (record { address = t.address; token = token }) fate kept in
          let device_is : last.device ≡ after_answer table cut fate r = made.device ∙ ap (λ c. c.device) served_is in
          let pipes_is : pipes_in (ts ++ T ∷ []) ≡ pipes_after (received_in number (times number) t.address token (is_lost_ack fate) (brought fate r.reply)) (pipes_in ts) =
          after ∙ ap (λ u. pipes_after u (pipes_in ts)) received_is in
          let over = subst (λ u. IfOver (IsOver table cut described tells kept_table t.address) (transfer_over u (pipes_in ts))) (sym received_is) stepped.2.over in
          let own_so : IfOver (IsOwn t.address) (transfer_over T (pipes_in ts)) =
          subst (λ a. IfOver (IsOwn a) (transfer_over T (pipes_in ts))) (ap (λ s. s.address) sent_is) (own_over T (pipes_in ts) right.sound) in
          record {
            toggles = free_push Toggle [] ts T right.toggles (ap (λ u. has_wrong_toggle u (pipes_in ts)) received_is ∙ stepped.2.right);
            lengths = free_push Long [] ts T right.lengths (one_not_long cut number (times number) (made_of d made.sent fate) short (sizes_in (transfers_in ts)) own);
            endings = free_push NoShortPacket [] ts T right.endings
                (ap (λ u. is_early (size_at made.sent.address (sizes_in (transfers_in ts))) u (pipes_in ts)) received_is
                ∙ stepped.2.not_early (size_at made.sent.address (sizes_in (transfers_in ts))) own
                (λ zero. size_zero made.sent.address (sizes_in (transfers_in ts)) (ap (λ s. s.address) sent_is ∙ zero)));
            directions = free_push StatusDirection [] ts T right.directions
                (ap (λ u. is_misdirected (size_at made.sent.address (sizes_in (transfers_in ts))) u (pipes_in ts)) received_is
                ∙ stepped.2.directed (size_at made.sent.address (sizes_in (transfers_in ts))) own
                (λ zero. size_zero made.sent.address (sizes_in (transfers_in ts)) (ap (λ s. s.address) sent_is ∙ zero)));
            transfers = subst (AllByRecursion (IsSound cut described)) (sym (given_push pipes_after transfer_over none_open ts T))
                (all_over (IsSound cut described) (transfers_in ts) (transfer_over T (pipes_in ts)) right.transfers
                (over_sound t.address (transfer_over T (pipes_in ts)) over));
            ended = λ some. subst (AllByRecursion (λ t. HasEnded table t.device t)) (sym (given_push pipes_after transfer_over none_open ts T))
                (all_over (λ t. HasEnded table t.device t) (transfers_in ts) (transfer_over T (pipes_in ts)) (right.ended some)
                (over_ended t.address (transfer_over T (pipes_in ts)) own_so over some));
            own = subst (AllByRecursion (λ t. IsOwn t.device t)) (sym (given_push pipes_after transfer_over none_open ts T))
                (all_over (λ t. IsOwn t.device t) (transfers_in ts) (transfer_over T (pipes_in ts)) right.own
                (over_own t.address (transfer_over T (pipes_in ts)) own_so));
            reached = subst (λ v. IsReached table v.state) (sym device_is)
                (answer_reached table cut d (record { address = t.address; token = token }) (is_ready fate) fate right.reached);
            sound = subst Sound (sym pipes_is) stepped.2.sound_then;
            known =
                subst (λ p. Known last.device.stage p last.host.phase) (sym pipes_is)
                (subst (λ v. Known v.stage (pipes_after (received_in number (times number) t.address token (is_lost_ack fate) (brought fate r.reply)) (pipes_in ts)) last.host.phase) (sym device_is)
                (takes_works cut (Agree table cut described tells kept_table (after_answer table cut fate r).stage (pipes_after (received_in number (times number) t.address token (is_lost_ack fate) (brought fate r.reply)) (pipes_in ts)))
                (fresh_agrees table cut described tells kept_table (after_answer table cut fate r).stage (pipes_after (received_in number (times number) t.address token (is_lost_ack fate) (brought fate r.reply)) (pipes_in ts)))
                x.host last.host place t k (brought fate r.reply) stepped.2.agrees known.knows known.first
                (λ first at. stepped.2.may_come at (known.first first).request_is)
                (subst (λ c. TakesIn x.host (Reading place t k) c.reply last.host) served_is takes)));
          }

  -- and one whose token is lost
  lost_right : (x last : Pair) (made : IsTransactionAt table cut fates.LostDown x last) (ts : List Transaction) → IsRight ts x → IsRight (ts ++ []) last
  lost_right x last made ts right = subst (λ us. IsRight us last) (sym (append-nil ts)) (record {
    toggles = right.toggles;
    lengths = right.lengths;
    endings = right.endings;
    directions = right.directions;
    transfers = right.transfers;
    ended = right.ended;
    own = right.own;
    reached = subst (λ v. IsReached table v.state) (sym made.device) right.reached;
    sound = right.sound;
    known = of x.host.phase made.due made.host right.known;
  })
    where
      of : (phase : HostPhase) → wanted phase ≡ WantsSent made.sent → TakesIn x.host phase NoReply last.host → Known x.device.stage (pipes_in ts) phase
          → Known last.device.stage (pipes_in ts) last.host.phase
      of ResetDue due takes known = absurd (let w : ⊥ = cc in w)
      of (Ended place) due takes known = absurd (let w : ⊥ = cc in w)
      of (Reading place t k) due takes known =
          subst (λ v. Known v.stage (pipes_in ts) last.host.phase) (sym made.device)
          (takes_works cut (Agree table cut described tells kept_table x.device.stage (pipes_in ts)) (fresh_agrees table cut described tells kept_table x.device.stage (pipes_in ts)) x.host last.host place t k NoReply
          (taken_agrees table cut described tells kept_table x.device.stage (pipes_in ts) t known.holds.size_is t.stage NoReply refl known.holds.may_be known.holds.same (λ some. nothing_after table cut t.address t.stage x.device.stage t (known.holds.both some))
          (λ transfer is. after_none table cut described tells kept_table t.stage x.device.stage t (record { transfer = transfer; toggle = toggle_at t.address (pipes_in ts) }) (known.holds.fits transfer is))
          (λ is none. absurd (let w : ⊥ = cc in w)))
          known.knows known.first (λ first at. tt) takes)

  one_right : (x last : Pair) (fate : Fate) (made : IsTransactionAt table cut fate x last) (ts : List Transaction) (number : ℕ) → IsSmall (made_of x.device made.sent fate) → IsShortIn cut (made_of x.device made.sent fate)
      → IsRight ts x → IsRight (ts ++ one_received times number (made_of x.device made.sent fate)) last
  one_right x last fates.Pass made ts number small short right = kept_right x last fates.Pass made ts number refl small short right
  one_right x last fates.Busy made ts number small short right = kept_right x last fates.Busy made ts number refl small short right
  one_right x last fates.LostUp made ts number small short right = kept_right x last fates.LostUp made ts number refl small short right
  one_right x last fates.LostAck made ts number small short right = kept_right x last fates.LostAck made ts number refl small short right
  one_right x last fates.LostDown made ts number small short right = lost_right x last made ts right

  pub run_right : (new : Pair) (earlier : List Pair) (n : ℕ) (last : Pair) → new.host.phase ≡ ResetDue → new.device.state ≡ states.zero
      → RunsAt table cut list new earlier n last
      → AllByRecursion IsSmall (exchanges f list earlier n) → AllByRecursion (IsShortIn cut) (exchanges f list earlier n) → IsRight (received times 1 (exchanges f list earlier n)) last
  run_right new [] n last due first (same, none) small short = record {
    toggles = tt;
    lengths = tt;
    endings = tt;
    directions = tt;
    transfers = tt;
    ended = λ some. tt;
    own = tt;
    reached = subst (λ y. IsReached table y.device.state) (sym same) (subst (IsReached table) (sym first) (first_reached table));
    sound = sound_first;
    known = subst (λ y. Known y.device.stage none_open y.host.phase) (sym same) (subst (λ p. Known new.device.stage none_open p) (sym due) tt);
  }
  run_right new (x ∷ earlier) n last due first (inl (reset, run)) small short =
      let small_then = all_front IsSmall (exchanges f list earlier n) [] (subst (λ w. AllByRecursion IsSmall (exchanges f list earlier (count_before w n) ++ exchange_in f list n x.device w)) reset.due small) in
      let short_then = all_front (IsShortIn cut) (exchanges f list earlier n) [] (subst (λ w. AllByRecursion (IsShortIn cut) (exchanges f list earlier (count_before w n) ++ exchange_in f list n x.device w)) reset.due short) in
      let before = run_right new earlier n x due first run small_then short_then in
      let ts = received times 1 (exchanges f list earlier n) in
      subst (λ w. IsRight (received times 1 (exchanges f list earlier (count_before w n) ++ exchange_in f list n x.device w)) last) (sym reset.due)
      (subst (λ xs. IsRight (received times 1 xs) last) (sym (append-nil (exchanges f list earlier n)))
      (record {
        toggles = before.toggles;
        lengths = before.lengths;
        endings = before.endings;
        directions = before.directions;
        transfers = before.transfers;
        ended = before.ended;
        own = before.own;
        reached = subst (λ v. IsReached table v.state) (sym reset.device) (first_reached table);
        sound = before.sound;
        known = reset_works cut (Agree table cut described tells kept_table last.device.stage (pipes_in ts)) (fresh_agrees table cut described tells kept_table last.device.stage (pipes_in ts)) x.host last.host reset.due reset.host;
      }))
  run_right new (x ∷ earlier) n last due first (inr (m, same, made, run)) small short =
      let back : n - 1 ≡ m = omega (arith, same) in
      let xs = exchanges f list earlier m in
      let one = made_of x.device made.sent (fate_at list m) in
      let all : AllByRecursion IsSmall (xs ++ one ∷ []) =
      subst (λ k. AllByRecursion IsSmall (exchanges f list earlier k ++ made_of x.device made.sent (fate_at list k) ∷ [])) back
      (subst (λ w. AllByRecursion IsSmall (exchanges f list earlier (count_before w n) ++ exchange_in f list n x.device w)) made.due small) in
      let all_short : AllByRecursion (IsShortIn cut) (xs ++ one ∷ []) =
      subst (λ k. AllByRecursion (IsShortIn cut) (exchanges f list earlier k ++ made_of x.device made.sent (fate_at list k) ∷ [])) back
      (subst (λ w. AllByRecursion (IsShortIn cut) (exchanges f list earlier (count_before w n) ++ exchange_in f list n x.device w)) made.due short) in
      let before = run_right new earlier m x due first run (all_front IsSmall xs (one ∷ []) all) (all_front (IsShortIn cut) xs (one ∷ []) all_short) in
      subst (λ w. IsRight (received times 1 (exchanges f list earlier (count_before w n) ++ exchange_in f list n x.device w)) last) (sym made.due)
      (subst (λ k. IsRight (received times 1 (exchanges f list earlier k ++ made_of x.device made.sent (fate_at list k) ∷ [])) last) (sym back)
      (subst (λ ts. IsRight ts last) (sym (received_push times 1 xs one))
      (one_right x last (fate_at list m) made (received times 1 xs) (1 + length (packets_in xs)) (all_last IsSmall xs one all) (all_last (IsShortIn cut) xs one all_short) before)))
