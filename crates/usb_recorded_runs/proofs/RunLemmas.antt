-- The transactions of a run over a bus of bytes on which no bit changes: their packets are legal, and data answer an IN alone.
use Rattle.std.proofs.Common.{◌≡◌, ◌≢◌, ◌==◌, ◌-◌, ℕ, Bool, true, false, if◌then◌else◌, List, [], ◌∷◌, ◌++◌, inl, inr, refl, sym, ◌∙◌, ap, subst, arith, not, length, min}
use Rattle.std.specs.Prelude.{Option, Some, None, drop}
use Rattle.std.proofs.lemmas.Bool.Decides.{nat_tests}
use Rattle.std.specs.List.{AllByRecursion}
use Rattle.usb_wire.specs.Damages.{damage_of}
use Rattle.usb_wire.specs.Packets.{IsLegal, PacketView, packet_bytes}
use Rattle.usb_wire.proofs.RoundTrip.{packet_taken, same_packet}
use Rattle.usb_fields.specs.declared.packet.Toggle.{Toggle}
use Rattle.usb_fields.specs.declared.packet.Toggle.TheVariants.{Data0, Data1}
use Rattle.usb_fields.specs.declared.setup.Setup.{Setup}
use Rattle.usb_fields.specs.Packets.{AckReply, DataReply, InToken, NoReply, OutToken, Reply, Sent, SetupToken, Token, is_same_toggle, packets}
use Rattle.usb_file_data.specs.declared.file.DescriptorFile.{DescriptorFile}
use Rattle.usb_host.specs.declared.transfer.TransferStage.{TransferStage}
use Rattle.usb_host.specs.declared.transfer.TransferStage.TheVariants as stages
use Rattle.usb_host.specs.Steps.{Ended, HostPhase, Reading, ResetDue, WantsSent, sends, wanted}
use Rattle.usb_host.specs.Transfer.{TransferView, addressed, token_due}
use Rattle.usb_device.specs.declared.state.State.{State}
use Rattle.usb_device.specs.Requests.{Outcome, answer}
use Rattle.usb_device.specs.Step.{DeviceStage, DeviceView, Halted, Idle, Over, Receiving, Sending, Served, StatusIn, StatusOut, Written, awaited, gathered, received, replies, served, next_packet, served_here, served_in, served_out, stalls, status_out}
use Rattle.usb_device.specs.View.{served_by}
use Rattle.usb_bus.specs.declared.fate.Fate.{Fate}
use Rattle.usb_bus.specs.declared.fate.Fate.TheVariants as fates
use Rattle.usb_bus.specs.Bus.{brought, readiness}
use Rattle.usb_bus.specs.Damaged.{IsExchanged, IsTakenOf, bits_of, fits, fitting, is_ready}
use Rattle.usb_bus.specs.DamagedRuns.{DamagedRunsAt}
use Rattle.usb_bus.specs.Enumerate.{Pair, RunsAt, answered, answered_to}
use Rattle.usb_bus.specs.Exchanges.{is_lost_ack, is_lost_down, is_lost_up}
use Rattle.usb_bus.specs.Log.{count_before}
use Rattle.usb_bus.specs.Run.{fate_at}
use Rattle.usb_bus.specs.Wire.{Receives, ack_packet, data_packet, received_sent, reply_packet, served_received, token_packet}
use Rattle.usb_bus.proofs.WireArrivals.{none_is_not_some}
use Rattle.usb_recorded_runs.specs.Exchanges.{Exchange, arriving, exchange_in, exchanges, packets_in, packets_of}
use Rattle.usb_recorded_runs.proofs.RecordedLemmas.{Fits, IsRegular}

-- ---- what a device answers

either_fits : (token : Token) (c : Bool) (x y : Served) → Fits token x.reply → Fits token y.reply → Fits token (if c then x else y).reply
either_fits token true x y p q = p
either_fits token false x y p q = q

none_fits : (token : Token) → Fits token NoReply
none_fits (SetupToken bytes) = tt
none_fits InToken = tt
none_fits (OutToken toggle bytes) = tt

module _ (table : State → Setup → Outcome) (cut : ℕ) where
  status_fits : (s : State) (stage : DeviceStage) (toggle : Toggle) (bytes : List ℕ) → Fits (OutToken toggle bytes) (status_out s stage toggle bytes).reply
  status_fits s stage Data0 bytes = tt
  status_fits s stage Data1 [] = tt
  status_fits s stage Data1 (byte ∷ bytes) = tt

  received_fits : (s : State) (q : Setup) (o : Outcome) (got : List ℕ) (toggle : Toggle) (bytes : List ℕ)
      → Fits (OutToken toggle bytes) (received cut s q o got toggle bytes).reply
  received_fits s q o got toggle bytes =
      either_fits (OutToken toggle bytes) (not (is_same_toggle toggle (awaited cut (length got)))) _ _ tt
      (either_fits (OutToken toggle bytes) (length bytes == min cut (q.length - length got)) (replies AckReply s (gathered q o (got ++ bytes)) false) (stalls s) tt tt)

  out_fits : (s : State) (stage : DeviceStage) (toggle : Toggle) (bytes : List ℕ) → Fits (OutToken toggle bytes) (served_out table cut s stage toggle bytes).reply
  out_fits s (Sending q b k) toggle bytes = status_fits s (Sending q b k) toggle bytes
  out_fits s (StatusOut q) toggle bytes = status_fits s (StatusOut q) toggle bytes
  out_fits s Over toggle bytes = status_fits s Over toggle bytes
  out_fits s (StatusIn q carried) toggle bytes =
      either_fits (OutToken toggle bytes) (q.length == 0) (stalls s) (replies AckReply s (StatusIn q carried) false) tt tt
  out_fits s (Receiving q got) toggle bytes = received_fits s q (table s q) got toggle bytes
  out_fits s (Written q got) toggle bytes =
      either_fits (OutToken toggle bytes) (is_same_toggle toggle (awaited cut (length got))) (stalls s) (replies AckReply s (Written q got) false) tt tt
  out_fits s Idle toggle bytes = tt
  out_fits s (Halted refused) toggle bytes = tt

  pub here_fits : (d : DeviceView) (token : Token) (ready : Bool) → Fits token (served_here table cut d token ready).reply
  here_fits d (SetupToken bytes) ready = tt
  here_fits d InToken ready = tt
  here_fits d (OutToken toggle bytes) false = tt
  here_fits d (OutToken toggle bytes) true = out_fits d.state d.stage toggle bytes

  served_fits : (d : DeviceView) (sent : Sent) (ready : Bool) → Fits sent.token (served table cut d sent ready).reply
  served_fits d sent ready =
      either_fits sent.token (sent.address == d.state.address) (served_here table cut d sent.token ready) (replies NoReply d.state d.stage false)
      (here_fits d sent.token ready) (none_fits sent.token)

-- It says something at its address.
abbrev Speaks : Reply → Type 0
Speaks NoReply = ⊥
Speaks reply = Unit {0}

either_speaks : (c : Bool) (x y : Served) → Speaks x.reply → Speaks y.reply → Speaks (if c then x else y).reply
either_speaks true x y p q = p
either_speaks false x y p q = q

module _ (table : State → Setup → Outcome) (cut : ℕ) where
  packet_speaks : (s : State) (stage : DeviceStage) (k : ℕ) (left : List (List ℕ)) → Speaks (next_packet s stage k left).reply
  packet_speaks s stage k [] = tt
  packet_speaks s stage k (p ∷ rest) = tt

  in_speaks : (s : State) (stage : DeviceStage) → Speaks (served_in table cut s stage).reply
  in_speaks s (Sending q b k) = packet_speaks s (Sending q b k) k (drop k (packets b cut q.length))
  in_speaks s (StatusIn q carried) = tt
  in_speaks s stage = tt

  status_speaks : (s : State) (stage : DeviceStage) (toggle : Toggle) (bytes : List ℕ) → Speaks (status_out s stage toggle bytes).reply
  status_speaks s stage Data0 bytes = tt
  status_speaks s stage Data1 [] = tt
  status_speaks s stage Data1 (byte ∷ bytes) = tt

  out_speaks : (s : State) (stage : DeviceStage) (toggle : Toggle) (bytes : List ℕ) → Speaks (served_out table cut s stage toggle bytes).reply
  out_speaks s (Sending q b k) toggle bytes = status_speaks s (Sending q b k) toggle bytes
  out_speaks s (StatusOut q) toggle bytes = status_speaks s (StatusOut q) toggle bytes
  out_speaks s Over toggle bytes = status_speaks s Over toggle bytes
  out_speaks s (StatusIn q carried) toggle bytes = either_speaks (q.length == 0) (stalls s) (replies AckReply s (StatusIn q carried) false) tt tt
  out_speaks s (Receiving q got) toggle bytes =
      either_speaks (not (is_same_toggle toggle (awaited cut (length got)))) (replies AckReply s (Receiving q got) false) _ tt
      (either_speaks (length bytes == min cut (q.length - length got)) (replies AckReply s (gathered q (table s q) (got ++ bytes)) false) (stalls s) tt tt)
  out_speaks s (Written q got) toggle bytes =
      either_speaks (is_same_toggle toggle (awaited cut (length got))) (stalls s) (replies AckReply s (Written q got) false) tt tt
  out_speaks s Idle toggle bytes = tt
  out_speaks s (Halted refused) toggle bytes = tt

  here_speaks : (d : DeviceView) (token : Token) (ready : Bool) → Speaks (served_here table cut d token ready).reply
  here_speaks d (SetupToken bytes) ready = tt
  here_speaks d InToken false = tt
  here_speaks d InToken true = in_speaks d.state d.stage
  here_speaks d (OutToken toggle bytes) false = tt
  here_speaks d (OutToken toggle bytes) true = out_speaks d.state d.stage toggle bytes

  served_replies : (d : DeviceView) (sent : Sent) (ready : Bool) → (served table cut d sent ready).reply ≡ NoReply → sent.address ≢ d.state.address
  served_replies d sent ready none = of (sent.address == d.state.address) refl none
    where
      other : (m n : ℕ) → (m == n) ≡ false → m ≢ n
      other m n e = grind (arith, nat_tests)

      of : (here : Bool) → (sent.address == d.state.address) ≡ here
          → (if here then served_here table cut d sent.token ready else replies NoReply d.state d.stage false).reply ≡ NoReply → sent.address ≢ d.state.address
      of true is none = absurd (subst Speaks none (here_speaks d sent.token ready))
      of false is none = other sent.address d.state.address is

-- ---- what comes next

same_fits : (s sent : Sent) → WantsSent s ≡ WantsSent sent → fits s.token ≡ true → fits sent.token ≡ true
same_fits s sent e is = let same : s ≡ sent = cc in subst (λ x. fits x.token ≡ true) same is

token_fits : (t : TransferView) (stage : TransferStage) (sent : Sent) → sends (addressed t.address (token_due t [] stage)) ≡ WantsSent sent → fits sent.token ≡ true
token_fits t stages.Setup sent e = same_fits _ sent e refl
token_fits t stages.DataIn sent e = same_fits _ sent e refl
token_fits t stages.DataOut sent e = same_fits _ sent e refl
token_fits t stages.StatusOut sent e = same_fits _ sent e refl
token_fits t stages.StatusIn sent e = same_fits _ sent e refl
token_fits t stages.Completed sent e = absurd (let w : ⊥ = cc in w)
token_fits t (stages.Failed why) sent e = absurd (let w : ⊥ = cc in w)

pub due_fits : (phase : HostPhase) (sent : Sent) → wanted phase ≡ WantsSent sent → fits sent.token ≡ true
due_fits ResetDue sent e = absurd (let w : ⊥ = cc in w)
due_fits (Reading place t k) sent e = token_fits t t.stage sent e
due_fits (Ended place) sent e = absurd (let w : ⊥ = cc in w)

-- ---- packets

received_whole : (p : PacketView) (received : Option PacketView) → IsLegal p → Receives (packet_bytes p) received → received ≡ Some p
received_whole p None legal is = absurd (none_is_not_some (damage_of (packet_bytes p)) (packet_taken p legal) is)
received_whole p (Some q) legal is = ap (λ r. Some r) (same_packet q p is.0 legal is.1)

pub taken_whole : (p received : Option PacketView) → IsTakenOf false [] p received → received ≡ p
taken_whole None received is = is
taken_whole (Some p) received is = received_whole p received is.0 is.1

legal_arriving : (lost : Bool) (bits : List ℕ) (p received : Option PacketView) → IsTakenOf lost bits p received → AllByRecursion IsLegal (arriving lost p)
legal_arriving lost bits None received is = tt
legal_arriving true bits (Some p) received is = tt
legal_arriving false bits (Some p) received is = (is.0, tt)

pub legal_ack : (lost : Bool) (reply : Reply) → AllByRecursion IsLegal (arriving lost (ack_packet reply))
legal_ack true (DataReply toggle bytes) = tt
legal_ack false (DataReply toggle bytes) = (tt, tt)
legal_ack lost reply = tt

pub all_append : {A : Type 0} (P : A → Type 0) (xs ys : List A) → AllByRecursion P xs → AllByRecursion P ys → AllByRecursion P (xs ++ ys)
all_append P [] ys p q = q
all_append P (x ∷ xs) ys p q = (p.0, all_append P xs ys p.1 q)

-- a device that receives all that is sent
pub whole_received : (address : ℕ) (token : Token) → fits token ≡ true
    → (let s : Sent = record { address = address; token = token } in fitting (received_sent (Some (token_packet s)) (data_packet token)) ≡ Some s)
whole_received address (SetupToken bytes) e =
    let s : Sent = record { address = address; token = SetupToken bytes } in ap (λ c. if c then Some s else None) e
whole_received address InToken e = refl
whole_received address (OutToken Data0 bytes) e = refl
whole_received address (OutToken Data1 bytes) e = refl

-- ---- one transaction

module _ (f : DescriptorFile) where
  abbrev made_of : DeviceView → Sent → Fate → Exchange
  made_of d sent fate = record { fate = fate; sent = sent; address = d.state.address; answered = answered f d sent fate }

  module _ (d : DeviceView) (sent : Sent) (fate : Fate) (n : ℕ) (a : Reply) (r : Served) (fit : fits sent.token ≡ true)
      (x : IsExchanged (answer f) f.device.packet d sent fate (bits_of [] n) a r) where
    answers : is_lost_down fate ≡ false → a ≡ (served_by f d sent (is_ready fate)).reply
    answers kept =
        let token : x.token ≡ Some (token_packet sent) = taken_whole (Some (token_packet sent)) x.token (subst (λ lost. IsTakenOf lost [] (Some (token_packet sent)) x.token) kept x.token_is) in
        let after : x.after ≡ data_packet sent.token = taken_whole (data_packet sent.token) x.after (subst (λ lost. IsTakenOf lost [] (data_packet sent.token) x.after) kept x.after_is) in
        x.rest.answers
        ∙ ap (λ t. (served_received (answer f) f.device.packet d (fitting (received_sent t x.after)) (is_ready fate)).reply) token
        ∙ ap (λ b. (served_received (answer f) f.device.packet d (fitting (received_sent (Some (token_packet sent)) b)) (is_ready fate)).reply) after
        ∙ ap (λ h. (served_received (answer f) f.device.packet d h (is_ready fate)).reply) (whole_received sent.address sent.token fit)

    regular_kept : is_lost_down fate ≡ false → readiness fate ≡ Some (is_ready fate) → IsRegular (made_of d sent fate)
    regular_kept kept ready =
        let same : answered f d sent fate ≡ (served_by f d sent (is_ready fate)).reply = ap (answered_to f d sent) ready in
        let is : a ≡ answered f d sent fate = answers kept ∙ sym same in
        record {
          asks = fit;
          answers = subst (Fits sent.token) (sym same) (served_fits (answer f) f.device.packet d sent (is_ready fate));
          replies = λ kept none. served_replies (answer f) f.device.packet d sent (is_ready fate) (sym same ∙ none);
          silent = λ lost. absurd (let e : true ≡ false = sym lost ∙ kept in let w : ⊥ = cc in w);
          legal =
              all_append IsLegal (arriving (is_lost_down fate) (Some (token_packet sent))) _ (legal_arriving (is_lost_down fate) [] (Some (token_packet sent)) x.token x.token_is)
              (all_append IsLegal (arriving (is_lost_down fate) (data_packet sent.token)) _ (legal_arriving (is_lost_down fate) [] (data_packet sent.token) x.after x.after_is)
              (all_append IsLegal (arriving (is_lost_up fate) (reply_packet (answered f d sent fate))) _
              (subst (λ b. AllByRecursion IsLegal (arriving (is_lost_up fate) (reply_packet b))) is (legal_arriving (is_lost_up fate) [] (reply_packet a) x.rest.reply x.rest.reply_is))
              (legal_ack (is_lost_ack fate) (brought fate (answered f d sent fate)))));
        }

  regular_one : (d : DeviceView) (sent : Sent) (fate : Fate) (n : ℕ) (a : Reply) (r : Served) → fits sent.token ≡ true
      → IsExchanged (answer f) f.device.packet d sent fate (bits_of [] n) a r → IsRegular (made_of d sent fate)
  regular_one d sent fates.Pass n a r fit x = regular_kept d sent fates.Pass n a r fit x refl refl
  regular_one d sent fates.Busy n a r fit x = regular_kept d sent fates.Busy n a r fit x refl refl
  regular_one d sent fates.LostUp n a r fit x = regular_kept d sent fates.LostUp n a r fit x refl refl
  regular_one d sent fates.LostAck n a r fit x = regular_kept d sent fates.LostAck n a r fit x refl refl
  regular_one d sent fates.LostDown n a r fit x = record { asks = fit; answers = none_fits sent.token; replies = λ kept. absurd (let e : true ≡ false = kept in let w : ⊥ = cc in w); silent = λ lost. refl; legal = none sent.token }
    where
      none : (token : Token) → AllByRecursion IsLegal (packets_of (record { fate = fates.LostDown; sent = record { address = sent.address; token = token }; address = d.state.address; answered = NoReply }))
      none (SetupToken bytes) = tt
      none InToken = tt
      none (OutToken toggle bytes) = tt

  -- ---- a run over a bus of bytes

  pub regular_run : (list : List Fate) (new : Pair) (earlier : List Pair) (n : ℕ) (last : Pair) → DamagedRunsAt (answer f) f.device.packet list [] new earlier n last
      → AllByRecursion IsRegular (exchanges f list earlier n)
  regular_run list new [] n last run = tt
  regular_run list new (x ∷ earlier) n last (m, inl (reset, same), run) =
      subst (λ w. AllByRecursion IsRegular (exchanges f list earlier (count_before w n) ++ exchange_in f list n x.device w)) (sym reset.due)
      (subst (λ k. AllByRecursion IsRegular (exchanges f list earlier k ++ [])) (sym same)
      (all_append IsRegular (exchanges f list earlier m) [] (regular_run list new earlier m x run) tt))
  regular_run list new (x ∷ earlier) n last (m, inr (made, same), run) =
      let before : n - 1 ≡ m = omega (arith, same) in
      let one = regular_one x.device made.sent (fate_at list m) n made.answered made.brings (due_fits x.host.phase made.sent made.due) made.carries in
      subst (λ w. AllByRecursion IsRegular (exchanges f list earlier (count_before w n) ++ exchange_in f list n x.device w)) (sym made.due)
      (subst (λ k. AllByRecursion IsRegular (exchanges f list earlier k ++ made_of x.device made.sent (fate_at list k) ∷ [])) (sym before)
      (all_append IsRegular (exchanges f list earlier m) _ (regular_run list new earlier m x run) (one, tt)))

  -- ---- the same of a run under fates, where the packets that arrive are legal

  regular_sent : (d : DeviceView) (sent : Sent) (fate : Fate) → fits sent.token ≡ true → AllByRecursion IsLegal (packets_of (made_of d sent fate)) → IsRegular (made_of d sent fate)
  regular_sent d sent fate fit legal = of fate legal
    where
      kept_one : (fate : Fate) → is_lost_down fate ≡ false → readiness fate ≡ Some (is_ready fate) → AllByRecursion IsLegal (packets_of (made_of d sent fate)) → IsRegular (made_of d sent fate)
      kept_one fate kept ready legal =
          let same : answered f d sent fate ≡ (served_by f d sent (is_ready fate)).reply = ap (answered_to f d sent) ready in
          record {
            asks = fit;
            answers = subst (Fits sent.token) (sym same) (served_fits (answer f) f.device.packet d sent (is_ready fate));
            replies = λ kept none. served_replies (answer f) f.device.packet d sent (is_ready fate) (sym same ∙ none);
            silent = λ lost. absurd (let e : true ≡ false = sym lost ∙ kept in let w : ⊥ = cc in w);
            legal = legal;
          }

      of : (fate : Fate) → AllByRecursion IsLegal (packets_of (made_of d sent fate)) → IsRegular (made_of d sent fate)
      of fates.Pass legal = kept_one fates.Pass refl refl legal
      of fates.Busy legal = kept_one fates.Busy refl refl legal
      of fates.LostUp legal = kept_one fates.LostUp refl refl legal
      of fates.LostAck legal = kept_one fates.LostAck refl refl legal
      of fates.LostDown legal = record {
        asks = fit;
        answers = none_fits sent.token;
        replies = λ kept. absurd (let e : true ≡ false = kept in let w : ⊥ = cc in w);
        silent = λ lost. refl;
        legal = legal;
      }

  all_left : (xs ys : List PacketView) → AllByRecursion IsLegal (xs ++ ys) → AllByRecursion IsLegal xs
  all_left [] ys each = tt
  all_left (x ∷ xs) ys each = (each.0, all_left xs ys each.1)

  all_right : (xs ys : List PacketView) → AllByRecursion IsLegal (xs ++ ys) → AllByRecursion IsLegal ys
  all_right [] ys each = each
  all_right (x ∷ xs) ys each = all_right xs ys each.1

  legal_front : (xs ys : List Exchange) → AllByRecursion IsLegal (packets_in (xs ++ ys)) → AllByRecursion IsLegal (packets_in xs)
  legal_front [] ys each = tt
  legal_front (x ∷ xs) ys each =
      all_append IsLegal (packets_of x) (packets_in xs) (all_left (packets_of x) (packets_in (xs ++ ys)) each) (legal_front xs ys (all_right (packets_of x) (packets_in (xs ++ ys)) each))

  legal_last : (xs : List Exchange) (x : Exchange) → AllByRecursion IsLegal (packets_in (xs ++ x ∷ [])) → AllByRecursion IsLegal (packets_of x)
  legal_last [] x each = all_left (packets_of x) [] each
  legal_last (y ∷ xs) x each = legal_last xs x (all_right (packets_of y) (packets_in (xs ++ x ∷ [])) each)

  pub regular_plain : (list : List Fate) (new : Pair) (earlier : List Pair) (n : ℕ) (last : Pair) → RunsAt (answer f) f.device.packet list new earlier n last
      → AllByRecursion IsLegal (packets_in (exchanges f list earlier n)) → AllByRecursion IsRegular (exchanges f list earlier n)
  regular_plain list new [] n last run legal = tt
  regular_plain list new (x ∷ earlier) n last (inl (reset, run)) legal =
      let before = legal_front (exchanges f list earlier n) []
      (subst (λ w. AllByRecursion IsLegal (packets_in (exchanges f list earlier (count_before w n) ++ exchange_in f list n x.device w))) reset.due legal) in
      subst (λ w. AllByRecursion IsRegular (exchanges f list earlier (count_before w n) ++ exchange_in f list n x.device w)) (sym reset.due)
      (all_append IsRegular (exchanges f list earlier n) [] (regular_plain list new earlier n x run before) tt)
  regular_plain list new (x ∷ earlier) n last (inr (m, same, made, run)) legal =
      let back : n - 1 ≡ m = omega (arith, same) in
      let xs = exchanges f list earlier m in
      let one = made_of x.device made.sent (fate_at list m) in
      let all : AllByRecursion IsLegal (packets_in (xs ++ one ∷ [])) =
      subst (λ k. AllByRecursion IsLegal (packets_in (exchanges f list earlier k ++ made_of x.device made.sent (fate_at list k) ∷ []))) back
      (subst (λ w. AllByRecursion IsLegal (packets_in (exchanges f list earlier (count_before w n) ++ exchange_in f list n x.device w))) made.due legal) in
      let now = regular_sent x.device made.sent (fate_at list m) (due_fits x.host.phase made.sent made.due) (legal_last xs one all) in
      subst (λ w. AllByRecursion IsRegular (exchanges f list earlier (count_before w n) ++ exchange_in f list n x.device w)) (sym made.due)
      (subst (λ k. AllByRecursion IsRegular (exchanges f list earlier k ++ made_of x.device made.sent (fate_at list k) ∷ [])) (sym back)
      (all_append IsRegular xs (one ∷ []) (regular_plain list new earlier m x run (legal_front xs (one ∷ []) all)) (now, tt)))
