-- The packets of data of a run are no longer than bMaxPacketSize0 of the device.
use Rattle.std.proofs.Common.{◌≡◌, ◌⊎◌, inl, inr, ◌==◌, ◌≤◌, ◌-◌, ◌+◌, ◌&&◌, ℕ, zero, suc, Bool, true, false, not, nat_lt, if◌then◌else◌, List, [], ◌∷◌, ◌++◌, length, take, drop, refl, sym, subst, arith}
use Rattle.std.specs.Prelude.{Option}
use Rattle.std.specs.List.{AllByRecursion}
use Rattle.std.proofs.lemmas.Bool.Decides.{nat_tests}
use Rattle.std.proofs.lemmas.List.{length-take-le}
use Rattle.usb_fields.specs.declared.packet.Toggle.{Toggle}
use Rattle.usb_fields.specs.declared.setup.Setup.{Setup}
use Rattle.usb_fields.specs.Packets.{AckReply, DataReply, InToken, NakReply, NoReply, OutToken, Reply, Sent, SetupToken, StallReply, Token, packets, packets_within}
use Rattle.usb_file_data.specs.declared.file.DescriptorFile.{DescriptorFile}
use Rattle.usb_host.specs.declared.transfer.TransferStage.{TransferStage}
use Rattle.usb_host.specs.declared.transfer.TransferStage.TheVariants as stages
use Rattle.usb_host.specs.Steps.{Ended, HostPhase, Reading, ResetDue, WantsSent, sends, wanted}
use Rattle.usb_host.specs.Transfer.{TransferView, addressed, token_due}
use Rattle.usb_device.specs.declared.state.State.{State}
use Rattle.usb_device.specs.Requests.{Outcome, answer}
use Rattle.usb_device.specs.Step.{DeviceStage, DeviceView, Sending, Served, StatusIn, next_packet, replies, served, served_here, served_in}
use Rattle.usb_bus.specs.declared.fate.Fate.{Fate}
use Rattle.usb_bus.specs.declared.fate.Fate.TheVariants as fates
use Rattle.usb_bus.specs.Bus.{brought}
use Rattle.usb_bus.specs.Enumerate.{Pair, RunsAt, answered}
use Rattle.usb_bus.specs.Exchanges.{is_lost_down}
use Rattle.usb_bus.specs.Log.{count_before}
use Rattle.usb_bus.specs.Run.{fate_at}
use Rattle.usb_bus.specs.Wire.{token_kind}
use Rattle.usb_capture.specs.declared.transaction.Transaction.{Transaction}
use Rattle.usb_capture.specs.PacketSizes.{is_long, is_longer, size_at}
use Rattle.usb_recorded_runs.specs.Exchanges.{Exchange, data_received, exchange_in, exchanges, received, packets_of, transaction_of, unless_lost}
use Rattle.usb_recorded_runs.proofs.RecordedLemmas.{Fits}
use Rattle.usb_recorded_runs.proofs.RunLemmas.{all_append, here_fits}

-- ---- packets of a data stage

pub all_drop : (P : List ℕ → Type 0) (k : ℕ) (ps : List (List ℕ)) → AllByRecursion P ps → AllByRecursion P (drop k ps)
all_drop P zero ps each = each
all_drop P (suc k) [] each = tt
all_drop P (suc k) (p ∷ ps) each = all_drop P k ps each.1

short_within : (most : ℕ) (bytes : List ℕ) (size limit : ℕ) → AllByRecursion (λ p. length p ≤ size) (packets_within most bytes size limit)
unfolding packets_within
short_within zero bytes size limit = tt
short_within (suc most) bytes size limit = of (limit == 0) (nat_lt (length bytes) size) refl (short_within most (drop size bytes) size (limit - size))
  where
    of : (none last : Bool) → nat_lt (length bytes) size ≡ last → AllByRecursion (λ p. length p ≤ size) (packets_within most (drop size bytes) size (limit - size))
        → AllByRecursion (λ p. length p ≤ size)
        (if none then [] else (if last then bytes ∷ [] else take size bytes ∷ packets_within most (drop size bytes) size (limit - size)))
    of true last is later = tt
    of false true is later = (grind (arith, nat_tests), tt)
    of false false is later = (let enough : size ≤ length bytes = grind (arith, nat_tests) in omega (arith, length-take-le size bytes enough), later)

short_packets : (bytes : List ℕ) (size limit : ℕ) → AllByRecursion (λ p. length p ≤ size) (packets bytes size limit)
unfolding packets
short_packets bytes size limit = short_within limit bytes size limit

-- ---- what a device answers

abbrev pub IsShort : ℕ → Reply → Type 0
IsShort size (DataReply toggle bytes) = length bytes ≤ size
IsShort size reply = Unit {0}

either_short : (size : ℕ) (c : Bool) (x y : Served) → IsShort size x.reply → IsShort size y.reply → IsShort size (if c then x else y).reply
either_short size true x y p q = p
either_short size false x y p q = q

-- what answers no IN has no data
other_short : (size : ℕ) (toggle : Toggle) (bytes : List ℕ) (reply : Reply) → Fits (OutToken toggle bytes) reply → IsShort size reply
other_short size toggle bytes (DataReply other more) fits = absurd fits
other_short size toggle bytes AckReply fits = tt
other_short size toggle bytes NakReply fits = tt
other_short size toggle bytes StallReply fits = tt
other_short size toggle bytes NoReply fits = tt

module _ (table : State → Setup → Outcome) (cut : ℕ) where
  packet_short : (s : State) (stage : DeviceStage) (k : ℕ) (left : List (List ℕ)) → AllByRecursion (λ p. length p ≤ cut) left → IsShort cut (next_packet s stage k left).reply
  packet_short s stage k [] each = tt
  packet_short s stage k (p ∷ rest) each = each.0

  in_short : (s : State) (stage : DeviceStage) → IsShort cut (served_in table cut s stage).reply
  in_short s (Sending q b k) = packet_short s (Sending q b k) k (drop k (packets b cut q.length)) (all_drop (λ p. length p ≤ cut) k (packets b cut q.length) (short_packets b cut q.length))
  in_short s (StatusIn q carried) = omega arith
  in_short s stage = tt

  here_short : (d : DeviceView) (token : Token) (ready : Bool) → IsShort cut (served_here table cut d token ready).reply
  here_short d (SetupToken bytes) ready = tt
  here_short d InToken false = tt
  here_short d InToken true = in_short d.state d.stage
  here_short d (OutToken toggle bytes) ready =
      other_short cut toggle bytes (served_here table cut d (OutToken toggle bytes) ready).reply (here_fits table cut d (OutToken toggle bytes) ready)

  served_short : (d : DeviceView) (sent : Sent) (ready : Bool) → IsShort cut (served table cut d sent ready).reply
  served_short d sent ready =
      either_short cut (sent.address == d.state.address) (served_here table cut d sent.token ready) (replies NoReply d.state d.stage false)
      (here_short d sent.token ready) tt

-- ---- what a host sends

abbrev pub IsShortToken : ℕ → Token → Type 0
IsShortToken size (OutToken toggle bytes) = length bytes ≤ size
IsShortToken size token = Unit {0}

none_due : (n k size : ℕ) → length {A = ℕ} (take n (drop k [])) ≤ size
none_due zero zero size = omega arith
none_due zero (suc k) size = omega arith
none_due (suc n) zero size = omega arith
none_due (suc n) (suc k) size = omega arith

same_short : (size : ℕ) (s sent : Sent) → WantsSent s ≡ WantsSent sent → IsShortToken size s.token → IsShortToken size sent.token
same_short size s sent e is = let same : s ≡ sent = cc in subst (λ x. IsShortToken size x.token) same is

token_short : (size : ℕ) (t : TransferView) (stage : TransferStage) (sent : Sent) → sends (addressed t.address (token_due t [] stage)) ≡ WantsSent sent
    → IsShortToken size sent.token
token_short size t stages.Setup sent e = same_short size _ sent e tt
token_short size t stages.DataIn sent e = same_short size _ sent e tt
token_short size t stages.DataOut sent e = same_short size _ sent e (none_due t.packet t.kept size)
token_short size t stages.StatusOut sent e = same_short size _ sent e (omega arith)
token_short size t stages.StatusIn sent e = same_short size _ sent e tt
token_short size t stages.Completed sent e = absurd (let w : ⊥ = cc in w)
token_short size t (stages.Failed why) sent e = absurd (let w : ⊥ = cc in w)

due_short : (size : ℕ) (phase : HostPhase) (sent : Sent) → wanted phase ≡ WantsSent sent → IsShortToken size sent.token
due_short size ResetDue sent e = absurd (let w : ⊥ = cc in w)
due_short size (Reading place t k) sent e = token_short size t t.stage sent e
due_short size (Ended place) sent e = absurd (let w : ⊥ = cc in w)

-- ---- a run

pub record IsShortIn (size : ℕ) (x : Exchange) : Type 0 where
  pub token : IsShortToken size x.sent.token
  pub reply : IsShort size x.answered

module _ (f : DescriptorFile) where
  answered_short : (d : DeviceView) (sent : Sent) (fate : Fate) → IsShort f.device.packet (answered f d sent fate)
  answered_short d sent fates.Pass = served_short (answer f) f.device.packet d sent true
  answered_short d sent fates.Busy = served_short (answer f) f.device.packet d sent false
  answered_short d sent fates.LostUp = served_short (answer f) f.device.packet d sent true
  answered_short d sent fates.LostAck = served_short (answer f) f.device.packet d sent true
  answered_short d sent fates.LostDown = tt

  pub short_run : (list : List Fate) (new : Pair) (earlier : List Pair) (n : ℕ) (last : Pair) → RunsAt (answer f) f.device.packet list new earlier n last
      → AllByRecursion (IsShortIn f.device.packet) (exchanges f list earlier n)
  short_run list new [] n last run = tt
  short_run list new (x ∷ earlier) n last (inl (reset, run)) =
      subst (λ w. AllByRecursion (IsShortIn f.device.packet) (exchanges f list earlier (count_before w n) ++ exchange_in f list n x.device w)) (sym reset.due)
      (all_append (IsShortIn f.device.packet) (exchanges f list earlier n) [] (short_run list new earlier n x run) tt)
  short_run list new (x ∷ earlier) n last (inr (m, same, made, run)) =
      let before : n - 1 ≡ m = omega (arith, same) in
      subst (λ w. AllByRecursion (IsShortIn f.device.packet) (exchanges f list earlier (count_before w n) ++ exchange_in f list n x.device w)) (sym made.due)
      (all_append (IsShortIn f.device.packet) (exchanges f list earlier (n - 1)) _
      (subst (λ k. AllByRecursion (IsShortIn f.device.packet) (exchanges f list earlier k)) (sym before) (short_run list new earlier m x run)) (
        record {
          token = due_short f.device.packet x.host.phase made.sent made.due;
          reply = answered_short x.device made.sent (fate_at list (n - 1));
        },
        tt,
      ))

-- ---- what is received

came_short : (size : ℕ) (fate : Fate) (reply : Reply) → IsShort size reply → IsShort size (brought fate reply)
came_short size fates.LostUp reply short = tt
came_short size fates.Pass reply short = short
came_short size fates.Busy reply short = short
came_short size fates.LostDown reply short = short
came_short size fates.LostAck reply short = short

not_longer : (known size n : ℕ) → (known ≡ 0) ⊎ (known ≡ size) → n ≤ size → (not (known == 0) && nat_lt known n) ≡ false
not_longer known size n (inl none) few = grind (arith, nat_tests)
not_longer known size n (inr own) few = grind (arith, nat_tests)

token_right : (size known : ℕ) (token : Token) (came : Reply) → (known ≡ 0) ⊎ (known ≡ size) → IsShortToken size token → IsShort size came
    → is_longer (token_kind token) (data_received token came) known ≡ false
token_right size known (SetupToken bytes) came own token reply = refl
token_right size known (OutToken toggle bytes) came own token reply = not_longer known size (length bytes) own token
token_right size known InToken (DataReply toggle bytes) own token reply = not_longer known size (length bytes) own reply
token_right size known InToken AckReply own token reply = refl
token_right size known InToken NakReply own token reply = refl
token_right size known InToken StallReply own token reply = refl
token_right size known InToken NoReply own token reply = refl

abbrev pub IsNotLong : ℕ → Transaction → Type 0
IsNotLong size t = (sizes : List ℕ) → (size_at t.to.address sizes ≡ 0) ⊎ (size_at t.to.address sizes ≡ size) → is_long sizes t ≡ false

pub one_not_long : (size number : ℕ) (time : Option ℕ) (x : Exchange) → IsShortIn size x → IsNotLong size (transaction_of number time x)
one_not_long size number time x short sizes own =
    token_right size (size_at x.sent.address sizes) x.sent.token (brought x.fate x.answered) own short.token (came_short size x.fate x.answered short.reply)

none_long_first : (size : ℕ) (lost : Bool) (t : Transaction) (ts : List Transaction) → IsNotLong size t → AllByRecursion (IsNotLong size) ts
    → AllByRecursion (IsNotLong size) (unless_lost lost t ++ ts)
none_long_first size true t ts short later = later
none_long_first size false t ts short later = (short, later)

pub none_long : (size : ℕ) (times : ℕ → Option ℕ) (number : ℕ) (xs : List Exchange) → AllByRecursion (IsShortIn size) xs
    → AllByRecursion (IsNotLong size) (received times number xs)
none_long size times number [] short = tt
none_long size times number (x ∷ xs) short =
    none_long_first size (is_lost_down x.fate) (transaction_of number (times number) x) (received times (number + length (packets_of x)) xs)
    (one_not_long size number (times number) x short.0)
    (none_long size times (number + length (packets_of x)) xs short.1)
