-- The packets of an enumeration are legal ones.
use Rattle.std.proofs.Common.{◌≡◌, ◌<◌, ◌≤◌, ◌-◌, ℕ, Bool, true, false, List, [], ◌∷◌, ◌++◌, length, inl, inr, refl, sym, subst, arith, lit<}
use Rattle.std.specs.Prelude.{Option, Some, None}
use Rattle.std.specs.List.{AllByRecursion}
use Rattle.usb_wire.specs.Packets.{IsLegal, PacketView}
use Rattle.usb_fields.specs.Bytes.{AreBytes}
use Rattle.usb_fields.specs.declared.packet.Speed.{Speed}
use Rattle.usb_fields.specs.Packets.{AckReply, DataReply, InToken, NakReply, NoReply, OutToken, Reply, Sent, SetupToken, StallReply, Token}
use Rattle.usb_file_data.specs.declared.file.DescriptorFile.{DescriptorFile}
use Rattle.usb_file_data.specs.File.{file_bytes, other_bytes, sets_bytes, strings_bytes}
use Rattle.usb_fields.specs.Device.{device_bytes}
use Rattle.usb_file_data.proofs.Lists.{bytes_before}
use Rattle.usb_host.specs.declared.choice.Choice.{Choice}
use Rattle.usb_host.specs.Cost.{BringsBytes}
use Rattle.usb_host.specs.Limits.{LimitView}
use Rattle.usb_device.specs.Requests.{answer}
use Rattle.usb_device.specs.Step.{DeviceView}
use Rattle.usb_bus.specs.declared.fate.Fate.{Fate}
use Rattle.usb_bus.specs.Beside.{IsTable}
use Rattle.usb_bus.specs.Bus.{brought}
use Rattle.usb_bus.specs.Enumerate.{Pair, RunsAt, answered, chosen_pair}
use Rattle.usb_bus.specs.Exchanges.{is_lost_ack, is_lost_down, is_lost_up}
use Rattle.usb_bus.specs.Log.{count_before}
use Rattle.usb_bus.specs.Run.{fate_at}
use Rattle.usb_bus.specs.Wire.{data_packet, reply_packet, token_packet}
use Rattle.usb_recorded_runs.specs.Exchanges.{Exchange, arriving, exchange_in, exchanges, packets_in, packets_of}
use Rattle.usb_recorded_runs.proofs.ByteLemmas.{HasBytes, IsHostToken, answered_bytes, carried_has}
use Rattle.usb_recorded_runs.proofs.FieldLemmas.{IsHostSent, IsNarrowHost, due_fits, new_fits, reset_fits, takes_fits}
use Rattle.usb_recorded_runs.proofs.LengthLemmas.{IsShort, IsShortIn, IsShortToken, short_run}
use Rattle.usb_recorded_runs.proofs.RunLemmas.{all_append, legal_ack}

-- ---- packets

-- a transaction of bytes
record IsOfBytes (x : Exchange) : Type 0 where
  sent : IsHostSent x.sent
  answered : BringsBytes x.answered

arriving_legal : (lost : Bool) (p : Option PacketView) → AllByRecursion IsLegal (arriving false p) → AllByRecursion IsLegal (arriving lost p)
arriving_legal false p legal = legal
arriving_legal true None legal = tt
arriving_legal true (Some packet) legal = tt

data_legal : (size : ℕ) (token : Token) → size ≤ 1024 → IsHostToken token → IsShortToken size token
    → AllByRecursion IsLegal (arriving false (data_packet token))
data_legal size (SetupToken bytes) few (q, same, fits) short =
    (subst (λ b. AreBytes b × (length b ≤ 1024)) (sym same) (fits.bytes, omega arith), tt)
data_legal size InToken few fits short = tt
data_legal size (OutToken toggle bytes) few fits short = ((fits, omega (arith, few, short)), tt)

reply_legal : (size : ℕ) (reply : Reply) → size ≤ 1024 → BringsBytes reply → IsShort size reply → AllByRecursion IsLegal (arriving false (reply_packet reply))
reply_legal size (DataReply toggle bytes) few are short = ((are, omega (arith, few, short)), tt)
reply_legal size AckReply few are short = (tt, tt)
reply_legal size NakReply few are short = (tt, tt)
reply_legal size StallReply few are short = (tt, tt)
reply_legal size NoReply few are short = tt

exchange_legal : (size : ℕ) (x : Exchange) → size ≤ 1024 → IsOfBytes x → IsShortIn size x → AllByRecursion IsLegal (packets_of x)
exchange_legal size x few are short =
    all_append IsLegal (arriving (is_lost_down x.fate) (Some (token_packet x.sent))) _
    (arriving_legal (is_lost_down x.fate) (Some (token_packet x.sent)) ((are.sent.0, lit< tt), tt))
    (all_append IsLegal (arriving (is_lost_down x.fate) (data_packet x.sent.token)) _
    (arriving_legal (is_lost_down x.fate) (data_packet x.sent.token) (data_legal size x.sent.token few are.sent.1 short.token))
    (all_append IsLegal (arriving (is_lost_up x.fate) (reply_packet x.answered)) _
    (arriving_legal (is_lost_up x.fate) (reply_packet x.answered) (reply_legal size x.answered few are.answered short.reply))
    (legal_ack (is_lost_ack x.fate) (brought x.fate x.answered))))

exchanges_legal : (size : ℕ) (xs : List Exchange) → size ≤ 1024 → AllByRecursion IsOfBytes xs → AllByRecursion (IsShortIn size) xs
    → AllByRecursion IsLegal (packets_in xs)
exchanges_legal size [] few are short = tt
exchanges_legal size (x ∷ xs) few are short =
    all_append IsLegal (packets_of x) (packets_in xs) (exchange_legal size x few are.0 short.0) (exchanges_legal size xs few are.1 short.1)

-- ---- a run

-- bMaxPacketSize0 is a byte
size_few : (f : DescriptorFile) → AreBytes (file_bytes f) → f.device.packet ≤ 1024
size_few f are =
    let d = device_bytes f.device in
    let m = sets_bytes f.sets in
    let o = other_bytes f.other in
    let device : AreBytes d = bytes_before d m (bytes_before (d ++ m) o (bytes_before (d ++ m ++ o) (strings_bytes f.strings) are)) in
    let packet : f.device.packet < 256 = device.1.1.1.1.1.1.1.0 in
    omega (arith, packet)

module _ (f : DescriptorFile) (are : AreBytes (file_bytes f)) (kept_table : IsTable (answer f)) (list : List Fate) where
  abbrev made_of : DeviceView → Sent → Fate → Exchange
  made_of d sent fate = record { fate = fate; sent = sent; address = d.state.address; answered = answered f d sent fate }

  -- the transactions so far, and both ends after them
  record IsByteRun (xs : List Exchange) (last : Pair) : Type 0 where
    all : AllByRecursion IsOfBytes xs
    host : IsNarrowHost last.host
    device : HasBytes last.device.stage

  run_of_bytes : (new : Pair) (earlier : List Pair) (n : ℕ) (last : Pair) → IsNarrowHost new.host → HasBytes new.device.stage
      → RunsAt (answer f) f.device.packet list new earlier n last → IsByteRun (exchanges f list earlier n) last
  run_of_bytes new [] n last host device (same, none) = record {
    all = tt;
    host = subst (λ y. IsNarrowHost y.host) (sym same) host;
    device = subst (λ y. HasBytes y.device.stage) (sym same) device;
  }
  run_of_bytes new (x ∷ earlier) n last host device (inl (reset, run)) =
      let before = run_of_bytes new earlier n x host device run in
      subst (λ w. IsByteRun (exchanges f list earlier (count_before w n) ++ exchange_in f list n x.device w) last) (sym reset.due)
      (record {
        all = all_append IsOfBytes (exchanges f list earlier n) [] before.all tt;
        host = reset_fits x.host last.host before.host reset.host;
        device = subst (λ d. HasBytes d.stage) (sym reset.device) tt;
      })
  run_of_bytes new (x ∷ earlier) n last host device (inr (m, same, made, run)) =
      let back : n - 1 ≡ m = omega (arith, same) in
      let before = run_of_bytes new earlier m x host device run in
      let fate = fate_at list m in
      let fits : IsHostSent made.sent = due_fits x.host made.sent before.host made.due in
      let carries = carried_has f are kept_table x.device made.sent fate fits.1 before.device in
      let one : IsOfBytes (made_of x.device made.sent fate) =
      record { sent = fits; answered = answered_bytes f are kept_table x.device made.sent fate fits.1 before.device } in
      subst (λ w. IsByteRun (exchanges f list earlier (count_before w n) ++ exchange_in f list n x.device w) last) (sym made.due)
      (subst (λ k. IsByteRun (exchanges f list earlier k ++ made_of x.device made.sent (fate_at list k) ∷ []) last) (sym back)
      (record {
        all = all_append IsOfBytes (exchanges f list earlier m) _ before.all (one, tt);
        host = takes_fits x.host last.host _ before.host carries.reply made.host;
        device = subst (λ d. HasBytes d.stage) (sym made.device) carries.stage;
      }))

  pub enumeration_legal : (limits : LimitView) (speed : Speed) (choice : Choice) (earlier : List Pair) (n : ℕ) (last : Pair) → limits.address < 128
      → RunsAt (answer f) f.device.packet list (chosen_pair limits speed choice) earlier n last
      → AllByRecursion IsLegal (packets_in (exchanges f list earlier n))
  enumeration_legal limits speed choice earlier n last low run =
      let new = chosen_pair limits speed choice in
      exchanges_legal f.device.packet (exchanges f list earlier n) (size_few f are) (run_of_bytes new earlier n last (new_fits new.host low refl) tt run).all
      (short_run f list new earlier n last run)
