-- A reply of a device has at most 64 bytes: the packets of an accepted description have no more.
use Rattle.std.proofs.Common.{◌≡◌, ℕ, zero, suc, ◌-◌, ◌≤◌, ◌==◌, nat_lt, min, not, Bool, true, false, List, [], ◌∷◌, ◌++◌, length, take, drop, if◌then◌else◌, refl, arith, sym, subst}
use Rattle.std.proofs.lemmas.Bool.Decides.{nat_tests}
use Rattle.usb_fields.specs.declared.packet.Toggle.{Toggle}
use Rattle.usb_fields.specs.declared.packet.Toggle.TheVariants.{Data0, Data1}
use Rattle.usb_fields.specs.declared.packet.Speed.{Speed}
use Rattle.usb_fields.specs.declared.setup.Setup.{Setup}
use Rattle.usb_fields.specs.Packets.{Token, SetupToken, InToken, OutToken, Sent, Reply, AckReply, NoReply, is_same_toggle, packets, packets_within}
use Rattle.usb_file_data.specs.declared.file.DescriptorFile.{DescriptorFile}
use Rattle.usb_file_data.specs.Findings.{findings}
use Rattle.usb_file_data.proofs.Sorting.{device_right}
use Rattle.usb_device.specs.Accepted.{Accepted}
use Rattle.usb_device.specs.declared.state.State.{State}
use Rattle.usb_device.specs.Requests.{Outcome, answer}
use Rattle.usb_device.specs.Step.{DeviceStage, Idle, Halted, Sending, StatusOut, Over, StatusIn, Receiving, Written, DeviceView, Served, awaited, gathered, next_packet, replies, served, served_here, served_in, served_out, stalls, status_out}
use Rattle.usb_device.specs.View.{served_by}
use Rattle.usb_device.specs.Replies.{HasRoom}

-- where no rule is broken, packets have at most 64 bytes
pub packet_fits : (f : DescriptorFile) → findings f ≡ [] → f.device.packet ≤ 64
packet_fits f none =
    let device = device_right f none in
    grind (arith, nat_tests)

-- each packet has at most this many bytes
abbrev AreShort : ℕ → List (List ℕ) → Type 0
AreShort n [] = Unit {0}
AreShort n (p ∷ ps) = (length p ≤ n) × AreShort n ps

take_short : (n : ℕ) (b : List ℕ) → length (take n b) ≤ n
take_short zero b = omega arith
take_short (suc n) [] = omega arith
take_short (suc n) (x ∷ b) = omega (arith, take_short n b)

if_none : (c : Bool) (n : ℕ) (ps : List (List ℕ)) → AreShort n ps → AreShort n (if c then [] else ps)
if_none true n ps h = tt
if_none false n ps h = h

if_last : (c : Bool) (n : ℕ) (b : List ℕ) (ps : List (List ℕ)) → nat_lt (length b) n ≡ c → AreShort n ps → AreShort n (if c then b ∷ [] else take n b ∷ ps)
if_last true n b ps is h = (grind (arith, nat_tests), tt)
if_last false n b ps is h = (take_short n b, h)

within_short : (most : ℕ) (b : List ℕ) (n m : ℕ) → AreShort n (packets_within most b n m)
unfolding packets_within
within_short zero b n m = tt
within_short (suc most) b n m =
    if_none (m == 0) n _ (if_last (nat_lt (length b) n) n b (packets_within most (drop n b) n (m - n)) refl (within_short most (drop n b) n (m - n)))

packets_short : (b : List ℕ) (n m : ℕ) → AreShort n (packets b n m)
unfolding packets
packets_short b n m = within_short m b n m

drop_short : (k n : ℕ) (ps : List (List ℕ)) → AreShort n ps → AreShort n (drop k ps)
drop_short zero n ps h = h
drop_short (suc k) n [] h = tt
drop_short (suc k) n (p ∷ ps) h = drop_short k n ps h.1

next_fits : (s : State) (stage : DeviceStage) (k n : ℕ) (ps : List (List ℕ)) → n ≤ 64 → AreShort n ps → HasRoom (next_packet s stage k ps).reply
next_fits s stage k n [] small h = tt
next_fits s stage k n (p ∷ ps) small h = omega (arith, h.0)

status_fits : (s : State) (stage : DeviceStage) (toggle : Toggle) (bytes : List ℕ) → HasRoom (status_out s stage toggle bytes).reply
status_fits s stage Data0 bytes = tt
status_fits s stage Data1 [] = tt
status_fits s stage Data1 (x ∷ bytes) = tt

if_fits : (c : Bool) (a b : Served) → HasRoom a.reply → HasRoom b.reply → HasRoom (if c then a else b).reply
if_fits true a b x y = x
if_fits false a b x y = y

module _ (table : State → Setup → Outcome) (n : ℕ) (small : n ≤ 64) where
  out_fits : (s : State) (stage : DeviceStage) (toggle : Toggle) (bytes : List ℕ) → HasRoom (served_out table n s stage toggle bytes).reply
  out_fits s Idle toggle bytes = tt
  out_fits s (Halted refused) toggle bytes = tt
  out_fits s (Sending q b k) toggle bytes = status_fits s (Sending q b k) toggle bytes
  out_fits s (StatusOut q) toggle bytes = status_fits s (StatusOut q) toggle bytes
  out_fits s Over toggle bytes = status_fits s Over toggle bytes
  out_fits s (StatusIn q carried) toggle bytes = if_fits (q.length == 0) (stalls s) (replies AckReply s (StatusIn q carried) false) tt tt
  out_fits s (Receiving q got) toggle bytes =
      if_fits (not (is_same_toggle toggle (awaited n (length got)))) (replies AckReply s (Receiving q got) false) _ tt
      (if_fits (length bytes == min n (q.length - length got)) (replies AckReply s (gathered q (table s q) (got ++ bytes)) false) (stalls s) tt tt)
  out_fits s (Written q got) toggle bytes =
      if_fits (is_same_toggle toggle (awaited n (length got))) (stalls s) (replies AckReply s (Written q got) false) tt tt

  in_fits : (s : State) (stage : DeviceStage) → HasRoom (served_in table n s stage).reply
  in_fits s Idle = tt
  in_fits s (Halted refused) = tt
  in_fits s (Sending q b k) =
      next_fits s (Sending q b k) k n (drop k (packets b n q.length)) small (drop_short k n (packets b n q.length) (packets_short b n q.length))
  in_fits s (StatusOut q) = tt
  in_fits s Over = tt
  in_fits s (StatusIn q carried) = omega arith
  in_fits s (Receiving q got) = tt
  in_fits s (Written q got) = tt

  here_fits : (d : DeviceView) (token : Token) (ready : Bool) → HasRoom (served_here table n d token ready).reply
  here_fits d (SetupToken b) ready = tt
  here_fits d InToken false = tt
  here_fits d InToken true = in_fits d.state d.stage
  here_fits d (OutToken toggle bytes) false = tt
  here_fits d (OutToken toggle bytes) true = out_fits d.state d.stage toggle bytes

  pub served_fits : (d : DeviceView) (sent : Sent) (ready : Bool) → HasRoom (served table n d sent ready).reply
  served_fits d sent ready =
      if_fits (sent.address == d.state.address) (served_here table n d sent.token ready) (replies NoReply d.state d.stage false) (here_fits d sent.token ready) tt

-- a reply of a device with accepted descriptors
pub reply_has_room : (f : DescriptorFile) (speed : Speed) (d : DeviceView) (sent : Sent) (ready : Bool) (reply : Reply) → Accepted f speed
    → reply ≡ (served_by f d sent ready).reply → HasRoom reply
reply_has_room f speed d sent ready reply accepted is =
    subst (λ (r : Reply). HasRoom r) (sym is) (served_fits (answer f) f.device.packet (packet_fits f accepted.rules) d sent ready)
