-- Places in a data stage: an offset of whole packets stands for the packets that are left.
use Rattle.std.proofs.Common.{◌≡◌, Bool, true, ℕ, zero, suc, ◌+◌, ◌*◌, ◌/◌, ◌<◌, ◌≤◌, ◌⊎◌, List, [], ◌∷◌, length, take, drop, Some, None, slice_get, refl, sym, subst, arith}
use Rattle.std.proofs.Math.Nat.{mul-div_cancel}
use Rattle.std.proofs.lemmas.List.{length-take-le}
use Rattle.usb_fields.specs.declared.setup.Setup.{Setup}
use Rattle.usb_fields.specs.Packets.{packets, flipped}
use Rattle.usb_fields.proofs.PacketLemmas.{packets-at, packets-past}
use Rattle.usb_device.specs.Offers.{packet_in}
use Rattle.usb_device.specs.declared.stage.Stage.{Stage}
use Rattle.usb_device.specs.declared.stage.Stage.TheVariants as kinds
use Rattle.usb_fields.specs.declared.packet.Toggle.{Toggle}
use Rattle.usb_fields.specs.declared.packet.Toggle.TheVariants.{Data1}
use Rattle.usb_device.specs.declared.endpoint_zero.EndpointZero.{EndpointZero}
use Rattle.usb_device.specs.declared.stage.Reaction.TheVariants.{Packet}
use Rattle.usb_device.specs.View.{device_of, packet_due, replied, stage_in, IsOf}
use Rattle.usb_device.specs.inside.Reactions.{sent_by}
use Rattle.usb_device.specs.Step.{DeviceView, Sending, StatusOut, next_stage}
use Rattle.usb_device.specs.Stages.{data_bytes, data_of, request_of, source_bytes, stage_at, stage_kind, stage_of, toggle_at, DataStage, IsData, IsStage}

-- what is left of a list from one of its elements on
drop_there : {X : Type 0} (xs : List X) (k : ℕ) (x : X) → slice_get xs k ≡ Some x → drop k xs ≡ x ∷ drop (suc k) xs
drop_there [] k x at = cc
drop_there (y ∷ xs) zero x at = let same : y ≡ x = cc in rw same refl
drop_there (y ∷ xs) (suc k) x at = drop_there xs k x at

drop_past : {X : Type 0} (xs : List X) (k : ℕ) → slice_get xs k ≡ None → drop k xs ≡ []
drop_past [] zero at = refl
drop_past [] (suc k) at = refl
drop_past (y ∷ xs) zero at = cc
drop_past (y ∷ xs) (suc k) at = drop_past xs k at

-- the packet at an offset is the first of those that are left
pub packet_here : (b : List ℕ) (n m o : ℕ) → 0 < n → o ≡ o / n * n → o ≤ length b → o < m → drop (o / n) (packets b n m) ≡ take n (drop o b) ∷ drop (suc (o / n)) (packets b n m)
packet_here b n m o pos whole inside asked =
    let at = packets-at b n m (o / n) pos (rw (← whole) inside) (rw (← whole) asked) in
    rw (drop_there (packets b n m) (o / n) (take n (drop (o / n * n) b)) at, ← whole) refl

-- one packet on
pub next_place : (o n : ℕ) → 0 < n → o ≡ o / n * n → (o + n) / n ≡ suc (o / n)
next_place o n pos whole =
    let k : ℕ = o / n in
    let on : o + n ≡ suc k * n = grind arith in
    rw on (mul-div_cancel (suc k) pos)

-- after a whole packet before the end another one comes next
pub stage_goes_on : (q : Setup) (b : List ℕ) (n o : ℕ) → 0 < n → o ≡ o / n * n → o + n ≤ length b → o + n < q.length → next_stage q b (o / n) (drop (suc (o / n)) (packets b n q.length)) ≡ Sending q b (suc (o / n))
stage_goes_on q b n o pos whole inside asked =
    let on : suc (o / n) * n ≡ o + n = grind arith in
    let at = packets-at b n q.length (suc (o / n)) pos (rw on inside) (rw on asked) in
    rw (drop_there (packets b n q.length) (suc (o / n)) (take n (drop (suc (o / n) * n) b)) at) refl

-- after a short packet, or once all is sent that was asked for, the data stage is over
pub stage_ends : (q : Setup) (b : List ℕ) (n o : ℕ) → 0 < n → o ≡ o / n * n → length b ≤ q.length → (length b < o + n) ⊎ (q.length ≤ o + n) → next_stage q b (o / n) (drop (suc (o / n)) (packets b n q.length)) ≡ StatusOut q
stage_ends q b n o pos whole fits past =
    let on : suc (o / n) * n ≡ o + n = grind arith in
    let at = packets-past b n q.length (suc (o / n)) pos fits (rw on past) in
    rw (drop_past (packets b n q.length) (suc (o / n)) at) refl

-- which stage a device is in, whatever it holds there
pub kind_back : (image room : List ℕ) (d : DataStage) (settled : Bool) (stage : Stage) → stage_kind (stage_of image room d settled stage) ≡ stage
kind_back image room d settled kinds.Idle = refl
kind_back image room d settled kinds.Sending = refl
kind_back image room d settled kinds.StatusOut = refl
kind_back image room d settled kinds.Over = refl
kind_back image room d settled kinds.Halted = refl
kind_back image room d settled kinds.StatusIn = refl
kind_back image room d settled kinds.Receiving = refl
kind_back image room d settled kinds.Written = refl

-- a data stage begins
pub data_begins : (image room : List ℕ) (d : DataStage) → d.count ≤ length (source_bytes image room d d.source) → d.count ≤ d.request.length → 0 < d.request.length → d.offset ≡ 0 → d.toggle ≡ Data1 → IsData image room d
data_begins image room d count fits asked first toggle =
    let none : 0 / packet_in image ≡ 0 = grind (arith) in
    let nothing : 0 * packet_in image ≡ 0 = omega arith in
    record {
      count = count;
      fits = fits;
      whole = rw (first, none, nothing) refl;
      inside = omega (arith, first);
      asked = omega (arith, first, asked);
      toggle = rw (first, none, toggle) refl;
    }

module _ (image room : List ℕ) (d : DataStage) (pos : 0 < packet_in image) (h : IsData image room d) where
  -- the bytes of a data stage are as many as the code counts
  data_length : length (data_bytes image room d) ≡ d.count
  data_length = length-take-le d.count (source_bytes image room d d.source) h.count

  -- the next packet stands at the offset
  pub packets_left : drop (d.offset / packet_in image) (packets (data_bytes image room d) (packet_in image) d.request.length) ≡ take (packet_in image) (drop d.offset (data_bytes image room d)) ∷ drop (suc (d.offset / packet_in image)) (packets (data_bytes image room d) (packet_in image) d.request.length)
  packets_left =
      let within : d.offset ≤ length (data_bytes image room d) = omega (arith, h.inside, data_length) in
      packet_here (data_bytes image room d) (packet_in image) d.request.length d.offset pos h.whole within h.asked

  -- after a whole packet before the end the code is at the next one
  pub data_goes_on : (toggle : Toggle) → toggle ≡ flipped d.toggle → d.offset + packet_in image ≤ d.count → d.offset + packet_in image < d.request.length → IsData image room (record d { offset = d.offset + packet_in image; toggle = toggle })
  data_goes_on toggle flips inside asked =
      let next = next_place d.offset (packet_in image) pos h.whole in
      record {
        count = h.count;
        fits = h.fits;
        whole = rw next (grind (arith, h.whole));
        inside = inside;
        asked = asked;
        toggle = rw (next, flips, h.toggle) refl;
      }

  -- and the stage is the next one
  pub stage_data_goes_on : d.offset + packet_in image ≤ d.count → d.offset + packet_in image < d.request.length → next_stage d.request (data_bytes image room d) (d.offset / packet_in image) (drop (suc (d.offset / packet_in image)) (packets (data_bytes image room d) (packet_in image) d.request.length)) ≡ Sending d.request (data_bytes image room d) ((d.offset + packet_in image) / packet_in image)
  stage_data_goes_on inside asked =
      let within : d.offset + packet_in image ≤ length (data_bytes image room d) = omega (arith, data_length) in
      rw (next_place d.offset (packet_in image) pos h.whole)
      (stage_goes_on d.request (data_bytes image room d) (packet_in image) d.offset pos h.whole within asked)

  pub stage_data_ends : (d.count < d.offset + packet_in image) ⊎ (d.request.length ≤ d.offset + packet_in image) → next_stage d.request (data_bytes image room d) (d.offset / packet_in image) (drop (suc (d.offset / packet_in image)) (packets (data_bytes image room d) (packet_in image) d.request.length)) ≡ StatusOut d.request
  stage_data_ends past =
      stage_ends d.request (data_bytes image room d) (packet_in image) d.offset pos h.whole (omega (arith, data_length, h.fits)) (rw data_length past)

-- The same of a device's numbers, which are in a data stage to the host.
module _ (image room : List ℕ) (e : EndpointZero) (at : stage_at e.stage ≡ kinds.Sending) (is : IsOf image room e) where
  pub sending : IsData image room (data_of e)
  sending = subst (λ stage. IsStage image room (data_of e) stage) at is.1

  pub packet_there : packet_due (packet_in image) (stage_in image room e) ≡ take (packet_in image) (drop e.offset (data_bytes image room (data_of e)))
  packet_there = rw (at, packets_left image room (data_of e) is.0 sending) refl

  pub sent_reply : replied image room (record e { pending = true }) (Packet (toggle_at e.toggle)) ≡ (sent_by image room e).reply
  sent_reply = rw (at, packets_left image room (data_of e) is.0 sending, sending.toggle) refl

  pub sent_device : device_of image room (record e { pending = true }) ≡ (sent_by image room e).device
  sent_device = rw (at, packets_left image room (data_of e) is.0 sending) refl

  abbrev followed : DeviceView
  followed = record (device_of image room e) { stage = next_stage (request_of e) (data_bytes image room (data_of e)) (e.offset / packet_in image) (drop (suc (e.offset / packet_in image)) (packets (data_bytes image room (data_of e)) (packet_in image) (request_of e).length)) }

  pub device_ends : (stage : ℕ) → stage_at stage ≡ kinds.StatusOut → (e.count < e.offset + packet_in image) ⊎ ((request_of e).length ≤ e.offset + packet_in image) → device_of image room (record e { stage = stage }) ≡ followed
  device_ends stage ends past = rw (ends, stage_data_ends image room (data_of e) is.0 sending past) refl

  pub device_goes_on : (toggle : ℕ) → e.offset + packet_in image ≤ e.count → e.offset + packet_in image < (request_of e).length → device_of image room (record e { offset = e.offset + packet_in image; toggle = toggle }) ≡ followed
  device_goes_on toggle inside asked = rw (at, stage_data_goes_on image room (data_of e) is.0 sending inside asked) refl

  pub is_of_goes_on : (toggle : ℕ) → toggle_at toggle ≡ flipped (toggle_at e.toggle) → e.offset + packet_in image ≤ e.count → e.offset + packet_in image < (request_of e).length → IsOf image room (record e { offset = e.offset + packet_in image; toggle = toggle })
  is_of_goes_on toggle flips inside asked = (
    is.0,
    subst (λ stage. IsStage image room (data_of (record e { offset = e.offset + packet_in image; toggle = toggle })) stage) (sym at)
        (data_goes_on image room (data_of e) is.0 sending (toggle_at toggle) flips inside asked),
  )

-- what a call makes of a device, whose image is that which it is lent
pub still_of : (lent image room : List ℕ) (before after : EndpointZero) → lent ≡ image → ((r : List ℕ) → IsOf lent r before → IsOf lent r after) → IsOf image room before → IsOf image room after
still_of lent image room before after same step h =
    subst (λ (i : List ℕ). IsOf i room after) same (step room (subst (λ (i : List ℕ). IsOf i room before) (sym same) h))
