-- Data to the device: its own table refuses each request that brings some, and packets are counted by their bytes.
use Rattle.std.proofs.Common.{◌≡◌, ℕ, suc, ◌+◌, ◌-◌, ◌*◌, ◌/◌, ◌<◌, ◌≤◌, ◌≢◌, ◌==◌, ◌&&◌, not, Bool, true, false, if◌then◌else◌, List, ◌++◌, length, length-append, min, take, Option, Some, None, refl, arith}
use Rattle.std.proofs.lemmas.Bool.Decides.{nat_tests}
use Rattle.std.proofs.lemmas.Nat.{div-mul-add}
use Rattle.std.proofs.lemmas.List.{length-take-le}
use Rattle.usb_fields.specs.declared.setup.Setup.{Setup}
use Rattle.usb_fields.specs.declared.setup.Class.{Class}
use Rattle.usb_fields.specs.declared.setup.Class.TheVariants as classes
use Rattle.usb_fields.specs.declared.setup.Recipient.{Recipient}
use Rattle.usb_fields.specs.declared.setup.Recipient.TheVariants.{Device, Interface, Endpoint, Other, Reserved}
use Rattle.usb_fields.specs.declared.setup.Direction.{Direction}
use Rattle.usb_fields.specs.declared.setup.Direction.TheVariants as directions
use Rattle.usb_fields.specs.Setup.{class_of, direction_of, recipient_of}
use Rattle.usb_fields.specs.declared.packet.Toggle.{Toggle}
use Rattle.usb_fields.specs.declared.packet.Toggle.TheVariants.{Data0, Data1}
use Rattle.usb_fields.specs.Packets.{flipped, is_same_toggle}
use Rattle.usb_device.specs.declared.state.State.{State}
use Rattle.usb_device.specs.Offers.{Offer, offer_in, packet_in}
use Rattle.usb_device.specs.Requests.{Outcome, Refused, when, bytes_in, gives, does, status_of, feature_of, get_status, set_address, get_descriptor, get_configuration, set_configuration, get_interface, set_interface, row, answer_of, answer_to}
use Rattle.usb_device.specs.Beside.{brings_bytes, is_in}
use Rattle.usb_device.specs.Step.{Written, awaited, gathered}
use Rattle.usb_device.specs.declared.stage.Stage.TheVariants as stages
use Rattle.usb_device.specs.declared.endpoint_zero.EndpointZero.{EndpointZero}
use Rattle.usb_device.specs.Stages.{data_of, request_of, stage_at, toggle_at, written_bytes, DataStage, IsReceiving, IsWrite}
use Rattle.usb_device.specs.View.{device_of}
use Rattle.usb_device.specs.inside.Reactions.{received_by}
use Rattle.usb_device.proofs.StageLemmas.{next_place}

when_refused : (c : Bool) (o : Outcome) → o ≡ Refused → when c o ≡ Refused
when_refused true o e = e
when_refused false o e = refl

if_refused : (c : Bool) (a b : Outcome) → a ≡ Refused → b ≡ Refused → (if c then a else b) ≡ Refused
if_refused true a b x y = x
if_refused false a b x y = y

bytes_refused : (d : Direction) (b : List ℕ) → is_in d ≡ false → bytes_in d b ≡ Refused
bytes_refused directions.In b e = cc
bytes_refused directions.Out b e = refl

-- whether a request brings bytes, by its length and its direction
long_by : (c d : Bool) → (not c && not d) ≡ true → c ≡ false
long_by false d e = refl
long_by true d e = cc

out_by : (c d : Bool) → (not c && not d) ≡ true → d ≡ false
out_by c false e = refl
out_by false true e = cc
out_by true true e = cc

module _ (o : Offer) (s : State) (q : Setup) (write : brings_bytes q ≡ true) where
  long : (q.length == 0) ≡ false
  long = long_by (q.length == 0) (is_in (direction_of q.request_type)) write

  out : (b : List ℕ) → bytes_in (direction_of q.request_type) b ≡ Refused
  out b = bytes_refused (direction_of q.request_type) b (out_by (q.length == 0) (is_in (direction_of q.request_type)) write)

  does_refused : (next : State) → does q next ≡ Refused
  does_refused next = rw long refl

  tells_refused : (c : Bool) (b : List ℕ) → when c (bytes_in (direction_of q.request_type) b) ≡ Refused
  tells_refused c b = when_refused c _ (out b)

  gives_refused : (found : Option (List ℕ)) → gives s q found ≡ Refused
  gives_refused None = refl
  gives_refused (Some b) = rw long (out _)

  status_refused : (r : Recipient) → status_of r o s q ≡ Refused
  status_refused Device = when_refused _ _ (tells_refused _ _)
  status_refused Interface = when_refused _ _ (tells_refused _ _)
  status_refused Endpoint = if_refused _ _ _ (when_refused _ _ (tells_refused _ _)) (when_refused _ _ (tells_refused _ _))
  status_refused Other = refl
  status_refused Reserved = refl

  feature_refused : (on : Bool) (r : Recipient) → feature_of r on o s q ≡ Refused
  feature_refused on Device = when_refused _ _ (does_refused _)
  feature_refused on Interface = refl
  feature_refused on Endpoint = when_refused _ _ (does_refused _)
  feature_refused on Other = refl
  feature_refused on Reserved = refl

  get_status_refused : get_status o s q ≡ Refused
  get_status_refused = when_refused _ _ (status_refused (recipient_of q.request_type))

  set_address_refused : set_address o s q ≡ Refused
  set_address_refused = when_refused _ _ (does_refused _)

  get_descriptor_refused : get_descriptor o s q ≡ Refused
  get_descriptor_refused = when_refused _ _ (gives_refused _)

  get_configuration_refused : get_configuration o s q ≡ Refused
  get_configuration_refused = when_refused _ _ (tells_refused _ _)

  set_configuration_refused : set_configuration o s q ≡ Refused
  set_configuration_refused = when_refused _ _ (does_refused _)

  get_interface_refused : get_interface o s q ≡ Refused
  get_interface_refused = when_refused _ _ (tells_refused _ _)

  set_interface_refused : set_interface o s q ≡ Refused
  set_interface_refused = when_refused _ _ (does_refused _)

  row_refused : row o s q ≡ Refused
  row_refused =
      if_refused (q.request == 0) _ _ get_status_refused
      (if_refused (q.request == 1) _ _ (feature_refused false (recipient_of q.request_type))
      (if_refused (q.request == 3) _ _ (feature_refused true (recipient_of q.request_type))
      (if_refused (q.request == 5) _ _ set_address_refused
      (if_refused (q.request == 6) _ _ get_descriptor_refused
      (if_refused (q.request == 8) _ _ get_configuration_refused
      (if_refused (q.request == 9) _ _ set_configuration_refused
      (if_refused (q.request == 10) _ _ get_interface_refused
      (if_refused (q.request == 11) _ _ set_interface_refused refl))))))))

  class_refused : (c : Class) → answer_of c o s q ≡ Refused
  unfolding answer_of
  class_refused classes.Standard = row_refused
  class_refused classes.Class = refl
  class_refused classes.Vendor = refl
  class_refused classes.Reserved = refl

  -- the table refuses each request that brings bytes
  pub writes_are_refused : answer_to o s q ≡ Refused
  unfolding answer_to
  writes_are_refused = class_refused (class_of q.request_type)

  -- so its owner is asked once all of them have come
  pub last_gathered : (got bytes : List ℕ) → length got ≤ q.length → length bytes ≡ q.length - length got → gathered q (answer_to o s q) (got ++ bytes) ≡ Written q (got ++ bytes)
  last_gathered got bytes few last =
      let same : (length (got ++ bytes) == q.length) ≡ true = simp length-append (grind (arith, nat_tests, few, last)) in
      rw (same, writes_are_refused) refl

-- the awaited toggle flips at each packet
pub awaited_flips : (packet count n : ℕ) → count ≡ count / packet * packet → 0 < n → n ≤ packet → awaited packet (count + n) ≡ flipped (awaited packet count)
awaited_flips packet count n whole some few =
    let k : ℕ = count / packet in
    let here : (count + (packet - 1)) / packet ≡ k =
    (let split : count + (packet - 1) ≡ k * packet + (packet - 1) = omega (arith, whole) in
    rw split (div-mul-add k packet (packet - 1) (omega arith))) in
    let next : (count + n + (packet - 1)) / packet ≡ suc k =
    (let split : count + n + (packet - 1) ≡ suc k * packet + (n - 1) = grind (arith, whole) in
    rw split (div-mul-add (suc k) packet (n - 1) (omega arith))) in
    rw (here, next) refl

-- a write begins
pub write_begins : (image room : List ℕ) (d : DataStage) → 0 < packet_in image → brings_bytes d.request ≡ true → d.request.length ≤ length room → d.offset ≡ 0 → d.toggle ≡ Data1 → IsReceiving image room d
write_begins image room d pos write fits first toggle =
    let none : 0 / packet_in image ≡ 0 = grind (arith) in
    let nothing : 0 * packet_in image ≡ 0 = omega arith in
    let split : 0 + (packet_in image - 1) ≡ 0 * packet_in image + (packet_in image - 1) = omega arith in
    let due : (0 + (packet_in image - 1)) / packet_in image ≡ 0 = rw split (div-mul-add 0 (packet_in image) (packet_in image - 1) (omega (arith, pos))) in
    let some = long_by (d.request.length == 0) (is_in (direction_of d.request.request_type)) write in
    record {
      is_write = record { write = write; fits = fits; toggle = rw (first, due, toggle) refl };
      whole = rw (first, none, nothing) refl;
      more = rw first (grind (arith, nat_tests, some));
    }

-- a toggle is the same as itself
same_self : (t : Toggle) → is_same_toggle t t ≡ true
same_self Data0 = refl
same_self Data1 = refl

-- a packet of a write is kept: the data stage goes on, in a room that has become this one
module _ (image room after : List ℕ) (d : DataStage) (toggle : Toggle) (n : ℕ) (pos : 0 < packet_in image) (h : IsReceiving image room d) (wide : length after ≡ length room) (flips : toggle ≡ flipped d.toggle) (due : n ≡ min (packet_in image) (d.request.length - d.offset)) where
  still_write : IsWrite image after (record d { offset = d.offset + n; toggle = toggle })
  still_write =
      record {
        write = h.is_write.write;
        fits = omega (arith, wide, h.is_write.fits);
        toggle = rw (flips, awaited_flips (packet_in image) d.offset n h.whole (omega (arith, due, pos, h.more)) (omega (arith, due)), h.is_write.toggle) refl;
      }

  -- after a whole packet with bytes left after it more are to come
  pub write_goes_on : n ≢ d.request.length - d.offset → IsReceiving image after (record d { offset = d.offset + n; toggle = toggle })
  write_goes_on left =
      let whole : n ≡ packet_in image = omega (arith, due, left) in
      record {
        is_write = still_write;
        whole = rw (whole, next_place d.offset (packet_in image) pos h.whole) (grind (arith, h.whole));
        more = omega (arith, due, left, h.more);
      }

  -- with all that is left all have come
  pub write_ends : n ≡ d.request.length - d.offset → IsWrite image after (record d { offset = d.offset + n; toggle = toggle }) × (d.offset + n ≡ d.request.length)
  write_ends all = (still_write, omega (arith, all, h.more))

-- the last packet: the owner is asked
pub gathers_last : (image room after : List ℕ) (e : EndpointZero) (stage toggle : ℕ) (came : Toggle) (bytes : List ℕ) → stage_at e.stage ≡ stages.Receiving → IsReceiving image room (data_of e) → e.pending ≡ false → came ≡ toggle_at e.toggle → length bytes ≡ min (packet_in image) ((request_of e).length - e.offset) → length bytes ≡ (request_of e).length - e.offset → stage_at stage ≡ stages.Written → take (e.offset + length bytes) after ≡ take e.offset room ++ bytes → device_of image after (record e { stage = stage; toggle = toggle; offset = e.offset + length bytes }) ≡ (received_by image room e came bytes).device
gathers_last image room after e stage toggle came bytes at h received right due all ends kept =
    let q = request_of e in
    let got = written_bytes room (data_of e) in
    let long : length got ≡ e.offset = length-take-le e.offset room (omega (arith, h.more, h.is_write.fits)) in
    let same : is_same_toggle (toggle_at e.toggle) (awaited (packet_in image) (length got)) ≡ true =
    rw (long, h.is_write.toggle) (same_self (awaited (packet_in image) e.offset)) in
    let fits : (length bytes == min (packet_in image) (q.length - length got)) ≡ true = rw long (grind (arith, nat_tests, due)) in
    rw (at, ends, received, right, same, fits, last_gathered (offer_in image) e.state q h.is_write.write got bytes (rw long (omega (arith, h.more))) (rw long all), kept) refl

pub ruleset writes = (gathers_last, write_goes_on, write_ends)
