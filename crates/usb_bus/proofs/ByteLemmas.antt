-- A device with these descriptors answers with bytes, and so does its owner, so a run of both ends is one that a host asks for.
use Rattle.std.proofs.Common.{◌≡◌, ℕ, zero, suc, ◌+◌, ◌*◌, ◌/◌, ◌%◌, ◌-◌, ◌<◌, ◌≤◌, ◌==◌, ◌&&◌, ◌||◌, not, Bool, true, false, if◌then◌else◌, nat_lt, List, [], ◌∷◌, ◌++◌, length, take, drop, slice_get, slice_set, slice_index, replicate, fold, Option, Some, None, inl, inr, refl, ap, sym, arith, subst, lit<}
use Rattle.std.specs.List.{AllByRecursion, list_any}
use Rattle.std.specs.Option.{option_map}
use Rattle.std.specs.Prelude.{min, option_and_then}
use Rattle.std.proofs.lemmas.Bool.Decides.{nat_tests}
use Rattle.std.proofs.lemmas.Nat.Bits.{bit_at-lt}
use Rattle.usb_fields.specs.Bytes.{AreBytes}
use Rattle.usb_fields.specs.declared.setup.Direction.{Direction}
use Rattle.usb_fields.specs.declared.setup.Direction.TheVariants as directions
use Rattle.usb_fields.specs.Setup.{direction_of, setup_of, class_of, recipient_of}
use Rattle.usb_fields.specs.declared.packet.Toggle.{Toggle}
use Rattle.usb_fields.specs.declared.packet.Toggle.TheVariants.{Data0, Data1}
use Rattle.usb_fields.specs.declared.setup.Setup.{Setup as SetupPacket}
use Rattle.usb_fields.specs.declared.setup.Class.{Class}
use Rattle.usb_fields.specs.declared.setup.Class.TheVariants as classes
use Rattle.usb_fields.specs.declared.setup.Recipient.{Recipient}
use Rattle.usb_fields.specs.declared.setup.Recipient.TheVariants.{Device, Interface, Endpoint, Other, Reserved}
use Rattle.usb_fields.specs.declared.packet.Speed.{Speed}
use Rattle.usb_fields.specs.Device.{device_bytes, qualifier_bytes}
use Rattle.usb_fields.specs.Units.{units_bytes}
use Rattle.usb_fields.specs.Packets.{Token, SetupToken, InToken, OutToken, Sent, Reply, AckReply, NoReply, is_same_toggle, packets, packets_within}
use Rattle.usb_set.specs.declared.tree.Configuration.{Configuration}
use Rattle.usb_file_data.specs.declared.file.DescriptorFile.{DescriptorFile}
use Rattle.usb_file_data.specs.declared.file.Other.{Other as SecondSpeed}
use Rattle.usb_file_data.specs.declared.file.Strings.{Strings}
use Rattle.usb_file_data.specs.File.{whole_set, sets_bytes, other_bytes, each_string_bytes, strings_bytes, file_bytes, named_indices, string_place}
use Rattle.usb_device.specs.Descriptors.{set_at, other_set_at, qualifier_of, string_at, descriptor}
use Rattle.usb_device.specs.Offers.{offer_of}
use Rattle.usb_host.specs.Limits.{LimitView}
use Rattle.usb_device.specs.declared.state.State.{State}
use Rattle.usb_device.specs.States.{first_alternates, has_address, is_configured, halt_of, halt_place, without_halt}
use Rattle.usb_device.specs.Requests.{Outcome, Bytes, Done, Refused, Takes, when, bytes_in, gives, tells, does, one_if, shown_attributes, is_device, is_interface, names_interface, names_alternate, names_endpoint, names_endpoint_zero, selected_settings, interface_addresses, is_alternate, can_wake, has_value, changed_halts, status_of, feature_of, set_address, get_descriptor, get_configuration, set_configuration, get_interface, set_interface, row, answer_of, answer}
use Rattle.usb_device.specs.Step.{DeviceStage, Idle, Halted, Sending, StatusOut, Over, StatusIn, Receiving, Written, DeviceView, Served, awaited, completed, gathered, stalls, replies, begun, carried_out, new_device, is_set_address, next_packet, next_stage, served, served_here, served_in, served_out, status_out, status_state, acked, acked_stage, acked_state}
use Rattle.usb_bus.specs.declared.fate.Fate.{Fate}
use Rattle.usb_bus.specs.declared.fate.Fate.TheVariants as fates
use Rattle.usb_bus.specs.Run.{fate_at}
use Rattle.usb_bus.specs.Bus.{is_data, acknowledged, carried}
use Rattle.usb_host.specs.Cost.{most, BringsBytes}
use Rattle.usb_host.specs.Gathered.{Came, no_bytes, came_in}
use Rattle.usb_host.specs.declared.choice.Choice.{Choice}
use Rattle.usb_host.specs.Laws.{Asks, ChosenHostsEnd}
use Rattle.usb_host.specs.Steps.{HostView, chosen_host, terms_of}
use Rattle.usb_host.proofs.ReadLemmas.{byte_at}
use Rattle.usb_bus.specs.Beside.{HasBytes, IsBeside, IsOfBytes}
use Rattle.usb_bus.specs.Enumerate.{Pair, chosen_pair, RunsAt}
use Rattle.usb_fields.proofs.ByteParts.{bytes_front}
use Rattle.usb_file_data.proofs.Lists.{bytes_before, bytes_behind}

-- ---- parts of bytes

drop_fit : {X : Type 0} (P : X → Type 0) (n : ℕ) (b : List X) → AllByRecursion P b → AllByRecursion P (drop n b)
drop_fit P zero b h = h
drop_fit P (suc n) [] h = tt
drop_fit P (suc n) (x ∷ b) h = drop_fit P n b h.1

set_fit : (b : List ℕ) (i x : ℕ) → AreBytes b → x < 256 → AreBytes (slice_set b i x)
set_fit [] i x h small = tt
set_fit (y ∷ b) zero x h small = (small, h.1)
set_fit (y ∷ b) (suc i) x h small = (h.0, set_fit b i x h.1 small)

zeros_fit : (n : ℕ) → AreBytes (replicate n 0)
zeros_fit zero = tt
zeros_fit (suc n) = (lit< tt, zeros_fit n)

if_fit : (c : Bool) (x y : List (List ℕ)) → AllByRecursion AreBytes x → AllByRecursion AreBytes y → AllByRecursion AreBytes (if c then x else y)
if_fit true x y p q = p
if_fit false x y p q = q

packets_fit : (count : ℕ) (b : List ℕ) (size limit : ℕ) → AreBytes b → AllByRecursion AreBytes (packets_within count b size limit)
unfolding packets_within
packets_fit zero b size limit h = tt
packets_fit (suc count) b size limit h =
    if_fit (limit == 0) [] _ tt
    (if_fit (nat_lt (length b) size) (b ∷ []) (take size b ∷ packets_within count (drop size b) size (limit - size)) (h, tt)
    (bytes_front size b h, packets_fit count (drop size b) size (limit - size) (drop_fit _ size b h)))

-- ---- descriptors

abbrev SomeFit : Option (List ℕ) → Type 0
SomeFit None = Unit {0}
SomeFit (Some b) = AreBytes b

if_some : (c : Bool) (x y : Option (List ℕ)) → SomeFit x → SomeFit y → SomeFit (if c then x else y)
if_some true x y p q = p
if_some false x y p q = q

sets_fit : (sets : List Configuration) (i : ℕ) → AreBytes (sets_bytes sets) → SomeFit (set_at sets i)
sets_fit [] i h = tt
sets_fit (c ∷ sets) zero h = bytes_before (whole_set c) (sets_bytes sets) h
sets_fit (c ∷ sets) (suc i) h = sets_fit sets i (bytes_behind (whole_set c) (sets_bytes sets) h)

other_fit : (o : Option SecondSpeed) (i : ℕ) → AreBytes (other_bytes o) → SomeFit (other_set_at o i)
other_fit None i h = tt
other_fit (Some o) i h = sets_fit o.sets i (bytes_behind (qualifier_bytes o.qualifier) (sets_bytes o.sets) h)

qualifier_fit : (o : Option SecondSpeed) (i : ℕ) → AreBytes (other_bytes o) → SomeFit (qualifier_of o i)
qualifier_fit None i h = tt
qualifier_fit (Some o) i h =
    if_some (i == 0) (Some (qualifier_bytes o.qualifier)) None (bytes_before (qualifier_bytes o.qualifier) (sets_bytes o.sets) h) tt

texts_fit : (texts : List (List ℕ)) (i : ℕ) → AreBytes (each_string_bytes texts) → SomeFit (option_map units_bytes (slice_get texts i))
texts_fit [] i h = tt
texts_fit (t ∷ texts) zero h = bytes_before (units_bytes t) (each_string_bytes texts) h
texts_fit (t ∷ texts) (suc i) h = texts_fit texts i (bytes_behind (units_bytes t) (each_string_bytes texts) h)

text_fit : (texts : List (List ℕ)) (place : Option ℕ) → AreBytes (each_string_bytes texts) →
    SomeFit (option_map units_bytes (option_and_then (slice_get texts) place))
text_fit texts None h = tt
text_fit texts (Some i) h = texts_fit texts i h

string_fit : (s : Option Strings) (named : List ℕ) (i language : ℕ) → AreBytes (strings_bytes s) → SomeFit (string_at s named i language)
string_fit None named i language h = tt
string_fit (Some s) named i language h =
    if_some (i == 0) (Some (units_bytes s.languages)) _ (bytes_before (units_bytes s.languages) (each_string_bytes s.texts) h)
    (text_fit s.texts (string_place s named i language) (bytes_behind (units_bytes s.languages) (each_string_bytes s.texts) h))

descriptor_fit : (f : DescriptorFile) (kind i language : ℕ) → AreBytes (file_bytes f) → SomeFit (descriptor f kind i language)
descriptor_fit f kind i language fits =
    let d = device_bytes f.device in
    let m = sets_bytes f.sets in
    let o = other_bytes f.other in
    let s = strings_bytes f.strings in
    let three : AreBytes (d ++ m ++ o) = bytes_before (d ++ m ++ o) s fits in
    let two : AreBytes (d ++ m) = bytes_before (d ++ m) o three in
    if_some (kind == 1) _ _ (if_some (i == 0) (Some d) None (bytes_before d m two) tt)
    (if_some (kind == 2) _ _ (sets_fit f.sets i (bytes_behind d m two))
    (if_some (kind == 3) _ _ (string_fit f.strings (named_indices f) i language (bytes_behind (d ++ m ++ o) s fits))
    (if_some (kind == 6) _ _ (qualifier_fit f.other i (bytes_behind (d ++ m) o three))
    (if_some (kind == 7) _ None (other_fit f.other i (bytes_behind (d ++ m) o three)) tt))))

-- ---- answers to requests

if_fits : (c : Bool) (x y : Outcome) → IsOfBytes x → IsOfBytes y → IsOfBytes (if c then x else y)
if_fits true x y p q = p
if_fits false x y p q = q

pub when_fits : (c : Bool) (x : Outcome) → (c ≡ true → IsOfBytes x) → IsOfBytes (when c x)
when_fits true x p = p refl
when_fits false x p = tt

in_fits : (d : Direction) (b : List ℕ) → AreBytes b → IsOfBytes (bytes_in d b)
in_fits directions.In b h = h
in_fits directions.Out b h = tt

gives_fits : (s : State) (q : SetupPacket) (o : Option (List ℕ)) → HasBytes s → SomeFit o → IsOfBytes (gives s q o)
gives_fits s q None state h = tt
gives_fits s q (Some b) state h =
    if_fits (q.length == 0) (Done s) _ state (in_fits (direction_of q.request_type) (take q.length b) (bytes_front q.length b h))

tells_fits : (q : SetupPacket) (b : List ℕ) → AreBytes b → IsOfBytes (tells q b)
tells_fits q b h = when_fits (q.length == length b) _ (λ e. in_fits (direction_of q.request_type) b h)

does_fits : (q : SetupPacket) (next : State) → HasBytes next → IsOfBytes (does q next)
does_fits q next h = when_fits (q.length == 0) (Done next) (λ e. h)

one_small : (b : Bool) → one_if b < 2
one_small true = lit< tt
one_small false = lit< tt

value_small : (a b c : Bool) (v : ℕ) (d : Bool) → (a && b && c && nat_lt v 256 && d) ≡ true → v < 256
value_small a b c v d e = grind (arith, nat_tests)

alternate_small : (i v : ℕ) (c : Bool) → (nat_lt i 256 && nat_lt v 256 && c) ≡ true → v < 256
alternate_small i v c e = grind (arith, nat_tests)

last_of : (a b c : Bool) → (a && b && c) ≡ true → c ≡ true
last_of true true c e = e
last_of true false c e = cc
last_of false b c e = cc

module _ (f : DescriptorFile) (bytes : AreBytes (file_bytes f)) (s : State) (state : HasBytes s) (q : SetupPacket) where
  status_fits : (r : Recipient) → IsOfBytes (status_of r (offer_of f) s q)
  status_fits Device =
      let one = one_small s.wakeup in
      when_fits (has_address s && (q.index == 0)) (tells q ((shown_attributes (offer_of f) s / 64 % 2 + 2 * one_if s.wakeup) ∷ 0 ∷ []))
      (λ e. tells_fits q ((shown_attributes (offer_of f) s / 64 % 2 + 2 * one_if s.wakeup) ∷ 0 ∷ []) (omega arith, (lit< tt, tt)))
  status_fits Interface =
      when_fits (is_configured s && names_interface (offer_of f) s q.index) (tells q (0 ∷ 0 ∷ [])) (λ e. tells_fits q (0 ∷ 0 ∷ []) (lit< tt, (lit< tt, tt)))
  status_fits Endpoint =
      let bit = bit_at-lt s.halts (halt_place q.index) in
      if_fits (names_endpoint_zero q.index) (when (has_address s) (tells q (0 ∷ 0 ∷ [])))
      (when (is_configured s && names_endpoint (offer_of f) s q.index) (tells q (halt_of s.halts q.index ∷ 0 ∷ [])))
      (when_fits (has_address s) (tells q (0 ∷ 0 ∷ [])) (λ e. tells_fits q (0 ∷ 0 ∷ []) (lit< tt, (lit< tt, tt))))
      (when_fits (is_configured s && names_endpoint (offer_of f) s q.index) (tells q (halt_of s.halts q.index ∷ 0 ∷ []))
      (λ e. tells_fits q (halt_of s.halts q.index ∷ 0 ∷ []) (omega arith, (lit< tt, tt))))
  status_fits Other = tt
  status_fits Reserved = tt

  feature_fits : (on : Bool) (r : Recipient) → IsOfBytes (feature_of r on (offer_of f) s q)
  feature_fits on Device =
      when_fits (has_address s && (q.value == 1) && (q.index == 0) && list_any can_wake (offer_of f).sets) (does q (record s { wakeup = on }))
      (λ e. does_fits q (record s { wakeup = on }) state)
  feature_fits on Interface = tt
  feature_fits on Endpoint =
      let next : State = record s { halts = changed_halts on s.halts q.index } in
      when_fits (is_configured s && (q.value == 0) && not (names_endpoint_zero q.index) && names_endpoint (offer_of f) s q.index) (does q next)
      (λ e. does_fits q next state)
  feature_fits on Other = tt
  feature_fits on Reserved = tt

  first_fit : AreBytes first_alternates
  unfolding first_alternates
  first_fit = zeros_fit 256

  address_fits : IsOfBytes (set_address (offer_of f) s q)
  address_fits =
      let next : State = record s { address = q.value } in
      when_fits (is_device (recipient_of q.request_type) && not (is_configured s) && nat_lt q.value 128 && (q.index == 0)) (does q next)
      (λ e. does_fits q next state)

  descriptor_fits : IsOfBytes (get_descriptor (offer_of f) s q)
  descriptor_fits =
      let there = descriptor f (q.value / 256) (q.value % 256) q.index in
      when_fits (is_device (recipient_of q.request_type)) (gives s q there)
      (λ e. gives_fits s q there state (descriptor_fit f (q.value / 256) (q.value % 256) q.index bytes))

  configuration_reported : IsOfBytes (get_configuration (offer_of f) s q)
  configuration_reported =
      when_fits (is_device (recipient_of q.request_type) && has_address s && (q.value == 0) && (q.index == 0)) (tells q (s.selected ∷ []))
      (λ e. tells_fits q (s.selected ∷ []) (state.0, tt))

  configuration_fits : IsOfBytes (set_configuration (offer_of f) s q)
  configuration_fits =
      let next : State = record s { selected = q.value; alternates = first_alternates; halts = 0 } in
      let known = (q.value == 0) || list_any (has_value q.value) (offer_of f).sets in
      when_fits (is_device (recipient_of q.request_type) && has_address s && (q.index == 0) && nat_lt q.value 256 && known) (does q next)
      (λ e. does_fits q next
      (value_small (is_device (recipient_of q.request_type)) (has_address s) (q.index == 0) q.value known e, first_fit))

  interface_reported : IsOfBytes (get_interface (offer_of f) s q)
  interface_reported =
      let setting = slice_index s.alternates q.index in
      when_fits (is_interface (recipient_of q.request_type) && is_configured s && (q.value == 0) && names_interface (offer_of f) s q.index) (tells q (setting ∷ []))
      (λ e. tells_fits q (setting ∷ []) (byte_at s.alternates q.index state.1, tt))

  interface_fits : IsOfBytes (set_interface (offer_of f) s q)
  interface_fits =
      let next : State = record s {
        alternates = slice_set s.alternates q.index q.value;
        halts = fold without_halt s.halts (interface_addresses (selected_settings (offer_of f) s) q.index);
      } in
      let there = is_interface (recipient_of q.request_type) in
      when_fits (there && is_configured s && names_alternate (offer_of f) s q.index q.value) (does q next)
      (λ e. does_fits q next (
        state.0,
        set_fit s.alternates q.index q.value state.1
            (alternate_small q.index q.value (list_any (is_alternate q.index q.value) (selected_settings (offer_of f) s))
            (last_of there (is_configured s) (names_alternate (offer_of f) s q.index q.value) e)),
      ))

  row_fits : IsOfBytes (row (offer_of f) s q)
  row_fits =
      if_fits (q.request == 0) _ _ (when_fits (q.value == 0) _ (λ e. status_fits (recipient_of q.request_type)))
      (if_fits (q.request == 1) _ _ (feature_fits false (recipient_of q.request_type))
      (if_fits (q.request == 3) _ _ (feature_fits true (recipient_of q.request_type))
      (if_fits (q.request == 5) _ _ address_fits
      (if_fits (q.request == 6) _ _ descriptor_fits
      (if_fits (q.request == 8) _ _ configuration_reported
      (if_fits (q.request == 9) _ _ configuration_fits
      (if_fits (q.request == 10) _ _ interface_reported
      (if_fits (q.request == 11) _ Refused interface_fits tt))))))))

  answer_of_fits : (c : Class) → IsOfBytes (answer_of c (offer_of f) s q)
  unfolding answer_of
  answer_of_fits classes.Standard = row_fits
  answer_of_fits classes.Class = tt
  answer_of_fits classes.Vendor = tt
  answer_of_fits classes.Reserved = tt

  pub answer_fits : IsOfBytes (answer f s q)
  unfolding answer
  answer_fits = answer_of_fits (class_of q.request_type)

-- ---- transactions

abbrev StageFits : DeviceStage → Type 0
StageFits (Sending q b k) = AreBytes b
StageFits stage = Unit {0}

record DeviceFits (d : DeviceView) : Type 0 where
  state : HasBytes d.state
  stage : StageFits d.stage

record ServedFits (r : Served) : Type 0 where
  reply : BringsBytes r.reply
  device : DeviceFits r.device

replied_fits : (reply : Reply) (s : State) (stage : DeviceStage) (pending : Bool) → BringsBytes reply → HasBytes s → StageFits stage →
    ServedFits (replies reply s stage pending)
replied_fits reply s stage pending a b c = record { reply = a; device = record { state = b; stage = c } }

begun_fits : (q : SetupPacket) (o : Outcome) → IsOfBytes o → StageFits (begun q o)
begun_fits q (Bytes b) h = h
begun_fits q (Done next) h = tt
begun_fits q Refused h = tt
begun_fits q (Takes judge) h = tt

carried_fits : (s : State) (o : Outcome) → HasBytes s → IsOfBytes o → HasBytes (carried_out s o)
carried_fits s (Bytes b) state h = state
carried_fits s (Done next) state h = h
carried_fits s Refused state h = state
carried_fits s (Takes judge) state h = state

if_state : (c : Bool) (x y : State) → HasBytes x → HasBytes y → HasBytes (if c then x else y)
if_state true x y p q = p
if_state false x y p q = q

next_fits : (s : State) (stage : DeviceStage) (k : ℕ) (ps : List (List ℕ)) → HasBytes s → StageFits stage → AllByRecursion AreBytes ps →
    ServedFits (next_packet s stage k ps)
next_fits s stage k [] state fits h = replied_fits _ s (Halted None) false tt state tt
next_fits s stage k (p ∷ ps) state fits h = replied_fits _ s stage true h.0 state fits

status_out_fits : (s : State) (stage : DeviceStage) (t : Toggle) (b : List ℕ) → HasBytes s → StageFits stage → ServedFits (status_out s stage t b)
status_out_fits s stage Data0 b state fits = replied_fits _ s stage false tt state fits
status_out_fits s stage Data1 [] state fits = replied_fits _ s Over false tt state tt
status_out_fits s stage Data1 (x ∷ b) state fits = replied_fits _ s (Halted None) false tt state tt

completed_fits : (q : SetupPacket) (o : Outcome) (got : List ℕ) → StageFits (completed q o got)
completed_fits q (Bytes b) got = tt
completed_fits q (Done next) got = tt
completed_fits q Refused got = tt
completed_fits q (Takes judge) got = by_judge (judge got)
  where
    by_judge : (good : Bool) → StageFits (if good then StatusIn q false else Halted None)
    by_judge true = tt
    by_judge false = tt

gathered_fits : (q : SetupPacket) (o : Outcome) (got : List ℕ) (all : Bool) → StageFits (if all then completed q o got else Receiving q got)
gathered_fits q o got true = completed_fits q o got
gathered_fits q o got false = tt

if_served : (c : Bool) (x y : Served) → ServedFits x → ServedFits y → ServedFits (if c then x else y)
if_served true x y p q = p
if_served false x y p q = q

acknowledges_fits : (s : State) (stage : DeviceStage) → HasBytes s → StageFits stage → ServedFits (replies AckReply s stage false)
acknowledges_fits s stage state fits = replied_fits _ s stage false tt state fits

stalls_fits : (s : State) → HasBytes s → ServedFits (stalls s)
stalls_fits s state = replied_fits _ s (Halted None) false tt state tt

out_fits : (table : State → SetupPacket → Outcome) (n : ℕ) (s : State) (stage : DeviceStage) (t : Toggle) (b : List ℕ) → HasBytes s → StageFits stage → ServedFits (served_out table n s stage t b)
out_fits table n s Idle t b state fits = stalls_fits s state
out_fits table n s (Halted refused) t b state fits = stalls_fits s state
out_fits table n s (Sending q x k) t b state fits = status_out_fits s (Sending q x k) t b state fits
out_fits table n s (StatusOut q) t b state fits = status_out_fits s (StatusOut q) t b state fits
out_fits table n s Over t b state fits = status_out_fits s Over t b state fits
out_fits table n s (StatusIn q c) t b state fits =
    if_served (q.length == 0) _ _ (stalls_fits s state) (acknowledges_fits s (StatusIn q c) state tt)
out_fits table n s (Receiving q got) t b state fits =
    if_served (not (is_same_toggle t (awaited n (length got)))) _ _ (acknowledges_fits s (Receiving q got) state tt)
    (if_served (length b == min n (q.length - length got)) _ _
    (acknowledges_fits s (gathered q (table s q) (got ++ b)) state (gathered_fits q (table s q) (got ++ b) (length (got ++ b) == q.length))) (stalls_fits s state))
out_fits table n s (Written q got) t b state fits =
    if_served (is_same_toggle t (awaited n (length got))) _ _ (stalls_fits s state) (acknowledges_fits s (Written q got) state tt)

module _ (f : DescriptorFile) (bytes : AreBytes (file_bytes f)) (table : State → SetupPacket → Outcome) (owned : IsBeside (answer f) table) where
  abbrev n : ℕ
  n = f.device.packet

  -- what is answered beside the table
  table_fits : (s : State) → HasBytes s → (q : SetupPacket) → IsOfBytes (table s q)
  table_fits s state q =
      elim (owned.same s q) [
        | inl e ↦ subst (λ o. IsOfBytes o) (sym e) (answer_fits f bytes s state q)
        | inr (refused, may) ↦ owned.bytes s q refused state
      ]

  data_fits : (b : List ℕ) (m : ℕ) → AreBytes b → AllByRecursion AreBytes (packets b n m)
  unfolding packets
  data_fits b m h = packets_fit m b n m h

  in_stage_fits : (s : State) (stage : DeviceStage) → HasBytes s → StageFits stage → ServedFits (served_in table n s stage)
  in_stage_fits s Idle state fits = stalls_fits s state
  in_stage_fits s (Halted refused) state fits = stalls_fits s state
  in_stage_fits s (Sending q b k) state fits =
      next_fits s (Sending q b k) k (drop k (packets b n q.length)) state fits (drop_fit AreBytes k (packets b n q.length) (data_fits b q.length fits))
  in_stage_fits s (StatusOut q) state fits = stalls_fits s state
  in_stage_fits s Over state fits = stalls_fits s state
  in_stage_fits s (Receiving q got) state fits = stalls_fits s state
  in_stage_fits s (Written q got) state fits = stalls_fits s state
  in_stage_fits s (StatusIn q c) state fits =
      replied_fits _ (status_state table n s q c) (StatusIn q true) true tt
      (if_state _ s _ state (carried_fits s (table s q) state (table_fits s state q))) tt

  here_fits : (d : DeviceView) (token : Token) (ready : Bool) → DeviceFits d → ServedFits (served_here table n d token ready)
  here_fits d (SetupToken b) ready h =
      replied_fits _ d.state (begun (setup_of b) (table d.state (setup_of b))) false tt h.state
      (begun_fits (setup_of b) (table d.state (setup_of b)) (table_fits d.state h.state (setup_of b)))
  here_fits d InToken false h = replied_fits _ d.state d.stage false tt h.state h.stage
  here_fits d InToken true h = in_stage_fits d.state d.stage h.state h.stage
  here_fits d (OutToken t b) false h = replied_fits _ d.state d.stage false tt h.state h.stage
  here_fits d (OutToken t b) true h = out_fits table n d.state d.stage t b h.state h.stage

  served_fits : (d : DeviceView) (sent : Sent) (ready : Bool) → DeviceFits d → ServedFits (served table n d sent ready)
  served_fits d sent ready h = by_address (sent.address == d.state.address)
    where
      by_address : (here : Bool) → ServedFits (if here then served_here table n d sent.token ready else replies NoReply d.state d.stage false)
      by_address true = here_fits d sent.token ready h
      by_address false = replied_fits _ d.state d.stage false tt h.state h.stage

  next_stage_fits : (q : SetupPacket) (b : List ℕ) (k : ℕ) (ps : List (List ℕ)) → AreBytes b → StageFits (next_stage q b k ps)
  next_stage_fits q b k [] h = tt
  next_stage_fits q b k (p ∷ ps) h = h

  acked_stage_fits : (stage : DeviceStage) → StageFits stage → StageFits (acked_stage table n stage)
  acked_stage_fits (Sending q b k) h = next_stage_fits q b k (drop (suc k) (packets b n q.length)) h
  acked_stage_fits Idle h = tt
  acked_stage_fits (Halted refused) h = tt
  acked_stage_fits (StatusOut q) h = tt
  acked_stage_fits Over h = tt
  acked_stage_fits (StatusIn q c) h = tt
  acked_stage_fits (Receiving q got) h = tt
  acked_stage_fits (Written q got) h = tt

  acked_state_fits : (s : State) (stage : DeviceStage) → HasBytes s → HasBytes (acked_state table n s stage)
  acked_state_fits s (StatusIn q c) h = if_state (is_set_address q) _ s (carried_fits s (table s q) h (table_fits s h q)) h
  acked_state_fits s Idle h = h
  acked_state_fits s (Halted refused) h = h
  acked_state_fits s (Sending q b k) h = h
  acked_state_fits s (StatusOut q) h = h
  acked_state_fits s Over h = h
  acked_state_fits s (Receiving q got) h = h
  acked_state_fits s (Written q got) h = h

  acked_fits : (d : DeviceView) → DeviceFits d → DeviceFits (acked table n d)
  acked_fits d h = by_pending d.pending
    where
      by_pending : (p : Bool) →
          DeviceFits (if p then record { state = acked_state table n d.state d.stage; stage = acked_stage table n d.stage; pending = false } else d)
      by_pending true = record { state = acked_state_fits d.state d.stage h.state; stage = acked_stage_fits d.stage h.stage }
      by_pending false = h

  with_ack_fits : (r : Served) → ServedFits r → ServedFits (acknowledged table n fates.Pass r)
  with_ack_fits r h = by_data (is_data r.reply)
    where
      by_data : (b : Bool) → ServedFits (record { reply = r.reply; device = if b then acked table n r.device else r.device })
      by_data true = record { reply = h.reply; device = acked_fits r.device h.device }
      by_data false = h

  carries : (d : DeviceView) (sent : Sent) (fate : Fate) → DeviceFits d → ServedFits (carried table n d sent fate)
  carries d sent fates.Pass h = with_ack_fits (served table n d sent true) (served_fits d sent true h)
  carries d sent fates.Busy h = with_ack_fits (served table n d sent false) (served_fits d sent false h)
  carries d sent fates.LostDown h = record { reply = tt; device = h }
  carries d sent fates.LostUp h = record { reply = tt; device = (served_fits d sent true h).device }
  carries d sent fates.LostAck h = served_fits d sent true h

  -- ---- runs

  new_fits : DeviceFits new_device
  unfolding first_alternates
  new_fits = record { state = (lit< tt, zeros_fit 256); stage = tt }

  run_asks : (limits : LimitView) (speed : Speed) (choice : Choice) (given : List Fate) (earlier : List Pair) (k : ℕ) (last : Pair) →
      RunsAt table n given (chosen_pair limits speed choice) earlier k last →
      (hosts : List HostView) × (came : Came) × Asks (chosen_host limits speed choice) hosts k came last.host × DeviceFits last.device
  run_asks limits speed choice given [] k last (e, none) =
      ([], no_bytes, (ap (λ y. y.host) e, none, refl), subst (λ y. DeviceFits y.device) (sym e) new_fits)
  run_asks limits speed choice given (x ∷ earlier) k last (inl (r, more)) =
      let (hosts, came, asks, fits) = run_asks limits speed choice given earlier k x more in
      (x.host ∷ hosts, no_bytes, inl (r.due, r.host, refl, (came, asks)), subst (λ d. DeviceFits d) (sym r.device) new_fits)
  run_asks limits speed choice given (x ∷ earlier) k last (inr (m, count, t, more)) =
      let (hosts, came, asks, fits) = run_asks limits speed choice given earlier m x more in
      let fate = fate_at given m in
      let reply = (carried table n x.device t.sent fate).reply in
      let carry = carries x.device t.sent fate fits in (
        x.host ∷ hosts,
        came_in (terms_of x.host) x.host.phase reply came,
        inr (m, t.sent, reply, came, count, t.due, carry.reply, t.host, refl, asks),
        subst (λ d. DeviceFits d) (sym t.device) carry.device,
      )

  -- a run has no more transactions and no more attempts than a host asks for
  pub run_ends_soon : ChosenHostsEnd → (limits : LimitView) (speed : Speed) (choice : Choice) (given : List Fate) (earlier : List Pair) (k : ℕ) (last : Pair) → 0 < limits.attempts →
      RunsAt table n given (chosen_pair limits speed choice) earlier k last → (last.host.resets ≤ limits.attempts) × (k ≤ most limits)
  run_ends_soon ends limits speed choice given earlier k last some runs =
      let (hosts, came, asks, fits) = run_asks limits speed choice given earlier k last runs in
      let end = ends limits speed choice hosts k came last.host some asks in
      (end.1, end.0)
