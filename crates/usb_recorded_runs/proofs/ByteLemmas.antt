-- A device with descriptors that are bytes sends bytes to a host that enumerates it.
use Rattle.std.proofs.Common.{◌≡◌, ◌⊎◌, inl, inr, ◌<◌, ◌==◌, ◌-◌, ◌/◌, ◌%◌, ◌++◌, ℕ, zero, suc, Bool, true, false, not, min, nat_lt, if◌then◌else◌, List, [], ◌∷◌, length, take, drop, refl, sym, subst, arith}
use Rattle.std.specs.Prelude.{Option, Some, None, option_and_then, slice_get, unwrap_or}
use Rattle.std.specs.List.{AllByRecursion}
use Rattle.std.specs.Option.{option_map}
use Rattle.usb_fields.specs.Bytes.{AreBytes}
use Rattle.usb_fields.specs.Device.{device_bytes, qualifier_bytes}
use Rattle.usb_fields.specs.declared.packet.Toggle.{Toggle}
use Rattle.usb_fields.specs.declared.packet.Toggle.TheVariants.{Data0, Data1}
use Rattle.usb_fields.specs.declared.setup.Setup.{Setup}
use Rattle.usb_fields.specs.Packets.{AckReply, DataReply, InToken, NoReply, OutToken, Reply, Sent, SetupToken, Token, is_same_toggle, packets, packets_within}
use Rattle.usb_fields.specs.Setup.{setup_bytes, setup_of}
use Rattle.usb_fields.specs.Units.{units_bytes}
use Rattle.usb_fields.proofs.ByteParts.{bytes_back, bytes_front}
use Rattle.usb_set.specs.declared.tree.Configuration.{Configuration}
use Rattle.usb_file_data.specs.declared.file.DescriptorFile.{DescriptorFile}
use Rattle.usb_file_data.specs.declared.file.Other.{Other}
use Rattle.usb_file_data.specs.declared.file.Strings.{Strings}
use Rattle.usb_file_data.specs.File.{each_string_bytes, file_bytes, named_indices, other_bytes, sets_bytes, string_place, strings_bytes, whole_set}
use Rattle.usb_file_data.proofs.Lists.{bytes_before, bytes_behind}
use Rattle.usb_host.specs.Cost.{BringsBytes}
use Rattle.usb_device.specs.declared.state.State.{State}
use Rattle.usb_device.specs.Descriptors.{descriptor, other_set_at, qualifier_of, set_at, string_at}
use Rattle.usb_device.specs.Requests.{Bytes, Outcome, Takes, answer}
use Rattle.usb_device.specs.Step.{DeviceStage, DeviceView, Halted, Over, Receiving, Sending, Served, StatusIn, StatusOut, Written, acked, acked_stage, acked_state, awaited, begun, completed, gathered, next_stage, replies, served, served_here, served_out, stalls, status_out}
use Rattle.usb_bus.specs.declared.fate.Fate.{Fate}
use Rattle.usb_bus.specs.declared.fate.Fate.TheVariants as fates
use Rattle.usb_bus.specs.Beside.{IsTable}
use Rattle.usb_bus.specs.Bus.{acknowledged, carried, is_data}
use Rattle.usb_bus.specs.Enumerate.{answered}
use Rattle.usb_recorded_runs.proofs.AnswerLemmas.{any_reported, described_by}
use Rattle.usb_recorded_runs.proofs.DeviceLemmas.{IsElsewhere, IsEmpty, IsNext, IsSent, Sends, served_sends}
use Rattle.usb_recorded_runs.proofs.LengthLemmas.{all_drop}
use Rattle.usb_recorded_runs.proofs.RecordedLemmas.{Fits}
use Rattle.usb_recorded_runs.proofs.RunLemmas.{here_fits}

-- ---- the packets of a data stage

either_are : (c : Bool) (x y : List (List ℕ)) → AllByRecursion AreBytes x → AllByRecursion AreBytes y → AllByRecursion AreBytes (if c then x else y)
either_are true x y p q = p
either_are false x y p q = q

bytes_within : (most : ℕ) (bytes : List ℕ) (size limit : ℕ) → AreBytes bytes → AllByRecursion AreBytes (packets_within most bytes size limit)
unfolding packets_within
bytes_within zero bytes size limit are = tt
bytes_within (suc most) bytes size limit are =
    either_are (limit == 0) [] _ tt
    (either_are (nat_lt (length bytes) size) (bytes ∷ []) (take size bytes ∷ packets_within most (drop size bytes) size (limit - size)) (are, tt)
    (bytes_front size bytes are, bytes_within most (drop size bytes) size (limit - size) (bytes_back size bytes are)))

packets_are : (bytes : List ℕ) (size limit : ℕ) → AreBytes bytes → AllByRecursion AreBytes (packets bytes size limit)
unfolding packets
packets_are bytes size limit are = bytes_within limit bytes size limit are

-- ---- descriptors

-- what is there, if anything is
abbrev Given : Option (List ℕ) → Type 0
Given o = AreBytes (unwrap_or o [])

either_given : (c : Bool) (x y : Option (List ℕ)) → Given x → Given y → Given (if c then x else y)
either_given true x y p q = p
either_given false x y p q = q

set_given : (sets : List Configuration) (index : ℕ) → AreBytes (sets_bytes sets) → Given (set_at sets index)
set_given [] index are = tt
set_given (c ∷ sets) zero are = bytes_before (whole_set c) (sets_bytes sets) are
set_given (c ∷ sets) (suc index) are = set_given sets index (bytes_behind (whole_set c) (sets_bytes sets) are)

other_given : (o : Option Other) (index : ℕ) → AreBytes (other_bytes o) → Given (other_set_at o index)
other_given None index are = tt
other_given (Some o) index are = set_given o.sets index (bytes_behind (qualifier_bytes o.qualifier) (sets_bytes o.sets) are)

qualifier_given : (o : Option Other) (index : ℕ) → AreBytes (other_bytes o) → Given (qualifier_of o index)
qualifier_given None index are = tt
qualifier_given (Some o) index are =
    either_given (index == 0) (Some (qualifier_bytes o.qualifier)) None (bytes_before (qualifier_bytes o.qualifier) (sets_bytes o.sets) are) tt

text_given : (texts : List (List ℕ)) (index : ℕ) → AreBytes (each_string_bytes texts) → Given (option_map units_bytes (slice_get texts index))
text_given [] index are = tt
text_given (units ∷ texts) zero are = bytes_before (units_bytes units) (each_string_bytes texts) are
text_given (units ∷ texts) (suc index) are = text_given texts index (bytes_behind (units_bytes units) (each_string_bytes texts) are)

text_at_given : (texts : List (List ℕ)) (place : Option ℕ) → AreBytes (each_string_bytes texts)
    → Given (option_map units_bytes (option_and_then (slice_get texts) place))
text_at_given texts None are = tt
text_at_given texts (Some index) are = text_given texts index are

string_given : (s : Option Strings) (named : List ℕ) (index language : ℕ) → AreBytes (strings_bytes s) → Given (string_at s named index language)
string_given None named index language are = tt
string_given (Some s) named index language are =
    either_given (index == 0) (Some (units_bytes s.languages)) _ (bytes_before (units_bytes s.languages) (each_string_bytes s.texts) are)
    (text_at_given s.texts (string_place s named index language) (bytes_behind (units_bytes s.languages) (each_string_bytes s.texts) are))

descriptor_given : (f : DescriptorFile) (kind index language : ℕ) → AreBytes (file_bytes f) → Given (descriptor f kind index language)
descriptor_given f kind index language are =
    let d = device_bytes f.device in
    let m = sets_bytes f.sets in
    let o = other_bytes f.other in
    let s = strings_bytes f.strings in
    let sets : AreBytes (d ++ m ++ o) = bytes_before (d ++ m ++ o) s are in
    let main : AreBytes (d ++ m) = bytes_before (d ++ m) o sets in
    either_given (kind == 1) _ _ (either_given (index == 0) (Some d) None (bytes_before d m main) tt)
    (either_given (kind == 2) _ _ (set_given f.sets index (bytes_behind d m main))
    (either_given (kind == 3) _ _ (string_given f.strings (named_indices f) index language (bytes_behind (d ++ m ++ o) s are))
    (either_given (kind == 6) _ _ (qualifier_given f.other index (bytes_behind (d ++ m) o sets))
    (either_given (kind == 7) _ None (other_given f.other index (bytes_behind (d ++ m) o sets)) tt))))

-- ---- what a host sends

-- a request of an enumeration: its fields have bytes, and it asks for a descriptor, or for no data
pub record IsHostRequest (q : Setup) : Type 0 where
  pub bytes : AreBytes (setup_bytes q)
  pub asks : ((q.request_type ≡ 128) × (q.request ≡ 6)) ⊎ (q.length ≡ 0)

abbrev pub IsHostToken : Token → Type 0
IsHostToken (SetupToken bytes) = (q : Setup) × (bytes ≡ setup_bytes q) × IsHostRequest q
IsHostToken InToken = Unit {0}
IsHostToken (OutToken toggle bytes) = AreBytes bytes

-- ---- a device

-- the bytes of its data stage to the host, if it is in one
abbrev pub HasBytes : DeviceStage → Type 0
HasBytes (Sending q bytes k) = AreBytes bytes
HasBytes stage = Unit {0}

elsewhere_has : (stage : DeviceStage) → IsElsewhere stage → HasBytes stage
elsewhere_has (Sending q bytes k) elsewhere = absurd elsewhere
elsewhere_has stage elsewhere = tt

stays_has : (old new : DeviceStage) → (new ≡ old) ⊎ IsElsewhere new → HasBytes old → HasBytes new
stays_has old new (inl same) has = subst HasBytes (sym same) has
stays_has old new (inr elsewhere) has = elsewhere_has new elsewhere

pub record AnswersBytes (r : Served) : Type 0 where
  pub reply : BringsBytes r.reply
  pub stage : HasBytes r.device.stage

either_answers : (c : Bool) (x y : Served) → AnswersBytes x → AnswersBytes y → AnswersBytes (if c then x else y)
either_answers true x y p q = p
either_answers false x y p q = q

-- what answers no IN has no data
no_data : (toggle : Toggle) (bytes : List ℕ) (reply : Reply) → Fits (OutToken toggle bytes) reply → BringsBytes reply
no_data toggle bytes (DataReply other more) fits = absurd fits
no_data toggle bytes reply fits = tt

status_has : (s : State) (stage : DeviceStage) (toggle : Toggle) (bytes : List ℕ) → HasBytes stage → HasBytes (status_out s stage toggle bytes).device.stage
status_has s stage Data0 bytes has = has
status_has s stage Data1 [] has = tt
status_has s stage Data1 (byte ∷ bytes) has = tt

either_has : (c : Bool) (x y : DeviceStage) → HasBytes x → HasBytes y → HasBytes (if c then x else y)
either_has true x y p q = p
either_has false x y p q = q

completed_has : (q : Setup) (o : Outcome) (got : List ℕ) → HasBytes (completed q o got)
completed_has q (Takes judge) got = either_has (judge got) (StatusIn q false) (Halted None) tt tt
completed_has q o got = tt

either_then : (c : Bool) (x y : Served) → HasBytes x.device.stage → HasBytes y.device.stage → HasBytes (if c then x else y).device.stage
either_then true x y p q = p
either_then false x y p q = q

module _ (table : State → Setup → Outcome) (cut : ℕ) where
  out_has : (s : State) (stage : DeviceStage) (toggle : Toggle) (bytes : List ℕ) → HasBytes stage
      → HasBytes (served_out table cut s stage toggle bytes).device.stage
  out_has s (Sending q b k) toggle bytes has = status_has s (Sending q b k) toggle bytes has
  out_has s (StatusOut q) toggle bytes has = status_has s (StatusOut q) toggle bytes tt
  out_has s Over toggle bytes has = status_has s Over toggle bytes tt
  out_has s (StatusIn q carried) toggle bytes has = either_then (q.length == 0) (stalls s) (replies AckReply s (StatusIn q carried) false) tt tt
  out_has s (Receiving q got) toggle bytes has =
      either_then (not (is_same_toggle toggle (awaited cut (length got)))) (replies AckReply s (Receiving q got) false) _ tt
      (either_then (length bytes == min cut (q.length - length got)) (replies AckReply s (gathered q (table s q) (got ++ bytes)) false) (stalls s)
      (either_has (length (got ++ bytes) == q.length) (completed q (table s q) (got ++ bytes)) (Receiving q (got ++ bytes))
      (completed_has q (table s q) (got ++ bytes)) tt)
      tt)
  out_has s (Written q got) toggle bytes has =
      either_then (is_same_toggle toggle (awaited cut (length got))) (stalls s) (replies AckReply s (Written q got) false) tt tt
  out_has s stage toggle bytes has = tt

  -- after the ACK of a packet
  next_has : (q : Setup) (bytes : List ℕ) (k : ℕ) (left : List (List ℕ)) → AreBytes bytes → HasBytes (next_stage q bytes k left)
  next_has q bytes k [] are = tt
  next_has q bytes k (p ∷ rest) are = are

  acked_has : (stage : DeviceStage) → HasBytes stage → HasBytes (acked_stage table cut stage)
  acked_has (Sending q bytes k) has = next_has q bytes k (drop (suc k) (packets bytes cut q.length)) has
  acked_has (StatusIn q carried) has = tt
  acked_has stage has = has

  device_acked : (d : DeviceView) → HasBytes d.stage → HasBytes (acked table cut d).stage
  device_acked d has = of d.pending
    where
      of : (waits : Bool)
          → HasBytes (if waits then (record { state = acked_state table cut d.state d.stage; stage = acked_stage table cut d.stage; pending = false }) else d).stage
      of true = acked_has d.stage has
      of false = has

  -- an IN
  sent_bytes : (old : DeviceStage) (new : DeviceView) (reply : Reply) → HasBytes old → IsSent table cut old new reply → BringsBytes reply
  sent_bytes old new (DataReply toggle bytes) has sent = of sent.which
    where
      of : IsNext table cut old new.stage toggle bytes ⊎ IsEmpty table cut old new.stage bytes → AreBytes bytes
      of (inl next) =
          (subst (AllByRecursion AreBytes) next.due
          (all_drop AreBytes next.acked_ones (packets next.all cut next.request.length)
          (packets_are next.all cut next.request.length (subst HasBytes next.was has)))).0
      of (inr empty) = subst AreBytes (sym empty.none) tt
  sent_bytes old new reply has sent = tt

  in_answers : (d : DeviceView) (address : ℕ) (ready : Bool) → HasBytes d.stage
      → AnswersBytes (served table cut d (record { address = address; token = InToken }) ready)
  in_answers d address ready has =
      let r = served table cut d (record { address = address; token = InToken }) ready in
      let sends : Sends table cut d.stage r = served_sends table cut d address ready in
      record { reply = sent_bytes d.stage r.device r.reply has sends.sent; stage = stays_has d.stage r.device.stage sends.stays has }

  out_answers : (d : DeviceView) (toggle : Toggle) (bytes : List ℕ) (ready : Bool) → HasBytes d.stage
      → AnswersBytes (served_here table cut d (OutToken toggle bytes) ready)
  out_answers d toggle bytes ready has =
      let r = served_here table cut d (OutToken toggle bytes) ready in
      record { reply = no_data toggle bytes r.reply (here_fits table cut d (OutToken toggle bytes) ready); stage = of ready }
    where
      of : (ready : Bool) → HasBytes (served_here table cut d (OutToken toggle bytes) ready).device.stage
      of true = out_has d.state d.stage toggle bytes has
      of false = has

-- ---- a device with these descriptors

module _ (f : DescriptorFile) (are : AreBytes (file_bytes f)) (kept_table : IsTable (answer f)) where
  abbrev cut : ℕ
  cut = f.device.packet

  answer_has : (s : State) (q : Setup) (o : Outcome) → IsHostRequest q → answer f s (setup_of (setup_bytes q)) ≡ o
      → HasBytes (begun (setup_of (setup_bytes q)) o)
  answer_has s q (Bytes bytes) fits e = of fits.asks
    where
      r : Setup
      r = setup_of (setup_bytes q)

      of : ((q.request_type ≡ 128) × (q.request ≡ 6)) ⊎ (q.length ≡ 0) → AreBytes bytes
      of (inl (type, request)) =
          subst AreBytes (sym (any_reported f s r bytes type request e))
          (bytes_front r.length (described_by f r) (descriptor_given f (r.value / 256) (r.value % 256) r.index are))
      of (inr none) =
          let some : 0 < r.length = ((kept_table.answering s r).bytes bytes e).0 in
          absurd (let w : ⊥ = omega (arith, some, none) in w)
  answer_has s q o fits e = tt

  setup_answers : (d : DeviceView) (bytes : List ℕ) (ready : Bool) → IsHostToken (SetupToken bytes)
      → AnswersBytes (served_here (answer f) cut d (SetupToken bytes) ready)
  setup_answers d bytes ready (q, same, fits) =
      subst (λ b. AnswersBytes (served_here (answer f) cut d (SetupToken b) ready)) (sym same)
      (record { reply = tt; stage = answer_has d.state q (answer f d.state (setup_of (setup_bytes q))) fits refl })

  served_answers : (d : DeviceView) (sent : Sent) (ready : Bool) → IsHostToken sent.token → HasBytes d.stage
      → AnswersBytes (served (answer f) cut d sent ready)
  served_answers d sent ready fits has = of sent.token fits
    where
      at : (token : Token) → AnswersBytes (served_here (answer f) cut d token ready)
          → AnswersBytes (served (answer f) cut d (record { address = sent.address; token = token }) ready)
      at token here = either_answers (sent.address == d.state.address) _ (replies NoReply d.state d.stage false) here (record { reply = tt; stage = has })

      of : (token : Token) → IsHostToken token → AnswersBytes (served (answer f) cut d (record { address = sent.address; token = token }) ready)
      of (SetupToken bytes) fits = at (SetupToken bytes) (setup_answers d bytes ready fits)
      of InToken fits = in_answers (answer f) cut d sent.address ready has
      of (OutToken toggle bytes) fits = at (OutToken toggle bytes) (out_answers (answer f) cut d toggle bytes ready has)

  acknowledged_has : (r : Served) → HasBytes r.device.stage → HasBytes (acknowledged (answer f) cut fates.Pass r).device.stage
  acknowledged_has r has = of (is_data r.reply)
    where
      of : (c : Bool) → HasBytes (if c then acked (answer f) cut r.device else r.device).stage
      of true = device_acked (answer f) cut r.device has
      of false = has

  -- what it answers, and its stage after that
  pub answered_bytes : (d : DeviceView) (sent : Sent) (fate : Fate) → IsHostToken sent.token → HasBytes d.stage → BringsBytes (answered f d sent fate)
  answered_bytes d sent fates.Pass fits has = (served_answers d sent true fits has).reply
  answered_bytes d sent fates.Busy fits has = (served_answers d sent false fits has).reply
  answered_bytes d sent fates.LostUp fits has = (served_answers d sent true fits has).reply
  answered_bytes d sent fates.LostAck fits has = (served_answers d sent true fits has).reply
  answered_bytes d sent fates.LostDown fits has = tt

  pub carried_has : (d : DeviceView) (sent : Sent) (fate : Fate) → IsHostToken sent.token → HasBytes d.stage → AnswersBytes (carried (answer f) cut d sent fate)
  carried_has d sent fates.Pass fits has =
      let answers = served_answers d sent true fits has in
      record { reply = answers.reply; stage = acknowledged_has (served (answer f) cut d sent true) answers.stage }
  carried_has d sent fates.Busy fits has =
      let answers = served_answers d sent false fits has in
      record { reply = answers.reply; stage = acknowledged_has (served (answer f) cut d sent false) answers.stage }
  carried_has d sent fates.LostUp fits has = record { reply = tt; stage = (served_answers d sent true fits has).stage }
  carried_has d sent fates.LostAck fits has = served_answers d sent true fits has
  carried_has d sent fates.LostDown fits has = record { reply = tt; stage = has }
