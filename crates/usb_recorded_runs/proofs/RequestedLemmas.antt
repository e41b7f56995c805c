-- The requests of a host, and those of the transfers that a recorder makes of what it has received.
use Rattle.std.proofs.Common.{◌≡◌, inl, inr, ◌==◌, ◌&&◌, ◌||◌, ◌<◌, ◌+◌, ◌*◌, nat_lt, nat_le, ℕ, take, Bool, true, false, not, if◌then◌else◌, List, [], ◌∷◌, ◌++◌, length, refl, sym, ◌∙◌, ap, subst, arith}
use Rattle.std.specs.Prelude.{Option, Some, None, slice_index}
use Rattle.std.specs.List.{AllByRecursion}
use Rattle.std.specs.Option.{option_to_list}
use Rattle.std.proofs.lemmas.Bool.Decides.{nat_tests}
use Rattle.usb_fields.specs.Bytes.{little_endian_at}
use Rattle.usb_fields.specs.declared.device.DeviceDescriptor.{DeviceDescriptor}
use Rattle.usb_fields.specs.declared.packet.Toggle.{Toggle}
use Rattle.usb_fields.specs.declared.packet.Toggle.TheVariants.{Data0, Data1}
use Rattle.usb_fields.specs.declared.qualifier.Qualifier.{Qualifier}
use Rattle.usb_fields.specs.declared.setup.Setup.{Setup}
use Rattle.usb_fields.specs.Packets.{DataReply, NakReply, NoReply, Reply, is_same_toggle}
use Rattle.usb_set.specs.declared.tree.Configuration.{Configuration}
use Rattle.usb_set.specs.declared.tree.SetKind.{SetKind}
use Rattle.usb_set.specs.declared.tree.SetKind.TheVariants as kinds
use Rattle.usb_set.specs.Descriptors.{type_number}
use Rattle.usb_file_data.specs.declared.file.DescriptorFile.{DescriptorFile}
use Rattle.usb_file_data.specs.declared.file.Strings.{Strings}
use Rattle.usb_file_data.specs.File.{named_indices}
use Rattle.usb_file_data.specs.Front.{with_set, with_qualifier, with_strings}
use Rattle.usb_host.specs.declared.choice.NamedStrings.{NamedStrings}
use Rattle.usb_host.specs.declared.choice.Terms.{Terms}
use Rattle.usb_host.specs.declared.step.Trouble.{Trouble}
use Rattle.usb_host.specs.declared.transfer.TransferStage.{TransferStage}
use Rattle.usb_host.specs.declared.transfer.TransferStage.TheVariants as stages
use Rattle.usb_host.specs.declared.why.Why.TheVariants as whys
use Rattle.usb_host.specs.Keeping as kept
use Rattle.usb_host.specs.Keeping.{Kept, set_kept}
use Rattle.usb_host.specs.Limits.{LimitView}
use Rattle.usb_host.specs.Order.{after_sets, asks, bytes_lead, declared_sets, device_leads, done_leads, header_leads, is_first_zero, is_spared, languages_lead, qualifier_leads, refused_leads, set_leads, sets_due, sets_of, spared, stand_in, strings_due, text_leads, texts_due}
use Rattle.usb_host.specs.Place.{Place, First, Address, Device, Header, Set, Qualifier as SecondSpeed, Languages, Text, Configure, Reported, Stopped}
use Rattle.usb_host.specs.Plan.{Plan, Begin, Success, GivesUp}
use Rattle.usb_host.specs.Read.{device_of, is_first, may_have_second, qualifier_of, same_bytes, total_in, total_said, units_of}
use Rattle.usb_host.specs.Steps.{Ended, HostPhase, HostView, Reading, ResetDue, TakesIn, TakesReceived, blames_bus, completed_leads, enter, entered, goes_on, read_leads, reset, reset_in, settled, terms_of}
use Rattle.usb_host.specs.Terms.{is_asked}
use Rattle.usb_host.specs.Transfer.{Taken, TransferView, delayed, struck, taken, taken_at, taken_data, taken_status}
use Rattle.usb_capture.specs.declared.control_transfer.ControlTransfer.{ControlTransfer}
use Rattle.usb_capture.specs.declared.data_toggle.DataToggle.{DataToggle}
use Rattle.usb_capture.specs.declared.data_toggle.Part.{Part}
use Rattle.usb_capture.specs.declared.data_toggle.Part.TheVariants as parts
use Rattle.usb_capture.specs.declared.open_transfer.OpenTransfer.{OpenTransfer}
use Rattle.usb_capture.specs.declared.transaction.DataPacket.{DataPacket}
use Rattle.usb_capture.specs.declared.transaction.Transaction.{Transaction}
use Rattle.usb_capture.specs.BusTransfers.{Pipes, closed, none_open, over_by, over_with_part, part_at, pipes_after, pipes_by, pipes_in, pipes_with, request_of, toggle_after, toggle_at, transfer_over, transfers_in, with_packet}
use Rattle.usb_capture.specs.Folds.{after_all, given_in}
use Rattle.usb_capture.specs.Transfers.{open_with, opened, without}

-- ---- the plan of a host's transfer

abbrev pub plan_of : TransferView → Plan
plan_of t = Begin t.address t.packet t.request

abbrev Same : TransferView → Taken → Type 0
Same t x = plan_of x.transfer ≡ plan_of t

if_same : (t : TransferView) (b : Bool) (x y : Taken) → Same t x → Same t y → Same t (if b then x else y)
if_same t true x y p q = p
if_same t false x y p q = q

struck_same : (t : TransferView) → Same t (struck t)
struck_same t = if_same t (nat_lt t.strikes 2) _ _ refl refl

delayed_same : (t : TransferView) → Same t (delayed t)
delayed_same t = if_same t (nat_lt t.nak_count t.naks) _ _ refl refl

data_same : (t : TransferView) (toggle : Toggle) (bytes : List ℕ) → Same t (taken_data t toggle bytes)
data_same t toggle bytes =
    if_same t (nat_lt t.packet (length bytes)) _ _ refl
    (if_same t (is_same_toggle toggle t.awaited) _ _ (if_same t (nat_lt t.request.length (t.kept + length bytes)) _ _ refl refl) (struck_same t))

status_same : (t : TransferView) (toggle : Toggle) (bytes : List ℕ) → Same t (taken_status t toggle bytes)
status_same t toggle (byte ∷ bytes) = refl
status_same t Data0 [] = struck_same t
status_same t Data1 [] = refl

same_at : (t : TransferView) (stage : TransferStage) (r : Reply) → Same t (taken_at t stage r)
same_at t stages.Setup NoReply = struck_same t
same_at t stages.DataIn NakReply = delayed_same t
same_at t stages.DataIn (DataReply toggle bytes) = data_same t toggle bytes
same_at t stages.DataIn NoReply = struck_same t
same_at t stages.DataOut NakReply = delayed_same t
same_at t stages.DataOut NoReply = struck_same t
same_at t stages.StatusOut NakReply = delayed_same t
same_at t stages.StatusOut NoReply = struck_same t
same_at t stages.StatusIn NakReply = delayed_same t
same_at t stages.StatusIn (DataReply toggle bytes) = status_same t toggle bytes
same_at t stages.StatusIn NoReply = struck_same t
same_at t _ _ = refl

pub plan_taken : (t : TransferView) (r : Reply) → plan_of (taken t r).transfer ≡ plan_of t
plan_taken t r = same_at t t.stage r

-- ---- the lengths of sets

-- A set is asked for with more than eight bytes.
abbrev pub IsLong : Place → Type 0
IsLong (Set kind f total) = 8 < total
IsLong place = Unit {0}

either_long : (c : Bool) (x y : Place) → IsLong x → IsLong y → IsLong (if c then x else y)
either_long true x y p q = p
either_long false x y p q = q

texts_long : (f : DescriptorFile) (s : Strings) (named : List ℕ) → IsLong (texts_due f s named)
texts_long f s named = either_long (nat_lt (length s.texts) (length s.languages * length named)) (Text f s named) (Configure (with_strings s f)) tt tt

strings_long : (terms : Terms) (f : DescriptorFile) → IsLong (strings_due terms f)
strings_long terms f = either_long (not (is_asked terms.choice.strings) || (length (named_indices f) == 0)) (Configure f) (Languages f (named_indices f)) tt tt

after_long : (terms : Terms) (kind : SetKind) (f : DescriptorFile) → IsLong (after_sets terms kind f)
after_long terms kinds.Configuration f =
    either_long (terms.choice.other_speed && may_have_second terms.speed f.device) (SecondSpeed f) (strings_due terms f) tt (strings_long terms f)
after_long terms kinds.OtherSpeed f = strings_long terms f

sets_long : (terms : Terms) (kind : SetKind) (f : DescriptorFile) → IsLong (sets_due terms kind f)
sets_long terms kind f = either_long (nat_lt (length (sets_of kind f)) (declared_sets kind f)) (Header kind f) (after_sets terms kind f) tt (after_long terms kind f)

device_long : (terms : Terms) (place : Place) (first b : List ℕ) (o : Option DeviceDescriptor) → IsLong (device_leads terms place first b o)
device_long terms place first b None = tt
device_long terms place first b (Some d) =
    either_long (same_bytes (take 8 b) first && not (d.configurations == 0)) _ _ (sets_long terms kinds.Configuration (record { device = d; sets = []; other = None; strings = None })) tt

said_long : (kind count length_said kind_said total n : ℕ) → total_said kind count length_said kind_said total ≡ Some n → 8 < n
said_long kind count length_said kind_said total n e = of (count == 9) (nat_lt 8 length_said) (kind_said == kind) (nat_lt total length_said) refl refl e
  where
    many : (said total : ℕ) → nat_lt 8 said ≡ true → nat_lt total said ≡ false → 8 < total
    many said total e g = grind (arith, nat_tests)

    of : (nine long same less : Bool) → nat_lt 8 length_said ≡ long → nat_lt total length_said ≡ less → (if nine && long && same && not less then Some total else None) ≡ Some n → 8 < n
    of true true true false a b e = let same : total ≡ n = cc in subst (λ m. 8 < m) same (many length_said total a b)
    of nine long same less a b e = absurd (let w : ⊥ = cc in w)

header_long : (place : Place) (kind : SetKind) (f : DescriptorFile) (b : List ℕ) → IsLong (header_leads place kind f (total_in (type_number kind) b))
header_long place kind f b = of (total_in (type_number kind) b) refl
  where
    of : (o : Option ℕ) → total_in (type_number kind) b ≡ o → IsLong (header_leads place kind f o)
    of None e = tt
    of (Some total) e = said_long (type_number kind) (length b) (slice_index b 0) (slice_index b 1) (little_endian_at b 2) total e

set_long : (terms : Terms) (place : Place) (kind : SetKind) (f : DescriptorFile) (total count : ℕ) (o : Option Configuration) → IsLong (set_leads terms place kind f total count o)
set_long terms place kind f total count None = tt
set_long terms place kind f total count (Some c) =
    either_long ((count == total) && (type_number c.kind == type_number kind) && not (is_first_zero kind (sets_of kind f) c)) (sets_due terms kind (with_set kind c f)) _
    (sets_long terms kind (with_set kind c f)) tt

qualifier_long : (terms : Terms) (place : Place) (f : DescriptorFile) (o : Option Qualifier) → IsLong (qualifier_leads terms place f o)
qualifier_long terms place f None = tt
qualifier_long terms place f (Some q) = sets_long terms kinds.OtherSpeed (with_qualifier q f)

languages_long : (place : Place) (f : DescriptorFile) (named : List ℕ) (o : Option (List ℕ)) → IsLong (languages_lead place f named o)
languages_long place f named None = tt
languages_long place f named (Some []) = tt
languages_long place f named (Some (l ∷ ls)) = texts_long f (record { languages = l ∷ ls; texts = [] }) named

text_long : (place : Place) (f : DescriptorFile) (s : Strings) (named : List ℕ) (o : Option (List ℕ)) → IsLong (text_leads place f s named o)
text_long place f s named None = tt
text_long place f s named (Some u) = texts_long f (record s { texts = s.texts ++ u ∷ [] }) named

bytes_long : (terms : Terms) (place : Place) (b : List ℕ) → IsLong (bytes_lead terms place b)
bytes_long terms First b = either_long (is_first terms.speed b) (Address b) _ tt tt
bytes_long terms (Address early) b = tt
bytes_long terms (Device early) b = device_long terms (Device early) early b (device_of b)
bytes_long terms (Header kind f) b = header_long (Header kind f) kind f b
bytes_long terms (Set kind f total) b = tt
bytes_long terms (SecondSpeed f) b = qualifier_long terms (SecondSpeed f) f (qualifier_of b)
bytes_long terms (Languages f named) b = languages_long (Languages f named) f named (units_of b)
bytes_long terms (Text f s named) b = text_long (Text f s named) f s named (units_of b)
bytes_long terms (Configure f) b = tt
bytes_long terms (Reported f) b = tt
bytes_long terms (Stopped trouble) b = tt

read_long : (terms : Terms) (place : Place) (count : ℕ) (k : Kept) → IsLong (read_leads terms place count k)
read_long terms place count (kept.Bytes b) = bytes_long terms place b
read_long terms (Set kind f total) count (kept.Set d over) = set_long terms (Set kind f total) kind f total count (set_kept d over)
read_long terms First count (kept.Set d over) = tt
read_long terms (Address early) count (kept.Set d over) = tt
read_long terms (Device early) count (kept.Set d over) = tt
read_long terms (Header kind f) count (kept.Set d over) = tt
read_long terms (SecondSpeed f) count (kept.Set d over) = tt
read_long terms (Languages f named) count (kept.Set d over) = tt
read_long terms (Text f s named) count (kept.Set d over) = tt
read_long terms (Configure f) count (kept.Set d over) = tt
read_long terms (Reported f) count (kept.Set d over) = tt
read_long terms (Stopped trouble) count (kept.Set d over) = tt

done_long : (place : Place) → IsLong (done_leads place)
done_long (Address early) = tt
done_long (Configure f) = tt
done_long First = tt
done_long (Device early) = tt
done_long (Header kind f) = tt
done_long (Set kind f total) = tt
done_long (SecondSpeed f) = tt
done_long (Languages f named) = tt
done_long (Text f s named) = tt
done_long (Reported f) = tt
done_long (Stopped trouble) = tt

stand_long : (place : Place) → IsLong place → IsLong (stand_in place)
stand_long (Languages f named) is = texts_long f (record { languages = 0x0409 ∷ []; texts = [] }) named
stand_long (Text f s named) is = texts_long f (record s { texts = s.texts ++ [] ∷ [] }) named
stand_long First is = is
stand_long (Address early) is = is
stand_long (Device early) is = is
stand_long (Header kind f) is = is
stand_long (Set kind f total) is = is
stand_long (SecondSpeed f) is = is
stand_long (Configure f) is = is
stand_long (Reported f) is = is
stand_long (Stopped trouble) is = is

spared_long : (texts : NamedStrings) (here there : Place) → IsLong here → IsLong there → IsLong (spared texts here there)
spared_long texts here there is next = either_long (is_spared texts here there) (stand_in here) there (stand_long here is) next

completed_long : (terms : Terms) (place : Place) (t : TransferView) (k : Kept) → IsLong (completed_leads terms place t k)
completed_long terms place t k = either_long (t.request.length == 0) (done_leads place) (read_leads terms place t.kept k) (done_long place) (read_long terms place t.kept k)

refused_long : (terms : Terms) (place : Place) → IsLong (refused_leads terms place)
refused_long terms (SecondSpeed f) = strings_long terms f
refused_long terms First = tt
refused_long terms (Address early) = tt
refused_long terms (Device early) = tt
refused_long terms (Header kind f) = tt
refused_long terms (Set kind f total) = tt
refused_long terms (Languages f named) = tt
refused_long terms (Text f s named) = tt
refused_long terms (Configure f) = tt
refused_long terms (Reported f) = tt
refused_long terms (Stopped trouble) = tt

-- ---- a host asks for what comes next at its place

pub record Asks (limits : LimitView) (place : Place) (t : TransferView) : Type 0 where
  pub plan : asks limits.address place ≡ plan_of t
  pub long : IsLong place

abbrev pub InOrder : LimitView → HostPhase → Type 0
InOrder limits ResetDue = Unit {0}
InOrder limits (Reading place t k) = Asks limits place t
InOrder limits (Ended place) = Unit {0}

entered_orders : (limits : LimitView) (place : Place) (plan : Plan) → asks limits.address place ≡ plan → IsLong place → InOrder limits (entered limits.naks place plan)
entered_orders limits place (Begin address packet q) e long = record { plan = e; long = long }
entered_orders limits place Success e long = tt
entered_orders limits place (GivesUp why) e long = tt

enter_orders : (limits : LimitView) (place : Place) → IsLong place → InOrder limits (enter limits place)
enter_orders limits place long = entered_orders limits place (asks limits.address place) refl long

goes_orders : (limits : LimitView) (terms : Terms) (place : Place) (t : TransferView) (k : Kept) (stage : TransferStage) → Asks limits place t → InOrder limits (goes_on limits terms place t k stage)
goes_orders limits terms place t k stages.Completed asked =
    enter_orders limits (spared terms.choice.strings place (completed_leads terms place t k)) (spared_long terms.choice.strings place (completed_leads terms place t k) asked.long (completed_long terms place t k))
goes_orders limits terms place t k (stages.Failed whys.Stalled) asked =
    enter_orders limits (spared terms.choice.strings place (refused_leads terms place)) (spared_long terms.choice.strings place (refused_leads terms place) asked.long (refused_long terms place))
goes_orders limits terms place t k (stages.Failed whys.NoAnswer) asked = tt
goes_orders limits terms place t k (stages.Failed whys.Busy) asked = tt
goes_orders limits terms place t k (stages.Failed whys.TooLong) asked = tt
goes_orders limits terms place t k (stages.Failed whys.Unexpected) asked = tt
goes_orders limits terms place t k (stages.Failed whys.Malformed) asked = tt
goes_orders limits terms place t k (stages.Failed whys.Memory) asked = tt
goes_orders limits terms place t k stages.Setup asked = asked
goes_orders limits terms place t k stages.DataIn asked = asked
goes_orders limits terms place t k stages.DataOut asked = asked
goes_orders limits terms place t k stages.StatusOut asked = asked
goes_orders limits terms place t k stages.StatusIn asked = asked

received_orders : (limits : LimitView) (terms : Terms) (place : Place) (t : TransferView) (old : Kept) (reply : Reply) (new : HostPhase) (before after : List Trouble)
    → Asks limits place t → TakesReceived limits terms place old (taken t reply) new before after → InOrder limits new
received_orders limits terms place t old reply new b a asked (result, k, keeps, inl (lacks, e, same)) = subst (InOrder limits) (sym e) tt
received_orders limits terms place t old reply new b a asked (result, k, keeps, inr (lacks, e, adds)) =
    subst (InOrder limits) (sym e)
    (goes_orders limits terms place (taken t reply).transfer k (taken t reply).transfer.stage (record { plan = asked.plan ∙ sym (plan_taken t reply); long = asked.long }))

either_orders : (limits : LimitView) (c : Bool) (x y : HostPhase) → InOrder limits x → InOrder limits y → InOrder limits (if c then x else y)
either_orders limits true x y p q = p
either_orders limits false x y p q = q

settled_orders : (limits : LimitView) (attempts resets : ℕ) (phase : HostPhase) → InOrder limits phase → InOrder limits (settled attempts resets phase)
settled_orders limits attempts resets ResetDue h = tt
settled_orders limits attempts resets (Reading place t k) h = h
settled_orders limits attempts resets (Ended First) h = tt
settled_orders limits attempts resets (Ended (Address first)) h = tt
settled_orders limits attempts resets (Ended (Device first)) h = tt
settled_orders limits attempts resets (Ended (Header kind f)) h = tt
settled_orders limits attempts resets (Ended (Set kind f total)) h = tt
settled_orders limits attempts resets (Ended (SecondSpeed f)) h = tt
settled_orders limits attempts resets (Ended (Languages f named)) h = tt
settled_orders limits attempts resets (Ended (Text f s named)) h = tt
settled_orders limits attempts resets (Ended (Configure f)) h = tt
settled_orders limits attempts resets (Ended (Reported f)) h = tt
settled_orders limits attempts resets (Ended (Stopped trouble)) h =
    either_orders limits (blames_bus trouble.why && nat_lt resets attempts) ResetDue (Ended (Stopped trouble)) tt tt

-- The limits are the same, and the order is kept.
pub record Ordered (v w : HostView) : Type 0 where
  pub limits : w.limits ≡ v.limits
  pub order : InOrder w.limits w.phase

takes_orders : (v w : HostView) (phase : HostPhase) (reply : Reply) → v.phase ≡ phase → InOrder v.limits phase → TakesIn v phase reply w → Ordered v w
takes_orders v w ResetDue reply at h is = record { limits = ap (λ u. u.limits) is; order = subst (λ u. InOrder u.limits u.phase) (sym is) (subst (InOrder v.limits) (sym at) h) }
takes_orders v w (Ended place) reply at h is = record { limits = ap (λ u. u.limits) is; order = subst (λ u. InOrder u.limits u.phase) (sym is) (subst (InOrder v.limits) (sym at) h) }
takes_orders v w (Reading place t k) reply at h (phase, received, e) = record {
  limits = ap (λ u. u.limits) e;
  order = subst (λ u. InOrder u.limits u.phase) (sym e)
      (settled_orders v.limits v.limits.attempts v.resets phase (received_orders v.limits (terms_of v) place t k reply phase v.forgiven w.forgiven h received));
}

pub taken_orders : (v w : HostView) (reply : Reply) → InOrder v.limits v.phase → TakesIn v v.phase reply w → Ordered v w
taken_orders v w reply h takes = takes_orders v w v.phase reply refl h takes

reset_in_orders : (v : HostView) (phase : HostPhase) → InOrder v.limits phase → v.phase ≡ phase → Ordered v (reset_in v phase)
reset_in_orders v ResetDue h at = record { limits = refl; order = enter_orders v.limits First tt }
reset_in_orders v (Reading place t k) h at = record { limits = refl; order = subst (InOrder v.limits) (sym at) h }
reset_in_orders v (Ended place) h at = record { limits = refl; order = subst (InOrder v.limits) (sym at) h }

pub reset_orders : (v w : HostView) → InOrder v.limits v.phase → w ≡ reset v → Ordered v w
reset_orders v w h is = subst (Ordered v) (sym is) (reset_in_orders v v.phase h refl)

-- ---- the requests of recorded transfers

-- for what holds of each request of a recording, and the address to which it went
module _ (Q : ℕ → Setup → Type 0) where
  abbrev pub IsOf : Transaction → Type 0
  IsOf transaction = (setup : Setup) → request_of transaction ≡ Some setup → Q transaction.to.address setup

  abbrev pub HasRequest : ControlTransfer → Type 0
  HasRequest transfer = Q transfer.device transfer.setup

  abbrev IsOpen : OpenTransfer → Type 0
  IsOpen one = HasRequest one.transfer × (one.transfer.device ≡ one.id)

  abbrev IsAt : ℕ → ControlTransfer → Type 0
  IsAt address transfer = HasRequest transfer × (transfer.device ≡ address)

  same_id : (m n : ℕ) → (m == n) ≡ true → m ≡ n
  same_id m n e = grind (arith, nat_tests)

  found_request : (id : ℕ) (opens : List OpenTransfer) (transfer : ControlTransfer) → AllByRecursion IsOpen opens → open_with id opens ≡ Some transfer → IsAt id transfer
  unfolding open_with
  found_request id [] transfer each is = absurd (let w : ⊥ = cc in w)
  found_request id (one ∷ opens) transfer each is = of (one.id == id) refl is (found_request id opens transfer each.1)
    where
      of : (t : Bool) → (one.id == id) ≡ t → (if t then Some one.transfer else open_with id opens) ≡ Some transfer → (open_with id opens ≡ Some transfer → IsAt id transfer) → IsAt id transfer
      of true here e later = let same : one.transfer ≡ transfer = cc in subst (IsAt id) same (each.0.0, each.0.1 ∙ same_id one.id id here)
      of false here e later = later e

  without_request : (id : ℕ) (opens : List OpenTransfer) → AllByRecursion IsOpen opens → AllByRecursion IsOpen (without id opens)
  unfolding without
  without_request id [] each = tt
  without_request id (one ∷ opens) each = of (one.id == id) (without_request id opens each.1)
    where
      of : (t : Bool) → AllByRecursion IsOpen (without id opens) → AllByRecursion IsOpen (if t then opens else one ∷ without id opens)
      of true later = each.1
      of false later = (each.0, later)

  push_request : (opens : List OpenTransfer) (one : OpenTransfer) → IsOpen one → AllByRecursion IsOpen opens → AllByRecursion IsOpen (opens ++ one ∷ [])
  push_request [] one is each = (is, tt)
  push_request (first ∷ opens) one is each = (each.0, push_request opens one is each.1)

  packet_request : (address : ℕ) (packet : Option DataPacket) (transfer : ControlTransfer) → IsAt address transfer → IsAt address (with_packet packet transfer)
  packet_request address None transfer is = is
  packet_request address (Some packet) transfer is = of (nat_le (length transfer.data + length packet.bytes) 65535) _ _ is is
    where
      of : (c : Bool) (x y : ControlTransfer) → IsAt address x → IsAt address y → IsAt address (if c then x else y)
      of true x y p q = p
      of false x y p q = q

  abbrev pub AllOpen : Pipes → Type 0
  AllOpen pipes = AllByRecursion IsOpen pipes.held

  with_request : (part : Part) (t : Transaction) (transfer : ControlTransfer) (toggle : DataToggle) (pipes : Pipes) → IsAt t.to.address transfer → AllOpen pipes
      → AllOpen (pipes_with part t transfer toggle pipes)
  with_request parts.Data t transfer toggle pipes is each = push_request pipes.held (opened t.to.address (with_packet t.data transfer)) (packet_request t.to.address t.data transfer is) each
  with_request parts.Neither t transfer toggle pipes is each = push_request pipes.held (opened t.to.address transfer) is each
  with_request (parts.Status ending) t transfer toggle pipes is each = each

  abbrev IfGiven : ℕ → Option ControlTransfer → Type 0
  IfGiven address None = Unit {0}
  IfGiven address (Some transfer) = IsAt address transfer

  part_given : (part : Part) (t : Transaction) (transfer : ControlTransfer) → IsAt t.to.address transfer → IfGiven t.to.address (over_with_part part t transfer)
  part_given (parts.Status ending) t transfer is = is
  part_given parts.Data t transfer is = tt
  part_given parts.Neither t transfer is = tt

  record Goes (t : Transaction) (pipes : Pipes) : Type 0 where
    after : AllOpen (pipes_after t pipes)
    given : IfGiven t.to.address (transfer_over t pipes)

  goes : (t : Transaction) (pipes : Pipes) → IsOf t → AllOpen pipes → Goes t pipes
  goes t pipes is each = of (request_of t) (open_with t.to.address pipes.held) refl refl
    where
      left : AllOpen (closed t.to.address pipes)
      left = without_request t.to.address pipes.held each

      so : (r : Option Setup) (o : Option ControlTransfer) → request_of t ≡ r → open_with t.to.address pipes.held ≡ o
          → AllOpen (pipes_by r o t (closed t.to.address pipes)) → IfGiven t.to.address (over_by r o t pipes) → Goes t pipes
      so r o a b after given = record {
        after = subst (λ r. AllOpen (pipes_by r (open_with t.to.address pipes.held) t (closed t.to.address pipes))) (sym a)
            (subst (λ o. AllOpen (pipes_by r o t (closed t.to.address pipes))) (sym b) after);
        given = subst (λ r. IfGiven t.to.address (over_by r (open_with t.to.address pipes.held) t pipes)) (sym a) (subst (λ o. IfGiven t.to.address (over_by r o t pipes)) (sym b) given);
      }

      of : (r : Option Setup) (o : Option ControlTransfer) → request_of t ≡ r → open_with t.to.address pipes.held ≡ o → Goes t pipes
      of (Some setup) None a b = so (Some setup) None a b (push_request (without t.to.address pipes.held) _ (is setup a, refl) left) tt
      of (Some setup) (Some transfer) a b =
          so (Some setup) (Some transfer) a b (push_request (without t.to.address pipes.held) _ (is setup a, refl) left) (found_request t.to.address pipes.held transfer each b)
      of None None a b = so None None a b left tt
      of None (Some transfer) a b =
          let one = found_request t.to.address pipes.held transfer each b in
          so None (Some transfer) a b
          (with_request (part_at t transfer (closed t.to.address pipes)) t transfer (toggle_after (part_at t transfer (closed t.to.address pipes)) t (toggle_at t.to.address (closed t.to.address pipes))) (closed t.to.address pipes) one left)
          (part_given (part_at t transfer pipes) t transfer one)

  given_first : (address : ℕ) (o : Option ControlTransfer) (later : List ControlTransfer) → IfGiven address o → AllByRecursion HasRequest later → AllByRecursion HasRequest (option_to_list o ++ later)
  given_first address None later is each = each
  given_first address (Some transfer) later is each = (is.0, each)

  all_given : (pipes : Pipes) (ts : List Transaction) → AllByRecursion IsOf ts → AllOpen pipes → AllByRecursion HasRequest (given_in pipes_after transfer_over pipes ts)
  all_given pipes [] is each = tt
  all_given pipes (t ∷ ts) is each =
      let now = goes t pipes is.0 each in
      given_first t.to.address (transfer_over t pipes) (given_in pipes_after transfer_over (pipes_after t pipes) ts) now.given (all_given (pipes_after t pipes) ts is.1 now.after)

  all_then : (pipes : Pipes) (ts : List Transaction) → AllByRecursion IsOf ts → AllOpen pipes → AllOpen (after_all pipes_after transfer_over pipes ts)
  all_then pipes [] is each = each
  all_then pipes (t ∷ ts) is each = all_then (pipes_after t pipes) ts is.1 (goes t pipes is.0 each).after

  -- A transfer that is over with a transaction is of its address.
  pub over_address : (ts : List Transaction) (t : Transaction) (transfer : ControlTransfer) → AllByRecursion IsOf ts → IsOf t → transfer_over t (pipes_in ts) ≡ Some transfer
      → transfer.device ≡ t.to.address
  over_address ts t transfer each is e =
      let given = (goes t (pipes_in ts) is (all_then none_open ts each tt)).given in
      let here : IfGiven t.to.address (Some transfer) = subst (IfGiven t.to.address) e given in here.1

  -- What holds of the request of each transaction holds of that of each transfer.
  pub all_requests : (ts : List Transaction) → AllByRecursion IsOf ts → AllByRecursion HasRequest (transfers_in ts)
  all_requests ts is = all_given none_open ts is tt
