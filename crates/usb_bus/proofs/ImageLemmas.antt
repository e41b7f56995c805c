-- A host that keeps a cursor and a decoder goes as one that keeps all replies and all bytes.
use Rattle.std.proofs.Common.{◌≡◌, ℕ, ◌+◌, ◌==◌, ◌||◌, Bool, true, false, nat_lt, if◌then◌else◌, List, [], ◌∷◌, ◌++◌, length, ◌⊎◌, inl, inr, refl, ap, sym, ◌∙◌, subst, length-append}
use Rattle.std.specs.Prelude.{Result, Option}
use Rattle.usb_fields.specs.declared.packet.Toggle.{Toggle}
use Rattle.usb_fields.specs.declared.packet.Toggle.TheVariants.{Data0, Data1}
use Rattle.usb_fields.specs.declared.setup.Direction.TheVariants as directions
use Rattle.usb_fields.specs.Packets.{is_same_toggle, Reply as Packet, AckReply, NakReply, StallReply, DataReply, NoReply}
use Rattle.usb_set.specs.declared.fault.SetFault.{SetFault}
use Rattle.usb_set.specs.declared.decoder.Progress.{Progress}
use Rattle.usb_host.specs.declared.choice.Terms.{Terms}
use Rattle.usb_host.specs.declared.step.Trouble.{Trouble}
use Rattle.usb_host.specs.declared.why.Why.{Why}
use Rattle.usb_host.specs.declared.why.Why.TheVariants.{NoAnswer, Busy, Stalled, TooLong, Unexpected, Malformed, Memory}
use Rattle.usb_host.specs.declared.transfer.TransferStage.{TransferStage}
use Rattle.usb_host.specs.declared.transfer.TransferStage.TheVariants.{Setup, DataIn, DataOut, StatusOut, StatusIn, Completed, Failed as TheFailed}
use Rattle.usb_host.specs.Transfer.{TransferView, HeardView, Goes, Brings, Completes, Fails, Taken, taken, taken_at, taken_data, taken_status, kept_packet, struck, delayed, failed, completed, data_stage}
use Rattle.usb_device.specs.Step.{DeviceView}
use Rattle.usb_host.specs.declared.reply.Reply.{Reply}
use Rattle.usb_host.specs.declared.reply.Reply.TheVariants as replied
use Rattle.usb_bus.proofs.TakenLemmas.{taken_plain}
use Rattle.usb_bus.specs.Bus.{HostEnd, receives_reply, host_after, with_received}
use Rattle.usb_host.specs.Plan.{Plan}
use Rattle.usb_bus.specs.Attempt.{no_data, Phase, Running, phase_of, reply_from, advance}
use Rattle.usb_set.specs.declared.tree.Configuration.{Configuration}
use Rattle.usb_host.specs.Limits.{LimitView}
use Rattle.usb_host.specs.Place.{Place, First, Address, Device, Header, Set, Qualifier, Languages, Text, Configure, Reported, Stopped}
use Rattle.usb_host.specs.Keeping as kept
use Rattle.usb_host.specs.Order.{asks, forgiven_by, leads, next, spared, stopped, bytes_lead, set_leads, done_leads, refused_leads}
use Rattle.usb_host.specs.Keeping.{Kept, nothing_kept, set_kept}
use Rattle.usb_host.specs.Gathered.{reached}
use Rattle.usb_host.specs.Steps.{HostPhase, Reading, Ended, Grows, KeepsReceived, LacksMemory, TakesReceived, enter, read_leads, completed_leads, goes_on, passes_over}
use Rattle.usb_host.specs.inside.Sound.{FitsPlace}
use Rattle.usb_bus.specs.inside.Image.{KeptFrom, IsInWork, IsRead, IsTransfer, IsImage, passed_over, plan_of, ReadsSets}
use Rattle.std.proofs.lemmas.List.{append-nil}
use Rattle.usb_bus.proofs.FollowLemmas.{passed_append, walk_append}
use Rattle.usb_bus.proofs.KeepLemmas.{SetLaws, feeds, same_set}
use Rattle.usb_bus.proofs.OpenLemmas.{nothing_is_open}
use Rattle.usb_host.proofs.LowerLemmas.{fits_bytes, fits_set, fits_nothing}

nothing_from : (place : Place) → KeptFrom [] (nothing_kept place)
nothing_from (Set kind f total) = (refl, nothing_is_open, refl)
nothing_from place = refl

-- a request for this many bytes from the device sends it none
in_reads : (z : Bool) → (if z then StatusIn else data_stage directions.In) ≡ DataOut → ⊥
in_reads true e = cc
in_reads false e = cc

begun_reads : (n : ℕ) → (Setup ≡ DataOut → ⊥) × ((if n == 0 then StatusIn else data_stage directions.In) ≡ DataOut → ⊥)
begun_reads n = (λ e. cc, λ e. in_reads (n == 0) e)

-- the count of bytes stays that of the bytes, and no data go to the device
abbrev Counts : List ℕ → Taken → Type 0
Counts got x = (x.transfer.kept ≡ length (with_received got x.received)) × IsRead x.transfer

if_counts : (got : List ℕ) (b : Bool) (x y : Taken) → Counts got x → Counts got y → Counts got (if b then x else y)
if_counts got true x y p q = p
if_counts got false x y p q = q

failed_counts : (got : List ℕ) (t : TransferView) (why : Why) → t.kept ≡ length got → IsRead t → Counts got (failed t why)
failed_counts got t why e r = (e, (λ x. cc, r.1))

struck_counts : (got : List ℕ) (t : TransferView) → t.kept ≡ length got → IsRead t → Counts got (struck t)
struck_counts got t e r = if_counts got (nat_lt t.strikes 2) _ _ (e, r) (failed_counts got t NoAnswer e r)

delayed_counts : (got : List ℕ) (t : TransferView) → t.kept ≡ length got → IsRead t → Counts got (delayed t)
delayed_counts got t e r = if_counts got (nat_lt t.nak_count t.naks) _ _ (e, r) (failed_counts got t Busy e r)

completed_counts : (got : List ℕ) (t : TransferView) → t.kept ≡ length got → IsRead t → Counts got (completed t)
completed_counts got t e r = (e, (λ x. cc, r.1))

data_goes_in : (b : Bool) → (if b then StatusOut else DataIn) ≡ DataOut → ⊥
data_goes_in true e = cc
data_goes_in false e = cc

kept_counts : (got : List ℕ) (t : TransferView) (bytes : List ℕ) → t.kept ≡ length got → IsRead t → Counts got (kept_packet t bytes)
kept_counts got t bytes e r = (
  ap (λ n. n + length bytes) e ∙ sym (length-append got bytes),
  (λ x. data_goes_in (nat_lt (length bytes) t.packet || (t.kept + length bytes == t.request.length)) x, r.1),
)

data_counts : (got : List ℕ) (t : TransferView) (toggle : Toggle) (bytes : List ℕ) → t.kept ≡ length got → IsRead t → Counts got (taken_data t toggle bytes)
data_counts got t toggle bytes e r =
    if_counts got (nat_lt t.packet (length bytes)) _ _ (failed_counts got t TooLong e r)
    (if_counts got (is_same_toggle toggle t.awaited) _ _
    (if_counts got (nat_lt t.request.length (t.kept + length bytes)) _ _ (failed_counts got t TooLong e r) (kept_counts got t bytes e r)) (struck_counts got t e r))

status_counts : (got : List ℕ) (t : TransferView) (toggle : Toggle) (bytes : List ℕ) → t.kept ≡ length got → IsRead t → Counts got (taken_status t toggle bytes)
status_counts got t toggle (byte ∷ bytes) e r = failed_counts got t TooLong e r
status_counts got t Data0 [] e r = struck_counts got t e r
status_counts got t Data1 [] e r = completed_counts got t e r

counts : (got : List ℕ) (t : TransferView) (stage : TransferStage) (packet : Packet) → t.stage ≡ stage → t.kept ≡ length got → IsRead t → Counts got (taken_at t stage packet)
counts got t Setup AckReply at e r = (e, (r.1, r.1))
counts got t Setup NakReply at e r = failed_counts got t Unexpected e r
counts got t Setup StallReply at e r = failed_counts got t Unexpected e r
counts got t Setup (DataReply toggle bytes) at e r = failed_counts got t Unexpected e r
counts got t Setup NoReply at e r = struck_counts got t e r
counts got t DataIn AckReply at e r = failed_counts got t Unexpected e r
counts got t DataIn NakReply at e r = delayed_counts got t e r
counts got t DataIn StallReply at e r = failed_counts got t Stalled e r
counts got t DataIn (DataReply toggle bytes) at e r = data_counts got t toggle bytes e r
counts got t DataIn NoReply at e r = struck_counts got t e r
counts got t DataOut packet at e r = absurd (r.0 at)
counts got t StatusOut AckReply at e r = completed_counts got t e r
counts got t StatusOut NakReply at e r = delayed_counts got t e r
counts got t StatusOut StallReply at e r = failed_counts got t Stalled e r
counts got t StatusOut (DataReply toggle bytes) at e r = failed_counts got t Unexpected e r
counts got t StatusOut NoReply at e r = struck_counts got t e r
counts got t StatusIn AckReply at e r = failed_counts got t Unexpected e r
counts got t StatusIn NakReply at e r = delayed_counts got t e r
counts got t StatusIn StallReply at e r = failed_counts got t Stalled e r
counts got t StatusIn (DataReply toggle bytes) at e r = status_counts got t toggle bytes e r
counts got t StatusIn NoReply at e r = struck_counts got t e r
counts got t Completed packet at e r = (e, r)
counts got t (TheFailed why) packet at e r = (e, r)

module _ (laws : SetLaws) (set_of : List ℕ → Option Configuration) (limits : LimitView) (terms : Terms) (exact : ReadsSets set_of) where
  abbrev at : List Reply → Place
  at replies = reached set_of terms First replies

  abbrev plan : List Reply → Plan
  plan replies = plan_of set_of limits terms replies

  abbrev Image : List Reply → Phase → HostPhase → Type 0
  Image replies p phase = IsImage set_of limits terms replies p phase

  -- the next read begins
  entered_by : (replies : List Reply) (place : Place) → at replies ≡ place → Image replies (phase_of limits.naks (asks limits.address place)) (enter limits place)
  entered_by replies First e = (e, tt, fits_nothing First, record { is_transfer = refl; is_read = begun_reads 8; is_count = refl; is_kept = nothing_from First })
  entered_by replies (Address first) e = (e, tt, fits_nothing (Address first), record { is_transfer = refl; is_read = (λ e. cc, λ e. cc); is_count = refl; is_kept = nothing_from (Address first) })
  entered_by replies (Device first) e = (e, tt, fits_nothing (Device first), record { is_transfer = refl; is_read = begun_reads 18; is_count = refl; is_kept = nothing_from (Device first) })
  entered_by replies (Header kind f) e = (e, tt, fits_nothing (Header kind f), record { is_transfer = refl; is_read = begun_reads 9; is_count = refl; is_kept = nothing_from (Header kind f) })
  entered_by replies (Set kind f total) e = (e, tt, fits_nothing (Set kind f total), record { is_transfer = refl; is_read = begun_reads total; is_count = refl; is_kept = nothing_from (Set kind f total) })
  entered_by replies (Qualifier f) e = (e, tt, fits_nothing (Qualifier f), record { is_transfer = refl; is_read = begun_reads 10; is_count = refl; is_kept = nothing_from (Qualifier f) })
  entered_by replies (Languages f named) e = (e, tt, fits_nothing (Languages f named), record { is_transfer = refl; is_read = begun_reads 255; is_count = refl; is_kept = nothing_from (Languages f named) })
  entered_by replies (Text f s named) e = (e, tt, fits_nothing (Text f s named), record { is_transfer = refl; is_read = begun_reads 255; is_count = refl; is_kept = nothing_from (Text f s named) })
  entered_by replies (Configure f) e = (e, tt, fits_nothing (Configure f), record { is_transfer = refl; is_read = (λ e. cc, λ e. cc); is_count = refl; is_kept = nothing_from (Configure f) })
  entered_by replies (Reported f) e = e
  entered_by replies (Stopped trouble) e = refl

  pub entered : (replies : List Reply) (place : Place) → at replies ≡ place → Image replies (phase_of limits.naks (plan replies)) (enter limits place)
  entered replies place e =
      subst (λ x. Image replies (phase_of limits.naks (asks limits.address x)) (enter limits place)) (sym e) (entered_by replies place e)

  -- a transfer that has completed leads to one place
  done_same : (place : Place) → IsInWork place → leads set_of terms place replied.Done ≡ done_leads place
  done_same (Reported f) h = absurd (h)
  done_same (Stopped trouble) h = absurd (h)
  done_same place h = refl

  refused_same : (place : Place) → IsInWork place → leads set_of terms place replied.Refused ≡ refused_leads terms place
  refused_same (Reported f) h = absurd (h)
  refused_same (Stopped trouble) h = absurd (h)
  refused_same place h = refl

  bytes_next : (place : Place) (b b' : List ℕ) → IsInWork place → FitsPlace place (kept.Bytes b) → leads set_of terms place (replied.Bytes b') ≡ bytes_lead terms place b'
  bytes_next (Reported f) b b' h fits = absurd (h)
  bytes_next (Stopped trouble) b b' h fits = absurd (h)
  bytes_next (Set kind f total) b b' h fits = absurd (fits)
  bytes_next place b b' h fits = refl

  bytes_same : (place : Place) (e : HostEnd) (t : TransferView) (k : Kept) → IsInWork place → FitsPlace place k → IsTransfer e t k →
      leads set_of terms place (replied.Bytes e.got) ≡ read_leads terms place t.kept k
  bytes_same place e t (kept.Bytes bytes) open_ fits is =
      bytes_next place bytes e.got open_ fits ∙ ap (λ b. bytes_lead terms place b) (sym is.is_kept)
  bytes_same (Set kind f total) e t (kept.Set d over) open_ fits is =
      ap (λ o. set_leads terms (Set kind f total) kind f total (length e.got) o) (same_set laws set_of exact e.got d over is.is_kept)
      ∙ ap (λ n. set_leads terms (Set kind f total) kind f total n (set_kept d over)) (sym is.is_count)
  bytes_same place e t (kept.Set d over) open_ fits is = absurd (fits)

  completed_same : (place : Place) (e : HostEnd) (t : TransferView) (k : Kept) → IsInWork place → FitsPlace place k → IsTransfer e t k →
      leads set_of terms place (reply_from 0 e) ≡ completed_leads terms place t k
  completed_same place e t k open_ fits is =
      ap (λ x. leads set_of terms place (if x.request.length == 0 then replied.Done else replied.Bytes e.got)) is.is_transfer
      ∙ by_length (t.request.length == 0)
    where
      by_length : (z : Bool) → leads set_of terms place (if z then replied.Done else replied.Bytes e.got)
          ≡ (if z then done_leads place else read_leads terms place t.kept k)
      by_length true = done_same place open_
      by_length false = bytes_same place e t k open_ fits is

  -- a reply more
  arrives : (replies : List Reply) (r : Reply) (place there : Place) → at replies ≡ place → leads set_of terms place r ≡ there →
      at (replies ++ r ∷ []) ≡ spared terms.choice.strings place there
  arrives replies r place there here to =
      walk_append set_of terms First replies r ∙ ap (λ x. next set_of terms x r) here ∙ ap (λ x. spared terms.choice.strings place x) to

  abbrev Passes : List Reply → List Trouble → Type 0
  Passes replies troubles = troubles ≡ passed_over set_of terms First replies

  passes_more : (replies : List Reply) (r : Reply) (place there : Place) (before : List Trouble) → at replies ≡ place → leads set_of terms place r ≡ there →
      Passes replies before → Passes (replies ++ r ∷ []) (before ++ forgiven_by terms.choice.strings place there)
  passes_more replies r place there before here to is =
      ap (λ ts. ts ++ forgiven_by terms.choice.strings place there) is
      ∙ ap (λ x. passed_over set_of terms First replies ++ forgiven_by terms.choice.strings place x) (sym to)
      ∙ ap (λ c. passed_over set_of terms First replies ++ forgiven_by terms.choice.strings c (leads set_of terms c r)) (sym here)
      ∙ sym (passed_append set_of terms First replies r)

  same_passed : (replies : List Reply) (before : List Trouble) → Passes replies before → Passes replies (before ++ [])
  same_passed replies before is = append-nil before ∙ is

  -- what is passed over goes with the replies
  passed : (replies : List Reply) (e : HostEnd) (stage : TransferStage) (d : DeviceView) (place : Place) (t : TransferView) (k : Kept) (before : List Trouble) →
      at replies ≡ place → IsInWork place → FitsPlace place k → IsTransfer e t k → Passes replies before →
      (let x = advance plan limits.naks no_data replies e stage d in Passes x.replies (before ++ passes_over terms place t k stage))
  passed replies e Completed d place t k before here open_ fits is p =
      passes_more replies (reply_from 0 e) place (completed_leads terms place t k) before here (completed_same place e t k open_ fits is) p
  passed replies e (TheFailed Stalled) d place t k before here open_ fits is p =
      passes_more replies replied.Refused place (refused_leads terms place) before here (refused_same place open_) p
  passed replies e (TheFailed NoAnswer) d place t k before here open_ fits is p = same_passed replies before p
  passed replies e (TheFailed Busy) d place t k before here open_ fits is p = same_passed replies before p
  passed replies e (TheFailed TooLong) d place t k before here open_ fits is p = same_passed replies before p
  passed replies e (TheFailed Unexpected) d place t k before here open_ fits is p = same_passed replies before p
  passed replies e (TheFailed Malformed) d place t k before here open_ fits is p = same_passed replies before p
  passed replies e (TheFailed Memory) d place t k before here open_ fits is p = same_passed replies before p
  passed replies e Setup d place t k before here open_ fits is p = same_passed replies before p
  passed replies e DataIn d place t k before here open_ fits is p = same_passed replies before p
  passed replies e DataOut d place t k before here open_ fits is p = same_passed replies before p
  passed replies e StatusOut d place t k before here open_ fits is p = same_passed replies before p
  passed replies e StatusIn d place t k before here open_ fits is p = same_passed replies before p

  advanced : (replies : List Reply) (e : HostEnd) (stage : TransferStage) (d : DeviceView) (place : Place) (t : TransferView) (k : Kept) →
      at replies ≡ place → IsInWork place → FitsPlace place k → IsTransfer e t k →
      (let x = advance plan limits.naks no_data replies e stage d in Image x.replies x.phase (goes_on limits terms place t k stage))
  advanced replies e Completed d place t k here open_ fits is =
      entered (replies ++ reply_from 0 e ∷ []) (spared terms.choice.strings place (completed_leads terms place t k))
      (arrives replies (reply_from 0 e) place (completed_leads terms place t k) here (completed_same place e t k open_ fits is))
  advanced replies e (TheFailed Stalled) d place t k here open_ fits is =
      entered (replies ++ replied.Refused ∷ []) (spared terms.choice.strings place (refused_leads terms place))
      (arrives replies replied.Refused place (refused_leads terms place) here (refused_same place open_))
  advanced replies e (TheFailed NoAnswer) d place t k here open_ fits is = refl
  advanced replies e (TheFailed Busy) d place t k here open_ fits is = refl
  advanced replies e (TheFailed TooLong) d place t k here open_ fits is = refl
  advanced replies e (TheFailed Unexpected) d place t k here open_ fits is = refl
  advanced replies e (TheFailed Malformed) d place t k here open_ fits is = refl
  advanced replies e (TheFailed Memory) d place t k here open_ fits is = refl
  advanced replies e Setup d place t k here open_ fits is = (here, open_, fits, is)
  advanced replies e DataIn d place t k here open_ fits is = (here, open_, fits, is)
  advanced replies e DataOut d place t k here open_ fits is = (here, open_, fits, is)
  advanced replies e StatusOut d place t k here open_ fits is = (here, open_, fits, is)
  advanced replies e StatusIn d place t k here open_ fits is = (here, open_, fits, is)

  -- what is kept goes with the bytes
  keeps : (place : Place) (got : List ℕ) (old new : Kept) (received : HeardView) (result : Result Progress SetFault) → FitsPlace place old → KeptFrom got old →
      KeepsReceived old received result new → (LacksMemory received old result → ⊥) → FitsPlace place new × KeptFrom (with_received got received) new
  keeps place got old new Goes result fits is e fine = (subst (λ w. FitsPlace place w) (sym e) fits, subst (λ w. KeptFrom got w) (sym e) is)
  keeps place got old new Completes result fits is e fine = (subst (λ w. FitsPlace place w) (sym e) fits, subst (λ w. KeptFrom got w) (sym e) is)
  keeps place got old new (Fails why) result fits is e fine = (subst (λ w. FitsPlace place w) (sym e) fits, subst (λ w. KeptFrom got w) (sym e) is)
  keeps place got (kept.Bytes bytes) (kept.Bytes new) (Brings piece) result fits is e fine =
      (fits_bytes place bytes new fits, e ∙ ap (λ b. b ++ piece) is)
  keeps place got (kept.Bytes bytes) (kept.Set new now) (Brings piece) result fits is e fine = absurd (e)
  keeps place got (kept.Set d over) (kept.Bytes new) (Brings piece) result fits is e fine = absurd (e)
  keeps place got (kept.Set d over) (kept.Set new now) (Brings piece) result fits is e fine =
      (fits_set place d new over now fits, elim (feeds laws got piece d new over now result is e.0 e.1) [ inl wants ↦ absurd (fine wants) | inr ok ↦ ok ])

  pub stays : (replies : List Reply) (h : HostEnd) (d : DeviceView) (place : Place) (t : TransferView) (k : Kept) (packet : Packet) (new : HostPhase)
      (before after : List Trouble) → Image replies (Running h) (Reading place t k) →
      TakesReceived limits terms place k (taken t packet) new before after →
      ((result : Result Progress SetFault) × (LacksMemory (taken t packet).received k result ⊎ Grows terms.choice.strings (taken t packet).received place)
      × (new ≡ Ended (stopped place Memory)))
      ⊎ (let e = receives_reply false h packet in let x = advance plan limits.naks no_data replies e e.transfer.stage d in
      Image x.replies x.phase new × (Passes replies before → Passes x.replies after))
  stays replies h d place t k packet new b a (here, open_, fits, is) (result, after, works, inl (wants, e, same)) =
      inl (result, elim wants [ inl lacks ↦ inl lacks | inr grows ↦ inr grows.0 ], e)
  stays replies h d place t k packet new b a (here, open_, fits, is) (result, after, works, inr (fine, e, adds)) =
      let by = taken t packet in
      let end : HostEnd = host_after h.got by in
      let c = counts h.got t t.stage packet refl is.is_count is.is_read in
      let w = keeps place h.got k after by.received result fits is.is_kept works fine in
      let moved : IsTransfer end by.transfer after = record { is_transfer = refl; is_read = c.1; is_count = c.0; is_kept = w.1 } in
      let image = advanced replies end by.transfer.stage d place by.transfer after here open_ w.0 moved in
      let passes : Passes replies b → Passes (advance plan limits.naks no_data replies end by.transfer.stage d).replies a = λ p.
      subst (λ ts. Passes (advance plan limits.naks no_data replies end by.transfer.stage d).replies ts) (sym adds)
      (passed replies end by.transfer.stage d place by.transfer after b here open_ w.0 moved p) in
      let same : receives_reply false h packet ≡ end =
      ap (λ x. host_after h.got x) (taken_plain h.transfer h.transfer.stage packet) ∙ ap (λ x. host_after h.got (taken x packet)) is.is_transfer in
      inr (subst (λ z. (let x = advance plan limits.naks no_data replies z z.transfer.stage d in Image x.replies x.phase new × (Passes replies b → Passes x.replies a))) (sym same)
      (subst (λ s. Image (advance plan limits.naks no_data replies end by.transfer.stage d).replies (advance plan limits.naks no_data replies end by.transfer.stage d).phase s) (sym e) image, passes))
