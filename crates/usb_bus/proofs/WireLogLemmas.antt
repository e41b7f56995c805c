-- The log of a run over a bus of bytes.
use Rattle.std.proofs.Common.{◌≡◌, ◌⊎◌, Result, Ok, Err, ℕ, suc, List, [], ◌∷◌, ◌++◌, Bool, true, Option, Some, None, inl, inr, ap, sym, ◌∙◌, refl, subst}
use Rattle.std.specs.Option.{is_some}
use Rattle.std.specs.Prelude.{IfOk}
use Rattle.std.specs.Io.KnownBytes.{Appends}
use Rattle.usb_fields.specs.Bytes.{AreBytes}
use Rattle.usb_fields.specs.declared.packet.Speed.{Speed}
use Rattle.usb_text.specs.Output.{Held}
use Rattle.usb_text.specs.declared.output.OutFault.{OutFault}
use Rattle.usb_text.proofs.Pages.{appends_more, appends_nothing, keeps_refl}
use Rattle.usb_file_data.specs.File.{file_bytes}
use Rattle.usb_host.specs.Limits.{IsInRange, LimitView}
use Rattle.usb_host.specs.declared.choice.Choice.{Choice}
use Rattle.usb_fields.specs.Packets.{Reply, Sent}
use Rattle.usb_file_data.specs.declared.file.DescriptorFile.{DescriptorFile}
use Rattle.usb_host.specs.Steps.{Ended, HostPhase, Reading, ResetDue, WantsReset, WantsSent, sends, step_in, transfer_in, wanted}
use Rattle.usb_host.specs.Transfer.{TransferView, due}
use Rattle.usb_host.specs.Order.{step_of}
use Rattle.usb_host.specs.declared.step.Step.{Step}
use Rattle.usb_host.specs.declared.why.Why.{Why}
use Rattle.usb_device.specs.Accepted.{Accepted}
use Rattle.usb_device.specs.Requests.{answer}
use Rattle.usb_device.specs.Step.{DeviceView}
use Rattle.usb_device.specs.Replies.{HasRoom}
use Rattle.usb_device.proofs.Replies.{reply_has_room}
use Rattle.usb_bus.specs.declared.enumeration.Run.{Run}
use Rattle.usb_bus.specs.declared.fate.Fate.{Fate}
use Rattle.usb_bus.specs.declared.wire.change.BitChange.{BitChange}
use Rattle.usb_bus.specs.Damaged.{IsLegalSent, bits_of}
use Rattle.usb_bus.specs.Asked.{asked_of}
use Rattle.usb_bus.specs.DamagedLaws.{AnySlightDamageEndsWell, IsSlightFrom}
use Rattle.usb_bus.specs.DamagedRuns.{AreSlight, DamagedMoves, DamagedRunsAt, IsDamagedAt, IsDamagedRunFrom, counts_of}
use Rattle.usb_bus.specs.Enumerate.{IsReset, Pair, chosen_pair}
use Rattle.usb_bus.specs.Exchanges.{cause_of}
use Rattle.usb_bus.specs.Lines.{data_below, data_of, device_words, given_up_part, reset_line, tally_line}
use Rattle.usb_bus.specs.Log.{answered_part, exchange_lines, transfer_part}
use Rattle.usb_bus.specs.LogOnWire.{LoggedMoves, LoggedRuns, WritesWireLogFrom, wire_lines}
use Rattle.usb_bus.specs.PacketLines.{packets_below}
use Rattle.usb_bus.specs.Run.{fate_at, fates_used}
use Rattle.usb_bus.specs.Wire.{served_received}
use Rattle.usb_bus.specs.inside.Addresses.{AsksWithin}
use Rattle.usb_bus.specs.inside.Seeing.{AreLegal, HasSeenPackets, LeadsLogged, LogsStep, WalksLogged, done_lines}
use Rattle.usb_bus.proofs.AddressLemmas.{legal_due}
use Rattle.usb_bus.proofs.LogLemmas.{lines_joined, no_reset}

-- ---- the next transaction is legal, and so is its answer

answer_fits : (f : DescriptorFile) (speed : Speed) (d : DeviceView) (received : Option Sent) (ready : Bool) (answered : Reply) → Accepted f speed
    → answered ≡ (served_received (answer f) f.device.packet d received ready).reply → HasRoom answered
answer_fits f speed d None ready answered accepted is = subst HasRoom (sym is) tt
answer_fits f speed d (Some sent) ready answered accepted is = reply_has_room f speed d sent ready answered accepted is

legal_of : (o : Option Sent) (sent : Sent) (answered : Reply) → sends o ≡ WantsSent sent → IsLegalSent sent → HasRoom answered → AreLegal o answered
legal_of None sent answered is legal room = absurd (cc)
legal_of (Some other) sent answered is legal room = let same : sent ≡ other = cc in (subst IsLegalSent same legal, room)

-- ---- the lines of a step

module _ (brief all : Bool) (f : DescriptorFile) (fates : List Fate) (changes : List BitChange) where
  -- what was seen of a transaction, and what both ends have then, are its lines
  seen_lines : (number : ℕ) (fate : Fate) (step : Step) (t : TransferView) (answered came : Reply) (y : Pair) (lines below : List ℕ) (why : Option Why)
      → AreLegal (due t) answered → HasSeenPackets brief all number fate changes (Some step) (Some t) answered came y.host.phase [] lines below why
      → done_lines f.device.packet true lines below why y.host y.device ≡ wire_lines brief all f fates changes number fate (Some step) (Some t) answered came y
  unfolding exchange_lines
  seen_lines number fate step t answered came y lines below why legal (put, held, cause) =
      rw (put, held legal, cause)
      (lines_joined (transfer_part step t) (answered_part number fate t answered came y.host.phase) (device_words f.device.packet y.device)
      (data_below brief (data_of (due t) answered) ++ packets_below all fate (bits_of changes number) (due t) answered came)
      (given_up_part y.host.resets (cause_of t came y.host.phase)))

  lines_at : (y : Pair) (phase : HostPhase) (fate : Fate) (now : ℕ) (sent : Sent) (answered came : Reply) (lines below : List ℕ) (why : Option Why)
      → wanted phase ≡ WantsSent sent → IsLegalSent sent → HasRoom answered
      → HasSeenPackets brief all now fate changes (step_in phase) (transfer_in phase) answered came y.host.phase [] lines below why
      → done_lines f.device.packet (is_some (transfer_in phase)) lines below why y.host y.device
      ≡ wire_lines brief all f fates changes now fate (step_in phase) (transfer_in phase) answered came y
  lines_at y ResetDue fate now sent answered came lines below why wants legal room seen = absurd (cc)
  lines_at y (Ended place) fate now sent answered came lines below why wants legal room seen = absurd (cc)
  lines_at y (Reading place t k) fate now sent answered came lines below why wants legal room seen =
      seen_lines now fate (step_of place) t answered came y lines below why (legal_of (due t) sent answered wants legal room) seen

  reset_at : (y : Pair) (phase : HostPhase) (size : ℕ) (lines below : List ℕ) (why : Option Why) → wanted phase ≡ WantsReset
      → done_lines size (is_some (transfer_in phase)) lines below why y.host y.device ≡ reset_line y.host.resets
  reset_at y ResetDue size lines below why wants = refl
  reset_at y (Ended place) size lines below why wants = refl
  reset_at y (Reading place t k) size lines below why wants = absurd (no_reset (due t) wants)

  -- the same of what is known of each part
  same_seen : (number now : ℕ) (fate fate' : Fate) (step step' : Option Step) (t t' : Option TransferView) (answered came : Reply) (phase : HostPhase) (old lines below : List ℕ) (why : Option Why)
      → HasSeenPackets brief all number fate changes step t answered came phase old lines below why
      → number ≡ now → fate ≡ fate' → old ≡ [] → step ≡ step' → t ≡ t' → HasSeenPackets brief all now fate' changes step' t' answered came phase [] lines below why
  same_seen number now fate fate' step step' t t' answered came phase old lines below why seen n_is fate_is none step_is t_is =
      rw (sym n_is, sym fate_is, sym none, sym step_is, sym t_is) seen

  pub step_put : (speed : Speed) (x y : Pair) (n now number size : ℕ) (fate : Fate) (is : Bool) (step : Option Step) (transfer : Option TransferView)
      (old lines below : List ℕ) (why : Option Why) (text : List ℕ) → Accepted f speed → AsksWithin x.host
      → (IsReset x y × (now ≡ n))
      ⊎ ((t : IsDamagedAt (answer f) f.device.packet (fate_at fates n) (bits_of changes now) x y) × (now ≡ suc n)
      × HasSeenPackets brief all number fate changes step transfer t.answered t.brings.reply y.host.phase old lines below why)
      → text ≡ done_lines size is lines below why y.host y.device → is ≡ is_some (transfer_in x.host.phase) → old ≡ [] → size ≡ f.device.packet → fate ≡ fate_at fates n
      → (now ≡ suc n → number ≡ now) → step ≡ step_in x.host.phase → transfer ≡ transfer_in x.host.phase → LoggedMoves brief all f fates changes x n y now text
  step_put speed x y n now number size fate is step transfer old lines below why text accepted within (inl (r, e)) put kind none of at count is_current before =
      inl (r, e, put ∙ ap (λ c. done_lines size c lines below why y.host y.device) kind ∙ reset_at y x.host.phase size lines below why r.due)
  step_put speed x y n now number size fate is step transfer old lines below why text accepted within (inr (t, e, seen)) put kind none of at count is_current before =
      inr (
        record {
          made = t;
          shown = put ∙ ap (λ s. done_lines s is lines below why y.host y.device) of ∙ ap (λ c. done_lines f.device.packet c lines below why y.host y.device) kind
              ∙ lines_at y x.host.phase (fate_at fates n) now t.sent t.answered t.brings.reply lines below why t.due (legal_due x.host t.sent within t.due)
              (answer_fits f speed x.device _ _ t.answered accepted t.carries.rest.answers)
              (same_seen number now fate (fate_at fates n) step (step_in x.host.phase) transfer (transfer_in x.host.phase) t.answered t.brings.reply y.host.phase old lines below why seen
              (count e) at none is_current before);
        },
        e,
      )

  -- ---- a run whose steps are logged is a run

  moves_of : (x : Pair) (n : ℕ) (y : Pair) (now : ℕ) (lines : List ℕ) → LoggedMoves brief all f fates changes x n y now lines
      → DamagedMoves (answer f) f.device.packet fates changes x n y now
  moves_of x n y now lines (inl (r, e, shown)) = inl (r, e)
  moves_of x n y now lines (inr (t, e)) = inr (t.made, e)

  pub runs_of : (new : Pair) (earlier : List Pair) (n : ℕ) (last : Pair) (log : List ℕ) → LoggedRuns brief all f fates changes new earlier n last log
      → DamagedRunsAt (answer f) f.device.packet fates changes new earlier n last
  runs_of new [] n last log (at, none, empty) = (at, none)
  runs_of new (x ∷ earlier) n last log (m, before, lines, moves, runs, joined) = (m, moves_of x m last n lines moves, runs_of new earlier m x before runs)

  -- a step that was made has lines
  pub some_lines : (x : Pair) (n : ℕ) (y : Pair) (now : ℕ) → DamagedMoves (answer f) f.device.packet fates changes x n y now
      → (lines : List ℕ) × LoggedMoves brief all f fates changes x n y now lines
  some_lines x n y now (inl (r, e)) = (reset_line y.host.resets, inl (r, e, refl))
  some_lines x n y now (inr (t, e)) =
      (wire_lines brief all f fates changes now (fate_at fates n) (step_in x.host.phase) (transfer_in x.host.phase) t.answered t.brings.reply y, inr (record { made = t; shown = refl }, e))

  -- of a step that was seen, with all its lines, this is known
  pub seen_of : (P : Reply → Reply → Type 0) (Same Kept Whole : Type 0) (x : Pair) (n : ℕ) (y : Pair) (now : ℕ) → Whole
      → (IsReset x y × (now ≡ n) × Same)
      ⊎ ((t : IsDamagedAt (answer f) f.device.packet (fate_at fates n) (bits_of changes now) x y) × (now ≡ suc n) × (Kept × (Whole → P t.answered t.brings.reply)))
      → (IsReset x y × (now ≡ n)) ⊎ ((t : IsDamagedAt (answer f) f.device.packet (fate_at fates n) (bits_of changes now) x y) × (now ≡ suc n) × P t.answered t.brings.reply)
  seen_of P Same Kept Whole x n y now whole (inl (r, e, same)) = inl (r, e)
  seen_of P Same Kept Whole x n y now whole (inr (t, e, seen)) = inr (t, e, seen.1 whole)

  -- ---- a run that goes on, and one that has ended

  module _ (new : Pair) where
    pub leads_none : (last : Pair) (held : Held) → last ≡ new → LeadsLogged brief all f fates changes new 0 last held held
    leads_none last held is = record { earlier = []; log = []; runs = (is, refl, refl); written = appends_nothing held held (keeps_refl held) }

    pub leads_on : (x : Pair) (n : ℕ) (y : Pair) (now : ℕ) (held between holds : Held) → LeadsLogged brief all f fates changes new n x held between
        → LogsStep brief all f fates changes x n y between holds now → LeadsLogged brief all f fates changes new now y held holds
    leads_on x n y now held between holds l s = record {
      earlier = x ∷ l.earlier;
      log = l.log ++ s.lines;
      runs = (n, l.log, s.lines, s.moves, l.runs, refl);
      written = appends_more held between holds l.log s.lines l.written s.written;
    }

    pub log_of : (run : Run) (held between holds : Held) → WalksLogged brief all f fates changes new held between run
        → Appends between holds (tally_line (fates_used fates run.transactions)) → WritesWireLogFrom brief all f fates changes new held holds run
    log_of run held between holds w tally = record {
      log = w.lines ++ tally_line (fates_used fates run.transactions);
      of_run = record { lines = w.lines; of_run = w.of_run; text = refl };
      written = appends_more held between holds w.lines (tally_line (fates_used fates run.transactions)) w.written tally;
    }

    pub log_made : (r : Result Run OutFault) (held holds : Held) → IfOk r (WritesWireLogFrom brief all f fates changes new held holds)
        → IfOk r (IsDamagedRunFrom new f fates changes)
    log_made (Ok run) held holds w =
        let r = w.of_run.of_run in
        (r.earlier, r.last, runs_of new r.earlier run.transactions r.last w.of_run.lines r.runs, r.attempts, r.outcome, r.state)
    log_made (Err fault) held holds w = tt

-- so it ends well where each change is slight
pub log_slight : (r : Result Run OutFault) (f : DescriptorFile) (speed : Speed) (limits : LimitView) (choice : Choice) (fates : List Fate) (changes : List BitChange) → AnySlightDamageEndsWell
    → Accepted f speed → AreBytes (file_bytes f) → IsInRange limits.address limits.attempts → AreSlight changes
    → IfOk r (IsDamagedRunFrom (chosen_pair limits speed choice) f fates changes)
    → IfOk r (λ run. IsSlightFrom (chosen_pair limits speed choice) f (asked_of choice f) limits (counts_of fates changes run.transactions) run)
log_slight (Ok run) f speed limits choice fates changes law accepted fits range slight made = law f speed limits choice fates changes run accepted fits range slight made
log_slight (Err fault) f speed limits choice fates changes law accepted fits range slight made = tt
