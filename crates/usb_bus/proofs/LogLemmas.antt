-- A run that goes on, and its log.
use Rattle.std.proofs.Common.{◌≡◌, ℕ, suc, ◌-◌, List, [], ◌∷◌, ◌++◌, Option, Some, None, inl, inr, ap, sym, ◌∙◌, refl, arith, subst, append_assoc}
use Rattle.std.specs.Io.KnownBytes.{Appends, Keeps}
use Rattle.usb_file_data.specs.declared.file.DescriptorFile.{DescriptorFile}
use Rattle.usb_text.specs.Output.{Held}
use Rattle.usb_text.proofs.Pages.{appends_more, appends_nothing, keeps_refl}
use Rattle.std.specs.Option.{is_some}
use Rattle.std.specs.Prelude.{◌⊎◌, Bool, eqb, not, true}
use Rattle.usb_fields.specs.Packets.{Reply, Sent}
use Rattle.usb_host.specs.Transfer.{TransferView, due}
use Rattle.usb_host.specs.declared.step.Step.{Step}
use Rattle.usb_host.specs.Order.{step_of}
use Rattle.usb_host.specs.declared.why.Why.{Why}
use Rattle.usb_device.specs.Step.{DeviceView}
use Rattle.usb_bus.specs.Run.{fate_at, fates_used}
use Rattle.usb_bus.specs.declared.fate.Fate.{Fate}
use Rattle.usb_host.specs.Steps.{Ended, HostPhase, Reading, ResetDue, WantsReset, WantsSent, sends, step_in, transfer_in, wanted}
use Rattle.usb_bus.specs.Enumerate.{Pair, Moves, answered}
use Rattle.usb_bus.specs.Exchanges.{answered_in, cause_of}
use Rattle.usb_bus.specs.Lines.{data_below, data_of, device_words, given_up_part, tally_line}
use Rattle.usb_bus.specs.Bus.{brought, carried}
use Rattle.usb_bus.specs.declared.fate.Fate.TheVariants as fates
use Rattle.usb_device.specs.Requests.{answer}
use Rattle.usb_bus.specs.inside.Seeing.{HasSeen, done_lines}
use Rattle.usb_bus.specs.Log.{CutsOff, IsLogFrom, WritesLogFrom, WritesLogLessFrom, answered_part, count_before, exchange_lines, lines_with, log_text, step_lines, transfer_part}
use Rattle.usb_bus.proofs.EnumerateLemmas.{runs_on}
use Rattle.usb_bus.specs.inside.Running.{AllWork, StepWork, Breaks, Leads, Walks}
use Rattle.usb_bus.specs.declared.enumeration.Run.{Run}
use Rattle.usb_text.specs.declared.output.OutFault.{OutFault}

-- a log is brief, by the constant of its type
abbrev pub is_brief : ℕ → Bool
is_brief n = not (eqb n 0)

-- a transfer wants no reset
pub no_reset : (o : Option Sent) → sends o ≡ WantsReset → ⊥
no_reset None e = absurd (cc)
no_reset (Some sent) e = absurd (cc)

pub lines_joined : (before part device below last : List ℕ) → before ++ part ++ device ++ below ++ last ≡ before ++ (part ++ device ++ below ++ last)
lines_joined before part device below last =
    ap (λ l. l ++ below ++ last) (append_assoc before part device)
    ∙ ap (λ l. l ++ last) (append_assoc before (part ++ device) below)
    ∙ append_assoc before (part ++ device ++ below) last

-- what was seen of a transaction, and what both ends have then, are its lines
seen_lines : (brief : Bool) (size number : ℕ) (fate : Fate) (step : Step) (t : TransferView) (answer : Reply) (y : Pair) (lines packet : List ℕ) (why : Option Why)
    → HasSeen brief number fate (Some step) (Some t) answer (brought fate answer) y.host.phase [] lines packet why
    → done_lines size true lines packet why y.host y.device ≡ lines_with brief size number fate (Some step) (Some t) answer y
unfolding exchange_lines
seen_lines brief size number fate step t answer y lines packet why (put, held, cause) =
    rw (put, held, cause)
    (lines_joined (transfer_part step t) (answered_part number fate t answer (brought fate answer) y.host.phase) (device_words size y.device)
    (data_below brief (data_of (due t) answer)) (given_up_part y.host.resets (cause_of t (brought fate answer) y.host.phase)))

-- The lines of a step are those with the answer that was seen.
lines_at : (brief : Bool) (f : DescriptorFile) (fates : List Fate) (d : DeviceView) (y : Pair) (phase : HostPhase) (n now : ℕ) (lines packet : List ℕ) (why : Option Why)
    → (wanted phase ≡ WantsReset)
    ⊎ ((sent : Sent) × (wanted phase ≡ WantsSent sent) × (now ≡ suc n)
    × HasSeen brief now (fate_at fates n) (step_in phase) (transfer_in phase) (answered f d sent (fate_at fates n)) (brought (fate_at fates n) (answered f d sent (fate_at fates n))) y.host.phase [] lines packet why)
    → done_lines f.device.packet (is_some (transfer_in phase)) lines packet why y.host y.device
    ≡ lines_with brief f.device.packet now (fate_at fates (now - 1)) (step_in phase) (transfer_in phase) (answered_in f d (wanted phase) (fate_at fates (now - 1))) y
lines_at brief f fates d y ResetDue n now lines packet why by = refl
lines_at brief f fates d y (Ended place) n now lines packet why by = refl
lines_at brief f fates d y (Reading place t k) n now lines packet why (inl reset) = absurd (no_reset (due t) reset)
lines_at brief f fates d y (Reading place t k) n now lines packet why (inr (sent, wants, number, seen)) =
    let before : now - 1 ≡ n = omega arith in
    let same : answered_in f d (wanted (Reading place t k)) (fate_at fates (now - 1)) ≡ answered f d sent (fate_at fates n) = rw (before, wants) refl in
    let at : fate_at fates (now - 1) ≡ fate_at fates n = ap (fate_at fates) before in
    seen_lines brief f.device.packet now (fate_at fates n) (step_of place) t (answered f d sent (fate_at fates n)) y lines packet why seen
    ∙ ap (λ a. lines_with brief f.device.packet now (fate_at fates n) (Some (step_of place)) (Some t) a y) (sym same)
    ∙ ap (λ fate. lines_with brief f.device.packet now fate (Some (step_of place)) (Some t) (answered_in f d (wanted (Reading place t k)) (fate_at fates (now - 1))) y) (sym at)

-- what comes back of a transaction is what its fate leaves of the answer
came_is : (f : DescriptorFile) (d : DeviceView) (sent : Sent) (fate : Fate) → (carried (answer f) f.device.packet d sent fate).reply ≡ brought fate (answered f d sent fate)
came_is f d sent fates.Pass = refl
came_is f d sent fates.Busy = refl
came_is f d sent fates.LostDown = refl
came_is f d sent fates.LostUp = refl
came_is f d sent fates.LostAck = refl

-- by what is known of each part of it
pub step_put : (brief : Bool) (f : DescriptorFile) (fates : List Fate) (x y : Pair) (n now number size : ℕ) (fate : Fate) (is : Bool) (step : Option Step) (transfer : Option TransferView)
    (old lines packet : List ℕ) (why : Option Why) (text : List ℕ) → Moves f fates x n y now
    → ((sent : Sent) → wanted x.host.phase ≡ WantsSent sent
    → HasSeen brief number fate step transfer (answered f x.device sent (fate_at fates n)) (carried (answer f) f.device.packet x.device sent (fate_at fates n)).reply y.host.phase old lines packet why)
    → text ≡ done_lines size is lines packet why y.host y.device → is ≡ is_some (transfer_in x.host.phase) → old ≡ [] → size ≡ f.device.packet → fate ≡ fate_at fates n
    → (now ≡ suc n → number ≡ now) → step ≡ step_in x.host.phase → transfer ≡ transfer_in x.host.phase → text ≡ step_lines brief f fates now x y
step_put brief f fates x y n now number size fate is step transfer old lines packet why text (inl (r, e)) seen put kind none of at count is_current before =
    put ∙ rw (of, kind) (lines_at brief f fates x.device y x.host.phase n now lines packet why (inl r.due))
step_put brief f fates x y n now number size fate is step transfer old lines packet why text (inr (t, e)) seen put kind none of at count is_current before =
    let was = seen t.sent t.due in
    let counted = count e in
    put ∙ rw (of, kind) (lines_at brief f fates x.device y x.host.phase n now lines packet why
    (inr (
      t.sent,
      t.due,
      e,
      rw (sym counted, sym at, sym none, sym is_current, sym before)
          (subst (λ u. HasSeen brief number fate step transfer (answered f x.device t.sent u) (brought u (answered f x.device t.sent u)) y.host.phase old lines packet why) (sym at)
          (subst (λ came. HasSeen brief number fate step transfer (answered f x.device t.sent (fate_at fates n)) came y.host.phase old lines packet why) (came_is f x.device t.sent (fate_at fates n)) was)),
    )))

-- the count before a step
before_is : (f : DescriptorFile) (fates : List Fate) (x y : Pair) (n now : ℕ) → Moves f fates x n y now → count_before (wanted x.host.phase) now ≡ n
before_is f fates x y n now (inl (r, e)) = rw r.due e
before_is f fates x y n now (inr (t, e)) = rw t.due (omega arith)

-- a run that goes on, and what is done at each step
module _ {W : Type 0} (f : DescriptorFile) (new : Pair) (fates : List Fate) (does : StepWork W) where
  pub leads_none : (last : Pair) (w : W) → last ≡ new → Leads f new fates does 0 last w w
  leads_none last w is = record { earlier = []; runs = (is, refl); work = refl }

  pub leads_on : (x y : Pair) (n now : ℕ) (from mid to : W)
      → Leads f new fates does n x from mid → Moves f fates x n y now → does x y now mid to → Leads f new fates does now y from to
  leads_on x y n now from mid to l moves did = record {
    earlier = x ∷ l.earlier;
    runs = runs_on f fates new l.earlier x y n now l.runs moves;
    work = (mid, subst (λ m. AllWork does l.earlier m x from mid) (sym (before_is f fates x y n now moves)) l.work, did);
  }

-- the lines of all steps are the log
pub log_written : {W : Type 0} (brief : Bool) (contents : W → Held) (f : DescriptorFile) (fates : List Fate) (earlier : List Pair) (n : ℕ) (last : Pair) (from to : W)
    → AllWork (λ x y m a b. Appends (contents a) (contents b) (step_lines brief f fates m x y)) earlier n last from to
    → Appends (contents from) (contents to) (log_text brief f fates earlier n last)
unfolding log_text
log_written brief contents f fates [] n last from to same =
    appends_nothing (contents from) (contents to) (subst (λ w. Keeps (contents from) (contents w)) (sym same) (keeps_refl (contents from)))
log_written brief contents f fates (x ∷ earlier) n last from to (mid, before, step) =
    appends_more (contents from) (contents mid) (contents to) _ _
    (log_written brief contents f fates earlier (count_before (wanted x.host.phase) n) x from mid before) step

-- of a run that ended, and of one that was broken
module _ {W : Type 0} (brief : Bool) (contents : W → Held) (f : DescriptorFile) (new : Pair) (fates : List Fate) (from to : W) where
  abbrev writes : StepWork W
  writes x y n a b = Appends (contents a) (contents b) (step_lines brief f fates n x y)

  abbrev cuts : OutFault → StepWork W
  cuts fault x y n a b = CutsOff fault (contents a) (contents b) (step_lines brief f fates n x y)

  -- the log of a run that has ended
  abbrev ended : (run : Run) (w : Walks f new fates writes from to run)
      → IsLogFrom new brief f fates run (log_text brief f fates w.leads.earlier run.transactions w.last ++ tally_line (fates_used fates run.transactions))
  ended run w = record {
    earlier = w.leads.earlier;
    last = w.last;
    runs = w.leads.runs;
    attempts = w.attempts;
    outcome = w.outcome;
    state = w.state;
    text = refl;
  }

  pub log_of : (run : Run) (holds : Held) → Walks f new fates writes from to run
      → Appends (contents to) holds (tally_line (fates_used fates run.transactions)) → WritesLogFrom new brief f fates (contents from) holds run
  log_of run holds w last = record {
    log = log_text brief f fates w.leads.earlier run.transactions w.last ++ tally_line (fates_used fates run.transactions);
    of_run = ended run w;
    written = appends_more (contents from) (contents to) holds _ _ (log_written brief contents f fates w.leads.earlier run.transactions w.last from to w.leads.work) last;
  }

  pub log_unended : (fault : OutFault) (run : Run) (holds : Held) → Walks f new fates writes from to run
      → CutsOff fault (contents to) holds (tally_line (fates_used fates run.transactions)) → WritesLogLessFrom new brief f fates (contents from) holds fault
  log_unended fault run holds w cut = inr (record {
    run = run;
    log = log_text brief f fates w.leads.earlier run.transactions w.last ++ tally_line (fates_used fates run.transactions);
    of_run = ended run w;
    between = contents to;
    logged = log_written brief contents f fates w.leads.earlier run.transactions w.last from to w.leads.work;
    written = cut;
  })

  pub log_less : (fault : OutFault) → Breaks f new fates writes (cuts fault) from to → WritesLogLessFrom new brief f fates (contents from) (contents to) fault
  log_less fault b = inl (record {
    earlier = b.leads.earlier;
    before = b.before;
    transactions = b.transactions;
    runs = b.leads.runs;
    last = b.last;
    now = b.now;
    moves = b.moves;
    between = contents b.mid;
    logged = log_written brief contents f fates b.leads.earlier b.transactions b.before from b.mid b.leads.work;
    written = b.broken;
  })
