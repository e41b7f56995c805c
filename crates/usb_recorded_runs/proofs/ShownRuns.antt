-- The control transfers of a recorded enumeration show the device's answers.
use Rattle.std.proofs.Common.{◌≡◌, ◌⊎◌, inl, inr, ◌==◌, ◌&&◌, ◌/◌, ℕ, Bool, true, false, not, List, [], ◌∷◌, length, take, refl, sym, ◌∙◌, ap, subst, arith}
use Rattle.std.specs.Prelude.{Option, nat_lt, slice_index}
use Rattle.std.specs.List.{AllByRecursion}
use Rattle.std.proofs.Math.Seq.{take-append_seam}
use Rattle.usb_fields.specs.Bytes.{AreBytes}
use Rattle.usb_fields.specs.declared.packet.Speed.{Speed}
use Rattle.usb_file_data.specs.declared.file.DescriptorFile.{DescriptorFile}
use Rattle.usb_file_data.specs.File.{file_bytes}
use Rattle.usb_host.specs.declared.choice.Choice.{Choice}
use Rattle.usb_host.specs.Limits.{LimitView}
use Rattle.usb_device.specs.Accepted.{Accepted}
use Rattle.usb_device.specs.declared.state.State.{State}
use Rattle.usb_device.specs.Requests.{Bytes, Done, Outcome, Refused, answer}
use Rattle.usb_bus.specs.declared.fate.Fate.{Fate}
use Rattle.usb_bus.specs.Beside.{IsTable}
use Rattle.usb_bus.specs.Enumerate.{Pair, chosen_pair}
use Rattle.usb_capture.specs.declared.asked.Asked.{Asked}
use Rattle.usb_capture.specs.declared.control_transfer.ControlTransfer.{ControlTransfer}
use Rattle.usb_capture.specs.declared.ending.Ending.TheVariants as endings
use Rattle.usb_capture.specs.declared.finding.Finding.{Finding}
use Rattle.usb_capture.specs.declared.finding.Finding.TheVariants.{GivesUncounted, OtherBytes, OtherConfiguration, OtherType}
use Rattle.usb_capture.specs.BusTransfers.{transfers_in}
use Rattle.usb_capture.specs.Findings.{asked_of, brings_descriptor, differ, gives, holds, is_standard_type, is_uncounted, reads_configuration, said}
use Rattle.usb_capture.specs.Readings.{is_done, reads_descriptor}
use Rattle.usb_capture.specs.TransferFindings.{is_found}
use Rattle.usb_recorded_runs.specs.Answers.{IsOfDevice, Shows, never_found}
use Rattle.usb_recorded_runs.specs.Exchanges.{exchanges, received}
use Rattle.usb_recorded_runs.specs.Findings.{IsTransferFreeAfter}
use Rattle.usb_recorded_runs.specs.Laws.{IsRun, NoDeviceAnswersSo}
use Rattle.usb_recorded_runs.proofs.AnswerLemmas.{answered_front, described_by}
use Rattle.usb_recorded_runs.proofs.EndedLemmas.{packet_eight}
use Rattle.usb_recorded_runs.proofs.KnownRuns.{IsRight, all_small, run_right}
use Rattle.usb_recorded_runs.proofs.LengthLemmas.{short_run}
use Rattle.usb_recorded_runs.proofs.PipeLemmas.{IsOwn}
use Rattle.usb_recorded_runs.proofs.RunLemmas.{regular_plain}
use Rattle.usb_recorded_runs.proofs.SizeLemmas.{IsFront, IsSound}
use Rattle.usb_recorded_runs.proofs.TogetherLemmas.{HasEnded, IsAt, IsCarriedOut, IsWhole}
use Rattle.usb_recorded_runs.proofs.TransferLemmas.{said_front}

-- ---- a transfer that has ended

same_front : (xs ys all : List ℕ) → IsFront xs all → IsFront ys all → length xs ≡ length ys → xs ≡ ys
same_front xs ys all first second same =
    sym (take-append_seam xs first.0) ∙ ap (take (length xs)) first.1 ∙ ap (λ n. take n all) same ∙ ap (take (length ys)) (sym second.1)
    ∙ take-append_seam ys second.0

none_more : (xs : List ℕ) → length xs ≡ 0 → xs ≡ []
none_more [] e = refl
none_more (x ∷ xs) e = absurd (let w : ⊥ = omega (arith, e) in w)

module _ (f : DescriptorFile) where
  abbrev pub IsShown : ControlTransfer → Type 0
  IsShown t = (t.ending ≡ endings.Unseen) ⊎ IsOfDevice f t

  answered_so : (t : ControlTransfer) (s : State) (o : Outcome) → IsAt (answer f) t.device s → answer f s t.setup ≡ o → Shows o t → IsOfDevice f t
  answered_so t s o is e shows = record {
    requests = is.reached.0;
    address = is.address_is ∙ ap (λ u. u.address) (sym is.reached.1);
    shown = subst (λ u. Shows (answer f u t.setup) t) (sym is.reached.1) (subst (λ r. Shows r t) (sym e) shows);
  }

  -- All bytes of a descriptor came, unless some were cut off.
  whole_bytes : (t : ControlTransfer) (all : List ℕ) → IsFront all (described_by f t.setup) → IsFront t.data (described_by f t.setup)
      → t.length ≡ length all → (t.is_cut ≡ true) ⊎ (t.length ≡ length t.data) → t.is_cut ≡ false → t.data ≡ all
  whole_bytes t all answered came same (inl cut) kept = absurd (let w : true ≡ false = sym cut ∙ kept in let v : ⊥ = cc in v)
  whole_bytes t all answered came same (inr counted) kept = same_front t.data all (described_by f t.setup) came answered (sym counted ∙ same)

  shown_so : (size : ℕ) (t : ControlTransfer) → IsSound size (described_by f) t → HasEnded (answer f) t.device t → IsOwn t.device t → IsShown t
  shown_so size t sound has own = of has.end_is
    where
      done : t.ending ≡ endings.Done → IsCarriedOut (answer f) t.device t.setup t.length ⊎ IsWhole (answer f) t.device t.setup t.length → IsOfDevice f t
      done e (inl carried) =
          answered_so t carried.state (Done carried.next) carried.is_at carried.answers
          (e, carried.count_is, none_more t.data (omega (arith, own.few, carried.count_is)))
      done e (inr whole) =
          answered_so t whole.state (Bytes whole.all) whole.is_at whole.answers (
            e,
            whole.count_is,
            λ kept.
                whole_bytes t whole.all (answered_front f whole.state t.setup whole.all whole.answers whole.reads)
                (sound.front whole.reads (ap is_done e) (ap not kept)) whole.count_is own.all kept,
          )

      of : (t.ending ≡ endings.Unseen) ⊎ ((t.ending ≡ endings.Stall) ⊎ (t.ending ≡ endings.Done)) → IsShown t
      of (inl unseen) = inl unseen
      of (inr (inl stall)) = let r = has.refused stall in inr (answered_so t r.state Refused r.is_at r.answers (stall, r.count_is))
      of (inr (inr e)) = inr (done e (has.whole e))

  all_shown : (size : ℕ) (ts : List ControlTransfer) → AllByRecursion (IsSound size (described_by f)) ts
      → AllByRecursion (λ t. HasEnded (answer f) t.device t) ts → AllByRecursion (λ t. IsOwn t.device t) ts → AllByRecursion IsShown ts
  all_shown size [] sound ended own = tt
  all_shown size (t ∷ ts) sound ended own = (shown_so size t sound.0 ended.0 own.0, all_shown size ts sound.1 ended.1 own.1)

-- ---- what is found in it

second_false : (a b c d : Bool) → (a && false && b && c && d) ≡ false
second_false false b c d = refl
second_false true b c d = refl

third_false : (a b : Bool) → (a && b && false) ≡ false
third_false false b = refl
third_false true false = refl
third_false true true = refl

-- Nothing is found in a transfer whose end wasn't seen.
unseen_free : (known : Asked → List ℕ) (t : ControlTransfer) → t.ending ≡ endings.Unseen → AllByRecursion (λ finding. holds finding known t ≡ false) never_found
unseen_free known t unseen =
    let u = record t { ending = endings.Unseen } in
    let same : t ≡ u = (λ i. record t { ending = unseen i }) in
    let brings : brings_descriptor u ≡ false =
    second_false (reads_descriptor t.setup) (not t.is_cut) (is_standard_type (t.setup.value / 256)) (nat_lt 1 (length t.data)) in
    let none : gives u ≡ false =
    second_false (reads_descriptor t.setup) (not t.is_cut) (nat_lt 1 (length t.data)) (slice_index t.data 1 == t.setup.value / 256) in
    let other_type : holds OtherType known u ≡ false = ap (λ b. b && not (slice_index t.data 1 == t.setup.value / 256)) brings in
    let other_bytes : holds OtherBytes known u ≡ false = ap (λ b. b && differ t.data (known (asked_of t))) none in
    let other_value : holds OtherConfiguration known u ≡ false = third_false (reads_configuration t.setup) (nat_lt 0 t.device) in
    let uncounted : holds GivesUncounted known u ≡ false = ap (λ b. b && is_uncounted known (asked_of t)) none in
    subst (λ v. AllByRecursion (λ finding. holds finding known v ≡ false) never_found) (sym same)
    (refl, (other_type, (other_bytes, (refl, (refl, (refl, (refl, (other_value, (uncounted, tt)))))))))

module _ (law : NoDeviceAnswersSo) (f : DescriptorFile) (speed : Speed) (accepted : Accepted f speed) (bytes : AreBytes (file_bytes f)) (size : ℕ) where
  shown_free : (t : ControlTransfer) (earlier : List ControlTransfer) → IsShown f t → AllByRecursion (IsSound size (described_by f)) earlier
      → AllByRecursion (λ finding. holds finding (λ asked. said asked earlier) t ≡ false) never_found
  shown_free t earlier (inl unseen) before = unseen_free (λ asked. said asked earlier) t unseen
  shown_free t earlier (inr is) before =
      law f speed is.requests (λ asked. said asked earlier) t accepted bytes
      (record { address = is.address; shown = is.shown; said = λ asked bus device. said_front size f asked earlier before })

  abbrev Free : List Finding → Type 0
  Free findings =
      (t : ControlTransfer) (earlier : List ControlTransfer) → IsShown f t → AllByRecursion (IsSound size (described_by f)) earlier
      → AllByRecursion (λ finding. is_found finding earlier t ≡ false) findings

  free_after : (finding : Finding) (more : List Finding) → Free (finding ∷ more) → (earlier ts : List ControlTransfer)
      → AllByRecursion (IsSound size (described_by f)) earlier → AllByRecursion (IsSound size (described_by f)) ts → AllByRecursion (IsShown f) ts
      → IsTransferFreeAfter finding earlier ts
  free_after finding more free earlier [] before sound shown = tt
  free_after finding more free earlier (t ∷ ts) before sound shown =
      ((free t earlier shown.0 before).0, free_after finding more free (t ∷ earlier) ts (sound.0, before) sound.1 shown.1)

  all_free : (findings : List Finding) → Free findings → (ts : List ControlTransfer) → AllByRecursion (IsSound size (described_by f)) ts
      → AllByRecursion (IsShown f) ts → AllByRecursion (λ finding. IsTransferFreeAfter finding [] ts) findings
  all_free [] free ts sound shown = tt
  all_free (finding ∷ more) free ts sound shown =
      (free_after finding more free [] ts tt sound shown, all_free more (λ t earlier is before. (free t earlier is before).1) ts sound shown)

  pub none_found : (ts : List ControlTransfer) → AllByRecursion (IsSound size (described_by f)) ts → AllByRecursion (IsShown f) ts
      → AllByRecursion (λ finding. IsTransferFreeAfter finding [] ts) never_found
  none_found ts sound shown = all_free never_found shown_free ts sound shown

-- ---- an enumeration

module _ (f : DescriptorFile) (speed : Speed) (fates : List Fate) (limits : LimitView) (choice : Choice) (earlier : List Pair) (n : ℕ)
    (last : Pair) (times : ℕ → Option ℕ) (is_table : IsTable (answer f)) (accepted : Accepted f speed)
    (run : IsRun f fates (chosen_pair limits speed choice) earlier n last) where
  abbrev transfers : List ControlTransfer
  transfers = transfers_in (received times 1 (exchanges f fates earlier n))

  right : IsRight f is_table fates times (received times 1 (exchanges f fates earlier n)) last
  right = run_right f is_table fates times (chosen_pair limits speed choice) earlier n last refl refl run.0
      (all_small (exchanges f fates earlier n) (regular_plain f fates (chosen_pair limits speed choice) earlier n last run.0 run.1))
      (short_run f fates (chosen_pair limits speed choice) earlier n last run.0)

  pub transfers_shown : AllByRecursion (IsShown f) transfers
  transfers_shown = all_shown f f.device.packet transfers right.transfers (right.ended (packet_eight f accepted.rules)) right.own

  pub none_contradicts : NoDeviceAnswersSo → AreBytes (file_bytes f) → AllByRecursion (λ finding. IsTransferFreeAfter finding [] transfers) never_found
  none_contradicts law bytes = none_found law f speed accepted bytes f.device.packet transfers right.transfers transfers_shown
