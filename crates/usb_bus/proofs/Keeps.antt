-- Each transaction keeps both ends in one transfer.
use Rattle.std.proofs.Common.{◌≡◌, ℕ, suc, ◌+◌, ◌-◌, ◌*◌, ◌<◌, ◌≤◌, ◌⊎◌, Bool, false, List, [], ◌∷◌, ◌++◌, length, take, drop, refl, ap, sym, ◌∙◌, arith, inl, inr, subst, length-append, zero-add, add-zero, add_assoc}
use Rattle.std.proofs.lemmas.Bool.Decides.{nat_tests}
use Rattle.usb_fields.specs.declared.packet.Toggle.{Toggle}
use Rattle.usb_fields.specs.declared.setup.Setup.{Setup as SetupPacket}
use Rattle.std.specs.Prelude.{Option, Some, None}
use Rattle.usb_fields.specs.Packets.{Sent, flipped, packets, joined, toggle_of}
use Rattle.usb_host.specs.Transfer.{due_of}
use Rattle.usb_device.specs.Beside.{brings_bytes}
use Rattle.usb_host.specs.declared.transfer.TransferStage.{TransferStage}
use Rattle.usb_host.specs.declared.transfer.TransferStage.TheVariants.{Setup, DataIn, DataOut, StatusOut, StatusIn, Completed, Failed}
use Rattle.usb_device.specs.declared.state.State.{State}
use Rattle.usb_device.specs.Requests.{Outcome, Bytes, Takes}
use Rattle.usb_device.specs.Step.{DeviceStage, Sending, DeviceView}
use Rattle.usb_device.specs.Step as device
use Rattle.usb_bus.specs.declared.fate.Fate.{Fate}
use Rattle.usb_bus.specs.Bus.{lost, busy, ack_lost, losses, busies, acks_lost, has_data, Ends, carried, exchanged, step_of, run_of}
use Rattle.usb_bus.specs.Attempt.{begins, TransferEnds}
use Rattle.usb_bus.specs.Together.{Stages, AreInStages, HasCounted, IsWriting, InOneTransfer}
use Rattle.usb_bus.specs.inside.Sound.{IsCut}
use Rattle.usb_bus.specs.Laws.{TransfersStayTogether}
use Rattle.usb_bus.specs.Beside.{IsAnswering, SizesAlike}
use Rattle.usb_bus.proofs.Cutting.{alike_cut}
use Rattle.usb_bus.proofs.Fronts.{drop_suc, front_more, is_within, is_last, none_left, cut_due, cut_joins}
use Rattle.usb_bus.proofs.OtherStages.{After, Goes, Here, Progress, asks, data_in_halted, data_out_accepted, data_out_halted, data_out_written, status_in, status_in_halted, status_in_written, status_out}
use Rattle.usb_bus.proofs.DataStage.{Step, all_joins, reads, last, inner, behind}
use Rattle.usb_bus.proofs.CountLemmas.{counts_on}
use Rattle.usb_bus.proofs.WriteParts.{written}
use Rattle.usb_fields.proofs.KeptLemmas.{same-itself, same-flipped}

module _ (answer : State → SetupPacket → Outcome) (cut : ℕ) (s : State) (q : SetupPacket) (size naks : ℕ) (data_out : List ℕ) where
  module _ (bytes : List ℕ) (e : answer s q ≡ Bytes bytes) (c : IsCut cut size q.length bytes) (fate : Fate) (m : Progress) (k : ℕ) where
    abbrev all : List (List ℕ)
    all = packets bytes cut q.length

    abbrev ReadsOn : Toggle → Type 0
    ReadsOn awaited = Step answer cut s q size naks data_out bytes e m k fate awaited

    -- the host has kept as many packets as the device counts acknowledged
    level : (left : List (List ℕ)) → m.strikes ≤ m.l → m.got ≡ joined (take k all) → k < length all → drop k all ≡ left → ReadsOn (toggle_of k)
    level [] o brought more at = absurd (none_left k all at more)
    level (p ∷ []) o brought more at =
        last answer cut s q size naks data_out bytes e m k p fate o at (drop_suc k all p [] at) (is_last k all p at)
        (cut_due cut size q.length bytes c k m.got (p ∷ []) brought more at) (reads answer cut s q size naks data_out bytes e k k m.got (inl refl) brought more)
        (length-append m.got p) (all_joins m.got p bytes (cut_joins cut size q.length bytes c k m.got (p ∷ []) brought at)) (same-itself (toggle_of k))
    level (p ∷ (second ∷ rest)) o brought more at =
        let after = drop_suc k all p (second ∷ rest) at in
        let longer : m.got ++ p ≡ joined (take (suc k) all) = ap (λ x. x ++ p) brought ∙ sym (front_more k all p (second ∷ rest) at) in
        let within = is_within (suc k) all second rest after in
        inner answer cut s q size naks data_out bytes e m k p second rest at after fate o
        (cut_due cut size q.length bytes c k m.got (p ∷ (second ∷ rest)) brought more at) (reads answer cut s q size naks data_out bytes e k k m.got (inl refl) brought more)
        (reads answer cut s q size naks data_out bytes e (suc k) (suc k) (m.got ++ p) (inl refl) longer within)
        (reads answer cut s q size naks data_out bytes e k (suc k) (m.got ++ p) (inr refl) longer within)
        (length-append m.got p) (same-itself (toggle_of k))

    -- or one more
    one_more : (left : List (List ℕ)) → m.strikes + 1 ≤ m.l → m.got ≡ joined (take (suc k) all) → suc k < length all → drop k all ≡ left → ReadsOn (flipped (toggle_of k))
    one_more [] o brought more at = absurd (none_left k all at (omega arith))
    one_more (p ∷ []) o brought more at = absurd (let count = is_last k all p at in omega arith)
    one_more (p ∷ (second ∷ rest)) o brought more at =
        let due = cut_due cut size q.length bytes c k (joined (take k all)) (p ∷ (second ∷ rest)) refl (omega arith) at in
        behind answer cut s q size naks data_out bytes e m k p second rest at (drop_suc k all p (second ∷ rest) at) fate o (let whole = due.0 in omega arith)
        (reads answer cut s q size naks data_out bytes e k (suc k) m.got (inr refl) brought more)
        (reads answer cut s q size naks data_out bytes e (suc k) (suc k) m.got (inl refl) brought more) (same-flipped (toggle_of k))

    sending : (kept : ℕ) (awaited : Toggle) → (kept ≡ k) ⊎ (kept ≡ suc k) → m.strikes + (kept - k) ≤ m.l → m.got ≡ joined (take kept all) → awaited ≡ toggle_of kept →
        kept < length all → ReadsOn awaited
    sending kept awaited (inl same) o brought awaits more =
        subst ReadsOn (sym (awaits ∙ ap toggle_of same)) (level (drop k all) (omega arith) (brought ∙ ap (λ n. joined (take n all)) same) (omega arith) refl)
    sending kept awaited (inr same) o brought awaits more =
        subst ReadsOn (sym (awaits ∙ ap toggle_of same)) (one_more (drop k all) (omega arith) (brought ∙ ap (λ n. joined (take n all)) same) (omega arith) refl)

  module _ (w : IsAnswering answer s q) (c : (bytes : List ℕ) → answer s q ≡ Bytes bytes → IsCut cut size q.length bytes)
      (sizes : (judge : List ℕ → Bool) → answer s q ≡ Takes judge → SizesAlike cut size) (fate : Fate) (m : Progress) where
    abbrev Moves : State → TransferStage → DeviceStage → Progress → Type 0
    Moves d stage at m = Goes answer cut s q size naks data_out fate d stage at m

    -- the data stage of a write, of a device that awaits the packets that the host cuts
    receiving : (asked : SetupPacket) (came : List ℕ) (d : State) (h : IsWriting answer cut s q size naks data_out m.l asked came m.awaited m.count m.strikes d) →
        Moves s DataOut (device.Receiving q came) m
    receiving asked came d h =
        let alike = sizes h.judge h.answered in
        subst (λ x. Moves s DataOut (device.Receiving q came) (record m { awaited = x })) (sym h.next_is)
        (subst (λ x. Moves s DataOut (device.Receiving q came) (record m { awaited = toggle_of h.acknowledged; count = x })) (sym h.count_is)
        (subst (λ x. Goes answer x s q size naks data_out fate s DataOut (device.Receiving q came) (record m { awaited = toggle_of h.acknowledged; count = h.acknowledged * size })) (sym alike.1)
        (written answer s q size naks data_out h.judge h.answered alike.0 fate m h.acknowledged came h.owed h.kept h.counted h.came_is h.whole h.more)))

    by_stage : (stage : TransferStage) (at : DeviceStage) (d : State) → Here answer cut s q size naks data_out d stage at m → Moves d stage at m
    by_stage Setup at d h =
        subst (λ x. Moves x Setup at m) (sym h.0)
        (subst (λ x. Moves s Setup at (record m { got = x })) (sym h.1)
        (subst (λ x. Moves s Setup at (record m { got = []; count = x })) (sym h.2)
        (subst (λ x. Moves s Setup at (record m { got = []; count = 0; awaited = x })) (sym h.3)
        (asks answer cut s q size naks data_out w c at m h.4 fate))))
    by_stage DataIn (device.Halted refused) d h = data_in_halted answer cut s q size naks data_out fate d m refused h
    by_stage DataIn (device.Sending asked bytes k) d h =
        subst (λ x. Moves x DataIn (Sending asked bytes k) m) (sym h.same_state)
        (subst (λ x. Moves s DataIn (Sending x bytes k) m) (sym h.asked_is)
        (subst (λ x. Moves s DataIn (Sending q bytes k) (record m { count = x })) (sym h.count_is)
        (sending bytes h.answered (c bytes h.answered) fate m k h.kept m.awaited h.counted h.owed h.brought h.awaits h.more)))
    by_stage DataIn _ d h = absurd h
    by_stage DataOut (device.Halted refused) d h = data_out_halted answer cut s q size naks data_out fate d m refused h
    by_stage DataOut (device.Receiving asked came) d h =
        subst (λ x. Moves x DataOut (device.Receiving asked came) m) (sym h.same_state)
        (subst (λ x. Moves s DataOut (device.Receiving x came) m) (sym h.asked_is) (receiving asked came d h))
    by_stage DataOut (device.StatusIn asked carried) d h = data_out_accepted answer cut s q size naks data_out fate d m w asked carried h
    by_stage DataOut (device.Written asked came) d h = data_out_written answer cut s q size naks data_out fate d m asked came h
    by_stage DataOut _ d h = absurd h
    by_stage StatusOut at d h = status_out answer cut s q size naks data_out fate d m at h
    by_stage StatusIn (device.Halted refused) d h = status_in_halted answer cut s q size naks data_out fate d m refused h
    by_stage StatusIn (device.StatusIn asked carried) d h = status_in answer cut s q size naks data_out fate d m w asked carried h
    by_stage StatusIn (device.Written asked came) d h = status_in_written answer cut s q size naks data_out fate d m asked came h
    by_stage StatusIn _ d h = absurd h
    by_stage Completed at d h = grind (arith, nat_tests)
    by_stage (Failed why) at d h = grind (arith, nat_tests)

  module _ (w : IsAnswering answer s q) (c : (bytes : List ℕ) → answer s q ≡ Bytes bytes → IsCut cut size q.length bytes)
      (sizes : (judge : List ℕ → Bool) → answer s q ≡ Takes judge → SizesAlike cut size) where
    -- one transaction, whatever its fate, keeps both ends in its stages
    pub stands : (l b a : ℕ) (fate : Fate) (e : Ends) → AreInStages answer cut s q size naks data_out l b a e.host e.device →
        AreInStages answer cut s q size naks data_out (l + lost fate) (b + busy fate) (a + ack_lost fate)
        (step_of answer cut data_out fate e).host (step_of answer cut data_out fate e).device
    stands l b a fate e is =
        let t = e.host.transfer in
        let m : Progress = record {
          l = l;
          b = b;
          a = a;
          awaited = t.awaited;
          got = e.host.got;
          count = t.kept;
          strikes = t.strikes;
          nak_count = t.nak_count;
          pending = e.device.pending;
          naks_owed = is.nak_count;
        } in
        let Then : ℕ → SetupPacket → ℕ → ℕ → Type 0 = λ address asked packet limit.
        After answer cut s q size naks data_out fate m (step_of answer cut data_out fate (record {
          host = record { transfer = record t { address = address; request = asked; packet = packet; naks = limit }; got = e.host.got };
          device = e.device;
        })) in
        subst (λ x. Then x t.request t.packet t.naks) (sym is.address)
        (subst (λ x. Then s.address x t.packet t.naks) (sym is.request)
        (subst (λ x. Then s.address q x t.naks) (sym is.packet)
        (subst (λ x. Then s.address q size x) (sym is.naks_are)
        (by_stage w c sizes fate m t.stage e.device.stage e.device.state is.stages))))

    -- and the host's count
    counts : (fate : Fate) (e : Ends) (o : Option Sent) → brings_bytes e.host.transfer.request ≡ false → HasCounted e.host → HasCounted (exchanged answer cut (has_data data_out) e.host e.device o fate).host
    counts fate e None none c = c
    counts fate e (Some sent) none c = counts_on (has_data data_out) e.host (carried answer cut e.device sent fate).reply none c

    -- so they stay in it
    pub keeps : (l b a : ℕ) (fate : Fate) (e : Ends) → InOneTransfer answer cut s q size naks data_out l b a e.host e.device →
        InOneTransfer answer cut s q size naks data_out (l + lost fate) (b + busy fate) (a + ack_lost fate)
        (step_of answer cut data_out fate e).host (step_of answer cut data_out fate e).device
    keeps l b a fate e c = record {
      stand = stands l b a fate e c.stand;
      counts = λ none. counts fate e (due_of e.host.transfer data_out) (ap brings_bytes c.stand.request ∙ none) (c.counts none);
    }

    pub keeps_all : (l b a : ℕ) (fates : List Fate) (e : Ends) → InOneTransfer answer cut s q size naks data_out l b a e.host e.device →
        InOneTransfer answer cut s q size naks data_out (l + losses fates) (b + busies fates) (a + acks_lost fates)
        (run_of answer cut data_out fates e).host (run_of answer cut data_out fates e).device
    keeps_all l b a [] e c = rw (add-zero l, add-zero b, add-zero a) c
    keeps_all l b a (f ∷ fates) e c =
        rw (← add_assoc l (lost f) (losses fates), ← add_assoc b (busy f) (busies fates), ← add_assoc a (ack_lost f) (acks_lost fates))
        (keeps_all (l + lost f) (b + busy f) (a + ack_lost f) fates (step_of answer cut data_out f e) (keeps l b a f e c))

-- a transfer begun at the device's address stays so
pub stays_together : TransfersStayTogether
stays_together answer cut naks size q d data_out fates w alike sizes =
    simp zero-add at (keeps_all answer cut d.state q size naks data_out w
    (λ bytes is. alike_cut cut size q.length bytes (alike bytes is) (w.bytes bytes is).0) sizes 0 0 0 fates
    (record { host = begins d.state.address size naks q; device = d })
    (record {
      stand = record {
        address = refl;
        request = refl;
        packet = refl;
        naks_are = refl;
        nak_count = omega arith;
        stages = (refl, refl, refl, refl, omega arith);
      };
      counts = λ none. ((λ e. absurd (cc)), refl);
    }))

-- what both ends say of a transfer that has ended
module _ (answer : State → SetupPacket → Outcome) (cut : ℕ) (s : State) (q : SetupPacket) (size naks : ℕ) (data_out : List ℕ) (l b a : ℕ) where
  pub stages_end : (stage : TransferStage) (at : DeviceStage) (awaited : Toggle) (got : List ℕ) (count strikes : ℕ) (d : State) →
      Stages answer cut s q size naks data_out l b a stage at awaited got count strikes d → TransferEnds answer s q naks data_out l b a stage got d
  stages_end Completed at awaited got count strikes d h = h
  stages_end (Failed why) at awaited got count strikes d h = h
  stages_end Setup at awaited got count strikes d h = tt
  stages_end DataIn at awaited got count strikes d h = tt
  stages_end DataOut at awaited got count strikes d h = tt
  stages_end StatusOut at awaited got count strikes d h = tt
  stages_end StatusIn at awaited got count strikes d h = tt
