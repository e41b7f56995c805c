-- A transaction in the data stage of a write keeps both ends in one transfer.
use Rattle.std.proofs.Common.{◌≡◌, ℕ, suc, ◌+◌, ◌-◌, ◌*◌, ◌<◌, ◌≤◌, ◌==◌, ◌⊎◌, Bool, true, false, List, ◌++◌, length, take, drop, refl, arith, inl, inr}
use Rattle.std.specs.Prelude.{min}
use Rattle.std.proofs.lemmas.Bool.Decides.{nat_tests}
use Rattle.usb_fields.specs.declared.packet.Toggle.{Toggle}
use Rattle.usb_fields.specs.declared.setup.Setup.{Setup as SetupPacket}
use Rattle.usb_fields.specs.Packets.{flipped, toggle_of, is_same_toggle}
use Rattle.usb_host.specs.declared.transfer.TransferStage.TheVariants.{DataOut}
use Rattle.usb_device.specs.declared.state.State.{State}
use Rattle.usb_device.specs.Requests.{Outcome, Takes}
use Rattle.usb_device.specs.Step.{Receiving, awaited}
use Rattle.usb_bus.specs.declared.fate.Fate.{Fate}
use Rattle.usb_bus.specs.Bus.{has_data}
use Rattle.usb_bus.specs.Attempt.{IsAccepted, IsDeclined}
use Rattle.usb_bus.specs.Together.{HasAccepted, IsRefused, IsWriting}
use Rattle.usb_bus.proofs.OtherStages.{Goes, Progress}

module _ (answer : State → SetupPacket → Outcome) (s : State) (q : SetupPacket) (size naks : ℕ) (data_out : List ℕ) (judge : List ℕ → Bool)
    (e : answer s q ≡ Takes judge) where
  abbrev IsWritten : ℕ → List ℕ → Toggle → ℕ → ℕ → Type 0
  IsWritten l came next count strikes = IsWriting answer size s q size naks data_out l q came next count strikes s

  -- what the ends keep, the host this many packets acknowledged and the device this many of them
  abbrev pub Writes : ℕ → ℕ → List ℕ → ℕ → Type 0
  Writes k kept came count =
      (l strikes : ℕ) → strikes ≤ l → (kept ≡ k) ⊎ ((kept ≡ suc k) × (0 < strikes)) → IsWritten l came (toggle_of k) count strikes

  pub writes : (k kept : ℕ) (came : List ℕ) (count : ℕ) → count ≡ k * size → came ≡ take (kept * size) data_out → length came ≡ kept * size → kept * size < q.length →
      Writes k kept came count
  writes k kept came count count_is came_is whole more l strikes owed counted = record {
    same_state = refl;
    asked_is = refl;
    judge = judge;
    answered = e;
    acknowledged = k;
    count_is = count_is;
    next_is = refl;
    kept = kept;
    counted = counted;
    came_is = came_is;
    whole = whole;
    more = more;
    owed = owed;
  }

  module _ (fate : Fate) (m : Progress) (k : ℕ) (came : List ℕ) where
    -- one transaction
    abbrev pub Step : Type 0
    Step = Goes answer size s q size naks data_out fate s DataOut (Receiving q came) (record m { awaited = toggle_of k })

    abbrev further : ℕ
    further = m.count + min size (q.length - m.count)

    -- one where this packet comes next
    module _ (p : List ℕ) (o : m.strikes ≤ m.l) (due : take size (drop m.count data_out) ≡ p) where
      abbrev IsNext : Bool → Type 0
      IsNext c = is_same_toggle (toggle_of k) (awaited size (length came)) ≡ c

      abbrev IsDue : Bool → Type 0
      IsDue c = (length p == min size (q.length - length came)) ≡ c

      abbrev EndsHere : Bool → Type 0
      EndsHere c = (further == q.length) ≡ c

      abbrev IsAll : Bool → Type 0
      IsAll c = (length (came ++ p) == q.length) ≡ c

      -- a whole packet, and more are to come
      pub inner : has_data data_out ≡ true → IsNext true → IsDue true → IsAll false → EndsHere false →
          Writes k k came m.count → Writes (suc k) (suc k) (came ++ p) further → Writes k (suc k) (came ++ p) m.count → Step
      inner sends sm right more on now next ahead =
          let still = now (m.l + 0) m.strikes (omega arith) (inl refl) in
          let struck = now (m.l + 1) (suc m.strikes) (omega arith) (inl refl) in
          let behind = ahead (m.l + 1) (suc m.strikes) (omega arith) (inr (refl, omega arith)) in
          let then : IsWritten (m.l + 0) (came ++ p) (flipped (toggle_of k)) further 0 = next (m.l + 0) 0 (omega arith) (inl refl) in
          let lost : IsWritten (m.l + 1) (came ++ p) (flipped (toggle_of k)) further 0 = next (m.l + 1) 0 (omega arith) (inl refl) in
          grind (arith, nat_tests)

      -- the last packet, of data that are accepted
      pub accepted : has_data data_out ≡ true → IsNext true → IsDue true → IsAll true → EndsHere true → judge (came ++ p) ≡ true →
          Writes k k came m.count → IsAccepted (answer s q) q data_out → Step
      accepted sends sm right more on good now is =
          let still = now (m.l + 0) m.strikes (omega arith) (inl refl) in
          let struck = now (m.l + 1) (suc m.strikes) (omega arith) (inl refl) in
          let last : further ≡ q.length = grind (arith, nat_tests) in
          let then : (l strikes : ℕ) → strikes ≤ l → HasAccepted answer size s q size naks data_out l q strikes s =
          λ l strikes owed. record { same_state = refl; asked_is = refl; accepted = is; owed = owed } in
          let all = then (m.l + 0) 0 (omega arith) in
          let behind = then (m.l + 1) (suc m.strikes) (omega arith) in
          let lost = then (m.l + 1) 0 (omega arith) in
          grind (arith, nat_tests)

      -- the last packet, of data that are refused
      pub declined : has_data data_out ≡ true → IsNext true → IsDue true → IsAll true → EndsHere true → judge (came ++ p) ≡ false →
          Writes k k came m.count → IsDeclined (answer s q) q data_out → Step
      declined sends sm right more on bad now is =
          let still = now (m.l + 0) m.strikes (omega arith) (inl refl) in
          let struck = now (m.l + 1) (suc m.strikes) (omega arith) (inl refl) in
          let then : (l strikes : ℕ) → strikes ≤ l → IsRefused answer size s q size naks data_out l strikes s =
          λ l strikes owed. record { same_state = refl; answered = inr is; owed = owed } in
          let all = then (m.l + 0) 0 (omega arith) in
          let behind = then (m.l + 1) (suc m.strikes) (omega arith) in
          let lost = then (m.l + 1) 0 (omega arith) in
          grind (arith, nat_tests)

      -- a packet that is not the one that comes next
      pub wrong : IsNext true → IsDue false → Writes k k came m.count → IsDeclined (answer s q) q data_out → Step
      wrong sm right now is =
          let still = now (m.l + 0) m.strikes (omega arith) (inl refl) in
          let struck = now (m.l + 1) (suc m.strikes) (omega arith) (inl refl) in
          let behind : IsRefused answer size s q size naks data_out (m.l + 1) (suc m.strikes) s = record { same_state = refl; answered = inr is; owed = omega arith } in
          grind (arith, nat_tests)

      -- a packet that came before
      pub behind : has_data data_out ≡ true → IsNext false → EndsHere false → 0 < m.strikes →
          Writes k (suc k) came m.count → Writes (suc k) (suc k) came further → Step
      behind sends other on some now next =
          let still = now (m.l + 0) m.strikes (omega arith) (inr (refl, some)) in
          let struck = now (m.l + 1) (suc m.strikes) (omega arith) (inr (refl, omega arith)) in
          let then : IsWritten (m.l + 0) came (flipped (toggle_of k)) further 0 = next (m.l + 0) 0 (omega arith) (inl refl) in
          let lost : IsWritten (m.l + 1) came (flipped (toggle_of k)) further 0 = next (m.l + 1) 0 (omega arith) (inl refl) in
          grind (arith, nat_tests)
