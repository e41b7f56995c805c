-- A transaction in the data stage keeps both ends in one transfer.
use Rattle.std.proofs.Common.{◌≡◌, ℕ, suc, ◌+◌, ◌-◌, ◌<◌, ◌≤◌, ◌⊎◌, true, false, List, [], ◌∷◌, ◌++◌, length, take, drop, refl, arith}
use Rattle.std.proofs.lemmas.List.{append-nil}
use Rattle.std.proofs.lemmas.Bool.Decides.{nat_tests}
use Rattle.usb_fields.specs.declared.packet.Toggle.{Toggle}
use Rattle.usb_fields.specs.declared.setup.Setup.{Setup as SetupPacket}
use Rattle.usb_fields.specs.Packets.{flipped, packets, joined, toggle_of, is_same_toggle}
use Rattle.usb_host.specs.declared.transfer.TransferStage.TheVariants.{DataIn}
use Rattle.usb_device.specs.declared.state.State.{State}
use Rattle.usb_device.specs.Requests.{Outcome, Bytes}
use Rattle.usb_device.specs.Step.{Sending}
use Rattle.usb_bus.specs.declared.fate.Fate.{Fate}
use Rattle.usb_bus.specs.declared.fate.Fate.TheVariants.{Pass, Busy, LostDown, LostUp, LostAck}
use Rattle.usb_bus.specs.Together.{IsReading}
use Rattle.usb_bus.specs.inside.Sound.{Due}
use Rattle.usb_bus.proofs.OtherStages.{Goes, Progress}

pub all_joins : (got p bytes : List ℕ) → got ++ (p ++ []) ≡ bytes → got ++ p ≡ bytes
all_joins got p bytes e = simp append-nil at e

module _ (answer : State → SetupPacket → Outcome) (cut : ℕ) (s : State) (q : SetupPacket) (size naks : ℕ) (data_out : List ℕ) (bytes : List ℕ)
    (e : answer s q ≡ Bytes bytes) where
  abbrev all : List (List ℕ)
  all = packets bytes cut q.length

  abbrev pub IsRead : ℕ → ℕ → Toggle → List ℕ → ℕ → Type 0
  IsRead l k awaited got strikes = IsReading answer cut s q size naks data_out l q bytes k awaited got (length got) strikes s

  -- what the ends keep in the data stage, the host this many packets and the device this many of them as acknowledged
  abbrev pub Reads : ℕ → ℕ → List ℕ → Type 0
  Reads k kept got = (l strikes : ℕ) → strikes + (kept - k) ≤ l → IsRead l k (toggle_of kept) got strikes

  pub reads : (k kept : ℕ) (got : List ℕ) → (kept ≡ k) ⊎ (kept ≡ suc k) → got ≡ joined (take kept all) → kept < length all → Reads k kept got
  reads k kept got counted brought more l strikes owed = record {
    same_state = refl;
    answered = e;
    asked_is = refl;
    count_is = refl;
    kept = kept;
    counted = counted;
    brought = brought;
    awaits = refl;
    more = more;
    owed = owed;
  }

  module _ (m : Progress) (k : ℕ) where
    -- one transaction, where the host awaits this toggle
    abbrev pub Step : Fate → Toggle → Type 0
    Step fate awaited = Goes answer cut s q size naks data_out fate s DataIn (Sending q bytes k) (record m { awaited = awaited; count = length m.got })

    -- one where this packet comes next
    module _ (p : List ℕ) where
      -- the last packet comes next, and is not acknowledged yet
      pub last : (fate : Fate) → m.strikes ≤ m.l → drop k all ≡ p ∷ [] → drop (suc k) all ≡ [] → length all ≡ suc k → Due size q.length (length m.got) (p ∷ []) →
          Reads k k m.got → length (m.got ++ p) ≡ length m.got + length p → m.got ++ p ≡ bytes → is_same_toggle (toggle_of k) (toggle_of k) ≡ true →
          Step fate (toggle_of k)
      last fate o at after count due now len joins sm =
          let still = now (m.l + 0) m.strikes (omega arith) in
          let struck = now (m.l + 1) (suc m.strikes) (omega arith) in
          grind (arith, nat_tests)

      module _ (second : List ℕ) (rest : List (List ℕ)) (at : drop k all ≡ p ∷ (second ∷ rest)) (after : drop (suc k) all ≡ second ∷ rest) where
        -- another packet comes next after p
        pub inner : (fate : Fate) → m.strikes ≤ m.l → Due size q.length (length m.got) (p ∷ (second ∷ rest)) →
            Reads k k m.got → Reads (suc k) (suc k) (m.got ++ p) → Reads k (suc k) (m.got ++ p) →
            length (m.got ++ p) ≡ length m.got + length p → is_same_toggle (toggle_of k) (toggle_of k) ≡ true → Step fate (toggle_of k)
        inner Pass o due now next ahead len sm =
            let then : IsRead (m.l + 0) (suc k) (flipped (toggle_of k)) (m.got ++ p) 0 = next (m.l + 0) 0 (omega arith) in grind (arith, nat_tests)
        inner Busy o due now next ahead len sm = (let still = now (m.l + 0) m.strikes (omega arith) in grind (arith, nat_tests))
        inner LostDown o due now next ahead len sm = (let struck = now (m.l + 1) (suc m.strikes) (omega arith) in grind (arith, nat_tests))
        inner LostUp o due now next ahead len sm = (let struck = now (m.l + 1) (suc m.strikes) (omega arith) in grind (arith, nat_tests))
        inner LostAck o due now next ahead len sm =
            let behind : IsRead (m.l + 1) k (flipped (toggle_of k)) (m.got ++ p) 0 = ahead (m.l + 1) 0 (omega arith) in grind (arith, nat_tests)

        -- the device is one packet behind
        pub behind : (fate : Fate) → m.strikes + 1 ≤ m.l → length p ≤ size → Reads k (suc k) m.got → Reads (suc k) (suc k) m.got →
            is_same_toggle (toggle_of k) (flipped (toggle_of k)) ≡ false → Step fate (flipped (toggle_of k))
        behind fate o small now next ns =
            let then : IsRead (m.l + 0) (suc k) (flipped (toggle_of k)) m.got (suc m.strikes) = next (m.l + 0) (suc m.strikes) (omega arith) in
            let still : IsRead (m.l + 0) k (flipped (toggle_of k)) m.got m.strikes = now (m.l + 0) m.strikes (omega arith) in
            let struck : IsRead (m.l + 1) k (flipped (toggle_of k)) m.got (suc m.strikes) = now (m.l + 1) (suc m.strikes) (omega arith) in
            grind (arith, nat_tests)
