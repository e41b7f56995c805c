-- Each packet of a write keeps both ends in one transfer, by what it is: one more, the last one, a wrong one, or one that came.
use Rattle.std.proofs.Common.{◌≡◌, ◌≢◌, ℕ, suc, ◌+◌, ◌-◌, ◌*◌, ◌<◌, ◌≤◌, ◌==◌, ◌⊎◌, Bool, true, false, List, ◌++◌, length, take, drop, refl, ap, sym, ◌∙◌, arith, inl, inr, subst, length-append, length-take}
use Rattle.std.specs.Prelude.{min}
use Rattle.std.proofs.lemmas.Bool.Decides.{nat_tests}
use Rattle.std.proofs.Math.Nat.{suc-mul}
use Rattle.usb_fields.specs.declared.setup.Setup.{Setup as SetupPacket}
use Rattle.usb_fields.specs.Packets.{toggle_of, is_same_toggle}
use Rattle.usb_fields.proofs.KeptLemmas.{same-itself, same-flipped}
use Rattle.usb_device.specs.declared.state.State.{State}
use Rattle.usb_device.specs.Requests.{Outcome, Takes}
use Rattle.usb_device.specs.Step.{awaited}
use Rattle.usb_bus.specs.declared.fate.Fate.{Fate}
use Rattle.usb_bus.specs.Bus.{has_data}
use Rattle.usb_bus.proofs.TakenLemmas.{some_data}
use Rattle.usb_bus.proofs.WriteLemmas.{awaited_whole, first_bytes, packet, packet_size}
use Rattle.usb_bus.proofs.OtherStages.{Progress}
use Rattle.usb_bus.proofs.WriteSteps.{Step, Writes, writes, inner, accepted, declined, wrong, behind}

module _ (answer : State → SetupPacket → Outcome) (s : State) (q : SetupPacket) (size naks : ℕ) (data_out : List ℕ)
    (judge : List ℕ → Bool) (e : answer s q ≡ Takes judge) (pos : 0 < size) (fate : Fate) (m : Progress) (k : ℕ) (came : List ℕ) (o : m.strikes ≤ m.l) where
  -- with k packets acknowledged
  abbrev counted : Progress
  counted = record m { count = k * size }

  abbrev pub GoesOn : Type 0
  GoesOn = Step answer s q size naks data_out judge e fate counted k came

  -- the device has as many packets as the host counts
  module _ (whole : length came ≡ k * size) (more : k * size < q.length) (came_is : came ≡ take (k * size) data_out) where
    abbrev p : List ℕ
    p = packet size k data_out came came_is whole

    abbrev now : Writes answer s q size naks data_out judge e k k came (k * size)
    now = writes answer s q size naks data_out judge e k k came (k * size) refl came_is whole more

    same_toggle : is_same_toggle (toggle_of k) (awaited size (length came)) ≡ true
    same_toggle = rw (awaited_whole size k (length came) pos whole) (same-itself (toggle_of k))

    all_long : length (came ++ p) ≡ k * size + length p
    all_long = length-append came p ∙ ap (λ n. n + length p) whole

    abbrev IsDue : Bool → Type 0
    IsDue c = (length p == min size (q.length - length came)) ≡ c

    abbrev EndsHere : Bool → Type 0
    EndsHere c = (k * size + min size (q.length - k * size) == q.length) ≡ c

    -- there are data in the next packet
    sends : IsDue true → has_data data_out ≡ true
    sends right =
        let n : length p ≡ min size (q.length - length came) = grind (arith, nat_tests) in
        let long = packet_size size k data_out came came_is whole in
        some_data data_out (omega (arith, n, long, whole, more, pos))

    due_long : IsDue true → length p ≡ min size (q.length - k * size)
    due_long right = (let n : length p ≡ min size (q.length - length came) = grind (arith, nat_tests) in n ∙ ap (λ x. min size (q.length - x)) whole)

    -- the last packet: all data have come
    at_end : IsDue true → EndsHere true → (good : Bool) → judge (take q.length data_out) ≡ good → GoesOn
    at_end right on good judged =
        let last : k * size + min size (q.length - k * size) ≡ q.length = grind (arith, nat_tests) in
        let sum : k * size + length p ≡ q.length = ap (λ x. k * size + x) (due_long right) ∙ last in
        let full : came ++ p ≡ take q.length data_out = first_bytes size k data_out came came_is whole ∙ ap (λ n. take n data_out) sum in
        let count : (length (came ++ p) == q.length) ≡ true = (let c : length (came ++ p) ≡ q.length = all_long ∙ sum in grind (arith, nat_tests)) in
        let enough : q.length ≤ length data_out = (let n : length (take q.length data_out) ≡ q.length = ap length (sym full) ∙ all_long ∙ sum in
        let short = length-take q.length data_out in omega arith) in
        by_judge good judged (ap judge full ∙ judged) count enough
      where
        by_judge : (good : Bool) → judge (take q.length data_out) ≡ good → judge (came ++ p) ≡ good → (length (came ++ p) == q.length) ≡ true → q.length ≤ length data_out → GoesOn
        by_judge true judged says count enough =
            accepted answer s q size naks data_out judge e fate counted k came p o refl (sends right) same_toggle right count on says now
            (record { judge = judge; answered = e; enough = enough; accepts = judged })
        by_judge false judged says count enough =
            declined answer s q size naks data_out judge e fate counted k came p o refl (sends right) same_toggle right count on says now
            (record { judge = judge; answered = e; declines = inr judged })

    -- a whole packet, after which more are to come
    goes_on : IsDue true → EndsHere false → GoesOn
    goes_on right on =
        let apart : k * size + min size (q.length - k * size) ≢ q.length = grind (arith, nat_tests) in
        let full : min size (q.length - k * size) ≡ size = omega arith in
        let step : k * size + min size (q.length - k * size) ≡ suc k * size = ap (λ x. k * size + x) full ∙ sym (suc-mul k size) in
        let sum : k * size + length p ≡ suc k * size = ap (λ x. k * size + x) (due_long right) ∙ step in
        let further : suc k * size < q.length = (let x = step in omega arith) in
        let is : came ++ p ≡ take (suc k * size) data_out = first_bytes size k data_out came came_is whole ∙ ap (λ n. take n data_out) sum in
        let size_is : length (came ++ p) ≡ suc k * size = all_long ∙ sum in
        let count : (length (came ++ p) == q.length) ≡ false = grind (arith, nat_tests) in
        inner answer s q size naks data_out judge e fate counted k came p o refl (sends right) same_toggle right count on now
        (writes answer s q size naks data_out judge e (suc k) (suc k) (came ++ p) (k * size + min size (q.length - k * size)) step is size_is further)
        (writes answer s q size naks data_out judge e k (suc k) (came ++ p) (k * size) refl is size_is further)

    -- a packet that is too short or too long, of data that are no wLength bytes
    not_due : IsDue false → GoesOn
    not_due right =
        let apart : length p ≢ min size (q.length - length came) = grind (arith, nat_tests) in
        let long = packet_size size k data_out came came_is whole in
        let other : length data_out ≢ q.length = λ same. apart (long ∙ ap (λ x. min size (x - k * size)) same ∙ ap (λ x. min size (q.length - x)) (sym whole)) in
        wrong answer s q size naks data_out judge e fate counted k came p o refl same_toggle right now (record { judge = judge; answered = e; declines = inl other })

    by_end : IsDue true → (c : Bool) → EndsHere c → GoesOn
    by_end right true on = at_end right on (judge (take q.length data_out)) refl
    by_end right false on = goes_on right on

    by_length : (c : Bool) → IsDue c → GoesOn
    by_length true right = by_end right (k * size + min size (q.length - k * size) == q.length) refl
    by_length false right = not_due right

    level : GoesOn
    level = by_length (length p == min size (q.length - length came)) refl

  -- or one packet more
  ahead : 0 < m.strikes → length came ≡ suc k * size → suc k * size < q.length → came ≡ take (suc k * size) data_out → GoesOn
  ahead some whole more came_is =
      let step : suc k * size ≡ k * size + size = suc-mul k size in
      let taken : length (take (suc k * size) data_out) ≡ suc k * size = ap length (sym came_is) ∙ whole in
      let long = length-take (suc k * size) data_out in
      let sends = some_data data_out (omega (arith, taken, long, step, pos)) in
      let full : min size (q.length - k * size) ≡ size = omega arith in
      let sum : k * size + min size (q.length - k * size) ≡ suc k * size = ap (λ x. k * size + x) full ∙ sym step in
      let on : (k * size + min size (q.length - k * size) == q.length) ≡ false = grind (arith, nat_tests) in
      let other : is_same_toggle (toggle_of k) (awaited size (length came)) ≡ false = rw (awaited_whole size (suc k) (length came) pos whole) (same-flipped (toggle_of k)) in
      behind answer s q size naks data_out judge e fate counted k came (take size (drop (k * size) data_out)) o refl sends other on some
      (writes answer s q size naks data_out judge e k (suc k) came (k * size) refl came_is whole more)
      (writes answer s q size naks data_out judge e (suc k) (suc k) came (k * size + min size (q.length - k * size)) sum came_is whole more)

  pub written : (kept : ℕ) → (kept ≡ k) ⊎ ((kept ≡ suc k) × (0 < m.strikes)) → came ≡ take (kept * size) data_out → length came ≡ kept * size → kept * size < q.length → GoesOn
  written kept (inl same) came_is whole more =
      let times : kept * size ≡ k * size = ap (λ n. n * size) same in
      level (whole ∙ times) (subst (λ n. n < q.length) times more) (came_is ∙ ap (λ n. take n data_out) times)
  written kept (inr (same, some)) came_is whole more =
      let times : kept * size ≡ suc k * size = ap (λ n. n * size) same in
      ahead some (whole ∙ times) (subst (λ n. n < q.length) times more) (came_is ∙ ap (λ n. take n data_out) times)
