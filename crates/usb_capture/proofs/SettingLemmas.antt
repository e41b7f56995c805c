-- What a device said of a configuration, a descriptor more.
use Rattle.std.proofs.Common.{◌≡◌, ◌≢◌, ◌∙◌, ℕ, zero, suc, ◌<◌, ◌≤◌, Bool, true, false, not, List, [], ◌∷◌, length, drop, fold, slice_index, refl, sym, ap, arith, length-drop, true≢false}
use Rattle.std.specs.Prelude.{◌&&◌, ◌||◌, ◌==◌, nat_le, nat_lt, if◌then◌else◌}
use Rattle.std.proofs.lemmas.Bool.Decides.{nat_tests}
use Rattle.std.proofs.lemmas.List.Sums.{fold-append}
use Rattle.usb_device.specs.Offers.{EndpointOffer, SettingOffer}
use Rattle.usb_device.specs.Requests.{addresses_in, interface_addresses}
use Rattle.usb_device.specs.States.{without_halt}
use Rattle.usb_capture.specs.DeviceStates.{are_descriptors, endpoints_said, settings_said}
use Rattle.usb_capture.specs.SaidSettings.{endpoint_at, endpoints_in, has_descriptor, setting_at, settings_in}

above_one : (n : ℕ) → nat_lt 1 n ≡ true → 1 < n
above_one n e = grind (arith, nat_tests)

is_above : (n : ℕ) → 1 < n → nat_lt 1 n ≡ true
is_above n lt = grind (arith, nat_tests)

isnt_above : (n : ℕ) → n ≤ 1 → nat_lt 1 n ≡ false
isnt_above n le = grind (arith, nat_tests)

is_within : (n m : ℕ) → n ≤ m → nat_le n m ≡ true
is_within n m le = grind (arith, nat_tests)

isnt_none : (n : ℕ) → (suc n == 0) ≡ false
isnt_none n = grind (arith, nat_tests)

equal : (a b : ℕ) → a ≡ b → (a == b) ≡ true
equal a b e = grind (arith, nat_tests)

apart : (a b : ℕ) → a ≢ b → (a == b) ≡ false
apart a b e = grind (arith, nat_tests)

-- as many descriptors as bytes are enough
left_within : (m x : ℕ) (b : List ℕ) → 1 < x → length b ≤ suc m → length (drop x b) ≤ m
left_within m x b lt h = omega (arith, lt, length-drop x b, h)

-- The endpoints of a setting.

abbrev endpoint_before : Bool → List ℕ → List EndpointOffer → List EndpointOffer
endpoint_before long b later =
    if not long || slice_index b 1 == 4 then []
    else if slice_index b 1 == 5 then endpoint_at b ∷ later
    else later

endpoints_enough : (m k : ℕ) (b : List ℕ) → length b ≤ m → length b ≤ k → endpoints_said m b ≡ endpoints_said k b
unfolding endpoints_said
endpoints_enough zero zero b h g = refl
endpoints_enough zero (suc k) [] h g = refl
endpoints_enough zero (suc k) (x ∷ b) h g = absurd (omega (arith, h))
endpoints_enough (suc m) zero [] h g = refl
endpoints_enough (suc m) zero (x ∷ b) h g = absurd (omega (arith, g))
endpoints_enough (suc m) (suc k) b h g = by (nat_lt 1 (slice_index b 0)) refl (endpoints_enough m k (drop (slice_index b 0) b))
  where
    by : (t : Bool) → nat_lt 1 (slice_index b 0) ≡ t
        → (length (drop (slice_index b 0) b) ≤ m → length (drop (slice_index b 0) b) ≤ k
        → endpoints_said m (drop (slice_index b 0) b) ≡ endpoints_said k (drop (slice_index b 0) b))
        → endpoint_before t b (endpoints_said m (drop (slice_index b 0) b)) ≡ endpoint_before t b (endpoints_said k (drop (slice_index b 0) b))
    by true e later =
        let lt = above_one (slice_index b 0) e in
        ap (endpoint_before true b) (later (left_within m (slice_index b 0) b lt h) (left_within k (slice_index b 0) b lt g))
    by false e later = refl

endpoints_step : (b : List ℕ) → 1 < slice_index b 0 → endpoints_in b ≡ endpoint_before true b (endpoints_in (drop (slice_index b 0) b))
unfolding endpoints_said
endpoints_step [] lt = absurd (omega (arith, lt))
endpoints_step (x ∷ b) lt =
    let rest = drop x (x ∷ b) in
    ap (λ t. endpoint_before t (x ∷ b) (endpoints_said (length b) rest)) (is_above x lt)
    ∙ ap (endpoint_before true (x ∷ b))
    (endpoints_enough (length b) (length rest) rest (left_within (length b) x (x ∷ b) lt (omega arith)) (omega arith))

pub endpoints_end : (b : List ℕ) → slice_index b 0 ≤ 1 → endpoints_in b ≡ []
unfolding endpoints_said
endpoints_end [] le = refl
endpoints_end (x ∷ b) le = ap (λ t. endpoint_before t (x ∷ b) (endpoints_said (length b) (drop x (x ∷ b)))) (isnt_above x le)

pub endpoints_stop : (b : List ℕ) → 1 < slice_index b 0 → slice_index b 1 ≡ 4 → endpoints_in b ≡ []
endpoints_stop b lt is =
    let later = endpoints_in (drop (slice_index b 0) b) in
    endpoints_step b lt ∙ ap (λ n. if n == 4 then [] else if n == 5 then endpoint_at b ∷ later else later) is

pub endpoints_more : (b : List ℕ) → 1 < slice_index b 0 → slice_index b 1 ≡ 5 → endpoints_in b ≡ endpoint_at b ∷ endpoints_in (drop (slice_index b 0) b)
endpoints_more b lt is =
    let later = endpoints_in (drop (slice_index b 0) b) in
    endpoints_step b lt ∙ ap (λ n. if n == 4 then [] else if n == 5 then endpoint_at b ∷ later else later) is

pub endpoints_pass : (b : List ℕ) → 1 < slice_index b 0 → slice_index b 1 ≢ 4 → slice_index b 1 ≢ 5 → endpoints_in b ≡ endpoints_in (drop (slice_index b 0) b)
endpoints_pass b lt other another =
    let later = endpoints_in (drop (slice_index b 0) b) in
    endpoints_step b lt
    ∙ ap (λ t. if t then [] else if slice_index b 1 == 5 then endpoint_at b ∷ later else later) (apart (slice_index b 1) 4 other)
    ∙ ap (λ t. if t then endpoint_at b ∷ later else later) (apart (slice_index b 1) 5 another)

-- The settings of a configuration.

abbrev setting_before : Bool → List ℕ → List EndpointOffer → List SettingOffer → List SettingOffer
setting_before long b endpoints later =
    if not long then []
    else if slice_index b 1 == 4 then record { number = slice_index b 2; alternate = slice_index b 3; endpoints = endpoints } ∷ later
    else later

settings_enough : (m k : ℕ) (b : List ℕ) → length b ≤ m → length b ≤ k → settings_said m b ≡ settings_said k b
unfolding settings_said
settings_enough zero zero b h g = refl
settings_enough zero (suc k) [] h g = refl
settings_enough zero (suc k) (x ∷ b) h g = absurd (omega (arith, h))
settings_enough (suc m) zero [] h g = refl
settings_enough (suc m) zero (x ∷ b) h g = absurd (omega (arith, g))
settings_enough (suc m) (suc k) b h g = by (nat_lt 1 (slice_index b 0)) refl (settings_enough m k (drop (slice_index b 0) b))
  where
    by : (t : Bool) → nat_lt 1 (slice_index b 0) ≡ t
        → (length (drop (slice_index b 0) b) ≤ m → length (drop (slice_index b 0) b) ≤ k
        → settings_said m (drop (slice_index b 0) b) ≡ settings_said k (drop (slice_index b 0) b))
        → setting_before t b (endpoints_said m (drop (slice_index b 0) b)) (settings_said m (drop (slice_index b 0) b))
        ≡ setting_before t b (endpoints_said k (drop (slice_index b 0) b)) (settings_said k (drop (slice_index b 0) b))
    by true e later =
        let lt = above_one (slice_index b 0) e in
        let fits = left_within m (slice_index b 0) b lt h in
        let also = left_within k (slice_index b 0) b lt g in
        ap (λ es. setting_before true b es (settings_said m (drop (slice_index b 0) b))) (endpoints_enough m k (drop (slice_index b 0) b) fits also)
        ∙ ap (setting_before true b (endpoints_said k (drop (slice_index b 0) b))) (later fits also)
    by false e later = refl

settings_step : (b : List ℕ) → 1 < slice_index b 0
    → settings_in b ≡ setting_before true b (endpoints_in (drop (slice_index b 0) b)) (settings_in (drop (slice_index b 0) b))
unfolding settings_said
settings_step [] lt = absurd (omega (arith, lt))
settings_step (x ∷ b) lt =
    let rest = drop x (x ∷ b) in
    let fits = left_within (length b) x (x ∷ b) lt (omega arith) in
    ap (λ t. setting_before t (x ∷ b) (endpoints_said (length b) rest) (settings_said (length b) rest)) (is_above x lt)
    ∙ ap (λ es. setting_before true (x ∷ b) es (settings_said (length b) rest)) (endpoints_enough (length b) (length rest) rest fits (omega arith))
    ∙ ap (setting_before true (x ∷ b) (endpoints_in rest)) (settings_enough (length b) (length rest) rest fits (omega arith))

pub settings_end : (b : List ℕ) → slice_index b 0 ≤ 1 → settings_in b ≡ []
unfolding settings_said
settings_end [] le = refl
settings_end (x ∷ b) le =
    ap (λ t. setting_before t (x ∷ b) (endpoints_said (length b) (drop x (x ∷ b))) (settings_said (length b) (drop x (x ∷ b)))) (isnt_above x le)

pub settings_more : (b : List ℕ) → 1 < slice_index b 0 → slice_index b 1 ≡ 4 → settings_in b ≡ setting_at b ∷ settings_in (drop (slice_index b 0) b)
settings_more b lt is =
    let later = settings_in (drop (slice_index b 0) b) in
    settings_step b lt ∙ ap (λ t. if t then setting_at b ∷ later else later) (equal (slice_index b 1) 4 is)

pub settings_pass : (b : List ℕ) → 1 < slice_index b 0 → slice_index b 1 ≢ 4 → settings_in b ≡ settings_in (drop (slice_index b 0) b)
settings_pass b lt other =
    let later = settings_in (drop (slice_index b 0) b) in
    settings_step b lt ∙ ap (λ t. if t then setting_at b ∷ later else later) (apart (slice_index b 1) 4 other)

-- Whether descriptors stand one after another to the end.

descriptors_enough : (m k : ℕ) (b : List ℕ) → length b ≤ m → length b ≤ k → are_descriptors m b ≡ are_descriptors k b
unfolding are_descriptors
descriptors_enough m k [] h g = refl
descriptors_enough zero k (x ∷ b) h g = absurd (omega (arith, h))
descriptors_enough (suc m) zero (x ∷ b) h g = absurd (omega (arith, g))
descriptors_enough (suc m) (suc k) (x ∷ b) h g = by (nat_lt 1 x) refl (descriptors_enough m k (drop x (x ∷ b)))
  where
    by : (t : Bool) → nat_lt 1 x ≡ t
        → (length (drop x (x ∷ b)) ≤ m → length (drop x (x ∷ b)) ≤ k → are_descriptors m (drop x (x ∷ b)) ≡ are_descriptors k (drop x (x ∷ b)))
        → (t && nat_le x (length (x ∷ b)) && are_descriptors m (drop x (x ∷ b))) ≡ (t && nat_le x (length (x ∷ b)) && are_descriptors k (drop x (x ∷ b)))
    by true e later =
        let lt = above_one x e in
        ap (λ r. nat_le x (length (x ∷ b)) && r) (later (left_within m x (x ∷ b) lt h) (left_within k x (x ∷ b) lt g))
    by false e later = refl

both : (a b : ℕ) → (nat_lt 1 a && nat_le a b) ≡ true → (1 < a) × (a ≤ b)
both a b e = by (nat_lt 1 a) (nat_le a b) refl refl e
  where
    by : (s t : Bool) → nat_lt 1 a ≡ s → nat_le a b ≡ t → (s && t) ≡ true → (1 < a) × (a ≤ b)
    by true true first second e = (grind (arith, nat_tests), grind (arith, nat_tests))
    by true false first second e = absurd (true≢false (sym e))
    by false t first second e = absurd (true≢false (sym e))

left_out : (a b : ℕ) (r : Bool) → (nat_lt 1 a && nat_le a b) ≡ false → (nat_lt 1 a && nat_le a b && r) ≡ false
left_out a b r e = by (nat_lt 1 a) (nat_le a b) e
  where
    by : (s t : Bool) → (s && t) ≡ false → (s && t && r) ≡ false
    by true true e = absurd (true≢false e)
    by true false e = refl
    by false t e = refl

pub descriptors_step : (b : List ℕ) → has_descriptor b ≡ true
    → are_descriptors (length b) b ≡ are_descriptors (length (drop (slice_index b 0) b)) (drop (slice_index b 0) b)
unfolding are_descriptors
descriptors_step [] e = absurd (true≢false (sym e))
descriptors_step (x ∷ b) e =
    let rest = drop x (x ∷ b) in
    let h = both x (length (x ∷ b)) e in
    ap (λ t. t && nat_le x (length (x ∷ b)) && are_descriptors (length b) rest) (is_above x h.0)
    ∙ ap (λ t. t && are_descriptors (length b) rest) (is_within x (length (x ∷ b)) h.1)
    ∙ descriptors_enough (length b) (length rest) rest (left_within (length b) x (x ∷ b) h.0 (omega arith)) (omega arith)

pub descriptors_end : (b : List ℕ) → has_descriptor b ≡ false → are_descriptors (length b) b ≡ (length b == 0)
unfolding are_descriptors
descriptors_end [] e = refl
descriptors_end (x ∷ b) e = left_out x (length (x ∷ b)) (are_descriptors (length b) (drop x (x ∷ b))) e ∙ sym (isnt_none (length b))

pub descriptors_smaller : (b : List ℕ) → has_descriptor b ≡ true → length (drop (slice_index b 0) b) < length b
descriptors_smaller b e =
    let h = both (slice_index b 0) (length b) e in
    omega (arith, h.0, h.1, length-drop (slice_index b 0) b)

-- the halts without those of one setting more
pub halts_more : (halts number : ℕ) (t : SettingOffer) (ts : List SettingOffer) →
    fold without_halt halts (interface_addresses (t ∷ ts) number)
    ≡ fold without_halt (fold without_halt halts (addresses_in number t)) (interface_addresses ts number)
halts_more halts number t ts = fold-append without_halt halts (addresses_in number t) (interface_addresses ts number)
