-- A device's answer to GET_DESCRIPTOR tells its packet size.
use Rattle.std.proofs.Common.{◌≡◌, ◌⊎◌, inl, inr, ◌<◌, ◌≤◌, ◌/◌, ◌%◌, ◌-◌, ◌==◌, ◌&&◌, min, ℕ, zero, suc, Bool, true, false, if◌then◌else◌, List, [], ◌∷◌, ◌++◌, append_assoc, length, take, drop, refl, sym, ◌∙◌, ap, subst, arith, length-append}
use Rattle.std.specs.Prelude.{Option, Some, None, unwrap_or, nat_lt, slice_index}
use Rattle.std.proofs.lemmas.Bool.Decides.{nat_tests}
use Rattle.std.proofs.lemmas.List.{append-nil, get_or-take, get_or_append_left, length-take, take-append-drop}
use Rattle.usb_fields.specs.declared.device.DeviceDescriptor.{DeviceDescriptor}
use Rattle.usb_fields.specs.declared.setup.Setup.{Setup}
use Rattle.usb_fields.specs.Device.{device_bytes}
use Rattle.usb_fields.specs.Packets.{joined, packets, packets_within}
use Rattle.usb_fields.proofs.PacketLemmas.{joined-packets}
use Rattle.usb_file_data.specs.declared.file.DescriptorFile.{DescriptorFile}
use Rattle.usb_device.specs.declared.state.State.{State}
use Rattle.usb_device.specs.Descriptors.{descriptor}
use Rattle.usb_device.specs.Requests.{Bytes, Done, answer, answer_of, gives}
use Rattle.usb_recorded_runs.proofs.FrontLemmas.{front_joins}
use Rattle.usb_capture.specs.Readings.{is_whole, reads_descriptor}
pub use Rattle.usb_recorded_runs.specs.Findings.{described_by}
use Rattle.usb_recorded_runs.proofs.SizeLemmas.{Fronts, IsFront, IsNoneOrAll, TellsLong, TellsSize}

-- ---- what the table answers

module _ (f : DescriptorFile) (s : State) where
  abbrev pub asked_so : ℕ → ℕ → ℕ → Setup
  asked_so value index size = record { request_type = 128; request = 6; value = value; index = index; length = size }

  pub table_gives : (value index size : ℕ) → answer f s (asked_so value index size)
      ≡ gives s (asked_so value index size) (descriptor f (value / 256) (value % 256) index)
  unfolding answer answer_of
  table_gives value index size = refl

  -- the device descriptor, cut to wLength
  cut_so : (value index size : ℕ) (bytes : List ℕ) (none : Bool)
      → (if none then Done s else Bytes (take size (device_bytes f.device))) ≡ Bytes bytes → bytes ≡ take size (device_bytes f.device)
  cut_so value index size bytes true e = absurd (let w : ⊥ = cc in w)
  cut_so value index size bytes false e = cc

  gives_cut : (value index size : ℕ) (bytes : List ℕ) (first : Bool)
      → gives s (asked_so value index size) (if first then Some (device_bytes f.device) else None) ≡ Bytes bytes → bytes ≡ take size (device_bytes f.device)
  gives_cut value index size bytes false e = absurd (let w : ⊥ = cc in w)
  gives_cut value index size bytes true e = cut_so value index size bytes (size == 0) e

  tells_so : (value index size : ℕ) (bytes : List ℕ) → value / 256 ≡ 1 → answer f s (asked_so value index size) ≡ Bytes bytes
      → bytes ≡ take size (device_bytes f.device)
  tells_so value index size bytes kind e =
      gives_cut value index size bytes (value % 256 == 0)
      (sym (ap (λ k. gives s (asked_so value index size) (descriptor f k (value % 256) index)) kind) ∙ sym (table_gives value index size) ∙ e)

  pub device_reported : (q : Setup) (bytes : List ℕ) → q.request_type ≡ 128 → q.request ≡ 6 → q.value / 256 ≡ 1 → answer f s q ≡ Bytes bytes
      → bytes ≡ take q.length (device_bytes f.device)
  device_reported q bytes type request kind e =
      let same : q ≡ asked_so q.value q.index q.length = (λ i. record { request_type = type i; request = request i; value = q.value; index = q.index; length = q.length }) in
      tells_so q.value q.index q.length bytes kind (ap (answer f s) (sym same) ∙ e)

module _ (f : DescriptorFile) (s : State) where
  cut_any : (size : ℕ) (all bytes : List ℕ) (none : Bool) → (if none then Done s else Bytes (take size all)) ≡ Bytes bytes → bytes ≡ take size all
  cut_any size all bytes true e = absurd (let w : ⊥ = cc in w)
  cut_any size all bytes false e = cc

  gives_any : (value index size : ℕ) (bytes : List ℕ) (o : Option (List ℕ)) → gives s (asked_so f s value index size) o ≡ Bytes bytes → bytes ≡ take size (unwrap_or o [])
  gives_any value index size bytes None e = absurd (let w : ⊥ = cc in w)
  gives_any value index size bytes (Some all) e = cut_any size all bytes (size == 0) e

  pub any_reported : (q : Setup) (bytes : List ℕ) → q.request_type ≡ 128 → q.request ≡ 6 → answer f s q ≡ Bytes bytes → bytes ≡ take q.length (described_by f q)
  any_reported q bytes type request e =
      let same : q ≡ asked_so f s q.value q.index q.length = (λ i. record { request_type = type i; request = request i; value = q.value; index = q.index; length = q.length }) in
      gives_any q.value q.index q.length bytes (descriptor f (q.value / 256) (q.value % 256) q.index)
      (sym (table_gives f s q.value q.index q.length) ∙ ap (answer f s) (sym same) ∙ e)

-- ---- the bytes of the first packets

no_bytes : (most : ℕ) (bytes : List ℕ) (limit : ℕ) → joined (packets_within most bytes 0 limit) ≡ []
unfolding packets_within
no_bytes zero bytes limit = refl
no_bytes (suc most) bytes limit = of (limit == 0) (nat_lt (length bytes) 0) refl (no_bytes most (drop 0 bytes) (limit - 0))
  where
    of : (none short : Bool) → nat_lt (length bytes) 0 ≡ short → joined (packets_within most (drop 0 bytes) 0 (limit - 0)) ≡ []
        → joined (if none then [] else (if short then bytes ∷ [] else take 0 bytes ∷ packets_within most (drop 0 bytes) 0 (limit - 0))) ≡ []
    of true short e later = refl
    of false true e later = absurd (grind (arith, nat_tests))
    of false false e later = later

none_joined : (bytes : List ℕ) (limit : ℕ) → joined (packets bytes 0 limit) ≡ []
unfolding packets
none_joined bytes limit = no_bytes limit bytes limit

short_cut : (n : ℕ) (bytes : List ℕ) → length (take n bytes) ≤ n
short_cut n bytes = omega (arith, length-take n bytes)

-- What the first packets join to is in front of the bytes.
front_of : (size limit : ℕ) (bytes : List ℕ) (m : ℕ) → length bytes ≤ limit
    → (rest : List ℕ) × ((joined (take m (packets bytes size limit)) ++ rest ≡ bytes) ⊎ (joined (take m (packets bytes size limit)) ++ rest ≡ []))
front_of zero limit bytes m within =
    (joined (drop m (packets bytes 0 limit)), inr (front_joins m (packets bytes 0 limit) ∙ none_joined bytes limit))
front_of (suc size) limit bytes m within =
    (joined (drop m (packets bytes (suc size) limit)), inl (front_joins m (packets bytes (suc size) limit) ∙ joined-packets bytes (suc size) limit (omega arith) within))

record WholeParts (some type all : Bool) : Type 0 where
  has_some : some ≡ true
  of_type : type ≡ true
  has_all : all ≡ true

whole_parts : (some type all : Bool) → (some && type && all) ≡ true → WholeParts some type all
whole_parts true true true e = record { has_some = refl; of_type = refl; has_all = refl }
whole_parts some type all e = absurd (let w : ⊥ = cc in w)

more_than_one : (n : ℕ) → nat_lt 1 n ≡ true → 1 < n
more_than_one n e = grind (arith, nat_tests)

same_number : (m n : ℕ) → (m == n) ≡ true → m ≡ n
same_number m n e = grind (arith, nat_tests)

-- a front of the device descriptor that has more than seven bytes
long_tells : (d : DeviceDescriptor) (limit : ℕ) (front rest : List ℕ) → front ++ rest ≡ take limit (device_bytes d) → 7 < length front → slice_index front 7 ≡ d.packet
long_tells d limit front rest joins long =
    let within : length front ≤ limit = omega (arith, length-append front rest, ap length joins, short_cut limit (device_bytes d)) in
    sym (get_or_append_left front rest 0 7 long) ∙ ap (λ b. slice_index b 7) joins ∙ get_or-take limit (device_bytes d) 7 0 (omega (arith, long, within))

-- a front of the device descriptor that has all its bytes
whole_tells : (d : DeviceDescriptor) (limit : ℕ) (front rest : List ℕ) → front ++ rest ≡ take limit (device_bytes d) → is_whole 1 front ≡ true → slice_index front 7 ≡ d.packet
whole_tells d limit front rest joins whole =
    let parts : WholeParts (nat_lt 1 (length front)) (slice_index front 1 == 1) (length front == slice_index front 0) =
    whole_parts (nat_lt 1 (length front)) (slice_index front 1 == 1) (length front == slice_index front 0) whole in
    let some : 1 < length front = more_than_one (length front) parts.has_some in
    let within : length front ≤ limit = omega (arith, length-append front rest, ap length joins, short_cut limit (device_bytes d)) in
    let at : (i : ℕ) → i < length front → slice_index front i ≡ slice_index (device_bytes d) i =
    (λ i low. sym (get_or_append_left front rest 0 i low) ∙ ap (λ b. slice_index b i) joins ∙ get_or-take limit (device_bytes d) i 0 (omega (arith, low, within))) in
    let long : length front ≡ 18 = same_number (length front) (slice_index front 0) parts.has_all ∙ at 0 (omega (arith, some)) in
    at 7 (omega (arith, long))

nothing_front : (front rest : List ℕ) → front ++ rest ≡ [] → front ≡ []
nothing_front [] rest e = refl
nothing_front (x ∷ front) rest e = absurd (let w : ⊥ = cc in w)

read_parts : (type request : Bool) → (type && request) ≡ true → (type ≡ true) × (request ≡ true)
read_parts true true e = (refl, refl)
read_parts type request e = absurd (let w : ⊥ = cc in w)

-- The answer to a request for a descriptor has as many bytes as are asked for, or all.
pub answered_length : (f : DescriptorFile) (s : State) (q : Setup) (bytes : List ℕ) → answer f s q ≡ Bytes bytes → reads_descriptor q ≡ true
    → length bytes ≡ min q.length (length (described_by f q))
answered_length f s q bytes e read =
    let parts = read_parts (q.request_type == 128) (q.request == 6) read in
    ap length (any_reported f s q bytes (same_number q.request_type 128 parts.0) (same_number q.request 6 parts.1) e) ∙ length-take q.length (described_by f q)

-- and it begins with them
pub answered_front : (f : DescriptorFile) (s : State) (q : Setup) (bytes : List ℕ) → answer f s q ≡ Bytes bytes → reads_descriptor q ≡ true
    → IsFront bytes (described_by f q)
answered_front f s q bytes e read =
    let parts = read_parts (q.request_type == 128) (q.request == 6) read in (
      drop q.length (described_by f q),
      ap (λ b. b ++ drop q.length (described_by f q)) (any_reported f s q bytes (same_number q.request_type 128 parts.0) (same_number q.request 6 parts.1) e)
          ∙ take-append-drop q.length (described_by f q),
    )

-- So it is in the first packets of the answer to a request for the device descriptor.
long_fronts : (f : DescriptorFile) (s : State) (q : Setup) (bytes : List ℕ) → answer f s q ≡ Bytes bytes → length bytes ≤ q.length → (m : ℕ)
    → TellsLong f.device.packet q (joined (take m (packets bytes f.device.packet q.length)))
long_fronts f s q bytes e within m read kind long =
    let parts = read_parts (q.request_type == 128) (q.request == 6) read in
    let of_device : q.value / 256 ≡ 1 = same_number (q.value / 256) 1 kind in
    let is : bytes ≡ take q.length (device_bytes f.device) =
    device_reported f s q bytes (same_number q.request_type 128 parts.0) (same_number q.request 6 parts.1) of_device e in
    let before = front_of f.device.packet q.length bytes m within in
    of before.0 before.1 is
  where
    front : List ℕ
    front = joined (take m (packets bytes f.device.packet q.length))

    of : (rest : List ℕ) → (front ++ rest ≡ bytes) ⊎ (front ++ rest ≡ []) → bytes ≡ take q.length (device_bytes f.device) → slice_index front 7 ≡ f.device.packet
    of rest (inl joins) is = long_tells f.device q.length front rest (joins ∙ is) long
    of rest (inr none) is = absurd (let w : ⊥ = omega (arith, long, ap length (nothing_front front rest none)) in w)

-- The first packets of the answer to a request for a descriptor are its first bytes.
any_front : (f : DescriptorFile) (s : State) (q : Setup) (bytes : List ℕ) → answer f s q ≡ Bytes bytes → length bytes ≤ q.length → (m : ℕ)
    → reads_descriptor q ≡ true → IsFront (joined (take m (packets bytes f.device.packet q.length))) (described_by f q)
any_front f s q bytes e within m read =
    let parts = read_parts (q.request_type == 128) (q.request == 6) read in
    let is : bytes ≡ take q.length (described_by f q) = any_reported f s q bytes (same_number q.request_type 128 parts.0) (same_number q.request 6 parts.1) e in
    let before = front_of f.device.packet q.length bytes m within in
    of before.0 before.1 is
  where
    front : List ℕ
    front = joined (take m (packets bytes f.device.packet q.length))

    of : (rest : List ℕ) → (front ++ rest ≡ bytes) ⊎ (front ++ rest ≡ []) → bytes ≡ take q.length (described_by f q) → IsFront front (described_by f q)
    of rest (inl joins) is = (
      rest ++ drop q.length (described_by f q),
      sym (append_assoc front rest (drop q.length (described_by f q))) ∙ ap (λ b. b ++ drop q.length (described_by f q)) (joins ∙ is)
          ∙ take-append-drop q.length (described_by f q),
    )
    of rest (inr none) is = (described_by f q, ap (λ b. b ++ described_by f q) (nothing_front front rest none))

no_packets : (m : ℕ) → joined (take m []) ≡ []
no_packets zero = refl
no_packets (suc m) = refl

not_less : (m n : ℕ) → nat_lt m n ≡ false → n ≤ m
not_less m n e = grind (arith, nat_tests)

-- Each packet but the last one has as many bytes as a packet can have.
whole_within : (size most : ℕ) (bytes : List ℕ) (limit m : ℕ) → 8 ≤ size → length (joined (take m (packets_within most bytes size limit))) < 8
    → (length (joined (take m (packets_within most bytes size limit))) ≡ 0) ⊎ (joined (take m (packets_within most bytes size limit)) ≡ bytes)
unfolding packets_within
whole_within size most bytes limit zero whole less = inl refl
whole_within size zero bytes limit (suc m) whole less = inl refl
whole_within size (suc most) bytes limit (suc m) whole less = of (limit == 0) (nat_lt (length bytes) size) refl less
  where
    later : List (List ℕ)
    later = packets_within most (drop size bytes) size (limit - size)

    of : (none short : Bool) → nat_lt (length bytes) size ≡ short
        → length (joined (take (suc m) (if none then [] else (if short then bytes ∷ [] else take size bytes ∷ later)))) < 8
        → (length (joined (take (suc m) (if none then [] else (if short then bytes ∷ [] else take size bytes ∷ later)))) ≡ 0)
        ⊎ (joined (take (suc m) (if none then [] else (if short then bytes ∷ [] else take size bytes ∷ later))) ≡ bytes)
    of true short e less = inl refl
    of false true e less = inr (ap (λ b. bytes ++ b) (no_packets m) ∙ append-nil bytes)
    of false false e less =
        absurd (let w : ⊥ = omega (arith, less, whole, not_less (length bytes) size e, length-take size bytes, length-append (take size bytes) (joined (take m later))) in w)

whole_packets : (size : ℕ) (bytes : List ℕ) (limit m : ℕ) → 8 ≤ size → length (joined (take m (packets bytes size limit))) < 8
    → (length (joined (take m (packets bytes size limit))) ≡ 0) ⊎ (joined (take m (packets bytes size limit)) ≡ bytes)
unfolding packets
whole_packets size bytes limit m whole less = whole_within size limit bytes limit m whole less

none_or_all : (f : DescriptorFile) (s : State) (q : Setup) (bytes : List ℕ) → answer f s q ≡ Bytes bytes → (m : ℕ)
    → reads_descriptor q ≡ true → IsNoneOrAll f.device.packet (described_by f) q (joined (take m (packets bytes f.device.packet q.length)))
none_or_all f s q bytes e m read whole less =
    let parts = read_parts (q.request_type == 128) (q.request == 6) read in
    let is : bytes ≡ take q.length (described_by f q) = any_reported f s q bytes (same_number q.request_type 128 parts.0) (same_number q.request 6 parts.1) e in
    of is (whole_packets f.device.packet bytes q.length m whole less)
  where
    front : List ℕ
    front = joined (take m (packets bytes f.device.packet q.length))

    of : bytes ≡ take q.length (described_by f q) → (length front ≡ 0) ⊎ (front ≡ bytes) → (length front ≡ 0) ⊎ (front ≡ take q.length (described_by f q))
    of is (inl none) = inl none
    of is (inr all) = inr (all ∙ is)

-- The first packets of an answer tell no other size.
fronts_tell : (f : DescriptorFile) (s : State) (q : Setup) (bytes : List ℕ) → answer f s q ≡ Bytes bytes
    → (m : ℕ) → TellsSize f.device.packet q (joined (take m (packets bytes f.device.packet q.length)))
fronts_tell f s q bytes e m read kind whole =
    let parts = read_parts (q.request_type == 128) (q.request == 6) read in
    let of_device : q.value / 256 ≡ 1 = same_number (q.value / 256) 1 kind in
    let is : bytes ≡ take q.length (device_bytes f.device) =
    device_reported f s q bytes (same_number q.request_type 128 parts.0) (same_number q.request 6 parts.1) of_device e in
    let within : length bytes ≤ q.length = omega (arith, ap length is, short_cut q.length (device_bytes f.device)) in
    let front = joined (take m (packets bytes f.device.packet q.length)) in
    let has : is_whole 1 front ≡ true = subst (λ k. is_whole k front ≡ true) of_device whole in
    let before = front_of f.device.packet q.length bytes m within in
    of before.0 before.1 has is
  where
    of : (rest : List ℕ) → (joined (take m (packets bytes f.device.packet q.length)) ++ rest ≡ bytes) ⊎ (joined (take m (packets bytes f.device.packet q.length)) ++ rest ≡ [])
        → is_whole 1 (joined (take m (packets bytes f.device.packet q.length))) ≡ true → bytes ≡ take q.length (device_bytes f.device)
        → slice_index (joined (take m (packets bytes f.device.packet q.length))) 7 ≡ f.device.packet
    of rest (inl joins) has is = whole_tells f.device q.length (joined (take m (packets bytes f.device.packet q.length))) rest (joins ∙ is) has
    of rest (inr none) has is =
        absurd (let e : false ≡ true = sym (ap (is_whole 1) (nothing_front (joined (take m (packets bytes f.device.packet q.length))) rest none)) ∙ has in let w : ⊥ = cc in w)

-- nor are they more bytes than were asked for
fronts_few : (size limit : ℕ) (bytes : List ℕ) (m : ℕ) → length bytes ≤ limit → length (joined (take m (packets bytes size limit))) ≤ limit
fronts_few size limit bytes m within = let before = front_of size limit bytes m within in of before.0 before.1
  where
    front : List ℕ
    front = joined (take m (packets bytes size limit))

    of : (rest : List ℕ) → (front ++ rest ≡ bytes) ⊎ (front ++ rest ≡ []) → length front ≤ limit
    of rest (inl joins) = omega (arith, length-append front rest, ap length joins)
    of rest (inr none) = omega (arith, ap length (nothing_front front rest none))

pub all_fronts : (f : DescriptorFile) (s : State) (q : Setup) (bytes : List ℕ) → answer f s q ≡ Bytes bytes → length bytes ≤ q.length → (m : ℕ)
    → Fronts f.device.packet (described_by f) q (joined (take m (packets bytes f.device.packet q.length)))
all_fronts f s q bytes e within m =
    record { tells = record { whole = fronts_tell f s q bytes e m; front = any_front f s q bytes e within m; few = none_or_all f s q bytes e m }; few = fronts_few f.device.packet q.length bytes m within; long = long_fronts f s q bytes e within m }
