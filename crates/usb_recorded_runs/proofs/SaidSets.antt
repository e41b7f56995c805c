-- The configurations of a device by all that it said of them, and by its descriptors: they offer the same.
use Rattle.std.proofs.Common.{◌≡◌, ◌⊎◌, inl, inr, ◌<◌, ◌≤◌, ◌+◌, ◌/◌, ◌%◌, ◌==◌, ◌&&◌, ◌||◌, nat_lt, nat_le, ℕ, zero, suc, Bool, true, false, not, if◌then◌else◌, List, [], ◌∷◌, ◌++◌, append_assoc, length, drop, map, refl, sym, ◌∙◌, ap, ap₂, subst, arith, length-append}
use Rattle.std.specs.Prelude.{Some, None, is_some, slice_get, slice_index, unwrap_or}
use Rattle.std.specs.List.{flat_map, list_all, list_any, range_with_len}
use Rattle.std.specs.Option.{option_map}
use Rattle.std.proofs.lemmas.Bool.{and_parts, cases_lt, eq-eqb, eqb-true, lt-ltb, ltb-true, not-false, or_parts}
use Rattle.std.proofs.lemmas.Bool.Decides.{nat_tests}
use Rattle.std.proofs.lemmas.List.{append-nil, get_or_past}
use Rattle.std.proofs.lemmas.List.Folds.{list_any-append}
use Rattle.std.proofs.Math.Seq.{drop-append_seam}
use Rattle.usb_fields.specs.Bytes.{AreBytes, little_endian_at}
use Rattle.usb_fields.specs.Device.{device_bytes}
use Rattle.usb_fields.specs.declared.packet.Speed.{Speed}
use Rattle.usb_set.specs.declared.extra.Extra.{Extra}
use Rattle.usb_set.specs.declared.extra.Extra.TheVariants as extras
use Rattle.usb_set.specs.declared.fault.EncodeFault.TheVariants as encoding
use Rattle.usb_set.specs.declared.tree.Configuration.{Configuration}
use Rattle.usb_set.specs.declared.tree.Endpoint.{Endpoint}
use Rattle.usb_set.specs.declared.tree.SetKind.{SetKind}
use Rattle.usb_set.specs.declared.tree.SetKind.TheVariants as kinds
use Rattle.usb_set.specs.declared.tree.Setting.{Setting}
use Rattle.usb_set.specs.Descriptors.{Descriptor, configuration_descriptor, descriptor_bytes, endpoint_descriptor, extra_descriptor, interface_descriptor, type_number}
use Rattle.usb_set.specs.Layout.{endpoint_descriptors, has_long_descriptor, has_typed_raw, is_typed_raw, set_descriptors, set_length, setting_descriptors}
use Rattle.usb_set.specs.Owners.{setting_extras}
use Rattle.usb_set.proofs.Items.{two_bytes}
use Rattle.usb_set.proofs.Sets.{length-set_bytes}
use Rattle.usb_file_data.specs.declared.file.DescriptorFile.{DescriptorFile}
use Rattle.usb_file_data.specs.File.{file_bytes, has_no_layout, has_wrong_count, has_wrong_kind, has_wrong_layout, is_other_kind, is_other_miscounted, other_sets, whole_set}
use Rattle.usb_file_data.proofs.WholeSets.{no_some}
use Rattle.usb_device.specs.Accepted.{Accepted, has_wrong_sets}
use Rattle.usb_device.specs.Descriptors.{descriptor, set_at}
use Rattle.usb_device.specs.Offers.{EndpointOffer, SetOffer, SettingOffer, endpoint_offer, offer_of, set_offer, setting_offer}
use Rattle.usb_capture.specs.declared.asked.Asked.{Asked}
use Rattle.usb_capture.specs.DeviceStates.{are_all_said, are_descriptors, endpoints_said, is_all_said, offer_said, set_said, settings_said}
use Rattle.usb_capture.specs.Findings.{beside, configuration, configuration_count}
use Rattle.usb_capture.specs.Readings.{is_whole}
use Rattle.usb_recorded_runs.specs.Answers.{descriptor_of}
use Rattle.usb_recorded_runs.proofs.SizeLemmas.{IsFront}
use Rattle.usb_recorded_runs.proofs.TransferLemmas.{front_at}

-- ---- a descriptor and what follows it

past : (d : Descriptor) (rest : List ℕ) → drop (2 + length d.body) (descriptor_bytes d ++ rest) ≡ rest
past d rest =
    let counts : 2 + length d.body ≡ length (descriptor_bytes d) = omega arith in
    ap (λ k. drop k (descriptor_bytes d ++ rest)) counts ∙ drop-append_seam (descriptor_bytes d) rest

left_over : (most : ℕ) (d : Descriptor) (rest : List ℕ) → length (descriptor_bytes d ++ rest) ≤ suc most → length rest ≤ most
left_over most d rest few = omega (arith, few, length-append (descriptor_bytes d) rest)

has_two : (n : ℕ) → nat_lt 1 (2 + n) ≡ true
has_two n = grind (arith, nat_tests)

within : (m n : ℕ) → m ≤ n → nat_le m n ≡ true
within m n few = grind (arith, nat_tests)

-- ---- the endpoints of a setting

-- the offer of an endpoint by its bytes, and what a descriptor of this type adds to the endpoints after it
abbrev endpoint_at : List ℕ → EndpointOffer
endpoint_at b = record { address = slice_index b 2; attributes = slice_index b 3 }

abbrev endpoints_by : Bool → ℕ → EndpointOffer → List EndpointOffer → List EndpointOffer
endpoints_by long kind e later = if not long || kind == 4 then [] else if kind == 5 then e ∷ later else later

endpoints_step : (most : ℕ) (d : Descriptor) (rest : List ℕ)
    → endpoints_said (suc most) (descriptor_bytes d ++ rest) ≡ endpoints_by true d.kind (endpoint_at (descriptor_bytes d ++ rest)) (endpoints_said most rest)
unfolding endpoints_said
endpoints_step most d rest =
    let b = descriptor_bytes d ++ rest in
    ap (λ long. endpoints_by long d.kind (endpoint_at b) (endpoints_said most (drop (2 + length d.body) b))) (has_two (length d.body))
    ∙ ap (λ later. endpoints_by true d.kind (endpoint_at b) (endpoints_said most later)) (past d rest)

-- The bytes of these descriptors say these endpoints, up to the next setting.
abbrev SayEndpoints : List Descriptor → List EndpointOffer → Type 0
SayEndpoints ds es = (most : ℕ) → length (flat_map descriptor_bytes ds) ≤ most → endpoints_said most (flat_map descriptor_bytes ds) ≡ es

endpoints_end : SayEndpoints [] []
unfolding endpoints_said
endpoints_end zero few = refl
endpoints_end (suc most) few = refl

endpoints_stop : (s : Setting) (ds : List Descriptor) → SayEndpoints (interface_descriptor s ∷ ds) []
endpoints_stop s ds zero few = absurd (let w : ⊥ = omega (arith, few) in w)
endpoints_stop s ds (suc most) few = endpoints_step most (interface_descriptor s) (flat_map descriptor_bytes ds)

endpoints_take : (e : Endpoint) (ds : List Descriptor) (es : List EndpointOffer) → SayEndpoints ds es
    → SayEndpoints (endpoint_descriptor e ∷ ds) (endpoint_offer e ∷ es)
endpoints_take e ds es say zero few = absurd (let w : ⊥ = omega (arith, few) in w)
endpoints_take e ds es say (suc most) few =
    let rest = flat_map descriptor_bytes ds in
    endpoints_step most (endpoint_descriptor e) rest ∙ ap (λ later. endpoint_offer e ∷ later) (say most (left_over most (endpoint_descriptor e) rest few))

endpoints_skip : (d : Descriptor) (ds : List Descriptor) (es : List EndpointOffer) → (d.kind == 4) ≡ false → (d.kind == 5) ≡ false → SayEndpoints ds es
    → SayEndpoints (d ∷ ds) es
endpoints_skip d ds es four five say zero few = absurd (let w : ⊥ = omega (arith, few) in w)
endpoints_skip d ds es four five say (suc most) few =
    let rest = flat_map descriptor_bytes ds in
    endpoints_step most d rest
    ∙ of (d.kind == 4) (d.kind == 5) (endpoint_at (descriptor_bytes d ++ rest)) (endpoints_said most rest) four five
    ∙ say most (left_over most d rest few)
  where
    of : (setting endpoint : Bool) (e : EndpointOffer) (later : List EndpointOffer) → setting ≡ false → endpoint ≡ false
        → (if setting then [] else if endpoint then e ∷ later else later) ≡ later
    of false false e later a b = refl
    of setting endpoint e later a b = absurd (let w : ⊥ = cc in w)

-- ---- the settings of a configuration

abbrev setting_at : List ℕ → List EndpointOffer → SettingOffer
setting_at b es = record { number = slice_index b 2; alternate = slice_index b 3; endpoints = es }

abbrev settings_by : Bool → ℕ → SettingOffer → List SettingOffer → List SettingOffer
settings_by long kind s later = if not long then [] else if kind == 4 then s ∷ later else later

settings_step : (most : ℕ) (d : Descriptor) (rest : List ℕ)
    → settings_said (suc most) (descriptor_bytes d ++ rest)
    ≡ settings_by true d.kind (setting_at (descriptor_bytes d ++ rest) (endpoints_said most rest)) (settings_said most rest)
unfolding settings_said
settings_step most d rest =
    let b = descriptor_bytes d ++ rest in
    let last = drop (2 + length d.body) b in
    ap (λ long. settings_by long d.kind (setting_at b (endpoints_said most last)) (settings_said most last)) (has_two (length d.body))
    ∙ ap (λ later. settings_by true d.kind (setting_at b (endpoints_said most later)) (settings_said most later)) (past d rest)

-- The bytes of these descriptors say these settings.
abbrev SaySettings : List Descriptor → List SettingOffer → Type 0
SaySettings ds ss = (most : ℕ) → length (flat_map descriptor_bytes ds) ≤ most → settings_said most (flat_map descriptor_bytes ds) ≡ ss

settings_end : SaySettings [] []
unfolding settings_said
settings_end zero few = refl
settings_end (suc most) few = refl

-- a setting with these endpoints
abbrev setting_with : Setting → List EndpointOffer → SettingOffer
setting_with s es = record { number = s.number; alternate = s.alternate; endpoints = es }

settings_take : (s : Setting) (ds : List Descriptor) (es : List EndpointOffer) (ss : List SettingOffer) → SayEndpoints ds es → SaySettings ds ss
    → SaySettings (interface_descriptor s ∷ ds) (setting_with s es ∷ ss)
settings_take s ds es ss ends say zero few = absurd (let w : ⊥ = omega (arith, few) in w)
settings_take s ds es ss ends say (suc most) few =
    let rest = flat_map descriptor_bytes ds in
    let less = left_over most (interface_descriptor s) rest few in
    settings_step most (interface_descriptor s) rest ∙ ap₂ (λ es ss. setting_with s es ∷ ss) (ends most less) (say most less)

settings_skip : (d : Descriptor) (ds : List Descriptor) (ss : List SettingOffer) → (d.kind == 4) ≡ false → SaySettings ds ss → SaySettings (d ∷ ds) ss
settings_skip d ds ss four say zero few = absurd (let w : ⊥ = omega (arith, few) in w)
settings_skip d ds ss four say (suc most) few =
    let rest = flat_map descriptor_bytes ds in
    settings_step most d rest
    ∙ of (d.kind == 4) (setting_at (descriptor_bytes d ++ rest) (endpoints_said most rest)) (settings_said most rest) four
    ∙ say most (left_over most d rest few)
  where
    of : (setting : Bool) (s : SettingOffer) (later : List SettingOffer) → setting ≡ false → (if setting then s ∷ later else later) ≡ later
    of false s later a = refl
    of true s later a = absurd (let w : ⊥ = cc in w)

-- ---- the descriptors of a configuration

-- An extra is no interface and no endpoint, where none that is kept as it is has a type that a set gives a meaning.
extra_type : (x : Extra) → is_typed_raw x ≡ false → (((extra_descriptor x).kind == 4) ≡ false) × (((extra_descriptor x).kind == 5) ≡ false)
extra_type (extras.Association a) right = (refl, refl)
extra_type (extras.Raw r) right = of (r.kind == 2) (r.kind == 4) (r.kind == 5) (r.kind == 7) (r.kind == 11) right
  where
    of : (two four five seven eleven : Bool)
        → is_some {T = ℕ}
        (if two then Some 9 else if four then Some 9 else if five then Some 7 else if seven then Some 9 else if eleven then Some 8 else None) ≡ false
        → (four ≡ false) × (five ≡ false)
    of false false false seven eleven e = (refl, refl)
    of true four five seven eleven e = absurd (let w : ⊥ = cc in w)
    of false true five seven eleven e = absurd (let w : ⊥ = cc in w)
    of false false true seven eleven e = absurd (let w : ⊥ = cc in w)

-- no extra of these, or of those
none_typed : (xs ys : List Extra) → list_any is_typed_raw (xs ++ ys) ≡ false → (list_any is_typed_raw xs ≡ false) × (list_any is_typed_raw ys ≡ false)
none_typed xs ys right = or_parts (list_any is_typed_raw xs) (list_any is_typed_raw ys) (sym (list_any-append is_typed_raw xs ys) ∙ right)

abbrev endpoint_extras : List Endpoint → List Extra
endpoint_extras es = flat_map (λ e. e.extras) es

extras_in_setting : (xs : List Extra) (ds : List Descriptor) (es : List EndpointOffer) → list_any is_typed_raw xs ≡ false → SayEndpoints ds es
    → SayEndpoints (map extra_descriptor xs ++ ds) es
extras_in_setting [] ds es right say = say
extras_in_setting (x ∷ xs) ds es right say =
    let parts = or_parts (is_typed_raw x) (list_any is_typed_raw xs) right in
    let type = extra_type x parts.0 in
    endpoints_skip (extra_descriptor x) (map extra_descriptor xs ++ ds) es type.0 type.1 (extras_in_setting xs ds es parts.1 say)

endpoints_in_setting : (es : List Endpoint) (ds : List Descriptor) → list_any is_typed_raw (endpoint_extras es) ≡ false → SayEndpoints ds []
    → SayEndpoints (flat_map endpoint_descriptors es ++ ds) (map endpoint_offer es)
endpoints_in_setting [] ds right say = say
endpoints_in_setting (e ∷ es) ds right say =
    let parts = none_typed e.extras (endpoint_extras es) right in
    let more = flat_map endpoint_descriptors es in
    subst (λ later. SayEndpoints (endpoint_descriptor e ∷ later) (endpoint_offer e ∷ map endpoint_offer es))
    (sym (append_assoc (map extra_descriptor e.extras) more ds))
    (endpoints_take e (map extra_descriptor e.extras ++ (more ++ ds)) (map endpoint_offer es)
    (extras_in_setting e.extras (more ++ ds) (map endpoint_offer es) parts.0 (endpoints_in_setting es ds parts.1 say)))

extras_in_set : (xs : List Extra) (ds : List Descriptor) (ss : List SettingOffer) → list_any is_typed_raw xs ≡ false → SaySettings ds ss
    → SaySettings (map extra_descriptor xs ++ ds) ss
extras_in_set [] ds ss right say = say
extras_in_set (x ∷ xs) ds ss right say =
    let parts = or_parts (is_typed_raw x) (list_any is_typed_raw xs) right in
    settings_skip (extra_descriptor x) (map extra_descriptor xs ++ ds) ss (extra_type x parts.0).0 (extras_in_set xs ds ss parts.1 say)

endpoints_in_set : (es : List Endpoint) (ds : List Descriptor) (ss : List SettingOffer) → list_any is_typed_raw (endpoint_extras es) ≡ false
    → SaySettings ds ss → SaySettings (flat_map endpoint_descriptors es ++ ds) ss
endpoints_in_set [] ds ss right say = say
endpoints_in_set (e ∷ es) ds ss right say =
    let parts = none_typed e.extras (endpoint_extras es) right in
    let more = flat_map endpoint_descriptors es in
    subst (λ later. SaySettings (endpoint_descriptor e ∷ later) ss) (sym (append_assoc (map extra_descriptor e.extras) more ds))
    (settings_skip (endpoint_descriptor e) (map extra_descriptor e.extras ++ (more ++ ds)) ss refl
    (extras_in_set e.extras (more ++ ds) ss parts.0 (endpoints_in_set es ds ss parts.1 say)))

-- no endpoint stands before a setting
before_settings : (ss : List Setting) → SayEndpoints (flat_map setting_descriptors ss) []
before_settings [] = endpoints_end
before_settings (s ∷ ss) =
    endpoints_stop s ((map extra_descriptor s.extras ++ flat_map endpoint_descriptors s.endpoints) ++ flat_map setting_descriptors ss)

settings_in_set : (ss : List Setting) → list_any is_typed_raw (flat_map setting_extras ss) ≡ false
    → SaySettings (flat_map setting_descriptors ss) (map setting_offer ss)
settings_in_set [] right = settings_end
settings_in_set (s ∷ ss) right =
    let parts = none_typed (setting_extras s) (flat_map setting_extras ss) right in
    let own = none_typed s.extras (endpoint_extras s.endpoints) parts.0 in
    let first = map extra_descriptor s.extras in
    let ends = flat_map endpoint_descriptors s.endpoints in
    let later = flat_map setting_descriptors ss in
    let joined = sym (append_assoc first ends later) in
    settings_take s ((first ++ ends) ++ later) (map endpoint_offer s.endpoints) (map setting_offer ss)
    (subst (λ ds. SayEndpoints ds (map endpoint_offer s.endpoints)) joined
    (extras_in_setting s.extras (ends ++ later) (map endpoint_offer s.endpoints) own.0
    (endpoints_in_setting s.endpoints later own.1 (before_settings ss))))
    (subst (λ ds. SaySettings ds (map setting_offer ss)) joined
    (extras_in_set s.extras (ends ++ later) (map setting_offer ss) own.0
    (endpoints_in_set s.endpoints later (map setting_offer ss) own.1 (settings_in_set ss parts.1))))

-- ---- a whole configuration

untyped : (c : Configuration) → has_no_layout c ≡ false → has_typed_raw c ≡ false
untyped c right =
    let long = no_some (has_long_descriptor c) encoding.Tail _ right in
    (no_some (has_typed_raw c) encoding.RawKind _ long.1).0

no_setting : (kind : SetKind) → (type_number kind == 4) ≡ false
no_setting kinds.Configuration = refl
no_setting kinds.OtherSpeed = refl

set_settings : (c : Configuration) (total : ℕ) → has_typed_raw c ≡ false → SaySettings (set_descriptors c total) (map setting_offer c.settings)
set_settings c total right =
    let parts = none_typed c.extras (flat_map setting_extras c.settings) right in
    let later = flat_map setting_descriptors c.settings in
    settings_skip (configuration_descriptor c total) (map extra_descriptor c.extras ++ later) (map setting_offer c.settings) (no_setting c.kind)
    (extras_in_set c.extras later (map setting_offer c.settings) parts.0 (settings_in_set c.settings parts.1))

abbrev set_with : Configuration → List SettingOffer → SetOffer
set_with c ss = record { value = c.value; attributes = c.attributes; settings = ss }

-- What a configuration's bytes say of it is what it offers.
pub set_is_said : (c : Configuration) → has_no_layout c ≡ false → set_said (whole_set c) ≡ set_offer c
unfolding whole_set
set_is_said c right = ap (set_with c) (set_settings c (set_length c) (untyped c right) (length (whole_set c)) (omega arith))

descriptors_stand : (ds : List Descriptor) (most : ℕ) → length (flat_map descriptor_bytes ds) ≤ most
    → are_descriptors most (flat_map descriptor_bytes ds) ≡ true
unfolding are_descriptors
descriptors_stand [] zero few = refl
descriptors_stand [] (suc most) few = refl
descriptors_stand (d ∷ ds) zero few = absurd (let w : ⊥ = omega (arith, few) in w)
descriptors_stand (d ∷ ds) (suc most) few =
    let rest = flat_map descriptor_bytes ds in
    let b = descriptor_bytes d ++ rest in
    let fits : 2 + length d.body ≤ length b = omega (arith, length-append d.body rest) in
    let later : are_descriptors most (drop (2 + length d.body) b) ≡ true =
    ap (are_descriptors most) (past d rest) ∙ descriptors_stand ds most (left_over most d rest few) in
    of (nat_lt 1 (2 + length d.body)) (nat_le (2 + length d.body) (length b)) (are_descriptors most (drop (2 + length d.body) b))
    (has_two (length d.body)) (within (2 + length d.body) (length b) fits) later
  where
    of : (x y z : Bool) → x ≡ true → y ≡ true → z ≡ true → (x && y && z) ≡ true
    of true true true a b c = refl
    of x y z a b c = absurd (let w : ⊥ = cc in w)

set_total : (c : Configuration) → little_endian_at (whole_set c) 2 ≡ length (whole_set c)
unfolding whole_set
set_total c =
    let low : slice_index (whole_set c) 2 ≡ set_length c % 256 = refl in
    let high : slice_index (whole_set c) 3 ≡ set_length c / 256 = refl in
    omega (arith, low, high, two_bytes (set_length c), length-set_bytes c (set_length c) 0)

-- Its bytes are all of a configuration, in whole descriptors.
pub set_is_all_said : (c : Configuration) → is_other_kind kinds.Configuration c ≡ false → is_all_said (whole_set c) ≡ true
unfolding whole_set
set_is_all_said c own =
    let b = whole_set c in
    of (nat_lt 3 (length b)) (slice_index b 1 == 2) (length b == little_endian_at b 2) (are_descriptors (length b) b)
    (lt-ltb 3 (length b) (omega arith)) (not-false (type_number c.kind == 2) own) (eq-eqb (length b) (little_endian_at b 2) (sym (set_total c)))
    (descriptors_stand (set_descriptors c (set_length c)) (length b) (omega arith))
  where
    of : (x y z w : Bool) → x ≡ true → y ≡ true → z ≡ true → w ≡ true → ((x && y && z) && w) ≡ true
    of true true true true a b c d = refl
    of x y z w a b c d = absurd (let v : ⊥ = cc in v)

-- First bytes of a configuration that are as many as they say are all of it.
whole_front : (c : Configuration) (front : List ℕ) → IsFront front (whole_set c) → is_whole 2 front ≡ true → front ≡ whole_set c
whole_front c front is whole = sym (ap (λ r. front ++ r) (none is.0 no_more) ∙ append-nil front) ∙ is.1
  where
    parts : ((nat_lt 3 (length front) && slice_index front 1 == 2) ≡ true) × ((length front == little_endian_at front 2) ≡ true)
    parts = and_parts (nat_lt 3 (length front) && slice_index front 1 == 2) (length front == little_endian_at front 2) whole

    long : 3 < length front
    long = ltb-true 3 (length front) (and_parts (nat_lt 3 (length front)) (slice_index front 1 == 2) parts.0).0

    says : length front ≡ little_endian_at front 2
    says = eqb-true (length front) (little_endian_at front 2) parts.1

    no_more : length is.0 ≡ 0
    no_more = omega (
      arith,
      says,
      front_at front (whole_set c) 2 is (omega (arith, long)),
      front_at front (whole_set c) 3 is long,
      set_total c,
      length-append front is.0,
      ap length is.1,
    )

    none : (xs : List ℕ) → length xs ≡ 0 → xs ≡ []
    none [] e = refl
    none (x ∷ xs) e = absurd (let w : ⊥ = omega (arith, e) in w)

-- ---- all configurations of a device

module _ (said : ℕ → List ℕ) where
  sets_from : (first : ℕ) (cs : List Configuration) → list_any has_no_layout cs ≡ false
      → ((i place : ℕ) (c : Configuration) → place ≡ first + i → slice_get cs i ≡ Some c → IsFront (said place) (whole_set c))
      → list_all (λ i. is_all_said (said i)) (range_with_len first (length cs)) ≡ true
      → map (λ i. set_said (said i)) (range_with_len first (length cs)) ≡ map set_offer cs
  sets_from first [] right fronts all = refl
  sets_from first (c ∷ cs) right fronts all =
      let laid = or_parts (has_no_layout c) (list_any has_no_layout cs) right in
      let each = and_parts (is_all_said (said first)) (list_all (λ i. is_all_said (said i)) (range_with_len (first + 1) (length cs))) all in
      let whole = and_parts (is_whole 2 (said first)) (are_descriptors (length (said first)) (said first)) each.0 in
      let same : said first ≡ whole_set c = whole_front c (said first) (fronts 0 first c (omega arith) refl) whole.0 in
      ap₂ ◌∷◌ (ap set_said same ∙ set_is_said c laid.0)
      (sets_from (first + 1) cs laid.1 (λ i place d at there. fronts (suc i) place d (omega (arith, at)) there) each.1)

-- accepted descriptors have as many sets as the device says, each with bytes and the type of a configuration
record RightSets (f : DescriptorFile) : Type 0 where
  count : length f.sets ≡ f.device.configurations
  types : list_any (is_other_kind kinds.Configuration) f.sets ≡ false
  layouts : list_any has_no_layout f.sets ≡ false

right_sets : (f : DescriptorFile) → has_wrong_sets f ≡ false → RightSets f
unfolding has_wrong_sets
right_sets f right =
    let parts = or_parts (has_wrong_count f || has_wrong_kind f) (has_wrong_layout f) right in
    let counted = or_parts (has_wrong_count f) (has_wrong_kind f) parts.0 in
    let own = (or_parts (not (length f.sets == f.device.configurations)) (is_other_miscounted f.other) counted.0).0 in
    record {
      count = eqb-true (length f.sets) f.device.configurations (not-false (length f.sets == f.device.configurations) own);
      types = (or_parts (list_any (is_other_kind kinds.Configuration) f.sets) (list_any (is_other_kind kinds.OtherSpeed) (other_sets f.other)) counted.1).0;
      layouts = (or_parts (list_any has_no_layout f.sets) (list_any has_no_layout (other_sets f.other)) parts.1).0;
    }

byte_at : (b : List ℕ) (i : ℕ) → AreBytes b → slice_index b i < 256
byte_at [] zero each = omega arith
byte_at [] (suc i) each = omega arith
byte_at (x ∷ b) zero each = each.0
byte_at (x ∷ b) (suc i) each = byte_at b i each.1

place_below : (cs : List Configuration) (i : ℕ) (c : Configuration) → slice_get cs i ≡ Some c → i < length cs
place_below [] i c there = absurd (let w : ⊥ = cc in w)
place_below (d ∷ cs) zero c there = omega arith
place_below (d ∷ cs) (suc i) c there = omega (arith, place_below cs i c there)

-- What is known of the descriptors of this device it has said: of each one its first bytes, or none of them.
abbrev pub IsSaidOf : DescriptorFile → (Asked → List ℕ) → Asked → Type 0
IsSaidOf f known asked = (other : Asked) → other.bus ≡ asked.bus → other.device ≡ asked.device → IsFront (known other) (descriptor_of f other)

module _ (f : DescriptorFile) (known : Asked → List ℕ) (asked : Asked) (is : IsSaidOf f known asked) where
  own_count : nat_lt 0 (configuration_count known asked) ≡ true → configuration_count known asked ≡ f.device.configurations
  own_count some = of (cases_lt 17 (length (known (beside asked 256))))
    where
      of : (17 < length (known (beside asked 256))) ⊎ (length (known (beside asked 256)) ≤ 17) → configuration_count known asked ≡ f.device.configurations
      of (inl long) = front_at (known (beside asked 256)) (device_bytes f.device) 17 (is (beside asked 256) refl refl) long
      of (inr short) =
          absurd (let w : ⊥ = omega (arith, get_or_past (known (beside asked 256)) 17 0 short, ltb-true 0 (configuration_count known asked) some) in w)

  set_front : (i : ℕ) (c : Configuration) → i < 256 → slice_get f.sets i ≡ Some c → IsFront (configuration known asked i) (whole_set c)
  set_front i c low there =
      let kind : (512 + i) / 256 ≡ 2 = omega (arith, low) in
      let index : (512 + i) % 256 ≡ i = omega (arith, low) in
      subst (λ o. IsFront (configuration known asked i) (unwrap_or (option_map whole_set o) [])) there
      (subst (λ n. IsFront (configuration known asked i) (unwrap_or (set_at f.sets n) [])) index
      (subst (λ k. IsFront (configuration known asked i) (unwrap_or (descriptor f k ((512 + i) % 256) 0) [])) kind
      (is (beside asked (512 + i)) refl refl)))

-- A device that said all of its configurations offers by them what it offers by its descriptors, where its sets are right,
pub right_sets_are_said : (f : DescriptorFile) → has_wrong_sets f ≡ false → AreBytes (file_bytes f) → (known : Asked → List ℕ) (asked : Asked)
    → IsSaidOf f known asked → are_all_said known asked ≡ true → (offer_said known asked).sets ≡ (offer_of f).sets
right_sets_are_said f sets bytes known asked is all =
    let right = right_sets f sets in
    let said : ℕ → List ℕ = λ i. configuration known asked i in
    let parts = and_parts (nat_lt 0 (configuration_count known asked))
    (list_all (λ i. is_all_said (said i)) (range_with_len 0 (configuration_count known asked))) all in
    let count : configuration_count known asked ≡ length f.sets = own_count f known asked is parts.0 ∙ sym right.count in
    let few : f.device.configurations < 256 = byte_at (file_bytes f) 17 bytes in
    ap (λ n. map (λ i. set_said (said i)) (range_with_len 0 n)) count
    ∙ sets_from said 0 f.sets right.layouts
    (λ i place c at there.
    let same : place ≡ i = omega (arith, at) in
    let low : i < 256 = omega (arith, place_below f.sets i c there, right.count, few) in
    subst (λ n. IsFront (said n) (whole_set c)) (sym same) (set_front f known asked is i c low there))
    (subst (λ n. list_all (λ i. is_all_said (said i)) (range_with_len 0 n) ≡ true) count parts.1)

-- as those of accepted descriptors are.
pub sets_are_said : (f : DescriptorFile) (speed : Speed) → Accepted f speed → AreBytes (file_bytes f) → (known : Asked → List ℕ) (asked : Asked)
    → IsSaidOf f known asked → are_all_said known asked ≡ true → (offer_said known asked).sets ≡ (offer_of f).sets
sets_are_said f speed accepted bytes known asked is all = right_sets_are_said f accepted.sets bytes known asked is all

-- no set of the list, so not this one
not_this : (test : Configuration → Bool) (cs : List Configuration) (i : ℕ) (c : Configuration) → slice_get cs i ≡ Some c
    → list_any test cs ≡ false → test c ≡ false
not_this test [] i c there none = absurd (let w : ⊥ = cc in w)
not_this test (d ∷ cs) zero c there none =
    let same : d ≡ c = cc in
    ap test (sym same) ∙ (or_parts (test d) (list_any test cs) none).0
not_this test (d ∷ cs) (suc i) c there none = not_this test cs i c there (or_parts (test d) (list_any test cs) none).1

-- And all bytes of each of its configurations are all that there is to say of it.
pub sets_say_all : (f : DescriptorFile) (speed : Speed) → Accepted f speed → (i : ℕ) (c : Configuration) → slice_get f.sets i ≡ Some c
    → (is_all_said (whole_set c) ≡ true) × (set_said (whole_set c) ≡ set_offer c)
sets_say_all f speed accepted i c there =
    let right = right_sets f accepted.sets in (
      set_is_all_said c (not_this (is_other_kind kinds.Configuration) f.sets i c there right.types),
      set_is_said c (not_this has_no_layout f.sets i c there right.layouts),
    )
