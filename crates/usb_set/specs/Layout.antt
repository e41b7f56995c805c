-- The bytes of a configuration set, and which sets have bytes (USB 2.0, 9.4.3 and 9.5).
use Rattle.std.specs.Prelude.{◌≡◌, ℕ, ◌≤◌, List, ◌∷◌, ◌++◌, length, map, Bool, false, nat_lt, is_some, Option, Some, None, if◌then◌else◌}
use Rattle.std.specs.List.{flat_map, list_any, AllByRecursion}
use Rattle.usb_fields.specs.Bytes.{AreBytes, IsByte}
use Rattle.usb_set.specs.Descriptors.{Descriptor, descriptor_bytes, extra_descriptor, endpoint_descriptor, interface_descriptor, configuration_descriptor, typed_length}
use Rattle.usb_set.specs.Owners.{extras_of}
use Rattle.usb_set.specs.declared.extra.Extra.{Extra}
use Rattle.usb_set.specs.declared.extra.Extra.TheVariants as extras
use Rattle.usb_set.specs.declared.tree.Endpoint.{Endpoint}
use Rattle.usb_set.specs.declared.tree.Setting.{Setting}
use Rattle.usb_set.specs.declared.tree.Configuration.{Configuration}
use Rattle.usb_set.specs.declared.fault.EncodeFault.{EncodeFault}
use Rattle.usb_set.specs.declared.fault.EncodeFault.TheVariants.{Tail, RawKind, TooLong, Memory}

-- The bytes of a configuration set (USB 2.0, 9.4.3 and 9.5).

-- an endpoint: its descriptor, and the extras that follow it
abbrev pub endpoint_descriptors : Endpoint → List Descriptor
endpoint_descriptors e = endpoint_descriptor e ∷ map extra_descriptor e.extras

-- an interface setting: its descriptor, the extras that follow it, and its endpoints
abbrev pub setting_descriptors : Setting → List Descriptor
setting_descriptors s = interface_descriptor s ∷ map extra_descriptor s.extras ++ flat_map endpoint_descriptors s.endpoints

-- all descriptors after the first: the set's extras, and its settings
abbrev pub later_descriptors : Configuration → List Descriptor
later_descriptors c = map extra_descriptor c.extras ++ flat_map setting_descriptors c.settings

-- all descriptors of the set, in order, with this number as wTotalLength
abbrev pub set_descriptors : Configuration → ℕ → List Descriptor
set_descriptors c total = configuration_descriptor c total ∷ later_descriptors c

-- their bytes, one descriptor after another
abbrev pub set_bytes : Configuration → ℕ → List ℕ
set_bytes c total = flat_map descriptor_bytes (set_descriptors c total)

-- whether the descriptor would be over 255 bytes, which bLength cannot say
abbrev pub is_long : Descriptor → Bool
is_long d = nat_lt 253 (length d.body)

-- whether any descriptor of the set would be: wTotalLength takes two bytes, whatever it is
abbrev pub has_long_descriptor : Configuration → Bool
has_long_descriptor c = list_any is_long (set_descriptors c 0)

-- whether it is the type of a descriptor that a set gives a meaning (table 9-5, and the ECN)
abbrev pub is_typed : ℕ → Bool
is_typed kind = is_some (typed_length kind)

-- whether the extra is raw and has such a type
abbrev pub is_typed_raw : Extra → Bool
is_typed_raw (extras.Raw r) = is_typed r.kind
is_typed_raw x = false

-- whether any extra of the set is
abbrev pub has_typed_raw : Configuration → Bool
has_typed_raw c = list_any is_typed_raw (extras_of c)

-- The layout of a set: these are its bytes, and wTotalLength is their count. Each field fits its byte
-- or its two bytes, no descriptor is over 255 bytes, and no raw one has a type that a set reads.
pub record Layout (c : Configuration) (b : List ℕ) : Type 0 where
  pub bytes : b ≡ set_bytes c (length b)
  pub fits : AreBytes b
  pub within_255 : has_long_descriptor c ≡ false
  pub raws_are_raw : has_typed_raw c ≡ false
  pub short : length b ≤ 65535

-- Which sets have bytes.

-- how many bytes the set has
abbrev pub set_length : Configuration → ℕ
set_length c = length (set_bytes c 0)

-- the first reason why the set has no bytes
abbrev pub refusal_of : Configuration → Option EncodeFault
refusal_of c =
    if has_long_descriptor c then Some Tail
    else if has_typed_raw c then Some RawKind
    else if nat_lt 65535 (set_length c) then Some TooLong
    else None

-- *Out of memory* is reported of sets that have bytes, and else the first reason.
abbrev pub Refuses : Configuration → EncodeFault → Type 0
Refuses c Memory = refusal_of c ≡ None
Refuses c fault = refusal_of c ≡ Some fault

-- a bDescriptorType of one byte, and after it bytes
abbrev pub FieldsFit : Descriptor → Type 0
FieldsFit d = IsByte d.kind × AreBytes d.body

-- each field of the set fits its byte or its two bytes: wTotalLength is left out, since it is none of the set's
abbrev pub AllFieldsFit : Configuration → Type 0
AllFieldsFit c = AllByRecursion FieldsFit (set_descriptors c 0)
