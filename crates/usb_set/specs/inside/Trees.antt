-- The bytes, the length and the tests of each part of a set's tree.
use Rattle.std.specs.Prelude.{ℕ, List, ◌++◌, Bool, ◌||◌, ◌≡◌, ◌<◌, false, ◌+◌, min, if◌then◌else◌, ◌≤◌, length, take, Option, Some, None}
use Rattle.std.specs.List.{flat_map, list_any}
use Rattle.usb_set.specs.declared.extra.Extra.{Extra}
use Rattle.usb_set.specs.declared.tree.Endpoint.{Endpoint}
use Rattle.usb_set.specs.declared.tree.Setting.{Setting}
use Rattle.usb_set.specs.declared.tree.Configuration.{Configuration}
use Rattle.usb_set.specs.Descriptors.{descriptor_bytes, extra_descriptor, endpoint_descriptor, interface_descriptor, configuration_descriptor}
use Rattle.usb_set.specs.Layout.{is_long, is_typed_raw, set_length, has_long_descriptor, has_typed_raw}

-- The bytes and the tests of each part of a set's tree.

-- the bytes of an extra, of an endpoint, of a setting and of a set, each with all that belongs to it
abbrev pub extra_bytes : Extra → List ℕ
extra_bytes x = descriptor_bytes (extra_descriptor x)

abbrev pub endpoint_bytes : Endpoint → List ℕ
endpoint_bytes e = descriptor_bytes (endpoint_descriptor e) ++ flat_map extra_bytes e.extras

abbrev pub setting_bytes : Setting → List ℕ
setting_bytes s = descriptor_bytes (interface_descriptor s) ++ flat_map extra_bytes s.extras ++ flat_map endpoint_bytes s.endpoints

abbrev pub tree_bytes : Configuration → ℕ → List ℕ
tree_bytes c total = descriptor_bytes (configuration_descriptor c total) ++ flat_map extra_bytes c.extras ++ flat_map setting_bytes c.settings

-- whether a descriptor of it would be over 255 bytes
abbrev pub is_extra_long : Extra → Bool
is_extra_long x = is_long (extra_descriptor x)

abbrev pub is_endpoint_long : Endpoint → Bool
is_endpoint_long e = is_long (endpoint_descriptor e) || list_any is_extra_long e.extras

abbrev pub is_setting_long : Setting → Bool
is_setting_long s = is_long (interface_descriptor s) || list_any is_extra_long s.extras || list_any is_endpoint_long s.endpoints

abbrev pub is_tree_long : Configuration → Bool
is_tree_long c = is_long (configuration_descriptor c 0) || list_any is_extra_long c.extras || list_any is_setting_long c.settings

-- whether an extra of it is raw and has a type that a set reads
abbrev pub is_endpoint_typed : Endpoint → Bool
is_endpoint_typed e = list_any is_typed_raw e.extras

abbrev pub is_setting_typed : Setting → Bool
is_setting_typed s = list_any is_typed_raw s.extras || list_any is_endpoint_typed s.endpoints

abbrev pub is_tree_typed : Configuration → Bool
is_tree_typed c = list_any is_typed_raw c.extras || list_any is_setting_typed c.settings

-- How many bytes a set has, where it has any.

-- the set is refused for no reason, and it has this many bytes
pub record HasLength (c : Configuration) (total : ℕ) : Type 0 where
  pub within_255 : has_long_descriptor c ≡ false
  pub raws_are_raw : has_typed_raw c ≡ false
  pub is_length : total ≡ set_length c
  pub short : total < 65536

-- What the encoder's pass over a set counts.

-- the count of bytes after `count` more, or 65536 where that is less, or where one of their descriptors is long or
-- is raw and typed
abbrev pub measured : ℕ → Bool → Bool → ℕ → ℕ
measured start long typed count = if long || typed then 65536 else min (start + count) 65536

-- how much a count is; none is 65536, more than wTotalLength can say
abbrev pub counted : Option ℕ → ℕ
counted None = 65536
counted (Some count) = count

-- Writing bytes into a buffer, one part after another.

-- there is room for the bytes at this place
abbrev pub HasRoom : List ℕ → ℕ → List ℕ → Type 0
HasRoom buffer at bytes = at + length bytes ≤ length buffer

-- the bytes are at this place, after what was before it, and end there; the buffer keeps its length
pub record Puts (old : List ℕ) (at : ℕ) (bytes new : List ℕ) (end : ℕ) : Type 0 where
  pub front : take end new ≡ take at old ++ bytes
  pub ends : end ≡ at + length bytes
  pub count : length new ≡ length old
