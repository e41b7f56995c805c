-- What a walk over a set finds, by what it keeps of the descriptors before.
use Rattle.std.specs.Prelude.{ℕ, List, [], ◌∷◌, Bool, filter, ◌++◌, map, ◌+◌, take, length, not, ◌==◌, ◌&&◌, ◌||◌}
use Rattle.std.specs.List.{range_with_len, flat_map, list_any}
use Rattle.usb_set.specs.declared.extra.Extra.{Extra}
use Rattle.usb_set.specs.declared.extra.Extra.TheVariants as extras
use Rattle.usb_set.specs.declared.tree.Endpoint.{Endpoint}
use Rattle.usb_set.specs.declared.tree.Setting.{Setting}
use Rattle.usb_set.specs.Owners.{association_in}
use Rattle.usb_file_data.specs.File.{association_string_index}
use Rattle.usb_set.specs.declared.tree.Configuration.{Configuration}
use Rattle.usb_file_data.specs.declared.finding.Part.{Part}
use Rattle.usb_file_data.specs.declared.cause.Cause.{Cause}
use Rattle.usb_file_data.specs.declared.cause.Cause.TheVariants as causes
use Rattle.usb_file_data.specs.declared.place.Place.{Place}
use Rattle.usb_file_data.specs.Places.{at_each_counted, is_among, when}
use Rattle.usb_file_data.specs.Causes.{Broken, address_cause, association_cause, attributes_cause, broken_by, value_cause}
use Rattle.usb_file_data.specs.Rules.{address_of, has_elsewhere, has_number_gap, interface_numbers, number_of, value_of, wrong_address, wrong_attributes, wrong_endpoint_count, wrong_interface_count, wrong_packet_size}
use Rattle.usb_file_data.specs.Findings.{association_count, endpoint_associations, setting_associations}
use Rattle.usb_file_data.specs.inside.Interfaces.{misses_some, has_alternate}

-- The marked numbers in order.

-- the marked ones of `count` numbers from the first on, in order
unfoldable pub marked_among : ℕ → ℕ → (ℕ → Bool) → List ℕ
marked_among first count marks = filter marks (range_with_len first count)

-- The indices of strings that the extras of a set name, owner by owner.

-- of an extra
abbrev pub extra_indices : Extra → List ℕ
extra_indices x = map association_string_index (association_in x)

-- of the extras of an endpoint
abbrev pub endpoint_extra_indices : Endpoint → List ℕ
endpoint_extra_indices e = flat_map extra_indices e.extras

-- of those of a setting
abbrev pub setting_extra_indices : Setting → List ℕ
setting_extra_indices s = flat_map extra_indices s.extras ++ flat_map endpoint_extra_indices s.endpoints

-- a place at the numbers of a set, a setting and an endpoint
abbrev pub place : Part → ℕ → ℕ → ℕ → Place
place part set setting endpoint = record { part = part; set = set; setting = setting; endpoint = endpoint }

-- the rule that is broken at a place by a cause
abbrev pub broken : Cause → Place → Broken
broken cause at = broken_by cause at.part at.set at.setting at.endpoint

-- whether a setting of the list has the address under another number than this
abbrev pub shared_with : List Setting → ℕ → ℕ → Bool
shared_with settings address number = list_any (has_elsewhere number address) settings

-- V13 at an extra of a set, by the interface numbers that it has
abbrev pub in_extra : Place → (ℕ → Bool) → ℕ → Extra → List Broken
in_extra at stands n (extras.Association a) = when (misses_some stands a) (broken_by (association_cause a) at.part at.set n 0)
in_extra at stands n x = []

-- at extras one after another
abbrev pub in_extras : Place → (ℕ → Bool) → ℕ → List Extra → List (List Broken)
in_extras at stands n [] = []
in_extras at stands n (x ∷ xs) = in_extra at stands n x ∷ in_extras at stands (n + length (association_in x)) xs

-- at an endpoint, given those before in its setting, and which addresses other interfaces have
abbrev pub in_endpoint : Place → (ℕ → Bool) → (ℕ → Bool) → Endpoint → List Broken
in_endpoint at here elsewhere e =
    when (wrong_address e.address) (broken (address_cause e.address) at)
    ++ when (here e.address) (broken causes.RepeatedAddress at)
    ++ when (elsewhere e.address) (broken causes.SharedAddress at)
    ++ when (wrong_packet_size e.max_packet) (broken causes.PacketSize at)

-- at an endpoint of a setting and its extras, by its place and how many associations come before
abbrev pub endpoint_at : Place → (ℕ → Bool) → (ℕ → ℕ → Bool) → Setting → ℕ → ℕ → Endpoint → List (List Broken)
endpoint_at at stands elsewhere s k n e =
    in_endpoint (place at.part at.set at.setting k) (is_among (map address_of (take k s.endpoints))) (λ b. elsewhere b s.number) e
    ∷ in_extras at stands n e.extras

-- at an interface, given whether the whole set has an alternate, which numbers and alternates come before
abbrev pub in_interface : Place → (ℕ → ℕ → Bool) → (ℕ → Bool) → (ℕ → ℕ → Bool) → Setting → List Broken
in_interface at whole numbers alternates s =
    when (alternates s.number s.alternate) (broken causes.RepeatedSetting at)
    ++ when (not (numbers s.number) && not (whole s.number 0)) (broken causes.NoDefaultSetting at)
    ++ when (wrong_endpoint_count s) (broken (causes.EndpointCount s.declared_endpoints (length s.endpoints)) at)

-- in a setting, by what the whole set has, what comes before it, which addresses other interfaces have, and how many
-- associations come before
abbrev pub in_setting : Place → (ℕ → Bool) → (ℕ → ℕ → Bool) → (ℕ → Bool) → (ℕ → ℕ → Bool) → (ℕ → ℕ → Bool) → ℕ → Setting → List (List Broken)
in_setting at stands whole numbers alternates elsewhere n s =
    in_interface at whole numbers alternates s
    ∷ in_extras at stands n s.extras
    ++ at_each_counted endpoint_associations (endpoint_at at stands elsewhere s) 0 (n + association_count s.extras) s.endpoints

-- at a setting of a set, by its place and how many associations come before
abbrev pub setting_at : Place → List Setting → ℕ → ℕ → Setting → List (List Broken)
setting_at at settings j n s =
    in_setting (place at.part at.set j 0) (is_among (map number_of settings)) (has_alternate settings)
    (is_among (map number_of (take j settings))) (has_alternate (take j settings)) (shared_with (take j settings)) n s

-- at the first descriptor of a set, by the values of those before it in its part
abbrev pub in_configuration : Place → (ℕ → Bool) → Configuration → List Broken
in_configuration at values c =
    when (wrong_interface_count c) (broken (causes.InterfaceCount c.declared_interfaces (length (interface_numbers c.settings))) at)
    ++ when (has_number_gap c) (broken causes.NumberGap at)
    ++ when (wrong_attributes c) (broken (attributes_cause c.attributes) at)
    ++ when ((c.value == 0) || values c.value) (broken (value_cause c.value) at)

-- in a set
abbrev pub in_set : Place → (ℕ → Bool) → Configuration → List (List Broken)
in_set at values c =
    in_configuration at values c
    ∷ in_extras at (is_among (map number_of c.settings)) 0 c.extras
    ++ at_each_counted setting_associations (setting_at at c.settings) 0 (association_count c.extras) c.settings

-- in a set of a part, by its place
abbrev pub set_at : Part → List Configuration → ℕ → Configuration → List (List Broken)
set_at part sets i c = in_set (place part i 0 0) (is_among (map value_of (take i sets))) c
