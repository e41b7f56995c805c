-- The parts of a set with what they belong to, in the order of its bytes, and what an iterator over them has left.
use Rattle.std.specs.Prelude.{List, [], ◌∷◌, ◌++◌, map, ℕ, drop, Option, Some, None}
use Rattle.std.specs.List.{flat_map}
use Rattle.usb_set.specs.declared.extra.Association.{Association}
use Rattle.usb_set.specs.declared.extra.Extra.{Extra}
use Rattle.usb_set.specs.declared.extra.Extra.TheVariants as extras
use Rattle.usb_set.specs.declared.tree.Setting.{Setting}
use Rattle.usb_set.specs.declared.tree.Configuration.{Configuration}
use Rattle.usb_set.specs.declared.tree.Endpoint.{Endpoint}
use Rattle.std.specs.Borrow.{Bor}
use Rattle.usb_set.specs.declared.owner.Endpoints.{Endpoints}
use Rattle.usb_set.specs.declared.owner.Owner.{Owner}
use Rattle.usb_set.specs.declared.owner.Owner.TheVariants as owners
use Rattle.usb_set.specs.declared.owner.Owners.{Owners}
use Rattle.usb_set.specs.declared.owner.Extras.{Extras}
use Rattle.usb_set.specs.declared.owner.Associations.{Associations}

-- The parts of a whole set as lists, in the order of its bytes.

-- the extras of a setting: its own, then those of its endpoints
abbrev pub setting_extras : Setting → List Extra
setting_extras s = s.extras ++ flat_map (λ e. e.extras) s.endpoints

-- the extras of a set: its own, then those of its settings
abbrev pub extras_of : Configuration → List Extra
extras_of c = c.extras ++ flat_map setting_extras c.settings

-- the association that the extra is, if it is one
abbrev pub association_in : Extra → List Association
association_in (extras.Association a) = a ∷ []
association_in x = []

-- the associations of a set
abbrev pub associations_of : Configuration → List Association
associations_of c = flat_map association_in (extras_of c)

-- The endpoints, extras and associations of a set with what they belong to, in the order of its bytes.

-- what an extra can belong to: a configuration, a setting, or an endpoint of a setting
pub data Holder : Type 0 where
  OfConfiguration : (configuration : Configuration) → Holder
  OfSetting : (setting : Setting) → Holder
  OfEndpoint : (setting : Setting) → (endpoint : Endpoint) → Holder

-- a setting and its endpoints
abbrev pub holders_in : Setting → List Holder
holders_in s = OfSetting s ∷ map (OfEndpoint s) s.endpoints

-- all that extras of a set can belong to
abbrev pub holders_of : Configuration → List Holder
holders_of c = OfConfiguration c ∷ flat_map holders_in c.settings

-- the extras that belong to it
abbrev pub extras_of_holder : Holder → List Extra
extras_of_holder (OfConfiguration c) = c.extras
extras_of_holder (OfSetting s) = s.extras
extras_of_holder (OfEndpoint s e) = e.extras

-- these extras, each with what they belong to
abbrev pub held : Holder → List Extra → List (Holder × Extra)
held h xs = map (λ x. (h, x)) xs

-- its extras, each with it
abbrev pub held_by : Holder → List (Holder × Extra)
held_by h = held h (extras_of_holder h)

-- the extras of a set, each with what it belongs to
abbrev pub held_extras : Configuration → List (Holder × Extra)
held_extras c = flat_map held_by (holders_of c)

-- the association that the extra is, with what it belongs to, if it is one
abbrev pub held_association : Holder → Extra → List (Holder × Association)
held_association h x = map (λ a. (h, a)) (association_in x)

-- the associations among them
abbrev pub associations_among : List (Holder × Extra) → List (Holder × Association)
associations_among xs = flat_map (λ x. held_association x.0 x.1) xs

-- the associations of a set, each with what it belongs to
abbrev pub held_associations : Configuration → List (Holder × Association)
held_associations c = associations_among (held_extras c)

-- the endpoints of a setting, each with the setting
abbrev pub endpoints_in : Setting → List (Setting × Endpoint)
endpoints_in s = map (λ e. (s, e)) s.endpoints

-- the endpoints of a set, each with its setting
abbrev pub endpoints_of : Configuration → List (Setting × Endpoint)
endpoints_of c = flat_map endpoints_in c.settings

-- What an iterator over a set has left, wherever it lies.

-- an endpoint with its setting
abbrev pub with_setting : Bor Setting × Bor Endpoint → Setting × Endpoint
with_setting p = (p.0.now, p.1.now)

-- the endpoints of these settings, without the first `given` of the first one
abbrev pub endpoints_from : List Setting → ℕ → List (Setting × Endpoint)
endpoints_from [] given = []
endpoints_from (s ∷ later) given = map (λ e. (s, e)) (drop given s.endpoints) ++ flat_map endpoints_in later

-- the endpoints that are still to come
abbrev pub endpoints_left : Endpoints → List (Setting × Endpoint)
endpoints_left i = endpoints_from i.settings.now i.given

-- what an extra belongs to
abbrev pub holder_of : Owner → Holder
holder_of (owners.Configuration c) = OfConfiguration c.now
holder_of (owners.Setting s) = OfSetting s.now
holder_of (owners.Endpoint s e) = OfEndpoint s.now e.now

-- endpoints of a setting, if there is one
abbrev pub holders_within : Option (Bor Setting) → List Endpoint → List Holder
holders_within None endpoints = []
holders_within (Some s) endpoints = map (OfEndpoint s.now) endpoints

-- what extras can belong to that is still to come
abbrev pub holders_left : Owners → List Holder
holders_left i = holders_within i.setting i.endpoints.now ++ flat_map holders_in i.settings.now

-- an extra with what it belongs to
abbrev pub with_holder : Owner × Bor Extra → Holder × Extra
with_holder p = (holder_of p.0, p.1.now)

-- the extras that are still to come
abbrev pub extras_left : Extras → List (Holder × Extra)
extras_left i = held (holder_of i.owner) i.extras.now ++ flat_map held_by (holders_left i.owners)

-- an association with what it belongs to
abbrev pub association_with_holder : Owner × Bor Association → Holder × Association
association_with_holder p = (holder_of p.0, p.1.now)

-- the associations that are still to come
abbrev pub associations_left : Associations → List (Holder × Association)
associations_left i = associations_among (extras_left i.extras)
