-- Descriptors as numbers, and the walk from one to the next.
use Rattle.std.specs.Prelude.{◌≡◌, ◌≤◌, ℕ, ◌+◌, ◌-◌, ◌&&◌, nat_le, List, [], ◌∷◌, length, fold, drop, slice_index, Bool, Option, Some, None, unwrap_or, if◌then◌else◌}
use Rattle.std.specs.Option.{option_map}
use Rattle.usb_fields.specs.Bytes.{little_endian_at}
use Rattle.usb_set.specs.Descriptors.{packet_size_of, transactions_of}
use Rattle.usb_walk.specs.declared.position.Position.{Position}
use Rattle.usb_walk.specs.declared.role.Role.{Role}
use Rattle.usb_walk.specs.declared.role.Role.TheVariants as roles
use Rattle.usb_walk.specs.declared.string_place.StringPlace.{StringPlace}
use Rattle.usb_walk.specs.declared.walked_descriptor.WalkedDescriptor.{WalkedDescriptor}
use Rattle.usb_walk.specs.NamedStrings.{indices_in, indices_of_role, list_at, no_string, string_among, with_index}
use Rattle.usb_walk.specs.Numbered.{Numbered, next_position, numbered_next}
use Rattle.usb_walk.specs.Owners.{part_in}
use Rattle.usb_walk.specs.Places.{part_number}
use Rattle.usb_walk.specs.Positions.{first_position}
use Rattle.usb_walk.specs.RoleNumbers.{role_number}
use Rattle.usb_walk.specs.Roles.{next_role}
use Rattle.usb_walk.specs.Surroundings.{depth_of}
use Rattle.usb_fields.specs.Unfolded.{unfolded}

-- What a descriptor is, as numbers.

-- the part of a descriptor of this role: the qualifier's is that of the sets after it, and of what is in no set 0
abbrev pub part_of_role : Role → Position → ℕ
part_of_role roles.Device p = 0
part_of_role roles.Qualifier p = 2
part_of_role roles.Languages p = 0
part_of_role roles.Text p = 0
part_of_role role p = part_number (part_in p)

-- the role of what an association and a raw descriptor belong to, which is the depth below it: 2 a configuration, 3 an
-- interface, 4 an endpoint; others are no extras
abbrev pub holder_of_role : Role → Position → ℕ
holder_of_role roles.Association p = p.below
holder_of_role roles.Raw p = p.below
holder_of_role role p = 0

-- the index and the language of the string that a descriptor of this role is, after another one
abbrev pub string_of_role : Role → List ℕ → WalkedDescriptor → StringPlace
string_of_role roles.Text b was = string_among (indices_in was.named) (list_at b was.languages_place) was.position.strings
string_of_role role b was = no_string

-- the place of the list of languages, once it came
abbrev pub languages_at : Role → ℕ → ℕ → ℕ
languages_at roles.Languages at was = at
languages_at role at was = was

-- a number of an endpoint, and 0 of any other descriptor
abbrev pub of_endpoint : Role → ℕ → ℕ
of_endpoint roles.Endpoint n = n
of_endpoint role n = 0

-- with what an endpoint says of itself; 0 transactions where bits 12 and 11 of wMaxPacketSize are reserved (USB 2.0, 9.6.6)
abbrev pub with_endpoint : Role → List ℕ → WalkedDescriptor → WalkedDescriptor
with_endpoint role d it =
    let max_packet = little_endian_at d 4 in
    record it {
      attributes = of_endpoint role (slice_index d 3);
      packet = of_endpoint role (packet_size_of max_packet);
      transactions = of_endpoint role (unwrap_or (transactions_of max_packet) 0);
      interval = of_endpoint role (slice_index d 6);
    }

-- with what belongs to a descriptor of this role alone, where the position is after it
abbrev pub with_role : Role → List ℕ → WalkedDescriptor → WalkedDescriptor
with_role role d it = record it {
  owner = holder_of_role role it.position;
  part = part_of_role role it.position;
  named = fold with_index it.named (indices_of_role role d);
  languages_place = languages_at role it.place it.languages_place;
}

-- a descriptor of these bytes at its position, after another one
unfoldable pub as_numbers : List ℕ → WalkedDescriptor → Numbered → WalkedDescriptor
as_numbers b was n =
    let q = next_position n in
    let string = string_of_role n.role b was in
    with_role n.role n.bytes (with_endpoint n.role n.bytes (record was {
      place = n.position.at;
      endpoint_number = q.endpoints - 1;
      language = string.language;
      length = slice_index n.bytes 0;
      kind = slice_index n.bytes 1;
      role = role_number n.role;
      depth = depth_of n.position n.role;
      index = string.index;
      position = q;
    }))

-- The walk.

-- there are no more of anything than bytes before
unfoldable pub is_counted : Position → Bool
is_counted p =
    nat_le p.strings p.at && (nat_le p.main_sets p.at && (nat_le p.other_sets p.at
    && (nat_le p.associations p.at && (nat_le p.settings p.at && nat_le p.endpoints p.at))))

-- the descriptor with which the bytes at the position of one begin
abbrev pub next_as_numbers : List ℕ → WalkedDescriptor → Option WalkedDescriptor
next_as_numbers b was =
    let ahead = drop was.position.at b in option_map (λ next. as_numbers b was (numbered_next was.position ahead next)) (next_role was.position ahead)

-- The descriptor after one, where one can be there. After a struct that counts more than the bytes before it have there is none.
unfoldable pub next_of : List ℕ → WalkedDescriptor → Option WalkedDescriptor
next_of b was = if is_counted was.position then next_as_numbers b was else None

-- The descriptor after a struct begins at the position of the struct, has two bytes at least and ends within the bytes; the walk
-- goes on where it ends.
pub record GoesOn (b : List ℕ) (was d : WalkedDescriptor) : Type 0 where
  pub place : d.place ≡ was.position.at
  pub least : 2 ≤ d.length
  pub most : d.place + d.length ≤ length b
  pub next : d.position.at ≡ d.place + d.length

-- so it is of each struct, whatever its numbers
abbrev pub AllGoOn : Type 0
AllGoOn = (b : List ℕ) (was d : WalkedDescriptor) → next_of b was ≡ Some d → GoesOn b was d

-- the struct before the first descriptor: {0}
abbrev pub nothing : WalkedDescriptor
nothing = record {
  place = 0;
  languages_place = 0;
  endpoint_number = 0;
  named = 0 ∷ 0 ∷ 0 ∷ 0 ∷ [];
  language = 0;
  packet = 0;
  length = 0;
  kind = 0;
  role = 0;
  owner = 0;
  depth = 0;
  part = 0;
  index = 0;
  attributes = 0;
  transactions = 0;
  interval = 0;
  position = first_position;
}

-- the descriptors after one, at most n
abbrev pub first_walked : ℕ → List ℕ → WalkedDescriptor → List WalkedDescriptor
first_walked n b was = unfolded (next_of b) (λ was d. (d, d)) n was

-- all of them from the first one on: there are no more than bytes
abbrev pub walked : List ℕ → List WalkedDescriptor
walked b = first_walked (length b) b nothing

-- these descriptors as numbers, after one
abbrev pub all_as_numbers : List ℕ → WalkedDescriptor → List Numbered → List WalkedDescriptor
all_as_numbers b was [] = []
all_as_numbers b was (n ∷ ns) = as_numbers b was n ∷ all_as_numbers b (as_numbers b was n) ns
