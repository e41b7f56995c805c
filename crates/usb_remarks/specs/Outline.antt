-- The outline of bytes: their descriptors one after another, each with all that is known of it at its place.
use Rattle.std.specs.Prelude.{ℕ, Bool, List, length, map, take, drop, flat_map, slice_index, Option}
use Rattle.std.specs.Option.{option_copied}
use Rattle.usb_file_data.specs.declared.cause.Found.{Found}
use Rattle.usb_names.specs.declared.codes.ClassCodes.{ClassCodes}
use Rattle.usb_remarks.specs.declared.descriptor.Descriptor.{Descriptor}
use Rattle.usb_walk.specs.declared.owner.DescriptorOwner.{DescriptorOwner}
use Rattle.usb_remarks.specs.declared.outline_state.OutlineState.{OutlineState}
use Rattle.usb_walk.specs.declared.place.Place.{Place}
use Rattle.usb_walk.specs.declared.role.Role.{Role}
use Rattle.usb_remarks.specs.declared.speed.SetSpeed.{SetSpeed}
use Rattle.usb_remarks.specs.Associations.{has_associations}
use Rattle.usb_remarks.specs.Bindings.{bound_at}
use Rattle.usb_remarks.specs.Contexts.{one_speed_at, speed_of}
use Rattle.usb_walk.specs.Surroundings.{codes_of, depth_of, interface_number, rest_of_set}
use Rattle.usb_remarks.specs.Findings.{found_at}
use Rattle.usb_remarks.specs.InterfaceNumbers.{follows, is_late, missing_interface}
use Rattle.usb_walk.specs.Owners.{owner_of}
use Rattle.usb_walk.specs.Places.{place_in}
use Rattle.usb_walk.specs.Roles.{next_role}
use Rattle.usb_fields.specs.Unfolded.{unfolded}
use Rattle.usb_remarks.specs.SetStart.{entered}
use Rattle.usb_remarks.specs.OutlineStates.{passed, start}

-- A descriptor of an input.
pub record Described : Type 0 where
  -- where it begins, in bytes and among sets, settings and endpoints
  pub at : ℕ
  pub place : Place
  pub bytes : List ℕ
  -- what it is, how deep, and whose
  pub role : Role
  pub depth : ℕ
  pub owner : Option DescriptorOwner
  -- the speed of its set, or its own
  pub speed : SetSpeed
  pub findings : List Found
  -- how many associations of its set come before it
  pub associations : ℕ
  -- the first association of its set that binds an interface of its number
  pub association : Option ℕ
  -- the first interface that it names and its set lacks
  pub missing : Option ℕ
  -- a later interface of its set has its number
  pub follows : Bool
  -- the codes of the interface that it follows
  pub interface : Option ClassCodes
  -- how many strings come before it
  pub string : ℕ
  -- the bytes of its set after it, where they are all there
  pub rest : Option (List ℕ)
  -- it is an association, after an interface that it binds
  pub is_late : Bool
  -- of a device or a qualifier: its sets have associations, where that is known
  pub has_associations : Option Bool
  -- of a qualifier: the speed of the sets before and after it, if both have one
  pub one_speed : Option SetSpeed

-- that which a descriptor of the code says
abbrev pub described : Descriptor → Described
described d = record {
  at = d.at;
  place = d.place;
  bytes = d.bytes.now;
  role = d.role;
  depth = d.depth;
  owner = d.owner;
  speed = d.speed;
  findings = d.findings.now;
  associations = d.associations;
  association = d.association;
  missing = d.missing;
  follows = d.follows;
  interface = d.interface;
  string = d.string;
  rest = option_copied d.rest;
  is_late = d.is_late;
  has_associations = d.has_associations;
  one_speed = d.one_speed;
}

-- a descriptor where it stands: what came before it, what it is there, its bytes, those after it, and what is found from it on
pub record Entry : Type 0 where
  pub state : OutlineState
  pub role : Role
  pub bytes : List ℕ
  pub after : List ℕ
  pub found : List Found

-- what is found there
abbrev pub findings_of : Entry → List Found
findings_of e = found_at e.state e.found

-- all that is known of it, where the device ran at a speed that is known or isn't
unfoldable pub describe : Option SetSpeed → Entry → Described
describe running e = record {
  at = e.state.position.at;
  place = place_in e.state.position e.role;
  bytes = e.bytes;
  role = e.role;
  depth = depth_of e.state.position e.role;
  owner = owner_of e.state.position e.role e.bytes;
  speed = speed_of running e.state e.role e.bytes;
  findings = findings_of e;
  associations = e.state.position.associations;
  association = bound_at e.state.bindings (slice_index e.bytes 2);
  missing = missing_interface e.state.interfaces (codes_of e.state.position) e.bytes;
  follows = follows (interface_number e.state.position e.role e.bytes) (rest_of_set e.state.position e.bytes e.after);
  interface = codes_of e.state.position;
  string = e.state.position.strings;
  rest = rest_of_set e.state.position e.bytes e.after;
  is_late = is_late e.state.before e.role e.bytes;
  has_associations = has_associations e.role e.bytes e.after;
  one_speed = one_speed_at e.state e.role;
}

-- the state at the descriptor with which these bytes begin: in its set, where it begins one
abbrev pub here : Option SetSpeed → OutlineState → List ℕ → Role × ℕ → OutlineState
here running s ahead next = entered next.0 running ahead s

-- the descriptor with which these bytes begin
abbrev pub entry_next : Option SetSpeed → OutlineState → List Found → List ℕ → Role × ℕ → Entry
entry_next running s found ahead next =
    record { state = here running s ahead next; role = next.0; bytes = take next.1 ahead; after = drop next.1 ahead; found = found }

-- the findings that are left after it
abbrev pub left_next : Option SetSpeed → OutlineState → List Found → List ℕ → Role × ℕ → List Found
left_next running s found ahead next = drop (length (found_at (here running s ahead next) found)) found

-- the state after that descriptor
abbrev pub after_next : Option SetSpeed → OutlineState → List ℕ → Role × ℕ → OutlineState
after_next running s ahead next = passed next.0 (take next.1 ahead) (here running s ahead next)

-- what a walk goes on with: the state, the findings that are left, and the bytes ahead
abbrev pub Ahead : Type 0
Ahead = OutlineState × List Found × List ℕ

-- what may come there
abbrev pub next_ahead : Ahead → Option (Role × ℕ)
next_ahead here = next_role here.0.position here.2

-- the descriptor that it is, and what the walk goes on with after it
abbrev pub pass_ahead : Option SetSpeed → Ahead → Role × ℕ → Entry × Ahead
pass_ahead running (s, found, ahead) next =
    (entry_next running s found ahead next, (after_next running s ahead next, left_next running s found ahead next, drop next.1 ahead))

-- the descriptors from here on, at most n
abbrev pub first_entries : ℕ → Option SetSpeed → OutlineState → List Found → List ℕ → List Entry
first_entries n running s found ahead = unfolded next_ahead (pass_ahead running) n (s, found, ahead)

-- all of them: there are no more than bytes
abbrev pub entries_from : Option SetSpeed → OutlineState → List Found → List ℕ → List Entry
entries_from running s found ahead = first_entries (length ahead) running s found ahead

-- the same with what is known of each
abbrev pub outline_from : Option SetSpeed → OutlineState → List Found → List ℕ → List Described
outline_from running s found ahead = map (describe running) (entries_from running s found ahead)

-- the descriptors of an input, where these are its findings in the order of its bytes
abbrev pub entries : Option SetSpeed → List Found → List ℕ → List Entry
entries running found b = entries_from running start found b

-- the outline of an input
abbrev pub outline : Option SetSpeed → List Found → List ℕ → List Described
outline running found b = outline_from running start found b

-- the bytes of descriptors
abbrev pub bytes_of : List Described → List ℕ
bytes_of ds = flat_map (λ d. d.bytes) ds

-- where the descriptors of bytes end
abbrev pub end_of : Option SetSpeed → List Found → List ℕ → ℕ
end_of running found b = length (bytes_of (outline running found b))
