-- The explanation of a fragment: descriptors one after another, each as long as its first byte says (USB 2.0, 9.5), with no owner
-- asked for; or a setup packet (9.3).
use Rattle.std.specs.Prelude.{ℕ, ◌+◌, ◌*◌, ◌/◌, ◌%◌, List, [], ◌∷◌, ◌++◌, length, drop, flat_map, slice_index, Bool, nat_le, ◌==◌, ◌&&◌, ◌||◌, Option, Some, None, false, not, unwrap_or, if◌then◌else◌, codes}
use Rattle.std.specs.Option.{option_or}
use Rattle.usb_fields.specs.Bytes.{little_endian_at}
use Rattle.usb_file_data.specs.Likeness.{names_languages}
use Rattle.usb_file_data.specs.declared.finding.Part.TheVariants as parts
use Rattle.usb_names.specs.declared.codes.ClassCodes.{ClassCodes}
use Rattle.usb_text.specs.Shown.{Shown, Number}
use Rattle.usb_explain.specs.declared.fragment.FragmentPosition.{FragmentPosition}
use Rattle.usb_explain.specs.declared.manner.Look.{Look}
use Rattle.usb_explain.specs.declared.manner.Manner.{Manner}
use Rattle.usb_walk.specs.declared.role.Role.{Role}
use Rattle.usb_walk.specs.declared.role.Role.TheVariants.{Device, Qualifier, Configuration, Association, Interface, Endpoint, Raw, Languages, Text}
use Rattle.usb_remarks.specs.declared.speed.SetSpeed.{SetSpeed}
use Rattle.usb_remarks.specs.declared.speed.SetSpeed.TheVariants.{FullOrHigh}
use Rattle.usb_explain.specs.declared.string_names.Missing.TheVariants.{NotInInput}
use Rattle.usb_remarks.specs.ClassRemarks.{hid_length}
use Rattle.usb_explain.specs.Descriptors.{lines_of}
use Rattle.usb_explain.specs.Explanations.{first_line, rest_lines}
use Rattle.usb_remarks.specs.OutlineLaws.{Follow, span_of}
use Rattle.usb_explain.specs.Lines.{field_line, heading_line}
use Rattle.usb_remarks.specs.Outline.{Described, bytes_of}
use Rattle.usb_walk.specs.Places.{outside}
use Rattle.usb_walk.specs.Roles.{is_association, is_interface, typed_role}
use Rattle.usb_remarks.specs.SetSpeeds.{other_speed}
use Rattle.usb_explain.specs.StringNames.{no_names}
use Rattle.usb_explain.specs.Subjects.{Subject}
use Rattle.usb_walk.specs.Trees.{descriptors}
use Rattle.std.specs.Prelude.{◌≡◌, map}

-- What a descriptor is by its type and its length alone.

-- a string descriptor is a language list where its units may all be languages
abbrev pub string_alone : List ℕ → Role
string_alone d = if names_languages d then Languages else Text

unfoldable pub role_alone : List ℕ → Role
role_alone d =
    let kind = slice_index d 1 in
    if kind == 1 then typed_role (length d == 18) Device
    else if kind == 6 then typed_role (length d == 10) Qualifier
    else if (kind == 2) || (kind == 7) then typed_role (nat_le 9 (length d)) Configuration
    else if kind == 3 then typed_role (length d % 2 == 0) (string_alone d)
    else if kind == 4 then typed_role (nat_le 9 (length d)) Interface
    else if kind == 5 then typed_role (nat_le 7 (length d)) Endpoint
    else if kind == 11 then typed_role (nat_le 8 (length d)) Association
    else Raw

-- the length of a hub descriptor by its number of ports: at its end are two fields with a bit for each port above a reserved bit
-- (USB 2.0, 11.23.2.1)
abbrev pub hub_length : List ℕ → ℕ
hub_length d = 7 + 2 * (slice_index d 2 / 8 + 1)

-- a HID descriptor is one by its type and its length (HID 1.11, 6.2.1 and 7.1), and so is one of a hub
abbrev pub class_alone : List ℕ → Option ClassCodes
class_alone d =
    if (slice_index d 1 == 0x21) && (length d == hid_length d) then Some (record { class = 0x03; subclass = 0; protocol = 0 })
    else if (slice_index d 1 == 0x29) && (length d == hub_length d) then Some (record { class = 0x09; subclass = 0; protocol = 0 })
    else None

-- the codes of an interface (USB 2.0, 9.6.5)
abbrev pub interface_codes : List ℕ → ClassCodes
interface_codes d = record { class = slice_index d 5; subclass = slice_index d 6; protocol = slice_index d 7 }

-- the position after a descriptor
abbrev pub position_past : FragmentPosition → List ℕ → FragmentPosition
position_past p d = record {
  at = p.at + length d;
  interface = if is_interface d then Some (interface_codes d) else p.interface;
  associations = if is_association d then p.associations + 1 else p.associations;
}

-- before the first descriptor
abbrev pub fragment_start : FragmentPosition
fragment_start = record { at = 0; interface = None; associations = 0 }

-- the speed of a descriptor, where the device has this one: a qualifier is of the other
abbrev pub speed_there : Role → SetSpeed → SetSpeed
speed_there Qualifier speed = unwrap_or (other_speed speed) FullOrHigh
speed_there role speed = speed

-- a descriptor at a position: it is in no set, nobody's, and nothing is found of it
unfoldable pub described_alone : SetSpeed → FragmentPosition → List ℕ → Described
described_alone speed p d = record {
  at = p.at;
  place = outside parts.Device;
  bytes = d;
  role = role_alone d;
  depth = 0;
  owner = None;
  speed = speed_there (role_alone d) speed;
  findings = [];
  associations = p.associations;
  association = None;
  missing = None;
  follows = false;
  interface = option_or p.interface (class_alone d);
  string = 0;
  rest = None;
  is_late = false;
  has_associations = None;
  one_speed = None;
}

-- descriptors from a position on
unfoldable pub fragment_from : SetSpeed → FragmentPosition → List (List ℕ) → List Described
fragment_from speed p [] = []
fragment_from speed p (d ∷ ds) = described_alone speed p d ∷ fragment_from speed (position_past p d) ds

-- the descriptors of a fragment
abbrev pub fragment : SetSpeed → List ℕ → List Described
fragment speed b = fragment_from speed fragment_start (descriptors b)

-- A setup packet.

-- a request is standard by bits 6 and 5 of bmRequestType (table 9-2)
abbrev pub is_standard : List ℕ → Bool
is_standard b = slice_index b 0 / 32 % 4 == 0

-- eight bytes, where bits 4 to 0 of bmRequestType name a recipient (table 9-2), which no bLength of eight bytes does but 2 and 3,
-- and bRequest of a standard request is one of table 9-4
abbrev pub is_setup : List ℕ → Bool
is_setup b = (length b == 8) && nat_le (slice_index b 0 % 32) 3 && (not (is_standard b) || nat_le (slice_index b 1) 12)

-- the number of a request, if it has no name
abbrev pub request_shown : List ℕ → List Shown
request_shown b = if is_standard b then [] else Number (slice_index b 1) ∷ []

-- its heading
unfoldable pub setup_heading : Look → List ℕ → List Shown
setup_heading look b = heading_line look 0 (request_shown b) 0 (length b)

-- the line of a field
unfoldable pub setup_field : List ℕ → ℕ → List Shown
setup_field name value = field_line 0 name (Number value ∷ [])

-- its fields (table 9-2)
unfoldable pub setup_fields : List ℕ → List Shown
setup_fields b =
    setup_field (codes "bmRequestType") (slice_index b 0) ++ setup_field (codes "bRequest") (slice_index b 1)
    ++ setup_field (codes "wValue") (little_endian_at b 2) ++ setup_field (codes "wIndex") (little_endian_at b 4)
    ++ setup_field (codes "wLength") (little_endian_at b 6)

-- its lines
abbrev pub setup_lines : Look → List ℕ → List Shown
setup_lines look b = setup_heading look b ++ (if look.brief then [] else setup_fields b)

-- The whole.

-- what is explained: no strings are there
abbrev pub subject_alone : Manner → Subject
subject_alone manner = record { manner = manner; names = no_names NotInInput }

-- the speed, which descriptors alone leave open
abbrev pub speed_alone : Manner → SetSpeed
speed_alone manner = unwrap_or manner.speed FullOrHigh

-- the lines of descriptors, and of the bytes after them
abbrev pub descriptors_lines : Manner → List ℕ → List Shown
descriptors_lines manner b =
    let ds = fragment (speed_alone manner) b in
    let end = length (bytes_of ds) in
    flat_map (lines_of (subject_alone manner)) ds ++ rest_lines manner.look end (drop end b)

-- what the explanation of a fragment shows
unfoldable pub fragment_lines : Manner → List ℕ → List Shown
fragment_lines manner b = first_line (length b) ++ (if is_setup b then setup_lines manner.look b else descriptors_lines manner b)

-- Each byte once: the descriptors of a fragment follow each other from the first byte on, each at its place and as long as its first
-- byte says, and then comes the rest.
pub record FragmentBytesOnce (speed : SetSpeed) (b : List ℕ) : Type 0 where
  pub parts : b ≡ bytes_of (fragment speed b) ++ drop (length (bytes_of (fragment speed b))) b
  pub spans : Follow 0 (map span_of (fragment speed b)) (length (bytes_of (fragment speed b)))

-- so it is of any bytes
abbrev pub AllFragmentBytesOnce : Type 0
AllFragmentBytesOnce = (speed : SetSpeed) (b : List ℕ) → FragmentBytesOnce speed b
