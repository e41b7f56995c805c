-- The position of a descriptor in an input, and the one after it.
use Rattle.std.specs.Prelude.{ℕ, ◌≤◌, ◌+◌, ◌-◌, ◌==◌, List, length, slice_index, Bool, true, false, if◌then◌else◌}
use Rattle.usb_fields.specs.Bytes.{little_endian_at}
use Rattle.usb_walk.specs.declared.position.Position.{Position}
use Rattle.usb_walk.specs.declared.role.Role.{Role}
use Rattle.usb_walk.specs.declared.role.Role.TheVariants.{Device, Qualifier, Configuration, Association, Interface, Endpoint, Raw, Languages, Text}

-- Where a descriptor stands.

-- at the first byte of an input
abbrev pub first_position : Position
first_position = record {
  at = 0;
  left = 0;
  strings = 0;
  main_sets = 0;
  other_sets = 0;
  set = 0;
  associations = 0;
  settings = 0;
  setting = 0;
  endpoints = 0;
  interface = 0;
  alternate = 0;
  class = 0;
  subclass = 0;
  protocol = 0;
  endpoint = 0;
  below = 0;
  is_other = false;
  has_device = false;
  has_languages = false;
}

-- the set of this number in its part, before its first descriptor; what extends that is so deep
abbrev pub begun : Bool → ℕ → ℕ → Position → Position
begun is_other number below p = record p {
  set = number;
  associations = 0;
  settings = 0;
  setting = 0;
  endpoints = 0;
  interface = 0;
  alternate = 0;
  class = 0;
  subclass = 0;
  protocol = 0;
  endpoint = 0;
  below = below;
  is_other = is_other;
}

-- how many sets of the part came
abbrev pub sets_of : Position → Bool → ℕ
sets_of p is_other = if is_other then p.other_sets else p.main_sets

-- at a descriptor of this role, with which these bytes begin: the first one of a set begins it, with as many bytes as its
-- wTotalLength says, in the part of its type (USB 2.0, 9.6.3 and 9.6.4), and one outside of sets is in none
abbrev pub position_at : Role → List ℕ → Position → Position
position_at Configuration ahead p =
    let is_other = slice_index ahead 1 == 7 in record (begun is_other (sets_of p is_other) 2 p) { left = little_endian_at ahead 2 }
position_at Association ahead p = p
position_at Interface ahead p = p
position_at Endpoint ahead p = p
position_at Raw ahead p = p
position_at _ ahead p = begun false 0 0 p

-- The place that follows it.

-- one set more of the part
abbrev pub with_set : Bool → Position → Position
with_set true p = record p { other_sets = p.other_sets + 1 }
with_set false p = record p { main_sets = p.main_sets + 1 }

-- one setting more, which an interface begins (9.6.5)
abbrev pub with_setting : List ℕ → Position → Position
with_setting d p = record p {
  settings = p.settings + 1;
  setting = p.settings;
  endpoints = 0;
  interface = slice_index d 2;
  alternate = slice_index d 3;
  class = slice_index d 5;
  subclass = slice_index d 6;
  protocol = slice_index d 7;
  endpoint = 0;
  below = 3;
}

-- what is kept of a descriptor of this role
unfoldable pub noted : Role → List ℕ → Position → Position
noted Device d p = record p { has_device = true; class = slice_index d 4; subclass = slice_index d 5; protocol = slice_index d 6 }
noted Qualifier d p = p
noted Configuration d p = with_set p.is_other p
noted Association d p = record p { associations = p.associations + 1 }
noted Interface d p = with_setting d p
noted Endpoint d p = record p { endpoints = p.endpoints + 1; endpoint = slice_index d 2; below = 4 }
noted Raw d p = p
noted Languages d p = record p { has_languages = true }
noted Text d p = record p { strings = p.strings + 1 }

-- n bytes further on
abbrev pub moved : ℕ → Position → Position
moved n p = record p { at = p.at + n; left = p.left - n }

-- after a descriptor of this role
abbrev pub position_after : Role → List ℕ → Position → Position
position_after role d p = moved (length d) (noted role d p)

-- How many came before.

-- there are no more of anything than bytes before
pub record Counted (p : Position) : Type 0 where
  pub strings : p.strings ≤ p.at
  pub main_sets : p.main_sets ≤ p.at
  pub other_sets : p.other_sets ≤ p.at
  pub associations : p.associations ≤ p.at
  pub settings : p.settings ≤ p.at
  pub endpoints : p.endpoints ≤ p.at
