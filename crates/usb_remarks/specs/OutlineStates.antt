-- The state of an outline: at the first byte of an input, and after each descriptor.
use Rattle.std.specs.Prelude.{ℕ, ◌≤◌, ◌+◌, List, slice_index, slice_set, replicate, true, false, Some, None}
use Rattle.usb_names.specs.declared.codes.ClassCodes.{ClassCodes}
use Rattle.usb_walk.specs.declared.role.Role.{Role}
use Rattle.usb_walk.specs.declared.role.Role.TheVariants.{Device, Interface, Qualifier}
use Rattle.usb_remarks.specs.declared.speed.SetSpeed.TheVariants.{FullOrHigh}
use Rattle.usb_remarks.specs.declared.outline_state.OutlineState.{OutlineState}
use Rattle.usb_walk.specs.Positions.{Counted, first_position, position_after}
use Rattle.usb_remarks.specs.DeviceFacts.{facts_of_device, facts_of_qualifier}

-- at the first byte of an input
unfoldable pub start : OutlineState
start = record {
  position = first_position;
  descriptors = 0;
  device = None;
  own_speed = FullOrHigh;
  own_side = None;
  other_speed = None;
  other_side = None;
  qualifier = None;
  speed = FullOrHigh;
  bindings = replicate 256 None;
  interfaces = replicate 256 false;
  before = replicate 256 false;
}

-- class, subclass and protocol of a device or of a qualifier (USB 2.0, 9.6.1 and 9.6.2)
abbrev pub device_codes : List ℕ → ClassCodes
device_codes d = record { class = slice_index d 4; subclass = slice_index d 5; protocol = slice_index d 6 }

-- what a device and its qualifier say of the speeds of their sets, and the number of an interface
abbrev pub kept : Role → List ℕ → OutlineState → OutlineState
kept Device d s = record s { device = Some (facts_of_device d) }
kept Qualifier d s = record s { qualifier = Some (facts_of_qualifier d) }
kept Interface d s = record s { before = slice_set s.before (slice_index d 2) true }
kept _ d s = s

-- after a descriptor of this role
abbrev pub passed : Role → List ℕ → OutlineState → OutlineState
passed role d s = record (kept role d s) { position = position_after role d s.position; descriptors = s.descriptors + 1 }

-- there are no more of anything than bytes before
pub record AreCounted (s : OutlineState) : Type 0 where
  pub in_position : Counted s.position
  pub descriptors : s.descriptors ≤ s.position.at
