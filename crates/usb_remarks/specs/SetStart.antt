-- How a set begins.
use Rattle.std.specs.Prelude.{ℕ, List, length, replicate, slice_index, take, drop, nat_le, ◌==◌, ◌&&◌, ◌-◌, Bool, false, Option, Some, None, option_and_then, if◌then◌else◌}
use Rattle.std.specs.Option.{option_or}
use Rattle.usb_fields.specs.Bytes.{little_endian_at}
use Rattle.usb_file_data.specs.Likeness.{after_sets}
use Rattle.usb_remarks.specs.declared.speed.SetSpeed.{SetSpeed}
use Rattle.usb_remarks.specs.declared.speed.SetSpeed.TheVariants.{FullOrHigh}
use Rattle.usb_remarks.specs.declared.set_speed.Background.{Background}
use Rattle.usb_remarks.specs.DeviceFacts.{facts_of_device, facts_of_qualifier}
use Rattle.usb_walk.specs.Trees.{descriptors}
use Rattle.usb_remarks.specs.SetSpeeds.{evidence_of, other_speed, side_speed, speed_by, survey_of}
use Rattle.usb_walk.specs.declared.role.Role.{Role}
use Rattle.usb_walk.specs.declared.role.Role.TheVariants.{Configuration, Device}
use Rattle.usb_remarks.specs.declared.device_facts.DeviceFacts.{DeviceFacts}
use Rattle.usb_remarks.specs.declared.outline_state.OutlineState.{OutlineState}
use Rattle.usb_walk.specs.Positions.{position_at}

-- what is known of sets by the device or the qualifier before them, beside a speed that is known, and the device's other speed
unfoldable pub background_of : Option SetSpeed → DeviceFacts → Option SetSpeed → Background
background_of known facts other = record {
  known = option_or known facts.speed;
  packet = Some facts.packet;
  other = other;
  is_hub = facts.is_hub;
  hinted = facts.hinted;
}

-- what is known of a set alone: the speed with which the device ran
unfoldable pub background_alone : Option SetSpeed → Background
background_alone running = record { known = running; packet = None; other = None; is_hub = false; hinted = None }

-- what is known of the sets after a qualifier, whose device has this speed without it
abbrev pub background_after : Option SetSpeed → DeviceFacts → SetSpeed → Background
background_after running qualifier own = background_of (option_and_then other_speed running) qualifier (Some own)

-- what is known of a set after a device and its qualifier, after a device alone, or alone
abbrev pub background_by : Option SetSpeed → OutlineState → Option DeviceFacts → Option DeviceFacts → Background
background_by running s None qualifier = background_alone running
background_by running s (Some device) None = background_of running device s.other_speed
background_by running s (Some device) (Some qualifier) = background_after running qualifier s.own_speed

-- the bytes begin with a qualifier (USB 2.0, 9.6.2)
unfoldable pub has_qualifier : List ℕ → Bool
has_qualifier b = nat_le 10 (length b) && (slice_index b 0 == 10) && (slice_index b 1 == 6)

-- the speed that sets have together, by what is known of them and by their bytes
abbrev pub speed_together : Background → List ℕ → SetSpeed
speed_together background sets = speed_by background (survey_of (descriptors sets)).spoken

-- the speed of the sets after a qualifier, as far as it and their descriptors say
abbrev pub speed_after_qualifier : List ℕ → Option SetSpeed
speed_after_qualifier b =
    if has_qualifier b then Some (speed_together (background_after None (facts_of_qualifier b) FullOrHigh) (drop 10 b))
    else None

-- the bytes after the sets of the device with which these bytes begin
abbrev pub after_own_sets : List ℕ → List ℕ
after_own_sets ahead = after_sets (slice_index ahead 17) (drop 18 ahead)

-- the first n sets with which bytes begin, as far as they are there
abbrev pub sets_ahead : ℕ → List ℕ → List ℕ
sets_ahead n b = take (length b - length (after_sets n b)) b

-- the bytes of its sets
abbrev pub own_sets : List ℕ → List ℕ
own_sets ahead = sets_ahead (slice_index ahead 17) (drop 18 ahead)

-- the other speed of the device with which these bytes begin
unfoldable pub other_ahead : List ℕ → Option SetSpeed
other_ahead ahead = speed_after_qualifier (after_own_sets ahead)

-- its own speed where it has another one, as far as it and the descriptors of its sets say
unfoldable pub own_ahead : Option SetSpeed → List ℕ → SetSpeed
own_ahead running ahead = speed_together (background_of running (facts_of_device ahead) (Some FullOrHigh)) (own_sets ahead)

-- the speed of its own side, by that alone
unfoldable pub own_side : List ℕ → Option SetSpeed
own_side ahead = side_speed (facts_of_device ahead) (evidence_of (descriptors (own_sets ahead)))

-- that of the side of a qualifier with which these bytes begin
abbrev pub side_of_qualifier : List ℕ → Option SetSpeed
side_of_qualifier b = if has_qualifier b then side_speed (facts_of_qualifier b) (evidence_of (descriptors (drop 10 b))) else None

-- that of its other side
unfoldable pub other_side : List ℕ → Option SetSpeed
other_side ahead = side_of_qualifier (after_own_sets ahead)

-- what the bytes of a set say of the whole of it, as far as they are there
unfoldable pub surveyed : Option SetSpeed → List ℕ → OutlineState → OutlineState
surveyed running ahead s =
    let survey = survey_of (descriptors (take (little_endian_at ahead 2) ahead)) in
    record s {
      speed = speed_by (background_by running s s.device s.qualifier) survey.spoken;
      bindings = survey.bindings;
      interfaces = survey.interfaces;
      before = replicate 256 false;
    }

-- what is looked for ahead at a descriptor of this role: the two speeds of a device, and what a set says
abbrev pub looked : Role → Option SetSpeed → List ℕ → OutlineState → OutlineState
looked Device running ahead s = record s {
  own_speed = own_ahead running ahead;
  own_side = own_side ahead;
  other_speed = other_ahead ahead;
  other_side = other_side ahead;
}
looked Configuration running ahead s = surveyed running ahead s
looked _ running ahead s = s

-- at a descriptor of this role, with which the bytes begin
abbrev pub entered : Role → Option SetSpeed → List ℕ → OutlineState → OutlineState
entered role running ahead s = record (looked role running ahead s) { position = position_at role ahead s.position }
