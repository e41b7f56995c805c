-- What is known of a descriptor at its place beside its bytes.
use Rattle.std.specs.Prelude.{ℕ, List, slice_index, Bool, true, false, Option, Some, None, if◌then◌else◌, option_and_then, unwrap_or}
use Rattle.std.specs.Option.{option_or}
use Rattle.usb_fields.specs.Bytes.{little_endian_at}
use Rattle.usb_remarks.specs.declared.speed.SetSpeed.{SetSpeed}
use Rattle.usb_remarks.specs.declared.speed.SetSpeed.TheVariants.{FullOrHigh, Super}
use Rattle.usb_walk.specs.declared.role.Role.{Role}
use Rattle.usb_walk.specs.declared.role.Role.TheVariants.{Device, Qualifier}
use Rattle.usb_remarks.specs.declared.outline_state.OutlineState.{OutlineState}
use Rattle.usb_remarks.specs.SetSpeeds.{high_beside, high_side, is_super_device, one_speed, other_speed}

-- a device of SuperSpeed: it ran so, or its descriptor is one of SuperSpeed
abbrev pub is_super : Option SetSpeed → ℕ → ℕ → Bool
is_super None usb packet = is_super_device usb packet
is_super (Some Super) usb packet = true
is_super (Some running) usb packet = false

-- its speed: that of the device or the qualifier, as far as it is known or their sides prove it, or of its set
abbrev pub speed_of : Option SetSpeed → OutlineState → Role → List ℕ → SetSpeed
speed_of running s Device d =
    if is_super running (little_endian_at d 2) (slice_index d 7) then Super
    else unwrap_or (option_or running (high_side s.own_side)) FullOrHigh
speed_of running s Qualifier d =
    unwrap_or (option_or (option_and_then other_speed running) (high_beside s.own_side s.other_side)) FullOrHigh
speed_of running s _ d = s.speed

-- the speed that both sides of a device have, at its qualifier
abbrev pub one_speed_at : OutlineState → Role → Option SetSpeed
one_speed_at s Qualifier = one_speed s.own_side s.other_side
one_speed_at s role = None
