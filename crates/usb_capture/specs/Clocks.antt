-- Times of a pcapng file (draft-ietf-opsawg-pcapng, Interface Description Block Options).
use Rattle.std.specs.Prelude.{ℕ, zero, suc, ◌+◌, ◌-◌, ◌*◌, ◌/◌, ◌^◌, ◌==◌, ◌||◌, Bool, List, length, drop, slice_index, Option, Some, None, nat_lt, if◌then◌else◌}
use Rattle.std.specs.Option.{option_and_then}
use Rattle.usb_capture.specs.declared.clock.Clock.{Clock}
use Rattle.usb_capture.specs.declared.order.ByteOrder.{ByteOrder}
use Rattle.usb_capture.specs.Numbers.{long_at, short_at}

-- if_tsresol: how many units a second has, a power of ten or, where bit 7 is set, of two
abbrev pub units_per_second : ℕ → ℕ
units_per_second resolution = if nat_lt resolution 128 then 10 ^ resolution else 2 ^ (resolution - 128)

-- this many units in nanoseconds, rounded down
abbrev pub elapsed : ℕ → ℕ → ℕ
elapsed resolution units = units * 1000000000 / units_per_second resolution

-- a time that 64 bits hold
abbrev pub within : ℕ → Option ℕ
within time = if nat_lt time (2 ^ 64) then Some time else None

-- if_tsoffset: seconds, of 64 bits in two's complement, that each time is later
abbrev pub time_of : Clock → ℕ → Option ℕ
time_of clock units =
    if nat_lt clock.offset (2 ^ 63) then within (elapsed clock.resolution units + clock.offset * 1000000000)
    else if nat_lt (elapsed clock.resolution units) ((2 ^ 64 - clock.offset) * 1000000000) then None
    else within (elapsed clock.resolution units - (2 ^ 64 - clock.offset) * 1000000000)

-- Options: how many bytes an option has, with those that fill its value up to four
abbrev pub option_length : ByteOrder → List ℕ → ℕ
option_length order b = 4 + (short_at order b 2 + 3) / 4 * 4

-- what the option that begins here changes: if_tsresol has one byte, if_tsoffset eight
abbrev pub clock_with : ByteOrder → List ℕ → Clock → Option Clock
clock_with order b clock =
    if short_at order b 0 == 9 then (if short_at order b 2 == 1 then Some (record clock { resolution = slice_index b 4 }) else None)
    else if short_at order b 0 == 14 then (if short_at order b 2 == 8 then Some (record clock { offset = long_at order b 4 }) else None)
    else Some clock

-- opt_endofopt, 0, or the last byte ends the options
abbrev pub options_end : ByteOrder → List ℕ → Bool
options_end order b = nat_lt (length b) 4 || short_at order b 0 == 0

-- the clock after these options, of which there are this many at most
abbrev pub clock_after : ByteOrder → ℕ → List ℕ → Clock → Option Clock
clock_after order zero b clock = Some clock
clock_after order (suc most) b clock =
    if options_end order b then Some clock
    else if nat_lt (length b) (option_length order b) then None
    else option_and_then (λ c. clock_after order most (drop (option_length order b) b) c) (clock_with order b clock)

-- an interface without these options counts microseconds from the beginning of 1970
abbrev pub clock_of : ByteOrder → List ℕ → Option Clock
clock_of order b = clock_after order (length b) b (record { resolution = 6; offset = 0 })
