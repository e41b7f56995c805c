-- Intervals, which are counted in units of a speed, and frame intervals.
use Rattle.std.specs.Prelude.{ℕ, List, ◌++◌, ◌-◌, ◌*◌, ◌/◌, ◌^◌, ◌==◌, ◌||◌, nat_lt, Bool, true, false, Option, Some, None, if◌then◌else◌, ◌+◌, ◌%◌, [], ◌∷◌, take}
use Rattle.std.specs.Option.{option_map}
use Rattle.usb_set.specs.declared.endpoint.TransferType.{TransferType}
use Rattle.usb_set.specs.declared.endpoint.TransferType.TheVariants.{Isochronous, Interrupt}
use Rattle.usb_text.specs.Shown.{Shown, Bytes, Name, Number}
use Rattle.usb_remarks.specs.declared.speed.SetSpeed.{SetSpeed}
use Rattle.usb_remarks.specs.declared.speed.SetSpeed.TheVariants.{High, FullOrHigh, Super}

-- a period of 2^(n-1) frames or microframes, for n from 1 to 16 (9.6.6)
abbrev pub period : ℕ → Option ℕ
period n = if (n == 0) || nat_lt 16 n then None else Some (2 ^ (n - 1))

-- a period of n frames, at least one, as interrupt endpoints have at low and full speed
abbrev pub at_least_one : ℕ → Option ℕ
at_least_one n = if n == 0 then None else Some n

-- how many frames bInterval is at low or full speed
abbrev pub full_period : TransferType → ℕ → Option ℕ
full_period Interrupt n = at_least_one n
full_period _ n = period n

-- bInterval in microseconds at low or full speed, if it is in its range: in frames of 1 ms
abbrev pub full_microseconds : TransferType → ℕ → Option ℕ
full_microseconds transfer n = option_map (λ frames. 1000 * frames) (full_period transfer n)

-- and at high speed and above: in microframes of 125 us
abbrev pub high_microseconds : ℕ → Option ℕ
high_microseconds n = option_map (λ microframes. 125 * microframes) (period n)

-- a time in microseconds, which is shown in milliseconds from one on
abbrev pub time_shown : ℕ → Shown
time_shown n = Number (if nat_lt n 1000 then n else n / 1000)

-- the same, if it is in its range
abbrev pub interval_shown : Option ℕ → List Shown
interval_shown None = []
interval_shown (Some n) = time_shown n ∷ []

-- what is known of a speed decides which of the two is meant, or both
abbrev pub by_speed : SetSpeed → List Shown → List Shown → List Shown
by_speed FullOrHigh full high = full ++ high
by_speed High full high = high
by_speed Super full high = high
by_speed _ full high = full

-- bInterval of a periodic endpoint at a speed
unfoldable pub interval_at : SetSpeed → TransferType → ℕ → List Shown
interval_at speed transfer n = by_speed speed (interval_shown (full_microseconds transfer n)) (interval_shown (high_microseconds n))

-- isochronous and interrupt endpoints have an interval (USB 2.0, 5.6 and 5.7)
abbrev pub is_periodic : TransferType → Bool
is_periodic Isochronous = true
is_periodic Interrupt = true
is_periodic _ = false

-- Frame intervals of video, which are in units of 100 ns (UVC 1.5, Uncompressed Payload, 3.1.2).

-- the four digits of a number below 10000
abbrev pub four_digits : ℕ → List ℕ
four_digits n = (48 + n / 1000) ∷ (48 + n / 100 % 10) ∷ (48 + n / 10 % 10) ∷ (48 + n % 10) ∷ []

-- how many of the four digits there are up to the last that isn't 0; at least one
abbrev pub digits_up_to_last : ℕ → ℕ
digits_up_to_last n =
    if n % 1000 == 0 then 1
    else if n % 100 == 0 then 2
    else if n % 10 == 0 then 3
    else 4

-- n ten-thousandths, as the digits after a point, without zeros at their end
unfoldable pub fraction : ℕ → List Shown
fraction n = if n == 0 then [] else Name (take (digits_up_to_last n) (four_digits n)) ∷ []

-- n units of 100 ns in milliseconds: `33.3333` of 333333
unfoldable pub milliseconds : ℕ → List Shown
milliseconds n = Number (n / 10000) ∷ fraction (n % 10000)

-- a frame interval of four bytes, the low one first, and the milliseconds that it is
unfoldable pub frame_interval : List ℕ → List Shown
frame_interval (a ∷ b ∷ c ∷ d ∷ []) = let n = a + 256 * (b + 256 * (c + 256 * d)) in Number n ∷ milliseconds n
frame_interval value = Bytes value ∷ []

-- the milliseconds alone
unfoldable pub frame_time : List ℕ → List Shown
frame_time (a ∷ b ∷ c ∷ d ∷ []) = milliseconds (a + 256 * (b + 256 * (c + 256 * d)))
frame_time value = Bytes value ∷ []
