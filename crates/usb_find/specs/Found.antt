-- What stands among any bytes: whole sets, and device descriptors.
use Rattle.std.specs.Prelude.{◌≡◌, ◌<◌, ◌≤◌, ℕ, ◌+◌, ◌-◌, ◌==◌, ◌&&◌, ◌||◌, nat_lt, List, [], ◌∷◌, length, take, drop, slice_index, Bool, true, false, ◌⊎◌}
use Rattle.usb_fields.specs.Bytes.{little_endian_at}
use Rattle.usb_set.specs.declared.tree.Configuration.{Configuration}
use Rattle.usb_set.specs.Faults.{Begins}
use Rattle.usb_find.specs.declared.search.Found.{Found}

-- The bytes begin with a whole set of n: a decoder reads it to its end, and its first descriptor has the 9 bytes that the
-- standard gives it (USB 2.0, 9.6.3).
pub record BeginsSet (b : List ℕ) (n : ℕ) : Type 0 where
  pub set : Configuration
  pub begins : Begins b set n
  pub first : slice_index b 0 ≡ 9

-- bcdUSB is that of a version of the bus: 1.0, 1.1, 2.0, 2.5 of wireless USB, 3.0 to 3.2, and 1.01, 2.01 and 2.1 as devices have it
abbrev pub is_version : ℕ → Bool
is_version bcd =
    (bcd == 0x0100) || (bcd == 0x0101) || (bcd == 0x0110) || (bcd == 0x0200) || (bcd == 0x0201) || (bcd == 0x0210) || (bcd == 0x0250)
    || (bcd == 0x0300) || (bcd == 0x0310) || (bcd == 0x0320)

-- bMaxPacketSize0 is 8, 16, 32 or 64 (USB 2.0, 9.6.1), or 9, an exponent (USB 3.2, 9.6.1)
abbrev pub is_first_packet : ℕ → Bool
is_first_packet packet = (packet == 8) || (packet == 9) || (packet == 16) || (packet == 32) || (packet == 64)

-- The bytes begin with a device descriptor: 18 bytes of type 1 with such a version and packet size, and with a configuration (USB
-- 2.0, 9.6.1). A byte that isn't there is 0.
abbrev pub begins_device : List ℕ → Bool
begins_device b =
    (slice_index b 0 == 18) && (slice_index b 1 == 1) && is_version (little_endian_at b 2) && is_first_packet (slice_index b 7)
    && nat_lt 0 (slice_index b 17)

-- neither of them stands at this place
pub record IsBare (b : List ℕ) (place : ℕ) : Type 0 where
  pub no_set : (n : ℕ) → BeginsSet (drop place b) n → ⊥
  pub no_device : begins_device (drop place b) ≡ false

-- A set of this length stands there, and the search goes on after it: what is within a set is listed with it.
pub record IsSet (b : List ℕ) (f : Found) : Type 0 where
  pub kind : f.kind ≡ 1
  pub begins : BeginsSet (drop f.place b) f.length
  pub next : f.next ≡ f.place + f.length

-- A device descriptor stands there. It has few bytes that are fixed, so it hides nothing: the search goes on in it.
pub record IsDevice (b : List ℕ) (f : Found) : Type 0 where
  pub kind : f.kind ≡ 4
  pub begins : begins_device (drop f.place b) ≡ true
  pub length : f.length ≡ 18
  pub next : f.next ≡ f.place + 1

-- one of them stands there, and none before it from a place on
pub record IsFirst (b : List ℕ) (start : ℕ) (f : Found) : Type 0 where
  pub least : start ≤ f.place
  pub stands : IsSet b f ⊎ IsDevice b f
  pub bare : (p : ℕ) → start ≤ p → p < f.place → IsBare b p

-- the first of them from a place on, or false where there is none and nothing changes
abbrev pub Finds : List ℕ → ℕ → Found → Found → Bool → Type 0
Finds b start old new true = IsFirst b start new
Finds b start old new false = ((p : ℕ) → start ≤ p → IsBare b p) × (new ≡ old)

-- these are found one after another from a place on, and the search goes on at the last place
abbrev pub FindsAll : List ℕ → ℕ → List Found → ℕ → Type 0
FindsAll b start [] end = end ≡ start
FindsAll b start (f ∷ fs) end = IsFirst b start f × FindsAll b f.next fs end

-- This many are put into a buffer, and the search goes on at the end. Where there was room for more, nothing stands after them.
pub record FindsIn (b : List ℕ) (start : ℕ) (old new : List Found) (count end : ℕ) : Type 0 where
  pub last : ℕ
  pub found : FindsAll b start (take count new) last
  pub rest : drop count new ≡ drop count old
  pub room : count ≤ length old
  pub same : length new ≡ length old
  pub all : count < length old → (p : ℕ) → last ≤ p → IsBare b p
  pub on : count ≡ length old → end ≡ last
  pub within : end ≤ start + (length b - start)
