-- Programs, compressed bytes and images as text, which may hold descriptors that are not read out of them.
use Rattle.std.specs.Prelude.{ℕ, zero, suc, ◌+◌, ◌*◌, ◌%◌, ◌==◌, ◌&&◌, Bool, false, List, [], ◌∷◌, take, slice_index, Option, Some, None, if◌then◌else◌}
use Rattle.hex.specs.Hex.{hex_digit_value}
use Rattle.usb_explain.specs.declared.container.Container.{Container}
use Rattle.usb_explain.specs.declared.container.Container.TheVariants as containers
use Rattle.usb_text.specs.Shown.{Shown, Bytes}

-- the magic number of an object file (System V ABI, chapter 4)
abbrev pub is_elf : List ℕ → Bool
is_elf b = (slice_index b 0 == 0x7f) && (slice_index b 1 == 0x45) && (slice_index b 2 == 0x4c) && (slice_index b 3 == 0x46)

-- the identification of compressed bytes (RFC 1952, 2.3.1)
abbrev pub is_gzip : List ℕ → Bool
is_gzip b = (slice_index b 0 == 0x1f) && (slice_index b 1 == 0x8b)

abbrev pub joined : Option ℕ → Option ℕ → Option ℕ
joined (Some high) (Some low) = Some (high * 16 + low)
joined (Some high) None = None
joined None low = None

-- the byte of two digits
abbrev pub byte_of : ℕ → ℕ → Option ℕ
byte_of high low = joined (hex_digit_value high) (hex_digit_value low)

abbrev pub with_byte : (ℕ → Bool) → Option ℕ → Bool
with_byte later None = false
with_byte later (Some byte) = later byte

-- this many bytes are here, of two digits each, and their sum and that of those before is a multiple of 256
unfoldable pub adds_up : ℕ → ℕ → List ℕ → Bool
adds_up zero sum text = sum == 0
adds_up (suc left) sum [] = false
adds_up (suc left) sum (c ∷ []) = false
adds_up (suc left) sum (c ∷ d ∷ rest) = with_byte (λ byte. adds_up left ((sum + byte) % 256) rest) (byte_of c d)

-- Text begins with a record: a colon, and as many bytes as the first one says and five more, of which the last is the checksum
-- (Intel, Hexadecimal Object File Format Specification, 1988).
abbrev pub is_record : List ℕ → Bool
is_record [] = false
is_record (c ∷ text) =
    (c == 58) && with_byte (λ count. adds_up (count + 5) 0 text) (byte_of (slice_index text 0) (slice_index text 1))

-- what bytes begin as
abbrev pub container_of : List ℕ → Option Container
container_of b =
    if is_elf b then Some containers.Elf
    else if is_gzip b then Some containers.Gzip
    else if is_record b then Some containers.IntelHex
    else None

-- the bytes by which that is seen; none of text
abbrev pub magic : Container → List ℕ → List Shown
magic containers.Elf b = Bytes (take 4 b) ∷ []
magic containers.Gzip b = Bytes (take 2 b) ∷ []
magic containers.IntelHex b = []
