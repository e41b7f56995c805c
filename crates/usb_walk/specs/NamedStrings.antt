-- The strings that descriptors name, and which string is of which index and language (USB 2.0, 9.6.7).
use Rattle.std.specs.Prelude.{ℕ, ◌+◌, ◌*◌, ◌/◌, ◌%◌, ◌^◌, ◌==◌, nat_lt, List, [], ◌∷◌, length, filter, take, drop, slice_index, slice_set, if◌then◌else◌}
use Rattle.std.specs.Int.RustNames.{bit_or}
use Rattle.std.specs.List.{range_with_len}
use Rattle.usb_fields.specs.Bytes.{little_endian_at}
use Rattle.usb_fields.specs.Marks.{is_marked}
use Rattle.usb_walk.specs.declared.role.Role.{Role}
use Rattle.usb_walk.specs.declared.role.Role.TheVariants as roles
use Rattle.usb_walk.specs.declared.string_place.StringPlace.{StringPlace}

-- where a descriptor names strings (USB 2.0, 9.6.1, 9.6.3, 9.6.5, and the ECN on interface associations)
abbrev pub indices_of_role : Role → List ℕ → List ℕ
indices_of_role roles.Device d = slice_index d 14 ∷ slice_index d 15 ∷ slice_index d 16 ∷ []
indices_of_role roles.Configuration d = slice_index d 6 ∷ []
indices_of_role roles.Interface d = slice_index d 8 ∷ []
indices_of_role roles.Association d = slice_index d 7 ∷ []
indices_of_role role d = []

-- with the bit of an index
abbrev pub with_index : List ℕ → ℕ → List ℕ
with_index words n = slice_set words (n / 64) (bit_or (slice_index words (n / 64)) (1 * 2 ^ (n % 64) % 2 ^ 64))

-- the indices whose bits are set, ascending; 0 names no string
unfoldable pub indices_in : List ℕ → List ℕ
indices_in words = filter (is_marked words) (range_with_len 1 255)

-- the bytes of the list of languages at a place
abbrev pub list_at : List ℕ → ℕ → List ℕ
list_at b place = let list = drop place b in take (slice_index list 0) list

-- the language of this number in a list, which has 126 at most (USB 2.0, 9.6.7)
abbrev pub language_in : List ℕ → ℕ → ℕ
language_in list n = if nat_lt n 126 then little_endian_at list (2 + 2 * n) else 0

-- what is no string has no index and no language
abbrev pub no_string : StringPlace
no_string = record { index = 0; language = 0 }

-- those of a string, by how many came before it: strings are language by language, one for each index
abbrev pub string_among : List ℕ → List ℕ → ℕ → StringPlace
string_among indices list number =
    let count = length indices in
    if count == 0 then no_string else record { index = slice_index indices (number % count); language = language_in list (number / count) }
