-- A device image: the descriptors that a device hands out, and what requests can name, as one byte string that is read
-- where it lies. It is a list of pieces, and any bytes are one.
use Rattle.std.specs.Prelude.{ℕ, zero, suc, ◌+◌, ◌-◌, ◌*◌, ◌%◌, ◌/◌, ◌==◌, ◌&&◌, Bool, List, [], ◌∷◌, ◌++◌, length, take, drop, nat_lt, slice_index, find, Option, None, Some, option_and_then, if◌then◌else◌}
use Rattle.std.specs.Option.{option_map}
use Rattle.std.specs.List.{flat_map}
use Rattle.usb_fields.specs.Bytes.{little_endian, little_endian_at}

-- Pieces.

-- A piece: what it is, and bytes, which may be pieces themselves. By its kind it is
--   0    the head: the version of the format, and bMaxPacketSize0
--   1    the device descriptor (USB 2.0, 9.6.1), 2 a set (9.6.3), 6 the qualifier (9.6.2), 7 a set of the other speed (9.6.4),
--        each with its index, and 3 the language list (9.6.7)
--   128  the strings of a language, which is its number: a table of places, and the strings one after another ("Strings" below)
--   129  what requests can name: each set of the device is a piece of kind 2 with its bConfigurationValue and
--        bmAttributes, each setting in it one of kind 4 with its bInterfaceNumber and bAlternateSetting, and each endpoint
--        there two bytes, bEndpointAddress and bmAttributes
pub record Piece : Type 0 where
  pub kind : ℕ
  pub index : ℕ
  pub number : ℕ
  pub body : List ℕ

-- whether it is the piece that these numbers name
abbrev pub has_key : ℕ → ℕ → ℕ → Piece → Bool
has_key kind index number p = (kind == p.kind) && (index == p.index) && (number == p.number)

-- its bytes
abbrev pub body_of : Piece → List ℕ
body_of p = p.body

-- Written.

-- a count, in four bytes
abbrev pub count_bytes : ℕ → List ℕ
count_bytes n = little_endian (n % 65536) ++ little_endian (n / 65536)

-- what is before the bytes of a piece: its kind and index in one byte each, its number in two, and their count, all
-- numbers with the low byte first
abbrev pub header_bytes : ℕ → ℕ → ℕ → ℕ → List ℕ
header_bytes kind index number count = kind ∷ index ∷ little_endian number ++ count_bytes count

-- a piece
abbrev pub piece_bytes : Piece → List ℕ
piece_bytes p = header_bytes p.kind p.index p.number (length p.body) ++ p.body

-- pieces one after another
abbrev pub image_bytes : List Piece → List ℕ
image_bytes ps = flat_map piece_bytes ps

-- Read. A byte that is not there is 0, and fewer than 8 bytes are no piece.

-- how many bytes the first piece has
abbrev pub count_in : List ℕ → ℕ
count_in b = little_endian_at b 4 + 65536 * little_endian_at b 6

-- the first piece
abbrev pub piece_in : List ℕ → Piece
piece_in b = record {
  kind = slice_index b 0;
  index = slice_index b 1;
  number = little_endian_at b 2;
  body = take (count_in b) (drop 8 b);
}

-- what is after it
abbrev pub rest_in : List ℕ → List ℕ
rest_in b = drop (count_in b) (drop 8 b)

-- the pieces, at most this many, where each has what is before its bytes
unfoldable pub pieces_within : ℕ → List ℕ → List Piece
pieces_within zero b = []
pieces_within (suc n) b = if nat_lt (length b) 8 then [] else piece_in b ∷ pieces_within n (rest_in b)

-- the pieces of any bytes
unfoldable pub pieces_of : List ℕ → List Piece
pieces_of b = pieces_within (length b) b

-- Strings. Those of a language are found by a table of places: for each index, from 1 to the last one that is named, where its
-- string begins among the strings, and at the end where the last string ends. A string ends where the next one begins, so an
-- index whose place is that of the next one has no string. All are numbers of two bytes: in a language are at most 255 strings
-- of at most 254 bytes (9.6.7), and so 64,770 bytes. Before the table is how many bytes it has. An index that is not named costs
-- two bytes where a higher one is: 472 in each language with strings 1 and 0xEE, which Microsoft's OS descriptors have.

-- a table
abbrev pub table_bytes : List ℕ → List ℕ
table_bytes places = flat_map little_endian places

-- the strings of a language, of places among these bytes
abbrev pub strings_bytes : List ℕ → List ℕ → List ℕ
strings_bytes places strings = little_endian (length (table_bytes places)) ++ (table_bytes places ++ strings)

-- the bytes from a place to a later one
abbrev pub bytes_between : ℕ → ℕ → List ℕ → Option (List ℕ)
bytes_between start end b = if nat_lt start end then Some (take (end - start) (drop start b)) else None

-- the string of this index, from 1 on, in the strings of a language
abbrev pub string_in : ℕ → List ℕ → Option (List ℕ)
string_in index b =
    if nat_lt (2 * index) (little_endian_at b 0)
    then bytes_between (little_endian_at b (2 * index)) (little_endian_at b (2 * index + 2)) (drop (little_endian_at b 0) (drop 2 b))
    else None

-- What a device hands out by it.

-- the bytes of the first piece that these numbers name
abbrev pub find_in : List Piece → ℕ → ℕ → ℕ → Option (List ℕ)
find_in ps kind index number = option_map body_of (find (has_key kind index number) ps)

-- the descriptor of this type and index, in this language where it is a string (9.4.3)
abbrev pub descriptor_in : List Piece → ℕ → ℕ → ℕ → Option (List ℕ)
descriptor_in ps kind index language =
    if kind == 1 then find_in ps 1 index 0
    else if kind == 2 then find_in ps 2 index 0
    else if kind == 3 then (if index == 0 then find_in ps 3 0 0 else option_and_then (string_in index) (find_in ps 128 0 language))
    else if kind == 6 then find_in ps 6 index 0
    else if kind == 7 then find_in ps 7 index 0
    else None
