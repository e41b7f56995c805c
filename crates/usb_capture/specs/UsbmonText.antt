-- A line of usbmon's text (the kernel's document "usbmon", "Raw text data format", as the files '1u' have it), without its
-- end. Between words is one space, between the parts of a word a colon.
use Rattle.std.specs.Prelude.{ℕ, zero, suc, ◌+◌, ◌-◌, ◌*◌, ◌/◌, ◌%◌, ◌==◌, ◌||◌, ◌&&◌, Bool, List, [], ◌∷◌, ◌++◌, length, drop, take, min, slice_index, Option, Some, None, Result, Ok, Err, is_some, nat_lt, set, replicate, if◌then◌else◌}
use Rattle.std.specs.Int.{to_le_bytes, w16, w32, w64}
use Rattle.usb_fields.specs.declared.setup.Setup.{Setup}
use Rattle.usb_fields.specs.Setup.{setup_bytes}
use Rattle.usb_capture.specs.declared.content.Content.{Content}
use Rattle.usb_capture.specs.declared.content.Content.TheVariants as says
use Rattle.usb_capture.specs.declared.fault.CaptureFault.{CaptureFault}
use Rattle.usb_capture.specs.declared.fault.CaptureFault.TheVariants as faults
use Rattle.usb_capture.specs.declared.frame.Frame.{Frame}
use Rattle.usb_capture.specs.declared.order.ByteOrder.TheVariants.{Little}
use Rattle.usb_capture.specs.declared.text.address.Address.{Address}
use Rattle.usb_capture.specs.declared.text.data.Data.{Data}
use Rattle.usb_capture.specs.declared.text.line.Line.{Line}
use Rattle.usb_capture.specs.declared.text.status.Status.{Status}
use Rattle.usb_capture.specs.Events.{kind_of}
use Rattle.usb_capture.specs.Words.{◌>>=◌, after_parts, digit, number_below, number_in, part, place_of}

-- a word of one character
abbrev pub only : List ℕ → Option ℕ
only b = if length b == 1 then Some (slice_index b 0) else None

-- Event Type: S, C or E
unfoldable pub event_of : List ℕ → Option ℕ
event_of b = do
  letter ← only b
  kind ← kind_of letter
  Some letter

-- Address: the letters of a type, as usbmon numbers it, and of a direction, as in bEndpointAddress
abbrev pub type_of : ℕ → Option ℕ
type_of letter =
    if letter == 90 then Some 0
    else if letter == 73 then Some 1
    else if letter == 67 then Some 2
    else if letter == 66 then Some 3
    else None

abbrev pub direction_of : ℕ → Option ℕ
direction_of letter = if letter == 105 then Some 128 else if letter == 111 then Some 0 else None

-- and then the numbers of a bus, a device and an endpoint
unfoldable pub address_of : List ℕ → Option Address
address_of b =
    if length (part 58 0 b) == 2 then (do
      transfer ← type_of (slice_index b 0)
      direction ← direction_of (slice_index b 1)
      bus ← number_below 10 65536 (part 58 1 b)
      device ← number_below 10 256 (part 58 2 b)
      endpoint ← number_below 10 16 (after_parts 58 3 b)
      Some (record { transfer = transfer; endpoint = direction + endpoint; device = device; bus = bus }))
    else None

-- URB Status: a number, of which a minus makes the two's complement, and what else there is of the word
abbrev pub negative : ℕ → ℕ
negative n = if n == 0 then 0 else 4294967296 - n

unfoldable pub code_of : List ℕ → Option ℕ
code_of b =
    if slice_index b 0 == 45 then (do
      n ← number_below 10 2147483649 (part 58 0 (drop 1 b))
      Some (negative n))
    else number_below 10 2147483648 (part 58 0 b)

-- Setup packet: bmRequestType, bRequest, wValue, wIndex and wLength
unfoldable pub setup_of : List ℕ → Option Setup
setup_of b = do
  request_type ← number_below 16 256 (part 32 0 b)
  request ← number_below 16 256 (part 32 1 b)
  value ← number_below 16 65536 (part 32 2 b)
  index ← number_below 16 65536 (part 32 3 b)
  size ← number_below 16 65536 (part 32 4 b)
  Some (record { request_type = request_type; request = request; value = value; index = index; length = size })

abbrev pub no_setup : Setup
no_setup = record { request_type = 0; request = 0; value = 0; index = 0; length = 0 }

-- a status begins with a digit or a minus
abbrev pub is_code : List ℕ → Bool
is_code b = slice_index b 0 == 45 || (nat_lt 47 (slice_index b 0) && nat_lt (slice_index b 0) 58)

-- in its place there may be a letter and a setup packet, which was captured where the letter is s
unfoldable pub tagged_of : ℕ → List ℕ → Option Status
tagged_of tag b =
    if tag == 115 then (do
      setup ← setup_of b
      Some (record { tag = 0; setup = setup; code = 0 }))
    else Some (record { tag = tag; setup = no_setup; code = 0 })

unfoldable pub status_of : List ℕ → Option Status
status_of b =
    if is_code b then (do
      code ← code_of (part 32 0 b)
      Some (record { tag = 45; setup = no_setup; code = code }))
    else (do
      tag ← only (part 32 0 b)
      tagged_of tag (after_parts 32 1 b))

-- how many words these are
abbrev pub status_words : Status → ℕ
status_words status = if status.tag == 45 then 1 else 6

-- Data words: four bytes each, of two digits
unfoldable pub byte_in : ℕ → List ℕ → Option ℕ
byte_in n b = do
  high ← digit (slice_index b (9 * (n / 4) + 2 * (n % 4)))
  low ← digit (slice_index b (9 * (n / 4) + 2 * (n % 4) + 1))
  Some (16 * high + low)

abbrev pub no_bytes : List ℕ
no_bytes = replicate 32 0

-- this many bytes, and zeros after them
unfoldable pub bytes_in : ℕ → List ℕ → Option (List ℕ)
bytes_in zero b = Some no_bytes
bytes_in (suc n) b = do
  bytes ← bytes_in n b
  byte ← byte_in n b
  Some (set bytes n byte)

-- Data tag: = where data follow; with no word there is nothing to be captured
abbrev pub data_tag : List ℕ → Option ℕ
data_tag b = if length b == 0 then Some 76 else do
  letter ← only b
  Some (if letter == 61 then 0 else letter)

-- Data Length, Data tag and, of the data, 32 bytes at most
unfoldable pub data_of : List ℕ → Option Data
data_of b = do
  size ← number_below 10 4294967296 (part 32 0 b)
  tag ← data_tag (part 32 1 b)
  bytes ← bytes_in (if tag == 0 then min size 32 else 0) (after_parts 32 2 b)
  Some (record { tag = tag; length = size; count = if tag == 0 then min size 32 else 0; bytes = bytes })

-- of an isochronous transfer nothing more is read
abbrev pub no_data : Data
no_data = record { tag = 76; length = 0; count = 0; bytes = no_bytes }

unfoldable pub typed_data : ℕ → List ℕ → Option Data
typed_data transfer b = if transfer == 0 then Some no_data else data_of b

-- URB Tag, Timestamp in microseconds, Event Type, Address, and what follows
unfoldable pub line_of : List ℕ → Option Line
line_of b = do
  id ← number_in 16 (part 32 0 b)
  time ← number_below 10 4294967296 (part 32 1 b)
  event ← event_of (part 32 2 b)
  address ← address_of (part 32 3 b)
  status ← status_of (after_parts 32 4 b)
  given ← typed_data address.transfer (after_parts 32 (4 + status_words status) b)
  Some (record { id = id; time = time; event = event; address = address; status = status; «data» = given })

-- the same in struct usbmon_packet of a little-endian host: a header of 64 bytes, and the data
abbrev pub beginning_of : Line → List ℕ
beginning_of line =
    to_le_bytes w64 line.id
    ++ ((line.event ∷ line.address.transfer ∷ line.address.endpoint ∷ line.address.device ∷ [])
    ++ (to_le_bytes w16 line.address.bus
    ++ ((line.status.tag ∷ line.data.tag ∷ [])
    ++ (to_le_bytes w64 (line.time / 1000000)
    ++ to_le_bytes w32 (line.time % 1000000)))))

abbrev pub end_of : Line → List ℕ
end_of line =
    to_le_bytes w32 line.status.code
    ++ (to_le_bytes w32 line.data.length
    ++ (to_le_bytes w32 line.data.count
    ++ (setup_bytes line.status.setup
    ++ replicate 16 0)))

abbrev pub bytes_of_line : Line → List ℕ
bytes_of_line line = (beginning_of line ++ end_of line) ++ take line.data.count line.data.bytes

-- its frame: where data follow and the line has fewer, it is cut
abbrev pub line_frame : Line → Frame
line_frame line = record {
  time = Some (line.time * 1000);
  link = 220;
  order = Little;
  captured = 64 + line.data.count;
  original = if line.data.tag == 0 then min (line.data.length + 64) 4294967295 else 64;
  bytes = bytes_of_line line;
}

-- A file of such lines begins with four digits. A line has a line feed at its end, and 512 bytes at most.
abbrev pub is_text : List ℕ → Bool
is_text b =
    is_some (digit (slice_index b 0)) && is_some (digit (slice_index b 1)) && is_some (digit (slice_index b 2)) && is_some (digit (slice_index b 3))

abbrev pub line_length : List ℕ → ℕ
line_length b = min (place_of 10 b) 511 + 1

abbrev pub said : Option Line → Result Content CaptureFault
said (Some line) = Ok (says.Line line)
said None = Err faults.Line

abbrev pub line_content : List ℕ → Result Content CaptureFault
line_content b = if nat_lt (place_of 10 b) (length b) then said (line_of (take (place_of 10 b) b)) else Err faults.Line
