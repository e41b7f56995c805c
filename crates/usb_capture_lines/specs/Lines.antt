-- The lines of a control transfer of a recording.
use Rattle.std.specs.Prelude.{ℕ, ◌+◌, ◌-◌, ◌/◌, ◌%◌, ◌==◌, Bool, true, false, List, [], ◌∷◌, ◌++◌, codes, nat_lt, Option, Some, None, if◌then◌else◌}
use Rattle.std.specs.Option.{option_or}
use Rattle.std.specs.Fmt.{decimal}
use Rattle.std.specs.Int.{to_be_bytes, w32}
use Rattle.hex.specs.Hex.{encode_lower}
use Rattle.usb_fields.specs.Setup.{setup_bytes}
use Rattle.usb_fields.specs.declared.setup.Setup.{Setup}
use Rattle.usb_text.specs.Lines.{column}
use Rattle.usb_capture.specs.declared.control_transfer.ControlTransfer.{ControlTransfer}
use Rattle.usb_capture.specs.declared.ending.Ending.{Ending}
use Rattle.usb_capture.specs.declared.ending.Ending.TheVariants.{Unseen, Done, Stall, Failed, Refused}
use Rattle.usb_capture_lines.specs.Requests.{request_words}
use Rattle.usb_capture_lines.specs.Statuses.{status_words}

-- a digit of a number, by what it counts
abbrev pub digit_at : ℕ → ℕ → ℕ
digit_at n unit = 48 + n / unit % 10

-- nanoseconds in seconds, with six digits after the point
unfoldable pub seconds_words : ℕ → List ℕ
seconds_words n =
    let rest = n / 1000 % 1000000 in
    decimal (n / 1000000000)
    ++ 46 ∷ digit_at rest 100000 ∷ digit_at rest 10000 ∷ digit_at rest 1000 ∷ digit_at rest 100 ∷ digit_at rest 10 ∷ digit_at rest 1 ∷ []

-- a time, from an origin on, or before it
abbrev pub time_words : ℕ → Option ℕ → List ℕ
time_words origin None = codes "-"
time_words origin (Some time) = if nat_lt time origin then codes "-" ++ seconds_words (origin - time) else seconds_words (time - origin)

abbrev pub time_column : ℕ → Option ℕ → List ℕ
time_column origin time = column 11 (time_words origin time)

-- a device: the number of its bus, and its address
unfoldable pub address_words : ℕ → ℕ → List ℕ
address_words bus device = decimal bus ++ codes "." ++ decimal device

abbrev pub request_column : Setup → List ℕ
request_column s = column 44 (request_words s)

-- a status: a negative error number in decimal digits, and another one in eight hexadecimal ones
abbrev pub code_words : ℕ → List ℕ
code_words status =
    if nat_lt status 0xfffff001 then codes "0x" ++ encode_lower (to_be_bytes w32 status)
    else codes "-" ++ decimal (0x100000000 - status)

-- how a transfer ended, where it had this wLength and this many bytes came or went
abbrev pub ending_words : ℕ → ℕ → Ending → List ℕ
ending_words asked came Unseen = codes "no end"
ending_words asked came Done = if asked == 0 then codes "done" else decimal came
ending_words asked came Stall = codes "STALL"
ending_words asked came (Failed status) = codes "error " ++ code_words status
ending_words asked came (Refused status) = codes "refused " ++ code_words status

abbrev pub cut_words : Bool → List ℕ
cut_words true = codes ", cut"
cut_words false = []

unfoldable pub reply_words : ControlTransfer → List ℕ
reply_words t = ending_words t.setup.length t.length t.ending ++ cut_words t.is_cut

-- when it ended, or began if its end isn't there; its device; its request; and its reply
unfoldable pub transfer_line : ℕ → ControlTransfer → List ℕ
transfer_line origin t =
    time_column origin (option_or t.ended t.begun) ++ column 6 (address_words t.bus t.device) ++ request_column t.setup
    ++ reply_words t ++ codes "\n"

-- what the status of a failed transfer means
unfoldable pub meaning_line : ℕ → List ℕ
meaning_line status = codes "           ? " ++ status_words status ++ codes "\n"

abbrev pub meaning_part : Ending → List ℕ
meaning_part Unseen = []
meaning_part Done = []
meaning_part Stall = []
meaning_part (Failed status) = meaning_line status
meaning_part (Refused status) = meaning_line status

-- bytes in rows of 32, of which the first one has room for this many
abbrev pub room_after : ℕ → ℕ
room_after room = if room == 0 then 31 else room - 1

abbrev pub byte_part : ℕ → ℕ → List ℕ
byte_part room byte = if room == 0 then codes "\n           " ++ encode_lower (byte ∷ []) else encode_lower (byte ∷ [])

unfoldable pub rows : ℕ → List ℕ → List ℕ
rows room [] = []
rows room (byte ∷ bytes) = byte_part room byte ++ rows (room_after room) bytes

abbrev pub data_part : List ℕ → List ℕ
data_part [] = []
data_part (byte ∷ bytes) = codes "           " ++ rows 32 (byte ∷ bytes) ++ codes "\n"

-- the bytes of the setup packet, and those of the data that the recording has
abbrev pub bytes_part : Bool → ControlTransfer → List ℕ
bytes_part false t = []
bytes_part true t = codes "           setup " ++ encode_lower (setup_bytes t.setup) ++ codes "\n" ++ data_part t.data

unfoldable pub transfer_lines : Bool → ℕ → ControlTransfer → List ℕ
transfer_lines with_bytes origin t = transfer_line origin t ++ meaning_part t.ending ++ bytes_part with_bytes t
