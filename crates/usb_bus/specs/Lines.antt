-- The lines of a log.
use Rattle.std.specs.Prelude.{not, ℕ, List, [], ◌++◌, ◌-◌, ◌/◌, ◌%◌, ◌==◌, ◌&&◌, nat_lt, codes, if◌then◌else◌, suc, ◌∷◌, length, Bool, true, false, Option, Some, None}
use Rattle.std.specs.Fmt.{decimal}
use Rattle.usb_fields.specs.declared.setup.Setup.{Setup as SetupPacket}
use Rattle.usb_text.specs.Numbers.{byte_code, count, word_code}
use Rattle.hex.specs.Hex.{encode_lower}
use Rattle.usb_fields.specs.Packets.{Token, SetupToken, InToken, OutToken, Sent, Reply, AckReply, NakReply, StallReply, DataReply, NoReply}
use Rattle.usb_fields.specs.declared.packet.Toggle.{Toggle}
use Rattle.usb_fields.specs.declared.packet.Toggle.TheVariants.{Data0, Data1}
use Rattle.usb_text.specs.Lines.{column}
use Rattle.usb_host.specs.declared.why.Why.{Why}
use Rattle.usb_host.specs.declared.why.Why.TheVariants.{NoAnswer, Busy, Stalled, TooLong, Unexpected, Malformed, Memory}
use Rattle.usb_host.specs.Why.{why_message, step_text}
use Rattle.usb_host.specs.Transfer.{TransferView, HeardView, Goes, Brings, Completes, Fails, due}
use Rattle.usb_device.specs.declared.stage.Stage.{Stage}
use Rattle.usb_device.specs.declared.stage.Stage.TheVariants as stages
use Rattle.usb_device.specs.Stages.{stage_kind}
use Rattle.usb_device.specs.Step.{DeviceView}
use Rattle.usb_device.specs.View.{acknowledged}
use Rattle.usb_bus.specs.declared.fate.Fate.{Fate}
use Rattle.usb_bus.specs.declared.fate.Fate.TheVariants as fates
use Rattle.usb_host.specs.declared.step.Step.{Step}
use Rattle.usb_bus.specs.Bus.{busies, losses}
use Rattle.usb_bus.specs.Exchanges.{is_lost_ack, is_lost_down, is_lost_up}

-- The requests of an enumeration in words (USB 2.0, 9.4).

-- a kind of descriptor by bDescriptorType (table 9-5); a host asks for no other ones
abbrev pub kind_words : ℕ → List ℕ
kind_words kind =
    if kind == 1 then codes "device"
    else if kind == 2 then codes "configuration"
    else if kind == 3 then codes "string"
    else if kind == 6 then codes "qualifier"
    else if kind == 7 then codes "other-speed configuration"
    else codes "type " ++ byte_code kind

-- the language of a string above 0; string 0 has none, as it lists the languages (9.6.7)
abbrev pub language_words : ℕ → ℕ → ℕ → List ℕ
language_words kind index language =
    if kind == 3 && nat_lt 0 index then codes " language " ++ word_code language else []

-- a descriptor by its type, its index and its language
unfoldable pub descriptor_words : ℕ → ℕ → ℕ → List ℕ
descriptor_words kind index language =
    kind_words kind ++ codes " " ++ decimal index ++ language_words kind index language

-- words, and a number after them
unfoldable pub numbered : List ℕ → ℕ → List ℕ
numbered words n = words ++ decimal n

-- GET_DESCRIPTOR of the type in the high byte of wValue and the index in its low byte (9.4.3)
unfoldable pub get_descriptor_words : SetupPacket → List ℕ
get_descriptor_words q =
    codes "GET_DESCRIPTOR " ++ descriptor_words (q.value / 256) (q.value % 256) q.index ++ codes ", " ++ count q.length (codes "byte")

-- a request by bRequest (table 9-4); a host makes no other ones
unfoldable pub request_words : SetupPacket → List ℕ
request_words q =
    if q.request == 6 then get_descriptor_words q
    else if q.request == 5 then numbered (codes "SET_ADDRESS ") q.value
    else if q.request == 9 then numbered (codes "SET_CONFIGURATION ") q.value
    else codes "request " ++ byte_code q.request

-- the headings of the columns that a transaction's line has, above the first attempt
abbrev pub heading_part : ℕ → List ℕ
heading_part attempt =
    if attempt == 1 then codes "no.   f packets (lost) data             host                device\n" else []

-- a bus reset begins an attempt
unfoldable pub reset_line : ℕ → List ℕ
reset_line attempt = heading_part attempt ++ numbered (codes "attempt ") attempt ++ codes ": bus reset\n"

-- the address that a transaction goes to
abbrev pub address_words : Option Sent → List ℕ
address_words None = []
address_words (Some sent) = numbered (codes ", to ") sent.address

-- a transfer begins: its step, its request, and the address that its first transaction goes to
unfoldable pub transfer_line : Step → TransferView → List ℕ
transfer_line step t =
    step_text step ++ codes ": " ++ request_words t.request ++ address_words (due t) ++ codes "\n"

-- the letter of a fate, as `--fates` has it
abbrev pub fate_letter : Fate → List ℕ
fate_letter fates.Pass = codes "."
fate_letter fates.Busy = codes "n"
fate_letter fates.LostDown = codes "d"
fate_letter fates.LostUp = codes "u"
fate_letter fates.LostAck = codes "a"

-- a packet's name, in brackets where it was lost
abbrev pub marked : List ℕ → Bool → List ℕ
marked words true = codes "(" ++ words ++ codes ")"
marked words false = words

-- what the host sends
abbrev pub token_words : Token → List ℕ
token_words (SetupToken bytes) = codes "SETUP"
token_words InToken = codes "IN"
token_words (OutToken toggle bytes) = codes "OUT"

abbrev pub sent_words : Option Sent → Bool → List ℕ
sent_words None lost = []
sent_words (Some sent) lost = marked (token_words sent.token) lost

-- what the device answers
abbrev pub toggle_words : Toggle → List ℕ
toggle_words Data0 = codes "DATA0"
toggle_words Data1 = codes "DATA1"

abbrev pub answer_words : Reply → Bool → List ℕ
answer_words AckReply lost = codes " " ++ marked (codes "ACK") lost
answer_words NakReply lost = codes " " ++ marked (codes "NAK") lost
answer_words StallReply lost = codes " " ++ marked (codes "STALL") lost
answer_words (DataReply toggle bytes) lost = codes " " ++ marked (toggle_words toggle) lost
answer_words NoReply lost = []

-- the host's ACK of a data packet that has reached it
abbrev pub ack_words : Reply → Bool → List ℕ
ack_words (DataReply toggle bytes) lost = codes " " ++ marked (codes "ACK") lost
ack_words reply lost = []

-- the packets of a transaction, in their order: what is sent, what the device answers, and the host's ACK of what came of that
unfoldable pub packets_words : Fate → Option Sent → Reply → Reply → List ℕ
packets_words fate sent answer came =
    sent_words sent (is_lost_down fate) ++ answer_words answer (is_lost_up fate) ++ ack_words came (is_lost_ack fate)

-- the bytes of a transaction's data packet, where it shows one: the setup packet, or what the device has answered
abbrev pub answered_data : Reply → Option (List ℕ)
answered_data (DataReply toggle bytes) = Some bytes
answered_data reply = None

abbrev pub token_data : Token → Reply → Option (List ℕ)
token_data (SetupToken bytes) answer = Some bytes
token_data token answer = answered_data answer

abbrev pub data_of : Option Sent → Reply → Option (List ℕ)
data_of None answer = answered_data answer
data_of (Some sent) answer = token_data sent.token answer

-- n bytes are shown in the line itself, and not in lines below it
abbrev pub fit_in_line : ℕ → Bool
fit_in_line n = nat_lt 0 n && nat_lt n 9

-- the data in the line: 1 to 8 bytes themselves, and of others how many they are
abbrev pub data_words : Option (List ℕ) → List ℕ
data_words None = []
data_words (Some bytes) = if fit_in_line (length bytes) then encode_lower bytes else count (length bytes) (codes "byte")

-- A transaction until the host has taken what came of it: its number, its fate, its packets, and its data.
unfoldable pub packets_part : ℕ → Fate → Option Sent → Reply → Reply → List ℕ
packets_part number fate sent answer came =
    column 6 (decimal number) ++ column 2 (fate_letter fate) ++ column 15 (packets_words fate sent answer came)
    ++ column 17 (data_words (data_of sent answer))

-- a strike: nothing came, or a data packet that came before
abbrev pub strike_words : ℕ → List ℕ
strike_words strikes = codes "strike " ++ decimal strikes

-- a transfer goes on with no new byte
abbrev pub going_words : TransferView → Reply → List ℕ
going_words t AckReply = codes "accepted"
going_words t NakReply = codes "NAK " ++ decimal t.nak_count
going_words t (DataReply toggle bytes) = codes "duplicate, " ++ strike_words t.strikes
going_words t StallReply = strike_words t.strikes
going_words t NoReply = strike_words t.strikes

-- a transfer has failed
abbrev pub failure_words : TransferView → Why → List ℕ
failure_words t NoAnswer = codes "strike 3: no answer"
failure_words t Busy = codes "NAK " ++ decimal (suc t.nak_count) ++ codes ": busy"
failure_words t Stalled = codes "stalled"
failure_words t TooLong = codes "too long"
failure_words t Unexpected = codes "unexpected"
failure_words t Malformed = codes "malformed"
failure_words t Memory = codes "out of memory"

-- what a transfer has made of a reply, where this is the transfer after it
abbrev pub received_words : TransferView → Reply → HeardView → List ℕ
received_words t reply Goes = going_words t reply
received_words t reply (Brings bytes) = codes "has " ++ decimal t.kept ++ codes " of " ++ decimal t.request.length
received_words t reply Completes = codes "complete"
received_words t reply (Fails why) = failure_words t why

-- What the host has: what its transfer has made of the reply. A transfer that completes may end the enumeration, by what
-- it brought, and out of memory ends it anywhere.
abbrev pub host_words : TransferView → Reply → HeardView → Option Why → List ℕ
host_words t reply received (Some Memory) = codes "out of memory"
host_words t reply received (Some Malformed) = received_words t reply received ++ codes ": malformed"
host_words t reply received why = received_words t reply received

-- the stage that a device is in, with `sent` bytes of its data stage acknowledged
abbrev pub stage_words : Stage → ℕ → List ℕ
stage_words stages.Idle sent = codes "idle"
stage_words stages.Halted sent = codes "halted"
stage_words stages.Sending sent = codes "sending " ++ decimal sent
stage_words stages.StatusOut sent = codes "status out"
stage_words stages.Over sent = codes "over"
stage_words stages.StatusIn sent = codes "status in"
stage_words stages.Receiving sent = codes "receiving"
stage_words stages.Written sent = codes "written"

-- what the device has, where this is its packet size: its address, its configuration value, and its stage
unfoldable pub device_words : ℕ → DeviceView → List ℕ
device_words packet d =
    decimal d.state.address ++ codes "/" ++ decimal d.state.selected ++ codes " "
    ++ stage_words (stage_kind d.stage) (acknowledged packet d.stage)

-- The end of a line, and these bytes in lines below it, 16 a line, under the column of data. The line has room for
-- `room` of them.
unfoldable pub rows_below : ℕ → List ℕ → List ℕ
rows_below room [] = codes "\n"
rows_below room (byte ∷ bytes) =
    if room == 0 then codes "\n                       " ++ encode_lower (byte ∷ []) ++ rows_below 15 bytes
    else encode_lower (byte ∷ []) ++ rows_below (room - 1) bytes

-- the end of a transaction's line, and below it the data of more than 8 bytes, which a brief log leaves out
abbrev pub data_below : Bool → Option (List ℕ) → List ℕ
data_below brief None = codes "\n"
data_below brief (Some bytes) = if not brief && nat_lt 8 (length bytes) then rows_below 0 bytes else codes "\n"

-- an attempt is given up, for this reason
unfoldable pub given_up_line : ℕ → Why → List ℕ
given_up_line attempt why = numbered (codes "attempt ") attempt ++ codes " given up: " ++ why_message why ++ codes "\n"

abbrev pub given_up_part : ℕ → Option Why → List ℕ
given_up_part attempt None = []
given_up_part attempt (Some why) = given_up_line attempt why

-- The last line of a log: how many of its transactions have lost something, and in how many the device was not ready, by their
-- fates.
unfoldable pub tally_line : List Fate → List ℕ
tally_line used = numbered (codes "fates: losses ") (losses used) ++ numbered (codes ", busy ") (busies used) ++ codes "\n"
