-- The lines of a log that show packets, and what becomes of them on a bus of bytes.
use Rattle.std.specs.Prelude.{ℕ, ◌+◌, List, [], ◌∷◌, ◌++◌, codes, Bool, true, false, if◌then◌else◌, Option, Some, None, Result, Ok, Err}
use Rattle.std.specs.Fmt.{decimal}
use Rattle.usb_text.specs.Lines.{column}
use Rattle.usb_fields.specs.Packets.{Sent, Reply}
use Rattle.usb_wire.specs.declared.damage.Damage.{Damage}
use Rattle.usb_wire.specs.declared.damage.Damage.TheVariants as damages
use Rattle.usb_wire.specs.declared.pid.TokenKind.TheVariants as tokens
use Rattle.usb_wire.specs.declared.pid.DataKind.TheVariants as datas
use Rattle.usb_wire.specs.declared.pid.Handshake.TheVariants as handshakes
use Rattle.usb_wire.specs.declared.pid.Pid.{Pid}
use Rattle.usb_wire.specs.declared.pid.Pid.TheVariants as pids
use Rattle.usb_wire.specs.Damages.{damage_of, pid_read}
use Rattle.usb_wire.specs.Packets.{PacketView, packet_bytes}
use Rattle.usb_bus.specs.declared.fate.Fate.{Fate}
use Rattle.usb_bus.specs.Damaged.{reply_number, with_changed}
use Rattle.usb_bus.specs.Exchanges.{is_lost_ack, is_lost_down, is_lost_up}
use Rattle.usb_bus.specs.Lines.{data_below, data_words, numbered}
use Rattle.usb_bus.specs.Wire.{ack_packet, data_packet, reply_packet, token_packet}

-- the name of a packet by its PID (table 8-1)
abbrev pub pid_name : Result Pid Damage → List ℕ
pid_name (Ok (pids.Token tokens.Out)) = codes "OUT"
pid_name (Ok (pids.Token tokens.In)) = codes "IN"
pid_name (Ok (pids.Token tokens.Setup)) = codes "SETUP"
pid_name (Ok (pids.Token tokens.Ping)) = codes "PING"
pid_name (Ok pids.StartOfFrame) = codes "SOF"
pid_name (Ok (pids.Data datas.Data0)) = codes "DATA0"
pid_name (Ok (pids.Data datas.Data1)) = codes "DATA1"
pid_name (Ok (pids.Data datas.Data2)) = codes "DATA2"
pid_name (Ok (pids.Data datas.MData)) = codes "MDATA"
pid_name (Ok (pids.Handshake handshakes.Ack)) = codes "ACK"
pid_name (Ok (pids.Handshake handshakes.Nak)) = codes "NAK"
pid_name (Ok (pids.Handshake handshakes.Stall)) = codes "STALL"
pid_name (Ok (pids.Handshake handshakes.Nyet)) = codes "NYET"
pid_name (Ok pids.Pre) = codes "PRE"
pid_name (Ok pids.Split) = codes "SPLIT"
pid_name (Err damage) = []

-- the name of the packet with these bytes
abbrev pub packet_name : List ℕ → List ℕ
packet_name [] = []
packet_name (head ∷ body) = pid_name (pid_read head)

-- what bytes are refused as
abbrev pub damage_name : Damage → List ℕ
damage_name damages.Empty = codes "Empty"
damage_name damages.Pid = codes "Pid"
damage_name damages.Reserved = codes "Reserved"
damage_name damages.Length = codes "Length"
damage_name damages.Crc5 = codes "Crc5"
damage_name damages.Crc16 = codes "Crc16"

-- what stands before the name of a packet: its number in the transaction as it is sent, or that it arrives so
abbrev pub head_words : Option ℕ → List ℕ
head_words (Some number) = decimal number ++ codes ": "
head_words None = codes "as "

-- A packet in columns of a transaction's line: its name under the packets, and its bytes under the data. More than 8 bytes are below
-- the line, also in a brief log.
unfoldable pub packet_part : Option ℕ → List ℕ → List ℕ
packet_part number bytes = codes "        " ++ column 15 (head_words number ++ packet_name bytes) ++ column 17 (data_words (Some bytes))

-- its line, with these words of what becomes of it
unfoldable pub packet_line : Option ℕ → List ℕ → List ℕ → List ℕ
packet_line number bytes words = packet_part number bytes ++ words ++ data_below false (Some bytes)

-- the numbers of bits
abbrev pub listed : List ℕ → List ℕ
listed [] = []
listed (bit ∷ bits) = numbered (codes " ") bit ++ listed bits

unfoldable pub bits_words : List ℕ → List ℕ
bits_words bits = codes "bits" ++ listed bits

-- the bits, and what the packet is refused as
unfoldable pub refused_words : List ℕ → Damage → List ℕ
refused_words bits damage = bits_words bits ++ codes ": refused as " ++ damage_name damage

-- a packet in which these bits have changed, what arrives of it, and what is wrong with that, if anything is
abbrev pub changed_lines : Option Damage → List ℕ → ℕ → List ℕ → List ℕ → List ℕ
changed_lines (Some damage) bits number sent arrived = packet_line (Some number) sent (refused_words bits damage)
changed_lines None bits number sent arrived = packet_line (Some number) sent (bits_words bits) ++ packet_line None arrived (codes "arrives")

-- a packet in which no bit has changed
abbrev pub whole_line : Bool → Bool → ℕ → List ℕ → List ℕ
whole_line all lost number sent = if all then packet_line (Some number) sent (if lost then codes "lost" else codes "arrives") else []

-- whether there are bits
abbrev pub has_bits : List ℕ → Bool
has_bits [] = false
has_bits (bit ∷ bits) = true

-- A packet with this number in its transaction, in which these bits change if the bus does not lose it. Where not all packets are
-- shown, only one that has changed is.
abbrev pub packet_lines : Bool → Bool → List ℕ → ℕ → List ℕ → List ℕ
packet_lines all true bits number sent = whole_line all true number sent
packet_lines all false bits number sent =
    if has_bits bits then changed_lines (damage_of (with_changed bits sent)) bits number sent (with_changed bits sent)
    else whole_line all false number sent

-- the same where there may be no packet
abbrev pub lines_of : Bool → Bool → List ℕ → ℕ → Option PacketView → List ℕ
lines_of all lost bits number None = []
lines_of all lost bits number (Some p) = packet_lines all lost bits number (packet_bytes p)

-- The packets of a transaction in their order, where the device has answered this, and that came of it: the token, the data after it, the
-- answer, and the host's ACK. Of each these bits change, by its number.
abbrev pub transaction_packets : Bool → Fate → (ℕ → List ℕ) → Sent → Reply → Reply → List ℕ
transaction_packets all fate bits sent answer came =
    let at = reply_number sent.token in
    lines_of all (is_lost_down fate) (bits 1) 1 (Some (token_packet sent)) ++ lines_of all (is_lost_down fate) (bits 2) 2 (data_packet sent.token)
    ++ lines_of all (is_lost_up fate) (bits at) at (reply_packet answer) ++ lines_of all (is_lost_ack fate) (bits (at + 1)) (at + 1) (ack_packet came)

abbrev pub packets_below : Bool → Fate → (ℕ → List ℕ) → Option Sent → Reply → Reply → List ℕ
packets_below all fate bits None answer came = []
packets_below all fate bits (Some sent) answer came = transaction_packets all fate bits sent answer came
