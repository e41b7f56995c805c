-- A capture file of packets has their frames.
use Rattle.std.proofs.Common.{◌≡◌, ℕ, suc, ◌+◌, ◌-◌, ◌*◌, ◌/◌, ◌%◌, ◌≤◌, List, [], ◌∷◌, ◌++◌, length, map, refl, sym, ◌∙◌, ap, subst, arith, length-append}
use Rattle.std.specs.Prelude.{Some}
use Rattle.std.specs.List.{AllByRecursion}
use Rattle.std.proofs.lemmas.List.{append-nil, take_all}
use Rattle.usb_wire.specs.Crc.{bits, data_register}
use Rattle.usb_wire.specs.Packets.{DataPacket, FramePacket, HandshakePacket, IsLegal, PacketView, PrePacket, SplitPacket, TokenPacket, packet_bytes, two_bytes}
use Rattle.usb_capture.specs.declared.frame.Frame.{Frame}
use Rattle.usb_capture.specs.declared.order.ByteOrder.TheVariants.{Little}
use Rattle.usb_capture.specs.declared.pcap.Form.{Form}
use Rattle.usb_capture.specs.declared.pcap.Precision.TheVariants.{Micro}
use Rattle.usb_capture.specs.declared.reader.CaptureReader.{CaptureReader}
use Rattle.usb_capture.specs.Files.{bytes_of}
use Rattle.usb_capture.specs.Numbers.{number_at}
use Rattle.usb_capture.specs.Pcap.{IsHeader, IsPartial, IsRecord}
use Rattle.usb_capture.specs.Pcap as pcap
use Rattle.usb_capture.specs.Reading.{IsRead}
use Rattle.usb_capture.proofs.Unique.{frames_of_a_file}
use Rattle.usb_recorded_runs.specs.Captures.{Moment, capture_of, frame_of, frames, header, record_bytes, records}

-- ---- numbers

number_read : (n : ℕ) → n % 256 + 256 * (n / 256 % 256) + 65536 * (n / 65536 % 256) + 16777216 * (n / 16777216) ≡ n
number_read n = omega arith

module _ (at : Moment) (bytes : List ℕ) where
  seconds_read : number_at Little (record_bytes at bytes) 0 ≡ at.seconds
  unfolding number_at
  seconds_read = number_read at.seconds

  micros_read : number_at Little (record_bytes at bytes) 4 ≡ at.micros
  unfolding number_at
  micros_read = number_read at.micros

  captured_read : number_at Little (record_bytes at bytes) 8 ≡ length bytes
  unfolding number_at
  captured_read = number_read (length bytes)

  original_read : number_at Little (record_bytes at bytes) 12 ≡ length bytes
  unfolding number_at
  original_read = number_read (length bytes)

-- ---- the header

abbrev form : Form
form = record { writer = record { order = Little; precision = Micro }; link = 288 }

is_header : IsHeader form header
unfolding number_at
is_header = record { long = refl; begins = refl; link = refl }

-- ---- records

are_records : (clock : ℕ → Moment) (number : ℕ) (packets : List PacketView) → AllByRecursion (IsRecord Little) (records clock number packets)
are_records clock number [] = tt
are_records clock number (packet ∷ packets) =
    (omega (arith, captured_read (clock number) (packet_bytes packet)), are_records clock (suc number) packets)

-- a legal packet has at most 1,027 bytes
short : (packet : PacketView) → IsLegal packet → length (packet_bytes packet) ≤ 65599
short (TokenPacket kind to) legal = omega arith
short (FramePacket number) legal = omega arith
short (DataPacket kind bytes) legal = omega (arith, legal.1, length-append bytes (two_bytes (65535 - data_register (bits bytes))))
short (HandshakePacket kind) legal = omega arith
short (SplitPacket fields) legal = omega arith
short PrePacket legal = omega arith

same_frame : (clock : ℕ → Moment) (number : ℕ) (packet : PacketView) → IsLegal packet
    → pcap.frame_of form (record_bytes (clock number) (packet_bytes packet)) ≡ frame_of clock number packet
same_frame clock number packet legal =
    let bytes = packet_bytes packet in
    let seconds = seconds_read (clock number) bytes in
    let micros = micros_read (clock number) bytes in
    let captured = captured_read (clock number) bytes in
    let original = original_read (clock number) bytes in
    let all = take_all 65599 bytes (short packet legal) in
    λ i. record {
      time = Some (seconds i * 1000000000 + micros i * 1000);
      link = 288;
      order = Little;
      captured = captured i;
      original = original i;
      bytes = all i;
    }

same_frames : (clock : ℕ → Moment) (number : ℕ) (packets : List PacketView) → AllByRecursion IsLegal packets
    → map (pcap.frame_of form) (records clock number packets) ≡ frames clock number packets
same_frames clock number [] legal = refl
same_frames clock number (packet ∷ packets) legal =
    ap (λ f. f ∷ map (pcap.frame_of form) (records clock (suc number) packets)) (same_frame clock number packet legal.0)
    ∙ ap (λ fs. frame_of clock number packet ∷ fs) (same_frames clock (suc number) packets legal.1)

-- ---- the file

none_left : IsPartial Little []
none_left = omega arith

pub capture_read : (clock : ℕ → Moment) (packets : List PacketView) (read : List Frame) (reader : CaptureReader) → AllByRecursion IsLegal packets
    → IsRead (capture_of clock packets) read reader → read ≡ frames clock 1 packets
capture_read clock packets read reader legal is_read =
    let all = append-nil (header ++ bytes_of (records clock 1 packets)) in
    (frames_of_a_file form header (records clock 1 packets) [] read reader is_header (are_records clock 1 packets) none_left (subst (λ b. IsRead b read reader) (sym all) is_read)).0
    ∙ same_frames clock 1 packets legal
