-- Packets of the bus as a capture file in pcap's format (draft-ietf-opsawg-pcap), of link type 288: one record for each packet.
use Rattle.std.specs.Prelude.{◌≡◌, ℕ, suc, ◌+◌, ◌*◌, ◌/◌, ◌%◌, List, [], ◌∷◌, ◌++◌, length, Option, Some}
use Rattle.usb_wire.specs.Packets.{PacketView, packet_bytes, two_bytes}
use Rattle.usb_capture.specs.declared.frame.Frame.{Frame}
use Rattle.usb_capture.specs.declared.order.ByteOrder.TheVariants.{Little}
use Rattle.usb_capture.specs.declared.recorded_packet.RecordedPacket.{RecordedPacket}
use Rattle.usb_capture.specs.BusPackets.{IsPacketOf}
use Rattle.usb_capture.specs.Files.{bytes_of}

-- a number of 32 bits, the low byte first
abbrev pub four_bytes : ℕ → List ℕ
four_bytes n = n % 256 ∷ n / 256 % 256 ∷ n / 65536 % 256 ∷ n / 16777216 ∷ []

-- when a packet was captured: seconds, and microseconds after them
pub record Moment : Type 0 where
  pub seconds : ℕ
  pub micros : ℕ

-- the same in nanoseconds
abbrev pub nanoseconds : Moment → ℕ
nanoseconds at = at.seconds * 1000000000 + at.micros * 1000

-- File Header: the magic number a1b2c3d4, version 2.4, two numbers that are 0, the most bytes of a record, and the link type
abbrev pub header : List ℕ
header = four_bytes 0xa1b2c3d4 ++ (two_bytes 2 ++ (two_bytes 4 ++ (four_bytes 0 ++ (four_bytes 0 ++ (four_bytes 262144 ++ four_bytes 288)))))

-- Packet Record: Timestamp, Captured and Original Packet Length, and Packet Data
abbrev pub record_bytes : Moment → List ℕ → List ℕ
record_bytes at bytes = four_bytes at.seconds ++ (four_bytes at.micros ++ (four_bytes (length bytes) ++ (four_bytes (length bytes) ++ bytes)))

-- What is written of packets and read of them. A clock says when each was captured, by its number.
module _ (clock : ℕ → Moment) where
  -- the records, where the first packet has this number
  abbrev pub records : ℕ → List PacketView → List (List ℕ)
  records number [] = []
  records number (packet ∷ packets) = record_bytes (clock number) (packet_bytes packet) ∷ records (suc number) packets

  -- a capture file of these packets, numbered from 1 on
  abbrev pub capture_of : List PacketView → List ℕ
  capture_of packets = header ++ bytes_of (records 1 packets)

  -- the time of each number
  abbrev pub times : ℕ → Option ℕ
  times number = Some (nanoseconds (clock number))

  -- the frame of a packet
  abbrev pub frame_of : ℕ → PacketView → Frame
  frame_of number packet = record {
    time = times number;
    link = 288;
    order = Little;
    captured = length (packet_bytes packet);
    original = length (packet_bytes packet);
    bytes = packet_bytes packet;
  }

  abbrev pub frames : ℕ → List PacketView → List Frame
  frames number [] = []
  frames number (packet ∷ packets) = frame_of number packet ∷ frames (suc number) packets

-- what was read of a frame with this number
pub record IsOfFrame (number : ℕ) (frame : Frame) (recorded : RecordedPacket) : Type 0 where
  pub number_is : recorded.number ≡ number
  pub time_is : recorded.time ≡ frame.time
  pub packet_is : IsPacketOf frame recorded.packet

-- the same of frames one after another, where the first has this number
abbrev pub AreOfFrames : ℕ → List Frame → List RecordedPacket → Type 0
AreOfFrames number [] [] = Unit {0}
AreOfFrames number (frame ∷ frames) (recorded ∷ more) = IsOfFrame number frame recorded × AreOfFrames (suc number) frames more
AreOfFrames number [] (recorded ∷ more) = ⊥
AreOfFrames number (frame ∷ frames) [] = ⊥
