-- A capture file in pcap's format (draft-ietf-opsawg-pcap).
use Rattle.std.specs.Prelude.{◌≡◌, ℕ, ◌+◌, ◌*◌, ◌%◌, ◌<◌, ◌==◌, List, length, take, drop, Option, Some, None, if◌then◌else◌}
use Rattle.usb_capture.specs.declared.frame.Frame.{Frame}
use Rattle.usb_capture.specs.declared.order.ByteOrder.{ByteOrder}
use Rattle.usb_capture.specs.declared.order.ByteOrder.TheVariants.{Little, Big}
use Rattle.usb_capture.specs.declared.pcap.Precision.{Precision}
use Rattle.usb_capture.specs.declared.pcap.Precision.TheVariants.{Micro, Nano}
use Rattle.usb_capture.specs.declared.pcap.Writer.{Writer}
use Rattle.usb_capture.specs.declared.pcap.Form.{Form}
use Rattle.usb_capture.specs.Numbers.{number_at}

-- File Header: the magic number a1b2c3d4, or a1b23c4d where fractions of a second are nanoseconds, in the writer's order
abbrev pub writer_of : List ℕ → Option Writer
writer_of b =
    if number_at Little b 0 == 0xa1b2c3d4 then Some (record { order = Little; precision = Micro })
    else if number_at Big b 0 == 0xa1b2c3d4 then Some (record { order = Big; precision = Micro })
    else if number_at Little b 0 == 0xa1b23c4d then Some (record { order = Little; precision = Nano })
    else if number_at Big b 0 == 0xa1b23c4d then Some (record { order = Big; precision = Nano })
    else None

-- File Header: the lower 16 bits of the number at 20 are the link type
abbrev pub form_with : Writer → List ℕ → Form
form_with writer b = record { writer = writer; link = number_at writer.order b 20 % 65536 }

-- File Header: 24 bytes
pub record IsHeader (form : Form) (header : List ℕ) : Type 0 where
  pub long : length header ≡ 24
  pub begins : writer_of header ≡ Some form.writer
  pub link : form ≡ form_with form.writer header

-- Packet Record: Captured Packet Length is at 8, and this many bytes follow the 16 of the record's own header
abbrev pub record_length : ByteOrder → List ℕ → ℕ
record_length order bytes = 16 + number_at order bytes 8

abbrev pub IsRecord : ByteOrder → List ℕ → Type 0
IsRecord order bytes = length bytes ≡ record_length order bytes

-- less than a whole record
abbrev pub IsPartial : ByteOrder → List ℕ → Type 0
IsPartial order rest = length rest < record_length order rest

-- how many nanoseconds one of a fraction's units has
abbrev pub unit : Precision → ℕ
unit Micro = 1000
unit Nano = 1

-- Packet Record: Timestamp (Seconds), and Timestamp of its fraction
abbrev pub record_time : Writer → List ℕ → ℕ
record_time writer bytes = number_at writer.order bytes 0 * 1000000000 + number_at writer.order bytes 4 * unit writer.precision

-- Packet Record: Captured and Original Packet Length, and Packet Data, of which the first 65,599 bytes are kept
abbrev pub frame_of : Form → List ℕ → Frame
frame_of form bytes = record {
  time = Some (record_time form.writer bytes);
  link = form.link;
  order = form.writer.order;
  captured = number_at form.writer.order bytes 8;
  original = number_at form.writer.order bytes 12;
  bytes = take 65599 (drop 16 bytes);
}
