-- A capture file: parts, each of which says how the next is read. A part of pcap is the file header or a record, one of
-- pcapng a block, one of text a line.
use Rattle.std.specs.Prelude.{◌≡◌, ⊤, ℕ, List, [], ◌∷◌, ◌++◌, length, take, drop, min, ◌||◌, ◌&&◌, Bool, Option, Some, None, is_some, Result, Ok, Err, IsOk, nat_lt, if◌then◌else◌}
use Rattle.std.specs.List.{flat_map}
use Rattle.std.specs.Result.{is_ok}
use Rattle.usb_capture.specs.declared.content.Content.{Content}
use Rattle.usb_capture.specs.declared.content.Content.TheVariants as says
use Rattle.usb_capture.specs.declared.content.Head.{Head}
use Rattle.usb_capture.specs.declared.content.Layout.{Layout}
use Rattle.usb_capture.specs.declared.content.Layout.TheVariants as layouts
use Rattle.usb_capture.specs.declared.fault.CaptureFault.{CaptureFault}
use Rattle.usb_capture.specs.declared.fault.CaptureFault.TheVariants as faults
use Rattle.usb_capture.specs.declared.frame.Frame.{Frame}
use Rattle.usb_capture.specs.declared.interface.Interface.{Interface}
use Rattle.usb_capture.specs.declared.order.ByteOrder.TheVariants.{Little}
use Rattle.usb_capture.specs.declared.pcap.Form.{Form}
use Rattle.usb_capture.specs.declared.pcap.Writer.{Writer}
use Rattle.usb_capture.specs.declared.stage.Stage.{Stage}
use Rattle.usb_capture.specs.declared.stage.Stage.TheVariants.{Start, Records, Blocks, Lines}
use Rattle.usb_capture.specs.Numbers.{number_at}
use Rattle.usb_capture.specs.Pcap.{form_with, record_length, record_time, writer_of}
use Rattle.usb_capture.specs.Pcapng.{block_content, block_length, is_section}
use Rattle.usb_capture.specs.UsbmonText.{is_text, line_content, line_frame, line_length}

-- what is known before a part: what it is, and the interfaces of its section
pub record State : Type 0 where
  pub stage : Stage
  pub interfaces : List Interface

abbrev pub start : State
start = record { stage = Start; interfaces = [] }

-- how many bytes the first part of a file has that begins with these: its first four tell what it is
abbrev pub first_length : Option Writer → List ℕ → ℕ
first_length (Some writer) b = 24
first_length None b = if is_section b then block_length Little b else if is_text b then line_length b else 4

-- bytes begin as a recording does: as a file of pcap, with a section of pcapng, or with a whole line of text, of 512 bytes at most
abbrev pub begins_recording : List ℕ → Bool
begins_recording b = is_some (writer_of b) || (is_section b || (is_text b && is_ok (line_content (take 512 b))))

-- how many bytes the part has that begins with these, as far as they tell
abbrev pub whole : Stage → List ℕ → ℕ
whole Start b = if nat_lt (length b) 4 then 4 else first_length (writer_of b) b
whole (Records form) b = if nat_lt (length b) 16 then 16 else record_length form.writer.order b
whole (Blocks order) b = block_length order b
whole Lines b = line_length b

-- what a record says before its data
abbrev pub record_head : Form → List ℕ → Head
record_head form b = record {
  time = Some (record_time form.writer b);
  link = form.link;
  order = form.writer.order;
  captured = number_at form.writer.order b 8;
  original = number_at form.writer.order b 12;
  layout = layouts.Record;
}

-- What a part of n bytes says, that begins with b and has these last four bytes.
abbrev pub first_content : Option Writer → List ℕ → ℕ → List ℕ → Result Content CaptureFault
first_content (Some writer) b n last = Ok (says.Header (form_with writer b))
first_content None b n last =
    if is_section b then block_content Little [] b n last else if is_text b then line_content b else Err faults.Magic

abbrev pub content : Stage → List Interface → List ℕ → ℕ → List ℕ → Result Content CaptureFault
content Start interfaces b n last = first_content (writer_of b) b n last
content (Records form) interfaces b n last = Ok (says.Packet (record_head form b))
content (Blocks order) interfaces b n last = block_content order interfaces b n last
content Lines interfaces b n last = line_content b

-- the last four bytes, after four zeros
abbrev pub last_four : List ℕ → List ℕ
last_four b = drop (length b) (0 ∷ 0 ∷ 0 ∷ 0 ∷ b)

abbrev pub content_of : State → List ℕ → Result Content CaptureFault
content_of s b = content s.stage s.interfaces b (length b) (last_four b)

-- what is known after a part that says this
abbrev pub next : State → Content → State
next s (says.Header form) = record { stage = Records form; interfaces = [] }
next s (says.Section order) = record { stage = Blocks order; interfaces = [] }
next s (says.Interface interface) = record { stage = s.stage; interfaces = s.interfaces ++ interface ∷ [] }
next s (says.Line line) = record { stage = Lines; interfaces = [] }
next s (says.Packet head) = s
next s says.Other = s

-- how many bytes stand before a packet's data
abbrev pub data_start : Layout → ℕ
data_start layouts.Record = 16
data_start layouts.Enhanced = 28
data_start layouts.Simple = 12

-- the frame of a packet that has this head, and the data after it in this part: the first 65,599 bytes are kept
abbrev pub frame_with : Head → List ℕ → Frame
frame_with head b = record {
  time = head.time;
  link = head.link;
  order = head.order;
  captured = head.captured;
  original = head.original;
  bytes = take (min head.captured 65599) (drop (data_start head.layout) b);
}

abbrev pub frame_list : Content → List ℕ → List Frame
frame_list (says.Packet head) b = frame_with head b ∷ []
frame_list (says.Line line) b = line_frame line ∷ []
frame_list (says.Header form) b = []
frame_list (says.Section order) b = []
frame_list (says.Interface interface) b = []
frame_list says.Other b = []

abbrev pub after_content : State → Result Content CaptureFault → State
after_content s (Ok content) = next s content
after_content s (Err fault) = s

abbrev pub frames_with : Result Content CaptureFault → List ℕ → List Frame
frames_with (Ok content) b = frame_list content b
frames_with (Err fault) b = []

-- whole parts, one after another, and without fault
pub record IsPart (s : State) (part : List ℕ) : Type 0 where
  pub long : length part ≡ whole s.stage part
  pub right : IsOk (content_of s part)

abbrev pub AreParts : State → List (List ℕ) → Type 0
AreParts s [] = ⊤
AreParts s (part ∷ parts) = IsPart s part × AreParts (after_content s (content_of s part)) parts

-- what is known after them
abbrev pub state_after : State → List (List ℕ) → State
state_after s [] = s
state_after s (part ∷ parts) = state_after (after_content s (content_of s part)) parts

-- the frames in them
abbrev pub frames_of : State → List (List ℕ) → List Frame
frames_of s [] = []
frames_of s (part ∷ parts) = frames_with (content_of s part) part ++ frames_of (after_content s (content_of s part)) parts

abbrev pub bytes_of : List (List ℕ) → List ℕ
bytes_of parts = flat_map (λ part. part) parts

-- bytes that are no capture file, whatever follows: after whole parts, at this place, one has this fault
pub record IsRefused (bytes : List ℕ) (fault : CaptureFault) (place : ℕ) : Type 0 where
  pub parts : List (List ℕ)
  pub bad : List ℕ
  pub rest : List ℕ
  pub bytes_are : bytes ≡ bytes_of parts ++ (bad ++ rest)
  pub before : AreParts start parts
  pub long : length bad ≡ whole (state_after start parts).stage bad
  pub wrong : content_of (state_after start parts) bad ≡ Err fault
  pub place_is : place ≡ length (bytes_of parts)

-- the same, where these are the frames of the whole parts before
pub record IsRefusedAfter (bytes : List ℕ) (frames : List Frame) (fault : CaptureFault) (place : ℕ) : Type 0 where
  pub refused : IsRefused bytes fault place
  pub read : frames ≡ frames_of start refused.parts
