-- What a reader of a capture file has read and holds.
use Rattle.std.specs.Prelude.{◌≡◌, ℕ, ◌<◌, ◌≤◌, ◌^◌, ◌-◌, ◌||◌, List, ◌++◌, length, take, min, nat_lt, Option, Some, None, if◌then◌else◌}
use Rattle.usb_capture.specs.declared.frame.Frame.{Frame}
use Rattle.usb_capture.specs.declared.reader.CaptureReader.{CaptureReader}
use Rattle.usb_capture.specs.Files.{AreParts, State, bytes_of, frames_of, last_four, start, state_after, whole}

abbrev pub state_of : CaptureReader → State
state_of reader = record { stage = reader.stage; interfaces = reader.interfaces.items }

-- all bytes so far are whole parts with these frames, and then the part that is being read, of which the reader has the
-- first 65,627 bytes
pub record Has (all : List ℕ) (frames : List Frame) (reader : CaptureReader) (parts : List (List ℕ)) (part : List ℕ) : Type 0 where
  pub bytes : all ≡ bytes_of parts ++ part
  pub each : AreParts start parts
  pub read : frames ≡ frames_of start parts
  pub state : state_of reader ≡ state_after start parts
  pub held : reader.held.items ≡ take 65627 part
  pub last : reader.last ≡ last_four part
  pub count : reader.count ≡ length part
  pub place : reader.place ≡ min (length (bytes_of parts)) (2 ^ 64 - 1)

-- a reader that has read all these bytes, with these frames in them, and a part that isn't whole
abbrev pub IsRead : List ℕ → List Frame → CaptureReader → Type 0
IsRead all frames reader = (parts : List (List ℕ)) × (part : List ℕ) × Has all frames reader parts part × (length part < whole reader.stage part)

-- the same, where the part may be whole
abbrev pub IsKept : List ℕ → List Frame → CaptureReader → Type 0
IsKept all frames reader = (parts : List (List ℕ)) × (part : List ℕ) × Has all frames reader parts part × (length part ≤ whole reader.stage part)

-- a piece begins with a whole part, which has this many bytes and of which the reader has taken none
pub record IsFront (reader : CaptureReader) (piece : List ℕ) (used : ℕ) : Type 0 where
  pub none : reader.count ≡ 0
  pub long : used ≡ whole reader.stage (take used piece)
  pub within : used ≤ length piece

-- how many bytes the next part has, where the reader has taken none of it and a piece has all of it
abbrev pub front_length : CaptureReader → List ℕ → Option ℕ
front_length reader piece =
    if nat_lt 0 reader.count || nat_lt (length piece) (whole reader.stage piece) then None else Some (whole reader.stage piece)
