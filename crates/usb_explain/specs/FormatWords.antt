-- What tells a video frame or an audio format from others of its kind: a size and an interval, or rates. A descriptor that lacks
-- one of these fields has none of it.
use Rattle.std.specs.Prelude.{ℕ, List, [], ◌++◌, codes, find, flat_map, if◌then◌else◌, Option, Some, option_map, bytes_eq}
use Rattle.usb_text.specs.Shown.{Shown}
use Rattle.usb_explain.specs.Fields.{PlacedField}
use Rattle.usb_explain.specs.Forms.{decimal_shown}
use Rattle.usb_explain.specs.Speeds.{frame_time}

-- the bytes of the first field of this name
abbrev pub value_of : List ℕ → List PlacedField → Option (List ℕ)
value_of name fields = option_map (λ f. f.value) (find (λ f. bytes_eq f.name name) fields)

-- the size and the default interval of a frame
abbrev pub frame_shown : Option (List ℕ) → Option (List ℕ) → Option (List ℕ) → List Shown
frame_shown (Some width) (Some height) (Some interval) = decimal_shown width ++ decimal_shown height ++ frame_time interval
frame_shown width height interval = []

-- the bounds of a range of rates
abbrev pub range_shown : Option (List ℕ) → Option (List ℕ) → List Shown
range_shown (Some lower) (Some upper) = decimal_shown lower ++ decimal_shown upper
range_shown lower upper = []

-- a rate
abbrev pub rate_shown : PlacedField → List Shown
rate_shown field = if bytes_eq field.name (codes "tSamFreq") then decimal_shown field.value else []

-- What the fields show: of a frame of video (UVC 1.5, Uncompressed Payload, 3.1.2, and of the other payloads), or of a format type of
-- audio (Audio Data Formats 1.0, 2.2 to 2.4).
unfoldable pub format_shown : List PlacedField → List Shown
format_shown fields =
    frame_shown (value_of (codes "wWidth") fields) (value_of (codes "wHeight") fields) (value_of (codes "dwDefaultFrameInterval") fields)
    ++ range_shown (value_of (codes "tLowerSamFreq") fields) (value_of (codes "tUpperSamFreq") fields)
    ++ flat_map rate_shown fields
