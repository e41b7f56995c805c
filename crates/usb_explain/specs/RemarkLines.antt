-- The lines of remarks.
use Rattle.std.specs.Prelude.{ℕ, List, [], ◌∷◌, ◌++◌, nat_lt, if◌then◌else◌}
use Rattle.std.specs.List.{flat_map}
use Rattle.usb_text.specs.Shown.{Shown, Number}
use Rattle.usb_remarks.specs.declared.remark.PacketSizes.{PacketSizes}
use Rattle.usb_remarks.specs.declared.remark.PacketSizes.TheVariants.{NoEndpoint, Only, UpTo}
use Rattle.usb_remarks.specs.declared.remark.Remark.{Remark}
use Rattle.usb_remarks.specs.declared.remark.Remark.TheVariants as remarks
use Rattle.usb_explain.specs.Lines.{line_below}
use Rattle.usb_remarks.specs.Outline.{Described}
use Rattle.usb_remarks.specs.Remarks.{remarks_on}

-- the size that packets have, or the greatest one
abbrev pub sizes_shown : PacketSizes → List Shown
sizes_shown (Only size) = Number size ∷ []
sizes_shown (UpTo most) = Number most ∷ []
sizes_shown _ = []

-- the size that there is and those, where there are any
abbrev pub packet_shown : PacketSizes → ℕ → List Shown
packet_shown NoEndpoint found = []
packet_shown sizes found = Number found ∷ sizes_shown sizes

-- the numbers of a remark on what a speed has: the value of bInterval and its range, or sizes
abbrev pub speed_shown : Remark → List Shown
speed_shown (remarks.Interval transfer speed range found) = Number found ∷ Number range.least ∷ Number range.most ∷ []
speed_shown (remarks.Packet transfer speed sizes found) = packet_shown sizes found
speed_shown (remarks.FirstPacket speed sizes found) = Number found ∷ sizes_shown sizes
speed_shown _ = []

-- those of one on a value: the value, or the size, how many transactions there are, and the least size of these
abbrev pub value_shown : Remark → List Shown
value_shown (remarks.SmallMultiple transactions least found) = Number found ∷ Number transactions ∷ Number least ∷ []
value_shown (remarks.DefaultIsochronous found) = Number found ∷ []
value_shown (remarks.DefaultInterrupt found) = Number found ∷ []
value_shown (remarks.OldQualifier found) = Number found ∷ []
value_shown (remarks.NoLanguage found) = Number found ∷ []
value_shown _ = []

-- the length of a HID descriptor, and the one by its bNumDescriptors, if that is there
abbrev pub hid_shown : ℕ → ℕ → List Shown
hid_shown due found = if nat_lt found 6 then Number found ∷ [] else Number due ∷ Number found ∷ []

-- those of one on a count: what is said and what there is, what is needed and the most that there is, the length that comes next and
-- the one that there is, or an interface
abbrev pub length_shown : Remark → List Shown
length_shown (remarks.TotalLength declared found) = Number declared ∷ Number found ∷ []
length_shown (remarks.Current needed most) = Number needed ∷ Number most ∷ []
length_shown (remarks.HidLength due found) = hid_shown due found
length_shown (remarks.ShortFunctional least found) = Number least ∷ Number found ∷ []
length_shown (remarks.MissingInterface interface) = Number interface ∷ []
length_shown _ = []

-- the numbers of a remark, which are of one of the three kinds if there are any
abbrev pub remark_shown : Remark → List Shown
remark_shown remark = speed_shown remark ++ value_shown remark ++ length_shown remark

-- its line, below a heading of this depth
unfoldable pub remark_line : ℕ → Remark → List Shown
remark_line depth remark = line_below depth (remark_shown remark)

-- the lines of the remarks on a descriptor
unfoldable pub remark_lines : Described → List Shown
remark_lines d = flat_map (remark_line d.depth) (remarks_on d.role d)
