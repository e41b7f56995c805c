-- What `capture` tells of a recording.
use Rattle.std.specs.Prelude.{ℕ, ◌+◌, ◌-◌, ◌/◌, ◌^◌, ◌==◌, ◌&&◌, ◌||◌, not, Bool, true, false, find, List, [], ◌∷◌, ◌++◌, length, reverse, codes, min, nat_lt, nat_le, slice_index_or, slice_set, Option, Some, None, is_none, unwrap_or, if◌then◌else◌}
use Rattle.std.specs.List.{flat_map, list_any, position}
use Rattle.std.specs.Option.{option_or}
use Rattle.std.specs.Fmt.{decimal}
use Rattle.hex.specs.Hex.{encode_lower}
use Rattle.std.specs.Int.{to_be_bytes, w16}
use Rattle.usb_fields.specs.Bytes.{little_endian_at}
use Rattle.usb_text.specs.Lines.{column}
use Rattle.usb_text.specs.Numbers.{count}
use Rattle.usb_capture.specs.declared.asked.Asked.{Asked}
use Rattle.usb_capture.specs.declared.control_transfer.ControlTransfer.{ControlTransfer}
use Rattle.usb_capture.specs.declared.ending.Ending.{Ending}
use Rattle.usb_capture.specs.declared.ending.Ending.TheVariants.{Unseen}
use Rattle.usb_capture.specs.declared.finding.Finding.{Finding}
use Rattle.usb_capture.specs.declared.frame.Frame.{Frame}
use Rattle.usb_capture.specs.declared.open_transfer.OpenTransfer.{OpenTransfer}
use Rattle.usb_capture.specs.BusTransfers.{pipes_in}
use Rattle.usb_capture.specs.DeviceReadings.{current_after}
use Rattle.usb_capture.specs.TransferFindings.{findings}
use Rattle.usb_capture.specs.Transfers.{open_after}
use Rattle.usb_capture_lines.specs.BusFindings.{device_of}
use Rattle.usb_capture_lines.specs.FindingLines.{bus_finding_line, finding_lines}
use Rattle.usb_capture_lines.specs.Observations.{Observed, events, found_by, one_more, over_by, overs, decoded_of, transactions}
use Rattle.usb_capture_lines.specs.Lines.{address_words, seconds_words, transfer_lines}
use Rattle.usb_capture_lines.specs.declared.bus_finding.BusFinding.{BusFinding}
use Rattle.usb_capture_lines.specs.declared.seen_device.SeenDevice.{SeenDevice}
use Rattle.usb_capture_lines.specs.declared.selection.DeviceAddress.{DeviceAddress}
use Rattle.usb_capture_lines.specs.declared.selection.Selection.{Selection}
use Rattle.usb_capture_lines.specs.declared.tally.Tally.{Tally}

-- Of which devices and which times there are lines.

abbrev pub is_device : DeviceAddress → Option DeviceAddress → Bool
is_device a None = false
is_device a (Some b) = a.bus == b.bus && a.device == b.device

abbrev pub wants_device : Option DeviceAddress → Option DeviceAddress → Bool
wants_device None device = true
wants_device (Some a) device = is_device a device

abbrev pub is_within : Option ℕ → Option ℕ → ℕ → Bool
is_within from to time = nat_le (unwrap_or from 0) time && nat_le time (unwrap_or to (2 ^ 64 - 1))

abbrev pub wants_time : Option ℕ → Option ℕ → ℕ → Option ℕ → Bool
wants_time from to origin None = true
wants_time from to origin (Some time) = is_within from to (time - origin)

abbrev pub is_wanted : Selection → ℕ → Option DeviceAddress → Option ℕ → Bool
is_wanted s origin device time = not s.brief && wants_device s.device device && wants_time s.from s.to origin time

-- a transfer's device, and when it ended, or began where its end isn't there
abbrev pub address_of : ControlTransfer → DeviceAddress
address_of t = record { bus = t.bus; device = t.device }

abbrev pub time_of : ControlTransfer → Option ℕ
time_of t = option_or t.ended t.begun

-- those of a transfer in which this was found
unfoldable pub lines_of : Selection → ℕ → ControlTransfer → List Finding → List ℕ
lines_of s origin t found = if is_wanted s origin (Some (address_of t)) (time_of t) then transfer_lines s.data origin t ++ finding_lines found else []

-- those of the transfer that is over with a frame, if one is, after these transfers
abbrev pub over_lines : Selection → ℕ → List ControlTransfer → Option ControlTransfer → List ℕ
over_lines s origin earlier None = []
over_lines s origin earlier (Some t) = lines_of s origin t (findings earlier t)

-- those of what is wrong in packets
unfoldable pub bus_part : Selection → ℕ → BusFinding → List ℕ
bus_part s origin found = if is_wanted s origin (device_of found) found.time then bus_finding_line origin found else []

abbrev pub bus_lines : Selection → ℕ → List BusFinding → List ℕ
bus_lines s origin found = flat_map (bus_part s origin) found

-- The first line: the form of the file, by its first byte, and what its first frame has.

abbrev pub form_words : ℕ → List ℕ
form_words first =
    if first == 0x0a then codes "pcapng"
    else if first == 0x4d || first == 0xa1 || first == 0xd4 then codes "pcap"
    else codes "text"

abbrev pub link_words : ℕ → List ℕ
link_words link =
    if link == 189 || link == 220 then codes "usbmon"
    else if link == 249 then codes "USBPcap"
    else if link == 288 then codes "packets of the bus"
    else if link == 293 then codes "packets of the bus, low speed"
    else if link == 294 then codes "packets of the bus, full speed"
    else if link == 295 then codes "packets of the bus, high speed"
    else codes "link type " ++ decimal link ++ codes ", no USB"

unfoldable pub first_line : ℕ → ℕ → List ℕ
first_line first link = codes "capture: " ++ form_words first ++ codes ", " ++ link_words link ++ codes "\n"

-- What is counted: frames, the link type and the time of the first frame, 0 where it has none, and the time of the last.

abbrev pub none_counted : Tally
none_counted = record { frames = 0; link = None; origin = 0; last = None }

abbrev pub counted_first : Option ℕ → Frame → Tally → Tally
counted_first None f tally = record { frames = one_more tally.frames; link = Some f.link; origin = unwrap_or f.time 0; last = f.time }
counted_first (Some link) f tally = record tally { frames = one_more tally.frames; last = f.time }

abbrev pub counted : Frame → Tally → Tally
counted f tally = counted_first tally.link f tally

-- of frames, the last one first
abbrev pub tally_of : List Frame → Tally
tally_of [] = none_counted
tally_of (f ∷ earlier) = counted f (tally_of earlier)

-- How many transfers are over without an end, since the next request came before it: a device takes a SETUP at any time (8.5.3).

abbrev pub is_unseen : Ending → Bool
is_unseen Unseen = true
is_unseen ending = false

abbrev pub replaced_with : ControlTransfer → ℕ → ℕ
replaced_with t n = if is_unseen t.ending then one_more n else n

abbrev pub replaced_in : Option ControlTransfer → ℕ → ℕ
replaced_in None n = n
replaced_in (Some t) n = replaced_with t n

abbrev pub replaced_of : List Observed → ℕ
replaced_of [] = 0
replaced_of (x ∷ earlier) = replaced_in (over_by earlier x) (replaced_of earlier)

-- The devices of a recording, in the order in which they are first seen, each with how many findings it has. Those of packets
-- of which no device is known are counted together.

abbrev pub with_findings : ℕ → SeenDevice → SeenDevice
with_findings n device = record device { findings = min (device.findings + n) (2 ^ 64 - 1) }

abbrev pub first_seen : Option DeviceAddress → ℕ → SeenDevice
first_seen device n = record { address = device; findings = n }

abbrev pub is_same_device : Option DeviceAddress → Option DeviceAddress → Bool
is_same_device None device = is_none device
is_same_device (Some a) device = is_device a device

abbrev pub is_seen_in : Option DeviceAddress → SeenDevice → Bool
is_seen_in device seen = is_same_device seen.address device

abbrev pub met_at : Option ℕ → Option DeviceAddress → ℕ → List SeenDevice → List SeenDevice
met_at None device n devices = devices ++ first_seen device n ∷ []
met_at (Some place) device n devices = slice_set devices place (with_findings n (slice_index_or devices place (first_seen device n)))

-- a device has this many findings more
abbrev pub met : Option DeviceAddress → ℕ → List SeenDevice → List SeenDevice
met device n devices = met_at (position (is_seen_in device) devices) device n devices

abbrev pub met_in : List ControlTransfer → Option ControlTransfer → List SeenDevice → List SeenDevice
met_in earlier None devices = devices
met_in earlier (Some t) devices = met (Some (address_of t)) (length (findings earlier t)) devices

abbrev pub met_all : List BusFinding → List SeenDevice → List SeenDevice
met_all [] devices = devices
met_all (one ∷ found) devices = met_all found (met (device_of one) 1 devices)

-- those of what is observed, of which the last is the first in the list
abbrev pub devices_of : List Observed → List SeenDevice
devices_of [] = []
devices_of (x ∷ earlier) = met_all (found_by earlier x) (met_in (overs earlier) (over_by earlier x) (devices_of earlier))

-- The last lines.

abbrev pub span_words : ℕ → Option ℕ → List ℕ
span_words origin None = []
span_words origin (Some last) = codes ", " ++ seconds_words (last - origin) ++ codes " seconds"

abbrev pub undecoded_part : ℕ → List ℕ
undecoded_part n = if n == 0 then [] else codes "no transfer: " ++ count n (codes "frame") ++ codes "\n"

abbrev pub replaced_part : ℕ → List ℕ
replaced_part n = if n == 0 then [] else codes "another request came before the end: " ++ count n (codes "transfer") ++ codes "\n"

unfoldable pub frames_line : ℕ → ℕ → Option ℕ → List ℕ
frames_line n origin last = count n (codes "frame") ++ span_words origin last ++ codes "\n"

-- frames, and those that tell of no transfer, where this many do; transfers before whose end the next request came
unfoldable pub counts_lines : Tally → ℕ → ℕ → List ℕ
counts_lines tally decoded replaced =
    frames_line tally.frames tally.origin tally.last ++ undecoded_part (tally.frames - decoded) ++ replaced_part replaced

-- this many bytes are left of a part that isn't whole, which begins at this place
abbrev pub cut_line : ℕ → ℕ → List ℕ
cut_line place left =
    if left == 0 then []
    else codes "cut: " ++ count left (codes "byte") ++ codes " of what begins at " ++ decimal place ++ codes "\n"

-- the reading of a device's descriptor of this type
abbrev pub is_reading_of : DeviceAddress → ℕ → ControlTransfer → Bool
is_reading_of a kind t = is_device a (Some (address_of t)) && t.setup.value / 256 == kind

-- the device descriptor of a device, as it is asked for (9.4.3)
abbrev pub asked_at : DeviceAddress → Asked
asked_at a = record { bus = a.bus; device = a.device; value = 256; index = 0 }

-- idVendor and idProduct of a device descriptor (USB 2.0, 9.6.1)
abbrev pub product_words : List ℕ → List ℕ
product_words b = encode_lower (to_be_bytes w16 (little_endian_at b 8)) ++ codes ":" ++ encode_lower (to_be_bytes w16 (little_endian_at b 10))

abbrev pub device_words : Option ControlTransfer → List ℕ
device_words None = codes "no device descriptor came"
device_words (Some t) = product_words t.data

unfoldable pub set_length_words : ℕ → List ℕ
set_length_words n = codes ", configuration of " ++ count n (codes "byte")

abbrev pub set_words : Option ControlTransfer → List ℕ
set_words None = codes ", no configuration came"
set_words (Some t) = set_length_words (length t.data)

abbrev pub findings_words : ℕ → List ℕ
findings_words n = if n == 0 then [] else codes ", " ++ count n (codes "finding")

unfoldable pub device_line : List ControlTransfer → DeviceAddress → ℕ → List ℕ
device_line kept a n =
    codes "device " ++ column 6 (address_words a.bus a.device)
    ++ device_words (find (is_reading_of a 1) kept) ++ set_words (find (is_reading_of a 2) kept)
    ++ findings_words n ++ codes "\n"

-- findings of no device that is known
unfoldable pub no_device_line : ℕ → List ℕ
no_device_line n = codes "no device    " ++ count n (codes "finding") ++ codes "\n"

abbrev pub seen_line : List ControlTransfer → Option DeviceAddress → ℕ → List ℕ
seen_line kept None n = no_device_line n
seen_line kept (Some a) n = device_line kept a n

unfoldable pub device_part : Selection → List ControlTransfer → SeenDevice → List ℕ
device_part s kept d = if wants_device s.device d.address then seen_line kept d.address d.findings else []

abbrev pub device_lines : Selection → List ControlTransfer → List SeenDevice → List ℕ
device_lines s kept devices = flat_map (device_part s kept) devices

-- whether one of these lines counts a finding
abbrev pub has_findings : Selection → SeenDevice → Bool
has_findings s d = wants_device s.device d.address && nat_lt 0 d.findings

abbrev pub finds_any : Selection → List SeenDevice → Bool
finds_any s devices = list_any (has_findings s) devices

-- the lines of transfers whose end didn't come
abbrev pub open_lines : Selection → ℕ → List OpenTransfer → List ℕ
open_lines s origin opens = flat_map (λ one. lines_of s origin one.transfer []) opens

-- transfers without an end, of hosts and of the bus; counts, a cut, and devices
unfoldable pub last_lines : Selection → Tally → ℕ → ℕ → List OpenTransfer → List OpenTransfer → List ControlTransfer → List SeenDevice → ℕ → ℕ → List ℕ
last_lines s tally decoded replaced hosts pipes kept devices place left =
    open_lines s tally.origin hosts ++ open_lines s tally.origin pipes
    ++ counts_lines tally decoded replaced ++ cut_line place left ++ device_lines s kept devices

-- The whole, of frames and of what is observed in them: in these lists the last one comes first.

-- the first line, if no link type is known yet
abbrev pub first_part : ℕ → Option ℕ → ℕ → List ℕ
first_part first None link = first_line first link
first_part first (Some before) link = []

-- what is reported of a file with this first byte
abbrev pub reported_text : Selection → ℕ → List Frame → List Observed → List ℕ
reported_text s first [] observed = []
reported_text s first (f ∷ frames) [] = []
reported_text s first (f ∷ frames) (x ∷ observed) =
    reported_text s first frames observed ++ first_part first (tally_of frames).link f.link
    ++ (over_lines s (tally_of (f ∷ frames)).origin (overs observed) (over_by observed x) ++ bus_lines s (tally_of (f ∷ frames)).origin (found_by observed x))

-- the last readings of the devices that have their addresses at the end
abbrev pub readings_in : List Observed → List ControlTransfer
readings_in observed = current_after [] (reverse (overs observed))

-- and at its end, where this many bytes are left of a part that isn't whole and begins at this place
abbrev pub ended_text : Selection → List Frame → List Observed → ℕ → ℕ → List ℕ
ended_text s frames observed place left =
    last_lines s (tally_of frames) (decoded_of observed) (replaced_of observed) (open_after [] (events observed)) (pipes_in (transactions observed)).held
    (readings_in observed) (devices_of observed) place left

abbrev pub capture_text : Selection → ℕ → List Frame → List Observed → ℕ → ℕ → List ℕ
capture_text s first frames observed place left = reported_text s first frames observed ++ ended_text s frames observed place left

-- whether something is found
abbrev pub is_any_found : Selection → List Observed → Bool
is_any_found s observed = finds_any s (devices_of observed)
