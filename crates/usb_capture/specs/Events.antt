-- What frames say of transfers: usbmon's header (the kernel's document "usbmon", struct usbmon_packet) and USBPcap's
-- ("USBPcap capture format specification", USBPCAP_BUFFER_PACKET_HEADER), each field at its place.
use Rattle.std.specs.Prelude.{◌≡◌, ℕ, ◌+◌, ◌-◌, ◌%◌, ◌≤◌, ◌==◌, ◌&&◌, ◌||◌, ◌⊎◌, Bool, false, not, List, length, take, drop, slice_index, Option, Some, None, is_some, nat_lt, if◌then◌else◌}
use Rattle.usb_fields.specs.declared.setup.Setup.{Setup}
use Rattle.usb_fields.specs.Bytes.{little_endian_at}
use Rattle.usb_set.specs.declared.endpoint.TransferType.{TransferType}
use Rattle.usb_set.specs.declared.endpoint.TransferType.TheVariants.{Control, Isochronous, Bulk, Interrupt}
use Rattle.usb_capture.specs.declared.event.Event.{Event}
use Rattle.usb_capture.specs.declared.event.EventKind.{EventKind}
use Rattle.usb_capture.specs.declared.event.EventKind.TheVariants.{Submission, Completion, Refusal}
use Rattle.usb_capture.specs.declared.event.EventFault.{EventFault}
use Rattle.usb_capture.specs.declared.event.EventFault.TheVariants.{Link, Short, Kind, Transfer}
use Rattle.usb_capture.specs.declared.event.System.TheVariants.{Linux, Windows}
use Rattle.usb_capture.specs.declared.order.ByteOrder.{ByteOrder}
use Rattle.usb_capture.specs.declared.order.ByteOrder.TheVariants.{Little}
use Rattle.usb_capture.specs.Numbers.{long_at, number_at, short_at}

-- the setup packet whose eight bytes stand at this place (USB 2.0, 9.3); a byte that isn't there is 0
abbrev pub setup_at : List ℕ → ℕ → Setup
setup_at b at = record {
  request_type = slice_index b at;
  request = slice_index b (at + 1);
  value = little_endian_at b (at + 2);
  index = little_endian_at b (at + 4);
  length = little_endian_at b (at + 6);
}

-- xfer_type, and USBPcap's transfer
abbrev pub transfer_of : ℕ → Option TransferType
transfer_of number =
    if number == 0 then Some Isochronous
    else if number == 1 then Some Interrupt
    else if number == 2 then Some Control
    else if number == 3 then Some Bulk
    else None

-- usbmon's type: the letters S, C and E
abbrev pub kind_of : ℕ → Option EventKind
kind_of letter =
    if letter == 83 then Some Submission
    else if letter == 67 then Some Completion
    else if letter == 69 then Some Refusal
    else None

-- struct usbmon_packet, of 48 or 64 bytes, and len_cap bytes of data after it; flag_setup is 0 where there is a setup packet
pub record IsUsbmon (order : ByteOrder) (header : ℕ) (b : List ℕ) (event : Event) : Type 0 where
  pub long : header ≤ length b
  pub system : event.system ≡ Linux
  pub id : event.id ≡ long_at order b 0
  pub kind : kind_of (slice_index b 8) ≡ Some event.kind
  pub ends : event.ends ≡ not (slice_index b 8 == 83)
  pub transfer : transfer_of (slice_index b 9) ≡ Some event.transfer
  pub epnum : event.endpoint ≡ slice_index b 10
  pub devnum : event.device ≡ slice_index b 11
  pub busnum : event.bus ≡ short_at order b 12
  pub setup : event.setup ≡ (if slice_index b 14 == 0 then Some (setup_at b 40) else None)
  pub status : event.status ≡ number_at order b 28
  pub length : event.length ≡ number_at order b 32
  pub len_cap : event.data.now ≡ take (number_at order b 36) (drop header b)

abbrev pub usbmon_fault : ℕ → List ℕ → Option EventFault
usbmon_fault header b =
    if nat_lt (length b) header then Some Short
    else if is_some (kind_of (slice_index b 8)) then (if is_some (transfer_of (slice_index b 9)) then None else Some Transfer)
    else Some Kind

-- USBPCAP_BUFFER_CONTROL_HEADER: the stage is after the header's 27 bytes, 0 the setup stage and 1 the data stage
abbrev pub is_stage : ℕ → TransferType → ℕ → List ℕ → Bool
is_stage stage Control header b = nat_lt 27 header && slice_index b 27 == stage
is_stage stage Isochronous header b = false
is_stage stage Bulk header b = false
is_stage stage Interrupt header b = false

abbrev pub begins_with_setup : TransferType → List ℕ → Bool
begins_with_setup transfer b = is_stage 0 transfer (short_at Little b 0) b

-- the bytes after the header, dataLength at most
abbrev pub usbpcap_data : List ℕ → List ℕ
usbpcap_data b = take (number_at Little b 23) (drop (short_at Little b 0) b)

-- USBPCAP_BUFFER_PACKET_HEADER, headerLen bytes, and dataLength bytes after it, of which the first eight are the setup
-- packet in the setup stage; bit 0 of info says that it comes back, and it is over then but in the data stage
pub record IsUsbpcap (b : List ℕ) (event : Event) : Type 0 where
  pub system : event.system ≡ Windows
  pub headerLen : (27 ≤ short_at Little b 0) × (short_at Little b 0 ≤ length b)
  pub irpId : event.id ≡ long_at Little b 2
  pub status : event.status ≡ number_at Little b 10
  pub info : event.kind ≡ (if slice_index b 16 % 2 == 1 then Completion else Submission)
  pub ends : event.ends ≡ (slice_index b 16 % 2 == 1 && not (is_stage 1 event.transfer (short_at Little b 0) b))
  pub bus : event.bus ≡ short_at Little b 17
  pub device : event.device ≡ short_at Little b 19
  pub endpoint : event.endpoint ≡ slice_index b 21
  pub transfer : transfer_of (slice_index b 22) ≡ Some event.transfer
  pub dataLength : event.length ≡ (if begins_with_setup event.transfer b then number_at Little b 23 - 8 else number_at Little b 23)
  pub setup : event.setup ≡ (if begins_with_setup event.transfer b then Some (setup_at (usbpcap_data b) 0) else None)
  pub bytes : event.data.now ≡ (if begins_with_setup event.transfer b then drop 8 (usbpcap_data b) else usbpcap_data b)

abbrev pub usbpcap_fault : List ℕ → Option EventFault
usbpcap_fault b =
    if nat_lt (short_at Little b 0) 27 || nat_lt (length b) (short_at Little b 0) then Some Short
    else if is_some (transfer_of (slice_index b 22)) then None
    else Some Transfer

-- what a frame says, by its link type
pub record IsEvent (link : ℕ) (order : ByteOrder) (b : List ℕ) (event : Event) : Type 0 where
  pub known : (link ≡ 189) ⊎ (link ≡ 220) ⊎ (link ≡ 249)
  pub usbmon_48 : link ≡ 189 → IsUsbmon order 48 b event
  pub usbmon_64 : link ≡ 220 → IsUsbmon order 64 b event
  pub usbpcap : link ≡ 249 → IsUsbpcap b event

abbrev pub event_fault : ℕ → List ℕ → Option EventFault
event_fault link b =
    if link == 189 then usbmon_fault 48 b
    else if link == 220 then usbmon_fault 64 b
    else if link == 249 then usbpcap_fault b
    else Some Link
