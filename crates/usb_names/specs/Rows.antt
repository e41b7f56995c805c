-- Descriptors of classes by name, and their fields. They stand in a set after the interface or the endpoint whose class
-- defines them. The rows are those of src/rows.rt.
use Rattle.std.specs.Prelude.{ℕ, List, [], ◌++◌, Option, Some, None, option_map, ◌==◌, if◌then◌else◌, ◌&&◌, ◌||◌, slice_get, Bool, true, false, map}
use Rattle.std.specs.List.{find}
use Rattle.usb_names.specs.declared.codes.ClassCodes.{ClassCodes}
use Rattle.usb_names.specs.declared.row.ClassDescriptor.{ClassDescriptor}
use Rattle.usb_names.specs.declared.rows.TheConstants.{STANDARD_ROWS, NEWER_AUDIO_ROWS, AUDIO_ROWS, COMMUNICATIONS_ROWS, HID_ROWS, MASS_STORAGE_ROWS, HUB_ROWS, CDC_DATA_ROWS, SMART_CARD_ROWS, VIDEO_ROWS, FURTHER_VIDEO_ROWS, APPLICATION_ROWS, OTHER_ROWS}
use Rattle.usb_names.specs.Shown.{Row, of_constant}

-- standard types of USB 2.0 (9.4, table 9-5), OTG 2.0 and USB 3.2 (9.6.7, 9.6.8), wherever they are
unfoldable pub standard_rows : List Row
standard_rows = map of_constant STANDARD_ROWS

-- audio 2.0 and 3.0
unfoldable pub newer_audio_rows : List Row
newer_audio_rows = map of_constant NEWER_AUDIO_ROWS

-- audio 1.0 and MIDI 1.0
unfoldable pub audio_rows : List Row
audio_rows = map of_constant AUDIO_ROWS

-- communications: CDC 1.2 and its subclasses, NCM 1.0, MBIM 1.0
unfoldable pub communications_rows : List Row
communications_rows = map of_constant COMMUNICATIONS_ROWS

-- HID: HID 1.11, 6.2.1
unfoldable pub hid_rows : List Row
hid_rows = map of_constant HID_ROWS

-- mass storage: USB Attached SCSI
unfoldable pub mass_storage_rows : List Row
mass_storage_rows = map of_constant MASS_STORAGE_ROWS

-- hubs: USB 2.0, 11.23.2.1
unfoldable pub hub_rows : List Row
hub_rows = map of_constant HUB_ROWS

-- CDC data: CDC 1.2
unfoldable pub cdc_data_rows : List Row
cdc_data_rows = map of_constant CDC_DATA_ROWS

-- smart cards: CCID 1.1
unfoldable pub smart_card_rows : List Row
smart_card_rows = map of_constant SMART_CARD_ROWS

-- video control, and streams without compression and as MJPEG: UVC 1.5
unfoldable pub video_rows : List Row
video_rows = map of_constant VIDEO_ROWS

-- other streams of video: UVC 1.5
unfoldable pub further_video_rows : List Row
further_video_rows = map of_constant FURTHER_VIDEO_ROWS

-- application specific: DFU 1.1
unfoldable pub application_rows : List Row
application_rows = map of_constant APPLICATION_ROWS

-- class specific types of any class that has no other row
unfoldable pub other_rows : List Row
other_rows = map of_constant OTHER_ROWS

-- the rows of a class, in their order
abbrev pub class_rows : ℕ → List Row
class_rows class =
    if class == 1 then newer_audio_rows ++ audio_rows
    else if class == 2 then communications_rows
    else if class == 3 then hid_rows
    else if class == 8 then mass_storage_rows
    else if class == 9 then hub_rows
    else if class == 10 then cdc_data_rows
    else if class == 11 then smart_card_rows
    else if class == 14 then video_rows ++ further_video_rows
    else if class == 254 then application_rows
    else []

-- those of the class of an interface; before any interface there are none
abbrev pub rows_of_class : Option ClassCodes → List Row
rows_of_class None = []
rows_of_class (Some codes) = class_rows codes.class

-- the types that classes define, which the rows of classes have and the standard ones don't
abbrev pub is_class_type : ℕ → Bool
is_class_type type = (type == 0x21) || (type == 0x24) || (type == 0x25) || (type == 0x29)

-- the rows for a type after an interface of these codes, in their order
abbrev pub rows_behind : Option ClassCodes → ℕ → List Row
rows_behind interface type = if is_class_type type then rows_of_class interface ++ other_rows else standard_rows

-- a row's code is any code, or this one
abbrev pub agrees : Option ℕ → Option ℕ → Bool
agrees None code = true
agrees (Some wanted) None = false
agrees (Some wanted) (Some code) = wanted == code

-- a body has 0 at this place, where a row asks for one
abbrev pub has_zero : Option ℕ → List ℕ → Bool
has_zero None body = true
has_zero (Some place) body = agrees (Some 0) (slice_get body place)

-- a row holds of a descriptor of this type and this body after an interface of these codes
abbrev pub holds : {Name Fields : Type 0} → ClassDescriptor Name Fields → Option ClassCodes → ℕ → List ℕ → Bool
holds row interface type body =
    row.descriptor_type == type && agrees row.first (slice_get body 0) && agrees row.second (slice_get body 1) && has_zero row.zero_at body && agrees row.subclass (option_map (λ (c : ClassCodes). c.subclass) interface)
    && agrees row.protocol (option_map (λ (c : ClassCodes). c.protocol) interface)

-- the first of the rows that holds
abbrev pub first_row : List Row → Option ClassCodes → ℕ → List ℕ → Option Row
first_row rows interface type body = find (λ row. holds row interface type body) rows
