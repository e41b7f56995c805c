-- Requests in words (USB 2.0, 9.3 and 9.4).
use Rattle.std.specs.Prelude.{ℕ, ◌/◌, ◌%◌, ◌==◌, ◌&&◌, ◌||◌, Bool, nat_lt, List, [], ◌++◌, codes, if◌then◌else◌}
use Rattle.std.specs.Fmt.{decimal}
use Rattle.usb_fields.specs.declared.setup.Setup.{Setup}
use Rattle.usb_text.specs.Numbers.{byte_code, count, word_code}

-- bits 6 and 5 of bmRequestType (table 9-2)
abbrev pub is_standard : ℕ → Bool
is_standard request_type = request_type / 32 % 4 == 0

abbrev pub type_name : ℕ → List ℕ
type_name request_type =
    if request_type / 32 % 4 == 1 then codes "class"
    else if request_type / 32 % 4 == 2 then codes "vendor"
    else codes "reserved"

-- bRequest of a standard request (table 9-4)
abbrev pub request_name : ℕ → List ℕ
request_name request =
    if request == 0 then codes "GET_STATUS"
    else if request == 1 then codes "CLEAR_FEATURE"
    else if request == 3 then codes "SET_FEATURE"
    else if request == 5 then codes "SET_ADDRESS"
    else if request == 6 then codes "GET_DESCRIPTOR"
    else if request == 7 then codes "SET_DESCRIPTOR"
    else if request == 8 then codes "GET_CONFIGURATION"
    else if request == 9 then codes "SET_CONFIGURATION"
    else if request == 10 then codes "GET_INTERFACE"
    else if request == 11 then codes "SET_INTERFACE"
    else if request == 12 then codes "SYNCH_FRAME"
    else codes "reserved request"

-- bDescriptorType (table 9-5, and 15 of USB 3.2)
abbrev pub kind_words : ℕ → List ℕ
kind_words kind =
    if kind == 1 then codes "device"
    else if kind == 2 then codes "configuration"
    else if kind == 3 then codes "string"
    else if kind == 6 then codes "qualifier"
    else if kind == 7 then codes "other-speed"
    else if kind == 15 then codes "BOS"
    else byte_code kind

-- the language of a string above 0; string 0 lists the languages (9.6.7)
abbrev pub language_words : ℕ → ℕ → ℕ → List ℕ
language_words kind index language = if kind == 3 && nat_lt 0 index then codes " " ++ word_code language else []

-- the type in the high byte of wValue, and the index in its low byte (9.4.3)
unfoldable pub descriptor_words : Setup → List ℕ
descriptor_words s =
    codes " " ++ kind_words (s.value / 256) ++ codes " " ++ decimal (s.value % 256)
    ++ language_words (s.value / 256) (s.value % 256) s.index

-- what wValue says: a descriptor, a feature, an address, a configuration value or an alternate setting
abbrev pub parameter_words : Setup → List ℕ
parameter_words s =
    if s.request == 6 || s.request == 7 then descriptor_words s
    else if s.request == 1 || s.request == 3 || s.request == 5 || s.request == 9 || s.request == 11 then codes " " ++ decimal s.value
    else []

abbrev pub asked_words : Setup → List ℕ
asked_words s =
    if is_standard s.request_type then request_name s.request ++ parameter_words s
    else type_name s.request_type ++ codes " request " ++ byte_code s.request

-- words, and a number after them
unfoldable pub numbered : List ℕ → ℕ → List ℕ
numbered words n = words ++ decimal n

-- the recipient in bits 4 to 0 of bmRequestType, by the number in wIndex (9.3.4); of a hub a port is an other part (11.24.2)
abbrev pub recipient_words : ℕ → ℕ → List ℕ
recipient_words recipient index =
    if recipient == 1 then numbered (codes " of interface ") index
    else if recipient == 2 then codes " of endpoint " ++ byte_code (index % 256)
    else if recipient == 3 then numbered (codes " of other ") index
    else []

-- wLength
abbrev pub length_words : ℕ → List ℕ
length_words n = if n == 0 then [] else codes ", " ++ count n (codes "byte")

unfoldable pub request_words : Setup → List ℕ
request_words s = asked_words s ++ recipient_words (s.request_type % 32) s.index ++ length_words s.length
