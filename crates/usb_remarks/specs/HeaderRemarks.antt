-- What is remarked of a class header: that its wTotalLength isn't the length of the class descriptors that it begins.
use Rattle.std.specs.Prelude.{ℕ, ◌+◌, List, length, slice_index, Bool, not, nat_lt, ◌==◌, ◌&&◌, Option, Some, None, option_and_then, if◌then◌else◌, codes}
use Rattle.std.specs.List.{sum_by, take_while}
use Rattle.usb_fields.specs.Bytes.{little_endian_at}
use Rattle.usb_names.specs.declared.codes.ClassCodes.{ClassCodes}
use Rattle.usb_walk.specs.Trees.{descriptors}
use Rattle.usb_remarks.specs.declared.remark.Remark.{Remark}
use Rattle.usb_remarks.specs.declared.remark.Remark.TheVariants as remarks

-- an interface of this class and subclass
abbrev pub is_of : ℕ → ℕ → ClassCodes → Bool
is_of class subclass codes = (codes.class == class) && (codes.subclass == subclass)

-- The place of wTotalLength in a header of audio control, by the protocol: of Audio 2.0, which is 20, and of Audio 1.0. Those of
-- Audio 3.0, which is 30, are left out.
abbrev pub audio_place : ℕ → Option ℕ
audio_place protocol = if protocol == 0x20 then Some 6 else if protocol == 0x30 then None else Some 5

-- The same by the interface: audio control and video control. MIDI streaming is left out, since the example of its standard
-- counts endpoints too (MIDI 1.0, 6.1.2.1 and appendix B).
abbrev pub total_length_place : ClassCodes → Option ℕ
total_length_place codes =
    if is_of 0x01 0x01 codes then audio_place codes.protocol
    else if is_of 0x0e 0x01 codes then Some 5
    else None

-- a descriptor of type CS_INTERFACE
abbrev pub is_class_descriptor : List ℕ → Bool
is_class_descriptor d = slice_index d 1 == 0x24

-- one of subtype HEADER
abbrev pub is_header : List ℕ → Bool
is_header d = is_class_descriptor d && (slice_index d 2 == 1)

-- how many bytes the class descriptors have with which these begin
abbrev pub class_length : List (List ℕ) → ℕ
class_length ds = sum_by length (take_while is_class_descriptor ds)

-- a header that has wTotalLength at this place, which isn't the length of it and of the class descriptors right after it
abbrev pub total_remark : List ℕ → List ℕ → ℕ → Option Remark
total_remark b rest place =
    let found = length b + class_length (descriptors rest) in
    if nat_lt (place + 1) (length b) && not (little_endian_at b place == found)
    then Some (remarks.TotalLength (little_endian_at b place) found)
    else None

-- where wTotalLength is in a descriptor that follows an interface of these codes
abbrev pub header_place : ClassCodes → List ℕ → Option ℕ
header_place codes b = if is_header b then total_length_place codes else None

-- what is remarked of a descriptor that follows an interface of these codes, with the bytes of its set after it where they
-- are all there
unfoldable pub header_remark : Option ClassCodes → List ℕ → Option (List ℕ) → Option Remark
header_remark (Some codes) b (Some rest) = option_and_then (total_remark b rest) (header_place codes b)
header_remark _ _ _ = None
