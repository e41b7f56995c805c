-- What is remarked of a descriptor of a class by its own bytes: a HID descriptor (HID 1.11, 6.2.1 and 7.1), and functional
-- descriptors of a communications interface (CDC 1.2, 5.2.3; PSTN 1.2, 5.3).
use Rattle.std.specs.Prelude.{ℕ, ◌+◌, ◌*◌, List, length, slice_index, Bool, false, is_some, nat_le, nat_lt, not, ◌==◌, ◌&&◌, Option, Some, None, option_and_then, if◌then◌else◌}
use Rattle.std.specs.Option.{option_or}
use Rattle.usb_fields.specs.Bytes.{little_endian_at}
use Rattle.usb_names.specs.declared.codes.ClassCodes.{ClassCodes}
use Rattle.usb_walk.specs.declared.owner.DescriptorOwner.{DescriptorOwner}
use Rattle.usb_remarks.specs.declared.remark.Remark.{Remark}
use Rattle.usb_remarks.specs.declared.remark.Remark.TheVariants as remarks
use Rattle.usb_remarks.specs.InterfaceNumbers.{is_functional, is_of_class}
use Rattle.usb_remarks.specs.RemarkValues.{remark_if}

-- ---- HID descriptors

-- a HID descriptor of a HID interface
abbrev pub is_hid : Option ClassCodes → List ℕ → Bool
is_hid interface d = is_of_class 0x03 0x21 interface d

-- its length: six bytes, and three for each of the bNumDescriptors that it names (6.2.1)
abbrev pub hid_length : List ℕ → ℕ
hid_length d = 6 + 3 * slice_index d 5

abbrev pub hid_length_remark : Option ClassCodes → List ℕ → Option Remark
hid_length_remark interface d =
    remark_if (is_hid interface d && not (length d == hid_length d)) (remarks.HidLength (hid_length d) (length d))

-- the first one that a HID descriptor names, by its type and its length: a report descriptor of one byte at least
abbrev pub report_remark : ℕ → ℕ → Option Remark
report_remark type count =
    if not (type == 0x22) then Some remarks.NoReport else remark_if (count == 0) remarks.EmptyReport

abbrev pub hid_report_remark : Option ClassCodes → List ℕ → Option Remark
hid_report_remark interface d =
    if is_hid interface d && nat_le 9 (length d) then report_remark (slice_index d 6) (little_endian_at d 7) else None

-- what is of an endpoint
abbrev pub is_of_endpoint : Option DescriptorOwner → Bool
is_of_endpoint None = false
is_of_endpoint (Some owner) = is_some owner.endpoint

-- It stands after an endpoint: a HID descriptor, and not right after its interface (7.1), or a functional descriptor, which is of an
-- interface (CDC 1.2, 5.2.3; USB 2.0, 9.5).
abbrev pub late_remark : Option ClassCodes → Option DescriptorOwner → List ℕ → Option Remark
late_remark interface owner d =
    if not (is_of_endpoint owner) then None
    else if is_hid interface d then Some remarks.LateHidDescriptor
    else remark_if (is_functional interface d) remarks.LateFunctional

-- ---- functional descriptors

-- an interface that call management or a union names and that its set, which is all there, doesn't have (PSTN 1.2, 5.3.1; CDC 1.2,
-- 5.2.3.2)
abbrev pub missing_remark : Option ℕ → Option (List ℕ) → Option Remark
missing_remark (Some interface) (Some rest) = Some (remarks.MissingInterface interface)
missing_remark missing rest = None

-- the least length of one by its subtype: header, call management, abstract control management and union
abbrev pub least_length : ℕ → Option ℕ
least_length subtype =
    if subtype == 0x00 then Some 5
    else if subtype == 0x01 then Some 5
    else if subtype == 0x02 then Some 4
    else if subtype == 0x06 then Some 5
    else None

-- one with fewer bytes
abbrev pub below_least : List ℕ → ℕ → Option Remark
below_least d least = remark_if (nat_lt (length d) least) (remarks.ShortFunctional least (length d))

-- a functional descriptor that is too short for its fields, or that names an interface that isn't there
abbrev pub functional_remark : Option ClassCodes → List ℕ → Option ℕ → Option (List ℕ) → Option Remark
functional_remark interface d missing rest =
    if is_functional interface d && nat_le 3 (length d)
    then option_or (option_and_then (below_least d) (least_length (slice_index d 2))) (missing_remark missing rest)
    else None

-- ---- releases

-- a release of a class: from 1.0 on, and below 10.0, so that its bytes aren't swapped
abbrev pub is_class_release : ℕ → Bool
is_class_release release = nat_le 0x0100 release && nat_lt release 0x1000

-- bcdHID, or bcdCDC of a header
abbrev pub class_release : Option ClassCodes → List ℕ → Option ℕ
class_release interface d =
    if is_hid interface d && nat_le 4 (length d) then Some (little_endian_at d 2)
    else if is_functional interface d && (nat_le 5 (length d) && (slice_index d 2 == 0)) then Some (little_endian_at d 3)
    else None

abbrev pub release_remark : ℕ → Option Remark
release_remark release = remark_if (not (is_class_release release)) remarks.ClassRelease

abbrev pub class_release_remark : Option ClassCodes → List ℕ → Option Remark
class_release_remark interface d = option_and_then release_remark (class_release interface d)
