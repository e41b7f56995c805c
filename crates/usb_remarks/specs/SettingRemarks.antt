-- What is remarked of an interface's setting by the descriptors in it, and of an endpoint by its setting (USB 2.0, 5.6.3, 5.7.3
-- and 9.6.5; HID 1.11, 4.4 and 7.1; CDC 1.2, 5.2.3; Mass Storage Bulk-Only 1.0, 4.3 and 4.4).
use Rattle.std.specs.Prelude.{ℕ, List, length, slice_index, Bool, true, false, nat_le, nat_lt, not, ◌==◌, ◌&&◌, Option, Some, None, if◌then◌else◌}
use Rattle.std.specs.List.{list_any, take_while}
use Rattle.usb_set.specs.Descriptors.{transfer_type_of}
use Rattle.usb_set.specs.declared.endpoint.TransferType.{TransferType}
use Rattle.usb_set.specs.declared.endpoint.TransferType.TheVariants.{Isochronous, Bulk, Interrupt}
use Rattle.usb_walk.specs.declared.owner.DescriptorOwner.{DescriptorOwner}
use Rattle.usb_walk.specs.declared.owner.InterfaceSetting.{InterfaceSetting}
use Rattle.usb_remarks.specs.declared.speed.SetSpeed.{SetSpeed}
use Rattle.usb_remarks.specs.declared.speed.SetSpeed.TheVariants.{High, Super}
use Rattle.usb_remarks.specs.declared.remark.Remark.{Remark}
use Rattle.usb_remarks.specs.declared.remark.Remark.TheVariants as remarks
use Rattle.usb_remarks.specs.declared.remarks.settings.Wanted.{Wanted}
use Rattle.usb_remarks.specs.declared.remarks.settings.Wanted.TheVariants as wanted
use Rattle.usb_remarks.specs.RemarkValues.{remark_if}
use Rattle.usb_walk.specs.Roles.{is_endpoint, is_interface}
use Rattle.usb_walk.specs.Trees.{descriptors}

-- ---- the descriptors of a setting

-- a bulk endpoint
abbrev pub is_bulk : TransferType → Bool
is_bulk Bulk = true
is_bulk _ = false

-- a bulk endpoint, by bmAttributes
abbrev pub is_bulk_endpoint : List ℕ → Bool
is_bulk_endpoint d = is_endpoint d && is_bulk (transfer_type_of (slice_index d 3))

-- an interrupt endpoint
abbrev pub is_interrupt : TransferType → Bool
is_interrupt Interrupt = true
is_interrupt _ = false

-- an interrupt endpoint to the host, by bmAttributes and bit 7 of its address
abbrev pub is_interrupt_in : List ℕ → Bool
is_interrupt_in d = is_endpoint d && is_interrupt (transfer_type_of (slice_index d 3)) && nat_le 0x80 (slice_index d 2)

-- what a setting has to have: a HID descriptor, an interrupt endpoint to the host, a bulk endpoint of each direction, by bit 7 of
-- its address, or the header of functional descriptors
abbrev pub is_wanted : Wanted → List ℕ → Bool
is_wanted wanted.HidDescriptor d = slice_index d 1 == 0x21
is_wanted wanted.InterruptIn d = is_interrupt_in d
is_wanted wanted.BulkIn d = is_bulk_endpoint d && nat_le 0x80 (slice_index d 2)
is_wanted wanted.BulkOut d = is_bulk_endpoint d && nat_lt (slice_index d 2) 0x80
is_wanted wanted.FunctionalHeader d = (slice_index d 1 == 0x24) && (nat_le 3 (length d) && (slice_index d 2 == 0))

-- the descriptors of a setting are those up to the next interface
abbrev pub no_interface : List ℕ → Bool
no_interface d = not (is_interface d)

-- one of them is what is wanted
unfoldable pub has_wanted : Wanted → List (List ℕ) → Bool
has_wanted what ds = list_any (is_wanted what) (take_while no_interface ds)

-- ---- what the setting of an interface lacks

-- communications interfaces with functional descriptors: by subclass all but Ethernet emulation, 0c, which has none (CDC 1.2, 4.3)
abbrev pub has_functions : ℕ → Bool
has_functions subclass = nat_lt 0 subclass && (nat_le subclass 0x0e && not (subclass == 0x0c))

-- what is lacking in an interface of this class, subclass and protocol, whose descriptors these are
abbrev pub lack_remark : ℕ → ℕ → ℕ → List (List ℕ) → Option Remark
lack_remark class subclass protocol ds =
    if class == 0x03 then remark_if (not (has_wanted wanted.HidDescriptor ds)) remarks.NoHidDescriptor
    else if (class == 0x08) && (protocol == 0x50) then
    remark_if (not (has_wanted wanted.BulkIn ds && has_wanted wanted.BulkOut ds)) remarks.OneDirection
    else if (class == 0x02) && has_functions subclass then
    remark_if (not (has_wanted wanted.FunctionalHeader ds)) remarks.NoFunctionalHeader
    else None

-- the same of an interface descriptor, with the bytes of its set after it where they are all there
abbrev pub setting_remark : List ℕ → Option (List ℕ) → Option Remark
setting_remark d None = None
setting_remark d (Some rest) = lack_remark (slice_index d 5) (slice_index d 6) (slice_index d 7) (descriptors rest)

-- an interrupt endpoint to the host, which each HID interface has (HID 1.11, 4.4)
abbrev pub pipe_remark : List ℕ → Option (List ℕ) → Option Remark
pipe_remark d None = None
pipe_remark d (Some rest) =
    if slice_index d 5 == 0x03 then remark_if (not (has_wanted wanted.InterruptIn (descriptors rest))) remarks.NoInterruptIn else None

-- ---- an endpoint in its setting

-- alternate setting 0, which is in force until another one is chosen (9.6.5)
abbrev pub is_default : Option InterfaceSetting → Bool
is_default None = false
is_default (Some setting) = setting.alternate == 0

-- what is of such a setting
abbrev pub in_default_setting : Option DescriptorOwner → Bool
in_default_setting None = false
in_default_setting (Some owner) = is_default owner.setting

-- An isochronous endpoint of alternate setting 0 has packets of 0 bytes, so that it takes nothing of the bus (5.6.3), and an
-- interrupt endpoint of it has at most 64 at high speed (5.7.3). Nothing is said of SuperSpeed.
abbrev pub default_remark : SetSpeed → TransferType → Option DescriptorOwner → ℕ → Option Remark
default_remark Super transfer owner size = None
default_remark speed Isochronous owner size = remark_if (in_default_setting owner && not (size == 0)) (remarks.DefaultIsochronous size)
default_remark High Interrupt owner size = remark_if (in_default_setting owner && nat_lt 64 size) (remarks.DefaultInterrupt size)
default_remark speed transfer owner size = None

-- Packets of 0 bytes have no data: an endpoint has them where another setting has greater ones (5.6.3 and 5.7.3).
abbrev pub empty_remark : Option DescriptorOwner → ℕ → Bool → Option (List ℕ) → Option Remark
empty_remark owner size follows (Some rest) = remark_if ((size == 0) && (in_default_setting owner && not follows)) remarks.EmptyPackets
empty_remark owner size follows None = None
