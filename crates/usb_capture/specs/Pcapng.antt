-- The blocks of a capture file in pcapng's format (draft-ietf-opsawg-pcapng), each read by the section in which it stands.
use Rattle.std.specs.Prelude.{ℕ, ◌+◌, ◌*◌, ◌%◌, ◌-◌, ◌==◌, ◌&&◌, Bool, List, length, take, drop, min, Option, Some, None, Result, Ok, Err, nat_lt, nat_le, slice_get, if◌then◌else◌}
use Rattle.usb_capture.specs.declared.clock.Clock.{Clock}
use Rattle.usb_capture.specs.declared.content.Content.{Content}
use Rattle.usb_capture.specs.declared.content.Content.TheVariants as says
use Rattle.usb_capture.specs.declared.content.Layout.TheVariants as layouts
use Rattle.usb_capture.specs.declared.fault.CaptureFault.{CaptureFault}
use Rattle.usb_capture.specs.declared.fault.CaptureFault.TheVariants as faults
use Rattle.usb_capture.specs.declared.interface.Interface.{Interface}
use Rattle.usb_capture.specs.declared.order.ByteOrder.{ByteOrder}
use Rattle.usb_capture.specs.declared.order.ByteOrder.TheVariants.{Little, Big}
use Rattle.usb_capture.specs.Clocks.{clock_of, time_of}
use Rattle.usb_capture.specs.Numbers.{number_at, short_at}

-- Block Type 0a0d0d0a, a section header's, reads the same in both orders
abbrev pub is_section : List ℕ → Bool
is_section b = number_at Big b 0 == 0x0a0d0d0a

-- a section header's Byte-Order Magic, 1a2b3c4d in the section's order
abbrev pub section_order : List ℕ → Option ByteOrder
section_order b =
    if number_at Little b 8 == 0x1a2b3c4d then Some Little
    else if number_at Big b 8 == 0x1a2b3c4d then Some Big
    else None

-- the order of a block's numbers: a section header has its own
abbrev pub block_order : ByteOrder → List ℕ → Option ByteOrder
block_order order b = if is_section b then section_order b else Some order

-- Block Total Length: a multiple of four, and 12 at least
abbrev pub is_total : ℕ → Bool
is_total n = nat_le 12 n && n % 4 == 0

-- how many bytes the block has that begins with these; 12 tell whether that can be known
abbrev pub total : Option ByteOrder → List ℕ → ℕ
total None b = 12
total (Some order) b = if is_total (number_at order b 4) then number_at order b 4 else 12

abbrev pub block_length : ByteOrder → List ℕ → ℕ
block_length order b = if nat_lt (length b) 12 then 12 else total (block_order order b) b

-- In what follows b begins a block of n bytes.

-- Section Header Block: Major Version is 1
abbrev pub section_content : ByteOrder → List ℕ → ℕ → Result Content CaptureFault
section_content order b n =
    if nat_lt n 28 then Err faults.Length
    else if short_at order b 12 == 1 then Ok (says.Section order)
    else Err faults.Version

-- Interface Description Block: LinkType, SnapLen and Options
abbrev pub interface_with : ByteOrder → List ℕ → Option Clock → Result Content CaptureFault
interface_with order b None = Err faults.Options
interface_with order b (Some clock) = Ok (says.Interface (record { link = short_at order b 8; most = number_at order b 12; clock = clock }))

abbrev pub interface_content : ByteOrder → List Interface → List ℕ → ℕ → Result Content CaptureFault
interface_content order interfaces b n =
    if nat_lt n 20 then Err faults.Length
    else if nat_lt 65627 n then Err faults.Long
    else if nat_lt (length interfaces) 65536 then interface_with order b (clock_of order (take (n - 20) (drop 16 b)))
    else Err faults.Interfaces

-- Enhanced Packet Block and the obsolete Packet Block, at an interface: Timestamp (Upper), Timestamp (Lower), Captured
-- Packet Length, Original Packet Length and Packet Data
abbrev pub packet_content : ByteOrder → Option Interface → List ℕ → ℕ → Result Content CaptureFault
packet_content order None b n = Err faults.Interface
packet_content order (Some interface) b n =
    if nat_lt n (32 + number_at order b 20) then Err faults.Data
    else Ok (says.Packet (record {
      time = time_of interface.clock (4294967296 * number_at order b 12 + number_at order b 16);
      link = interface.link;
      order = order;
      captured = number_at order b 20;
      original = number_at order b 24;
      layout = layouts.Enhanced;
    }))

-- Simple Packet Block, at the first interface: Original Packet Length, and Packet Data, of which SnapLen are there at most
abbrev pub simple_length : Interface → ℕ → ℕ
simple_length interface original = if interface.most == 0 then original else min original interface.most

abbrev pub simple_content : ByteOrder → Option Interface → List ℕ → ℕ → Result Content CaptureFault
simple_content order None b n = Err faults.Interface
simple_content order (Some interface) b n =
    if nat_lt n (16 + simple_length interface (number_at order b 8)) then Err faults.Data
    else Ok (says.Packet (record {
      time = None;
      link = interface.link;
      order = order;
      captured = simple_length interface (number_at order b 8);
      original = number_at order b 8;
      layout = layouts.Simple;
    }))

-- by Block Type
abbrev pub typed_content : ByteOrder → List Interface → List ℕ → ℕ → Result Content CaptureFault
typed_content order interfaces b n =
    let type = number_at order b 0 in
    if type == 0x0a0d0d0a then section_content order b n
    else if type == 1 then interface_content order interfaces b n
    else if type == 3 then (if nat_lt n 16 then Err faults.Length else simple_content order (slice_get interfaces 0) b n)
    else if type == 6 then (if nat_lt n 32 then Err faults.Length else packet_content order (slice_get interfaces (number_at order b 8)) b n)
    else if type == 2 then (if nat_lt n 32 then Err faults.Length else packet_content order (slice_get interfaces (short_at order b 8)) b n)
    else Ok says.Other

-- a whole block, whose last four bytes say its length once more
abbrev pub ordered_content : Option ByteOrder → List Interface → List ℕ → ℕ → List ℕ → Result Content CaptureFault
ordered_content None interfaces b n last = Err faults.Order
ordered_content (Some order) interfaces b n last =
    if is_total (number_at order b 4) then (if number_at order last 0 == n then typed_content order interfaces b n else Err faults.Trailer)
    else Err faults.Length

abbrev pub block_content : ByteOrder → List Interface → List ℕ → ℕ → List ℕ → Result Content CaptureFault
block_content order interfaces b n last = ordered_content (block_order order b) interfaces b n last
