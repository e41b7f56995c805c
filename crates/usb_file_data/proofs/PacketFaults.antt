-- A fault of bMaxPacketSize0 is there just where the rule is broken.
use Rattle.std.proofs.Common.{◌≡◌, ℕ, ◌==◌, ◌||◌, nat_le, not, Bool, true, false, is_some, Some, None, if◌then◌else◌, refl, ap, sym, arith}
use Rattle.std.proofs.lemmas.Bool.Decides.{nat_tests}
use Rattle.usb_fields.specs.declared.device.DeviceDescriptor.{DeviceDescriptor}
use Rattle.usb_file_data.specs.declared.cause.PacketFault.TheVariants as packets
use Rattle.usb_file_data.specs.Causes.{device_packet_fault, packet_fault}
use Rattle.usb_file_data.specs.Rules.{has_lone_subclass, wrong_device, wrong_dumped_device, wrong_packet}

some_where : (wrong : Bool) → is_some (if wrong then Some packets.NotInTable else None) ≡ wrong
some_where true = refl
some_where false = refl

pub packet_breaks : (packet : ℕ) → is_some (packet_fault packet) ≡ wrong_packet packet
packet_breaks packet = some_where (wrong_packet packet)

in_file : (late nine wrong : Bool) → (nine ≡ true → wrong ≡ true)
    → is_some (if late then (if nine then Some packets.Nine else if wrong then Some packets.NotInTable else None) else if wrong then Some packets.NotInTable else None) ≡ wrong
in_file false nine wrong own = some_where wrong
in_file true true true own = refl
in_file true true false own = sym (own refl)
in_file true false wrong own = some_where wrong

in_dump : (late nine wrong : Bool)
    → is_some (if late then (if nine then None else Some packets.NotNine) else if wrong then Some packets.NotInTable else None) ≡ (if late then not nine else wrong)
in_dump false nine wrong = some_where wrong
in_dump true true wrong = refl
in_dump true false wrong = refl

nine_is_wrong : (packet : ℕ) → (packet == 9) ≡ true → wrong_packet packet ≡ true
nine_is_wrong packet h = grind (arith, nat_tests)

pub device_breaks : (is_dump : Bool) (d : DeviceDescriptor) → (is_some (device_packet_fault is_dump d) || has_lone_subclass d) ≡ (if is_dump then wrong_dumped_device d else wrong_device d)
device_breaks true d = ap (λ b. b || has_lone_subclass d) (in_dump (nat_le 0x0300 d.usb) (d.packet == 9) (wrong_packet d.packet))
device_breaks false d = ap (λ b. b || has_lone_subclass d) (in_file (nat_le 0x0300 d.usb) (d.packet == 9) (wrong_packet d.packet) (nine_is_wrong d.packet))
