-- What holds of an enumeration over a bus of bytes on which each given change is slight.
use Rattle.std.specs.Prelude.{ℕ, ◌≤◌, List, length}
use Rattle.usb_fields.specs.Bytes.{AreBytes}
use Rattle.usb_fields.specs.declared.packet.Speed.{Speed}
use Rattle.usb_file_data.specs.declared.file.DescriptorFile.{DescriptorFile}
use Rattle.usb_file_data.specs.File.{file_bytes}
use Rattle.usb_host.specs.Limits.{IsInRange, LimitView}
use Rattle.usb_host.specs.declared.choice.Choice.{Choice}
use Rattle.usb_device.specs.Accepted.{Accepted}
use Rattle.usb_device.specs.Requests.{answer}
use Rattle.usb_bus.specs.declared.enumeration.Run.{Run}
use Rattle.usb_bus.specs.declared.fate.Fate.{Fate}
use Rattle.usb_bus.specs.declared.wire.change.BitChange.{BitChange}
use Rattle.usb_bus.specs.Damaged.{bits_of}
use Rattle.usb_bus.specs.DamagedRuns.{AreSlight, IsDamagedEnumeration, IsDamagedRunFrom, counts_of}
use Rattle.usb_bus.specs.Asked.{asked_of}
use Rattle.usb_bus.specs.Enumerate.{EndsWell, Pair, chosen_pair, new_pair}
use Rattle.usb_bus.specs.WireLaws.{IsFatedFrom}
use Rattle.usb_bus.specs.WireRuns.{Counts, IsWireRunFrom}

-- It is one over a bus that loses packets and changes few bits of others. So it ends well under fates that lose no more often
-- than a transaction was changed or lost something.
pub record IsSlightFrom (new : Pair) (f asked : DescriptorFile) (limits : LimitView) (n : Counts) (run : Run) : Type 0 where
  pub on_wire : IsWireRunFrom new (answer f) f.device.packet n run
  pub fates : List Fate
  pub fated : IsFatedFrom new (answer f) f.device.packet n run fates
  pub ends_well : EndsWell asked limits fates run

-- of a host that asks for all of a file
abbrev pub IsSlight : DescriptorFile → Speed → LimitView → Counts → Run → Type 0
IsSlight f speed limits n run = IsSlightFrom (new_pair limits speed) f f limits n run

abbrev pub SlightDamageEndsWell : Type 0
SlightDamageEndsWell =
    (f : DescriptorFile) (speed : Speed) (limits : LimitView) (fates : List Fate) (changes : List BitChange) (run : Run) →
    Accepted f speed → AreBytes (file_bytes f) → IsInRange limits.address limits.attempts → AreSlight changes →
    IsDamagedEnumeration f speed limits fates changes run → IsSlight f speed limits (counts_of fates changes run.transactions) run

-- whatever the host asks for
abbrev pub AnySlightDamageEndsWell : Type 0
AnySlightDamageEndsWell =
    (f : DescriptorFile) (speed : Speed) (limits : LimitView) (choice : Choice) (fates : List Fate) (changes : List BitChange) (run : Run) →
    Accepted f speed → AreBytes (file_bytes f) → IsInRange limits.address limits.attempts → AreSlight changes →
    (let new = chosen_pair limits speed choice in IsDamagedRunFrom new f fates changes run →
    IsSlightFrom new f (asked_of choice f) limits (counts_of fates changes run.transactions) run)

-- Changes are slight where there is at most one in each packet.
abbrev pub SingleChangesAreSlight : Type 0
SingleChangesAreSlight =
    (changes : List BitChange) → ((transaction number : ℕ) → length (bits_of changes transaction number) ≤ 1) → AreSlight changes
