-- The addresses that a host asks at have 7 bits (USB 2.0, 8.3.2.1).
use Rattle.std.specs.Prelude.{◌<◌}
use Rattle.usb_host.specs.Steps.{HostPhase, HostView, ResetDue, Reading, Ended}

abbrev pub AddressFits : HostPhase → Type 0
AddressFits ResetDue = Unit {0}
AddressFits (Reading place transfer kept) = transfer.address < 128
AddressFits (Ended place) = Unit {0}

pub record AsksWithin (v : HostView) : Type 0 where
  pub limits : v.limits.address < 128
  pub phase : AddressFits v.phase
