-- A plan of transfers.
use Rattle.std.specs.Prelude.{ℕ}
use Rattle.usb_fields.specs.declared.setup.Setup.{Setup as SetupPacket}
use Rattle.usb_host.specs.declared.why.Why.{Why}

-- what comes next: a transfer to this address, at this packet size, or the end
pub data Plan : Type 0 where
  Begin : (address packet : ℕ) (q : SetupPacket) → Plan
  Success : Plan
  GivesUp : (why : Why) → Plan
