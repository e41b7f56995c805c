-- In a transfer whose outcome is open, a packet that may come has a length that may come.
use Rattle.std.proofs.Common.{◌≡◌, ℕ, ◌&&◌, Bool, true, false, List, length}
use Rattle.usb_fields.specs.declared.packet.Toggle.{Toggle}
use Rattle.usb_fields.specs.declared.setup.Setup.{Setup}
use Rattle.usb_fields.specs.Packets.{Token, SetupToken, InToken, OutToken, DataReply, flipped, is_same_toggle}
use Rattle.usb_device.specs.Beside.{asks_for_bytes}
use Rattle.usb_device.specs.declared.open_transfer.OpenTransfer.{OpenTransfer}
use Rattle.usb_device.specs.OpenTransfers.{may_answer, may_have, may_send}

second : (a b : Bool) → (a && b) ≡ true → b ≡ true
second true b e = e
second false b e = absurd (cc)

of_packet : (asks : Bool) (packet limit : ℕ) (t : OpenTransfer) (toggle : Toggle) (bytes : List ℕ) → may_send asks packet limit t toggle bytes ≡ true → asks ≡ true →
    may_have packet limit t t.stage (length bytes) ≡ true
of_packet true packet limit t toggle bytes may asks = second (is_same_toggle toggle (flipped t.last)) (may_have packet limit t t.stage (length bytes)) may
of_packet false packet limit t toggle bytes may asks = absurd (cc)

pub may_have_so : (q : Setup) (packet : ℕ) (t : OpenTransfer) (token : Token) (toggle : Toggle) (bytes : List ℕ) → may_answer q packet t token (DataReply toggle bytes) ≡ true → asks_for_bytes q ≡ true →
    may_have packet q.length t t.stage (length bytes) ≡ true
may_have_so q packet t (SetupToken b) toggle bytes may asks = absurd (cc)
may_have_so q packet t InToken toggle bytes may asks = of_packet (asks_for_bytes q) packet q.length t toggle bytes may asks
may_have_so q packet t (OutToken u b) toggle bytes may asks = absurd (cc)
