-- What calls do to a write as numbers.
use Rattle.std.specs.Prelude.{◌≡◌, ◌≢◌, ℕ, Bool, true, false, length, List, Option, Some, None}
use Rattle.usb_fields.specs.Packets.{Sent, Token, OutToken}
use Rattle.usb_c.specs.Transactions.{transaction_of}
use Rattle.usb_c.specs.declared.transaction.NzgTransaction.{NzgTransaction}
use Rattle.usb_host.specs.Transfer.{TransferView, due_of}
use Rattle.usb_c.specs.declared.answer.Verdict.{Verdict}
use Rattle.usb_c.specs.declared.answer.Verdict.TheVariants as verdicts

-- a number without meaning, or a request that brings no data to the device
abbrev pub wrong_write : Option ℕ → Bool → Option ℕ
wrong_write (Some number) brings = Some number
wrong_write None false = Some 9
wrong_write None true = None

-- how many bytes a packet to the device has
abbrev pub bytes_of : Token → ℕ
bytes_of (OutToken toggle bytes) = length bytes
bytes_of token = 0

-- the transaction that follows once this many bytes were acknowledged, if any, and where its bytes are in the data
abbrev pub TellsDue : ℕ → Option Sent → NzgTransaction → NzgTransaction → Verdict → Type 0
TellsDue acknowledged None old new verdict = (verdict ≡ verdicts.Open 0) × (new ≡ old)
TellsDue acknowledged (Some sent) old new verdict =
    (verdict ≡ verdicts.Due acknowledged (bytes_of sent.token)) × (new ≡ transaction_of sent)

-- the next transaction of a write, where these are its wLength bytes of data; else nothing changes
abbrev pub TellsNext : Option TransferView → List ℕ → NzgTransaction → NzgTransaction → Verdict → Type 0
TellsNext None bytes old new verdict = (verdict ≡ verdicts.BadArgument 11) × (new ≡ old)
TellsNext (Some t) bytes old new (verdicts.BadArgument number) = (number ≡ 10) × (length bytes ≢ t.request.length) × (new ≡ old)
TellsNext (Some t) bytes old new verdict = (length bytes ≡ t.request.length) × TellsDue t.kept (due_of t bytes) old new verdict
