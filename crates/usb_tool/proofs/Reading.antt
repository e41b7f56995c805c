-- On reading an input, and on the fault of a result.
use Rattle.std.proofs.Common.{◌≡◌, ℕ, ◌+◌, ◌≤◌, List, ◌++◌, length, take, Result, Ok, Err, sym, subst, arith, length-append}
use Rattle.std.proofs.lemmas.List.{length-take-le}
use Rattle.std.specs.Prelude.{IfErr, IsErrAnd}
use Rattle.usb_tool.specs.declared.fault.ToolFault.{ToolFault}

-- what holds of a fault holds of the result that is that fault
pub when_err : {T : Type 0} (r : Result T ToolFault) (e : ToolFault) (P : ToolFault → Type 0)
    → IsErrAnd r (λ fault. fault ≡ e) → P e → IfErr r P
when_err (Ok v) e P h p = tt
when_err (Err fault) e P h p = subst P (sym h) p

-- the count of the bytes with a part of a buffer behind them
pub counted_more : (bytes buf : List ℕ) (count read : ℕ) → count ≡ length bytes → read ≤ length buf
    → count + read ≡ length (bytes ++ take read buf)
counted_more bytes buf count read is le = omega (arith, is, length-append bytes (take read buf), length-take-le read buf le)
