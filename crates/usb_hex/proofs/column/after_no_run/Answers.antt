use Rattle.std.proofs.Common.{◌≡◌, ℕ, false, Option, is_some, subst}
use Rattle.usb_hex.proofs.Runs.{four_on}
use Rattle.usb_hex.proofs.column.after_no_run.Goals as goal

pub returns-in-len4-up-clause-is : goal.returns-in-len4-up-clause-is
returns-in-len4-up-clause-is c =
    four_on c.args.text.now c.in-len4-up.len_at_least (subst (λ (v : Option ℕ). is_some v ≡ false) c.digit.ensures c.if-is_none.ensures)
