use Rattle.std.proofs.Common.{ℕ}
use Rattle.std.proofs.lemmas.List.{get_or-replicate, length-replicate}
use Rattle.usb_remarks.proofs.later_interfaces.LaterInterfaces.none.Goals as goal

pub returns : goal.returns
returns c = record {
  cells = length-replicate {A = ℕ} 256 0;
  each = λ n within. get_or-replicate {A = ℕ} 256 n 0 0 within;
}
