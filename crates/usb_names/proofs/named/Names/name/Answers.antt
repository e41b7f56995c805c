use Rattle.std.proofs.Common.{rules}
use Rattle.usb_names.proofs.RowLemmas.{found_name}
use Rattle.usb_names.proofs.named.Names.name.Goals as goal

pub invariant_of-result : goal.invariant_of-result
invariant_of-result g c = let name = found_name _ c.args.self.now.rows.now c.find_row.result c.find_row.ensures c.args.self.now.names in search rules
