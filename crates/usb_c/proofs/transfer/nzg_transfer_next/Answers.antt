use Rattle.std.proofs.Common.{◌≡◌, rules}
use Rattle.std.specs.Option.{option_and_then, option_map, unwrap_or}
use Rattle.usb_c.specs.Transactions.{transaction_of}
use Rattle.usb_host.specs.Transfer.{due}
use Rattle.usb_c.specs.Transfers.{transfer_in}
use Rattle.usb_c.proofs.Due.{due_whole}
use Rattle.usb_c.proofs.transfer.nzg_transfer_next.Goals as goal

pub returns-clause-whole : goal.returns-clause-whole
returns-clause-whole c =
    let held = transfer_in c.args.transfer.now in
    let report : c.transaction_numbers.result ≡ unwrap_or (option_map transaction_of (option_and_then due held)) c.args.transaction.now = search rules in
    λ sent. due_whole held c.args.transaction.now c.transaction_numbers.result sent report
