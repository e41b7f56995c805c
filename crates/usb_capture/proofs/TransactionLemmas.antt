-- Transactions after one packet more.
use Rattle.std.proofs.Common.{◌≡◌, List, [], ◌∷◌, ◌++◌}
use Rattle.std.specs.Prelude.{Option, Result, Ok, Err, IfOk}
use Rattle.std.specs.Option.{option_to_list}
use Rattle.std.specs.declared.alloc.AllocError.{AllocError}
use Rattle.usb_capture.specs.declared.bus_transactions.BusTransactions.{BusTransactions}
use Rattle.usb_capture.specs.declared.recorded_packet.RecordedPacket.{RecordedPacket}
use Rattle.usb_capture.specs.declared.transaction.Transaction.{Transaction}
use Rattle.usb_capture.specs.Transactions.{HasReceived, bus_after, bus_of, idle, over_with}
use Rattle.usb_capture.proofs.Folds.{taken_push}

pub received_more : (r : Result (Option Transaction) AllocError) (recorded : RecordedPacket) (old new : BusTransactions)
    → IfOk r (λ over. bus_of new ≡ bus_after recorded (bus_of old))
    → IfOk r (λ over. over ≡ over_with recorded (bus_of old))
    → IfOk r (λ over. (packets : List RecordedPacket) (transactions : List Transaction) → HasReceived packets transactions old
    → HasReceived (packets ++ recorded ∷ []) (transactions ++ option_to_list over) new)
received_more (Ok over) recorded old new is gives =
    λ packets transactions has. taken_push bus_after over_with idle (bus_of old) (bus_of new) packets recorded transactions over has.0 has.1 is gives
received_more (Err error) recorded old new is gives = tt
