-- What is observed in one frame more.
use Rattle.std.proofs.Common.{◌≡◌, List, [], ◌∷◌, ◌++◌, append-nil, refl, sym, ap, ◌∙◌, subst}
use Rattle.std.proofs.lemmas.List.{append_cancel_left}
use Rattle.std.specs.Prelude.{Option, Some, None, Ok, Err, is_ok, option_and_then}
use Rattle.std.specs.Option.{option_to_list}
use Rattle.usb_capture.specs.declared.bus_transactions.BusTransactions.{BusTransactions}
use Rattle.usb_capture.specs.declared.control_transfer.ControlTransfer.{ControlTransfer}
use Rattle.usb_capture.specs.declared.control_transfers.ControlTransfers.{ControlTransfers}
use Rattle.usb_capture.specs.declared.event.Event.{Event}
use Rattle.usb_capture.specs.declared.recorded_packet.RecordedPacket.{RecordedPacket}
use Rattle.usb_capture.specs.declared.transaction.Transaction.{Transaction}
use Rattle.usb_capture.specs.BusTransfers.{HasMade, none_open, pipes_after, pipes_in, transfer_over, transfers_in}
use Rattle.usb_capture.specs.PacketSizes.{sizes_in}
use Rattle.usb_capture.specs.Transactions.{HasReceived, bus_after, idle, over_with}
use Rattle.usb_capture.specs.Transfers.{HasTaken, over_in}
use Rattle.usb_capture.proofs.Folds.{given_push}
use Rattle.usb_capture.proofs.TransferLemmas.{over_push}
use Rattle.usb_capture_lines.specs.Observations.{HasObserved, Observed, events, over_by, packets, decoded_with, transaction_over, transactions}
use Rattle.usb_capture_lines.specs.declared.observer.Observer.{Observer}

-- what is given with the last element is known by the list with it
abbrev first : {A : Type 0} → List A → Option A
first [] = None
first (x ∷ xs) = Some x

first_of : {A : Type 0} (o : Option A) → first (option_to_list o) ≡ o
first_of None = refl
first_of (Some x) = refl

same_given : {A : Type 0} (xs : List A) (a b : Option A) → xs ++ option_to_list a ≡ xs ++ option_to_list b → a ≡ b
same_given xs a b is = sym (first_of a) ∙ ap first (append_cancel_left xs (option_to_list a) (option_to_list b) is) ∙ first_of b

pub event_observed : (over : Option ControlTransfer) (observed : List Observed) (event : Event) (old new : ControlTransfers)
    → ((before : List Event) (given : List ControlTransfer) → HasTaken before given old → HasTaken (before ++ event ∷ []) (given ++ option_to_list over) new)
    → HasTaken (events observed) (over_in [] (events observed)) old
    → HasTaken (events (Ok event ∷ observed)) (over_in [] (events (Ok event ∷ observed))) new × (over ≡ over_by observed (Ok event))
event_observed over observed event old new takes has =
    let h = takes (events observed) (over_in [] (events observed)) has in
    ((h.0, refl), same_given (over_in [] (events observed)) over (over_by observed (Ok event)) (h.1 ∙ over_push [] (events observed) event))

packet_observed : (over : Option Transaction) (observed : List Observed) (packet : RecordedPacket) (old new : BusTransactions)
    → ((before : List RecordedPacket) (given : List Transaction) → HasReceived before given old → HasReceived (before ++ packet ∷ []) (given ++ option_to_list over) new)
    → HasReceived (packets observed) (transactions observed) old
    → HasReceived (packets (Err packet ∷ observed)) (transactions (Err packet ∷ observed)) new
    × (transactions (Err packet ∷ observed) ≡ transactions observed ++ option_to_list over) × (over ≡ transaction_over observed packet)
packet_observed over observed packet old new receives_reply has =
    let h = receives_reply (packets observed) (transactions observed) has in (
      (h.0, refl),
      sym h.1,
      same_given (transactions observed) over (transaction_over observed packet) (h.1 ∙ given_push bus_after over_with idle (packets observed) packet),
    )

-- the transfer that is over with a transaction, if one is
transfer_with : (given : Option Transaction) (transfer : Option ControlTransfer) (before : List Transaction)
    → transfers_in before ++ option_to_list transfer ≡ transfers_in (before ++ option_to_list given)
    → transfer ≡ option_and_then (λ t. transfer_over t (pipes_in before)) given
transfer_with None transfer before is =
    same_given (transfers_in before) transfer None (is ∙ ap transfers_in (append-nil before) ∙ sym (append-nil (transfers_in before)))
transfer_with (Some one) transfer before is =
    same_given (transfers_in before) transfer (transfer_over one (pipes_in before)) (is ∙ given_push pipes_after transfer_over none_open before one)

-- a packet, and the transaction that is over with it, if one is
pub observed_more : (transfer : Option ControlTransfer) (given : Option Transaction) (packet : RecordedPacket) (observed : List Observed) (old new : Observer) (bus : BusTransactions)
    → ((before : List RecordedPacket) (so_far : List Transaction) → HasReceived before so_far old.transactions → HasReceived (before ++ packet ∷ []) (so_far ++ option_to_list given) bus)
    → ((before : List Transaction) (so_far : List ControlTransfer) → HasMade before so_far old.transfers → HasMade (before ++ option_to_list given) (so_far ++ option_to_list transfer) new.transfers)
    → new.controls ≡ old.controls → new.transactions ≡ bus → new.decoded ≡ decoded_with (is_ok packet.packet) old.decoded
    → HasObserved observed old → HasObserved (Err packet ∷ observed) new × (transfer ≡ over_by observed (Err packet)) × (given ≡ transaction_over observed packet)
observed_more transfer given packet observed old new bus receives_reply makes controls bus-is decoded has =
    let before = transactions observed in
    let p = packet_observed given observed packet old.transactions bus receives_reply has.bus in
    let m = makes before (transfers_in before) has.made in (
      record {
        taken = subst (HasTaken (events observed) (over_in [] (events observed))) (sym controls) has.taken;
        bus = subst (HasReceived (packets (Err packet ∷ observed)) (transactions (Err packet ∷ observed))) (sym bus-is) p.0;
        made = subst (λ ts. HasMade ts (transfers_in ts) new.transfers) (sym p.1) (m.0, refl, m.2 ∙ ap sizes_in m.1);
        decoded = decoded ∙ ap (decoded_with (is_ok packet.packet)) has.decoded;
      },
      transfer_with given transfer before m.1 ∙ ap (option_and_then (λ t. transfer_over t (pipes_in before))) p.2,
      p.2,
    )
