-- What the frames of a recording are: events of a host, and packets of the bus. Lists of frames, and of what is observed in them,
-- have the last one first.
use Rattle.std.specs.Prelude.{◌≡◌, ⊤, ℕ, ◌+◌, ◌-◌, ◌^◌, Bool, true, false, List, [], ◌∷◌, ◌++◌, min, nat_lt, Option, is_ok, is_some, option_and_then, Result, Ok, Err}
use Rattle.std.specs.Option.{option_to_list}
use Rattle.usb_capture.specs.declared.control_transfer.ControlTransfer.{ControlTransfer}
use Rattle.usb_capture.specs.declared.event.Event.{Event}
use Rattle.usb_capture.specs.declared.frame.Frame.{Frame}
use Rattle.usb_capture.specs.declared.recorded_packet.RecordedPacket.{RecordedPacket}
use Rattle.usb_capture.specs.declared.transaction.Transaction.{Transaction}
use Rattle.usb_capture.specs.BusPackets.{IsPacketOf}
use Rattle.usb_capture.specs.BusTransfers.{HasMade, pipes_in, transfer_over, transfers_in}
use Rattle.usb_capture.specs.Events.{IsEvent, event_fault}
use Rattle.usb_capture.specs.Folds.{after_all, given_in}
use Rattle.usb_capture.specs.Transactions.{HasReceived, bus_after, idle, over_with}
use Rattle.usb_capture.specs.Transfers.{HasTaken, open_after, over_in, seen}
use Rattle.usb_capture_lines.specs.BusFindings.{bus_found}
use Rattle.usb_capture_lines.specs.declared.completed.Completed.{Completed}
use Rattle.usb_capture_lines.specs.declared.bus_finding.BusFinding.{BusFinding}
use Rattle.usb_capture_lines.specs.declared.observer.Observer.{Observer}

-- what a frame is: an event of a host, or else a packet of the bus, or why it is none
abbrev pub Observed : Type 0
Observed = Result Event RecordedPacket

abbrev pub IsObserved : ℕ → Frame → Observed → Type 0
IsObserved number f (Ok event) = IsEvent f.link f.order f.bytes event × (event.time ≡ f.time) × (event.is_cut ≡ nat_lt f.captured f.original)
IsObserved number f (Err packet) =
    (is_some (event_fault f.link f.bytes) ≡ true) × (packet.number ≡ number) × (packet.time ≡ f.time) × IsPacketOf f packet.packet

-- frames are numbered from 1 on
abbrev pub one_more : ℕ → ℕ
one_more n = min (n + 1) (2 ^ 64 - 1)

abbrev pub frame_count : List Frame → ℕ
frame_count [] = 0
frame_count (f ∷ earlier) = one_more (frame_count earlier)

abbrev pub AreObserved : List Frame → List Observed → Type 0
AreObserved [] [] = ⊤
AreObserved (f ∷ frames) (x ∷ observed) = IsObserved (frame_count (f ∷ frames)) f x × AreObserved frames observed
AreObserved [] (x ∷ observed) = ⊥
AreObserved (f ∷ frames) [] = ⊥

-- how many are an event or a whole packet
abbrev pub is_decoded : Observed → Bool
is_decoded (Ok event) = true
is_decoded (Err packet) = is_ok packet.packet

abbrev pub decoded_with : Bool → ℕ → ℕ
decoded_with true n = one_more n
decoded_with false n = n

abbrev pub decoded_of : List Observed → ℕ
decoded_of [] = 0
decoded_of (x ∷ earlier) = decoded_with (is_decoded x) (decoded_of earlier)

-- the events, the packets, and the transactions that these are of, in order
abbrev pub events : List Observed → List Event
events [] = []
events (Ok event ∷ earlier) = events earlier ++ event ∷ []
events (Err packet ∷ earlier) = events earlier

abbrev pub packets : List Observed → List RecordedPacket
packets [] = []
packets (Ok event ∷ earlier) = packets earlier
packets (Err packet ∷ earlier) = packets earlier ++ packet ∷ []

abbrev pub transactions : List Observed → List Transaction
transactions observed = given_in bus_after over_with idle (packets observed)

-- the transaction that is over with a packet
abbrev pub transaction_over : List Observed → RecordedPacket → Option Transaction
transaction_over earlier packet = over_with packet (after_all bus_after over_with idle (packets earlier))

-- the control transfer that is over with what is observed
abbrev pub over_by : List Observed → Observed → Option ControlTransfer
over_by earlier (Ok event) = (seen event (open_after [] (events earlier))).over
over_by earlier (Err packet) = option_and_then (λ transaction. transfer_over transaction (pipes_in (transactions earlier))) (transaction_over earlier packet)

-- what is wrong in packets, found with what is observed
abbrev pub found_by : List Observed → Observed → List BusFinding
found_by earlier (Ok event) = []
found_by earlier (Err packet) = bus_found (transactions earlier) packet (transaction_over earlier packet)

-- what a frame completes
pub record Completes (earlier : List Observed) (x : Observed) (completed : Completed) : Type 0 where
  pub transfer : completed.transfer ≡ over_by earlier x
  pub found : completed.found.items ≡ found_by earlier x

-- all that are over, the last one first
abbrev pub overs : List Observed → List ControlTransfer
overs [] = []
overs (x ∷ earlier) = option_to_list (over_by earlier x) ++ overs earlier

-- who has observed all this
pub record HasObserved (observed : List Observed) (observer : Observer) : Type 0 where
  pub taken : HasTaken (events observed) (over_in [] (events observed)) observer.controls
  pub bus : HasReceived (packets observed) (transactions observed) observer.transactions
  pub made : HasMade (transactions observed) (transfers_in (transactions observed)) observer.transfers
  pub decoded : observer.decoded ≡ decoded_of observed
