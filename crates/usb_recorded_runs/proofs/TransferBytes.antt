-- The bytes of recorded control transfers are bytes.
use Rattle.std.proofs.Common.{◌≡◌, ◌==◌, ◌&&◌, ℕ, Bool, true, false, nat_le, min, if◌then◌else◌, List, [], ◌∷◌, ◌++◌, length, drop, refl, subst, ◌+◌}
use Rattle.std.specs.Prelude.{Option, Some, None}
use Rattle.std.specs.List.{AllByRecursion}
use Rattle.std.specs.Option.{option_to_list}
use Rattle.usb_fields.specs.declared.setup.Setup.{Setup}
use Rattle.usb_fields.specs.Bytes.{AreBytes}
use Rattle.usb_fields.specs.Packets.{AckReply, DataReply, InToken, NakReply, NoReply, OutToken, Reply, SetupToken, StallReply, Token}
use Rattle.usb_fields.proofs.ByteParts.{bytes_append, bytes_back}
use Rattle.usb_wire.specs.Packets.{IsLegal, PacketView}
use Rattle.usb_bus.specs.declared.fate.Fate.{Fate}
use Rattle.usb_bus.specs.declared.fate.Fate.TheVariants as fates
use Rattle.usb_bus.specs.Bus.{brought}
use Rattle.usb_bus.specs.Exchanges.{is_lost_ack, is_lost_down, is_lost_up}
use Rattle.usb_bus.specs.Wire.{ack_packet, data_packet, reply_packet, token_packet}
use Rattle.usb_capture.specs.declared.asked.Asked.{Asked}
use Rattle.usb_capture.specs.declared.control_transfer.ControlTransfer.{ControlTransfer}
use Rattle.usb_capture.specs.declared.data_toggle.DataToggle.{DataToggle}
use Rattle.usb_capture.specs.declared.data_toggle.Part.{Part}
use Rattle.usb_capture.specs.declared.data_toggle.Part.TheVariants as parts
use Rattle.usb_capture.specs.declared.open_transfer.OpenTransfer.{OpenTransfer}
use Rattle.usb_capture.specs.declared.transaction.DataPacket.{DataPacket}
use Rattle.usb_capture.specs.declared.transaction.Transaction.{Transaction}
use Rattle.usb_capture.specs.BusTransfers.{Pipes, begun_by, closed, none_open, over_by, over_with_part, part_at, pipes_after, pipes_by, pipes_with, request_of, toggle_after, toggle_at, transfer_over, transfers_in, with_bytes, with_packet}
use Rattle.usb_capture.specs.Findings.{asked_of, gives, is_same, may_change, said}
use Rattle.usb_capture.specs.Folds.{given_in}
use Rattle.usb_capture.specs.Transfers.{open_with, opened, without}
use Rattle.usb_recorded_runs.specs.Exchanges.{Exchange, arriving, data_of, data_received, packets_of, received, transaction_of, unless_lost}
use Rattle.usb_recorded_runs.proofs.RecordedLemmas.{IsRegular}
use Rattle.usb_recorded_runs.proofs.RunLemmas.{all_append}

abbrev pub HasBytes : ControlTransfer → Type 0
HasBytes transfer = AreBytes transfer.data

-- ---- the data of transactions

abbrev DataAreBytes : Option DataPacket → Type 0
DataAreBytes None = Unit {0}
DataAreBytes (Some packet) = AreBytes packet.bytes

reply_bytes : (reply : Reply) (rest : List PacketView) → AllByRecursion IsLegal (arriving false (reply_packet reply) ++ rest) → DataAreBytes (data_of reply)
reply_bytes (DataReply toggle bytes) rest legal = legal.0.0
reply_bytes AckReply rest legal = tt
reply_bytes NakReply rest legal = tt
reply_bytes StallReply rest legal = tt
reply_bytes NoReply rest legal = tt

came_bytes : (fate : Fate) (reply : Reply) (rest : List PacketView) → AllByRecursion IsLegal (arriving (is_lost_up fate) (reply_packet reply) ++ rest)
    → DataAreBytes (data_of (brought fate reply))
came_bytes fates.LostUp reply rest legal = tt
came_bytes fates.Pass reply rest legal = reply_bytes reply rest legal
came_bytes fates.Busy reply rest legal = reply_bytes reply rest legal
came_bytes fates.LostDown reply rest legal = reply_bytes reply rest legal
came_bytes fates.LostAck reply rest legal = reply_bytes reply rest legal

token_bytes : (token : Token) (fate : Fate) (reply : Reply) (rest : List PacketView)
    → AllByRecursion IsLegal (arriving false (data_packet token) ++ (arriving (is_lost_up fate) (reply_packet reply) ++ rest))
    → DataAreBytes (data_received token (brought fate reply))
token_bytes (SetupToken bytes) fate reply rest legal = legal.0.0
token_bytes (OutToken toggle bytes) fate reply rest legal = legal.0.0
token_bytes InToken fate reply rest legal = came_bytes fate reply rest legal

one_bytes : (x : Exchange) → is_lost_down x.fate ≡ false → AllByRecursion IsLegal (packets_of x)
    → DataAreBytes (data_received x.sent.token (brought x.fate x.answered))
one_bytes x kept legal =
    let last = arriving (is_lost_ack x.fate) (ack_packet (brought x.fate x.answered)) in
    let rest = arriving (is_lost_up x.fate) (reply_packet x.answered) ++ last in
    let all : AllByRecursion IsLegal (token_packet x.sent ∷ (arriving false (data_packet x.sent.token) ++ rest)) =
    subst (λ lost. AllByRecursion IsLegal (arriving lost (Some (token_packet x.sent)) ++ (arriving lost (data_packet x.sent.token) ++ rest))) kept legal in
    token_bytes x.sent.token x.fate x.answered last all.1

abbrev HasData : Transaction → Type 0
HasData transaction = DataAreBytes transaction.data

first_bytes : (lost : Bool) (t : Transaction) (ts : List Transaction) → (lost ≡ false → HasData t) → AllByRecursion HasData ts
    → AllByRecursion HasData (unless_lost lost t ++ ts)
first_bytes true t ts here later = later
first_bytes false t ts here later = (here refl, later)

received_bytes : (times : ℕ → Option ℕ) (number : ℕ) (xs : List Exchange) → AllByRecursion IsRegular xs → AllByRecursion HasData (received times number xs)
received_bytes times number [] regular = tt
received_bytes times number (x ∷ xs) regular =
    first_bytes (is_lost_down x.fate) (transaction_of number (times number) x) (received times (number + length (packets_of x)) xs)
    (λ kept. one_bytes x kept regular.0.legal) (received_bytes times (number + length (packets_of x)) xs regular.1)

-- ---- the data of transfers

abbrev OpenBytes : OpenTransfer → Type 0
OpenBytes one = HasBytes one.transfer

abbrev IfBytes : Option ControlTransfer → Type 0
IfBytes None = Unit {0}
IfBytes (Some transfer) = HasBytes transfer

found_bytes : (id : ℕ) (opens : List OpenTransfer) → AllByRecursion OpenBytes opens → IfBytes (open_with id opens)
unfolding open_with
found_bytes id [] each = tt
found_bytes id (one ∷ opens) each = of (one.id == id) (found_bytes id opens each.1)
  where
    of : (here : Bool) → IfBytes (open_with id opens) → IfBytes (if here then Some one.transfer else open_with id opens)
    of true later = each.0
    of false later = later

without_bytes : (id : ℕ) (opens : List OpenTransfer) → AllByRecursion OpenBytes opens → AllByRecursion OpenBytes (without id opens)
unfolding without
without_bytes id [] each = tt
without_bytes id (one ∷ opens) each = of (one.id == id) (without_bytes id opens each.1)
  where
    of : (here : Bool) → AllByRecursion OpenBytes (without id opens) → AllByRecursion OpenBytes (if here then opens else one ∷ without id opens)
    of true later = each.1
    of false later = (each.0, later)

with_more : (bytes : List ℕ) (transfer : ControlTransfer) → AreBytes bytes → HasBytes transfer → HasBytes (with_bytes bytes transfer)
with_more bytes transfer more has = of (nat_le (length transfer.data + length bytes) 65535)
  where
    counted : ControlTransfer
    counted = record transfer { length = min (transfer.length + length bytes) 4294967295 }

    of : (few : Bool) → AreBytes ((if few then record counted { «data» = transfer.data ++ bytes } else record counted { is_cut = true }).data)
    of true = bytes_append transfer.data bytes has more
    of false = has

packet_bytes : (packet : Option DataPacket) (transfer : ControlTransfer) → DataAreBytes packet → HasBytes transfer → HasBytes (with_packet packet transfer)
packet_bytes None transfer more has = has
packet_bytes (Some packet) transfer more has = with_more packet.bytes transfer more has

push_bytes : (address : ℕ) (transfer : ControlTransfer) (opens : List OpenTransfer) → HasBytes transfer → AllByRecursion OpenBytes opens
    → AllByRecursion OpenBytes (opens ++ opened address transfer ∷ [])
push_bytes address transfer opens has each = all_append OpenBytes opens (opened address transfer ∷ []) each (has, tt)

part_bytes : (part : Part) (t : Transaction) (transfer : ControlTransfer) (toggle : DataToggle) (pipes : Pipes) → HasData t → HasBytes transfer
    → AllByRecursion OpenBytes pipes.held → AllByRecursion OpenBytes (pipes_with part t transfer toggle pipes).held
part_bytes parts.Data t transfer toggle pipes more has each =
    push_bytes t.to.address (with_packet t.data transfer) pipes.held (packet_bytes t.data transfer more has) each
part_bytes parts.Neither t transfer toggle pipes more has each = push_bytes t.to.address transfer pipes.held has each
part_bytes (parts.Status ending) t transfer toggle pipes more has each = each

by_bytes : (request : Option Setup) (o : Option ControlTransfer) (t : Transaction) (pipes : Pipes) → HasData t → IfBytes o → AllByRecursion OpenBytes pipes.held
    → AllByRecursion OpenBytes (pipes_by request o t pipes).held
by_bytes (Some setup) o t pipes more has each = push_bytes t.to.address (begun_by t setup) pipes.held tt each
by_bytes None None t pipes more has each = each
by_bytes None (Some transfer) t pipes more has each =
    let part = part_at t transfer pipes in
    part_bytes part t transfer (toggle_after part t (toggle_at t.to.address pipes)) pipes more has each

after_bytes : (t : Transaction) (pipes : Pipes) → HasData t → AllByRecursion OpenBytes pipes.held → AllByRecursion OpenBytes (pipes_after t pipes).held
after_bytes t pipes more each =
    by_bytes (request_of t) (open_with t.to.address pipes.held) t (closed t.to.address pipes) more
    (found_bytes t.to.address pipes.held each) (without_bytes t.to.address pipes.held each)

ended_bytes : (part : Part) (t : Transaction) (transfer : ControlTransfer) → HasBytes transfer
    → AllByRecursion HasBytes (option_to_list (over_with_part part t transfer))
ended_bytes parts.Data t transfer has = tt
ended_bytes parts.Neither t transfer has = tt
ended_bytes (parts.Status ending) t transfer has = (has, tt)

over_bytes : (request : Option Setup) (o : Option ControlTransfer) (t : Transaction) (pipes : Pipes) → IfBytes o
    → AllByRecursion HasBytes (option_to_list (over_by request o t pipes))
over_bytes (Some setup) None t pipes has = tt
over_bytes (Some setup) (Some transfer) t pipes has = (has, tt)
over_bytes None None t pipes has = tt
over_bytes None (Some transfer) t pipes has = ended_bytes (part_at t transfer pipes) t transfer has

given_bytes : (pipes : Pipes) (ts : List Transaction) → AllByRecursion HasData ts → AllByRecursion OpenBytes pipes.held
    → AllByRecursion HasBytes (given_in pipes_after transfer_over pipes ts)
given_bytes pipes [] each held = tt
given_bytes pipes (t ∷ ts) each held =
    all_append HasBytes (option_to_list (transfer_over t pipes)) (given_in pipes_after transfer_over (pipes_after t pipes) ts)
    (over_bytes (request_of t) (open_with t.to.address pipes.held) t pipes (found_bytes t.to.address pipes.held held))
    (given_bytes (pipes_after t pipes) ts each.1 (after_bytes t pipes each.0 held))

pub transfers_bytes : (times : ℕ → Option ℕ) (xs : List Exchange) → AllByRecursion IsRegular xs → AllByRecursion HasBytes (transfers_in (received times 1 xs))
transfers_bytes times xs regular = given_bytes none_open (received times 1 xs) (received_bytes times 1 xs regular) tt

-- ---- what was said

pub said_bytes : (asked : Asked) (earlier : List ControlTransfer) → AllByRecursion HasBytes earlier → AreBytes (said asked earlier)
said_bytes asked [] each = tt
said_bytes asked (t ∷ earlier) each = of (may_change t asked) (gives t && is_same (asked_of t) asked) (said_bytes asked earlier each.1)
  where
    of : (changed given : Bool) → AreBytes (said asked earlier)
        → AreBytes (if changed then [] else (if given then t.data ++ drop (length t.data) (said asked earlier) else said asked earlier))
    of true given before = tt
    of false false before = before
    of false true before = bytes_append t.data (drop (length t.data) (said asked earlier)) each.0 (bytes_back (length t.data) (said asked earlier) before)
