-- What holds of a recording of a host and a device that enumerate over a bus that loses packets.
use Rattle.std.specs.Prelude.{◌≡◌, ◌⊎◌, ◌<◌, ◌++◌, ℕ, true, false, List, [], Option, Some, None, Ok}
use Rattle.std.specs.List.{AllByRecursion}
use Rattle.usb_wire.specs.Packets.{IsLegal}
use Rattle.usb_fields.specs.Bytes.{AreBytes}
use Rattle.usb_fields.specs.Device.{device_bytes}
use Rattle.usb_file_data.specs.declared.file.DescriptorFile.{DescriptorFile}
use Rattle.usb_file_data.specs.File.{file_bytes, sets_bytes}
use Rattle.usb_fields.specs.declared.packet.Speed.{Speed}
use Rattle.usb_host.specs.declared.choice.Choice.{Choice}
use Rattle.usb_host.specs.Limits.{IsInRange, LimitView}
use Rattle.usb_host.specs.Steps.{outcome_of}
use Rattle.usb_host.specs.Terms.{forgives_any}
use Rattle.usb_device.specs.Accepted.{Accepted}
use Rattle.usb_device.specs.Requests.{answer}
use Rattle.usb_device.specs.States.{zero}
use Rattle.usb_bus.specs.declared.fate.Fate.{Fate}
use Rattle.usb_bus.specs.Converse.{AskedView, state_after}
use Rattle.usb_bus.specs.DamagedRuns.{DamagedRunsAt}
use Rattle.usb_bus.specs.Enumerate.{Pair, Runs, chosen_pair, new_pair}
use Rattle.usb_bus.specs.Exchanges.{is_lost_down}
use Rattle.usb_capture.specs.declared.finding.Finding.TheVariants.{MoreThanAsked, OtherBytes, OtherLength, OtherType, RefusesCounted, RefusesGiven, RefusesNamed, RefusesRequired, RefusesStatus}
use Rattle.usb_capture.specs.declared.asked.Asked.{Asked}
use Rattle.usb_capture.specs.declared.control_transfer.ControlTransfer.{ControlTransfer}
use Rattle.usb_capture.specs.declared.device_file.DeviceFile.{DeviceFile}
use Rattle.usb_capture.specs.declared.ending.Ending.TheVariants.{Unseen}
use Rattle.usb_capture.specs.declared.frame.Frame.{Frame}
use Rattle.usb_capture.specs.declared.packet_finding.PacketFinding.TheVariants.{Long, NoHandshake, NoRequest, NoShortPacket, SetupRefused, StatusDirection, Toggle}
use Rattle.usb_capture.specs.declared.reader.CaptureReader.{CaptureReader}
use Rattle.usb_capture.specs.declared.recorded_packet.RecordedPacket.{RecordedPacket}
use Rattle.usb_capture.specs.declared.transaction.Transaction.{Transaction}
use Rattle.usb_capture.specs.BusTransfers.{transfers_in}
use Rattle.usb_capture.specs.DeviceFiles.{IsMade}
use Rattle.usb_capture.specs.DeviceReadings.{current_after}
use Rattle.usb_capture.specs.Findings.{holds}
use Rattle.usb_capture.specs.PacketFindings.{damage_in, is_found}
use Rattle.usb_capture.specs.PacketSizes.{is_long, size_at}
use Rattle.usb_capture.specs.Reading.{IsRead}
use Rattle.usb_capture.specs.Recordings.{transactions_in}
use Rattle.usb_recorded_runs.specs.Answers.{IsAnswered, IsConversation, IsOfDevice, found_otherwise, never_found}
use Rattle.usb_recorded_runs.specs.Captures.{AreOfFrames, Moment, capture_of, frames, times}
use Rattle.usb_recorded_runs.specs.Exchanges.{exchanges, received, packets_in, transaction_of}
use Rattle.usb_recorded_runs.specs.Files.{GivesDump, GivesFile, IsOfDescription, at_address}
use Rattle.usb_recorded_runs.specs.Findings.{IsEnded, IsFreeAfter, IsTransferFreeAfter, LosesHandshake}

-- A run from a new pair on, of n transactions under these fates, as that of an enumeration: these are the pairs on the way, the newest
-- first. Each packet that arrives is a legal one.
abbrev pub IsRun : DescriptorFile → List Fate → Pair → List Pair → ℕ → Pair → Type 0
IsRun f fates new earlier n last = Runs f fates new earlier n last × AllByRecursion IsLegal (packets_in (exchanges f fates earlier n))

-- So it is over a bus of bytes that changes no bit of a packet, where no premise is needed.
abbrev pub RunsOfBytesAreRuns : Type 0
RunsOfBytesAreRuns =
    (f : DescriptorFile) (fates : List Fate) (new : Pair) (earlier : List Pair) (n : ℕ) (last : Pair) →
    DamagedRunsAt (answer f) f.device.packet fates [] new earlier n last → IsRun f fates new earlier n last

-- And so is every enumeration of a new device whose descriptors are bytes, by a host that gives it an address of 7 bits (8.3.2.1).
abbrev pub EnumerationsAreRuns : Type 0
EnumerationsAreRuns =
    (f : DescriptorFile) (fates : List Fate) (limits : LimitView) (speed : Speed) (choice : Choice) (earlier : List Pair) (n : ℕ) (last : Pair) →
    AreBytes (file_bytes f) → limits.address < 128 → Runs f fates (chosen_pair limits speed choice) earlier n last →
    IsRun f fates (chosen_pair limits speed choice) earlier n last

-- The packets that arrive, read one by one as the program reads frames, are the transactions of the run, each with what of it arrives.
abbrev pub RecordedRunsAreRead : Type 0
RecordedRunsAreRead =
    (f : DescriptorFile) (fates : List Fate) (new : Pair) (earlier : List Pair) (n : ℕ) (last : Pair) (clock : ℕ → Moment)
    (recorded : List RecordedPacket) → IsRun f fates new earlier n last →
    (let xs = exchanges f fates earlier n in
    AreOfFrames 1 (frames clock 1 (packets_in xs)) recorded → transactions_in recorded ≡ received (times clock) 1 xs)

-- So are they where the packets stand in a capture file: whoever has read its bytes, in any pieces, has these frames, and with them
-- that very list of transactions.
abbrev pub CapturedRunsAreRead : Type 0
CapturedRunsAreRead =
    (f : DescriptorFile) (fates : List Fate) (new : Pair) (earlier : List Pair) (n : ℕ) (last : Pair) (clock : ℕ → Moment)
    (read : List Frame) (reader : CaptureReader) (recorded : List RecordedPacket) → IsRun f fates new earlier n last →
    (let xs = exchanges f fates earlier n in
    IsRead (capture_of clock (packets_in xs)) read reader → AreOfFrames 1 read recorded →
    (read ≡ frames clock 1 (packets_in xs)) × (transactions_in recorded ≡ received (times clock) 1 xs))

-- No packet that arrives is damaged (8.3.1, 8.3.5, 8.4).
abbrev pub NoPacketIsDamaged : Type 0
NoPacketIsDamaged =
    (f : DescriptorFile) (fates : List Fate) (new : Pair) (earlier : List Pair) (n : ℕ) (last : Pair) (clock : ℕ → Moment)
    (recorded : List RecordedPacket) → IsRun f fates new earlier n last →
    AreOfFrames 1 (frames clock 1 (packets_in (exchanges f fates earlier n))) recorded → AllByRecursion (λ r. damage_in r.packet ≡ None) recorded

-- After each SETUP come eight bytes of DATA0 (8.5.3), and the device answers neither NAK nor STALL (8.4.6.4).
abbrev pub SetupsAreTaken : Type 0
SetupsAreTaken =
    (f : DescriptorFile) (fates : List Fate) (new : Pair) (earlier : List Pair) (n : ℕ) (last : Pair) (times : ℕ → Option ℕ) →
    IsRun f fates new earlier n last →
    (let transactions = received times 1 (exchanges f fates earlier n) in
    IsFreeAfter NoRequest [] transactions × IsFreeAfter SetupRefused [] transactions)

-- No data toggle is wrong (8.5.3, 8.6), of a host that enumerates a new device: a packet that comes again, since its ACK was lost, has
-- the toggle that it had (8.6.4).
abbrev pub NoToggleIsWrong : Type 0
NoToggleIsWrong =
    (f : DescriptorFile) (fates : List Fate) (limits : LimitView) (speed : Speed) (choice : Choice) (earlier : List Pair) (n : ℕ) (last : Pair)
    (times : ℕ → Option ℕ) → IsRun f fates (chosen_pair limits speed choice) earlier n last →
    IsFreeAfter Toggle [] (received times 1 (exchanges f fates earlier n))

-- No packet of data is longer than bMaxPacketSize0 of the device (5.5.3, 9.6.1): none is found to be, where that or nothing is known of
-- the packet size at its address.
abbrev pub NoPacketIsLong : Type 0
NoPacketIsLong =
    (f : DescriptorFile) (fates : List Fate) (new : Pair) (earlier : List Pair) (n : ℕ) (last : Pair) (times : ℕ → Option ℕ) →
    IsRun f fates new earlier n last →
    AllByRecursion
    (λ t. (sizes : List ℕ) → (size_at t.to.address sizes ≡ 0) ⊎ (size_at t.to.address sizes ≡ f.device.packet) → is_long sizes t ≡ false)
    (received times 1 (exchanges f fates earlier n))

-- None is found to be too long in an enumeration of a new device, whatever was read of its packet size: the device says no other one.
abbrev pub NoLongPacketIsFound : Type 0
NoLongPacketIsFound =
    (f : DescriptorFile) (fates : List Fate) (limits : LimitView) (speed : Speed) (choice : Choice) (earlier : List Pair) (n : ℕ) (last : Pair)
    (times : ℕ → Option ℕ) → IsRun f fates (chosen_pair limits speed choice) earlier n last →
    IsFreeAfter Long [] (received times 1 (exchanges f fates earlier n))

-- No status stage comes before its data stage is complete (5.5.3, 8.5.3.2): all bytes came, or a packet that is shorter than a whole one.
abbrev pub NoShortPacketLacks : Type 0
NoShortPacketLacks =
    (f : DescriptorFile) (fates : List Fate) (limits : LimitView) (speed : Speed) (choice : Choice) (earlier : List Pair) (n : ℕ) (last : Pair)
    (times : ℕ → Option ℕ) → IsRun f fates (chosen_pair limits speed choice) earlier n last →
    IsFreeAfter NoShortPacket [] (received times 1 (exchanges f fates earlier n))

-- No status stage goes the way of the data stage (8.5.3): after all bytes, or a packet that is shorter than a whole one (5.5.3), no packet
-- is one more of the data stage.
abbrev pub NoStatusGoesWrong : Type 0
NoStatusGoesWrong =
    (f : DescriptorFile) (fates : List Fate) (limits : LimitView) (speed : Speed) (choice : Choice) (earlier : List Pair) (n : ℕ) (last : Pair)
    (times : ℕ → Option ℕ) → IsRun f fates (chosen_pair limits speed choice) earlier n last →
    IsFreeAfter StatusDirection [] (received times 1 (exchanges f fates earlier n))

-- Of the control transfers of an enumeration none has more bytes than wLength (9.3.5), and none is a GET_STATUS that a device refuses (9.4.5).
abbrev pub NoTransferHasMore : Type 0
NoTransferHasMore =
    (f : DescriptorFile) (fates : List Fate) (limits : LimitView) (speed : Speed) (choice : Choice) (earlier : List Pair) (n : ℕ) (last : Pair)
    (times : ℕ → Option ℕ) → IsRun f fates (chosen_pair limits speed choice) earlier n last →
    (let transfers = transfers_in (received times 1 (exchanges f fates earlier n)) in
    IsTransferFreeAfter MoreThanAsked [] transfers × IsTransferFreeAfter RefusesStatus [] transfers)

-- What a device says of a descriptor is what it said of it before (9.4.3), as far as both have bytes.
abbrev pub NoDescriptorChanges : Type 0
NoDescriptorChanges =
    (f : DescriptorFile) (fates : List Fate) (limits : LimitView) (speed : Speed) (choice : Choice) (earlier : List Pair) (n : ℕ) (last : Pair)
    (times : ℕ → Option ℕ) → IsRun f fates (chosen_pair limits speed choice) earlier n last →
    IsTransferFreeAfter OtherBytes [] (transfers_in (received times 1 (exchanges f fates earlier n)))

-- A descriptor that comes has the type that was asked for (9.4.3), of a device with accepted descriptors.
abbrev pub DescriptorsHaveTypes : Type 0
DescriptorsHaveTypes =
    (f : DescriptorFile) (fates : List Fate) (limits : LimitView) (speed : Speed) (choice : Choice) (earlier : List Pair) (n : ℕ) (last : Pair)
    (times : ℕ → Option ℕ) → Accepted f speed → IsRun f fates (chosen_pair limits speed choice) earlier n last →
    IsTransferFreeAfter OtherType [] (transfers_in (received times 1 (exchanges f fates earlier n)))

-- Of a descriptor come as many bytes as it says that it has, or wLength of them, if these are fewer (9.3.5, 9.4.3).
abbrev pub DescriptorsHaveLengths : Type 0
DescriptorsHaveLengths =
    (f : DescriptorFile) (fates : List Fate) (limits : LimitView) (speed : Speed) (choice : Choice) (earlier : List Pair) (n : ℕ) (last : Pair)
    (times : ℕ → Option ℕ) → Accepted f speed → IsRun f fates (chosen_pair limits speed choice) earlier n last →
    IsTransferFreeAfter OtherLength [] (transfers_in (received times 1 (exchanges f fates earlier n)))

-- No descriptor is refused of which the device said something before (9.4.3),
abbrev pub NoGivenDescriptorIsRefused : Type 0
NoGivenDescriptorIsRefused =
    (f : DescriptorFile) (fates : List Fate) (limits : LimitView) (speed : Speed) (choice : Choice) (earlier : List Pair) (n : ℕ) (last : Pair)
    (times : ℕ → Option ℕ) → Accepted f speed → IsRun f fates (chosen_pair limits speed choice) earlier n last →
    IsTransferFreeAfter RefusesGiven [] (transfers_in (received times 1 (exchanges f fates earlier n)))

-- nor the device descriptor or configuration 0, which all devices have (9.4.3),
abbrev pub NoRequiredDescriptorIsRefused : Type 0
NoRequiredDescriptorIsRefused =
    (f : DescriptorFile) (fates : List Fate) (limits : LimitView) (speed : Speed) (choice : Choice) (earlier : List Pair) (n : ℕ) (last : Pair)
    (times : ℕ → Option ℕ) → Accepted f speed → IsRun f fates (chosen_pair limits speed choice) earlier n last →
    IsTransferFreeAfter RefusesRequired [] (transfers_in (received times 1 (exchanges f fates earlier n)))

-- nor a configuration that the device descriptor counts (9.6.1), or at the other speed the qualifier (9.6.2),
abbrev pub NoCountedDescriptorIsRefused : Type 0
NoCountedDescriptorIsRefused =
    (f : DescriptorFile) (fates : List Fate) (limits : LimitView) (speed : Speed) (choice : Choice) (earlier : List Pair) (n : ℕ) (last : Pair)
    (times : ℕ → Option ℕ) → Accepted f speed → IsRun f fates (chosen_pair limits speed choice) earlier n last →
    IsTransferFreeAfter RefusesCounted [] (transfers_in (received times 1 (exchanges f fates earlier n)))

-- nor the language list of a device that named a string, or a string that it named, in a language of the list (9.6.7).
abbrev pub NoNamedStringIsRefused : Type 0
NoNamedStringIsRefused =
    (f : DescriptorFile) (fates : List Fate) (limits : LimitView) (speed : Speed) (choice : Choice) (earlier : List Pair) (n : ℕ) (last : Pair)
    (times : ℕ → Option ℕ) → Accepted f speed → IsRun f fates (chosen_pair limits speed choice) earlier n last →
    IsTransferFreeAfter RefusesNamed [] (transfers_in (received times 1 (exchanges f fates earlier n)))

-- Each control transfer ends as it does with a device of these descriptors: a STALL is its refusal, and what reads a descriptor has as many
-- bytes of it as were asked for, or all (9.2.7, 9.4.3).
abbrev pub TransfersEndRight : Type 0
TransfersEndRight =
    (f : DescriptorFile) (fates : List Fate) (limits : LimitView) (speed : Speed) (choice : Choice) (earlier : List Pair) (n : ℕ) (last : Pair)
    (times : ℕ → Option ℕ) → Accepted f speed → IsRun f fates (chosen_pair limits speed choice) earlier n last →
    AllByRecursion (IsEnded f) (transfers_in (received times 1 (exchanges f fates earlier n)))

-- A handshake lacks in a transaction whose token arrives only where it was lost, or where the device has another address (8.5).
abbrev pub HandshakesAreLost : Type 0
HandshakesAreLost =
    (f : DescriptorFile) (fates : List Fate) (new : Pair) (earlier : List Pair) (n : ℕ) (last : Pair) → IsRun f fates new earlier n last →
    AllByRecursion
    (λ x. (number : ℕ) (time : Option ℕ) (before : List Transaction) → is_lost_down x.fate ≡ false →
    is_found NoHandshake before (transaction_of number time x) ≡ true → LosesHandshake x)
    (exchanges f fates earlier n)

-- A device with accepted descriptors, whatever requests it has carried out since a bus reset, gives no answer in which any of these is
-- found. It gives descriptors as they were asked for and as it gave them before (9.3.5, 9.4.3), and no configuration that it doesn't
-- count (9.6.1). It tells its status (9.4.5), takes an address (9.4.6) and each configuration that it has and no other one (9.4.7), and
-- tells which it has taken (9.4.2).
abbrev pub NoDeviceAnswersSo : Type 0
NoDeviceAnswersSo =
    (f : DescriptorFile) (speed : Speed) (requests : List AskedView) (known : Asked → List ℕ) (t : ControlTransfer) → Accepted f speed →
    AreBytes (file_bytes f) → IsAnswered f (state_after (answer f) zero requests) known t →
    AllByRecursion (λ finding. holds finding known t ≡ false) never_found

-- So it is in each of any transfers that show such answers, by what they themselves say of the descriptors.
abbrev pub NoConversationContradicts : Type 0
NoConversationContradicts =
    (f : DescriptorFile) (speed : Speed) (transfers : List ControlTransfer) → Accepted f speed → AreBytes (file_bytes f) →
    AllByRecursion (IsOfDevice f) transfers → AllByRecursion (λ finding. IsTransferFreeAfter finding [] transfers) never_found

-- In a whole conversation on a bus that loses nothing no answer differs from that of a device with the descriptors that were said, in the
-- state to which the transfers before have led.
abbrev pub NoConversationAnswersOtherwise : Type 0
NoConversationAnswersOtherwise =
    (f : DescriptorFile) (speed : Speed) (bus : ℕ) (transfers : List ControlTransfer) → Accepted f speed → AreBytes (file_bytes f) →
    IsConversation f bus zero transfers → AllByRecursion (λ finding. IsTransferFreeAfter finding [] transfers) found_otherwise

-- Each control transfer of a recorded enumeration shows the device's answer to its request, in a state to which some requests since a
-- bus reset lead, unless its end wasn't seen.
abbrev pub TransfersShowAnswers : Type 0
TransfersShowAnswers =
    (f : DescriptorFile) (fates : List Fate) (limits : LimitView) (speed : Speed) (choice : Choice) (earlier : List Pair) (n : ℕ) (last : Pair)
    (times : ℕ → Option ℕ) → Accepted f speed → IsRun f fates (chosen_pair limits speed choice) earlier n last →
    AllByRecursion (λ t. (t.ending ≡ Unseen) ⊎ IsOfDevice f t) (transfers_in (received times 1 (exchanges f fates earlier n)))

-- So no answer in a recorded enumeration contradicts the device's descriptors: what is found in no answer of a device is found in none.
abbrev pub NoAnswerContradicts : Type 0
NoAnswerContradicts =
    (f : DescriptorFile) (fates : List Fate) (limits : LimitView) (speed : Speed) (choice : Choice) (earlier : List Pair) (n : ℕ) (last : Pair)
    (times : ℕ → Option ℕ) → Accepted f speed → AreBytes (file_bytes f) → IsRun f fates (chosen_pair limits speed choice) earlier n last →
    AllByRecursion (λ finding. IsTransferFreeAfter finding [] (transfers_in (received times 1 (exchanges f fates earlier n)))) never_found

-- Nor is one of the findings that compare an answer with that of a device with the descriptors that were said: a host that enumerates
-- asks for descriptors, an address and a configuration alone.
abbrev pub NoEnumerationAnswersOtherwise : Type 0
NoEnumerationAnswersOtherwise =
    (f : DescriptorFile) (fates : List Fate) (limits : LimitView) (speed : Speed) (choice : Choice) (earlier : List Pair) (n : ℕ) (last : Pair)
    (times : ℕ → Option ℕ) → IsRun f fates (chosen_pair limits speed choice) earlier n last →
    AllByRecursion (λ finding. IsTransferFreeAfter finding [] (transfers_in (received times 1 (exchanges f fates earlier n)))) found_otherwise

-- A file that is made of what is kept of a device is that of its description, and so is a dump, of a device with accepted
-- descriptors, whose numbers are within their widths.
abbrev pub FilesAreDescriptions : Type 0
FilesAreDescriptions =
    (f : DescriptorFile) (fates : List Fate) (limits : LimitView) (speed : Speed) (choice : Choice) (earlier : List Pair) (n : ℕ) (last : Pair)
    (times : ℕ → Option ℕ) (device : Asked) (made : DeviceFile) → Accepted f speed → AreBytes (file_bytes f) →
    IsRun f fates (chosen_pair limits speed choice) earlier n last →
    (let kept = current_after [] (transfers_in (received times 1 (exchanges f fates earlier n))) in
    IsMade kept device made → IsOfDescription f kept device made)

-- And where an enumeration that asks for all has succeeded, all parts are kept of the device at the address that it was given: the file
-- that is made of them is its description's own.
abbrev pub SuccessesGiveFiles : Type 0
SuccessesGiveFiles =
    (f : DescriptorFile) (fates : List Fate) (limits : LimitView) (speed : Speed) (earlier : List Pair) (n : ℕ) (last : Pair) (times : ℕ → Option ℕ)
    (g : DescriptorFile) → Accepted f speed → AreBytes (file_bytes f) → IsInRange limits.address limits.attempts →
    IsRun f fates (new_pair limits speed) earlier n last → outcome_of last.host.phase ≡ Some (Ok g) →
    GivesFile (current_after [] (transfers_in (received times 1 (exchanges f fates earlier n)))) (at_address limits.address) (file_bytes f)

-- Where it has asked for less, and passes over no string, there is at least the dump.
abbrev pub SuccessesGiveDumps : Type 0
SuccessesGiveDumps =
    (f : DescriptorFile) (fates : List Fate) (limits : LimitView) (speed : Speed) (choice : Choice) (earlier : List Pair) (n : ℕ) (last : Pair)
    (times : ℕ → Option ℕ) (g : DescriptorFile) → Accepted f speed → AreBytes (file_bytes f) → IsInRange limits.address limits.attempts →
    forgives_any choice.strings ≡ false → IsRun f fates (chosen_pair limits speed choice) earlier n last → outcome_of last.host.phase ≡ Some (Ok g) →
    GivesDump (current_after [] (transfers_in (received times 1 (exchanges f fates earlier n)))) (at_address limits.address)
    (device_bytes f.device ++ sets_bytes f.sets)
