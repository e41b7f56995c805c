-- The laws of two ends over a bus, under every list of fates: how both ends stand together, and what comes of an enumeration.
use Rattle.std.specs.Prelude.{◌≡◌, ℕ, ◌<◌, Bool, List, [], ◌∷◌, ◌≤◌, map, IfOk}
use Rattle.usb_fields.specs.declared.setup.Setup.{Setup as SetupPacket, Setup}
use Rattle.usb_fields.specs.Packets.{Sent}
use Rattle.usb_file_data.specs.declared.file.DescriptorFile.{DescriptorFile}
use Rattle.usb_host.specs.declared.reply.Reply.{Reply}
use Rattle.usb_host.specs.Plan.{Plan}
use Rattle.usb_device.specs.declared.state.State.{State}
use Rattle.usb_device.specs.Requests.{Outcome, Bytes, Takes, answer}
use Rattle.usb_device.specs.Step.{DeviceView, new_device, served, acked}
use Rattle.usb_device.specs.Beside.{Response, beside, Gives}
use Rattle.usb_bus.specs.declared.fate.Fate.{Fate}
use Rattle.usb_bus.specs.declared.conversation.Talk.{Talk}
use Rattle.usb_bus.specs.Bus.{losses, busies, acks_lost, run_of}
use Rattle.usb_bus.specs.Beside.{IsAnswering, IsTable, CutsAlike, SizesAlike, served_with, Moment, fates_of, IsAmong, run_moments, IsBeside}
use Rattle.usb_bus.specs.Attempt.{Answers, begins, attempt_run, is_moved_last, proceed, TransferEnds, AttemptEnds}
use Rattle.usb_bus.specs.Together.{InOneTransfer, StaysTogether}
use Rattle.usb_bus.specs.Series.{StandsAfter, fresh, series_run}
use Rattle.usb_bus.specs.Converse.{AskedView, ends_with_address, talk_data, talk_plan, replies_to, state_after, IsTalkRun, first_place, talk_start}
use Rattle.usb_fields.specs.Bytes.{AreBytes}
use Rattle.usb_fields.specs.declared.packet.Speed.{Speed}
use Rattle.usb_file_data.specs.File.{file_bytes}
use Rattle.usb_host.specs.Limits.{LimitView, IsInRange}
use Rattle.usb_host.specs.declared.choice.Choice.{Choice}
use Rattle.usb_device.specs.Accepted.{Accepted}
use Rattle.usb_bus.specs.Run.{fates_used}
use Rattle.usb_bus.specs.UnderTest.{IsTest, Tested, bus_fate, known_fates}
use Rattle.usb_bus.specs.declared.enumeration.Run.{Run}
use Rattle.usb_bus.specs.Asked.{asked_of}
use Rattle.usb_bus.specs.Enumerate.{EndsWell, IsEnumeration, IsEnumerationAt, IsRunFrom, chosen_pair}

-- The laws of two ends over a bus, under every list of fates: how both ends stand together, and what comes of transfers that
-- have ended.

-- One transfer, begun at the device's address, of a device that cuts the packets that the host expects, and awaits those that it
-- cuts, with any data to the device: whatever is lost, both ends stay in it.
abbrev pub TransfersStayTogether : Type 0
TransfersStayTogether =
    (answer : State → SetupPacket → Outcome) (cut naks size : ℕ) (q : SetupPacket) (d : DeviceView) (data_out : List ℕ) (fates : List Fate) →
    IsAnswering answer d.state q →
    ((bytes : List ℕ) → answer d.state q ≡ Bytes bytes → CutsAlike cut size q.length bytes) →
    ((judge : List ℕ → Bool) → answer d.state q ≡ Takes judge → SizesAlike cut size) →
    (let e = run_of answer cut data_out fates (record { host = begins d.state.address size naks q; device = d }) in
    InOneTransfer answer cut d.state q size naks data_out (losses fates) (busies fates) (acks_lost fates) e.host e.device)

-- An attempt: both ends are together in each transfer of a plan that a device answers, or the ACK of a SET_ADDRESS's status
-- stage was lost, and every later transaction is silent.
abbrev pub AttemptsStayTogether : Type 0
AttemptsStayTogether =
    (plan : List Reply → Plan) (naks : ℕ) (sends : List Reply → List ℕ) (answer : State → SetupPacket → Outcome) (cut : ℕ) (all : List Reply) (last : State)
    (d : DeviceView) (fates : List Fate) → Answers plan naks sends answer cut last [] d.state all →
    StaysTogether plan naks sends answer cut fates (attempt_run plan naks sends answer cut fates (proceed plan naks [] d))

-- All attempts: each reset brings both ends together again, and each failed attempt has its cost.
abbrev pub ResetsBringTogether : Type 0
ResetsBringTogether =
    (plan : List Reply → Plan) (naks limit : ℕ) (sends : List Reply → List ℕ) (answer : State → SetupPacket → Outcome) (cut : ℕ) (all : List Reply) (last : State)
    (fates : List Fate) → Answers plan naks sends answer cut last [] new_device.state all →
    StandsAfter plan naks limit sends answer cut fates (series_run plan naks limit sends answer cut fates (fresh plan naks limit 1))

-- What comes of such a transfer.
abbrev pub TransfersHaveCauses : Type 0
TransfersHaveCauses =
    (answer : State → SetupPacket → Outcome) (cut naks size : ℕ) (q : SetupPacket) (d : DeviceView) (data_out : List ℕ) (fates : List Fate) →
    IsAnswering answer d.state q →
    ((bytes : List ℕ) → answer d.state q ≡ Bytes bytes → CutsAlike cut size q.length bytes) →
    ((judge : List ℕ → Bool) → answer d.state q ≡ Takes judge → SizesAlike cut size) →
    (let e = run_of answer cut data_out fates (record { host = begins d.state.address size naks q; device = d }) in
    TransferEnds answer d.state q naks data_out (losses fates) (busies fates) (acks_lost fates) e.host.transfer.stage e.host.got e.device.state)

-- What comes of an attempt: transfers by a plan that a device answers, with no bus reset between them.
abbrev pub AttemptsHaveCauses : Type 0
AttemptsHaveCauses =
    (plan : List Reply → Plan) (naks : ℕ) (sends : List Reply → List ℕ) (answer : State → SetupPacket → Outcome) (cut : ℕ) (all : List Reply) (last : State)
    (d : DeviceView) (fates : List Fate) → Answers plan naks sends answer cut last [] d.state all →
    (let x = attempt_run plan naks sends answer cut fates (proceed plan naks [] d) in AttemptEnds naks fates (is_moved_last plan [] all) all last x.replies x.phase x.device.state)

-- A talk with any device that keeps its table, with packets of any size above 0. Its replies and its last state are those
-- that the table gives to the requests in turn, with their data.
abbrev pub TalksHaveCauses : Type 0
TalksHaveCauses =
    (answer : State → SetupPacket → Outcome) (packet naks : ℕ) (qs : List AskedView) (fates : List Fate) → 0 < packet → IsTable answer →
    (let s = new_device.state in
    let x = attempt_run (talk_plan packet (first_place qs)) naks (talk_data (first_place qs)) answer packet fates (talk_start packet naks qs) in
    AttemptEnds naks fates (ends_with_address qs) (replies_to answer s qs) (state_after answer s qs) x.replies x.phase x.device.state)

-- The same requests under the same fates have one talk: its replies, its end, its state, and how many transactions
-- there were.
abbrev pub TalksAreDetermined : Type 0
TalksAreDetermined =
    (f : DescriptorFile) (naks : ℕ) (requests : List AskedView) (fates : List Fate) (a b : Talk) →
    IsTalkRun f naks requests fates a → IsTalkRun f naks requests fates b → a ≡ b

-- A device and its responder are one device, of the table with the responder beside it: step by step, so that the responder
-- may be another one at each.
pub record IsOneDevice (room : ℕ) (table : State → SetupPacket → Outcome) (respond : State → SetupPacket → Response) (packet : ℕ) : Type 0 where
  pub serves : (d : DeviceView) (sent : Sent) (ready : Bool) →
      served_with room respond table packet d sent ready ≡ served (beside room table respond) packet d sent ready
  pub acks : (d : DeviceView) → acked table packet d ≡ acked (beside room table respond) packet d

-- So it is for every responder and every table.
abbrev pub RespondersAreOneDevice : Type 0
RespondersAreOneDevice =
    (room : ℕ) (table : State → SetupPacket → Outcome) (respond : State → SetupPacket → Response) (packet : ℕ) → IsOneDevice room table respond packet

-- Whatever a responder answers, the table with it is one that these laws are about.
abbrev pub RespondersKeepTables : Type 0
RespondersKeepTables =
    (room : ℕ) (table : State → SetupPacket → Outcome) (respond : State → SetupPacket → Response) → IsTable table → IsTable (beside room table respond)

-- Whatever a responder answers at each moment, a transfer ends as one with the responder of a single moment, under the same
-- losses: its bytes are never pieces of two answers, and all its data are judged by one.
abbrev pub TransfersReadOneAnswer : Type 0
TransfersReadOneAnswer =
    (room : ℕ) (table : State → SetupPacket → Outcome) (packet naks : ℕ) (q : SetupPacket) (d : DeviceView) (data_out : List ℕ)
    (first : Moment) (more : List Moment) → 0 < packet → IsTable table →
    (let fates = fates_of (first ∷ more) in
    let e = run_moments room table packet data_out (first ∷ more) (record { host = begins d.state.address packet naks q; device = d }) in
    (respond : State → SetupPacket → Response) × IsAmong respond (first ∷ more)
    × TransferEnds (beside room table respond) d.state q naks data_out (losses fates) (busies fates) (acks_lost fates) e.host.transfer.stage e.host.got e.device.state)

-- What holds of an enumeration over a bus.

-- Whatever a bus does to a host and a device with accepted descriptors, an enumeration ends well.
abbrev pub EnumerationsEndWell : Type 0
EnumerationsEndWell =
    (f : DescriptorFile) (speed : Speed) (limits : LimitView) (fates : List Fate) (run : Run) → Accepted f speed → AreBytes (file_bytes f) →
    IsInRange limits.address limits.attempts → IsEnumeration f speed limits fates run → EndsWell f limits fates run

-- The same of a device whose owner answers beside its table: no owner changes what an enumeration reads, or how it ends.
abbrev pub OwnersChangeNothing : Type 0
OwnersChangeNothing =
    (f : DescriptorFile) (table : State → Setup → Outcome) (speed : Speed) (limits : LimitView) (fates : List Fate) (run : Run) →
    IsBeside (answer f) table → Accepted f speed → AreBytes (file_bytes f) → IsInRange limits.address limits.attempts →
    IsEnumerationAt table f.device.packet speed limits fates run → EndsWell f limits fates run

-- Whatever the host asks for: a success has read what was asked for of the descriptors, and the host has passed over nothing.

abbrev pub AnyChoiceEndsWell : Type 0
AnyChoiceEndsWell =
    (f : DescriptorFile) (speed : Speed) (limits : LimitView) (choice : Choice) (fates : List Fate) (run : Run) →
    Accepted f speed → AreBytes (file_bytes f) → IsInRange limits.address limits.attempts →
    (is : IsRunFrom (chosen_pair limits speed choice) (answer f) f.device.packet fates run) →
    EndsWell (asked_of choice f) limits fates run × IfOk run.outcome (λ g. is.1.host.forgiven ≡ [])

abbrev pub OwnersChangeNoChoice : Type 0
OwnersChangeNoChoice =
    (f : DescriptorFile) (table : State → Setup → Outcome) (speed : Speed) (limits : LimitView) (choice : Choice) (fates : List Fate) (run : Run) →
    IsBeside (answer f) table → Accepted f speed → AreBytes (file_bytes f) → IsInRange limits.address limits.attempts →
    (is : IsRunFrom (chosen_pair limits speed choice) table f.device.packet fates run) →
    EndsWell (asked_of choice f) limits fates run × IfOk run.outcome (λ g. is.1.host.forgiven ≡ [])

-- Whatever bytes a responder gives, the device's table with it is such a table.
abbrev pub RespondersAreBeside : Type 0
RespondersAreBeside =
    (f : DescriptorFile) (room : ℕ) (respond : State → Setup → Response) →
    ((s : State) (q : Setup) (bytes : List ℕ) → respond s q ≡ Gives bytes → AreBytes bytes) →
    IsBeside (answer f) (beside room (answer f) respond)

-- Of the fates of a list, those that were used lose no more, and are no more often busy.
abbrev pub UsesFates : Type 0
UsesFates = (fates : List Fate) (n : ℕ) → (losses (fates_used fates n) ≤ losses fates) × (busies (fates_used fates n) ≤ busies fates)

-- An enumeration of a device under test, where each of its answers is allowed, is one of a device with the descriptors, under
-- fates of which the bus has lost no fewer: so it ends well, and a success has read just the descriptors.
pub record EndsAsKnown (f : DescriptorFile) (speed : Speed) (limits : LimitView) (tested : List Tested) (run : Run) : Type 0 where
  pub known : IsEnumeration f speed limits (known_fates tested) run
  pub ends : EndsWell f limits (known_fates tested) run
  pub losses_are : losses (known_fates tested) ≤ losses (map bus_fate tested)

abbrev pub TestsEndAsKnown : Type 0
TestsEndAsKnown =
    (f : DescriptorFile) (speed : Speed) (limits : LimitView) (tested : List Tested) (run : Run) → Accepted f speed → AreBytes (file_bytes f) →
    IsInRange limits.address limits.attempts → IsTest f speed limits tested run → EndsAsKnown f speed limits tested run
