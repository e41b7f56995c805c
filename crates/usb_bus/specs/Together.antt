-- Both ends of a control pipe, seen together: in one transfer that was begun at the device's address, and in an attempt, whatever
-- was lost on the way (USB 2.0, 8.5.3 and 8.6).
use Rattle.std.specs.Prelude.{◌≡◌, ◌≢◌, ℕ, suc, ◌+◌, ◌-◌, ◌*◌, ◌<◌, ◌≤◌, min, Bool, true, false, if◌then◌else◌, ◌⊎◌, List, [], ◌∷◌, ◌++◌, length, take, Some}
use Rattle.usb_fields.specs.declared.packet.Toggle.{Toggle}
use Rattle.usb_fields.specs.declared.packet.Toggle.TheVariants.{Data1}
use Rattle.usb_fields.specs.declared.setup.Setup.{Setup as SetupPacket}
use Rattle.usb_fields.specs.Packets.{Sent, NoReply, packets, joined, toggle_of}
use Rattle.usb_host.specs.declared.transfer.TransferStage.{TransferStage}
use Rattle.usb_host.specs.declared.transfer.TransferStage.TheVariants.{Setup, DataIn, DataOut, StatusOut, StatusIn, Completed, Failed}
use Rattle.usb_host.specs.declared.reply.Reply.{Reply}
use Rattle.usb_host.specs.declared.reply.Reply.TheVariants as replied
use Rattle.usb_host.specs.Plan.{Plan, Begin}
use Rattle.usb_device.specs.declared.state.State.{State}
use Rattle.usb_device.specs.Requests.{Outcome, Bytes, Done, Refused, Takes}
use Rattle.usb_device.specs.Step.{DeviceView, DeviceStage, is_set_address}
use Rattle.usb_device.specs.Step as device
use Rattle.usb_device.specs.Beside.{brings_bytes}
use Rattle.usb_bus.specs.declared.fate.Fate.{Fate}
use Rattle.usb_bus.specs.Bus.{losses, busies, acks_lost, has_data, HostEnd, carried}
use Rattle.usb_bus.specs.Attempt.{Attempt, Running, attempt_run, IsAccepted, IsDeclined, TransferEnds}
use Rattle.usb_bus.specs.Run.{due_in}

-- the host is not in a data stage to the device, and counts the bytes that it has
abbrev pub HasCounted : HostEnd → Type 0
HasCounted h = (h.transfer.stage ≢ DataOut) × (h.transfer.kept ≡ length h.got)

-- The device's table and packet size, its state when the transfer began, the request, the host's packet size and limit of
-- NAKs, and the data to the device.
module _ (answer : State → SetupPacket → Outcome) (cut : ℕ) (s : State) (q : SetupPacket) (size naks : ℕ) (data_out : List ℕ) where
  -- In the data stage the host has kept the first `kept` packets of the answer, and awaits the next one. The device counts
  -- as many as acknowledged, or one fewer, where the ACK was lost. Each strike has a loss of its own, and so has that ACK: the
  -- packet comes again, which is a strike too.
  pub record IsReading (lost : ℕ) (asked : SetupPacket) (bytes : List ℕ) (acknowledged : ℕ) (awaited : Toggle) (got : List ℕ) (count strikes : ℕ) (d : State) : Type 0 where
    pub same_state : d ≡ s
    pub answered : answer s q ≡ Bytes bytes
    pub asked_is : asked ≡ q
    pub count_is : count ≡ length got
    pub kept : ℕ
    pub counted : (kept ≡ acknowledged) ⊎ (kept ≡ suc acknowledged)
    pub brought : got ≡ joined (take kept (packets bytes cut q.length))
    pub awaits : awaited ≡ toggle_of kept
    pub more : kept < length (packets bytes cut q.length)
    pub owed : strikes + (kept - acknowledged) ≤ lost

  -- In the data stage of a write the device has the first `kept` packets of the data, which are whole, and more are to come.
  -- The host counts as many as acknowledged, or one fewer, where the ACK was lost, which was a strike: that packet goes again.
  pub record IsWriting (lost : ℕ) (asked : SetupPacket) (came : List ℕ) (next : Toggle) (count strikes : ℕ) (d : State) : Type 0 where
    pub same_state : d ≡ s
    pub asked_is : asked ≡ q
    pub judge : List ℕ → Bool
    pub answered : answer s q ≡ Takes judge
    pub acknowledged : ℕ
    pub count_is : count ≡ acknowledged * size
    pub next_is : next ≡ toggle_of acknowledged
    pub kept : ℕ
    pub counted : (kept ≡ acknowledged) ⊎ ((kept ≡ suc acknowledged) × (0 < strikes))
    pub came_is : came ≡ take (kept * size) data_out
    pub whole : length came ≡ kept * size
    pub more : kept * size < q.length
    pub owed : strikes ≤ lost

  -- all data of a write have come, and its owner has accepted them
  pub record HasAccepted (lost : ℕ) (asked : SetupPacket) (strikes : ℕ) (d : State) : Type 0 where
    pub same_state : d ≡ s
    pub asked_is : asked ≡ q
    pub accepted : IsAccepted (answer s q) q data_out
    pub owed : strikes ≤ lost

  -- after the data stage the host has the whole answer
  pub record HasAll (lost : ℕ) (got : List ℕ) (strikes : ℕ) (d : State) : Type 0 where
    pub same_state : d ≡ s
    pub answered : answer s q ≡ Bytes got
    pub owed : strikes ≤ lost

  -- a request that the device refuses, or whose data it does, which the host does not know yet
  pub record IsRefused (lost strikes : ℕ) (d : State) : Type 0 where
    pub same_state : d ≡ s
    pub answered : (answer s q ≡ Refused) ⊎ IsDeclined (answer s q) q data_out
    pub owed : strikes ≤ lost

  -- The status stage of a request with no data. Once it was carried out, the host is one handshake behind: the device is in
  -- the next state, but for SET_ADDRESS, which waits for the ACK.
  pub record IsDone (lost : ℕ) (asked : SetupPacket) (carried_out : Bool) (strikes : ℕ) (d : State) : Type 0 where
    pub asked_is : asked ≡ q
    pub next : State
    pub answered : answer s q ≡ Done next
    pub state : d ≡ (if carried_out then (if is_set_address q then s else next) else s)
    pub owed : strikes ≤ lost

  -- the next data packet is the last one, after `count` bytes
  abbrev pub IsLastPacket : ℕ → Type 0
  IsLastPacket count = count + min size (q.length - count) ≡ q.length

  -- The stages in which both ends may be, after l losses, b Busy and a lost ACKs, and what then holds of the host's awaited
  -- toggle, bytes, count of bytes and strikes and of the device's state.
  abbrev pub Stages : ℕ → ℕ → ℕ → TransferStage → DeviceStage → Toggle → List ℕ → ℕ → ℕ → State → Type 0
  -- the host waits for the ACK of its SETUP, wherever the device is
  Stages l b a Setup stage awaited got count strikes d = (d ≡ s) × (got ≡ []) × (count ≡ 0) × (awaited ≡ Data1) × (strikes ≤ l)
  Stages l b a DataIn (device.Halted refused) awaited got count strikes d = IsRefused l strikes d
  Stages l b a DataIn (device.Sending asked bytes acknowledged) awaited got count strikes d =
      IsReading l asked bytes acknowledged awaited got count strikes d
  Stages l b a DataIn _ awaited got count strikes d = ⊥
  Stages l b a DataOut (device.Halted refused) awaited got count strikes d = IsRefused l strikes d
  Stages l b a DataOut (device.Receiving asked came) awaited got count strikes d = IsWriting l asked came awaited count strikes d
  -- the host is one handshake behind: the ACK of the last packet was lost
  Stages l b a DataOut (device.StatusIn asked carried_out) awaited got count strikes d = HasAccepted l asked strikes d × IsLastPacket count
  -- all data have come, and an owner who would have judged them says nothing any more
  Stages l b a DataOut (device.Written asked came) awaited got count strikes d = IsRefused l strikes d × (has_data data_out ≡ true)
  Stages l b a DataOut _ awaited got count strikes d = ⊥
  -- the device is one handshake behind: it counts all packets but the last one as acknowledged
  Stages l b a StatusOut (device.Sending asked bytes acknowledged) awaited got count strikes d =
      HasAll l got strikes d × (length (packets bytes cut asked.length) ≡ suc acknowledged)
  Stages l b a StatusOut (device.StatusOut asked) awaited got count strikes d = HasAll l got strikes d
  -- the host is one handshake behind: the device has acknowledged the status
  Stages l b a StatusOut device.Over awaited got count strikes d = HasAll l got strikes d
  Stages l b a StatusOut _ awaited got count strikes d = ⊥
  Stages l b a StatusIn (device.Halted refused) awaited got count strikes d = IsRefused l strikes d
  Stages l b a StatusIn (device.StatusIn asked carried_out) awaited got count strikes d =
      IsDone l asked carried_out strikes d ⊎ HasAccepted l asked strikes d
  Stages l b a StatusIn (device.Written asked came) awaited got count strikes d = IsRefused l strikes d
  Stages l b a StatusIn _ awaited got count strikes d = ⊥
  -- the host's transfer has ended; the device may be one handshake behind
  Stages l b a Completed stage awaited got count strikes d = TransferEnds answer s q naks data_out l b a Completed got d
  Stages l b a (Failed why) stage awaited got count strikes d = TransferEnds answer s q naks data_out l b a (Failed why) got d

  -- both ends, after l losses, b Busy and a lost ACKs, are in these stages of one transfer
  pub record AreInStages (l b a : ℕ) (h : HostEnd) (d : DeviceView) : Type 0 where
    pub address : h.transfer.address ≡ s.address
    pub request : h.transfer.request ≡ q
    pub packet : h.transfer.packet ≡ size
    pub naks_are : h.transfer.naks ≡ naks
    pub nak_count : h.transfer.nak_count ≤ b
    pub stages : Stages l b a h.transfer.stage d.stage h.transfer.awaited h.got h.transfer.kept h.transfer.strikes d.state

  -- they are in this one transfer; where no data go to the device, the host counts the bytes that it has
  pub record InOneTransfer (l b a : ℕ) (h : HostEnd) (d : DeviceView) : Type 0 where
    pub stand : AreInStages l b a h d
    pub counts : brings_bytes q ≡ false → HasCounted h

-- For any plan, any limit of NAKs, any data to the device, any answers to requests, and any packet size of the device.
module _ (plan : List Reply → Plan) (naks : ℕ) (sends : List Reply → List ℕ) (answer : State → SetupPacket → Outcome) (cut : ℕ) where
  -- both ends are in the one transfer that the plan asks for after these replies, begun at the device's address
  pub record AreTogether (used : List Fate) (replies : List Reply) (h : HostEnd) (d : DeviceView) : Type 0 where
    pub s : State
    pub packet : ℕ
    pub q : SetupPacket
    pub begins : plan replies ≡ Begin s.address packet q
    pub in_one : InOneTransfer answer cut s q packet naks (sends replies) (losses used) (busies used) (acks_lost used) h d

  -- whatever its fate, the next transaction brings the host nothing
  abbrev pub IsSilent : Attempt → Type 0
  IsSilent x = (sent : Sent) (fate : Fate) → due_in (sends x.replies) x.phase ≡ Some sent → (carried answer cut x.device sent fate).reply ≡ NoReply

  -- The ACK of the status stage of a SET_ADDRESS was lost, so the host takes it for done, and the device has stayed as it was.
  -- Every later transaction is silent.
  pub record AreApart (used : List Fate) (x : Attempt) : Type 0 where
    pub s : State
    pub packet : ℕ
    pub q : SetupPacket
    pub earlier : List Reply
    pub begins : plan earlier ≡ Begin s.address packet q
    pub is_address : is_set_address q ≡ true
    pub done : x.replies ≡ earlier ++ replied.Done ∷ []
    pub stays : x.device.state ≡ s
    pub lost : 0 < acks_lost used
    pub silent : (later : List Fate) → IsSilent (attempt_run plan naks sends answer cut later x)

  -- an attempt after these fates: while it goes on, both ends are together, or that ACK was lost
  abbrev pub StaysTogether : List Fate → Attempt → Type 0
  StaysTogether used x = (h : HostEnd) → x.phase ≡ Running h → AreTogether used x.replies h x.device ⊎ AreApart used x
