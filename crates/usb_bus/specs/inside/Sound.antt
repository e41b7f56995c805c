-- What holds of transfers by a plan after each transaction.
use Rattle.std.specs.Prelude.{◌≡◌, ℕ, ◌+◌, ◌<◌, ◌≤◌, ◌⊎◌, List, [], ◌∷◌, length, ◌≢◌, Bool, true, ◌++◌}
use Rattle.usb_fields.specs.Packets.{packets, joined}
use Rattle.usb_fields.specs.declared.setup.Setup.{Setup as SetupPacket}
use Rattle.usb_host.specs.declared.why.Why.TheVariants.{NoAnswer, Busy, Stalled, TooLong, Unexpected, Malformed, Memory}
use Rattle.usb_host.specs.declared.transfer.TransferStage.TheVariants.{Setup}
use Rattle.usb_host.specs.declared.reply.Reply.{Reply}
use Rattle.usb_host.specs.declared.reply.Reply.TheVariants as replied
use Rattle.usb_host.specs.Plan.{Plan, Begin, Success}
use Rattle.usb_device.specs.declared.state.State.{State}
use Rattle.usb_device.specs.Requests.{Outcome}
use Rattle.usb_device.specs.Step.{DeviceView, is_set_address, carried_out}
use Rattle.usb_bus.specs.declared.fate.Fate.{Fate}
use Rattle.usb_bus.specs.Bus.{losses, busies, acks_lost, HostEnd}
use Rattle.usb_bus.specs.Attempt.{Phase, Running, Succeeded, Broken, IsPlanned, proceed, attempt_run}
use Rattle.usb_bus.specs.Together.{InOneTransfer}

-- The packets of an answer, and where the host ends the data stage.

-- The packets that are still to come, where `came` of `limit` bytes came: each but the last is whole and leaves bytes
-- due, and the last one ends the data stage.
abbrev pub Due : ℕ → ℕ → ℕ → List (List ℕ) → Type 0
Due size limit came [] = ⊥
Due size limit came (p ∷ []) = (length p ≤ size) × (came + length p ≤ limit) × ((length p < size) ⊎ (came + length p ≡ limit))
Due size limit came (p ∷ (r ∷ rest)) = (length p ≡ size) × (came + length p < limit) × Due size limit (came + length p) (r ∷ rest)

-- the packets that the device cuts, by its packet size, are those that the host expects, by the size that it knows
pub record IsCut (cut size limit : ℕ) (b : List ℕ) : Type 0 where
  pub due : Due size limit 0 (packets b cut limit)
  pub joins : joined (packets b cut limit) ≡ b

-- for any plan, limit of NAKs, data to the device, answers to requests and packet size of the device
module _ (plan : List Reply → Plan) (naks : ℕ) (sends : List Reply → List ℕ) (answer : State → SetupPacket → Outcome) (cut : ℕ) where
  -- From these replies on the plan is answered by `todo` and then succeeds, with all replies and the device's last
  -- state. `loose` says that the last transfer may be a SET_ADDRESS.
  abbrev pub Follows : Bool → List Reply → State → State → List Reply → List Reply → Type 0
  Follows loose all last s replies [] = (plan replies ≡ Success) × (s ≡ last) × (replies ≡ all)
  Follows loose all last s replies (r ∷ todo) =
      (packet : ℕ) × ((q : SetupPacket) × (IsPlanned plan naks sends answer cut s replies r packet q × (replies ++ (r ∷ todo) ≡ all) ×
      (is_set_address q ≡ true → todo ≡ [] → loose ≡ true) × Follows loose all last (carried_out s (answer s q)) (replies ++ r ∷ []) todo))

  -- both ends together in a transfer of the plan
  pub record TogetherOn (loose : Bool) (all : List Reply) (last : State) (l b a : ℕ) (replies : List Reply) (h : HostEnd) (d : DeviceView) : Type 0 where
    pub s : State
    pub r : Reply
    pub todo : List Reply
    pub packet : ℕ
    pub q : SetupPacket
    pub planned : IsPlanned plan naks sends answer cut s replies r packet q
    pub front : replies ++ (r ∷ todo) ≡ all
    pub ends : is_set_address q ≡ true → todo ≡ [] → loose ≡ true
    pub follows : Follows loose all last (carried_out s (answer s q)) (replies ++ r ∷ []) todo
    pub in_one : InOneTransfer answer cut s q packet naks (sends replies) l b a h d

  -- the last reply is that of a SET_ADDRESS, and the device has stayed as it was
  pub record HasMoved (replies : List Reply) (d : DeviceView) : Type 0 where
    pub s : State
    pub packet : ℕ
    pub q : SetupPacket
    pub earlier : List Reply
    pub begins : plan earlier ≡ Begin s.address packet q
    pub is_address : is_set_address q ≡ true
    pub done : replies ≡ earlier ++ replied.Done ∷ []
    pub stays : d.state ≡ s

  -- the ACK of a SET_ADDRESS was lost: nothing at the host's address answers
  pub record ApartOn (all : List Reply) (a : ℕ) (replies : List Reply) (h : HostEnd) (d : DeviceView) : Type 0 where
    pub asks : h.transfer.stage ≡ Setup
    pub elsewhere : h.transfer.address ≢ d.state.address
    pub moved : HasMoved replies d
    pub cost : 0 < a
    pub todo : List Reply
    pub front : replies ++ todo ≡ all

  -- What holds after l losses, a of them of ACKs, and b Busy. A plan that succeeds has all replies, and left the device
  -- in the last state; its address alone may differ, where an ACK was lost. One that breaks does so for a cause.
  abbrev pub Sound : Bool → List Reply → State → ℕ → ℕ → ℕ → List Reply → Phase → DeviceView → Type 0
  Sound loose all last l b a replies (Running h) d = TogetherOn loose all last l b a replies h d ⊎ ApartOn all a replies h d
  Sound loose all last l b a replies Succeeded d =
      (replies ≡ all) × ((d.state ≡ last) ⊎ ((0 < a) × (loose ≡ true) × (last ≡ record d.state { address = last.address })))
  Sound loose all last l b a replies (Broken NoAnswer) d = ((3 ≤ l) ⊎ (0 < a)) × ((todo : List Reply) × (replies ++ todo ≡ all))
  Sound loose all last l b a replies (Broken Busy) d = (naks < b) × ((todo : List Reply) × (replies ++ todo ≡ all))
  Sound loose all last l b a replies (Broken Stalled) d = ⊥
  Sound loose all last l b a replies (Broken TooLong) d = ⊥
  Sound loose all last l b a replies (Broken Unexpected) d = ⊥
  Sound loose all last l b a replies (Broken Malformed) d = ⊥
  Sound loose all last l b a replies (Broken Memory) d = ⊥

-- Where each transfer of a plan is answered as expected, an attempt is sound over every list of fates.
abbrev pub AttemptsAreSound : Type 0
AttemptsAreSound =
    (plan : List Reply → Plan) (naks : ℕ) (sends : List Reply → List ℕ) (answer : State → SetupPacket → Outcome) (cut : ℕ) (loose : Bool) (all : List Reply) (last : State)
    (d : DeviceView) (fates : List Fate) → Follows plan naks sends answer cut loose all last d.state [] all →
    (let x = attempt_run plan naks sends answer cut fates (proceed plan naks [] d) in
    Sound plan naks sends answer cut loose all last (losses fates) (busies fates) (acks_lost fates) x.replies x.phase x.device)
