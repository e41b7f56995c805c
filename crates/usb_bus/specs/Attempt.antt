-- Transfers one after another, each by a plan of what the replies before it ask for, with no bus reset between.
use Rattle.std.specs.Prelude.{◌≡◌, ◌≢◌, ℕ, Bool, true, false, if◌then◌else◌, ◌==◌, List, [], ◌∷◌, ◌++◌, ◌<◌, ◌≤◌, ◌⊎◌, length, take}
use Rattle.usb_fields.specs.declared.setup.Setup.{Setup as SetupPacket}
use Rattle.usb_host.specs.declared.why.Why.{Why}
use Rattle.usb_host.specs.declared.why.Why.TheVariants.{Stalled, NoAnswer, Busy}
use Rattle.usb_host.specs.declared.transfer.TransferStage.{TransferStage}
use Rattle.usb_host.specs.declared.transfer.TransferStage.TheVariants.{Completed, Failed}
use Rattle.usb_host.specs.declared.reply.Reply.{Reply}
use Rattle.usb_host.specs.declared.reply.Reply.TheVariants as replied
use Rattle.usb_host.specs.Plan.{Plan, Begin, Success, GivesUp}
use Rattle.usb_host.specs.Transfer.{begun}
use Rattle.usb_device.specs.declared.state.State.{State}
use Rattle.usb_device.specs.Requests.{Outcome, Bytes, Done, Refused, Takes}
use Rattle.usb_device.specs.Step.{DeviceView, is_set_address, carried_out}
use Rattle.usb_device.specs.Beside.{brings_bytes}
use Rattle.usb_bus.specs.declared.fate.Fate.{Fate}
use Rattle.usb_bus.specs.Bus.{HostEnd, step_of, losses, busies, acks_lost}
use Rattle.usb_bus.specs.Beside.{IsAnswering, CutsAlike, SizesAlike}

-- Transfers one after another, each by a plan of what the replies before it ask for, with no bus reset between them.

-- a transfer that is under way, or the end
pub data Phase : Type 0 where
  Running : (host : HostEnd) → Phase
  Succeeded : Phase
  Broken : (why : Why) → Phase

-- transfers by a plan: the replies so far, what is under way, and the device
pub record Attempt : Type 0 where
  pub replies : List Reply
  pub phase : Phase
  pub device : DeviceView

-- the data that go with a request: none, or the wLength bytes that it brings to the device
abbrev pub AreDataOf : SetupPacket → List ℕ → Type 0
AreDataOf q bytes = (bytes ≡ []) ⊎ ((brings_bytes q ≡ true) × (length bytes ≡ q.length))

-- where no transfer has data to the device
abbrev pub no_data : List Reply → List ℕ
no_data replies = []

-- the reply where a device would take data: none were sent, which it stalls, or its owner judges them
abbrev pub judged_reply : (List ℕ → Bool) → List ℕ → Reply
judged_reply judge [] = replied.Refused
judged_reply judge bytes = if judge bytes then replied.Done else replied.Refused

-- an answer to a request, as a reply, where these are the data to the device
abbrev pub reply_to : List ℕ → Outcome → Reply
reply_to bytes (Bytes b) = replied.Bytes b
reply_to bytes (Done next) = replied.Done
reply_to bytes Refused = replied.Refused
reply_to bytes (Takes judge) = judged_reply judge bytes

-- the reply that a transfer that has completed brought, where `sent` bytes went to the device: bytes, unless all wLength
-- went there
abbrev pub reply_from : ℕ → HostEnd → Reply
reply_from sent h = if h.transfer.request.length == sent then replied.Done else replied.Bytes h.got

-- a transfer begins, its end with no bytes yet
abbrev pub begins : ℕ → ℕ → ℕ → SetupPacket → HostEnd
begins address packet naks q = record { transfer = begun address packet naks q; got = [] }

-- what a plan begins
abbrev pub phase_of : ℕ → Plan → Phase
phase_of naks (Begin address packet q) = Running (begins address packet naks q)
phase_of naks Success = Succeeded
phase_of naks (GivesUp why) = Broken why

-- whether a plan begins a SET_ADDRESS
abbrev pub is_moving : Plan → Bool
is_moving (Begin address packet q) = is_set_address q
is_moving plan = false

-- whether the last of a plan's transfers is a SET_ADDRESS: some replies came, and these are those to come
abbrev pub is_moved_last : (List Reply → Plan) → List Reply → List Reply → Bool
is_moved_last plan replies [] = false
is_moved_last plan replies (r ∷ []) = is_moving (plan replies)
is_moved_last plan replies (r ∷ next ∷ todo) = is_moved_last plan (replies ++ r ∷ []) (next ∷ todo)

-- For any plan, which says what comes next of the replies so far, and any limit of NAKs; and for the data to the device in the
-- transfer that comes next.
module _ (plan : List Reply → Plan) (naks : ℕ) where
  -- after these replies the plan goes on
  abbrev pub proceed : List Reply → DeviceView → Attempt
  proceed replies d = record { replies = replies; phase = phase_of naks (plan replies); device = d }

  -- After a transaction, by the stage: a transfer that completed or was stalled has its reply, and the plan goes on.
  abbrev pub advance : (List Reply → List ℕ) → List Reply → HostEnd → TransferStage → DeviceView → Attempt
  advance sends replies h Completed d = proceed (replies ++ reply_from (length (sends replies)) h ∷ []) d
  advance sends replies h (Failed Stalled) d = proceed (replies ++ replied.Refused ∷ []) d
  advance sends replies h (Failed why) d = record { replies = replies; phase = Broken why; device = d }
  advance sends replies h stage d = record { replies = replies; phase = Running h; device = d }

  module _ (sends : List Reply → List ℕ) (answer : State → SetupPacket → Outcome) (cut : ℕ) where
    -- one transaction of the transfer that is under way, and what it brings the plan to; after the end nothing moves
    abbrev pub attempt_step : Fate → List Reply → Phase → DeviceView → Attempt
    attempt_step fate replies (Running h) d =
        let e = step_of answer cut (sends replies) fate (record { host = h; device = d }) in
        advance sends replies e.host e.host.transfer.stage e.device
    attempt_step fate replies phase d = record { replies = replies; phase = phase; device = d }

    -- transactions under these fates
    abbrev pub attempt_run : List Fate → Attempt → Attempt
    attempt_run [] x = x
    attempt_run (f ∷ fates) x = attempt_run fates (attempt_step f x.replies x.phase x.device)

    -- a transfer of the plan, with its data, that the device answers with this reply, in packets that the host takes; SET_ADDRESS
    -- changes the address alone
    pub record IsPlanned (s : State) (replies : List Reply) (r : Reply) (packet : ℕ) (q : SetupPacket) : Type 0 where
      pub begins : plan replies ≡ Begin s.address packet q
      pub data_out : AreDataOf q (sends replies)
      pub answering : IsAnswering answer s q
      pub is_cut : (b : List ℕ) → answer s q ≡ Bytes b → CutsAlike cut packet q.length b
      pub sizes : (judge : List ℕ → Bool) → answer s q ≡ Takes judge → SizesAlike cut packet
      pub reply : reply_to (sends replies) (answer s q) ≡ r
      pub address : (next : State) → answer s q ≡ Done next → is_set_address q ≡ true → next ≡ record s { address = next.address }

    -- From these replies on, a device in state s answers what the plan asks for by those to come, one after another; then the
    -- plan succeeds, and the device is in the last state.
    abbrev pub Answers : State → List Reply → State → List Reply → Type 0
    Answers last replies s [] = (plan replies ≡ Success) × (s ≡ last)
    Answers last replies s (r ∷ todo) =
        (packet : ℕ) × (q : SetupPacket) × IsPlanned s replies r packet q × Answers last (replies ++ r ∷ []) (carried_out s (answer s q)) todo

-- What comes of transfers that have ended.

-- Of a write with these data wLength bytes came to its owner, who accepted them.
pub record IsAccepted (o : Outcome) (q : SetupPacket) (bytes : List ℕ) : Type 0 where
  pub judge : List ℕ → Bool
  pub answered : o ≡ Takes judge
  pub enough : q.length ≤ length bytes
  pub accepts : judge (take q.length bytes) ≡ true

-- Of a write, which its owner would take, the data were not wLength bytes, or these came to him and he refused them.
pub record IsDeclined (o : Outcome) (q : SetupPacket) (bytes : List ℕ) : Type 0 where
  pub judge : List ℕ → Bool
  pub answered : o ≡ Takes judge
  pub declines : (length bytes ≢ q.length) ⊎ (judge (take q.length bytes) ≡ false)

-- One transfer of request q, begun in state s, by its stage after l losses, b Busy and a lost ACKs; these were the data to the
-- device. Completed, it brought the answer, and the device is in the next state, or the ACK after which it takes its new address
-- was lost; or the data were accepted. Failed, it had three losses, or more busy transactions than the limit of NAKs, or it
-- was refused, or its data were. While it goes on there is nothing to say.
abbrev pub TransferEnds : (State → SetupPacket → Outcome) → State → SetupPacket → ℕ → List ℕ → ℕ → ℕ → ℕ → TransferStage → List ℕ → State → Type 0
TransferEnds answer s q naks bytes l b a Completed got d =
    ((answer s q ≡ Bytes got) × (d ≡ s))
    ⊎ ((next : State) × ((answer s q ≡ Done next) × ((d ≡ next) ⊎ ((d ≡ s) × (is_set_address q ≡ true) × (0 < a)))))
    ⊎ (IsAccepted (answer s q) q bytes × (d ≡ s))
TransferEnds answer s q naks bytes l b a (Failed NoAnswer) got d = 3 ≤ l
TransferEnds answer s q naks bytes l b a (Failed Busy) got d = naks < b
TransferEnds answer s q naks bytes l b a (Failed Stalled) got d = ((answer s q ≡ Refused) ⊎ IsDeclined (answer s q) q bytes) × (d ≡ s)
TransferEnds answer s q naks bytes l b a (Failed why) got d = ⊥
TransferEnds answer s q naks bytes l b a stage got d = Unit {0}

-- why transfers under these fates break off: no answer, after three losses or a lost ACK, or more busy transactions
-- than the limit of NAKs
abbrev pub IsCause : ℕ → List Fate → Why → Type 0
IsCause naks used NoAnswer = (3 ≤ losses used) ⊎ (0 < acks_lost used)
IsCause naks used Busy = naks < busies used
IsCause naks used why = ⊥

-- The state is the last one. Its address alone may differ, and only where the last transfer was a SET_ADDRESS and an ACK
-- was lost.
abbrev pub IsLast : List Fate → Bool → State → State → Type 0
IsLast used is_moved last s = (s ≡ last) ⊎ ((is_moved ≡ true) × (0 < acks_lost used) × (last ≡ record s { address = last.address }))

-- Transfers one after another, by what they came to under these fates, where the last of all is a SET_ADDRESS or not. A
-- success has all replies and left the device in the last state; one that broke off has the first replies, and a cause.
-- While they go on there is nothing to say.
abbrev pub AttemptEnds : ℕ → List Fate → Bool → List Reply → State → List Reply → Phase → State → Type 0
AttemptEnds naks used is_moved all last replies (Running host) s = Unit {0}
AttemptEnds naks used is_moved all last replies Succeeded s = (replies ≡ all) × IsLast used is_moved last s
AttemptEnds naks used is_moved all last replies (Broken why) s = (replies ≡ take (length replies) all) × IsCause naks used why
