-- A talk: requests one after another, each sent to where the replies before it put the device, with its data.
use Rattle.std.specs.Prelude.{ℕ, ◌%◌, ◌==◌, ◌&&◌, Bool, false, if◌then◌else◌, List, [], ◌∷◌, ◌≡◌, ◌<◌, ◌≤◌, ◌↔◌, ◌++◌, IfSome, length, take, Option, Some, None}
use Rattle.usb_fields.specs.declared.setup.Setup.{Setup as SetupPacket}
use Rattle.usb_device.specs.declared.state.State.{State}
use Rattle.usb_device.specs.Requests.{Outcome, answer}
use Rattle.usb_device.specs.Beside.{brings_bytes}
use Rattle.usb_device.specs.Step.{is_set_address, carried_out, DeviceView, new_device}
use Rattle.usb_host.specs.declared.reply.Reply.{Reply}
use Rattle.usb_host.specs.declared.reply.Reply.TheVariants as replied
use Rattle.usb_host.specs.Plan.{Plan, Begin, Success}
use Rattle.usb_bus.specs.Attempt.{reply_to, Phase, Succeeded, Broken, Attempt, phase_of, proceed, IsCause, IsLast}
use Rattle.usb_file_data.specs.declared.file.DescriptorFile.{DescriptorFile}
use Rattle.usb_host.specs.declared.why.Why.{Why}
use Rattle.usb_device.specs.States.{zero}
use Rattle.usb_bus.specs.declared.fate.Fate.{Fate}
use Rattle.usb_bus.specs.declared.conversation.Talk.{Talk}
use Rattle.usb_bus.specs.declared.asked.Asked.{Asked}
use Rattle.usb_bus.specs.Bus.{losses, busies, acks_lost}
use Rattle.usb_bus.specs.Run.{Steps, fates_used}

-- a request, and the data to the device that its caller has for it
pub record AskedView : Type 0 where
  pub setup : SetupPacket
  pub data_out : List ℕ

-- the same of a request of the code
abbrev pub asked_of : Asked → AskedView
asked_of a = record { setup = a.setup; data_out = a.«data».now }

-- one with none
abbrev pub without_data : SetupPacket → AskedView
without_data q = record { setup = q; data_out = [] }

-- The data that are sent with it: those that are the wLength bytes that it brings to the device, and no others.
abbrev pub data_sent : AskedView → List ℕ
data_sent a = if brings_bytes a.setup && (length a.data_out == a.setup.length) then a.data_out else []

-- the requests that are left, and the address that the next one goes to
pub record Place : Type 0 where
  pub left : List AskedView
  pub address : ℕ

-- whether the last request is a SET_ADDRESS
abbrev pub ends_with_address : List AskedView → Bool
ends_with_address [] = false
ends_with_address (a ∷ []) = is_set_address a.setup
ends_with_address (a ∷ b ∷ rest) = ends_with_address (b ∷ rest)

-- a SET_ADDRESS that was done, which has no data stage (9.4.6), is followed to the low 7 bits of its wValue
abbrev pub followed : SetupPacket → Reply → ℕ → ℕ
followed q replied.Done address = if is_set_address q && (q.length == 0) then q.value % 128 else address
followed q reply address = address

-- past the first request, which has this reply
abbrev pub onward : List AskedView → ℕ → Reply → Place
onward [] address r = record { left = []; address = address }
onward (a ∷ rest) address r = record { left = rest; address = followed a.setup r address }

-- past the requests that have these replies
abbrev pub reached : Place → List Reply → Place
reached p [] = p
reached p (r ∷ rs) = reached (onward p.left p.address r) rs

-- the transfer of the first request that is left, to this address, or the end
abbrev pub asked_at : ℕ → ℕ → List AskedView → Plan
asked_at packet address [] = Success
asked_at packet address (a ∷ rest) = Begin address packet a.setup

-- and its data
abbrev pub sent_at : List AskedView → List ℕ
sent_at [] = []
sent_at (a ∷ rest) = data_sent a

-- the plan of a talk, from a place on, at this packet size
abbrev pub talk_plan : ℕ → Place → List Reply → Plan
talk_plan packet start replies = let p = reached start replies in asked_at packet p.address p.left

-- and the data of each transfer
abbrev pub talk_data : Place → List Reply → List ℕ
talk_data start replies = sent_at (reached start replies).left

module _ (answer : State → SetupPacket → Outcome) where
  -- the replies where each request is answered in turn, each answer giving the next state
  abbrev pub replies_to : State → List AskedView → List Reply
  replies_to s [] = []
  replies_to s (a ∷ rest) = reply_to (data_sent a) (answer s a.setup) ∷ replies_to (carried_out s (answer s a.setup)) rest

  -- and the last state
  abbrev pub state_after : State → List AskedView → State
  state_after s [] = s
  state_after s (a ∷ rest) = state_after (carried_out s (answer s a.setup)) rest

-- What a talk with a device promises.

-- the requests, the first of which goes to address 0
abbrev pub first_place : List AskedView → Place
first_place requests = record { left = requests; address = 0 }

-- a talk begins with a new device
abbrev pub talk_start : ℕ → ℕ → List AskedView → Attempt
talk_start packet naks requests = proceed (talk_plan packet (first_place requests)) naks [] new_device

-- how a talk ends
abbrev pub end_of : Option Why → Phase
end_of None = Succeeded
end_of (Some why) = Broken why

-- The talk is a run of both ends: a list of points, each a pair of views, from the start on. Each is one transaction after
-- the one before, under the fates in their order. They are as many as the talk says, and the last has its replies, its
-- end and its state.
abbrev pub IsTalkRun : DescriptorFile → ℕ → List AskedView → List Fate → Talk → Type 0
IsTalkRun f naks requests fates talk =
    (points : List Attempt) × (last : Attempt) × (length points ≡ talk.transactions)
    × Steps (talk_plan f.device.packet (first_place requests)) naks (talk_data (first_place requests)) (answer f) f.device.packet fates 0
    (talk_start f.device.packet naks requests) points last
    × (last.replies ≡ talk.replies) × (last.phase ≡ end_of talk.stopped) × (last.device.state ≡ talk.state)

-- a talk that goes on: a device with these descriptors, and the address that the next request goes to
pub record TalkView : Type 0 where
  pub file : DescriptorFile
  pub naks : ℕ
  pub address : ℕ
  pub talk : Talk
  pub device : DeviceView

-- where a talk stands that asks for more: the next transfer begins, or the talk has ended
abbrev pub standing : TalkView → Option Why → List AskedView → Phase
standing v None more = phase_of v.naks (asked_at v.file.device.packet v.address more)
standing v (Some why) more = Broken why

-- Of a talk of all these requests, all but the last ones, which are yet to come, were made. It is a run of both ends, as
-- that of a whole talk is, up to where the next request begins.
pub record IsTalkTo (fates : List Fate) (v : TalkView) (requests more : List AskedView) : Type 0 where
  pub points : List Attempt
  pub count : length points ≡ v.talk.transactions
  pub steps : Steps (talk_plan v.file.device.packet (first_place requests)) v.naks (talk_data (first_place requests)) (answer v.file) v.file.device.packet fates 0
      (talk_start v.file.device.packet v.naks requests) points
      (record { replies = v.talk.replies; phase = standing v v.talk.stopped more; device = v.device })
  pub place : v.talk.stopped ≡ None → reached (first_place requests) v.talk.replies ≡ record { left = more; address = v.address }

-- This is the talk of these requests so far, whatever is asked after them. Each has its reply, up to where it stopped.
pub record IsTalk (requests : List AskedView) (fates : List Fate) (v : TalkView) : Type 0 where
  pub goes_on : (more : List AskedView) → IsTalkTo fates v (requests ++ more) more
  pub state : v.device.state ≡ v.talk.state
  pub most : length v.talk.replies ≤ length requests
  pub all : (v.talk.stopped ≡ None) ↔ (length v.talk.replies ≡ length requests)

-- the replies are the first ones that the table gives to the requests one after another
abbrev pub HasFirstReplies : DescriptorFile → List AskedView → Talk → Type 0
HasFirstReplies f requests talk = talk.replies ≡ take (length talk.replies) (replies_to (answer f) zero requests)

-- The state is the last one that the table gives. Its address alone may differ, and only where the last request was a
-- SET_ADDRESS and an ACK was lost.
abbrev pub HasLastState : DescriptorFile → List AskedView → List Fate → Talk → Type 0
HasLastState f requests fates talk = IsLast (fates_used fates talk.transactions) (ends_with_address requests) (state_after (answer f) zero requests) talk.state

-- What a talk of these requests comes to. Its replies are those of the device's table, up to where it stopped, and so is its
-- state; it stops for a cause, and not without one.
pub record IsWholeTalk (f : DescriptorFile) (naks : ℕ) (requests : List AskedView) (fates : List Fate) (talk : Talk) : Type 0 where
  pub run : IsTalkRun f naks requests fates talk
  pub replies : HasFirstReplies f requests talk
  pub all : (talk.stopped ≡ None) ↔ (length talk.replies ≡ length requests)
  pub state : talk.stopped ≡ None → HasLastState f requests fates talk
  pub cause : IfSome talk.stopped (IsCause naks (fates_used fates talk.transactions))
  pub goes_on : losses fates < 3 → acks_lost fates ≡ 0 → busies fates ≤ naks → talk.stopped ≡ None
