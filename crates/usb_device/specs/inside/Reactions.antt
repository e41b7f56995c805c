-- Answers to transactions, as the code holds them: without the bytes.
use Rattle.std.specs.Prelude.{◌≡◌, Bool, true, false, [], ◌∷◌, ◌==◌, take, fold, slice_set, Option, None, Some, if◌then◌else◌, ℕ, List}
use Rattle.usb_fields.specs.declared.setup.Setup.{Setup}
use Rattle.usb_device.specs.FileImages.{image_of}
use Rattle.usb_device.specs.Offers.{offer_in, packet_in}
use Rattle.usb_device.specs.inside.Places.{bytes_at}
use Rattle.usb_device.specs.declared.piece.Place.{Place}
use Rattle.usb_device.specs.declared.request.Request.{Request}
use Rattle.usb_device.specs.declared.state.State.{State}
use Rattle.usb_device.specs.declared.stage.Change.{Change}
use Rattle.usb_device.specs.declared.stage.Change.TheVariants.{Address, Configuration, Wakeup, Halt, Alternate}
use Rattle.usb_device.specs.declared.stage.Stage.{Stage}
use Rattle.usb_device.specs.declared.stage.Stage.TheVariants as stages
use Rattle.usb_device.specs.declared.stage.Decision.{Decision}
use Rattle.usb_device.specs.declared.stage.Decision.TheVariants as decisions
use Rattle.usb_device.specs.States.{first_alternates, without_halt}
use Rattle.usb_device.specs.Requests.{Outcome, Bytes, Done, Refused, answer_to, changed_halts, get_descriptor, interface_addresses, selected_settings}
use Rattle.usb_device.specs.Step.{Served, served_in, served_out}
use Rattle.usb_fields.specs.declared.packet.Toggle.{Toggle}
use Rattle.usb_device.specs.declared.device.Device.TheInside.{Inside}
use Rattle.usb_device.specs.declared.endpoint_zero.EndpointZero.{EndpointZero}
use Rattle.usb_device.specs.View.{stage_in, device_of, IsOf, View}

-- Answers to requests, as the code holds them.

-- the state after a change
abbrev pub changed : List ℕ → State → Change → State
changed image s (Address address) = record s { address = address }
changed image s (Configuration value) = record s { selected = value; alternates = first_alternates; halts = 0 }
changed image s (Wakeup on) = record s { wakeup = on }
changed image s (Halt endpoint on) = record s { halts = changed_halts on s.halts endpoint }
changed image s (Alternate number alternate) =
    record s {
      alternates = slice_set s.alternates number alternate;
      halts = fold without_halt s.halts (interface_addresses (selected_settings (offer_in image) s) number);
    }

-- what GET_DESCRIPTOR answers by what it finds
abbrev pub found_outcome : List ℕ → State → Setup → Option Place → Outcome
found_outcome image s q None = Refused
found_outcome image s q (Some place) = if q.length == 0 then Done s else Bytes (take q.length (bytes_at image place))

-- what a decision says
abbrev pub outcome_of : List ℕ → State → Setup → Decision → Outcome
outcome_of image s q decisions.Descriptor = get_descriptor (offer_in image) s q
outcome_of image s q (decisions.Byte byte) = Bytes (byte ∷ [])
outcome_of image s q (decisions.Status byte) = Bytes (byte ∷ 0 ∷ [])
outcome_of image s q (decisions.Done change) = Done (changed image s change)
outcome_of image s q decisions.Refused = Refused

-- what is sent is there, and was asked for
abbrev pub IsAsked : List ℕ → Setup → Decision → Type 0
IsAsked image q decisions.Descriptor = Unit {0}
IsAsked image q (decisions.Byte byte) = q.length ≡ 1
IsAsked image q (decisions.Status byte) = q.length ≡ 2
IsAsked image q (decisions.Done change) = Unit {0}
IsAsked image q decisions.Refused = Unit {0}

-- what a decision to a request says
abbrev pub says : Request → Decision → Outcome
says r response = outcome_of r.image.bytes.now r.state.now r.setup response

-- what it sends is there, and was asked for
abbrev pub AsksFor : Request → Decision → Type 0
AsksFor r response = IsAsked r.image.bytes.now r.setup response

-- Endpoint zero and a device, as callers see them.

-- whether an IN at this stage is one of a data stage
abbrev pub is_sending : Stage → Bool
is_sending stages.Sending = true
is_sending stage = false

-- whether an OUT at this stage is, or repeats, the status stage of a request for bytes
abbrev pub has_status_out : Stage → Bool
has_status_out stages.Sending = true
has_status_out stages.StatusOut = true
has_status_out stages.Over = true
has_status_out stage = false

-- IN to a device with this image and this room, and OUT
abbrev pub sent_by : List ℕ → List ℕ → EndpointZero → Served
sent_by image room e = served_in (answer_to (offer_in image)) (packet_in image) e.state (stage_in image room e)

abbrev pub received_by : List ℕ → List ℕ → EndpointZero → Toggle → List ℕ → Served
received_by image room e toggle bytes =
    served_out (answer_to (offer_in image)) (packet_in image) e.state (stage_in image room e) toggle bytes

-- a device as callers see it
abbrev pub view_of : Inside → View
view_of d =
    record { description = d.description.now; device = device_of (image_of d.description.now.file) d.room d.endpoint_zero }

abbrev pub IsDevice : Inside → Type 0
IsDevice d = IsOf (image_of d.description.now.file) d.room d.endpoint_zero
