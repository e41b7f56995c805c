-- Control transfers of default control pipes (USB 2.0, 5.5, 8.5.3 and 9.3), from what the frames of a host say of them.
use Rattle.std.specs.Prelude.{◌≡◌, ℕ, suc, ◌+◌, ◌%◌, ◌==◌, ◌&&◌, ◌||◌, Bool, true, false, List, [], ◌∷◌, ◌++◌, min, Option, Some, None, if◌then◌else◌}
use Rattle.std.specs.Option.{option_map, option_to_list}
use Rattle.usb_fields.specs.declared.setup.Setup.{Setup}
use Rattle.usb_set.specs.declared.endpoint.TransferType.{TransferType}
use Rattle.usb_set.specs.declared.endpoint.TransferType.TheVariants.{Control, Isochronous, Bulk, Interrupt}
use Rattle.usb_capture.specs.declared.control_transfer.ControlTransfer.{ControlTransfer}
use Rattle.usb_capture.specs.declared.control_transfers.ControlTransfers.{ControlTransfers}
use Rattle.usb_capture.specs.declared.ending.Ending.{Ending}
use Rattle.usb_capture.specs.declared.ending.Ending.TheVariants.{Unseen, Done, Stall, Failed, Refused}
use Rattle.usb_capture.specs.declared.event.Event.{Event}
use Rattle.usb_capture.specs.declared.event.EventKind.{EventKind}
use Rattle.usb_capture.specs.declared.event.EventKind.TheVariants.{Submission, Completion, Refusal}
use Rattle.usb_capture.specs.declared.event.System.{System}
use Rattle.usb_capture.specs.declared.event.System.TheVariants.{Linux, Windows}
use Rattle.usb_capture.specs.declared.open_transfer.OpenTransfer.{OpenTransfer}

-- endpoint zero is a device's default control pipe (5.3.1.1)
abbrev pub is_control : TransferType → Bool
is_control Control = true
is_control Isochronous = false
is_control Bulk = false
is_control Interrupt = false

abbrev pub is_of_default_pipe : Event → Bool
is_of_default_pipe event = is_control event.transfer && event.endpoint % 128 == 0

-- what has ended, as Linux and Windows number it: 0 is success, -32 (EPIPE) and C0000004 (USBD_STATUS_STALL_PID) a STALL
abbrev pub stall_of : System → ℕ
stall_of Linux = 0xffffffe0
stall_of Windows = 0xc0000004

abbrev pub ending_by : EventKind → System → ℕ → Ending
ending_by Refusal system status = Refused status
ending_by Completion system status = if status == 0 then Done else if status == stall_of system then Stall else Failed status
ending_by Submission system status = Unseen

abbrev pub ending_of : Event → Ending
ending_of event = ending_by event.kind event.system event.status

-- The stages of a transfer. The setup stage brings the setup packet, and each stage the data that its frame has. How many
-- bytes there were is what Linux says at last, or what Windows says in all.
abbrev pub length_after : System → ℕ → ℕ → ℕ
length_after Linux before said = said
length_after Windows before said = min (before + said) 4294967295

abbrev pub begun : Event → Setup → ControlTransfer
begun event setup = record {
  bus = event.bus;
  device = event.device;
  begun = event.time;
  setup = setup;
  «data» = event.data.now;
  length = event.length;
  is_cut = event.is_cut;
  ended = None;
  ending = Unseen;
}

abbrev pub gone_on : Event → ControlTransfer → ControlTransfer
gone_on event transfer = record transfer {
  «data» = transfer.data ++ event.data.now;
  length = length_after event.system transfer.length event.length;
  is_cut = transfer.is_cut || event.is_cut;
}

abbrev pub ended : Event → ControlTransfer → ControlTransfer
ended event transfer = record (gone_on event transfer) {
  ended = event.time;
  ending = ending_of event;
}

-- Those that are open, each with what its frames have in common: the first with this, and the others.
unfoldable pub open_with : ℕ → List OpenTransfer → Option ControlTransfer
open_with id [] = None
open_with id (one ∷ opens) = if one.id == id then Some one.transfer else open_with id opens

unfoldable pub without : ℕ → List OpenTransfer → List OpenTransfer
without id [] = []
without id (one ∷ opens) = if one.id == id then opens else one ∷ without id opens

unfoldable pub place_with : ℕ → List OpenTransfer → ℕ
place_with id [] = 0
place_with id (one ∷ opens) = if one.id == id then 0 else suc (place_with id opens)

-- one more at their end
abbrev pub opened : ℕ → ControlTransfer → OpenTransfer
opened id transfer = record { id = id; transfer = transfer }

-- what is open after an event, and which transfer is over: one whose end is seen, or one whose setup packet is given again
pub record Seen : Type 0 where
  pub held : List OpenTransfer
  pub over : Option ControlTransfer

abbrev pub seen_by : Bool → Option Setup → Bool → Event → List OpenTransfer → Seen
seen_by false setup ends event opens = record { held = opens; over = None }
seen_by true (Some setup) ends event opens = record {
  held = without event.id opens ++ opened event.id (begun event setup) ∷ [];
  over = open_with event.id opens;
}
seen_by true None true event opens = record { held = without event.id opens; over = option_map (ended event) (open_with event.id opens) }
seen_by true None false event opens = record {
  held = without event.id opens ++ option_to_list (option_map (λ transfer. opened event.id (gone_on event transfer)) (open_with event.id opens));
  over = None;
}

abbrev pub seen : Event → List OpenTransfer → Seen
seen event opens = seen_by (is_of_default_pipe event) event.setup event.ends event opens

-- what is open after a list of events, and which transfers are over, in order
abbrev pub open_after : List OpenTransfer → List Event → List OpenTransfer
open_after opens [] = opens
open_after opens (event ∷ events) = open_after (seen event opens).held events

abbrev pub over_in : List OpenTransfer → List Event → List ControlTransfer
over_in opens [] = []
over_in opens (event ∷ events) = option_to_list (seen event opens).over ++ over_in (seen event opens).held events

-- who has taken these events and given these transfers
abbrev pub HasTaken : List Event → List ControlTransfer → ControlTransfers → Type 0
HasTaken events transfers open_ones = (open_ones.held.items ≡ open_after [] events) × (transfers ≡ over_in [] events)
