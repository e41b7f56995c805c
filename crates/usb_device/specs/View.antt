-- What callers see of a device, whoever owns its description.
use Rattle.std.specs.Prelude.{ℕ, ◌*◌, ◌<◌, List, [], ◌∷◌, drop, Bool}
use Rattle.usb_fields.specs.Packets.{Sent, Reply, AckReply, NakReply, StallReply, DataReply, NoReply, packets}
use Rattle.usb_fields.specs.declared.packet.Toggle.TheVariants.{Data1}
use Rattle.usb_file_data.specs.declared.file.DescriptorFile.{DescriptorFile}
use Rattle.usb_device.specs.Descriptors.{Described}
use Rattle.usb_device.specs.Requests.{answer, answer_to}
use Rattle.usb_device.specs.Offers.{offer_in, packet_in}
use Rattle.usb_device.specs.Step.{DeviceStage, Sending, DeviceView, Served, served, acked}
use Rattle.usb_device.specs.declared.endpoint_zero.EndpointZero.{EndpointZero}
use Rattle.usb_device.specs.declared.stage.Reaction.{Reaction}
use Rattle.usb_device.specs.declared.stage.Reaction.TheVariants.{Ack, Nak, Stall, Packet, Empty, Silence}
use Rattle.usb_device.specs.Stages.{data_of, stage_at, stage_of, IsStage}

-- What callers see of a device.

-- a device: its description, which stays, and what changes
pub record View : Type 0 where
  pub description : Described
  pub device : DeviceView

-- a transaction with a device that has these descriptors: requests are answered by the table, in packets of
-- bMaxPacketSize0 (9.6.1)
abbrev pub served_by : DescriptorFile → DeviceView → Sent → Bool → Served
served_by f d sent ready = served (answer f) f.device.packet d sent ready

-- the host's ACK of its data packet
abbrev pub acked_by : DescriptorFile → DeviceView → DeviceView
acked_by f d = acked (answer f) f.device.packet d

-- the bytes of a data stage to the host that were acknowledged, in packets of this size
abbrev pub acknowledged : ℕ → DeviceStage → ℕ
acknowledged packet (Sending request bytes acked) = acked * packet
acknowledged packet stage = 0

-- What changes in a device, apart from its description. It is numbers, and each of its calls is lent the image that it
-- answers from, and the room that keeps bytes for it.

-- the stage that a device with this image and this room is in
abbrev pub stage_in : List ℕ → List ℕ → EndpointZero → DeviceStage
stage_in image room e = stage_of image room (data_of e) e.settled (stage_at e.stage)

-- what it is with them
abbrev pub device_of : List ℕ → List ℕ → EndpointZero → DeviceView
device_of image room e = record { state = e.state; stage = stage_in image room e; pending = e.pending }

-- it is that of a device with this image, whose packets have bytes, and with this room
abbrev pub IsOf : List ℕ → List ℕ → EndpointZero → Type 0
IsOf image room e = (0 < packet_in image) × IsStage image room (data_of e) (stage_at e.stage)

-- a transaction with a device that has this image, and the host's ACK of its data packet
abbrev pub served_over : List ℕ → DeviceView → Sent → Bool → Served
served_over image d sent ready = served (answer_to (offer_in image)) (packet_in image) d sent ready

abbrev pub acked_over : List ℕ → DeviceView → DeviceView
acked_over image d = acked (answer_to (offer_in image)) (packet_in image) d

-- the first of these packets, if there is one
abbrev pub first_packet : List (List ℕ) → List ℕ
first_packet [] = []
first_packet (p ∷ rest) = p

-- the bytes of the next packet, which in the status stage are none
abbrev pub packet_due : ℕ → DeviceStage → List ℕ
packet_due size (Sending q b k) = first_packet (drop k (packets b size q.length))
packet_due size stage = []

-- the reply, where these are the bytes of the next packet
abbrev pub reply_with : List ℕ → Reaction → Reply
reply_with bytes Ack = AckReply
reply_with bytes Nak = NakReply
reply_with bytes Stall = StallReply
reply_with bytes (Packet toggle) = DataReply toggle bytes
reply_with bytes Empty = DataReply Data1 []
reply_with bytes Silence = NoReply

-- the reply, where its bytes are those of the next packet
abbrev pub replied : List ℕ → List ℕ → EndpointZero → Reaction → Reply
replied image room e reaction = reply_with (packet_due (packet_in image) (stage_in image room e)) reaction

-- the device with what has changed
abbrev pub after : View → DeviceView → View
after v device = record v { device = device }
